-- A state of the example stands in its heap.
use Rattle.std.proofs.Common.{◌≡◌, ℕ, zero, suc, [], ◌∷◌, refl, sym, subst, ◌∙◌, T}
use Rattle.std.specs.Prelude.{pos, Some, IsSomeAnd, slice_get}
use Rattle.std.specs.FinMap.{empty, get-empty}
use Rattle.std.specs.Ordering.{nat_cmp}
use Rattle.nr_linked.specs.BuiltIns.{built_in_class}
use Rattle.nr_linked.specs.BuiltInTables.{built_in_infos, built_in_info}
use Rattle.nr_linked.specs.Kinds.{class_kind}
use Rattle.nr_linked.specs.Subtypes.{is_assignable}
use Rattle.nr_linked.specs.WellTyped.{WellTyped}
use Rattle.nr_model.specs.declared.value.Value.TheVariants.{Ref}
use Rattle.nr_model.specs.Heaps.{Obj, Heap}
use Rattle.nr_model.specs.Scripts.{Plain, PlainInt, plain}
use Rattle.nr_model.specs.Types.{argument_tys}
use Rattle.nr_model.specs.Belonging.{Belongs, Belong, no_place, one_place}
use Rattle.nr_model.specs.TypedHeaps.{Counts, slot_ty, TypedHeap}
use Rattle.nr_model.proofs.Heaps.{get_same}
use Rattle.nr_model.proofs.Paths.{none_some, some_eq}
use Rattle.nr_typed.specs.Standing.{StandsIn}
use Rattle.nr_typed.specs.Example.{example, base_m, int_kind, object, one_object, m_start}
use Rattle.nr_typed.proofs.Typed.{typed_make}
use Rattle.nr_typed.proofs.Progress.{first_state_stands}
use Rattle.nr_typed.proofs.ExampleLinked.{example_facts}

nothing_typed : TypedHeap example empty
nothing_typed = record {
  count = λ a o e. absurd (none_some (sym (get-empty nat_cmp a) ∙ e));
  slots = λ a o e. absurd (none_some (sym (get-empty nat_cmp a) ∙ e));
}

can_be_made : Counts example (class_kind 1) 1
unfolding example built_in_infos built_in_info built_in_class
can_be_made = record { makeable = tt; count = refl }

slot_belongs : (h : Heap) (i : ℕ) (p : Plain) → slice_get (PlainInt (pos 7) ∷ []) i ≡ Some p → Belongs example h (slot_ty example (class_kind 1) i) (plain p)
unfolding example built_in_infos built_in_info built_in_class
slot_belongs h zero p e = subst (λ p. Belongs example h (slot_ty example (class_kind 1) zero) (plain p)) (some_eq e) tt
slot_belongs h (suc i) p e = absurd (none_some e)

heap_typed : TypedHeap example one_object
heap_typed = typed_make example empty 1 (class_kind 1) (PlainInt (pos 7) ∷ []) nothing_typed (get-empty nat_cmp 1) can_be_made slot_belongs

receiver : T (is_assignable example object.kind (class_kind 0))
unfolding example built_in_infos built_in_info built_in_class
receiver = tt

arguments_belong : Belong example one_object (argument_tys base_m) (Ref 1 ∷ [])
arguments_belong = one_place (subst (λ o. IsSomeAnd o (λ (o : Obj). T (is_assignable example o.kind (class_kind 0)))) (sym (get_same empty 1 object)) receiver) no_place

pub example_stands : (typed : WellTyped example) → StandsIn example typed.frames (Some int_kind) m_start
unfolding example
example_stands typed = first_state_stands example example_facts typed (Some int_kind) one_object heap_typed 1 base_m _ refl refl refl (Ref 1 ∷ []) arguments_belong []
