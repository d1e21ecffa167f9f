-- The start of a run: its heap is typed, and its argument is one of `main`.
use Rattle.std.proofs.Common.{◌≡◌, ℕ, zero, suc, List, [], ◌∷◌, ◌++◌, map, sym, ap, ap₂, subst, ◌∙◌}
use Rattle.std.specs.Prelude.{Some, None, IsSome, IsSomeAnd, ℤ, T, length, reverse, slice_get, if◌then◌else◌}
use Rattle.std.specs.Option.{option_and_then}
use Rattle.std.specs.FinMap.{empty, get, insert, get-empty}
use Rattle.std.specs.Ordering.{nat_cmp}
use Rattle.std.proofs.Math.Decide.{ℕ_discrete}
use Rattle.nr_linked.specs.declared.program.tables.MethodInfo.{MethodInfo}
use Rattle.nr_linked.specs.declared.program.tables.ProgramTables.{ProgramTables}
use Rattle.nr_linked.specs.Linked.{Linked}
use Rattle.nr_linked.specs.Programs.{method_at, result_of}
use Rattle.nr_linked.specs.Kinds.{array_of, class_kind}
use Rattle.nr_linked.specs.Subtypes.{is_assignable}
use Rattle.nr_model.specs.declared.value.Value.{Value}
use Rattle.nr_model.specs.declared.value.Value.TheVariants.{Int, Ref}
use Rattle.nr_model.specs.Belonging.{Belong, Belongs, no_place, one_place}
use Rattle.nr_model.specs.Heaps.{Heap, Obj}
use Rattle.nr_model.specs.TypedHeaps.{Counts, TypedHeap, slot_ty}
use Rattle.nr_model.specs.Types.{Nullable, Object, argument_tys, kind_tys}
use Rattle.nr_model.proofs.Heaps.{get_same, get_other}
use Rattle.nr_run.specs.Runs.{IsMain, int_array, int_kind}
use Rattle.nr_run.proofs.Descs.{main_kinds}

abbrev pub lone : ℕ → List ℤ → Heap
lone a ints = insert empty a (int_array ints)

some_eq : {X : Type 0} {x y : X} → Some x ≡ Some y → x ≡ y
some_eq e = cc

some_none : {X : Type 0} {x : X} → Some x ≡ None → ⊥
some_none e = cc

-- the heap has nothing else
pub lone_is : (a x : ℕ) (ints : List ℤ) (o : Obj) → get (lone a ints) x ≡ Some o → o ≡ int_array ints
lone_is a x ints o e = go (ℕ_discrete x a)
  where
    go : Dec (x ≡ a) → o ≡ int_array ints
    go (yes f) = some_eq (sym e ∙ ap (get (lone a ints)) f ∙ get_same empty a (int_array ints))
    go (no n) = absurd (some_none (sym e ∙ get_other empty a x (int_array ints) n ∙ get-empty nat_cmp x))

slot_int : (ints : List ℤ) (i : ℕ) (v : Value) → slice_get (map Int ints) i ≡ Some v → (n : ℤ) × (v ≡ Int n)
slot_int [] i v e = absurd (some_none (sym e))
slot_int (n ∷ ns) zero v e = (n, sym (some_eq e))
slot_int (n ∷ ns) (suc i) v e = slot_int ns i v e

module _ (P : ProgramTables) (a : ℕ) (ints : List ℤ) where
  slot_belongs : (i : ℕ) (v : Value) → slice_get (map Int ints) i ≡ Some v → Belongs P (lone a ints) (slot_ty P (array_of int_kind) i) v
  slot_belongs i v e = let s = slot_int ints i v e in subst (Belongs P (lone a ints) (slot_ty P (array_of int_kind) i)) (sym s.1) tt

  pub lone_typed : TypedHeap P (lone a ints)
  lone_typed = record {
    count = λ x o e. subst (λ (o : Obj). Counts P o.kind (length o.slots)) (sym (lone_is a x ints o e)) tt;
    slots = λ x o e i v s.
        let is = lone_is a x ints o e in
        subst (λ (o : Obj). Belongs P (lone a ints) (slot_ty P o.kind i) v) (sym is)
        (slot_belongs i v (subst (λ (o : Obj). slice_get o.slots i ≡ Some v) is s));
  }

  argument : Belongs P (lone a ints) (Nullable (array_of int_kind)) (Ref a)
  argument = subst (λ o. IsSomeAnd o (λ o. T (is_assignable P o.kind (array_of int_kind)))) (sym (get_same empty a (int_array ints))) tt

  module _ (linked : Linked P) (m : ℕ) (main : IsMain P m) where
    kinds : (main.info.params ≡ array_of int_kind ∷ []) × (main.info.result ≡ Some int_kind)
    kinds = main_kinds P main.info.params main.info.result (sym (linked.methods m main.info main.is_info).desc ∙ main.desc)

    tys : argument_tys main.info ≡ Nullable (array_of int_kind) ∷ []
    tys = ap₂ (λ ks b. kind_tys (reverse ks) ++ (if b then [] else Object (class_kind main.info.«class») ∷ [])) kinds.0 main.static

    pub can_call : IsSomeAnd (method_at P m) (λ i. IsSome i.body × Belong P (lone a ints) (argument_tys i) (reverse (Ref a ∷ [])))
    can_call = subst (λ o. IsSomeAnd o (λ i. IsSome i.body × Belong P (lone a ints) (argument_tys i) (Ref a ∷ []))) (sym main.is_info)
        (main.code, subst (λ ts. Belong P (lone a ints) ts (Ref a ∷ [])) (sym tys) (one_place argument no_place))

    pub gives_int : result_of P m ≡ Some int_kind
    gives_int = ap (option_and_then (λ (i : MethodInfo). i.result)) main.is_info ∙ kinds.1
