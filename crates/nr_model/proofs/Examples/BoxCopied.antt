-- The copies of the worked call, and its local run.
use Rattle.std.proofs.Common.{◌≡◌, ◌≢◌, ℕ, ◌⊎◌, List, [], ◌∷◌, refl, sym, ap, ap₂, subst, subst₂, ◌∙◌, arith, inl, inr}
use Rattle.std.specs.Prelude.{Option, Some, None, IsSomeAnd, IsTrue, take}
use Rattle.std.specs.Option.{option_map}
use Rattle.std.specs.Ordering.{nat_cmp}
use Rattle.std.specs.FinMap.{FinMap, get, from_entries, get-from_entries, find}
use Rattle.std.proofs.lemmas.Cmp.{nat_cmp_total}
use Rattle.nr_linked.specs.BuiltIns.{built_in_class}
use Rattle.nr_linked.specs.BuiltInTables.{built_in_infos, built_in_info, built_in_methods, built_in_method}
use Rattle.nr_linked.specs.Restorable.{is_restorable}
use Rattle.nr_model.specs.declared.value.Value.TheVariants.{Ref}
use Rattle.nr_model.specs.Heaps.{Obj, on_some}
use Rattle.nr_model.specs.States.{Returned}
use Rattle.nr_model.specs.Steps.{Run}
use Rattle.nr_model.specs.Pairs.{leads, Reach, Holds}
use Rattle.nr_model.specs.Locals.{RestorableRoot, IsShared, copy_of, copied_object, CopyArgs, Local}
use Rattle.nr_model.specs.Example.{example, rows, box, before, copied, left, other_before, other_left, heap, args, copied_args, other_args, start, end_with}
use Rattle.nr_model.proofs.Copies.{IsKey, found_key, some_there}
use Rattle.nr_model.proofs.Paths.{none_some, some_eq}
use Rattle.nr_model.proofs.ListedHeaps.{each_key, at, there, each_name, same_heaps, slots_at, EachRef, each_ref, leads_is, stays_among}
use Rattle.nr_model.proofs.Examples.Machine.{held}
use Rattle.nr_model.proofs.Examples.BoxRun.{box_written, whole}

-- ---- the map of copies

abbrev list : List (ℕ × ℕ)
list = (4, 6) ∷ []

abbrev copies : FinMap nat_cmp ℕ
copies = from_entries list

copy_at : (x : ℕ) → get copies x ≡ find nat_cmp x list
copy_at x = get-from_entries nat_cmp_total list x

copy_is : (x : ℕ) → copy_of copies x ≡ on_some (find nat_cmp x list) x (λ z. z)
copy_is x = ap (λ o. on_some o x (λ z. z)) (copy_at x)

only : (x z : ℕ) → get copies x ≡ Some z → (x ≡ 4) × (z ≡ 6)
only x z e = go (found_key list x (some_there (sym (copy_at x) ∙ e)))
  where
    go : (x ≡ 4) ⊎ ⊥ → (x ≡ 4) × (z ≡ 6)
    go (inl i) = (i, some_eq (sym e ∙ copy_at x ∙ ap (λ x. find nat_cmp x list) i))
    go (inr i) = absurd i

-- ---- what the arguments reach, and what of it is shared

abbrev Shared : List (ℕ × Obj)
Shared = take 3 before

abbrev Reached : List (ℕ × Obj)
Reached = take 4 before

root : (a : ℕ) → Holds args a → (a ≡ 4) ⊎ (a ≡ 1)
root a i = each_ref (λ a. (a ≡ 4) ⊎ (a ≡ 1)) args (inl refl, (inr refl, (inr refl, tt))) i.0 a i.1

stays_shared : (path : List ℕ) (x : ℕ) → leads (heap before) path 1 ≡ Some x → IsKey Shared x
stays_shared path x e =
    stays_among (IsKey Shared) before (each_key (λ x. EachRef (IsKey Shared) (slots_at before x)) Shared ((inr (inl refl), (inr (inr (inl refl)), tt)), (tt, (tt, tt)))) path 1 x (inl refl) e

stays_reached : (path : List ℕ) (a x : ℕ) → IsKey Reached a → leads (heap before) path a ≡ Some x → IsKey Reached x
stays_reached path a x k e =
    stays_among (IsKey Reached) before (each_key (λ x. EachRef (IsKey Reached) (slots_at before x)) Reached ((inr (inl refl), (inr (inr (inl refl)), tt)), (tt, (tt, ((inr (inr (inl refl)), tt), tt))))) path a x k e

box_not_restorable : IsTrue (is_restorable example (box 3 1).kind) → ⊥
unfolding built_in_infos built_in_info built_in_methods built_in_method built_in_class
box_not_restorable t = cc

not_shared : IsShared example (heap before) args 4 → ⊥
not_shared s = go (root s.0 s.1.0)
  where
    go : (s.0 ≡ 4) ⊎ (s.0 ≡ 1) → ⊥
    go (inl i) = box_not_restorable
        (subst (λ o. IsSomeAnd o (λ o. IsTrue (is_restorable example o.kind))) (at before 4)
        (subst (λ a. IsSomeAnd (get (heap before) a) (λ o. IsTrue (is_restorable example o.kind))) i s.1.1))
    go (inr i) = each_key (λ x. x ≡ 4 → ⊥) Shared ((λ e. absurd (omega arith)), ((λ e. absurd (omega arith)), ((λ e. absurd (omega arith)), tt))) 4
        (stays_shared s.2 4 (subst (λ a. leads (heap before) s.2 a ≡ Some 4) i s.3)) refl

array : RestorableRoot example (heap before) args 1
array = ((1, refl), held (heap before) 1 (rows (2 ∷ 3 ∷ [])) _ (at before 1) refl)

reached_fate : (x : ℕ) → IsKey Reached x → IsShared example (heap before) args x ⊎ (get copies x ≢ None)
reached_fate = each_key (λ x. IsShared example (heap before) args x ⊎ (get copies x ≢ None)) Reached
    (inl (1, array, [], refl), (inl (1, array, 0 ∷ [], leads_is before (0 ∷ []) 1), (inl (1, array, 1 ∷ [], leads_is before (1 ∷ []) 1), (inr (λ e. none_some (sym e ∙ copy_at 4)), tt))))

root_reached : (a : ℕ) → (a ≡ 4) ⊎ (a ≡ 1) → IsKey Reached a
root_reached a (inl i) = inr (inr (inr (inl i)))
root_reached a (inr i) = inl i

-- ---- the copies

box_copied : get (heap copied) 6 ≡ option_map (copied_object copies) (get (heap before) 4)
box_copied = at copied 6 ∙ ap (λ n. Some (box n 1)) (sym (copy_is 3)) ∙ ap (option_map (copied_object copies)) (sym (at before 4))

pub kept : (x : ℕ) → get (heap before) x ≢ None → get (heap copied) x ≡ get (heap before) x
kept x n = at copied x ∙ each_name (λ x. find nat_cmp x copied ≡ find nat_cmp x before) before (refl, (refl, (refl, (refl, (refl, tt))))) x n ∙ sym (at before x)

still : (x : ℕ) → find nat_cmp x before ≢ None → (get (heap before) x ≢ None) ⊎ ((w : ℕ) × (get copies w ≡ Some x))
still x n = inl (there before x n)

pub copies_made : CopyArgs example (heap before) args (heap copied) copied_args
copies_made = record {
  copies = copies;
  originals = λ x n. originals x (get copies x) refl n;
  whole = λ x r. reached_fate x (stays_reached r.2 r.0 x (root_reached r.0 (root r.0 r.1)) r.3);
  new = λ x z e. ap (get (heap before)) (only x z e).1 ∙ at before 6;
  distinct = λ x y z e f. (only x z e).0 ∙ sym (only y z f).0;
  objects = λ x z e. subst₂ (λ z x. get (heap copied) z ≡ option_map (copied_object copies) (get (heap before) x)) (sym (only x z e).1) (sym (only x z e).0) box_copied;
  arguments = ap₂ (λ p q. Ref p ∷ Ref q ∷ Ref q ∷ []) (sym (copy_is 4)) (sym (copy_is 1));
  old = kept;
  no_more = each_name (λ y. (get (heap before) y ≢ None) ⊎ ((x : ℕ) × (get copies x ≡ Some y))) copied
      (inr (4, copy_at 4), (still 1 (λ e. none_some (sym e)), (still 2 (λ e. none_some (sym e)), (still 3 (λ e. none_some (sym e)), (still 4 (λ e. none_some (sym e)), (still 5 (λ e. none_some (sym e)), tt))))));
}
  where
    originals : (x : ℕ) (o : Option ℕ) → get copies x ≡ o → get copies x ≢ None → Reach (heap before) (Holds args) x × ¬ IsShared example (heap before) args x
    originals x None e n = absurd (n e)
    originals x (Some z) e n =
        subst (λ x. Reach (heap before) (Holds args) x × ¬ IsShared example (heap before) args x) (sym (only x z e).0) ((4, (0, refl), [], refl), not_shared)

-- ---- the runs on both machines

left_is : heap (box_written copied 1 2 3 6 7) ≡ heap left
left_is = same_heaps (box_written copied 1 2 3 6 7) left
    (refl, (refl, (refl, (refl, (refl, (refl, (refl, (refl, (refl, (refl, tt)))))))))) (refl, (refl, (refl, (refl, (refl, (refl, (refl, tt)))))))

pub run_here : Run example (start copied copied_args) 16 (end_with left 6)
run_here = subst (λ h. Run example (start copied copied_args) 16 (record { heap = h; control = Returned (Some (Ref 6)); printed = [] })) left_is
    (whole copied 1 2 3 6 7 refl refl refl refl refl refl)

other_left_is : heap (box_written other_before 11 12 13 14 15) ≡ heap other_left
other_left_is = same_heaps (box_written other_before 11 12 13 14 15) other_left
    (refl, (refl, (refl, (refl, (refl, (refl, (refl, (refl, tt)))))))) (refl, (refl, (refl, (refl, (refl, tt)))))

pub run_there : Run example (start other_before other_args) 16 (end_with other_left 14)
run_there = subst (λ h. Run example (start other_before other_args) 16 (record { heap = h; control = Returned (Some (Ref 14)); printed = [] })) other_left_is
    (whole other_before 11 12 13 14 15 refl refl refl refl refl refl)

pub local_run : Local example (heap before) 0 args 16 (end_with left 6)
local_run = record {
  heap = heap copied;
  args' = copied_args;
  copies = copies_made;
  call = record { first = start copied copied_args; begins = refl; run = run_here; ends = tt };
}
