-- The array of the ints is what a new array becomes into which they are written.
use Rattle.std.proofs.Common.{◌≡◌, ℕ, ◌+◌, List, [], ◌++◌, length, map, take, drop, replicate, sym, ap, subst, ◌∙◌, arith}
use Rattle.std.specs.Prelude.{Some, All, IsSomeAnd, ℤ}
use Rattle.std.specs.FinMap.{empty, get, insert, same_map, nat_cmp-IsAntisymmetric}
use Rattle.std.proofs.Math.Decide.{ℕ_discrete}
use Rattle.std.proofs.lemmas.Cmp.{nat_cmp_total}
use Rattle.std.proofs.lemmas.List.{length-map, length-replicate, append-nil}
use Rattle.std.proofs.lemmas.List.Elements.{All-map}
use Rattle.std.proofs.Math.ListN.{drop_of_length-le}
use Rattle.nr_linked.specs.Kinds.{array_of}
use Rattle.nr_model.specs.declared.value.Value.{Value}
use Rattle.nr_model.specs.declared.value.Value.TheVariants.{Int}
use Rattle.nr_model.specs.Heaps.{Heap, Obj}
use Rattle.nr_model.specs.Scripts.{plain}
use Rattle.nr_model.specs.Throws.{zero_of}
use Rattle.nr_model.proofs.Heaps.{get_same, get_other}
use Rattle.nr_heap.specs.Contents.{Contents, HasMade, Keeps, array_with, with_run}
use Rattle.nr_run.specs.Runs.{int_array, int_kind}

-- what is written last stays
insert_again : (h : Heap) (a : ℕ) (o p : Obj) → insert (insert h a o) a p ≡ insert h a p
insert_again h a o p = same_map nat_cmp_total nat_cmp-IsAntisymmetric _ _ (λ q. go q (ℕ_discrete q a))
  where
    go : (q : ℕ) → Dec (q ≡ a) → get (insert (insert h a o) a p) q ≡ get (insert h a p) q
    go q (yes e) = ap (get (insert (insert h a o) a p)) e ∙ get_same (insert h a o) a p ∙ sym (ap (get (insert h a p)) e ∙ get_same h a p)
    go q (no n) = get_other (insert h a o) a q p n ∙ get_other h a q o n ∙ sym (get_other h a q p n)

-- each int is one that an array of int holds
pub all_kept : (ints : List ℤ) → All (Keeps (array_of int_kind)) (map Int ints)
all_kept ints = All-map (Keeps (array_of int_kind)) Int ints (λ k d lt. tt)

module _ (old new after : Contents) (name : ℕ) (ints : List ℤ) (vs : List Value) (bare : old.objects ≡ empty) (made : HasMade old new name (array_with int_kind (length ints)))
    (are : vs ≡ map Int ints) (written : IsSomeAnd (get new.objects name) (λ o. after ≡ record new { objects = with_run new.objects name o 0 vs })) where
  abbrev new_slots : List Value
  new_slots = map plain (replicate (length ints) (zero_of int_kind))

  as_many : length new_slots ≡ length ints
  as_many = length-map (replicate (length ints) (zero_of int_kind)) plain ∙ length-replicate (length ints) (zero_of int_kind)

  slots : take 0 new_slots ++ vs ++ drop (0 + length vs) new_slots ≡ map Int ints
  slots =
      let long : length vs ≡ length ints = ap length are ∙ length-map ints Int in
      let none : drop (0 + length vs) new_slots ≡ [] = drop_of_length-le new_slots (omega (arith, as_many, long)) in
      ap (λ us. vs ++ us) none ∙ append-nil vs ∙ are

  there : get new.objects name ≡ Some (array_with int_kind (length ints))
  there = ap (λ h. get h name) made.objects ∙ get_same old.objects name (array_with int_kind (length ints))

  pub filled : after.objects ≡ insert empty name (int_array ints)
  filled =
      let o = array_with int_kind (length ints) in
      let w : after ≡ record new { objects = with_run new.objects name o 0 vs } = subst (λ z. IsSomeAnd z (λ (x : Obj). after ≡ record new { objects = with_run new.objects name x 0 vs })) there written in
      ap (λ (c : Contents). c.objects) w
      ∙ ap (λ h. insert h name (record o { slots = take 0 new_slots ++ vs ++ drop (0 + length vs) new_slots })) (made.objects ∙ ap (λ h. insert h name o) bare)
      ∙ insert_again empty name o (record o { slots = take 0 new_slots ++ vs ++ drop (0 + length vs) new_slots })
      ∙ ap (λ us. insert empty name (record { kind = array_of int_kind; slots = us })) slots
