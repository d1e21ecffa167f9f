-- What the tests know of the arrays that they made.
use Rattle.std.proofs.Common.{◌≡◌, ℕ, ◌+◌, ◌≤◌, List, ◌++◌, length, map, take, drop, replicate, Some, refl, sym, ap, subst, ◌∙◌, arith}
use Rattle.std.specs.Prelude.{All, IsSomeAnd}
use Rattle.std.specs.FinMap.{get}
use Rattle.std.proofs.lemmas.List.{length-append, length-drop, length-map, length-replicate}
use Rattle.nr_linked.specs.declared.program.kind.Kind.{Kind}
use Rattle.nr_linked.specs.Kinds.{array_of}
use Rattle.nr_model.specs.declared.value.Value.{Value}
use Rattle.nr_model.specs.Heaps.{Obj}
use Rattle.nr_model.specs.Scripts.{plain}
use Rattle.nr_model.specs.Throws.{zero_of}
use Rattle.nr_model.proofs.Heaps.{get_same}
use Rattle.nr_heap.specs.Contents.{Contents, HasMade, Keeps, array_with, with_run}

made_at : (old new : Contents) (name : ℕ) (o : Obj) → HasMade old new name o → get new.objects name ≡ Some o
made_at old new name o m = ap (λ h. get h name) m.objects ∙ get_same old.objects name o

-- a new array has so many elements
pub has_array : (old new : Contents) (name : ℕ) (e : Kind) (n : ℕ) → HasMade old new name (array_with e n) → IsSomeAnd (get new.objects name) (λ o. Unit {0})
has_array old new name e n m = subst (λ z. IsSomeAnd z (λ o. Unit {0})) (sym (made_at old new name (array_with e n) m)) tt

pub has_length : (old new : Contents) (name : ℕ) (e : Kind) (n : ℕ) → HasMade old new name (array_with e n) → IsSomeAnd (get new.objects name) (λ o. length o.slots ≡ n)
has_length old new name e n m =
    let long : length (map plain (replicate n (zero_of e))) ≡ n = length-map (replicate n (zero_of e)) plain ∙ length-replicate n (zero_of e) in
    subst (λ z. IsSomeAnd z (λ o. length o.slots ≡ n)) (sym (made_at old new name (array_with e n) m)) long

pub has_run : (old new : Contents) (name : ℕ) (e : Kind) (n : ℕ) (vs : List Value) → HasMade old new name (array_with e n) → length vs ≡ n → IsSomeAnd (get new.objects name) (λ o. 0 + length vs ≤ length o.slots)
has_run old new name e n vs m is =
    let long : 0 + length vs ≤ length (map plain (replicate n (zero_of e))) = omega (arith, is, length-map (replicate n (zero_of e)) plain, length-replicate n (zero_of e)) in
    subst (λ z. IsSomeAnd z (λ o. 0 + length vs ≤ length o.slots)) (sym (made_at old new name (array_with e n) m)) long

pub keeps_run : (old new : Contents) (name : ℕ) (e : Kind) (n : ℕ) (vs : List Value) → HasMade old new name (array_with e n) → All (Keeps (array_of e)) vs → IsSomeAnd (get new.objects name) (λ o. All (Keeps o.kind) vs)
keeps_run old new name e n vs m all = subst (λ z. IsSomeAnd z (λ o. All (Keeps o.kind) vs)) (sym (made_at old new name (array_with e n) m)) all

-- and as many after a run of values was put into it
pub has_written : (old new after : Contents) (name : ℕ) (e : Kind) (n : ℕ) (vs : List Value) → HasMade old new name (array_with e n) → length vs ≡ n
    → IsSomeAnd (get new.objects name) (λ o. after ≡ record new { objects = with_run new.objects name o 0 vs }) → IsSomeAnd (get after.objects name) (λ o. length o.slots ≡ length vs)
has_written old new after name e n vs m as_many is =
    let o = array_with e n in
    let written : after ≡ record new { objects = with_run new.objects name o 0 vs } =
    subst (λ z. IsSomeAnd z (λ (x : Obj). after ≡ record new { objects = with_run new.objects name x 0 vs })) (made_at old new name o m) is in
    let there = get_same new.objects name (record o { slots = take 0 o.slots ++ vs ++ drop (0 + length vs) o.slots }) in
    let own : length o.slots ≡ n = length-map (replicate n (zero_of e)) plain ∙ length-replicate n (zero_of e) in
    let long : length (vs ++ drop (0 + length vs) o.slots) ≡ length vs =
    omega (arith, as_many, own, length-append vs (drop (0 + length vs) o.slots), length-drop (0 + length vs) o.slots) in
    subst (λ (c : Contents). IsSomeAnd (get c.objects name) (λ x. length x.slots ≡ length vs)) (sym written)
    (subst (λ z. IsSomeAnd z (λ (x : Obj). length x.slots ≡ length vs)) (sym there) long)
