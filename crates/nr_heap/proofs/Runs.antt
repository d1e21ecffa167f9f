-- Runs of slots.
use Rattle.std.proofs.Common.{◌≡◌, ◌≢◌, ℕ, zero, suc, ◌+◌, ◌-◌, ◌<◌, ◌≤◌, List, [], ◌∷◌, ◌++◌, length, refl, sym, ap, ap₂, subst, ◌∙◌, arith, take, drop, Option, Some, None, get_or, set}
use Rattle.std.specs.Prelude.{slice_set, slice_get, IsSomeAnd}
use Rattle.std.specs.FinMap.{get, insert}
use Rattle.std.proofs.Math.Decide.{ℕ_discrete}
use Rattle.std.proofs.lemmas.List.{append-nil, append_assoc, length-append, length-take-le, length-drop, set-append_right, drop_more, take-append-drop, take_more, take_more_same, length-set, take-set, get_or-set_same, get_or-drop}
use Rattle.std.proofs.lemmas.Option.{get_or_from_slice_get}
use Rattle.nr_model.specs.declared.value.Value.{Value}
use Rattle.nr_model.specs.declared.value.Value.TheVariants.{Null}
use Rattle.nr_model.specs.Heaps.{Obj, Heap}
use Rattle.nr_model.specs.Scripts.{with_slot}
use Rattle.nr_model.proofs.Heaps.{get_same, get_other}
use Rattle.nr_heap.specs.Contents.{with_run}
use Rattle.nr_heap.proofs.Maps.{same_heap}
use Rattle.nr_heap.proofs.Slots.{get_drop}

pub some_held : {X : Type 0} (P : X → Type 0) (o : Option X) → IsSomeAnd o P → (x : X) × (o ≡ Some x) × P x
some_held P None h = absurd h
some_held P (Some x) h = (x, refl, h)

pub some_at : {X : Type 0} (P : X → Type 0) (o : Option X) (x : X) → o ≡ Some x → IsSomeAnd o P → P x
some_at P o x e h = subst (λ o. IsSomeAnd o P) e h

pub some_told : {X : Type 0} (P : X → Type 0) (o : Option X) (x : X) → o ≡ Some x → P x → IsSomeAnd o P
some_told P o x e h = subst (λ o. IsSomeAnd o P) (sym e) h

insert_again : (h : Heap) (a : ℕ) (o p : Obj) → insert (insert h a o) a p ≡ insert h a p
insert_again h a o p = same_heap _ _ (λ q. go q (ℕ_discrete q a))
  where
    go : (q : ℕ) → Dec (q ≡ a) → get (insert (insert h a o) a p) q ≡ get (insert h a p) q
    go q (yes e) = rw e (get_same (insert h a o) a p ∙ sym (get_same h a p))
    go q (no n) = get_other (insert h a o) a q p n ∙ get_other h a q o n ∙ sym (get_other h a q p n)

insert_old : (h : Heap) (a : ℕ) (o : Obj) → get h a ≡ Some o → insert h a o ≡ h
insert_old h a o e = same_heap _ _ (λ q. go q (ℕ_discrete q a))
  where
    go : (q : ℕ) → Dec (q ≡ a) → get (insert h a o) q ≡ get h q
    go q (yes d) = rw d (get_same h a o ∙ sym e)
    go q (no n) = get_other h a q o n

-- the slots of a run
abbrev pub run_in : List Value → ℕ → List Value → List Value
run_in xs i vs = take i xs ++ vs ++ drop (i + length vs) xs

no_run : (xs : List Value) (i : ℕ) → run_in xs i [] ≡ xs
no_run xs i = let e : i + 0 ≡ i = omega arith in ap₂ (λ ys n. ys ++ drop n xs) (append-nil (take i xs)) e ∙ take-append-drop i xs

run_length : (xs vs : List Value) (i : ℕ) → i + length vs ≤ length xs → length (run_in xs i vs) ≡ length xs
run_length xs vs i l =
    omega (arith, length-append (take i xs ++ vs) (drop (i + length vs) xs), length-append (take i xs) vs, length-take-le i xs (omega arith), length-drop (i + length vs) xs)

more_run : (xs vs : List Value) (i : ℕ) (v : Value) → i + length vs < length xs → slice_set (run_in xs i vs) (i + length vs) v ≡ run_in xs i (vs ++ v ∷ [])
more_run xs vs i v l =
    let n = i + length vs in
    let m : length (take i xs ++ vs) ≡ n = omega (arith, length-append (take i xs) vs, length-take-le i xs (omega arith)) in
    let z : n - n ≡ 0 = omega arith in
    let k : n + 1 ≡ i + length (vs ++ v ∷ []) = omega (arith, length-append vs (v ∷ [])) in
    set-append_right (take i xs ++ vs) (drop n xs) n n v m (omega arith)
    ∙ ap (λ j. (take i xs ++ vs) ++ slice_set (drop n xs) j v) z
    ∙ ap (λ ys. (take i xs ++ vs) ++ slice_set ys 0 v) (drop_more xs n Null l)
    ∙ sym (append_assoc (take i xs ++ vs) (v ∷ []) (drop (n + 1) xs))
    ∙ ap₂ (λ ys j. ys ++ drop j xs) (append_assoc (take i xs) vs (v ∷ [])) k

module _ (h : Heap) (r : ℕ) (o : Obj) (i : ℕ) where
  pub with_no_run : get h r ≡ Some o → with_run h r o i [] ≡ h
  with_no_run e = ap (λ vs. insert h r (record { kind = o.kind; slots = vs })) (no_run o.slots i) ∙ insert_old h r o e

  pub run_of_object : (vs : List Value) → get (with_run h r o i vs) r ≡ Some (record o { slots = run_in o.slots i vs })
  run_of_object vs = get_same h r _

  pub run_length_is : (vs : List Value) → i + length vs ≤ length o.slots → length (run_in o.slots i vs) ≡ length o.slots
  run_length_is vs l = run_length o.slots vs i l

  pub with_more_run : (vs : List Value) (v : Value) (j : ℕ) → j ≡ i + length vs → j < length o.slots
      → with_slot (with_run h r o i vs) r (record o { slots = run_in o.slots i vs }) j v ≡ with_run h r o i (vs ++ v ∷ [])
  with_more_run vs v j e l =
      insert_again h r _ _
      ∙ ap (λ us. insert h r (record { kind = o.kind; slots = us }))
      (ap (λ j. slice_set (run_in o.slots i vs) j v) e ∙ more_run o.slots vs i v (omega arith))

-- one more slot was read
pub read_more : (xs out : List Value) (s i : ℕ) (v : Value) → i < length out → s + i < length xs → take i out ≡ take i (drop s xs) → slice_get xs (s + i) ≡ Some v
    → take (i + 1) (set out i v) ≡ take (i + 1) (drop s xs)
read_more xs out s i v l m e g =
    take_more_same (set out i v) (drop s xs) i Null (omega (arith, length-set out i v)) (omega (arith, length-drop s xs)) (take-set out i v ∙ e)
    (get_or-set_same out i v Null l ∙ sym (get_or-drop s xs i Null ∙ get_or_from_slice_get xs (s + i) v Null g))
