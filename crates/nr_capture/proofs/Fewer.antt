-- Some objects of a heap have no more cells than the heap.
use Rattle.std.proofs.Common.{◌≡◌, ℕ, zero, suc, ◌+◌, ◌≤◌, List, [], ◌∷◌, refl, sym, ap, subst, ◌∙◌, arith, inl, inr}
use Rattle.std.specs.Prelude.{Option, Some, None}
use Rattle.std.specs.FinMap.{get, entries}
use Rattle.nr_model.specs.Heaps.{Obj, Heap, cells, cells_named, cells_of, total_cells, EachOnce, Has, on_some}
use Rattle.nr_model.proofs.Sizes.{Among, Apart, there_among, fewer}

module _ (h : Heap) where
  abbrev named : List ℕ → List (ℕ × Obj)
  named [] = []
  named (x ∷ xs) = on_some (get h x) (named xs) (λ o. (x, o) ∷ named xs)

  total : (xs : List ℕ) → total_cells (named xs) ≡ cells_named h xs
  total [] = refl
  total (x ∷ xs) = go (get h x) (total xs)
    where
      go : (o : Option Obj) → total_cells (named xs) ≡ cells_named h xs → total_cells (on_some o (named xs) (λ o. (x, o) ∷ named xs)) ≡ on_some o 0 cells_of + cells_named h xs
      go None e = omega (arith, e)
      go (Some o) e = omega (arith, e)

  among_named : (xs : List ℕ) (e : ℕ × Obj) → Among e (named xs) → (get h e.0 ≡ Some e.1) × Has xs e.0
  among_named [] e i = absurd i
  among_named (x ∷ xs) e i = go (get h x) refl i (among_named xs e)
    where
      go : (o : Option Obj) → get h x ≡ o → Among e (on_some o (named xs) (λ o. (x, o) ∷ named xs)) → (Among e (named xs) → (get h e.0 ≡ Some e.1) × Has xs e.0) → (get h e.0 ≡ Some e.1) × Has (x ∷ xs) e.0
      go None f i rec = let r = rec i in (r.0, (suc r.1.0, r.1.1))
      go (Some o) f (inl i) rec = (subst (λ (d : ℕ × Obj). get h d.0 ≡ Some d.1) (sym i) f, (zero, ap (λ (d : ℕ × Obj). Some d.0) (sym i)))
      go (Some o) f (inr i) rec = let r = rec i in (r.0, (suc r.1.0, r.1.1))

  named_apart : (xs : List ℕ) → EachOnce xs → Apart (named xs)
  named_apart [] once = tt
  named_apart (x ∷ xs) once = go (get h x) (named_apart xs (λ i j y e f. later i j (once (suc i) (suc j) y e f)))
    where
      later : (i j : ℕ) → suc i ≡ suc j → i ≡ j
      later i j e = omega (arith, e)

      first : (i : ℕ) → zero ≡ suc i → ⊥
      first i e = omega (arith, e)

      go : (q : Option Obj) → Apart (named xs) → Apart (on_some q (named xs) (λ o. (x, o) ∷ named xs))
      go None a = a
      go (Some o) a = (λ d i e. let r = among_named xs d i in first r.1.0 (once zero (suc r.1.0) d.0 (ap Some (sym e)) r.1.1), a)

  pub named_fewer : (xs : List ℕ) → EachOnce xs → cells_named h xs ≤ cells h
  named_fewer xs once =
      let l = fewer (λ x y. x ≡ y) (λ x y z e f. e ∙ sym f) (named xs) (entries h) (named_apart xs once) (λ e i not_there.
      let a = among_named xs e i in
      not_there (record { to = e; among = there_among h e.0 e.1 a.0; related = refl; long = refl })) in
      let t = total xs in
      omega (arith, l, t)
