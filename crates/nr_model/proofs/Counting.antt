-- The cells of a heap are those of its objects, name by name; and a heap that grew has more by those of the new names.
use Rattle.std.proofs.Common.{◌≡◌, ◌≢◌, ℕ, zero, suc, ◌+◌, ◌≤◌, ◌⊎◌, List, [], ◌∷◌, length, refl, sym, ap, subst, ◌∙◌, arith, inl, inr, not}
use Rattle.std.specs.Prelude.{Option, Some, None, slice_get}
use Rattle.std.specs.FinMap.{get, find, entries, empty, get-empty}
use Rattle.std.specs.Ordering.{nat_cmp}
use Rattle.nr_model.specs.Heaps.{Obj, Heap, cells_of, total_cells, cells, cells_named, Has, EachOnce, on_some}
use Rattle.nr_model.specs.declared.value.Value.{Value}
use Rattle.nr_model.specs.Example.{heap}
use Rattle.nr_model.specs.Pairs.{Reach, Holds}
use Rattle.nr_model.specs.PairedCalls.{IsPart}
use Rattle.nr_model.specs.Staying.{Stays}
use Rattle.nr_model.proofs.ListedHeaps.{at}
use Rattle.nr_model.proofs.Heaps.{sum_left}
use Rattle.nr_model.proofs.Paths.{none_some, some_eq}
use Rattle.nr_model.proofs.Copies.{some_there}
use Rattle.nr_model.proofs.Sizes.{Among, Apart, found_among, among_found, all_apart, there_among, among_there, part, among_part, part_among, apart_part, total_parts, known, known_some, known_there, unknown_none, none_unknown, fewer, cells_eq}

module _ (h : Heap) where
  abbrev named : List ℕ → List (ℕ × Obj)
  named [] = []
  named (x ∷ xs) = on_some (get h x) (named xs) (λ o. (x, o) ∷ named xs)

  named_total : (xs : List ℕ) → total_cells (named xs) ≡ cells_named h xs
  named_total [] = refl
  named_total (x ∷ xs) = go (get h x) (named_total xs)
    where
      go : (o : Option Obj) → total_cells (named xs) ≡ cells_named h xs → total_cells (on_some o (named xs) (λ o. (x, o) ∷ named xs)) ≡ on_some o 0 cells_of + cells_named h xs
      go None e = omega (arith, e)
      go (Some o) e = omega (arith, e)

  among_named : (xs : List ℕ) (e : ℕ × Obj) → Among e (named xs) → (get h e.0 ≡ Some e.1) × Has xs e.0
  among_named [] e i = absurd i
  among_named (x ∷ xs) e i = go (get h x) refl i (among_named xs e)
    where
      go : (o : Option Obj) → get h x ≡ o → Among e (on_some o (named xs) (λ o. (x, o) ∷ named xs)) → (Among e (named xs) → (get h e.0 ≡ Some e.1) × Has xs e.0) → (get h e.0 ≡ Some e.1) × Has (x ∷ xs) e.0
      go None f i rec = let r = rec i in (r.0, (suc r.1.0, r.1.1))
      go (Some o) f (inl i) rec = (subst (λ (d : ℕ × Obj). get h d.0 ≡ Some d.1) (sym i) f, (zero, ap (λ (d : ℕ × Obj). Some d.0) (sym i)))
      go (Some o) f (inr i) rec = let r = rec i in (r.0, (suc r.1.0, r.1.1))

  named_among : (xs : List ℕ) (i x : ℕ) (o : Obj) → slice_get xs i ≡ Some x → get h x ≡ Some o → Among (x, o) (named xs)
  named_among [] i x o e f = absurd (none_some e)
  named_among (y ∷ ys) zero x o e f = subst (λ q. Among (x, o) (on_some q (named ys) (λ o. (y, o) ∷ named ys))) (sym (ap (get h) (some_eq e) ∙ f)) (inl (λ j. (some_eq (sym e) j, o)))
  named_among (y ∷ ys) (suc i) x o e f = go (get h y) (named_among ys i x o e f)
    where
      go : (q : Option Obj) → Among (x, o) (named ys) → Among (x, o) (on_some q (named ys) (λ o. (y, o) ∷ named ys))
      go None a = a
      go (Some p) a = inr a

  named_apart : (xs : List ℕ) → EachOnce xs → Apart (named xs)
  named_apart [] once = tt
  named_apart (x ∷ xs) once = go (get h x) (named_apart xs (λ i j y e f. later i j (once (suc i) (suc j) y e f)))
    where
      later : (i j : ℕ) → suc i ≡ suc j → i ≡ j
      later i j e = omega (arith, e)

      first : (i : ℕ) → zero ≡ suc i → ⊥
      first i e = omega (arith, e)

      go : (q : Option Obj) → Apart (named xs) → Apart (on_some q (named xs) (λ o. (x, o) ∷ named xs))
      go None a = a
      go (Some o) a = (λ d i e. let r = among_named xs d i in first r.1.0 (once zero (suc r.1.0) d.0 (ap Some (sym e)) r.1.1), a)

module _ (h r : Heap) (xs : List ℕ) (once : EachOnce xs) (kept : Stays h r) (new : (x : ℕ) → Has xs x → get h x ≡ None)
    (no_more : (x : ℕ) → get r x ≢ None → (get h x ≢ None) ⊎ Has xs x) where
  eq_left : (x y z : ℕ) → x ≡ z → y ≡ z → x ≡ y
  eq_left x y z e f = e ∙ sym f

  old_more : total_cells (part (known h) (entries r)) ≤ cells h
  old_more = fewer (λ x y. x ≡ y) eq_left (part (known h) (entries r)) (entries h) (apart_part (known h) (entries r) (all_apart r)) (λ e i not_there.
      let a = among_part (known h) (entries r) e i in
      let o = known_there h e.0 a.1 in
      let p = kept.at e.0 o.0 o.1 in
      let same : p.0 ≡ e.1 = some_eq (sym p.1 ∙ among_there r e a.0) in
      not_there (record { to = (e.0, o.0); among = there_among h e.0 o.0 o.1; related = refl; long = cells_eq e.1 o.0 (sym p.3 ∙ ap (λ (o : Obj). length o.slots) same) }))

  old_less : cells h ≤ total_cells (part (known h) (entries r))
  old_less = fewer (λ x y. x ≡ y) eq_left (entries h) (part (known h) (entries r)) (all_apart h) (λ e i not_there.
      let f = among_there h e i in
      let p = kept.at e.0 e.1 f in
      not_there (record { to = (e.0, p.0); among = part_among (known h) (entries r) (e.0, p.0) (there_among r e.0 p.0 p.1) (known_some h e.0 e.1 f); related = refl; long = cells_eq e.1 p.0 p.3 }))

  new_more : total_cells (part (λ x. not (known h x)) (entries r)) ≤ total_cells (named r xs)
  new_more = fewer (λ x y. x ≡ y) eq_left (part (λ x. not (known h x)) (entries r)) (named r xs) (apart_part (λ x. not (known h x)) (entries r) (all_apart r)) (λ e i not_there.
      let a = among_part (λ x. not (known h x)) (entries r) e i in
      let f = among_there r e a.0 in
      sum_left (no_more e.0 (some_there f)) (λ old. old (unknown_none h e.0 a.1))
      (λ w. not_there (record { to = e; among = named_among r xs w.0 e.0 e.1 w.1 f; related = refl; long = refl })))

  new_less : total_cells (named r xs) ≤ total_cells (part (λ x. not (known h x)) (entries r))
  new_less = fewer (λ x y. x ≡ y) eq_left (named r xs) (part (λ x. not (known h x)) (entries r)) (named_apart r xs once) (λ e i not_there.
      let a = among_named r xs e i in
      not_there (record { to = e; among = part_among (λ x. not (known h x)) (entries r) e (there_among r e.0 e.1 a.0) (none_unknown h e.0 (new e.0 a.1)); related = refl; long = refl }))

  pub grown_by : cells r ≡ cells h + cells_named r xs
  grown_by =
      let whole : cells r ≡ total_cells (part (known h) (entries r)) + total_cells (part (λ x. not (known h x)) (entries r)) = total_parts (known h) (entries r) in
      let counted : total_cells (named r xs) ≡ cells_named r xs = named_total r xs in
      omega (arith, whole, counted, old_more, old_less, new_more, new_less)

-- a heap whose names are listed
pub all_counted : (h : Heap) (xs : List ℕ) → EachOnce xs → ((x : ℕ) → get h x ≢ None → Has xs x) → cells h ≡ cells_named h xs
all_counted h xs once all =
    let none : cells empty ≤ 0 = fewer (λ x y. x ≡ y) (λ x y z e f. e ∙ sym f) (entries empty) [] (all_apart empty) (λ e i not_there. none_some (sym (get-empty nat_cmp e.0) ∙ among_there empty e i)) in
    let e : cells h ≡ cells empty + cells_named h xs = grown_by empty h xs once
    (record { at = λ a o f. absurd (none_some (sym (get-empty nat_cmp a) ∙ f)) })
    (λ x i. get-empty nat_cmp x) (λ x n. inr (all x n)) in
    omega (arith, e, none)

-- the part of a heap that arguments reach, where a list has just the names that they reach
pub part_exists : (h : Heap) (us : List Value) (xs : List ℕ) → EachOnce xs → ((x : ℕ) → Reach h (Holds us) x → Has xs x) → ((x : ℕ) → Has xs x → Reach h (Holds us) x) → (part : Heap) × IsPart h us part
part_exists h us xs once to from = (heap (named h xs), record { reached = reached; no_more = λ x n. from x (held x (find nat_cmp x (named h xs)) refl (λ e. n (at (named h xs) x ∙ e))) })
  where
    held : (x : ℕ) (o : Option Obj) → find nat_cmp x (named h xs) ≡ o → find nat_cmp x (named h xs) ≢ None → Has xs x
    held x None e n = absurd (n e)
    held x (Some o) e n = (among_named h xs (x, o) (found_among (named h xs) x o e)).1

    same : (x : ℕ) (o q : Option Obj) → Has xs x → get h x ≡ o → find nat_cmp x (named h xs) ≡ q → find nat_cmp x (named h xs) ≡ get h x
    same x (Some o) q i f e = among_found (named h xs) (named_apart h xs once) (x, o) (named_among h xs i.0 x o i.1 f) ∙ sym f
    same x None None i f e = e ∙ sym f
    same x None (Some o) i f e = absurd (none_some (sym f ∙ (among_named h xs (x, o) (found_among (named h xs) x o e)).0))

    reached : (x : ℕ) → Reach h (Holds us) x → get (heap (named h xs)) x ≡ get h x
    reached x r = at (named h xs) x ∙ same x (get h x) (find nat_cmp x (named h xs)) (to x r) refl refl
