-- Sizes of heaps whose objects go, one to one, to objects of the same length in another.
use Rattle.std.proofs.Common.{◌≡◌, ◌≢◌, ℕ, ◌+◌, ◌≤◌, ◌⊎◌, List, [], ◌∷◌, length, refl, sym, ap, subst, ◌∙◌, arith, inl, inr, Bool, true, false, cond, T}
use Rattle.std.specs.Prelude.{Option, Some, None, is_some, not}
use Rattle.std.specs.Ordering.{nat_cmp, is_eq, is_lt}
use Rattle.std.specs.declared.cmp.Ordering.TheVariants.{Less}
use Rattle.std.specs.FinMap.{get, find, is_sorted, entries, entries_sorted, get-entries}
use Rattle.std.specs.FinMap.Entries.{below_all}
use Rattle.std.proofs.Math.Decide.{ℕ_discrete, dec_le}
use Rattle.nr_model.specs.Heaps.{Obj, Heap, cells_of, total_cells, cells}
use Rattle.nr_model.specs.Alike.{AlikeAt, alike_at}
use Rattle.nr_model.specs.Pairs.{IsPair, Paired}
use Rattle.nr_model.proofs.Cells.{first, second, less}
use Rattle.nr_model.proofs.Heaps.{eq_self, not_equal, sum_left}
use Rattle.nr_model.proofs.Matchings.{Matched}
use Rattle.nr_model.proofs.Pairing.{lengths}
use Rattle.nr_model.proofs.Paths.{none_some, some_eq, paired_matched}

-- ---- entries

abbrev pub Among : ℕ × Obj → List (ℕ × Obj) → Type 0
Among e [] = ⊥
Among e (f ∷ fs) = (e ≡ f) ⊎ Among e fs

-- no key stands twice
abbrev pub Apart : List (ℕ × Obj) → Type 0
Apart [] = Unit {0}
Apart (e ∷ es) = ((d : ℕ × Obj) → Among d es → d.0 ≢ e.0) × Apart es

below_among : (k : ℕ) (es : List (ℕ × Obj)) → T (below_all nat_cmp k es) → (d : ℕ × Obj) → Among d es → nat_cmp k d.0 ≡ Less
below_among k [] h d i = absurd i
below_among k (e ∷ es) h d (inl i) = subst (λ (d : ℕ × Obj). nat_cmp k d.0 ≡ Less) (sym i) (less _ (first (is_lt (nat_cmp k e.0)) _ h))
below_among k (e ∷ es) h d (inr i) = below_among k es (second (is_lt (nat_cmp k e.0)) _ h) d i

less_self : (k : ℕ) → nat_cmp k k ≡ Less → ⊥
less_self k e = bad (sym (eq_self k) ∙ ap is_eq e)
  where
    bad : true ≡ false → ⊥
    bad e = cc

pub sorted_apart : (es : List (ℕ × Obj)) → T (is_sorted nat_cmp es) → Apart es
sorted_apart [] h = tt
sorted_apart (e ∷ es) h = (
  λ d i f. less_self e.0 (subst (λ k. nat_cmp e.0 k ≡ Less) f (below_among e.0 es (first (below_all nat_cmp e.0 es) _ h) d i)),
  sorted_apart es (second (below_all nat_cmp e.0 es) _ h),
)

pub found_among : (es : List (ℕ × Obj)) (x : ℕ) (o : Obj) → find nat_cmp x es ≡ Some o → Among (x, o) es
found_among [] x o e = absurd (none_some e)
found_among (f ∷ fs) x o e = go (ℕ_discrete x f.0) (found_among fs x o)
  where
    go : Dec (x ≡ f.0) → (find nat_cmp x fs ≡ Some o → Among (x, o) fs) → Among (x, o) (f ∷ fs)
    go (yes i) rec =
        let v : f.1 ≡ o = some_eq (sym (ap (λ b. cond b (Some f.1) (find nat_cmp x fs)) (ap (λ k. is_eq (nat_cmp k f.0)) i ∙ eq_self f.0)) ∙ e) in
        inl (λ j. (i j, sym v j))
    go (no n) rec = inr (rec (sym (ap (λ b. cond b (Some f.1) (find nat_cmp x fs)) (not_equal x f.0 _ refl n)) ∙ e))

pub among_found : (es : List (ℕ × Obj)) → Apart es → (e : ℕ × Obj) → Among e es → find nat_cmp e.0 es ≡ Some e.1
among_found [] a e i = absurd i
among_found (f ∷ fs) a e (inl i) =
    ap (λ b. cond b (Some f.1) (find nat_cmp e.0 fs)) (ap (λ (d : ℕ × Obj). is_eq (nat_cmp d.0 f.0)) i ∙ eq_self f.0) ∙ ap (λ (d : ℕ × Obj). Some d.1) (sym i)
among_found (f ∷ fs) a e (inr i) =
    ap (λ b. cond b (Some f.1) (find nat_cmp e.0 fs)) (not_equal e.0 f.0 _ refl (a.0 e i)) ∙ among_found fs a.1 e i

module _ (h : Heap) where
  pub all_apart : Apart (entries h)
  all_apart = sorted_apart (entries h) (entries_sorted h)

  pub there_among : (x : ℕ) (o : Obj) → get h x ≡ Some o → Among (x, o) (entries h)
  there_among x o e = found_among (entries h) x o (sym (get-entries h x) ∙ e)

  pub among_there : (e : ℕ × Obj) → Among e (entries h) → get h e.0 ≡ Some e.1
  among_there e i = get-entries h e.0 ∙ among_found (entries h) all_apart e i

-- ---- the entries whose keys pass a test

abbrev pub part : (ℕ → Bool) → List (ℕ × Obj) → List (ℕ × Obj)
part p [] = []
part p (e ∷ es) = cond (p e.0) (e ∷ part p es) (part p es)

pub among_part : (p : ℕ → Bool) (es : List (ℕ × Obj)) (e : ℕ × Obj) → Among e (part p es) → Among e es × (p e.0 ≡ true)
among_part p [] e i = absurd i
among_part p (f ∷ fs) e i = go (p f.0) refl i (among_part p fs e)
  where
    go : (b : Bool) → p f.0 ≡ b → Among e (cond b (f ∷ part p fs) (part p fs)) → (Among e (part p fs) → Among e fs × (p e.0 ≡ true)) → Among e (f ∷ fs) × (p e.0 ≡ true)
    go true g (inl j) rec = (inl j, ap (λ (d : ℕ × Obj). p d.0) j ∙ g)
    go true g (inr j) rec = let r = rec j in (inr r.0, r.1)
    go false g j rec = let r = rec j in (inr r.0, r.1)

pub part_among : (p : ℕ → Bool) (es : List (ℕ × Obj)) (e : ℕ × Obj) → Among e es → p e.0 ≡ true → Among e (part p es)
part_among p [] e i t = absurd i
part_among p (f ∷ fs) e (inl i) t = subst (λ b. Among e (cond b (f ∷ part p fs) (part p fs))) (sym t ∙ ap (λ (d : ℕ × Obj). p d.0) i) (inl i)
part_among p (f ∷ fs) e (inr i) t = go (p f.0) (part_among p fs e i t)
  where
    go : (b : Bool) → Among e (part p fs) → Among e (cond b (f ∷ part p fs) (part p fs))
    go true j = inr j
    go false j = j

pub apart_part : (p : ℕ → Bool) (es : List (ℕ × Obj)) → Apart es → Apart (part p es)
apart_part p [] a = tt
apart_part p (e ∷ es) a = go (p e.0) (apart_part p es a.1)
  where
    go : (b : Bool) → Apart (part p es) → Apart (cond b (e ∷ part p es) (part p es))
    go true r = (λ d i. a.0 d (among_part p es d i).0, r)
    go false r = r

pub total_parts : (p : ℕ → Bool) (es : List (ℕ × Obj)) → total_cells es ≡ total_cells (part p es) + total_cells (part (λ x. not (p x)) es)
total_parts p [] = refl
total_parts p (e ∷ es) = go (p e.0) (total_parts p es)
  where
    go : (b : Bool) → total_cells es ≡ total_cells (part p es) + total_cells (part (λ x. not (p x)) es)
        → total_cells (e ∷ es) ≡ total_cells (cond b (e ∷ part p es) (part p es)) + total_cells (cond (not b) (e ∷ part (λ x. not (p x)) es) (part (λ x. not (p x)) es))
    go true r = omega (arith, r)
    go false r = omega (arith, r)

-- ---- entries that go to others

-- one entry less
taken : (f : ℕ × Obj) (fs : List (ℕ × Obj)) → Among f fs
    → (gs : List (ℕ × Obj)) × (total_cells fs ≡ cells_of f.1 + total_cells gs) × ((e : ℕ × Obj) → Among e fs → e.0 ≢ f.0 → Among e gs)
taken f [] i = absurd i
taken f (g ∷ gs) (inl i) = (
  gs,
  ap (λ (d : ℕ × Obj). cells_of d.1 + total_cells gs) (sym i),
  λ e j n. sum_left j (λ k. absurd (n (ap (λ (d : ℕ × Obj). d.0) (k ∙ sym i)))) (λ k. k),
)
taken f (g ∷ gs) (inr i) =
    let r = taken f gs i in
    let total : total_cells gs ≡ cells_of f.1 + total_cells r.0 = r.1 in
    (g ∷ r.0, omega (arith, total), λ e j n. sum_left j (λ k. inl k) (λ k. inr (r.2 e k n)))

-- M relates the entry to one of the list, of the same length
pub record Into (M : ℕ → ℕ → Type 0) (e : ℕ × Obj) (fs : List (ℕ × Obj)) : Type 0 where
  pub to : ℕ × Obj
  pub among : Among to fs
  pub related : M e.0 to.0
  pub long : cells_of e.1 ≡ cells_of to.1

stable : (a b : ℕ) → ((a ≤ b → ⊥) → ⊥) → a ≤ b
stable a b k = go (dec_le a b)
  where
    go : Dec (a ≤ b) → a ≤ b
    go (yes p) = p
    go (no n) = absurd (k n)

module _ (M : ℕ → ℕ → Type 0) (one_left : (x y z : ℕ) → M x z → M y z → x ≡ y) where
  -- that an entry goes to some other needs to be known only up to contradiction
  pub fewer : (es fs : List (ℕ × Obj)) → Apart es → ((e : ℕ × Obj) → Among e es → (Into M e fs → ⊥) → ⊥) → total_cells es ≤ total_cells fs
  fewer [] fs a k = omega arith
  fewer (e ∷ es) fs a k = stable (total_cells (e ∷ es)) (total_cells fs) (λ no. k e (inl refl) (λ g. no (with_one g (λ gs. fewer es gs a.1))))
    where
      with_one : Into M e fs → ((gs : List (ℕ × Obj)) → ((e : ℕ × Obj) → Among e es → (Into M e gs → ⊥) → ⊥) → total_cells es ≤ total_cells gs) → total_cells (e ∷ es) ≤ total_cells fs
      with_one g rec =
          let r = taken g.to fs g.among in
          let total : total_cells fs ≡ cells_of g.to.1 + total_cells r.0 = r.1 in
          let others : total_cells es ≤ total_cells r.0 = rec r.0 (λ d i not_there. k d (inr i) (λ w. not_there (record {
            to = w.to;
            among = r.2 w.to w.among (λ same. a.0 d i (one_left d.0 e.0 g.to.0 (subst (M d.0) same w.related) g.related));
            related = w.related;
            long = w.long;
          }))) in
          omega (arith, total, others, g.long)

-- ---- heaps

-- the heap has an object of this length under the name
abbrev pub HasLong : Heap → ℕ → ℕ → Type 0
HasLong h x n = (o : Obj) × (get h x ≡ Some o) × (length o.slots ≡ n)

pub alike_long : (R : ℕ → ℕ → Type 0) (a b : Option Obj) (o : Obj) → AlikeAt R a b → a ≡ Some o → (p : Obj) × (b ≡ Some p) × (length p.slots ≡ length o.slots)
alike_long R a b o (alike_at {o = c} {p = d} s) e = (d, refl, sym (lengths R _ _ s.slots) ∙ ap (λ (o : Obj). length o.slots) (some_eq e))

pub cells_eq : (o p : Obj) → length p.slots ≡ length o.slots → cells_of o ≡ cells_of p
cells_eq o p e = ap (λ n. n + 1) (sym e)

module _ (M : ℕ → ℕ → Type 0) (one_left : (x y z : ℕ) → M x z → M y z → x ≡ y) (h k : Heap) where
  pub fewer_cells : ((x : ℕ) (o : Obj) → get h x ≡ Some o → (y : ℕ) × M x y × HasLong k y (length o.slots)) → cells h ≤ cells k
  fewer_cells to = fewer M one_left (entries h) (entries k) (all_apart h) (λ e i not_there.
      let w = to e.0 e.1 (among_there h e i) in
      not_there (record { to = (w.0, w.2.0); among = there_among k w.0 w.2.0 w.2.1; related = w.1; long = cells_eq e.1 w.2.0 w.2.2 }))

-- is the name one of the heap?
abbrev pub known : Heap → ℕ → Bool
known h x = is_some (get h x)

pub known_some : (h : Heap) (x : ℕ) (o : Obj) → get h x ≡ Some o → known h x ≡ true
known_some h x o e = ap is_some e

pub known_there : (h : Heap) (x : ℕ) → known h x ≡ true → (o : Obj) × (get h x ≡ Some o)
known_there h x e = go (get h x) refl e
  where
    go : (o : Option Obj) → get h x ≡ o → is_some o ≡ true → (o : Obj) × (get h x ≡ Some o)
    go None f e = absurd (bad e)
      where
        bad : false ≡ true → ⊥
        bad e = cc
    go (Some o) f e = (o, f)

pub unknown_none : (h : Heap) (x : ℕ) → not (known h x) ≡ true → get h x ≡ None
unknown_none h x e = go (get h x) refl e
  where
    go : (o : Option Obj) → get h x ≡ o → not (is_some o) ≡ true → get h x ≡ None
    go None f e = f
    go (Some o) f e = absurd (bad e)
      where
        bad : false ≡ true → ⊥
        bad e = cc

pub none_unknown : (h : Heap) (x : ℕ) → get h x ≡ None → not (known h x) ≡ true
none_unknown h x e = ap (λ o. not (is_some o)) e

-- Two heaps went on, from s and t to l and r, and kept their objects with their lengths. M relates each new name of r to a
-- new one of l, one to one, with an object of the same length. Then r grew by no more than l.
module _ (s l t r : Heap) (M : ℕ → ℕ → Type 0) (one_left : (x y z : ℕ) → M x z → M y z → x ≡ y)
    (kept_left : (x : ℕ) (o : Obj) → get s x ≡ Some o → HasLong l x (length o.slots))
    (kept_right : (x : ℕ) (o : Obj) → get t x ≡ Some o → HasLong r x (length o.slots))
    (new : (x : ℕ) (o : Obj) → get r x ≡ Some o → get t x ≡ None → (((y : ℕ) × M x y × (get s y ≡ None) × HasLong l y (length o.slots)) → ⊥) → ⊥) where
  old_right : total_cells (part (known t) (entries r)) ≤ cells t
  old_right = fewer (λ x y. x ≡ y) (λ x y z e f. e ∙ sym f) (part (known t) (entries r)) (entries t) (apart_part (known t) (entries r) (all_apart r)) (λ e i not_there.
      let a = among_part (known t) (entries r) e i in
      let o = known_there t e.0 a.1 in
      let p = kept_right e.0 o.0 o.1 in
      let same : p.0 ≡ e.1 = some_eq (sym p.1 ∙ among_there r e a.0) in
      not_there (record { to = (e.0, o.0); among = there_among t e.0 o.0 o.1; related = refl; long = cells_eq e.1 o.0 (sym p.2 ∙ ap (λ (o : Obj). length o.slots) same) }))

  old_left : cells s ≤ total_cells (part (known s) (entries l))
  old_left = fewer (λ x y. x ≡ y) (λ x y z e f. e ∙ sym f) (entries s) (part (known s) (entries l)) (all_apart s) (λ e i not_there.
      let f = among_there s e i in
      let p = kept_left e.0 e.1 f in
      not_there (record { to = (e.0, p.0); among = part_among (known s) (entries l) (e.0, p.0) (there_among l e.0 p.0 p.1) (known_some s e.0 e.1 f); related = refl; long = cells_eq e.1 p.0 p.2 }))

  new_both : total_cells (part (λ x. not (known t x)) (entries r)) ≤ total_cells (part (λ x. not (known s x)) (entries l))
  new_both = fewer M one_left (part (λ x. not (known t x)) (entries r)) (part (λ x. not (known s x)) (entries l)) (apart_part (λ x. not (known t x)) (entries r) (all_apart r)) (λ e i not_there.
      let a = among_part (λ x. not (known t x)) (entries r) e i in
      new e.0 e.1 (among_there r e a.0) (unknown_none t e.0 a.1) (λ w. not_there (record {
        to = (w.0, w.3.0);
        among = part_among (λ x. not (known s x)) (entries l) (w.0, w.3.0) (there_among l w.0 w.3.0 w.3.1) (none_unknown s w.0 w.2);
        related = w.1;
        long = cells_eq e.1 w.3.0 w.3.2;
      })))

  pub grown_less : cells r + cells s ≤ cells l + cells t
  grown_less =
      let left : cells l ≡ total_cells (part (known s) (entries l)) + total_cells (part (λ x. not (known s x)) (entries l)) = total_parts (known s) (entries l) in
      let right : cells r ≡ total_cells (part (known t) (entries r)) + total_cells (part (λ x. not (known t x)) (entries r)) = total_parts (known t) (entries r) in
      omega (arith, left, right, old_left, old_right, new_both)

-- ---- paired heaps

module _ (Start : ℕ → ℕ → Type 0) (h k : Heap) (p : Paired Start h k) where
  m : Matched (IsPair Start h k) h k
  m = paired_matched Start h k p

  pub seconds_fewer : ((y : ℕ) → get k y ≢ None → (x : ℕ) × IsPair Start h k x y) → cells k ≤ cells h
  seconds_fewer to = fewer_cells (λ y x. IsPair Start h k x y) (λ x y z a b. m.one_right z x y a b) k h (λ y o e.
      let w = to y (λ n. none_some (sym n ∙ e)) in (w.0, w.1, back w.0 y o e (m.alike w.0 y w.1)))
    where
      back : (x y : ℕ) (o : Obj) → get k y ≡ Some o → AlikeAt (IsPair Start h k) (get h x) (get k y) → HasLong h x (length o.slots)
      back x y o e a = go (get h x) (get k y) refl e a
        where
          go : (a b : Option Obj) → get h x ≡ a → b ≡ Some o → AlikeAt (IsPair Start h k) a b → HasLong h x (length o.slots)
          go a b f e (alike_at {o = c} {p = d} s) = (c, f, lengths (IsPair Start h k) _ _ s.slots ∙ ap (λ (o : Obj). length o.slots) (some_eq e))

  pub firsts_fewer : ((x : ℕ) → get h x ≢ None → (y : ℕ) × IsPair Start h k x y) → cells h ≤ cells k
  firsts_fewer to = fewer_cells (IsPair Start h k) m.one_left h k (λ x o e.
      let w = to x (λ n. none_some (sym n ∙ e)) in
      (w.0, w.1, alike_long (IsPair Start h k) (get h x) (get k w.0) o (m.alike x w.0 w.1) e))
