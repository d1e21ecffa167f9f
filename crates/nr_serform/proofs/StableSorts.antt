-- A stable sort gives what `sorted` gives: two lists that rise, and have those that tie in one order, are one.
use Rattle.std.proofs.Common.{◌≡◌, ℕ, suc, ◌+◌, ◌<◌, Bool, true, false, cond, not, ◌&&◌, List, [], ◌∷◌, length, get_or, refl, sym, ap, ◌∙◌, subst, arith}
use Rattle.std.specs.Cmp.{IsStrictWeakOrder}
use Rattle.std.specs.List.{AllByRecursion, filter}
use Rattle.std.specs.List.Sorted.{IsSortedBy, IsStableBy, ties}
use Rattle.std.proofs.lemmas.Bool.{and_parts}
use Rattle.std.proofs.lemmas.List.Sorted.{sorted_far}
use Rattle.nr_graph.specs.Sorted.{put, sorted}

-- none is less than one before it
abbrev Rises : {X : Type 0} → (X → X → Bool) → List X → Type 0
Rises lt [] = Unit {0}
Rises lt (x ∷ xs) = AllByRecursion (λ y. lt y x ≡ false) xs × Rises lt xs

all_more : {X : Type 0} {Q R : X → Type 0} → ((x : X) → Q x → R x) → (xs : List X) → AllByRecursion Q xs → AllByRecursion R xs
all_more f [] h = tt
all_more f (x ∷ xs) h = (f x h.0, all_more f xs h.1)

all_at : {X : Type 0} (Q : X → Type 0) (xs : List X) → ((k : ℕ) (d : X) → k < length xs → Q (get_or xs k d)) → AllByRecursion Q xs
all_at Q [] h = tt
all_at Q (x ∷ xs) h = (h 0 x (omega arith), all_at Q xs (λ k d l. h (suc k) d (omega arith)))

-- of those that pass there is a first
some_of : {X : Type 0} (p : X → Bool) (Q : X → Type 0) (x : X) (rest ys : List X) → filter p ys ≡ x ∷ rest → AllByRecursion Q ys
    → (w : X) × (p w ≡ true) × Q w
some_of p Q x rest [] e h = absurd (cc)
some_of {X} p Q x rest (y ∷ ys) e h = by (λ f. some_of p Q x rest ys f h.1) (p y) refl e
  where
    by : (filter p ys ≡ x ∷ rest → (w : X) × (p w ≡ true) × Q w) → (b : Bool) → p y ≡ b → cond b (y ∷ filter p ys) (filter p ys) ≡ x ∷ rest
        → (w : X) × (p w ≡ true) × Q w
    by others true passes f = (y, passes, h.0)
    by others false apart f = others f

module _ {X : Type 0} (lt : X → X → Bool) (o : IsStrictWeakOrder lt) where
  itself : (x : X) → lt x x ≡ false
  itself x = by (lt x x) refl
    where
      by : (b : Bool) → lt x x ≡ b → lt x x ≡ false
      by true e = o.one_way x x e
      by false e = e

  ties_itself : (x : X) → ties lt x x ≡ true
  ties_itself x = λ i. not (itself x i) && not (itself x i)

  not_false : (b : Bool) → not b ≡ true → b ≡ false
  not_false true e = absurd (cc)
  not_false false e = refl

  tied : (x y : X) → ties lt x y ≡ true → (lt x y ≡ false) × (lt y x ≡ false)
  tied x y e =
      let both = and_parts (not (lt x y)) (not (lt y x)) e in
      (not_false (lt x y) both.0, not_false (lt y x) both.1)

  -- ---- a list that rises is one with each that has the same

  abbrev Same : List X → List X → Type 0
  Same xs ys = (z : X) → filter (ties lt z) xs ≡ filter (ties lt z) ys

  with_head : (z x : X) (xs : List X) (b : Bool) → ties lt z x ≡ b → filter (ties lt z) (x ∷ xs) ≡ cond b (x ∷ filter (ties lt z) xs) (filter (ties lt z) xs)
  with_head z x xs b e = λ i. cond (e i) (x ∷ filter (ties lt z) xs) (filter (ties lt z) xs)

  -- x is less than y, which is first of the others, so nothing of them ties x
  unmet : (x y : X) (xs ys : List X) → lt x y ≡ true → AllByRecursion (λ w. lt w y ≡ false) ys → Same (x ∷ xs) (y ∷ ys) → ⊥
  unmet x y xs ys less above same =
      let none : ties lt x y ≡ false = λ i. not (less i) && not (lt y x) in
      let some = some_of (ties lt x) (λ w. lt w y ≡ false) x (filter (ties lt x) xs) ys
      (sym (with_head x y ys false none) ∙ sym (same x) ∙ with_head x x xs true (ties_itself x)) above in
      let level : lt x y ≡ false = o.chain x some.0 y (tied x some.0 some.1).0 some.2 in
      cc

  turned : (xs ys : List X) → Same xs ys → Same ys xs
  turned xs ys same z = sym (same z)

  -- what is left of two lists with one head
  left : (x y : X) (xs ys : List X) → x ≡ y → Same (x ∷ xs) (y ∷ ys) → Same xs ys
  left x y xs ys e same z = by (ties lt z x) refl
    where
      by : (b : Bool) → ties lt z x ≡ b → filter (ties lt z) xs ≡ filter (ties lt z) ys
      by true passes =
          let f : x ∷ filter (ties lt z) xs ≡ y ∷ filter (ties lt z) ys =
          sym (with_head z x xs true passes) ∙ same z ∙ with_head z y ys true (subst (λ w. ties lt z w ≡ true) e passes) in
          cc
      by false apart = sym (with_head z x xs false apart) ∙ same z ∙ with_head z y ys false (subst (λ w. ties lt z w ≡ false) e apart)

  pub one_order : (xs ys : List X) → Rises lt xs → Rises lt ys → Same xs ys → xs ≡ ys
  one_order [] [] up above same = refl
  one_order [] (y ∷ ys) up above same = let e = same y ∙ with_head y y ys true (ties_itself y) in absurd (cc)
  one_order (x ∷ xs) [] up above same = let e = sym (same x) ∙ with_head x x xs true (ties_itself x) in absurd (cc)
  one_order (x ∷ xs) (y ∷ ys) up above same = by (λ e. one_order xs ys up.1 above.1 (left x y xs ys e same)) (lt x y) (lt y x) refl refl
    where
      by : (x ≡ y → xs ≡ ys) → (a b : Bool) → lt x y ≡ a → lt y x ≡ b → x ∷ xs ≡ y ∷ ys
      by others true b less f = absurd (unmet x y xs ys less above.0 same)
      by others false true e less = absurd (unmet y x ys xs less up.0 (turned (x ∷ xs) (y ∷ ys) same))
      by others false false e f =
          let passes : ties lt x y ≡ true = λ i. not (e i) && not (f i) in
          let g : x ∷ filter (ties lt x) xs ≡ y ∷ filter (ties lt x) ys =
          sym (with_head x x xs true (ties_itself x)) ∙ same x ∙ with_head x y ys true passes in
          let first : x ≡ y = cc in
          λ i. first i ∷ others first i

  -- ---- `sorted` rises, and is stable

  abbrev le : X → X → Bool
  le x y = not (lt y x)

  all_put : (Q : X → Type 0) (x : X) (ys : List X) → Q x → AllByRecursion Q ys → AllByRecursion Q (put le x ys)
  all_put Q x [] q h = (q, tt)
  all_put Q x (y ∷ ys) q h = by (all_put Q x ys q h.1) (le x y)
    where
      by : AllByRecursion Q (put le x ys) → (b : Bool) → AllByRecursion Q (cond b (x ∷ y ∷ ys) (y ∷ put le x ys))
      by others true = (q, (h.0, h.1))
      by others false = (h.0, others)

  put_rises : (x : X) (ys : List X) → Rises lt ys → Rises lt (put le x ys)
  put_rises x [] up = (tt, tt)
  put_rises x (y ∷ ys) up = by (put_rises x ys up.1) (lt y x) refl
    where
      by : Rises lt (put le x ys) → (b : Bool) → lt y x ≡ b → Rises lt (cond (not b) (x ∷ y ∷ ys) (y ∷ put le x ys))
      by others true less = (all_put (λ w. lt w y ≡ false) x ys (o.one_way y x less) up.0, others)
      by others false level = ((level, all_more (λ w h. o.chain w y x h level) ys up.0), up)

  sorted_rises : (xs : List X) → Rises lt (sorted le xs)
  sorted_rises [] = tt
  sorted_rises (x ∷ xs) = put_rises x (sorted le xs) (sorted_rises xs)

  put_keeps : (z x : X) (ys : List X) → filter (ties lt z) (put le x ys) ≡ filter (ties lt z) (x ∷ ys)
  put_keeps z x [] = refl
  put_keeps z x (y ∷ ys) = by (put_keeps z x ys) (lt y x) refl
    where
      both : lt y x ≡ true → ties lt z x ≡ true → ties lt z y ≡ true → ⊥
      both less tx ty = let level : lt y x ≡ false = o.chain y z x (tied z y ty).1 (tied z x tx).0 in cc

      past : lt y x ≡ true → (a b : Bool) → ties lt z x ≡ a → ties lt z y ≡ b → (zs : List X) → cond b (y ∷ cond a (x ∷ zs) zs) (cond a (x ∷ zs) zs) ≡ cond a (x ∷ cond b (y ∷ zs) zs) (cond b (y ∷ zs) zs)
      past less true true tx ty zs = absurd (both less tx ty)
      past less true false tx ty zs = refl
      past less false true tx ty zs = refl
      past less false false tx ty zs = refl

      by : filter (ties lt z) (put le x ys) ≡ filter (ties lt z) (x ∷ ys) → (b : Bool) → lt y x ≡ b
          → filter (ties lt z) (cond (not b) (x ∷ y ∷ ys) (y ∷ put le x ys)) ≡ filter (ties lt z) (x ∷ y ∷ ys)
      by others true less =
          ap (λ zs. cond (ties lt z y) (y ∷ zs) zs) others
          ∙ past less (ties lt z x) (ties lt z y) refl refl (filter (ties lt z) ys)
      by others false level = refl

  sorted_keeps : (xs : List X) (z : X) → filter (ties lt z) (sorted le xs) ≡ filter (ties lt z) xs
  sorted_keeps [] z = refl
  sorted_keeps (x ∷ xs) z =
      put_keeps z x (sorted le xs) ∙ ap (λ zs. cond (ties lt z x) (x ∷ zs) zs) (sorted_keeps xs z)

  -- ---- what a sort ensures

  shifted : (x : X) (xs : List X) → IsSortedBy lt (x ∷ xs) → IsSortedBy lt xs
  shifted x xs up k d low high =
      let e : suc k + 1 ≡ suc (k + 1) = omega arith in
      subst (λ j. lt (get_or (x ∷ xs) j d) (get_or xs k d) ≡ false) e (up (suc k) d (omega arith) (omega arith))

  pub rises_all : (xs : List X) → IsSortedBy lt xs → Rises lt xs
  rises_all [] up = tt
  rises_all (x ∷ xs) up =
      (all_at (λ y. lt y x ≡ false) xs (λ k d l. sorted_far lt o (x ∷ xs) up 0 (suc k) d (omega arith) (omega arith)), rises_all xs (shifted x xs up))

  pub stable_is_sorted : (xs ys : List X) (test : X → X → Bool) → ((x y : X) → test x y ≡ not (lt y x)) → IsSortedBy lt ys → IsStableBy lt xs ys
      → ys ≡ sorted test xs
  stable_is_sorted xs ys test e up stable =
      one_order ys (sorted le xs) (rises_all ys up) (sorted_rises xs) (λ z. stable z ∙ sym (sorted_keeps xs z))
      ∙ ap (λ t. sorted t xs) (λ i x y. sym (e x y) i)
