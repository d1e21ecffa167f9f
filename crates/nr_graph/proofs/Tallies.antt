-- How many elements of a list pass a test, whatever their order.
use Rattle.std.proofs.Common.{◌≡◌, ℕ, zero, suc, ◌+◌, Bool, true, false, not, cond, List, [], ◌∷◌, ◌++◌, length, reverse, refl, sym, ap, ◌∙◌, ◌⊎◌, inl, inr, if◌then◌else◌, arith}
use Rattle.std.specs.Prelude.{Some, slice_get, ◌==◌}
use Rattle.std.specs.List.{filter}
use Rattle.std.proofs.lemmas.Bool.{cases_eq, eq-eqb, ne_eqb}
use Rattle.std.proofs.lemmas.List.{reverse-append}
use Rattle.nr_model.specs.Heaps.{EachOnce, Has}
use Rattle.nr_model.proofs.Paths.{none_some, some_eq}
use Rattle.nr_graph.specs.Sorted.{put, sorted}

-- one where the test passes
abbrev pub one_if : Bool → ℕ
one_if b = cond b 1 0

abbrev pub tally : {A : Type 0} → (A → Bool) → List A → ℕ
tally p [] = 0
tally p (x ∷ xs) = one_if (p x) + tally p xs

module _ {A : Type 0} (p : A → Bool) where
  pub tally_both : (xs ys : List A) → tally p (xs ++ ys) ≡ tally p xs + tally p ys
  tally_both [] ys = omega arith
  tally_both (x ∷ xs) ys = let r = tally_both xs ys in omega (arith, r)

  pub tally_reverse : (xs : List A) → tally p (reverse xs) ≡ tally p xs
  tally_reverse [] = refl
  tally_reverse (x ∷ xs) =
      let r = tally_reverse xs in
      let b = ap (tally p) (reverse-append (x ∷ []) xs) ∙ tally_both (reverse xs) (x ∷ []) in
      omega (arith, r, b)

  module _ (le : A → A → Bool) where
    pub tally_put : (x : A) (ys : List A) → tally p (put le x ys) ≡ tally p (x ∷ ys)
    tally_put x [] = refl
    tally_put x (y ∷ ys) = by (le x y) (tally_put x ys)
      where
        by : (b : Bool) → tally p (put le x ys) ≡ tally p (x ∷ ys) → tally p (if b then x ∷ y ∷ ys else y ∷ put le x ys) ≡ tally p (x ∷ y ∷ ys)
        by true r = refl
        by false r = omega (arith, r)

    pub tally_sorted : (xs : List A) → tally p (sorted le xs) ≡ tally p xs
    tally_sorted [] = refl
    tally_sorted (x ∷ xs) = let r = tally_sorted xs in let q = tally_put x (sorted le xs) in omega (arith, r, q)

  -- those that pass a second test, and those that don't
  pub tally_parts : (q : A → Bool) (xs : List A) → tally p (filter (λ x. not (q x)) xs) + tally p (filter q xs) ≡ tally p xs
  tally_parts q [] = omega arith
  tally_parts q (x ∷ xs) = by (q x) (tally_parts q xs)
    where
      by : (b : Bool) → tally p (filter (λ x. not (q x)) xs) + tally p (filter q xs) ≡ tally p xs
          → tally p (cond (not b) (x ∷ filter (λ x. not (q x)) xs) (filter (λ x. not (q x)) xs)) + tally p (cond b (x ∷ filter q xs) (filter q xs)) ≡ tally p (x ∷ xs)
      by true r = omega (arith, r)
      by false r = omega (arith, r)

  -- ---- parts that classes take, one class for each element

  module _ (is : ℕ → A → Bool) where
    abbrev pub in_parts : List A → List ℕ → ℕ
    in_parts xs [] = 0
    in_parts xs (d ∷ ds) = tally p (filter (is d) xs) + in_parts xs ds

    in_none : (ds : List ℕ) → in_parts [] ds ≡ 0
    in_none [] = refl
    in_none (d ∷ ds) = let r = in_none ds in omega (arith, r)

    -- what one element adds
    abbrev adds : A → List ℕ → ℕ
    adds x [] = 0
    adds x (d ∷ ds) = cond (is d x) (one_if (p x)) 0 + adds x ds

    one_adds : (x : A) (ds : List ℕ) → tally (λ d. is d x) ds ≡ 1 → adds x ds ≡ one_if (p x)
    one_adds x [] e = absurd (omega (arith, e))
    one_adds x (d ∷ ds) e = by (is d x) e (one_adds x ds)
      where
        none : (ds : List ℕ) → tally (λ d. is d x) ds ≡ 0 → adds x ds ≡ 0
        none [] e = refl
        none (d ∷ ds) e = at (is d x) e (none ds)
          where
            at : (b : Bool) → one_if b + tally (λ d. is d x) ds ≡ 0 → (tally (λ d. is d x) ds ≡ 0 → adds x ds ≡ 0) → cond b (one_if (p x)) 0 + adds x ds ≡ 0
            at true e r = absurd (omega (arith, e))
            at false e r = let z = r (omega (arith, e)) in omega (arith, z)

        by : (b : Bool) → one_if b + tally (λ d. is d x) ds ≡ 1 → (tally (λ d. is d x) ds ≡ 1 → adds x ds ≡ one_if (p x)) → cond b (one_if (p x)) 0 + adds x ds ≡ one_if (p x)
        by true e r = let z = none ds (omega (arith, e)) in omega (arith, z)
        by false e r = let z = r (omega (arith, e)) in omega (arith, z)

    one_more : (x : A) (xs : List A) (ds : List ℕ) → in_parts (x ∷ xs) ds ≡ adds x ds + in_parts xs ds
    one_more x xs [] = omega arith
    one_more x xs (d ∷ ds) = by (is d x) (one_more x xs ds)
      where
        by : (b : Bool) → in_parts (x ∷ xs) ds ≡ adds x ds + in_parts xs ds
            → tally p (cond b (x ∷ filter (is d) xs) (filter (is d) xs)) + in_parts (x ∷ xs) ds ≡ cond b (one_if (p x)) 0 + adds x ds + (tally p (filter (is d) xs) + in_parts xs ds)
        by true r = omega (arith, r)
        by false r = omega (arith, r)

    -- where each element is in just one of the parts, the parts have all
    pub all_in_parts : (ds : List ℕ) (xs : List A) → ((i : ℕ) (x : A) → slice_get xs i ≡ Some x → tally (λ d. is d x) ds ≡ 1) → in_parts xs ds ≡ tally p xs
    all_in_parts ds [] each = in_none ds
    all_in_parts ds (x ∷ xs) each =
        let m = one_more x xs ds in
        let a = one_adds x ds (each zero x refl) in
        let r = all_in_parts ds xs (λ i y e. each (suc i) y e) in
        omega (arith, m, a, r)

pub tally_all : {A : Type 0} (xs : List A) → tally (λ x. true) xs ≡ length xs
tally_all [] = refl
tally_all (x ∷ xs) = let r = tally_all xs in omega (arith, r)

-- a name that a list has, each once, passes once
pub tally_once : (xs : List ℕ) (x : ℕ) → EachOnce xs → Has xs x → tally (λ d. x == d) xs ≡ 1
tally_once [] x once h = absurd (none_some h.1)
tally_once (y ∷ ys) x once h = by (cases_eq x y) h (tally_once ys x (λ j k z f g. less (once (suc j) (suc k) z f g)))
  where
    less : {j k : ℕ} → suc j ≡ suc k → j ≡ k
    less e = omega (arith, e)

    later : (zs : List ℕ) → ((i : ℕ) → slice_get zs i ≡ Some x → ⊥) → tally (λ d. x == d) zs ≡ 0
    later [] none = refl
    later (z ∷ zs) none =
        let here : (x == z) ≡ false = ne_eqb x z (λ e. none zero (ap Some (sym e))) in
        let r = later zs (λ i f. none (suc i) f) in
        ap (λ b. one_if b + tally (λ d. x == d) zs) here ∙ omega (arith, r)

    apart : {i : ℕ} → zero ≡ suc i → ⊥
    apart e = absurd (omega (arith, e))

    by : (x ≡ y) ⊎ (x ≡ y → ⊥) → Has (y ∷ ys) x → (Has ys x → tally (λ d. x == d) ys ≡ 1) → tally (λ d. x == d) (y ∷ ys) ≡ 1
    by (inl e) h rest =
        let r = later ys (λ i f. apart (once zero (suc i) x (ap Some (sym e)) f)) in
        ap (λ b. one_if b + tally (λ d. x == d) ys) (eq-eqb x y e) ∙ omega (arith, r)
    by (inr ne) (zero, e) rest = absurd (ne (sym (some_eq e)))
    by (inr ne) (suc i, e) rest =
        let r = rest (i, e) in
        ap (λ b. one_if b + tally (λ d. x == d) ys) (ne_eqb x y ne) ∙ omega (arith, r)
