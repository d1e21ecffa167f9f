-- Where two texts begin to differ.
use Rattle.std.proofs.Common.{◌≡◌, ℕ, zero, suc, ◌+◌, ◌<◌, ◌≤◌, Bool, true, false, List, [], ◌∷◌, length, drop, get_or, refl, sym, ap, ◌∙◌, arith, ◌==◌, if◌then◌else◌}
use Rattle.std.proofs.lemmas.Bool.{eq-eqb, ne_eqb}
use Rattle.nr_serread.specs.Items.{differs_at}

pub same_here : (xs ys : List ℕ) (i : ℕ) → i < length xs → i < length ys → get_or xs i 0 ≡ get_or ys i 0 → differs_at (drop i xs) (drop i ys) ≡ suc (differs_at (drop (suc i) xs) (drop (suc i) ys))
same_here [] ys i l m e = absurd (omega (arith, l))
same_here (x ∷ xs) [] i l m e = absurd (omega (arith, m))
same_here (x ∷ xs) (y ∷ ys) zero l m e = rw (eq-eqb x y e) refl
same_here (x ∷ xs) (y ∷ ys) (suc i) l m e = same_here xs ys i (omega (arith, l)) (omega (arith, m)) e

pub other_here : (xs ys : List ℕ) (i : ℕ) → i < length xs → i < length ys → (get_or xs i 0 ≡ get_or ys i 0 → ⊥) → differs_at (drop i xs) (drop i ys) ≡ 0
other_here [] ys i l m e = absurd (omega (arith, l))
other_here (x ∷ xs) [] i l m e = absurd (omega (arith, m))
other_here (x ∷ xs) (y ∷ ys) zero l m e = rw (ne_eqb x y e) refl
other_here (x ∷ xs) (y ∷ ys) (suc i) l m e = other_here xs ys i (omega (arith, l)) (omega (arith, m)) e

pub first_over : (xs ys : List ℕ) (i : ℕ) → length xs ≤ i → differs_at (drop i xs) (drop i ys) ≡ 0
first_over [] ys zero l = refl
first_over [] ys (suc i) l = refl
first_over (x ∷ xs) ys zero l = absurd (omega (arith, l))
first_over (x ∷ xs) [] (suc i) l = by_list (drop i xs)
  where
    by_list : (zs : List ℕ) → differs_at zs [] ≡ 0
    by_list [] = refl
    by_list (z ∷ zs) = refl
first_over (x ∷ xs) (y ∷ ys) (suc i) l = first_over xs ys i (omega (arith, l))

pub second_over : (xs ys : List ℕ) (i : ℕ) → length ys ≤ i → differs_at (drop i xs) (drop i ys) ≡ 0
second_over xs [] zero l = by_list xs
  where
    by_list : (zs : List ℕ) → differs_at zs [] ≡ 0
    by_list [] = refl
    by_list (z ∷ zs) = refl
second_over xs [] (suc i) l = by_list (drop (suc i) xs)
  where
    by_list : (zs : List ℕ) → differs_at zs [] ≡ 0
    by_list [] = refl
    by_list (z ∷ zs) = refl
second_over xs (y ∷ ys) zero l = absurd (omega (arith, l))
second_over [] (y ∷ ys) (suc i) l = refl
second_over (x ∷ xs) (y ∷ ys) (suc i) l = second_over xs ys i (omega (arith, l))

pub at_most : (xs ys : List ℕ) → differs_at xs ys ≤ length xs
at_most [] ys = omega arith
at_most (x ∷ xs) [] = omega arith
at_most (x ∷ xs) (y ∷ ys) = by_test (x == y) (at_most xs ys)
  where
    by_test : (b : Bool) → differs_at xs ys ≤ length xs → (if b then suc (differs_at xs ys) else 0) ≤ suc (length xs)
    by_test true k = omega (arith, k)
    by_test false k = omega arith
