-- Elements of lists, by tests and by places.
use Rattle.std.proofs.Common.{◌≡◌, ℕ, zero, suc, ◌<◌, ◌⊎◌, inl, inr, Bool, true, List, [], ◌∷◌, ◌++◌, sym, subst, arith, ◌&&◌}
use Rattle.std.specs.Prelude.{Some, IsTrue, slice_get, Contains, ◌==◌}
use Rattle.std.specs.List.{list_any, list_all}
use Rattle.std.proofs.lemmas.Bool.{and_parts, eq-eqb, eqb-true, or_cases, or_left, or_right}

-- ---- numbers in a list

abbrev pub is_listed : ℕ → List ℕ → Bool
is_listed d xs = list_any (λ s. s == d) xs

pub listed_append : (d : ℕ) (xs ys : List ℕ) → IsTrue (is_listed d (xs ++ ys)) → IsTrue (is_listed d xs) ⊎ IsTrue (is_listed d ys)
listed_append d [] ys e = inr e
listed_append d (x ∷ xs) ys e = elim (or_cases (x == d) (is_listed d (xs ++ ys)) e) [
  | inl p ↦ inl (or_left (x == d) (is_listed d xs) p)
  | inr q ↦ elim (listed_append d xs ys q) [ inl r ↦ inl (or_right (x == d) (is_listed d xs) r) | inr r ↦ inr r ]
]

pub listed_all : (f : ℕ → Bool) (d : ℕ) (xs : List ℕ) → IsTrue (is_listed d xs) → IsTrue (list_all f xs) → IsTrue (f d)
listed_all f d [] p q = absurd cc
listed_all f d (x ∷ xs) p q = let both = and_parts (f x) (list_all f xs) q in elim (or_cases (x == d) (is_listed d xs) p) [
  | inl e ↦ subst (λ d. IsTrue (f d)) (eqb-true x d e) both.0
  | inr e ↦ listed_all f d xs e both.1
]

pub listed_contains : (d : ℕ) (xs : List ℕ) → Contains xs d → IsTrue (is_listed d xs)
listed_contains d [] (k, l, e) = absurd (omega arith)
listed_contains d (x ∷ xs) (zero, l, e) = or_left (x == d) (is_listed d xs) (eq-eqb x d e)
listed_contains d (x ∷ xs) (suc k, l, e) = or_right (x == d) (is_listed d xs) (listed_contains d xs (k, omega arith, e))

pub contains_listed : (d : ℕ) (xs : List ℕ) → IsTrue (is_listed d xs) → Contains xs d
contains_listed d [] p = absurd cc
contains_listed d (x ∷ xs) p = elim (or_cases (x == d) (is_listed d xs) p) [
  | inl e ↦ (0, omega arith, eqb-true x d e)
  | inr e ↦ let c = contains_listed d xs e in (suc c.0, omega (arith, c.1), c.2)
]

-- ---- all numbers below a bound

abbrev pub all_below : ℕ → (ℕ → Bool) → Bool
all_below zero f = true
all_below (suc n) f = f n && all_below n f

pub at_below : (n : ℕ) (f : ℕ → Bool) → IsTrue (all_below n f) → (k : ℕ) → k < n → IsTrue (f k)
at_below zero f p k l = absurd (omega arith)
at_below (suc n) f p k l = let both = and_parts (f n) (all_below n f) p in elim (last k n l) [
  | inl e ↦ subst (λ k. IsTrue (f k)) (sym e) both.0
  | inr q ↦ at_below n f both.1 k q
]
  where
    last : (k n : ℕ) → k < suc n → (k ≡ n) ⊎ (k < n)
    last k n l = grind arith

-- ---- what holds at each place

abbrev pub AtEach : {X : Type 0} → (ℕ → X → Type 0) → List X → Type 0
AtEach P [] = Unit {0}
AtEach P (x ∷ xs) = P 0 x × AtEach (λ k. P (suc k)) xs

pub at_place : {X : Type 0} (P : ℕ → X → Type 0) (xs : List X) (k : ℕ) (x : X) → AtEach P xs → slice_get xs k ≡ Some x → P k x
at_place P [] k x all e = absurd (cc)
at_place P (y ∷ xs) zero x all e = let same : y ≡ x = cc in subst (P 0) same all.0
at_place P (y ∷ xs) (suc k) x all e = at_place (λ k. P (suc k)) xs k x all.1 e
