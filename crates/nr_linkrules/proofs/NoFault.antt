-- Checks that find no fault.
use Rattle.std.proofs.Common.{◌≡◌, ℕ, zero, suc, ◌+◌, Bool, true, false, List, [], ◌∷◌, ◌++◌, refl, subst, arith, not, inl, inr, ap}
use Rattle.std.specs.Prelude.{Option, Some, None, IsTrue, slice_get, ◌==◌}
use Rattle.std.specs.List.{list_any}
use Rattle.std.specs.Option.{option_or}
use Rattle.std.proofs.lemmas.Bool.{eq-eqb, or_cases, or_left, or_right}
use Rattle.std.proofs.lemmas.Option.{same_Some}
use Rattle.nr_linked.proofs.Listed.{is_listed}
use Rattle.nr_linkrules.specs.declared.fault.LinkFault.{LinkFault}
use Rattle.nr_linkrules.specs.Faults.{first_numbered, first_of, unless}

-- ---- no fault is found

pub none_or : (a b : Option LinkFault) → a ≡ None → b ≡ None → option_or a b ≡ None
none_or None b e f = f
none_or (Some x) b e f = absurd cc

pub passed : (test : Bool) (fault : LinkFault) → test ≡ true → unless test fault ≡ None
passed true fault e = refl
passed false fault e = absurd cc

pub not_so : (b : Bool) → b ≡ false → not b ≡ true
not_so b e = ap not e

pub none_numbered : {X : Type 0} (fault : ℕ → X → Option LinkFault) (n : ℕ) (xs : List X)
    → ((m k : ℕ) (x : X) → m ≡ n + k → slice_get xs k ≡ Some x → fault m x ≡ None) → first_numbered fault n xs ≡ None
unfolding first_numbered
none_numbered fault n [] h = refl
none_numbered fault n (x ∷ xs) h =
    none_or (fault n x) (first_numbered fault (n + 1) xs) (h n 0 x (omega arith) refl)
    (none_numbered fault (n + 1) xs (λ m k y e at. h m (suc k) y (omega (arith, e)) at))

pub none_of : {X : Type 0} (fault : X → Option LinkFault) (xs : List X) → ((k : ℕ) (x : X) → slice_get xs k ≡ Some x → fault x ≡ None) → first_of fault xs ≡ None
unfolding first_of
none_of fault [] h = refl
none_of fault (x ∷ xs) h = none_or (fault x) (first_of fault xs) (h 0 x refl) (none_of fault xs (λ k. h (suc k)))

-- ---- where none was found

pub both_none : (a b : Option LinkFault) → option_or a b ≡ None → (a ≡ None) × (b ≡ None)
both_none None b e = (refl, e)
both_none (Some x) b e = absurd cc

pub none_of_both : {X : Type 0} (fault : X → Option LinkFault) (xs ys : List X) → first_of fault xs ≡ None → first_of fault ys ≡ None → first_of fault (xs ++ ys) ≡ None
unfolding first_of
none_of_both fault [] ys e f = f
none_of_both fault (x ∷ xs) ys e f = let parts = both_none (fault x) (first_of fault xs) e in none_or (fault x) (first_of fault (xs ++ ys)) parts.0 (none_of_both fault xs ys parts.1 f)

pub passes : (test : Bool) (fault : LinkFault) → unless test fault ≡ None → test ≡ true
passes true fault e = refl
passes false fault e = absurd cc

pub is_false : (b : Bool) → not b ≡ true → b ≡ false
is_false true e = absurd cc
is_false false e = refl

pub each_numbered : {X : Type 0} (fault : ℕ → X → Option LinkFault) (n : ℕ) (xs : List X) → first_numbered fault n xs ≡ None
    → (m k : ℕ) (x : X) → m ≡ n + k → slice_get xs k ≡ Some x → fault m x ≡ None
unfolding first_numbered
each_numbered fault n [] e m k x is at = absurd cc
each_numbered fault n (y ∷ xs) e m zero x is at =
    let same = same_Some y x at in
    let place : n ≡ m = omega (arith, is) in
    subst (λ m. fault m x ≡ None) place (subst (λ x. fault n x ≡ None) same (both_none (fault n y) (first_numbered fault (n + 1) xs) e).0)
each_numbered fault n (y ∷ xs) e m (suc k) x is at = each_numbered fault (n + 1) xs (both_none (fault n y) (first_numbered fault (n + 1) xs) e).1 m k x (omega (arith, is)) at

pub each_of : {X : Type 0} (fault : X → Option LinkFault) (xs : List X) → first_of fault xs ≡ None → (k : ℕ) (x : X) → slice_get xs k ≡ Some x → fault x ≡ None
unfolding first_of
each_of fault [] e k x at = absurd cc
each_of fault (y ∷ xs) e zero x at = subst (λ x. fault x ≡ None) (same_Some y x at) (both_none (fault y) (first_of fault xs) e).0
each_of fault (y ∷ xs) e (suc k) x at = each_of fault xs (both_none (fault y) (first_of fault xs) e).1 k x at

-- ---- what passes a test of some

pub any_at : {X : Type 0} (p : X → Bool) (xs : List X) → IsTrue (list_any p xs) → (k : ℕ) × (x : X) × (slice_get xs k ≡ Some x) × IsTrue (p x)
any_at p [] h = absurd cc
any_at p (x ∷ xs) h = elim (or_cases (p x) (list_any p xs) h) [
  | inl q ↦ (0, x, refl, q)
  | inr q ↦ let r = any_at p xs q in (suc r.0, r.1, r.2, r.3)
]

pub listed_at : (xs : List ℕ) (k x : ℕ) → slice_get xs k ≡ Some x → IsTrue (is_listed x xs)
listed_at [] k x at = absurd cc
listed_at (y ∷ xs) zero x at = or_left (y == x) (is_listed x xs) (eq-eqb y x (same_Some y x at))
listed_at (y ∷ xs) (suc k) x at = or_right (y == x) (is_listed x xs) (listed_at xs k x at)
