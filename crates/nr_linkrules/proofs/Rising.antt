-- The numbers of a range that pass a test: they rise, and are just those.
use Rattle.std.proofs.Common.{◌≡◌, ℕ, zero, suc, ◌+◌, ◌<◌, ◌≤◌, Bool, true, false, cond, List, [], ◌∷◌, ap, subst, arith, inl, inr, refl}
use Rattle.std.specs.Prelude.{IsTrue, ◌==◌, ◌||◌}
use Rattle.std.specs.List.{filter, range_with_len}
use Rattle.std.proofs.lemmas.Bool.{and_from, eq-eqb, eqb-true, lt-ltb, or_cases, or_left, or_right}
use Rattle.nr_links.specs.Entries.{is_rising}
use Rattle.nr_linked.proofs.Listed.{is_listed}

pub listed_range : (a n d : ℕ) → IsTrue (is_listed d (range_with_len a n)) → (a ≤ d) × (d < a + n)
listed_range a zero d p = absurd cc
listed_range a (suc n) d p = elim (or_cases (a == d) (is_listed d (range_with_len (a + 1) n)) p) [
  | inl e ↦ let same = eqb-true a d e in (omega (arith, same), omega (arith, same))
  | inr q ↦ let r = listed_range (a + 1) n d q in (omega (arith, r.0), omega (arith, r.1))
]

pub range_listed : (a n d : ℕ) → a ≤ d → d < a + n → IsTrue (is_listed d (range_with_len a n))
range_listed a zero d le lt = absurd (omega (arith, le, lt))
range_listed a (suc n) d le lt = elim (Rattle.std.proofs.lemmas.Bool.cases_Bool (a == d)) [
  | inl e ↦ or_left (a == d) _ e
  | inr ne ↦ let apart = Rattle.std.proofs.lemmas.Bool.eqb-false a d ne in or_right (a == d) _ (range_listed (a + 1) n d (omega (arith, le, apart)) (omega (arith, lt)))
]

pub listed_filter : (f : ℕ → Bool) (xs : List ℕ) (d : ℕ) → IsTrue (is_listed d (filter f xs)) → IsTrue (f d) × IsTrue (is_listed d xs)
listed_filter f [] d p = absurd cc
listed_filter f (x ∷ xs) d p = at_head (f x) refl (listed_filter f xs d) p
  where
    at_head : (b : Bool) → f x ≡ b → (IsTrue (is_listed d (filter f xs)) → IsTrue (f d) × IsTrue (is_listed d xs)) → IsTrue (is_listed d (cond b (x ∷ filter f xs) (filter f xs))) → IsTrue (f d) × IsTrue ((x == d) || is_listed d xs)
    at_head true t more p = elim (or_cases (x == d) (is_listed d (filter f xs)) p) [
      | inl e ↦ (subst (λ d. IsTrue (f d)) (eqb-true x d e) t, or_left (x == d) (is_listed d xs) e)
      | inr q ↦ let r = more q in (r.0, or_right (x == d) (is_listed d xs) r.1)
    ]
    at_head false t more p = let r = more p in (r.0, or_right (x == d) (is_listed d xs) r.1)

pub filter_listed : (f : ℕ → Bool) (xs : List ℕ) (d : ℕ) → IsTrue (f d) → IsTrue (is_listed d xs) → IsTrue (is_listed d (filter f xs))
filter_listed f [] d t p = absurd cc
filter_listed f (x ∷ xs) d t p = at_head (f x) refl (filter_listed f xs d t)
  where
    at_head : (b : Bool) → f x ≡ b → (IsTrue (is_listed d xs) → IsTrue (is_listed d (filter f xs))) → IsTrue (is_listed d (cond b (x ∷ filter f xs) (filter f xs)))
    at_head true u more = elim (or_cases (x == d) (is_listed d xs) p) [
      | inl e ↦ or_left (x == d) (is_listed d (filter f xs)) e
      | inr q ↦ or_right (x == d) (is_listed d (filter f xs)) (more q)
    ]
    at_head false u more = elim (or_cases (x == d) (is_listed d xs) p) [
      | inl e ↦ let clash : f x ≡ f d = ap f (eqb-true x d e) in absurd cc
      | inr q ↦ more q
    ]

rising_before : (a : ℕ) (xs : List ℕ) → ((d : ℕ) → IsTrue (is_listed d xs) → a < d) → IsTrue (is_rising xs) → IsTrue (is_rising (a ∷ xs))
rising_before a [] h p = refl
rising_before a (x ∷ xs) h p = and_from _ _ (lt-ltb a x (h x (or_left (x == x) (is_listed x xs) (eq-eqb x x refl)))) p

pub rising_filter : (f : ℕ → Bool) (a n : ℕ) → IsTrue (is_rising (filter f (range_with_len a n)))
rising_filter f a zero = refl
rising_filter f a (suc n) = at_head (f a) (rising_filter f (a + 1) n)
  where
    at_head : (b : Bool) → IsTrue (is_rising (filter f (range_with_len (a + 1) n))) → IsTrue (is_rising (cond b (a ∷ filter f (range_with_len (a + 1) n)) (filter f (range_with_len (a + 1) n))))
    at_head true p = rising_before a (filter f (range_with_len (a + 1) n)) (λ d q. let r = listed_range (a + 1) n d (listed_filter f (range_with_len (a + 1) n) d q).1 in omega (arith, r.0)) p
    at_head false p = p
