-- Instructions that are read one behind the other stand in the order of their offsets, and a search among them finds what is there.
use Rattle.std.proofs.Common.{◌≡◌, ℕ, zero, suc, ◌+◌, ◌<◌, ◌≤◌, Bool, true, false, ◌&&◌, eqb, List, [], ◌∷◌, length, get_or, map, eq-eqb, Result, Ok, Err, refl, sym, ap, ◌∙◌, inl, inr, arith}
use Rattle.std.specs.Prelude.{◌⊎◌}
use Rattle.std.specs.List.{list_any}
use Rattle.std.specs.List.Sorted.{IsBinarySearchResult, IsSearchInRange, IsNonDecreasingBy}
use Rattle.std.specs.Ordering.{nat_cmp, ordering_index}
use Rattle.std.specs.Result.{is_ok}
use Rattle.std.proofs.lemmas.Cmp.{ranked}
use Rattle.std.proofs.lemmas.Bool.{cases_eq, cases_lt}
use Rattle.std.proofs.lemmas.Bool.Decides.{nat_tests}
use Rattle.std.proofs.lemmas.List.{get_or-map, length-map}
use Rattle.std.proofs.lemmas.List.Elements.{All-from_get_or, All-from_all_within}
use Rattle.std.proofs.lemmas.List.Folds.{list_any_at, list_any_none}
use Rattle.nr_base.proofs.ClassNames.{and_true}
use Rattle.nr_prog.specs.Offsets.{IsAscendingBy}
use Rattle.nr_instrs.proofs.ToEnd.{EachAt}

-- ---- what is read is in order

-- each item knows its offset, and takes a byte or more
abbrev pub IsPlacedBy : {A : Type 0} → (A → ℕ) → (ℕ → A → List ℕ → Type 0) → Type 0
IsPlacedBy {A} key G = (at : ℕ) (x : A) (text : List ℕ) → G at x text → (key x ≡ at) × (0 < length text)

module _ {A : Type 0} (key : A → ℕ) (G : ℕ → A → List ℕ → Type 0) (placed : IsPlacedBy key G) where
  from_on : (at : ℕ) (xs : List A) (text : List ℕ) → EachAt G at xs text → (i : ℕ) (d : A) → i < length xs → at ≤ key (get_or xs i d)
  from_on at [] text g i d lt = absurd (omega arith)
  from_on at (x ∷ xs) text g zero d lt = let p = placed at x g.0 g.2 in omega (arith, p.0)
  from_on at (x ∷ xs) text g (suc i) d lt = omega (arith, from_on (at + length g.0) xs g.1 g.3 i d (omega arith))

  pub ascends : (at : ℕ) (xs : List A) (text : List ℕ) → EachAt G at xs text → IsAscendingBy key xs
  ascends at [] text g i j d lt within = absurd (omega arith)
  ascends at (x ∷ xs) text g i zero d lt within = absurd (omega arith)
  ascends at (x ∷ xs) text g zero (suc j) d lt within = let p = placed at x g.0 g.2 in omega (arith, p.0, p.1, from_on (at + length g.0) xs g.1 g.3 j d (omega arith))
  ascends at (x ∷ xs) text g (suc i) (suc j) d lt within = ascends (at + length g.0) xs g.1 g.3 i j d (omega arith) (omega arith)

-- the offsets alone

pub keys_ascend : {A : Type 0} (key : A → ℕ) (xs : List A) → IsAscendingBy key xs → IsAscendingBy (λ (n : ℕ). n) (map key xs)
keys_ascend key [] ascending i j d lt within = absurd (omega arith)
keys_ascend key (x ∷ xs) ascending i j d lt within =
    let size : j < length (x ∷ xs) = simp length-map at within in
    rw (get_or-map key (x ∷ xs) i x d (omega arith), get_or-map key (x ∷ xs) j x d size) (ascending i j x lt size)

-- ---- what a search finds

and_false : (a b : Bool) → (a ≡ false) ⊎ (b ≡ false) → (a && b) ≡ false
and_false a b h = grind (arith, nat_tests, h)

any_at : {X : Type 0} (p : X → Bool) (xs : List X) (i : ℕ) → i < length xs → ((d : X) → p (get_or xs i d) ≡ true) → list_any p xs ≡ true
any_at p [] i lt h = absurd (omega arith)
any_at p (x ∷ xs) i lt h = list_any_at p (x ∷ xs) i x lt (h x)

module _ {X : Type 0} (key : X → ℕ) (xs : List X) (ascending : IsAscendingBy key xs) (t : ℕ) where
  rises : IsNonDecreasingBy (λ x. ordering_index (nat_cmp (key x) t)) xs
  rises i j d le within =
      let keys : key (get_or xs i d) ≤ key (get_or xs j d) = grind (arith, ascending i j d, λ (same : i ≡ j). ap (λ k. key (get_or xs k d)) same) in
      grind (arith, nat_tests)

  differs : (i k : ℕ) (d : X) → i < length xs → k < length xs → key (get_or xs i d) ≡ t → (k ≡ i → ⊥) → eqb (key (get_or xs k d)) t ≡ false
  differs i k d within other is ne =
      elim (cases_lt k i) [
        | inl below ↦ grind (arith, nat_tests, ascending k i d below within)
        | inr up ↦ grind (arith, nat_tests, ascending i k d (omega (arith, ne)) other)
      ]

  found_by : (test : X → Bool) (i : ℕ) (d : X) → i < length xs → key (get_or xs i d) ≡ t → (b : Bool) → test (get_or xs i d) ≡ b → list_any (λ x. eqb (key x) t && test x) xs ≡ b
  found_by test i d within is true e = list_any_at (λ x. eqb (key x) t && test x) xs i d within (and_true (eqb (key (get_or xs i d)) t) (test (get_or xs i d)) (eq-eqb (key (get_or xs i d)) t is) e)
  found_by test i d within is false e = list_any_none (λ x. eqb (key x) t && test x) xs (All-from_get_or (λ x. (eqb (key x) t && test x) ≡ false) xs d (λ k other.
      elim (cases_eq k i) [
        | inl same ↦ and_false (eqb (key (get_or xs k d)) t) (test (get_or xs k d)) (inr (ap (λ n. test (get_or xs n d)) same ∙ e))
        | inr ne ↦ and_false (eqb (key (get_or xs k d)) t) (test (get_or xs k d)) (inl (differs i k d within other is ne))
      ]))

  -- where an item of this offset stands, it alone is asked
  pub found : (test : X → Bool) (i : ℕ) (d : X) → i < length xs → key (get_or xs i d) ≡ t → list_any (λ x. eqb (key x) t && test x) xs ≡ test (get_or xs i d)
  found test i d within is = found_by test i d within is (test (get_or xs i d)) refl

  absent : (i : ℕ) → IsBinarySearchResult (λ x. nat_cmp (key x) t) xs (Err i) → (k : ℕ) (d : X) → k < length xs → eqb (key (get_or xs k d)) t ≡ false
  absent i parted k d within =
      elim (cases_lt k i) [
        | inl below ↦ let h = ranked (key (get_or xs k d)) t _ (sym ((parted rises).0 k d (omega arith) below)) in grind (arith, nat_tests, h)
        | inr up ↦ let h = ranked (key (get_or xs k d)) t _ (sym ((parted rises).1 k d up within)) in grind (arith, nat_tests, h)
      ]

  -- where the search finds none, there is none
  pub missed : (test : X → Bool) (i : ℕ) → IsBinarySearchResult (λ x. nat_cmp (key x) t) xs (Err i) → list_any (λ x. eqb (key x) t && test x) xs ≡ false
  missed test i parted = list_any_none (λ x. eqb (key x) t && test x) xs (All-from_all_within (λ x. (eqb (key x) t && test x) ≡ false) xs (λ k d low within.
      and_false (eqb (key (get_or xs k d)) t) (test (get_or xs k d)) (inl (absent i parted k d within))))

  pub tells : (r : Result ℕ ℕ) → IsSearchInRange r (length xs) → IsBinarySearchResult (λ x. nat_cmp (key x) t) xs r → is_ok r ≡ list_any (λ x. eqb (key x) t) xs
  tells (Ok i) within equal = sym (any_at (λ x. eqb (key x) t) xs i within (λ d. eq-eqb (key (get_or xs i d)) t (ranked (key (get_or xs i d)) t _ (sym (equal d)))))
  tells (Err i) within parted = sym (list_any_none (λ x. eqb (key x) t) xs (All-from_all_within (λ x. eqb (key x) t ≡ false) xs (λ k d low within. absent i parted k d within)))
