-- The measure of a work list: the weight of what is left, of the numbers below n that aren't gone.
use Rattle.std.proofs.Common.{◌≡◌, ℕ, zero, suc, ◌+◌, ◌<◌, ◌≤◌, Bool, true, false, cond, refl, ap, ◌∙◌, ◌⊎◌, inl, inr, arith}
use Rattle.std.proofs.lemmas.Bool.{cases_eq}

abbrev pub left_of : (ℕ → Bool) → (ℕ → ℕ) → ℕ → ℕ
left_of gone weight zero = 0
left_of gone weight (suc n) = left_of gone weight n + cond (gone n) 0 (weight n)

module _ (old new : ℕ → Bool) (weight : ℕ → ℕ) (r : ℕ) (others : (q : ℕ) → (q ≡ r → ⊥) → new q ≡ old q) where
  other_term : (q : ℕ) → (q ≡ r → ⊥) → cond (new q) 0 (weight q) ≡ cond (old q) 0 (weight q)
  other_term q ne = ap (λ b. cond b 0 (weight q)) (others q ne)

  above : (n : ℕ) → n ≤ r → left_of new weight n ≡ left_of old weight n
  above zero h = refl
  above (suc n) h = let a = above n (omega arith) in let t = other_term n (λ e. omega arith) in (λ j. a j + t j)

  -- where r goes too, its weight goes
  pub left_less : (n : ℕ) → r < n → old r ≡ false → new r ≡ true → left_of new weight n + weight r ≡ left_of old weight n
  left_less zero h o w = absurd (omega arith)
  left_less (suc n) h o w = by (cases_eq n r) (λ l. left_less n l o w)
    where
      by : (n ≡ r) ⊎ (n ≡ r → ⊥) → (r < n → left_of new weight n + weight r ≡ left_of old weight n) → left_of new weight (suc n) + weight r ≡ left_of old weight (suc n)
      by (inl e) _ =
          let a = above n (omega arith) in
          let t : cond (new n) 0 (weight n) ≡ 0 = ap (λ b. cond b 0 (weight n)) (ap new e ∙ w) in
          let u : cond (old n) 0 (weight n) ≡ weight n = ap (λ b. cond b 0 (weight n)) (ap old e ∙ o) in
          let l : weight n ≡ weight r = ap weight e in
          omega (arith, a, t, u, l)
      by (inr ne) rec = let i = rec (omega arith) in let t = other_term n ne in omega (arith, i, t)
