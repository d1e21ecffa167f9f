-- A loop that reads until nothing is left.
use Rattle.std.proofs.Common.{◌≡◌, ℕ, zero, suc, ◌-◌, ◌≤◌, Bool, length, Result, Ok, Err, refl, sym, ap, ◌∙◌, arith, inl, inr}
use Rattle.std.proofs.lemmas.Bool.{eq-eqb, ne_eqb, cases_eq}
use Rattle.nr_base.specs.Place.{Place}
use Rattle.nr_base.specs.Reader.{Reader, after, until, to_end, Advances}
use Rattle.nr_base.specs.Clauses.{Fails}
use Rattle.nr_base.proofs.Exits.{fails_on}

-- what is read at the end
pub at_end : {S F : Type 0} (step : S → Reader F S) (k : ℕ) (s : S) (p : Place) → length p.rest ≡ 0 → until step k s p ≡ Ok (s, p)
unfolding until
at_end step zero s p e = refl
at_end step (suc k) s p e = rw (eq-eqb (length p.rest) 0 e) refl

-- one step before the end
pub one : {S F : Type 0} (step : S → Reader F S) (k : ℕ) (s : S) (p : Place) → (length p.rest ≡ 0 → ⊥) → until step (suc k) s p ≡ after (step s p) (λ t. until step k t)
unfolding until
one step k s p ne = rw (ne_eqb (length p.rest) 0 ne) refl

same_after : {S F : Type 0} (step : S → Reader F S) (k j : ℕ) (r : Result (S × Place) F) → ((t : S) (q : Place) → r ≡ Ok (t, q) → until step k t q ≡ until step j t q) → after r (λ t. until step k t) ≡ after r (λ t. until step j t)
same_after step k j (Ok x) h = h x.0 x.1 refl
same_after step k j (Err f) h = refl

-- more times than there are bytes change nothing
enough : {S F : Type 0} (step : S → Reader F S) → Advances step → (k j : ℕ) (s : S) (p : Place) → length p.rest ≤ k → length p.rest ≤ j → until step k s p ≡ until step j s p
enough step adv zero j s p lk lj = at_end step zero s p (omega arith) ∙ sym (at_end step j s p (omega arith))
enough step adv (suc k) zero s p lk lj = at_end step (suc k) s p (omega arith) ∙ sym (at_end step zero s p (omega arith))
enough step adv (suc k) (suc j) s p lk lj =
    elim (cases_eq (length p.rest) 0) [
      | inl e ↦ at_end step (suc k) s p e ∙ sym (at_end step (suc j) s p e)
      | inr ne ↦ one step k s p ne ∙ same_after step k j (step s p) (λ t q e. let less = adv s t p q e in enough step adv k j t q (omega (arith, less)) (omega (arith, less))) ∙ sym (one step j s p ne)
    ]

-- the next step, for a place that is not the end
next : {S F : Type 0} (step : S → Reader F S) → Advances step → (k : ℕ) (s t : S) (p q : Place) → length p.rest ≡ suc k → step s p ≡ Ok (t, q) → until step (suc k) s p ≡ until step (length q.rest) t q
next step adv k s t p q len e =
    let less = adv s t p q e in
    one step k s p (λ z. omega arith) ∙ (ap (λ r. after r (λ u. until step k u)) e ∙ enough step adv k (length q.rest) t q (omega (arith, less)) (omega arith))

pub goes_on_to_end : {S F : Type 0} (step : S → Reader F S) → Advances step → (s t : S) (p q : Place) (total : Result (S × Place) F) → (length p.rest ≡ 0 → ⊥) → step s p ≡ Ok (t, q) → to_end step s p ≡ total → to_end step t q ≡ total
unfolding to_end
goes_on_to_end step adv s t p q total ne e so_far =
    let k : length p.rest ≡ suc (length p.rest - 1) = omega arith in
    sym (ap (λ n. until step n s p) k ∙ next step adv (length p.rest - 1) s t p q k e) ∙ so_far

pub stops_to_end : {S F : Type 0} (step : S → Reader F S) (s : S) (p : Place) (d : F) (total : Result (S × Place) F) → (length p.rest ≡ 0 → ⊥) → step s p ≡ Err d → to_end step s p ≡ total → total ≡ Err d
unfolding to_end
stops_to_end step s p d total ne e so_far =
    let k : length p.rest ≡ suc (length p.rest - 1) = omega arith in
    sym so_far ∙ (ap (λ n. until step n s p) k ∙ (one step (length p.rest - 1) s p ne ∙ ap (λ r. after r (λ u. until step (length p.rest - 1) u)) e))

pub ends : {S F : Type 0} (step : S → Reader F S) (s : S) (p : Place) (total : Result (S × Place) F) → length p.rest ≡ 0 → to_end step s p ≡ total → total ≡ Ok (s, p)
unfolding to_end
ends step s p total e so_far = sym so_far ∙ at_end step (length p.rest) s p e

-- the same as `stops_to_end`, for a step that may fail for want of memory too
pub fails_to_end : {S F : Type 0} (is_free : F → Bool) (step : S → Reader F S) (s : S) (p : Place) (d : F) (total : Result (S × Place) F) → (length p.rest ≡ 0 → ⊥) → Fails is_free d (step s p) → to_end step s p ≡ total → Fails is_free d total
fails_to_end is_free step s p d total ne f so_far =
    fails_on is_free d (step s p) total (λ e. stops_to_end step s p d total ne e so_far) f
