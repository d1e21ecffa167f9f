-- A step that is made so many times, as a loop over a count makes it. `total` is what the whole loop
-- gives, and `i` counts the steps that were made.
use Rattle.std.proofs.Common.{◌≡◌, ℕ, suc, ◌-◌, ◌+◌, ◌≤◌, ◌<◌, Bool, Result, Ok, Err, refl, sym, ◌∙◌, arith}
use Rattle.nr_base.specs.Place.{Place}
use Rattle.nr_base.specs.Reader.{bind, pure, times}
use Rattle.nr_base.specs.Clauses.{Fails}
use Rattle.nr_base.proofs.Exits.{fails_on}

pub goes_on : {S F : Type 0} (step : S → Place → Result (S × Place) F) (count i : ℕ) (s t : S) (p q : Place) (total : Result (S × Place) F) → i < count → step s p ≡ Ok (t, q)
    → times step (count - i) s p ≡ total → times step (count - (i + 1)) t q ≡ total
unfolding times bind pure
goes_on step count i s t p q total lt h so_far =
    let k : count - i ≡ suc (count - (i + 1)) = omega arith in
    let one : times step (count - i) s p ≡ times step (count - (i + 1)) t q = rw (k, h) refl in
    sym one ∙ so_far

pub stops : {S F : Type 0} (step : S → Place → Result (S × Place) F) (count i : ℕ) (s : S) (p : Place) (e : F) (total : Result (S × Place) F) → i < count → step s p ≡ Err e
    → times step (count - i) s p ≡ total → total ≡ Err e
unfolding times bind pure
stops step count i s p e total lt h so_far =
    let k : count - i ≡ suc (count - (i + 1)) = omega arith in
    let one : times step (count - i) s p ≡ Err e = rw (k, h) refl in
    sym so_far ∙ one

pub is_done : {S F : Type 0} (step : S → Place → Result (S × Place) F) (count i : ℕ) (s : S) (p : Place) (total : Result (S × Place) F) → count ≤ i
    → times step (count - i) s p ≡ total → total ≡ Ok (s, p)
unfolding times bind pure
is_done step count i s p total le so_far =
    let k : count - i ≡ 0 = omega arith in
    let one : times step (count - i) s p ≡ Ok (s, p) = rw k refl in
    sym so_far ∙ one

-- the same as `stops`, for a step that may fail for want of memory too
pub fails_in : {S F : Type 0} (is_free : F → Bool) (step : S → Place → Result (S × Place) F) (count i : ℕ) (s : S) (p : Place) (e : F) (total : Result (S × Place) F) → i < count → Fails is_free e (step s p)
    → times step (count - i) s p ≡ total → Fails is_free e total
fails_in is_free step count i s p e total lt f so_far =
    fails_on is_free e (step s p) total (λ h. stops step count i s p e total lt h so_far) f
