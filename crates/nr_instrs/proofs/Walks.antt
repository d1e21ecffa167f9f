-- A loop that goes from state to state over a list: `total` is what the whole walk gives, and i counts the items that
-- were passed.
use Rattle.std.proofs.Common.{◌≡◌, ℕ, ◌+◌, ◌<◌, ◌≤◌, Bool, List, ◌∷◌, length, get_or, drop, Result, Ok, Err, refl, sym, ap, ◌∙◌, add-one, drop-cons}
use Rattle.std.proofs.lemmas.List.{drop_all, nil_from_length}
use Rattle.nr_base.specs.Clauses.{Fails}
use Rattle.nr_base.proofs.Exits.{fails_on}
use Rattle.nr_instrs.specs.declared.fault.CodeFault.{CodeFault}
use Rattle.nr_instrs.specs.Faults.{is_free as is_code_free}
use Rattle.nr_instrs.specs.Checks.{then_on, walk}

one : {S X F : Type 0} (step : S → X → Result S F) (i : ℕ) (s : S) (xs : List X) (d : X) → i < length xs
    → walk step s (drop i xs) ≡ then_on (step s (get_or xs i d)) (λ t. walk step t (drop (i + 1) xs))
unfolding walk
one step i s xs d lt = rw (drop-cons xs i d lt, add-one i) refl

pub goes_on : {S X F : Type 0} (step : S → X → Result S F) (i : ℕ) (s t : S) (xs : List X) (d : X) (total : Result S F) → i < length xs
    → step s (get_or xs i d) ≡ Ok t → walk step s (drop i xs) ≡ total → walk step t (drop (i + 1) xs) ≡ total
goes_on step i s t xs d total lt e so_far =
    sym (ap (λ r. then_on r (λ t. walk step t (drop (i + 1) xs))) e) ∙ sym (one step i s xs d lt) ∙ so_far

stops : {S X F : Type 0} (step : S → X → Result S F) (i : ℕ) (s : S) (xs : List X) (d : X) (total : Result S F) (e : F) → i < length xs
    → step s (get_or xs i d) ≡ Err e → walk step s (drop i xs) ≡ total → total ≡ Err e
stops step i s xs d total e lt h so_far =
    sym so_far ∙ one step i s xs d lt ∙ ap (λ r. then_on r (λ t. walk step t (drop (i + 1) xs))) h

pub fails_by : {S X F : Type 0} (is_free : F → Bool) (step : S → X → Result S F) (i : ℕ) (s : S) (xs : List X) (d : X) (total : Result S F) (e : F) → i < length xs
    → Fails is_free e (step s (get_or xs i d)) → walk step s (drop i xs) ≡ total → Fails is_free e total
fails_by is_free step i s xs d total e lt f so_far = fails_on is_free e (step s (get_or xs i d)) total (λ h. stops step i s xs d total e lt h so_far) f

pub ends : {S X F : Type 0} (step : S → X → Result S F) (i : ℕ) (s : S) (xs : List X) (total : Result S F) → length xs ≤ i
    → walk step s (drop i xs) ≡ total → total ≡ Ok s
unfolding walk
ends step i s xs total le so_far = sym so_far ∙ rw (drop_all i xs le) refl

pub fails_in : {S X : Type 0} (step : S → X → Result S CodeFault) (i : ℕ) (s : S) (xs : List X) (d : X) (total : Result S CodeFault) (e : CodeFault) → i < length xs
    → Fails is_code_free e (step s (get_or xs i d)) → walk step s (drop i xs) ≡ total → Fails is_code_free e total
fails_in step i s xs d total e lt f so_far = fails_by is_code_free step i s xs d total e lt f so_far

-- ---- the same of a loop that takes the items one by one

pub goes_past : {S X F : Type 0} (step : S → X → Result S F) (s t : S) (x : X) (all rest : List X) (total : Result S F) → all ≡ x ∷ rest
    → step s x ≡ Ok t → walk step s all ≡ total → walk step t rest ≡ total
unfolding walk
goes_past step s t x all rest total is e so_far =
    sym (ap (walk step s) is ∙ ap (λ r. then_on r (λ u. walk step u rest)) e) ∙ so_far

pub fails_at_by : {S X F : Type 0} (is_free : F → Bool) (step : S → X → Result S F) (s : S) (x : X) (all rest : List X) (total : Result S F) (e : F) → all ≡ x ∷ rest
    → Fails is_free e (step s x) → walk step s all ≡ total → Fails is_free e total
unfolding walk
fails_at_by is_free step s x all rest total e is f so_far =
    fails_on is_free e (step s x) total (λ h. sym so_far ∙ ap (walk step s) is ∙ ap (λ r. then_on r (λ u. walk step u rest)) h) f

pub is_past : {S X F : Type 0} (step : S → X → Result S F) (s : S) (all : List X) (n : ℕ) (total : Result S F) → length all ≡ n → n ≡ 0
    → walk step s all ≡ total → total ≡ Ok s
unfolding walk
is_past step s all n total len none so_far = sym so_far ∙ ap (walk step s) (nil_from_length all (len ∙ none))

pub fails_at : {S X : Type 0} (step : S → X → Result S CodeFault) (s : S) (x : X) (all rest : List X) (total : Result S CodeFault) (e : CodeFault) → all ≡ x ∷ rest
    → Fails is_code_free e (step s x) → walk step s all ≡ total → Fails is_code_free e total
fails_at step s x all rest total e is f so_far = fails_at_by is_code_free step s x all rest total e is f so_far
