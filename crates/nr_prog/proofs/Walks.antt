-- A loop that looks for the first fault of a list: m is the number of the item at place i, and `total` what the
-- whole look-out finds.
use Rattle.std.proofs.Common.{◌≡◌, ℕ, ◌+◌, ◌<◌, ◌≤◌, Bool, true, false, List, length, get_or, drop, Option, Some, None, refl, sym, ap, ◌∙◌, add-one, drop-cons}
use Rattle.std.specs.Bool.{MatchBool}
use Rattle.std.specs.Option.{option_or}
use Rattle.std.proofs.lemmas.List.{drop_all}
use Rattle.nr_prog.specs.declared.fault.FormFault.{FormFault}
use Rattle.nr_prog.specs.Faults.{Fails, first_fault, is_free}

one : {X : Type 0} (fault : ℕ → X → Option FormFault) (m i : ℕ) (xs : List X) (d : X) → i < length xs
    → first_fault fault m (drop i xs) ≡ option_or (fault m (get_or xs i d)) (first_fault fault (m + 1) (drop (i + 1) xs))
unfolding first_fault
one fault m i xs d lt = rw (drop-cons xs i d lt, add-one i) refl

-- the item has no fault
pub goes_on : {X : Type 0} (fault : ℕ → X → Option FormFault) (m i : ℕ) (xs : List X) (d : X) (total : Option FormFault) → i < length xs
    → fault m (get_or xs i d) ≡ None → first_fault fault m (drop i xs) ≡ total → first_fault fault (m + 1) (drop (i + 1) xs) ≡ total
goes_on fault m i xs d total lt none so_far =
    sym (ap (λ o. option_or o (first_fault fault (m + 1) (drop (i + 1) xs))) none) ∙ sym (one fault m i xs d lt) ∙ so_far

-- the item has one
pub stops : {X : Type 0} (fault : ℕ → X → Option FormFault) (m i : ℕ) (xs : List X) (d : X) (total : Option FormFault) (e : FormFault) → i < length xs
    → fault m (get_or xs i d) ≡ Some e → first_fault fault m (drop i xs) ≡ total → total ≡ Some e
stops fault m i xs d total e lt some so_far =
    sym so_far ∙ one fault m i xs d lt ∙ ap (λ o. option_or o (first_fault fault (m + 1) (drop (i + 1) xs))) some

pub ends : {X : Type 0} (fault : ℕ → X → Option FormFault) (m i : ℕ) (xs : List X) (total : Option FormFault) → length xs ≤ i
    → first_fault fault m (drop i xs) ≡ total → total ≡ None
unfolding first_fault
ends fault m i xs total le so_far = sym so_far ∙ rw (drop_all i xs le) refl

pub either : {A B : Type 0} (b : Bool) → (A → B) → MatchBool b (Unit {0}) A → MatchBool b (Unit {0}) B
either true h f = tt
either false h f = h f

-- a fault that is handed on
pub fails_on : (e : FormFault) (a b : Option FormFault) → (a ≡ Some e → b ≡ Some e) → Fails e a → Fails e b
fails_on e a b h f = either (is_free e) h f

-- a check of the item fails
pub fails_in : {X : Type 0} (fault : ℕ → X → Option FormFault) (m i : ℕ) (xs : List X) (d : X) (total : Option FormFault) (e : FormFault) → i < length xs
    → Fails e (fault m (get_or xs i d)) → first_fault fault m (drop i xs) ≡ total → Fails e total
fails_in fault m i xs d total e lt f so_far = fails_on e (fault m (get_or xs i d)) total (λ some. stops fault m i xs d total e lt some so_far) f

-- a fault of the first part
pub fails_first : (e : FormFault) (a b : Option FormFault) → Fails e a → Fails e (option_or a b)
fails_first e a b f = fails_on e a (option_or a b) (λ some. ap (λ o. option_or o b) some) f
