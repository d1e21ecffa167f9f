-- Where there is no fault: of one of two things, of a test, and of the items of a list.
use Rattle.std.proofs.Common.{◌≡◌, ℕ, zero, suc, ◌+◌, ◌<◌, Bool, true, false, not, List, [], ◌∷◌, length, get_or, Option, Some, None, refl, subst, arith}
use Rattle.std.specs.Option.{option_or}
use Rattle.nr_prog.specs.declared.fault.FormFault.{FormFault}
use Rattle.nr_prog.specs.Faults.{first_fault, unless}

pub both_none : (a b : Option FormFault) → option_or a b ≡ None → (a ≡ None) × (b ≡ None)
both_none None b e = (refl, e)
both_none (Some x) b e = absurd cc

pub none_or : (a b : Option FormFault) → a ≡ None → b ≡ None → option_or a b ≡ None
none_or None b e f = f
none_or (Some x) b e f = absurd cc

pub passes : (test : Bool) (fault : FormFault) → unless test fault ≡ None → test ≡ true
passes true fault e = refl
passes false fault e = absurd cc

pub passed : (test : Bool) (fault : FormFault) → test ≡ true → unless test fault ≡ None
passed true fault e = refl
passed false fault e = absurd cc

pub is_false : (b : Bool) → not b ≡ true → b ≡ false
is_false true e = absurd cc
is_false false e = refl

pub not_false : (b : Bool) → b ≡ false → not b ≡ true
not_false true e = absurd cc
not_false false e = refl

-- no item has a fault, where m is the number of the item at place i
pub each_none : {X : Type 0} (fault : ℕ → X → Option FormFault) (n : ℕ) (xs : List X) → first_fault fault n xs ≡ None
    → (m i : ℕ) (d : X) → m ≡ n + i → i < length xs → fault m (get_or xs i d) ≡ None
unfolding first_fault
each_none fault n [] e m i d is lt = absurd (omega arith)
each_none fault n (x ∷ xs) e m zero d is lt =
    let here = (both_none (fault n x) (first_fault fault (n + 1) xs) e).0 in
    let same : n ≡ m = omega arith in
    subst (λ k. fault k x ≡ None) same here
each_none fault n (x ∷ xs) e m (suc i) d is lt =
    each_none fault (n + 1) xs (both_none (fault n x) (first_fault fault (n + 1) xs) e).1 m i d (omega arith) (omega arith)

pub none_of_each : {X : Type 0} (fault : ℕ → X → Option FormFault) (n : ℕ) (xs : List X)
    → ((m i : ℕ) (d : X) → m ≡ n + i → i < length xs → fault m (get_or xs i d) ≡ None) → first_fault fault n xs ≡ None
unfolding first_fault
none_of_each fault n [] h = refl
none_of_each fault n (x ∷ xs) h =
    none_or (fault n x) (first_fault fault (n + 1) xs) (h n zero x (omega arith) (omega arith))
    (none_of_each fault (n + 1) xs (λ m i d is lt. h m (suc i) d (omega arith) (omega arith)))
