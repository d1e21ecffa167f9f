-- The first fault of a check that looks at one thing after the other.
use Rattle.std.specs.Prelude.{◌≡◌, ℕ, ◌+◌, List, [], ◌∷◌, Option, Some, None, Bool, true, false, Result, Ok, Err, if◌then◌else◌}
use Rattle.std.specs.Bool.{MatchBool}
use Rattle.std.specs.Option.{option_or}
use Rattle.nr_prog.specs.declared.fault.FormFault.{FormFault}
use Rattle.nr_prog.specs.declared.fault.FormFault.TheVariants.{NoMemory}

-- the fault where the test fails
abbrev pub unless : Bool → FormFault → Option FormFault
unless test fault = if test then None else Some fault

-- the first fault of the items, the first of which has number n
unfoldable pub first_fault : {X : Type 0} → (ℕ → X → Option FormFault) → ℕ → List X → Option FormFault
first_fault fault n [] = None
first_fault fault n (x ∷ xs) = option_or (fault n x) (first_fault fault (n + 1) xs)

-- want of memory may come at any time
abbrev pub is_free : FormFault → Bool
is_free NoMemory = true
is_free fault = false

-- a check fails by the fault that is found
abbrev pub Fails : FormFault → Option FormFault → Type 0
Fails fault found = MatchBool (is_free fault) (Unit {0}) (found ≡ Some fault)

-- a check passes exactly where there is no fault
abbrev pub Finds : {A : Type 0} → Result A FormFault → Option FormFault → Type 0
Finds (Ok x) found = found ≡ None
Finds (Err fault) found = Fails fault found
