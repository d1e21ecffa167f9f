-- The first fault of a check that looks at one thing after the other.
use Rattle.std.specs.Prelude.{◌≡◌, ℕ, ◌+◌, List, [], ◌∷◌, Option, Some, None, Bool, true, false, Result, Ok, Err, if◌then◌else◌}
use Rattle.std.specs.Bool.{MatchBool}
use Rattle.std.specs.Option.{option_or}
use Rattle.nr_linkrules.specs.declared.fault.LinkFault.{LinkFault}
use Rattle.nr_linkrules.specs.declared.fault.LinkFault.TheVariants.{NoMemory}

-- the fault where the test fails
abbrev pub unless : Bool → LinkFault → Option LinkFault
unless test fault = if test then None else Some fault

-- the first fault of the items, the first of which has number n
unfoldable pub first_numbered : {X : Type 0} → (ℕ → X → Option LinkFault) → ℕ → List X → Option LinkFault
first_numbered fault n [] = None
first_numbered fault n (x ∷ xs) = option_or (fault n x) (first_numbered fault (n + 1) xs)

-- the first fault of the items
unfoldable pub first_of : {X : Type 0} → (X → Option LinkFault) → List X → Option LinkFault
first_of fault [] = None
first_of fault (x ∷ xs) = option_or (fault x) (first_of fault xs)

-- want of memory may come at any time
abbrev pub is_free : LinkFault → Bool
is_free NoMemory = true
is_free fault = false

-- a check fails by the fault that is found
abbrev pub Fails : LinkFault → Option LinkFault → Type 0
Fails fault found = MatchBool (is_free fault) (Unit {0}) (found ≡ Some fault)

-- a check passes exactly where there is no fault
abbrev pub Finds : {A : Type 0} → Result A LinkFault → Option LinkFault → Type 0
Finds (Ok x) found = found ≡ None
Finds (Err fault) found = Fails fault found
