-- Instructions in the order of their offsets (JVM Specification 4.7.3: the first stands at 0).
use Rattle.std.specs.Prelude.{◌≡◌, ℕ, ◌<◌, List, [], ◌∷◌, length, slice_index_or}
use Rattle.nr_prog.specs.declared.body.instruction.Instr.{Instr}

-- each is below those behind it
abbrev pub IsAscendingBy : {X : Type 0} → (X → ℕ) → List X → Type 0
IsAscendingBy {X} at xs = (i j : ℕ) (d : X) → i < j → j < length xs → at (slice_index_or xs i d) < at (slice_index_or xs j d)

abbrev pub IsInOrder : List Instr → Type 0
IsInOrder is = IsAscendingBy (λ i. i.at) is

-- each instruction stands above the one before it, and the first above the offset
abbrev pub RiseAbove : ℕ → List Instr → Type 0
RiseAbove at [] = Unit {0}
RiseAbove at (i ∷ is) = (at < i.at) × RiseAbove i.at is

-- there is a first instruction, which stands at 0, and the others rise
abbrev pub StandInOrder : List Instr → Type 0
StandInOrder [] = ⊥
StandInOrder (i ∷ is) = (i.at ≡ 0) × RiseAbove i.at is
