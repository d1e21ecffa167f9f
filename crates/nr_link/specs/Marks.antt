-- Bits by their numbers.
use Rattle.std.specs.Prelude.{ℕ, List, [], ◌∷◌, Bool, true, slice_set}

-- the bits, with those of these numbers set; a number past the end has none
abbrev pub set_all : List Bool → List ℕ → List Bool
set_all bits [] = bits
set_all bits (n ∷ ns) = set_all (slice_set bits n true) ns
