-- Arrays of arrays (JVM Specification 6.5, multianewarray).
use Rattle.std.specs.Prelude.{ℕ, ◌+◌, ◌*◌, pos, negsuc, List, [], ◌∷◌, map, Bool, true, false}
use Rattle.nr_model.specs.declared.value.Value.{Value}
use Rattle.nr_model.specs.declared.value.Value.TheVariants.{Int}

-- the operand is a negative count
abbrev pub is_negative : Value → Bool
is_negative (Int (negsuc n)) = true
is_negative v = false

-- the count that an operand says, and 0 where it says none
abbrev pub count_in : Value → ℕ
count_in (Int (pos n)) = n
count_in v = 0

abbrev pub counts_in : List Value → List ℕ
counts_in vs = map count_in vs

-- the cells of an array with these counts, from the outermost, and of all arrays in it
abbrev pub nest_cells : List ℕ → ℕ
nest_cells [] = 0
nest_cells (n ∷ ns) = n + 1 + n * nest_cells ns
