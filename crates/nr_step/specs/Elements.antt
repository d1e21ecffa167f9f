-- Elements of arrays.
use Rattle.std.specs.FinMap.{get}
use Rattle.std.specs.Prelude.{ℕ, ℤ, pos, negsuc, Bool, true, false, Option, Some, None, nat_lt, if◌then◌else◌}
use Rattle.nr_linked.specs.declared.program.kind.Base.TheVariants as bases
use Rattle.nr_linked.specs.ArrayKinds.{Elements, Of, Bytes, elements_of}
use Rattle.nr_linked.specs.declared.program.kind.Kind.{Kind}
use Rattle.nr_linked.specs.declared.program.tables.ProgramTables.{ProgramTables}
use Rattle.nr_linked.specs.Subtypes.{is_sub}
use Rattle.nr_model.specs.Heaps.{Heap, on_some}

-- the place of the element at an index, where an array of n elements has it
abbrev pub place_of : ℤ → ℕ → Option ℕ
place_of (pos i) n = if nat_lt i n then Some i else None
place_of (negsuc i) n = None

-- elements that are ints on the operand stack
abbrev pub are_ints : Elements → Bool
are_ints (Of bases.Int) = true
are_ints (Of bases.Char) = true
are_ints (Of bases.Short) = true
are_ints Bytes = true
are_ints el = false

-- so are those of the arrays of the instruction with the code
abbrev pub holds_ints : ℕ → Bool
holds_ints code = on_some (elements_of code) false are_ints

-- a reference may stand in an array with elements of the kind: null, or one to an object of the kind (6.5, aastore)
abbrev pub may_stand : ProgramTables → Heap → Kind → Option ℕ → Bool
may_stand P h e None = true
may_stand P h e (Some a) = on_some (get h a) false (λ o. is_sub P o.kind e)

-- how many elements a new array has, if it can have so many
abbrev pub count_of : ℤ → Option ℕ
count_of (pos n) = Some n
count_of (negsuc n) = None
