-- What the rules of several instructions share: new objects, implicit throws, and the tests before an access.
use Rattle.std.specs.Prelude.{ℕ, ℤ, pos, negsuc, Bool, List, map, Option, nat_lt, if◌then◌else◌}
use Rattle.nr_optable.specs.declared.table.Letter.{Letter}
use Rattle.nr_optable.specs.declared.table.Letter.TheVariants as letters
use Rattle.nr_linked.specs.declared.program.built_in.BuiltIn.{BuiltIn}
use Rattle.nr_linked.specs.declared.program.built_in.BuiltIn.TheVariants.{NullPointerException, ArrayIndexOutOfBoundsException}
use Rattle.nr_linked.specs.declared.program.kind.Base.{Base}
use Rattle.nr_linked.specs.declared.program.kind.Base.TheVariants as bases
use Rattle.nr_linked.specs.declared.program.kind.Kind.{Kind}
use Rattle.nr_linked.specs.declared.program.tables.ProgramTables.{ProgramTables}
use Rattle.nr_linked.specs.BuiltIns.{built_in}
use Rattle.nr_linked.specs.Kinds.{class_kind, is_reference}
use Rattle.nr_linked.specs.Slots.{slots_of}
use Rattle.nr_model.specs.Heaps.{on_some}
use Rattle.nr_model.specs.Scripts.{Plain, PlainInt, PlainLong, PlainNull, Script, GoTo, Throw, Stuck, Push, PopInt, PopLong, AskNull, Make}

-- ---- default values (2.3, 2.4) and new objects (6.5, new)

abbrev pub zero_of_base : Base → Plain
zero_of_base bases.Long = PlainLong (pos 0)
zero_of_base base = PlainInt (pos 0)

abbrev pub zero_of : Kind → Plain
zero_of k = if is_reference k then PlainNull else zero_of_base k.base

-- what the slots of a new object of the class hold
abbrev pub zeros : ProgramTables → ℕ → List Plain
zeros P c = map (λ s. zero_of s.kind) (slots_of P c)

abbrev pub make_object : ProgramTables → ℕ → Script → Script
make_object P c k = Make (class_kind c) (zeros P c) k

-- ---- throws by the machine itself (2.10)

abbrev pub throw_new : ProgramTables → BuiltIn → Script
throw_new P b = make_object P (built_in P b) Throw

-- k, where the reference at the depth isn't null
abbrev pub not_null : ProgramTables → ℕ → Script → Script
not_null P d k = AskNull d (λ null. if null then throw_new P NullPointerException else k)

-- k of the index, where an array of n components has it
abbrev pub at_index : ProgramTables → ℕ → ℤ → (ℕ → Script) → Script
at_index P n (pos i) k = if nat_lt i n then k i else throw_new P ArrayIndexOutOfBoundsException
at_index P n (negsuc i) k = throw_new P ArrayIndexOutOfBoundsException

-- ---- operands of the right type; there is no rule for others

-- the topmost operand is an int, a long, or a reference
abbrev pub typed : Letter → Script → Script
typed letters.I k = PopInt (λ n. Push (PlainInt n) k)
typed letters.J k = PopLong (λ n. Push (PlainLong n) k)
typed letter k = AskNull 0 (λ null. k)

-- on at the next instruction, if there is one
abbrev pub onward : Option ℕ → Script
onward next = on_some next Stuck GoTo

-- the rule of what was found, if it was
abbrev pub with_found : {X : Type 0} → Option X → (X → Script) → Script
with_found found k = on_some found Stuck k

-- an object of a kind that passes the test
abbrev pub which : Bool → Script → Script
which fits k = if fits then k else Stuck
