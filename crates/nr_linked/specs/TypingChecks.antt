-- The checks that rules of instructions are made of. Each takes what follows it, so the checks of a rule stand in the
-- order in which they are made (the order is the project's own).
use Rattle.std.specs.Prelude.{ℕ, zero, suc, List, [], ◌∷◌, reverse, take, Bool, true, false, not, nat_le}
use Rattle.nr_optable.specs.declared.table.Letter.{Letter}
use Rattle.nr_optable.specs.declared.table.Letter.TheVariants as letters
use Rattle.nr_optable.specs.declared.table.Kinds.{Kinds}
use Rattle.nr_optable.specs.declared.table.Kinds.TheVariants.{Own, Letters}
use Rattle.nr_linked.specs.declared.program.kind.Kind.{Kind}
use Rattle.nr_linked.specs.declared.program.tables.ProgramTables.{ProgramTables}
use Rattle.nr_linked.specs.declared.program.tables.MethodInfo.{MethodInfo}
use Rattle.nr_linked.specs.declared.program.types.VType.{VType}
use Rattle.nr_linked.specs.declared.program.types.VType.TheVariants.{Top, Int, Long, Null}
use Rattle.nr_linked.specs.declared.typing.fault.OpFault.{OpFault}
use Rattle.nr_linked.specs.declared.typing.fault.OpFault.TheVariants.{NeedsKind, StackShort, StackOver}
use Rattle.nr_linked.specs.declared.typing.fault.Wanted.{Wanted}
use Rattle.nr_linked.specs.declared.typing.fault.Wanted.TheVariants as wanted
use Rattle.nr_linked.specs.TypingFrames.{TypeFrame, of_kind, is_int, is_long, is_null, is_initialised, is_any_reference, is_operand_assignable, total_size}

pub data Checked : Type 0 where
  Leaves : TypeFrame → Checked  -- all checks pass, and this is the outgoing frame
  Refused : OpFault → Checked  -- the first check that fails
  NoRule : Checked  -- the instruction's operands or what linking found don't suit its row; never in a linked program

abbrev pub need : Bool → OpFault → Checked → Checked
need true fault k = k
need false fault k = Refused fault

-- ---- operands

abbrev pub take_operand : ℕ → List VType → (VType → List VType → Checked) → Checked
take_operand d [] k = Refused (StackShort d)
take_operand d (t ∷ ts) k = k t ts

-- an operand that passes the test
abbrev pub take_that : (VType → Bool) → Wanted → ℕ → List VType → (VType → List VType → Checked) → Checked
take_that test expected d ts k = take_operand d ts (λ t us. need (test t) (NeedsKind d expected t) (k t us))

-- an operand that goes where the type is wanted
abbrev pub take_for : ProgramTables → VType → ℕ → List VType → (List VType → Checked) → Checked
take_for P u d ts k = take_that (λ t. is_operand_assignable P t u) (wanted.Type u) d ts (λ t us. k us)

-- operands that go where values of these kinds are wanted, that of the first kind on top
abbrev pub take_kinds : ProgramTables → List Kind → ℕ → List VType → (ℕ → List VType → Checked) → Checked
take_kinds P [] d ts k = k d ts
take_kinds P (x ∷ xs) d ts k = take_for P (of_kind x) d ts (λ us. take_kinds P xs (suc d) us k)

abbrev pub take_int : ℕ → List VType → (List VType → Checked) → Checked
take_int d ts k = take_that is_int (wanted.Type Int) d ts (λ t us. k us)

abbrev pub take_ints : ℕ → ℕ → List VType → (List VType → Checked) → Checked
take_ints zero d ts k = k ts
take_ints (suc n) d ts k = take_int d ts (λ us. take_ints n (suc d) us k)

-- an operand that isn't a long
abbrev pub take_single : ℕ → List VType → (VType → List VType → Checked) → Checked
take_single d ts k = take_that (λ t. not (is_long t)) (wanted.Type Top) d ts k

-- a reference to an initialised object, or null
abbrev pub take_reference : ℕ → List VType → (VType → List VType → Checked) → Checked
take_reference d ts k = take_that is_initialised wanted.AnyReference d ts k

-- ---- the letters of the table

abbrev pub is_letter : Letter → VType → Bool
is_letter letters.I t = is_int t
is_letter letters.J t = is_long t
is_letter letters.A t = is_initialised t
is_letter letters.R t = is_any_reference t
is_letter letters.Null t = is_null t

abbrev pub wanted_letter : Letter → Wanted
wanted_letter letters.I = wanted.Type Int
wanted_letter letters.J = wanted.Type Long
wanted_letter letters.Null = wanted.Type Null
wanted_letter letter = wanted.AnyReference

-- the type of what is pushed; no row that says all that it pushes pushes a reference that isn't null
abbrev pub letter_type : Letter → VType
letter_type letters.I = Int
letter_type letters.J = Long
letter_type letter = Null

-- the letters of a row, that of the topmost operand first; none where the instruction has its own rule
abbrev pub letters_of : Kinds → List Letter
letters_of Own = []
letters_of (Letters n first second third) = reverse (take n (first ∷ second ∷ third ∷ []))

abbrev pub take_letter : Letter → ℕ → List VType → (VType → List VType → Checked) → Checked
take_letter letter d ts k = take_that (is_letter letter) (wanted_letter letter) d ts k

abbrev pub take_letters : List Letter → ℕ → List VType → (List VType → Checked) → Checked
take_letters [] d ts k = k ts
take_letters (letter ∷ more) d ts k = take_letter letter d ts (λ t us. take_letters more (suc d) us k)

abbrev pub with_letters : List Letter → List VType → List VType
with_letters [] ts = ts
with_letters (letter ∷ more) ts = letter_type letter ∷ with_letters more ts

-- ---- the last check of each rule (4.10.1.4: operandStackHasLegalLength)

abbrev pub leaves : MethodInfo → TypeFrame → Checked
leaves m f = need (nat_le (total_size f.operands) m.max_stack) StackOver (Leaves f)

-- with other operands than the incoming frame
abbrev pub leaves_operands : MethodInfo → TypeFrame → List VType → Checked
leaves_operands m f ts = leaves m (record f { operands = ts })
