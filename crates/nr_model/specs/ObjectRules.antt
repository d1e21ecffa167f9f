-- The rules of instructions on objects (JVM Specification 6.5, each under its mnemonic). A rule is given what follows
-- it.
use Rattle.std.specs.Prelude.{ℕ, pos, slice_get, if◌then◌else◌}
use Rattle.nr_optable.specs.declared.table.Letter.TheVariants as letters
use Rattle.nr_linked.specs.declared.program.built_in.BuiltIn.TheVariants.{ClassCastException, Throwable}
use Rattle.nr_linked.specs.declared.program.kind.Base.{Base}
use Rattle.nr_linked.specs.declared.program.kind.Base.TheVariants as bases
use Rattle.nr_linked.specs.declared.program.kind.Kind.{Kind}
use Rattle.nr_linked.specs.declared.program.tables.ProgramTables.{ProgramTables}
use Rattle.nr_linked.specs.BuiltIns.{built_in}
use Rattle.nr_linked.specs.Kinds.{class_kind, is_array, is_reference, class_in}
use Rattle.nr_linked.specs.Slots.{slots_of}
use Rattle.nr_linked.specs.Subtypes.{is_sub}
use Rattle.nr_model.specs.Scripts.{PlainInt, Script, Throw, Stuck, Push, PopInt, Drop, AskNull, AskKind, ReadSlot, WriteSlot}
use Rattle.nr_model.specs.Throws.{make_object, throw_new, not_null, typed, with_found, which}
use Rattle.nr_model.specs.ArrayRules.{narrowed}

-- k, where the object at the depth has the fields of the class
abbrev pub has_fields_of : ProgramTables → ℕ → ℕ → Script → Script
has_fields_of P d c k = AskKind d (λ kind n. which (is_sub P kind (class_kind c)) k)

-- getfield, of the slot that linking found in the named class
abbrev pub get_field : ProgramTables → ℕ → ℕ → Script → Script
get_field P c i k = with_found (slice_get (slots_of P c) i) (λ slot.
    not_null P 0 (has_fields_of P 0 slot.declared_in (ReadSlot i k)))

-- the topmost operand as a field of the kind keeps it
abbrev pub kept_as : Kind → Script → Script
kept_as kind k = if is_reference kind then typed letters.A k else of_base kind.base
  where
    of_base : Base → Script
    of_base bases.Long = typed letters.J k
    of_base base = PopInt (λ n. Push (PlainInt (narrowed base n)) k)

-- putfield
abbrev pub put_field : ProgramTables → ℕ → ℕ → Script → Script
put_field P c i k = with_found (slice_get (slots_of P c) i) (λ slot.
    kept_as slot.kind (not_null P 1 (has_fields_of P 1 slot.declared_in (WriteSlot i k))))

-- new
abbrev pub new_of : ProgramTables → Kind → Script → Script
new_of P kind k = if is_array kind then Stuck else with_found (class_in kind.base) (λ c. make_object P c k)

-- athrow
abbrev pub throw_top : ProgramTables → Script
throw_top P = not_null P 0 (AskKind 0 (λ kind n. which (is_sub P kind (class_kind (built_in P Throwable))) Throw))

-- checkcast: null passes
abbrev pub check_cast : ProgramTables → Kind → Script → Script
check_cast P to k = AskNull 0 (λ null. if null then k
    else AskKind 0 (λ kind n. if is_sub P kind to then k else throw_new P ClassCastException))

abbrev pub answer : ℕ → Script → Script
answer n k = Drop 0 (Push (PlainInt (pos n)) k)

-- instanceof: null is none
abbrev pub instance_of : ProgramTables → Kind → Script → Script
instance_of P to k = AskNull 0 (λ null. if null then answer 0 k
    else AskKind 0 (λ kind n. if is_sub P kind to then answer 1 k else answer 0 k))
