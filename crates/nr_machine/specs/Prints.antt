-- What the methods of nrmi/Out print (the project's own), by which of them it is.
use Rattle.std.specs.Prelude.{◌≡◌, ℕ, ◌<◌, ◌≤◌, ℤ, slice_get, List, [], ◌∷◌, Option, Some, None, codes, drop, length, map, if◌then◌else◌}
use Rattle.std.specs.Fmt.{signed_decimal}
use Rattle.nr_optable.specs.Arithmetic.{to_char}
use Rattle.nr_linked.specs.declared.program.tables.MethodInfo.{MethodInfo}
use Rattle.nr_linked.specs.declared.program.tables.ProgramTables.{ProgramTables}
use Rattle.nr_linked.specs.Programs.{method_at}
use Rattle.nr_linked.specs.Selection.{is_called}
use Rattle.nr_linked.specs.Sites.{Site, site_at}
use Rattle.nr_model.specs.declared.value.Value.{Value}
use Rattle.nr_model.specs.declared.value.Value.TheVariants.{Int, Long}
use Rattle.nr_model.specs.CallRules.{print_chars}
use Rattle.nr_model.specs.Heaps.{Heap}
use Rattle.nr_model.specs.Printing.{bytes_of_units}
use Rattle.nr_model.specs.Rules.{script}
use Rattle.nr_model.specs.Scripts.{GoesTo, PopInt, PopLong, Print, Runs, Script}
use Rattle.nr_model.specs.Steps.{within}
use Rattle.nr_model.specs.States.{Frame}
use Rattle.nr_model.specs.Throws.{onward}
use Rattle.nr_step.specs.Instructions.{doing}
use Rattle.nr_machine.specs.declared.stack.print.Printing.{Printing}
use Rattle.nr_machine.specs.declared.stack.print.Printing.TheVariants as printings
use Rattle.nr_machine.specs.CallStacks.{OnRunning}

-- which method it is
abbrev pub printing_of : MethodInfo → Option Printing
printing_of i =
    if is_called (codes "print") (codes "([C)V") i then Some printings.Chars
    else (if is_called (codes "print") (codes "(C)V") i then Some printings.Char
    else (if is_called (codes "print") (codes "(I)V") i then Some printings.Int
    else (if is_called (codes "print") (codes "(J)V") i then Some printings.Long
    else (if is_called (codes "line") (codes "()V") i then Some printings.Line
    else None))))

-- what it does, and what follows
abbrev pub printing_rule : ProgramTables → Printing → Script → Script
printing_rule P printings.Chars k = print_chars P k
printing_rule P printings.Char k = PopInt (λ u. Print (bytes_of_units (to_char u ∷ [])) k)
printing_rule P printings.Int k = PopInt (λ n. Print (signed_decimal n) k)
printing_rule P printings.Long k = PopLong (λ n. Print (signed_decimal n) k)
printing_rule P printings.Line k = Print (10 ∷ []) k

-- the method prints such a value, and no array
abbrev pub IsPrinted : Printing → Value → Type 0
IsPrinted printings.Char (Int n) = Unit {0}
IsPrinted printings.Int (Int n) = Unit {0}
IsPrinted printings.Long (Long n) = Unit {0}
IsPrinted p v = ⊥

-- what it prints of it
abbrev pub text_of : Printing → Value → List ℕ
text_of printings.Char (Int n) = bytes_of_units (to_char n ∷ [])
text_of printings.Int (Int n) = signed_decimal n
text_of printings.Long (Long n) = signed_decimal n
text_of p v = []

-- the units of an array's slots
abbrev pub unit_of : Value → ℕ
unit_of (Int n) = to_char n
unit_of v = 0

abbrev pub units_of : List Value → List ℕ
units_of vs = map unit_of vs

-- each of the slots holds an int
abbrev pub AreInts : List Value → Type 0
AreInts vs = (j : ℕ) → j < length vs → (n : ℤ) × (slice_get vs j ≡ Some (Int n))

-- it prints one number or char
abbrev pub IsSingle : Printing → Type 0
IsSingle printings.Chars = ⊥
IsSingle printings.Line = ⊥
IsSingle p = Unit {0}

-- the running frame's instruction does what the method does, and left the heap
abbrev pub PrintsBy : ProgramTables → Heap → Heap → Printing → List Frame → Type 0
PrintsBy P h k p fs = (h ≡ k) × OnRunning fs (λ f below. (own : MethodInfo) × (site : Site) × (method_at P f.method ≡ Some own)
    × (site_at own f.offset ≡ Some site) × ((n : Option ℕ) → doing P own site.instr site.resolved n ≡ printing_rule P p (onward n)))

-- it prints these bytes, takes so many operands and goes on
abbrev pub PrintsText : ProgramTables → Heap → Heap → List ℕ → ℕ → List Frame → Type 0
PrintsText P h k bytes count fs = (h ≡ k) × OnRunning fs (λ f below. (own : MethodInfo) × (site : Site) × (t : ℕ) × (method_at P f.method ≡ Some own)
    × (site_at own f.offset ≡ Some site) × (site.next ≡ Some t) × (count ≤ length f.operands)
    × Runs (script P own site) (within h f) (GoesTo t) (record (within h f) { operands = drop count f.operands; printed = bytes }))
