-- That the operands of an instruction, and what linking found for it, are those of its row: so its typing rule speaks of
-- them (JVM Specification 6.5, each instruction's format, and 4.9.1).
use Rattle.std.specs.Prelude.{◌≡◌, ℕ, List, [], ◌∷◌, Bool, true, false, ◌&&◌, ◌||◌, ◌==◌, Some, IsTrue, is_some, nat_le, slice_get}
use Rattle.nr_optable.specs.declared.table.Family.{Family}
use Rattle.nr_optable.specs.declared.table.Family.TheVariants.{F3, F4, F9, F10, F11, F30, F31, F32, F33, F34, F37, F38}
use Rattle.nr_optable.specs.declared.table.Letter.{Letter}
use Rattle.nr_optable.specs.declared.table.Row.{Row}
use Rattle.nr_prog.specs.declared.body.instruction.Args.{Args}
use Rattle.nr_prog.specs.declared.body.instruction.Args.TheVariants as args
use Rattle.nr_linked.specs.declared.program.tables.MethodInfo.{MethodInfo}
use Rattle.nr_linked.specs.declared.program.tables.ProgramTables.{ProgramTables}
use Rattle.nr_linked.specs.declared.program.tables.Resolved.{Resolved}
use Rattle.nr_linked.specs.declared.program.tables.Resolved.TheVariants as resolved
use Rattle.nr_linked.specs.ArrayKinds.{elements_of, primitive_of}
use Rattle.nr_linked.specs.Programs.{method_at}
use Rattle.nr_linked.specs.Sites.{Site, site_at}
use Rattle.nr_linked.specs.Slots.{slots_of}
use Rattle.nr_linked.specs.TypingChecks.{letters_of}

-- a row that pushes or pops just one value
abbrev pub is_one : List Letter → Bool
is_one (letter ∷ []) = true
is_one ls = false

-- it names a local variable, or its code does
abbrev pub has_number : Args → Bool
has_number (args.Local i) = true
has_number args.Empty = true
has_number a = false

abbrev pub is_increment : Args → Bool
is_increment (args.Inc i by) = true
is_increment a = false

-- a slot of the named class's objects
abbrev pub is_slot : ProgramTables → Resolved → Bool
is_slot P (resolved.Slot c i) = is_some (slice_get (slots_of P c) i)
is_slot P r = false

abbrev pub is_method : ProgramTables → Resolved → Bool
is_method P (resolved.Method n c) = is_some (method_at P n)
is_method P r = false

abbrev pub is_kind : Resolved → Bool
is_kind (resolved.Kind k) = true
is_kind r = false

-- a kind whose arrays have at most 255 dimensions (4.9.1, anewarray)
abbrev pub is_element : Resolved → Bool
is_element (resolved.Kind k) = nat_le k.dims 254
is_element r = false

abbrev pub makes_array : Args → Resolved → Bool
makes_array (args.Prim code) r = is_some (primitive_of code)
makes_array (args.Pool i) r = is_element r
makes_array (args.Dims i n) r = is_kind r
makes_array a r = false

-- iload, lload, aload, istore, lstore, astore: those that `wide` goes before, beside iinc
abbrev pub can_widen : ℕ → Bool
can_widen code = code == 21 || (code == 22 || (code == 25 || (code == 54 || (code == 55 || code == 58))))

abbrev pub is_wide : Args → Bool
is_wide (args.Wide code i) = can_widen code
is_wide (args.WideInc i by) = true
is_wide a = false

-- the operands and what was found, by the family of the row
abbrev pub suits : Family → ProgramTables → Row → Args → Resolved → Bool
suits F3 P row a r = is_one (letters_of row.pushes) && has_number a
suits F4 P row a r = is_one (letters_of row.pops) && has_number a
suits F9 P row a r = is_increment a
suits F10 P row a r = is_some (elements_of row.code)
suits F11 P row a r = is_some (elements_of row.code)
suits F30 P row a r = is_slot P r
suits F31 P row a r = is_slot P r
suits F32 P row a r = is_method P r
suits F33 P row a r = is_kind r
suits F34 P row a r = makes_array a r
suits F37 P row a r = is_kind r
suits F38 P row a r = is_wide a
suits family P row a r = true

abbrev pub is_suited : ProgramTables → Site → Bool
is_suited P s = suits s.instr.row.family P s.instr.row s.instr.args s.resolved

-- so is each instruction of the program
abbrev pub IsSuited : ProgramTables → Type 0
IsSuited P = (n : ℕ) (m : MethodInfo) (at : ℕ) (s : Site) → method_at P n ≡ Some m → site_at m at ≡ Some s → IsTrue (is_suited P s)
