-- Loads from arrays and stores into them, by what they hold.
use Rattle.std.specs.Prelude.{ℕ, ◌∷◌, List}
use Rattle.nr_linked.specs.declared.program.tables.MethodInfo.{MethodInfo}
use Rattle.nr_linked.specs.declared.program.tables.ProgramTables.{ProgramTables}
use Rattle.nr_linked.specs.ArrayKinds.{Elements}
use Rattle.nr_linked.specs.declared.program.types.VType.{VType}
use Rattle.nr_linked.specs.TypingFrames.{TypeFrame}
use Rattle.nr_linked.specs.TypingChecks.{Checked, take_int, take_ints, leaves_operands}
use Rattle.nr_linked.specs.TypingArrays.{take_array, take_stored, loaded_type}

-- `take_array`, closed
unfoldable pub array_taken : ProgramTables → Elements → ℕ → List VType → (VType → List VType → Checked) → Checked
array_taken P e d ts k = take_array P e d ts k

-- `take_ints`, closed
unfoldable pub ints_taken : ℕ → ℕ → List VType → (List VType → Checked) → Checked
ints_taken n d ts k = take_ints n d ts k

abbrev pub load_from : ProgramTables → MethodInfo → TypeFrame → Elements → Checked
load_from P m f e = take_int 0 f.operands (λ ts. array_taken P e 1 ts (λ a us. leaves_operands m f (loaded_type e a ∷ us)))

abbrev pub store_into : ProgramTables → MethodInfo → TypeFrame → Elements → Checked
store_into P m f e = take_stored e 0 f.operands (λ ts. take_int 1 ts (λ us. array_taken P e 2 us (λ a vs. leaves_operands m f vs)))
