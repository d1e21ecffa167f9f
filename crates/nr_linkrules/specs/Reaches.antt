-- What stands above a class, as a test.
use Rattle.std.specs.Prelude.{◌<◌, IsTrue, ℕ, zero, suc, List, [], ◌++◌, length, map, Bool, ◌&&◌, ◌||◌, ◌==◌}
use Rattle.std.specs.List.{list_any, range_with_len}
use Rattle.std.specs.Option.{option_map_or, option_to_list}
use Rattle.nr_linked.specs.declared.program.tables.ProgramTables.{ProgramTables}
use Rattle.nr_linked.specs.Programs.{class_at}

-- what stands directly above the class: its superclass, and its direct superinterfaces
abbrev pub steps_up : ProgramTables → ℕ → List ℕ
steps_up P c = option_map_or (λ e. option_to_list e.super_class ++ e.interfaces) (class_at P c) []

abbrev pub is_step : ProgramTables → ℕ → ℕ → Bool
is_step P c d = list_any (λ s. s == d) (steps_up P c)

-- d is c, or steps lead up from c to d by way of classes whose numbers are below k
unfoldable pub reaches_by : ProgramTables → ℕ → ℕ → ℕ → Bool
reaches_by P zero c d = (c == d) || is_step P c d
reaches_by P (suc k) c d = reaches_by P k c d || (reaches_by P k c k && reaches_by P k k d)

-- d is c, or stands above it
abbrev pub reaches : ProgramTables → ℕ → ℕ → Bool
reaches P c d = reaches_by P (length P.classes) c d

-- what the test tells of a class and each class of the program; and of all classes
unfoldable pub row_of : ProgramTables → ℕ → ℕ → List Bool
row_of P k c = map (reaches_by P k c) (range_with_len 0 (length P.classes))

unfoldable pub rows_of : ProgramTables → ℕ → List (List Bool)
rows_of P k = map (row_of P k) (range_with_len 0 (length P.classes))

-- each step up leads to a class of the program
abbrev pub HasSteps : ProgramTables → Type 0
HasSteps P = (c s : ℕ) → IsTrue (is_step P c s) → s < length P.classes
