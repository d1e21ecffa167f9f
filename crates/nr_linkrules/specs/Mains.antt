-- The classes that a command names: the method that a run begins with, and the class that is served. The project's own rules.
use Rattle.std.specs.Prelude.{ℕ, List, not, ◌||◌, Ok, Err, codes, if◌then◌else◌}
use Rattle.std.specs.Option.{option_and_then}
use Rattle.nr_instrs.specs.Checks.{then_on}
use Rattle.nr_linked.specs.declared.program.tables.ProgramTables.{ProgramTables}
use Rattle.nr_linked.specs.Linked.{is_loaded}
use Rattle.nr_linked.specs.Programs.{class_named, is_interface}
use Rattle.nr_linked.specs.Selection.{static_named, with_body}
use Rattle.nr_linkrules.specs.declared.fault.LinkFault.TheVariants as faults
use Rattle.nr_linkrules.specs.SiteRules.{Finding, or_fault}

-- the public static `main([I)I` with code that the class itself declares
abbrev pub main_in : ProgramTables → List ℕ → ℕ → Finding ℕ
main_in P name c =
    or_fault (faults.NoMain name) (option_and_then (with_body P) (static_named P c (codes "main") (codes "([I)I")))

unfoldable pub main_of : ProgramTables → List ℕ → Finding ℕ
main_of P name = then_on (or_fault (faults.NoClass name) (class_named P name)) (main_in P name)

-- a class that was loaded and is no interface
abbrev pub service_in : ProgramTables → List ℕ → ℕ → Finding ℕ
service_in P name c = if is_interface P c || not (is_loaded P c) then Err (faults.NoService name) else Ok c

unfoldable pub service_of : ProgramTables → List ℕ → Finding ℕ
service_of P name = then_on (or_fault (faults.NoClass name) (class_named P name)) (service_in P name)
