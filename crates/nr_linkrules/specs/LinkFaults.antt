-- The first fault of linking some classes, pass by pass. The order of the passes is the project's own.
use Rattle.std.specs.Prelude.{ℕ, List, Option, None}
use Rattle.std.specs.Option.{option_map_or, option_or}
use Rattle.nr_prog.specs.declared.body.loaded.Loaded.{Loaded}
use Rattle.nr_prog.specs.declared.parts.ClassParts.{ClassParts}
use Rattle.nr_linked.specs.declared.program.tables.ClassInfo.{ClassInfo}
use Rattle.nr_linked.specs.declared.program.tables.ProgramTables.{ProgramTables}
use Rattle.nr_linkrules.specs.declared.fault.LinkFault.{LinkFault}
use Rattle.nr_linkrules.specs.ClassRules.{above_fault, cycle_fault, list_fault, members_fault}
use Rattle.nr_linkrules.specs.Faults.{first_numbered, first_of}
use Rattle.nr_linkrules.specs.Layout.{laid_out}
use Rattle.nr_linkrules.specs.Outline.{outline}
use Rattle.nr_linkrules.specs.SiteRules.{around_fault, code_fault}

-- a rule on a class that was loaded, by its number, its entry and the parts of its file
abbrev pub Rule : Type 0
Rule = ℕ → ClassInfo → ClassParts → Option LinkFault

abbrev pub on_loaded : Rule → ℕ → ClassInfo → Option LinkFault
on_loaded rule c e = option_map_or (rule c e) e.read None

-- its first fault, class by class
unfoldable pub first_class_fault : Rule → ProgramTables → Option LinkFault
first_class_fault rule P = first_numbered (on_loaded rule) 0 P.classes

-- ---- the passes

-- on the classes of the outline: what each names above it; cycles; members
unfoldable pub classes_fault : ProgramTables → Option LinkFault
classes_fault P =
    option_or (first_class_fault (above_fault P) P)
    (option_or (first_class_fault (cycle_fault P) P)
    (first_class_fault (members_fault P) P))

-- on the methods, with the classes laid out: all instructions; then exception handlers and frame maps
unfoldable pub code_faults : ProgramTables → Option LinkFault
code_faults P = option_or (first_of (code_fault P) P.methods) (first_of (around_fault P) P.methods)

-- the first fault of linking the classes
unfoldable pub link_fault : List Loaded → Option LinkFault
link_fault classes =
    option_or (list_fault classes)
    (option_or (classes_fault (outline classes))
    (code_faults (laid_out (outline classes))))
