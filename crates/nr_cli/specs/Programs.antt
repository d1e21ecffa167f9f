-- What class files come to: a program that is linked and verified, in which a class is looked up. The project's own order.
use Rattle.std.specs.Prelude.{ℕ, List, Result, Ok, Err}
use Rattle.std.specs.Option.{option_map_or}
use Rattle.nr_prog.specs.declared.body.loaded.Loaded.{Loaded}
use Rattle.nr_instrs.specs.Checks.{then_on}
use Rattle.nr_linked.specs.declared.program.tables.ProgramTables.{ProgramTables}
use Rattle.nr_linkrules.specs.declared.fault.LinkFault.{LinkFault}
use Rattle.nr_linkrules.specs.Completion.{linked_program}
use Rattle.nr_linkrules.specs.LinkFaults.{link_fault}
use Rattle.nr_linkrules.specs.Mains.{main_of}
use Rattle.nr_verify.specs.First.{program_fault}
use Rattle.nr_cli.specs.Refusals.{spelled_verify, told_fault}
use Rattle.nr_cli.specs.declared.ending.End.{End}
use Rattle.nr_cli.specs.declared.ending.End.TheVariants.{Link, Verify}

abbrev pub or_link : {A : Type 0} → Result A LinkFault → Result A End
or_link (Ok x) = Ok x
or_link (Err fault) = Err (Link fault)

-- the program of the classes, or the rule of linking that they break first
abbrev pub linked_of : List Loaded → Result ProgramTables End
linked_of classes = option_map_or (λ fault. Err (Link fault)) (link_fault classes) (Ok (linked_program classes))

-- the method `main` of the class of this name
abbrev pub found_in : ProgramTables → List ℕ → Result ℕ End
found_in P name = or_link (main_of P name)

-- the program where it is well typed, or its first check that fails
abbrev pub verified_of : ProgramTables → Result ProgramTables End
verified_of P =
    option_map_or (λ r. Err (Verify (spelled_verify P (told_fault P r.0 r.1)))) (program_fault P) (Ok P)

-- First the classes are linked, then the class is looked up, and then the program is verified.
abbrev pub prepared : List Loaded → List ℕ → Result (ProgramTables × ℕ) End
prepared classes name =
    then_on (linked_of classes) (λ P. then_on (found_in P name) (λ m. then_on (verified_of P) (λ Q. Ok (Q, m))))
