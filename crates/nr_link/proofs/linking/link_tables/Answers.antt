use Rattle.std.proofs.Common.{◌≤◌, List, length, sym, ap, subst, ◌∙◌}
use Rattle.std.specs.Prelude.{Option}
use Rattle.std.proofs.lemmas.Result.{err_from_is_err_and}
use Rattle.nr_prog.specs.declared.body.loaded.Loaded.{Loaded}
use Rattle.nr_linkrules.specs.declared.fault.LinkFault.{LinkFault}
use Rattle.nr_linkrules.specs.ClassRules.{list_fault}
use Rattle.nr_linkrules.specs.Faults.{Fails, Finds}
use Rattle.nr_linkrules.specs.LinkFaults.{code_faults}
use Rattle.nr_linkrules.specs.Outline.{names_of}
use Rattle.nr_link.proofs.LinkedPrograms.{at_classes, at_list, behind_classes, coded_at, finished_if, later_at, ready_at}
use Rattle.nr_link.proofs.linking.link_tables.Goals as goal

pub returns-in_err-all-clause-fault : goal.returns-in_err-all-clause-fault
returns-in_err-all-clause-fault c =
    let p = err_from_is_err_and c.from_residual.result c.from_residual.ensures.1 in
    rw (p.1, p.2) (at_list c.args.classes _ (subst (λ (ls : List Loaded). Fails c.in_err-all.field-0.0 (list_fault ls)) c.as_slice.ensures c.in_err-all.ensures.fault))

pub returns-in_err-tables-clause-fault : goal.returns-in_err-tables-clause-fault
returns-in_err-tables-clause-fault c =
    let p = err_from_is_err_and c.from_residual-in_err-tables.result c.from_residual-in_err-tables.ensures.1 in
    rw (p.1, p.2) (at_classes c.args.classes _ (ap list_fault (sym c.as_slice.ensures) ∙ c.in_ok-all.ensures.fault) c.in_err-tables.ensures.fault)

pub finish-requires-clause-ready : goal.finish-requires-clause-ready
finish-requires-clause-ready c =
    ready_at c.args.classes c.requires.readable (subst (λ (ls : List Loaded). length ls ≤ 1024) c.as_slice.ensures c.in_ok-all.ensures.few) c.in_ok-tables.field-0.tables c.in_ok-names.names c.as_slice-3.result.now
    c.in_ok-tables.ensures.tables (c.in_ok-names.ensures.names ∙ c.as_slice-2.ensures ∙ c.in_ok-all.ensures.names ∙ ap names_of c.as_slice.ensures) (c.as_slice-3.ensures ∙ c.in_ok-tables.ensures.rows)

pub finish-requires-clause-coded : goal.finish-requires-clause-coded
finish-requires-clause-coded c =
    coded_at c.args.classes c.requires.readable (subst (λ (ls : List Loaded). length ls ≤ 1024) c.as_slice.ensures c.in_ok-all.ensures.few) c.in_ok-tables.field-0.tables c.in_ok-tables.ensures.tables

pub finish-requires-clause-later : goal.finish-requires-clause-later
finish-requires-clause-later c = later_at c.args.classes c.in_ok-tables.field-0.tables c.in_ok-tables.ensures.tables

pub returns-clause-fault : goal.returns-clause-fault
returns-clause-fault c =
    subst (λ (found : Option LinkFault). Finds c.finish.result found)
    (ap code_faults c.in_ok-tables.ensures.tables ∙ behind_classes c.args.classes (ap list_fault (sym c.as_slice.ensures) ∙ c.in_ok-all.ensures.fault) c.in_ok-tables.ensures.fault)
    c.finish.ensures.fault

pub returns-clause-tables : goal.returns-clause-tables
returns-clause-tables c = finished_if c.args.classes c.in_ok-tables.field-0.tables c.finish.result c.in_ok-tables.ensures.tables c.finish.ensures.tables
