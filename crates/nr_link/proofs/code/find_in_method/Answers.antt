use Rattle.std.proofs.Common.{sym, ap, subst, ◌∙◌}
use Rattle.std.specs.Prelude.{Option}
use Rattle.nr_linkrules.specs.declared.fault.LinkFault.{LinkFault}
use Rattle.nr_linkrules.specs.Faults.{Finds, first_of}
use Rattle.nr_link.specs.Coded.{site_fault}
use Rattle.nr_link.proofs.CodedMethods.{faults_are, no_body, no_code_fault}
use Rattle.nr_link.proofs.code.find_in_method.Goals as goal

pub returns-in-Some-clause-fault : goal.returns-in-Some-clause-fault
returns-in-Some-clause-fault c =
    let e = faults_are c.args.tables.now c.args.info.now c.in-Some.class.now c.in-Some.ensures
    ∙ ap (first_of (site_fault c.args.tables.now c.args.info.now c.in-Some.class.now.pool)) (sym c.instrs_of-instrs.ensures) in
    subst (λ (found : Option LinkFault). Finds c.find_each.result found) (sym e) c.find_each.ensures.fault

pub returns-in-None-clause-fault : goal.returns-in-None-clause-fault
returns-in-None-clause-fault c =
    no_code_fault c.args.tables.now c.args.info.now (no_body c.args.tables.now c.args.info.now c.requires.coded c.in-None.ensures)
