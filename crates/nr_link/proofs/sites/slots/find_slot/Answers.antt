use Rattle.std.proofs.Common.{sym, subst}
use Rattle.nr_base.specs.Clauses.{GivesWhole}
use Rattle.nr_linkrules.specs.Faults.{is_free}
use Rattle.nr_linkrules.specs.SiteRules.{Finding, place_in, slot_found}
use Rattle.nr_linked.specs.declared.program.tables.Resolved.{Resolved}
use Rattle.nr_link.proofs.sites.slots.find_slot.Goals as goal

pub returns-in-Some : goal.returns-in-Some
returns-in-Some c =
    let s = slot_found c.args.tables.now (place_in c.args.tables.now c.args.info.now c.args.at) in
    subst (λ (found : Finding Resolved). GivesWhole is_free c.slot_of_member.result found) (sym (c.in-Some.ensures.found c.args.tables.now s)) c.slot_of_member.ensures

pub returns-in-None : goal.returns-in-None
returns-in-None c = c.in-None.ensures.found c.args.tables.now (slot_found c.args.tables.now (place_in c.args.tables.now c.args.info.now c.args.at))
