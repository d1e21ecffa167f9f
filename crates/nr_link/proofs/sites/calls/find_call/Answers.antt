use Rattle.std.proofs.Common.{sym, subst}
use Rattle.nr_base.specs.Clauses.{GivesWhole}
use Rattle.nr_linkrules.specs.Faults.{is_free}
use Rattle.nr_linkrules.specs.SiteRules.{Finding, method_found, place_in}
use Rattle.nr_linked.specs.declared.program.tables.Resolved.{Resolved}
use Rattle.nr_link.proofs.sites.calls.find_call.Goals as goal

pub returns-in-Some : goal.returns-in-Some
returns-in-Some c =
    let s = method_found c.args.tables.now (place_in c.args.tables.now c.args.info.now c.args.at) c.args.code in
    subst (λ (found : Finding Resolved). GivesWhole is_free c.call_of_member.result found) (sym (c.in-Some.ensures.found c.args.tables.now s)) c.call_of_member.ensures

pub returns-in-None : goal.returns-in-None
returns-in-None c = c.in-None.ensures.found c.args.tables.now (method_found c.args.tables.now (place_in c.args.tables.now c.args.info.now c.args.at) c.args.code)
