use Rattle.std.proofs.Common.{◌≡◌, ◌++◌, drop, map}
use Rattle.nr_linkrules.specs.Completion.{resolved_in}
use Rattle.nr_linkrules.specs.Faults.{first_of}
use Rattle.nr_linkrules.specs.SiteRules.{code_fault}
use Rattle.nr_link.proofs.code.find_in_methods.Given as goal

abbrev pub invariant-loop-info : goal.invariant-loop-info
invariant-loop-info l = record {
  fault : first_of (code_fault l.tables) (drop l.info-index l.methods) ≡ first_of (code_fault l.tables) l.methods;
  found : l.found ++ map (resolved_in l.tables) (drop l.info-index l.methods) ≡ map (resolved_in l.tables) l.methods;
}
