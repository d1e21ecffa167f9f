use Rattle.std.proofs.Common.{◌≡◌, ◌++◌, drop, length, map}
use Rattle.std.specs.Vec.Iter.{into_iter_items, into_iter_len}
use Rattle.nr_linkrules.specs.Completion.{resolved_in}
use Rattle.nr_linkrules.specs.Faults.{first_of}
use Rattle.nr_linkrules.specs.SiteRules.{around_fault}
use Rattle.nr_link.specs.Completing.{found_for}
use Rattle.nr_link.proofs.completion.found_for_all.Given as goal

abbrev pub invariant-loop-info : goal.invariant-loop-info
invariant-loop-info l = record {
  fault : first_of (around_fault l.tables) (drop l.info-index l.methods) ≡ first_of (around_fault l.tables) l.methods;
  found : l.found ++ map (found_for l.tables) (drop l.info-index l.methods) ≡ map (found_for l.tables) l.methods;
  rest : into_iter_items l.rest ≡ map (resolved_in l.tables) (drop l.info-index l.methods);
  len : length (into_iter_items l.rest) ≡ into_iter_len l.rest;
}
