use Rattle.std.proofs.Common.{◌≡◌, ◌++◌, drop}
use Rattle.nr_linkrules.specs.Completion.{kinds_of}
use Rattle.nr_link.proofs.completion.kinds_of.Given as goal

abbrev pub invariant-loop-desc : goal.invariant-loop-desc
invariant-loop-desc l = l.kinds ++ kinds_of l.tables (drop l.desc-index l.descs) ≡ kinds_of l.tables l.descs
