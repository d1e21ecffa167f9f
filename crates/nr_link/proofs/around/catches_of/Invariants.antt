use Rattle.std.proofs.Common.{◌≡◌, ◌++◌, drop, map}
use Rattle.nr_linkrules.specs.Completion.{caught}
use Rattle.nr_linkrules.specs.Faults.{first_of}
use Rattle.nr_linkrules.specs.SiteRules.{handler_fault}
use Rattle.nr_link.proofs.around.catches_of.Given as goal

abbrev pub invariant-loop-handler : goal.invariant-loop-handler
invariant-loop-handler l = record {
  passed : first_of (handler_fault l.tables l.class.pool) (drop l.handler-index l.handlers) ≡ first_of (handler_fault l.tables l.class.pool) l.handlers;
  so_far : l.catches ++ map (caught l.tables l.class.pool) (drop l.handler-index l.handlers) ≡ map (caught l.tables l.class.pool) l.handlers;
}
