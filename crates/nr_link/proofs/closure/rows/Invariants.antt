use Rattle.std.proofs.Common.{◌≡◌}
use Rattle.nr_linkrules.specs.Reaches.{rows_of}
use Rattle.nr_link.proofs.closure.rows.Given as goal

abbrev pub invariant-loop-by : goal.invariant-loop-by
invariant-loop-by l = l.rows ≡ rows_of l.tables l.by
