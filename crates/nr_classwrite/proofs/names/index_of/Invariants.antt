use Rattle.std.proofs.Common.{◌≡◌, ◌+◌, drop}
use Rattle.nr_classwrite.specs.Names.{is_utf8_of, index_from}
use Rattle.nr_classwrite.proofs.names.index_of.Given as goal

abbrev pub invariant-loop-entry : goal.invariant-loop-entry
invariant-loop-entry l = record {
  index : l.index ≡ l.entry-index;
  found : index_from (l.index + 1) (is_utf8_of l.text) (drop l.entry-index l.pool) ≡ index_from 1 (is_utf8_of l.text) l.fn.pool;
}
