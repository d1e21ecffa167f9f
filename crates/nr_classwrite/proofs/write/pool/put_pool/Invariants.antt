use Rattle.std.proofs.Common.{◌≡◌, ◌+◌, ◌++◌, ◌<◌, ℕ, length, take, get_or}
use Rattle.std.specs.List.{flat_map}
use Rattle.nr_prog.specs.declared.pool.PoolEntry.{PoolEntry}
use Rattle.nr_classwrite.specs.Fits.{EntryFits}
use Rattle.nr_classwrite.specs.Text.{two, entry_text}
use Rattle.nr_classwrite.proofs.write.pool.put_pool.Given as goal

abbrev pub invariant-loop-entry : goal.invariant-loop-entry
invariant-loop-entry l = record {
  text : l.put ≡ l.fn.put ++ (two (length l.pool + 1) ++ flat_map entry_text (take l.entry-index l.pool));
  fits : (k : ℕ) (d : PoolEntry) → k < l.entry-index → EntryFits (get_or l.pool k d);
}
