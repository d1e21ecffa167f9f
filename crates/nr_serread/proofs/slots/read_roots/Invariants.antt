use Rattle.std.proofs.Common.{◌≡◌, ◌-◌, [], replicate}
use Rattle.nr_serread.specs.Reading.{slots_at, root_due}
use Rattle.nr_serread.specs.Working.{state_of, Fits}
use Rattle.nr_serread.proofs.slots.read_roots.Given as goal

abbrev pub invariant-loop-root : goal.invariant-loop-root
invariant-loop-root l = record {
  on : slots_at l.forms (state_of l.w (replicate (l.n_roots - l._root) (root_due l.forms))) l.cur
      ≡ slots_at l.forms (state_of l.fn.w (replicate l.n_roots (root_due l.forms))) l.fn.cur;
  fits : Fits l.w;
  closed : l.w.frames.items ≡ [];
}
