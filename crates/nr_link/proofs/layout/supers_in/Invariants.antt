use Rattle.std.proofs.Common.{◌≡◌, ◌-◌, ◌++◌}
use Rattle.std.specs.List.{filter, range_with_len}
use Rattle.nr_linkrules.specs.Reaches.{reaches}
use Rattle.nr_link.proofs.layout.supers_in.Given as goal

abbrev pub invariant-loop-above : goal.invariant-loop-above
invariant-loop-above l =
    l.supers ++ filter (reaches l.tables l.class) (range_with_len l.above (l.above-end - l.above)) ≡ filter (reaches l.tables l.class) (range_with_len 0 l.above-end)
