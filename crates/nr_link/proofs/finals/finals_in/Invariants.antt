use Rattle.std.proofs.Common.{◌≡◌, ◌-◌, ◌++◌}
use Rattle.std.specs.List.{filter, range_with_len}
use Rattle.nr_link.specs.Finals.{finals_in, is_open_final_at}
use Rattle.nr_link.proofs.finals.finals_in.Given as goal

abbrev pub invariant-loop-method : goal.invariant-loop-method
invariant-loop-method l =
    l.finals ++ filter (is_open_final_at l.tables) (range_with_len l.method (l.end - l.method)) ≡ finals_in l.tables l.class
