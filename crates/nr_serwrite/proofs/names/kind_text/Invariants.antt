use Rattle.std.proofs.Common.{◌≡◌, replicate}
use Rattle.nr_serwrite.proofs.names.kind_text.Given as goal

abbrev pub invariant-loop-dim : goal.invariant-loop-dim
invariant-loop-dim l = l.text.items ≡ replicate l._dim 0x5B
