use Rattle.std.proofs.Common.{◌≡◌, ◌++◌, replicate}
use Rattle.nr_cli.proofs.spelling.verify.put_array.Given as goal

abbrev pub invariant-loop-dim : goal.invariant-loop-dim
invariant-loop-dim l = l.text ≡ l.fn.text ++ replicate l.dim 91
