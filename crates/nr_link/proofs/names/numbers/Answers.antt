use Rattle.std.proofs.Common.{ap, List, ℕ, map}
use Rattle.std.specs.Borrow.{Bor}
use Rattle.nr_names.specs.Numbers.{texts}
use Rattle.nr_link.proofs.names.numbers.Goals as goal

pub loop-name-init : goal.loop-name-init
unfolding texts
loop-name-init c = ap (map (λ (k : Bor (List ℕ)). k.now)) c.new-names.ensures.empty
