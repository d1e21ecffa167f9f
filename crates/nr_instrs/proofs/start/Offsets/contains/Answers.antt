use Rattle.std.proofs.Common.{ℕ, ◌∙◌}
use Rattle.nr_instrs.specs.Checks.{is_among}
use Rattle.nr_instrs.proofs.Orders.{tells}
use Rattle.nr_instrs.proofs.start.Offsets.contains.Goals as goal

pub returns : goal.returns
unfolding is_among
returns c =
    let facts = c.binary_search.ensures in
    rw (← c.self.view_is, ← c.as_slice.ensures) (c.is_ok.ensures.value ∙ tells (λ (n : ℕ). n) c.as_slice.result.now (rw c.as_slice.ensures c.self.invariant) c.args.at c.binary_search.result facts.bound facts.position)
