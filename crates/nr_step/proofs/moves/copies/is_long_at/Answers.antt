use Rattle.std.proofs.Common.{◌≡◌, subst, sym}
use Rattle.std.specs.Prelude.{IsSomeAnd}
use Rattle.nr_model.specs.Scripts.{is_long}
use Rattle.nr_step.proofs.moves.copies.is_long_at.Goals as goal

pub returns : goal.returns
returns c = subst (λ s. IsSomeAnd s (λ v. is_long v ≡ c.is_long.result)) (sym c.operand_at.ensures) (sym c.is_long.ensures)
