use Rattle.std.proofs.Common.{subst, sym}
use Rattle.nr_classmake.proofs.Index.{IsWhole, cut}
use Rattle.nr_classmake.proofs.pool.Pool.truncate.Goals as goal

pub invariant_of-self : goal.invariant_of-self
invariant_of-self c = subst (λ xs. IsWhole c.self.inside.index xs) (sym c.truncate.ensures.items) (cut c.args.len _ _ c.self.invariant)
