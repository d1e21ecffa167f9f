use Rattle.std.proofs.Common.{sym, ◌∙◌, subst}
use Rattle.nr_classmake.specs.Words.{Tries}
use Rattle.nr_classmake.proofs.Steps.{is_there, is_added}
use Rattle.nr_classmake.proofs.pool.Pool.place.Goals as goal

pub returns-in-Some : goal.returns-in-Some
returns-in-Some c = is_there c.args.entry c.args.self.now c.in-Some.slot (sym c.find.ensures.value ∙ c.in-Some.is)

pub returns-in-None : goal.returns-in-None
returns-in-None c = subst (λ m. Tries c.push.result c.args.self.now c.push.new.self m) (sym (is_added c.args.entry c.args.self.now (sym c.find.ensures.value ∙ c.in-None.is))) c.push.ensures
