use Rattle.std.proofs.Common.{ap, ◌∙◌}
use Rattle.nr_prog.specs.TextNumbers.{numbers_of, listed_number}
use Rattle.nr_prog.proofs.Numbered.{number_listed}
use Rattle.nr_prog.proofs.pool.view.Pool.number.Goals as goal

pub returns : goal.returns
returns c = λ text e.
    c.number.ensures ∙ ap (λ ns. listed_number ns c.args.index) c.self.invariant.1
    ∙ ap (λ es. listed_number (numbers_of es) c.args.index) c.self.view_is ∙ number_listed c.args.self.now c.args.index text e
