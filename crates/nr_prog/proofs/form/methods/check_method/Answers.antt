use Rattle.std.proofs.Common.{◌||◌, ap, ◌∙◌}
use Rattle.nr_prog.specs.Seen.{has}
use Rattle.nr_prog.specs.TextNumbers.{number}
use Rattle.nr_prog.proofs.Numbered.{pair_at}
use Rattle.nr_prog.proofs.form.methods.check_method.Goals as goal

pub returns-clause-seen : goal.returns-clause-seen
returns-clause-seen c = λ n d.
    let pool = c.args.pool.now in
    c.in_ok-add.ensures.kept (number pool n) (number pool d)
    ∙ ap (λ b. has pool c.args.seen.now n d || b)
    (pair_at pool n d c.args.method.now.name c.args.method.now.desc c.number.result c.number-2.result c.in_ok-name.name.now c.in_ok-_desc._desc.now
    c.in_ok-name.ensures.text c.in_ok-_desc.ensures.text (c.number.ensures c.in_ok-name.name.now c.in_ok-name.ensures.text) (c.number-2.ensures c.in_ok-_desc._desc.now c.in_ok-_desc.ensures.text))
