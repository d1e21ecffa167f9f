use Rattle.std.proofs.Common.{◌||◌, ap, ◌∙◌}
use Rattle.nr_prog.specs.Seen.{has}
use Rattle.nr_prog.specs.TextNumbers.{number}
use Rattle.nr_prog.proofs.Numbered.{on_ok, pair_at}
use Rattle.nr_prog.proofs.form.fields.check_field.Goals as goal

pub returns-clause-seen : goal.returns-clause-seen
returns-clause-seen c = on_ok c.check_constant.result _ (λ n d.
    let pool = c.args.pool.now in
    c.in_ok-add.ensures.kept (number pool n) (number pool d)
    ∙ ap (λ b. has pool c.args.seen.now n d || b)
    (pair_at pool n d c.args.field.now.name c.args.field.now.desc c.number.result c.number-2.result c.in_ok-_name._name.now c.in_ok-desc.desc.now
    c.in_ok-_name.ensures.text c.in_ok-desc.ensures.text (c.number.ensures c.in_ok-_name._name.now c.in_ok-_name.ensures.text) (c.number-2.ensures c.in_ok-desc.desc.now c.in_ok-desc.ensures.text)))
