use Rattle.std.proofs.Common.{not, ap, ◌∙◌}
use Rattle.nr_prog.proofs.SeenLaws.{contains_is_has, has_more}
use Rattle.nr_prog.proofs.form.seen.add.Goals as goal

pub returns-clause-new : goal.returns-clause-new
returns-clause-new c = c.in_ok-new.ensures.added ∙ ap not (contains_is_has c.args.seen.now c.args.name c.args.desc)

pub returns-clause-kept : goal.returns-clause-kept
returns-clause-kept c = has_more c.args.seen.now c.insert.new.self c.args.name c.args.desc c.in_ok-new.ensures.keys
