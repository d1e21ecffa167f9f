use Rattle.std.proofs.Common.{◌∙◌, ap, not}
use Rattle.nr_names.specs.Numbers.{texts}
use Rattle.nr_linkrules.proofs.NameLaws.{any_text}
use Rattle.nr_link.proofs.names.add.Goals as goal

pub returns-clause-new : goal.returns-clause-new
unfolding texts
returns-clause-new c = c.in_ok-new.ensures.added ∙ ap not (any_text c.args.name c.args.names.now.keys)
