use Rattle.std.proofs.Common.{◌∙◌}
use Rattle.nr_names.specs.Numbers.{texts}
use Rattle.nr_names.proofs.Numbering.{place_text}
use Rattle.nr_names.proofs.Numbering.{within}
use Rattle.nr_names.proofs.numbers.number.Goals as goal

pub returns-clause-number : goal.returns-clause-number
unfolding texts
returns-clause-number c = c.get_index_of.ensures.index ∙ place_text c.args.text c.args.known.now.keys

pub returns-clause-within : goal.returns-clause-within
unfolding texts
returns-clause-within c =
    within (texts c.args.known.now) c.args.text.now c.get_index_of.result (c.get_index_of.ensures.index ∙ place_text c.args.text c.args.known.now.keys)
