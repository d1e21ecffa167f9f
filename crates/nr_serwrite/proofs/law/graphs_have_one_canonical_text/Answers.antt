use Rattle.nr_serwrite.proofs.OneText.{one_canonical}
use Rattle.nr_serwrite.proofs.ReadTexts.{canonical_read}
use Rattle.nr_serwrite.proofs.SomeText.{some_canonical}
use Rattle.nr_serwrite.proofs.law.graphs_have_one_canonical_text.Goals as goal

pub returns-clause-spells : goal.returns-clause-spells
returns-clause-spells c = canonical_read

pub returns-clause-some : goal.returns-clause-some
returns-clause-some c = λ p g linked spellable. some_canonical p linked g spellable

pub returns-clause-one : goal.returns-clause-one
returns-clause-one c = one_canonical
