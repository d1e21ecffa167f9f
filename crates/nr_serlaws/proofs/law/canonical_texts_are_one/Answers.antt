use Rattle.nr_serlaws.proofs.Canonical.{canonical_spells, one_canonical}
use Rattle.nr_serlaws.proofs.law.canonical_texts_are_one.Goals as goal

pub returns-clause-spells : goal.returns-clause-spells
returns-clause-spells c = canonical_spells

pub returns-clause-one : goal.returns-clause-one
returns-clause-one c = one_canonical
