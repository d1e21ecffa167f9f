use Rattle.nr_typelaws.proofs.Suited.{speaks}
use Rattle.nr_typelaws.proofs.law.suited_instructions_have_a_rule.Goals as goal

pub returns : goal.returns
returns c = λ p m s f suited e. (speaks s.instr.row.family p m s f suited).not_none e
