use Rattle.nr_linked.specs.BuiltInTables.{built_in_tables}
use Rattle.nr_linked.proofs.WitnessFacts.{facts}
use Rattle.nr_serlaws.proofs.Example.{are_bytes, is_canonical, is_read, numbers_fit, one, small_text, text}
use Rattle.nr_serlaws.proofs.law.premises_can_be_met.Goals as goal

pub returns : goal.returns
returns c = (built_in_tables, text, one, facts, numbers_fit, are_bytes, small_text, is_read, is_canonical)
