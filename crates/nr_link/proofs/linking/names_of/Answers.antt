use Rattle.std.proofs.Common.{sym, subst}
use Rattle.std.specs.Prelude.{List, ℕ, Result, IfOk}
use Rattle.nr_link.specs.Seen.{AreApart}
use Rattle.nr_link.proofs.LinkedPrograms.{apart_at}
use Rattle.nr_link.proofs.linking.names_of.Goals as goal

pub returns-clause-apart : goal.returns-clause-apart
returns-clause-apart c = apart_at c.args.classes.now c.all_names.result c.in_ok-_own.ensures.fault c.all_names.ensures.names
