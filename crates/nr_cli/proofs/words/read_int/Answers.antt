use Rattle.std.proofs.Common.{sym, ◌∙◌}
use Rattle.nr_cli.proofs.Numbers.{no_int}
use Rattle.nr_cli.proofs.words.read_int.Goals as goal

pub returns-in-None-read_number-2 : goal.returns-in-None-read_number-2
unfolding lib.Utf8.encode
returns-in-None-read_number-2 c =
    no_int c.args.word.now c.in-None.ensures.cases (sym c.read_number-in-None.ensures ∙ c.in-None-read_number-2.is)
