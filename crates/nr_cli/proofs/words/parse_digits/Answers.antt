use Rattle.nr_cli.proofs.Numbers.{too_large}
use Rattle.nr_cli.proofs.words.parse_digits.Goals as goal

pub returns-in-Err : goal.returns-in-Err
returns-in-Err c = too_large c.args.word.now c.requires c.in-Err.ensures.value.0
