use Rattle.std.proofs.Common.{sym}
use Rattle.nr_verify_ops.proofs.Halves.{put_word_is}
use Rattle.nr_verify_ops.proofs.store.put_within.Goals as goal

pub returns : goal.returns
returns c = rw (c.set.ensures, c.end_half.ensures, c.end_long_before.ensures) (sym (put_word_is c.args.i c.args.t c.args.locals.now c.requires))
