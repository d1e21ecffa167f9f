use Rattle.std.proofs.Common.{◌∙◌, ◌+◌, ap, arith, add-one, length}
use Rattle.nr_linked.specs.TypingLocals.{put_word}
use Rattle.nr_verify_ops.proofs.Listing.{listed_long, put_padded}
use Rattle.nr_verify_ops.proofs.store.put_word.Goals as goal

pub put_listed-requires : goal.put_listed-requires
put_listed-requires c = let long = listed_long (c.args.i + 1) c.args.locals.now.items in let same = ap length c.in_ok-pad.ensures in omega (arith, long, same)

pub returns : goal.returns
returns c = c.put_listed.ensures ∙ (ap (λ ts. put_word c.args.i c.args.t ts) c.in_ok-pad.ensures ∙ rw add-one (put_padded c.args.i c.args.t c.args.locals.now.items))
