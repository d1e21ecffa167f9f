use Rattle.nr_instrs.proofs.Codes.{raws_in_order}
use Rattle.nr_instrs.proofs.code.instrs.Goals as goal

pub settle_all-requires : goal.settle_all-requires
settle_all-requires c = raws_in_order c.args.class.now.pool c.args.bytes.now c.in_ok-raws.raws c.requires.texts c.requires.bytes c.in_ok-raws.ensures
