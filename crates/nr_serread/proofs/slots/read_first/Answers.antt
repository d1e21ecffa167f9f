use Rattle.std.proofs.Common.{rules, refl}
use Rattle.nr_serread.proofs.Opening.{root_due}
use Rattle.nr_serread.proofs.Stepping.{slot_on, slot_err}
use Rattle.nr_serread.proofs.slots.read_first.Goals as goal

pub returns-clause-on : goal.returns-clause-on
returns-clause-on c = λ roots. slot_on _ _ _ _ _ _ _ _ _ _ c.read_slot.result (root_due c.args.w.now.frames.items _ roots c.requires.closed) (c.read_slot.ensures.reads roots)

pub returns-clause-err : goal.returns-clause-err
returns-clause-err c = λ roots. slot_err _ _ _ _ _ _ _ _ _ _ c.read_slot.result (root_due c.args.w.now.frames.items _ roots c.requires.closed) (c.read_slot.ensures.reads roots)
