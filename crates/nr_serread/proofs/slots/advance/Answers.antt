use Rattle.std.proofs.Common.{◌≡◌, ◌++◌, ◌∷◌, [], rules, refl, Some}
use Rattle.nr_serread.proofs.Opening.{next_due}
use Rattle.nr_serread.proofs.Stepping.{slot_on, slot_err, slot_less}
use Rattle.nr_serread.proofs.slots.advance.Goals as goal

pub returns-in_ok-push-in-Some-clause-on : goal.returns-in_ok-push-in-Some-clause-on
returns-in_ok-push-in-Some-clause-on c = λ roots.
    slot_on _ _ _ _ _ _ _ _ _ _ c.read_slot.result
    (next_due c.args.w.now.frames.items c.push.new.self.items c.args.frame.node c.args.frame.left c.in-Some.left (record { owner = Some c.args.frame.node; kind = c.in-Some.kind }) roots (c.in-Some.ensures c.args.frame.node) (search rules)) (c.read_slot.ensures.reads roots)

pub returns-in_ok-push-in-Some-clause-err : goal.returns-in_ok-push-in-Some-clause-err
returns-in_ok-push-in-Some-clause-err c = λ roots.
    slot_err _ _ _ _ _ _ _ _ _ _ c.read_slot.result
    (next_due c.args.w.now.frames.items c.push.new.self.items c.args.frame.node c.args.frame.left c.in-Some.left (record { owner = Some c.args.frame.node; kind = c.in-Some.kind }) roots (c.in-Some.ensures c.args.frame.node) (search rules)) (c.read_slot.ensures.reads roots)

pub returns-in_ok-push-in-Some-clause-smaller : goal.returns-in_ok-push-in-Some-clause-smaller
returns-in_ok-push-in-Some-clause-smaller c = slot_less _ _ _ _ _ _ c.read_slot.result _ _ (c.read_slot.ensures.reads []) (search rules)
