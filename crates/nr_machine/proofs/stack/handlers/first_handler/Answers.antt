use Rattle.std.proofs.Common.{◌∙◌, arith, sym}
use Rattle.nr_machine.proofs.Catching.{handler_on, handler_end}
use Rattle.nr_machine.proofs.stack.handlers.first_handler.Goals as goal

pub loop-i-preserved : goal.loop-i-preserved
loop-i-preserved c =
    sym (handler_on c.args.program.now c.args.offset c.args.kind c.args.handlers.now c.args.caught.now c.loop-i.i _ _
    (omega (arith, c.loop-i-test.true, c.min-i-end.ensures)) (omega (arith, c.loop-i-test.true, c.min-i-end.ensures)) (sym c.if-handles.ensures))
    ∙ c.loop-i.invariant

pub returns : goal.returns
returns c =
    sym (handler_end c.args.program.now c.args.offset c.args.kind c.args.handlers.now c.args.caught.now c.loop-i.i (omega (arith, c.loop-i-test.false, c.min-i-end.ensures)))
    ∙ c.loop-i.invariant
