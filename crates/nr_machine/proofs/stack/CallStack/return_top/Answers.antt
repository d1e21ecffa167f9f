use Rattle.nr_machine.specs.CallStacks.{frames_of}
use Rattle.nr_machine.proofs.Settling.{returns_top, some_top}
use Rattle.nr_machine.proofs.stack.CallStack.return_top.Goals as goal

pub top_operand-value-requires-clause-some : goal.top_operand-value-requires-clause-some
top_operand-value-requires-clause-some c =
    some_top c.args.program.now c.requires.facts c.requires.left.0 c.args.heap.now.objects c.args.told.now
    (frames_of c.args.program.now c.args.self.now.frames.items c.args.self.now.values.items) c.requires.left.2

pub return_value-requires-clause-left : goal.return_value-requires-clause-left
return_value-requires-clause-left c = (
  c.requires.left.0,
  c.requires.left.1,
  returns_top c.args.program.now c.requires.facts c.requires.left.0 c.args.heap.now.objects c.args.told.now
      (frames_of c.args.program.now c.args.self.now.frames.items c.args.self.now.values.items) c.requires.left.2 c.top_operand-value.result c.top_operand-value.ensures,
)

pub returns-clause-settles : goal.returns-clause-settles
returns-clause-settles c = λ h stand l service printed short.
    c.return_value.ensures.settles h stand (returns_top c.args.program.now c.requires.facts h c.args.heap.now.objects c.args.told.now
    (frames_of c.args.program.now c.args.self.now.frames.items c.args.self.now.values.items) l c.top_operand-value.result c.top_operand-value.ensures) service printed short
