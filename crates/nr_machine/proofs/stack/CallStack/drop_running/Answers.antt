use Rattle.std.proofs.Common.{◌≡◌, ◌+◌, ◌-◌, ◌∙◌, length, ap, arith, sym, subst, take}
use Rattle.nr_machine.specs.declared.stack.Frame.{Frame as CodeFrame}
use Rattle.nr_machine.specs.CallStacks.{IsStack, OnRunning, frames_of, slots_of}
use Rattle.nr_machine.proofs.Enters.{slots_of_method}
use Rattle.nr_machine.proofs.Leaves.{slots_below, stays_stack, dropped}
use Rattle.nr_machine.proofs.stack.CallStack.drop_running.Goals as goal

pub overflow_sub-len : goal.overflow_sub-len
overflow_sub-len c =
    let P = c.args.program.now in
    let vs = c.args.self.now.values.items in
    let g : CodeFrame = c.in-Some.frame in
    let s = slots_of_method P g.method c.method-info.result.now c.method-info.ensures in
    omega (
      arith,
      s,
      c.from.ensures,
      c.from-2.ensures,
      c.len.ensures,
      c.args.self.now.values.ok.0,
      slots_below P c.args.self.now.frames.items vs c.requires.stack c.pop.new.self.items g c.in-Some.ensures.items,
    )

pub returns-clause-stack : goal.returns-clause-stack
returns-clause-stack c =
    let P = c.args.program.now in
    let vs = c.args.self.now.values.items in
    let g : CodeFrame = c.in-Some.frame in
    let s = slots_of_method P g.method c.method-info.result.now c.method-info.ensures in
    let n : c.len.result - (c.from.result + c.from-2.result) ≡ length vs - slots_of P g.method = omega (arith, s, c.from.ensures, c.from-2.ensures, c.len.ensures, c.args.self.now.values.ok.0) in
    subst (IsStack P c.pop.new.self.items) (sym (c.truncate.ensures.items ∙ ap (λ k. take k vs) n))
    (stays_stack P c.args.self.now.frames.items vs c.requires.stack c.pop.new.self.items g c.in-Some.ensures.items)

pub returns-clause-dropped : goal.returns-clause-dropped
returns-clause-dropped c =
    let P = c.args.program.now in
    let vs = c.args.self.now.values.items in
    let g : CodeFrame = c.in-Some.frame in
    let s = slots_of_method P g.method c.method-info.result.now c.method-info.ensures in
    let n : c.len.result - (c.from.result + c.from-2.result) ≡ length vs - slots_of P g.method = omega (arith, s, c.from.ensures, c.from-2.ensures, c.len.ensures, c.args.self.now.values.ok.0) in
    subst (λ us. OnRunning (frames_of P c.args.self.now.frames.items vs) (λ f fs. frames_of P c.pop.new.self.items us ≡ fs)) (sym (c.truncate.ensures.items ∙ ap (λ k. take k vs) n))
    (dropped P c.args.self.now.frames.items vs c.requires.stack c.pop.new.self.items g c.in-Some.ensures.items)
