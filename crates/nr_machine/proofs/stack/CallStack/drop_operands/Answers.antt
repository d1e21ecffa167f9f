use Rattle.std.proofs.Common.{◌≡◌, ◌≤◌, ◌-◌, ◌++◌, ◌∷◌, [], drop, sym, subst, arith}
use Rattle.nr_machine.specs.declared.stack.Frame.{Frame as CodeFrame}
use Rattle.nr_machine.specs.CallStacks.{IsStack, OnRunning, frames_of}
use Rattle.nr_machine.proofs.Pushes.{pushed}
use Rattle.nr_machine.proofs.Tops.{count}
use Rattle.nr_machine.proofs.Leaves.{few_operands, less_stack, less_frames}
use Rattle.nr_machine.proofs.stack.CallStack.drop_operands.Goals as goal

pub overflow_sub-frame : goal.overflow_sub-frame
overflow_sub-frame c =
    let P = c.args.program.now in
    let fs = c.args.self.now.frames.items in
    let vs = c.args.self.now.values.items in
    let st = c.requires.stack in
    let gs = c.pop.new.self.items in
    let g : CodeFrame = c.in-Some.frame in
    let e : fs ≡ gs ++ g ∷ [] = c.in-Some.ensures.items in
    let n = c.args.count in
    let l : n ≤ g.depth = few_operands P fs vs st gs g e n c.requires.enough in
    l

pub returns-clause-stack : goal.returns-clause-stack
returns-clause-stack c =
    let P = c.args.program.now in
    let fs = c.args.self.now.frames.items in
    let vs = c.args.self.now.values.items in
    let st = c.requires.stack in
    let gs = c.pop.new.self.items in
    let g : CodeFrame = c.in-Some.frame in
    let e : fs ≡ gs ++ g ∷ [] = c.in-Some.ensures.items in
    let n = c.args.count in
    let l : n ≤ g.depth = few_operands P fs vs st gs g e n c.requires.enough in
    let frames_are : c.push.new.self.items ≡ gs ++ record g { depth = g.depth - n } ∷ []
    = pushed c.push.result gs c.push.new.self.items (record g { depth = g.depth - n })
    (c.push.ensures.succeeds (omega (arith, st.few_frames, count P fs vs st gs g e, c.pop.ensures.capacity, c.pop.new.self.ok.0, c.args.self.now.frame_room))) c.push.ensures.items in
    subst (λ xs. IsStack P xs vs) (sym frames_are) (less_stack P fs vs st gs g e n (g.depth - n) (omega (arith, l)))

pub returns-clause-frames : goal.returns-clause-frames
returns-clause-frames c =
    let P = c.args.program.now in
    let fs = c.args.self.now.frames.items in
    let vs = c.args.self.now.values.items in
    let st = c.requires.stack in
    let gs = c.pop.new.self.items in
    let g : CodeFrame = c.in-Some.frame in
    let e : fs ≡ gs ++ g ∷ [] = c.in-Some.ensures.items in
    let n = c.args.count in
    let l : n ≤ g.depth = few_operands P fs vs st gs g e n c.requires.enough in
    let frames_are : c.push.new.self.items ≡ gs ++ record g { depth = g.depth - n } ∷ []
    = pushed c.push.result gs c.push.new.self.items (record g { depth = g.depth - n })
    (c.push.ensures.succeeds (omega (arith, st.few_frames, count P fs vs st gs g e, c.pop.ensures.capacity, c.pop.new.self.ok.0, c.args.self.now.frame_room))) c.push.ensures.items in
    subst (λ xs. OnRunning (frames_of P fs vs) (λ f others. frames_of P xs vs ≡ record f { operands = drop n f.operands } ∷ others)) (sym frames_are)
    (less_frames P fs vs st gs g e n (g.depth - n) (omega (arith, l)))
