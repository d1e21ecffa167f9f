use Rattle.std.proofs.Common.{◌≡◌, ◌≤◌, ◌+◌, ◌-◌, ◌++◌, ◌∷◌, [], length, refl, ap, arith, sym, subst, subst₂, set}
use Rattle.std.specs.Prelude.{IsSomeAnd}
use Rattle.nr_linked.specs.declared.program.tables.MethodInfo.{MethodInfo}
use Rattle.nr_machine.specs.declared.stack.Frame.{Frame as CodeFrame}
use Rattle.nr_machine.specs.CallStacks.{IsStack, OnRunning, frames_of}
use Rattle.nr_machine.proofs.Tops.{count}
use Rattle.nr_machine.proofs.Pushes.{pushed}
use Rattle.nr_machine.proofs.Leaves.{own_values, place_within, put_stack, put}
use Rattle.nr_machine.proofs.stack.CallStack.put_back.Goals as goal

pub overflow_sub-operands : goal.overflow_sub-operands
overflow_sub-operands c =
    let P = c.args.program.now in
    let gs = c.args.self.now.frames.items in
    let vs = c.args.self.now.values.items in
    let g : CodeFrame = c.args.frame in
    let own : MethodInfo = c.method-info.result.now in
    let room : g.depth + 1 ≤ own.max_stack = subst (λ o. IsSomeAnd o (λ (i : MethodInfo). g.depth + 1 ≤ i.max_stack)) c.method-info.ensures c.requires.room in
    omega (arith, c.from.ensures, c.len.ensures, c.args.self.now.values.ok.0, own_values P (gs ++ g ∷ []) vs c.requires.stack gs g refl own c.method-info.ensures room c.args.operand)

pub index_mut-requires : goal.index_mut-requires
index_mut-requires c =
    let P = c.args.program.now in
    let gs = c.args.self.now.frames.items in
    let vs = c.args.self.now.values.items in
    let g : CodeFrame = c.args.frame in
    let own : MethodInfo = c.method-info.result.now in
    let room : g.depth + 1 ≤ own.max_stack = subst (λ o. IsSomeAnd o (λ (i : MethodInfo). g.depth + 1 ≤ i.max_stack)) c.method-info.ensures c.requires.room in
    omega (arith, c.from.ensures, c.len.ensures, c.args.self.now.values.ok.0, place_within P (gs ++ g ∷ []) vs c.requires.stack gs g refl own c.method-info.ensures room c.args.operand)

pub returns-clause-stack : goal.returns-clause-stack
returns-clause-stack c =
    let P = c.args.program.now in
    let gs = c.args.self.now.frames.items in
    let vs = c.args.self.now.values.items in
    let g : CodeFrame = c.args.frame in
    let own : MethodInfo = c.method-info.result.now in
    let room : g.depth + 1 ≤ own.max_stack = subst (λ o. IsSomeAnd o (λ (i : MethodInfo). g.depth + 1 ≤ i.max_stack)) c.method-info.ensures c.requires.room in
    let at : c.len.result - c.from.result + g.depth ≡ length vs - own.max_stack + g.depth = omega (arith, c.from.ensures, c.len.ensures, c.args.self.now.values.ok.0) in
    let frames_are : c.push.new.self.items ≡ gs ++ record g { depth = g.depth + 1 } ∷ []
    = pushed c.push.result gs c.push.new.self.items (record g { depth = g.depth + 1 })
    (c.push.ensures.succeeds (omega (arith, c.requires.stack.few_frames, count P (gs ++ g ∷ []) vs c.requires.stack gs g refl, c.args.self.now.frames.ok.0, c.args.self.now.frame_room))) c.push.ensures.items in
    subst₂ (IsStack P) (sym frames_are) (ap (λ k. set vs k c.args.operand) (sym at))
    (put_stack P (gs ++ g ∷ []) vs c.requires.stack gs g refl own c.method-info.ensures room c.args.operand)

pub returns-clause-frames : goal.returns-clause-frames
returns-clause-frames c =
    let P = c.args.program.now in
    let gs = c.args.self.now.frames.items in
    let vs = c.args.self.now.values.items in
    let g : CodeFrame = c.args.frame in
    let own : MethodInfo = c.method-info.result.now in
    let room : g.depth + 1 ≤ own.max_stack = subst (λ o. IsSomeAnd o (λ (i : MethodInfo). g.depth + 1 ≤ i.max_stack)) c.method-info.ensures c.requires.room in
    let at : c.len.result - c.from.result + g.depth ≡ length vs - own.max_stack + g.depth = omega (arith, c.from.ensures, c.len.ensures, c.args.self.now.values.ok.0) in
    let frames_are : c.push.new.self.items ≡ gs ++ record g { depth = g.depth + 1 } ∷ []
    = pushed c.push.result gs c.push.new.self.items (record g { depth = g.depth + 1 })
    (c.push.ensures.succeeds (omega (arith, c.requires.stack.few_frames, count P (gs ++ g ∷ []) vs c.requires.stack gs g refl, c.args.self.now.frames.ok.0, c.args.self.now.frame_room))) c.push.ensures.items in
    subst₂ (λ fs us. OnRunning (frames_of P (gs ++ g ∷ []) vs) (λ f others. frames_of P fs us ≡ record f { operands = c.args.operand ∷ f.operands } ∷ others))
    (sym frames_are) (ap (λ k. set vs k c.args.operand) (sym at))
    (put P (gs ++ g ∷ []) vs c.requires.stack gs g refl own c.method-info.ensures room c.args.operand)
