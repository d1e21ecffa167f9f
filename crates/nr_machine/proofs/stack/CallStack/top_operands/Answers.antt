use Rattle.std.proofs.Common.{◌≡◌, ◌+◌, ◌-◌, ◌++◌, ◌∷◌, [], ◌∙◌, ap, ap₂, arith, drop, length, take}
use Rattle.nr_linked.specs.declared.program.tables.MethodInfo.{MethodInfo}
use Rattle.nr_machine.specs.declared.stack.Frame.{Frame as CodeFrame}
use Rattle.nr_machine.proofs.AskedCalls.{few_operands, own_values, room, topmost}
use Rattle.nr_machine.proofs.stack.CallStack.top_operands.Goals as goal

pub overflow_sub-operands : goal.overflow_sub-operands
overflow_sub-operands c =
    let P = c.args.program.now in
    let fs = c.args.self.now.frames.items in
    let vs = c.args.self.now.values.items in
    let gs = c.running-frame.ensures.0 in
    let g : CodeFrame = c.running-frame.result in
    let e : fs ≡ gs ++ g ∷ [] = c.running-frame.ensures.1 in
    let own : MethodInfo = c.method.result.now in
    let n = c.args.count in
    let l = few_operands P fs vs c.requires.stack gs g e own c.method.ensures n c.requires.enough in
    let o = own_values P fs vs c.requires.stack gs g e own c.method.ensures in
    let r = room P fs vs c.requires.stack gs g e own c.method.ensures in
    let v : length c.as_slice-values.result.now ≡ length vs = ap length c.as_slice-values.ensures.value in
    omega (arith, c.from.ensures, v, o)

pub part_before-requires-clause-start : goal.part_before-requires-clause-start
part_before-requires-clause-start c =
    let P = c.args.program.now in
    let fs = c.args.self.now.frames.items in
    let vs = c.args.self.now.values.items in
    let gs = c.running-frame.ensures.0 in
    let g : CodeFrame = c.running-frame.result in
    let e : fs ≡ gs ++ g ∷ [] = c.running-frame.ensures.1 in
    let own : MethodInfo = c.method.result.now in
    let n = c.args.count in
    let l = few_operands P fs vs c.requires.stack gs g e own c.method.ensures n c.requires.enough in
    let o = own_values P fs vs c.requires.stack gs g e own c.method.ensures in
    let r = room P fs vs c.requires.stack gs g e own c.method.ensures in
    let v : length c.as_slice-values.result.now ≡ length vs = ap length c.as_slice-values.ensures.value in
    omega (arith, c.from.ensures, v, o, r, l)

pub part_before-requires-clause-end : goal.part_before-requires-clause-end
part_before-requires-clause-end c =
    let P = c.args.program.now in
    let fs = c.args.self.now.frames.items in
    let vs = c.args.self.now.values.items in
    let gs = c.running-frame.ensures.0 in
    let g : CodeFrame = c.running-frame.result in
    let e : fs ≡ gs ++ g ∷ [] = c.running-frame.ensures.1 in
    let own : MethodInfo = c.method.result.now in
    let n = c.args.count in
    let l = few_operands P fs vs c.requires.stack gs g e own c.method.ensures n c.requires.enough in
    let o = own_values P fs vs c.requires.stack gs g e own c.method.ensures in
    let r = room P fs vs c.requires.stack gs g e own c.method.ensures in
    let v : length c.as_slice-values.result.now ≡ length vs = ap length c.as_slice-values.ensures.value in
    omega (arith, c.from.ensures, v, o, r, l)

pub returns : goal.returns
returns c =
    let P = c.args.program.now in
    let fs = c.args.self.now.frames.items in
    let vs = c.args.self.now.values.items in
    let gs = c.running-frame.ensures.0 in
    let g : CodeFrame = c.running-frame.result in
    let e : fs ≡ gs ++ g ∷ [] = c.running-frame.ensures.1 in
    let own : MethodInfo = c.method.result.now in
    let n = c.args.count in
    let l = few_operands P fs vs c.requires.stack gs g e own c.method.ensures n c.requires.enough in
    let o = own_values P fs vs c.requires.stack gs g e own c.method.ensures in
    let r = room P fs vs c.requires.stack gs g e own c.method.ensures in
    let v : length c.as_slice-values.result.now ≡ length vs = ap length c.as_slice-values.ensures.value in
    let at : length c.as_slice-values.result.now - c.from.result + g.depth - n ≡ length vs - own.max_stack + (g.depth - n) = omega (arith, c.from.ensures, v, o, r, l) in
    topmost P fs vs c.requires.stack gs g e own c.method.ensures n l c.part_before.result.now
    (c.part_before.ensures ∙ ap₂ (λ k us. take n (drop k us)) at c.as_slice-values.ensures.value)
