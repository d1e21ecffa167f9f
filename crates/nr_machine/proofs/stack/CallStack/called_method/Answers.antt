use Rattle.std.proofs.Common.{◌≡◌, ℕ, ◌++◌, ◌∷◌, [], ◌∙◌, ap, subst, sym}
use Rattle.std.specs.Prelude.{Some, slice_get, slice_index_or}
use Rattle.nr_linked.specs.declared.program.tables.MethodInfo.{MethodInfo}
use Rattle.nr_linked.specs.declared.program.tables.Resolved.{Resolved}
use Rattle.nr_linked.specs.declared.program.tables.Resolved.TheVariants as resolved
use Rattle.nr_machine.specs.declared.stack.Frame.{Frame as CodeFrame}
use Rattle.nr_machine.specs.CallStacks.{IsCallOf, OnRunning, frames_of}
use Rattle.nr_machine.proofs.Tops.{on_running, say_running}
use Rattle.nr_machine.proofs.AskedCalls.{read_default, resolved_is, resolved_within, same_method}
use Rattle.nr_machine.proofs.stack.CallStack.called_method.Goals as goal

pub unreachable-requires : goal.unreachable-requires
unreachable-requires c =
    let P = c.args.program.now in
    let fs = c.args.self.now.frames.items in
    let vs = c.args.self.now.values.items in
    let gs = c.running-frame.ensures.0 in
    let g : CodeFrame = c.running-frame.result in
    let e : fs ≡ gs ++ g ∷ [] = c.running-frame.ensures.1 in
    let own : MethodInfo = c.method.result.now in
    let call = on_running P fs vs c.requires.stack gs g e (λ f others. (m : ℕ) × IsCallOf P f m) c.requires.call in
    let within = resolved_within P fs vs c.requires.stack gs g e own c.method.ensures c.requires.facts call.0 call.1 in
    let r : Resolved = slice_index_or c.as_slice.result.now g.instr resolved.Nothing in
    let is_r : slice_get own.resolved g.instr ≡ Some r = read_default own.resolved g.instr resolved.Nothing within ∙ ap (λ rs. Some (slice_index_or rs g.instr resolved.Nothing)) (sym c.as_slice.ensures) in
    c.in_default.not-Method call.0 call.1.named (resolved_is P fs vs c.requires.stack gs g e own c.method.ensures c.requires.facts call.0 call.1 r is_r)

pub returns : goal.returns
returns c =
    let P = c.args.program.now in
    let fs = c.args.self.now.frames.items in
    let vs = c.args.self.now.values.items in
    let gs = c.running-frame.ensures.0 in
    let g : CodeFrame = c.running-frame.result in
    let e : fs ≡ gs ++ g ∷ [] = c.running-frame.ensures.1 in
    let own : MethodInfo = c.method.result.now in
    let call = on_running P fs vs c.requires.stack gs g e (λ f others. (m : ℕ) × IsCallOf P f m) c.requires.call in
    let within = resolved_within P fs vs c.requires.stack gs g e own c.method.ensures c.requires.facts call.0 call.1 in
    let r : Resolved = slice_index_or c.as_slice.result.now g.instr resolved.Nothing in
    let is_r : slice_get own.resolved g.instr ≡ Some r = read_default own.resolved g.instr resolved.Nothing within ∙ ap (λ rs. Some (slice_index_or rs g.instr resolved.Nothing)) (sym c.as_slice.ensures) in
    let same : call.0 ≡ c.in-Method.method = same_method call.0 call.1.named c.in-Method.method c.in-Method.field-1
    (sym (resolved_is P fs vs c.requires.stack gs g e own c.method.ensures c.requires.facts call.0 call.1 r is_r) ∙ c.in-Method.is) in
    subst (λ m. OnRunning (frames_of P fs vs) (λ f others. IsCallOf P f m)) same
    (say_running P fs vs c.requires.stack gs g e (λ f others. IsCallOf P f call.0) call.1)
