use Rattle.std.proofs.Common.{◌≡◌, ◌+◌, ◌++◌, ◌∷◌, [], ◌∙◌, length, ap, ap₂, arith, subst₂, sym}
use Rattle.std.specs.Prelude.{IsSomeAnd, reverse}
use Rattle.nr_linked.specs.declared.program.tables.MethodInfo.{MethodInfo}
use Rattle.nr_linked.specs.Programs.{method_at}
use Rattle.nr_model.specs.Outcomes.{max_frames, max_value_slots}
use Rattle.nr_model.specs.Steps.{first_frame, spread}
use Rattle.nr_machine.specs.CallStacks.{IsStack, filled, frames_of}
use Rattle.nr_machine.proofs.Begins.{begun_stack, begun_frames}
use Rattle.nr_machine.proofs.Calls.{neither}
use Rattle.nr_machine.proofs.Enters.{entry_of}
use Rattle.nr_machine.proofs.Pushes.{pushed}
use Rattle.nr_machine.proofs.stack.CallStack.begin.Goals as goal

pub returns-clause-stack : goal.returns-clause-stack
returns-clause-stack c = λ _.
    let P = c.args.program.now in
    let m = c.args.method in
    let i : MethodInfo = c.method-info.result.now in
    let slots : c.from.result + c.from-2.result ≡ i.max_locals + i.max_stack = ap₂ ◌+◌ c.from.ensures c.from-2.ensures in
    let no_frames : length c.args.self.now.frames.items ≡ 0 = ap length c.requires.frames in
    let no_values : length c.args.self.now.values.items ≡ 0 = ap length c.requires.values in
    let few = neither max_frames (length c.args.self.now.frames.items + 1) max_value_slots (c.from.result + c.from-2.result + length c.args.self.now.values.items) c.if-is_full.ensures.1 in
    let frames_are : c.push.new.self.items ≡ entry_of m ∷ []
    = pushed c.push.result c.args.self.now.frames.items c.push.new.self.items (entry_of m)
    (c.push.ensures.succeeds (omega (arith, few.0, c.args.self.now.frames.ok.0, c.args.self.now.frame_room))) c.push.ensures.items
    ∙ ap (λ xs. xs ++ entry_of m ∷ []) c.requires.frames in
    let values_are = c.push_first_window.ensures.items ∙ ap (λ n. filled n (spread c.args.args.now)) slots in
    subst₂ (IsStack P) (sym frames_are) (sym values_are)
    (begun_stack P c.requires.facts m i c.method-info.ensures c.args.args.now c.requires.can (omega (arith, few.1, slots, no_values)))

pub returns-clause-begun : goal.returns-clause-begun
returns-clause-begun c = λ _.
    let P = c.args.program.now in
    let m = c.args.method in
    let i : MethodInfo = c.method-info.result.now in
    let slots : c.from.result + c.from-2.result ≡ i.max_locals + i.max_stack = ap₂ ◌+◌ c.from.ensures c.from-2.ensures in
    let no_frames : length c.args.self.now.frames.items ≡ 0 = ap length c.requires.frames in
    let no_values : length c.args.self.now.values.items ≡ 0 = ap length c.requires.values in
    let few = neither max_frames (length c.args.self.now.frames.items + 1) max_value_slots (c.from.result + c.from-2.result + length c.args.self.now.values.items) c.if-is_full.ensures.1 in
    let frames_are : c.push.new.self.items ≡ entry_of m ∷ []
    = pushed c.push.result c.args.self.now.frames.items c.push.new.self.items (entry_of m)
    (c.push.ensures.succeeds (omega (arith, few.0, c.args.self.now.frames.ok.0, c.args.self.now.frame_room))) c.push.ensures.items
    ∙ ap (λ xs. xs ++ entry_of m ∷ []) c.requires.frames in
    let values_are = c.push_first_window.ensures.items ∙ ap (λ n. filled n (spread c.args.args.now)) slots in
    subst₂ (λ fs vs. IsSomeAnd (method_at P m) (λ i. frames_of P fs vs ≡ first_frame i m (reverse c.args.args.now) ∷ [])) (sym frames_are) (sym values_are)
    (begun_frames P c.requires.facts m i c.method-info.ensures c.args.args.now c.requires.can)
