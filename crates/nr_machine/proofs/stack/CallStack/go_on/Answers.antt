use Rattle.std.proofs.Common.{◌≡◌, ◌++◌, ◌∷◌, [], ◌∙◌, length, refl, sym, ap, subst, arith}
use Rattle.std.specs.Prelude.{Option}
use Rattle.nr_model.specs.declared.value.Value.{Value}
use Rattle.nr_model.specs.Steps.{with_result}
use Rattle.nr_machine.specs.declared.stack.Frame.{Frame as CodeFrame}
use Rattle.nr_machine.specs.CallStacks.{IsStack, OnRunning, frames_of}
use Rattle.nr_machine.proofs.Pushes.{pushed}
use Rattle.nr_machine.proofs.Tops.{count, running, say_running}
use Rattle.nr_machine.proofs.Gives.{given_is, next_within, onward, onward_stack, room}
use Rattle.nr_machine.proofs.stack.CallStack.go_on.Goals as goal

pub prove-unreachable-requires : goal.prove-unreachable-requires
prove-unreachable-requires c =
    let P = c.args.program.now in
    let fs = c.args.self.now.frames.items in
    let vs = c.args.self.now.values.items in
    let st = c.requires.stack in
    let gs = c.pop.new.self.items in
    let g : CodeFrame = c.in-Some.caller in
    let e : fs ≡ gs ++ g ∷ [] = c.in-Some.ensures.items in
    let v : Option Value = c.args.value in
    let can = c.requires.can in
    omega (arith, c.if-prove.true, ap length c.code_of-code.ensures, next_within P c.requires.facts fs vs st gs g e v can)

pub put_back-requires-clause-stack : goal.put_back-requires-clause-stack
put_back-requires-clause-stack c =
    let P = c.args.program.now in
    let fs = c.args.self.now.frames.items in
    let vs = c.args.self.now.values.items in
    let st = c.requires.stack in
    let gs = c.pop.new.self.items in
    let g : CodeFrame = c.in-Some.caller in
    let e : fs ≡ gs ++ g ∷ [] = c.in-Some.ensures.items in
    let v : Option Value = c.args.value in
    let can = c.requires.can in
    onward_stack P c.requires.facts fs vs st gs g e v can

pub put_back-requires-clause-room : goal.put_back-requires-clause-room
put_back-requires-clause-room c =
    let P = c.args.program.now in
    let fs = c.args.self.now.frames.items in
    let vs = c.args.self.now.values.items in
    let st = c.requires.stack in
    let gs = c.pop.new.self.items in
    let g : CodeFrame = c.in-Some.caller in
    let e : fs ≡ gs ++ g ∷ [] = c.in-Some.ensures.items in
    let v : Option Value = c.args.value in
    let can = c.requires.can in
    room P c.requires.facts fs vs st gs g e v can c.in-Some-value.value c.in-Some-value.is

pub returns-in-Some-value-clause-onward : goal.returns-in-Some-value-clause-onward
returns-in-Some-value-clause-onward c = λ _.
    let P = c.args.program.now in
    let fs = c.args.self.now.frames.items in
    let vs = c.args.self.now.values.items in
    let st = c.requires.stack in
    let gs = c.pop.new.self.items in
    let g : CodeFrame = c.in-Some.caller in
    let e : fs ≡ gs ++ g ∷ [] = c.in-Some.ensures.items in
    let v : Option Value = c.args.value in
    let can = c.requires.can in
    let new = frames_of P c.put_back.new.self.frames.items c.put_back.new.self.values.items in
    given_is P c.requires.facts fs vs st gs g e v can new
    (subst (λ (v : Option Value). OnRunning (frames_of P (gs ++ onward g ∷ []) vs) (λ f others. new ≡ record f { operands = with_result v f.operands } ∷ others)) (sym c.in-Some-value.is) c.put_back.ensures.frames)

pub returns-in-None-clause-stack : goal.returns-in-None-clause-stack
returns-in-None-clause-stack c =
    let P = c.args.program.now in
    let fs = c.args.self.now.frames.items in
    let vs = c.args.self.now.values.items in
    let st = c.requires.stack in
    let gs = c.pop.new.self.items in
    let g : CodeFrame = c.in-Some.caller in
    let e : fs ≡ gs ++ g ∷ [] = c.in-Some.ensures.items in
    let v : Option Value = c.args.value in
    let can = c.requires.can in
    let frames_are : c.push.new.self.items ≡ gs ++ onward g ∷ []
    = pushed c.push.result gs c.push.new.self.items (onward g)
    (c.push.ensures.succeeds (omega (arith, st.few_frames, count P fs vs st gs g e, c.pop.ensures.capacity, c.pop.new.self.ok.0, c.args.self.now.frame_room))) c.push.ensures.items in
    subst (λ xs. IsStack P xs vs) (sym frames_are) (onward_stack P c.requires.facts fs vs st gs g e v can)

pub returns-in-None-clause-onward : goal.returns-in-None-clause-onward
returns-in-None-clause-onward c = λ _.
    let P = c.args.program.now in
    let fs = c.args.self.now.frames.items in
    let vs = c.args.self.now.values.items in
    let st = c.requires.stack in
    let gs = c.pop.new.self.items in
    let g : CodeFrame = c.in-Some.caller in
    let e : fs ≡ gs ++ g ∷ [] = c.in-Some.ensures.items in
    let v : Option Value = c.args.value in
    let can = c.requires.can in
    let frames_are : c.push.new.self.items ≡ gs ++ onward g ∷ []
    = pushed c.push.result gs c.push.new.self.items (onward g)
    (c.push.ensures.succeeds (omega (arith, st.few_frames, count P fs vs st gs g e, c.pop.ensures.capacity, c.pop.new.self.ok.0, c.args.self.now.frame_room))) c.push.ensures.items in
    let new = frames_of P c.push.new.self.items vs in
    given_is P c.requires.facts fs vs st gs g e v can new
    (subst (λ (v : Option Value). OnRunning (frames_of P (gs ++ onward g ∷ []) vs) (λ f others. new ≡ record f { operands = with_result v f.operands } ∷ others)) (sym c.in-None.is)
    (say_running P (gs ++ onward g ∷ []) vs (onward_stack P c.requires.facts fs vs st gs g e v can) gs (onward g) refl (λ f others. new ≡ f ∷ others)
    (ap (λ xs. frames_of P xs vs) frames_are ∙ running P (gs ++ onward g ∷ []) vs (onward_stack P c.requires.facts fs vs st gs g e v can) gs (onward g) refl)))
