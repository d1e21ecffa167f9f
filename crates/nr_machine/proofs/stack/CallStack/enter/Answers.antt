use Rattle.std.proofs.Common.{◌≡◌, ◌≤◌, ◌<◌, ◌+◌, ◌-◌, ◌++◌, ◌∷◌, [], ◌∙◌, length, ap, ap₂, arith, sym, subst, subst₂, refl, take, drop}
use Rattle.std.specs.Prelude.{◌⊎◌, Some}
use Rattle.nr_linked.specs.declared.program.tables.MethodInfo.{MethodInfo}
use Rattle.nr_model.specs.Outcomes.{max_frames, max_value_slots}
use Rattle.nr_model.specs.States.{Running}
use Rattle.nr_model.specs.Steps.{entered, spread}
use Rattle.nr_machine.specs.declared.stack.Frame.{Frame as CodeFrame}
use Rattle.nr_machine.specs.CallStacks.{CanEnter, IsStack, filled, frames_of}
use Rattle.nr_machine.proofs.Tops.{count, on_running, say_running, sized, placed}
use Rattle.nr_machine.proofs.Enters.{call_is, entry_of}
use Rattle.nr_machine.proofs.Pushes.{pushed}
use Rattle.nr_machine.proofs.Calls.{is_body, laid, neither, passes, enough, in_range, own_values, room, before, fits, stays_stack}
use Rattle.nr_machine.proofs.stack.CallStack.enter.Goals as goal

pub operand_count-count-requires : goal.operand_count-count-requires
operand_count-count-requires c = (c.requires.facts.methods c.args.method c.method-info.result.now c.method-info.ensures).few_params

pub overflow_sub-kept : goal.overflow_sub-kept
overflow_sub-kept c =
    let P = c.args.program.now in
    let fs = c.args.self.now.frames.items in
    let vs = c.args.self.now.values.items in
    let gs = c.pop.new.self.items in
    let g : CodeFrame = c.in-Some.caller in
    let e : fs ≡ gs ++ g ∷ [] = c.in-Some.ensures.items in
    let can = on_running P fs vs c.requires.stack gs g e (λ f fs. CanEnter P c.args.method f) c.requires.can in
    let at = placed P fs vs c.requires.stack gs g e in
    omega (arith, c.operand_count-count.ensures, enough P c.requires.facts fs vs c.requires.stack gs g e c.args.method c.method-info.result.now c.method-info.ensures at.method at.is_method can)

pub method-requires : goal.method-requires
method-requires c =
    let P = c.args.program.now in
    let fs = c.args.self.now.frames.items in
    let vs = c.args.self.now.values.items in
    let at = placed P fs vs c.requires.stack c.pop.new.self.items c.in-Some.caller c.in-Some.ensures.items in
    in_range P c.in-Some.caller.method at.method at.is_method

pub overflow_sub-first : goal.overflow_sub-first
overflow_sub-first c =
    let P = c.args.program.now in
    let fs = c.args.self.now.frames.items in
    let vs = c.args.self.now.values.items in
    let gs = c.pop.new.self.items in
    let g : CodeFrame = c.in-Some.caller in
    let e : fs ≡ gs ++ g ∷ [] = c.in-Some.ensures.items in
    let can = on_running P fs vs c.requires.stack gs g e (λ f fs. CanEnter P c.args.method f) c.requires.can in
    omega (arith, c.from-3.ensures, c.len.ensures, c.args.self.now.values.ok.0, own_values P c.requires.facts fs vs c.requires.stack gs g e c.args.method c.method-info.result.now c.method-info.ensures c.method.result.now c.method.ensures can)

pub returns-then-is_full-clause-too_deep : goal.returns-then-is_full-clause-too_deep
returns-then-is_full-clause-too_deep c = λ e.
    passes c.args.program.now c.requires.facts c.args.self.now.frames.items c.args.self.now.values.items c.requires.stack c.args.method c.method-info.result.now c.method-info.ensures c.requires.can
    (subst (λ n. (max_frames < length c.args.self.now.frames.items + 1) ⊎ (max_value_slots < n + length c.args.self.now.values.items)) (ap₂ ◌+◌ c.from.ensures c.from-2.ensures) (c.if-is_full.ensures.0 refl))

pub push_window-requires-clause-arguments : goal.push_window-requires-clause-arguments
push_window-requires-clause-arguments c =
    let P = c.args.program.now in
    let fs = c.args.self.now.frames.items in
    let vs = c.args.self.now.values.items in
    let gs = c.pop.new.self.items in
    let g : CodeFrame = c.in-Some.caller in
    let e : fs ≡ gs ++ g ∷ [] = c.in-Some.ensures.items in
    let can = on_running P fs vs c.requires.stack gs g e (λ f fs. CanEnter P c.args.method f) c.requires.can in
    let n = c.operand_count-count.result in
    let l = enough P c.requires.facts fs vs c.requires.stack gs g e c.args.method c.method-info.result.now c.method-info.ensures c.method.result.now c.method.ensures can in
    omega (
      arith,
      c.from-3.ensures,
      c.len.ensures,
      c.args.self.now.values.ok.0,
      before P c.requires.facts fs vs c.requires.stack gs g e c.args.method c.method-info.result.now c.method-info.ensures c.method.result.now c.method.ensures can n (g.depth - n)
          (sym c.operand_count-count.ensures) (omega (arith, l, c.operand_count-count.ensures)),
    )

pub push_window-requires-clause-fits : goal.push_window-requires-clause-fits
push_window-requires-clause-fits c =
    let P = c.args.program.now in
    let fs = c.args.self.now.frames.items in
    let vs = c.args.self.now.values.items in
    let gs = c.pop.new.self.items in
    let g : CodeFrame = c.in-Some.caller in
    let e : fs ≡ gs ++ g ∷ [] = c.in-Some.ensures.items in
    let can = on_running P fs vs c.requires.stack gs g e (λ f fs. CanEnter P c.args.method f) c.requires.can in
    let n = c.operand_count-count.result in
    let l = enough P c.requires.facts fs vs c.requires.stack gs g e c.args.method c.method-info.result.now c.method-info.ensures c.method.result.now c.method.ensures can in
    let at : c.len.result - c.from-3.result + (g.depth - n) ≡ length vs - c.method.result.now.max_stack + (g.depth - n) = omega (arith, c.from-3.ensures, c.len.ensures, c.args.self.now.values.ok.0) in
    let few : length (spread (take n (drop (c.len.result - c.from-3.result + (g.depth - n)) vs))) ≤ c.method-info.result.now.max_locals
    = subst (λ k. length (spread (take n (drop k vs))) ≤ c.method-info.result.now.max_locals) (sym at)
    (fits P c.requires.facts fs vs c.requires.stack gs g e c.args.method c.method-info.result.now c.method-info.ensures c.method.result.now c.method.ensures can n (g.depth - n)
    (sym c.operand_count-count.ensures) (omega (arith, l, c.operand_count-count.ensures))) in
    omega (arith, few, c.from.ensures, c.from-2.ensures)

pub returns-clause-stack : goal.returns-clause-stack
returns-clause-stack c =
    let P = c.args.program.now in
    let fs = c.args.self.now.frames.items in
    let vs = c.args.self.now.values.items in
    let gs = c.pop.new.self.items in
    let g : CodeFrame = c.in-Some.caller in
    let e : fs ≡ gs ++ g ∷ [] = c.in-Some.ensures.items in
    let can = on_running P fs vs c.requires.stack gs g e (λ f fs. CanEnter P c.args.method f) c.requires.can in
    let n = c.operand_count-count.result in
    let i : MethodInfo = c.method-info.result.now in
    let l = enough P c.requires.facts fs vs c.requires.stack gs g e c.args.method i c.method-info.ensures c.method.result.now c.method.ensures can in
    let at : c.len.result - c.from-3.result + (g.depth - n) ≡ length vs - c.method.result.now.max_stack + (g.depth - n) = omega (arith, c.from-3.ensures, c.len.ensures, c.args.self.now.values.ok.0) in
    let slots : c.from.result + c.from-2.result ≡ i.max_locals + i.max_stack = ap₂ ◌+◌ c.from.ensures c.from-2.ensures in
    let few = neither max_frames (length fs + 1) max_value_slots (c.from.result + c.from-2.result + length vs) c.if-is_full.ensures.1 in
    let frames_are : c.push-2.new.self.items ≡ (gs ++ record g { depth = g.depth - n } ∷ []) ++ entry_of c.args.method ∷ []
    = pushed c.push-2.result c.push.new.self.items c.push-2.new.self.items (entry_of c.args.method)
    (c.push-2.ensures.succeeds (omega (arith, few.0, count P fs vs c.requires.stack gs g e, c.push.ensures.upper_bound, c.push.ensures.capacity, c.pop.ensures.capacity, c.pop.new.self.ok.0, c.args.self.now.frame_room)))
    c.push-2.ensures.items
    ∙ ap (λ xs. xs ++ entry_of c.args.method ∷ [])
    (pushed c.push.result gs c.push.new.self.items (record g { depth = g.depth - n })
    (c.push.ensures.succeeds (omega (arith, few.0, count P fs vs c.requires.stack gs g e, c.pop.ensures.capacity, c.pop.new.self.ok.0, c.args.self.now.frame_room)))
    c.push.ensures.items) in
    let values_are : c.push_window.new.values.items ≡ vs ++ filled (i.max_locals + i.max_stack) (spread (take n (drop (length vs - c.method.result.now.max_stack + (g.depth - n)) vs)))
    = c.push_window.ensures.items ∙ ap₂ (λ k j. vs ++ filled k (spread (take n (drop j vs)))) slots at in
    subst₂ (IsStack P) (sym frames_are) (sym values_are)
    (stays_stack P c.requires.facts fs vs c.requires.stack gs g e c.args.method i c.method-info.ensures c.method.result.now c.method.ensures can n (g.depth - n)
    (sym c.operand_count-count.ensures) (omega (arith, l, c.operand_count-count.ensures)) few.0 (omega (arith, few.1, slots)))

pub returns-clause-entered : goal.returns-clause-entered
returns-clause-entered c = λ _.
    let P = c.args.program.now in
    let fs = c.args.self.now.frames.items in
    let vs = c.args.self.now.values.items in
    let gs = c.pop.new.self.items in
    let g : CodeFrame = c.in-Some.caller in
    let e : fs ≡ gs ++ g ∷ [] = c.in-Some.ensures.items in
    let can = on_running P fs vs c.requires.stack gs g e (λ f fs. CanEnter P c.args.method f) c.requires.can in
    let n = c.operand_count-count.result in
    let i : MethodInfo = c.method-info.result.now in
    let l = enough P c.requires.facts fs vs c.requires.stack gs g e c.args.method i c.method-info.ensures c.method.result.now c.method.ensures can in
    let at : c.len.result - c.from-3.result + (g.depth - n) ≡ length vs - c.method.result.now.max_stack + (g.depth - n) = omega (arith, c.from-3.ensures, c.len.ensures, c.args.self.now.values.ok.0) in
    let slots : c.from.result + c.from-2.result ≡ i.max_locals + i.max_stack = ap₂ ◌+◌ c.from.ensures c.from-2.ensures in
    let few = neither max_frames (length fs + 1) max_value_slots (c.from.result + c.from-2.result + length vs) c.if-is_full.ensures.1 in
    let frames_are : c.push-2.new.self.items ≡ (gs ++ record g { depth = g.depth - n } ∷ []) ++ entry_of c.args.method ∷ []
    = pushed c.push-2.result c.push.new.self.items c.push-2.new.self.items (entry_of c.args.method)
    (c.push-2.ensures.succeeds (omega (arith, few.0, count P fs vs c.requires.stack gs g e, c.push.ensures.upper_bound, c.push.ensures.capacity, c.pop.ensures.capacity, c.pop.new.self.ok.0, c.args.self.now.frame_room)))
    c.push-2.ensures.items
    ∙ ap (λ xs. xs ++ entry_of c.args.method ∷ [])
    (pushed c.push.result gs c.push.new.self.items (record g { depth = g.depth - n })
    (c.push.ensures.succeeds (omega (arith, few.0, count P fs vs c.requires.stack gs g e, c.pop.ensures.capacity, c.pop.new.self.ok.0, c.args.self.now.frame_room)))
    c.push.ensures.items) in
    let values_are : c.push_window.new.values.items ≡ vs ++ filled (i.max_locals + i.max_stack) (spread (take n (drop (length vs - c.method.result.now.max_stack + (g.depth - n)) vs)))
    = c.push_window.ensures.items ∙ ap₂ (λ k j. vs ++ filled k (spread (take n (drop j vs)))) slots at in
    let called = call_is P c.args.method i can.body c.method-info.ensures (is_body P c.requires.facts fs vs c.requires.stack gs g e c.args.method i c.method-info.ensures c.method.result.now c.method.ensures can)
    (laid P c.requires.facts fs vs c.requires.stack gs g e c.args.method i c.method-info.ensures c.method.result.now c.method.ensures can) gs g c.method.result.now c.method.ensures vs (sized P fs vs c.requires.stack gs g e)
    n (g.depth - n) (sym c.operand_count-count.ensures) (omega (arith, l, c.operand_count-count.ensures)) (room P c.requires.facts fs vs c.requires.stack gs g e c.args.method i c.method-info.ensures c.method.result.now c.method.ensures can)
    (fits P c.requires.facts fs vs c.requires.stack gs g e c.args.method i c.method-info.ensures c.method.result.now c.method.ensures can n (g.depth - n) (sym c.operand_count-count.ensures) (omega (arith, l, c.operand_count-count.ensures))) in
    say_running P fs vs c.requires.stack gs g e (λ f fs. entered P c.args.method f fs ≡ Some (Running (frames_of P c.push-2.new.self.items c.push_window.new.values.items)))
    (called ∙ ap₂ (λ xs ys. Some (Running (frames_of P xs ys))) (sym frames_are) (sym values_are))
