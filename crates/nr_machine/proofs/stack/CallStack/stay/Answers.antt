use Rattle.std.proofs.Common.{◌≡◌, ◌∷◌, ◌-◌, ◌++◌, ◌≤◌, [], ◌∙◌, List, length, drop, take, arith, sym, subst, subst₂, ap, false}
use Rattle.nr_model.specs.declared.value.Value.{Value}
use Rattle.nr_model.specs.States.{Frame as Seen, Running}
use Rattle.nr_model.specs.Outcomes.{is_too_deep}
use Rattle.nr_machine.specs.declared.stack.Frame.{Frame as CodeFrame}
use Rattle.nr_machine.specs.CallStacks.{IsStack, frame_of, frames_of, slots_of}
use Rattle.nr_machine.specs.Stays.{FramesStand, Stayed}
use Rattle.nr_machine.proofs.Leaves.{slots_below}
use Rattle.nr_machine.proofs.Pushes.{pushed}
use Rattle.nr_machine.proofs.Tops.{count}
use Rattle.nr_machine.proofs.Windows.{below}
use Rattle.nr_machine.proofs.Stays.{deep_not, same_stack, stands_on, stayed_so, written_back}
use Rattle.nr_machine.proofs.stack.CallStack.stay.Goals as goal

pub stay_at_end-stay-requires-clause-window : goal.stay_at_end-stay-requires-clause-window
stay_at_end-stay-requires-clause-window c =
    let P = c.args.program.now in
    let g : CodeFrame = c.in-Some.frame in
    subst (λ xs. slots_of P g.method ≤ length xs) (sym c.deref_mut.ensures.value) (slots_below P c.args.self.now.frames.items c.args.self.now.values.items c.requires.stack c.pop.new.self.items g c.in-Some.ensures.items)

pub stay_at_end-stay-requires-clause-stands : goal.stay_at_end-stay-requires-clause-stands
stay_at_end-stay-requires-clause-stands c =
    let P = c.args.program.now in
    let vs : List Value = c.args.self.now.values.items in
    let gs = c.pop.new.self.items in
    let g : CodeFrame = c.in-Some.frame in
    let h = c.args.heap.now.objects in (
      frames_of P gs (below P g vs),
      subst (λ xs. FramesStand P h (frame_of P g (drop (length xs - slots_of P g.method) xs) ∷ frames_of P gs (below P g vs))) (sym c.deref_mut.ensures.value)
          (stands_on P c.args.self.now.frames.items vs c.requires.stack gs g c.in-Some.ensures.items h c.requires.stands),
    )

pub returns-clause-stack : goal.returns-clause-stack
returns-clause-stack c =
    let P = c.args.program.now in
    let fs = c.args.self.now.frames.items in
    let vs : List Value = c.args.self.now.values.items in
    let gs = c.pop.new.self.items in
    let g : CodeFrame = c.in-Some.frame in
    let e : fs ≡ gs ++ g ∷ [] = c.in-Some.ensures.items in
    let f : CodeFrame = c.stay_at_end-stay.new.frame in
    let us : List Value = c.stay_at_end-stay.new.values in
    let long : length us ≡ length vs = c.stay_at_end-stay.auto.values ∙ ap length c.deref_mut.ensures.value in
    let values_are : take c.args.self.now.values.len (us ++ drop (length us) vs) ≡ us = written_back c.args.self.now.values.len us vs long (omega (arith, c.args.self.now.values.ok.0)) in
    let frames_are : c.push.new.self.items ≡ gs ++ f ∷ []
    = pushed c.push.result gs c.push.new.self.items f
    (c.push.ensures.succeeds (omega (arith, c.requires.stack.few_frames, count P fs vs c.requires.stack gs g e, c.pop.ensures.capacity, c.pop.new.self.ok.0, c.args.self.now.frame_room))) c.push.ensures.items in
    subst₂ (IsStack P) (sym frames_are) (sym values_are) (same_stack P fs vs c.requires.stack gs g e f c.stay_at_end-stay.ensures.method c.stay_at_end-stay.ensures.placed us long)

pub returns-clause-stayed : goal.returns-clause-stayed
returns-clause-stayed c =
    let P = c.args.program.now in
    let fs = c.args.self.now.frames.items in
    let vs : List Value = c.args.self.now.values.items in
    let gs = c.pop.new.self.items in
    let g : CodeFrame = c.in-Some.frame in
    let e : fs ≡ gs ++ g ∷ [] = c.in-Some.ensures.items in
    let f : CodeFrame = c.stay_at_end-stay.new.frame in
    let us : List Value = c.stay_at_end-stay.new.values in
    let h = c.args.heap.now.objects in
    let k = c.stay_at_end-stay.new.heap.objects in
    let made = c.stay_at_end-stay.result.made in
    let flow = c.stay_at_end-stay.result.flow in
    let told = c.stay_at_end-stay.new.told in
    let long : length us ≡ length vs = c.stay_at_end-stay.auto.values ∙ ap length c.deref_mut.ensures.value in
    let values_are : take c.args.self.now.values.len (us ++ drop (length us) vs) ≡ us = written_back c.args.self.now.values.len us vs long (omega (arith, c.args.self.now.values.ok.0)) in
    let frames_are : c.push.new.self.items ≡ gs ++ f ∷ []
    = pushed c.push.result gs c.push.new.self.items f
    (c.push.ensures.succeeds (omega (arith, c.requires.stack.few_frames, count P fs vs c.requires.stack gs g e, c.pop.ensures.capacity, c.pop.new.self.ok.0, c.args.self.now.frame_room))) c.push.ensures.items in
    let seen : c.deref_mut.result.now ≡ vs = c.deref_mut.ensures.value in
    let from = length vs - slots_of P g.method in
    let below_is : take from us ≡ below P g vs = subst (λ (xs : List Value). take (length xs - slots_of P g.method) us ≡ take (length xs - slots_of P g.method) xs) seen c.stay_at_end-stay.ensures.below in
    let stayed : (others : List Seen) → is_too_deep P (Running (frame_of P g (drop from vs) ∷ others)) ≡ false → Stayed P c.args.steps h (frame_of P g (drop from vs) ∷ others) made flow told k (frame_of P f (drop from us) ∷ others)
    = subst (λ (xs : List Value). (others : List Seen) → is_too_deep P (Running (frame_of P g (drop (length xs - slots_of P g.method) xs) ∷ others)) ≡ false
    → Stayed P c.args.steps h (frame_of P g (drop (length xs - slots_of P g.method) xs) ∷ others) made flow told k (frame_of P f (drop (length xs - slots_of P g.method) us) ∷ others)) seen c.stay_at_end-stay.ensures.stayed in
    subst₂ (λ xs ys. Stayed P c.args.steps h (frames_of P fs vs) made flow told k (frames_of P xs ys)) (sym frames_are) (sym values_are)
    (stayed_so P fs vs c.requires.stack gs g e f c.stay_at_end-stay.ensures.method c.stay_at_end-stay.ensures.placed us long c.args.steps h k made flow told below_is
    (stayed (frames_of P gs (below P g vs)) (deep_not P fs vs c.requires.stack gs g e)))
