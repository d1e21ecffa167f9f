use Rattle.std.proofs.Common.{◌≡◌, ◌∷◌, ◌-◌, ◌++◌, ◌∙◌, List, length, drop, arith, sym, subst, subst₂, ap, false}
use Rattle.std.specs.Prelude.{Some}
use Rattle.nr_linked.specs.declared.program.tables.MethodInfo.{MethodInfo}
use Rattle.nr_linked.specs.Programs.{method_at}
use Rattle.nr_model.specs.declared.value.Value.{Value}
use Rattle.nr_model.specs.States.{Running}
use Rattle.nr_model.specs.Outcomes.{is_too_deep}
use Rattle.nr_machine.specs.declared.stack.Frame.{Frame as CodeFrame}
use Rattle.nr_machine.specs.CallStacks.{frame_of, slots_of}
use Rattle.nr_machine.specs.Stays.{FramesStand, Stayed, frame_with}
use Rattle.nr_machine.proofs.Enters.{slots_of_method}
use Rattle.nr_machine.proofs.Stays.{frame_parts, window_from}
use Rattle.nr_machine.proofs.stack.stay.stay_at_end.Goals as goal

pub stay_in_frame-requires-clause-stands : goal.stay_in_frame-requires-clause-stands
stay_in_frame-requires-clause-stands c =
    let P = c.args.program.now in
    let f : CodeFrame = c.args.frame.now in
    let vs : List Value = c.args.values.now in
    let own : MethodInfo = c.method-info.result.now in
    let is_m : method_at P f.method ≡ Some own = c.method-info.ensures in
    let us : List Value = c.split_at_mut-window.result.0.now in
    let ls : List Value = c.split_at_mut-locals.result.0.now in
    let st : List Value = c.split_at_mut-locals.result.1.now in
    let e : vs ≡ us ++ (ls ++ st) = c.split_at_mut-window.ensures.value ∙ ap (λ xs. us ++ xs) c.split_at_mut-locals.ensures.value in
    let l : length ls ≡ own.max_locals = c.split_at_mut-locals.ensures.front_len ∙ c.from-places.ensures in
    let s : length st ≡ own.max_stack = omega (arith, c.split_at_mut-locals.ensures.back_len, c.split_at_mut-window.ensures.back_len, c.from-places.ensures, c.from.ensures, slots_of_method P f.method own is_m, c.requires.window) in
    let n = length vs - slots_of P f.method in
    let w : frame_of P f (drop n vs) ≡ frame_with P f ls st = ap (λ xs. frame_of P f (drop n xs)) e ∙ frame_parts P f own is_m us ls st n (window_from P f.method own is_m vs us ls st e l s) l in
    (c.requires.stands.0, subst (λ g. FramesStand P c.args.heap.now.objects (g ∷ c.requires.stands.0)) w c.requires.stands.1)

pub returns-clause-stayed : goal.returns-clause-stayed
returns-clause-stayed c = λ below deep.
    let P = c.args.program.now in
    let f : CodeFrame = c.args.frame.now in
    let vs : List Value = c.args.values.now in
    let own : MethodInfo = c.method-info.result.now in
    let is_m : method_at P f.method ≡ Some own = c.method-info.ensures in
    let us : List Value = c.split_at_mut-window.result.0.now in
    let ls : List Value = c.split_at_mut-locals.result.0.now in
    let st : List Value = c.split_at_mut-locals.result.1.now in
    let e : vs ≡ us ++ (ls ++ st) = c.split_at_mut-window.ensures.value ∙ ap (λ xs. us ++ xs) c.split_at_mut-locals.ensures.value in
    let l : length ls ≡ own.max_locals = c.split_at_mut-locals.ensures.front_len ∙ c.from-places.ensures in
    let s : length st ≡ own.max_stack = omega (arith, c.split_at_mut-locals.ensures.back_len, c.split_at_mut-window.ensures.back_len, c.from-places.ensures, c.from.ensures, slots_of_method P f.method own is_m, c.requires.window) in
    let n = length vs - slots_of P f.method in
    let from : n ≡ length us = window_from P f.method own is_m vs us ls st e l s in
    let w : frame_of P f (drop n vs) ≡ frame_with P f ls st = ap (λ xs. frame_of P f (drop n xs)) e ∙ frame_parts P f own is_m us ls st n from l in
    let g : CodeFrame = c.stay_in_frame.new.frame in
    let ls2 : List Value = c.stay_in_frame.new.locals in
    let st2 : List Value = c.stay_in_frame.new.stack in
    let is_n : method_at P g.method ≡ Some own = ap (method_at P) c.stay_in_frame.ensures.method ∙ is_m in
    let v : frame_of P g (drop n (us ++ (ls2 ++ st2))) ≡ frame_with P g ls2 st2 = frame_parts P g own is_n us ls2 st2 n from (c.stay_in_frame.auto.locals ∙ l) in
    subst₂ (λ a b. Stayed P c.args.steps c.args.heap.now.objects (a ∷ below) c.stay_in_frame.result.made c.stay_in_frame.result.flow c.stay_in_frame.new.told c.stay_in_frame.new.heap.objects (b ∷ below)) (sym w) (sym v)
    (c.stay_in_frame.ensures.stayed below (subst (λ a. is_too_deep P (Running (a ∷ below)) ≡ false) w deep))
