use Rattle.std.proofs.Common.{◌≡◌, ◌∙◌, ap, ap₂, refl, sym}
use Rattle.std.specs.Prelude.{Some, ◌==◌, position, slice_get, slice_index_or}
use Rattle.std.proofs.lemmas.Option.{slice_get_read}
use Rattle.nr_prog.specs.declared.body.instruction.Instr.{Instr}
use Rattle.nr_prog.specs.declared.body.whole.Body.{Body}
use Rattle.nr_linked.specs.declared.program.tables.MethodInfo.{MethodInfo}
use Rattle.nr_linked.specs.Programs.{method_at}
use Rattle.nr_model.specs.Steps.{first_handler, handler_at}
use Rattle.nr_machine.specs.CallStacks.{offset_at}
use Rattle.nr_machine.proofs.Catching.{handlers_are, handler_place, placed_within}
use Rattle.nr_machine.proofs.Places.{offset_is}
use Rattle.nr_machine.proofs.stack.handlers.handler_of.Goals as goal

pub returns : goal.returns
returns c =
    let P = c.args.program.now in
    let m = c.args.frame.now.method in
    let i = c.args.frame.now.instr in
    let own : MethodInfo = c.method-info.result.now in
    let body : Body = c.in-Some.body in
    let is_m : method_at P m ≡ Some own = c.method-info.ensures in
    let is_b : own.body ≡ Some body = c.in-Some.is in
    let code : c.as_slice-code.result.now ≡ body.instrs = c.as_slice-code.ensures in
    let x : Instr = c.index-code-frame.result in
    let is_x : slice_get body.instrs i ≡ Some x
    = slice_get_read body.instrs _ i x refl (placed_within P c.args.frame.now c.requires.placed own body is_m is_b) (c.index-code-frame.is ∙ ap (λ is. slice_index_or is i x) code) in
    let at : offset_at P m i ≡ x.at = offset_is P m own body is_m is_b i x is_x in
    let h : handler_at P m (offset_at P m i) c.args.kind ≡ Some c.in_ok-target.target
    = ap (λ o. handler_at P m o c.args.kind) at ∙ handlers_are P m own body is_m is_b c.args.kind x.at
    ∙ ap₂ (first_handler P x.at c.args.kind) (sym c.as_slice.ensures) (sym c.as_slice-2.ensures)
    ∙ ap (λ (x : Instr). first_handler P x.at c.args.kind c.as_slice.result.now c.as_slice-2.result.now) c.index-code-frame.is
    ∙ sym c.first_handler.ensures ∙ c.in_ok-target.was in
    handler_place P m own body is_m is_b c.args.kind (offset_at P m i) c.in_ok-target.target c.place_of.result h (c.requires.stands c.in_ok-target.target h)
    (c.place_of.ensures ∙ ap (position (λ (x : Instr). x.at == c.in_ok-target.target)) code)
