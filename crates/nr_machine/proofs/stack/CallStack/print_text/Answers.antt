use Rattle.std.proofs.Common.{◌≡◌, ◌++◌, ◌<◌, ◌≤◌, ap, ap₂, arith, length, subst, subst₂, sym}
use Rattle.std.specs.Prelude.{None, Some, false}
use Rattle.std.proofs.lemmas.List.{length-append}
use Rattle.nr_model.specs.Heaps.{Heap}
use Rattle.nr_model.specs.Outcomes.{is_too_deep, max_printed}
use Rattle.nr_model.specs.States.{Control, Running}
use Rattle.nr_model.specs.Steps.{given}
use Rattle.nr_machine.specs.CallStacks.{frames_of}
use Rattle.nr_machine.specs.Settles.{OwnStep}
use Rattle.nr_machine.specs.Stays.{running}
use Rattle.nr_machine.proofs.Prints.{same_given, some_frames, text_enough, text_given, text_long, text_memory}
use Rattle.nr_machine.proofs.Starting.{not_deep}
use Rattle.nr_machine.proofs.stack.CallStack.print_text.Goals as goal

pub returns-then-len-text-gt-MAX_PRINTED-clause-settles : goal.returns-then-len-text-gt-MAX_PRINTED-clause-settles
returns-then-len-text-gt-MAX_PRINTED-clause-settles c = λ h stand p service.
    let P = c.args.program.now in
    let fs = frames_of P c.args.self.now.frames.items c.args.self.now.values.items in
    let bs = c.args.printed.now.items in
    let long : max_printed < length (bs ++ c.args.text.now) = omega (arith, c.if-len-text-gt-MAX_PRINTED.true, c.len.ensures, c.args.printed.now.ok.0, length-append bs c.args.text.now) in (
      ap (λ (k : Heap). running k fs bs) (sym p.0),
      text_long P c.requires.facts h c.args.heap.now.objects c.args.text.now c.args.count fs stand p (not_deep P c.args.self.now.frames.items c.args.self.now.values.items c.requires.stack) c.cells-cells.ensures.few service bs long,
    )

pub go_on-goes_on-requires-clause-can : goal.go_on-goes_on-requires-clause-can
go_on-goes_on-requires-clause-can c =
    let P = c.args.program.now in
    let fs = frames_of P c.args.self.now.frames.items c.args.self.now.values.items in
    let new = frames_of P c.drop_operands.new.self.frames.items c.drop_operands.new.self.values.items in
    let q = c.requires.prints in
    let x = text_given P c.requires.facts q.0 c.args.heap.now.objects c.args.text.now c.args.count fs new q.1 q.2 c.drop_operands.ensures.frames in
    (x.0, x.1, x.2)

pub returns-in-Ok-clause-settles : goal.returns-in-Ok-clause-settles
returns-in-Ok-clause-settles c = λ h stand p service.
    let P = c.args.program.now in
    let k = c.args.heap.now.objects in
    let fs = frames_of P c.args.self.now.frames.items c.args.self.now.values.items in
    let bs = c.args.printed.now.items in
    let text = c.args.text.now in
    let new = frames_of P c.drop_operands.new.self.frames.items c.drop_operands.new.self.values.items in
    let gs = c.go_on-goes_on.new.self.frames.items in
    let us = c.go_on-goes_on.new.self.values.items in
    let x = text_given P c.requires.facts h k text c.args.count fs new stand p c.drop_operands.ensures.frames in
    let some = some_frames P c.args.self.now.frames.items c.args.self.now.values.items (λ f below. c.args.count ≤ length f.operands) (text_enough P c.requires.facts h k text c.args.count fs p) in
    let on : given P None new ≡ Some (Running (frames_of P gs us)) = c.go_on-goes_on.ensures.onward (c.go_on-goes_on.ensures.some (omega (arith, some, c.drop_operands.ensures.as_many))) in
    let same : x.0 ≡ Running (frames_of P gs us) = same_given (given P None new) x.0 (Running (frames_of P gs us)) x.1 on in
    let short : length (bs ++ text) ≤ max_printed = omega (arith, c.if-len-text-gt-MAX_PRINTED.false, c.len.ensures, c.args.printed.now.ok.0, length-append bs text) in
    subst₂ (λ (d : Control) ys. OwnStep P service (running h fs bs) (record { heap = k; control = d; printed = ys })) same (sym c.in-Ok.ensures.items)
    (x.3 service bs c.cells-cells.ensures.few (subst (λ (d : Control). is_too_deep P d ≡ false) (sym same) (not_deep P gs us c.go_on-goes_on.ensures.stack)) short)

pub returns-in-Err-clause-settles : goal.returns-in-Err-clause-settles
returns-in-Err-clause-settles c = λ h stand p service.
    let P = c.args.program.now in
    let fs = frames_of P c.args.self.now.frames.items c.args.self.now.values.items in
    let bs = c.args.printed.now.items in
    let some : 0 < length c.args.text.now = omega (arith, c.in-Err.ensures.full, c.args.printed.now.ok.0, c.args.printed.now.ok.1) in (
      ap₂ (λ (k : Heap) ys. running k fs ys) (sym p.0) c.in-Err.ensures.items,
      text_memory P c.requires.facts h c.args.heap.now.objects c.args.text.now c.args.count fs stand p (not_deep P c.args.self.now.frames.items c.args.self.now.values.items c.requires.stack) c.cells-cells.ensures.few service bs some,
    )
