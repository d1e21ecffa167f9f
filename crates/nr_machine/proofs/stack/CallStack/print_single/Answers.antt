use Rattle.std.proofs.Common.{ap, subst, sym, ◌∙◌}
use Rattle.nr_model.specs.Heaps.{Heap}
use Rattle.nr_machine.specs.CallStacks.{frames_of}
use Rattle.nr_machine.specs.Prints.{PrintsText, text_of}
use Rattle.nr_machine.specs.Stays.{running}
use Rattle.nr_machine.proofs.Printed.{prints_single, some_operand}
use Rattle.nr_machine.proofs.Prints.{text_memory}
use Rattle.nr_machine.proofs.Starting.{not_deep}
use Rattle.nr_machine.proofs.stack.CallStack.print_single.Goals as goal

pub top_operand-value-requires-clause-some : goal.top_operand-value-requires-clause-some
top_operand-value-requires-clause-some c =
    let P = c.args.program.now in
    let q = c.requires.prints in
    some_operand P c.requires.facts q.0 c.args.heap.now.objects (frames_of P c.args.self.now.frames.items c.args.self.now.values.items) q.1 c.args.printing c.requires.single q.2

pub text_of-requires : goal.text_of-requires
text_of-requires c =
    let P = c.args.program.now in
    let fs = frames_of P c.args.self.now.frames.items c.args.self.now.values.items in
    let k = c.args.heap.now.objects in
    let p = c.args.printing in
    let v = c.top_operand-value.result in
    let q = c.requires.prints in
    (prints_single P c.requires.facts q.0 k fs q.1 p c.requires.single q.2 v c.top_operand-value.ensures).0

pub print_text-requires-clause-prints : goal.print_text-requires-clause-prints
print_text-requires-clause-prints c =
    let P = c.args.program.now in
    let fs = frames_of P c.args.self.now.frames.items c.args.self.now.values.items in
    let k = c.args.heap.now.objects in
    let p = c.args.printing in
    let v = c.top_operand-value.result in
    let q = c.requires.prints in
    (q.0, q.1, subst (λ bs. PrintsText P q.0 k bs 1 fs) (sym (c.as_bytes.ensures.value ∙ c.in-Ok.ensures.ok)) (prints_single P c.requires.facts q.0 k fs q.1 p c.requires.single q.2 v c.top_operand-value.ensures).1)

pub returns-in-Ok-clause-settles : goal.returns-in-Ok-clause-settles
returns-in-Ok-clause-settles c = λ h stand q service.
    let P = c.args.program.now in
    let fs = frames_of P c.args.self.now.frames.items c.args.self.now.values.items in
    let k = c.args.heap.now.objects in
    let p = c.args.printing in
    let v = c.top_operand-value.result in
    c.print_text.ensures.settles h stand (subst (λ bs. PrintsText P h k bs 1 fs) (sym (c.as_bytes.ensures.value ∙ c.in-Ok.ensures.ok)) (prints_single P c.requires.facts h k fs stand p c.requires.single q v c.top_operand-value.ensures).1) service

pub returns-in-Err-clause-settles : goal.returns-in-Err-clause-settles
returns-in-Err-clause-settles c = λ h stand q service.
    let P = c.args.program.now in
    let fs = frames_of P c.args.self.now.frames.items c.args.self.now.values.items in
    let k = c.args.heap.now.objects in
    let p = c.args.printing in
    let v = c.top_operand-value.result in
    let bs = c.args.printed.now.items in
    let x = prints_single P c.requires.facts h k fs stand p c.requires.single q v c.top_operand-value.ensures in (
      ap (λ (k : Heap). running k fs bs) (sym q.0),
      text_memory P c.requires.facts h k (text_of p v) 1 fs stand x.1 (not_deep P c.args.self.now.frames.items c.args.self.now.values.items c.requires.stack) c.cells-cells.ensures.few service bs c.in-Err.ensures.err,
    )
