use Rattle.std.proofs.Common.{◌≡◌, ◌<◌, ap, length, subst, sym}
use Rattle.std.specs.Prelude.{IsSomeAnd}
use Rattle.std.specs.FinMap.{get}
use Rattle.nr_model.specs.Heaps.{Heap}
use Rattle.nr_model.specs.Printing.{bytes_of_units}
use Rattle.nr_machine.specs.CallStacks.{frames_of}
use Rattle.nr_machine.specs.Prints.{PrintsText, units_of}
use Rattle.nr_machine.specs.Stays.{running}
use Rattle.nr_machine.proofs.CharRules.{array_some, array_text, array_there, no_other, printed_array, some_array}
use Rattle.nr_machine.proofs.Prints.{text_memory}
use Rattle.nr_machine.proofs.Starting.{not_deep}
use Rattle.nr_machine.proofs.stack.CallStack.print_chars.Goals as goal

pub top_operand-requires-clause-some : goal.top_operand-requires-clause-some
top_operand-requires-clause-some c =
    let P = c.args.program.now in
    let k = c.args.heap.now.objects in
    let fs = frames_of P c.args.self.now.frames.items c.args.self.now.values.items in
    let q = c.requires.prints in
    some_array P c.requires.facts q.0 k fs q.1 q.2

pub unreachable-requires : goal.unreachable-requires
unreachable-requires c =
    let P = c.args.program.now in
    let k = c.args.heap.now.objects in
    let fs = frames_of P c.args.self.now.frames.items c.args.self.now.values.items in
    let q = c.requires.prints in
    no_other P c.requires.facts q.0 k fs q.1 q.2 c.top_operand.result c.top_operand.ensures c.in_default.not-Null c.in_default.not-Ref

pub text_of_chars-requires : goal.text_of_chars-requires
text_of_chars-requires c =
    let P = c.args.program.now in
    let k = c.args.heap.now.objects in
    let fs = frames_of P c.args.self.now.frames.items c.args.self.now.values.items in
    let q = c.requires.prints in
    array_there P c.requires.facts q.0 k fs q.1 q.2 c.in-Ref.name c.in-Ref.ensures

pub print_text-requires-clause-prints : goal.print_text-requires-clause-prints
print_text-requires-clause-prints c =
    let P = c.args.program.now in
    let k = c.args.heap.now.objects in
    let fs = frames_of P c.args.self.now.frames.items c.args.self.now.values.items in
    let q = c.requires.prints in
    (q.0, q.1, subst (λ bs. PrintsText P q.0 k bs 1 fs) (sym c.as_bytes.ensures.value) (array_text P c.requires.facts q.0 k fs q.1 q.2 c.in-Ref.name c.in-Ref.ensures _ c.in-Ok.ensures.ok))

pub returns-in-Ok-clause-settles : goal.returns-in-Ok-clause-settles
returns-in-Ok-clause-settles c = λ h stand q service.
    let P = c.args.program.now in
    let k = c.args.heap.now.objects in
    let fs = frames_of P c.args.self.now.frames.items c.args.self.now.values.items in
    c.print_text.ensures.settles h stand (subst (λ bs. PrintsText P h k bs 1 fs) (sym c.as_bytes.ensures.value) (array_text P c.requires.facts h k fs stand q c.in-Ref.name c.in-Ref.ensures _ c.in-Ok.ensures.ok)) service

pub returns-in-Err-clause-settles : goal.returns-in-Err-clause-settles
returns-in-Err-clause-settles c = λ h stand q service.
    let P = c.args.program.now in
    let k = c.args.heap.now.objects in
    let fs = frames_of P c.args.self.now.frames.items c.args.self.now.values.items in
    let bs = c.args.printed.now.items in
    let x = printed_array P c.requires.facts h k fs stand q c.in-Ref.name c.in-Ref.ensures in (
      ap (λ (k : Heap). running k fs bs) (sym q.0),
      text_memory P c.requires.facts h k (bytes_of_units (units_of x.0.slots)) 1 fs stand x.4 (not_deep P c.args.self.now.frames.items c.args.self.now.values.items c.requires.stack) c.cells-cells.ensures.few service bs
          (array_some P c.requires.facts h k fs stand q c.in-Ref.name c.in-Ref.ensures c.in-Err.ensures.err),
    )
