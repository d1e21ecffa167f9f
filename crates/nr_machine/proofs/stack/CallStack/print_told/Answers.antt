use Rattle.std.proofs.Common.{◌≡◌, ap, subst, sym, ◌∙◌}
use Rattle.std.specs.Prelude.{Some}
use Rattle.nr_linked.specs.declared.program.tables.MethodInfo.{MethodInfo}
use Rattle.nr_linked.specs.Programs.{method_at}
use Rattle.nr_model.specs.Heaps.{Heap}
use Rattle.nr_step.specs.declared.flow.Flow.TheVariants as flows
use Rattle.nr_machine.specs.declared.stack.print.Printing.TheVariants as printings
use Rattle.nr_machine.specs.CallStacks.{frames_of}
use Rattle.nr_machine.specs.Prints.{PrintsBy, printing_of}
use Rattle.nr_machine.specs.Stays.{Leaves}
use Rattle.nr_machine.proofs.Calls.{some_both}
use Rattle.nr_machine.proofs.Printed.{none_printing, prints_by, prints_line, single_of, told_there}
use Rattle.nr_machine.proofs.stack.CallStack.print_told.Goals as goal

pub unreachable-requires-in_default-printing_of : goal.unreachable-requires-in_default-printing_of
unreachable-requires-in_default-printing_of c =
    let P = c.args.program.now in
    let fs = frames_of P c.args.self.now.frames.items c.args.self.now.values.items in
    let k = c.args.heap.now.objects in
    let told = c.args.told.now in
    let l = c.requires.left in
    let t = told_there P l.0 k told fs l.2 in
    let same : t.0 ≡ c.in-Some.info.now = some_both t.2 (sym c.in-Some.ensures) in
    none_printing c.in-Some.info.now t.1 (subst (λ (i : MethodInfo). printing_of i ≡ Some t.1) same t.3) c.in_default-printing_of.ensures

pub print_chars-requires-clause-prints : goal.print_chars-requires-clause-prints
print_chars-requires-clause-prints c =
    let P = c.args.program.now in
    let fs = frames_of P c.args.self.now.frames.items c.args.self.now.values.items in
    let k = c.args.heap.now.objects in
    let told = c.args.told.now in
    let by = λ (h : Heap) (l : Leaves P fs flows.Print told h k). prints_by P h k told fs l c.in-Some.info.now c.in-Some-printing_of.printing (sym c.in-Some.ensures) (sym c.in-Some-printing_of.ensures) in
    let l = c.requires.left in
    (l.0, l.1, subst (λ p. PrintsBy P l.0 k p fs) c.in-Chars.is (by l.0 l.2))

pub print_text-requires-clause-prints : goal.print_text-requires-clause-prints
print_text-requires-clause-prints c =
    let P = c.args.program.now in
    let fs = frames_of P c.args.self.now.frames.items c.args.self.now.values.items in
    let k = c.args.heap.now.objects in
    let told = c.args.told.now in
    let by = λ (h : Heap) (l : Leaves P fs flows.Print told h k). prints_by P h k told fs l c.in-Some.info.now c.in-Some-printing_of.printing (sym c.in-Some.ensures) (sym c.in-Some-printing_of.ensures) in
    let l = c.requires.left in
    (l.0, l.1, prints_line P c.requires.facts l.0 k fs l.1 (subst (λ p. PrintsBy P l.0 k p fs) c.in-Line.is (by l.0 l.2)))

pub print_single-requires-clause-single : goal.print_single-requires-clause-single
print_single-requires-clause-single c = single_of c.in-Some-printing_of.printing c.in_default-printing.not-Chars c.in_default-printing.not-Line

pub print_single-requires-clause-prints : goal.print_single-requires-clause-prints
print_single-requires-clause-prints c =
    let P = c.args.program.now in
    let fs = frames_of P c.args.self.now.frames.items c.args.self.now.values.items in
    let k = c.args.heap.now.objects in
    let told = c.args.told.now in
    let by = λ (h : Heap) (l : Leaves P fs flows.Print told h k). prints_by P h k told fs l c.in-Some.info.now c.in-Some-printing_of.printing (sym c.in-Some.ensures) (sym c.in-Some-printing_of.ensures) in
    let l = c.requires.left in
    (l.0, l.1, by l.0 l.2)

pub returns-in-Line-clause-settles : goal.returns-in-Line-clause-settles
returns-in-Line-clause-settles c = λ h stand l service.
    let P = c.args.program.now in
    let fs = frames_of P c.args.self.now.frames.items c.args.self.now.values.items in
    let k = c.args.heap.now.objects in
    let told = c.args.told.now in
    let by = λ (h : Heap) (l : Leaves P fs flows.Print told h k). prints_by P h k told fs l c.in-Some.info.now c.in-Some-printing_of.printing (sym c.in-Some.ensures) (sym c.in-Some-printing_of.ensures) in
    c.print_text.ensures.settles h stand (prints_line P c.requires.facts h k fs stand (subst (λ p. PrintsBy P h k p fs) c.in-Line.is (by h l))) service
