use Rattle.std.proofs.Common.{◌≡◌, ap, refl, subst, sym, []}
use Rattle.nr_model.specs.Heaps.{Heap}
use Rattle.nr_model.specs.Scripts.{Within}
use Rattle.nr_model.specs.Throws.{throw_new}
use Rattle.nr_linked.specs.declared.program.built_in.BuiltIn.TheVariants.{NullPointerException}
use Rattle.nr_step.specs.declared.flow.Flow.TheVariants as flows
use Rattle.nr_machine.specs.declared.stack.print.Printing.TheVariants as printings
use Rattle.nr_machine.specs.CallStacks.{frames_of}
use Rattle.nr_machine.specs.Prints.{PrintsBy}
use Rattle.nr_machine.specs.Stays.{Leaves, running}
use Rattle.nr_machine.proofs.NullPrints.{null_leaves, threw_so}
use Rattle.nr_machine.proofs.Settling.{full, no_memory}
use Rattle.nr_machine.proofs.stack.CallStack.throw_null.Goals as goal

pub throw_told-requires-clause-left : goal.throw_told-requires-clause-left
throw_told-requires-clause-left c =
    let P = c.args.program.now in
    let fs = frames_of P c.args.self.now.frames.items c.args.self.now.values.items in
    let k = c.args.heap.now.objects in
    let j = c.throw_object.new.heap.objects in
    let told = c.throw_object.new.told in
    let leaves = λ (h : Heap) (q : PrintsBy P h k printings.Chars fs). null_leaves P h k j fs c.throw_object.result told c.cells-cells.ensures.few q c.requires.null c.throw_object.ensures in
    let q = c.requires.prints in
    (q.0, q.1, subst (λ flow. Leaves P fs flow told q.0 j) c.in-Throw.is (leaves q.0 q.2))

pub unreachable-requires : goal.unreachable-requires
unreachable-requires c =
    let k = c.args.heap.now.objects in
    let w : Within = record { heap = k; locals = []; operands = []; printed = [] } in
    threw_so c.throw_object.result (throw_new c.args.program.now NullPointerException) w c.throw_object.new.told c.throw_object.new.heap.objects (c.throw_object.ensures w refl) c.in_default.not-Throw c.in_default.not-NoMemory c.in_default.not-Full

pub returns-in-Throw-clause-settles : goal.returns-in-Throw-clause-settles
returns-in-Throw-clause-settles c = λ h stand q service printed short.
    let P = c.args.program.now in
    let fs = frames_of P c.args.self.now.frames.items c.args.self.now.values.items in
    let k = c.args.heap.now.objects in
    let j = c.throw_object.new.heap.objects in
    let told = c.throw_object.new.told in
    let leaves = λ (h : Heap) (q : PrintsBy P h k printings.Chars fs). null_leaves P h k j fs c.throw_object.result told c.cells-cells.ensures.few q c.requires.null c.throw_object.ensures in
    c.throw_told.ensures.settles h stand (subst (λ flow. Leaves P fs flow told h j) c.in-Throw.is (leaves h q)) service printed short

pub returns-in-NoMemory-clause-settles : goal.returns-in-NoMemory-clause-settles
returns-in-NoMemory-clause-settles c = λ h stand q service printed short.
    let P = c.args.program.now in
    let fs = frames_of P c.args.self.now.frames.items c.args.self.now.values.items in
    let k = c.args.heap.now.objects in
    let j = c.throw_object.new.heap.objects in
    let told = c.throw_object.new.told in
    let leaves = λ (h : Heap) (q : PrintsBy P h k printings.Chars fs). null_leaves P h k j fs c.throw_object.result told c.cells-cells.ensures.few q c.requires.null c.throw_object.ensures in
    let x = no_memory P c.requires.facts h j told fs stand (subst (λ flow. Leaves P fs flow told h j) c.in-NoMemory.is (leaves h q)) service printed in
    (ap (λ (h : Heap). running h fs printed) (sym x.0), x.1)

pub returns-in-Full-clause-settles : goal.returns-in-Full-clause-settles
returns-in-Full-clause-settles c = λ h stand q service printed short.
    let P = c.args.program.now in
    let fs = frames_of P c.args.self.now.frames.items c.args.self.now.values.items in
    let k = c.args.heap.now.objects in
    let j = c.throw_object.new.heap.objects in
    let told = c.throw_object.new.told in
    let leaves = λ (h : Heap) (q : PrintsBy P h k printings.Chars fs). null_leaves P h k j fs c.throw_object.result told c.cells-cells.ensures.few q c.requires.null c.throw_object.ensures in
    let x = full P c.requires.facts h j told fs stand (subst (λ flow. Leaves P fs flow told h j) c.in-Full.is (leaves h q)) service printed in
    (ap (λ (h : Heap). running h fs printed) (sym x.0), x.1)
