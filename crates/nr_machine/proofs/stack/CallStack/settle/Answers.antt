use Rattle.std.proofs.Common.{◌≡◌, ap, sym, subst}
use Rattle.nr_model.specs.Heaps.{Heap}
use Rattle.nr_machine.specs.CallStacks.{frames_of}
use Rattle.nr_machine.specs.Stays.{Leaves, running}
use Rattle.nr_machine.proofs.Settling.{full, no_memory}
use Rattle.nr_machine.proofs.stack.CallStack.settle.Goals as goal

pub throw_told-requires-clause-left : goal.throw_told-requires-clause-left
throw_told-requires-clause-left c =
    let P = c.args.program.now in
    let fs = frames_of P c.args.self.now.frames.items c.args.self.now.values.items in
    let l = c.requires.left in
    (l.0, l.1, subst (λ flow. Leaves P fs flow c.args.told.now l.0 c.args.heap.now.objects) c.in-Throw.is l.2)

pub call_told-requires-clause-left : goal.call_told-requires-clause-left
call_told-requires-clause-left c =
    let P = c.args.program.now in
    let fs = frames_of P c.args.self.now.frames.items c.args.self.now.values.items in
    let l = c.requires.left in
    (l.0, l.1, subst (λ flow. Leaves P fs flow c.args.told.now l.0 c.args.heap.now.objects) c.in-Invoke.is l.2)

pub print_told-requires-clause-left : goal.print_told-requires-clause-left
print_told-requires-clause-left c =
    let P = c.args.program.now in
    let fs = frames_of P c.args.self.now.frames.items c.args.self.now.values.items in
    let l = c.requires.left in
    (l.0, l.1, subst (λ flow. Leaves P fs flow c.args.told.now l.0 c.args.heap.now.objects) c.in-Print.is l.2)

pub return_nothing-requires-clause-left : goal.return_nothing-requires-clause-left
return_nothing-requires-clause-left c =
    let P = c.args.program.now in
    let fs = frames_of P c.args.self.now.frames.items c.args.self.now.values.items in
    let l = c.requires.left in
    (l.0, l.1, subst (λ flow. Leaves P fs flow c.args.told.now l.0 c.args.heap.now.objects) c.in-Return.is l.2)

pub return_top-requires-clause-left : goal.return_top-requires-clause-left
return_top-requires-clause-left c =
    let P = c.args.program.now in
    let fs = frames_of P c.args.self.now.frames.items c.args.self.now.values.items in
    let l = c.requires.left in
    (l.0, l.1, subst (λ flow. Leaves P fs flow c.args.told.now l.0 c.args.heap.now.objects) c.in-ReturnTop.is l.2)

pub returns-in-NoMemory-clause-settles : goal.returns-in-NoMemory-clause-settles
returns-in-NoMemory-clause-settles c = λ h stand l.
    let P = c.args.program.now in
    let fs = frames_of P c.args.self.now.frames.items c.args.self.now.values.items in
    let k = c.args.heap.now.objects in
    let q = no_memory P c.requires.facts h k c.args.told.now fs stand (subst (λ flow. Leaves P fs flow c.args.told.now h k) c.in-NoMemory.is l) c.args.service c.args.printed.now.items in
    (ap (λ (h : Heap). running h fs c.args.printed.now.items) (sym q.0), q.1)

pub returns-in-Full-clause-settles : goal.returns-in-Full-clause-settles
returns-in-Full-clause-settles c = λ h stand l.
    let P = c.args.program.now in
    let fs = frames_of P c.args.self.now.frames.items c.args.self.now.values.items in
    let k = c.args.heap.now.objects in
    let q = full P c.requires.facts h k c.args.told.now fs stand (subst (λ flow. Leaves P fs flow c.args.told.now h k) c.in-Full.is l) c.args.service c.args.printed.now.items in
    (ap (λ (h : Heap). running h fs c.args.printed.now.items) (sym q.0), q.1)
