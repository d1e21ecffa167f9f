use Rattle.std.proofs.Common.{◌≡◌, ◌≤◌, ◌<◌, ◌++◌, ◌∷◌, ◌∙◌, length, sym, ap, arith, subst, subst₂}
use Rattle.std.specs.Prelude.{Some, drop}
use Rattle.std.proofs.lemmas.List.{length-append}
use Rattle.nr_linked.specs.declared.program.tables.MethodInfo.{MethodInfo}
use Rattle.nr_linked.specs.declared.program.tables.ProgramTables.{ProgramTables}
use Rattle.nr_linked.specs.Facts.{ProgramFacts}
use Rattle.nr_linked.specs.Programs.{method_at, result_of}
use Rattle.nr_model.specs.Asks.{Answered, Asks}
use Rattle.nr_model.specs.Belonging.{IsResult}
use Rattle.nr_model.specs.Heaps.{Heap}
use Rattle.nr_model.specs.Outcomes.{OutputTooLong, max_printed}
use Rattle.nr_model.specs.States.{Control, Running}
use Rattle.nr_model.specs.Steps.{given}
use Rattle.nr_machine.specs.CallStacks.{CanGoOn, IsCallOf, IsStack, OnRunning, frames_of}
use Rattle.nr_machine.specs.Executions.{Execution, IsAsking, Stands, state_in}
use Rattle.nr_machine.specs.Resumed.{AnswerPasses, Resumed}
use Rattle.nr_typed.specs.Standing.{StandsIn}
use Rattle.nr_machine.specs.Machines.{control_of, execution_of}
use Rattle.nr_machine.proofs.AskingMachines.{some_frames}
use Rattle.nr_machine.proofs.Resuming.{after_it, answer_passes, before_it, go_on_can, method_there, resumed, still_stands, waits}
use Rattle.nr_machine.proofs.machine.Machine.resume.Goals as goal

pub operand_count-count-requires : goal.operand_count-count-requires
operand_count-count-requires c = (c.tables-facts.ensures.facts.methods c.called_method-method.result c.method.result.now c.method.ensures).few_params

pub returns-then-len-printed-gt-MAX_PRINTED-clause-too_long : goal.returns-then-len-printed-gt-MAX_PRINTED-clause-too_long
returns-then-len-printed-gt-MAX_PRINTED-clause-too_long c = λ _ before.
    let e = c.self.view_is in
    let Pr : ProgramTables = c.program-program.result.now in
    let P : ProgramTables = c.self.inside.program.now in
    let same : Pr ≡ P = c.program-program.ensures.program in
    let fs = c.self.inside.stack.frames.items in
    let vs = c.self.inside.stack.values.items in
    let old = c.self.inside.printed.items in
    let last = c.self.inside.last in
    let x : Execution = before_it P c.self.inside.service c.self.inside.budget c.self.inside.steps fs vs old last in
    let asking : IsAsking x = subst IsAsking (sym e) c.requires.asking in
    let k = c.args.heap.now.objects in
    let kind = c.requires.stands.0 in
    let stands : Stands kind k x = subst (Stands kind k) (sym e) c.requires.stands.1 in
    let v = c.args.value in
    let value : (h : Heap) (a : Asks x.program x.service (state_in h x)) → IsResult x.program k (result_of x.program a.method) v
    = subst (λ (x : Execution). (h : Heap) (a : Asks x.program x.service (state_in h x)) → IsResult x.program k (result_of x.program a.method) v) (sym e) c.requires.value in
    let facts : ProgramFacts P = subst (λ (q : ProgramTables). ProgramFacts q) same c.tables-facts.ensures.facts in
    subst (λ (x : Execution). AnswerPasses before x (Answered k v c.args.printed.now) OutputTooLong) e
    (answer_passes P c.self.inside.service c.self.inside.budget c.self.inside.steps fs vs old last asking k kind stands.0 facts.typing stands.1 v value c.args.printed.now c.self.invariant.stack c.cells-cells.ensures.few
    (omega (arith, c.if-len-printed-gt-MAX_PRINTED.true, c.len.ensures, c.self.inside.printed.ok.0, length-append old c.args.printed.now)) before)

pub method-requires : goal.method-requires
method-requires c =
    let e = c.self.view_is in
    let Pr : ProgramTables = c.program-program.result.now in
    let P : ProgramTables = c.self.inside.program.now in
    let same : Pr ≡ P = c.program-program.ensures.program in
    let fs = c.self.inside.stack.frames.items in
    let vs = c.self.inside.stack.values.items in
    let old = c.self.inside.printed.items in
    let last = c.self.inside.last in
    let x : Execution = before_it P c.self.inside.service c.self.inside.budget c.self.inside.steps fs vs old last in
    let asking : IsAsking x = subst IsAsking (sym e) c.requires.asking in
    let k = c.args.heap.now.objects in
    let kind = c.requires.stands.0 in
    let stands : Stands kind k x = subst (Stands kind k) (sym e) c.requires.stands.1 in
    let v = c.args.value in
    let value : (h : Heap) (a : Asks x.program x.service (state_in h x)) → IsResult x.program k (result_of x.program a.method) v
    = subst (λ (x : Execution). (h : Heap) (a : Asks x.program x.service (state_in h x)) → IsResult x.program k (result_of x.program a.method) v) (sym e) c.requires.value in
    let facts : ProgramFacts P = subst (λ (q : ProgramTables). ProgramFacts q) same c.tables-facts.ensures.facts in
    let call : OnRunning (frames_of P fs vs) (λ f others. IsCallOf P f c.called_method-method.result)
    = subst (λ (q : ProgramTables). OnRunning (frames_of q fs vs) (λ f others. IsCallOf q f c.called_method-method.result)) same c.called_method-method.ensures in
    subst (λ (q : ProgramTables). c.called_method-method.result < length q.methods) (sym same)
    (method_there P c.self.inside.service c.self.inside.budget c.self.inside.steps fs vs old last asking k kind stands.0 facts.typing stands.1 v value c.args.printed.now c.called_method-method.result call)

pub go_on-goes_on-requires-clause-can : goal.go_on-goes_on-requires-clause-can
go_on-goes_on-requires-clause-can c =
    let e = c.self.view_is in
    let Pr : ProgramTables = c.program-program.result.now in
    let P : ProgramTables = c.self.inside.program.now in
    let same : Pr ≡ P = c.program-program.ensures.program in
    let fs = c.self.inside.stack.frames.items in
    let vs = c.self.inside.stack.values.items in
    let old = c.self.inside.printed.items in
    let last = c.self.inside.last in
    let x : Execution = before_it P c.self.inside.service c.self.inside.budget c.self.inside.steps fs vs old last in
    let asking : IsAsking x = subst IsAsking (sym e) c.requires.asking in
    let k = c.args.heap.now.objects in
    let kind = c.requires.stands.0 in
    let stands : Stands kind k x = subst (Stands kind k) (sym e) c.requires.stands.1 in
    let v = c.args.value in
    let value : (h : Heap) (a : Asks x.program x.service (state_in h x)) → IsResult x.program k (result_of x.program a.method) v
    = subst (λ (x : Execution). (h : Heap) (a : Asks x.program x.service (state_in h x)) → IsResult x.program k (result_of x.program a.method) v) (sym e) c.requires.value in
    let facts : ProgramFacts P = subst (λ (q : ProgramTables). ProgramFacts q) same c.tables-facts.ensures.facts in
    let call : OnRunning (frames_of P fs vs) (λ f others. IsCallOf P f c.called_method-method.result)
    = subst (λ (q : ProgramTables). OnRunning (frames_of q fs vs) (λ f others. IsCallOf q f c.called_method-method.result)) same c.called_method-method.ensures in
    let i : MethodInfo = c.method.result.now in
    let is_m : method_at P c.called_method-method.result ≡ Some i = subst (λ (q : ProgramTables). method_at q c.called_method-method.result ≡ Some i) same c.method.ensures in
    let ms = c.drop_operands.new.self.frames.items in
    let us = c.drop_operands.new.self.values.items in
    let n = c.operand_count-count.result in
    let r : OnRunning (frames_of P fs vs) (λ f others. frames_of P ms us ≡ record f { operands = drop n f.operands } ∷ others)
    = subst (λ (q : ProgramTables). OnRunning (frames_of q fs vs) (λ f others. frames_of q ms us ≡ record f { operands = drop n f.operands } ∷ others)) same c.drop_operands.ensures.frames in
    subst (λ (q : ProgramTables). (d : Control) × (given q v (frames_of q ms us) ≡ Some d) × CanGoOn q d) (sym same)
    (go_on_can P c.self.inside.service c.self.inside.budget c.self.inside.steps fs vs old last asking k kind stands.0 facts.typing stands.1 v value c.args.printed.now c.called_method-method.result call i is_m n c.operand_count-count.ensures (frames_of P ms us) r)

pub returns-clause-resumed : goal.returns-clause-resumed
returns-clause-resumed c = λ before.
    let e = c.self.view_is in
    let Pr : ProgramTables = c.program-program.result.now in
    let P : ProgramTables = c.self.inside.program.now in
    let same : Pr ≡ P = c.program-program.ensures.program in
    let fs = c.self.inside.stack.frames.items in
    let vs = c.self.inside.stack.values.items in
    let old = c.self.inside.printed.items in
    let last = c.self.inside.last in
    let x : Execution = before_it P c.self.inside.service c.self.inside.budget c.self.inside.steps fs vs old last in
    let asking : IsAsking x = subst IsAsking (sym e) c.requires.asking in
    let k = c.args.heap.now.objects in
    let kind = c.requires.stands.0 in
    let stands : Stands kind k x = subst (Stands kind k) (sym e) c.requires.stands.1 in
    let v = c.args.value in
    let value : (h : Heap) (a : Asks x.program x.service (state_in h x)) → IsResult x.program k (result_of x.program a.method) v
    = subst (λ (x : Execution). (h : Heap) (a : Asks x.program x.service (state_in h x)) → IsResult x.program k (result_of x.program a.method) v) (sym e) c.requires.value in
    let facts : ProgramFacts P = subst (λ (q : ProgramTables). ProgramFacts q) same c.tables-facts.ensures.facts in
    let call : OnRunning (frames_of P fs vs) (λ f others. IsCallOf P f c.called_method-method.result)
    = subst (λ (q : ProgramTables). OnRunning (frames_of q fs vs) (λ f others. IsCallOf q f c.called_method-method.result)) same c.called_method-method.ensures in
    let i : MethodInfo = c.method.result.now in
    let is_m : method_at P c.called_method-method.result ≡ Some i = subst (λ (q : ProgramTables). method_at q c.called_method-method.result ≡ Some i) same c.method.ensures in
    let ms = c.drop_operands.new.self.frames.items in
    let us = c.drop_operands.new.self.values.items in
    let n = c.operand_count-count.result in
    let r : OnRunning (frames_of P fs vs) (λ f others. frames_of P ms us ≡ record f { operands = drop n f.operands } ∷ others)
    = subst (λ (q : ProgramTables). OnRunning (frames_of q fs vs) (λ f others. frames_of q ms us ≡ record f { operands = drop n f.operands } ∷ others)) same c.drop_operands.ensures.frames in
    let gs = c.go_on-goes_on.new.self.frames.items in
    let ws = c.go_on-goes_on.new.self.values.items in
    let new = c.extend_from_slice.new.self.items in
    let new_is : new ≡ old ++ c.args.printed.now = c.in_ok-extend_from_slice.ensures.items in
    let some : 0 < length ms = omega (arith, c.drop_operands.ensures.as_many, some_frames P c.self.inside.service fs vs last asking.heap old asking.going asking.asks) in
    let given_is : given P v (frames_of P ms us) ≡ Some (Running (frames_of P gs ws))
    = subst (λ (q : ProgramTables). given q v (frames_of q ms us) ≡ Some (Running (frames_of q gs ws))) same (c.go_on-goes_on.ensures.onward (c.go_on-goes_on.ensures.some some)) in
    let few : length new ≤ max_printed = omega (arith, c.if-len-printed-gt-MAX_PRINTED.false, c.len.ensures, c.self.inside.printed.ok.0, ap length new_is, length-append old c.args.printed.now) in
    subst (λ (x : Execution). Resumed before x (Answered k v c.args.printed.now) (after_it P c.self.inside.service c.self.inside.budget c.self.inside.steps fs vs old gs ws new last) k) e
    (resumed P c.self.inside.service c.self.inside.budget c.self.inside.steps fs vs old last asking.going before k v c.args.printed.now gs ws new new_is
    (subst (λ (q : ProgramTables). IsStack q gs ws) same c.go_on-goes_on.ensures.stack) c.cells-cells.ensures.few few
    (λ b. ap (given P v) (sym (waits P c.self.inside.service c.self.inside.budget c.self.inside.steps fs vs old last asking k kind stands.0 facts.typing stands.1 v value c.args.printed.now c.called_method-method.result call i is_m n c.operand_count-count.ensures (frames_of P ms us) r before b)) ∙ given_is))

pub returns-clause-stands : goal.returns-clause-stands
returns-clause-stands c = λ kd sd.
    let e = c.self.view_is in
    let Pr : ProgramTables = c.program-program.result.now in
    let P : ProgramTables = c.self.inside.program.now in
    let same : Pr ≡ P = c.program-program.ensures.program in
    let fs = c.self.inside.stack.frames.items in
    let vs = c.self.inside.stack.values.items in
    let old = c.self.inside.printed.items in
    let last = c.self.inside.last in
    let x : Execution = before_it P c.self.inside.service c.self.inside.budget c.self.inside.steps fs vs old last in
    let asking : IsAsking x = subst IsAsking (sym e) c.requires.asking in
    let k = c.args.heap.now.objects in
    let kind = c.requires.stands.0 in
    let stands : Stands kind k x = subst (Stands kind k) (sym e) c.requires.stands.1 in
    let v = c.args.value in
    let value : (h : Heap) (a : Asks x.program x.service (state_in h x)) → IsResult x.program k (result_of x.program a.method) v
    = subst (λ (x : Execution). (h : Heap) (a : Asks x.program x.service (state_in h x)) → IsResult x.program k (result_of x.program a.method) v) (sym e) c.requires.value in
    let facts : ProgramFacts P = subst (λ (q : ProgramTables). ProgramFacts q) same c.tables-facts.ensures.facts in
    let call : OnRunning (frames_of P fs vs) (λ f others. IsCallOf P f c.called_method-method.result)
    = subst (λ (q : ProgramTables). OnRunning (frames_of q fs vs) (λ f others. IsCallOf q f c.called_method-method.result)) same c.called_method-method.ensures in
    let i : MethodInfo = c.method.result.now in
    let is_m : method_at P c.called_method-method.result ≡ Some i = subst (λ (q : ProgramTables). method_at q c.called_method-method.result ≡ Some i) same c.method.ensures in
    let ms = c.drop_operands.new.self.frames.items in
    let us = c.drop_operands.new.self.values.items in
    let n = c.operand_count-count.result in
    let r : OnRunning (frames_of P fs vs) (λ f others. frames_of P ms us ≡ record f { operands = drop n f.operands } ∷ others)
    = subst (λ (q : ProgramTables). OnRunning (frames_of q fs vs) (λ f others. frames_of q ms us ≡ record f { operands = drop n f.operands } ∷ others)) same c.drop_operands.ensures.frames in
    let gs = c.go_on-goes_on.new.self.frames.items in
    let ws = c.go_on-goes_on.new.self.values.items in
    let new = c.extend_from_slice.new.self.items in
    let new_is : new ≡ old ++ c.args.printed.now = c.in_ok-extend_from_slice.ensures.items in
    let some : 0 < length ms = omega (arith, c.drop_operands.ensures.as_many, some_frames P c.self.inside.service fs vs last asking.heap old asking.going asking.asks) in
    let given_is : given P v (frames_of P ms us) ≡ Some (Running (frames_of P gs ws))
    = subst (λ (q : ProgramTables). given q v (frames_of q ms us) ≡ Some (Running (frames_of q gs ws))) same (c.go_on-goes_on.ensures.onward (c.go_on-goes_on.ensures.some some)) in
    let there : Stands kd k x = subst (Stands kd k) (sym e) sd in
    let control_is : control_of P gs ws last ≡ Running (frames_of P gs ws) = ap (control_of P gs ws) asking.going in (
      there.0,
      subst₂ (λ (d : Control) bs. StandsIn P there.0.frames kd (record { heap = k; control = d; printed = bs })) (sym control_is) (sym new_is)
          (still_stands P c.self.inside.service c.self.inside.budget c.self.inside.steps fs vs old last asking k kd there.0 facts.typing there.1 v value c.args.printed.now
          c.called_method-method.result call i is_m n c.operand_count-count.ensures (frames_of P ms us) r (Running (frames_of P gs ws)) given_is),
    )

pub overflow_add-self : goal.overflow_add-self
overflow_add-self c =
    let a : IsAsking (execution_of c.self.inside) = subst IsAsking (sym c.self.view_is) c.requires.asking in
    let l : c.self.inside.steps < c.self.inside.budget = a.in_budget in
    omega (arith, l)
