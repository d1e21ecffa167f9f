use Rattle.std.proofs.Common.{◌≡◌, ◌<◌, ◌∷◌, ◌∙◌, length, refl, sym, ap, subst, subst₂, arith, ℕ}
use Rattle.std.specs.Prelude.{Some, IsTrue, drop}
use Rattle.std.specs.FinMap.{insert}
use Rattle.nr_linked.specs.declared.program.built_in.BuiltIn.TheVariants.{RemoteFault}
use Rattle.nr_linked.specs.declared.program.tables.MethodInfo.{MethodInfo}
use Rattle.nr_linked.specs.declared.program.tables.ProgramTables.{ProgramTables}
use Rattle.nr_linked.specs.Facts.{ProgramFacts}
use Rattle.nr_linked.specs.Kinds.{class_kind}
use Rattle.nr_linked.specs.Programs.{method_at}
use Rattle.nr_linked.specs.TypingFacts.{is_makeable}
use Rattle.nr_model.specs.declared.value.Value.TheVariants.{Ref}
use Rattle.nr_model.specs.Asks.{Asks, Faulted, fault_class, waiting}
use Rattle.nr_model.specs.States.{Control, Frame, Running}
use Rattle.nr_model.specs.States as states
use Rattle.nr_model.specs.Steps.{unwound}
use Rattle.nr_heap.specs.Contents.{object_of}
use Rattle.nr_typed.specs.Standing.{StandsIn}
use Rattle.nr_machine.specs.declared.answer.Turn.TheVariants.{Thrown}
use Rattle.nr_machine.specs.CallStacks.{CanGoOn, IsCallOf, IsStack, OnRunning, frames_of}
use Rattle.nr_machine.specs.Executions.{Execution, IsAsking, Stands, state_in}
use Rattle.nr_machine.specs.Machines.{control_of, execution_of}
use Rattle.nr_machine.specs.Resumed.{Resumed}
use Rattle.nr_machine.proofs.AskingMachines.{some_call, asks_in, method_is, waiting_is}
use Rattle.nr_machine.proofs.Calls.{in_range}
use Rattle.nr_machine.proofs.Resuming.{after_it, before_it}
use Rattle.nr_machine.proofs.Throwing.{caught, throw_can, throw_stands, uncaught}
use Rattle.nr_machine.proofs.machine.Machine.resume_throw.Goals as goal

pub new_object-requires : goal.new_object-requires
new_object-requires c =
    let e = c.self.view_is in
    let Pr : ProgramTables = c.program-program.result.now in
    let P : ProgramTables = c.self.inside.program.now in
    let same : Pr ≡ P = c.program-program.ensures.program in
    let service = c.self.inside.service in
    let fs = c.self.inside.stack.frames.items in
    let vs = c.self.inside.stack.values.items in
    let old = c.self.inside.printed.items in
    let last = c.self.inside.last in
    let x : Execution = before_it P service c.self.inside.budget c.self.inside.steps fs vs old last in
    let asking : IsAsking x = subst IsAsking (sym e) c.requires.asking in
    let h = c.args.heap.now.objects in
    let kind = c.requires.stands.0 in
    let stands : Stands kind h x = subst (Stands kind h) (sym e) c.requires.stands.1 in
    let facts : ProgramFacts P = subst (λ (q : ProgramTables). ProgramFacts q) same c.tables-facts.ensures.facts in
    let cls : c.args.class ≡ fault_class P = subst (λ (y : Execution). c.args.class ≡ fault_class y.program) (sym e) c.requires.class in
    let asks : Asks P service (state_in h x) = asks_in P service (control_of P fs vs last) old asking.heap h asking.asks in
    subst (λ (q : ProgramTables). IsTrue (is_makeable q c.args.class)) (sym same)
    (subst (λ d. IsTrue (is_makeable P d)) (sym cls) (facts.typing.thrown RemoteFault refl).1)

pub method-requires : goal.method-requires
method-requires c =
    let e = c.self.view_is in
    let Pr : ProgramTables = c.program-program.result.now in
    let P : ProgramTables = c.self.inside.program.now in
    let same : Pr ≡ P = c.program-program.ensures.program in
    let service = c.self.inside.service in
    let fs = c.self.inside.stack.frames.items in
    let vs = c.self.inside.stack.values.items in
    let old = c.self.inside.printed.items in
    let last = c.self.inside.last in
    let x : Execution = before_it P service c.self.inside.budget c.self.inside.steps fs vs old last in
    let asking : IsAsking x = subst IsAsking (sym e) c.requires.asking in
    let h = c.args.heap.now.objects in
    let kind = c.requires.stands.0 in
    let stands : Stands kind h x = subst (Stands kind h) (sym e) c.requires.stands.1 in
    let facts : ProgramFacts P = subst (λ (q : ProgramTables). ProgramFacts q) same c.tables-facts.ensures.facts in
    let cls : c.args.class ≡ fault_class P = subst (λ (y : Execution). c.args.class ≡ fault_class y.program) (sym e) c.requires.class in
    let asks : Asks P service (state_in h x) = asks_in P service (control_of P fs vs last) old asking.heap h asking.asks in
    let m = c.called_method-method.result in
    let call : OnRunning (frames_of P fs vs) (λ f others. IsCallOf P f m)
    = subst (λ (q : ProgramTables). OnRunning (frames_of q fs vs) (λ f others. IsCallOf q f m)) same c.called_method-method.ensures in
    subst (λ (q : ProgramTables). m < length q.methods) (sym same)
    (subst (λ m. m < length P.methods) (sym (method_is P service fs vs last h old asking.going asks m call)) (in_range P asks.method asks.info asks.called))

pub operand_count-count-requires : goal.operand_count-count-requires
operand_count-count-requires c = (c.tables-facts.ensures.facts.methods c.called_method-method.result c.method.result.now c.method.ensures).few_params

pub unwind-requires-clause-can : goal.unwind-requires-clause-can
unwind-requires-clause-can c =
    let e = c.self.view_is in
    let Pr : ProgramTables = c.program-program.result.now in
    let P : ProgramTables = c.self.inside.program.now in
    let same : Pr ≡ P = c.program-program.ensures.program in
    let service = c.self.inside.service in
    let fs = c.self.inside.stack.frames.items in
    let vs = c.self.inside.stack.values.items in
    let old = c.self.inside.printed.items in
    let last = c.self.inside.last in
    let x : Execution = before_it P service c.self.inside.budget c.self.inside.steps fs vs old last in
    let asking : IsAsking x = subst IsAsking (sym e) c.requires.asking in
    let h = c.args.heap.now.objects in
    let kind = c.requires.stands.0 in
    let stands : Stands kind h x = subst (Stands kind h) (sym e) c.requires.stands.1 in
    let facts : ProgramFacts P = subst (λ (q : ProgramTables). ProgramFacts q) same c.tables-facts.ensures.facts in
    let cls : c.args.class ≡ fault_class P = subst (λ (y : Execution). c.args.class ≡ fault_class y.program) (sym e) c.requires.class in
    let asks : Asks P service (state_in h x) = asks_in P service (control_of P fs vs last) old asking.heap h asking.asks in
    let m = c.called_method-method.result in
    let call : OnRunning (frames_of P fs vs) (λ f others. IsCallOf P f m)
    = subst (λ (q : ProgramTables). OnRunning (frames_of q fs vs) (λ f others. IsCallOf q f m)) same c.called_method-method.ensures in
    let i : MethodInfo = c.method.result.now in
    let is_m : method_at P m ≡ Some i = subst (λ (q : ProgramTables). method_at q m ≡ Some i) same c.method.ensures in
    let ms = c.drop_operands.new.self.frames.items in
    let us = c.drop_operands.new.self.values.items in
    let n = c.operand_count-count.result in
    let r : OnRunning (frames_of P fs vs) (λ f others. frames_of P ms us ≡ record f { operands = drop n f.operands } ∷ others)
    = subst (λ (q : ProgramTables). OnRunning (frames_of q fs vs) (λ f others. frames_of q ms us ≡ record f { operands = drop n f.operands } ∷ others)) same c.drop_operands.ensures.frames in
    let waits : (b : Asks P service (state_in h x)) → frames_of P ms us ≡ waiting b
    = λ b. waiting_is P service fs vs last h old asking.going b m call i is_m n c.operand_count-count.ensures (frames_of P ms us) r in
    let name = c.in_ok-name.name in
    let fresh = c.in_ok-name.ensures.made.fresh in
    let k = c.new_object.new.self.objects in
    let made : k ≡ insert h name (object_of P (fault_class P)) = subst₂ (λ (q : ProgramTables) d. k ≡ insert h name (object_of q d)) same cls c.in_ok-name.ensures.made.objects in
    subst₂ (λ (q : ProgramTables) d. CanGoOn q (unwound q (class_kind d) (Ref name) (frames_of q ms us))) (sym same) (sym cls)
    (throw_can P facts.typing stands.0 kind service (state_in h x) asks stands.1 name fresh (frames_of P ms us) waits)

pub returns-then-unwind-clause-thrown : goal.returns-then-unwind-clause-thrown
returns-then-unwind-clause-thrown c =
    let e = c.self.view_is in
    let Pr : ProgramTables = c.program-program.result.now in
    let P : ProgramTables = c.self.inside.program.now in
    let same : Pr ≡ P = c.program-program.ensures.program in
    let service = c.self.inside.service in
    let fs = c.self.inside.stack.frames.items in
    let vs = c.self.inside.stack.values.items in
    let old = c.self.inside.printed.items in
    let last = c.self.inside.last in
    let x : Execution = before_it P service c.self.inside.budget c.self.inside.steps fs vs old last in
    let asking : IsAsking x = subst IsAsking (sym e) c.requires.asking in
    let h = c.args.heap.now.objects in
    let kind = c.requires.stands.0 in
    let stands : Stands kind h x = subst (Stands kind h) (sym e) c.requires.stands.1 in
    let facts : ProgramFacts P = subst (λ (q : ProgramTables). ProgramFacts q) same c.tables-facts.ensures.facts in
    let cls : c.args.class ≡ fault_class P = subst (λ (y : Execution). c.args.class ≡ fault_class y.program) (sym e) c.requires.class in
    let asks : Asks P service (state_in h x) = asks_in P service (control_of P fs vs last) old asking.heap h asking.asks in
    let m = c.called_method-method.result in
    let call : OnRunning (frames_of P fs vs) (λ f others. IsCallOf P f m)
    = subst (λ (q : ProgramTables). OnRunning (frames_of q fs vs) (λ f others. IsCallOf q f m)) same c.called_method-method.ensures in
    let i : MethodInfo = c.method.result.now in
    let is_m : method_at P m ≡ Some i = subst (λ (q : ProgramTables). method_at q m ≡ Some i) same c.method.ensures in
    let ms = c.drop_operands.new.self.frames.items in
    let us = c.drop_operands.new.self.values.items in
    let n = c.operand_count-count.result in
    let r : OnRunning (frames_of P fs vs) (λ f others. frames_of P ms us ≡ record f { operands = drop n f.operands } ∷ others)
    = subst (λ (q : ProgramTables). OnRunning (frames_of q fs vs) (λ f others. frames_of q ms us ≡ record f { operands = drop n f.operands } ∷ others)) same c.drop_operands.ensures.frames in
    let waits : (b : Asks P service (state_in h x)) → frames_of P ms us ≡ waiting b
    = λ b. waiting_is P service fs vs last h old asking.going b m call i is_m n c.operand_count-count.ensures (frames_of P ms us) r in
    let name = c.in_ok-name.name in
    let fresh = c.in_ok-name.ensures.made.fresh in
    let k = c.new_object.new.self.objects in
    let made : k ≡ insert h name (object_of P (fault_class P)) = subst₂ (λ (q : ProgramTables) d. k ≡ insert h name (object_of q d)) same cls c.in_ok-name.ensures.made.objects in
    let gs = c.unwind.new.self.frames.items in
    let ws = c.unwind.new.self.values.items in
    let unwound_is : unwound P (class_kind (fault_class P)) (Ref name) (frames_of P ms us) ≡ Running (frames_of P gs ws)
    = subst₂ (λ (q : ProgramTables) d. unwound q (class_kind d) (Ref name) (frames_of q ms us) ≡ Running (frames_of q gs ws)) same cls (c.if-unwind.ensures.caught refl) in
    subst (λ (x : Execution). Resumed h x (Faulted name) (after_it P service c.self.inside.budget c.self.inside.steps fs vs old gs ws old last) k) e
    (caught P service c.self.inside.budget c.self.inside.steps fs vs old last asking.going h k name fresh made c.cells-cells.ensures.few c.self.invariant.few_printed (frames_of P ms us) waits gs ws
    (subst (λ (q : ProgramTables). IsStack q gs ws) same c.unwind.ensures.stack) unwound_is)

pub returns-then-unwind-clause-stands : goal.returns-then-unwind-clause-stands
returns-then-unwind-clause-stands c = λ kd sd.
    let e = c.self.view_is in
    let Pr : ProgramTables = c.program-program.result.now in
    let P : ProgramTables = c.self.inside.program.now in
    let same : Pr ≡ P = c.program-program.ensures.program in
    let service = c.self.inside.service in
    let fs = c.self.inside.stack.frames.items in
    let vs = c.self.inside.stack.values.items in
    let old = c.self.inside.printed.items in
    let last = c.self.inside.last in
    let x : Execution = before_it P service c.self.inside.budget c.self.inside.steps fs vs old last in
    let asking : IsAsking x = subst IsAsking (sym e) c.requires.asking in
    let h = c.args.heap.now.objects in
    let kind = c.requires.stands.0 in
    let stands : Stands kind h x = subst (Stands kind h) (sym e) c.requires.stands.1 in
    let facts : ProgramFacts P = subst (λ (q : ProgramTables). ProgramFacts q) same c.tables-facts.ensures.facts in
    let cls : c.args.class ≡ fault_class P = subst (λ (y : Execution). c.args.class ≡ fault_class y.program) (sym e) c.requires.class in
    let asks : Asks P service (state_in h x) = asks_in P service (control_of P fs vs last) old asking.heap h asking.asks in
    let m = c.called_method-method.result in
    let call : OnRunning (frames_of P fs vs) (λ f others. IsCallOf P f m)
    = subst (λ (q : ProgramTables). OnRunning (frames_of q fs vs) (λ f others. IsCallOf q f m)) same c.called_method-method.ensures in
    let i : MethodInfo = c.method.result.now in
    let is_m : method_at P m ≡ Some i = subst (λ (q : ProgramTables). method_at q m ≡ Some i) same c.method.ensures in
    let ms = c.drop_operands.new.self.frames.items in
    let us = c.drop_operands.new.self.values.items in
    let n = c.operand_count-count.result in
    let r : OnRunning (frames_of P fs vs) (λ f others. frames_of P ms us ≡ record f { operands = drop n f.operands } ∷ others)
    = subst (λ (q : ProgramTables). OnRunning (frames_of q fs vs) (λ f others. frames_of q ms us ≡ record f { operands = drop n f.operands } ∷ others)) same c.drop_operands.ensures.frames in
    let waits : (b : Asks P service (state_in h x)) → frames_of P ms us ≡ waiting b
    = λ b. waiting_is P service fs vs last h old asking.going b m call i is_m n c.operand_count-count.ensures (frames_of P ms us) r in
    let name = c.in_ok-name.name in
    let fresh = c.in_ok-name.ensures.made.fresh in
    let k = c.new_object.new.self.objects in
    let made : k ≡ insert h name (object_of P (fault_class P)) = subst₂ (λ (q : ProgramTables) d. k ≡ insert h name (object_of q d)) same cls c.in_ok-name.ensures.made.objects in
    let gs = c.unwind.new.self.frames.items in
    let ws = c.unwind.new.self.values.items in
    let unwound_is : unwound P (class_kind (fault_class P)) (Ref name) (frames_of P ms us) ≡ Running (frames_of P gs ws)
    = subst₂ (λ (q : ProgramTables) d. unwound q (class_kind d) (Ref name) (frames_of q ms us) ≡ Running (frames_of q gs ws)) same cls (c.if-unwind.ensures.caught refl) in
    let there : Stands kd h x = subst (Stands kd h) (sym e) sd in (
      there.0,
      subst₂ (λ hp (d : Control). StandsIn P there.0.frames kd (record { heap = hp; control = d; printed = old })) (sym made) (unwound_is ∙ sym (ap (control_of P gs ws) asking.going))
          (throw_stands P facts.typing there.0 kd service (state_in h x) asks there.1 name fresh (frames_of P ms us) waits),
    )

pub returns-clause-thrown : goal.returns-clause-thrown
returns-clause-thrown c =
    let e = c.self.view_is in
    let Pr : ProgramTables = c.program-program.result.now in
    let P : ProgramTables = c.self.inside.program.now in
    let same : Pr ≡ P = c.program-program.ensures.program in
    let service = c.self.inside.service in
    let fs = c.self.inside.stack.frames.items in
    let vs = c.self.inside.stack.values.items in
    let old = c.self.inside.printed.items in
    let last = c.self.inside.last in
    let x : Execution = before_it P service c.self.inside.budget c.self.inside.steps fs vs old last in
    let asking : IsAsking x = subst IsAsking (sym e) c.requires.asking in
    let h = c.args.heap.now.objects in
    let kind = c.requires.stands.0 in
    let stands : Stands kind h x = subst (Stands kind h) (sym e) c.requires.stands.1 in
    let facts : ProgramFacts P = subst (λ (q : ProgramTables). ProgramFacts q) same c.tables-facts.ensures.facts in
    let cls : c.args.class ≡ fault_class P = subst (λ (y : Execution). c.args.class ≡ fault_class y.program) (sym e) c.requires.class in
    let asks : Asks P service (state_in h x) = asks_in P service (control_of P fs vs last) old asking.heap h asking.asks in
    let m = c.called_method-method.result in
    let call : OnRunning (frames_of P fs vs) (λ f others. IsCallOf P f m)
    = subst (λ (q : ProgramTables). OnRunning (frames_of q fs vs) (λ f others. IsCallOf q f m)) same c.called_method-method.ensures in
    let i : MethodInfo = c.method.result.now in
    let is_m : method_at P m ≡ Some i = subst (λ (q : ProgramTables). method_at q m ≡ Some i) same c.method.ensures in
    let ms = c.drop_operands.new.self.frames.items in
    let us = c.drop_operands.new.self.values.items in
    let n = c.operand_count-count.result in
    let r : OnRunning (frames_of P fs vs) (λ f others. frames_of P ms us ≡ record f { operands = drop n f.operands } ∷ others)
    = subst (λ (q : ProgramTables). OnRunning (frames_of q fs vs) (λ f others. frames_of q ms us ≡ record f { operands = drop n f.operands } ∷ others)) same c.drop_operands.ensures.frames in
    let waits : (b : Asks P service (state_in h x)) → frames_of P ms us ≡ waiting b
    = λ b. waiting_is P service fs vs last h old asking.going b m call i is_m n c.operand_count-count.ensures (frames_of P ms us) r in
    let name = c.in_ok-name.name in
    let fresh = c.in_ok-name.ensures.made.fresh in
    let k = c.new_object.new.self.objects in
    let made : k ≡ insert h name (object_of P (fault_class P)) = subst₂ (λ (q : ProgramTables) d. k ≡ insert h name (object_of q d)) same cls c.in_ok-name.ensures.made.objects in
    let gs = c.unwind.new.self.frames.items in
    let ws = c.unwind.new.self.values.items in
    let unwound_is : unwound P (class_kind (fault_class P)) (Ref name) (frames_of P ms us) ≡ states.Thrown (Ref name)
    = subst₂ (λ (q : ProgramTables) d. unwound q (class_kind d) (Ref name) (frames_of q ms us) ≡ states.Thrown (Ref name)) same cls (c.if-unwind.ensures.uncaught refl) in
    subst (λ (x : Execution). Resumed h x (Faulted name) (after_it P service c.self.inside.budget c.self.inside.steps fs vs old gs ws old (Some (Thrown name))) k) e
    (uncaught P service c.self.inside.budget c.self.inside.steps fs vs old last asking.going h k name fresh made c.cells-cells.ensures.few c.self.invariant.few_printed (frames_of P ms us) waits gs ws unwound_is)

pub returns-clause-stands : goal.returns-clause-stands
returns-clause-stands c = λ kd sd.
    let e = c.self.view_is in
    let Pr : ProgramTables = c.program-program.result.now in
    let P : ProgramTables = c.self.inside.program.now in
    let same : Pr ≡ P = c.program-program.ensures.program in
    let service = c.self.inside.service in
    let fs = c.self.inside.stack.frames.items in
    let vs = c.self.inside.stack.values.items in
    let old = c.self.inside.printed.items in
    let last = c.self.inside.last in
    let x : Execution = before_it P service c.self.inside.budget c.self.inside.steps fs vs old last in
    let asking : IsAsking x = subst IsAsking (sym e) c.requires.asking in
    let h = c.args.heap.now.objects in
    let kind = c.requires.stands.0 in
    let stands : Stands kind h x = subst (Stands kind h) (sym e) c.requires.stands.1 in
    let facts : ProgramFacts P = subst (λ (q : ProgramTables). ProgramFacts q) same c.tables-facts.ensures.facts in
    let cls : c.args.class ≡ fault_class P = subst (λ (y : Execution). c.args.class ≡ fault_class y.program) (sym e) c.requires.class in
    let asks : Asks P service (state_in h x) = asks_in P service (control_of P fs vs last) old asking.heap h asking.asks in
    let m = c.called_method-method.result in
    let call : OnRunning (frames_of P fs vs) (λ f others. IsCallOf P f m)
    = subst (λ (q : ProgramTables). OnRunning (frames_of q fs vs) (λ f others. IsCallOf q f m)) same c.called_method-method.ensures in
    let i : MethodInfo = c.method.result.now in
    let is_m : method_at P m ≡ Some i = subst (λ (q : ProgramTables). method_at q m ≡ Some i) same c.method.ensures in
    let ms = c.drop_operands.new.self.frames.items in
    let us = c.drop_operands.new.self.values.items in
    let n = c.operand_count-count.result in
    let r : OnRunning (frames_of P fs vs) (λ f others. frames_of P ms us ≡ record f { operands = drop n f.operands } ∷ others)
    = subst (λ (q : ProgramTables). OnRunning (frames_of q fs vs) (λ f others. frames_of q ms us ≡ record f { operands = drop n f.operands } ∷ others)) same c.drop_operands.ensures.frames in
    let waits : (b : Asks P service (state_in h x)) → frames_of P ms us ≡ waiting b
    = λ b. waiting_is P service fs vs last h old asking.going b m call i is_m n c.operand_count-count.ensures (frames_of P ms us) r in
    let name = c.in_ok-name.name in
    let fresh = c.in_ok-name.ensures.made.fresh in
    let k = c.new_object.new.self.objects in
    let made : k ≡ insert h name (object_of P (fault_class P)) = subst₂ (λ (q : ProgramTables) d. k ≡ insert h name (object_of q d)) same cls c.in_ok-name.ensures.made.objects in
    let gs = c.unwind.new.self.frames.items in
    let ws = c.unwind.new.self.values.items in
    let unwound_is : unwound P (class_kind (fault_class P)) (Ref name) (frames_of P ms us) ≡ states.Thrown (Ref name)
    = subst₂ (λ (q : ProgramTables) d. unwound q (class_kind d) (Ref name) (frames_of q ms us) ≡ states.Thrown (Ref name)) same cls (c.if-unwind.ensures.uncaught refl) in
    let there : Stands kd h x = subst (Stands kd h) (sym e) sd in (
      there.0,
      subst₂ (λ hp (d : Control). StandsIn P there.0.frames kd (record { heap = hp; control = d; printed = old })) (sym made) unwound_is
          (throw_stands P facts.typing there.0 kd service (state_in h x) asks there.1 name fresh (frames_of P ms us) waits),
    )

pub overflow_add-self : goal.overflow_add-self
overflow_add-self c =
    let a : IsAsking (execution_of c.self.inside) = subst IsAsking (sym c.self.view_is) c.requires.asking in
    let l : c.self.inside.steps < c.self.inside.budget = a.in_budget in
    omega (arith, l)

pub called_method-method-requires-clause-call : goal.called_method-method-requires-clause-call
called_method-method-requires-clause-call c =
    let Pr : ProgramTables = c.program-program.result.now in
    let P : ProgramTables = c.self.inside.program.now in
    let same : Pr ≡ P = c.program-program.ensures.program in
    let fs = c.self.inside.stack.frames.items in
    let vs = c.self.inside.stack.values.items in
    let a : IsAsking (execution_of c.self.inside) = subst IsAsking (sym c.self.view_is) c.requires.asking in
    subst (λ (q : ProgramTables). OnRunning (frames_of q fs vs) (λ f others. (m : ℕ) × IsCallOf q f m)) (sym same)
    (some_call P c.self.inside.service fs vs c.self.inside.last a.heap c.self.inside.printed.items a.going a.asks)
