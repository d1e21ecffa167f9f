-- A remote call that met a fault: what the frames are then, and that the state is the model's.
use Rattle.std.proofs.Common.{◌≡◌, ℕ, ◌+◌, ◌<◌, ◌≤◌, List, [], ◌∷◌, ◌++◌, length, refl, sym, ap, subst, ◌∙◌, arith, true, false}
use Rattle.std.specs.Prelude.{Bool, Option, Some, None, drop}
use Rattle.std.specs.FinMap.{get, insert}
use Rattle.nr_linked.specs.declared.program.kind.Kind.{Kind}
use Rattle.nr_linked.specs.declared.program.tables.MethodInfo.{MethodInfo}
use Rattle.nr_linked.specs.declared.program.tables.ProgramTables.{ProgramTables}
use Rattle.nr_linked.specs.Kinds.{class_kind}
use Rattle.nr_linked.specs.Programs.{method_at}
use Rattle.nr_linked.specs.TypingFacts.{TypingFacts}
use Rattle.nr_linked.specs.WellTyped.{WellTyped}
use Rattle.nr_model.specs.declared.value.Value.{Value}
use Rattle.nr_model.specs.declared.value.Value.TheVariants.{Ref}
use Rattle.nr_model.specs.Asks.{Asks, AskStep, Faulted, fault_class, waiting}
use Rattle.nr_model.specs.CallRules.{operands_of}
use Rattle.nr_model.specs.Heaps.{Heap, Obj, cells}
use Rattle.nr_model.specs.Outcomes.{is_too_deep, max_cells, max_printed, passed}
use Rattle.nr_model.specs.Scripts.{new_object}
use Rattle.nr_model.specs.States.{Frame, Control, Running, State}
use Rattle.nr_model.specs.States as states
use Rattle.nr_model.specs.Steps.{unwound}
use Rattle.nr_model.specs.Throws.{zeros}
use Rattle.nr_model.specs.TypedAnswers.{entry_of}
use Rattle.nr_model.proofs.Limits.{Keeps, passes_none}
use Rattle.nr_typed.specs.Standing.{StandsIn}
use Rattle.nr_machine.specs.declared.answer.Turn.{Turn}
use Rattle.nr_machine.specs.declared.answer.Turn.TheVariants.{Thrown}
use Rattle.nr_machine.specs.declared.stack.Frame.{Frame as CodeFrame}
use Rattle.nr_machine.specs.CallStacks.{CanGoOn, IsCallOf, IsStack, OnRunning, frames_of}
use Rattle.nr_machine.specs.Executions.{Execution, IsAsking, state_in}
use Rattle.nr_machine.specs.Machines.{control_of}
use Rattle.nr_machine.specs.Resumed.{AnswerLeads, Resumed, end_of}
use Rattle.nr_machine.proofs.AskingMachines.{asks_in, waiting_is}
use Rattle.nr_machine.proofs.Resuming.{before_it, after_it, state_same}
use Rattle.nr_machine.proofs.Standing.{goes_on}
use Rattle.nr_machine.proofs.Starting.{not_deep}
use Rattle.nr_machine.proofs.TypedLaws.{answer_stands}

module _ (P : ProgramTables) where
  abbrev pub fault_kind : Kind
  fault_kind = class_kind (fault_class P)

  abbrev pub fault_object : Obj
  fault_object = new_object fault_kind (zeros P (fault_class P))

module _ (P : ProgramTables) (facts : TypingFacts P) (typed : WellTyped P) (result : Option Kind) (service : Option ℕ) (s : State) (a : Asks P service s) (st : StandsIn P typed.frames result s)
    (name : ℕ) (fresh : get s.heap name ≡ None) (wait : List Frame) (is : (b : Asks P service s) → wait ≡ waiting b) where
  thrown : (t : State) × AskStep P service s (entry_of a (Faulted name)) t × StandsIn P typed.frames result t
  thrown = answer_stands P facts typed result service s a st (Faulted name) fresh

  control_is : thrown.0.control ≡ unwound P (fault_kind P) (Ref name) wait
  control_is = thrown.1.answer.2 ∙ ap (unwound P (fault_kind P) (Ref name)) (sym (is thrown.1.asks))

  pub throw_can : CanGoOn P (unwound P (fault_kind P) (Ref name) wait)
  throw_can = subst (CanGoOn P) control_is (goes_on P typed.frames thrown.0.heap result thrown.0.control thrown.2.control)

  pub throw_stands : StandsIn P typed.frames result (record { heap = insert s.heap name (fault_object P); control = unwound P (fault_kind P) (Ref name) wait; printed = s.printed })
  throw_stands =
      subst (StandsIn P typed.frames result)
      (state_same thrown.0 (record { heap = insert s.heap name (fault_object P); control = unwound P (fault_kind P) (Ref name) wait; printed = s.printed }) thrown.1.answer.1 control_is thrown.1.answer.3)
      thrown.2

module _ (P : ProgramTables) (service : Option ℕ) (budget steps : ℕ) (fs : List CodeFrame) (vs : List Value) (old : List ℕ) (last : Option Turn) (going : last ≡ None) (h k : Heap) (name : ℕ) (fresh : get h name ≡ None)
    (made : k ≡ insert h name (fault_object P)) (few : cells k ≤ max_cells) (short : length old ≤ max_printed) (wait : List Frame)
    (is : (b : Asks P service (state_in h (before_it P service budget steps fs vs old last))) → wait ≡ waiting b) where
  abbrev x : Execution
  x = before_it P service budget steps fs vs old last

  leads : (c : Control) → unwound P (fault_kind P) (Ref name) wait ≡ c → AnswerLeads h x (Faulted name) (record { heap = k; control = c; printed = old })
  leads c e = λ b. record { asks = b; method = refl; args = refl; before = refl; answer = (fresh, made, sym e ∙ ap (unwound P (fault_kind P) (Ref name)) (is b), refl) }

  -- a frame handles it
  pub caught : (gs : List CodeFrame) (us : List Value) → IsStack P gs us → unwound P (fault_kind P) (Ref name) wait ≡ Running (frames_of P gs us)
      → Resumed h x (Faulted name) (after_it P service budget steps fs vs old gs us old last) k
  caught gs us st u =
      let c : control_of P gs us last ≡ Running (frames_of P gs us) = ap (control_of P gs us) going in
      record {
        answered = leads (control_of P gs us last) (u ∙ sym c);
        limits = passes_none P (state_in k (after_it P service budget steps fs vs old gs us old last)) (record { size = few; depth = ap (is_too_deep P) c ∙ not_deep P gs us st; output = short });
        rest = subst (λ l. after_it P service budget steps fs vs old gs us old l ≡ record (before_it P service budget steps fs vs old l) { steps = steps + 1; control = control_of P gs us l; printed = old; last = end_of (control_of P gs us l) }) (sym going) refl;
      }

  -- no frame does
  pub uncaught : (gs : List CodeFrame) (us : List Value) → unwound P (fault_kind P) (Ref name) wait ≡ states.Thrown (Ref name)
      → Resumed h x (Faulted name) (after_it P service budget steps fs vs old gs us old (Some (Thrown name))) k
  uncaught gs us u = record {
    answered = leads (states.Thrown (Ref name)) u;
    limits = passes_none P (state_in k (after_it P service budget steps fs vs old gs us old (Some (Thrown name)))) (record { size = few; depth = refl; output = short });
    rest = refl;
  }
