-- One turn of a machine that starts at a call, with more steps than the budget: its answer tells the end of the call.
use Rattle.std.proofs.Common.{◌≡◌, ℕ, ◌+◌, ◌≤◌, Bool, true, false, List, [], refl, sym, ap, subst, subst₂, ◌∙◌, arith}
use Rattle.std.specs.Prelude.{Option, Some, None, IsSomeAnd, MatchOption, T, ℤ}
use Rattle.std.specs.FinMap.{get}
use Rattle.nr_linked.specs.declared.program.built_in.BuiltIn.TheVariants.{Throwable}
use Rattle.nr_linked.specs.declared.program.tables.MethodInfo.{MethodInfo}
use Rattle.nr_linked.specs.declared.program.tables.ProgramTables.{ProgramTables}
use Rattle.nr_linked.specs.BuiltIns.{built_in}
use Rattle.nr_linked.specs.Kinds.{class_kind}
use Rattle.nr_linked.specs.Programs.{method_at}
use Rattle.nr_linked.specs.Subtypes.{is_assignable}
use Rattle.nr_linked.specs.TypingFrames.{TypeFrame}
use Rattle.nr_linked.specs.TypingFacts.{TypingFacts}
use Rattle.nr_model.specs.declared.value.Value.{Value}
use Rattle.nr_model.specs.declared.value.Value.TheVariants.{Int, Long, Null, Ref}
use Rattle.nr_model.specs.Asks.{Asks}
use Rattle.nr_model.specs.AskOutcomes.{AskOutcome, Settled}
use Rattle.nr_model.specs.Belonging.{IsResult}
use Rattle.nr_model.specs.Heaps.{Heap, Obj}
use Rattle.nr_model.specs.LimitedRuns.{LimitedRun, there}
use Rattle.nr_model.specs.Locals.{Begins, start_of}
use Rattle.nr_model.specs.Outcomes.{Ended, Fate, HeapFull, Outcome, OutputTooLong, TooDeep, begun, is_too_deep, too_deep}
use Rattle.nr_model.specs.Outcomes as outcomes
use Rattle.nr_model.specs.Printed.{CallPrintedAfter, none_begun, so_far, some_begun}
use Rattle.nr_model.specs.States.{Control, State}
use Rattle.nr_model.specs.States as states
use Rattle.nr_model.proofs.AskOutcomes.{ask_outcome_alone, no_service}
use Rattle.nr_typed.specs.Standing.{ControlStands}
use Rattle.nr_typed.proofs.Assigning.{below_class}
use Rattle.nr_machine.specs.declared.answer.Turn.{Turn}
use Rattle.nr_machine.specs.declared.answer.Turn.TheVariants as turns
use Rattle.nr_machine.specs.Executions.{Execution, Stands, Starts, state_in}
use Rattle.nr_machine.specs.Turned.{ComesFrom, EndsTurn, Goes, Turned, counted, fate_of}
use Rattle.nr_machine.proofs.Turning.{going, outcome}
use Rattle.nr_run.specs.declared.ran.Limit.TheVariants.{Cells, Depth, Output}
use Rattle.nr_run.specs.declared.ran.RunEnd.{RunEnd}
use Rattle.nr_run.specs.declared.ran.RunEnd.TheVariants.{Returned, Thrown, Budget, Limit, NoMemory}
use Rattle.nr_run.specs.Answers.{Tells}
use Rattle.nr_run.specs.Runs.{CallEnds, CallStops, EndsAs, int_kind}

same_fate : {f g : Fate} → Settled f ≡ Settled g → f ≡ g
same_fate e = cc

-- ---- what ends hold

returned_int : (P : ProgramTables) (h : Heap) (v : Option Value) → IsResult P h (Some int_kind) v → (n : ℤ) × (v ≡ Some (Int n))
returned_int P h None r = absurd r
returned_int P h (Some (Int n)) r = (n, refl)
returned_int P h (Some (Long n)) r = absurd r
returned_int P h (Some Null) r = absurd r
returned_int P h (Some (Ref a)) r = absurd r

thrown_class : (P : ProgramTables) → TypingFacts P → (o : Option Obj) → IsSomeAnd o (λ o. T (is_assignable P o.kind (class_kind (built_in P Throwable)))) → (c : ℕ) × IsSomeAnd o (λ o. o.kind ≡ class_kind c)
thrown_class P facts None s = absurd s
thrown_class P facts (Some o) s = let b = below_class P facts o.kind (built_in P Throwable) facts.throwable s in (b.0, b.1)

-- a machine that starts hasn't given a last answer
pub goes : (P : ProgramTables) (h : Heap) (m : ℕ) (args : List Value) (budget n : ℕ) (x y : Execution) (answer : Turn) (k : Heap)
    → Starts P None h m args budget x → Turned n x h answer y k → Goes n x h answer y k
goes P h m args budget n x y answer k starts turned =
    subst (λ o. MatchOption o (Goes n x h answer y k) (λ last. (answer ≡ last) × (y ≡ x) × (k ≡ h))) (ap (λ (z : Execution). z.last) starts.rest) turned

module _ (P : ProgramTables) (m : ℕ) (args : List Value) (budget : ℕ) (h k : Heap) (x y : Execution) (answer : Turn)
    (starts : Starts P None h m args budget x) (goes : Goes (budget + 1) x h answer y k) where
  x_program : x.program ≡ P
  x_program = ap (λ (z : Execution). z.program) starts.rest

  x_service : x.service ≡ None
  x_service = ap (λ (z : Execution). z.service) starts.rest

  x_budget : x.budget ≡ budget
  x_budget = ap (λ (z : Execution). z.budget) starts.rest

  x_steps : x.steps ≡ 0
  x_steps = ap (λ (z : Execution). z.steps) starts.rest

  y_program : y.program ≡ P
  y_program = ap (λ (z : Execution). z.program) goes.rest ∙ x_program

  y_service : y.service ≡ None
  y_service = ap (λ (z : Execution). z.service) goes.rest ∙ x_service

  y_budget : y.budget ≡ budget
  y_budget = ap (λ (z : Execution). z.budget) goes.rest ∙ x_budget

  y_steps : y.steps ≡ x.steps + goes.made
  y_steps = ap (λ (z : Execution). z.steps) goes.rest

  from : ComesFrom (state_in h x) [] h x
  from = subst (λ n. LimitedRun x.program x.service (state_in h x) [] n (state_in h x)) (sym x_steps) there

  -- ---- the answer tells an end

  module _ (frames : ℕ → List TypeFrame) (facts : TypingFacts P) (control : ControlStands P frames (Some int_kind) k y.control) where
    told_by : (answer : Turn) → EndsTurn (budget + 1) goes.made k y answer → (end : RunEnd) × Tells k answer end
    told_by turns.Ran e = absurd (omega (arith, e.0, e.1, x_steps, y_steps, y_budget))
    told_by (turns.Returned v) e =
        let r = returned_int P k v (subst (ControlStands P frames (Some int_kind) k) e control) in
        (Returned r.0, (r.0, r.1, refl))
    told_by (turns.Thrown a) e =
        let c = thrown_class P facts (get k a) (subst (ControlStands P frames (Some int_kind) k) e control) in
        (Thrown c.0, (c.0, refl, c.1))
    told_by (turns.RemoteAsk n) e = absurd (no_service P (state_in k y) (subst₂ (λ P service. Asks P service (state_in k y)) y_program y_service e.2.0))
    told_by turns.BudgetSpent e = (Budget, refl)
    told_by turns.HeapFull e = (Limit Cells, refl)
    told_by turns.TooDeep e = (Limit Depth, refl)
    told_by turns.OutputTooLong e = (Limit Output, refl)
    told_by turns.NoMemory e = (NoMemory, refl)

  pub told : TypingFacts P → Stands (Some int_kind) k y → (end : RunEnd) × Tells k answer end
  told facts stands =
      let control : ControlStands P stands.0.frames (Some int_kind) k y.control = subst (λ Q. ControlStands Q stands.0.frames (Some int_kind) k y.control) y_program stands.1.control in
      told_by stands.0.frames facts control answer goes.ends

  -- ---- the end is that of the outcome

  ends_by : (answer : Turn) (end : RunEnd) → EndsTurn (budget + 1) goes.made k y answer → Tells k answer end → (end ≡ NoMemory → ⊥)
      → (fate : Fate) × (fate_of answer ≡ Some (Settled fate)) × EndsAs fate (state_in k y) end
  ends_by turns.Ran end e t n = absurd t
  ends_by (turns.Returned v) end e t n = (Ended, refl, subst (EndsAs Ended (state_in k y)) (sym t.2) (refl, e ∙ ap states.Returned t.1))
  ends_by (turns.Thrown a) end e t n = (Ended, refl, subst (EndsAs Ended (state_in k y)) (sym t.1) (refl, record { object = a; thrown = e; of_class = t.2 }))
  ends_by (turns.RemoteAsk m) end e t n = absurd t
  ends_by turns.BudgetSpent end e t n = (outcomes.BudgetSpent, refl, subst (EndsAs outcomes.BudgetSpent (state_in k y)) (sym t) refl)
  ends_by turns.HeapFull end e t n = (HeapFull, refl, subst (EndsAs HeapFull (state_in k y)) (sym t) refl)
  ends_by turns.TooDeep end e t n = (TooDeep, refl, subst (EndsAs TooDeep (state_in k y)) (sym t) refl)
  ends_by turns.OutputTooLong end e t n = (OutputTooLong, refl, subst (EndsAs OutputTooLong (state_in k y)) (sym t) refl)
  ends_by turns.NoMemory end e t n = absurd (n t)

  asked : (fate : Fate) → fate_of answer ≡ Some (Settled fate) → AskOutcome P None (state_in h x) [] budget (counted answer y.steps) (Settled fate) (state_in k y)
  asked fate f =
      subst (λ b. AskOutcome P None (state_in h x) [] b (counted answer y.steps) (Settled fate) (state_in k y)) x_budget
      (subst₂ (λ P service. AskOutcome P service (state_in h x) [] x.budget (counted answer y.steps) (Settled fate) (state_in k y)) x_program x_service
      (outcome (state_in h x) [] (budget + 1) x y h k answer (Settled fate) from goes f))

  settled : (fate : Fate) → fate_of answer ≡ Some (Settled fate) → Outcome P (state_in h x) budget (counted answer y.steps) fate (state_in k y)
  settled fate f =
      let a = ask_outcome_alone P (state_in h x) (state_in k y) [] budget (counted answer y.steps) (Settled fate) (asked fate f) in
      subst (λ g. Outcome P (state_in h x) budget (counted answer y.steps) g (state_in k y)) (sym (same_fate a.1.1)) a.1.2

  pub call_ends : is_too_deep P x.control ≡ false → (end : RunEnd) → Tells k answer end → (end ≡ NoMemory → ⊥) → CallEnds P h m args budget (record { end = end; printed = y.printed })
  call_ends room end t n =
      let f = ends_by answer end goes.ends t n in
      record {
        steps = counted answer y.steps;
        fate = f.0;
        state = state_in k y;
        outcome = begun (state_in h x) starts.begins room (settled f.0 f.1);
        ends = f.2;
        printed = refl;
      }

  run : LimitedRun P None (state_in h x) [] y.steps (state_in k y)
  run = subst₂ (λ P service. LimitedRun P service (state_in h x) [] y.steps (state_in k y)) y_program y_service (going (state_in h x) [] (budget + 1) x y h k answer from goes)

  pub call_stops : is_too_deep P x.control ≡ false → CallStops P h m args budget y.printed
  call_stops room = (y.steps, some_begun (state_in h x) starts.begins room (so_far run (subst (λ b. y.steps ≤ b) y_budget goes.in_budget)))

-- ---- calls that don't start

pub entry : (P : ProgramTables) (m : ℕ) (Q : MethodInfo → Type 0) → IsSomeAnd (method_at P m) Q → (i : MethodInfo) × (method_at P m ≡ Some i)
entry P m Q s = go (method_at P m) refl s
  where
    go : (o : Option MethodInfo) → method_at P m ≡ o → IsSomeAnd o Q → (i : MethodInfo) × (method_at P m ≡ Some i)
    go None e s = absurd s
    go (Some i) e s = (i, e)

module _ (P : ProgramTables) (h : Heap) (m : ℕ) (args : List Value) (budget : ℕ) (i : MethodInfo) (is_i : method_at P m ≡ Some i) where
  begins : Begins P h m args (start_of i m h args)
  begins = subst (λ o. IsSomeAnd o (λ j. start_of i m h args ≡ start_of j m h args)) (sym is_i) refl

  pub deep_ends : ((s : State) → Begins P h m args s → is_too_deep P s.control ≡ true) → CallEnds P h m args budget (record { end = Limit Depth; printed = [] })
  deep_ends deep = record {
    steps = 0;
    fate = TooDeep;
    state = start_of i m h args;
    outcome = too_deep begins (deep (start_of i m h args) begins);
    ends = refl;
    printed = refl;
  }

  stops_by : (b : Bool) → is_too_deep P (start_of i m h args).control ≡ b → CallPrintedAfter P h m args budget 0 []
  stops_by true e = none_begun (start_of i m h args) begins e
  stops_by false e = some_begun (start_of i m h args) begins e (so_far there (omega arith))

  pub stops_at_once : CallStops P h m args budget []
  stops_at_once = (0, stops_by (is_too_deep P (start_of i m h args).control) refl)
