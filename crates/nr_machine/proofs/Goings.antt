-- A turn, from the steps that it makes.
use Rattle.std.proofs.Common.{◌≡◌, ℕ, ◌+◌, ◌-◌, ◌<◌, ◌≤◌, List, [], ◌∷◌, length, min, refl, sym, ap, subst, ◌∙◌, arith}
use Rattle.std.specs.Prelude.{Option, Some, None, MatchOption}
use Rattle.nr_linked.specs.declared.program.kind.Kind.{Kind}
use Rattle.nr_linked.specs.declared.program.tables.ProgramTables.{ProgramTables}
use Rattle.nr_linked.specs.TypingFacts.{TypingFacts}
use Rattle.nr_model.specs.declared.value.Value.{Value}
use Rattle.nr_model.specs.Heaps.{Heap}
use Rattle.nr_model.specs.LimitedRuns.{LimitedRun}
use Rattle.nr_model.specs.Outcomes as outcomes
use Rattle.nr_model.specs.Outcomes.{passed}
use Rattle.nr_model.specs.States.{State}
use Rattle.nr_linked.specs.WellTyped.{WellTyped}
use Rattle.nr_typed.specs.Standing.{StandsIn}
use Rattle.nr_machine.specs.declared.answer.Turn.{Turn}
use Rattle.nr_machine.specs.declared.answer.Turn.TheVariants.{Ran, Returned, Thrown, RemoteAsk, BudgetSpent, TooDeep, HeapFull, OutputTooLong, NoMemory}
use Rattle.nr_machine.specs.declared.stack.Frame.{Frame as CodeFrame}
use Rattle.nr_machine.specs.CallStacks.{frames_of}
use Rattle.nr_machine.specs.Executions.{Execution, Stands, state_in}
use Rattle.nr_machine.specs.Machines.{control_of}
use Rattle.nr_machine.specs.Settles.{Advanced, CouldStep, EndsSo, seen}
use Rattle.nr_machine.specs.Stays.{running}
use Rattle.nr_machine.specs.Turned.{EndsTurn, Goes, StopsBefore, TakesMemory, Turned, last_of}
use Rattle.nr_machine.proofs.Advances.{run_stands}
use Rattle.nr_machine.proofs.Resuming.{before_it}

module _ (P : ProgramTables) (service : Option ℕ) (budget steps : ℕ) (fs : List CodeFrame) (vs : List Value) (old : List ℕ) (n : ℕ) (h k : Heap) (made : ℕ) (gs : List CodeFrame) (us : List Value) (new : List ℕ)
    (before : steps ≤ budget) where
  abbrev limit : ℕ
  limit = min n (budget - steps)

  abbrev pub after_last : Option Turn → Execution
  after_last l = record { program = P; service = service; budget = budget; steps = steps + made; control = control_of P gs us l; printed = new; last = l }

  abbrev pub after_turn : Turn → Execution
  after_turn answer = after_last (last_of answer)

  same_control : (answer : Turn) → control_of P gs us (Some answer) ≡ control_of P gs us (last_of answer)
  same_control Ran = refl
  same_control (RemoteAsk m) = refl
  same_control answer = refl

  stops : (Q : State → Type 0) (t : State) → made < limit → CouldStep P service t Q → (answer : Turn) → t ≡ state_in k (after_turn answer) → StopsBefore n made k (after_turn answer) Q
  stops Q t l c answer e =
      let d : CouldStep P service (state_in k (after_turn answer)) Q = subst (λ t. CouldStep P service t Q) e c in
      record { in_turn = omega (arith, l); in_budget = omega (arith, l, before); own = d.own; next = d.next; step = d.step; so = d.so }

  ends_turn : (answer : Turn) → EndsSo P service limit made (seen P k gs us (Some answer) new) answer → EndsTurn n made k (after_turn answer) answer
  ends_turn Ran q = absurd q.1
  ends_turn BudgetSpent q = absurd q.1
  ends_turn (Returned v) q = refl
  ends_turn (Thrown a) q = refl
  ends_turn (RemoteAsk m) q = (omega (arith, q.0), omega (arith, q.0, before), q.1)
  ends_turn TooDeep q = stops (λ t. passed P t ≡ Some outcomes.TooDeep) _ q.0 q.1 TooDeep refl
  ends_turn HeapFull q = stops (λ t. passed P t ≡ Some outcomes.HeapFull) _ q.0 q.1 HeapFull refl
  ends_turn OutputTooLong q = stops (λ t. passed P t ≡ Some outcomes.OutputTooLong) _ q.0 q.1 OutputTooLong refl
  ends_turn NoMemory q = stops (TakesMemory (state_in k (after_turn NoMemory))) _ q.0 q.1 NoMemory refl

  module _ (last : Option Turn) (going : last ≡ None) where
    goes_so : (answer : Turn) → LimitedRun P service (running h (frames_of P fs vs) old) [] made (state_in k (after_turn answer)) → made ≤ limit → EndsTurn n made k (after_turn answer) answer
        → Goes n (before_it P service budget steps fs vs old last) h answer (after_turn answer) k
    goes_so answer run few ends = record {
      made = made;
      run = subst (λ l. LimitedRun P service (record { heap = h; control = control_of P fs vs l; printed = old }) [] made (state_in k (after_turn answer))) (sym going) run;
      in_turn = omega (arith, few);
      in_budget = omega (arith, few, before);
      ends = ends;
      rest = refl;
    }

    -- it ended or stopped
    pub goes_answered : (answer : Turn) → Advanced P service limit (running h (frames_of P fs vs) old) made (Some answer) (seen P k gs us (Some answer) new)
        → Goes n (before_it P service budget steps fs vs old last) h answer (after_turn answer) k
    goes_answered answer a =
        goes_so answer (subst (λ c. LimitedRun P service (running h (frames_of P fs vs) old) [] made (record { heap = k; control = c; printed = new })) (same_control answer) a.run) a.few (ends_turn answer a.ends)

    -- all steps were made
    pub goes_spent : made ≡ limit → steps + made ≡ budget → Advanced P service limit (running h (frames_of P fs vs) old) made None (seen P k gs us None new)
        → Goes n (before_it P service budget steps fs vs old last) h BudgetSpent (after_turn BudgetSpent) k
    goes_spent all spent a = goes_so BudgetSpent a.run a.few (spent, λ e. e)

    pub goes_ran : made ≡ limit → (steps + made ≡ budget → ⊥) → Advanced P service limit (running h (frames_of P fs vs) old) made None (seen P k gs us None new)
        → Goes n (before_it P service budget steps fs vs old last) h Ran (after_turn Ran) k
    goes_ran all spent a = goes_so Ran a.run a.few (omega (arith, all, spent, before), omega (arith, a.few, spent, before), λ e. e)

-- the turn of a machine seen as x
pub turned_so : (n : ℕ) (x x' y : Execution) (h k : Heap) (answer : Turn) → x ≡ x' → x.last ≡ None → Goes n x h answer y k → Turned n x' h answer y k
turned_so n x x' y h k answer e going goes =
    subst (λ (z : Execution). Turned n z h answer y k) e
    (subst (λ l. MatchOption l (Goes n x h answer y k) (λ last. (answer ≡ last) × (y ≡ x) × (k ≡ h))) (sym going) goes)

-- own steps keep standing
pub goes_stands : (n : ℕ) (x y : Execution) (h k : Heap) (answer : Turn) → TypingFacts x.program → Goes n x h answer y k → (kind : Option Kind) → Stands kind h x → Stands kind k y
goes_stands n x y h k answer facts goes kind st =
    let p : y.program ≡ x.program = ap (λ (z : Execution). z.program) goes.rest in
    let t = run_stands x.program facts st.0 kind x.service goes.made (state_in h x) (state_in k y) goes.run st.1 in
    subst (λ P. (typed : WellTyped P) × StandsIn P typed.frames kind (state_in k y)) (sym p) (st.0, t)
