-- What comes of turns and answers.
use Rattle.std.proofs.Common.{◌≡◌, ℕ, zero, suc, ◌+◌, ◌≤◌, List, [], ◌∷◌, ◌++◌, refl, sym, ap, ap₂, subst, subst₂, ◌∙◌, arith, add-one}
use Rattle.std.specs.Prelude.{Option, Some, None}
use Rattle.std.proofs.lemmas.List.{append-nil}
use Rattle.nr_model.specs.Asks.{Answer, Asks, Entry}
use Rattle.nr_model.specs.AskOutcomes.{AskFate, AskOutcome, Settled, Unanswered, Stops, at_end, at_budget, at_limit, at_call}
use Rattle.nr_model.specs.Heaps.{Heap}
use Rattle.nr_model.specs.LimitedRuns.{LimitedRun, there, remote_step}
use Rattle.nr_model.specs.Outcomes.{Fate, passed}
use Rattle.nr_model.specs.States.{State, IsEnd, Control}
use Rattle.nr_model.specs.States as states
use Rattle.nr_model.specs.TypedAnswers.{entry_of}
use Rattle.nr_model.proofs.Following.{limited_join}
use Rattle.nr_machine.specs.declared.answer.Turn.{Turn}
use Rattle.nr_machine.specs.declared.answer.Turn.TheVariants.{Ran, Returned, Thrown, RemoteAsk, BudgetSpent, TooDeep, HeapFull, OutputTooLong, NoMemory}
use Rattle.nr_machine.specs.Executions.{Execution, state_in}
use Rattle.nr_machine.specs.Resumed.{Resumed}
use Rattle.nr_machine.specs.Turned.{ComesFrom, EndsTurn, Goes, StopsAt, counted, fate_of}

some_eq : {X : Type 0} {a b : X} → Some a ≡ Some b → a ≡ b
some_eq e = cc

none_some : {X : Type 0} {a : X} → ◌≡◌ {A = Option X} None (Some a) → ⊥
none_some e = cc

module _ (s : State) (calls : List Entry) (n : ℕ) (x y : Execution) (h k : Heap) (answer : Turn) (from : ComesFrom s calls h x) (goes : Goes n x h answer y k) where
  joined : LimitedRun x.program x.service s calls (x.steps + goes.made) (state_in k y)
  joined = subst (λ cs. LimitedRun x.program x.service s cs (x.steps + goes.made) (state_in k y)) (append-nil calls)
      (limited_join x.program x.service x.steps goes.made s (state_in h x) (state_in k y) calls [] from goes.run)

  pub going : ComesFrom s calls k y
  going =
      let p : y.program ≡ x.program = ap (λ (z : Execution). z.program) goes.rest in
      let v : y.service ≡ x.service = ap (λ (z : Execution). z.service) goes.rest in
      let i : y.steps ≡ x.steps + goes.made = ap (λ (z : Execution). z.steps) goes.rest in
      subst (λ j. LimitedRun y.program y.service s calls j (state_in k y)) (sym i)
      (subst₂ (λ P service. LimitedRun P service s calls (x.steps + goes.made) (state_in k y)) (sym p) (sym v) joined)

-- why the run stops where the machine stands
module _ (n made : ℕ) (y : Execution) (k : Heap) (in_budget : y.steps ≤ y.budget) where
  at_stop : (fate : Fate) → StopsAt fate n made k y → Stops y.program y.service y.budget y.steps (state_in k y) (suc y.steps) (Settled fate)
  at_stop fate e = at_limit e.next e.in_budget e.own e.step e.so

  pub stops : (answer : Turn) (fate : AskFate) → EndsTurn n made k y answer → fate_of answer ≡ Some fate
      → Stops y.program y.service y.budget y.steps (state_in k y) (counted answer y.steps) fate
  stops Ran fate e f = absurd (none_some f)
  stops (Returned v) fate e f = subst (Stops y.program y.service y.budget y.steps (state_in k y) y.steps) (some_eq f) (at_end (subst IsEnd (sym e) tt) in_budget)
  stops (Thrown a) fate e f = subst (Stops y.program y.service y.budget y.steps (state_in k y) y.steps) (some_eq f) (at_end (subst IsEnd (sym e) tt) in_budget)
  stops (RemoteAsk m) fate e f = subst (Stops y.program y.service y.budget y.steps (state_in k y) y.steps) (some_eq f) (at_call e.1 e.2.0)
  stops BudgetSpent fate e f = subst (Stops y.program y.service y.budget y.steps (state_in k y) y.steps) (some_eq f) (at_budget e.1 e.0)
  stops TooDeep fate e f = subst (Stops y.program y.service y.budget y.steps (state_in k y) (suc y.steps)) (some_eq f) (at_stop _ e)
  stops HeapFull fate e f = subst (Stops y.program y.service y.budget y.steps (state_in k y) (suc y.steps)) (some_eq f) (at_stop _ e)
  stops OutputTooLong fate e f = subst (Stops y.program y.service y.budget y.steps (state_in k y) (suc y.steps)) (some_eq f) (at_stop _ e)
  stops NoMemory fate e f = absurd (none_some f)

pub outcome : (s : State) (calls : List Entry) (n : ℕ) (x y : Execution) (h k : Heap) (answer : Turn) (fate : AskFate) → ComesFrom s calls h x → Goes n x h answer y k → fate_of answer ≡ Some fate
    → AskOutcome x.program x.service s calls x.budget (counted answer y.steps) fate (state_in k y)
outcome s calls n x y h k answer fate from goes f =
    let p : y.program ≡ x.program = ap (λ (z : Execution). z.program) goes.rest in
    let v : y.service ≡ x.service = ap (λ (z : Execution). z.service) goes.rest in
    let b : y.budget ≡ x.budget = ap (λ (z : Execution). z.budget) goes.rest in
    subst (λ b. AskOutcome x.program x.service s calls b (counted answer y.steps) fate (state_in k y)) b
    (subst₂ (λ P service. AskOutcome P service s calls y.budget (counted answer y.steps) fate (state_in k y)) p v
    (record { made = y.steps; run = going s calls n x y h k answer from goes; stops = stops n goes.made y k goes.in_budget answer fate goes.ends f }))

pub answered : (s : State) (calls : List Entry) (x y : Execution) (h k : Heap) (answer : Answer) (a : Asks x.program x.service (state_in h x)) → ComesFrom s calls h x → Resumed h x answer y k
    → ComesFrom s (calls ++ entry_of a answer ∷ []) k y
answered s calls x y h k answer a from r =
    let p : y.program ≡ x.program = ap (λ (z : Execution). z.program) r.rest in
    let v : y.service ≡ x.service = ap (λ (z : Execution). z.service) r.rest in
    let i : y.steps ≡ x.steps + 1 = ap (λ (z : Execution). z.steps) r.rest in
    let j : LimitedRun x.program x.service s (calls ++ entry_of a answer ∷ []) (x.steps + 1) (state_in k y)
    = limited_join x.program x.service x.steps 1 s (state_in h x) (state_in k y) calls (entry_of a answer ∷ []) from (remote_step (state_in k y) (r.answered a) r.limits there) in
    subst (λ j. LimitedRun y.program y.service s (calls ++ entry_of a answer ∷ []) j (state_in k y)) (sym i)
    (subst₂ (λ P service. LimitedRun P service s (calls ++ entry_of a answer ∷ []) (x.steps + 1) (state_in k y)) (sym p) (sym v) j)
