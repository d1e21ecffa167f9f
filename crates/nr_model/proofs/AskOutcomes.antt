-- Runs and outcomes of machines that may ask: after a run within the limits, and without a service.
use Rattle.std.proofs.Common.{◌≡◌, ℕ, zero, suc, ◌+◌, ◌-◌, ◌≤◌, List, [], ◌∷◌, ◌++◌, refl, sym, ap, subst, subst₂, ◌∙◌, arith}
use Rattle.std.specs.Prelude.{Option, Some, None, false, true}
use Rattle.nr_linked.specs.declared.program.tables.ProgramTables.{ProgramTables}
use Rattle.nr_model.specs.States.{State, IsEnd}
use Rattle.nr_model.specs.Steps.{Run}
use Rattle.nr_model.specs.Outcomes.{Fate, Ended, BudgetSpent, passed, Outcome, ended, spent, limited, further}
use Rattle.nr_model.specs.Asks.{Asks, Entry, AskRun, arrived, own, asked}
use Rattle.nr_model.specs.LimitedRuns.{LimitedRun, there, own_step, remote_step}
use Rattle.nr_model.specs.AskOutcomes.{AskFate, Settled, Refused, Unanswered, Stops, at_end, at_budget, at_limit, at_answer, at_call, AskOutcome}
use Rattle.nr_model.proofs.Outcomes.{passes_no_end}
use Rattle.nr_model.proofs.Following.{limited_join}
use Rattle.nr_model.proofs.Limits.{limited_keeps}

module _ (P : ProgramTables) where
  pub no_service : (s : State) → Asks P None s → ⊥
  no_service s a = bad a.remote
    where
      bad : false ≡ true → ⊥
      bad e = cc

  -- ---- runs without a service

  pub asks_run : (s t : State) (calls : List Entry) (k : ℕ) → AskRun P None s calls k t → (calls ≡ []) × Run P s k t
  asks_run s t calls k arrived = (refl, refl)
  asks_run s t calls k (own m n d r) = let i = asks_run m t _ _ r in (i.0, (m, d, i.1))
  asks_run s t calls k (asked m a r) = absurd (no_service s a.asks)

  pub run_asks : (k : ℕ) (s t : State) → Run P s k t → AskRun P None s [] k t
  run_asks zero s t r = subst (λ t. AskRun P None s [] zero t) (sym r) arrived
  run_asks (suc k) s t r = own r.0 (no_service s) r.1 (run_asks k r.0 t r.2)

  -- ---- an outcome from where a run of own steps leads

  limited_outcome : (service : Option ℕ) (s m t : State) (calls : List Entry) (k b n : ℕ) (f : Fate) → calls ≡ [] → LimitedRun P service s calls k m → Outcome P m b n f t → Outcome P s (k + b) (k + n) f t
  limited_outcome service s m t calls k b n f e there o =
      let i : b ≡ 0 + b = omega arith in
      let j : n ≡ 0 + n = omega arith in
      subst₂ (λ b n. Outcome P s b n f t) i j o
  limited_outcome service s m t calls k b n f e (own_step {k = l} v d c g r) o =
      let i : suc (l + b) ≡ suc l + b = omega arith in
      let j : suc (l + n) ≡ suc l + n = omega arith in
      subst₂ (λ b n. Outcome P s b n f t) i j (further v c g (limited_outcome service v m t calls l b n f e r o))
  limited_outcome service s m t calls k b n f e (remote_step {e = d} {calls = ds} v a g r) o = absurd (bad e)
    where
      bad : d ∷ ds ≡ [] → ⊥
      bad e = cc

  pub outcome_from_there : (service : Option ℕ) (s m t : State) (k b n : ℕ) (f : Fate) → LimitedRun P service s [] k m → Outcome P m b n f t → Outcome P s (k + b) (k + n) f t
  outcome_from_there service s m t k b n f r o = limited_outcome service s m t [] k b n f refl r o

  -- ---- an outcome with remote calls from where a run leads

  stops_later : (service : Option ℕ) (j b k n : ℕ) (f : AskFate) (t : State) → Stops P service b k t n f → Stops P service (j + b) (j + k) t (j + n) f
  stops_later service j b k n f t (at_end e l) = at_end e (omega (arith, l))
  stops_later service j b k n f t (at_budget e l) = at_budget e (ap (λ b. j + b) l)
  stops_later service j b k n f t (at_limit u {fate = g} l c d p) =
      let i : suc (j + k) ≡ j + suc k = omega arith in
      subst (λ n. Stops P service (j + b) (j + k) t n (Settled g)) i (at_limit u (omega (arith, l)) c d p)
  stops_later service j b k n f t (at_answer u e {fate = g} l a p) =
      let i : suc (j + k) ≡ j + suc k = omega arith in
      subst (λ n. Stops P service (j + b) (j + k) t n (Refused e g)) i (at_answer u e (omega (arith, l)) a p)
  stops_later service j b k n f t (at_call l a) = at_call (omega (arith, l)) a

  pub ask_outcome_joins : (service : Option ℕ) (j b n : ℕ) (f : AskFate) (s m t : State) (calls more : List Entry) → LimitedRun P service s calls j m → AskOutcome P service m more b n f t
      → AskOutcome P service s (calls ++ more) (j + b) (j + n) f t
  ask_outcome_joins service j b n f s m t calls more r o = record {
    made = j + o.made;
    run = limited_join P service j o.made s m t calls more r o.run;
    stops = stops_later service j b o.made n f t o.stops;
  }

  pub ask_outcome_ends : (service : Option ℕ) (s t : State) (calls : List Entry) (b n : ℕ) → AskOutcome P service s calls b n (Settled Ended) t → LimitedRun P service s calls n t × IsEnd t.control × (n ≤ b)
  ask_outcome_ends service s t calls b n o = go n (Settled Ended) refl o.stops
    where
      go : (n : ℕ) (f : AskFate) → f ≡ Settled Ended → Stops P service b o.made t n f → LimitedRun P service s calls n t × IsEnd t.control × (n ≤ b)
      go n f e (at_end i l) = (o.run, i, l)
      go n f e (at_budget i l) = absurd (bad e)
        where
          bad : Settled BudgetSpent ≡ Settled Ended → ⊥
          bad e = cc
      go n f e (at_limit u {fate = g} l c d p) = absurd (passes_no_end P u (p ∙ ap (λ g. Some g) (inner e)))
        where
          inner : Settled g ≡ Settled Ended → g ≡ Ended
          inner e = cc
      go n f e (at_answer u d {fate = g} l a p) = absurd (bad e)
        where
          bad : Refused d g ≡ Settled Ended → ⊥
          bad e = cc
      go n f e (at_call l a) = absurd (bad e)
        where
          bad : Unanswered ≡ Settled Ended → ⊥
          bad e = cc

  pub ask_outcome_keeps : (service : Option ℕ) (s t : State) (calls : List Entry) (b n : ℕ) (f : AskFate) → AskOutcome P service s calls b n f t → passed P s ≡ None → passed P t ≡ None
  ask_outcome_keeps service s t calls b n f o e = limited_keeps P service s t calls o.made o.run e

  -- ---- an outcome without a service

  -- what is left of the budget and of the steps
  record Rest (b k n : ℕ) (f : AskFate) (t : State) : Type 0 where
    fate : Fate
    settled : f ≡ Settled fate
    budget : ℕ
    steps : ℕ
    budget_apart : k + budget ≡ b
    steps_apart : k + steps ≡ n
    outcome : Outcome P t budget steps fate t

  rest_of : (b k n : ℕ) (f : AskFate) (t : State) → Stops P None b k t n f → Rest b k n f t
  rest_of b k n f t (at_end e l) = record { fate = Ended; settled = refl; budget = b - k; steps = 0; budget_apart = omega (arith, l); steps_apart = omega arith; outcome = ended e }
  rest_of b k n f t (at_budget e l) = record { fate = BudgetSpent; settled = refl; budget = 0; steps = 0; budget_apart = omega (arith, l); steps_apart = omega arith; outcome = spent e }
  rest_of b k n f t (at_limit u {fate = g} l c d p) =
      record { fate = g; settled = refl; budget = suc (b - suc k); steps = 1; budget_apart = omega (arith, l); steps_apart = omega arith; outcome = limited u d p }
  rest_of b k n f t (at_answer u e l a p) = absurd (no_service t a.asks)
  rest_of b k n f t (at_call l a) = absurd (no_service t a)

  no_calls : (s t : State) (calls : List Entry) (k : ℕ) → LimitedRun P None s calls k t → calls ≡ []
  no_calls s t calls k there = refl
  no_calls s t calls k (own_step m n d e r) = no_calls m t _ _ r
  no_calls s t calls k (remote_step m a e r) = absurd (no_service s a.asks)

  pub ask_outcome_alone : (s t : State) (calls : List Entry) (b n : ℕ) (f : AskFate) → AskOutcome P None s calls b n f t → (calls ≡ []) × ((g : Fate) × (f ≡ Settled g) × Outcome P s b n g t)
  ask_outcome_alone s t calls b n f o =
      let e = no_calls s t calls o.made o.run in
      let r = rest_of b o.made n f t o.stops in
      (e, (r.fate, r.settled, subst₂ (λ b n. Outcome P s b n r.fate t) r.budget_apart r.steps_apart (limited_outcome None s t t calls o.made r.budget r.steps r.fate e o.run r.outcome)))

  after_one : (b k n : ℕ) (f : AskFate) (t : State) → Stops P None b k t n f → Stops P None (suc b) (suc k) t (suc n) f
  after_one b k n f t s =
      let i : 1 + b ≡ suc b = omega arith in
      let j : 1 + k ≡ suc k = omega arith in
      let l : 1 + n ≡ suc n = omega arith in
      subst (λ n. Stops P None (suc b) (suc k) t n f) l (subst₂ (λ b k. Stops P None b k t (1 + n) f) i j (stops_later None 1 b k n f t s))

  pub outcome_asks : (s t : State) (b n : ℕ) (f : Fate) → Outcome P s b n f t → AskOutcome P None s [] b n (Settled f) t
  outcome_asks s t b n f (ended e) = record { made = 0; run = there; stops = at_end e (omega arith) }
  outcome_asks s t b n f (spent e) = record { made = 0; run = there; stops = at_budget e refl }
  outcome_asks s t b n f (limited m d e) = record { made = 0; run = there; stops = at_limit m (omega arith) (no_service s) d e }
  outcome_asks s t b n f (further m {budget = c} {n = i} d e o) =
      let r = outcome_asks m t c i f o in
      record { made = suc r.made; run = own_step m (no_service s) d e r.run; stops = after_one c r.made i (Settled f) t r.stops }

  pub alone_asks_outcome : (s t : State) (calls : List Entry) (b n : ℕ) (f : AskFate) → (calls ≡ []) × ((g : Fate) × (f ≡ Settled g) × Outcome P s b n g t) → AskOutcome P None s calls b n f t
  alone_asks_outcome s t calls b n f o = subst₂ (λ es f. AskOutcome P None s es b n f t) (sym o.0) (sym o.1.1) (outcome_asks s t b n o.1.0 o.1.2)
