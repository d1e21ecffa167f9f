-- What a run comes to in a heap it comes to in a smaller one that is paired with it, unless the heap was full.
use Rattle.std.proofs.Common.{◌≡◌, ◌≢◌, ℕ, ◌≤◌, List, length, refl, sym, ap, ap₂, subst, ◌∙◌, arith, inl, Bool, true, false}
use Rattle.std.specs.Prelude.{Option, Some, None, nat_lt, if◌then◌else◌}
use Rattle.std.proofs.lemmas.Bool.{le-ltb, ltb-false}
use Rattle.nr_linked.specs.declared.program.tables.ProgramTables.{ProgramTables}
use Rattle.nr_model.specs.declared.value.Value.{Value}
use Rattle.nr_model.specs.Heaps.{Heap, cells}
use Rattle.nr_model.specs.States.{State}
use Rattle.nr_model.specs.Pairs.{StartOf, PairedStates}
use Rattle.nr_model.specs.Locals.{Begins}
use Rattle.nr_model.specs.Outcomes.{max_cells, max_printed, is_too_deep, Fate, HeapFull, TooDeep, OutputTooLong, passed, Outcome, ended, spent, limited, further, CallOutcome, too_deep, begun}
use Rattle.nr_model.proofs.Matchings.{AlikeState}
use Rattle.nr_model.proofs.Paths.{some_eq, none_some}
use Rattle.nr_model.proofs.Runs.{LaterState, steps_paired, step_too}
use Rattle.nr_model.proofs.Ends.{end_over, end_back}
use Rattle.nr_model.proofs.Kept.{PairsOf, states_match, states_pair, start_pair}
use Rattle.nr_model.proofs.Outcomes.{deep_alike, begins_one, begins_heap}

still_below : (m a b : ℕ) → b ≤ a → nat_lt m a ≡ false → nat_lt m b ≡ false
still_below m a b l f = le-ltb m b (omega (arith, ltb-false m a f))

-- the limits but that of the heap
pub rest : ProgramTables → State → Option Fate
rest P s = if is_too_deep P s.control then Some TooDeep else (if nat_lt max_printed (length s.printed) then Some OutputTooLong else None)

pub passes_too : (P : ProgramTables) (R : ℕ → ℕ → Type 0) (s t : State) (o : Option Fate) → AlikeState R s t → cells t.heap ≤ cells s.heap → passed P s ≡ o → o ≢ Some HeapFull → passed P t ≡ o
unfolding rest
passes_too P R s t o a c e n = go (nat_lt max_cells (cells s.heap)) refl
  where
    go : (b : Bool) → nat_lt max_cells (cells s.heap) ≡ b → passed P t ≡ o
    go true f = absurd (n (sym e ∙ ap (λ b. if b then Some HeapFull else rest P s) f))
    go false f =
        ap (λ b. if b then Some HeapFull else rest P t) (still_below max_cells (cells s.heap) (cells t.heap) c f)
        ∙ sym (ap₂ (λ b n. if b then Some TooDeep else (if nat_lt max_printed n then Some OutputTooLong else None)) (deep_alike P R s.control t.control a.control) (ap length a.printed))
        ∙ sym (ap (λ b. if b then Some HeapFull else rest P s) f) ∙ e

-- the outcome from t, which leaves a state like s', with no more cells
pub record AsWell (P : ProgramTables) (R : ℕ → ℕ → Type 0) (t s' : State) (b n : ℕ) (f : Fate) : Type 1 where
  pub state : State
  pub outcome : Outcome P t b n f state
  pub now : ℕ → ℕ → Type 0
  pub older : (x y : ℕ) → R x y → now x y
  pub alike : AlikeState now s' state
  pub size : cells state.heap ≤ cells s'.heap

module _ (P : ProgramTables) where
  smaller_after : (R : ℕ → ℕ → Type 0) (s t s' t' : State) → cells t.heap ≤ cells s.heap → LaterState R s t s' t' → cells t'.heap ≤ cells s'.heap
  smaller_after R s t s' t' c l = omega (arith, l.moved.grown)

  outcome_as_well : (R : ℕ → ℕ → Type 0) (s t s' : State) (b n : ℕ) (f : Fate) → AlikeState R s t → cells t.heap ≤ cells s.heap → f ≢ HeapFull → Outcome P s b n f s' → AsWell P R t s' b n f
  outcome_as_well R s t s' b n f a c d (ended e) = record { state = t; outcome = ended (end_over R _ _ a.control e); now = R; older = λ x y r. r; alike = a; size = c }
  outcome_as_well R s t s' b n f a c d (spent e) = record { state = t; outcome = spent (λ i. e (end_back R _ _ a.control i)); now = R; older = λ x y r. r; alike = a; size = c }
  outcome_as_well R s t s' b n f a c d (limited m p e) =
      let q = step_too P R s t m a p in
      let l : LaterState R s t m q.0 = steps_paired P R s t m q.0 a p q.1 in
      record {
        state = t;
        outcome = limited q.0 q.1 (passes_too P l.now m q.0 (Some f) l.alike (smaller_after R s t m q.0 c l) e (λ i. d (some_eq i)));
        now = R;
        older = λ x y r. r;
        alike = a;
        size = c;
      }
  outcome_as_well R s t s' b n f a c d (further m p e o) =
      let q = step_too P R s t m a p in
      let l : LaterState R s t m q.0 = steps_paired P R s t m q.0 a p q.1 in
      let w = outcome_as_well l.now m q.0 s' _ _ f l.alike (smaller_after R s t m q.0 c l) d o in
      record {
        state = w.state;
        outcome = further q.0 q.1 (passes_too P l.now m q.0 None l.alike (smaller_after R s t m q.0 c l) e none_some) w.outcome;
        now = w.now;
        older = λ x y r. w.older x y (l.moved.older x y r);
        alike = w.alike;
        size = w.size;
      }

  pub pairs_as_well : (ps : List (ℕ × ℕ)) (s t s' : State) (b n : ℕ) (f : Fate) → PairedStates ps s t → cells t.heap ≤ cells s.heap → f ≢ HeapFull → Outcome P s b n f s'
      → (t' : State) × Outcome P t b n f t' × PairedStates ps s' t' × (cells t'.heap ≤ cells s'.heap)
  pairs_as_well ps s t s' b n f a c d o =
      let w = outcome_as_well (PairsOf ps s t a) s t s' b n f (states_match ps s t a) c d o in
      (w.state, w.outcome, states_pair ps w.now s' w.state w.alike (λ x y i. w.older x y (start_pair (StartOf ps s t) s.heap t.heap x y (inl i))), w.size)

-- ---- of calls

module _ (P : ProgramTables) (ps : List (ℕ × ℕ)) (h k : Heap) (m : ℕ) (us vs : List Value) (s t : State) (bs : Begins P h m us s) (bt : Begins P k m vs t)
    (a : PairedStates ps s t) (c : cells k ≤ cells h) where
  smaller : cells t.heap ≤ cells s.heap
  smaller = subst (λ h. cells t.heap ≤ cells h) (sym (begins_heap P h m us s bs)) (subst (λ k. cells k ≤ cells h) (sym (begins_heap P k m vs t bt)) c)

  depth : (u : State) → Begins P h m us u → (b : Bool) → is_too_deep P u.control ≡ b → is_too_deep P t.control ≡ b
  depth u p b e = sym (deep_alike P (PairsOf ps s t a) s.control t.control (states_match ps s t a).control) ∙ ap (λ s. is_too_deep P s.control) (begins_one P h m us s u bs p) ∙ e

  pub pairs_call_as_well : (s' : State) (b n : ℕ) (f : Fate) → f ≢ HeapFull → CallOutcome P h m us b n f s'
      → (t' : State) × CallOutcome P k m vs b n f t' × PairedStates ps s' t' × (cells t'.heap ≤ cells s'.heap)
  pairs_call_as_well s' b n f d (too_deep p e) =
      let one : s ≡ s' = begins_one P h m us s s' bs p in
      (t, too_deep bt (depth s' p true e), subst (λ s. PairedStates ps s t) one a, subst (λ s. cells t.heap ≤ cells s.heap) one smaller)
  pairs_call_as_well s' b n f d (begun u p e o) =
      let w = pairs_as_well P ps s t s' b n f a smaller d (subst (λ s. Outcome P s b n f s') (begins_one P h m us u s p bs) o) in
      (w.0, begun t bt (depth u p false e) w.1, w.2, w.3)
