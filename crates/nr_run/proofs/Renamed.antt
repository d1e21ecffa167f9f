-- A call whose heap has the array of the ints alone ends and prints alike, whatever the array's name is.
use Rattle.std.proofs.Common.{◌≡◌, ℕ, zero, suc, ◌+◌, ◌≤◌, List, [], ◌∷◌, map, refl, sym, ap, subst, ◌∙◌, arith}
use Rattle.std.specs.Prelude.{Option, Some, None, IsSomeAnd, ℤ}
use Rattle.std.specs.FinMap.{get}
use Rattle.nr_linked.specs.declared.program.tables.MethodInfo.{MethodInfo}
use Rattle.nr_linked.specs.declared.program.tables.ProgramTables.{ProgramTables}
use Rattle.nr_linked.specs.Kinds.{class_kind}
use Rattle.nr_linked.specs.Programs.{method_at}
use Rattle.nr_model.specs.declared.value.Value.{Value}
use Rattle.nr_model.specs.declared.value.Value.TheVariants.{Int, Ref}
use Rattle.nr_model.specs.Alike.{like_int, like_long, like_null, like_ref, AlikeControl, AlikeResult, Any, both_return, both_run, both_throw, no_result, one_result}
use Rattle.nr_model.specs.AskOutcomes.{AskFate, Settled, Stops, at_answer, at_budget, at_call, at_end, at_limit}
use Rattle.nr_model.specs.Heaps.{Obj, cells}
use Rattle.nr_model.specs.Locals.{Begins, start_of}
use Rattle.nr_model.specs.Outcomes.{CallOutcome, Ended, Fate, Outcome, begun, ended, is_too_deep, spent, too_deep}
use Rattle.nr_model.specs.Outcomes as outcomes
use Rattle.nr_model.specs.Pairs.{IsClosed, PairedStates, name_at}
use Rattle.nr_model.specs.Printed.{CallPrintedAfter, PrintedAfter, at_last, none_begun, so_far, some_begun}
use Rattle.nr_model.specs.States.{Control, IsEnd, State}
use Rattle.nr_model.specs.States as states
use Rattle.nr_model.proofs.AskOutcomes.{outcome_asks, outcome_from_there}
use Rattle.nr_model.proofs.Lone.{lone_starts}
use Rattle.nr_model.proofs.Outcomes.{begins_heap, begins_one, deep_alike, pairs_call, pairs_call_too, pairs_outcome, pairs_outcome_too}
use Rattle.nr_model.proofs.PairedEnds.{one_class}
use Rattle.nr_run.specs.declared.ran.Ran.{Ran}
use Rattle.nr_run.specs.declared.ran.RunEnd.{RunEnd}
use Rattle.nr_run.specs.declared.ran.RunEnd.TheVariants.{Returned, Thrown, Budget, Limit, NoMemory}
use Rattle.nr_run.specs.Runs.{CallEnds, CallStops, EndsAs, IsThrown, int_array}
use Rattle.nr_run.proofs.Starts.{lone}

pub plain_ints : (ints : List ℤ) (i : ℕ) → name_at (map Int ints) i ≡ None
plain_ints [] i = refl
plain_ints (n ∷ ns) zero = refl
plain_ints (n ∷ ns) (suc i) = plain_ints ns i

-- ---- paired ends are alike

returned_inner : {u v : Option Value} → states.Returned u ≡ states.Returned v → u ≡ v
returned_inner e = cc

int_over : (R : ℕ → ℕ → Type 0) (u v : Option Value) (n : ℤ) → AlikeResult R u v → u ≡ Some (Int n) → v ≡ Some (Int n)
int_over R u v n no_result e = e
int_over R u v n (one_result like_int) e = e
int_over R u v n (one_result like_long) e = e
int_over R u v n (one_result like_null) e = e
int_over R u v n (one_result (like_ref {x = x} r)) e = absurd (bad e)
  where
    bad : Some (Ref x) ≡ Some (Int n) → ⊥
    bad e = cc

pub returned_over : (R : ℕ → ℕ → Type 0) (c d : Control) (n : ℤ) → AlikeControl R c d → c ≡ states.Returned (Some (Int n)) → d ≡ states.Returned (Some (Int n))
returned_over R c d n (both_run {fs = fs} a) e = absurd (bad e)
  where
    bad : states.Running fs ≡ states.Returned (Some (Int n)) → ⊥
    bad e = cc
returned_over R c d n (both_return {u = u} {v = v} a) e = ap states.Returned (int_over R u v n a (returned_inner e))
returned_over R c d n (both_throw {u = u} a) e = absurd (bad e)
  where
    bad : states.Thrown u ≡ states.Returned (Some (Int n)) → ⊥
    bad e = cc

thrown_over : (ps : List (ℕ × ℕ)) (s t : State) (c : ℕ) → PairedStates ps s t → IsThrown s c → IsThrown t c
thrown_over ps s t c p x = go (get s.heap x.object) refl x.of_class
  where
    go : (o : Option Obj) → get s.heap x.object ≡ o → IsSomeAnd o (λ o. o.kind ≡ class_kind c) → IsThrown t c
    go None e k = absurd k
    go (Some o) e k =
        let q = one_class ps s t x.object o p x.thrown e in
        record { object = q.0; thrown = q.2; of_class = subst (λ o. IsSomeAnd o (λ o. o.kind ≡ class_kind c)) (sym q.3) (q.4 ∙ k) }

pub ends_over : (ps : List (ℕ × ℕ)) (s t : State) → PairedStates ps s t → (fate : Fate) (end : RunEnd) → EndsAs fate s end → EndsAs fate t end
ends_over ps s t p fate (Returned n) e = (e.0, returned_over Any s.control t.control n p.shape e.1)
ends_over ps s t p fate (Thrown c) e = (e.0, thrown_over ps s t c p e.1)
ends_over ps s t p fate Budget e = e
ends_over ps s t p fate (Limit limit) e = e
ends_over ps s t p fate NoMemory e = e

-- ---- steps of the budget

within : (P : ProgramTables) (b made n : ℕ) (f : AskFate) (t : State) → Stops P None b made t n f → made ≤ b
within P b made n f t (at_end e l) = l
within P b made n f t (at_budget e l) = omega (arith, l)
within P b made n f t (at_limit u l c d p) = omega (arith, l)
within P b made n f t (at_answer u e l a p) = omega (arith, l)
within P b made n f t (at_call l a) = omega (arith, l)

end_or_spent : (P : ProgramTables) (t : State) → (f : Fate) × Outcome P t 0 0 f t
end_or_spent P t = by_control t.control refl
  where
    by_control : (c : Control) → t.control ≡ c → (f : Fate) × Outcome P t 0 0 f t
    by_control (states.Running fs) e = (outcomes.BudgetSpent, spent (λ i. subst IsEnd e i))
    by_control (states.Returned v) e = (Ended, ended (subst IsEnd (sym e) tt))
    by_control (states.Thrown v) e = (Ended, ended (subst IsEnd (sym e) tt))

module _ (P : ProgramTables) (ps : List (ℕ × ℕ)) (s t : State) (paired : PairedStates ps s t) (size : cells s.heap ≡ cells t.heap) where
  printed_over : (budget k : ℕ) (bytes : List ℕ) → PrintedAfter P s budget k bytes → (l : ℕ) × PrintedAfter P t budget l bytes
  printed_over budget k bytes (so_far {t = u} run le) =
      let last = end_or_spent P u in
      let here : Outcome P s (k + 0) (k + 0) last.0 u = outcome_from_there P None s u u k 0 0 last.0 run last.1 in
      let over = pairs_outcome_too P ps s t u (k + 0) (k + 0) last.0 paired size here in
      let both = pairs_outcome P ps s t u (k + 0) (k + 0) last.0 paired size here over.0 (k + 0) last.0 over.1 in
      let asks = outcome_asks P t over.0 (k + 0) (k + 0) last.0 over.1 in
      let few : asks.made ≤ k + 0 = within P (k + 0) asks.made (k + 0) (Settled last.0) over.0 asks.stops in
      (asks.made, subst (PrintedAfter P t budget asks.made) (sym both.2.printed) (so_far asks.run (omega (arith, few, le))))
  printed_over budget k bytes (at_last {t = u} {n = n} {fate = f} o le) =
      let over = pairs_outcome_too P ps s t u budget n f paired size o in
      let both = pairs_outcome P ps s t u budget n f paired size o over.0 n f over.1 in
      (k, subst (PrintedAfter P t budget k) (sym both.2.printed) (at_last over.1 le))

-- ---- calls

module _ (P : ProgramTables) (m a b budget : ℕ) (ints : List ℤ) where
  pub record Both : Type 0 where
    pub left : State
    pub right : State
    pub left_begins : Begins P (lone a ints) m (Ref a ∷ []) left
    pub right_begins : Begins P (lone b ints) m (Ref b ∷ []) right
    pub paired : PairedStates ((a, b) ∷ []) left right
    pub size : cells left.heap ≡ cells right.heap
    pub closed : IsClosed right.heap

  both_start : (s : State) → Begins P (lone a ints) m (Ref a ∷ []) s → Both
  both_start s bs = go (method_at P m) refl bs
    where
      go : (o : Option MethodInfo) → method_at P m ≡ o → IsSomeAnd o (λ i. s ≡ start_of i m (lone a ints) (Ref a ∷ [])) → Both
      go None e i = absurd i
      go (Some i) e is =
          let bt : Begins P (lone b ints) m (Ref b ∷ []) (start_of i m (lone b ints) (Ref b ∷ []))
          = subst (λ o. IsSomeAnd o (λ j. start_of i m (lone b ints) (Ref b ∷ []) ≡ start_of j m (lone b ints) (Ref b ∷ []))) (sym e) refl in
          let p = lone_starts (int_array ints) (plain_ints ints) P m a b s (start_of i m (lone b ints) (Ref b ∷ [])) bs bt in
          record { left = s; right = start_of i m (lone b ints) (Ref b ∷ []); left_begins = bs; right_begins = bt; paired = p.0; size = p.1; closed = p.2 }

  same_depth : (z : Both) → is_too_deep P z.left.control ≡ is_too_deep P z.right.control
  same_depth z = deep_alike P Any z.left.control z.right.control z.paired.shape

  pub start_in : (n : ℕ) (f : Fate) (s' : State) → CallOutcome P (lone a ints) m (Ref a ∷ []) budget n f s' → Both
  start_in n f s' (too_deep {s = s} bs e) = both_start s bs
  start_in n f s' (begun s bs e o) = both_start s bs

  pub call_ends_over : (r : Ran) → CallEnds P (lone a ints) m (Ref a ∷ []) budget r → CallEnds P (lone b ints) m (Ref b ∷ []) budget r
  call_ends_over r c =
      let z = start_in c.steps c.fate c.state c.outcome in
      let size : cells (lone a ints) ≡ cells (lone b ints)
      = sym (ap cells (begins_heap P (lone a ints) m (Ref a ∷ []) z.left z.left_begins)) ∙ z.size ∙ ap cells (begins_heap P (lone b ints) m (Ref b ∷ []) z.right z.right_begins) in
      let over = pairs_call_too P ((a, b) ∷ []) (lone a ints) (lone b ints) m (Ref a ∷ []) (Ref b ∷ []) z.left z.right z.left_begins z.right_begins z.paired size c.state budget c.steps c.fate c.outcome in
      let both = pairs_call P ((a, b) ∷ []) (lone a ints) (lone b ints) m (Ref a ∷ []) (Ref b ∷ []) z.left z.right z.left_begins z.right_begins z.paired size c.state over.0 budget c.steps c.steps c.fate c.fate c.outcome over.1 in
      record {
        steps = c.steps;
        fate = c.fate;
        state = over.0;
        outcome = over.1;
        ends = ends_over ((a, b) ∷ []) c.state over.0 both.2 c.fate r.end c.ends;
        printed = c.printed ∙ both.2.printed;
      }

  pub call_stops_over : (printed : List ℕ) → CallStops P (lone a ints) m (Ref a ∷ []) budget printed → CallStops P (lone b ints) m (Ref b ∷ []) budget printed
  call_stops_over printed c = go c.0 printed c.1
    where
      go : (k : ℕ) (bytes : List ℕ) → CallPrintedAfter P (lone a ints) m (Ref a ∷ []) budget k bytes → CallStops P (lone b ints) m (Ref b ∷ []) budget bytes
      go k bytes (none_begun s bs e) = let z = both_start s bs in (k, none_begun z.right z.right_begins (sym (same_depth z) ∙ ap (λ (s : State). is_too_deep P s.control) (begins_one P (lone a ints) m (Ref a ∷ []) z.left s z.left_begins bs) ∙ e))
      go k bytes (some_begun s bs e p) =
          let z = both_start s bs in
          let same = begins_one P (lone a ints) m (Ref a ∷ []) z.left s z.left_begins bs in
          let q = printed_over P ((a, b) ∷ []) z.left z.right z.paired z.size budget k bytes (subst (λ s. PrintedAfter P s budget k bytes) (sym same) p) in
          (q.0, some_begun z.right z.right_begins (sym (same_depth z) ∙ ap (λ (s : State). is_too_deep P s.control) same ∙ e) q.1)
