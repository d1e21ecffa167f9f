-- How the laws of a machine that follows another make a whole: it can stop nowhere but at the other's end. What fits is left
-- open here: any condition on a call that paired calls from smaller heaps keep.
use Rattle.std.proofs.Common.{◌≡◌, ◌≢◌, ℕ, suc, ◌+◌, ◌≤◌, List, [], ◌∷◌, ◌++◌, length, sym, ap, subst, ◌∙◌, arith}
use Rattle.std.specs.Prelude.{ℤ, Option, Some, None}
use Rattle.std.specs.FinMap.{get}
use Rattle.std.proofs.lemmas.List.{length-append}
use Rattle.nr_linked.specs.declared.program.tables.ProgramTables.{ProgramTables}
use Rattle.nr_model.specs.declared.value.Value.{Value}
use Rattle.nr_model.specs.declared.value.Value.TheVariants.{Int, Long, Null, Ref}
use Rattle.nr_model.specs.Heaps.{Heap, cells}
use Rattle.nr_model.specs.States.{Control, Running, Returned, Thrown, State, IsEnd}
use Rattle.nr_model.specs.Steps.{Step}
use Rattle.nr_model.specs.Outcomes.{Fate, passed}
use Rattle.nr_model.specs.Alike.{Any, like_int, like_long, like_null, like_ref, AlikeResult, no_result, one_result, AlikeControl, both_run, both_return, both_throw}
use Rattle.nr_model.specs.Pairs.{IsClosed, NamedIn, PairedStates}
use Rattle.nr_model.specs.LocalEntries.{AllClosed, AllLocal, AllRestored, IsRestored}
use Rattle.nr_model.specs.Asks.{Asks, asked_args, Entry, AskStep, AskRun}
use Rattle.nr_model.specs.PairedCalls.{PairedCalls}
use Rattle.nr_model.specs.LimitedRuns.{LimitedRun, Follows, NextCall}
use Rattle.nr_model.proofs.Paths.{none_some}
use Rattle.nr_model.proofs.Following.{follow, end_reached, more_steps, next_call, step_passes, answer_passes, limited_is_run, stays_closed}

module _ (P : ProgramTables) (service : Option ℕ) (Fits : Heap → ℕ → List Value → Type 0) (budget most : ℕ) where
  abbrev pub AllFit : List Entry → Type 0
  AllFit [] = Unit {0}
  AllFit (e ∷ es) = Fits e.before e.method e.args × AllFit es

  fit_among : (made : List Entry) (e : Entry) (later : List Entry) → AllFit (made ++ e ∷ later) → Fits e.before e.method e.args
  fit_among [] e later f = f.0
  fit_among (d ∷ ds) e later f = fit_among ds e later f.1

  closed_among : (made : List Entry) (e : Entry) (later : List Entry) → AllClosed (made ++ e ∷ later) → IsClosed e.before
  closed_among [] e later f = f.0.0
  closed_among (d ∷ ds) e later f = closed_among ds e later f.1

  all_local : (es : List Entry) → AllRestored P es → AllLocal P es
  all_local [] rs = tt
  all_local (e ∷ es) rs = (rs.0.local, all_local es rs.1)

  -- a run that fits
  pub record Fitting (s : State) : Type 0 where
    pub calls : List Entry
    pub steps : ℕ
    pub last : State
    pub run : LimitedRun P service s calls steps last
    pub in_budget : steps ≤ budget
    pub result : ℤ
    pub returned : last.control ≡ Returned (Some (Int result))
    pub restored : AllRestored P calls
    pub fit : AllFit calls
    pub few : length calls ≤ most

  -- why a machine stops at t, after j steps and these calls
  pub data Stop (t : State) (j : ℕ) (others : List Entry) : Type 0 where
    at_end : IsEnd t.control → Stop t j others
    spent : (IsEnd t.control → ⊥) → j ≡ budget → Stop t j others
    limited : (n : State) (f : Fate) → (Asks P service t → ⊥) → Step P t n → passed P n ≡ Some f → Stop t j others
    refused : (a : Asks P service t) → (Fits t.heap a.method (asked_args a) → ⊥) → Stop t j others
    too_many : Asks P service t → length others ≡ most → Stop t j others
    answer_limited : (e : Entry) (n : State) (f : Fate) → AskStep P service t e n → IsRestored P e → passed P n ≡ Some f → Stop t j others

  int_result : (r : ℤ) (u v : Option Value) → AlikeResult Any u v → u ≡ Some (Int r) → v ≡ Some (Int r)
  int_result r u v no_result e = absurd (none_some e)
  int_result r u v (one_result like_int) e = e
  int_result r u v (one_result (like_long {n = n})) e = absurd (bad e)
    where
      bad : Some (Long n) ≡ Some (Int r) → ⊥
      bad e = cc
  int_result r u v (one_result like_null) e = absurd (bad e)
    where
      bad : Some Null ≡ Some (Int r) → ⊥
      bad e = cc
  int_result r u v (one_result (like_ref {x = x} l)) e = absurd (bad e)
    where
      bad : Some (Ref x) ≡ Some (Int r) → ⊥
      bad e = cc

  int_end : (c d : Control) (r : ℤ) → AlikeControl Any c d → c ≡ Returned (Some (Int r)) → d ≡ Returned (Some (Int r))
  int_end c d r (both_run {fs = fs} bs) e = absurd (bad e)
    where
      bad : Running fs ≡ Returned (Some (Int r)) → ⊥
      bad e = cc
  int_end c d r (both_return {u = u} {v = v} l) e = ap Returned (int_result r u v l (inside e))
    where
      inside : Returned u ≡ Returned (Some (Int r)) → u ≡ Some (Int r)
      inside e = cc
  int_end c d r (both_throw {u = u} l) e = absurd (bad e)
    where
      bad : Thrown u ≡ Returned (Some (Int r)) → ⊥
      bad e = cc

  module _ (ps : List (ℕ × ℕ)) (carried : (ps : List (ℕ × ℕ)) (h k : Heap) (m : ℕ) (us vs : List Value) → PairedCalls ps h us k vs → IsClosed h → IsClosed k → cells k ≤ cells h → Fits h m us → Fits k m vs)
      (s t t' : State) (j : ℕ) (others : List Entry) (f : Fitting s)
      (p : PairedStates ps s t) (size : cells t.heap ≤ cells s.heap)
      (first_closed : IsClosed s.heap) (first_named : (x : ℕ) → NamedIn s.control x → get s.heap x ≢ None) (closed : IsClosed t.heap) (named : (x : ℕ) → NamedIn t.control x → get t.heap x ≢ None)
      (run : AskRun P service t others j t') (restored : AllRestored P others) where
    ends : IsEnd f.last.control
    ends = subst IsEnd (sym f.returned) tt

    w : Follows P service ps s f.last f.calls f.steps t t' others j
    w = follow P service ps j f.steps s t f.last t' f.calls others p size closed named f.run ends (all_local f.calls f.restored) run restored

    next : (a : Asks P service t') → NextCall P ps f.calls others t'.heap a.method (asked_args a)
    next a = next_call P service ps s f.last t t' f.calls others f.steps j w ends a

    fits_next : (a : Asks P service t') → Fits t'.heap a.method (asked_args a)
    fits_next a =
        let c = next a in
        let each = (stays_closed P service f.steps s f.last f.calls (limited_is_run P service s f.last f.calls f.steps f.run) f.restored first_closed first_named).0 in
        let before : IsClosed c.entry.before = closed_among c.made c.entry c.later (subst AllClosed c.calls_apart each) in
        carried ps c.entry.before t'.heap a.method c.entry.args (asked_args a) c.paired before w.closed c.size
        (subst (λ m. Fits c.entry.before m c.entry.args) c.one_method (fit_among c.made c.entry c.later (subst AllFit c.calls_apart f.fit)))

    room_next : (a : Asks P service t') → suc (length others) ≤ most
    room_next a =
        let c = next a in
        let many : length f.calls ≡ length c.made + length (c.entry ∷ c.later) = ap length c.calls_apart ∙ length-append c.made (c.entry ∷ c.later) in
        let made : length c.made ≡ length others = c.as_many in
        let few : length f.calls ≤ most = f.few in
        omega (arith, many, made, few)

    -- it stops at the end alone, with the result and the output of the run that fits
    pub completes : Stop t' j others → (t'.control ≡ Returned (Some (Int f.result))) × (t'.printed ≡ f.last.printed)
    completes (at_end e) =
        let r = end_reached P service ps s f.last t t' f.calls others f.steps j w e in
        (int_end f.last.control t'.control f.result r.2.shape f.returned, sym r.2.printed)
    completes (spent open_ e) =
        let more : suc j ≤ f.steps = more_steps P service ps s f.last t t' f.calls others f.steps j w ends open_ in
        let within : f.steps ≤ budget = f.in_budget in
        absurd (omega (arith, more, within, e))
    completes (limited n d no_ask g v) = absurd (none_some (sym (step_passes P service ps s f.last t t' f.calls others f.steps j w ends n no_ask g) ∙ v))
    completes (refused a x) = absurd (x (fits_next a))
    completes (too_many a e) = let room : suc (length others) ≤ most = room_next a in absurd (omega (arith, room, e))
    completes (answer_limited e n d b r v) = absurd (none_some (sym (answer_passes P service ps s f.last t t' f.calls others f.steps j w ends (all_local f.calls f.restored) n e b r) ∙ v))
