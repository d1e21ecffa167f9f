-- A run whose remote calls are each the same as local runs is matched with a run of one machine alone.
use Rattle.std.proofs.Common.{◌≡◌, ℕ, zero, suc, List, ◌∷◌, ◌++◌, length, refl, sym, ap, ap₂, subst, ◌∙◌, inl, inr}
use Rattle.std.specs.Prelude.{Option, Some, None, IsSomeAnd, take, drop, nat_le, if◌then◌else◌}
use Rattle.std.specs.Option.{option_map, option_and_then}
use Rattle.nr_model.specs.declared.value.Value.{Value}
use Rattle.nr_model.specs.Heaps.{on_some}
use Rattle.nr_model.specs.Scripts.{Call, Called}
use Rattle.nr_model.specs.States.{Frame, Control, Running, Returned, Thrown, State}
use Rattle.nr_model.specs.Alike.{Like, like_int, like_long, like_null, like_ref, AllLike, no_more, one_more, AlikeFrames, no_frame, one_frame, AlikeControl, both_run, both_return, both_throw}
use Rattle.nr_model.specs.Pairs.{IsPair, StartOf, PairedStates}
use Rattle.nr_model.proofs.Matchings.{Matched, AlikeState}
use Rattle.nr_linked.specs.declared.program.tables.ProgramTables.{ProgramTables}
use Rattle.nr_model.specs.CallRules.{operands_of}
use Rattle.nr_model.specs.Steps.{given, first_frame, entered, script_at, within, StepOf, Step, Run}
use Rattle.nr_model.specs.Locals.{start_of, CallRun, Local}
use Rattle.nr_model.specs.Same.{OldAndResults, SameReached}
use Rattle.nr_model.specs.LocalEntries.{AllRestorable, IsLocal, EachLocal, IsOwn, EachOwn}
use Rattle.nr_model.specs.Asks.{Asks, asked_args, waiting, Answered, Entry, AnswerStep, AskStep, AskRun, arrived, own, asked}
use Rattle.nr_model.specs.Overs.{over, with_front}
use Rattle.std.specs.Prelude.{is_some}
use Rattle.nr_linked.specs.Sites.{site_at}
use Rattle.nr_linked.specs.declared.program.built_in.BuiltIn.TheVariants.{AbstractMethodError}
use Rattle.nr_model.specs.Throws.{throw_new, onward, with_found}
use Rattle.nr_model.specs.CallRules.{built_in_rule}
use Rattle.nr_model.specs.Rules.{rule, invoke_rule, script}
use Rattle.nr_model.proofs.Heaps.{held_left}
use Rattle.nr_model.proofs.Paths.{paired_matched, none_some, some_eq}
use Rattle.nr_model.proofs.Runs.{LaterState, runs_paired, run_too}
use Rattle.nr_model.proofs.Frames.{all_drop}
use Rattle.nr_model.proofs.Afters.{AlikeNext, no_next, one_next, given_alike}
use Rattle.nr_model.proofs.Kept.{PairsOf, states_match, states_pair, start_pair, result_match}
use Rattle.nr_model.proofs.Over.{run_over}
use Rattle.nr_model.proofs.Plain.{plain_run}
use Rattle.nr_model.proofs.Relations.{Through, Back, state_through, state_back}

some_is : {X : Type 0} (o : Option X) (x : X) (A : X → Type 0) → o ≡ Some x → A x → IsSomeAnd o A
some_is o x A e a = subst (λ o. IsSomeAnd o A) (sym e) a

pub is_there : {X : Type 0} (o : Option X) (x : X) (A : X → Type 0) → o ≡ Some x → IsSomeAnd o A → A x
is_there o x A e a = subst (λ o. IsSomeAnd o A) e a

-- ---- the step into the method that is asked for

module _ (P : ProgramTables) (service : Option ℕ) (s : State) (a : Asks P service s) where
  is_call : script P a.caller a.site ≡ Call a.method
  is_call =
      ap (λ f. rule f P a.caller a.site.instr.row a.site.instr.args a.site.resolved (onward a.site.next)) a.family
      ∙ ap₂ (λ code found. invoke_rule P a.caller code found (onward a.site.next)) a.code a.found
      ∙ ap (λ o. with_found o (λ i. if is_some i.body then Call a.method
      else on_some (built_in_rule P i (onward a.site.next)) (throw_new P AbstractMethodError) (λ rule. rule))) a.called
      ∙ ap (λ b. if b then Call a.method else on_some (built_in_rule P a.info (onward a.site.next)) (throw_new P AbstractMethodError) (λ rule. rule)) a.has_code

  standing_at : script_at P a.frame.method a.frame.offset ≡ Some (Call a.method)
  standing_at =
      ap (λ o. option_and_then (λ i. option_map (script P i) (site_at i a.frame.offset)) o) a.calling
      ∙ ap (λ o. option_map (script P a.caller) o) a.standing ∙ ap Some is_call

  abbrev first : State
  first = start_of a.info a.method s.heap (asked_args a)

  abbrev inside_control : Control
  inside_control = Running (first_frame a.info a.method (asked_args a) ∷ waiting a)

  enters : Step P s (with_front s.printed inside_control first)
  enters = subst (λ c. StepOf P c s (with_front s.printed inside_control first)) (sym a.running)
      (some_is _ (Call a.method) _ standing_at
      (record { ending = Called a.method; left = within s.heap a.frame; runs = (refl, refl); control = goes_in; heap = refl; printed = refl }))
    where
      goes_in : entered P a.method a.frame a.below ≡ Some inside_control
      goes_in =
          ap (λ o. option_and_then (λ i. if nat_le (operands_of i) (length a.frame.operands)
          then Some (Running (first_frame i a.method (take (operands_of i) a.frame.operands) ∷ record a.frame { operands = drop (operands_of i) a.frame.operands } ∷ a.below))
          else None) o) a.called
          ∙ ap (λ b. if b then Some inside_control else None) a.enough

-- ---- the machine alone, through the call that is asked for

module _ (P : ProgramTables) (service : Option ℕ) (s m : State) (e : Entry) (a : AskStep P service s e m) (restorable : AllRestorable P e.before e.args)
    (n : ℕ) (t : State) (v : Option Value) (ran : Local P e.before e.method e.args n t) (returned : t.control ≡ Returned v) where
  -- the local run from the state that asks
  here : CallRun P s.heap a.asks.method (asked_args a.asks) n t
  here = subst (λ m. CallRun P s.heap m (asked_args a.asks) n t) a.method
      (subst (λ h. CallRun P h e.method (asked_args a.asks) n t) a.before
      (subst (λ vs. CallRun P e.before e.method vs n t) a.args (plain_run P e.before e.args restorable e.method n t ran)))

  from_first : Run P (first P service s a.asks) n t
  from_first = subst (λ z. Run P z n t) (is_there _ a.asks.info _ a.asks.called here.begins) here.run

  through_the_call : (c : Control) → given P v (waiting a.asks) ≡ Some c → Run P s (suc n) (with_front s.printed c t)
  through_the_call c e = (
    with_front s.printed (inside_control P service s a.asks) (first P service s a.asks),
    enters P service s a.asks,
    run_over P (waiting a.asks) s.printed n (first P service s a.asks) t (inside_control P service s a.asks) c refl
        (ap (over P (waiting a.asks)) returned ∙ e) from_first,
  )

-- ---- a heap beside itself, where it is beside another

module _ (Q J : ℕ → ℕ → Type 0) (to : (x y : ℕ) → Q x y → J x x) where
  like_self : (u v : Value) → Like Q u v → Like J u u
  like_self u v like_int = like_int
  like_self u v like_long = like_long
  like_self u v like_null = like_null
  like_self u v (like_ref r) = like_ref (to _ _ r)

  all_self : (us vs : List Value) → AllLike Q us vs → AllLike J us us
  all_self us vs no_more = no_more
  all_self us vs (one_more l ls) = one_more (like_self _ _ l) (all_self _ _ ls)

  frames_self : (fs gs : List Frame) → AlikeFrames Q fs gs → AlikeFrames J fs fs
  frames_self fs gs no_frame = no_frame
  frames_self fs gs (one_frame a bs) = one_frame (record { method = refl; offset = refl; locals = all_self _ _ a.locals; operands = all_self _ _ a.operands }) (frames_self _ _ bs)

  pub running_self : (c d : Control) (fs : List Frame) → AlikeControl Q c d → c ≡ Running fs → AlikeFrames J fs fs
  running_self c d fs (both_run {fs = gs} bs) e = subst (λ fs. AlikeFrames J fs fs) (inner e) (frames_self _ _ bs)
    where
      inner : Running gs ≡ Running fs → gs ≡ fs
      inner e = cc
  running_self c d fs (both_return {u = u} l) e = absurd (bad e)
    where
      bad : Returned u ≡ Running fs → ⊥
      bad e = cc
  running_self c d fs (both_throw {u = u} l) e = absurd (bad e)
    where
      bad : Thrown u ≡ Running fs → ⊥
      bad e = cc

pub next_back : (R : ℕ → ℕ → Type 0) (o p : Option Control) (d : Control) → AlikeNext R o p → p ≡ Some d → (c : Control) × (o ≡ Some c) × AlikeControl R c d
next_back R o p d no_next e = absurd (none_some e)
next_back R o p d (one_next {c = c} {d = k} a) e = (c, refl, subst (AlikeControl R c) (some_eq e) a)

-- ---- how the machine alone goes on from t, to a state like m

pub record Onward (P : ProgramTables) (Q : ℕ → ℕ → Type 0) (t m : State) : Type 1 where
  pub steps : ℕ
  pub state : State
  pub run : Run P t steps state
  pub now : ℕ → ℕ → Type 0
  pub older : (x y : ℕ) → Q x y → now x y
  pub alike : AlikeState now m state

abbrev plus : ℕ → ℕ → ℕ
plus zero k = k
plus (suc n) k = suc (plus n k)

run_join : (P : ProgramTables) (n k : ℕ) (s t u : State) → Run P s n t → Run P t k u → Run P s (plus n k) u
run_join P zero k s t u p q = subst (λ t. Run P t k u) p q
run_join P (suc n) k s t u p q = (p.0, p.1, run_join P n k p.0 t u p.2 q)

then_on : (P : ProgramTables) (Q : ℕ → ℕ → Type 0) (t m u : State) (o : Onward P Q t m) → Onward P o.now o.state u → Onward P Q t u
then_on P Q t m u o w = record {
  steps = plus o.steps w.steps;
  state = w.state;
  run = run_join P o.steps w.steps t o.state w.state o.run w.run;
  now = w.now;
  older = λ x y r. w.older x y (o.older x y r);
  alike = w.alike;
}

module _ (P : ProgramTables) (service : Option ℕ) (Q : ℕ → ℕ → Type 0) (s t m : State) (e : Entry) (q : AlikeState Q s t) (a : AskStep P service s e m) (l : IsLocal P e) where
  abbrev pub J : ℕ → ℕ → Type 0
  J = IsPair (OldAndResults s.heap l.result l.value) l.state.heap l.after

  pub in_j : (x y : ℕ) → OldAndResults s.heap l.result l.value x y → J x y
  in_j x y o = start_pair (OldAndResults s.heap l.result l.value) l.state.heap l.after x y o

  pub old_j : (x y : ℕ) → Q x y → J x x
  old_j x y r = in_j x x (inl (held_left Q _ _ (q.heap.alike x y r), refl))

  pub same_here : SameReached s.heap l.state.heap l.result l.after l.value
  same_here = subst (λ h. SameReached h l.state.heap l.result l.after l.value) a.before l.same

  pub answered : AnswerStep P (waiting a.asks) (Answered l.after l.value l.printed) s m
  answered = subst (λ r. AnswerStep P (waiting a.asks) r s m) l.answer a.answer

  -- the frames that wait, beside themselves
  wait_self : AlikeFrames J (waiting a.asks) (waiting a.asks)
  wait_self = dropped (running_self Q J old_j _ _ _ q.control a.asks.running)
    where
      dropped : AlikeFrames J (a.asks.frame ∷ a.asks.below) (a.asks.frame ∷ a.asks.below) → AlikeFrames J (waiting a.asks) (waiting a.asks)
      dropped (one_frame b bs) = one_frame (record { method = refl; offset = refl; locals = b.locals; operands = all_drop J (operands_of a.asks.info) _ _ b.operands }) bs

  -- where the local run's result leads its caller
  pub led : (c : Control) × (given P l.result (waiting a.asks) ≡ Some c) × AlikeControl J c m.control
  led = next_back J _ _ m.control
      (given_alike P J l.result l.value (waiting a.asks) (waiting a.asks) (result_match J l.result l.value same_here.results (λ x y i. in_j x y (inr i))) wait_self)
      answered.1

  abbrev pub after_local : State
  after_local = with_front s.printed led.0 l.state

  pub beside : AlikeState J after_local m
  beside = record {
    heap = subst (Matched J l.state.heap) (sym answered.0) (paired_matched _ _ _ same_here.heaps);
    control = led.2;
    printed = ap (λ o. s.printed ++ o) l.out ∙ sym answered.2;
  }

  module _ (restorable : AllRestorable P e.before e.args) where
    whole : Run P s (suc l.steps) after_local
    whole = through_the_call P service s m e a restorable l.steps l.state l.result l.local l.returned led.0 led.1

    pub remote_onward : Onward P Q t m
    remote_onward =
        let too = run_too P (suc l.steps) Q s t after_local q whole in
        let p : LaterState Q s t after_local too.0 = runs_paired P (suc l.steps) Q s t after_local too.0 q whole too.1 in
        record {
          steps = suc l.steps;
          state = too.0;
          run = too.1;
          now = Through (Back J) p.now;
          older = λ x y r. record { by = x; first = old_j x y r; second = p.moved.older x y r };
          alike = state_through (Back J) p.now m after_local too.0 (state_back J after_local m beside) p.alike;
        }

module _ (P : ProgramTables) (service : Option ℕ) where
  own_onward : (Q : ℕ → ℕ → Type 0) (s t m : State) → AlikeState Q s t → Step P s m → Onward P Q t m
  own_onward Q s t m q d =
      let r : Run P s (suc zero) m = (m, d, refl) in
      let too = run_too P (suc zero) Q s t m q r in
      let v : LaterState Q s t m too.0 = runs_paired P (suc zero) Q s t m too.0 q r too.1 in
      record { steps = suc zero; state = too.0; run = too.1; now = v.now; older = v.moved.older; alike = v.alike }

  pub all_local : (k : ℕ) (Q : ℕ → ℕ → Type 0) (s t s' : State) (calls : List Entry) → AlikeState Q s t → AskRun P service s calls k s' → EachLocal P calls → Onward P Q t s'
  all_local k Q s t s' calls q arrived l = record { steps = zero; state = t; run = refl; now = Q; older = λ x y r. r; alike = q }
  all_local k Q s t s' calls q (own m n d r) l =
      let o = own_onward Q s t m q d in
      then_on P Q t m s' o (all_local _ o.now m o.state s' _ o.alike r l)
  all_local k Q s t s' calls q (asked {e = e} m a r) l =
      let o = remote_onward P service Q s t m e q a l.0 l.1 in
      then_on P Q t m s' o (all_local _ o.now m o.state s' _ o.alike r l.2)

  pub pairs_all_local : (ps : List (ℕ × ℕ)) (k : ℕ) (s t s' : State) (calls : List Entry) → PairedStates ps s t → AskRun P service s calls k s' → EachLocal P calls
      → (n : ℕ) × (t' : State) × Run P t n t' × PairedStates ps s' t'
  pairs_all_local ps k s t s' calls a r l =
      let o = all_local k (PairsOf ps s t a) s t s' calls (states_match ps s t a) r l in
      (o.steps, o.state, o.run, states_pair ps o.now s' o.state o.alike (λ x y i. o.older x y (start_pair (StartOf ps s t) s.heap t.heap x y (inl i))))

-- ---- where each call is answered by just what a local run left, the machine alone comes to the same state

module _ (P : ProgramTables) (service : Option ℕ) where
  own_step : (s m : State) (e : Entry) → AskStep P service s e m → IsOwn P e → AllRestorable P e.before e.args → (n : ℕ) × Run P s n m
  own_step s m e a o restorable =
      let answer : AnswerStep P (waiting a.asks) (Answered o.state.heap o.result o.state.printed) s m = subst (λ r. AnswerStep P (waiting a.asks) r s m) o.answer a.answer in
      let arrives : with_front s.printed m.control o.state ≡ m = (λ i. record { heap = sym answer.0 i; control = m.control; printed = sym answer.2 i }) in
      (suc o.steps, subst (λ m. Run P s (suc o.steps) m) arrives (through_the_call P service s m e a restorable o.steps o.state o.result o.local o.returned m.control answer.1))

  pub all_own : (k : ℕ) (s t : State) (calls : List Entry) → AskRun P service s calls k t → EachOwn P calls → (n : ℕ) × Run P s n t
  all_own k s t calls arrived o = (zero, refl)
  all_own k s t calls (own m n d r) o = let w = all_own _ m t _ r o in (suc w.0, (m, d, w.1))
  all_own k s t calls (asked {e = e} m a r) o =
      let f = own_step s m e a o.0 o.1 in
      let w = all_own _ m t _ r o.2 in
      (plus f.0 w.0, run_join P f.0 w.0 s m t f.1 w.1)
