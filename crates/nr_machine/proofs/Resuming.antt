-- An answered call: what the frames are then, and that the state is the model's.
use Rattle.std.proofs.Common.{◌≡◌, ℕ, ◌+◌, ◌<◌, ◌≤◌, List, [], ◌∷◌, ◌++◌, length, refl, sym, ap, ap₂, subst, ◌∙◌, arith, true, false}
use Rattle.std.specs.Prelude.{Bool, Option, Some, None, drop, nat_lt, ◌||◌, if◌then◌else◌}
use Rattle.std.specs.Option.{option_map}
use Rattle.std.proofs.lemmas.Bool.{le-ltb, lt-ltb}
use Rattle.nr_linked.specs.declared.program.kind.Kind.{Kind}
use Rattle.nr_linked.specs.declared.program.tables.ProgramTables.{ProgramTables}
use Rattle.nr_linked.specs.Facts.{ProgramFacts}
use Rattle.nr_linked.specs.declared.program.tables.MethodInfo.{MethodInfo}
use Rattle.nr_linked.specs.Programs.{method_at, result_of}
use Rattle.nr_linked.specs.TypingFacts.{TypingFacts}
use Rattle.nr_linked.specs.WellTyped.{WellTyped}
use Rattle.nr_model.specs.declared.value.Value.{Value}
use Rattle.nr_model.specs.Asks.{Answered, Asks, AskStep, waiting}
use Rattle.nr_model.specs.Belonging.{IsResult}
use Rattle.nr_model.specs.CallRules.{operands_of}
use Rattle.nr_model.specs.Heaps.{Heap, cells}
use Rattle.nr_model.specs.Outcomes.{is_too_deep, max_cells, max_frames, max_printed, max_value_slots, passed, value_slots, HeapFull, TooDeep, OutputTooLong}
use Rattle.nr_model.specs.States.{Frame, Control, Running, Returned, State}
use Rattle.nr_model.specs.Steps.{given, next_offset, with_result}
use Rattle.nr_model.specs.TypedAnswers.{entry_of}
use Rattle.nr_model.specs.TypedHeaps.{KeepsNames}
use Rattle.nr_model.proofs.Limits.{Keeps, passes_none}
use Rattle.nr_typed.specs.Standing.{StandsIn}
use Rattle.nr_machine.specs.declared.answer.Turn.{Turn}
use Rattle.nr_machine.specs.declared.stack.Frame.{Frame as CodeFrame}
use Rattle.nr_machine.specs.CallStacks.{CanGoOn, IsCallOf, IsStack, OnRunning, frames_of}
use Rattle.nr_machine.specs.Executions.{Execution, IsAsking, state_in}
use Rattle.nr_machine.specs.Machines.{control_of}
use Rattle.nr_machine.specs.Resumed.{AnswerLeads, AnswerPasses, Resumed, end_of}
use Rattle.nr_machine.proofs.AskingMachines.{asks_in, frames_are, method_is, waiting_is, waiting_same}
use Rattle.nr_machine.proofs.Calls.{in_range, some_both}
use Rattle.nr_machine.proofs.Standing.{goes_on}
use Rattle.nr_machine.proofs.Starting.{not_deep}
use Rattle.nr_machine.proofs.TypedLaws.{answer_stands}

some_eq : {X : Type 0} {a b : X} → Some a ≡ Some b → a ≡ b
some_eq e = cc

keeps_itself : (h : Heap) → KeepsNames h h
keeps_itself h = record { at = λ a o e. (o, e, refl) }

pub state_same : (s t : State) → s.heap ≡ t.heap → s.control ≡ t.control → s.printed ≡ t.printed → s ≡ t
state_same s t e f g = ap₂ (λ h c. record { heap = h; control = c; printed = s.printed }) e f ∙ ap (λ bs. record { heap = t.heap; control = t.control; printed = bs }) g

-- ---- limits

passed_long : (a b c : Bool) → a ≡ false → b ≡ false → c ≡ true → (if a then Some HeapFull else (if b then Some TooDeep else (if c then Some OutputTooLong else None))) ≡ Some OutputTooLong
passed_long true b c e f g = cc
passed_long false true c e f g = cc
passed_long false false false e f g = cc
passed_long false false true e f g = refl

-- the frames are as many and as large where they go on
given_deep : (P : ProgramTables) (v : Option Value) (fs : List Frame) (c : Control) → given P v fs ≡ Some c → is_too_deep P (Running fs) ≡ false → is_too_deep P c ≡ false
given_deep P v [] c g d = subst (λ c. is_too_deep P c ≡ false) (some_eq g) refl
given_deep P v (f ∷ fs) c g d = by (next_offset P f.method f.offset) g
  where
    by : (o : Option ℕ) → option_map (λ t. Running (record f { offset = t; operands = with_result v f.operands } ∷ fs)) o ≡ Some c → is_too_deep P c ≡ false
    by None e = cc
    by (Some t) e = subst (λ c. is_too_deep P c ≡ false) (some_eq e) d

pub too_long : (P : ProgramTables) (v : Option Value) (wait : List Frame) (c : Control) (k : Heap) (bs : List ℕ) → given P v wait ≡ Some c → is_too_deep P (Running wait) ≡ false → cells k ≤ max_cells → max_printed < length bs
    → passed P (record { heap = k; control = c; printed = bs }) ≡ Some OutputTooLong
too_long P v wait c k bs g d l m = passed_long (nat_lt max_cells (cells k)) (is_too_deep P c) (nat_lt max_printed (length bs)) (le-ltb max_cells (cells k) l) (given_deep P v wait c g d) (lt-ltb max_printed (length bs) m)

-- the frames that wait go on, and the state stands
module _ (P : ProgramTables) (facts : TypingFacts P) (typed : WellTyped P) (result : Option Kind) (service : Option ℕ) (s : State) (a : Asks P service s) (st : StandsIn P typed.frames result s)
    (v : Option Value) (printed : List ℕ) (q : IsResult P s.heap (result_of P a.method) v) where
  answer : (t : State) × AskStep P service s (entry_of a (Answered s.heap v printed)) t × StandsIn P typed.frames result t
  answer = answer_stands P facts typed result service s a st (Answered s.heap v printed) (st.heap, keeps_itself s.heap, q)

  module _ (wait : List Frame) (is : (b : Asks P service s) → wait ≡ waiting b) where
    given_there : given P v wait ≡ Some answer.0.control
    given_there = ap (given P v) (is answer.1.asks) ∙ answer.1.answer.1

    pub can : (c : Control) × (given P v wait ≡ Some c) × CanGoOn P c
    can = (answer.0.control, given_there, goes_on P typed.frames answer.0.heap result answer.0.control answer.2.control)

    pub lands : (c : Control) → given P v wait ≡ Some c → StandsIn P typed.frames result (record { heap = s.heap; control = c; printed = s.printed ++ printed })
    lands c g =
        let e : answer.0 ≡ record { heap = s.heap; control = c; printed = s.printed ++ printed } = state_same answer.0 (record { heap = s.heap; control = c; printed = s.printed ++ printed }) answer.1.answer.0 (some_both given_there g) answer.1.answer.2 in
        subst (StandsIn P typed.frames result) e answer.2

-- ---- the machine after the answer

module _ (P : ProgramTables) (service : Option ℕ) (budget steps : ℕ) (fs : List CodeFrame) (vs : List Value) (old : List ℕ) where
  abbrev pub before_it : Option Turn → Execution
  before_it last = record { program = P; service = service; budget = budget; steps = steps; control = control_of P fs vs last; printed = old; last = last }

  abbrev pub after_it : List CodeFrame → List Value → List ℕ → Option Turn → Execution
  after_it gs us new last = record { program = P; service = service; budget = budget; steps = steps + 1; control = control_of P gs us last; printed = new; last = last }

  module _ (last : Option Turn) (going : last ≡ None) (before k : Heap) (v : Option Value) (bs : List ℕ) where
    -- a step of the model to a control
    leads : (c : Control) (new : List ℕ) → new ≡ old ++ bs → ((b : Asks P service (state_in before (before_it last))) → given P v (waiting b) ≡ Some c)
        → AnswerLeads before (before_it last) (Answered k v bs) (record { heap = k; control = c; printed = new })
    leads c new e g = λ b. record { asks = b; method = refl; args = refl; before = refl; answer = (refl, g b, e) }

    pub resumed : (gs : List CodeFrame) (us : List Value) (new : List ℕ) → new ≡ old ++ bs → IsStack P gs us → cells k ≤ max_cells → length new ≤ max_printed
        → ((b : Asks P service (state_in before (before_it last))) → given P v (waiting b) ≡ Some (Running (frames_of P gs us)))
        → Resumed before (before_it last) (Answered k v bs) (after_it gs us new last) k
    resumed gs us new e st l m g =
        let c : control_of P gs us last ≡ Running (frames_of P gs us) = ap (control_of P gs us) going in
        record {
          answered = leads (control_of P gs us last) new e (λ b. g b ∙ ap (λ c. Some c) (sym c));
          limits = passes_none P (state_in k (after_it gs us new last)) (record { size = l; depth = ap (is_too_deep P) c ∙ not_deep P gs us st; output = m });
          rest = subst (λ l. after_it gs us new l ≡ record (before_it l) { steps = steps + 1; control = control_of P gs us l; printed = new; last = end_of (control_of P gs us l) }) (sym going) refl;
        }

    pub passes : (c : Control) (wait : List Frame) → is_too_deep P (Running wait) ≡ false → given P v wait ≡ Some c → ((b : Asks P service (state_in before (before_it last))) → wait ≡ waiting b) → cells k ≤ max_cells → max_printed < length (old ++ bs)
        → AnswerPasses before (before_it last) (Answered k v bs) OutputTooLong
    passes c wait d g w l m =
        (record { heap = k; control = c; printed = old ++ bs }, leads c (old ++ bs) refl (λ b. ap (given P v) (sym (w b)) ∙ g), too_long P v wait c k (old ++ bs) g d l m)

  -- ---- all that the answer needs

  module _ (last : Option Turn) (asking : IsAsking (before_it last)) (k : Heap) (result : Option Kind) (typed : WellTyped P) (facts : TypingFacts P) (st : StandsIn P typed.frames result (state_in k (before_it last)))
      (v : Option Value) (value : (h : Heap) (a : Asks P service (state_in h (before_it last))) → IsResult P k (result_of P a.method) v) (bs : List ℕ) where
    asks : Asks P service (state_in k (before_it last))
    asks = asks_in P service (control_of P fs vs last) old asking.heap k asking.asks

    -- the method that was found
    module _ (m : ℕ) (q : OnRunning (frames_of P fs vs) (λ f others. IsCallOf P f m)) where
      pub method_there : m < length P.methods
      method_there = subst (λ m. m < length P.methods) (sym (method_is P service fs vs last k old asking.going asks m q)) (in_range P asks.method asks.info asks.called)

      module _ (i : MethodInfo) (is_m : method_at P m ≡ Some i) (n : ℕ) (n_is : n ≡ operands_of i) (mid : List Frame)
          (r : OnRunning (frames_of P fs vs) (λ f others. mid ≡ record f { operands = drop n f.operands } ∷ others)) where
        pub waits : (h : Heap) (b : Asks P service (state_in h (before_it last))) → mid ≡ waiting b
        waits h b = waiting_is P service fs vs last h old asking.going b m q i is_m n n_is mid r

        pub go_on_can : (c : Control) × (given P v mid ≡ Some c) × CanGoOn P c
        go_on_can = can P facts typed result service (state_in k (before_it last)) asks st v bs (value k asks) mid (waits k)

        pub still_stands : (c : Control) → given P v mid ≡ Some c → StandsIn P typed.frames result (record { heap = k; control = c; printed = old ++ bs })
        still_stands c g = lands P facts typed result service (state_in k (before_it last)) asks st v bs (value k asks) mid (waits k) c g

    pub answer_passes : IsStack P fs vs → cells k ≤ max_cells → max_printed < length (old ++ bs) → (before : Heap) → AnswerPasses before (before_it last) (Answered k v bs) OutputTooLong
    answer_passes stack l m before =
        let g = can P facts typed result service (state_in k (before_it last)) asks st v bs (value k asks) (waiting asks) (waiting_same P service fs vs last old asking.going k k asks) in
        let d : is_too_deep P (Running (asks.frame ∷ asks.below)) ≡ false = subst (λ xs. is_too_deep P (Running xs) ≡ false) (frames_are P service fs vs last k old asking.going asks) (not_deep P fs vs stack) in
        passes last asking.going before k v bs g.0 (waiting asks) d g.1 (waiting_same P service fs vs last old asking.going k before asks) l m
