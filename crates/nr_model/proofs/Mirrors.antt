-- A run whose remote calls are faulted or the same as local runs is matched with a run of a machine that runs the called
-- methods itself, and meets the same faults.
use Rattle.std.proofs.Common.{◌≡◌, ℕ, ◌⊎◌, List, [], ◌∷◌, ◌++◌, refl, sym, ap, ap₂, subst, ◌∙◌, inl, inr}
use Rattle.std.specs.Prelude.{Option, Some, IsSomeAnd, nat_le}
use Rattle.std.specs.FinMap.{insert}
use Rattle.nr_model.specs.declared.value.Value.{Value}
use Rattle.nr_model.specs.declared.value.Value.TheVariants.{Ref}
use Rattle.nr_model.specs.Heaps.{Obj, Heap}
use Rattle.nr_model.specs.Scripts.{new_object}
use Rattle.nr_model.specs.States.{Frame, Control, Running, Returned, Thrown, State, IsEnd}
use Rattle.nr_model.specs.Alike.{like_ref, AllLike, no_more, AlikeObj, AlikeFrames, no_frame, one_frame, AlikeResult, AlikeControl, both_run, both_return, both_throw}
use Rattle.nr_model.specs.Pairs.{StartOf, PairedStates}
use Rattle.nr_model.proofs.Matchings.{Matched, AlikeState}
use Rattle.nr_linked.specs.declared.program.tables.ProgramTables.{ProgramTables}
use Rattle.nr_linked.specs.Programs.{method_at}
use Rattle.nr_model.specs.CallRules.{operands_of}
use Rattle.nr_model.specs.Steps.{unwound, given, Run}
use Rattle.nr_model.specs.Locals.{start_of, CopyArgs, Local}
use Rattle.nr_model.specs.Same.{SameReached}
use Rattle.nr_model.specs.LocalEntries.{IsLocal, IsFaulted, IsOwn, Mirrors, no_call, answered_call, faulted_call, EachLocalOrFaulted}
use Rattle.nr_model.specs.Asks.{Asks, asked_args, waiting, Answered, Faulted, Entry, AnswerStep, AskStep, AskRun, arrived, own, asked, fault_class}
use Rattle.nr_model.specs.Throws.{zeros}
use Rattle.nr_linked.specs.Kinds.{class_kind}
use Rattle.nr_linked.specs.Sites.{site_at}
use Rattle.nr_model.proofs.Heaps.{sum_left, made, with_new}
use Rattle.nr_model.proofs.Pairing.{lengths, plains_like}
use Rattle.nr_model.proofs.Mirror.{fresh}
use Rattle.nr_model.proofs.Paths.{paired_matched}
use Rattle.nr_model.proofs.Frames.{all_take, all_drop, locals_like, frames_more}
use Rattle.nr_model.proofs.Afters.{AlikeNext, next_both, next_too, unwound_alike, given_alike}
use Rattle.nr_model.proofs.Runs.{LaterState, steps_paired, step_too, runs_paired, run_too}
use Rattle.nr_model.proofs.Kept.{PairsOf, states_match, states_pair, start_pair, result_match}
use Rattle.nr_model.proofs.Relations.{Through, result_through, matched_through, Back, back_matched, result_back, state_back}
use Rattle.nr_model.proofs.OtherCopies.{other_heap, other_args, other_copies}
use Rattle.nr_model.proofs.BothCopies.{WithCopies, args_like, with_copies}
use Rattle.nr_model.proofs.AllLocal.{J, in_j, old_j, answered, same_here, is_there}

-- ---- where one machine asks, so does the other

pub record AsksToo (Q : ℕ → ℕ → Type 0) (P : ProgramTables) (service : Option ℕ) (s t : State) (a : Asks P service s) : Type 0 where
  pub asks : Asks P service t
  pub method : asks.method ≡ a.method
  pub info : asks.info ≡ a.info
  pub args : AllLike Q (asked_args a) (asked_args asks)
  pub frames : AlikeFrames Q (waiting a) (waiting asks)

module _ (P : ProgramTables) (service : Option ℕ) (Q : ℕ → ℕ → Type 0) (s t : State) where
  pub asks_too : AlikeState Q s t → (a : Asks P service s) → AsksToo Q P service s t a
  asks_too q a = go s.control t.control q.control refl a.running
    where
      build : (fs gs : List Frame) → AlikeFrames Q fs gs → t.control ≡ Running gs → fs ≡ a.frame ∷ a.below → AsksToo Q P service s t a
      build fs gs bs e f = with_frames gs (subst (λ fs. AlikeFrames Q fs gs) f bs) e
        where
          with_frames : (gs : List Frame) → AlikeFrames Q (a.frame ∷ a.below) gs → t.control ≡ Running gs → AsksToo Q P service s t a
          with_frames [] x e = elim x [ ]
          with_frames (g ∷ gs) (one_frame b bs) e = record {
            asks = record {
              frame = g;
              below = gs;
              running = e;
              caller = a.caller;
              calling = ap (method_at P) (sym b.method) ∙ a.calling;
              site = a.site;
              standing = ap (site_at a.caller) (sym b.offset) ∙ a.standing;
              family = a.family;
              code = a.code;
              method = a.method;
              named = a.named;
              found = a.found;
              info = a.info;
              called = a.called;
              has_code = a.has_code;
              remote = a.remote;
              enough = ap (λ n. nat_le (operands_of a.info) n) (sym (lengths Q _ _ b.operands)) ∙ a.enough;
            };
            method = refl;
            info = refl;
            args = all_take Q (operands_of a.info) _ _ b.operands;
            frames = one_frame (record { method = b.method; offset = b.offset; locals = b.locals; operands = all_drop Q (operands_of a.info) _ _ b.operands }) bs;
          }

      go : (c d : Control) → AlikeControl Q c d → t.control ≡ d → c ≡ Running (a.frame ∷ a.below) → AsksToo Q P service s t a
      go c d (both_run {fs} {gs} bs) e f = build fs gs bs e (inner fs f)
        where
          inner : (fs : List Frame) → Running fs ≡ Running (a.frame ∷ a.below) → fs ≡ a.frame ∷ a.below
          inner fs e = cc
      go c d (both_return {u = u} l) e f = absurd (bad u f)
        where
          bad : (u : Option Value) → Returned u ≡ Running (a.frame ∷ a.below) → ⊥
          bad u e = cc
      go c d (both_throw {u = u} l) e f = absurd (bad u f)
        where
          bad : (u : Value) → Thrown u ≡ Running (a.frame ∷ a.below) → ⊥
          bad u e = cc

-- ---- how the other machine goes on from t, with its own entry, to a state like m

pub record Beside (P : ProgramTables) (service : Option ℕ) (Q : ℕ → ℕ → Type 0) (e : Entry) (t m : State) : Type 1 where
  pub entry : Entry
  pub method : e.method ≡ entry.method
  pub state : State
  pub step : AskStep P service t entry state
  pub fate : (IsLocal P e × IsOwn P entry) ⊎ (IsFaulted e × IsFaulted entry)
  pub now : ℕ → ℕ → Type 0
  pub older : (x y : ℕ) → Q x y → now x y
  pub alike : AlikeState now m state

module _ (P : ProgramTables) (service : Option ℕ) (Q : ℕ → ℕ → Type 0) (s t m : State) (e : Entry) (q : AlikeState Q s t) (a : AskStep P service s e m) where
  abbrev too : AsksToo Q P service s t a.asks
  too = asks_too P service Q s t q a.asks

  faulted_beside : IsFaulted e → Beside P service Q e t m
  faulted_beside f =
      let answer : AnswerStep P (waiting a.asks) (Faulted f.0) s m = subst (λ r. AnswerStep P (waiting a.asks) r s m) f.1 a.answer in
      let n = fresh t.heap in
      let object : Obj = new_object (class_kind (fault_class P)) (zeros P (fault_class P)) in
      let new : AlikeObj Q object object = record { kind = refl; slots = plains_like Q (zeros P (fault_class P)) } in
      let S : ℕ → ℕ → Type 0 = with_new Q f.0 n.0 in
      record {
        entry = record { method = too.asks.method; args = asked_args too.asks; before = t.heap; answer = Faulted n.0 };
        method = a.method ∙ sym too.method;
        state = record { heap = insert t.heap n.0 object; control = unwound P (class_kind (fault_class P)) (Ref n.0) (waiting too.asks); printed = t.printed };
        step = record { asks = too.asks; method = refl; args = refl; before = refl; answer = (n.1, refl, refl, refl) };
        fate = inr (f, (n.0, refl));
        now = S;
        older = λ x y r. inl r;
        alike = record {
          heap = subst (λ h. Matched S h (insert t.heap n.0 object)) (sym answer.1) (made Q s.heap t.heap q.heap f.0 n.0 answer.0 n.1 object object new);
          control = subst (λ c. AlikeControl S c (unwound P (class_kind (fault_class P)) (Ref n.0) (waiting too.asks))) (sym answer.2)
              (unwound_alike P S (class_kind (fault_class P)) (Ref f.0) (Ref n.0) (waiting a.asks) (waiting too.asks) (like_ref (inr (refl, refl))) (frames_more Q S (λ x y r. inl r) _ _ too.frames));
          printed = answer.3 ∙ q.printed;
        };
      }

  module _ (l : IsLocal P e) where
    -- the local run from the state that asks
    here : Local P s.heap a.asks.method (asked_args a.asks) l.steps l.state
    here = subst (λ m. Local P s.heap m (asked_args a.asks) l.steps l.state) a.method
        (subst (λ h. Local P h e.method (asked_args a.asks) l.steps l.state) a.before
        (subst (λ vs. Local P e.before e.method vs l.steps l.state) a.args l.local))

    abbrev heap_there : Heap
    heap_there = other_heap P Q s.heap t.heap q.heap (asked_args a.asks) (asked_args too.asks) too.args here.heap here.args' here.copies

    abbrev args_there : List Value
    args_there = other_args P Q s.heap t.heap q.heap (asked_args a.asks) (asked_args too.asks) too.args here.heap here.args' here.copies

    copies_there : CopyArgs P t.heap (asked_args too.asks) heap_there args_there
    copies_there = other_copies P Q s.heap t.heap q.heap (asked_args a.asks) (asked_args too.asks) too.args here.heap here.args' here.copies

    abbrev R : ℕ → ℕ → Type 0
    R = WithCopies P Q s.heap t.heap q.heap (asked_args a.asks) (asked_args too.asks) too.args here.heap heap_there here.args' args_there here.copies copies_there

    abbrev first_here : State
    first_here = start_of a.asks.info a.asks.method here.heap here.args'

    abbrev first_there : State
    first_there = start_of a.asks.info a.asks.method heap_there args_there

    begin : AlikeState R first_here first_there
    begin = record {
      heap = with_copies P Q s.heap t.heap q.heap (asked_args a.asks) (asked_args too.asks) too.args here.heap heap_there here.args' args_there here.copies copies_there;
      control = both_run (one_frame (record {
        method = refl;
        offset = refl;
        locals = locals_like R a.asks.info _ _ (args_like P Q s.heap t.heap q.heap (asked_args a.asks) (asked_args too.asks) too.args here.heap heap_there here.args' args_there here.copies copies_there);
        operands = no_more;
      }) no_frame);
      printed = refl;
    }

    own_run : Run P first_here l.steps l.state
    own_run = subst (λ z. Run P z l.steps l.state) (is_there _ a.asks.info _ a.asks.called here.call.begins) here.call.run

    run_there : (u : State) × Run P first_there l.steps u
    run_there = run_too P l.steps R first_here first_there l.state begin own_run

    later : LaterState R first_here first_there l.state run_there.0
    later = runs_paired P l.steps R first_here first_there l.state run_there.0 begin own_run run_there.1

    returned_too : (c d : Control) (u : Option Value) → AlikeControl later.now c d → c ≡ Returned u → (v : Option Value) × (d ≡ Returned v) × AlikeResult later.now u v
    returned_too c d u (both_run {fs} bs) e = absurd (bad fs e)
      where
        bad : (fs : List Frame) → Running fs ≡ Returned u → ⊥
        bad fs e = cc
    returned_too c d u (both_return {u = x} {v = v} r) e = (v, refl, subst (λ u. AlikeResult later.now u v) (inside x e) r)
      where
        inside : (x : Option Value) → Returned x ≡ Returned u → x ≡ u
        inside x e = cc
    returned_too c d u (both_throw {u = x} r) e = absurd (bad x e)
      where
        bad : (x : Value) → Thrown x ≡ Returned u → ⊥
        bad x e = cc

    ended : (v : Option Value) × (run_there.0.control ≡ Returned v) × AlikeResult later.now l.result v
    ended = returned_too l.state.control run_there.0.control l.result later.alike.control l.returned

    abbrev K : ℕ → ℕ → Type 0
    K = J P service Q s t m e q a l

    abbrev Now : ℕ → ℕ → Type 0
    Now = Through (Back K) later.now

    grown : (x y : ℕ) → Q x y → Now x y
    grown x y r = record { by = x; first = old_j P service Q s t m e q a l x y r; second = later.moved.older x y (inl r) }

    answer_here : AnswerStep P (waiting a.asks) (Answered l.after l.value l.printed) s m
    answer_here = answered P service Q s t m e q a l

    same_there : SameReached s.heap l.state.heap l.result l.after l.value
    same_there = same_here P service Q s t m e q a l

    values : AlikeResult Now l.value ended.0
    values = result_through (Back K) later.now l.value l.result ended.0
        (result_back K l.result l.value (result_match K l.result l.value same_there.results (λ x y i. in_j P service Q s t m e q a l x y (inr i))))
        ended.2

    given_both : AlikeNext Now (given P l.value (waiting a.asks)) (given P ended.0 (waiting too.asks))
    given_both = given_alike P Now l.value ended.0 (waiting a.asks) (waiting too.asks) values (frames_more Q Now grown _ _ too.frames)

    led : (d : Control) × (given P ended.0 (waiting too.asks) ≡ Some d)
    led = next_too Now _ _ m.control given_both answer_here.1

    own_entry : IsOwn P (record { method = too.asks.method; args = asked_args too.asks; before = t.heap; answer = Answered run_there.0.heap ended.0 run_there.0.printed })
    own_entry = record {
      steps = l.steps;
      state = run_there.0;
      result = ended.0;
      local = subst (λ m. Local P t.heap m (asked_args too.asks) l.steps run_there.0) (sym too.method)
          (record {
            heap = heap_there;
            args' = args_there;
            copies = copies_there;
            call = record { first = first_there; begins = begun; run = run_there.1; ends = subst IsEnd (sym ended.1) tt };
          });
      returned = ended.1;
      answer = refl;
    }
      where
        begun : IsSomeAnd (method_at P a.asks.method) (λ i. first_there ≡ start_of i a.asks.method heap_there args_there)
        begun = subst (λ o. IsSomeAnd o (λ i. first_there ≡ start_of i a.asks.method heap_there args_there)) (sym a.asks.called) refl

    local_beside : Beside P service Q e t m
    local_beside = record {
      entry = record { method = too.asks.method; args = asked_args too.asks; before = t.heap; answer = Answered run_there.0.heap ended.0 run_there.0.printed };
      method = a.method ∙ sym too.method;
      state = record { heap = run_there.0.heap; control = led.0; printed = t.printed ++ run_there.0.printed };
      step = record { asks = too.asks; method = refl; args = refl; before = refl; answer = (refl, led.1, refl) };
      fate = inl (l, own_entry);
      now = Now;
      older = grown;
      alike = record {
        heap = subst (λ h. Matched Now h run_there.0.heap) (sym answer_here.0)
            (matched_through (Back K) later.now l.after l.state.heap run_there.0.heap (back_matched K _ _ (paired_matched _ _ _ same_there.heaps)) later.alike.heap);
        control = next_both Now _ _ m.control led.0 given_both answer_here.1 led.1;
        printed = answer_here.2 ∙ ap₂ (λ x y. x ++ y) q.printed (sym l.out ∙ later.alike.printed);
      };
    }

  pub remote_beside : IsLocal P e ⊎ IsFaulted e → Beside P service Q e t m
  remote_beside (inl l) = local_beside l
  remote_beside (inr f) = faulted_beside f

-- where the other machine's run leaves it
pub record OnwardToo (P : ProgramTables) (service : Option ℕ) (Q : ℕ → ℕ → Type 0) (calls : List Entry) (k : ℕ) (t s' : State) : Type 1 where
  pub others : List Entry
  pub state : State
  pub run : AskRun P service t others k state
  pub mirrors : Mirrors P calls others
  pub now : ℕ → ℕ → Type 0
  pub older : (x y : ℕ) → Q x y → now x y
  pub alike : AlikeState now s' state

module _ (P : ProgramTables) (service : Option ℕ) where
  pub mirrored_run : (k : ℕ) (Q : ℕ → ℕ → Type 0) (s t s' : State) (calls : List Entry) → AlikeState Q s t → AskRun P service s calls k s' → EachLocalOrFaulted P calls
      → OnwardToo P service Q calls k t s'
  mirrored_run k Q s t s' calls q arrived l = record { others = []; state = t; run = arrived; mirrors = no_call; now = Q; older = λ x y r. r; alike = q }
  mirrored_run k Q s t s' calls q (own m n d r) l =
      let d2 = step_too P Q s t m q d in
      let v : LaterState Q s t m d2.0 = steps_paired P Q s t m d2.0 q d d2.1 in
      let w = mirrored_run _ v.now m d2.0 s' calls v.alike r l in
      record {
        others = w.others;
        state = w.state;
        run = own d2.0 (λ a. n (asks_too P service (Back Q) t s (state_back Q s t q) a).asks) d2.1 w.run;
        mirrors = w.mirrors;
        now = w.now;
        older = λ x y r. w.older x y (v.moved.older x y r);
        alike = w.alike;
      }
  mirrored_run k Q s t s' calls q (asked {e = e} {calls = rest} m a r) l =
      let b = remote_beside P service Q s t m e q a l.0 in
      let w = mirrored_run _ b.now m b.state s' rest b.alike r l.1 in
      record {
        others = b.entry ∷ w.others;
        state = w.state;
        run = asked b.state b.step w.run;
        mirrors = sum_left b.fate (λ f. answered_call b.method f.0 f.1 w.mirrors) (λ f. faulted_call b.method f.0 f.1 w.mirrors);
        now = w.now;
        older = λ x y r. w.older x y (b.older x y r);
        alike = w.alike;
      }

  pub pairs_mirrored : (ps : List (ℕ × ℕ)) (k : ℕ) (s t s' : State) (calls : List Entry) → PairedStates ps s t → AskRun P service s calls k s' → EachLocalOrFaulted P calls
      → (others : List Entry) × (t' : State) × AskRun P service t others k t' × Mirrors P calls others × PairedStates ps s' t'
  pairs_mirrored ps k s t s' calls a r l =
      let o = mirrored_run k (PairsOf ps s t a) s t s' calls (states_match ps s t a) r l in
      (o.others, o.state, o.run, o.mirrors, states_pair ps o.now s' o.state o.alike (λ x y i. o.older x y (start_pair (StartOf ps s t) s.heap t.heap x y (inl i))))
