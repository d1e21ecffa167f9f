-- Two machines whose remote calls are local runs themselves, and throw at the same calls, agree to the end.
use Rattle.std.proofs.Common.{◌≡◌, ℕ, suc, List, ◌∷◌, ◌++◌, refl, sym, ap, ap₂, subst, subst₂, ◌∙◌, inl, inr, Bool, true, false}
use Rattle.std.specs.Prelude.{Option, take, drop}
use Rattle.nr_model.specs.declared.value.Value.{Value}
use Rattle.nr_model.specs.declared.value.Value.TheVariants.{Ref}
use Rattle.nr_model.specs.Heaps.{Obj}
use Rattle.nr_model.specs.Scripts.{new_object}
use Rattle.nr_model.specs.States.{Frame, Control, Running, Returned, Thrown, State, IsEnd}
use Rattle.nr_model.specs.Alike.{like_ref, AllLike, no_more, AlikeObj, AlikeFrames, no_frame, one_frame, AlikeResult, AlikeControl, both_run, both_return, both_throw}
use Rattle.nr_model.specs.Pairs.{StartOf, PairedStates}
use Rattle.nr_model.proofs.Matchings.{Matched, AlikeState}
use Rattle.nr_linked.specs.declared.program.tables.ProgramTables.{ProgramTables}
use Rattle.nr_linked.specs.Programs.{method_at}
use Rattle.nr_model.specs.CallRules.{operands_of}
use Rattle.nr_model.specs.Steps.{first_locals, Run}
use Rattle.nr_model.specs.Locals.{start_of, Local}
use Rattle.nr_model.specs.LocalEntries.{IsFaulted, IsOwn, Fated, AllFated}
use Rattle.nr_model.specs.Asks.{Asks, asked_args, waiting, Answered, Faulted, Entry, AnswerStep, AskStep, AskRun, arrived, own, asked, fault_class}
use Rattle.nr_linked.specs.declared.program.tables.Resolved.TheVariants as resolved
use Rattle.nr_linked.specs.Kinds.{class_kind}
use Rattle.nr_linked.specs.Sites.{site_at}
use Rattle.nr_model.specs.Throws.{zeros}
use Rattle.nr_model.proofs.Heaps.{made, with_new}
use Rattle.nr_model.proofs.Pairing.{plains_like}
use Rattle.nr_model.proofs.Paths.{some_eq}
use Rattle.nr_model.proofs.Frames.{all_take, all_drop, locals_like, frames_more}
use Rattle.nr_model.proofs.Afters.{next_both, unwound_alike, given_alike}
use Rattle.nr_model.proofs.Runs.{LaterState, steps_paired, runs_paired}
use Rattle.nr_model.proofs.Ends.{no_step, end_over, end_back, one_length}
use Rattle.nr_model.proofs.Kept.{PairsOf, states_match, states_pair, start_pair}
use Rattle.nr_model.proofs.Relations.{Back, state_back}
use Rattle.nr_model.proofs.Restores.{returned_alike}
use Rattle.nr_model.proofs.BothCopies.{WithCopies, args_like, with_copies}
use Rattle.nr_model.proofs.AllLocal.{is_there}
use Rattle.nr_model.proofs.Mirrors.{asks_too}

-- ---- what two machines that agree ask for

pub record AsksAlike (Q : ℕ → ℕ → Type 0) (P : ProgramTables) (service : Option ℕ) (s t : State) (a : Asks P service s) (b : Asks P service t) : Type 0 where
  pub method : a.method ≡ b.method
  pub info : a.info ≡ b.info
  pub args : AllLike Q (asked_args a) (asked_args b)
  pub frames : AlikeFrames Q (waiting a) (waiting b)

running_alike : (Q : ℕ → ℕ → Type 0) (c d : Control) (fs gs : List Frame) → AlikeControl Q c d → c ≡ Running fs → d ≡ Running gs → AlikeFrames Q fs gs
running_alike Q c d fs gs (both_run {fs = x} {gs = y} bs) e f = subst₂ (AlikeFrames Q) (inner x fs e) (inner y gs f) bs
  where
    inner : (x fs : List Frame) → Running x ≡ Running fs → x ≡ fs
    inner x fs e = cc
running_alike Q c d fs gs (both_return {u = u} l) e f = absurd (bad u e)
  where
    bad : (u : Option Value) → Returned u ≡ Running fs → ⊥
    bad u e = cc
running_alike Q c d fs gs (both_throw {u = u} l) e f = absurd (bad u e)
  where
    bad : (u : Value) → Thrown u ≡ Running fs → ⊥
    bad u e = cc

module _ (P : ProgramTables) (service : Option ℕ) (Q : ℕ → ℕ → Type 0) (s t : State) (q : AlikeState Q s t) (a : Asks P service s) (b : Asks P service t) where
  tops : AlikeFrames Q (a.frame ∷ a.below) (b.frame ∷ b.below)
  tops = running_alike Q s.control t.control _ _ q.control a.running b.running

  same_method : (named : ℕ) (other : ℕ) (m n : ℕ) → resolved.Method m named ≡ resolved.Method n other → m ≡ n
  same_method named other m n e = cc

  pub asks_alike : AsksAlike Q P service s t a b
  asks_alike = go tops
    where
      go : AlikeFrames Q (a.frame ∷ a.below) (b.frame ∷ b.below) → AsksAlike Q P service s t a b
      go (one_frame f fs) =
          let caller : a.caller ≡ b.caller = some_eq (sym a.calling ∙ ap (method_at P) f.method ∙ b.calling) in
          let site : a.site ≡ b.site = some_eq (sym a.standing ∙ ap₂ site_at caller f.offset ∙ b.standing) in
          let method : a.method ≡ b.method = same_method a.named b.named a.method b.method (sym a.found ∙ ap (λ s. s.resolved) site ∙ b.found) in
          let info : a.info ≡ b.info = some_eq (sym a.called ∙ ap (method_at P) method ∙ b.called) in
          record {
            method = method;
            info = info;
            args = subst (λ i. AllLike Q (asked_args a) (take (operands_of i) b.frame.operands)) info (all_take Q (operands_of a.info) _ _ f.operands);
            frames = one_frame
                (record {
                  method = f.method;
                  offset = f.offset;
                  locals = f.locals;
                  operands = subst (λ i. AllLike Q (drop (operands_of a.info) a.frame.operands) (drop (operands_of i) b.frame.operands)) info (all_drop Q (operands_of a.info) _ _ f.operands);
                }) fs;
          }

-- ---- one remote step of each

pub record NextAlike (Q : ℕ → ℕ → Type 0) (m n : State) : Type 1 where
  pub now : ℕ → ℕ → Type 0
  pub older : (x y : ℕ) → Q x y → now x y
  pub alike : AlikeState now m n

module _ (P : ProgramTables) (service : Option ℕ) (Q : ℕ → ℕ → Type 0) (s t m n : State) (d e : Entry) (q : AlikeState Q s t)
    (a : AskStep P service s d m) (b : AskStep P service t e n) where
  pub both : AsksAlike Q P service s t a.asks b.asks
  both = asks_alike P service Q s t q a.asks b.asks

  faulted_alike : IsFaulted d → IsFaulted e → NextAlike Q m n
  faulted_alike f g =
      let left : AnswerStep P (waiting a.asks) (Faulted f.0) s m = subst (λ r. AnswerStep P (waiting a.asks) r s m) f.1 a.answer in
      let right : AnswerStep P (waiting b.asks) (Faulted g.0) t n = subst (λ r. AnswerStep P (waiting b.asks) r t n) g.1 b.answer in
      let object : Obj = new_object (class_kind (fault_class P)) (zeros P (fault_class P)) in
      let new : AlikeObj Q object object = record { kind = refl; slots = plains_like Q (zeros P (fault_class P)) } in
      let S : ℕ → ℕ → Type 0 = with_new Q f.0 g.0 in
      record {
        now = S;
        older = λ x y r. inl r;
        alike = record {
          heap = subst₂ (Matched S) (sym left.1) (sym right.1) (made Q s.heap t.heap q.heap f.0 g.0 left.0 right.0 object object new);
          control = subst₂ (AlikeControl S) (sym left.2) (sym right.2)
              (unwound_alike P S (class_kind (fault_class P)) (Ref f.0) (Ref g.0) (waiting a.asks) (waiting b.asks) (like_ref (inr (refl, refl))) (frames_more Q S (λ x y r. inl r) _ _ both.frames));
          printed = left.3 ∙ q.printed ∙ sym right.3;
        };
      }

  module _ (l : IsOwn P d) (r : IsOwn P e) where
    pub here : Local P s.heap a.asks.method (asked_args a.asks) l.steps l.state
    here = subst (λ m. Local P s.heap m (asked_args a.asks) l.steps l.state) a.method
        (subst (λ h. Local P h d.method (asked_args a.asks) l.steps l.state) a.before
        (subst (λ vs. Local P d.before d.method vs l.steps l.state) a.args l.local))

    pub there : Local P t.heap b.asks.method (asked_args b.asks) r.steps r.state
    there = subst (λ m. Local P t.heap m (asked_args b.asks) r.steps r.state) b.method
        (subst (λ h. Local P h e.method (asked_args b.asks) r.steps r.state) b.before
        (subst (λ vs. Local P e.before e.method vs r.steps r.state) b.args r.local))

    abbrev pub R : ℕ → ℕ → Type 0
    R = WithCopies P Q s.heap t.heap q.heap (asked_args a.asks) (asked_args b.asks) both.args here.heap there.heap here.args' there.args' here.copies there.copies

    abbrev pub first_here : State
    first_here = start_of a.asks.info a.asks.method here.heap here.args'

    abbrev pub first_there : State
    first_there = start_of b.asks.info b.asks.method there.heap there.args'

    begin : AlikeState R first_here first_there
    begin = record {
      heap = with_copies P Q s.heap t.heap q.heap (asked_args a.asks) (asked_args b.asks) both.args here.heap there.heap here.args' there.args' here.copies there.copies;
      control = both_run (one_frame (record {
        method = both.method;
        offset = refl;
        locals = subst (λ i. AllLike R (first_locals a.asks.info here.args') (first_locals i there.args')) both.info
            (locals_like R a.asks.info _ _ (args_like P Q s.heap t.heap q.heap (asked_args a.asks) (asked_args b.asks) both.args here.heap there.heap here.args' there.args' here.copies there.copies));
        operands = no_more;
      }) no_frame);
      printed = refl;
    }

    pub run_here : Run P first_here l.steps l.state
    run_here = subst (λ z. Run P z l.steps l.state) (is_there _ a.asks.info _ a.asks.called here.call.begins) here.call.run

    pub run_there : Run P first_there r.steps r.state
    run_there = subst (λ z. Run P z r.steps r.state) (is_there _ b.asks.info _ b.asks.called there.call.begins) there.call.run

    same_steps : l.steps ≡ r.steps
    same_steps = one_length P l.steps r.steps R first_here first_there l.state r.state begin run_here here.call.ends run_there there.call.ends

    pub later : LaterState R first_here first_there l.state r.state
    later = runs_paired P r.steps R first_here first_there l.state r.state begin (subst (λ k. Run P first_here k l.state) same_steps run_here) run_there

    pub results : AlikeResult later.now l.result r.result
    results = returned_alike later.now l.state.control r.state.control l.result r.result later.alike.control l.returned r.returned

    grown : (x y : ℕ) → Q x y → later.now x y
    grown x y i = later.moved.older x y (inl i)

    left : AnswerStep P (waiting a.asks) (Answered l.state.heap l.result l.state.printed) s m
    left = subst (λ r. AnswerStep P (waiting a.asks) r s m) l.answer a.answer

    right : AnswerStep P (waiting b.asks) (Answered r.state.heap r.result r.state.printed) t n
    right = subst (λ r. AnswerStep P (waiting b.asks) r t n) r.answer b.answer

    pub own_alike : NextAlike Q m n
    own_alike = record {
      now = later.now;
      older = grown;
      alike = record {
        heap = subst₂ (Matched later.now) (sym left.0) (sym right.0) later.alike.heap;
        control = next_both later.now _ _ m.control n.control
            (given_alike P later.now l.result r.result (waiting a.asks) (waiting b.asks) results (frames_more Q later.now grown _ _ both.frames)) left.1 right.1;
        printed = left.2 ∙ ap₂ (λ x y. x ++ y) q.printed later.alike.printed ∙ sym right.2;
      };
    }

  pub fated_alike : (b : Bool) → Fated P b d → Fated P b e → NextAlike Q m n
  fated_alike true f g = faulted_alike f g
  fated_alike false f g = own_alike f g

-- ---- whole runs

pub record EndsAlike (Q : ℕ → ℕ → Type 0) (k l : ℕ) (s t : State) : Type 1 where
  pub steps : k ≡ l
  pub now : ℕ → ℕ → Type 0
  pub older : (x y : ℕ) → Q x y → now x y
  pub alike : AlikeState now s t

pub no_ask : (P : ProgramTables) (service : Option ℕ) (t : State) → Asks P service t → IsEnd t.control → ⊥
no_ask P service t a e = subst IsEnd a.running e

module _ (P : ProgramTables) (service : Option ℕ) (faulted : ℕ → Bool) where
  then_ends : (Q S : ℕ → ℕ → Type 0) (k l : ℕ) (s t : State) → ((x y : ℕ) → Q x y → S x y) → EndsAlike S k l s t → EndsAlike Q (suc k) (suc l) s t
  then_ends Q S k l s t more w = record { steps = ap suc w.steps; now = w.now; older = λ x y r. w.older x y (more x y r); alike = w.alike }

  pub ends_alike : (k l j : ℕ) (Q : ℕ → ℕ → Type 0) (s t s' t' : State) (ds es : List Entry) → AlikeState Q s t → AskRun P service s ds k s' → AskRun P service t es l t'
      → IsEnd s'.control → IsEnd t'.control → AllFated P faulted j ds → AllFated P faulted j es → EndsAlike Q k l s' t'
  ends_alike k l j Q s t s' t' ds es q arrived arrived e f u v = record { steps = refl; now = Q; older = λ x y r. r; alike = q }
  ends_alike k l j Q s t s' t' ds es q arrived (own m n d r) e f u v = absurd (no_step P t.control t m (end_over Q _ _ q.control e) d)
  ends_alike k l j Q s t s' t' ds es q arrived (asked m a r) e f u v = absurd (no_ask P service t a.asks (end_over Q _ _ q.control e))
  ends_alike k l j Q s t s' t' ds es q (own m n d r) arrived e f u v = absurd (no_step P s.control s m (end_back Q _ _ q.control f) d)
  ends_alike k l j Q s t s' t' ds es q (asked m a r) arrived e f u v = absurd (no_ask P service s a.asks (end_back Q _ _ q.control f))
  ends_alike k l j Q s t s' t' ds es q (own m n d r) (asked w a z) e f u v = absurd (n (asks_too P service (Back Q) t s (state_back Q s t q) a.asks).asks)
  ends_alike k l j Q s t s' t' ds es q (asked m a r) (own w n d z) e f u v = absurd (n (asks_too P service Q s t q a.asks).asks)
  ends_alike k l j Q s t s' t' ds es q (own m n d r) (own w o c z) e f u v =
      let x : LaterState Q s t m w = steps_paired P Q s t m w q d c in
      then_ends Q x.now _ _ s' t' x.moved.older (ends_alike _ _ j x.now m w s' t' ds es x.alike r z e f u v)
  ends_alike k l j Q s t s' t' ds es q (asked {e = d} m a r) (asked {e = c} w b z) e f u v =
      let x = fated_alike P service Q s t m w d c q a b (faulted j) u.0 v.0 in
      then_ends Q x.now _ _ s' t' x.older (ends_alike _ _ (suc j) x.now m w s' t' _ _ x.alike r z e f u.1 v.1)

  pub pairs_ends_alike : (ps : List (ℕ × ℕ)) (k l : ℕ) (s t s' t' : State) (ds es : List Entry) → PairedStates ps s t → AskRun P service s ds k s' → AskRun P service t es l t'
      → IsEnd s'.control → IsEnd t'.control → AllFated P faulted 1 ds → AllFated P faulted 1 es → (k ≡ l) × PairedStates ps s' t'
  pairs_ends_alike ps k l s t s' t' ds es a p q e f u v =
      let o = ends_alike k l 1 (PairsOf ps s t a) s t s' t' ds es (states_match ps s t a) p q e f u v in
      (o.steps, states_pair ps o.now s' t' o.alike (λ x y i. o.older x y (start_pair (StartOf ps s t) s.heap t.heap x y (inl i))))
