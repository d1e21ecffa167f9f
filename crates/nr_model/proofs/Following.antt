-- A machine whose remote calls were answered as restores leave it follows another, within the limits that the other keeps.
use Rattle.std.proofs.Common.{◌≡◌, ◌≢◌, ℕ, zero, suc, ◌+◌, ◌≤◌, List, [], ◌∷◌, ◌++◌, length, refl, sym, ap, subst, ◌∙◌, arith, inl, inr}
use Rattle.std.specs.Prelude.{Option, Some, None, take}
use Rattle.std.specs.FinMap.{get}
use Rattle.nr_linked.specs.declared.program.tables.ProgramTables.{ProgramTables}
use Rattle.nr_model.specs.Heaps.{Obj, Heap, on_some, cells}
use Rattle.nr_model.specs.States.{State, IsEnd}
use Rattle.nr_model.specs.declared.value.Value.{Value}
use Rattle.nr_model.specs.CallRules.{operands_of}
use Rattle.nr_model.specs.Steps.{Step, Run}
use Rattle.nr_model.specs.Outcomes.{passed}
use Rattle.nr_model.specs.Pairs.{name_at, Holds, IsClosed, NamedIn, IsPair, StartOf, PairedStates}
use Rattle.nr_model.specs.Same.{OldAndResults, Same}
use Rattle.nr_model.specs.LocalEntries.{IsLocal, IsRestored, AllLocal, AllRestored, AllClosed}
use Rattle.nr_model.specs.Asks.{Asks, asked_args, waiting, Answered, Entry, AnswerStep, AskStep, AskRun, arrived, own, asked}
use Rattle.nr_model.specs.PairedCalls.{PairedCalls}
use Rattle.nr_model.specs.LimitedRuns.{LimitedRun, there, own_step, remote_step, Follows, NextCall}
use Rattle.std.proofs.lemmas.List.{append-nil}
use Rattle.nr_model.proofs.Heaps.{held_left, held_right, sum_left}
use Rattle.nr_model.proofs.Matchings.{Matched, AlikeState}
use Rattle.nr_model.proofs.Paths.{none_some, paired_matched}
use Rattle.nr_model.proofs.Kept.{PairsOf, states_match, states_pair, start_pair, control_names}
use Rattle.nr_model.proofs.Reached.{Self, control_self}
use Rattle.nr_model.proofs.Runs.{LaterState, steps_paired}
use Rattle.nr_model.proofs.Ends.{no_step, end_over, end_back}
use Rattle.nr_model.proofs.Relations.{Back, back_matched, state_back, name_over}
use Rattle.nr_model.proofs.Closed.{closed_matched, control_beside, run_keeps_closed}
use Rattle.nr_model.proofs.Mirrors.{asks_too}
use Rattle.nr_model.proofs.OwnRuns.{NextAlike, AsksAlike, asks_alike, no_ask}
use Rattle.nr_model.proofs.Smaller.{passes_too}
use Rattle.nr_model.proofs.PairedCalls.{alike_calls}
use Rattle.nr_model.proofs.BothRestored.{restored_alike, grew_less}

-- ---- one remote step of a machine

-- the entry's heap before is that of the state
pub same_before : (P : ProgramTables) (service : Option ℕ) (t n : State) (e : Entry) → AskStep P service t e n → (i : IsRestored P e)
    → Same t.heap i.local.state.heap i.local.result i.local.after i.local.value
same_before P service t n e b i = subst (λ h. Same h i.local.state.heap i.local.result i.local.after i.local.value) b.before i.same

module _ (P : ProgramTables) (service : Option ℕ) (t n : State) (e : Entry) (b : AskStep P service t e n) (i : IsRestored P e) where
  abbrev r : IsLocal P e
  r = i.local

  same : Same t.heap r.state.heap r.result r.after r.value
  same = same_before P service t n e b i

  abbrev T : ℕ → ℕ → Type 0
  T = IsPair (OldAndResults t.heap r.result r.value) r.state.heap r.after

  m : Matched T r.state.heap r.after
  m = paired_matched _ _ _ same.reached.heaps

  -- each name is the second of a pair
  second_of : (z : ℕ) → get r.after z ≢ None → (y : ℕ) × T y z
  second_of z held = sum_left (same.names z held)
      (λ old. (z, start_pair (OldAndResults t.heap r.result r.value) r.state.heap r.after z z (inl (old, refl)))) (λ p. p)

  after_closed : IsClosed r.after
  after_closed z j c f gone = go (get r.after z) refl
    where
      by : get r.after z ≢ None → ⊥
      by held =
          let y = second_of z held in
          let back : Matched (Back T) r.after r.state.heap = back_matched T r.state.heap r.after m in
          let o = name_over (Back T) r.after r.state.heap back (get r.after z) (get r.state.heap y.0) j c (back.alike z y.0 y.1) f in
          held_right T _ _ (m.alike o.0 c o.2) gone

      go : (o : Option Obj) → get r.after z ≡ o → ⊥
      go None g = no_slot (get r.after z) g f
        where
          no_slot : (o : Option Obj) → o ≡ None → on_some o None (λ o. name_at o.slots j) ≡ Some c → ⊥
          no_slot None g f = none_some f
          no_slot (Some o) g f = none_some (sym g)
      go (Some o) g = by (λ h. none_some (sym h ∙ g))

  left_heap : n.heap ≡ r.after
  left_heap =
      let answer : AnswerStep P (waiting b.asks) (Answered r.after r.value r.printed) t n = subst (λ r. AnswerStep P (waiting b.asks) r t n) r.answer b.answer in
      answer.0

  pub restored_closed : IsClosed n.heap
  restored_closed = subst IsClosed (sym left_heap) after_closed

  pub restored_named : IsClosed t.heap → ((x : ℕ) → NamedIn t.control x → get t.heap x ≢ None) → (x : ℕ) → NamedIn n.control x → get n.heap x ≢ None
  restored_named closed held x named =
      let Q = Self (λ x. get t.heap x ≢ None) in
      let q : AlikeState Q t t = record { heap = closed_matched t.heap closed; control = control_self Q t.control (λ a i. (held a i, refl)); printed = refl } in
      let w : NextAlike Q n n = restored_alike P service Q t t n n e e q b b r r in
      held_left w.now _ _ (w.alike.heap.alike x x (control_names w.now n.heap n.heap w.alike.heap n.control n.control x x w.alike.control (control_beside n.control x named)))

-- ---- one remote step of each

module _ (P : ProgramTables) (service : Option ℕ) (ps : List (ℕ × ℕ)) (s t m n : State) (d e : Entry) (p : PairedStates ps s t)
    (a : AskStep P service s d m) (b : AskStep P service t e n) where
  abbrev q : AlikeState (PairsOf ps s t p) s t
  q = states_match ps s t p

  pub pairs_restored : IsLocal P d → IsLocal P e → PairedStates ps m n
  pairs_restored l r =
      let w : NextAlike (PairsOf ps s t p) m n = restored_alike P service (PairsOf ps s t p) s t m n d e q a b l r in
      states_pair ps w.now m n w.alike (λ x y i. w.older x y (start_pair (StartOf ps s t) s.heap t.heap x y (inl i)))

  pub pairs_grew_less : IsLocal P d → IsRestored P e → IsClosed t.heap → cells n.heap + cells s.heap ≤ cells m.heap + cells t.heap
  pairs_grew_less l i closed = grew_less P service (PairsOf ps s t p) s t m n d e q a b l i.local (same_before P service t n e b i) closed

  pub pairs_grew_alike : IsRestored P d → IsRestored P e → IsClosed s.heap → IsClosed t.heap → cells m.heap + cells t.heap ≡ cells n.heap + cells s.heap
  pairs_grew_alike h i left right =
      let more : cells n.heap + cells s.heap ≤ cells m.heap + cells t.heap = pairs_grew_less h.local i right in
      let less : cells m.heap + cells t.heap ≤ cells n.heap + cells s.heap = grew_less P service (Back (PairsOf ps s t p)) t s n m e d
      (state_back (PairsOf ps s t p) s t q) b a i.local h.local (same_before P service s m d a h) left in
      omega (arith, more, less)

-- ---- whole runs

pub limited_is_run : (P : ProgramTables) (service : Option ℕ) (s t : State) (calls : List Entry) (k : ℕ) → LimitedRun P service s calls k t → AskRun P service s calls k t
limited_is_run P service s t calls k there = arrived
limited_is_run P service s t calls k (own_step m no_ask d e r) = own m no_ask d (limited_is_run P service m t _ _ r)
limited_is_run P service s t calls k (remote_step m a e r) = asked m a (limited_is_run P service m t _ _ r)

pub local_among : (P : ProgramTables) (made : List Entry) (e : Entry) (later : List Entry) → AllLocal P (made ++ e ∷ later) → IsLocal P e
local_among P [] e later ls = ls.0
local_among P (d ∷ ds) e later ls = local_among P ds e later ls.1

-- one run after another
module _ (P : ProgramTables) (service : Option ℕ) where
  pub asks_join : (j k : ℕ) (s m t : State) (calls more : List Entry) → AskRun P service s calls j m → AskRun P service m more k t
      → AskRun P service s (calls ++ more) (j + k) t
  asks_join j k s m t calls more arrived q =
      let e : k ≡ 0 + k = omega arith in
      subst (λ l. AskRun P service s more l t) e q
  asks_join j k s m t calls more (own {k = i} n no_ask d r) q =
      let e : suc (i + k) ≡ suc i + k = omega arith in
      subst (λ l. AskRun P service s (calls ++ more) l t) e (own n no_ask d (asks_join i k n m t calls more r q))
  asks_join j k s m t calls more (asked {e = d} {calls = ds} {k = i} n a r) q =
      let e : suc (i + k) ≡ suc i + k = omega arith in
      subst (λ l. AskRun P service s (d ∷ ds ++ more) l t) e (asked n a (asks_join i k n m t ds more r q))

  pub limited_join : (j k : ℕ) (s m t : State) (calls more : List Entry) → LimitedRun P service s calls j m → LimitedRun P service m more k t
      → LimitedRun P service s (calls ++ more) (j + k) t
  limited_join j k s m t calls more there q =
      let e : k ≡ 0 + k = omega arith in
      subst (λ l. LimitedRun P service s more l t) e q
  limited_join j k s m t calls more (own_step {k = i} n no_ask d v r) q =
      let e : suc (i + k) ≡ suc i + k = omega arith in
      subst (λ l. LimitedRun P service s (calls ++ more) l t) e (own_step n no_ask d v (limited_join i k n m t calls more r q))
  limited_join j k s m t calls more (remote_step {e = d} {calls = ds} {k = i} n a v r) q =
      let e : suc (i + k) ≡ suc i + k = omega arith in
      subst (λ l. LimitedRun P service s (d ∷ ds ++ more) l t) e (remote_step n a v (limited_join i k n m t ds more r q))

module _ (P : ProgramTables) (service : Option ℕ) (ps : List (ℕ × ℕ)) where
  -- what one step of both adds to what follows
  after_own : (j k : ℕ) (s t m n s' t' : State) (calls others : List Entry) → (Asks P service s → ⊥) → Step P s m → passed P m ≡ None → (Asks P service t → ⊥) → Step P t n → passed P n ≡ None
      → Follows P service ps m s' calls k n t' others j → Follows P service ps s s' calls (suc k) t t' others (suc j)
  after_own j k s t m n s' t' calls others no_left c u no_right d v f = record {
    state = f.state;
    made = f.made;
    next = f.next;
    left = f.left;
    calls_apart = f.calls_apart;
    steps_apart = omega (arith, f.steps_apart);
    before = own_step m no_left c u f.before;
    after = f.after;
    limits = own_step n no_right d v f.limits;
    as_many = f.as_many;
    paired = f.paired;
    size = f.size;
    closed = f.closed;
    named = f.named;
  }

  after_remote : (j k : ℕ) (s t m n s' t' : State) (d e : Entry) (calls others : List Entry) → AskStep P service s d m → passed P m ≡ None → AskStep P service t e n → passed P n ≡ None
      → Follows P service ps m s' calls k n t' others j → Follows P service ps s s' (d ∷ calls) (suc k) t t' (e ∷ others) (suc j)
  after_remote j k s t m n s' t' d e calls others a u b v f = record {
    state = f.state;
    made = d ∷ f.made;
    next = f.next;
    left = f.left;
    calls_apart = ap (λ es. d ∷ es) f.calls_apart;
    steps_apart = omega (arith, f.steps_apart);
    before = remote_step m a u f.before;
    after = f.after;
    limits = remote_step n b v f.limits;
    as_many = ap suc f.as_many;
    paired = f.paired;
    size = f.size;
    closed = f.closed;
    named = f.named;
  }

  pub follow : (j k : ℕ) (s t s' t' : State) (calls others : List Entry) → PairedStates ps s t → cells t.heap ≤ cells s.heap → IsClosed t.heap
      → ((x : ℕ) → NamedIn t.control x → get t.heap x ≢ None)
      → LimitedRun P service s calls k s' → IsEnd s'.control → AllLocal P calls
      → AskRun P service t others j t' → AllRestored P others
      → Follows P service ps s s' calls k t t' others j
  follow j k s t s' t' calls others p c closed named l e ls arrived rs = record {
    state = s;
    made = [];
    next = calls;
    left = k;
    calls_apart = refl;
    steps_apart = omega arith;
    before = there;
    after = l;
    limits = there;
    as_many = refl;
    paired = p;
    size = c;
    closed = closed;
    named = named;
  }
  follow j k s t s' t' calls others p c closed named there e ls (own n no_right d r) rs =
      absurd (no_step P t.control t n (end_over (PairsOf ps s t p) _ _ (states_match ps s t p).control e) d)
  follow j k s t s' t' calls others p c closed named there e ls (asked n b r) rs =
      absurd (no_ask P service t b.asks (end_over (PairsOf ps s t p) _ _ (states_match ps s t p).control e))
  follow j k s t s' t' calls others p c closed named (own_step m no_left g u l) e ls (asked n b r) rs =
      absurd (no_left (asks_too P service (Back (PairsOf ps s t p)) t s (state_back (PairsOf ps s t p) s t (states_match ps s t p)) b.asks).asks)
  follow j k s t s' t' calls others p c closed named (remote_step m a u l) e ls (own n no_right d r) rs =
      absurd (no_right (asks_too P service (PairsOf ps s t p) s t (states_match ps s t p) a.asks).asks)
  follow j k s t s' t' calls others p c closed named (own_step {k = i} m no_left g u l) e ls (own {k = h} n no_right d r) rs =
      let w : LaterState (PairsOf ps s t p) s t m n = steps_paired P (PairsOf ps s t p) s t m n (states_match ps s t p) g d in
      let size : cells n.heap ≤ cells m.heap = omega (arith, c, w.moved.grown) in
      let one : Run P t (suc zero) n = (n, d, refl) in
      let kept = run_keeps_closed P (suc zero) t n closed named one in
      after_own h i s t m n s' t' calls others no_left g u no_right d (passes_too P w.now m n None w.alike size u none_some)
      (follow h i m n s' t' calls others (states_pair ps w.now m n w.alike (λ x y i. w.moved.older x y (start_pair (StartOf ps s t) s.heap t.heap x y (inl i)))) size kept.0 kept.1 l e ls r rs)
  follow j k s t s' t' calls others p c closed named (remote_step {e = d} {calls = ds} {k = i} m a u l) e ls (asked {e = f} {calls = es} {k = h} n b r) rs =
      let next : PairedStates ps m n = pairs_restored P service ps s t m n d f p a b ls.0 rs.0.local in
      let grown : cells n.heap + cells s.heap ≤ cells m.heap + cells t.heap = pairs_grew_less P service ps s t m n d f p a b ls.0 rs.0 closed in
      let size : cells n.heap ≤ cells m.heap = omega (arith, c, grown) in
      after_remote h i s t m n s' t' d f ds es a u b (passes_too P (PairsOf ps m n next) m n None (states_match ps m n next) size u none_some)
      (follow h i m n s' t' ds es next size (restored_closed P service t n f b rs.0) (restored_named P service t n f b rs.0 closed named) l e ls.1 r rs.1)

  -- ---- where it comes to

  module _ (s s' t t' : State) (calls others : List Entry) (k j : ℕ) (f : Follows P service ps s s' calls k t t' others j) where
    abbrev at : AlikeState (PairsOf ps f.state t' f.paired) f.state t'
    at = states_match ps f.state t' f.paired

    pub end_reached : IsEnd t'.control → (k ≡ j) × (length calls ≡ length others) × PairedStates ps s' t' × (cells t'.heap ≤ cells s'.heap)
    end_reached e = go f.state f.next f.left f.after f.paired f.size (end_back (PairsOf ps f.state t' f.paired) _ _ at.control e) f.calls_apart f.steps_apart
      where
        go : (u : State) (next : List Entry) (left : ℕ) → LimitedRun P service u next left s' → PairedStates ps u t' → cells t'.heap ≤ cells u.heap → IsEnd u.control
            → calls ≡ f.made ++ next → k ≡ j + left → (k ≡ j) × (length calls ≡ length others) × PairedStates ps s' t' × (cells t'.heap ≤ cells s'.heap)
        go u next left there p c e ca st = (omega (arith, st), ap length (ca ∙ append-nil f.made) ∙ f.as_many, p, c)
        go u next left (own_step m no_left g v l) p c e ca st = absurd (no_step P u.control u m e g)
        go u next left (remote_step m a v l) p c e ca st = absurd (no_ask P service u a.asks e)

    pub more_steps : IsEnd s'.control → (IsEnd t'.control → ⊥) → suc j ≤ k
    more_steps e running = go f.state f.next f.left f.after f.steps_apart (λ i. running (end_over (PairsOf ps f.state t' f.paired) _ _ at.control i))
      where
        go : (u : State) (next : List Entry) (left : ℕ) → LimitedRun P service u next left s' → k ≡ j + left → (IsEnd u.control → ⊥) → suc j ≤ k
        go u next left there st running = absurd (running e)
        go u next left (own_step m no_left g v l) st running = omega (arith, st)
        go u next left (remote_step m a v l) st running = omega (arith, st)

    pub next_call : IsEnd s'.control → (b : Asks P service t') → NextCall P ps calls others t'.heap b.method (asked_args b)
    next_call e b = go f.state f.next f.left f.after f.paired f.size f.calls_apart
      where
        go : (u : State) (next : List Entry) (left : ℕ) → LimitedRun P service u next left s' → PairedStates ps u t' → cells t'.heap ≤ cells u.heap → calls ≡ f.made ++ next
            → NextCall P ps calls others t'.heap b.method (asked_args b)
        go u next left there p c ca = absurd (no_ask P service t' b (end_over (PairsOf ps u t' p) _ _ (states_match ps u t' p).control e))
        go u next left (own_step m no_left g v l) p c ca = absurd (no_left (asks_too P service (Back (PairsOf ps u t' p)) t' u (state_back (PairsOf ps u t' p) u t' (states_match ps u t' p)) b).asks)
        go u next left (remote_step {e = d} {calls = ds} m a v l) p c ca =
            let both : AsksAlike (PairsOf ps u t' p) P service u t' a.asks b = asks_alike P service (PairsOf ps u t' p) u t' (states_match ps u t' p) a.asks b in
            record {
              made = f.made;
              entry = d;
              later = ds;
              calls_apart = ca;
              as_many = f.as_many;
              one_method = a.method ∙ both.method;
              paired = subst (λ us. PairedCalls ps d.before us t'.heap (asked_args b)) (sym a.args)
                  (subst (λ h. PairedCalls ps h (asked_args a.asks) t'.heap (asked_args b)) (sym a.before)
                  (alike_calls ps (PairsOf ps u t' p) u.heap t'.heap (states_match ps u t' p).heap (asked_args a.asks) (asked_args b) both.args
                  (λ x y i. start_pair (StartOf ps u t') u.heap t'.heap x y (inl i))));
              size = subst (λ h. cells t'.heap ≤ cells h) (sym a.before) c;
            }

    -- the other's next step of its own passes no limit
    pub step_passes : IsEnd s'.control → (n : State) → (Asks P service t' → ⊥) → Step P t' n → passed P n ≡ None
    step_passes e n no_right d = go f.state f.next f.left f.after f.paired f.size
      where
        go : (u : State) (next : List Entry) (left : ℕ) → LimitedRun P service u next left s' → PairedStates ps u t' → cells t'.heap ≤ cells u.heap → passed P n ≡ None
        go u next left there p c = absurd (no_step P t'.control t' n (end_over (PairsOf ps u t' p) _ _ (states_match ps u t' p).control e) d)
        go u next left (own_step m no_left g v l) p c =
            let w : LaterState (PairsOf ps u t' p) u t' m n = steps_paired P (PairsOf ps u t' p) u t' m n (states_match ps u t' p) g d in
            let size : cells n.heap ≤ cells m.heap = omega (arith, c, w.moved.grown) in
            passes_too P w.now m n None w.alike size v none_some
        go u next left (remote_step m a v l) p c = absurd (no_right (asks_too P service (PairsOf ps u t' p) u t' (states_match ps u t' p) a.asks).asks)

    -- nor does an answer that is restored
    pub answer_passes : IsEnd s'.control → AllLocal P calls → (n : State) (i : Entry) → AskStep P service t' i n → IsRestored P i → passed P n ≡ None
    answer_passes e ls n i b r = go f.state f.next f.left f.after f.paired f.size f.calls_apart
      where
        go : (u : State) (next : List Entry) (left : ℕ) → LimitedRun P service u next left s' → PairedStates ps u t' → cells t'.heap ≤ cells u.heap → calls ≡ f.made ++ next → passed P n ≡ None
        go u next left there p c ca = absurd (no_ask P service t' b.asks (end_over (PairsOf ps u t' p) _ _ (states_match ps u t' p).control e))
        go u next left (own_step m no_left g v l) p c ca = absurd (no_left (asks_too P service (Back (PairsOf ps u t' p)) t' u (state_back (PairsOf ps u t' p) u t' (states_match ps u t' p)) b.asks).asks)
        go u next left (remote_step {e = d} {calls = ds} m a v l) p c ca =
            let one : IsLocal P d = local_among P f.made d ds (subst (AllLocal P) ca ls) in
            let next : PairedStates ps m n = pairs_restored P service ps u t' m n d i p a b one r.local in
            let grown : cells n.heap + cells u.heap ≤ cells m.heap + cells t'.heap = pairs_grew_less P service ps u t' m n d i p a b one r f.closed in
            let size : cells n.heap ≤ cells m.heap = omega (arith, c, grown) in
            passes_too P (PairsOf ps m n next) m n None (states_match ps m n next) size v none_some

-- ---- heaps stay closed

take_names : (n : ℕ) (vs : List Value) (i x : ℕ) → name_at (take n vs) i ≡ Some x → name_at vs i ≡ Some x
take_names zero vs i x e = absurd (none_some e)
take_names (suc n) [] i x e = e
take_names (suc n) (v ∷ vs) zero x e = e
take_names (suc n) (v ∷ vs) (suc i) x e = take_names n vs i x e

module _ (P : ProgramTables) (service : Option ℕ) where
  args_held : (t : State) (a : Asks P service t) → ((x : ℕ) → NamedIn t.control x → get t.heap x ≢ None) → (x : ℕ) → Holds (asked_args a) x → get t.heap x ≢ None
  args_held t a held x h = held x (subst (λ c. NamedIn c x) (sym a.running) (inr (inl (h.0, take_names (operands_of a.info) a.frame.operands h.0 x h.1))))

  pub stays_closed : (k : ℕ) (s t : State) (calls : List Entry) → AskRun P service s calls k t → AllRestored P calls → IsClosed s.heap → ((x : ℕ) → NamedIn s.control x → get s.heap x ≢ None)
      → AllClosed calls × IsClosed t.heap × ((x : ℕ) → NamedIn t.control x → get t.heap x ≢ None)
  stays_closed k s t calls arrived rs closed held = (tt, closed, held)
  stays_closed k s t calls (own {k = i} n no_ask d r) rs closed held =
      let one : Run P s (suc zero) n = (n, d, refl) in
      let kept = run_keeps_closed P (suc zero) s n closed held one in
      stays_closed i n t calls r rs kept.0 kept.1
  stays_closed k s t calls (asked {e = e} {calls = es} {k = i} n b r) rs closed held =
      let on = stays_closed i n t es r rs.1 (restored_closed P service s n e b rs.0) (restored_named P service s n e b rs.0 closed held) in
      let args : (x : ℕ) → Holds e.args x → get s.heap x ≢ None = λ x h. args_held s b.asks held x (subst (λ vs. Holds vs x) b.args h) in
      (((subst IsClosed (sym b.before) closed, subst (λ (h : Heap). (x : ℕ) → Holds e.args x → get h x ≢ None) (sym b.before) args), on.0), on.1, on.2)
