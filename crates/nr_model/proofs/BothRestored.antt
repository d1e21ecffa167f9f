-- Two machines whose remote calls were each answered by what a local run left, but for names, as restores leave it: they
-- stay paired, and the second grew by no more than the first.
use Rattle.std.proofs.Common.{◌≡◌, ◌≢◌, ℕ, ◌+◌, ◌≤◌, ◌⊎◌, List, [], ◌∷◌, length, refl, sym, ap, subst, ◌∙◌, inl, inr}
use Rattle.std.specs.Prelude.{Option, Some, None}
use Rattle.std.specs.FinMap.{get}
use Rattle.nr_model.specs.Heaps.{Obj, on_some, cells}
use Rattle.nr_model.specs.States.{State}
use Rattle.nr_model.specs.Alike.{AlikeResult}
use Rattle.nr_model.specs.Pairs.{name_at, slot_name, leads, IsClosed, InResults}
use Rattle.nr_linked.specs.declared.program.tables.ProgramTables.{ProgramTables}
use Rattle.nr_model.specs.Same.{Same}
use Rattle.nr_model.specs.LocalEntries.{IsLocal, IsOwn}
use Rattle.nr_model.specs.Asks.{asked_args, Answered, Entry, AskStep}
use Rattle.nr_model.specs.Locals.{Local}
use Rattle.nr_model.proofs.Heaps.{held_left, held_right, sum_left}
use Rattle.nr_model.proofs.Matchings.{Matched, AlikeState}
use Rattle.nr_model.proofs.Paths.{some_eq, bound, paired_matched}
use Rattle.nr_model.proofs.Kept.{result_match}
use Rattle.nr_model.proofs.Copies.{some_there}
use Rattle.nr_model.proofs.Runs.{LaterState}
use Rattle.nr_model.proofs.Relations.{Through, matched_through, state_through, Back, back_matched, result_back, state_back, path_over, result_over}
use Rattle.nr_model.proofs.AllLocal.{J, in_j, same_here, answered, led, after_local, beside}
use Rattle.nr_model.proofs.OwnRuns.{NextAlike, here, there, R, first_here, first_there, run_here, run_there, later, results, own_alike}
use Rattle.nr_model.proofs.Staying.{run_stays}
use Rattle.nr_model.proofs.Sizes.{HasLong, alike_long, grown_less}

-- the entry answered by just what its local run left
abbrev own_entry : (P : ProgramTables) (e : Entry) → IsLocal P e → Entry
own_entry P e l = record { method = e.method; args = e.args; before = e.before; answer = Answered l.state.heap l.result l.state.printed }

abbrev own_of : (P : ProgramTables) (e : Entry) (l : IsLocal P e) → IsOwn P (own_entry P e l)
own_of P e l = record { steps = l.steps; state = l.state; result = l.result; local = l.local; returned = l.returned; answer = refl }

module _ (P : ProgramTables) (service : Option ℕ) (Q : ℕ → ℕ → Type 0) (s t m n : State) (d e : Entry) (q : AlikeState Q s t)
    (a : AskStep P service s d m) (b : AskStep P service t e n) (l : IsLocal P d) (r : IsLocal P e) where
  abbrev back : AlikeState (Back Q) t s
  back = state_back Q s t q

  -- where the two machines would stand after their local runs
  abbrev mine : State
  mine = after_local P service Q s t m d q a l

  abbrev theirs : State
  theirs = after_local P service (Back Q) t s n e back b r

  abbrev step_mine : AskStep P service s (own_entry P d l) mine
  step_mine = record { asks = a.asks; method = a.method; args = a.args; before = a.before; answer = (refl, (led P service Q s t m d q a l).1, refl) }

  abbrev step_theirs : AskStep P service t (own_entry P e r) theirs
  step_theirs = record { asks = b.asks; method = b.method; args = b.args; before = b.before; answer = (refl, (led P service (Back Q) t s n e back b r).1, refl) }

  both_own : NextAlike Q mine theirs
  both_own = own_alike P service Q s t mine theirs (own_entry P d l) (own_entry P e r) q step_mine step_theirs (own_of P d l) (own_of P e r)

  abbrev JL : ℕ → ℕ → Type 0
  JL = J P service Q s t m d q a l

  abbrev JR : ℕ → ℕ → Type 0
  JR = J P service (Back Q) t s n e back b r

  left_old : (x y : ℕ) → Q x y → JL x x
  left_old x y i = in_j P service Q s t m d q a l x x (inl (held_left Q _ _ (q.heap.alike x y i), refl))

  right_old : (x y : ℕ) → Q x y → JR y y
  right_old x y i = in_j P service (Back Q) t s n e back b r y y (inl (held_right Q _ _ (q.heap.alike x y i), refl))

  pub restored_alike : NextAlike Q m n
  restored_alike =
      let right : AlikeState JR theirs n = beside P service (Back Q) t s n e back b r in
      let left : AlikeState (Back JL) m mine = state_back JL mine m (beside P service Q s t m d q a l) in
      let both : AlikeState (Through both_own.now JR) mine n = state_through both_own.now JR mine theirs n both_own.alike right in
      record {
        now = Through (Back JL) (Through both_own.now JR);
        older = λ x y i. record { by = x; first = left_old x y i; second = record { by = y; first = both_own.older x y i; second = right_old x y i } };
        alike = state_through (Back JL) (Through both_own.now JR) m mine n left both;
      }

  -- ---- what is new on the right

  w : LaterState (R P service Q s t mine theirs (own_entry P d l) (own_entry P e r) q step_mine step_theirs (own_of P d l) (own_of P e r))
      (first_here P service Q s t mine theirs (own_entry P d l) (own_entry P e r) q step_mine step_theirs (own_of P d l) (own_of P e r))
      (first_there P service Q s t mine theirs (own_entry P d l) (own_entry P e r) q step_mine step_theirs (own_of P d l) (own_of P e r)) l.state r.state
  w = later P service Q s t mine theirs (own_entry P d l) (own_entry P e r) q step_mine step_theirs (own_of P d l) (own_of P e r)

  abbrev S : ℕ → ℕ → Type 0
  S = w.now

  abbrev on_left : Local P s.heap a.asks.method (asked_args a.asks) l.steps l.state
  on_left = here P service Q s t mine theirs (own_entry P d l) (own_entry P e r) q step_mine step_theirs (own_of P d l) (own_of P e r)

  abbrev on_right : Local P t.heap b.asks.method (asked_args b.asks) r.steps r.state
  on_right = there P service Q s t mine theirs (own_entry P d l) (own_entry P e r) q step_mine step_theirs (own_of P d l) (own_of P e r)

  run_results : AlikeResult S l.result r.result
  unfolding w
  run_results = results P service Q s t mine theirs (own_entry P d l) (own_entry P e r) q step_mine step_theirs (own_of P d l) (own_of P e r)

  ml : Matched JL l.state.heap l.after
  ml = paired_matched _ _ _ (same_here P service Q s t m d q a l).heaps

  mr : Matched JR r.state.heap r.after
  mr = paired_matched _ _ _ (same_here P service (Back Q) t s n e back b r).heaps

  ms : Matched S l.state.heap r.state.heap
  ms = w.alike.heap

  -- the name on the right has one beside it that the call on the left gave back
  record Good (y : ℕ) : Type 0 where
    left : ℕ
    after : ℕ
    related : S left y
    restored : JL left after

  good_on : (path : List ℕ) (y z : ℕ) → Good y → leads r.state.heap path y ≡ Some z → Good z
  good_on path y z g e =
      let x = path_over (Back S) r.state.heap l.state.heap (back_matched S _ _ ms) path y g.left z g.related e in
      let c = path_over JL l.state.heap l.after ml path g.left g.after x.0 g.restored x.1 in
      record { left = x.0; after = c.0; related = x.2; restored = c.2 }

  good_related : (x y : ℕ) → Q x y → Good y
  good_related x y i = record { left = x; after = x; related = w.moved.older x y (inl i); restored = left_old x y i }

  good_result : (y z : ℕ) → InResults r.result r.value y z → Good y
  good_result y z i =
      let x = result_over (Back S) r.state.heap l.state.heap (back_matched S _ _ ms) r.result l.result y (result_back S l.result r.result run_results) i.0 in
      let given : AlikeResult JL l.result l.value = result_match JL l.result l.value (same_here P service Q s t m d q a l).results (λ x y i. in_j P service Q s t m d q a l x y (inr i)) in
      let c = result_over JL l.state.heap l.after ml l.result l.value x.0 given x.1 in
      record { left = x.0; after = c.0; related = x.2; restored = c.2 }

  -- an old name that isn't so has the object that it had
  right_kept : (y : ℕ) → get t.heap y ≢ None → (Good y → ⊥) → get r.state.heap y ≡ get t.heap y
  right_kept y old fails =
      let there : get on_right.heap y ≢ None = (λ i. old (sym (on_right.copies.old y old) ∙ i)) in
      w.moved.right.outside y there (λ i. sum_left i.1 (λ p. fails (good_related i.0 y p)) (λ c. old (on_right.copies.new c.right y c.on_right))) ∙ on_right.copies.old y old

  -- from an old name a path leads to such a name, or to an old one; which of them isn't decided
  from_old : IsClosed t.heap → (path : List ℕ) (y z : ℕ) → get t.heap y ≢ None → leads r.state.heap path y ≡ Some z → (Good z ⊎ (get t.heap z ≢ None) → ⊥) → ⊥
  from_old closed [] y z old i fails = fails (inr (subst (λ z. get t.heap z ≢ None) (some_eq i) old))
  from_old closed (j ∷ path) y z old i fails =
      let c = bound (slot_name r.state.heap y j) (leads r.state.heap path) z i in
      let same : get r.state.heap y ≡ get t.heap y = right_kept y old (λ g. fails (inl (good_on (j ∷ path) y z g i))) in
      from_old closed path c.0 z (closed y j c.0 (ap (λ o. on_some o None (λ o. name_at o.slots j)) (sym same) ∙ c.1)) c.2 fails

  -- an old name is restored under itself
  right_itself : (y z : ℕ) → get t.heap y ≢ None → JR y z → get t.heap z ≢ None
  right_itself y z old i = subst (λ z. get t.heap z ≢ None) (mr.one_right y y z (in_j P service (Back Q) t s n e back b r y y (inl (old, refl))) i) old

  good_pair : IsClosed t.heap → (y z : ℕ) → JR y z → get t.heap z ≡ None → (Good y → ⊥) → ⊥
  good_pair closed y z p new fails = sum_left p.start
      (λ i. from_old closed p.path p.from_left y i.0 p.to_left (λ g. sum_left g fails (λ old. right_itself y z old p new)))
      (λ i. fails (good_on p.path p.from_left y (good_result p.from_left p.from_right i) p.to_left))

  -- what comes of a new name is new
  new_left : (y z : ℕ) (g : Good y) → JR y z → get t.heap z ≡ None → get s.heap g.after ≡ None
  new_left y z g p new = go (get s.heap g.after) refl
    where
      old_right : Q g.left y → ⊥
      old_right i = right_itself y z (held_right Q _ _ (q.heap.alike g.left y i)) p new

      not_old : get s.heap g.after ≢ None → ⊥
      not_old old =
          let itself : JL g.after g.after = in_j P service Q s t m d q a l g.after g.after (inl (old, refl)) in
          let same : g.left ≡ g.after = ml.one_left g.left g.after g.after g.restored itself in
          let old_left : get s.heap g.left ≢ None = subst (λ x. get s.heap x ≢ None) (sym same) old in
          sum_left (w.moved.newer g.left y g.related)
          (λ i. sum_left i old_right (λ c. old_left (on_left.copies.new c.left g.left c.on_left)))
          (λ i. old_left (sym (on_left.copies.old g.left old_left) ∙ i.0))

      go : (o : Option Obj) → get s.heap g.after ≡ o → get s.heap g.after ≡ None
      go None f = f
      go (Some o) f = absurd (not_old (some_there f))

  -- ---- lengths

  kept_left : (x : ℕ) (o : Obj) → get s.heap x ≡ Some o → HasLong l.after x (length o.slots)
  kept_left x o f =
      let old : get s.heap x ≢ None = some_there f in
      let st = (run_stays P l.steps (first_here P service Q s t mine theirs (own_entry P d l) (own_entry P e r) q step_mine step_theirs (own_of P d l) (own_of P e r)) l.state
      (run_here P service Q s t mine theirs (own_entry P d l) (own_entry P e r) q step_mine step_theirs (own_of P d l) (own_of P e r))).at x o (on_left.copies.old x old ∙ f) in
      let c = alike_long JL (get l.state.heap x) (get l.after x) st.0 (ml.alike x x (in_j P service Q s t m d q a l x x (inl (old, refl)))) st.1 in
      (c.0, c.1, c.2 ∙ st.3)

  kept_right : (x : ℕ) (o : Obj) → get t.heap x ≡ Some o → HasLong r.after x (length o.slots)
  kept_right x o f =
      let old : get t.heap x ≢ None = some_there f in
      let st = (run_stays P r.steps (first_there P service Q s t mine theirs (own_entry P d l) (own_entry P e r) q step_mine step_theirs (own_of P d l) (own_of P e r)) r.state
      (run_there P service Q s t mine theirs (own_entry P d l) (own_entry P e r) q step_mine step_theirs (own_of P d l) (own_of P e r))).at x o (on_right.copies.old x old ∙ f) in
      let c = alike_long JR (get r.state.heap x) (get r.after x) st.0 (mr.alike x x (in_j P service (Back Q) t s n e back b r x x (inl (old, refl)))) st.1 in
      (c.0, c.1, c.2 ∙ st.3)

  -- ---- the growth

  abbrev Now : ℕ → ℕ → Type 0
  Now = Through (Back JL) (Through S JR)

  now : Matched Now l.after r.after
  now = matched_through (Back JL) (Through S JR) l.after l.state.heap r.after (back_matched JL _ _ ml) (matched_through S JR l.state.heap r.state.heap r.after ms mr)

  pub grew_less : Same t.heap r.state.heap r.result r.after r.value → IsClosed t.heap → cells n.heap + cells s.heap ≤ cells m.heap + cells t.heap
  grew_less same closed =
      subst (λ h. cells h + cells s.heap ≤ cells m.heap + cells t.heap) (sym (answered P service (Back Q) t s n e back b r).0)
      (subst (λ h. cells r.after + cells s.heap ≤ cells h + cells t.heap) (sym (answered P service Q s t m d q a l).0)
      (grown_less s.heap l.after t.heap r.after (Back Now) (λ x y z i j. now.one_right z x y i j) kept_left kept_right new))
    where
      new : (z : ℕ) (o : Obj) → get r.after z ≡ Some o → get t.heap z ≡ None → (((c : ℕ) × Back Now z c × (get s.heap c ≡ None) × HasLong l.after c (length o.slots)) → ⊥) → ⊥
      new z o f fresh fails = sum_left (same.names z (some_there f)) (λ old. old fresh)
          (λ y. good_pair closed y.0 z y.1 fresh (λ g.
          let i : Now g.after z = record { by = g.left; first = g.restored; second = record { by = y.0; first = g.related; second = y.1 } } in
          fails (g.after, i, new_left y.0 z g y.1 fresh, alike_long (Back Now) (get r.after z) (get l.after g.after) o ((back_matched Now l.after r.after now).alike z g.after i) f)))
