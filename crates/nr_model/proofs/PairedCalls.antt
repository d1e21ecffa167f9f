-- Calls of one method from two heaps that agree but for names: they start alike, and so do they in the parts that they
-- reach, which have one size.
use Rattle.std.proofs.Common.{◌≡◌, ◌≢◌, ℕ, ◌≤◌, List, [], ◌∷◌, ◌++◌, length, refl, sym, ap, subst, subst₂, ◌∙◌, arith, inl, inr}
use Rattle.std.specs.Prelude.{Option, Some, None, IsSomeAnd, IsTrue}
use Rattle.std.specs.FinMap.{get}
use Rattle.nr_linked.specs.declared.program.tables.MethodInfo.{MethodInfo}
use Rattle.nr_linked.specs.declared.program.tables.ProgramTables.{ProgramTables}
use Rattle.nr_linked.specs.Programs.{method_at}
use Rattle.nr_linked.specs.Restorable.{is_restorable}
use Rattle.nr_model.specs.declared.value.Value.{Value}
use Rattle.nr_model.specs.Heaps.{Obj, Heap, on_some, cells}
use Rattle.nr_model.specs.States.{State}
use Rattle.nr_model.specs.Outcomes.{Fate, CallOutcome, too_deep, begun}
use Rattle.nr_model.specs.Alike.{AllLike, no_more, AlikeAt, alike_at, no_frame, one_frame, both_run, Any}
use Rattle.nr_model.specs.Pairs.{AtPlace, name_at, slot_name, Reach, Holds, IsPair, Listed, PairedStates, leads}
use Rattle.nr_model.specs.Locals.{start_of, Begins}
use Rattle.nr_model.specs.LocalEntries.{AllRestorable}
use Rattle.nr_model.specs.PairedCalls.{ListedOrArgs, PairedCalls, IsPart}
use Rattle.nr_model.proofs.Heaps.{at_more, all_more, sum_left}
use Rattle.nr_model.proofs.Matchings.{Matched, AlikeState}
use Rattle.nr_model.proofs.Pairing.{lengths}
use Rattle.nr_model.proofs.Paths.{bound, none_some, some_eq, leads_on, names_match, at_match, slot_matched, paired_matched, matched_paired}
use Rattle.nr_model.proofs.Frames.{locals_like}
use Rattle.nr_model.proofs.Kept.{start_pair, states_pair}
use Rattle.nr_model.proofs.Relations.{Back, back_matched, all_back, slot_over}
use Rattle.nr_model.proofs.Copies.{reach_over}
use Rattle.nr_model.proofs.Outcomes.{pairs_call, pairs_call_cells, pairs_call_too}
use Rattle.nr_model.proofs.Sizes.{alike_long, fewer_cells}

-- a matching that holds the listed pairs and relates the arguments pairs the calls
pub alike_calls : (ps : List (ℕ × ℕ)) (Q : ℕ → ℕ → Type 0) (h k : Heap) → Matched Q h k → (us vs : List Value) → AllLike Q us vs → ((x y : ℕ) → Listed ps x y → Q x y) → PairedCalls ps h us k vs
alike_calls ps Q h k m us vs like listed = record {
  args = all_more Q Any (λ x y r. tt) us vs like;
  heaps = matched_paired (ListedOrArgs ps us vs) Q h k m (λ x y i. sum_left i (listed x y) (λ a. slot_matched Q h k m us vs a.0 x y like a.1 a.2));
}

module _ (ps : List (ℕ × ℕ)) (h k : Heap) (us vs : List Value) (p : PairedCalls ps h us k vs) where
  abbrev pub CallPairs : ℕ → ℕ → Type 0
  CallPairs = IsPair (ListedOrArgs ps us vs) h k

  pub calls_match : Matched CallPairs h k
  calls_match = paired_matched (ListedOrArgs ps us vs) h k p.heaps

  pub args_match : AllLike CallPairs us vs
  args_match = names_match CallPairs us vs p.args (λ i x y e f. start_pair (ListedOrArgs ps us vs) h k x y (inr (i, e, f)))

  -- ---- the starts

  pub call_starts : (P : ProgramTables) (m : ℕ) (s t : State) → Begins P h m us s → Begins P k m vs t → PairedStates ps s t
  call_starts P m s t bs bt = go (method_at P m) bs bt
    where
      started : (i : MethodInfo) → PairedStates ps (start_of i m h us) (start_of i m k vs)
      started i =
          let alike : AlikeState CallPairs (start_of i m h us) (start_of i m k vs) = record {
            heap = calls_match;
            control = both_run (one_frame (record { method = refl; offset = refl; locals = locals_like CallPairs i us vs args_match; operands = no_more }) no_frame);
            printed = refl;
          } in
          states_pair ps CallPairs (start_of i m h us) (start_of i m k vs) alike (λ x y l. start_pair (ListedOrArgs ps us vs) h k x y (inl l))

      go : (o : Option MethodInfo) → IsSomeAnd o (λ i. s ≡ start_of i m h us) → IsSomeAnd o (λ i. t ≡ start_of i m k vs) → PairedStates ps s t
      go None bs bt = absurd bs
      go (Some i) bs bt = subst₂ (PairedStates ps) (sym bs) (sym bt) (started i)

  -- ---- what they restore

  kind_over : (P : ProgramTables) (o q : Option Obj) → AlikeAt CallPairs o q → IsSomeAnd o (λ o. IsTrue (is_restorable P o.kind)) → IsSomeAnd q (λ o. IsTrue (is_restorable P o.kind))
  kind_over P o q (alike_at b) r = subst (λ k. IsTrue (is_restorable P k)) b.kind r

  pub calls_restorable : (P : ProgramTables) → AllRestorable P h us → AllRestorable P k vs
  calls_restorable P all y i =
      let back : Matched (Back CallPairs) k h = back_matched CallPairs h k calls_match in
      let x = slot_over (Back CallPairs) k h back vs us i.0 y (all_back CallPairs us vs args_match) i.1 in
      (i, kind_over P (get h x.0) (get k y) (calls_match.alike x.0 y x.2) (all x.0 (i.0, x.1)).1)

  -- ---- the parts that they reach

  module _ (part part' : Heap) (c : IsPart h us part) (d : IsPart k vs part') where
    abbrev In : ℕ → ℕ → Type 0
    In x y = CallPairs x y × Reach h (Holds us) x × Reach k (Holds vs) y

    on_reach : (g : Heap) (ws : List Value) (x i b : ℕ) → Reach g (Holds ws) x → slot_name g x i ≡ Some b → Reach g (Holds ws) b
    on_reach g ws x i b r e = (r.0, r.1, r.2 ++ i ∷ [], leads_on g r.2 i r.0 x r.3 ∙ e)

    slots_matched : (o q : Option Obj) (i b e : ℕ) → AlikeAt CallPairs o q → on_some o None (λ o. name_at o.slots i) ≡ Some b → on_some q None (λ o. name_at o.slots i) ≡ Some e → CallPairs b e
    slots_matched o q i b e (alike_at a) f g = slot_matched CallPairs h k calls_match _ _ i b e a.slots f g

    in_at : (x y : ℕ) → In x y → AlikeAt In (get part x) (get part' y)
    in_at x y i = subst₂ (AlikeAt In) (sym (c.reached x i.1)) (sym (d.reached y i.2))
        (at_match In (get h x) (get k y) (at_more CallPairs Any (λ x y r. tt) _ _ (calls_match.alike x y i.0))
        (λ j b e f g. (slots_matched (get h x) (get k y) j b e (calls_match.alike x y i.0) f g, on_reach h us x j b i.1 f, on_reach k vs y j e i.2 g)))

    in_matched : Matched In part part'
    in_matched = record {
      one_right = λ x y z r s. calls_match.one_right x y z r.0 s.0;
      one_left = λ x y z r s. calls_match.one_left x y z r.0 s.0;
      alike = in_at;
    }

    rooted : (x y i : ℕ) → name_at us i ≡ Some x → name_at vs i ≡ Some y → In x y
    rooted x y i e f = (start_pair (ListedOrArgs ps us vs) h k x y (inr (i, e, f)), (x, (i, e), [], refl), (y, (i, f), [], refl))

    args_in : AllLike In us vs
    args_in = names_match In us vs p.args (λ i x y e f. rooted x y i e f)

    -- the names to which one path leads from one place of the arguments
    rooted_pair : (x y : ℕ) → IsPair (AtPlace us vs) h k x y → In x y
    rooted_pair x y i = (
      record { from_left = i.from_left; from_right = i.from_right; start = inr i.start; path = i.path; to_left = i.to_left; to_right = i.to_right },
      (i.from_left, (i.start.0, i.start.1), i.path, i.to_left),
      (i.from_right, (i.start.0, i.start.2), i.path, i.to_right),
    )

    pub parts_paired : (qs : List (ℕ × ℕ)) → ((x y : ℕ) → Listed qs x y → IsPair (AtPlace us vs) h k x y) → PairedCalls qs part us part' vs
    parts_paired qs listed = alike_calls qs In part part' in_matched us vs args_in (λ x y i. rooted_pair x y (listed x y i))

    to_right : (x : ℕ) → get part x ≢ None → (y : ℕ) × In x y
    to_right x n =
        let r = c.no_more x n in
        let y = reach_over CallPairs h k calls_match us vs args_match x r in
        (y.0, (y.1, r, y.2))

    to_left : (y : ℕ) → get part' y ≢ None → (x : ℕ) × In x y
    to_left y n =
        let r = d.no_more y n in
        let x = reach_over (Back CallPairs) k h (back_matched CallPairs h k calls_match) vs us (all_back CallPairs us vs args_match) y r in
        (x.0, (x.1, x.2, r))

    pub parts_one_size : cells part ≡ cells part'
    parts_one_size =
        let less : cells part ≤ cells part' = fewer_cells In in_matched.one_left part part' (λ x o e.
        let y = to_right x (λ n. none_some (sym n ∙ e)) in
        (y.0, y.1, alike_long In (get part x) (get part' y.0) o (in_at x y.0 y.1) e)) in
        let more : cells part' ≤ cells part = fewer_cells (Back In) (λ x y z a b. in_matched.one_right z x y a b) part' part (λ y o e.
        let x = to_left y (λ n. none_some (sym n ∙ e)) in
        (x.0, x.1, alike_long (Back In) (get part' y) (get part x.0) o ((back_matched In part part' in_matched).alike y x.0 x.1) e)) in
        omega (arith, less, more)

    -- each object of one part has its kind and length in the other
    pub parts_kinds : (y : ℕ) (q : Obj) → get part' y ≡ Some q → (x : ℕ) × (o : Obj) × (get part x ≡ Some o) × (o.kind ≡ q.kind) × (length o.slots ≡ length q.slots)
    parts_kinds y q e =
        let x = to_left y (λ n. none_some (sym n ∙ e)) in
        let w = find_kind (get part x.0) (get part' y) (in_at x.0 y x.1) e in
        (x.0, w.0, w.1, w.2, w.3)
      where
        find_kind : (a b : Option Obj) → AlikeAt In a b → b ≡ Some q → (o : Obj) × (a ≡ Some o) × (o.kind ≡ q.kind) × (length o.slots ≡ length q.slots)
        find_kind a b (alike_at {o = u} {p = v} s) e = (u, refl, s.kind ∙ ap (λ (o : Obj). o.kind) (some_eq e), lengths In _ _ s.slots ∙ ap (λ (o : Obj). length o.slots) (some_eq e))

-- ---- their outcomes

outcome_begins : (P : ProgramTables) (h : Heap) (m : ℕ) (us : List Value) (b n : ℕ) (f : Fate) (s' : State) → CallOutcome P h m us b n f s' → (s : State) × Begins P h m us s
outcome_begins P h m us b n f s' (too_deep {s = s} p e) = (s, p)
outcome_begins P h m us b n f s' (begun s p e o) = (s, p)

other_begins : (P : ProgramTables) (h k : Heap) (m : ℕ) (us vs : List Value) (s : State) → Begins P h m us s → (t : State) × Begins P k m vs t
other_begins P h k m us vs s p = go (method_at P m) p
  where
    go : (q : Option MethodInfo) → IsSomeAnd q (λ i. s ≡ start_of i m h us) → (t : State) × IsSomeAnd q (λ i. t ≡ start_of i m k vs)
    go None p = absurd p
    go (Some i) p = (start_of i m k vs, refl)

-- from heaps of one size, one outcome
pub call_outcomes : (P : ProgramTables) (ps : List (ℕ × ℕ)) (h k : Heap) (m : ℕ) (us vs : List Value) (b n : ℕ) (f : Fate) (s' : State) → PairedCalls ps h us k vs → cells h ≡ cells k → CallOutcome P h m us b n f s'
    → (t' : State) × CallOutcome P k m vs b n f t' × PairedStates ps s' t' × (cells s'.heap ≡ cells t'.heap)
call_outcomes P ps h k m us vs b n f s' p size o =
    let s = outcome_begins P h m us b n f s' o in
    let t = other_begins P h k m us vs s.0 s.1 in
    let a : PairedStates ps s.0 t.0 = call_starts ps h k us vs p P m s.0 t.0 s.1 t.1 in
    let w = pairs_call_too P ps h k m us vs s.0 t.0 s.1 t.1 a size s' b n f o in
    (w.0, w.1, (pairs_call P ps h k m us vs s.0 t.0 s.1 t.1 a size s' w.0 b n n f f o w.1).2, pairs_call_cells P ps h k m us vs s.0 t.0 s.1 t.1 a size s' w.0 b n n f f o w.1)

-- ---- a part is the part of itself

module _ (h : Heap) (us : List Value) (part : Heap) (c : IsPart h us part) where
  lead_in : (path : List ℕ) (a x : ℕ) → Reach h (Holds us) a → leads h path a ≡ Some x → leads part path a ≡ Some x
  lead_in [] a x r e = e
  lead_in (i ∷ path) a x r e =
      let b = bound (slot_name h a i) (leads h path) x e in
      let same : slot_name part a i ≡ slot_name h a i = ap (λ o. on_some o None (λ o. name_at o.slots i)) (c.reached a r) in
      let on : Reach h (Holds us) b.0 = (r.0, r.1, r.2 ++ i ∷ [], leads_on h r.2 i r.0 a r.3 ∙ b.1) in
      ap (λ o. on_some o None (leads part path)) (same ∙ b.1) ∙ lead_in path b.0 x on b.2

  pub part_of_itself : IsPart part us part
  part_of_itself = record { reached = λ x r. refl; no_more = λ x n. let r = c.no_more x n in (r.0, r.1, r.2, lead_in r.2 r.0 x (r.0, r.1, [], refl) r.3) }
