-- The local run's heap beside the client's after the restore.
use Rattle.std.proofs.Common.{◌≡◌, ◌≢◌, ℕ, ◌⊎◌, List, [], ◌∷◌, refl, sym, subst, subst₂, ◌∙◌, inl, inr}
use Rattle.std.specs.Prelude.{Option, Some, None}
use Rattle.std.specs.FinMap.{get}
use Rattle.nr_model.specs.declared.value.Value.{Value}
use Rattle.nr_model.specs.Heaps.{Heap}
use Rattle.nr_model.specs.States.{Frame, Control, Running, Returned, Thrown, State}
use Rattle.nr_model.specs.Alike.{AlikeAt, AlikeResult, AlikeControl, both_run, both_return, both_throw, Any}
use Rattle.nr_model.specs.Pairs.{slot_name, IsPair, Listed, StartOf, PairedStates}
use Rattle.nr_model.proofs.Matchings.{Matched, OnLeft, Moved}
use Rattle.nr_linked.specs.declared.program.tables.ProgramTables.{ProgramTables}
use Rattle.nr_model.specs.Steps.{Run}
use Rattle.nr_model.specs.Same.{OldAndResults, Same}
use Rattle.nr_model.specs.LocalEntries.{BackAndResults, RestoresPairs}
use Rattle.std.proofs.Math.Decide.{ℕ_discrete}
use Rattle.nr_model.proofs.Heaps.{sum_left, at_more}
use Rattle.nr_model.proofs.Paths.{at_match, paired_matched, matched_paired}
use Rattle.nr_model.proofs.Frames.{result_more}
use Rattle.nr_model.proofs.Runs.{LaterState, runs_paired}
use Rattle.nr_model.proofs.Kept.{PairsOf, states_match, start_pair, result_match, result_names}
use Rattle.nr_model.proofs.Reached.{any_at, both_eq}
use Rattle.nr_model.proofs.Relations.{Through, at_through, result_through, Back, back_matched, result_back, path_over, result_over}

-- R relates what the call reaches in h1 with the server's copies in h0. The run leads to S between hL, where the local run
-- ends, and hS. T relates the server's objects that came back with the client's in hR: the listed copies with the
-- originals, the others with new names. h1 has the names of the client's heap h, and those of its copies.
module _ (h h1 h0 hL hS hR : Heap) (R S T : ℕ → ℕ → Type 0)
    (s : Matched S hL hS) (m : Moved R h1 h0 S hL hS) (t : Matched T hS hR)
    (old : (x : ℕ) → get h x ≢ None → get h1 x ≡ get h x)
    (back : (x y : ℕ) → get h x ≢ None → R x y → T y x)
    (new : (y z : ℕ) → T y z → R z y ⊎ (get h z ≡ None))
    (rest : (x : ℕ) → get h x ≢ None → (OnLeft R x → ⊥) → get hR x ≡ get h x)
    (known : (x : ℕ) → OnLeft R x ⊎ (OnLeft R x → ⊥))
    (closed : (x i b : ℕ) → slot_name h x i ≡ Some b → get h b ≢ None) where
  -- an object that the call doesn't reach
  abbrev Apart : ℕ → ℕ → Type 0
  Apart x z = (x ≡ z) × (get h x ≢ None) × (OnLeft R x → ⊥)

  abbrev pub Joined : ℕ → ℕ → Type 0
  Joined x z = Through S T x z ⊎ Apart x z

  -- no name is both apart and joined by the server
  not_both_left : (x z u : ℕ) → Through S T x z → Apart x u → ⊥
  not_both_left x z u p a = sum_left (m.newer x p.by p.first) (λ r. a.2 (p.by, r)) (λ n. a.1 (sym (old x a.1) ∙ n.0))

  not_both_right : (x z u : ℕ) → Through S T x z → Apart u z → ⊥
  not_both_right x z u p a =
      sum_left (new p.by z p.second) (λ r. a.2 (subst (OnLeft R) (sym a.0) (p.by, r))) (λ n. a.1 (subst (λ z. get h z ≡ None) (sym a.0) n))

  joined_right : (x y z : ℕ) → Joined x y → Joined x z → y ≡ z
  joined_right x y z (inl p) (inl q) = t.one_right p.by y z p.second (subst (λ b. T b z) (s.one_right x q.by p.by q.first p.first) q.second)
  joined_right x y z (inl p) (inr b) = absurd (not_both_left x y z p b)
  joined_right x y z (inr a) (inl q) = absurd (not_both_left x z y q a)
  joined_right x y z (inr a) (inr b) = sym a.0 ∙ b.0

  joined_left : (x y z : ℕ) → Joined x z → Joined y z → x ≡ y
  joined_left x y z (inl p) (inl q) = s.one_left x y p.by p.first (subst (S y) (t.one_left q.by p.by z q.second p.second) q.first)
  joined_left x y z (inl p) (inr b) = absurd (not_both_right x z y p b)
  joined_left x y z (inr a) (inl q) = absurd (not_both_right y z x q a)
  joined_left x y z (inr a) (inr b) = a.0 ∙ sym b.0

  -- an old name is joined with itself
  pub old_joined : (x : ℕ) → get h x ≢ None → Joined x x
  old_joined x n = sum_left (known x) (λ r. inl (record { by = r.0; first = m.older x r.0 r.1; second = back x r.0 n r.1 })) (λ o. inr (refl, n, o))

  apart_at : (x : ℕ) → get h x ≢ None → AlikeAt Joined (get h x) (get h x)
  apart_at x n = at_match _ _ _ (any_at _ n) (λ i b c e f. subst (Joined b) (both_eq (slot_name h x i) b c e f) (old_joined b (closed x i b e)))

  joined_at : (x z : ℕ) → Joined x z → AlikeAt Joined (get hL x) (get hR z)
  joined_at x z (inl p) = at_more (Through S T) Joined (λ x z r. inl r) _ _ (at_through S T _ _ _ (s.alike x p.by p.first) (t.alike p.by z p.second))
  joined_at x z (inr a) =
      let there : get h1 x ≢ None = (λ e. a.1 (sym (old x a.1) ∙ e)) in
      let l : get hL x ≡ get h x = m.left.outside x there a.2 ∙ old x a.1 in
      rw l (subst (λ z. AlikeAt Joined (get h x) (get hR z)) a.0 (rw (rest x a.1 a.2) (apart_at x a.1)))

  pub joined : Matched Joined hL hR
  joined = record { one_right = joined_right; one_left = joined_left; alike = joined_at }

-- whether a name is the first of a listed pair
pub on_list : (ps : List (ℕ × ℕ)) (x : ℕ) → OnLeft (Listed ps) x ⊎ (OnLeft (Listed ps) x → ⊥)
on_list [] x = inr (λ i. i.1)
on_list (p ∷ ps) x = by (ℕ_discrete x p.0) (on_list ps x)
  where
    by : Dec (x ≡ p.0) → OnLeft (Listed ps) x ⊎ (OnLeft (Listed ps) x → ⊥) → OnLeft (Listed (p ∷ ps)) x ⊎ (OnLeft (Listed (p ∷ ps)) x → ⊥)
    by (yes e) o = inl (p.1, inl (e, refl))
    by (no n) (inl i) = inl (i.0, inr i.1)
    by (no n) (inr k) = inr (λ i. sum_left i.1 (λ e. n e.0) (λ l. k (i.0, l)))

-- two ends that returned have results that agree
pub returned_alike : (R : ℕ → ℕ → Type 0) (c d : Control) (u v : Option Value) → AlikeControl R c d → c ≡ Returned u → d ≡ Returned v → AlikeResult R u v
returned_alike R c d u v (both_run {fs} {gs} bs) e f = absurd (bad fs e)
  where
    bad : (fs : List Frame) → Running fs ≡ Returned u → ⊥
    bad fs e = cc
returned_alike R c d u v (both_return {u = x} {v = y} l) e f = subst₂ (AlikeResult R) (inside x u e) (inside y v f) l
  where
    inside : (x u : Option Value) → Returned x ≡ Returned u → x ≡ u
    inside x u e = cc
returned_alike R c d u v (both_throw {u = x} l) e f = absurd (bad x e)
  where
    bad : (x : Value) → Thrown x ≡ Returned u → ⊥
    bad x e = cc

module _ (P : ProgramTables) (n : ℕ) (ps : List (ℕ × ℕ)) (h : Heap) (s t s' t' : State) (u v : Option Value) (r : Heap) (w : Option Value)
    (a : PairedStates ps s t) (p : Run P s n s') (q : Run P t n t') (e : s'.control ≡ Returned u) (f : t'.control ≡ Returned v)
    (closed : (x i y : ℕ) → slot_name h x i ≡ Some y → get h y ≢ None)
    (old : (x : ℕ) → get h x ≢ None → get s.heap x ≡ get h x)
    (whole : (x y : ℕ) → IsPair (StartOf ps s t) s.heap t.heap x y → Listed ps x y)
    (k : RestoresPairs h ps t'.heap v r w) where
  abbrev R : ℕ → ℕ → Type 0
  R = PairsOf ps s t a

  abbrev T : ℕ → ℕ → Type 0
  T = IsPair (BackAndResults h ps v w) t'.heap r

  l : LaterState R s t s' t'
  l = runs_paired P n R s t s' t' (states_match ps s t a) p q

  abbrev S : ℕ → ℕ → Type 0
  S = l.now

  in_r : (x y : ℕ) → Listed ps x y → R x y
  in_r x y i = start_pair (StartOf ps s t) s.heap t.heap x y (inl i)

  mt : Matched T t'.heap r
  mt = paired_matched _ _ _ k.heaps

  back : (x y : ℕ) → get h x ≢ None → R x y → T y x
  back x y n i = start_pair (BackAndResults h ps v w) t'.heap r y x (inl (whole x y i, n))

  new : (y z : ℕ) → T y z → R z y ⊎ (get h z ≡ None)
  new y z i = sum_left (k.new y z i) (λ j. inl (in_r z y j)) (λ j. inr j)

  rest : (x : ℕ) → get h x ≢ None → (OnLeft R x → ⊥) → get r x ≡ get h x
  rest x n o = k.rest x n (λ y i. o (y, in_r x y i))

  known : (x : ℕ) → OnLeft R x ⊎ (OnLeft R x → ⊥)
  known x = sum_left (on_list ps x) (λ i. inl (i.0, in_r x i.0 i.1)) (λ o. inr (λ i. o (i.0, whole x i.0 i.1)))

  abbrev J : ℕ → ℕ → Type 0
  J = Joined h s.heap t.heap s'.heap t'.heap r R S T l.alike.heap l.moved mt old back new rest known closed

  run_results : AlikeResult S u v
  run_results = returned_alike S s'.control t'.control u v l.alike.control e f

  -- one place of the restored names and the result
  beside : (y z : ℕ) → BackAndResults h ps v w y z → (x : ℕ) × OldAndResults h u w x z × S x y
  beside y z (inl i) = (z, inl (i.1, refl), l.moved.older z y (in_r z y i.0))
  beside y z (inr i) =
      let x = result_over (Back S) t'.heap s'.heap (back_matched S s'.heap t'.heap l.alike.heap) v u y (result_back S u v run_results) i.0 in
      (x.0, inr (x.1, i.1), x.2)

  names : (z : ℕ) → (y : ℕ) × T y z → (x : ℕ) × IsPair (OldAndResults h u w) s'.heap r x z
  names z i =
      let b = beside i.1.from_left i.1.from_right i.1.start in
      let x = path_over (Back S) t'.heap s'.heap (back_matched S s'.heap t'.heap l.alike.heap) i.1.path i.1.from_left b.0 i.0 b.2 i.1.to_left in
      (x.0, record { from_left = b.0; from_right = i.1.from_right; start = b.1; path = i.1.path; to_left = x.1; to_right = i.1.to_right })

  pub same : Same h s'.heap u r w
  same =
      let both : AlikeResult (Through S T) u w = result_through S T u v w run_results (result_match T v w k.results (λ x y i. start_pair (BackAndResults h ps v w) t'.heap r x y (inr i))) in
      record {
        reached = record {
          heaps = matched_paired (OldAndResults h u w) J s'.heap r (joined h s.heap t.heap s'.heap t'.heap r R S T l.alike.heap l.moved mt old back new rest known closed)
              (λ x z o. sum_left o
              (λ n. subst (J x) n.1 (old_joined h s.heap t.heap s'.heap t'.heap r R S T l.alike.heap l.moved mt old back new rest known closed x n.0))
              (λ i. inl (result_names (Through S T) u w x z both i)));
          results = result_more (Through S T) Any (λ x y r. tt) u w both;
        };
        names = λ z n. sum_left (k.no_more z n) (λ o. inl o) (λ i. inr (names z i));
      }
