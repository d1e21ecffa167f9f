-- An outcome doesn't depend on the names of new objects.
use Rattle.std.proofs.Common.{◌≡◌, ℕ, suc, ◌+◌, ◌≤◌, List, length, refl, sym, ap, ap₂, subst, subst₂, ◌∙◌, arith, inl, Bool, true, false}
use Rattle.std.specs.Prelude.{Option, Some, None, IsSomeAnd, if◌then◌else◌}
use Rattle.nr_model.specs.declared.value.Value.{Value}
use Rattle.nr_model.specs.Heaps.{Heap, cells}
use Rattle.nr_model.specs.States.{Frame, Control, State, IsEnd}
use Rattle.nr_model.specs.Alike.{AlikeFrames, no_frame, one_frame, AlikeControl, both_run, both_return, both_throw}
use Rattle.nr_model.specs.Pairs.{StartOf, PairedStates}
use Rattle.nr_model.proofs.Matchings.{AlikeState}
use Rattle.nr_linked.specs.declared.program.tables.MethodInfo.{MethodInfo}
use Rattle.nr_linked.specs.declared.program.tables.ProgramTables.{ProgramTables}
use Rattle.nr_linked.specs.Programs.{method_at}
use Rattle.nr_model.specs.Steps.{Run}
use Rattle.std.specs.Prelude.{nat_lt, ◌||◌}
use Rattle.std.specs.Option.{option_map_or}
use Rattle.nr_model.specs.Locals.{start_of, Begins}
use Rattle.nr_model.specs.Outcomes.{max_cells, max_frames, max_value_slots, max_printed, value_slots, is_too_deep, Fate, Ended, BudgetSpent, HeapFull, TooDeep, OutputTooLong, passed, Outcome, ended, spent, limited, further, CallOutcome, too_deep, begun}
use Rattle.nr_model.proofs.Paths.{some_eq, none_some}
use Rattle.nr_model.proofs.Runs.{LaterState, steps_paired, step_too}
use Rattle.nr_model.proofs.Ends.{no_step, end_over, end_back}
use Rattle.nr_model.proofs.Kept.{PairsOf, states_match, states_pair, start_pair}

module _ (P : ProgramTables) (R : ℕ → ℕ → Type 0) where
  frames_deep : (fs gs : List Frame) → AlikeFrames R fs gs → (length fs ≡ length gs) × (value_slots P fs ≡ value_slots P gs)
  frames_deep fs gs no_frame = (refl, refl)
  frames_deep fs gs (one_frame a bs) =
      let d = frames_deep _ _ bs in
      (ap suc d.0, ap₂ (λ m n. option_map_or (λ i. i.max_locals + i.max_stack) (method_at P m) 0 + n) a.method d.1)

  pub deep_alike : (c d : Control) → AlikeControl R c d → is_too_deep P c ≡ is_too_deep P d
  deep_alike c d (both_run {fs} {gs} bs) =
      let e = frames_deep fs gs bs in
      ap₂ (λ n k. nat_lt max_frames n || nat_lt max_value_slots k) e.0 e.1
  deep_alike c d (both_return l) = refl
  deep_alike c d (both_throw l) = refl

  pub passed_alike : (s t : State) → AlikeState R s t → cells s.heap ≡ cells t.heap → passed P s ≡ passed P t
  passed_alike s t a c =
      ap₂ (λ n b. if nat_lt max_cells n then Some HeapFull else b) c
      (ap₂ (λ b n. if b then Some TooDeep else (if nat_lt max_printed n then Some OutputTooLong else None)) (deep_alike s.control t.control a.control) (ap length a.printed))

-- an end is no limit
pub passes_no_end : (P : ProgramTables) (s : State) → passed P s ≡ Some Ended → ⊥
passes_no_end P s e = choose (nat_lt max_cells (cells s.heap)) (is_too_deep P s.control) (nat_lt max_printed (length s.printed)) e
  where
    choose : (a b c : Bool) → (if a then Some HeapFull else (if b then Some TooDeep else (if c then Some OutputTooLong else None))) ≡ Some Ended → ⊥
    choose true b c e = cc
    choose false true c e = cc
    choose false false true e = cc
    choose false false false e = cc

-- two machines that agree, with heaps of one size
pub record Level (R : ℕ → ℕ → Type 0) (s t : State) : Type 0 where
  pub alike : AlikeState R s t
  pub size : cells s.heap ≡ cells t.heap

-- where two outcomes leave two states
pub record LaterFate (R : ℕ → ℕ → Type 0) (n k : ℕ) (f g : Fate) (s t : State) : Type 1 where
  pub steps : n ≡ k
  pub fate : f ≡ g
  pub now : ℕ → ℕ → Type 0
  pub older : (x y : ℕ) → R x y → now x y
  pub level : Level now s t

module _ (P : ProgramTables) where
  pub level_after : (R : ℕ → ℕ → Type 0) (s t s' t' : State) → Level R s t → (l : LaterState R s t s' t') → Level l.now s' t'
  level_after R s t s' t' a l = record { alike = l.alike; size = omega (arith, l.moved.grown, a.size) }

  fates_differ : (R : ℕ → ℕ → Type 0) (s t : State) (f : Fate) → Level R s t → passed P s ≡ Some f → passed P t ≡ None → ⊥
  fates_differ R s t f a p q = none_some (sym q ∙ sym (passed_alike P R s t a.alike a.size) ∙ p)

  later_fate : (R S : ℕ → ℕ → Type 0) (n k : ℕ) (f g : Fate) (s t : State) → ((x y : ℕ) → R x y → S x y) → LaterFate S n k f g s t → LaterFate R (suc n) (suc k) f g s t
  later_fate R S n k f g s t more l = record { steps = ap suc l.steps; fate = l.fate; now = l.now; older = λ x y r. l.older x y (more x y r); level = l.level }

  pub outcomes_alike : (R : ℕ → ℕ → Type 0) (s t s' t' : State) (b n k : ℕ) (f g : Fate) → Level R s t → Outcome P s b n f s' → Outcome P t b k g t' → LaterFate R n k f g s' t'
  outcomes_alike R s t s' t' b n k f g a (ended e) (ended d) = record { steps = refl; fate = refl; now = R; older = λ x y r. r; level = a }
  outcomes_alike R s t s' t' b n k f g a (ended e) (spent d) = absurd (d (end_over R _ _ a.alike.control e))
  outcomes_alike R s t s' t' b n k f g a (ended e) (limited m q d) = absurd (no_step P t.control t m (end_over R _ _ a.alike.control e) q)
  outcomes_alike R s t s' t' b n k f g a (ended e) (further m q d o) = absurd (no_step P t.control t m (end_over R _ _ a.alike.control e) q)
  outcomes_alike R s t s' t' b n k f g a (spent e) (ended d) = absurd (e (end_back R _ _ a.alike.control d))
  outcomes_alike R s t s' t' b n k f g a (spent e) (spent d) = record { steps = refl; fate = refl; now = R; older = λ x y r. r; level = a }
  outcomes_alike R s t s' t' b n k f g a (limited m p e) (ended d) = absurd (no_step P s.control s m (end_back R _ _ a.alike.control d) p)
  outcomes_alike R s t s' t' b n k f g a (limited m p e) (limited w q d) =
      let l = steps_paired P R s t m w a.alike p q in
      let v = level_after R s t m w a l in
      record { steps = refl; fate = some_eq (sym e ∙ passed_alike P l.now m w v.alike v.size ∙ d); now = R; older = λ x y r. r; level = a }
  outcomes_alike R s t s' t' b n k f g a (limited m p e) (further w q d o) =
      let l = steps_paired P R s t m w a.alike p q in
      absurd (fates_differ l.now m w f (level_after R s t m w a l) e d)
  outcomes_alike R s t s' t' b n k f g a (further m p e o) (ended d) = absurd (no_step P s.control s m (end_back R _ _ a.alike.control d) p)
  outcomes_alike R s t s' t' b n k f g a (further m p e o) (limited w q d) =
      let l = steps_paired P R s t m w a.alike p q in
      let v = level_after R s t m w a l in
      absurd (none_some (sym e ∙ passed_alike P l.now m w v.alike v.size ∙ d))
  outcomes_alike R s t s' t' b n k f g a (further m p e o) (further w q d u) =
      let l = steps_paired P R s t m w a.alike p q in
      later_fate R l.now _ _ f g s' t' l.moved.older (outcomes_alike l.now m w s' t' _ _ _ f g (level_after R s t m w a l) o u)

  pub outcome_too : (R : ℕ → ℕ → Type 0) (s t s' : State) (b n : ℕ) (f : Fate) → Level R s t → Outcome P s b n f s' → (t' : State) × Outcome P t b n f t'
  outcome_too R s t s' b n f a (ended e) = (t, ended (end_over R _ _ a.alike.control e))
  outcome_too R s t s' b n f a (spent e) = (t, spent (λ d. e (end_back R _ _ a.alike.control d)))
  outcome_too R s t s' b n f a (limited m p e) =
      let q = step_too P R s t m a.alike p in
      let l = steps_paired P R s t m q.0 a.alike p q.1 in
      let v = level_after R s t m q.0 a l in
      (t, limited q.0 q.1 (sym (passed_alike P l.now m q.0 v.alike v.size) ∙ e))
  outcome_too R s t s' b n f a (further m p e o) =
      let q = step_too P R s t m a.alike p in
      let l = steps_paired P R s t m q.0 a.alike p q.1 in
      let v = level_after R s t m q.0 a l in
      let r = outcome_too l.now m q.0 s' _ _ f v o in
      (r.0, further q.0 q.1 (sym (passed_alike P l.now m q.0 v.alike v.size) ∙ e) r.1)

  -- an outcome with an end is a run
  pub outcome_run : (s t : State) (b n : ℕ) → Outcome P s b n Ended t → Run P s n t × IsEnd t.control × (n ≤ b)
  outcome_run s t b n o = go s t b n Ended o refl
    where
      go : (s t : State) (b n : ℕ) (f : Fate) → Outcome P s b n f t → f ≡ Ended → Run P s n t × IsEnd t.control × (n ≤ b)
      go s t b n f (ended e) i = (refl, e, omega arith)
      go s t b n f (spent e) i = absurd (bad i)
        where
          bad : BudgetSpent ≡ Ended → ⊥
          bad e = cc
      go s t b n f (limited m p e) i = absurd (passes_no_end P m (e ∙ ap Some i))
      go s t b n f (further m p e o) i = let r = go m t _ _ f o i in ((m, p, r.0), r.1, omega (arith, r.2))

module _ (P : ProgramTables) (ps : List (ℕ × ℕ)) (s t s' : State) (b n : ℕ) (f : Fate) (a : PairedStates ps s t) (size : cells s.heap ≡ cells t.heap) (o : Outcome P s b n f s') where
  level : Level (PairsOf ps s t a) s t
  level = record { alike = states_match ps s t a; size = size }

  pub pairs_outcome : (t' : State) (k : ℕ) (g : Fate) → Outcome P t b k g t' → (n ≡ k) × (f ≡ g) × PairedStates ps s' t'
  pairs_outcome t' k g u =
      let l = outcomes_alike P (PairsOf ps s t a) s t s' t' b n k f g level o u in
      (l.steps, l.fate, states_pair ps l.now s' t' l.level.alike (λ x y i. l.older x y (start_pair (StartOf ps s t) s.heap t.heap x y (inl i))))

  pub pairs_outcome_cells : (t' : State) (k : ℕ) (g : Fate) → Outcome P t b k g t' → cells s'.heap ≡ cells t'.heap
  pairs_outcome_cells t' k g u = (outcomes_alike P (PairsOf ps s t a) s t s' t' b n k f g level o u).level.size

  pub pairs_outcome_too : (t' : State) × Outcome P t b n f t'
  pairs_outcome_too = outcome_too P (PairsOf ps s t a) s t s' b n f level o

-- ---- the outcomes of calls

pub begins_one : (P : ProgramTables) (h : Heap) (m : ℕ) (args : List Value) (s t : State) → Begins P h m args s → Begins P h m args t → s ≡ t
begins_one P h m args s t p q = go (method_at P m) p q
  where
    go : (o : Option MethodInfo) → IsSomeAnd o (λ i. s ≡ start_of i m h args) → IsSomeAnd o (λ i. t ≡ start_of i m h args) → s ≡ t
    go None p q = absurd p
    go (Some i) p q = p ∙ sym q

-- the first state with the fact that chooses its fate
pub begins_heap : (P : ProgramTables) (h : Heap) (m : ℕ) (args : List Value) (s : State) → Begins P h m args s → s.heap ≡ h
begins_heap P h m args s p = go (method_at P m) p
  where
    go : (o : Option MethodInfo) → IsSomeAnd o (λ i. s ≡ start_of i m h args) → s.heap ≡ h
    go None p = absurd p
    go (Some i) p = ap (λ s. s.heap) p

not_both : (b : Bool) → b ≡ true → b ≡ false → ⊥
not_both b e f = cc

module _ (P : ProgramTables) (ps : List (ℕ × ℕ)) (h k : Heap) (m : ℕ) (us vs : List Value) (s t : State) (bs : Begins P h m us s) (bt : Begins P k m vs t)
    (a : PairedStates ps s t) (size : cells h ≡ cells k) where
  same_depth : is_too_deep P s.control ≡ is_too_deep P t.control
  same_depth = deep_alike P (PairsOf ps s t a) s.control t.control (states_match ps s t a).control

  same_size : cells s.heap ≡ cells t.heap
  same_size = ap cells (begins_heap P h m us s bs) ∙ size ∙ sym (ap cells (begins_heap P k m vs t bt))

  depth_differs : (u v : State) → Begins P h m us u → Begins P k m vs v → is_too_deep P u.control ≡ true → is_too_deep P v.control ≡ false → ⊥
  depth_differs u v p q d e = not_both (is_too_deep P t.control) (sym same_depth ∙ ap (λ s. is_too_deep P s.control) (begins_one P h m us s u bs p) ∙ d)
      (ap (λ s. is_too_deep P s.control) (begins_one P k m vs t v bt q) ∙ e)

  depth_differs_back : (u v : State) → Begins P h m us u → Begins P k m vs v → is_too_deep P u.control ≡ false → is_too_deep P v.control ≡ true → ⊥
  depth_differs_back u v p q d e = not_both (is_too_deep P s.control) (same_depth ∙ ap (λ s. is_too_deep P s.control) (begins_one P k m vs t v bt q) ∙ e)
      (ap (λ s. is_too_deep P s.control) (begins_one P h m us s u bs p) ∙ d)

  pub pairs_call : (s' t' : State) (b n l : ℕ) (f g : Fate) → CallOutcome P h m us b n f s' → CallOutcome P k m vs b l g t' → (n ≡ l) × (f ≡ g) × PairedStates ps s' t'
  pairs_call s' t' b n l f g (too_deep p d) (too_deep q e) =
      (refl, refl, subst₂ (PairedStates ps) (begins_one P h m us s s' bs p) (begins_one P k m vs t t' bt q) a)
  pairs_call s' t' b n l f g (too_deep p d) (begun u q e o) = absurd (depth_differs s' u p q d e)
  pairs_call s' t' b n l f g (begun u p d o) (too_deep q e) = absurd (depth_differs_back u t' p q d e)
  pairs_call s' t' b n l f g (begun u p d o) (begun w q e r) =
      pairs_outcome P ps s t s' b n f a same_size (subst (λ s. Outcome P s b n f s') (begins_one P h m us u s p bs) o)
      t' l g (subst (λ t. Outcome P t b l g t') (begins_one P k m vs w t q bt) r)

  pub pairs_call_cells : (s' t' : State) (b n l : ℕ) (f g : Fate) → CallOutcome P h m us b n f s' → CallOutcome P k m vs b l g t' → cells s'.heap ≡ cells t'.heap
  pairs_call_cells s' t' b n l f g (too_deep p d) (too_deep q e) = ap cells (begins_heap P h m us s' p) ∙ size ∙ sym (ap cells (begins_heap P k m vs t' q))
  pairs_call_cells s' t' b n l f g (too_deep p d) (begun u q e o) = absurd (depth_differs s' u p q d e)
  pairs_call_cells s' t' b n l f g (begun u p d o) (too_deep q e) = absurd (depth_differs_back u t' p q d e)
  pairs_call_cells s' t' b n l f g (begun u p d o) (begun w q e r) =
      pairs_outcome_cells P ps s t s' b n f a same_size (subst (λ s. Outcome P s b n f s') (begins_one P h m us u s p bs) o)
      t' l g (subst (λ t. Outcome P t b l g t') (begins_one P k m vs w t q bt) r)

  pub pairs_call_too : (s' : State) (b n : ℕ) (f : Fate) → CallOutcome P h m us b n f s' → (t' : State) × CallOutcome P k m vs b n f t'
  pairs_call_too s' b n f (too_deep p d) = (t, too_deep bt (sym same_depth ∙ ap (λ s. is_too_deep P s.control) (begins_one P h m us s s' bs p) ∙ d))
  pairs_call_too s' b n f (begun u p d o) =
      let r = pairs_outcome_too P ps s t s' b n f a same_size (subst (λ s. Outcome P s b n f s') (begins_one P h m us u s p bs) o) in
      (r.0, begun t bt (sym same_depth ∙ ap (λ s. is_too_deep P s.control) (begins_one P h m us s u bs p) ∙ d) r.1)
