-- Steps keep that two states agree at usable places and are paired.
use Rattle.std.proofs.Common.{◌≡◌, ℕ, zero, suc, List, ◌++◌, length, refl, sym, ap, ap₂, subst, subst₂, ◌∙◌, inl, inr}
use Rattle.std.specs.Prelude.{Option, Some, IsSomeAnd, slice_get}
use Rattle.nr_linked.specs.declared.program.kind.Kind.{Kind}
use Rattle.nr_linked.specs.declared.program.tables.ProgramTables.{ProgramTables}
use Rattle.nr_linked.specs.TypingFrames.{TypeFrame}
use Rattle.nr_linked.specs.TypingFacts.{TypingFacts}
use Rattle.nr_linked.specs.WellTyped.{WellTyped}
use Rattle.nr_model.specs.declared.value.Value.{Value}
use Rattle.nr_model.specs.Rules.{script}
use Rattle.nr_model.specs.States.{Frame, Control, State, IsEnd}
use Rattle.nr_model.specs.Steps.{script_at, within, StepBy, StepOf, Step, Run}
use Rattle.nr_model.specs.Alike.{Any}
use Rattle.nr_model.specs.Pairs.{name_at, IsPair}
use Rattle.nr_model.proofs.Matchings.{Matched, Moved}
use Rattle.nr_model.proofs.Heaps.{like_more, sum_left}
use Rattle.nr_model.proofs.Frames.{result_more}
use Rattle.nr_model.proofs.Paths.{paired_matched, matched_paired}
use Rattle.nr_model.proofs.Ends.{no_step}
use Rattle.nr_model.proofs.Kept.{like_match, like_names, result_match, result_names, start_pair}
use Rattle.nr_model.specs.Types.{Ty, operand_tys, local_tys}
use Rattle.nr_model.specs.Belonging.{Belong}
use Rattle.nr_model.specs.TypedHeaps.{TypedHeap}
use Rattle.nr_typed.specs.Standing.{Stands, AllWait, ControlStands, StandsIn}
use Rattle.nr_typed.specs.Usable.{Usable, UsableLike, no_places, one_place, local_types, operand_types, UsableFrame, UsableFrames, no_frame, one_frame, UsableControl, both_run, both_return, both_throw, AtUsable, InUsableFrames, InUsableControl, UsableStart, UsablePaired}
use Rattle.nr_model.proofs.Staying.{stays_self}
use Rattle.nr_typed.proofs.Wp.{ends_so}
use Rattle.nr_typed.proofs.Places.{Places, places_of}
use Rattle.nr_typed.proofs.Agreeing.{Later, agreeing}
use Rattle.nr_typed.proofs.Blanks.{local_types_of, standing_types, stands_fills, usable_length}
use Rattle.nr_typed.proofs.Steps.{none_some, some_same, frames}
use Rattle.nr_typed.proofs.Progress.{does, progress, step_fits, step_owes, preservation}
use Rattle.nr_typed.proofs.UsableFrames.{Q, one_kind, after_usable}

-- ---- under a wider relation

module _ (P : ProgramTables) (FR : ℕ → List TypeFrame) (R S : ℕ → ℕ → Type 0) (more : (x y : ℕ) → R x y → S x y) where
  usable_more : (ts : List Ty) (us vs : List Value) → UsableLike R ts us vs → UsableLike S ts us vs
  usable_more ts us vs no_places = no_places
  usable_more ts us vs (one_place l ls) = one_place (λ u. like_more R S more _ _ (l u)) (usable_more _ _ _ ls)

  pub frame_more : (f g : Frame) → UsableFrame P FR R f g → UsableFrame P FR S f g
  frame_more f g a = record { method = a.method; offset = a.offset; locals = usable_more _ _ _ a.locals; operands = usable_more _ _ _ a.operands }

  pub frames_more : (fs gs : List Frame) → UsableFrames P FR R fs gs → UsableFrames P FR S fs gs
  frames_more fs gs no_frame = no_frame
  frames_more fs gs (one_frame a bs) = one_frame (frame_more _ _ a) (frames_more _ _ bs)

  pub control_more : (c d : Control) → UsableControl P FR R c d → UsableControl P FR S c d
  control_more c d (both_run bs) = both_run (frames_more _ _ bs)
  control_more c d (both_return l) = both_return (result_more R S more _ _ l)
  control_more c d (both_throw l) = both_throw (like_more R S more _ _ l)

-- ---- pairs, and relations of names

module _ (P : ProgramTables) (FR : ℕ → List TypeFrame) (R : ℕ → ℕ → Type 0) where
  places_match : (ts : List Ty) (us vs : List Value) → UsableLike Any ts us vs → ((x y : ℕ) → AtUsable P FR ts us vs x y → R x y) → UsableLike R ts us vs
  places_match ts us vs no_places k = no_places
  places_match ts us vs (one_place {t = t} l ls) k = one_place (λ u. like_match R _ _ (l u) (λ x y e. k x y (zero, t, refl, u, e.0, e.1)))
      (places_match _ _ _ ls (λ x y p. k x y (suc p.0, p.1, p.2, p.3, p.4, p.5)))

  places_names : (ts : List Ty) (us vs : List Value) (i x y : ℕ) (t : Ty) → UsableLike R ts us vs → slice_get ts i ≡ Some t → Usable t → (name_at us i ≡ Some x) → (name_at vs i ≡ Some y) → R x y
  places_names ts us vs i x y t no_places e u p q = absurd (none_some e)
  places_names ts us vs zero x y t (one_place l ls) e u p q = like_names R _ _ x y (l (subst Usable (sym (some_same e)) u)) p q
  places_names ts us vs (suc i) x y t (one_place l ls) e u p q = places_names _ _ _ i x y t ls e u p q

  frames_match : (fs gs : List Frame) → UsableFrames P FR Any fs gs → ((x y : ℕ) → InUsableFrames P FR fs gs x y → R x y) → UsableFrames P FR R fs gs
  frames_match fs gs no_frame k = no_frame
  frames_match fs gs (one_frame a bs) k = one_frame (record {
    method = a.method;
    offset = a.offset;
    locals = places_match _ _ _ a.locals (λ x y p. k x y (inl p));
    operands = places_match _ _ _ a.operands (λ x y p. k x y (inr (inl p)));
  }) (frames_match _ _ bs (λ x y p. k x y (inr (inr p))))

  pub control_match : (c d : Control) → UsableControl P FR Any c d → ((x y : ℕ) → InUsableControl P FR c d x y → R x y) → UsableControl P FR R c d
  control_match c d (both_run bs) k = both_run (frames_match _ _ bs k)
  control_match c d (both_return l) k = both_return (result_match R _ _ l k)
  control_match c d (both_throw l) k = both_throw (like_match R _ _ l k)

  frames_names : (fs gs : List Frame) (x y : ℕ) → UsableFrames P FR R fs gs → InUsableFrames P FR fs gs x y → R x y
  frames_names fs gs x y no_frame p = absurd p
  frames_names fs gs x y (one_frame a bs) (inl p) = places_names _ _ _ p.0 x y p.1 a.locals p.2 p.3 p.4 p.5
  frames_names fs gs x y (one_frame a bs) (inr (inl p)) = places_names _ _ _ p.0 x y p.1 a.operands p.2 p.3 p.4 p.5
  frames_names fs gs x y (one_frame a bs) (inr (inr p)) = frames_names _ _ x y bs p

  pub control_names : (c d : Control) (x y : ℕ) → UsableControl P FR R c d → InUsableControl P FR c d x y → R x y
  control_names c d x y (both_run bs) p = frames_names _ _ x y bs p
  control_names c d x y (both_return l) p = result_names R _ _ x y l p
  control_names c d x y (both_throw l) p = like_names R _ _ x y l p.0 p.1

-- ---- steps

-- of machines whose first methods have these results
module _ (P : ProgramTables) (facts : TypingFacts P) (wt : WellTyped P) (result second : Option Kind) where
  abbrev FR : ℕ → List TypeFrame
  FR = frames P facts wt

  -- where two steps leave two states
  pub record LaterState (R : ℕ → ℕ → Type 0) (s t s' t' : State) : Type 1 where
    pub now : ℕ → ℕ → Type 0
    pub moved : Moved R s.heap t.heap now s'.heap t'.heap
    pub heap : Matched now s'.heap t'.heap
    pub control : UsableControl P FR now s'.control t'.control
    pub printed : s'.printed ≡ t'.printed

  module _ (R : ℕ → ℕ → Type 0) (s t : State) (m : Matched R s.heap t.heap) (out : s.printed ≡ t.printed) (th : TypedHeap P s.heap) (f g : Frame) (fs gs : List Frame) (a : UsableFrame P FR R f g) (bs : UsableFrames P FR R fs gs)
      (st : Stands P FR s.heap f) (ws : AllWait P FR result s.heap f.method fs) (other : Stands P FR t.heap g) where
    abbrev L : List Ty
    L = local_tys st.holds.method st.holds.method.max_locals st.holds.types.locals

    abbrev ts : List Ty
    ts = operand_tys st.holds.method st.holds.types.operands

    start_locals : Places P R s.heap L f.locals g.locals
    start_locals = subst (λ L. Places P R s.heap L f.locals g.locals) (local_types_of P FR s.heap f st.holds)
        (places_of P R s.heap t.heap (local_types P FR f.method f.offset) f.locals g.locals (stands_fills P FR s.heap f st).locals_belong
        (subst₂ (λ m n. Belong P t.heap (local_types P FR m n) g.locals) (sym a.method) (sym a.offset) (stands_fills P FR t.heap g other).locals_belong) a.locals)

    start_operands : Places P R s.heap ts f.operands g.operands
    start_operands = subst (λ ts. Places P R s.heap ts f.operands g.operands) (standing_types P FR s.heap f st)
        (places_of P R s.heap t.heap (operand_types P FR f.method f.offset (length f.operands)) f.operands g.operands (stands_fills P FR s.heap f st).operands_belong
        (subst (λ k. Belong P t.heap (operand_types P FR f.method f.offset k) g.operands) (sym (usable_length P R _ _ _ a.operands))
        (subst₂ (λ m n. Belong P t.heap (operand_types P FR m n (length g.operands)) g.operands) (sym a.method) (sym a.offset) (stands_fills P FR t.heap g other).operands_belong)) a.operands)

    step_by : (s' t' : State) → StepBy P (script P st.holds.method st.holds.site) f fs s s' → StepBy P (script P st.holds.method st.holds.site) g gs t t' → LaterState R s t s' t'
    step_by s' t' p q =
        let sc = script P st.holds.method st.holds.site in
        let l : Later P s.heap (Q P facts wt result s th f fs st ws) (one_kind P facts wt result s th f fs st ws) R s.heap t.heap p.ending q.ending p.left q.left =
        agreeing P s.heap (Q P facts wt result s th f fs st ws) (one_kind P facts wt result s th f fs st ws) sc R L ts (within s.heap f) (within t.heap g) p.left q.left p.ending q.ending
        (record { typed = th; stays = stays_self s.heap; heap = m; printed = refl; locals = start_locals; operands = start_operands }) (step_fits P facts wt result s th f fs st ws) p.runs q.runs in
        let ended = ends_so (Q P facts wt result s th f fs st ws) p.ending p.left sc (within s.heap f) (step_owes P facts wt result s th f fs st ws) p.runs in
        record {
          now = l.now;
          moved = subst₂ (λ h k. Moved R s.heap t.heap l.now h k) (sym p.heap) (sym q.heap) l.moved;
          heap = subst₂ (λ h k. Matched l.now h k) (sym p.heap) (sym q.heap) l.beside.heap;
          control = after_usable P facts wt result s th f fs st ws l.now l.local_tys l.operand_tys p.left q.left l.beside g gs
              (frame_more P FR R l.now l.moved.older f g a) (frames_more P FR R l.now l.moved.older fs gs bs) s'.control t'.control p.ending q.ending l.ending l.owing ended p.control q.control;
          printed = p.printed ∙ ap₂ (λ x y. x ++ y) out l.beside.printed ∙ sym q.printed;
        }

  from : (R : ℕ → ℕ → Type 0) (c d : Control) (s t s' t' : State) → Matched R s.heap t.heap → s.printed ≡ t.printed → TypedHeap P s.heap → ControlStands P FR result s.heap c → ControlStands P FR second t.heap d → UsableControl P FR R c d
      → StepOf P c s s' → StepOf P d t t' → LaterState R s t s' t'
  from R c d s t s' t' m out th x y (both_run no_frame) p q = absurd p
  from R c d s t s' t' m out th x y (both_run (one_frame {f} {g} {fs} {gs} a bs)) p q =
      let e = does P facts wt result s th f fs x.0 x.1 in
      let q : IsSomeAnd (script_at P f.method f.offset) (λ sc. StepBy P sc g gs t t') = subst₂ (λ m o. IsSomeAnd (script_at P m o) (λ sc. StepBy P sc g gs t t')) (sym a.method) (sym a.offset) q in
      step_by R s t m out th f g fs gs a bs x.0 x.1 y.0 s' t' (subst (λ o. IsSomeAnd o (λ sc. StepBy P sc f fs s s')) e p) (subst (λ o. IsSomeAnd o (λ sc. StepBy P sc g gs t t')) e q)
  from R c d s t s' t' m out th x y (both_return l) p q = absurd p
  from R c d s t s' t' m out th x y (both_throw l) p q = absurd p

  module _ (ps : List (ℕ × ℕ)) (s t s' t' : State) (x : StandsIn P FR result s) (y : StandsIn P FR second t) (a : UsablePaired P FR ps s t) (p : Step P s s') (q : Step P t t') where
    abbrev PairsOf : ℕ → ℕ → Type 0
    PairsOf = IsPair (UsableStart P FR ps s t) s.heap t.heap

    later : LaterState PairsOf s t s' t'
    later = from PairsOf s.control t.control s t s' t' (paired_matched _ _ _ a.heaps) a.printed x.heap x.control y.control
        (control_match P FR PairsOf s.control t.control a.shape (λ x y i. start_pair (UsableStart P FR ps s t) s.heap t.heap x y (inr i))) p q

    pub steps_usable : UsablePaired P FR ps s' t'
    steps_usable =
        let l = later in
        record {
          shape = control_more P FR l.now Any (λ x y r. tt) s'.control t'.control l.control;
          heaps = matched_paired (UsableStart P FR ps s' t') l.now s'.heap t'.heap l.heap (λ x y i.
              sum_left i (λ k. l.moved.older x y (start_pair (UsableStart P FR ps s t) s.heap t.heap x y (inl k))) (λ k. control_names P FR l.now s'.control t'.control x y l.control k));
          printed = l.printed;
        }

  pub runs_usable : (n : ℕ) (ps : List (ℕ × ℕ)) (s t s' t' : State) → StandsIn P FR result s → StandsIn P FR second t → UsablePaired P FR ps s t → Run P s n s' → Run P t n t' → UsablePaired P FR ps s' t'
  runs_usable zero ps s t s' t' x y a p q = subst₂ (UsablePaired P FR ps) (sym p) (sym q) a
  runs_usable (suc n) ps s t s' t' x y a p q =
      runs_usable n ps p.0 q.0 s' t' (preservation P facts wt result s p.0 x p.1) (preservation P facts wt second t q.0 y q.1) (steps_usable ps s t p.0 q.0 x y a p.1 q.1) p.2 q.2

  -- both have ended, or neither has
  end_over : (R : ℕ → ℕ → Type 0) (c d : Control) → UsableControl P FR R c d → IsEnd c → IsEnd d
  end_over R c d (both_run bs) e = e
  end_over R c d (both_return l) e = tt
  end_over R c d (both_throw l) e = tt

  end_back : (R : ℕ → ℕ → Type 0) (c d : Control) → UsableControl P FR R c d → IsEnd d → IsEnd c
  end_back R c d (both_run bs) e = e
  end_back R c d (both_return l) e = tt
  end_back R c d (both_throw l) e = tt

  pub run_too : (n : ℕ) (ps : List (ℕ × ℕ)) (s t s' : State) → StandsIn P FR result s → StandsIn P FR second t → UsablePaired P FR ps s t → Run P s n s' → (t' : State) × Run P t n t'
  run_too zero ps s t s' x y a p = (t, refl)
  run_too (suc n) ps s t s' x y a p =
      let q = progress P facts wt second t y (λ e. no_step P s.control s p.0 (end_back Any s.control t.control a.shape e) p.1) in
      let r = run_too n ps p.0 q.0 s' (preservation P facts wt result s p.0 x p.1) (preservation P facts wt second t q.0 y q.1) (steps_usable ps s t p.0 q.0 x y a p.1 q.1) p.2 in
      (r.0, (q.0, q.1, r.1))

  pub ends_together : (n k : ℕ) (ps : List (ℕ × ℕ)) (s t s' t' : State) → StandsIn P FR result s → StandsIn P FR second t → UsablePaired P FR ps s t → Run P s n s' → Run P t k t' → IsEnd s'.control → IsEnd t'.control → n ≡ k
  ends_together zero zero ps s t s' t' x y a p q e f = refl
  ends_together zero (suc k) ps s t s' t' x y a p q e f = absurd (no_step P t.control t q.0 (end_over Any s.control t.control a.shape (subst (λ s. IsEnd s.control) p e)) q.1)
  ends_together (suc n) zero ps s t s' t' x y a p q e f = absurd (no_step P s.control s p.0 (end_back Any s.control t.control a.shape (subst (λ t. IsEnd t.control) q f)) p.1)
  ends_together (suc n) (suc k) ps s t s' t' x y a p q e f =
      ap suc (ends_together n k ps p.0 q.0 s' t' (preservation P facts wt result s p.0 x p.1) (preservation P facts wt second t q.0 y q.1) (steps_usable ps s t p.0 q.0 x y a p.1 q.1) p.2 q.2 e f)
