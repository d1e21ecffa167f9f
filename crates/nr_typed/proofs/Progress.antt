-- Progress and preservation: from a state that stands and is no end there is a step, and each step leads to a state that
-- stands.
use Rattle.std.proofs.Common.{◌≡◌, ℕ, zero, suc, ◌≤◌, List, [], ◌∷◌, ◌++◌, length, refl, sym, ap, subst, ◌∙◌, Bool, true, false, arith, T, nat_le}
use Rattle.std.specs.Prelude.{Option, Some, None, IsSomeAnd, take, drop, if◌then◌else◌}
use Rattle.std.specs.Option.{option_map, option_and_then}
use Rattle.std.specs.FinMap.{get}
use Rattle.std.proofs.Math.Facts.{yes_leb}
use Rattle.nr_prog.specs.declared.body.whole.Body.{Body}
use Rattle.nr_linked.specs.declared.program.built_in.BuiltIn.TheVariants as built_ins
use Rattle.nr_linked.specs.declared.program.kind.Kind.{Kind}
use Rattle.nr_linked.specs.declared.program.tables.MethodInfo.{MethodInfo}
use Rattle.nr_linked.specs.declared.program.tables.ProgramTables.{ProgramTables}
use Rattle.nr_linked.specs.declared.program.types.VType.{VType}
use Rattle.nr_linked.specs.Kinds.{class_kind}
use Rattle.nr_linked.specs.BuiltIns.{built_in}
use Rattle.nr_linked.specs.Programs.{method_at}
use Rattle.nr_linked.specs.Sites.{Site, site_at}
use Rattle.nr_linked.specs.Subtypes.{is_assignable}
use Rattle.nr_linked.specs.TypingFrames.{TypeFrame, entry_frame}
use Rattle.nr_linked.specs.TypingCalls as typing
use Rattle.nr_linked.specs.TypingFacts.{TypingFacts, SiteFacts}
use Rattle.nr_linked.specs.WellTyped.{falls_through, ComesTo, Onward, SiteTyped, WellTyped}
use Rattle.nr_model.specs.declared.value.Value.{Value}
use Rattle.nr_model.specs.declared.value.Value.TheVariants.{Ref}
use Rattle.nr_model.specs.Heaps.{Obj, Heap}
use Rattle.nr_model.specs.Scripts.{GoTo, Within, Ending, GoesTo, Threw, Gave, Called, Wp}
use Rattle.nr_model.specs.Throws.{onward}
use Rattle.nr_model.specs.CallRules.{operands_of}
use Rattle.nr_model.specs.Rules.{script}
use Rattle.nr_model.specs.States.{Frame, Control, Running, Returned, Thrown, State, IsEnd}
use Rattle.nr_model.specs.Steps.{unwound, next_offset, with_result, given, first_frame, script_at, within, after, StepBy, StepOf, Step, Run}
use Rattle.nr_model.specs.Types.{argument_tys, Word, operand_tys, local_tys}
use Rattle.nr_model.specs.Belonging.{Belongs, Belong, no_place, one_place, IsResult}
use Rattle.nr_model.specs.Staying.{Stays}
use Rattle.nr_model.specs.TypedHeaps.{TypedHeap}
use Rattle.nr_typed.specs.Fits.{Fits}
use Rattle.nr_typed.specs.Standing.{Stands, Waits, AllWait, AllStand, throwable, ControlStands, StandsIn}
use Rattle.nr_typed.proofs.Wp.{runs, ends_so}
use Rattle.nr_model.proofs.Staying.{stays_self}
use Rattle.nr_typed.proofs.Typed.{some_of, sound}
use Rattle.nr_typed.proofs.Belongs.{kind_same}
use Rattle.nr_typed.proofs.Owed.{Goes, Owed}
use Rattle.nr_typed.proofs.Instructions.{instruction_fits}
use Rattle.nr_typed.proofs.Entering.{entry_ok}
use Rattle.nr_typed.proofs.Returning.{call_returns}
use Rattle.nr_typed.proofs.Steps.{some_both, frames, Method, typed, own_above, at_site, Arrival, comes_to, branch_to, method_of, holds_on, all_wait_on, goes_on, unwound_ok}

-- of machines whose first method has the result
module _ (P : ProgramTables) (facts : TypingFacts P) (wt : WellTyped P) (result : Option Kind) where
  -- ---- returns

  -- another name of the same result
  same_result : (h : Heap) (o p : Option Kind) → o ≡ p → (v : Option Value) → IsResult P h o v → IsResult P h p v
  same_result h o p e v q = subst (λ o. IsResult P h o v) e q

  given_operands : (h : Heap) (own : MethodInfo) (o : Option Kind) (rest : List VType) (v : Option Value) → IsResult P h o v → (vs : List Value)
      → Belong P h (operand_tys own rest) vs → Belong P h (operand_tys own (typing.with_result o rest)) (with_result v vs)
  given_operands h own None rest None q vs b = b
  given_operands h own (Some k) rest (Some v) q vs b = one_place (subst (λ t. Belongs P h t v) (sym (kind_same P facts Word own k)) q) b
  given_operands h own None rest (Some v) q vs b = absurd q
  given_operands h own (Some k) rest None q vs b = absurd q

  pub given_ok : (h : Heap) (r : ℕ) (i : MethodInfo) → method_at P r ≡ Some i → (v : Option Value) → IsResult P h i.result v → (fs : List Frame) → AllWait P (frames P facts wt) result h r fs
      → (c : Control) × (given P v fs ≡ Some c) × ControlStands P (frames P facts wt) result h c
  given_ok h r i is_i v q [] w = (Returned v, refl, same_result h i.result result (sym (ap (λ o. option_and_then (λ (i : MethodInfo). i.result) o) is_i) ∙ w) v q)
  given_ok h r i is_i v q (f ∷ fs) w =
      let x = w.0.holds in
      let m = method_of P facts wt h f x in
      let s = (typed P facts wt f.method m).sites f.offset x.site x.types x.is_site x.is_types in
      let sf : SiteFacts P x.method.«class» x.site = facts.sites f.method x.method f.offset x.site x.is_method x.is_site in
      let ret = call_returns P facts f.method x.method x.is_method (own_above P facts wt f.method m) x.types s.leaves h (λ e w. Unit {0}) x.site sf w.0.is_call w.0.named w.0.owner w.0.target w.0.is_named w.0.is_target s.rule in
      let falls : falls_through x.site.instr.row.family ≡ true = subst (λ f. falls_through f ≡ true) (sym w.0.is_call) refl in
      let on = some_of x.site.next (ComesTo P x.method (wt.frames f.method) s.leaves) (subst (λ z. Onward P x.method (wt.frames f.method) z x.site.next s.leaves) falls s.onward) in
      let arrival : Arrival P facts wt f.method m s.leaves on.0 = comes_to P facts wt f.method m s.leaves on.0 on.2 in
      let res = same_result h i.result w.0.target.result (sym (w.0.same.result ∙ ap (λ (i : MethodInfo). i.result) (some_both w.0.is_above is_i))) v q in
      let ops = subst (λ us. Belong P h (operand_tys x.method us) (with_result v f.operands)) ret.operands
      (given_operands h x.method w.0.target.result ret.rest v res f.operands (ret.rest_on h f.operands w.0.operands)) in
      let next : next_offset P f.method f.offset ≡ Some on.0 =
      ap (λ o. option_and_then (λ (s : Site). s.next) (option_and_then (λ (i : MethodInfo). site_at i f.offset) o)) x.is_method ∙ (ap (λ o. option_and_then (λ (s : Site). s.next) o) x.is_site ∙ on.1) in (
        Running (record f { offset = on.0; operands = with_result v f.operands } ∷ fs),
        ap (option_map (λ t. Running (record f { offset = t; operands = with_result v f.operands } ∷ fs))) next,
        (goes_on P facts wt h f.method m s.leaves on.0 arrival (record f { offset = on.0; operands = with_result v f.operands }) refl refl (ret.locals_on h f.locals x.locals) ops ret.room, w.1),
      )

  -- ---- entering a method

  first_stands : (h : Heap) (n : ℕ) (i : MethodInfo) (body : Body) → method_at P n ≡ Some i → i.body ≡ Some body → (vs : List Value) → Belong P h (argument_tys i) vs → Stands P (frames P facts wt) h (first_frame i n vs)
  first_stands h n i body is_i is_body vs q =
      let m : Method P facts wt n = record { info = i; body = body; is_info = is_i; is_body = is_body } in
      let t = typed P facts wt n m in
      goes_on P facts wt h n m (entry_frame P i) 0 (comes_to P facts wt n m (entry_frame P i) 0 t.entry) (first_frame i n vs) refl refl (entry_ok P facts i h vs t.places q) no_place (omega arith)

  -- ---- what a step owes

  -- what is thrown, given back, or handed over as arguments
  abbrev pub Gives : MethodInfo → Within → Ending → Type 0
  Gives own w (GoesTo at) = Unit {0}
  Gives own w (Threw a) = Belongs P w.heap (throwable P) (Ref a)
  Gives own w (Gave v) = IsResult P w.heap own.result v
  Gives own w (Called n) = (t : MethodInfo) × (method_at P n ≡ Some t) × (operands_of t ≤ length w.operands) × Belong P w.heap (argument_tys t) (take (operands_of t) w.operands)

  fits_in : (x y : ℕ) (c : Control) → x ≤ y → (if nat_le x y then Some c else None) ≡ Some c
  fits_in x y c l = by_flag (nat_le x y) (yes_leb l)
    where
      by_flag : (z : Bool) → T z → (if z then Some c else None) ≡ Some c
      by_flag true p = refl
      by_flag false p = absurd p

  abbrev pub called_control : ℕ → MethodInfo → Within → Frame → List Frame → Control
  called_control n t w f fs = Running (first_frame t n (take (operands_of t) w.operands) ∷ record f { locals = w.locals; operands = drop (operands_of t) w.operands } ∷ fs)

  pub enters : (f : Frame) (fs : List Frame) (n : ℕ) (t : MethodInfo) → method_at P n ≡ Some t → (w : Within) → operands_of t ≤ length w.operands → after P (Called n) w f fs ≡ Some (called_control n t w f fs)
  enters f fs n t is_t w l = subst (λ o. option_and_then (λ (i : MethodInfo). if nat_le (operands_of i) (length w.operands) then Some (called_control n i w f fs) else None) o ≡ Some (called_control n t w f fs)) (sym is_t)
      (fits_in (operands_of t) (length w.operands) _ l)

  module _ (s : State) (th : TypedHeap P s.heap) (f : Frame) (fs : List Frame) (st : Stands P (frames P facts wt) s.heap f) (ws : AllWait P (frames P facts wt) result s.heap f.method fs) where
    abbrev pub Owes : Ending → Within → Type 0
    Owes e w = TypedHeap P w.heap × (c : Control) × (after P e w f fs ≡ Some c) × ControlStands P (frames P facts wt) result w.heap c × Gives st.holds.method w e

    abbrev own : MethodInfo
    own = st.holds.method

    abbrev m : Method P facts wt f.method
    m = method_of P facts wt s.heap f st.holds

    abbrev site_typed : SiteTyped P own (wt.frames f.method) st.holds.site st.holds.types
    site_typed = (typed P facts wt f.method m).sites f.offset st.holds.site st.holds.types st.holds.is_site st.holds.is_types

    abbrev G : TypeFrame
    G = site_typed.leaves

    go : (t : ℕ) → Arrival P facts wt f.method m G t → Goes P own st.holds.types G s.heap Owes (GoTo t)
    go t arrival room L us a b w tw sw q r = (
      tw,
      Running (record f { offset = t; locals = w.locals; operands = w.operands } ∷ fs),
      refl,
      (goes_on P facts wt w.heap f.method m G t arrival (record f { offset = t; locals = w.locals; operands = w.operands }) refl refl (a w.heap w.locals q) (b w.heap w.operands r) room, all_wait_on P facts wt result s.heap w.heap sw f.method fs ws),
      tt,
    )

    threw_ok : (w : Within) (a : ℕ) → TypedHeap P w.heap → Stays s.heap w.heap → Belongs P w.heap (throwable P) (Ref a) → Owes (Threw a) w
    threw_ok w a tw sw q =
        let o = some_of (get w.heap a) (λ o. T (is_assignable P o.kind (class_kind (built_in P built_ins.Throwable)))) q in (
          tw,
          unwound P o.0.kind (Ref a) (f ∷ fs),
          ap (option_map (λ (o : Obj). unwound P o.kind (Ref a) (f ∷ fs))) o.1,
          unwound_ok P facts wt result w.heap a o.0 o.1 o.2 (f ∷ fs) (holds_on P facts wt s.heap w.heap sw f st.holds, all_wait_on P facts wt result s.heap w.heap sw f.method fs ws),
          q,
        )

    gave_ok : (w : Within) (v : Option Value) → TypedHeap P w.heap → Stays s.heap w.heap → IsResult P w.heap own.result v → Owes (Gave v) w
    gave_ok w v tw sw q = let r = given_ok w.heap f.method own st.holds.is_method v q fs (all_wait_on P facts wt result s.heap w.heap sw f.method fs ws) in (tw, r.0, r.1, r.2, q)

    owed : Owed P own st.holds.types G s.heap Owes st.holds.site
    owed = record {
      next = λ falls.
          let on = some_of st.holds.site.next (ComesTo P own (wt.frames f.method) G) (subst (λ z. Onward P own (wt.frames f.method) z st.holds.site.next G) falls site_typed.onward) in
          subst (λ o. Goes P own st.holds.types G s.heap Owes (onward o)) (sym on.1) (go on.0 (comes_to P facts wt f.method m G on.0 on.2));
      branch = λ t c. go t (branch_to P facts wt f.method m G t (site_typed.branches t c));
      threw = threw_ok;
      gave_none = λ e w tw sw. gave_ok w None tw sw (same_result w.heap None own.result (sym e) None tt);
      gave = λ k e w v tw sw q. gave_ok w (Some v) tw sw (same_result w.heap (Some k) own.result (sym e) (Some v) q);
      called = λ fam named owner n target t body rs is_target is_t is_body same w tw sw q args rest l.
          let top : Frame = first_frame t n (take (operands_of t) w.operands) in
          let below : Frame = record f { locals = w.locals; operands = drop (operands_of t) w.operands } in
          let waits : Waits P (frames P facts wt) w.heap n below = record {
            holds = record { method = own; body = st.holds.body; site = st.holds.site; types = st.holds.types; is_method = st.holds.is_method; is_body = st.holds.is_body; is_site = st.holds.is_site; is_types = st.holds.is_types; locals = q };
            is_call = fam;
            named = named;
            owner = owner;
            is_named = rs;
            target = target;
            is_target = is_target;
            above = t;
            is_above = is_t;
            same = same;
            operands = rest;
          } in (
            tw,
            Running (top ∷ below ∷ fs),
            enters f fs n t is_t w l,
            (first_stands w.heap n t body is_t is_body (take (operands_of t) w.operands) args, (waits, all_wait_on P facts wt result s.heap w.heap sw f.method fs ws)),
            (t, is_t, l, args),
          );
    }

    pub does : script_at P f.method f.offset ≡ Some (script P own st.holds.site)
    does = ap (λ o. option_and_then (λ (i : MethodInfo). option_map (script P i) (site_at i f.offset)) o) st.holds.is_method ∙ ap (option_map (script P own)) st.holds.is_site

    pub step_fits : Fits P s.heap Owes (script P own st.holds.site) (local_tys own own.max_locals st.holds.types.locals) (operand_tys own st.holds.types.operands)
    step_fits =
        let here : site_at own st.holds.site.instr.at ≡ Some st.holds.site = subst (λ at. site_at own at ≡ Some st.holds.site) (sym (at_site P facts wt f.method m f.offset st.holds.site st.holds.is_site)) st.holds.is_site in
        instruction_fits P facts f.method own st.holds.is_method (own_above P facts wt f.method m) st.holds.types G s.heap Owes st.holds.site
        (facts.sites f.method own f.offset st.holds.site st.holds.is_method st.holds.is_site) owed here site_typed.rule

    pub step_owes : Wp (script P own st.holds.site) (within s.heap f) Owes
    step_owes = sound P s.heap Owes (script P own st.holds.site) (local_tys own own.max_locals st.holds.types.locals) (operand_tys own st.holds.types.operands) (within s.heap f) th (stays_self s.heap) st.holds.locals st.operands step_fits

  -- ---- the laws

  pub progress : (s : State) → StandsIn P (frames P facts wt) result s → (IsEnd s.control → ⊥) → (t : State) × Step P s t
  progress s st ends = by_control s.control refl st.control ends
    where
      running : (f : Frame) (fs : List Frame) → AllStand P (frames P facts wt) result s.heap (f ∷ fs) → (t : State) × StepOf P (Running (f ∷ fs)) s t
      running f fs a =
          let p = step_owes s st.heap f fs a.0 a.1 in
          let r = runs _ (script P a.0.holds.method a.0.holds.site) _ p in
          let q = ends_so _ r.0.0 r.0.1 (script P a.0.holds.method a.0.holds.site) _ p r.1 in
          let t : State = record { heap = r.0.1.heap; control = q.1; printed = s.printed ++ r.0.1.printed } in
          (t, subst (λ o. IsSomeAnd o (λ sc. StepBy P sc f fs s t)) (sym (does s st.heap f fs a.0 a.1)) (record { ending = r.0.0; left = r.0.1; runs = r.1; control = q.2; heap = refl; printed = refl }))

      by_control : (c : Control) → s.control ≡ c → ControlStands P (frames P facts wt) result s.heap s.control → (IsEnd s.control → ⊥) → (t : State) × StepOf P s.control s t
      by_control (Running []) e a n = absurd (subst (ControlStands P (frames P facts wt) result s.heap) e a)
      by_control (Running (f ∷ fs)) e a n = subst (λ c. (t : State) × StepOf P c s t) (sym e) (running f fs (subst (ControlStands P (frames P facts wt) result s.heap) e a))
      by_control (Returned v) e a n = absurd (n (subst IsEnd (sym e) tt))
      by_control (Thrown v) e a n = absurd (n (subst IsEnd (sym e) tt))

  pub preservation : (s t : State) → StandsIn P (frames P facts wt) result s → Step P s t → StandsIn P (frames P facts wt) result t
  preservation s t st step = by_control s.control refl step
    where
      running : (f : Frame) (fs : List Frame) → AllStand P (frames P facts wt) result s.heap (f ∷ fs) → StepOf P (Running (f ∷ fs)) s t → StandsIn P (frames P facts wt) result t
      running f fs a q =
          let p = step_owes s st.heap f fs a.0 a.1 in
          let z : StepBy P (script P a.0.holds.method a.0.holds.site) f fs s t = subst (λ o. IsSomeAnd o (λ sc. StepBy P sc f fs s t)) (does s st.heap f fs a.0 a.1) q in
          let g = ends_so _ z.ending z.left (script P a.0.holds.method a.0.holds.site) _ p z.runs in
          record {
            heap = subst (TypedHeap P) (sym z.heap) g.0;
            control = subst (λ h. ControlStands P (frames P facts wt) result h t.control) (sym z.heap) (subst (ControlStands P (frames P facts wt) result z.left.heap) (some_both g.2 z.control) g.3);
          }

      by_control : (c : Control) → s.control ≡ c → StepOf P c s t → StandsIn P (frames P facts wt) result t
      by_control (Running []) e q = absurd q
      by_control (Running (f ∷ fs)) e q = running f fs (subst (ControlStands P (frames P facts wt) result s.heap) e st.control) q
      by_control (Returned v) e q = absurd q
      by_control (Thrown v) e q = absurd q

  -- the first state of a method, from arguments that fit, the last first
  pub first_state_stands : (h : Heap) → TypedHeap P h → (n : ℕ) (i : MethodInfo) (body : Body) → method_at P n ≡ Some i → i.result ≡ result → i.body ≡ Some body → (vs : List Value) → Belong P h (argument_tys i) vs → (printed : List ℕ)
      → StandsIn P (frames P facts wt) result (record { heap = h; control = Running (first_frame i n vs ∷ []); printed = printed })
  first_state_stands h th n i body is_i e is_body vs q printed =
      record { heap = th; control = (first_stands h n i body is_i is_body vs q, ap (λ o. option_and_then (λ (i : MethodInfo). i.result) o) is_i ∙ e) }

  pub runs_stand : (n : ℕ) (s t : State) → StandsIn P (frames P facts wt) result s → Run P s n t → StandsIn P (frames P facts wt) result t
  runs_stand zero s t st r = subst (StandsIn P (frames P facts wt) result) (sym r) st
  runs_stand (suc n) s t st r = runs_stand n r.0 t (preservation s r.0 st r.1) r.2

  -- what a run gives that ends by a return
  pub runs_give : (n : ℕ) (s t : State) (v : Option Value) → StandsIn P (frames P facts wt) result s → Run P s n t → t.control ≡ Returned v → IsResult P t.heap result v
  runs_give n s t v st r e = subst (ControlStands P (frames P facts wt) result t.heap) e (runs_stand n s t st r).control
