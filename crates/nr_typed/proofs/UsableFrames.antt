-- What an instruction leaves of the frames of two machines that agree at usable places.
use Rattle.std.proofs.Common.{◌≡◌, ℕ, suc, ◌≤◌, List, [], ◌∷◌, ◌++◌, length, refl, sym, ap, subst, subst₂, ◌∙◌, Bool, true, false, T}
use Rattle.std.specs.Prelude.{pos, Option, Some, None, take, drop, reverse, if◌then◌else◌}
use Rattle.std.specs.Option.{option_map}
use Rattle.std.specs.FinMap.{get}
use Rattle.nr_linked.specs.declared.program.built_in.BuiltIn.TheVariants as built_ins
use Rattle.nr_linked.specs.declared.program.kind.Kind.{Kind}
use Rattle.nr_linked.specs.declared.program.tables.MethodInfo.{MethodInfo}
use Rattle.nr_linked.specs.declared.program.tables.ProgramTables.{ProgramTables}
use Rattle.nr_linked.specs.BuiltIns.{built_in}
use Rattle.nr_linked.specs.Kinds.{class_kind}
use Rattle.nr_prog.specs.Members.{is_static}
use Rattle.nr_linked.specs.Programs.{method_at}
use Rattle.nr_linked.specs.Subtypes.{is_assignable}
use Rattle.nr_linked.specs.TypingFrames.{TypeFrame}
use Rattle.nr_linked.specs.TypingFacts.{TypingFacts}
use Rattle.nr_linked.specs.WellTyped.{WellTyped}
use Rattle.nr_model.specs.declared.value.Value.{Value}
use Rattle.nr_model.specs.declared.value.Value.TheVariants.{Int, Null, Ref}
use Rattle.nr_model.specs.Heaps.{Obj, Heap, on_some}
use Rattle.nr_model.specs.Scripts.{Within, Ending, GoesTo, Threw, Gave, Called}
use Rattle.nr_model.specs.CallRules.{operands_of}
use Rattle.nr_model.specs.States.{Frame, Control, Running, State}
use Rattle.nr_model.specs.Steps.{handler_at, unwound, next_offset, with_result, given, first_frame, after}
use Rattle.nr_model.specs.Alike.{like_ref, AllLike, no_more, one_more, AlikeAt, alike_at, AlikeResult, no_result, one_result}
use Rattle.nr_model.proofs.Matchings.{AlikeEnding, both_go, both_threw, both_gave, both_called}
use Rattle.nr_model.proofs.Frames.{locals_like}
use Rattle.nr_model.specs.Types.{Ty, Object, argument_tys, kind_ty, kind_tys, operand_tys, local_tys}
use Rattle.nr_model.specs.Belonging.{Belong, NoLong, IsResult}
use Rattle.nr_model.specs.TypedHeaps.{TypedHeap}
use Rattle.nr_typed.specs.Fits.{Ends}
use Rattle.nr_typed.specs.Standing.{Holds, Stands, Waits, AllWait, AllStand, ControlStands}
use Rattle.nr_typed.specs.Usable.{Usable, UsableLike, local_types, operand_types, UsableFrame, UsableFrames, no_frame, one_frame, UsableControl, both_run, both_return, both_throw}
use Rattle.nr_typed.specs.Usable as usable
use Rattle.nr_typed.proofs.Assigning.{by_kind}
use Rattle.nr_typed.proofs.Typed.{some_of}
use Rattle.nr_typed.proofs.Places.{both_admitted, places_belong}
use Rattle.nr_typed.proofs.Agreeing.{Beside, Owing}
use Rattle.nr_typed.proofs.Blanks.{blank, blank_kept, blank_length, blank_take, blank_drop, blank_ok, flow, places_usable, alike_usable, usable_length, usable_take, usable_drop, local_types_of, waiting_types, Fills, stands_fills, waits_fills}
use Rattle.nr_typed.proofs.Steps.{none_some, some_same, some_both, frames, holds_on, all_wait_on, Unwinds, waiting_unwinds, unwound_ok}
use Rattle.nr_typed.proofs.Progress.{given_ok, called_control, enters, Owes}

-- ---- arguments and results are usable

pub kind_usable : (k : Kind) → Usable (kind_ty k)
kind_usable k = by_kind (λ k. Usable (kind_ty k)) (λ k e. rw e tt) tt tt tt tt tt tt k

module _ (R : ℕ → ℕ → Type 0) where
  receiver_alike : (c : Bool) (m : Kind) (us vs : List Value) → UsableLike R (if c then [] else Object m ∷ []) us vs → AllLike R us vs
  receiver_alike true m us vs usable.no_places = no_more
  receiver_alike false m us vs (usable.one_place l usable.no_places) = one_more (l tt) no_more

  kinds_alike : (ks : List Kind) (rest : List Ty) (us vs : List Value) → ((us vs : List Value) → UsableLike R rest us vs → AllLike R us vs) → UsableLike R (kind_tys ks ++ rest) us vs → AllLike R us vs
  kinds_alike [] rest us vs f l = f us vs l
  kinds_alike (k ∷ ks) rest us vs f (usable.one_place l ls) = one_more (l (kind_usable k)) (kinds_alike ks rest _ _ f ls)

  arguments_alike : (t : MethodInfo) (us vs : List Value) → UsableLike R (argument_tys t) us vs → AllLike R us vs
  arguments_alike t us vs l = kinds_alike (reverse t.params) _ us vs (λ us vs l. receiver_alike (is_static t.flags) (class_kind t.«class») us vs l) l

length_result : (v : Option Value) (us vs : List Value) → length us ≡ length vs → length (with_result v us) ≡ length (with_result v vs)
length_result None us vs e = e
length_result (Some v) us vs e = ap suc e

module _ (P : ProgramTables) (facts : TypingFacts P) (wt : WellTyped P) (result : Option Kind) where
  abbrev FR : ℕ → List TypeFrame
  FR = frames P facts wt

  module _ (R : ℕ → ℕ → Type 0) (h : Heap) where
    -- ---- throws

    abbrev with_blanks : Value → Frame → Frame
    with_blanks c f = record f { locals = blank c (local_types P FR f.method f.offset) f.locals }

    locals_blank : (c : Value) → NoLong c → (f : Frame) (x : Holds P FR h f) → Belong P h (local_tys x.method x.method.max_locals x.types.locals) (blank c (local_types P FR f.method f.offset) f.locals)
    locals_blank c short f x = subst (λ ts. Belong P h (local_tys x.method x.method.max_locals x.types.locals) (blank c ts f.locals)) (sym (local_types_of P FR h f x)) (blank_ok P h c short _ f.locals x.locals)

    holds_blank : (c : Value) → NoLong c → (f : Frame) → Holds P FR h f → Holds P FR h (with_blanks c f)
    holds_blank c short f x = record {
      method = x.method;
      body = x.body;
      site = x.site;
      types = x.types;
      is_method = x.is_method;
      is_body = x.is_body;
      is_site = x.is_site;
      is_types = x.is_types;
      locals = locals_blank c short f x;
    }

    module _ (a b : ℕ) (r : R a b) (o : Obj) (e : get h a ≡ Some o) (thrown : T (is_assignable P o.kind (class_kind (built_in P built_ins.Throwable)))) where
      -- what belongs to the frame at the handler
      handler_fills : (f : Frame) (fs : List Frame) → Unwinds P facts wt result h (f ∷ fs) → (t : ℕ) → handler_at P f.method f.offset o.kind ≡ Some t → Fills P FR h f.method t f.locals (Ref a ∷ [])
      handler_fills f fs w t z =
          let c : AllStand P FR result h (record f { offset = t; operands = Ref a ∷ [] } ∷ fs) = subst (λ x. ControlStands P FR result h (on_some x (unwound P o.kind (Ref a) fs) (λ t. Running (record f { offset = t; operands = Ref a ∷ [] } ∷ fs)))) z (unwound_ok P facts wt result h a o e thrown (f ∷ fs) w) in
          stands_fills P FR h (record f { offset = t; operands = Ref a ∷ [] }) c.0

      pub unwound_usable : (fs gs : List Frame) → Unwinds P facts wt result h fs → UsableFrames P FR R fs gs → UsableControl P FR R (unwound P o.kind (Ref a) fs) (unwound P o.kind (Ref b) gs)
      unwound_usable fs gs w no_frame = both_throw (like_ref r)
      unwound_usable (f ∷ fs) (g ∷ gs) w (one_frame q bs) =
          subst₂ (λ m n. UsableControl P FR R (unwound P o.kind (Ref a) (f ∷ fs)) (on_some (handler_at P m n o.kind) (unwound P o.kind (Ref b) gs) (λ t. Running (record g { offset = t; operands = Ref b ∷ [] } ∷ gs)))) q.method q.offset
          (go (handler_at P f.method f.offset o.kind) refl (unwound_usable fs gs (waiting_unwinds P facts wt result h f.method fs w.1) bs))
        where
          go : (x : Option ℕ) → handler_at P f.method f.offset o.kind ≡ x → UsableControl P FR R (unwound P o.kind (Ref a) fs) (unwound P o.kind (Ref b) gs)
              → UsableControl P FR R (on_some x (unwound P o.kind (Ref a) fs) (λ t. Running (record f { offset = t; operands = Ref a ∷ [] } ∷ fs))) (on_some x (unwound P o.kind (Ref b) gs) (λ t. Running (record g { offset = t; operands = Ref b ∷ [] } ∷ gs)))
          go None z ih = ih
          go (Some t) z ih = both_run (one_frame (record {
            method = q.method;
            offset = refl;
            locals = flow P R h (local_types P FR f.method f.offset) (local_types P FR f.method t) f.locals g.locals q.locals
                (λ c short. (handler_fills (with_blanks c f) fs (holds_blank c short f w.0, w.1) t z).locals_belong);
            operands = alike_usable P R h (operand_types P FR f.method t 1) (Ref a ∷ []) (Ref b ∷ []) (handler_fills f fs w t z).operands_belong (one_more (like_ref r) no_more);
          }) bs)

    -- ---- returns

    result_flow : (o : Option Kind) (v v2 : Option Value) → AlikeResult R v v2 → IsResult P h o v → (ts xs : List Ty) (us vs : List Value) → UsableLike R ts us vs
        → ((c : Value) → NoLong c → Belong P h xs (with_result v (blank c ts us))) → UsableLike R xs (with_result v us) (with_result v2 vs)
    result_flow o v v2 no_result q ts xs us vs l f = flow P R h ts xs us vs l f
    result_flow None v v2 (one_result {u} {v = z} a) q ts xs us vs l f = absurd q
    result_flow (Some k) v v2 (one_result {u} {v = z} a) q ts xs us vs l f = flow P R h (kind_ty k ∷ ts) xs (u ∷ us) (z ∷ vs) (usable.one_place (λ x. a) l)
        (λ c s. subst (λ w. Belong P h xs (w ∷ blank c ts us)) (sym (blank_kept c (kind_ty k) u (kind_usable k))) (f c s))

    -- the frame below, with anything in the places that aren't usable
    waits_blank : (c : Value) → NoLong c → (r : ℕ) (f : Frame) → Waits P FR h r f
        → Waits P FR h r (record f { locals = blank c (local_types P FR f.method f.offset) f.locals; operands = blank c (operand_types P FR f.method f.offset (length f.operands)) f.operands })
    waits_blank c short r f w = record {
      holds = record {
        method = w.holds.method;
        body = w.holds.body;
        site = w.holds.site;
        types = w.holds.types;
        is_method = w.holds.is_method;
        is_body = w.holds.is_body;
        is_site = w.holds.is_site;
        is_types = w.holds.is_types;
        locals = locals_blank c short f w.holds;
      };
      is_call = w.is_call;
      named = w.named;
      owner = w.owner;
      is_named = w.is_named;
      target = w.target;
      is_target = w.is_target;
      above = w.above;
      is_above = w.is_above;
      same = w.same;
      operands = subst (λ ts. Belong P h (operand_tys w.holds.method (drop (operands_of w.target) w.holds.types.operands)) (blank c ts f.operands)) (sym (waiting_types P FR h r f w)) (blank_ok P h c short _ f.operands w.operands);
    }

    -- what belongs to a frame to which a result was given
    given_fills : (r : ℕ) (i : MethodInfo) → method_at P r ≡ Some i → (v : Option Value) → IsResult P h i.result v → (f : Frame) (fs : List Frame) → AllWait P FR result h r (f ∷ fs) → (t : ℕ) → next_offset P f.method f.offset ≡ Some t
        → Fills P FR h f.method t f.locals (with_result v f.operands)
    given_fills r i is_i v q f fs w t z =
        let g = given_ok P facts wt result h r i is_i v q (f ∷ fs) w in
        let same : Some (Running (record f { offset = t; operands = with_result v f.operands } ∷ fs)) ≡ Some g.0 = sym (ap (option_map (λ t. Running (record f { offset = t; operands = with_result v f.operands } ∷ fs))) z) ∙ g.1 in
        let c : AllStand P FR result h (record f { offset = t; operands = with_result v f.operands } ∷ fs) = subst (ControlStands P FR result h) (sym (some_same same)) g.2 in
        stands_fills P FR h (record f { offset = t; operands = with_result v f.operands }) c.0

    pub given_usable : (r : ℕ) (i : MethodInfo) → method_at P r ≡ Some i → (v v2 : Option Value) → AlikeResult R v v2 → IsResult P h i.result v → (fs gs : List Frame) → AllWait P FR result h r fs → UsableFrames P FR R fs gs
        → (c d : Control) → given P v fs ≡ Some c → given P v2 gs ≡ Some d → UsableControl P FR R c d
    given_usable r i is_i v v2 l q fs gs w no_frame c d x y = subst₂ (UsableControl P FR R) (some_same x) (some_same y) (both_return l)
    given_usable r i is_i v v2 l q (f ∷ fs) (g ∷ gs) w (one_frame a bs) c d x y =
        go (next_offset P f.method f.offset) refl x (subst₂ (λ m n. option_map (λ t. Running (record g { offset = t; operands = with_result v2 g.operands } ∷ gs)) (next_offset P m n) ≡ Some d) (sym a.method) (sym a.offset) y)
      where
        go : (o : Option ℕ) → next_offset P f.method f.offset ≡ o → option_map (λ t. Running (record f { offset = t; operands = with_result v f.operands } ∷ fs)) o ≡ Some c
            → option_map (λ t. Running (record g { offset = t; operands = with_result v2 g.operands } ∷ gs)) o ≡ Some d → UsableControl P FR R c d
        go None z x y = absurd (none_some x)
        go (Some t) z x y =
            let L = local_types P FR f.method f.offset in
            let ts = operand_types P FR f.method f.offset (length f.operands) in
            let fills : (k : Value) → NoLong k → Fills P FR h f.method t (blank k L f.locals) (with_result v (blank k ts f.operands)) =
            λ k short. given_fills r i is_i v q (record f { locals = blank k L f.locals; operands = blank k ts f.operands }) fs (waits_blank k short r f w.0, w.1) t z in
            subst₂ (UsableControl P FR R) (some_same x) (some_same y) (both_run (one_frame (record {
              method = a.method;
              offset = refl;
              locals = flow P R h L (local_types P FR f.method t) f.locals g.locals a.locals (λ k short. (fills k short).locals_belong);
              operands = result_flow i.result v v2 l q ts (operand_types P FR f.method t (length (with_result v f.operands))) f.operands g.operands a.operands
                  (λ k short. subst (λ n. Belong P h (operand_types P FR f.method t n) (with_result v (blank k ts f.operands))) (length_result v _ _ (blank_length k ts f.operands)) (fills k short).operands_belong);
            }) bs))

  -- ---- after an instruction
  module _ (s : State) (th : TypedHeap P s.heap) (f : Frame) (fs : List Frame) (st : Stands P FR s.heap f) (ws : AllWait P FR result s.heap f.method fs) where
    abbrev pub Q : Ending → Within → Type 0
    Q = Owes P facts wt result s th f fs st ws

    abbrev own : MethodInfo
    own = st.holds.method

    -- a method gives values of one kind
    pub one_kind : (w : Within) → Q (Gave (Some Null)) w → Q (Gave (Some (Int (pos 0)))) w → ⊥
    one_kind w p q = one_result_kind w.heap own.result p.4 q.4
      where
        one_result_kind : (h : Heap) (o : Option Kind) → IsResult P h o (Some Null) → IsResult P h o (Some (Int (pos 0))) → ⊥
        one_result_kind h None p q = p
        one_result_kind h (Some k) p q = both_admitted P h (kind_ty k) p q (kind_usable k)

    module _ (R : ℕ → ℕ → Type 0) (L ts : List Ty) (w1 w2 : Within) (b : Beside P s.heap Q one_kind R L ts w1 w2) (g : Frame) (gs : List Frame) (a : UsableFrame P FR R f g) (bs : UsableFrames P FR R fs gs) (c d : Control) where
      abbrev blanks : Value → Within
      blanks k = record w1 { locals = blank k L w1.locals; operands = blank k ts w1.operands }

      locals_agree : UsableLike R L w1.locals w2.locals
      locals_agree = places_usable P R w1.heap L w1.locals w2.locals b.locals

      operands_agree : UsableLike R ts w1.operands w2.operands
      operands_agree = places_usable P R w1.heap ts w1.operands w2.operands b.operands

      -- what is owed whatever the places hold that aren't usable
      owed : (e : Ending) → Ends P s.heap Q e L ts → (k : Value) → NoLong k → Q e (blanks k)
      owed e o k short = o (blanks k) b.typed b.stays (blank_ok P w1.heap k short L w1.locals (places_belong P R w1.heap L _ _ b.locals)) (blank_ok P w1.heap k short ts w1.operands (places_belong P R w1.heap ts _ _ b.operands))

      goes : (t : ℕ) → Ends P s.heap Q (GoesTo t) L ts → after P (GoesTo t) w1 f fs ≡ Some c → after P (GoesTo t) w2 g gs ≡ Some d → UsableControl P FR R c d
      goes t o x y =
          let fills : (k : Value) → NoLong k → Fills P FR w1.heap f.method t (blank k L w1.locals) (blank k ts w1.operands) =
          λ k short.
          let q = owed (GoesTo t) o k short in
          let z : AllStand P FR result w1.heap (record f { offset = t; locals = blank k L w1.locals; operands = blank k ts w1.operands } ∷ fs) = subst (ControlStands P FR result w1.heap) (sym (some_same q.2)) q.3 in
          stands_fills P FR w1.heap (record f { offset = t; locals = blank k L w1.locals; operands = blank k ts w1.operands }) z.0 in
          subst₂ (UsableControl P FR R) (some_same x) (some_same y) (both_run (one_frame (record {
            method = a.method;
            offset = refl;
            locals = flow P R w1.heap L (local_types P FR f.method t) w1.locals w2.locals locals_agree (λ k short. (fills k short).locals_belong);
            operands = flow P R w1.heap ts (operand_types P FR f.method t (length w1.operands)) w1.operands w2.operands operands_agree
                (λ k short. subst (λ n. Belong P w1.heap (operand_types P FR f.method t n) (blank k ts w1.operands)) (blank_length k ts w1.operands) (fills k short).operands_belong);
          }) bs))

      threw : (x y : ℕ) → R x y → Q (Threw x) w1 → after P (Threw x) w1 f fs ≡ Some c → after P (Threw y) w2 g gs ≡ Some d → UsableControl P FR R c d
      threw x y r q p1 p2 =
          let o = some_of (get w1.heap x) (λ o. T (is_assignable P o.kind (class_kind (built_in P built_ins.Throwable)))) q.4 in
          go o.0 (get w2.heap y) o.1 o.2 (subst (λ z. AlikeAt R z (get w2.heap y)) o.1 (b.heap.alike x y r)) (subst (λ z. option_map (λ (o : Obj). unwound P o.kind (Ref x) (f ∷ fs)) z ≡ Some c) o.1 p1) p2
        where
          go : (o : Obj) (z : Option Obj) → get w1.heap x ≡ Some o → T (is_assignable P o.kind (class_kind (built_in P built_ins.Throwable))) → AlikeAt R (Some o) z → Some (unwound P o.kind (Ref x) (f ∷ fs)) ≡ Some c
              → option_map (λ (o : Obj). unwound P o.kind (Ref y) (g ∷ gs)) z ≡ Some d → UsableControl P FR R c d
          go o z e thrown (alike_at n) p1 p2 = subst₂ (UsableControl P FR R) (some_same p1) (some_same p2)
              (subst (λ k. UsableControl P FR R (unwound P o.kind (Ref x) (f ∷ fs)) (unwound P k (Ref y) (g ∷ gs))) n.kind
              (unwound_usable R w1.heap x y r o e thrown (f ∷ fs) (g ∷ gs) (holds_on P facts wt s.heap w1.heap b.stays f st.holds, all_wait_on P facts wt result s.heap w1.heap b.stays f.method fs ws) (one_frame a bs)))

      called : (n : ℕ) → Ends P s.heap Q (Called n) L ts → Q (Called n) w1 → after P (Called n) w1 f fs ≡ Some c → after P (Called n) w2 g gs ≡ Some d → UsableControl P FR R c d
      called n o q x y =
          let t = q.4.0 in
          let is_t = q.4.1 in
          let l2 : operands_of t ≤ length w2.operands = subst (λ m. operands_of t ≤ m) (usable_length P R ts _ _ operands_agree) q.4.2 in
          let below : (k : Value) → NoLong k → Fills P FR w1.heap f.method f.offset (blank k L w1.locals) (blank k (drop (operands_of t) ts) (drop (operands_of t) w1.operands)) =
          λ k short.
          let z = owed (Called n) o k short in
          let l : operands_of t ≤ length (blank k ts w1.operands) = subst (λ m. operands_of t ≤ m) (sym (blank_length k ts w1.operands)) q.4.2 in
          let same : called_control P facts wt result n t (blanks k) f fs ≡ z.1 = some_same (sym (enters P facts wt result f fs n t is_t (blanks k) l) ∙ z.2) in
          let v = subst (ControlStands P FR result w1.heap) (sym same) z.3 in
          let r = waits_fills P FR w1.heap n (record f { locals = blank k L w1.locals; operands = drop (operands_of t) (blank k ts w1.operands) }) v.1.0 in
          subst (λ vs. Fills P FR w1.heap f.method f.offset (blank k L w1.locals) vs) (blank_drop (operands_of t) k ts w1.operands) r in
          let given : (k : Value) → NoLong k → Belong P w1.heap (argument_tys t) (blank k (take (operands_of t) ts) (take (operands_of t) w1.operands)) =
          λ k short.
          let z = (owed (Called n) o k short).4 in
          subst (Belong P w1.heap (argument_tys t)) (blank_take (operands_of t) k ts w1.operands)
          (subst (λ (t : MethodInfo). Belong P w1.heap (argument_tys t) (take (operands_of t) (blank k ts w1.operands))) (some_both z.1 is_t) z.3) in
          let args : AllLike R (take (operands_of t) w1.operands) (take (operands_of t) w2.operands) =
          arguments_alike R t _ _ (flow P R w1.heap (take (operands_of t) ts) (argument_tys t) _ _ (usable_take P R (operands_of t) ts _ _ operands_agree) given) in
          let same1 = some_same (sym (enters P facts wt result f fs n t is_t w1 q.4.2) ∙ x) in
          let same2 = some_same (sym (enters P facts wt result g gs n t is_t w2 l2) ∙ y) in
          let now = subst (ControlStands P FR result w1.heap) (sym (some_same (sym (enters P facts wt result f fs n t is_t w1 q.4.2) ∙ q.2))) q.3 in
          let top = stands_fills P FR w1.heap (first_frame t n (take (operands_of t) w1.operands)) now.0 in
          subst₂ (UsableControl P FR R) same1 same2 (both_run (one_frame (record {
            method = refl;
            offset = refl;
            locals = alike_usable P R w1.heap (local_types P FR n 0) _ _ top.locals_belong (locals_like R t _ _ args);
            operands = alike_usable P R w1.heap (operand_types P FR n 0 0) [] [] top.operands_belong no_more;
          }) (one_frame (record {
            method = a.method;
            offset = a.offset;
            locals = flow P R w1.heap L (local_types P FR f.method f.offset) w1.locals w2.locals locals_agree (λ k short. (below k short).locals_belong);
            operands = flow P R w1.heap (drop (operands_of t) ts) (operand_types P FR f.method f.offset (length (drop (operands_of t) w1.operands))) _ _ (usable_drop P R (operands_of t) ts _ _ operands_agree)
                (λ k short. subst (λ m. Belong P w1.heap (operand_types P FR f.method f.offset m) (blank k (drop (operands_of t) ts) (drop (operands_of t) w1.operands))) (blank_length k (drop (operands_of t) ts) (drop (operands_of t) w1.operands)) (below k short).operands_belong);
          }) bs)))

      pub after_usable : (e1 e2 : Ending) → AlikeEnding R e1 e2 → Owing P s.heap Q one_kind e1 L ts → Q e1 w1 → after P e1 w1 f fs ≡ Some c → after P e2 w2 g gs ≡ Some d → UsableControl P FR R c d
      after_usable e1 e2 (both_go {t}) o q x y = goes t o x y
      after_usable e1 e2 (both_threw {x} {y} r) o q p1 p2 = threw x y r q p1 p2
      after_usable e1 e2 (both_gave {u} {v} l) o q x y = given_usable R w1.heap f.method own st.holds.is_method u v l q.4 fs gs (all_wait_on P facts wt result s.heap w1.heap b.stays f.method fs ws) bs c d x y
      after_usable e1 e2 (both_called {m}) o q x y = called m o q x y
