-- Relations of names one after another, and the other way round.
use Rattle.std.proofs.Common.{◌≡◌, ℕ, zero, suc, List, [], ◌∷◌, refl, sym, ap, subst, ◌∙◌}
use Rattle.std.specs.Prelude.{Option, Some, None}
use Rattle.nr_model.specs.declared.value.Value.{Value}
use Rattle.nr_model.specs.Heaps.{Obj, Heap, on_some}
use Rattle.nr_model.specs.States.{Frame, Control, State}
use Rattle.nr_model.specs.Alike.{Like, like_int, like_long, like_null, like_ref, AllLike, no_more, one_more, AlikeAt, alike_at, AlikeFrame, AlikeFrames, no_frame, one_frame, AlikeResult, no_result, one_result, AlikeControl, both_run, both_return, both_throw}
use Rattle.nr_model.specs.Pairs.{name_in, name_at, slot_name, leads}
use Rattle.nr_model.proofs.Matchings.{Matched, AlikeState}
use Rattle.nr_model.proofs.Paths.{none_some, some_eq}

-- one relation after another
module _ (S T : ℕ → ℕ → Type 0) where
  pub record Through (x z : ℕ) : Type 0 where
    pub by : ℕ
    pub first : S x by
    pub second : T by z

  pub like_through : (u v w : Value) → Like S u v → Like T v w → Like Through u w
  like_through u v w like_int like_int = like_int
  like_through u v w like_long like_long = like_long
  like_through u v w like_null like_null = like_null
  like_through u v w (like_ref r) (like_ref s) = like_ref (record { by = _; first = r; second = s })

  pub all_through : (us vs ws : List Value) → AllLike S us vs → AllLike T vs ws → AllLike Through us ws
  all_through us vs ws no_more no_more = no_more
  all_through us vs ws (one_more l ls) (one_more m ms) = one_more (like_through _ _ _ l m) (all_through _ _ _ ls ms)

  pub at_through : (o p q : Option Obj) → AlikeAt S o p → AlikeAt T p q → AlikeAt Through o q
  at_through o p q (alike_at a) (alike_at b) = alike_at (record { kind = a.kind ∙ b.kind; slots = all_through _ _ _ a.slots b.slots })

  pub result_through : (u v w : Option Value) → AlikeResult S u v → AlikeResult T v w → AlikeResult Through u w
  result_through u v w no_result no_result = no_result
  result_through u v w (one_result l) (one_result m) = one_result (like_through _ _ _ l m)

  frame_through : (f g k : Frame) → AlikeFrame S f g → AlikeFrame T g k → AlikeFrame Through f k
  frame_through f g k a b = record { method = a.method ∙ b.method; offset = a.offset ∙ b.offset; locals = all_through _ _ _ a.locals b.locals; operands = all_through _ _ _ a.operands b.operands }

  frames_through : (fs gs ks : List Frame) → AlikeFrames S fs gs → AlikeFrames T gs ks → AlikeFrames Through fs ks
  frames_through fs gs ks no_frame no_frame = no_frame
  frames_through fs gs ks (one_frame a bs) (one_frame b cs) = one_frame (frame_through _ _ _ a b) (frames_through _ _ _ bs cs)

  control_through : (c d e : Control) → AlikeControl S c d → AlikeControl T d e → AlikeControl Through c e
  control_through c d e (both_run a) (both_run b) = both_run (frames_through _ _ _ a b)
  control_through c d e (both_return l) (both_return m) = both_return (result_through _ _ _ l m)
  control_through c d e (both_throw l) (both_throw m) = both_throw (like_through _ _ _ l m)

  pub matched_through : (h k l : Heap) → Matched S h k → Matched T k l → Matched Through h l
  matched_through h k l a b = record {
    one_right = λ x y z p q. b.one_right p.by y z p.second (subst (λ w. T w z) (a.one_right x q.by p.by q.first p.first) q.second);
    one_left = λ x y z p q. a.one_left x y p.by p.first (subst (S y) (b.one_left q.by p.by z q.second p.second) q.first);
    alike = λ x y p. at_through _ _ _ (a.alike x p.by p.first) (b.alike p.by y p.second);
  }

  pub state_through : (s t u : State) → AlikeState S s t → AlikeState T t u → AlikeState Through s u
  state_through s t u a b = record { heap = matched_through _ _ _ a.heap b.heap; control = control_through _ _ _ a.control b.control; printed = a.printed ∙ b.printed }

-- a relation seen from the other side
module _ (R : ℕ → ℕ → Type 0) where
  abbrev pub Back : ℕ → ℕ → Type 0
  Back y x = R x y

  pub like_back : (u v : Value) → Like R u v → Like Back v u
  like_back u v like_int = like_int
  like_back u v like_long = like_long
  like_back u v like_null = like_null
  like_back u v (like_ref r) = like_ref r

  pub all_back : (us vs : List Value) → AllLike R us vs → AllLike Back vs us
  all_back us vs no_more = no_more
  all_back us vs (one_more l ls) = one_more (like_back _ _ l) (all_back _ _ ls)

  at_back : (o p : Option Obj) → AlikeAt R o p → AlikeAt Back p o
  at_back o p (alike_at a) = alike_at (record { kind = sym a.kind; slots = all_back _ _ a.slots })

  pub back_matched : (h k : Heap) → Matched R h k → Matched Back k h
  back_matched h k m = record {
    one_right = λ x y z r s. m.one_left y z x r s;
    one_left = λ x y z r s. m.one_right z x y r s;
    alike = λ x y r. at_back _ _ (m.alike y x r);
  }

  pub result_back : (u v : Option Value) → AlikeResult R u v → AlikeResult Back v u
  result_back u v no_result = no_result
  result_back u v (one_result l) = one_result (like_back _ _ l)

  frame_back : (f g : Frame) → AlikeFrame R f g → AlikeFrame Back g f
  frame_back f g a = record { method = sym a.method; offset = sym a.offset; locals = all_back _ _ a.locals; operands = all_back _ _ a.operands }

  frames_back : (fs gs : List Frame) → AlikeFrames R fs gs → AlikeFrames Back gs fs
  frames_back fs gs no_frame = no_frame
  frames_back fs gs (one_frame a bs) = one_frame (frame_back _ _ a) (frames_back _ _ bs)

  control_back : (c d : Control) → AlikeControl R c d → AlikeControl Back d c
  control_back c d (both_run bs) = both_run (frames_back _ _ bs)
  control_back c d (both_return l) = both_return (result_back _ _ l)
  control_back c d (both_throw l) = both_throw (like_back _ _ l)

  pub state_back : (s t : State) → AlikeState R s t → AlikeState Back t s
  state_back s t a = record { heap = back_matched _ _ a.heap; control = control_back _ _ a.control; printed = sym a.printed }

-- along a path on the left goes one on the right
module _ (R : ℕ → ℕ → Type 0) (h k : Heap) (m : Matched R h k) where
  pub slot_over : (us vs : List Value) (i x : ℕ) → AllLike R us vs → name_at us i ≡ Some x → (y : ℕ) × (name_at vs i ≡ Some y) × R x y
  slot_over us vs i x no_more e = absurd (none_some e)
  slot_over us vs zero x (one_more like_int ls) e = absurd (none_some e)
  slot_over us vs zero x (one_more like_long ls) e = absurd (none_some e)
  slot_over us vs zero x (one_more like_null ls) e = absurd (none_some e)
  slot_over us vs zero x (one_more (like_ref {y = y} r) ls) e = (y, refl, subst (λ x. R x y) (some_eq e) r)
  slot_over us vs (suc i) x (one_more l ls) e = slot_over _ _ i x ls e

  pub name_over : (o p : Option Obj) (i x : ℕ) → AlikeAt R o p → on_some o None (λ o. name_at o.slots i) ≡ Some x
      → (y : ℕ) × (on_some p None (λ o. name_at o.slots i) ≡ Some y) × R x y
  name_over o p i x (alike_at a) e = slot_over _ _ i x a.slots e

  bound : (o : Option ℕ) (f : ℕ → Option ℕ) (y : ℕ) → on_some o None f ≡ Some y → (x : ℕ) × (o ≡ Some x) × (f x ≡ Some y)
  bound None f y e = absurd (none_some e)
  bound (Some x) f y e = (x, refl, e)

  pub path_over : (path : List ℕ) (a b x : ℕ) → R a b → leads h path a ≡ Some x → (y : ℕ) × (leads k path b ≡ Some y) × R x y
  path_over [] a b x r e = (b, refl, subst (λ z. R z b) (some_eq e) r)
  path_over (i ∷ path) a b x r e =
      let c = bound (slot_name h a i) (leads h path) x e in
      let d = name_over _ _ i c.0 (m.alike a b r) c.1 in
      let q = path_over path c.0 d.0 x d.2 c.2 in
      (q.0, ap (λ o. on_some o None (leads k path)) d.1 ∙ q.1, q.2)

  -- a name in the result on the left has one beside it
  pub result_over : (u v : Option Value) (x : ℕ) → AlikeResult R u v → on_some u None name_in ≡ Some x → (y : ℕ) × (on_some v None name_in ≡ Some y) × R x y
  result_over u v x no_result e = absurd (none_some e)
  result_over u v x (one_result like_int) e = absurd (none_some e)
  result_over u v x (one_result like_long) e = absurd (none_some e)
  result_over u v x (one_result like_null) e = absurd (none_some e)
  result_over u v x (one_result (like_ref {y = y} r)) e = (y, refl, subst (λ x. R x y) (some_eq e) r)
