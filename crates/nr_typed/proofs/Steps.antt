-- Progress and preservation.
use Rattle.std.proofs.Common.{◌≡◌, ℕ, suc, ◌≤◌, List, [], ◌∷◌, length, refl, sym, ap, subst, subst₂, ◌∙◌, Bool, true, false, arith, T}
use Rattle.std.specs.Prelude.{Option, Some, None, IsTrue, Contains, if◌then◌else◌, ◌==◌, ◌&&◌}
use Rattle.std.specs.Option.{option_map_or, option_and_then}
use Rattle.std.specs.FinMap.{get}
use Rattle.std.proofs.Math.Facts.{eqb_yes}
use Rattle.nr_prog.specs.declared.body.instruction.Instr.{Instr}
use Rattle.nr_prog.specs.declared.body.whole.Body.{Body}
use Rattle.nr_prog.specs.declared.member.Handler.{Handler}
use Rattle.nr_linked.specs.declared.program.built_in.BuiltIn.TheVariants as built_ins
use Rattle.nr_linked.specs.declared.program.kind.Kind.{Kind}
use Rattle.nr_linked.specs.declared.program.tables.MethodInfo.{MethodInfo}
use Rattle.nr_linked.specs.declared.program.tables.ProgramTables.{ProgramTables}
use Rattle.nr_linked.specs.declared.program.tables.Resolved.{Resolved}
use Rattle.nr_linked.specs.Kinds.{class_kind}
use Rattle.nr_linked.specs.BuiltIns.{built_in}
use Rattle.nr_linked.specs.Programs.{method_at}
use Rattle.nr_linked.specs.Sites.{Site, first_offset, site_among, site_at}
use Rattle.nr_linked.specs.Subtypes.{is_assignable, is_above}
use Rattle.nr_linked.specs.TypingFrames.{TypeFrame, locals_fit, operands_fit, frame_fits, total_size}
use Rattle.nr_linked.specs.TypingFacts.{TypingFacts}
use Rattle.nr_linked.specs.WellTyped.{map_at, frame_among, frame_at, Comes, ComesTo, FitsMap, caught_type, with_catches, catchers, handler_frame, MethodTyped, WellTyped}
use Rattle.nr_linked.specs.Handlers.{covers}
use Rattle.nr_model.specs.declared.value.Value.TheVariants.{Ref}
use Rattle.nr_model.specs.Heaps.{Obj, Heap, on_some}
use Rattle.nr_model.specs.States.{Frame, Running}
use Rattle.nr_model.specs.Steps.{catches, first_handler, handler_at, unwound}
use Rattle.nr_model.specs.Types.{Word, ty_of, operand_tys, local_tys}
use Rattle.nr_model.specs.Belonging.{Belongs, Belong, no_place, one_place, AllSharper}
use Rattle.nr_model.specs.Staying.{Stays}
use Rattle.nr_typed.specs.Standing.{Holds, Stands, Waits, AllWait, ControlStands}
use Rattle.nr_typed.proofs.Typed.{some_of, at_some, all_on}
use Rattle.nr_typed.proofs.Assigning.{yes, holds, and_both, sub_assignable}
use Rattle.nr_typed.proofs.Belongs.{operands_ok, locals_ok, same_total}

pub none_some : {X : Type 0} {x : X} → ◌≡◌ {A = Option X} None (Some x) → ⊥
none_some e = cc

pub some_same : {X : Type 0} {x y : X} → Some x ≡ Some y → x ≡ y
some_same e = cc

pub some_both : {X : Type 0} {x y : X} {o : Option X} → o ≡ Some x → o ≡ Some y → x ≡ y
some_both e f = cc

-- ---- instructions at offsets

-- where a frame is, an instruction is
instruction_there : (is : List Instr) (rs : List Resolved) (fs : List TypeFrame) (at : ℕ) (f : TypeFrame) → length rs ≡ length is → frame_among is fs at ≡ Some f → (s : Site) × (site_among is rs at ≡ Some s)
instruction_there [] rs fs at f l e = absurd (none_some e)
instruction_there (i ∷ is) rs [] at f l e = absurd (none_some e)
instruction_there (i ∷ is) [] (g ∷ fs) at f l e = absurd (omega arith)
instruction_there (i ∷ is) (r ∷ rs) (g ∷ fs) at f l e = cases (i.at == at) (λ e. instruction_there is rs fs at f (omega arith) e) e
  where
    cases : (c : Bool) → (frame_among is fs at ≡ Some f → (s : Site) × (site_among is rs at ≡ Some s)) → (if c then Some g else frame_among is fs at) ≡ Some f
        → (s : Site) × ((if c then Some (record { instr = i; resolved = r; next = first_offset is }) else site_among is rs at) ≡ Some s)
    cases true go e = (_, refl)
    cases false go e = go e

-- it stands at its offset
stands_at : (is : List Instr) (rs : List Resolved) (at : ℕ) (s : Site) → site_among is rs at ≡ Some s → s.instr.at ≡ at
stands_at [] rs at s e = absurd (none_some e)
stands_at (i ∷ is) [] at s e = absurd (none_some e)
stands_at (i ∷ is) (r ∷ rs) at s e = cases (i.at == at) (λ p. eqb_yes p) (λ e. stands_at is rs at s e) e
  where
    cases : (c : Bool) → (T c → i.at ≡ at) → (site_among is rs at ≡ Some s → s.instr.at ≡ at) → (if c then Some (record { instr = i; resolved = r; next = first_offset is }) else site_among is rs at) ≡ Some s → s.instr.at ≡ at
    cases true here go e = ap (λ (s : Site). s.instr.at) (sym (some_same e)) ∙ here tt
    cases false here go e = go e

module _ (P : ProgramTables) (facts : TypingFacts P) where
  -- ---- frames that fit

  -- what belongs to f belongs to g
  pub record Fitted (m : MethodInfo) (f g : TypeFrame) : Type 0 where
    pub locals : AllSharper P (local_tys m m.max_locals f.locals) (local_tys m m.max_locals g.locals)
    pub operands : AllSharper P (operand_tys m f.operands) (operand_tys m g.operands)
    pub size : total_size g.operands ≡ total_size f.operands

  fits_fitted : (m : MethodInfo) (f g : TypeFrame) → IsTrue (frame_fits P f g) → Fitted m f g
  fits_fitted m f g p =
      let a = and_both (locals_fit P f.locals g.locals) _ (yes (frame_fits P f g) p) in
      let b = and_both (operands_fit P f.operands g.operands) _ a.1 in
      record { locals = λ h vs q. locals_ok P facts m h m.max_locals f.locals g.locals vs a.0 q; operands = λ h vs q. operands_ok P facts m h f.operands g.operands vs b.0 q; size = same_total P f.operands g.operands b.0 }

  self_fitted : (m : MethodInfo) (f : TypeFrame) → Fitted m f f
  self_fitted m f = record { locals = λ h vs q. q; operands = λ h vs q. q; size = refl }

  module _ (wt : WellTyped P) where
    abbrev pub frames : ℕ → List TypeFrame
    frames = wt.frames

    -- the method, and that it is well typed
    pub record Method (n : ℕ) : Type 0 where
      pub info : MethodInfo
      pub body : Body
      pub is_info : method_at P n ≡ Some info
      pub is_body : info.body ≡ Some body

    pub typed : (n : ℕ) (m : Method n) → MethodTyped P m.info m.body (frames n)
    typed n m = wt.methods n m.info m.body m.is_info m.is_body

    pub own_above : (n : ℕ) (m : Method n) → T (is_above P m.info.«class» m.info.«class»)
    own_above n m = yes (is_above P m.info.«class» m.info.«class») (facts.own n m.info m.body m.is_info m.is_body)

    pub site_there : (n : ℕ) (m : Method n) (at : ℕ) (f : TypeFrame) → frame_at m.info (frames n) at ≡ Some f → (s : Site) × (site_at m.info at ≡ Some s)
    site_there n m at f e =
        let r = instruction_there m.body.instrs m.info.resolved (frames n) at f (facts.one_each n m.info m.body m.is_info m.is_body) (subst (λ o. option_map_or (λ (body : Body). frame_among body.instrs (frames n) at) o None ≡ Some f) m.is_body e) in
        (r.0, subst (λ o. option_and_then (λ (body : Body). site_among body.instrs m.info.resolved at) o ≡ Some r.0) (sym m.is_body) r.1)

    pub at_site : (n : ℕ) (m : Method n) (at : ℕ) (s : Site) → site_at m.info at ≡ Some s → s.instr.at ≡ at
    at_site n m at s e = stands_at m.body.instrs m.info.resolved at s (subst (λ o. option_and_then (λ (body : Body). site_among body.instrs m.info.resolved at) o ≡ Some s) m.is_body e)

    -- the frame to which a frame comes
    abbrev pub Arrival : (n : ℕ) (m : Method n) → TypeFrame → ℕ → Type 0
    Arrival n m f at = (g : TypeFrame) × (frame_at m.info (frames n) at ≡ Some g) × Fitted m.info f g

    to_map : (n : ℕ) (m : Method n) (f g : TypeFrame) (at : ℕ) → map_at m.info at ≡ Some g → IsTrue (frame_fits P f g) → Arrival n m f at
    to_map n m f g at e p = (g, (typed n m).maps at g e, fits_fitted m.info f g p)

    pub comes_to : (n : ℕ) (m : Method n) (f : TypeFrame) (at : ℕ) → ComesTo P m.info (frames n) f at → Arrival n m f at
    comes_to n m f at c = cases (map_at m.info at) refl c
      where
        cases : (o : Option TypeFrame) → map_at m.info at ≡ o → Comes P m.info (frames n) f at o → (g : TypeFrame) × (frame_at m.info (frames n) at ≡ Some g) × Fitted m.info f g
        cases None e c = (f, c, self_fitted m.info f)
        cases (Some g) e c = to_map n m f g at e c

    pub branch_to : (n : ℕ) (m : Method n) (f : TypeFrame) (at : ℕ) → FitsMap P m.info f at → Arrival n m f at
    branch_to n m f at c = let r = some_of (map_at m.info at) (λ g. IsTrue (frame_fits P f g)) c in to_map n m f r.0 at r.1 r.2

    -- ---- frames in heaps

    abbrev pub holds_at : (h : Heap) (n : ℕ) (m : Method n) (f : Frame) → f.method ≡ n → (at : ℕ) → f.offset ≡ at → (g : TypeFrame) → frame_at m.info (frames n) at ≡ Some g
        → Belong P h (local_tys m.info m.info.max_locals g.locals) f.locals → Holds P frames h f
    holds_at h n m f en at ea g e l =
        let s = site_there n m at g e in
        record {
          method = m.info;
          body = m.body;
          site = s.0;
          types = g;
          is_method = subst (λ n. method_at P n ≡ Some m.info) (sym en) m.is_info;
          is_body = m.is_body;
          is_site = subst (λ at. site_at m.info at ≡ Some s.0) (sym ea) s.1;
          is_types = subst₂ (λ n at. frame_at m.info (frames n) at ≡ Some g) (sym en) (sym ea) e;
          locals = l;
        }

    abbrev pub method_of : (h : Heap) (f : Frame) → Holds P frames h f → Method f.method
    method_of h f x = record { info = x.method; body = x.body; is_info = x.is_method; is_body = x.is_body }

    abbrev pub holds_on : (h k : Heap) → Stays h k → (f : Frame) → Holds P frames h f → Holds P frames k f
    holds_on h k s f x = record { method = x.method; body = x.body; site = x.site; types = x.types; is_method = x.is_method; is_body = x.is_body; is_site = x.is_site; is_types = x.is_types; locals = all_on P h k s _ _ x.locals }

    pub waits_on : (h k : Heap) → Stays h k → (r : ℕ) (f : Frame) → Waits P frames h r f → Waits P frames k r f
    waits_on h k s r f w = record {
      holds = holds_on h k s f w.holds;
      is_call = w.is_call;
      named = w.named;
      owner = w.owner;
      is_named = w.is_named;
      target = w.target;
      is_target = w.is_target;
      above = w.above;
      is_above = w.is_above;
      same = w.same;
      operands = all_on P h k s _ _ w.operands;
    }

    pub all_wait_on : (result : Option Kind) (h k : Heap) → Stays h k → (r : ℕ) (fs : List Frame) → AllWait P frames result h r fs → AllWait P frames result k r fs
    all_wait_on result h k s r [] q = q
    all_wait_on result h k s r (f ∷ fs) q = (waits_on h k s r f q.0, all_wait_on result h k s f.method fs q.1)

    -- a frame that goes on at an offset
    pub goes_on : (h : Heap) (n : ℕ) (m : Method n) (g : TypeFrame) (at : ℕ) → Arrival n m g at → (f : Frame) → f.method ≡ n → f.offset ≡ at
        → Belong P h (local_tys m.info m.info.max_locals g.locals) f.locals → Belong P h (operand_tys m.info g.operands) f.operands → total_size g.operands ≤ m.info.max_stack → Stands P frames h f
    goes_on h n m g at x f en ea l o r = record { holds = holds_at h n m f en at ea x.0 x.1 (x.2.locals h _ l); operands = x.2.operands h _ o; room = subst (λ k. k ≤ m.info.max_stack) (sym x.2.size) r }

    -- ---- throws

    -- the handler that catches
    record Caught (kind : Kind) (offset : ℕ) (hs : List (Handler × Option Kind)) (t : ℕ) : Type 0 where
      handler : Handler
      what : Option Kind
      among : Contains hs (handler, what)
      covers_it : T (covers handler offset)
      catches_it : T (catches P kind what)
      target : handler.handler ≡ t

    this_or : (kind : Kind) (offset : ℕ) (x : Handler) (c : Option Kind) (hs : List (Handler × Option Kind)) (t : ℕ) (y : Bool) (o : Option ℕ) → (T y → T (covers x offset && catches P kind c)) → (o ≡ Some t → Caught kind offset hs t)
        → (if y then Some x.handler else o) ≡ Some t → Caught kind offset ((x, c) ∷ hs) t
    this_or kind offset x c hs t true o p f e =
        let q = and_both (covers x offset) (catches P kind c) (p tt) in
        record { handler = x; what = c; among = (0, omega arith, refl); covers_it = q.0; catches_it = q.1; target = some_same e }
    this_or kind offset x c hs t false o p f e =
        let r = f e in
        record { handler = r.handler; what = r.what; among = (suc r.among.0, (let l = r.among.1 in omega arith), r.among.2); covers_it = r.covers_it; catches_it = r.catches_it; target = r.target }

    caught : (kind : Kind) (offset : ℕ) (hs : List Handler) (cs : List (Option Kind)) (t : ℕ) → first_handler P offset kind hs cs ≡ Some t → Caught kind offset (with_catches hs cs) t
    caught kind offset [] cs t e = absurd (none_some e)
    caught kind offset (x ∷ hs) [] t e = absurd (none_some e)
    caught kind offset (x ∷ hs) (c ∷ cs) t e = this_or kind offset x c (with_catches hs cs) t (covers x offset && catches P kind c) (first_handler P offset kind hs cs) (λ p. p) (λ e. caught kind offset hs cs t e) e

    caught_ok : (m : MethodInfo) (h : Heap) (o : Obj) (a : ℕ) → get h a ≡ Some o → T (is_assignable P o.kind (class_kind (built_in P built_ins.Throwable))) → (c : Option Kind) → T (catches P o.kind c) → Belongs P h (ty_of Word m (caught_type P c)) (Ref a)
    caught_ok m h o a e p None q = at_some (get h a) o (λ o. T (is_assignable P o.kind (class_kind (built_in P built_ins.Throwable)))) e p
    caught_ok m h o a e p (Some c) q = at_some (get h a) o (λ o. T (is_assignable P o.kind c)) e (sub_assignable P facts o.kind c q)

    caught_size : (c : Option Kind) → total_size (caught_type P c ∷ []) ≡ 1
    caught_size None = refl
    caught_size (Some c) = refl

    abbrev pub Unwinds : Option Kind → Heap → List Frame → Type 0
    Unwinds result h [] = Unit {0}
    Unwinds result h (f ∷ fs) = Holds P frames h f × AllWait P frames result h f.method fs

    pub waiting_unwinds : (result : Option Kind) (h : Heap) (r : ℕ) (fs : List Frame) → AllWait P frames result h r fs → Unwinds result h fs
    waiting_unwinds result h r [] w = tt
    waiting_unwinds result h r (f ∷ fs) w = (w.0.holds, w.1)

    module _ (result : Option Kind) (h : Heap) (a : ℕ) (o : Obj) (e : get h a ≡ Some o) (thrown : T (is_assignable P o.kind (class_kind (built_in P built_ins.Throwable)))) where
      handled : (f : Frame) (fs : List Frame) (x : Holds P frames h f) → AllWait P frames result h f.method fs → (t : ℕ) → Caught o.kind f.offset (catchers x.method) t
          → ControlStands P frames result h (Running (record f { offset = t; operands = Ref a ∷ [] } ∷ fs))
      handled f fs x w t c =
          let m = method_of h f x in
          let s = (typed f.method m).sites f.offset x.site x.types x.is_site x.is_types in
          let here : x.site.instr.at ≡ f.offset = at_site f.method m f.offset x.site x.is_site in
          let hf = s.handlers c.handler c.what c.among (subst (λ at. IsTrue (covers c.handler at)) (sym here) (holds (covers c.handler f.offset) c.covers_it)) in
          let g : TypeFrame = handler_frame P c.what x.types in
          let arrival : Arrival f.method m g t = subst (Arrival f.method m g) c.target (branch_to f.method m g c.handler.handler hf.fits) in (
            goes_on h f.method m g t arrival (record f { offset = t; operands = Ref a ∷ [] }) refl refl x.locals (one_place (caught_ok x.method h o a e thrown c.what c.catches_it) no_place)
                (let z = caught_size c.what in let r = hf.room in omega arith),
            w,
          )

      here_or : (f : Frame) (fs : List Frame) (x : Holds P frames h f) → AllWait P frames result h f.method fs → ControlStands P frames result h (unwound P o.kind (Ref a) fs) → (t : Option ℕ)
          → handler_at P f.method f.offset o.kind ≡ t → ControlStands P frames result h (on_some t (unwound P o.kind (Ref a) fs) (λ t. Running (record f { offset = t; operands = Ref a ∷ [] } ∷ fs)))
      here_or f fs x w rest None z = rest
      here_or f fs x w rest (Some t) z =
          let z : option_and_then (λ (i : MethodInfo). option_and_then (λ (body : Body). first_handler P f.offset o.kind body.handlers i.catches) i.body) (Some x.method) ≡ Some t =
          subst (λ m. option_and_then (λ (i : MethodInfo). option_and_then (λ (body : Body). first_handler P f.offset o.kind body.handlers i.catches) i.body) m ≡ Some t) x.is_method z in
          let z : first_handler P f.offset o.kind x.body.handlers x.method.catches ≡ Some t = subst (λ b. option_and_then (λ (body : Body). first_handler P f.offset o.kind body.handlers x.method.catches) b ≡ Some t) x.is_body z in
          let c : Caught o.kind f.offset (catchers x.method) t = subst (λ b. Caught o.kind f.offset (option_map_or (λ (body : Body). with_catches body.handlers x.method.catches) b []) t) (sym x.is_body) (caught o.kind f.offset x.body.handlers x.method.catches t z) in
          handled f fs x w t c

      pub unwound_ok : (fs : List Frame) → Unwinds result h fs → ControlStands P frames result h (unwound P o.kind (Ref a) fs)
      unwound_ok [] w = at_some (get h a) o (λ o. T (is_assignable P o.kind (class_kind (built_in P built_ins.Throwable)))) e thrown
      unwound_ok (f ∷ fs) w = here_or f fs w.0 w.1 (unwound_ok fs (waiting_unwinds result h f.method fs w.1)) (handler_at P f.method f.offset o.kind) refl
