-- The frames of a well-typed method are unique, where its instructions stand in order.
use Rattle.std.proofs.Common.{◌≡◌, ℕ, ◌<◌, List, [], ◌∷◌, length, refl, sym, ap, subst, subst₂, ◌∙◌, Bool, true, false, arith, T}
use Rattle.std.specs.Prelude.{Option, Some, None, IsSome, if◌then◌else◌, ◌==◌}
use Rattle.std.specs.Option.{option_map_or, option_and_then}
use Rattle.std.proofs.Math.Facts.{eqb_yes, yes_eqb}
use Rattle.nr_prog.specs.declared.body.instruction.Instr.{Instr}
use Rattle.nr_prog.specs.declared.body.whole.Body.{Body}
use Rattle.nr_prog.specs.Offsets.{RiseAbove, StandInOrder}
use Rattle.nr_linked.specs.declared.program.kind.Kind.{Kind}
use Rattle.nr_linked.specs.declared.program.tables.MethodInfo.{MethodInfo}
use Rattle.nr_linked.specs.declared.program.tables.ProgramTables.{ProgramTables}
use Rattle.nr_linked.specs.declared.program.tables.Resolved.{Resolved}
use Rattle.nr_linked.specs.Layout.{CodeInOrder}
use Rattle.nr_linked.specs.Programs.{method_at}
use Rattle.nr_linked.specs.Sites.{Site, first_offset, site_among, site_at}
use Rattle.nr_linked.specs.TypingFrames.{TypeFrame, entry_frame}
use Rattle.nr_linked.specs.TypingChecks.{Checked, Leaves}
use Rattle.nr_linked.specs.TypingRules.{type_op}
use Rattle.nr_linked.specs.TypingFacts.{TypingFacts}
use Rattle.nr_linked.specs.WellTyped.{falls_through, map_at, frame_among, frame_at, Comes, ComesTo, Onward, MethodTyped, WellTyped}
use Rattle.nr_model.specs.Heaps.{Heap}
use Rattle.nr_model.specs.States.{Frame, Control, Running, Returned, Thrown, State}
use Rattle.nr_typed.specs.Standing.{Holds, AllWait, ControlStands, StandsIn}
use Rattle.nr_typed.proofs.Steps.{none_some, some_same}

-- ---- what stands beside an instruction

this_one : {X : Type 0} (n : ℕ) (x : X) (o : Option X) → (if n == n then Some x else o) ≡ Some x
this_one {X} n x o = by_flag (n == n) (yes_eqb refl)
  where
    by_flag : (z : Bool) → T z → ◌≡◌ {A = Option X} (if z then Some x else o) (Some x)
    by_flag true p = refl
    by_flag false p = absurd p

other_one : {X : Type 0} (n k : ℕ) (x y : X) (o : Option X) → n < k → o ≡ Some y → (if n == k then Some x else o) ≡ Some y
other_one {X} n k x y o l e = by_flag (n == k) (λ p. eqb_yes p)
  where
    by_flag : (z : Bool) → (T z → n ≡ k) → ◌≡◌ {A = Option X} (if z then Some x else o) (Some y)
    by_flag true f = let e : n ≡ k = f tt in absurd (omega arith)
    by_flag false f = e

-- what is found stands above what all instructions stand above
found_above : {X : Type 0} (n k : ℕ) (at : ℕ) (x y : X) (o : Option X) → n < k → (o ≡ Some y → k < at) → (if k == at then Some x else o) ≡ Some y → n < at
found_above {X} n k at x y o l f e = by_flag (k == at) (λ p. eqb_yes p) e
  where
    by_flag : (z : Bool) → (T z → k ≡ at) → ◌≡◌ {A = Option X} (if z then Some x else o) (Some y) → n < at
    by_flag true g e = let z : k ≡ at = g tt in omega arith
    by_flag false g e = let z : k < at = f e in omega arith

site_above : (n : ℕ) (is : List Instr) (rs : List Resolved) (at : ℕ) (s : Site) → RiseAbove n is → site_among is rs at ≡ Some s → n < at
site_above n [] rs at s r e = absurd (none_some e)
site_above n (i ∷ is) [] at s r e = absurd (none_some e)
site_above n (i ∷ is) (x ∷ rs) at s r e = found_above n i.at at _ s (site_among is rs at) r.0 (λ e. site_above i.at is rs at s r.1 e) e

frame_above : (n : ℕ) (is : List Instr) (fs : List TypeFrame) (at : ℕ) (f : TypeFrame) → RiseAbove n is → frame_among is fs at ≡ Some f → n < at
frame_above n [] fs at f r e = absurd (none_some e)
frame_above n (i ∷ is) [] at f r e = absurd (none_some e)
frame_above n (i ∷ is) (g ∷ fs) at f r e = found_above n i.at at g f (frame_among is fs at) r.0 (λ e. frame_above i.at is fs at f r.1 e) e

leaves_one : {f g : TypeFrame} {c d : Checked} → c ≡ Leaves f → d ≡ Leaves g → c ≡ d → f ≡ g
leaves_one a b e = cc

is_some_of : (o : Option TypeFrame) → IsSome o → (g : TypeFrame) × (o ≡ Some g)
is_some_of None p = absurd cc
is_some_of (Some g) p = (g, refl)

-- the instructions behind the first rise above it
abbrev Behind : List Instr → Type 0
Behind [] = Unit {0}
Behind (i ∷ is) = RiseAbove i.at is

behind : (n : ℕ) (is : List Instr) → RiseAbove n is → Behind is
behind n [] r = tt
behind n (i ∷ is) r = r.1

module _ (P : ProgramTables) (m : MethodInfo) (body : Body) (is_body : m.body ≡ Some body) (fs gs : List TypeFrame) (left : MethodTyped P m body fs) (right : MethodTyped P m body gs) where
  at_map : (at : ℕ) (g : TypeFrame) → map_at m at ≡ Some g → frame_at m fs at ≡ frame_at m gs at
  at_map at g e = left.maps at g e ∙ sym (right.maps at g e)

  -- equal frames come to equal frames
  arrive : (at : ℕ) (f g : TypeFrame) → f ≡ g → ComesTo P m fs f at → ComesTo P m gs g at → frame_at m fs at ≡ frame_at m gs at
  arrive at f g e = by_map (map_at m at) refl
    where
      by_map : (o : Option TypeFrame) → map_at m at ≡ o → Comes P m fs f at o → Comes P m gs g at o → frame_at m fs at ≡ frame_at m gs at
      by_map None q a b = a ∙ (ap Some e ∙ sym b)
      by_map (Some h) q a b = at_map at h q

  go_on : (z : Bool) (at : ℕ) (f g : TypeFrame) → f ≡ g → Onward P m fs z (Some at) f → Onward P m gs z (Some at) g → frame_at m fs at ≡ frame_at m gs at
  go_on true at f g e a b = arrive at f g e a b
  go_on false at f g e a b = let r = is_some_of (map_at m at) a in at_map at r.0 r.1

  -- the instructions from one on, with what stands beside them
  record Rest (is : List Instr) (rs : List Resolved) (xs ys : List TypeFrame) : Type 0 where
    sites : (at : ℕ) (s : Site) → site_among is rs at ≡ Some s → site_at m at ≡ Some s
    lefts : (at : ℕ) (f : TypeFrame) → frame_among is xs at ≡ Some f → frame_at m fs at ≡ Some f
    rights : (at : ℕ) (f : TypeFrame) → frame_among is ys at ≡ Some f → frame_at m gs at ≡ Some f

  tail : (i : Instr) (is : List Instr) (r : Resolved) (rs : List Resolved) (a b : TypeFrame) (xs ys : List TypeFrame) → RiseAbove i.at is → Rest (i ∷ is) (r ∷ rs) (a ∷ xs) (b ∷ ys) → Rest is rs xs ys
  tail i is r rs a b xs ys up x = record {
    sites = λ at s e. x.sites at s (other_one i.at at _ s (site_among is rs at) (site_above i.at is rs at s up e) e);
    lefts = λ at f e. x.lefts at f (other_one i.at at a f (frame_among is xs at) (frame_above i.at is xs at f up e) e);
    rights = λ at f e. x.rights at f (other_one i.at at b f (frame_among is ys at) (frame_above i.at is ys at f up e) e);
  }

  one_list : (x y : TypeFrame) (xs ys : List TypeFrame) → x ≡ y → xs ≡ ys → x ∷ xs ≡ y ∷ ys
  one_list x y xs ys e f = subst₂ (λ y ys. x ∷ xs ≡ y ∷ ys) e f refl

  walk : (is : List Instr) (rs : List Resolved) (xs ys : List TypeFrame) → length rs ≡ length is → length xs ≡ length is → length ys ≡ length is → Behind is → Rest is rs xs ys
      → ((at : ℕ) → first_offset is ≡ Some at → frame_at m fs at ≡ frame_at m gs at) → xs ≡ ys
  walk [] rs [] [] k l o up x first = refl
  walk [] rs (a ∷ xs) ys k l o up x first = absurd (omega arith)
  walk [] rs [] (b ∷ ys) k l o up x first = absurd (omega arith)
  walk (i ∷ is) [] xs ys k l o up x first = absurd (omega arith)
  walk (i ∷ is) (r ∷ rs) [] ys k l o up x first = absurd (omega arith)
  walk (i ∷ is) (r ∷ rs) (a ∷ xs) [] k l o up x first = absurd (omega arith)
  walk (i ∷ is) (r ∷ rs) (a ∷ xs) (b ∷ ys) k l o up x first =
      let s : Site = record { instr = i; resolved = r; next = first_offset is } in
      let here : site_at m i.at ≡ Some s = x.sites i.at s (this_one i.at s (site_among is rs i.at)) in
      let p : frame_at m fs i.at ≡ Some a = x.lefts i.at a (this_one i.at a (frame_among is xs i.at)) in
      let q : frame_at m gs i.at ≡ Some b = x.rights i.at b (this_one i.at b (frame_among is ys i.at)) in
      let e : a ≡ b = some_same (sym p ∙ (first i.at refl ∙ q)) in
      let y = left.sites i.at s a here p in
      let z = right.sites i.at s b here q in
      let g : y.leaves ≡ z.leaves = leaves_one y.rule z.rule (ap (λ f. type_op P m s f) e) in
      one_list a b xs ys e (walk is rs xs ys (omega arith) (omega arith) (omega arith) (behind i.at is up) (tail i is r rs a b xs ys up x) (λ at f.
      go_on (falls_through i.row.family) at y.leaves z.leaves g (subst (λ o. Onward P m fs (falls_through i.row.family) o y.leaves) f y.onward) (subst (λ o. Onward P m gs (falls_through i.row.family) o z.leaves) f z.onward)))

  -- the frames, of instructions in order, one of which was found for each
  pub one_typing : length m.resolved ≡ length body.instrs → StandInOrder body.instrs → fs ≡ gs
  one_typing k ordered = walk body.instrs m.resolved fs gs k left.one_each right.one_each (rises body.instrs ordered)
      (record {
        sites = λ at s e. ap (λ o. option_and_then (λ (body : Body). site_among body.instrs m.resolved at) o) is_body ∙ e;
        lefts = λ at f e. ap (λ o. option_map_or (λ (body : Body). frame_among body.instrs fs at) o None) is_body ∙ e;
        rights = λ at f e. ap (λ o. option_map_or (λ (body : Body). frame_among body.instrs gs at) o None) is_body ∙ e;
      }) (λ at e. let z : 0 ≡ at = first_zero body.instrs at ordered e in subst (λ at. frame_at m fs at ≡ frame_at m gs at) z (arrive 0 (entry_frame P m) (entry_frame P m) refl left.entry right.entry))
    where
      rises : (is : List Instr) → StandInOrder is → Behind is
      rises [] r = absurd r
      rises (i ∷ is) r = r.1

      first_zero : (is : List Instr) (at : ℕ) → StandInOrder is → first_offset is ≡ Some at → 0 ≡ at
      first_zero [] at r e = absurd (none_some e)
      first_zero (i ∷ is) at r e = sym r.0 ∙ some_same e

-- ---- programs

module _ (P : ProgramTables) (facts : TypingFacts P) (ordered : CodeInOrder P) (first second : WellTyped P) where
  pub one_frames : (n : ℕ) (m : MethodInfo) (body : Body) → method_at P n ≡ Some m → m.body ≡ Some body → first.frames n ≡ second.frames n
  one_frames n m body e f = one_typing P m body f (first.frames n) (second.frames n) (first.methods n m body e f) (second.methods n m body e f) (facts.one_each n m body e f) (ordered n m body e f)

  abbrev held : (h : Heap) (f : Frame) → Holds P first.frames h f → Holds P second.frames h f
  held h f x = record {
    method = x.method;
    body = x.body;
    site = x.site;
    types = x.types;
    is_method = x.is_method;
    is_body = x.is_body;
    is_site = x.is_site;
    is_types = subst (λ fs. frame_at x.method fs f.offset ≡ Some x.types) (one_frames f.method x.method x.body x.is_method x.is_body) x.is_types;
    locals = x.locals;
  }

  all_wait : (result : Option Kind) (h : Heap) (r : ℕ) (fs : List Frame) → AllWait P first.frames result h r fs → AllWait P second.frames result h r fs
  all_wait result h r [] q = q
  all_wait result h r (f ∷ fs) q = let w = q.0 in (
    record {
      holds = held h f w.holds;
      is_call = w.is_call;
      named = w.named;
      owner = w.owner;
      is_named = w.is_named;
      target = w.target;
      is_target = w.is_target;
      above = w.above;
      is_above = w.is_above;
      same = w.same;
      operands = w.operands;
    },
    all_wait result h f.method fs q.1,
  )

  control_by : (result : Option Kind) (h : Heap) (c : Control) → ControlStands P first.frames result h c → ControlStands P second.frames result h c
  control_by result h (Running []) q = q
  control_by result h (Running (f ∷ fs)) q = (record { holds = held h f q.0.holds; operands = q.0.operands; room = q.0.room }, all_wait result h f.method fs q.1)
  control_by result h (Returned v) q = q
  control_by result h (Thrown v) q = q

  pub one_standing : (result : Option Kind) (s : State) → StandsIn P first.frames result s → StandsIn P second.frames result s
  one_standing result s st = record { heap = st.heap; control = control_by result s.heap s.control st.control }
