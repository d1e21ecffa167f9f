-- A method of which no check fails is well typed, by the frames that the checks go through.
use Rattle.std.proofs.Common.{◌≡◌, ℕ, ◌+◌, ◌<◌, List, [], ◌∷◌, length, refl, sym, ap, subst, ◌∙◌, Bool, true, false, arith, T, nat_le, cond}
use Rattle.std.specs.Prelude.{Option, Some, None, IsTrue, IsSome, IsSomeAnd, All, find, if◌then◌else◌, ◌==◌, ◌||◌}
use Rattle.std.specs.Option.{option_map, option_map_or, option_and_then}
use Rattle.std.specs.List.{list_any}
use Rattle.std.proofs.Math.Facts.{eqb_yes, yes_eqb}
use Rattle.nr_prog.specs.declared.body.instruction.Instr.{Instr}
use Rattle.nr_prog.specs.declared.body.whole.Body.{Body}
use Rattle.nr_prog.specs.BodyStarts.{is_start}
use Rattle.nr_linked.specs.declared.program.tables.MethodInfo.{MethodInfo}
use Rattle.nr_linked.specs.declared.program.tables.ProgramTables.{ProgramTables}
use Rattle.nr_linked.specs.declared.program.tables.Resolved.{Resolved}
use Rattle.nr_linked.specs.declared.program.types.VFrame.{VFrame}
use Rattle.nr_linked.specs.Sites.{Site, first_offset, site_among}
use Rattle.nr_linked.specs.TypingFrames.{TypeFrame, entry_frame, places_of}
use Rattle.nr_linked.specs.TypingRules.{type_op}
use Rattle.nr_linked.specs.TypingFaults.{MethodFault, Passed, Passes, check_site, check_handlers, check_rule, check_branches, check_end, then_rest, first_among, first_in}
use Rattle.nr_linked.specs.WellTyped.{catchers, falls_through, targets_of, map_at, mapped_frame, frame_among, frame_at, Comes, ComesTo, Begins, Onward, SiteTyped, MethodTyped}
use Rattle.nr_prog.specs.Offsets.{RiseAbove, StandInOrder}
use Rattle.nr_linked.specs.Layout.{MapsStand, MethodLaidOut}
use Rattle.nr_typelaws.specs.Frames.{begins_with, goes_on, frames_among, frames_in}
use Rattle.nr_typelaws.proofs.Passing.{none_some, some_none, some_same, leb_is, Arrives, inv_here, Handled, inv_handlers, inv_rule, inv_branches, Ends, inv_end, inv_rest}

-- ---- the first of a list at an offset

pub this_one : {X : Type 0} (n : ℕ) (x : X) (o : Option X) → (if n == n then Some x else o) ≡ Some x
this_one {X} n x o = by_flag (n == n) (yes_eqb refl)
  where
    by_flag : (z : Bool) → T z → ◌≡◌ {A = Option X} (if z then Some x else o) (Some x)
    by_flag true p = refl
    by_flag false p = absurd p

pub other_one : {X : Type 0} (n k : ℕ) (x y : X) (o : Option X) → n < k → o ≡ Some y → (if n == k then Some x else o) ≡ Some y
other_one {X} n k x y o l e = by_flag (n == k) (λ p. eqb_yes p)
  where
    by_flag : (z : Bool) → (T z → n ≡ k) → ◌≡◌ {A = Option X} (if z then Some x else o) (Some y)
    by_flag true f = let e : n ≡ k = f tt in absurd (omega arith)
    by_flag false f = e

found_above : {X : Type 0} (n k at : ℕ) (x y : X) (o : Option X) → n < k → (o ≡ Some y → k < at) → (if k == at then Some x else o) ≡ Some y → n < at
found_above {X} n k at x y o l f e = by_flag (k == at) (λ p. eqb_yes p) e
  where
    by_flag : (z : Bool) → (T z → k ≡ at) → ◌≡◌ {A = Option X} (if z then Some x else o) (Some y) → n < at
    by_flag true g e = let z : k ≡ at = g tt in omega arith
    by_flag false g e = let z : k < at = f e in omega arith

pub site_above : (n : ℕ) (is : List Instr) (rs : List Resolved) (at : ℕ) (s : Site) → RiseAbove n is → site_among is rs at ≡ Some s → n < at
site_above n [] rs at s r e = absurd (none_some e)
site_above n (i ∷ is) [] at s r e = absurd (none_some e)
site_above n (i ∷ is) (x ∷ rs) at s r e = found_above n i.at at _ s (site_among is rs at) r.0 (λ e. site_above i.at is rs at s r.1 e) e

pub frame_above : (n : ℕ) (is : List Instr) (fs : List TypeFrame) (at : ℕ) (f : TypeFrame) → RiseAbove n is → frame_among is fs at ≡ Some f → n < at
frame_above n [] fs at f r e = absurd (none_some e)
frame_above n (i ∷ is) [] at f r e = absurd (none_some e)
frame_above n (i ∷ is) (g ∷ fs) at f r e = found_above n i.at at g f (frame_among is fs at) r.0 (λ e. frame_above i.at is fs at f r.1 e) e

-- the instructions behind the first rise above it
abbrev pub Behind : List Instr → Type 0
Behind [] = Unit {0}
Behind (i ∷ is) = RiseAbove i.at is

pub behind : (n : ℕ) (is : List Instr) → RiseAbove n is → Behind is
behind n [] r = tt
behind n (i ∷ is) r = r.1

pub all_rise : (is : List Instr) → StandInOrder is → Behind is
all_rise [] r = absurd r
all_rise (i ∷ is) r = r.1

module _ (P : ProgramTables) (m : MethodInfo) where
  -- ---- one instruction

  -- what has passed at an instruction to which this came
  pub record Passed_at (s : Site) (comes out : Option TypeFrame) : Type 0 where
    pub arrives : Arrives P (map_at m s.instr.at) comes
    pub handled : Handled out P m s.instr.at (begins_with (map_at m s.instr.at) comes) (catchers m)
    pub leaves : TypeFrame
    pub rule : type_op P m s (begins_with (map_at m s.instr.at) comes) ≡ Rattle.nr_linked.specs.TypingChecks.Leaves leaves
    pub branches : (t : ℕ) → Rattle.std.specs.Prelude.Contains (targets_of s.instr.args) t → Rattle.nr_linked.specs.WellTyped.FitsMap P m leaves t
    pub ends : Ends out (falls_through s.instr.row.family) s.next leaves

  pub passed_at : (s : Site) (comes out : Option TypeFrame) → check_site P m s comes ≡ Passes out → Passed_at s comes out
  passed_at s comes out e =
      let a = inv_here out P s.instr.at (map_at m s.instr.at) comes (λ f. check_handlers P m s.instr.at f 0 (catchers m) (check_rule s.instr.at (type_op P m s f) (λ g.
      check_branches P m g (targets_of s.instr.args) (check_end s.instr.at (falls_through s.instr.row.family) s.next g)))) e in
      let h = inv_handlers out P m s.instr.at (begins_with (map_at m s.instr.at) comes) 0 (catchers m) _ a.1 in
      let r = inv_rule out s.instr.at (type_op P m s (begins_with (map_at m s.instr.at) comes)) (λ g.
      check_branches P m g (targets_of s.instr.args) (check_end s.instr.at (falls_through s.instr.row.family) s.next g)) h.1 in
      let b = inv_branches out P m r.0 (targets_of s.instr.args) _ r.2 in
      record { arrives = a.0; handled = h.0; leaves = r.0; rule = r.1; branches = b.0; ends = inv_end out s.instr.at (falls_through s.instr.row.family) s.next r.0 b.1 }

  -- the rest, behind an instruction that passes with this
  abbrev site_of : Instr → List Instr → Resolved → Site
  site_of i is r = record { instr = i; resolved = r; next = first_offset is }

  record Steps (i : Instr) (is : List Instr) (r : Resolved) (rs : List Resolved) (comes : Option TypeFrame) : Type 0 where
    out : Option TypeFrame
    passes : check_site P m (site_of i is r) comes ≡ Passes out
    rest : first_among P m is rs out ≡ None
    frames : frames_among P m is rs (goes_on (check_site P m (site_of i is r) comes)) ≡ frames_among P m is rs out

  steps : (i : Instr) (is : List Instr) (r : Resolved) (rs : List Resolved) (comes : Option TypeFrame) → first_among P m (i ∷ is) (r ∷ rs) comes ≡ None → Steps i is r rs comes
  steps i is r rs comes e =
      let x = inv_rest (check_site P m (site_of i is r) comes) (λ f. first_among P m is rs f) e in
      record { out = x.0; passes = x.1; rest = x.2; frames = ap (λ p. frames_among P m is rs (goes_on p)) x.1 }

  -- ---- one frame for each instruction

  same_length : (i : Instr) (f : TypeFrame) (is : List Instr) (fs : List TypeFrame) → length fs ≡ length is → length (f ∷ fs) ≡ length (i ∷ is)
  same_length i f is fs e = omega (arith, e)

  pub frame_each : (is : List Instr) (rs : List Resolved) (comes : Option TypeFrame) → first_among P m is rs comes ≡ None → length (frames_among P m is rs comes) ≡ length is
  frame_each [] rs comes e = refl
  frame_each (i ∷ is) [] comes e = absurd (some_none e)
  frame_each (i ∷ is) (r ∷ rs) comes e =
      let x = steps i is r rs comes e in
      same_length i (begins_with (map_at m i.at) comes) is (frames_among P m is rs (goes_on (check_site P m (site_of i is r) comes))) (ap (λ fs. length fs) x.frames ∙ frame_each is rs x.out x.rest)

  -- ---- the frame of a frame map is the frame there

  pub at_start : (is : List Instr) (rs : List Resolved) (comes : Option TypeFrame) (at : ℕ) (g : TypeFrame) → first_among P m is rs comes ≡ None → IsTrue (list_any (λ i. i.at == at) is)
      → map_at m at ≡ Some g → frame_among is (frames_among P m is rs comes) at ≡ Some g
  at_start [] rs comes at g e p q = absurd cc
  at_start (i ∷ is) [] comes at g e p q = absurd (some_none e)
  at_start (i ∷ is) (r ∷ rs) comes at g e p q =
      let x = steps i is r rs comes e in
      by_flag (i.at == at) (λ p. eqb_yes p) p (λ p. ap (λ fs. frame_among is fs at) x.frames ∙ at_start is rs x.out at g x.rest p q)
    where
      by_flag : (z : Bool) → (T z → i.at ≡ at) → IsTrue (z || list_any (λ i. i.at == at) is)
          → (IsTrue (list_any (λ i. i.at == at) is) → frame_among is (frames_among P m is rs (goes_on (check_site P m (site_of i is r) comes))) at ≡ Some g)
          → (if z then Some (begins_with (map_at m i.at) comes) else frame_among is (frames_among P m is rs (goes_on (check_site P m (site_of i is r) comes))) at) ≡ Some g
      by_flag true f p again = ap Some (ap (λ at. begins_with (map_at m at) comes) (f tt) ∙ ap (λ o. begins_with o comes) q)
      by_flag false f p again = again p

  -- ---- each instruction

  module _ (fs : List TypeFrame) where
    -- what comes to the first instruction comes to its offset
    comes_first : (i : Instr) (is : List Instr) (rs : List Resolved) (f : TypeFrame) → first_among P m (i ∷ is) rs (Some f) ≡ None
        → ((at : ℕ) (g : TypeFrame) → frame_among (i ∷ is) (frames_among P m (i ∷ is) rs (Some f)) at ≡ Some g → frame_at m fs at ≡ Some g) → ComesTo P m fs f i.at
    comes_first i is [] f e there = absurd (some_none e)
    comes_first i is (r ∷ rs) f e there =
        let x = steps i is r rs (Some f) e in
        let p = passed_at (site_of i is r) (Some f) x.out x.passes in
        by_map (map_at m i.at) p.arrives (there i.at (begins_with (map_at m i.at) (Some f)) (this_one i.at _ _))
      where
        by_map : (o : Option TypeFrame) → Arrives P o (Some f) → frame_at m fs i.at ≡ Some (begins_with o (Some f)) → Comes P m fs f i.at o
        by_map None a h = h
        by_map (Some g) a h = a

    -- where nothing comes, a map is there
    begins_first : (is : List Instr) (rs : List Resolved) → first_among P m is rs None ≡ None → Begins m (first_offset is)
    begins_first [] rs e = tt
    begins_first (i ∷ is) [] e = absurd (some_none e)
    begins_first (i ∷ is) (r ∷ rs) e =
        let x = steps i is r rs None e in
        by_map (map_at m i.at) (passed_at (site_of i is r) None x.out x.passes).arrives
      where
        by_map : (o : Option TypeFrame) → Arrives P o None → IsSome o
        by_map None a = absurd a
        by_map (Some g) a = refl

    abbrev pub Known : List Instr → List TypeFrame → Type 0
    Known is xs = (at : ℕ) (g : TypeFrame) → frame_among is xs at ≡ Some g → frame_at m fs at ≡ Some g

    onward : (z : Bool) (is : List Instr) (rs : List Resolved) (f : TypeFrame) (out : Option TypeFrame) → Ends out z (first_offset is) f → first_among P m is rs out ≡ None → Known is (frames_among P m is rs out)
        → Onward P m fs z (first_offset is) f
    onward true [] rs f out x e k = absurd x
    onward true (i ∷ is) rs f out x e k = comes_first i is rs f (subst (λ o. first_among P m (i ∷ is) rs o ≡ None) x e) (subst (λ o. Known (i ∷ is) (frames_among P m (i ∷ is) rs o)) x k)
    onward false is rs f out x e k = begins_first is rs (subst (λ o. first_among P m is rs o ≡ None) x e)

    typed_site : (i : Instr) (is : List Instr) (r : Resolved) (rs : List Resolved) (comes : Option TypeFrame) (x : Steps i is r rs comes) → Known is (frames_among P m is rs x.out)
        → SiteTyped P m fs (site_of i is r) (begins_with (map_at m i.at) comes)
    typed_site i is r rs comes x k =
        let p = passed_at (site_of i is r) comes x.out x.passes in
        record { handlers = p.handled; leaves = p.leaves; rule = p.rule; branches = p.branches; onward = onward (falls_through i.row.family) is rs p.leaves x.out p.ends x.rest k }

    behind_it : (i : Instr) (is : List Instr) (r : Resolved) (rs : List Resolved) (comes : Option TypeFrame) → RiseAbove i.at is → Known (i ∷ is) (frames_among P m (i ∷ is) (r ∷ rs) comes) → (x : Steps i is r rs comes)
        → Known is (frames_among P m is rs x.out)
    behind_it i is r rs comes up k x at g h =
        k at g (other_one i.at at (begins_with (map_at m i.at) comes) g _ (frame_above i.at is (frames_among P m is rs x.out) at g up h) (ap (λ fs. frame_among is fs at) x.frames ∙ h))

    pub typed_sites : (is : List Instr) (rs : List Resolved) (comes : Option TypeFrame) → Behind is → first_among P m is rs comes ≡ None → Known is (frames_among P m is rs comes)
        → (at : ℕ) (s : Site) (f : TypeFrame) → site_among is rs at ≡ Some s → frame_among is (frames_among P m is rs comes) at ≡ Some f → SiteTyped P m fs s f
    typed_sites [] rs comes up e k at s f a b = absurd (none_some a)
    typed_sites (i ∷ is) [] comes up e k at s f a b = absurd (some_none e)
    typed_sites (i ∷ is) (r ∷ rs) comes up e k at s f a b =
        let x = steps i is r rs comes e in
        let known = behind_it i is r rs comes up k x in
        by_flag (i.at == at) a b x known (λ a b. typed_sites is rs x.out (behind i.at is up) x.rest known at s f a (sym (ap (λ fs. frame_among is fs at) x.frames) ∙ b))
      where
        by_flag : (z : Bool) → (if z then Some (site_of i is r) else site_among is rs at) ≡ Some s
            → (if z then Some (begins_with (map_at m i.at) comes) else frame_among is (frames_among P m is rs (goes_on (check_site P m (site_of i is r) comes))) at) ≡ Some f
            → (x : Steps i is r rs comes) → Known is (frames_among P m is rs x.out)
            → (site_among is rs at ≡ Some s → frame_among is (frames_among P m is rs (goes_on (check_site P m (site_of i is r) comes))) at ≡ Some f → SiteTyped P m fs s f)
            → SiteTyped P m fs s f
        by_flag true a b x known again = subst (λ (s : Site). SiteTyped P m fs s f) (some_same a) (subst (λ (f : TypeFrame). SiteTyped P m fs (site_of i is r) f) (some_same b) (typed_site i is r rs comes x known))
        by_flag false a b x known again = again a b

  -- ---- the method

  -- a frame map that is found stands in the list
  found_map : (es : List (ℕ × VFrame)) (is : List Instr) (at n : ℕ) (e : ℕ × VFrame) → MapsStand is n es → find (λ (e : ℕ × VFrame). e.0 == at) es ≡ Some e → IsTrue (is_start is at)
  found_map [] is at n e all q = absurd (none_some q)
  found_map (x ∷ es) is at n e all q = by_flag (x.0 == at) (λ p. eqb_yes p) q (λ q. found_map es is at (x.0 + 1) e all.2 q)
    where
      by_flag : (z : Bool) → (T z → x.0 ≡ at) → cond z (Some x) (find (λ (e : ℕ × VFrame). e.0 == at) es) ≡ Some e
          → (find (λ (e : ℕ × VFrame). e.0 == at) es ≡ Some e → IsTrue (is_start is at)) → IsTrue (is_start is at)
      by_flag true f q again = subst (λ at. IsTrue (is_start is at)) (f tt) all.1
      by_flag false f q again = again q

  map_starts : (is : List Instr) (at : ℕ) (g : TypeFrame) → MapsStand is 0 m.maps → map_at m at ≡ Some g → IsTrue (is_start is at)
  map_starts is at g all q = by_found (find (λ e. e.0 == at) m.maps) refl q
    where
      by_found : (o : Option (ℕ × VFrame)) → find (λ (e : ℕ × VFrame). e.0 == at) m.maps ≡ o → option_map (λ (e : ℕ × VFrame). mapped_frame m e.1) o ≡ Some g → IsTrue (is_start is at)
      by_found None r q = absurd (none_some q)
      by_found (Some e) r q = found_map m.maps is at 0 e all r

  starts_any : (is : List Instr) (at : ℕ) → IsTrue (is_start is at) → IsTrue (list_any (λ i. i.at == at) is)
  unfolding is_start
  starts_any is at p = p

  entry : (body : Body) (fs : List TypeFrame) (is : List Instr) (rs : List Resolved) (f : TypeFrame) → StandInOrder is → first_among P m is rs (Some f) ≡ None → Known fs is (frames_among P m is rs (Some f)) → ComesTo P m fs f 0
  entry body fs [] rs f o e k = absurd o
  entry body fs (i ∷ is) rs f o e k = subst (λ at. ComesTo P m fs f at) o.0 (comes_first fs i is rs f e k)

  pub passes_typed : (body : Body) → m.body ≡ Some body → MethodLaidOut m body → first_in P m body ≡ None → MethodTyped P m body (frames_in P m body)
  passes_typed body is_body laid e = by_places (nat_le (places_of P m) m.max_locals) refl e
    where
      fs : List TypeFrame
      fs = frames_in P m body

      there : Known fs body.instrs fs
      there at g h = ap (λ o. option_map_or (λ (body : Body). frame_among body.instrs fs at) o None) is_body ∙ h

      here : (at : ℕ) (g : TypeFrame) → frame_at m fs at ≡ Some g → frame_among body.instrs fs at ≡ Some g
      here at g h = sym (ap (λ o. option_map_or (λ (body : Body). frame_among body.instrs fs at) o None) is_body) ∙ h

      typed : IsTrue (nat_le (places_of P m) m.max_locals) → first_among P m body.instrs m.resolved (Some (entry_frame P m)) ≡ None → MethodTyped P m body fs
      typed room e = record {
        places = leb_is (places_of P m) m.max_locals room;
        one_each = frame_each body.instrs m.resolved (Some (entry_frame P m)) e;
        entry = entry body fs body.instrs m.resolved (entry_frame P m) laid.order e there;
        maps = λ at g q. there at g (at_start body.instrs m.resolved (Some (entry_frame P m)) at g e (starts_any body.instrs at (map_starts body.instrs at g laid.maps q)) q);
        sites = λ at s f a b. typed_sites fs body.instrs m.resolved (Some (entry_frame P m)) (all_rise body.instrs laid.order) e there at s f
            (sym (ap (λ o. option_and_then (λ (body : Body). site_among body.instrs m.resolved at) o) is_body) ∙ a) (here at f b);
      }

      by_places : (z : Bool) → nat_le (places_of P m) m.max_locals ≡ z
          → (if z then first_among P m body.instrs m.resolved (Some (entry_frame P m)) else Some (Rattle.nr_linked.specs.TypingFaults.Op 0 (Rattle.nr_linked.specs.declared.typing.fault.OpFault.TheVariants.LocalRange m.max_locals))) ≡ None
          → MethodTyped P m body fs
      by_places true q e = typed q e
      by_places false q e = absurd (some_none e)
