-- Of a method that is well typed no check fails.
use Rattle.std.proofs.Common.{◌≡◌, ℕ, suc, ◌≤◌, List, [], ◌∷◌, length, refl, sym, ap, subst, ◌∙◌, Bool, true, false, arith, T, nat_le}
use Rattle.std.specs.Prelude.{Option, Some, None, IsTrue, IsSome, IsSomeAnd, Contains, if◌then◌else◌}
use Rattle.std.specs.Option.{option_map_or, option_and_then}
use Rattle.std.proofs.lemmas.Bool.{and_from}
use Rattle.std.proofs.Math.Facts.{yes_leb}
use Rattle.nr_prog.specs.declared.body.instruction.Instr.{Instr}
use Rattle.nr_prog.specs.declared.body.whole.Body.{Body}
use Rattle.nr_prog.specs.declared.member.Handler.{Handler}
use Rattle.nr_linked.specs.declared.program.kind.Kind.{Kind}
use Rattle.nr_linked.specs.declared.program.tables.MethodInfo.{MethodInfo}
use Rattle.nr_linked.specs.declared.program.tables.ProgramTables.{ProgramTables}
use Rattle.nr_linked.specs.declared.program.tables.Resolved.{Resolved}
use Rattle.nr_linked.specs.declared.typing.fault.OpFault.TheVariants.{LocalRange}
use Rattle.nr_linked.specs.Handlers.{covers}
use Rattle.nr_linked.specs.Sites.{Site, first_offset, site_among, site_at}
use Rattle.nr_linked.specs.TypingFrames.{TypeFrame, frame_fits, entry_frame, places_of}
use Rattle.nr_linked.specs.TypingChecks.{Checked, Leaves}
use Rattle.nr_linked.specs.TypingRules.{type_op}
use Rattle.nr_linked.specs.TypingFaults.{MethodFault, HandlerMismatch, Op, Passed, Passes, demand, frame_here, is_fit, is_handled, check_site, check_handlers, check_rule, check_branch, check_branches, check_end, then_rest, first_among, first_in}
use Rattle.nr_linked.specs.WellTyped.{catchers, falls_through, targets_of, is_catchable, handler_frame, map_at, frame_among, frame_at, Comes, ComesTo, Onward, FitsMap, HandlerFits, SiteTyped, MethodTyped}
use Rattle.nr_prog.specs.Offsets.{RiseAbove, StandInOrder}
use Rattle.nr_linked.specs.Layout.{MethodLaidOut}
use Rattle.nr_typelaws.proofs.Passing.{some_same, in_head, in_tail}
use Rattle.nr_typelaws.proofs.Sound.{this_one, other_one, site_above, frame_above, Behind, behind, all_rise}

is_leb : (m n : ℕ) → m ≤ n → IsTrue (nat_le m n)
is_leb m n l = by_flag (nat_le m n) (yes_leb l)
  where
    by_flag : (z : Bool) → T z → z ≡ true
    by_flag true p = refl
    by_flag false p = absurd p

-- ---- each check

pub pass_demand : (c : Bool) (fault : MethodFault) (k : Passed) → IsTrue c → demand c fault k ≡ k
pass_demand true fault k p = refl
pass_demand false fault k p = absurd cc

module _ (P : ProgramTables) (m : MethodInfo) where
  fit_of : (f : TypeFrame) (o : Option TypeFrame) → IsSomeAnd o (λ g. IsTrue (frame_fits P f g)) → IsTrue (is_fit P f o)
  fit_of f None p = absurd p
  fit_of f (Some g) p = p

  pub handled : (f : TypeFrame) (h : Handler) (k : Option Kind) → HandlerFits P m f h k → IsTrue (is_handled P m f h k)
  handled f h k x = and_from (is_catchable P k) _ x.catchable (and_from (nat_le 1 m.max_stack) _ (is_leb 1 m.max_stack x.room) (fit_of (handler_frame P k f) (map_at m h.handler) x.fits))

  pass_handlers : (at : ℕ) (f : TypeFrame) (n : ℕ) (es : List (Handler × Option Kind)) (next : Passed)
      → ((h : Handler) (k : Option Kind) → Contains es (h, k) → IsTrue (covers h at) → HandlerFits P m f h k) → check_handlers P m at f n es next ≡ next
  pass_handlers at f n [] next x = refl
  pass_handlers at f n (e ∷ es) next x = by_range (covers e.0 at) refl (pass_handlers at f (suc n) es next (λ h k c s. x h k (in_tail e (h, k) es c) s))
    where
      by_range : (z : Bool) → covers e.0 at ≡ z → check_handlers P m at f (suc n) es next ≡ next
          → (if z then demand (is_handled P m f e.0 e.1) (HandlerMismatch at n) (check_handlers P m at f (suc n) es next) else check_handlers P m at f (suc n) es next) ≡ next
      by_range true q again = pass_demand (is_handled P m f e.0 e.1) _ _ (handled f e.0 e.1 (x e.0 e.1 (in_head e es) q)) ∙ again
      by_range false q again = again

  pass_branch : (f : TypeFrame) (t : ℕ) (o : Option TypeFrame) (next : Passed) → IsSomeAnd o (λ g. IsTrue (frame_fits P f g)) → check_branch P f t o next ≡ next
  pass_branch f t None next p = absurd p
  pass_branch f t (Some g) next p = pass_demand (frame_fits P f g) _ next p

  pass_branches : (f : TypeFrame) (ts : List ℕ) (next : Passed) → ((t : ℕ) → Contains ts t → FitsMap P m f t) → check_branches P m f ts next ≡ next
  pass_branches f [] next x = refl
  pass_branches f (t ∷ ts) next x = pass_branch f t (map_at m t) _ (x t (in_head t ts)) ∙ pass_branches f ts next (λ u c. x u (in_tail t u ts c))

  module _ (fs : List TypeFrame) where
    -- what control brings to an instruction
    abbrev Reaches : Option TypeFrame → ℕ → Type 0
    Reaches None at = IsSome (map_at m at)
    Reaches (Some f) at = ComesTo P m fs f at

    -- the same, with the frame map as a variable
    abbrev Reached : ℕ → Option TypeFrame → Option TypeFrame → Type 0
    Reached at o None = IsSome o
    Reached at o (Some f) = Comes P m fs f at o

    -- to the first one, if there is one
    abbrev ReachesFirst : Option TypeFrame → Option ℕ → Type 0
    ReachesFirst comes None = Unit {0}
    ReachesFirst comes (Some at) = Reaches comes at

    pass_here : (at : ℕ) (f : TypeFrame) (comes : Option TypeFrame) (k : TypeFrame → Passed) → Reaches comes at → frame_at m fs at ≡ Some f
        → ((g : TypeFrame) → map_at m at ≡ Some g → frame_at m fs at ≡ Some g) → frame_here P at (map_at m at) comes k ≡ k f
    pass_here at f comes k x is maps = by_map (map_at m at) comes (reached comes x) maps
      where
        reached : (comes : Option TypeFrame) → Reaches comes at → Reached at (map_at m at) comes
        reached None x = x
        reached (Some f) x = x

        by_map : (o comes : Option TypeFrame) → Reached at o comes → ((g : TypeFrame) → o ≡ Some g → frame_at m fs at ≡ Some g) → frame_here P at o comes k ≡ k f
        by_map None None x maps = absurd cc
        by_map None (Some c) x maps = ap k (some_same (sym x ∙ is))
        by_map (Some g) None x maps = ap k (some_same (sym (maps g refl) ∙ is))
        by_map (Some g) (Some c) x maps = pass_demand (frame_fits P c g) _ (k g) x ∙ ap k (some_same (sym (maps g refl) ∙ is))

    pass_rule : (at : ℕ) (c : Checked) (g : TypeFrame) (k : TypeFrame → Passed) → c ≡ Leaves g → check_rule at c k ≡ k g
    pass_rule at c g k e = ap (λ c. check_rule at c k) e

    -- what control brings to the next instruction
    abbrev brings : Bool → TypeFrame → Option TypeFrame
    brings true g = Some g
    brings false g = None

    pass_end : (at : ℕ) (z : Bool) (next : Option ℕ) (g : TypeFrame) → Onward P m fs z next g → check_end at z next g ≡ Passes (brings z g)
    pass_end at true None g x = absurd x
    pass_end at true (Some next) g x = refl
    pass_end at false next g x = refl

    pass_site : (s : Site) (comes : Option TypeFrame) (f : TypeFrame) (x : SiteTyped P m fs s f) → Reaches comes s.instr.at → frame_at m fs s.instr.at ≡ Some f
        → ((g : TypeFrame) → map_at m s.instr.at ≡ Some g → frame_at m fs s.instr.at ≡ Some g) → check_site P m s comes ≡ Passes (brings (falls_through s.instr.row.family) x.leaves)
    pass_site s comes f x r is maps =
        pass_here s.instr.at f comes _ r is maps
        ∙ (pass_handlers s.instr.at f 0 (catchers m) _ x.handlers
        ∙ (pass_rule s.instr.at (type_op P m s f) x.leaves _ x.rule
        ∙ (pass_branches x.leaves (targets_of s.instr.args) _ x.branches
        ∙ pass_end s.instr.at (falls_through s.instr.row.family) s.next x.leaves x.onward)))

    reaches_next : (z : Bool) (next : Option ℕ) (g : TypeFrame) → Onward P m fs z next g → ReachesFirst (brings z g) next
    reaches_next true None g x = tt
    reaches_next true (Some at) g x = x
    reaches_next false None g x = tt
    reaches_next false (Some at) g x = x

    pass_rest : (p : Passed) (f : Option TypeFrame) (k : Option TypeFrame → Option MethodFault) → p ≡ Passes f → k f ≡ None → then_rest p k ≡ None
    pass_rest p f k e q = ap (λ p. then_rest p k) e ∙ q

    -- the instructions from one on, with what stands beside them
    record Rest (is : List Instr) (rs : List Resolved) (xs : List TypeFrame) : Type 0 where
      sites : (at : ℕ) (s : Site) → site_among is rs at ≡ Some s → site_at m at ≡ Some s
      frames : (at : ℕ) (f : TypeFrame) → frame_among is xs at ≡ Some f → frame_at m fs at ≡ Some f

    tail : (i : Instr) (is : List Instr) (r : Resolved) (rs : List Resolved) (a : TypeFrame) (xs : List TypeFrame) → RiseAbove i.at is → Rest (i ∷ is) (r ∷ rs) (a ∷ xs) → Rest is rs xs
    tail i is r rs a xs up x = record {
      sites = λ at s e. x.sites at s (other_one i.at at _ s (site_among is rs at) (site_above i.at is rs at s up e) e);
      frames = λ at f e. x.frames at f (other_one i.at at a f (frame_among is xs at) (frame_above i.at is xs at f up e) e);
    }

    module _ (body : Body) (typed : MethodTyped P m body fs) where
      walk : (is : List Instr) (rs : List Resolved) (xs : List TypeFrame) (comes : Option TypeFrame) → length rs ≡ length is → length xs ≡ length is → Behind is → Rest is rs xs → ReachesFirst comes (first_offset is)
          → first_among P m is rs comes ≡ None
      walk [] rs xs comes k l up x r = refl
      walk (i ∷ is) [] xs comes k l up x r = absurd (omega arith)
      walk (i ∷ is) (q ∷ rs) [] comes k l up x r = absurd (omega arith)
      walk (i ∷ is) (q ∷ rs) (a ∷ xs) comes k l up x r =
          let s : Site = record { instr = i; resolved = q; next = first_offset is } in
          let here : site_at m i.at ≡ Some s = x.sites i.at s (this_one i.at s (site_among is rs i.at)) in
          let p : frame_at m fs i.at ≡ Some a = x.frames i.at a (this_one i.at a (frame_among is xs i.at)) in
          let y = typed.sites i.at s a here p in
          pass_rest (check_site P m s comes) (brings (falls_through i.row.family) y.leaves) (λ f. first_among P m is rs f)
          (pass_site s comes a y r p (λ g e. typed.maps i.at g e))
          (walk is rs xs (brings (falls_through i.row.family) y.leaves) (omega arith) (omega arith) (behind i.at is up) (tail i is q rs a xs up x)
          (reaches_next (falls_through i.row.family) (first_offset is) y.leaves y.onward))

      first_reached : (is : List Instr) → StandInOrder is → ReachesFirst (Some (entry_frame P m)) (first_offset is)
      first_reached [] o = absurd o
      first_reached (i ∷ is) o = subst (λ at. ComesTo P m fs (entry_frame P m) at) (sym o.0) typed.entry

      pub typed_passes : m.body ≡ Some body → MethodLaidOut m body → first_in P m body ≡ None
      typed_passes is_body laid =
          by_places (nat_le (places_of P m) m.max_locals) (is_leb (places_of P m) m.max_locals typed.places) (walk body.instrs m.resolved fs (Some (entry_frame P m)) laid.one_each typed.one_each (all_rise body.instrs laid.order)
          (record {
            sites = λ at s e. ap (λ o. option_and_then (λ (body : Body). site_among body.instrs m.resolved at) o) is_body ∙ e;
            frames = λ at f e. ap (λ o. option_map_or (λ (body : Body). frame_among body.instrs fs at) o None) is_body ∙ e;
          }) (first_reached body.instrs laid.order))
        where
          by_places : (z : Bool) → IsTrue z → first_among P m body.instrs m.resolved (Some (entry_frame P m)) ≡ None
              → (if z then first_among P m body.instrs m.resolved (Some (entry_frame P m)) else Some (Op 0 (LocalRange m.max_locals))) ≡ None
          by_places true p e = e
          by_places false p e = absurd cc
