-- Each fault that the checks give is that of the first check that fails.
use Rattle.std.proofs.Common.{◌≡◌, ℕ, suc, ◌+◌, ◌-◌, ◌<◌, inl, inr, List, [], ◌∷◌, refl, sym, ap, subst, ◌∙◌, Bool, true, false, arith}
use Rattle.std.specs.Prelude.{Option, Some, None, IsTrue, IsSomeAnd, slice_get, if◌then◌else◌}
use Rattle.std.proofs.lemmas.Bool.{cases_lt}
use Rattle.nr_prog.specs.declared.body.instruction.Instr.{Instr}
use Rattle.nr_prog.specs.declared.member.Handler.{Handler}
use Rattle.nr_linked.specs.declared.program.kind.Kind.{Kind}
use Rattle.nr_linked.specs.declared.program.tables.MethodInfo.{MethodInfo}
use Rattle.nr_linked.specs.declared.program.tables.ProgramTables.{ProgramTables}
use Rattle.nr_linked.specs.declared.program.tables.Resolved.{Resolved}
use Rattle.nr_linked.specs.Handlers.{covers}
use Rattle.nr_linked.specs.Sites.{Site, first_offset}
use Rattle.nr_linked.specs.TypingFrames.{TypeFrame, frame_fits}
use Rattle.nr_linked.specs.TypingChecks.{Checked, Leaves, Refused, NoRule}
use Rattle.nr_linked.specs.TypingRules.{type_op}
use Rattle.nr_linked.specs.TypingFaults as checks
use Rattle.nr_linked.specs.TypingFaults.{MethodFault, HandlerMismatch, Passed, demand, frame_here, is_handled, is_fit, check_site, check_handlers, check_rule, check_branch, check_branches, check_end, then_rest, first_among}
use Rattle.nr_linked.specs.WellTyped.{map_at, catchers, targets_of, falls_through, FitsMap, HandlerFits}
use Rattle.nr_typelaws.specs.Failing.{Has, as_it_comes, of_the_map, fitting_the_map, SuitedBelow, Suited, Fit, on, off, Passes, passes, Fails, no_map, mismatch, handler, rule, no_rule, no_target, unfit_target, falls_off, FailsFrom, unfound, here, later}
use Rattle.nr_typelaws.proofs.Passing.{none_some, some_same}
use Rattle.nr_typelaws.proofs.Complete.{handled}
use Rattle.nr_typelaws.proofs.Passing.{handler_fits}

-- ---- a list from a place on

-- what stands from place n on
abbrev From : {X : Type 0} → List X → ℕ → List X → Type 0
From xs n es = (i : ℕ) → slice_get xs (n + i) ≡ slice_get es i

from_0 : {X : Type 0} (xs : List X) → From xs 0 xs
from_0 xs i = let e : 0 + i ≡ i = omega arith in ap (λ k. slice_get xs k) e

from_next : {X : Type 0} (xs : List X) (n : ℕ) (x : X) (es : List X) → From xs n (x ∷ es) → From xs (suc n) es
from_next xs n x es f i = let e : suc n + i ≡ n + suc i = omega arith in ap (λ k. slice_get xs k) e ∙ f (suc i)

from_first : {X : Type 0} (xs : List X) (n : ℕ) (x : X) (es : List X) → From xs n (x ∷ es) → slice_get xs n ≡ Some x
from_first xs n x es f = let e : n ≡ n + 0 = omega arith in ap (λ k. slice_get xs k) e ∙ f 0

-- a claim on each place below n
abbrev Below : {X : Type 0} → List X → (ℕ → X → Type 0) → ℕ → Type 0
Below {X} xs C n = (i : ℕ) (x : X) → i < n → slice_get xs i ≡ Some x → C i x

one_more : {X : Type 0} (xs : List X) (C : ℕ → X → Type 0) (n : ℕ) (x : X) → Below xs C n → slice_get xs n ≡ Some x → C n x → Below xs C (suc n)
one_more xs C n x b e c i y l q = elim (cases_lt i n) [
  | inl lt ↦ b i y lt q
  | inr ge ↦ let same : i ≡ n = omega arith in
      subst (λ k. C k y) (sym same) (subst (C n) (some_same (sym e ∙ (ap (λ k. slice_get xs k) (sym same) ∙ q))) c)
]

no_more : {X : Type 0} (xs : List X) (C : ℕ → X → Type 0) (n : ℕ) → Below xs C n → From xs n [] → (k : ℕ) → Below xs C k
no_more xs C n b f k i y l q = elim (cases_lt i n) [
  | inl lt ↦ b i y lt q
  | inr ge ↦ let e : i ≡ n + (i - n) = omega arith in absurd (none_some (sym (f (i - n)) ∙ (ap (λ k. slice_get xs k) (sym e) ∙ q)))
]

module _ (P : ProgramTables) (m : MethodInfo) (s : Site) (comes : Option TypeFrame) where
  -- what the checks of the instruction gave
  abbrev Told : Passed → Type 0
  Told (checks.Passes out) = Passes P m s comes out
  Told (checks.Fails e) = Fails P m s comes e

  not_true : (c : Bool) → c ≡ false → IsTrue c → ⊥
  not_true c e p = let w : false ≡ true = sym e ∙ p in absurd cc

  on_demand : (c : Bool) (e : MethodFault) (k : Passed) → (c ≡ false → Fails P m s comes e) → (IsTrue c → Told k) → Told (demand c e k)
  on_demand true e k f g = g refl
  on_demand false e k f g = f refl

  on_here : (k : TypeFrame → Passed) → ((f : TypeFrame) → Has P m s.instr.at comes f → Told (k f)) → Told (frame_here P s.instr.at (map_at m s.instr.at) comes k)
  on_here k g = by_map (map_at m s.instr.at) comes refl refl g
    where
      by_map : (o c : Option TypeFrame) → map_at m s.instr.at ≡ o → comes ≡ c → ((f : TypeFrame) → Has P m s.instr.at comes f → Told (k f)) → Told (frame_here P s.instr.at o c k)
      by_map None None e d g = no_map e d
      by_map None (Some f) e d g = g f (subst (λ c. Has P m s.instr.at c f) (sym d) (as_it_comes e))
      by_map (Some h) None e d g = g h (subst (λ c. Has P m s.instr.at c h) (sym d) (of_the_map e))
      by_map (Some h) (Some f) e d g = on_demand (frame_fits P f h) _ (k h) (λ n. mismatch e d (not_true (frame_fits P f h) n)) (λ t. g h (subst (λ c. Has P m s.instr.at c h) (sym d) (fitting_the_map e t)))

  module _ (f : TypeFrame) (has : Has P m s.instr.at comes f) where
    -- ---- handlers

    abbrev Handles : ℕ → Handler × Option Kind → Type 0
    Handles i e = IsTrue (covers e.0 s.instr.at) → HandlerFits P m f e.0 e.1

    suited_below : (n : ℕ) → Below (catchers m) Handles n → SuitedBelow P m n s.instr.at f
    suited_below n b i h k l e c = b i (h, k) l e c

    unhandled : (h : Handler) (k : Option Kind) → is_handled P m f h k ≡ false → HandlerFits P m f h k → ⊥
    unhandled h k e x = not_true (is_handled P m f h k) e (handled P m f h k x)

    handlers_from : (es : List (Handler × Option Kind)) (n : ℕ) (next : Passed) → From (catchers m) n es → Below (catchers m) Handles n → (Suited P m s.instr.at f → Told next)
        → Told (check_handlers P m s.instr.at f n es next)
    handlers_from [] n next t b g = g (λ k. suited_below k (no_more (catchers m) Handles n b t k))
    handlers_from (e ∷ es) n next t b g =
        by_range (covers e.0 s.instr.at) refl (λ c. handlers_from es (suc n) next (from_next (catchers m) n e es t) (one_more (catchers m) Handles n e b (from_first (catchers m) n e es t) c) g)
      where
        by_range : (z : Bool) → covers e.0 s.instr.at ≡ z → (Handles n e → Told (check_handlers P m s.instr.at f (suc n) es next))
            → Told (if z then demand (is_handled P m f e.0 e.1) (HandlerMismatch s.instr.at n) (check_handlers P m s.instr.at f (suc n) es next) else check_handlers P m s.instr.at f (suc n) es next)
        by_range true q again = on_demand (is_handled P m f e.0 e.1) _ _
            (λ no. handler has (suited_below n b) (from_first (catchers m) n e es t) q (unhandled e.0 e.1 no))
            (λ yes. again (λ c. handler_fits None P m f e.0 e.1 yes))
        by_range false q again = again (λ c. let w : false ≡ true = sym q ∙ c in absurd cc)

    module _ (suits : Suited P m s.instr.at f) where
      -- ---- the rule

      on_rule : (k : TypeFrame → Passed) → ((g : TypeFrame) → type_op P m s f ≡ Leaves g → Told (k g)) → Told (check_rule s.instr.at (type_op P m s f) k)
      on_rule k h = by_checked (type_op P m s f) refl h
        where
          by_checked : (c : Checked) → type_op P m s f ≡ c → ((g : TypeFrame) → type_op P m s f ≡ Leaves g → Told (k g)) → Told (check_rule s.instr.at c k)
          by_checked (Leaves g) e h = h g e
          by_checked (Refused fault) e h = rule has suits e
          by_checked NoRule e h = no_rule has suits e

      module _ (g : TypeFrame) (left : type_op P m s f ≡ Leaves g) where
        -- ---- branches

        abbrev Reached : ℕ → ℕ → Type 0
        Reached i t = FitsMap P m g t

        branches_from : (ts : List ℕ) (n : ℕ) (next : Passed) → From (targets_of s.instr.args) n ts → Below (targets_of s.instr.args) Reached n → (Fit P m s g → Told next)
            → Told (check_branches P m g ts next)
        branches_from [] n next t b h = h (λ k. no_more (targets_of s.instr.args) Reached n b t k)
        branches_from (x ∷ ts) n next t b h =
            by_map (map_at m x) refl (λ c. branches_from ts (suc n) next (from_next (targets_of s.instr.args) n x ts t) (one_more (targets_of s.instr.args) Reached n x b (from_first (targets_of s.instr.args) n x ts t) c) h)
          where
            by_map : (o : Option TypeFrame) → map_at m x ≡ o → (Reached n x → Told (check_branches P m g ts next)) → Told (check_branch P g x o (check_branches P m g ts next))
            by_map None e again = no_target has suits left b (from_first (targets_of s.instr.args) n x ts t) e
            by_map (Some y) e again = on_demand (frame_fits P g y) _ _
                (λ no. unfit_target has suits left b (from_first (targets_of s.instr.args) n x ts t) e (not_true (frame_fits P g y) no))
                (λ yes. again (subst (λ o. IsSomeAnd o (λ y. IsTrue (frame_fits P g y))) (sym e) yes))

        -- ---- the end

        on_end : Fit P m s g → Told (check_end s.instr.at (falls_through s.instr.row.family) s.next g)
        on_end fit = by (falls_through s.instr.row.family) s.next refl refl
          where
            by : (z : Bool) (o : Option ℕ) → falls_through s.instr.row.family ≡ z → s.next ≡ o → Told (check_end s.instr.at z o g)
            by true None e q = falls_off has suits left fit e q
            by true (Some n) e q = passes has suits left fit (on e q)
            by false o e q = passes has suits left fit (off e)

  pub told : Told (check_site P m s comes)
  told = on_here _ (λ f has. handlers_from f has (catchers m) 0 _ (from_0 (catchers m)) (λ i x l e. absurd (omega arith)) (λ suits.
      on_rule f has suits _ (λ g left. branches_from f has suits g left (targets_of s.instr.args) 0 _ (from_0 (targets_of s.instr.args)) (λ i x l e. absurd (omega arith)) (λ fit. on_end f has suits g left fit))))

pub fails_from : (P : ProgramTables) (m : MethodInfo) (is : List Instr) (rs : List Resolved) (comes : Option TypeFrame) (e : MethodFault) → first_among P m is rs comes ≡ Some e → FailsFrom P m is rs comes e
fails_from P m [] rs comes e q = absurd (none_some q)
fails_from P m (i ∷ is) [] comes e q = subst (FailsFrom P m (i ∷ is) [] comes) (some_same q) unfound
fails_from P m (i ∷ is) (r ∷ rs) comes e q =
    by_site (check_site P m (record { instr = i; resolved = r; next = first_offset is }) comes) (told P m (record { instr = i; resolved = r; next = first_offset is }) comes) q (λ out q. fails_from P m is rs out e q)
  where
    by_site : (p : Passed) → Told P m (record { instr = i; resolved = r; next = first_offset is }) comes p → then_rest p (λ f. first_among P m is rs f) ≡ Some e
        → ((out : Option TypeFrame) → first_among P m is rs out ≡ Some e → FailsFrom P m is rs out e) → FailsFrom P m (i ∷ is) (r ∷ rs) comes e
    by_site (checks.Passes out) t q again = later t (again out q)
    by_site (checks.Fails x) t q again = subst (FailsFrom P m (i ∷ is) (r ∷ rs) comes) (some_same q) (here t)
