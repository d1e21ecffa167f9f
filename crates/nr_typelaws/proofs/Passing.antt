-- What a check that passes has checked.
use Rattle.std.proofs.Common.{◌≡◌, ℕ, zero, suc, ◌≤◌, List, [], ◌∷◌, refl, ap, subst, sym, ◌∙◌, Bool, true, false, arith, T, nat_le}
use Rattle.std.specs.Prelude.{Option, Some, None, IsTrue, IsSomeAnd, Contains, if◌then◌else◌}
use Rattle.std.proofs.lemmas.Bool.{and_parts}
use Rattle.std.proofs.Math.Facts.{leb_yes}
use Rattle.nr_prog.specs.declared.member.Handler.{Handler}
use Rattle.nr_linked.specs.declared.program.kind.Kind.{Kind}
use Rattle.nr_linked.specs.declared.program.tables.MethodInfo.{MethodInfo}
use Rattle.nr_linked.specs.declared.program.tables.ProgramTables.{ProgramTables}
use Rattle.nr_linked.specs.Handlers.{covers}
use Rattle.nr_linked.specs.TypingFrames.{TypeFrame, frame_fits}
use Rattle.nr_linked.specs.TypingChecks.{Checked, Leaves, Refused, NoRule}
use Rattle.nr_linked.specs.TypingFaults.{MethodFault, HandlerMismatch, Passed, Passes, Fails, demand, frame_here, is_fit, is_handled, check_handlers, check_rule, check_branch, check_branches, check_end, then_rest}
use Rattle.nr_linked.specs.WellTyped.{map_at, is_catchable, handler_frame, FitsMap, HandlerFits}
use Rattle.nr_typelaws.specs.Frames.{begins_with}

pub none_some : {X : Type 0} {x : X} → ◌≡◌ {A = Option X} None (Some x) → ⊥
none_some e = cc

pub some_none : {X : Type 0} {x : X} → ◌≡◌ {A = Option X} (Some x) None → ⊥
some_none e = cc

pub some_same : {X : Type 0} {x y : X} → Some x ≡ Some y → x ≡ y
some_same e = cc

pub passes_same : {f g : Option TypeFrame} → Passes f ≡ Passes g → f ≡ g
passes_same e = cc

pub not_fails : {X : Type 0} {f : MethodFault} {g : Option TypeFrame} → Fails f ≡ Passes g → X
not_fails e = absurd (cc)

pub leb_is : (m n : ℕ) → IsTrue (nat_le m n) → m ≤ n
leb_is m n e = leb_yes (subst T (sym e) tt)

-- ---- members of a list

pub contained {ℓ} : {X : Type 0} (C : Type ℓ) (x y : X) (xs : List X) → Contains (x ∷ xs) y → (x ≡ y → C) → (Contains xs y → C) → C
contained C x y xs (zero, l, e) f g = f e
contained C x y xs (suc k, l, e) f g = g (k, omega arith, e)

pub in_head : {X : Type 0} (x : X) (xs : List X) → Contains (x ∷ xs) x
in_head x xs = (0, omega arith, refl)

pub in_tail : {X : Type 0} (x y : X) (xs : List X) → Contains xs y → Contains (x ∷ xs) y
in_tail x y xs (k, l, e) = (suc k, omega arith, e)

not_in_none : {X : Type 0} (x : X) → Contains [] x → ⊥
not_in_none x (k, l, e) = omega arith

-- ---- each check

-- what comes to an instruction, and its frame map
abbrev pub Arrives : ProgramTables → Option TypeFrame → Option TypeFrame → Type 0
Arrives P None None = ⊥
Arrives P None (Some f) = Unit {0}
Arrives P (Some g) None = Unit {0}
Arrives P (Some g) (Some f) = IsTrue (frame_fits P f g)

module _ (out : Option TypeFrame) where
  pub inv_demand : (c : Bool) (fault : MethodFault) (k : Passed) → demand c fault k ≡ Passes out → IsTrue c × (k ≡ Passes out)
  inv_demand true fault k e = (refl, e)
  inv_demand false fault k e = not_fails e

  pub inv_here : (P : ProgramTables) (at : ℕ) (g comes : Option TypeFrame) (k : TypeFrame → Passed) → frame_here P at g comes k ≡ Passes out
      → Arrives P g comes × (k (begins_with g comes) ≡ Passes out)
  inv_here P at None None k e = not_fails e
  inv_here P at None (Some f) k e = (tt, e)
  inv_here P at (Some g) None k e = (tt, e)
  inv_here P at (Some g) (Some f) k e = inv_demand (frame_fits P f g) _ (k g) e

  is_fit_map : (P : ProgramTables) (f : TypeFrame) (o : Option TypeFrame) → IsTrue (is_fit P f o) → IsSomeAnd o (λ g. IsTrue (frame_fits P f g))
  is_fit_map P f None e = absurd cc
  is_fit_map P f (Some g) e = e

  pub handler_fits : (P : ProgramTables) (m : MethodInfo) (f : TypeFrame) (h : Handler) (k : Option Kind) → IsTrue (is_handled P m f h k) → HandlerFits P m f h k
  handler_fits P m f h k e =
      let a = and_parts (is_catchable P k) _ e in
      let b = and_parts (nat_le 1 m.max_stack) _ a.1 in
      record { catchable = a.0; room = leb_is 1 m.max_stack b.0; fits = is_fit_map P (handler_frame P k f) (map_at m h.handler) b.1 }

  -- the handlers whose range holds the offset
  abbrev pub Handled : ProgramTables → MethodInfo → ℕ → TypeFrame → List (Handler × Option Kind) → Type 0
  Handled P m at f es = (h : Handler) (k : Option Kind) → Contains es (h, k) → IsTrue (covers h at) → HandlerFits P m f h k

  pub inv_handlers : (P : ProgramTables) (m : MethodInfo) (at : ℕ) (f : TypeFrame) (n : ℕ) (es : List (Handler × Option Kind)) (next : Passed) → check_handlers P m at f n es next ≡ Passes out
      → Handled P m at f es × (next ≡ Passes out)
  inv_handlers P m at f n [] next e = ((λ h k c. absurd (not_in_none (h, k) c)), e)
  inv_handlers P m at f n (x ∷ es) next e = by_range (covers x.0 at) refl e (λ e. inv_handlers P m at f (suc n) es next e)
    where
      by_range : (z : Bool) → covers x.0 at ≡ z
          → (if z then demand (is_handled P m f x.0 x.1) (HandlerMismatch at n) (check_handlers P m at f (suc n) es next) else check_handlers P m at f (suc n) es next) ≡ Passes out
          → (check_handlers P m at f (suc n) es next ≡ Passes out → Handled P m at f es × (next ≡ Passes out))
          → Handled P m at f (x ∷ es) × (next ≡ Passes out)
      by_range true q e again =
          let d = inv_demand (is_handled P m f x.0 x.1) _ _ e in
          let r = again d.1 in
          ((λ h k c s. contained (HandlerFits P m f h k) x (h, k) es c (λ e. subst (λ (y : Handler × Option Kind). HandlerFits P m f y.0 y.1) e (handler_fits P m f x.0 x.1 d.0)) (λ c. r.0 h k c s)), r.1)
      by_range false q e again =
          let r = again e in
          ((λ h k c s. contained (HandlerFits P m f h k) x (h, k) es c (λ e. let w : false ≡ true = sym q ∙ (ap (λ (y : Handler × Option Kind). covers y.0 at) e ∙ s) in absurd cc) (λ c. r.0 h k c s)), r.1)

  pub inv_rule : (at : ℕ) (c : Checked) (k : TypeFrame → Passed) → check_rule at c k ≡ Passes out → (g : TypeFrame) × (c ≡ Leaves g) × (k g ≡ Passes out)
  inv_rule at (Leaves g) k e = (g, refl, e)
  inv_rule at (Refused fault) k e = not_fails e
  inv_rule at NoRule k e = not_fails e

  inv_branch : (P : ProgramTables) (f : TypeFrame) (t : ℕ) (o : Option TypeFrame) (next : Passed) → check_branch P f t o next ≡ Passes out → IsSomeAnd o (λ g. IsTrue (frame_fits P f g)) × (next ≡ Passes out)
  inv_branch P f t None next e = not_fails e
  inv_branch P f t (Some g) next e = inv_demand (frame_fits P f g) _ next e

  pub inv_branches : (P : ProgramTables) (m : MethodInfo) (f : TypeFrame) (ts : List ℕ) (next : Passed) → check_branches P m f ts next ≡ Passes out
      → ((t : ℕ) → Contains ts t → FitsMap P m f t) × (next ≡ Passes out)
  inv_branches P m f [] next e = ((λ t c. absurd (not_in_none t c)), e)
  inv_branches P m f (u ∷ ts) next e =
      let b = inv_branch P f u (map_at m u) _ e in
      let r = inv_branches P m f ts next b.1 in
      ((λ t c. contained (FitsMap P m f t) u t ts c (λ e. subst (λ t. FitsMap P m f t) e b.0) (λ c. r.0 t c)), r.1)

  -- where control goes on
  abbrev pub Ends : Bool → Option ℕ → TypeFrame → Type 0
  Ends true None f = ⊥
  Ends true (Some next) f = out ≡ Some f
  Ends false next f = out ≡ None

  pub inv_end : (at : ℕ) (z : Bool) (next : Option ℕ) (f : TypeFrame) → check_end at z next f ≡ Passes out → Ends z next f
  inv_end at true None f e = not_fails e
  inv_end at true (Some next) f e = sym (passes_same e)
  inv_end at false next f e = sym (passes_same e)

pub inv_rest : (p : Passed) (k : Option TypeFrame → Option MethodFault) → then_rest p k ≡ None → (f : Option TypeFrame) × (p ≡ Passes f) × (k f ≡ None)
inv_rest (Fails fault) k e = absurd (some_none e)
inv_rest (Passes f) k e = (f, refl, e)
