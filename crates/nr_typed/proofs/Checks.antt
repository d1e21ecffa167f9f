-- What a rule that passes has checked.
use Rattle.std.proofs.Common.{◌≡◌, ℕ, ◌≤◌, ◌⊎◌, inl, inr, List, [], ◌∷◌, refl, ap, subst, ◌∙◌, Bool, true, false, not, T, nat_le}
use Rattle.std.specs.Prelude.{if◌then◌else◌}
use Rattle.std.proofs.Math.Facts.{leb_yes}
use Rattle.nr_optable.specs.declared.table.Letter.{Letter}
use Rattle.nr_linked.specs.declared.program.tables.MethodInfo.{MethodInfo}
use Rattle.nr_linked.specs.declared.program.types.VType.{VType}
use Rattle.nr_linked.specs.declared.program.types.VType.TheVariants as types
use Rattle.nr_linked.specs.declared.typing.fault.OpFault.{OpFault}
use Rattle.nr_linked.specs.declared.typing.fault.Wanted.{Wanted}
use Rattle.nr_linked.specs.declared.typing.fault.Wanted.TheVariants as wanted
use Rattle.nr_linked.specs.TypingFrames.{TypeFrame, is_int, is_long, total_size}
use Rattle.nr_linked.specs.TypingChecks.{Checked, Leaves, Refused, NoRule, need, take_operand, take_that, take_int, take_single, is_letter, wanted_letter, take_letters, leaves}
use Rattle.nr_linked.specs.TypingMoves.{by_size}

pub int_is : (t : VType) → T (is_int t) → t ≡ types.Int
int_is types.Int p = refl
int_is _ p = absurd p

pub long_is : (t : VType) → T (is_long t) → t ≡ types.Long
long_is types.Long p = refl
long_is _ p = absurd p

module _ (G : TypeFrame) where
  pub refused : {X : Type 0} {f : OpFault} → Refused f ≡ Leaves G → X
  refused e = absurd (cc)

  pub no_rule : {X : Type 0} → NoRule ≡ Leaves G → X
  no_rule e = absurd (cc)

  pub inv_need : (c : Bool) (f : OpFault) (k : Checked) → need c f k ≡ Leaves G → T c × (k ≡ Leaves G)
  inv_need true f k e = (tt, e)
  inv_need false f k e = refused e

  pub inv_operand : (d : ℕ) (ts : List VType) (k : VType → List VType → Checked) → take_operand d ts k ≡ Leaves G
      → (t : VType) × (us : List VType) × (ts ≡ t ∷ us) × (k t us ≡ Leaves G)
  inv_operand d [] k e = refused e
  inv_operand d (t ∷ us) k e = (t, us, refl, e)

  pub inv_that : (test : VType → Bool) (w : Wanted) (d : ℕ) (ts : List VType) (k : VType → List VType → Checked) → take_that test w d ts k ≡ Leaves G
      → (t : VType) × (us : List VType) × (ts ≡ t ∷ us) × T (test t) × (k t us ≡ Leaves G)
  inv_that test w d [] k e = refused e
  inv_that test w d (t ∷ us) k e = let n = inv_need (test t) _ (k t us) e in (t, us, refl, n.0, n.1)

  pub inv_int : (d : ℕ) (ts : List VType) (k : List VType → Checked) → take_int d ts k ≡ Leaves G → (us : List VType) × (ts ≡ types.Int ∷ us) × (k us ≡ Leaves G)
  inv_int d ts k e = let r = inv_that is_int (wanted.Type types.Int) d ts (λ t us. k us) e in (r.1, r.2 ∙ ap (λ t. t ∷ r.1) (int_is r.0 r.3), r.4)

  pub inv_letter : (a : Letter) (d : ℕ) (ts : List VType) (k : List VType → Checked) → take_letters (a ∷ []) d ts k ≡ Leaves G
      → (t : VType) × (us : List VType) × (ts ≡ t ∷ us) × T (is_letter a t) × (k us ≡ Leaves G)
  inv_letter a d ts k e = inv_that (is_letter a) (wanted_letter a) d ts (λ t us. k us) e

  pub inv_letters : (a b : Letter) (ts : List VType) (k : List VType → Checked) → take_letters (a ∷ b ∷ []) 0 ts k ≡ Leaves G
      → (t : VType) × (u : VType) × (us : List VType) × (ts ≡ t ∷ u ∷ us) × T (is_letter a t) × T (is_letter b u) × (k us ≡ Leaves G)
  inv_letters a b ts k e =
      let r = inv_that (is_letter a) (wanted_letter a) 0 ts (λ t us. take_letters (b ∷ []) 1 us k) e in
      let q = inv_letter b 1 r.1 k r.4 in
      (r.0, q.0, q.1, r.2 ∙ ap (λ ts. r.0 ∷ ts) q.2, r.3, q.3, q.4)

  same_frame : (f : TypeFrame) → Leaves f ≡ Leaves G → f ≡ G
  same_frame f e = cc

  pub inv_leaves : (m : MethodInfo) (f : TypeFrame) → leaves m f ≡ Leaves G → (f ≡ G) × (total_size G.operands ≤ m.max_stack)
  inv_leaves m f e =
      let n = inv_need (nat_le (total_size f.operands) m.max_stack) _ (Leaves f) e in
      let s = same_frame f n.1 in
      (s, subst (λ (f : TypeFrame). total_size f.operands ≤ m.max_stack) s (leb_yes n.0))

  pub inv_single : (d : ℕ) (ts : List VType) (k : VType → List VType → Checked) → take_single d ts k ≡ Leaves G
      → (t : VType) × (us : List VType) × (ts ≡ t ∷ us) × T (not (is_long t)) × (k t us ≡ Leaves G)
  inv_single d ts k e = inv_that (λ t. not (is_long t)) (wanted.Type types.Top) d ts k e

  -- a long, or not
  pub inv_size : (d : ℕ) (ts : List VType) (long single : VType → List VType → Checked) → by_size d ts long single ≡ Leaves G
      → (t : VType) × (us : List VType) × (ts ≡ t ∷ us) × ((T (is_long t) × (long t us ≡ Leaves G)) ⊎ (T (not (is_long t)) × (single t us ≡ Leaves G)))
  inv_size d [] long single e = refused e
  inv_size d (t ∷ us) long single e = (t, us, refl, cases (is_long t) (long t us) (single t us) e)
    where
      cases : (c : Bool) (x y : Checked) → (if c then x else y) ≡ Leaves G → (T c × (x ≡ Leaves G)) ⊎ (T (not c) × (y ≡ Leaves G))
      cases true x y e = inl (tt, e)
      cases false x y e = inr (tt, e)
