-- What the endings of an instruction owe, and how a script that goes on pays it.
use Rattle.std.proofs.Common.{◌≡◌, ℕ, zero, suc, ◌≤◌, List, [], ◌∷◌, length, refl, sym, subst, Bool, true, false, not, arith, T}
use Rattle.std.specs.Prelude.{pos, Option, Some, None, IsTrue, Contains, map, take, drop, slice_get, if◌then◌else◌}
use Rattle.std.proofs.lemmas.List.{length-map}
use Rattle.std.specs.Int.{int_wrap, w8, w16}
use Rattle.std.proofs.lemmas.Int.{SFits-int_wrap}
use Rattle.nr_optable.specs.declared.table.Family.TheVariants.{F32}
use Rattle.nr_optable.specs.declared.table.Letter.{Letter}
use Rattle.nr_optable.specs.declared.table.Letter.TheVariants as letters
use Rattle.nr_prog.specs.declared.body.whole.Body.{Body}
use Rattle.nr_linked.specs.declared.program.built_in.BuiltIn.{BuiltIn}
use Rattle.nr_linked.specs.declared.program.built_in.BuiltIn.TheVariants as built_ins
use Rattle.nr_linked.specs.declared.program.kind.Base.TheVariants as bases
use Rattle.nr_linked.specs.declared.program.kind.Kind.{Kind}
use Rattle.nr_linked.specs.declared.program.tables.MethodInfo.{MethodInfo}
use Rattle.nr_linked.specs.declared.program.tables.ProgramTables.{ProgramTables}
use Rattle.nr_linked.specs.declared.program.tables.SlotInfo.{SlotInfo}
use Rattle.nr_linked.specs.declared.program.tables.Resolved.TheVariants as resolved
use Rattle.nr_linked.specs.declared.program.types.VType.{VType}
use Rattle.nr_linked.specs.declared.program.types.VType.TheVariants as types
use Rattle.nr_linked.specs.Kinds.{class_kind, is_reference}
use Rattle.nr_linked.specs.BuiltIns.{built_in}
use Rattle.nr_linked.specs.Programs.{method_at}
use Rattle.nr_linked.specs.Slots.{slots_of}
use Rattle.nr_linked.specs.Sites.{Site}
use Rattle.nr_linked.specs.Subtypes.{is_assignable}
use Rattle.nr_linked.specs.TypingFrames.{TypeFrame, total_size}
use Rattle.nr_linked.specs.TypingChecks.{Leaves, is_letter, leaves, leaves_operands}
use Rattle.nr_linked.specs.TypingCalls.{class_made_at}
use Rattle.nr_linked.specs.TypingFacts.{TypingFacts, is_thrown}
use Rattle.nr_linked.specs.WellTyped.{falls_through, targets_of}
use Rattle.nr_model.specs.declared.value.Value.{Value}
use Rattle.nr_model.specs.declared.value.Value.TheVariants.{Int, Long, Null, Ref}
use Rattle.nr_model.specs.Heaps.{Heap, on_some}
use Rattle.nr_model.specs.Scripts.{Plain, plain, Script, GoTo, Throw, AskNull, Within, Ending, Threw, Gave, Called, OnRef}
use Rattle.nr_model.specs.Throws.{zero_of, zeros, throw_new, typed, onward}
use Rattle.nr_model.specs.CallRules.{operands_of}
use Rattle.nr_model.specs.Types.{Ty, Anything, Word, AnInt, ALong, JustNull, Nullable, Object, Just, argument_tys, kind_ty, kept_ty, ty_of, operand_tys, local_tys}
use Rattle.nr_model.specs.Belonging.{Belongs, Belong, one_place, Sharper, AllSharper, InRange}
use Rattle.nr_model.specs.Staying.{Stays}
use Rattle.nr_model.specs.TypedHeaps.{slot_ty, TypedHeap}
use Rattle.nr_typed.specs.Fits.{OnNullness, Fits}
use Rattle.nr_typed.specs.Standing.{throwable, SameNameAndDescriptor}
use Rattle.nr_typed.proofs.Assigning.{yes, by_kind, class_up}
use Rattle.nr_typed.proofs.Belongs.{object_up, exact_object, null_to}
use Rattle.nr_typed.proofs.Checks.{inv_leaves}

module _ (P : ProgramTables) (own : MethodInfo) (F G : TypeFrame) (h0 : Heap) (Q : Ending → Within → Type 0) where
  abbrev pub locals_of : List VType → List Ty
  locals_of ts = local_tys own own.max_locals ts

  -- a script goes on from what fits the outgoing frame
  abbrev pub Goes : Script → Type 0
  Goes k = total_size G.operands ≤ own.max_stack → (L ts : List Ty) → AllSharper P L (locals_of G.locals) → AllSharper P ts (operand_tys own G.operands) → Fits P h0 Q k L ts

  pub record Owed (s : Site) : Type 0 where
    pub next : falls_through s.instr.row.family ≡ true → Goes (onward s.next)
    pub branch : (t : ℕ) → Contains (targets_of s.instr.args) t → Goes (GoTo t)
    pub threw : (w : Within) (a : ℕ) → TypedHeap P w.heap → Stays h0 w.heap → Belongs P w.heap (throwable P) (Ref a) → Q (Threw a) w
    pub gave_none : own.result ≡ None → (w : Within) → TypedHeap P w.heap → Stays h0 w.heap → Q (Gave None) w
    pub gave : (k : Kind) → own.result ≡ Some k → (w : Within) (v : Value) → TypedHeap P w.heap → Stays h0 w.heap → Belongs P w.heap (kind_ty k) v → Q (Gave (Some v)) w
    pub called : s.instr.row.family ≡ F32 → (named owner n : ℕ) (target t : MethodInfo) (body : Body) → s.resolved ≡ resolved.Method named owner → method_at P named ≡ Some target
        → method_at P n ≡ Some t → t.body ≡ Some body → SameNameAndDescriptor target t
        → (w : Within) → TypedHeap P w.heap → Stays h0 w.heap → Belong P w.heap (locals_of F.locals) w.locals
        → Belong P w.heap (argument_tys t) (take (operands_of t) w.operands)
        → Belong P w.heap (operand_tys own (drop (operands_of target) F.operands)) (drop (operands_of t) w.operands) → operands_of t ≤ length w.operands → Q (Called n) w

-- ---- default values

module _ (P : ProgramTables) (h : Heap) where
  pub zero_ok : (k : Kind) → Belongs P h (kept_ty k) (plain (zero_of k))
  unfolding int_wrap
  zero_ok k = by_kind (λ k. Belongs P h (kept_ty k) (plain (zero_of k))) refs (0, refl, omega arith) fits_byte (0, refl, omega arith) fits_short tt tt k
    where
      refs : (k : Kind) → is_reference k ≡ true → Belongs P h (kept_ty k) (plain (zero_of k))
      refs k e = rw e tt

      fits_byte : InRange bases.Byte (pos 0)
      fits_byte = SFits-int_wrap w8 (pos 0)

      fits_short : InRange bases.Short (pos 0)
      fits_short = SFits-int_wrap w16 (pos 0)

  zero_at : (ss : List SlotInfo) (i : ℕ) (p : Plain) → slice_get (map (λ (s : SlotInfo). zero_of s.kind) ss) i ≡ Some p
      → Belongs P h (on_some (slice_get ss i) Anything (λ s. kept_ty s.kind)) (plain p)
  zero_at [] i p e = tt
  zero_at (s ∷ ss) zero p e = subst (λ p. Belongs P h (kept_ty s.kind) (plain p)) (some_same e) (zero_ok s.kind)
    where
      some_same : {x y : Plain} → Some x ≡ Some y → x ≡ y
      some_same e = cc
  zero_at (s ∷ ss) (suc i) p e = zero_at ss i p e

  pub zeros_ok : (c i : ℕ) (p : Plain) → slice_get (zeros P c) i ≡ Some p → Belongs P h (slot_ty P (class_kind c) i) (plain p)
  zeros_ok c i p e = zero_at (slots_of P c) i p e

pub length_zeros : (P : ProgramTables) (c : ℕ) → length (zeros P c) ≡ length (slots_of P c)
length_zeros P c = simp length-map

pub ref_of : (P : ProgramTables) (h : Heap) (k : Kind) (v : Value) (K : ℕ → Type 0) → Belongs P h (Object k) v → ((a : ℕ) → Belongs P h (Object k) (Ref a) → K a) → OnRef v K
ref_of P h k (Ref a) K q f = f a q
ref_of P h k Null K q f = absurd q
ref_of P h k (Int n) K q f = absurd q
ref_of P h k (Long n) K q f = absurd q

module _ (P : ProgramTables) (facts : TypingFacts P) (own : MethodInfo) (F G : TypeFrame) (h0 : Heap) (Q : Ending → Within → Type 0) where
  abbrev LT : List Ty
  LT = local_tys own own.max_locals F.locals

  pub go_on : (k : Script) → Goes P own F G h0 Q k → (f : TypeFrame) → leaves own f ≡ Leaves G → (L ts : List Ty)
      → AllSharper P L (local_tys own own.max_locals f.locals) → AllSharper P ts (operand_tys own f.operands) → Fits P h0 Q k L ts
  go_on k g f e L ts a b =
      let s = inv_leaves G own f e in
      g s.1 L ts (λ h vs q. subst (λ (f : TypeFrame). Belong P h (local_tys own own.max_locals f.locals) vs) s.0 (a h vs q))
      (λ h vs q. subst (λ (f : TypeFrame). Belong P h (operand_tys own f.operands) vs) s.0 (b h vs q))

  pub go_same : (k : Script) → Goes P own F G h0 Q k → (us : List VType) → leaves_operands own F us ≡ Leaves G → Fits P h0 Q k LT (operand_tys own us)
  go_same k g us e = go_on k g (record F { operands = us }) e LT (operand_tys own us) (λ h vs q. q) (λ h vs q. q)

  pub top_sharper : (x y : Ty) (us : List Ty) → Sharper P x y → AllSharper P (x ∷ us) (y ∷ us)
  top_sharper x y us s h vs (one_place a q) = one_place (s h _ a) q

  pub go_top : (k : Script) → Goes P own F G h0 Q k → (u : VType) (us : List VType) → leaves_operands own F (u ∷ us) ≡ Leaves G → (x : Ty) → Sharper P x (ty_of Word own u)
      → Fits P h0 Q k LT (x ∷ operand_tys own us)
  go_top k g u us e x s = go_on k g (record F { operands = u ∷ us }) e LT (x ∷ operand_tys own us) (λ h vs q. q) (top_sharper x (ty_of Word own u) (operand_tys own us) s)

  -- a script over operands that are known
  pub over : (sc : Script) (ts us : List VType) → ts ≡ us → Fits P h0 Q sc LT (operand_tys own us) → Fits P h0 Q sc LT (operand_tys own ts)
  over sc ts us e f = subst (λ ts. Fits P h0 Q sc LT (operand_tys own ts)) (sym e) f

  pub if_fits : (c : Bool) (A B : Script) (K us : List Ty) → (T c → Fits P h0 Q A K us) → (T (not c) → Fits P h0 Q B K us) → Fits P h0 Q (if c then A else B) K us
  if_fits true A B K us f g = f tt
  if_fits false A B K us f g = g tt

  -- ---- throws
  module _ (s : Site) (owed : Owed P own F G h0 Q s) where
    pub throw_fits : (K us : List Ty) (k : Kind) → T (is_assignable P k (class_kind (built_in P built_ins.Throwable))) → Fits P h0 Q Throw K (Object k ∷ us)
    throw_fits K us k p = λ w v th st a q x. ref_of P w.heap (class_kind (built_in P built_ins.Throwable)) v (λ a. Q (Threw a) w)
        (object_up P facts k (class_kind (built_in P built_ins.Throwable)) p w.heap v x) (λ a y. owed.threw w a th st y)

    -- by the machine itself, of whatever the types are
    pub throws : (b : BuiltIn) → IsTrue (is_thrown b) → (K us : List Ty) → Fits P h0 Q (throw_new P b) K us
    throws b t K us =
        let f = facts.thrown b t in (
          record { makeable = yes _ f.1; count = length_zeros P (built_in P b) },
          (λ h i p e. zeros_ok P h (built_in P b) i p e),
          λ w v th st a q x. ref_of P w.heap (class_kind (built_in P built_ins.Throwable)) v (λ a. Q (Threw a) w)
              (exact_object P facts (class_kind (built_in P b)) (class_kind (built_in P built_ins.Throwable)) _ (class_up P facts (built_in P b) (built_in P built_ins.Throwable) (yes _ f.0)) w.heap v x)
              (λ a y. owed.threw w a th st y),
        )

    pub null_throw : (K us : List Ty) → Fits P h0 Q (throw_new P built_ins.NullPointerException) K us
    null_throw K us = throws built_ins.NullPointerException refl K us

  -- ---- operands by their letters

  pub weak_null : (k : Kind) → Sharper P (Object k) (Nullable k)
  weak_null k h (Ref a) q = q
  weak_null k h Null q = absurd q
  weak_null k h (Int n) q = q
  weak_null k h (Long n) q = q

  ask_uninit : (o : Option ℕ) (X : Type 0) (Y : Ty → Type 0) → ((x : Ty) → Sharper P x (on_some o JustNull (λ c. Just (class_kind c))) → Y x) → X ≡ Y JustNull
      → OnNullness (on_some o JustNull (λ c. Just (class_kind c))) X Y
  ask_uninit None X Y f e = subst (λ X. X) (sym e) (f JustNull (λ h v q. q))
  ask_uninit (Some c) X Y f e = f (Just (class_kind c)) (λ h v q. q)

  -- a test for null that goes on in the same way
  pub ask_any : (t : VType) → T (is_letter letters.R t) → (K : Script) (L us : List Ty) → ((x : Ty) → Sharper P x (ty_of Word own t) → Fits P h0 Q K L (x ∷ us))
      → Fits P h0 Q (AskNull 0 (λ null. K)) L (ty_of Word own t ∷ us)
  ask_any types.Null p K L us f = f JustNull (λ h v q. q)
  ask_any (types.Class k) p K L us f = (f JustNull (null_to P facts k), f (Object k) (weak_null k))
  ask_any types.UninitThis p K L us f = f (Object (class_kind own.«class»)) (λ h v q. q)
  ask_any (types.Uninit n) p K L us f = ask_uninit (class_made_at own n) (Fits P h0 Q K L (JustNull ∷ us)) (λ x. Fits P h0 Q K L (x ∷ us)) f refl
  ask_any types.Top p K L us f = absurd p
  ask_any types.Int p K L us f = absurd p
  ask_any types.Long p K L us f = absurd p

  initialised_any : (t : VType) → T (is_letter letters.A t) → T (is_letter letters.R t)
  initialised_any types.Null p = tt
  initialised_any (types.Class k) p = tt
  initialised_any _ p = absurd p

  null_any : (t : VType) → T (is_letter letters.Null t) → T (is_letter letters.R t)
  null_any types.Null p = tt
  null_any _ p = absurd p

  pub typed_fits : (letter : Letter) (t : VType) → T (is_letter letter t) → (K : Script) (L us : List Ty) → ((x : Ty) → Sharper P x (ty_of Word own t) → Fits P h0 Q K L (x ∷ us))
      → Fits P h0 Q (typed letter K) L (ty_of Word own t ∷ us)
  typed_fits letters.I types.Int p K L us f = λ n. (AnInt, λ h. tt, f AnInt (λ h v q. q))
  typed_fits letters.I _ p K L us f = absurd p
  typed_fits letters.J types.Long p K L us f = λ n. (ALong, λ h. tt, f ALong (λ h v q. q))
  typed_fits letters.J _ p K L us f = absurd p
  typed_fits letters.A t p K L us f = ask_any t (initialised_any t p) K L us f
  typed_fits letters.R t p K L us f = ask_any t p K L us f
  typed_fits letters.Null t p K L us f = ask_any t (null_any t p) K L us f
