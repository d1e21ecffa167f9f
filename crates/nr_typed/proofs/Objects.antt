-- The rules of instructions on objects: their scripts fit.
use Rattle.std.proofs.Common.{◌≡◌, ℕ, List, ◌∷◌, length, refl, sym, ap, subst, ◌∙◌, Bool, true, false, not, arith, T}
use Rattle.std.specs.Prelude.{ℤ, Option, Some, None, IsTrue, slice_get, if◌then◌else◌, ◌==◌}
use Rattle.std.proofs.Math.Facts.{eqb_yes}
use Rattle.nr_optable.specs.declared.table.Letter.TheVariants as letters
use Rattle.nr_linked.specs.declared.program.built_in.BuiltIn.TheVariants as built_ins
use Rattle.nr_linked.specs.declared.program.kind.Base.{Base}
use Rattle.nr_linked.specs.declared.program.kind.Base.TheVariants as bases
use Rattle.nr_linked.specs.declared.program.kind.Kind.{Kind}
use Rattle.nr_linked.specs.declared.program.tables.MethodInfo.{MethodInfo}
use Rattle.nr_linked.specs.declared.program.tables.ProgramTables.{ProgramTables}
use Rattle.nr_linked.specs.declared.program.tables.Resolved.TheVariants as resolved
use Rattle.nr_linked.specs.declared.program.tables.SlotInfo.{SlotInfo}
use Rattle.nr_linked.specs.declared.program.types.VType.{VType}
use Rattle.nr_linked.specs.declared.program.types.VType.TheVariants as types
use Rattle.nr_linked.specs.declared.typing.fault.Wanted.TheVariants as wanted
use Rattle.nr_linked.specs.Kinds.{class_kind, is_reference}
use Rattle.nr_linked.specs.BuiltIns.{built_in}
use Rattle.nr_linked.specs.Slots.{slots_of}
use Rattle.nr_linked.specs.Sites.{Site}
use Rattle.nr_linked.specs.Subtypes.{is_assignable, is_sub, is_above}
use Rattle.nr_linked.specs.TypingFrames.{TypeFrame, of_base, of_kind, is_initialised, is_operand_assignable}
use Rattle.nr_linked.specs.Initialisers.{is_initialiser}
use Rattle.nr_linked.specs.TypingChecks.{Checked, Leaves, take_that, leaves_operands}
use Rattle.nr_linked.specs.TypingObjects.{with_slot, get_slot_rule, put_slot_rule, is_put_receiver, get_field_rule, put_field_rule, holds_made_at, forgotten, new_rule, test_rule, throwable_type, throw_rule}
use Rattle.nr_linked.specs.TypingCalls.{class_made_at}
use Rattle.nr_linked.specs.TypingFacts.{TypingFacts, is_makeable}
use Rattle.nr_model.specs.declared.value.Value.{Value}
use Rattle.nr_model.specs.declared.value.Value.TheVariants.{Int, Long, Null, Ref}
use Rattle.nr_model.specs.Heaps.{Heap, on_some}
use Rattle.nr_model.specs.Scripts.{PlainInt, Script, Throw, Push, PopInt, AskKind, ReadSlot, WriteSlot, Within, Ending, Threw}
use Rattle.nr_model.specs.Throws.{zeros, throw_new, not_null, typed, with_found, which}
use Rattle.nr_model.specs.ArrayRules.{narrowed}
use Rattle.nr_model.specs.ObjectRules.{has_fields_of, get_field, kept_as, put_field, new_of, throw_top, check_cast, instance_of, answer}
use Rattle.nr_model.specs.Types.{Ty, Word, AnInt, Small, ALong, JustNull, Nullable, Object, Just, Exact, kind_ty, kept_base, kept_ty, ty_of, operand_tys, local_tys}
use Rattle.nr_model.specs.Belonging.{Belongs, Belong, one_place, Sharper}
use Rattle.nr_model.specs.TypedHeaps.{Counts, slot_ty}
use Rattle.nr_typed.specs.Fits.{OnNullness, Fits}
use Rattle.nr_typed.proofs.Assigning.{trans, yes, and_both, by_kind, sub_assignable, class_up, below_class}
use Rattle.nr_typed.proofs.Belongs.{object_null, exact_object, exact_null, exact_just, null_to, kind_same, forgotten_ok}
use Rattle.nr_typed.proofs.Checks.{no_rule, inv_need, inv_that}
use Rattle.nr_typed.proofs.Owed.{Goes, Owed, go_on, go_same, go_top, over, if_fits, throws, null_throw, zeros_ok, length_zeros, ref_of}
use Rattle.nr_typed.proofs.Elements.{slot_facts, narrowed_ok, bool_long, byte_long, char_long, short_long}

module _ (P : ProgramTables) (facts : TypingFacts P) (own : MethodInfo) (F G : TypeFrame) (h0 : Heap) (Q : Ending → Within → Type 0) where
  abbrev LT : List Ty
  LT = local_tys own own.max_locals F.locals

  abbrev Fit : Script → Type 0
  Fit sc = Fits P h0 Q sc LT (operand_tys own F.operands)

  abbrev On : Script → Type 0
  On k = Goes P own F G h0 Q k

  -- an operand that goes where the kind is wanted: null, or an object below it
  pub on_wanted : (K : Kind) (t : VType) (X : Type 0) (Y : Ty → Type 0) → T (is_operand_assignable P t (types.Class K)) → X → ((k : Kind) → T (is_assignable P k K) → Y (Object k)) → OnNullness (ty_of Word own t) X Y
  on_wanted K types.Null X Y p x y = x
  on_wanted K (types.Class k) X Y p x y = (x, y k p)
  on_wanted K types.Top X Y p x y = absurd p
  on_wanted K types.Int X Y p x y = absurd p
  on_wanted K types.Long X Y p x y = absurd p
  on_wanted K types.UninitThis X Y p x y = absurd p
  on_wanted K (types.Uninit n) X Y p x y = absurd p

  pub which_fits : (c : Bool) (k : Script) (K us : List Ty) → T c → Fits P h0 Q k K us → Fits P h0 Q (which c k) K us
  which_fits true k K us p f = f
  which_fits false k K us p f = absurd p

  -- ---- putfield: what is kept

  of_null : (k : Kind) → Sharper P JustNull (Nullable k)
  of_null k = null_to P facts k

  kept_reference : (k : Kind) (t : VType) → T (is_operand_assignable P t (types.Class k)) → (K : Script) (L us : List Ty) → ((x : Ty) → Sharper P x (Nullable k) → Fits P h0 Q K L (x ∷ us))
      → Fits P h0 Q (typed letters.A K) L (ty_of Word own t ∷ us)
  kept_reference k types.Null p K L us f = f JustNull (of_null k)
  kept_reference k (types.Class j) p K L us f = (f JustNull (of_null k), f (Object j) (object_null P facts j k p))
  kept_reference k types.Top p K L us f = absurd p
  kept_reference k types.Int p K L us f = absurd p
  kept_reference k types.Long p K L us f = absurd p
  kept_reference k types.UninitThis p K L us f = absurd p
  kept_reference k (types.Uninit n) p K L us f = absurd p

  abbrev Kept : Kind → Type 0
  Kept kind = (t : VType) → T (is_operand_assignable P t (of_kind kind)) → (K : Script) (L us : List Ty) → ((x : Ty) → Sharper P x (kept_ty kind) → Fits P h0 Q K L (x ∷ us)) → Fits P h0 Q (kept_as kind K) L (ty_of Word own t ∷ us)

  kept_int : (b : Base) (X : Script → Script) (W : Ty) → ((n : ℤ) (h : Heap) → Belongs P h W (Int (narrowed b n))) → ((K : Script) → X K ≡ PopInt (λ n. Push (PlainInt (narrowed b n)) K))
      → (t : VType) → T (is_operand_assignable P t types.Int) → (K : Script) (L us : List Ty) → ((x : Ty) → Sharper P x W → Fits P h0 Q K L (x ∷ us)) → Fits P h0 Q (X K) L (ty_of Word own t ∷ us)
  kept_int b X W z e types.Int p K L us f = subst (λ sc. Fits P h0 Q sc L (AnInt ∷ us)) (sym (e K)) (λ n. (W, z n, f W (λ h v q. q)))
  kept_int b X W z e types.Top p K L us f = absurd p
  kept_int b X W z e types.Long p K L us f = absurd p
  kept_int b X W z e types.Null p K L us f = absurd p
  kept_int b X W z e types.UninitThis p K L us f = absurd p
  kept_int b X W z e (types.Uninit n) p K L us f = absurd p
  kept_int b X W z e (types.Class k) p K L us f = absurd p

  kept_long : (t : VType) → T (is_operand_assignable P t types.Long) → (K : Script) (L us : List Ty) → ((x : Ty) → Sharper P x ALong → Fits P h0 Q K L (x ∷ us)) → Fits P h0 Q (typed letters.J K) L (ty_of Word own t ∷ us)
  kept_long types.Long p K L us f = λ n. (ALong, λ h. tt, f ALong (λ h v q. q))
  kept_long types.Top p K L us f = absurd p
  kept_long types.Int p K L us f = absurd p
  kept_long types.Null p K L us f = absurd p
  kept_long types.UninitThis p K L us f = absurd p
  kept_long (types.Uninit n) p K L us f = absurd p
  kept_long (types.Class k) p K L us f = absurd p

  pub kept_fits : (kind : Kind) → Kept kind
  kept_fits kind = by_kind Kept refs
      (λ t p K L us f. kept_int bases.Bool (kept_as (record { dims = 0; base = bases.Bool })) (Small bases.Bool) (λ n h. narrowed_ok P h bases.Bool n bool_long) (λ K. refl) t p K L us f)
      (λ t p K L us f. kept_int bases.Byte (kept_as (record { dims = 0; base = bases.Byte })) (Small bases.Byte) (λ n h. narrowed_ok P h bases.Byte n byte_long) (λ K. refl) t p K L us f)
      (λ t p K L us f. kept_int bases.Char (kept_as (record { dims = 0; base = bases.Char })) (Small bases.Char) (λ n h. narrowed_ok P h bases.Char n char_long) (λ K. refl) t p K L us f)
      (λ t p K L us f. kept_int bases.Short (kept_as (record { dims = 0; base = bases.Short })) (Small bases.Short) (λ n h. narrowed_ok P h bases.Short n short_long) (λ K. refl) t p K L us f)
      (λ t p K L us f. kept_int bases.Int (kept_as (record { dims = 0; base = bases.Int })) AnInt (λ n h. tt) (λ K. refl) t p K L us f)
      (λ t p K L us f. kept_long t p K L us f)
      kind
    where
      refs : (k : Kind) → is_reference k ≡ true → Kept k
      refs k e = λ t p K L us f.
          let ty : of_kind k ≡ types.Class k = ap (λ c. if c then types.Class k else of_base k.base) e in
          let kept : kept_ty k ≡ Nullable k = ap (λ c. if c then Nullable k else kept_base k.base) e in
          let r : Fits P h0 Q (typed letters.A K) L (ty_of Word own t ∷ us) = kept_reference k t (subst (λ u. T (is_operand_assignable P t u)) ty p) K L us (λ x s. f x (subst (Sharper P x) (sym kept) s)) in
          rw e r

  -- ---- fields
  module _ (s : Site) (owed : Owed P own F G h0 Q s) (k : Script) (g : On k) where
    get_one : (c i : ℕ) (slot : SlotInfo) → slice_get (slots_of P c) i ≡ Some slot → get_slot_rule P own c slot F ≡ Leaves G
        → Fit (not_null P 0 (has_fields_of P 0 slot.declared_in (ReadSlot i k)))
    get_one c i slot is e =
        let r = inv_that G (λ t. is_operand_assignable P t (types.Class (class_kind c))) (wanted.Type (types.Class (class_kind c))) 0 F.operands (λ t us. leaves_operands own F (of_kind slot.kind ∷ us)) e in
        over P facts own F G h0 Q (not_null P 0 (has_fields_of P 0 slot.declared_in (ReadSlot i k))) F.operands (r.0 ∷ r.1) r.2
        (on_wanted (class_kind c) r.0 _ (λ u. Fits P h0 Q (has_fields_of P 0 slot.declared_in (ReadSlot i k)) LT (u ∷ operand_tys own r.1)) r.3 (null_throw P facts own F G h0 Q s owed _ _) (λ d q x n y z.
        let f = slot_facts P facts c i slot is x n (trans P facts x d (class_kind c) y q) z in
        which_fits (is_sub P x (class_kind slot.declared_in)) (ReadSlot i k) LT (Exact x n ∷ operand_tys own r.1) f.sub
        (f.there, go_top P facts own F G h0 Q k g (of_kind slot.kind) r.1 r.4 (slot_ty P x i) (λ h v a. subst (λ t. Belongs P h t v) (sym (kind_same P facts Word own slot.kind)) (kept_kind slot.kind h v (subst (λ t. Belongs P h t v) f.slot a))))))
      where
        kept_kind : (kind : Kind) → Sharper P (kept_ty kind) (kind_ty kind)
        kept_kind kind = by_kind (λ k. Sharper P (kept_ty k) (kind_ty k)) (λ k e. rw e (λ h v q. q)) (small bases.Bool) (small bases.Byte) (small bases.Char) (small bases.Short) (λ h v q. q) (λ h v q. q) kind
          where
            small : (b : Base) → Sharper P (Small b) AnInt
            small b h (Int n) q = tt
            small b h (Long n) q = absurd q
            small b h Null q = absurd q
            small b h (Ref a) q = absurd q

    found_slot : (o : Option SlotInfo) (f : SlotInfo → Checked) → with_slot o f ≡ Leaves G → (x : SlotInfo) × (o ≡ Some x) × (f x ≡ Leaves G)
    found_slot None f e = no_rule G e
    found_slot (Some x) f e = (x, refl, e)

    pub gets : (c i : ℕ) → get_field_rule P own (resolved.Slot c i) F ≡ Leaves G → Fit (get_field P c i k)
    gets c i e =
        let r = found_slot (slice_get (slots_of P c) i) (λ slot. get_slot_rule P own c slot F) e in
        subst (λ o. Fit (with_found o (λ slot. not_null P 0 (has_fields_of P 0 slot.declared_in (ReadSlot i k))))) (sym r.1) (get_one c i r.0 r.1 r.2)

    -- the object that putfield changes
    put_object : (c i : ℕ) (slot : SlotInfo) (is : slice_get (slots_of P c) i ≡ Some slot) (t : VType) (us : List VType) (x : Ty) → Sharper P x (kept_ty slot.kind) → T (is_put_receiver P own c slot t) → leaves_operands own F us ≡ Leaves G
        → Fits P h0 Q (not_null P 1 (has_fields_of P 1 slot.declared_in (WriteSlot i k))) LT (x ∷ ty_of Word own t ∷ operand_tys own us)
    put_object c i slot is t us x up p e = receiver t p
      where
        below : (d : ℕ) (js : slice_get (slots_of P d) i ≡ Some slot) (j y : Kind) (n : ℕ) → T (is_assignable P j (class_kind d)) → T (is_assignable P y j) → Counts P y n
            → Fits P h0 Q (which (is_sub P y (class_kind slot.declared_in)) (WriteSlot i k)) LT (x ∷ Exact y n ∷ operand_tys own us)
        below d js j y n q a z =
            let f = slot_facts P facts d i slot js y n (trans P facts y j (class_kind d) a q) z in
            which_fits (is_sub P y (class_kind slot.declared_in)) (WriteSlot i k) LT (x ∷ Exact y n ∷ operand_tys own us) f.sub
            (f.there, (λ h v b. subst (λ t. Belongs P h t v) (sym f.slot) (up h v b)), go_same P facts own F G h0 Q k g us e)

        receiver : (t : VType) → T (is_put_receiver P own c slot t) → OnNullness (ty_of Word own t) (Fits P h0 Q (throw_new P built_ins.NullPointerException) LT (x ∷ JustNull ∷ operand_tys own us))
            (λ u. Fits P h0 Q (has_fields_of P 1 slot.declared_in (WriteSlot i k)) LT (x ∷ u ∷ operand_tys own us))
        receiver types.Null p = null_throw P facts own F G h0 Q s owed _ _
        receiver (types.Class j) p = (null_throw P facts own F G h0 Q s owed _ _, λ y n a z. below c is j y n p a z)
        receiver types.UninitThis p =
            let f = and_both (is_initialiser own) (slot.declared_in == own.«class») p in
            let d : slot.declared_in ≡ own.«class» = eqb_yes f.1 in
            let js : slice_get (slots_of P own.«class») i ≡ Some slot = subst (λ d. slice_get (slots_of P d) i ≡ Some slot) d (facts.declared c i slot is).1 in
            let up : T (is_above P own.«class» own.«class») = subst (λ d. T (is_above P own.«class» d)) d (yes (is_above P own.«class» slot.declared_in) (facts.declared own.«class» i slot js).0) in
            λ y n a z. below own.«class» js (class_kind own.«class») y n (class_up P facts own.«class» own.«class» up) a z
        receiver types.Top p = absurd p
        receiver types.Int p = absurd p
        receiver types.Long p = absurd p
        receiver (types.Uninit n) p = absurd p

    put_one : (c i : ℕ) (slot : SlotInfo) → slice_get (slots_of P c) i ≡ Some slot → put_slot_rule P own c slot F ≡ Leaves G
        → Fit (kept_as slot.kind (not_null P 1 (has_fields_of P 1 slot.declared_in (WriteSlot i k))))
    put_one c i slot is e =
        let r = inv_that G (λ t. is_operand_assignable P t (of_kind slot.kind)) (wanted.Type (of_kind slot.kind)) 0 F.operands (λ t ts. take_that (is_put_receiver P own c slot) (wanted.Type (types.Class (class_kind c))) 1 ts (λ t us. leaves_operands own F us)) e in
        let q = inv_that G (is_put_receiver P own c slot) (wanted.Type (types.Class (class_kind c))) 1 r.1 (λ t us. leaves_operands own F us) r.4 in
        over P facts own F G h0 Q (kept_as slot.kind (not_null P 1 (has_fields_of P 1 slot.declared_in (WriteSlot i k)))) F.operands (r.0 ∷ q.0 ∷ q.1) (r.2 ∙ ap (λ ts. r.0 ∷ ts) q.2)
        (kept_fits slot.kind r.0 r.3 (not_null P 1 (has_fields_of P 1 slot.declared_in (WriteSlot i k))) LT (ty_of Word own q.0 ∷ operand_tys own q.1) (λ x up. put_object c i slot is q.0 q.1 x up q.3 q.4))

    pub puts : (c i : ℕ) → put_field_rule P own (resolved.Slot c i) F ≡ Leaves G → Fit (put_field P c i k)
    puts c i e =
        let r = found_slot (slice_get (slots_of P c) i) (λ slot. put_slot_rule P own c slot F) e in
        subst (λ o. Fit (with_found o (λ slot. kept_as slot.kind (not_null P 1 (has_fields_of P 1 slot.declared_in (WriteSlot i k)))))) (sym r.1) (put_one c i r.0 r.1 r.2)

    -- ---- new objects

    pub makes : (at c : ℕ) → class_made_at own at ≡ Some c → IsTrue (is_makeable P c) → new_rule own at (resolved.Kind (class_kind c)) F ≡ Leaves G → Fit (new_of P (class_kind c) k)
    makes at c made can e =
        let n = inv_need G (not (holds_made_at at F.operands)) _ _ e in (
          record { makeable = yes _ can; count = length_zeros P c },
          (λ h i p e. zeros_ok P h c i p e),
          go_on P facts own F G h0 Q k g (record F { locals = forgotten at F.locals; operands = types.Uninit at ∷ F.operands }) n.1 LT (Exact (class_kind c) (length (zeros P c)) ∷ operand_tys own F.operands)
              (λ h vs q. forgotten_ok P facts own h own.max_locals at F.locals vs q) (λ h vs q. top h vs q),
        )
      where
        top : (h : Heap) (vs : List Value) → Belong P h (Exact (class_kind c) (length (zeros P c)) ∷ operand_tys own F.operands) vs → Belong P h (operand_tys own (types.Uninit at ∷ F.operands)) vs
        top h vs (one_place {v = v} a as_) = one_place (subst (λ o. Belongs P h (on_some o JustNull (λ c. Just (class_kind c))) v) (sym made)
            (exact_just P facts (class_kind c) _ h v a)) as_

    -- ---- class tests

    casts_one : (kind : Kind) (t : VType) (us : List VType) → T (is_initialised t) → leaves_operands own F (types.Class kind ∷ us) ≡ Leaves G → Fits P h0 Q (check_cast P kind k) LT (ty_of Word own t ∷ operand_tys own us)
    casts_one kind types.Null us p e = go_top P facts own F G h0 Q k g (types.Class kind) us e JustNull (of_null kind)
    casts_one kind (types.Class c) us p e = (
      go_top P facts own F G h0 Q k g (types.Class kind) us e JustNull (of_null kind),
      λ a n q z.
          if_fits P facts own F G h0 Q (is_sub P a kind) k (throw_new P built_ins.ClassCastException) LT (Exact a n ∷ operand_tys own us)
          (λ s. go_top P facts own F G h0 Q k g (types.Class kind) us e (Exact a n) (exact_null P facts a kind n (sub_assignable P facts a kind s)))
          (λ n. throws P facts own F G h0 Q s owed built_ins.ClassCastException refl _ _),
    )
    casts_one kind types.Top us p e = absurd p
    casts_one kind types.Int us p e = absurd p
    casts_one kind types.Long us p e = absurd p
    casts_one kind types.UninitThis us p e = absurd p
    casts_one kind (types.Uninit n) us p e = absurd p

    pub casts : (kind : Kind) → test_rule own 192 (resolved.Kind kind) F ≡ Leaves G → Fit (check_cast P kind k)
    casts kind e =
        let r = inv_that G is_initialised wanted.AnyReference 0 F.operands (λ t ts. leaves_operands own F (types.Class kind ∷ ts)) e in
        over P facts own F G h0 Q (check_cast P kind k) F.operands (r.0 ∷ r.1) r.2 (casts_one kind r.0 r.1 r.3 r.4)

    answers : (us : List VType) → leaves_operands own F (types.Int ∷ us) ≡ Leaves G → (n : ℕ) (x : Ty) → Fits P h0 Q (answer n k) LT (x ∷ operand_tys own us)
    answers us e n x = (omega arith, (AnInt, λ h. tt, go_same P facts own F G h0 Q k g (types.Int ∷ us) e))

    asks_one : (kind : Kind) (t : VType) (us : List VType) → T (is_initialised t) → leaves_operands own F (types.Int ∷ us) ≡ Leaves G → Fits P h0 Q (instance_of P kind k) LT (ty_of Word own t ∷ operand_tys own us)
    asks_one kind types.Null us p e = answers us e 0 JustNull
    asks_one kind (types.Class c) us p e = (
      answers us e 0 JustNull,
      λ a n q z.
          if_fits P facts own F G h0 Q (is_sub P a kind) (answer 1 k) (answer 0 k) LT (Exact a n ∷ operand_tys own us) (λ s. answers us e 1 (Exact a n)) (λ n'. answers us e 0 (Exact a n)),
    )
    asks_one kind types.Top us p e = absurd p
    asks_one kind types.Int us p e = absurd p
    asks_one kind types.Long us p e = absurd p
    asks_one kind types.UninitThis us p e = absurd p
    asks_one kind (types.Uninit n) us p e = absurd p

    pub asks : (kind : Kind) → test_rule own 193 (resolved.Kind kind) F ≡ Leaves G → Fit (instance_of P kind k)
    asks kind e =
        let r = inv_that G is_initialised wanted.AnyReference 0 F.operands (λ t ts. leaves_operands own F (types.Int ∷ ts)) e in
        over P facts own F G h0 Q (instance_of P kind k) F.operands (r.0 ∷ r.1) r.2 (asks_one kind r.0 r.1 r.3 r.4)

  -- ---- throws
  module _ (s : Site) (owed : Owed P own F G h0 Q s) where
    pub throws_top : throw_rule P own F ≡ Leaves G → Fit (throw_top P)
    throws_top e =
        let r = inv_that G (λ t. is_operand_assignable P t (throwable_type P)) (wanted.Type (throwable_type P)) 0 F.operands (λ t us. leaves_operands own F us) e in
        over P facts own F G h0 Q (throw_top P) F.operands (r.0 ∷ r.1) r.2
        (on_wanted (class_kind (built_in P built_ins.Throwable)) r.0 _ (λ u. Fits P h0 Q (AskKind 0 (λ kind n. which (is_sub P kind (class_kind (built_in P built_ins.Throwable))) Throw)) LT (u ∷ operand_tys own r.1)) r.3
        (null_throw P facts own F G h0 Q s owed _ _) (λ d q x n y z. one x n r.1 (trans P facts x d (class_kind (built_in P built_ins.Throwable)) y q)))
      where
        one : (x : Kind) (n : ℕ) (us : List VType) → T (is_assignable P x (class_kind (built_in P built_ins.Throwable))) → Fits P h0 Q (which (is_sub P x (class_kind (built_in P built_ins.Throwable))) Throw) LT (Exact x n ∷ operand_tys own us)
        one x n us p =
            let b = below_class P facts x (built_in P built_ins.Throwable) facts.throwable p in
            which_fits (is_sub P x (class_kind (built_in P built_ins.Throwable))) Throw LT (Exact x n ∷ operand_tys own us) (subst (λ x. T (is_sub P x (class_kind (built_in P built_ins.Throwable)))) (sym b.1) b.2)
            (λ w v th st a q y. ref_of P w.heap (class_kind (built_in P built_ins.Throwable)) v (λ a. Q (Threw a) w) (exact_object P facts x (class_kind (built_in P built_ins.Throwable)) n p w.heap v y) (λ a z. owed.threw w a th st z))
