-- The rules of instructions on arrays: their scripts fit.
use Rattle.std.proofs.Common.{◌≡◌, ℕ, zero, suc, ◌<◌, ◌≤◌, List, ◌∷◌, length, refl, sym, ap, subst, ◌∙◌, Bool, arith, T, nat_lt}
use Rattle.std.specs.Prelude.{ℤ, pos, negsuc, Option, Some, None, slice_get, replicate}
use Rattle.std.proofs.Math.Facts.{ltb_yes}
use Rattle.nr_linked.specs.declared.program.built_in.BuiltIn.TheVariants as built_ins
use Rattle.nr_linked.specs.declared.program.kind.Base.{Base}
use Rattle.nr_linked.specs.declared.program.kind.Base.TheVariants as bases
use Rattle.nr_linked.specs.declared.program.kind.Kind.{Kind}
use Rattle.nr_linked.specs.declared.program.tables.MethodInfo.{MethodInfo}
use Rattle.nr_linked.specs.declared.program.tables.ProgramTables.{ProgramTables}
use Rattle.nr_linked.specs.declared.program.types.VType.{VType}
use Rattle.nr_linked.specs.declared.program.types.VType.TheVariants as types
use Rattle.nr_linked.specs.declared.typing.fault.Wanted.TheVariants as wanted
use Rattle.nr_linked.specs.Kinds.{is_array, element_of, array_of}
use Rattle.nr_linked.specs.Sites.{Site}
use Rattle.nr_linked.specs.Subtypes.{is_assignable, is_sub}
use Rattle.nr_linked.specs.TypingFrames.{TypeFrame, is_initialised, is_long}
use Rattle.nr_linked.specs.TypingChecks.{Leaves, take_int, take_ints, take_that, take_reference, leaves_operands}
use Rattle.nr_linked.specs.TypingArrays.{is_array_with, wanted_array, take_array, loaded_type, is_any_array, length_rule, made_of_counts}
use Rattle.nr_linked.specs.ArrayKinds.{Elements, Of, References, is_base, is_element}
use Rattle.nr_linked.specs.TypingFacts.{TypingFacts}
use Rattle.nr_model.specs.declared.value.Value.TheVariants.{Int, Long}
use Rattle.nr_model.specs.Heaps.{Heap}
use Rattle.nr_model.specs.Scripts.{Plain, plain, PlainInt, PlainLong, Script, Push, PopInt, PopLong, Pick, Drop, AskKind, ReadSlot, WriteSlot, Within, Ending}
use Rattle.nr_model.specs.Throws.{zero_of, throw_new, not_null, at_index, with_found, which}
use Rattle.nr_model.specs.ArrayRules.{narrowed, storable, array_length, make_array, new_array}
use Rattle.nr_model.specs.Types.{Ty, Word, AnInt, JustNull, Nullable, Object, Exact, kept_ty, ty_of, operand_tys, local_tys}
use Rattle.nr_model.specs.Belonging.{Belongs, Sharper}
use Rattle.nr_model.specs.TypedHeaps.{Counts, slot_ty}
use Rattle.nr_typed.specs.Fits.{OnNullness, Fits}
use Rattle.nr_typed.proofs.Assigning.{above_zero, sub_assignable}
use Rattle.nr_typed.proofs.Belongs.{exact_null, null_to}
use Rattle.nr_typed.proofs.Checks.{long_is, inv_that, inv_int}
use Rattle.nr_typed.proofs.Owed.{Goes, Owed, go_same, go_top, over, if_fits, throws, null_throw, zero_ok}
use Rattle.nr_typed.proofs.Elements.{kind_of, is_the_base, ElementFacts, elements, loaded_ok, reference_slot, array_of_is}
use Rattle.nr_typed.proofs.Objects.{which_fits}

module _ (P : ProgramTables) (facts : TypingFacts P) (own : MethodInfo) (F G : TypeFrame) (h0 : Heap) (Q : Ending → Within → Type 0) where
  abbrev LT : List Ty
  LT = local_tys own own.max_locals F.locals

  abbrev Fit : Script → Type 0
  Fit sc = Fits P h0 Q sc LT (operand_tys own F.operands)

  abbrev On : Script → Type 0
  On k = Goes P own F G h0 Q k

  -- an array with such elements, or null
  on_array : (e : Elements) (t : VType) (X : Type 0) (Y : Ty → Type 0) → T (is_array_with e t) → X → ((k : Kind) → T (is_array_with e (types.Class k)) → Y (Object k)) → OnNullness (ty_of Word own t) X Y
  on_array e types.Null X Y p x y = x
  on_array e (types.Class k) X Y p x y = (x, y k p)
  on_array e types.Top X Y p x y = absurd p
  on_array e types.Int X Y p x y = absurd p
  on_array e types.Long X Y p x y = absurd p
  on_array e types.UninitThis X Y p x y = absurd p
  on_array e (types.Uninit n) X Y p x y = absurd p

  -- what follows of the elements' kind, where the array has the index
  abbrev checked : (Kind → Bool) → Kind → ℕ → ℤ → (Kind → ℕ → Script) → Script
  checked test kind n i k = with_found (element_of kind) (λ x. which (test x) (at_index P n i (k x)))

  module _ (s : Site) (owed : Owed P own F G h0 Q s) where
    index_fits : (i : ℤ) (n : ℕ) (k : ℕ → Script) (L us : List Ty) → ((j : ℕ) → j < n → Fits P h0 Q (k j) L us) → Fits P h0 Q (at_index P n i k) L us
    index_fits (pos j) n k L us f = if_fits P facts own F G h0 Q (nat_lt j n) (k j) (throw_new P built_ins.ArrayIndexOutOfBoundsException) L us (λ p. f j (ltb_yes p)) (λ p. throws P facts own F G h0 Q s owed built_ins.ArrayIndexOutOfBoundsException refl L us)
    index_fits (negsuc j) n k L us f = throws P facts own F G h0 Q s owed built_ins.ArrayIndexOutOfBoundsException refl L us

    checked_fits : (e : Elements) (a r : Kind) (n : ℕ) (i : ℤ) (k : Kind → ℕ → Script) (L us : List Ty)
        → T (is_array_with e (types.Class a)) → T (is_assignable P r a) → ((x : Kind) → ElementFacts P facts e a r x → (j : ℕ) → j < n → Fits P h0 Q (k x j) L us) → Fits P h0 Q (checked (is_element e) r n i k) L us
    checked_fits e a r n i k L us p q f =
        let x = elements P facts e a r p q in
        subst (λ o. Fits P h0 Q (with_found o (λ x. which (is_element e x) (at_index P n i (k x)))) L us) (sym x.1.is_element_of)
        (which_fits P facts own F G h0 Q (is_element e x.0) (at_index P n i (k x.0)) L us x.1.passes (index_fits i n (k x.0) L us (λ j l. f x.0 x.1 j l)))

    -- an array at depth 0, of which the elements are used
    array_fits : (e : Elements) (t : VType) (i : ℤ) (k : Kind → ℕ → Script) (us : List VType)
        → T (is_array_with e t) → ((a r x : Kind) (n : ℕ) → T (is_array_with e (types.Class a)) → t ≡ types.Class a → ElementFacts P facts e a r x → (j : ℕ) → j < n → Fits P h0 Q (k x j) LT (Exact r n ∷ operand_tys own us))
        → Fits P h0 Q (not_null P 0 (AskKind 0 (λ kind n. checked (is_element e) kind n i k))) LT (ty_of Word own t ∷ operand_tys own us)
    array_fits e types.Null i k us p f = null_throw P facts own F G h0 Q s owed _ _
    array_fits e (types.Class a) i k us p f = (
      null_throw P facts own F G h0 Q s owed _ _,
      λ r n q z.
          checked_fits e a r n i k LT (Exact r n ∷ operand_tys own us) p q (λ x y j l. f a r x n p refl y j l),
    )
    array_fits e types.Top i k us p f = absurd p
    array_fits e types.Int i k us p f = absurd p
    array_fits e types.Long i k us p f = absurd p
    array_fits e types.UninitThis i k us p f = absurd p
    array_fits e (types.Uninit m) i k us p f = absurd p

    -- iaload and so on
    pub array_loads : (e : Elements) (k : Script) → On k
        → take_int 0 F.operands (λ ts. take_array P e 1 ts (λ a us. leaves_operands own F (loaded_type e a ∷ us))) ≡ Leaves G
        → Fit (PopInt (λ i. not_null P 0 (AskKind 0 (λ kind n. checked (is_element e) kind n i (λ x j. ReadSlot j k)))))
    array_loads e k g q =
        let r = inv_int G 0 F.operands (λ ts. take_array P e 1 ts (λ a us. leaves_operands own F (loaded_type e a ∷ us))) q in
        let b = inv_that G (is_array_with e) (wanted_array P e) 1 r.0 (λ a us. leaves_operands own F (loaded_type e a ∷ us)) r.2 in
        over P facts own F G h0 Q (PopInt (λ i. not_null P 0 (AskKind 0 (λ kind n. checked (is_element e) kind n i (λ x j. ReadSlot j k))))) F.operands (types.Int ∷ b.0 ∷ b.1) (r.1 ∙ ap (λ ts. types.Int ∷ ts) b.2)
        (λ i. array_fits e b.0 i (λ x j. ReadSlot j k) b.1 b.3 (λ a r x n p is y j l. (
          l,
          go_top P facts own F G h0 Q k g (loaded_type e b.0) b.1 b.4 (slot_ty P r j)
              (λ h v z. subst (λ t. Belongs P h (ty_of Word own (loaded_type e t)) v) (sym is) (loaded_ok P facts own e a r x p y h v (subst (λ t. Belongs P h t v) (y.slot j) z))),
        )))

    -- a value of the elements' type is written
    writes : (k : Script) → On k → (us : List VType) → leaves_operands own F us ≡ Leaves G → (u : Ty) (r x : Kind) (n j : ℕ) → j < n → Sharper P u (kept_ty x) → slot_ty P r j ≡ kept_ty x
        → Fits P h0 Q (WriteSlot j k) LT (u ∷ Exact r n ∷ operand_tys own us)
    writes k g us q u r x n j l up e = (l, (λ h v a. subst (λ t. Belongs P h t v) (sym e) (up h v a)), go_same P facts own F G h0 Q k g us q)

    -- iastore, bastore, castore, sastore
    pub int_stores : (e : Elements) → ((x : Kind) → T (is_element e x) → (h : Heap) (v : ℤ) → Belongs P h (kept_ty x) (Int (narrowed x.base v)))
        → (k : Script) → On k → take_int 0 F.operands (λ ts. take_int 1 ts (λ us. take_array P e 2 us (λ a vs. leaves_operands own F vs))) ≡ Leaves G
        → Fit (PopInt (λ v. PopInt (λ i. not_null P 0 (AskKind 0 (λ kind n. checked (is_element e) kind n i (λ x j. Push (PlainInt (narrowed x.base v)) (WriteSlot j k)))))))
    int_stores e kept k g q =
        let r = inv_int G 0 F.operands (λ ts. take_int 1 ts (λ us. take_array P e 2 us (λ a vs. leaves_operands own F vs))) q in
        let c = inv_int G 1 r.0 (λ us. take_array P e 2 us (λ a vs. leaves_operands own F vs)) r.2 in
        let b = inv_that G (is_array_with e) (wanted_array P e) 2 c.0 (λ a us. leaves_operands own F us) c.2 in
        over P facts own F G h0 Q (PopInt (λ v. PopInt (λ i. not_null P 0 (AskKind 0 (λ kind n. checked (is_element e) kind n i (λ x j. Push (PlainInt (narrowed x.base v)) (WriteSlot j k))))))) F.operands (types.Int ∷ types.Int ∷ b.0 ∷ b.1)
        (r.1 ∙ ap (λ ts. types.Int ∷ ts) (c.1 ∙ ap (λ ts. types.Int ∷ ts) b.2))
        (λ v i. array_fits e b.0 i (λ x j. Push (PlainInt (narrowed x.base v)) (WriteSlot j k)) b.1 b.3 (λ a r x n p is y j l.
        (kept_ty x, (λ h. kept x y.passes h v), writes k g b.1 b.4 (kept_ty x) r x n j l (λ h v a. a) (y.slot j))))

    -- lastore
    pub long_stores : (k : Script) → On k
        → take_that is_long (wanted.Type types.Long) 0 F.operands (λ t ts. take_int 1 ts (λ us. take_array P (Of bases.Long) 2 us (λ a vs. leaves_operands own F vs))) ≡ Leaves G
        → Fit (PopLong (λ v. PopInt (λ i. not_null P 0 (AskKind 0 (λ kind n. checked (is_element (Of bases.Long)) kind n i (λ x j. Push (PlainLong v) (WriteSlot j k)))))))
    long_stores k g q =
        let r = inv_that G is_long (wanted.Type types.Long) 0 F.operands (λ t ts. take_int 1 ts (λ us. take_array P (Of bases.Long) 2 us (λ a vs. leaves_operands own F vs))) q in
        let c = inv_int G 1 r.1 (λ us. take_array P (Of bases.Long) 2 us (λ a vs. leaves_operands own F vs)) r.4 in
        let b = inv_that G (is_array_with (Of bases.Long)) (wanted_array P (Of bases.Long)) 2 c.0 (λ a us. leaves_operands own F us) c.2 in
        over P facts own F G h0 Q (PopLong (λ v. PopInt (λ i. not_null P 0 (AskKind 0 (λ kind n. checked (is_element (Of bases.Long)) kind n i (λ x j. Push (PlainLong v) (WriteSlot j k))))))) F.operands (types.Long ∷ types.Int ∷ b.0 ∷ b.1)
        (r.2 ∙ (ap (λ t. t ∷ r.1) (long_is r.0 r.3) ∙ ap (λ ts. types.Long ∷ ts) (c.1 ∙ ap (λ ts. types.Int ∷ ts) b.2)))
        (λ v i. array_fits (Of bases.Long) b.0 i (λ x j. Push (PlainLong v) (WriteSlot j k)) b.1 b.3 (λ a r x n p is y j l.
        (kept_ty x, (λ h. long_kept x y.passes h v), writes k g b.1 b.4 (kept_ty x) r x n j l (λ h v a. a) (y.slot j))))
      where
        long_kept : (x : Kind) → T (is_base bases.Long x) → (h : Heap) (v : ℤ) → Belongs P h (kept_ty x) (Long v)
        long_kept x p h v = subst (λ x. Belongs P h (kept_ty x) (Long v)) (sym (is_the_base bases.Long x p)) tt

    -- aastore
    stored : (k : Script) → On k → (us : List VType) → leaves_operands own F us ≡ Leaves G → (t : VType) → T (is_initialised t) → (a r x : Kind) (n j : ℕ) → ElementFacts P facts References a r x → j < n
        → Fits P h0 Q (storable P x (Drop 1 (WriteSlot j k))) LT (ty_of Word own t ∷ AnInt ∷ Exact r n ∷ operand_tys own us)
    stored k g us q types.Null p a r x n j y l = (omega arith, writes k g us q JustNull r x n j l (λ h v z. subst (λ t. Belongs P h t v) (sym (reference_slot P facts References a r x y)) (null_to P facts x h v z)) (y.slot j))
    stored k g us q (types.Class c) p a r x n j y l = (
      (omega arith, writes k g us q JustNull r x n j l (λ h v z. subst (λ t. Belongs P h t v) (sym (reference_slot P facts References a r x y)) (null_to P facts x h v z)) (y.slot j)),
      λ f m b z. if_fits P facts own F G h0 Q (is_sub P f x) (Drop 1 (WriteSlot j k)) (throw_new P built_ins.ArrayStoreException) LT (Exact f m ∷ AnInt ∷ Exact r n ∷ operand_tys own us)
          (λ u. (omega arith, writes k g us q (Exact f m) r x n j l (λ h v z. subst (λ t. Belongs P h t v) (sym (reference_slot P facts References a r x y)) (exact_null P facts f x m (sub_assignable P facts f x u) h v z)) (y.slot j)))
          (λ u. throws P facts own F G h0 Q s owed built_ins.ArrayStoreException refl _ _),
    )
    stored k g us q types.Top p a r x n j y l = absurd p
    stored k g us q types.Int p a r x n j y l = absurd p
    stored k g us q types.Long p a r x n j y l = absurd p
    stored k g us q types.UninitThis p a r x n j y l = absurd p
    stored k g us q (types.Uninit m) p a r x n j y l = absurd p

    into_array : (k : Script) → On k → (us : List VType) → leaves_operands own F us ≡ Leaves G → (i : ℤ) (t u : VType) → T (is_initialised t) → T (is_array_with References u)
        → Fits P h0 Q (not_null P 2 (AskKind 2 (λ kind n. checked (is_element References) kind n i (λ x j. storable P x (Drop 1 (WriteSlot j k)))))) LT (ty_of Word own t ∷ AnInt ∷ ty_of Word own u ∷ operand_tys own us)
    into_array k g us q i t u p r = on_array References u _ (λ y. Fits P h0 Q (AskKind 2 (λ kind n. checked (is_element References) kind n i (λ x j. storable P x (Drop 1 (WriteSlot j k))))) LT (ty_of Word own t ∷ AnInt ∷ y ∷ operand_tys own us)) r
        (null_throw P facts own F G h0 Q s owed _ _) (λ a d f n b z.
        checked_fits References a f n i (λ x j. storable P x (Drop 1 (WriteSlot j k))) LT (ty_of Word own t ∷ AnInt ∷ Exact f n ∷ operand_tys own us) d b (λ x y j l. stored k g us q t p a f x n j y l))

    pub reference_stores : (k : Script) → On k
        → take_reference 0 F.operands (λ t ts. take_int 1 ts (λ us. take_array P References 2 us (λ a vs. leaves_operands own F vs))) ≡ Leaves G
        → Fit (Pick 1 (PopInt (λ i. not_null P 2 (AskKind 2 (λ kind n. checked (is_element References) kind n i (λ x j. storable P x (Drop 1 (WriteSlot j k))))))))
    reference_stores k g q =
        let r = inv_that G is_initialised wanted.AnyReference 0 F.operands (λ t ts. take_int 1 ts (λ us. take_array P References 2 us (λ a vs. leaves_operands own F vs))) q in
        let c = inv_int G 1 r.1 (λ us. take_array P References 2 us (λ a vs. leaves_operands own F vs)) r.4 in
        let b = inv_that G (is_array_with References) (wanted_array P References) 2 c.0 (λ a us. leaves_operands own F us) c.2 in
        over P facts own F G h0 Q (Pick 1 (PopInt (λ i. not_null P 2 (AskKind 2 (λ kind n. checked (is_element References) kind n i (λ x j. storable P x (Drop 1 (WriteSlot j k)))))))) F.operands (r.0 ∷ types.Int ∷ b.0 ∷ b.1)
        (r.2 ∙ ap (λ ts. r.0 ∷ ts) (c.1 ∙ ap (λ ts. types.Int ∷ ts) b.2))
        (λ i. into_array k g b.1 b.4 i r.0 b.0 r.3 b.3)

    -- ---- lengths

    counts : (k : Script) → On k → (us : List VType) → leaves_operands own F (types.Int ∷ us) ≡ Leaves G → (t : VType) → T (is_any_array t) → Fits P h0 Q (array_length P k) LT (ty_of Word own t ∷ operand_tys own us)
    counts k g us q types.Null p = null_throw P facts own F G h0 Q s owed _ _
    counts k g us q (types.Class a) p = (
      null_throw P facts own F G h0 Q s owed _ _,
      λ r n b z.
          which_fits P facts own F G h0 Q (is_array r) (Drop 0 (Push (PlainInt (pos n)) k)) LT (Exact r n ∷ operand_tys own us) (array_below a.dims a.base r.dims r.base p b)
          (omega arith, (AnInt, λ h. tt, go_same P facts own F G h0 Q k g (types.Int ∷ us) q)),
    )
      where
        array_below : (n : ℕ) (b : Base) (m : ℕ) (c : Base) → T (is_array (kind_of n b)) → T (is_assignable P (kind_of m c) (kind_of n b)) → T (is_array (kind_of m c))
        array_below zero b m c p q = absurd p
        array_below (suc n) b zero c p q = absurd q
        array_below (suc n) b (suc m) c p q = subst T (sym (above_zero m)) tt
    counts k g us q types.Top p = absurd p
    counts k g us q types.Int p = absurd p
    counts k g us q types.Long p = absurd p
    counts k g us q types.UninitThis p = absurd p
    counts k g us q (types.Uninit m) p = absurd p

    pub lengths : (k : Script) → On k → length_rule own F ≡ Leaves G → Fit (array_length P k)
    lengths k g e =
        let r = inv_that G is_any_array wanted.AnyReference 0 F.operands (λ a ts. leaves_operands own F (types.Int ∷ ts)) e in
        over P facts own F G h0 Q (array_length P k) F.operands (r.0 ∷ r.1) r.2 (counts k g r.1 r.4 r.0 r.3)

    -- ---- new arrays

    zero_many : (h : Heap) (n : ℕ) (p : Plain) (t : Ty) → Belongs P h t (plain p) → (i : ℕ) (q : Plain) → slice_get (replicate n p) i ≡ Some q → Belongs P h t (plain q)
    zero_many h zero p t b i q e = absurd (none_some e)
      where
        none_some : {x : Plain} → ◌≡◌ {A = Option Plain} None (Some x) → ⊥
        none_some e = cc
    zero_many h (suc n) p t b zero q e = subst (λ q. Belongs P h t (plain q)) (some_same e) b
      where
        some_same : {x y : Plain} → Some x ≡ Some y → x ≡ y
        some_same e = cc
    zero_many h (suc n) p t b (suc i) q e = zero_many h n p t b i q e

    -- an array whose elements are of kind e
    pub make_fits : (e : Kind) (n : ℕ) (k : Script) (L us : List Ty) → T (is_assignable P e e) → ((m : ℕ) → n ≤ m → Fits P h0 Q k L (Exact (array_of e) m ∷ us)) → Fits P h0 Q (make_array e n k) L us
    make_fits e n k L us self f =
        let a : array_of e ≡ record e { dims = suc e.dims } = array_of_is e in (
          subst (λ a. Counts P a (length (replicate n (zero_of e)))) (sym a) self,
          (λ h i p q. subst (λ a. Belongs P h (slot_ty P a i) (plain p)) (sym a) (zero_many h n (zero_of e) (kept_ty e) (zero_ok P h e) i p q)),
          f (length (replicate n (zero_of e))) (long_enough n (zero_of e)),
        )
      where
        long_enough : (n : ℕ) (p : Plain) → n ≤ length (replicate n p)
        long_enough zero p = omega arith
        long_enough (suc n) p = let l = long_enough n p in omega arith

    pub array_up : (a : Kind) (m : ℕ) → T (is_assignable P a a) → Sharper P (Exact a m) (Nullable a)
    array_up a m p = exact_null P facts a a m p

    pub new_arrays_fit : (e : Kind) (k : Script) → On k → T (is_assignable P e e) → made_of_counts own 1 (array_of e) F ≡ Leaves G → Fit (new_array P e k)
    new_arrays_fit e k g p q =
        let r = inv_int G 0 F.operands (λ ts. take_ints 0 1 ts (λ ts. leaves_operands own F (types.Class (array_of e) ∷ ts))) q in
        over P facts own F G h0 Q (new_array P e k) F.operands (types.Int ∷ r.0) r.1 (by_sign r.0 r.2)
      where
        self : T (is_assignable P (array_of e) (array_of e))
        self = subst (λ a. T (is_assignable P a a)) (sym (array_of_is e)) p

        made : (us : List VType) → leaves_operands own F (types.Class (array_of e) ∷ us) ≡ Leaves G → (n : ℕ) → Fits P h0 Q (make_array e n k) LT (operand_tys own us)
        made us q n = make_fits e n k LT (operand_tys own us) p (λ m l. go_top P facts own F G h0 Q k g (types.Class (array_of e)) us q (Exact (array_of e) m) (array_up (array_of e) m self))

        by_sign : (us : List VType) → leaves_operands own F (types.Class (array_of e) ∷ us) ≡ Leaves G → Fits P h0 Q (new_array P e k) LT (AnInt ∷ operand_tys own us)
        by_sign us q (pos n) = made us q n
        by_sign us q (negsuc n) = throws P facts own F G h0 Q s owed built_ins.NegativeArraySizeException refl LT (operand_tys own us)
