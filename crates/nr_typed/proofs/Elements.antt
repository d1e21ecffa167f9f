-- Kinds of arrays' elements, fields' slots, and what is kept in them.
use Rattle.std.proofs.Common.{◌≡◌, ◌≢◌, ℕ, zero, suc, ◌<◌, inl, inr, List, [], ◌∷◌, length, refl, sym, ap, subst, ◌∙◌, true, false, arith, T}
use Rattle.std.specs.Prelude.{ℤ, Option, Some, None, slice_get, if◌then◌else◌, ◌%◌, ◌^◌}
use Rattle.std.specs.Option.{option_map_or}
use Rattle.std.specs.Int.{w8, w16, w32, cast_unsigned}
use Rattle.std.proofs.lemmas.Int.{SFits-int_wrap}
use Rattle.nr_linked.specs.declared.program.kind.Base.{Base}
use Rattle.nr_linked.specs.declared.program.kind.Base.TheVariants as bases
use Rattle.nr_linked.specs.declared.program.kind.Kind.{Kind}
use Rattle.nr_linked.specs.declared.program.tables.MethodInfo.{MethodInfo}
use Rattle.nr_linked.specs.declared.program.tables.ProgramTables.{ProgramTables}
use Rattle.nr_linked.specs.declared.program.tables.SlotInfo.{SlotInfo}
use Rattle.nr_linked.specs.declared.program.types.VType.TheVariants as types
use Rattle.nr_linked.specs.Kinds.{class_kind, is_reference, element_of, array_of, is_same_primitive}
use Rattle.nr_linked.specs.Slots.{slots_of}
use Rattle.nr_linked.specs.Subtypes.{by_components, is_above, is_sub, is_base_assignable, admits_arrays, is_assignable}
use Rattle.nr_linked.specs.TypingFrames.{of_base}
use Rattle.nr_linked.specs.TypingArrays.{is_array_with, loaded_type}
use Rattle.nr_linked.specs.ArrayKinds.{Elements, Of, Bytes, References, is_base, is_element}
use Rattle.nr_linked.specs.TypingFacts.{TypingFacts}
use Rattle.nr_model.specs.declared.value.Value.TheVariants.{Int}
use Rattle.nr_model.specs.Heaps.{Heap, on_some}
use Rattle.nr_model.specs.ArrayRules.{narrowed}
use Rattle.nr_model.specs.Types.{Anything, Word, Nullable, kept_base, kept_ty, ty_of}
use Rattle.nr_model.specs.Belonging.{Belongs, Sharper}
use Rattle.nr_model.specs.TypedHeaps.{Counts, IsObjectOf, slot_ty}
use Rattle.nr_typed.proofs.Assigning.{yes, holds, is_true, or_cases, or_left, or_right, above_zero, array_reference, by_kind, same_primitive, below_class}
use Rattle.nr_typed.proofs.Belongs.{null_up}

abbrev pub kind_of : ℕ → Base → Kind
kind_of n b = record { dims = n; base = b }

-- ---- what is narrowed is in range

pub narrowed_ok : (P : ProgramTables) (h : Heap) (b : Base) (n : ℤ) → b ≢ bases.Long → Belongs P h (kept_base b) (Int (narrowed b n))
narrowed_ok P h bases.Bool n d = (cast_unsigned w32 n % 2, refl, omega arith)
narrowed_ok P h bases.Byte n d = SFits-int_wrap w8 n
narrowed_ok P h bases.Char n d = (cast_unsigned w32 n % 2 ^ 16, refl, omega arith)
narrowed_ok P h bases.Short n d = SFits-int_wrap w16 n
narrowed_ok P h bases.Int n d = tt
narrowed_ok P h bases.Long n d = absurd (d refl)
narrowed_ok P h (bases.Object c) n d = tt

-- ---- primitive types that are no longs

pub bool_long : bases.Bool ≢ bases.Long
bool_long e = cc

pub byte_long : bases.Byte ≢ bases.Long
byte_long e = cc

pub char_long : bases.Char ≢ bases.Long
char_long e = cc

pub short_long : bases.Short ≢ bases.Long
short_long e = cc

pub int_long : bases.Int ≢ bases.Long
int_long e = cc

-- ---- primitive elements

pub array_of_is : (k : Kind) → array_of k ≡ record k { dims = suc k.dims }
array_of_is k = ap (λ n. record k { dims = n }) (omega arith)

-- the kind is that primitive type
base_kind : (b : Base) (n : ℕ) (c : Base) → T (is_base b (kind_of n c)) → (kind_of n c) ≡ (kind_of 0 b)
base_kind b zero c p = ap (λ c. (kind_of 0 c)) (sym (same_primitive b c p))
base_kind b (suc n) c p = absurd (rw (above_zero n) at p)

pub is_the_base : (b : Base) (k : Kind) → T (is_base b k) → k ≡ (kind_of 0 b)
is_the_base b k p = base_kind b k.dims k.base p

not_object : (b : Base) (n : ℕ) (c : Base) → T (is_base b (kind_of n c)) → (d : ℕ) → b ≡ bases.Object d → ⊥
not_object b zero (bases.Object e) p d x = never_object b e (subst (λ b. T (is_same_primitive b (bases.Object e))) refl p)
  where
    never_object : (b : Base) (e : ℕ) → T (is_same_primitive b (bases.Object e)) → ⊥
    never_object bases.Bool e p = p
    never_object bases.Byte e p = p
    never_object bases.Char e p = p
    never_object bases.Short e p = p
    never_object bases.Int e p = p
    never_object bases.Long e p = p
    never_object (bases.Object f) e p = p
not_object b zero bases.Bool p d x = subst (λ b. T (is_same_primitive b bases.Bool)) x p
not_object b zero bases.Byte p d x = subst (λ b. T (is_same_primitive b bases.Byte)) x p
not_object b zero bases.Char p d x = subst (λ b. T (is_same_primitive b bases.Char)) x p
not_object b zero bases.Short p d x = subst (λ b. T (is_same_primitive b bases.Short)) x p
not_object b zero bases.Int p d x = subst (λ b. T (is_same_primitive b bases.Int)) x p
not_object b zero bases.Long p d x = subst (λ b. T (is_same_primitive b bases.Long)) x p
not_object b (suc n) c p d x = absurd (rw (above_zero n) at p)

module _ (P : ProgramTables) (facts : TypingFacts P) where
  -- what goes where a primitive type is wanted is of that type
  below_primitive : (b : Base) → ((d : ℕ) → b ≡ bases.Object d → ⊥) → (m : ℕ) (c : Base) → T (by_components (is_base_assignable P) (admits_arrays P) m c 0 b) → (kind_of m c) ≡ (kind_of 0 b)
  below_primitive (bases.Object d) n m c p = absurd (n d refl)
  below_primitive bases.Bool n zero c p = ap (λ c. (kind_of 0 c)) (same c p)
    where
      same : (c : Base) → T (is_base_assignable P c bases.Bool) → c ≡ bases.Bool
      same bases.Bool p = refl
      same _ p = absurd p
  below_primitive bases.Byte n zero c p = ap (λ c. (kind_of 0 c)) (same c p)
    where
      same : (c : Base) → T (is_base_assignable P c bases.Byte) → c ≡ bases.Byte
      same bases.Byte p = refl
      same _ p = absurd p
  below_primitive bases.Char n zero c p = ap (λ c. (kind_of 0 c)) (same c p)
    where
      same : (c : Base) → T (is_base_assignable P c bases.Char) → c ≡ bases.Char
      same bases.Char p = refl
      same _ p = absurd p
  below_primitive bases.Short n zero c p = ap (λ c. (kind_of 0 c)) (same c p)
    where
      same : (c : Base) → T (is_base_assignable P c bases.Short) → c ≡ bases.Short
      same bases.Short p = refl
      same _ p = absurd p
  below_primitive bases.Int n zero c p = ap (λ c. (kind_of 0 c)) (same c p)
    where
      same : (c : Base) → T (is_base_assignable P c bases.Int) → c ≡ bases.Int
      same bases.Int p = refl
      same _ p = absurd p
  below_primitive bases.Long n zero c p = ap (λ c. (kind_of 0 c)) (same c p)
    where
      same : (c : Base) → T (is_base_assignable P c bases.Long) → c ≡ bases.Long
      same bases.Long p = refl
      same _ p = absurd p
  below_primitive bases.Bool n (suc m) c p = absurd p
  below_primitive bases.Byte n (suc m) c p = absurd p
  below_primitive bases.Char n (suc m) c p = absurd p
  below_primitive bases.Short n (suc m) c p = absurd p
  below_primitive bases.Int n (suc m) c p = absurd p
  below_primitive bases.Long n (suc m) c p = absurd p

  below_base : (b : Base) (x y : Kind) → T (is_base b y) → T (is_assignable P x y) → x ≡ (kind_of 0 b)
  below_base b x y p q = below_primitive b (not_object b y.dims y.base p) x.dims x.base (subst (λ y. T (is_assignable P x y)) (is_the_base b y p) q)

  -- what goes where a reference is wanted is one
  below_parts : (m : ℕ) (b : Base) (y : Kind) → T (is_reference y) → T (is_assignable P (kind_of m b) y) → T (is_reference (kind_of m b))
  below_parts (suc m) b y p q = subst T (sym (array_reference m b)) tt
  below_parts zero (bases.Object c) y p q = tt
  below_parts zero b y p q = by_kind (λ y. T (is_reference y) → T (is_assignable P (kind_of 0 b) y) → T (is_reference (kind_of 0 b)))
      (λ y e p q. at_reference y.dims y.base e q) (λ p q. absurd p) (λ p q. absurd p) (λ p q. absurd p) (λ p q. absurd p) (λ p q. absurd p) (λ p q. absurd p) y p q
    where
      primitive_object : (b : Base) (c : ℕ) → T (is_base_assignable P b (bases.Object c)) → T (is_reference (kind_of 0 b))
      primitive_object (bases.Object d) c q = tt
      primitive_object _ c q = absurd q

      at_reference : (n : ℕ) (c : Base) → is_reference (kind_of n c) ≡ true → T (by_components (is_base_assignable P) (admits_arrays P) 0 b n c) → T (is_reference (kind_of 0 b))
      at_reference zero (bases.Object c) e q = primitive_object b c q
      at_reference zero bases.Bool e q = absurd (subst T (sym e) tt)
      at_reference zero bases.Byte e q = absurd (subst T (sym e) tt)
      at_reference zero bases.Char e q = absurd (subst T (sym e) tt)
      at_reference zero bases.Short e q = absurd (subst T (sym e) tt)
      at_reference zero bases.Int e q = absurd (subst T (sym e) tt)
      at_reference zero bases.Long e q = absurd (subst T (sym e) tt)
      at_reference (suc n) c e q = absurd q

  pub below_reference : (x y : Kind) → T (is_reference y) → T (is_assignable P x y) → T (is_reference x)
  below_reference x y p q = below_parts x.dims x.base y p q

  -- ---- what an array holds

  -- r is a kind of arrays below one of which the instruction takes arrays; x is that of its elements
  pub record ElementFacts (e : Elements) (k r x : Kind) : Type 0 where
    pub is_element_of : element_of r ≡ Some x
    pub passes : T (is_element e x)
    pub below : (y : Kind) → element_of k ≡ Some y → T (is_assignable P x y)
    pub slot : (i : ℕ) → slot_ty P r i ≡ kept_ty x

  base_passes : (b : Base) (x y : Kind) → T (is_base b y) → T (is_assignable P x y) → T (is_base b x)
  base_passes b x y p q = subst (λ z. T (is_base b z)) (is_the_base b y p ∙ sym (below_base b x y p q)) p

  element_passes : (e : Elements) (x y : Kind) → T (is_element e y) → T (is_assignable P x y) → T (is_element e x)
  element_passes (Of b) x y p q = base_passes b x y p q
  element_passes Bytes x y p q = elim (or_cases (is_base bases.Byte y) (is_base bases.Bool y) p) [
    | inl z ↦ or_left (is_base bases.Byte x) (is_base bases.Bool x) (base_passes bases.Byte x y z q)
    | inr z ↦ or_right (is_base bases.Byte x) (is_base bases.Bool x) (base_passes bases.Bool x y z q)
  ]
  element_passes References x y p q = below_reference x y p q

  same_kind : {x y : Kind} → Some x ≡ Some y → x ≡ y
  same_kind e = cc

  by_dims : (e : Elements) (n : ℕ) (b : Base) (m : ℕ) (c : Base) → T (is_array_with e (types.Class (kind_of n b))) → T (by_components (is_base_assignable P) (admits_arrays P) m c n b)
      → (x : Kind) × ElementFacts e (kind_of n b) (kind_of m c) x
  by_dims e zero b m c p q = absurd p
  by_dims e (suc n) b zero c p q = absurd q
  by_dims e (suc n) b (suc m) c p q = (
    (kind_of m c),
    record {
      is_element_of = refl;
      passes = element_passes e (kind_of m c) (kind_of n b) p q;
      below = λ y z. subst (λ y. T (is_assignable P (kind_of m c) y)) (same_kind z) q;
      slot = λ i. refl;
    },
  )

  pub elements : (e : Elements) (k r : Kind) → T (is_array_with e (types.Class k)) → T (is_assignable P r k) → (x : Kind) × ElementFacts e k r x
  elements e k r p q = by_dims e k.dims k.base r.dims r.base p q

  -- what is loaded

  kept_word : (own : MethodInfo) (b : Base) → ((d : ℕ) → b ≡ bases.Object d → ⊥) → Sharper P (kept_base b) (ty_of Word own (of_base b))
  kept_word own bases.Long n h v q = q
  kept_word own bases.Int n h v q = q
  kept_word own (bases.Object c) n h v q = absurd (n c refl)
  kept_word own bases.Bool n h (Int i) q = tt
  kept_word own bases.Byte n h (Int i) q = tt
  kept_word own bases.Char n h (Int i) q = tt
  kept_word own bases.Short n h (Int i) q = tt
  kept_word own bases.Bool n h _ q = absurd q
  kept_word own bases.Byte n h _ q = absurd q
  kept_word own bases.Char n h _ q = absurd q
  kept_word own bases.Short n h _ q = absurd q

  base_loaded : (own : MethodInfo) (b : Base) (x : Kind) → T (is_base b x) → Sharper P (kept_ty x) (ty_of Word own (of_base b))
  base_loaded own b x p = subst (λ x. Sharper P (kept_ty x) (ty_of Word own (of_base b))) (sym (is_the_base b x p)) (prim b (not_object b x.dims x.base p))
    where
      prim : (b : Base) → ((d : ℕ) → b ≡ bases.Object d → ⊥) → Sharper P (kept_ty (kind_of 0 b)) (ty_of Word own (of_base b))
      prim bases.Bool n = kept_word own bases.Bool n
      prim bases.Byte n = kept_word own bases.Byte n
      prim bases.Char n = kept_word own bases.Char n
      prim bases.Short n = kept_word own bases.Short n
      prim bases.Int n = kept_word own bases.Int n
      prim bases.Long n = kept_word own bases.Long n
      prim (bases.Object d) n = absurd (n d refl)

  reference_kept : (x : Kind) → T (is_reference x) → kept_ty x ≡ Nullable x
  reference_kept x p = ap (λ c. if c then Nullable x else kept_base x.base) (is_true (is_reference x) p)

  -- an element of an array below k, of the type that is loaded
  pub loaded_ok : (own : MethodInfo) (e : Elements) (k r x : Kind) → T (is_array_with e (types.Class k)) → ElementFacts e k r x → Sharper P (kept_ty x) (ty_of Word own (loaded_type e (types.Class k)))
  loaded_ok own (Of b) k r x p f = base_loaded own b x f.passes
  loaded_ok own Bytes k r x p f = elim (or_cases (is_base bases.Byte x) (is_base bases.Bool x) f.passes) [
    | inl z ↦ base_loaded own bases.Byte x z
    | inr z ↦ base_loaded own bases.Bool x z
  ]
  loaded_ok own References k r x p f = of_element (element_of k) p f.below
    where
      of_element : (o : Option Kind) → T (option_map_or (is_element References) o false) → ((y : Kind) → o ≡ Some y → T (is_assignable P x y)) → Sharper P (kept_ty x) (ty_of Word own (option_map_or types.Class o types.Null))
      of_element None p f = absurd p
      of_element (Some y) p g = λ h v q. null_up P facts x y (g y refl) h v (subst (λ t. Belongs P h t v) (reference_kept x f.passes) q)

  -- what a place of a primitive type keeps of an int
  pub base_kept : (b : Base) (x : Kind) → b ≢ bases.Long → T (is_base b x) → (h : Heap) (n : ℤ) → Belongs P h (kept_ty x) (Int (narrowed x.base n))
  base_kept b x d p h n = subst (λ x. Belongs P h (kept_ty x) (Int (narrowed x.base n))) (sym (is_the_base b x p)) (prim b (not_object b x.dims x.base p) d)
    where
      prim : (b : Base) → ((d : ℕ) → b ≡ bases.Object d → ⊥) → b ≢ bases.Long → Belongs P h (kept_ty (kind_of 0 b)) (Int (narrowed b n))
      prim bases.Bool o d = narrowed_ok P h bases.Bool n d
      prim bases.Byte o d = narrowed_ok P h bases.Byte n d
      prim bases.Char o d = narrowed_ok P h bases.Char n d
      prim bases.Short o d = narrowed_ok P h bases.Short n d
      prim bases.Int o d = tt
      prim bases.Long o d = absurd (d refl)
      prim (bases.Object c) o d = absurd (o c refl)

  pub bytes_kept : (x : Kind) → T (is_element Bytes x) → (h : Heap) (n : ℤ) → Belongs P h (kept_ty x) (Int (narrowed x.base n))
  bytes_kept x p h n = elim (or_cases (is_base bases.Byte x) (is_base bases.Bool x) p) [
    | inl z ↦ base_kept bases.Byte x byte_long z h n
    | inr z ↦ base_kept bases.Bool x bool_long z h n
  ]

  pub reference_slot : (e : Elements) (k r x : Kind) → ElementFacts References k r x → kept_ty x ≡ Nullable x
  reference_slot e k r x f = reference_kept x f.passes

  -- ---- fields

  pub in_list : {X : Type 0} (xs : List X) (i : ℕ) (x : X) → slice_get xs i ≡ Some x → i < length xs
  in_list [] i x e = absurd (none_some e)
    where
      none_some : {X : Type 0} {x : X} → ◌≡◌ {A = Option X} None (Some x) → ⊥
      none_some e = cc
  in_list (y ∷ ys) zero x e = omega arith
  in_list (y ∷ ys) (suc i) x e = let n = in_list ys i x e in omega arith

  -- objects below class c have the slot s of it at the same place, also as the class that declares it says
  pub record SlotFacts (s : SlotInfo) (i : ℕ) (e : Kind) (n : ℕ) : Type 0 where
    pub there : i < n
    pub slot : slot_ty P e i ≡ kept_ty s.kind
    pub sub : T (is_sub P e (class_kind s.declared_in))

  pub slot_facts : (c i : ℕ) (s : SlotInfo) → slice_get (slots_of P c) i ≡ Some s → (e : Kind) (n : ℕ) → T (is_assignable P e (class_kind c)) → Counts P e n → SlotFacts s i e n
  slot_facts c i s is e n p q =
      let b = below_class P facts e c (facts.slotted c i s is) p in
      of_class b.0 e b.1 b.2 q
    where
      of_class : (d : ℕ) (e : Kind) → e ≡ class_kind d → T (is_above P d c) → Counts P e n → SlotFacts s i e n
      of_class d e x u q =
          let r : slice_get (slots_of P d) i ≡ Some s = facts.inherited d c i s (holds (is_above P d c) u) is in
          let z : IsObjectOf P d n = subst (λ e. Counts P e n) x q in
          let a : T (is_above P d s.declared_in) = yes (is_above P d s.declared_in) (facts.declared d i s r).0 in
          subst (λ e. SlotFacts s i e n) (sym x) (record {
            there = subst (λ n. i < n) (sym z.count) (in_list (slots_of P d) i s r);
            slot = ap (λ o. on_some o Anything (λ (s : SlotInfo). kept_ty s.kind)) r;
            sub = a;
          })
