-- What goes where a kind is wanted: the relation is transitive, and the test of a run lies within it.
use Rattle.std.proofs.Common.{◌≡◌, ℕ, zero, suc, ◌⊎◌, refl, sym, subst, inl, inr, Bool, true, false, arith, T, nat_lt}
use Rattle.std.specs.Prelude.{IsTrue, ◌||◌, ◌&&◌, ◌==◌}
use Rattle.std.proofs.Math.Facts.{eqb_yes}
use Rattle.nr_linked.specs.declared.program.built_in.BuiltIn.TheVariants as built_ins
use Rattle.nr_linked.specs.declared.program.kind.Base.{Base}
use Rattle.nr_linked.specs.declared.program.kind.Base.TheVariants.{Bool as BoolBase, Byte, Char, Short, Int, Long, Object}
use Rattle.nr_linked.specs.declared.program.kind.Kind.{Kind}
use Rattle.nr_linked.specs.declared.program.tables.ProgramTables.{ProgramTables}
use Rattle.nr_linked.specs.Kinds.{is_same_primitive, is_reference, is_array, class_kind}
use Rattle.nr_linked.specs.BuiltIns.{built_in}
use Rattle.nr_linked.specs.Programs.{is_interface}
use Rattle.nr_linked.specs.Subtypes.{by_components, is_above, is_base_sub, is_above_arrays, is_sub, admits_any, is_base_assignable, admits_arrays, is_assignable}
use Rattle.nr_linked.specs.TypingFacts.{TypingFacts}

-- ---- tests

pub yes : (b : Bool) → IsTrue b → T b
yes b e = subst T (sym e) tt

pub holds : (b : Bool) → T b → IsTrue b
holds true p = refl
holds false p = absurd p

pub never : (b : Bool) → b ≡ false → T b → ⊥
never b e p = subst T e p

pub or_cases : (b c : Bool) → T (b || c) → T b ⊎ T c
or_cases true c p = inl tt
or_cases false c p = inr p

pub or_left : (b c : Bool) → T b → T (b || c)
or_left true c p = tt
or_left false c p = absurd p

pub or_right : (b c : Bool) → T c → T (b || c)
or_right true c p = tt
or_right false c p = p

pub and_both : (b c : Bool) → T (b && c) → T b × T c
and_both true c p = (tt, p)
and_both false c p = absurd p

-- ---- kinds by their parts

pub is_true : (b : Bool) → T b → b ≡ true
is_true true p = refl
is_true false p = absurd p

pub above_zero : (n : ℕ) → nat_lt 0 (suc n) ≡ true
above_zero n = is_true (nat_lt 0 (suc n)) (grind (arith))

pub array_kind : (n : ℕ) (b : Base) → is_array (record { dims = suc n; base = b }) ≡ true
array_kind n b = above_zero n

pub array_reference : (n : ℕ) (b : Base) → is_reference (record { dims = suc n; base = b }) ≡ true
array_reference n b = rw (above_zero n) refl

-- a fact of each kind, from kinds of references and from each primitive type
module _ (C : Kind → Type 0) (refs : (k : Kind) → is_reference k ≡ true → C k)
    (bool : C (record { dims = 0; base = BoolBase })) (byte : C (record { dims = 0; base = Byte })) (char : C (record { dims = 0; base = Char }))
    (short : C (record { dims = 0; base = Short })) (int : C (record { dims = 0; base = Int })) (long : C (record { dims = 0; base = Long })) where
  by_parts : (n : ℕ) (b : Base) → C (record { dims = n; base = b })
  by_parts (suc n) b = refs (record { dims = suc n; base = b }) (array_reference n b)
  by_parts zero (Object c) = refs (record { dims = 0; base = Object c }) refl
  by_parts zero BoolBase = bool
  by_parts zero Byte = byte
  by_parts zero Char = char
  by_parts zero Short = short
  by_parts zero Int = int
  by_parts zero Long = long

  pub by_kind : (k : Kind) → C k
  by_kind k = by_parts k.dims k.base

-- ---- primitive types

pub same_primitive : (a b : Base) → T (is_same_primitive a b) → a ≡ b
same_primitive BoolBase BoolBase p = refl
same_primitive Byte Byte p = refl
same_primitive Char Char p = refl
same_primitive Short Short p = refl
same_primitive Int Int p = refl
same_primitive Long Long p = refl
same_primitive _ _ p = absurd p

-- ---- by components

module _ (B : Base → Base → Bool) (A : Base → Bool) (bases : (a b c : Base) → T (B a b) → T (B b c) → T (B a c)) (arrays : (b c : Base) → T (A b) → T (B b c) → T (A c)) where
  components_trans : (m n k : ℕ) (a b c : Base) → T (by_components B A m a n b) → T (by_components B A n b k c) → T (by_components B A m a k c)
  components_trans zero zero zero a b c p q = bases a b c p q
  components_trans zero zero (suc k) a b c p q = absurd q
  components_trans zero (suc n) k a b c p q = absurd p
  components_trans (suc m) zero zero a b c p q = arrays b c p q
  components_trans (suc m) zero (suc k) a b c p q = absurd q
  components_trans (suc m) (suc n) zero a b c p q = q
  components_trans (suc m) (suc n) (suc k) a b c p q = components_trans m n k a b c p q

module _ (B D : Base → Base → Bool) (A E : Base → Bool) (bases : (a b : Base) → T (B a b) → T (D a b)) (arrays : (b : Base) → T (A b) → T (E b)) where
  components_more : (m n : ℕ) (a b : Base) → T (by_components B A m a n b) → T (by_components D E m a n b)
  components_more zero zero a b p = bases a b p
  components_more zero (suc n) a b p = absurd p
  components_more (suc m) zero a b p = arrays b p
  components_more (suc m) (suc n) a b p = components_more m n a b p

module _ (P : ProgramTables) (facts : TypingFacts P) where
  pub any_up : (b c : ℕ) → T (admits_any P b) → T (admits_any P c || is_above P b c) → T (admits_any P c)
  any_up b c p q = elim (or_cases (admits_any P c) (is_above P b c) q) [
    | inl a ↦ a
    | inr u ↦ yes (admits_any P c) (facts.any_up b c (holds (admits_any P b) p) (holds (is_above P b c) u))
  ]

  class_trans : (a b c : ℕ) → T (admits_any P b || is_above P a b) → T (admits_any P c || is_above P b c) → T (admits_any P c || is_above P a c)
  class_trans a b c p q = elim (or_cases (admits_any P b) (is_above P a b) p) [
    | inl y ↦ or_left (admits_any P c) (is_above P a c) (any_up b c y q)
    | inr u ↦ elim (or_cases (admits_any P c) (is_above P b c) q) [
      | inl y ↦ or_left (admits_any P c) (is_above P a c) y
      | inr w ↦ or_right (admits_any P c) (is_above P a c) (yes (is_above P a c) (facts.above_above a b c (holds (is_above P a b) u) (holds (is_above P b c) w)))
    ]
  ]

  base_trans : (a b c : Base) → T (is_base_assignable P a b) → T (is_base_assignable P b c) → T (is_base_assignable P a c)
  base_trans (Object a) (Object b) (Object c) p q = class_trans a b c p q
  base_trans (Object a) (Object b) BoolBase p q = absurd q
  base_trans (Object a) (Object b) Byte p q = absurd q
  base_trans (Object a) (Object b) Char p q = absurd q
  base_trans (Object a) (Object b) Short p q = absurd q
  base_trans (Object a) (Object b) Int p q = absurd q
  base_trans (Object a) (Object b) Long p q = absurd q
  base_trans BoolBase b c p q = subst (λ a. T (is_base_assignable P a c)) (sym (same_primitive BoolBase b p)) q
  base_trans Byte b c p q = subst (λ a. T (is_base_assignable P a c)) (sym (same_primitive Byte b p)) q
  base_trans Char b c p q = subst (λ a. T (is_base_assignable P a c)) (sym (same_primitive Char b p)) q
  base_trans Short b c p q = subst (λ a. T (is_base_assignable P a c)) (sym (same_primitive Short b p)) q
  base_trans Int b c p q = subst (λ a. T (is_base_assignable P a c)) (sym (same_primitive Int b p)) q
  base_trans Long b c p q = subst (λ a. T (is_base_assignable P a c)) (sym (same_primitive Long b p)) q
  base_trans (Object a) BoolBase c p q = absurd p
  base_trans (Object a) Byte c p q = absurd p
  base_trans (Object a) Char c p q = absurd p
  base_trans (Object a) Short c p q = absurd p
  base_trans (Object a) Int c p q = absurd p
  base_trans (Object a) Long c p q = absurd p

  arrays_trans : (b c : Base) → T (admits_arrays P b) → T (is_base_assignable P b c) → T (admits_arrays P c)
  arrays_trans (Object b) (Object c) p q = any_up b c p q
  arrays_trans (Object b) BoolBase p q = absurd q
  arrays_trans (Object b) Byte p q = absurd q
  arrays_trans (Object b) Char p q = absurd q
  arrays_trans (Object b) Short p q = absurd q
  arrays_trans (Object b) Int p q = absurd q
  arrays_trans (Object b) Long p q = absurd q
  arrays_trans BoolBase c p q = absurd p
  arrays_trans Byte c p q = absurd p
  arrays_trans Char c p q = absurd p
  arrays_trans Short c p q = absurd p
  arrays_trans Int c p q = absurd p
  arrays_trans Long c p q = absurd p

  pub trans : (a b c : Kind) → T (is_assignable P a b) → T (is_assignable P b c) → T (is_assignable P a c)
  trans a b c p q = components_trans (is_base_assignable P) (admits_arrays P) base_trans arrays_trans a.dims b.dims c.dims a.base b.base c.base p q

  sub_base : (a b : Base) → T (is_base_sub P a b) → T (is_base_assignable P a b)
  sub_base (Object a) (Object b) p = or_right (admits_any P b) (is_above P a b) p
  sub_base (Object a) BoolBase p = absurd p
  sub_base (Object a) Byte p = absurd p
  sub_base (Object a) Char p = absurd p
  sub_base (Object a) Short p = absurd p
  sub_base (Object a) Int p = absurd p
  sub_base (Object a) Long p = absurd p
  sub_base BoolBase b p = p
  sub_base Byte b p = p
  sub_base Char b p = p
  sub_base Short b p = p
  sub_base Int b p = p
  sub_base Long b p = p

  face_any : (d f : ℕ) → IsTrue (is_interface P f) → T (d == f) → T (admits_any P d)
  face_any d f i p = or_right (d == built_in P built_ins.Object) (is_interface P d) (subst (λ d. T (is_interface P d)) (sym (eqb_yes p)) (yes (is_interface P f) i))

  sub_arrays : (b : Base) → T (is_above_arrays P b) → T (admits_arrays P b)
  sub_arrays (Object d) p = elim (or_cases (d == built_in P built_ins.Object) (d == built_in P built_ins.Cloneable || d == built_in P built_ins.Serializable) p) [
    | inl y ↦ or_left (d == built_in P built_ins.Object) (is_interface P d) y
    | inr y ↦ elim (or_cases (d == built_in P built_ins.Cloneable) (d == built_in P built_ins.Serializable) y) [
      | inl z ↦ face_any d (built_in P built_ins.Cloneable) facts.cloneable z
      | inr z ↦ face_any d (built_in P built_ins.Serializable) facts.serializable z
    ]
  ]
  sub_arrays BoolBase p = absurd p
  sub_arrays Byte p = absurd p
  sub_arrays Char p = absurd p
  sub_arrays Short p = absurd p
  sub_arrays Int p = absurd p
  sub_arrays Long p = absurd p

  pub sub_assignable : (a b : Kind) → T (is_sub P a b) → T (is_assignable P a b)
  sub_assignable a b p = components_more (is_base_sub P) (is_base_assignable P) (is_above_arrays P) (admits_arrays P) sub_base sub_arrays a.dims b.dims a.base b.base p

  -- below a class that doesn't admit any reference, the relation is that of superclasses, and nothing else is below it
  pub below_class : (e : Kind) (c : ℕ) → admits_any P c ≡ false → T (is_assignable P e (class_kind c)) → (d : ℕ) × (e ≡ class_kind d) × T (is_above P d c)
  below_class e c n p = parts e.dims e.base p
    where
      parts : (m : ℕ) (b : Base) → T (by_components (is_base_assignable P) (admits_arrays P) m b 0 (Object c)) → (d : ℕ) × (record { dims = m; base = b } ≡ class_kind d) × T (is_above P d c)
      parts zero (Object d) p = elim (or_cases (admits_any P c) (is_above P d c) p) [ inl y ↦ absurd (never (admits_any P c) n y) | inr u ↦ (d, refl, u) ]
      parts zero BoolBase p = absurd p
      parts zero Byte p = absurd p
      parts zero Char p = absurd p
      parts zero Short p = absurd p
      parts zero Int p = absurd p
      parts zero Long p = absurd p
      parts (suc m) b p = absurd (never (admits_any P c) n p)

  -- a class goes where one above it is wanted
  pub class_up : (c d : ℕ) → T (is_above P c d) → T (is_assignable P (class_kind c) (class_kind d))
  class_up c d p = or_right (admits_any P d) (is_above P c d) p
