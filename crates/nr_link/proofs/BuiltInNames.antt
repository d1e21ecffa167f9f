-- The names and descriptors of the built-in classes are names.
use Rattle.std.proofs.Common.{◌≡◌, ℕ, ◌+◌, ◌<◌, ◌^◌, List, [], ◌∷◌, ◌++◌, Bool, true, length, refl, sym, ap, ◌∙◌, ◌/◌, ◌%◌, arith, cond}
use Rattle.std.specs.Prelude.{IsTrue, nat_le, codes}
use Rattle.std.specs.List.{list_all, flat_map, AllByRecursion}
use Rattle.std.proofs.lemmas.Bool.{and_parts, leb-true}
use Rattle.nr_base.specs.ModifiedUtf8.{IsModifiedUtf8, IsUnit, unit_bytes, within}
use Rattle.nr_linked.specs.declared.program.built_in.BuiltIn.{BuiltIn}
use Rattle.nr_linked.specs.declared.program.built_in.BuiltIn.TheVariants.{Object, Cloneable, Throwable, Exception, Error, RuntimeException, ArithmeticException, ArrayStoreException, ClassCastException, IllegalArgumentException, IllegalStateException, IndexOutOfBoundsException, NegativeArraySizeException, NullPointerException, ArrayIndexOutOfBoundsException, LinkageError, IncompatibleClassChangeError, AbstractMethodError, Serializable, Restorable, Out, RemoteFault}
use Rattle.nr_linked.specs.BuiltIns.{built_in_class}

-- one byte, one unit
abbrev pub is_plain : List ℕ → Bool
is_plain bytes = list_all (within 1 0x7F) bytes

one_unit : (b : ℕ) → within 1 0x7F b ≡ true → unit_bytes b ≡ b ∷ []
one_unit b e = ap (λ t. cond t (b ∷ []) (cond (nat_le b 0x7FF) ((0xC0 + b / 64) ∷ (0x80 + b % 64) ∷ []) ((0xE0 + b / 4096) ∷ (0x80 + b / 64 % 64) ∷ (0x80 + b % 64) ∷ []))) e

pub plain : (bytes : List ℕ) → IsTrue (is_plain bytes) → IsModifiedUtf8 bytes
plain bytes h = record { units = bytes; each = each bytes h; spelled = spelled bytes h }
  where
    bounds : (b : ℕ) → IsTrue (within 1 0x7F b) → IsUnit b
    bounds b h =
        let p = and_parts (nat_le 1 b) (nat_le b 0x7F) h in
        let low = leb-true 1 b p.0 in
        let high = leb-true b 0x7F p.1 in
        (omega (arith, low), omega (arith, high))

    each : (bytes : List ℕ) → IsTrue (is_plain bytes) → AllByRecursion IsUnit bytes
    each [] h = tt
    each (b ∷ bs) h =
        let p = and_parts (within 1 0x7F b) (is_plain bs) h in (bounds b p.0, each bs p.1)

    spelled : (bytes : List ℕ) → IsTrue (is_plain bytes) → bytes ≡ flat_map unit_bytes bytes
    spelled [] h = refl
    spelled (b ∷ bs) h =
        let p = and_parts (within 1 0x7F b) (is_plain bs) h in
        ap (λ ys. b ∷ ys) (spelled bs p.1) ∙ ap (λ us. us ++ flat_map unit_bytes bs) (sym (one_unit b p.0))

pub name_plain : (b : BuiltIn) → IsTrue (is_plain (built_in_class b).name)
unfolding built_in_class
name_plain Object = refl
name_plain Cloneable = refl
name_plain Throwable = refl
name_plain Exception = refl
name_plain Error = refl
name_plain RuntimeException = refl
name_plain ArithmeticException = refl
name_plain ArrayStoreException = refl
name_plain ClassCastException = refl
name_plain IllegalArgumentException = refl
name_plain IllegalStateException = refl
name_plain IndexOutOfBoundsException = refl
name_plain NegativeArraySizeException = refl
name_plain NullPointerException = refl
name_plain ArrayIndexOutOfBoundsException = refl
name_plain LinkageError = refl
name_plain IncompatibleClassChangeError = refl
name_plain AbstractMethodError = refl
name_plain Serializable = refl
name_plain Restorable = refl
name_plain Out = refl
name_plain RemoteFault = refl

pub is_name : (b : BuiltIn) → IsModifiedUtf8 (built_in_class b).name
is_name b = plain (built_in_class b).name (name_plain b)

name_short : (b : BuiltIn) → nat_le (length (built_in_class b).name) 100 ≡ true
unfolding built_in_class
name_short Object = refl
name_short Cloneable = refl
name_short Throwable = refl
name_short Exception = refl
name_short Error = refl
name_short RuntimeException = refl
name_short ArithmeticException = refl
name_short ArrayStoreException = refl
name_short ClassCastException = refl
name_short IllegalArgumentException = refl
name_short IllegalStateException = refl
name_short IndexOutOfBoundsException = refl
name_short NegativeArraySizeException = refl
name_short NullPointerException = refl
name_short ArrayIndexOutOfBoundsException = refl
name_short LinkageError = refl
name_short IncompatibleClassChangeError = refl
name_short AbstractMethodError = refl
name_short Serializable = refl
name_short Restorable = refl
name_short Out = refl
name_short RemoteFault = refl

pub short : (b : BuiltIn) → length (built_in_class b).name < 2 ^ 16
short b = let h = leb-true (length (built_in_class b).name) 100 (name_short b) in omega (arith, h)

-- ---- names and descriptors of their methods

pub init : IsModifiedUtf8 (codes "<init>")
init = plain (codes "<init>") refl

pub print : IsModifiedUtf8 (codes "print")
print = plain (codes "print") refl

pub line : IsModifiedUtf8 (codes "line")
line = plain (codes "line") refl

pub void : IsModifiedUtf8 (codes "()V")
void = plain (codes "()V") refl

pub chars_void : IsModifiedUtf8 (codes "([C)V")
chars_void = plain (codes "([C)V") refl

pub char_void : IsModifiedUtf8 (codes "(C)V")
char_void = plain (codes "(C)V") refl

pub int_void : IsModifiedUtf8 (codes "(I)V")
int_void = plain (codes "(I)V") refl

pub long_void : IsModifiedUtf8 (codes "(J)V")
long_void = plain (codes "(J)V") refl
