-- The constant pool as text: JVM Specification 4.4.
use Rattle.std.specs.Prelude.{◌≡◌, ℕ, ◌-◌, List, [], ◌∷◌, ◌++◌, length, Bool, true, false}
use Rattle.std.specs.Int.{w32, w64, cast_signed}
use Rattle.nr_base.specs.Grammar.{Grammar, run, give, Then, Each, tagged}
use Rattle.nr_prog.specs.declared.pool.PoolEntry.{PoolEntry}
use Rattle.nr_prog.specs.declared.pool.PoolEntry.TheVariants.{Utf8, Integer, Float, Long, Double, Class, Str, FieldRef, MethodRef, InterfaceMethodRef, NameAndType, Unused}
use Rattle.nr_prog.specs.Pool.{is_wide}
use Rattle.nr_classread.specs.Numbers.{u2, u4, u8}

-- a length and so many bytes (4.4.7)
abbrev pub utf8 : Grammar (List ℕ)
utf8 = Then u2 (λ len. run len)

-- two indices (4.4.2, 4.4.6)
abbrev pub pair : Grammar (ℕ × ℕ)
pair = Then u2 (λ a. Then u2 (λ b. give (a, b)))

-- An entry: its tag (table 4.4-A), and what 4.4.1 to 4.4.7 put behind it. The place after a long or a double has
-- no text of its own (4.4.5).
abbrev pub entry : Grammar PoolEntry
entry (Utf8 bytes) text = tagged 1 utf8 bytes text
entry (Integer z) text = (bits : ℕ) × (z ≡ cast_signed w32 bits) × tagged 3 u4 bits text
entry (Float bits) text = tagged 4 u4 bits text
entry (Long z) text = (bits : ℕ) × (z ≡ cast_signed w64 bits) × tagged 5 u8 bits text
entry (Double bits) text = tagged 6 u8 bits text
entry (Class name) text = tagged 7 u2 name text
entry (Str bytes) text = tagged 8 u2 bytes text
entry (FieldRef class member) text = tagged 9 pair (class, member) text
entry (MethodRef class member) text = tagged 10 pair (class, member) text
entry (InterfaceMethodRef class member) text = tagged 11 pair (class, member) text
entry (NameAndType name desc) text = tagged 12 pair (name, desc) text
entry Unused text = ⊥

-- The entries that stand behind a long or a double, or behind no such one: the place after it is unused and has no
-- text, and each other entry has its own (4.4.5).
abbrev pub entries : Bool → Grammar (List PoolEntry)
entries is_behind_wide [] text = text ≡ []
entries true (e ∷ es) text = (e ≡ Unused) × entries false es text
entries false (e ∷ es) text =
    (front back : List ℕ) × entry e front × entries (is_wide e) es back × (text ≡ front ++ back)

-- A count, and the entries, which are one fewer (4.1). A count of 0 says the same as 1: the project's own rule.
abbrev pub pool : Grammar (List PoolEntry)
pool = Then u2 (λ count es text. (length es ≡ count - 1) × entries false es text)

-- a count and so many items, as of interfaces, fields, methods (4.1) and exception handlers (4.7.3)
abbrev pub list : {A : Type 0} → Grammar A → Grammar (List A)
list item = Then u2 (λ count items text. (length items ≡ count) × Each item items text)
