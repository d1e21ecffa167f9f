-- What calls make: each entry after the entries that it names, in their order (JVM Specification 4.4 to 4.7; the order
-- is the project's own).
use Rattle.std.specs.Prelude.{ℕ, ℤ, List, Option, Some, None, Bool, true, false, codes, if◌then◌else◌, ◌==◌}
use Rattle.std.specs.Int.{w32}
use Rattle.std.specs.Int.RustNames.{FitsSigned}
use Rattle.std.specs.Str.{bytes_eq}
use Rattle.nr_prog.specs.declared.pool.PoolEntry.{PoolEntry}
use Rattle.nr_prog.specs.declared.pool.PoolEntry.TheVariants.{Utf8, Integer, Long, Class, FieldRef, MethodRef, InterfaceMethodRef, NameAndType}
use Rattle.nr_prog.specs.declared.member.Field.{Field}
use Rattle.nr_prog.specs.declared.member.Code.{Code}
use Rattle.nr_classmake.specs.Places.{with_entry}

-- what makes entries: of a pool it gives the new pool, and a value such as a place
abbrev pub Making : Type 0 → Type 0
Making X = List PoolEntry → List PoolEntry × X

abbrev pub and_then : {X Y : Type 0} → Making X → (X → Making Y) → Making Y
and_then m f pool = f (m pool).1 (m pool).0

abbrev pub nothing : {X : Type 0} → X → Making X
nothing x pool = (pool, x)

-- a class, after its name
unfoldable pub class_ref : List ℕ → Making ℕ
class_ref name = and_then (with_entry (Utf8 name)) (λ n. with_entry (Class n))

-- a name and a descriptor
unfoldable pub names : List ℕ → List ℕ → Making (ℕ × ℕ)
names name desc = and_then (with_entry (Utf8 name)) (λ n. and_then (with_entry (Utf8 desc)) (λ d. nothing (n, d)))

unfoldable pub name_and_type : List ℕ → List ℕ → Making ℕ
name_and_type name desc = and_then (names name desc) (λ m. with_entry (NameAndType m.0 m.1))

-- a reference by its tag (4.4.2)
abbrev pub ref_entry : ℕ → ℕ → ℕ → PoolEntry
ref_entry tag class member = if tag == 9 then FieldRef class member else if tag == 10 then MethodRef class member else InterfaceMethodRef class member

unfoldable pub member_ref : ℕ → List ℕ → List ℕ → List ℕ → Making ℕ
member_ref tag class name desc = and_then (class_ref class) (λ c. and_then (name_and_type name desc) (λ m. with_entry (ref_entry tag c m)))

-- a constant value (4.7.2): a long for a field of descriptor J, and else an int
abbrev pub number_entry : Bool → ℤ → PoolEntry
number_entry long n = if long then Long n else Integer n

abbrev pub is_long_desc : List ℕ → Bool
is_long_desc desc = bytes_eq desc (codes "J")

-- the number fits into its entry
abbrev pub NumberFits : Bool → ℤ → Type 0
NumberFits true n = Unit {0}
NumberFits false n = FitsSigned w32 n

abbrev pub ConstantFits : Bool → Option ℤ → Type 0
ConstantFits long None = Unit {0}
ConstantFits long (Some n) = NumberFits long n

-- the name of the attribute, and the number
unfoldable pub number : Bool → ℤ → Making ℕ
number long n = and_then (with_entry (Utf8 (codes "ConstantValue"))) (λ _. with_entry (number_entry long n))

-- these, where there is a constant value
unfoldable pub constant : Bool → Option ℤ → Making ℕ
constant long None = nothing 0
constant long (Some n) = number long n

unfoldable pub field : ℕ → List ℕ → List ℕ → Option ℤ → Making Field
field flags name desc value =
    and_then (names name desc) (λ m. and_then (constant (is_long_desc desc) value) (λ k. nothing (record { flags = flags; name = m.0; desc = m.1; constant = k })))

-- the names of the attributes that code needs
unfoldable pub maps_name : Option (List ℕ) → Making ℕ
maps_name None = nothing 0
maps_name (Some maps) = with_entry (Utf8 (codes "StackMapTable"))

unfoldable pub code_names : Code → Making ℕ
code_names code = and_then (with_entry (Utf8 (codes "Code"))) (λ _. maps_name code.maps)

-- these, where there is code
unfoldable pub body_names : Option Code → Making ℕ
body_names None = nothing 0
body_names (Some c) = code_names c

unfoldable pub method : List ℕ → List ℕ → Option Code → Making (ℕ × ℕ)
method name desc c = and_then (names name desc) (λ m. and_then (body_names c) (λ _. nothing m))
