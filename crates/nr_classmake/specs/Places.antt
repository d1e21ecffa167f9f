-- The places of a constant pool that is made. That an equal entry isn't added again is the project's own rule.
use Rattle.std.specs.Prelude.{ℕ, suc, zero, ◌+◌, ◌<◌, ◌^◌, List, [], ◌∷◌, ◌++◌, length, Option, Some, None, Bool, false, ◌&&◌, ◌==◌, if◌then◌else◌, slice_get, All}
use Rattle.std.specs.Option.{option_map, option_map_or}
use Rattle.std.specs.Ordering.{int_eq}
use Rattle.std.specs.Str.{bytes_eq}
use Rattle.nr_prog.specs.declared.pool.PoolEntry.{PoolEntry}
use Rattle.nr_prog.specs.declared.pool.PoolEntry.TheVariants.{Utf8, Integer, Long, Class, FieldRef, MethodRef, InterfaceMethodRef, NameAndType, Unused}
use Rattle.nr_prog.specs.Pool.{is_wide, text_len}

-- whether an entry of a kind that is made equals another
abbrev pub is_same : PoolEntry → PoolEntry → Bool
is_same (Utf8 a) (Utf8 b) = bytes_eq a b
is_same (Integer a) (Integer b) = int_eq a b
is_same (Long a) (Long b) = int_eq a b
is_same (Class a) (Class b) = a == b
is_same (FieldRef a b) (FieldRef c d) = (a == c) && (b == d)
is_same (MethodRef a b) (MethodRef c d) = (a == c) && (b == d)
is_same (InterfaceMethodRef a b) (InterfaceMethodRef c d) = (a == c) && (b == d)
is_same (NameAndType a b) (NameAndType c d) = (a == c) && (b == d)
is_same a b = false

-- whether an equal entry stands at the slot; the first slot is 0
abbrev pub is_at : PoolEntry → List PoolEntry → ℕ → Bool
is_at e pool slot = option_map_or (is_same e) (slice_get pool slot) false

-- the slot of the first equal entry
unfoldable pub slot_of : PoolEntry → List PoolEntry → Option ℕ
slot_of e [] = None
slot_of e (x ∷ pool) = if is_same e x then Some zero else option_map suc (slot_of e pool)

-- the places that an entry takes: after a long the next one is unused (JVM Specification 4.4.5)
abbrev pub spread : PoolEntry → List PoolEntry
spread e = if is_wide e then e ∷ Unused ∷ [] else e ∷ []

-- the pool with the entry at its end, and its place; the first place is 1
abbrev pub added : PoolEntry → List PoolEntry → List PoolEntry × ℕ
added e pool = (pool ++ spread e, length pool + 1)

abbrev pub at_slot : PoolEntry → List PoolEntry → Option ℕ → List PoolEntry × ℕ
at_slot e pool None = added e pool
at_slot e pool (Some slot) = (pool, slot + 1)

-- the pool as it is and the place of the first equal entry, where it has one; else with the entry at its end
unfoldable pub with_entry : PoolEntry → List PoolEntry → List PoolEntry × ℕ
with_entry e pool = at_slot e pool (slot_of e pool)

abbrev pub HasShortTexts : List PoolEntry → Type 0
HasShortTexts pool = All (λ e. text_len e < 2 ^ 16) pool
