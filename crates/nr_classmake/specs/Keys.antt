-- What entries are looked up by.
use Rattle.std.specs.Prelude.{◌≡◌, ℕ, ℤ, pos, List, [], Some, Bool, true, false}
use Rattle.std.specs.declared.cmp.Ordering.{Ordering}
use Rattle.std.specs.Ordering.{ordering_then, nat_cmp, int_cmp}
use Rattle.std.specs.Cmp.Lexicographic.{slice_cmp}
use Rattle.std.specs.BTreeMap.{BTreeMap, get}
use Rattle.nr_prog.specs.declared.pool.PoolEntry.{PoolEntry}
use Rattle.nr_prog.specs.declared.pool.PoolEntry.TheVariants.{Utf8, Integer, Long, Class, FieldRef, MethodRef, InterfaceMethodRef, NameAndType}
use Rattle.nr_classmake.specs.Places.{slot_of}

abbrev pub Key : Type 0
Key = ℕ × ℤ × ℕ × ℕ × List ℕ

-- whether entries of this kind stand in the index
abbrev pub is_kept : PoolEntry → Bool
is_kept (Utf8 text) = true
is_kept (Integer n) = true
is_kept (Long n) = true
is_kept (Class name) = true
is_kept (FieldRef class member) = true
is_kept (MethodRef class member) = true
is_kept (InterfaceMethodRef class member) = true
is_kept (NameAndType name desc) = true
is_kept e = false

abbrev pub key_in : PoolEntry → Key
key_in (Utf8 text) = (1, pos 0, 0, 0, text)
key_in (Integer n) = (3, n, 0, 0, [])
key_in (Long n) = (5, n, 0, 0, [])
key_in (Class name) = (7, pos 0, name, 0, [])
key_in (FieldRef class member) = (9, pos 0, class, member, [])
key_in (MethodRef class member) = (10, pos 0, class, member, [])
key_in (InterfaceMethodRef class member) = (11, pos 0, class, member, [])
key_in (NameAndType name desc) = (12, pos 0, name, desc, [])
key_in e = (0, pos 0, 0, 0, [])

-- the order of the index
abbrev pub order : Key → Key → Ordering
order a b =
    ordering_then (ordering_then (ordering_then (ordering_then (nat_cmp a.0 b.0) (int_cmp a.1 b.1)) (nat_cmp a.2 b.2)) (nat_cmp a.3 b.3)) (slice_cmp nat_cmp a.4 b.4)

-- the index has the first slot of each entry of the pool
pub record IsIndexed (index : BTreeMap Key ℕ) (pool : List PoolEntry) : Type 0 where
  pub slots : (e : PoolEntry) (slot : ℕ) → is_kept e ≡ true → slot_of e pool ≡ Some slot → get order index (key_in e) ≡ Some slot
