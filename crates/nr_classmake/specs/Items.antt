-- What a constant pool says, without places.
use Rattle.std.specs.Prelude.{ℕ, ◌+◌, ℤ, List, [], ◌∷◌, ◌++◌, Bool, false, not, ◌&&◌, filter, sum_by}
use Rattle.std.specs.List.{before_first, flat_map}
use Rattle.std.specs.Ordering.{int_eq}
use Rattle.std.specs.Str.{bytes_eq}
use Rattle.nr_prog.specs.declared.pool.PoolEntry.{PoolEntry}
use Rattle.nr_prog.specs.declared.pool.PoolEntry.TheVariants.{Utf8, Integer, Long, Class, FieldRef, MethodRef, InterfaceMethodRef, NameAndType}
use Rattle.nr_classmake.specs.Places.{spread}

-- An entry with what it names in place of indices (JVM Specification 4.4).
pub data Item : Type 0 where
  Text : List ℕ → Item  -- (4.4.7)
  IntNumber : ℤ → Item  -- (4.4.4)
  LongNumber : ℤ → Item  -- (4.4.5)
  ClassNamed : List ℕ → Item  -- its name (4.4.1)
  NameWithType : List ℕ → List ℕ → Item  -- a name and a descriptor (4.4.6)
  FieldOf : List ℕ → List ℕ → List ℕ → Item  -- its class, name and descriptor (4.4.2)
  MethodOf : List ℕ → List ℕ → List ℕ → Item
  InterfaceMethodOf : List ℕ → List ℕ → List ℕ → Item

-- whether two items are one
abbrev pub is_item : Item → Item → Bool
is_item (Text a) (Text b) = bytes_eq a b
is_item (IntNumber a) (IntNumber b) = int_eq a b
is_item (LongNumber a) (LongNumber b) = int_eq a b
is_item (ClassNamed a) (ClassNamed b) = bytes_eq a b
is_item (NameWithType a b) (NameWithType c d) = bytes_eq a c && bytes_eq b d
is_item (FieldOf a b c) (FieldOf d e f) = bytes_eq a d && (bytes_eq b e && bytes_eq c f)
is_item (MethodOf a b c) (MethodOf d e f) = bytes_eq a d && (bytes_eq b e && bytes_eq c f)
is_item (InterfaceMethodOf a b c) (InterfaceMethodOf d e f) = bytes_eq a d && (bytes_eq b e && bytes_eq c f)
is_item a b = false

-- ---- an item comes after those that it is made of, in their order (the project's own rule)

abbrev pub class_items : List ℕ → List Item
class_items name = Text name ∷ ClassNamed name ∷ []

abbrev pub member_items : List ℕ → List ℕ → List ℕ → List Item
member_items class name desc = class_items class ++ Text name ∷ Text desc ∷ NameWithType name desc ∷ []

abbrev pub with_parts : Item → List Item
with_parts (ClassNamed name) = class_items name
with_parts (NameWithType name desc) = Text name ∷ Text desc ∷ NameWithType name desc ∷ []
with_parts (FieldOf class name desc) = member_items class name desc ++ FieldOf class name desc ∷ []
with_parts (MethodOf class name desc) = member_items class name desc ++ MethodOf class name desc ∷ []
with_parts (InterfaceMethodOf class name desc) = member_items class name desc ++ InterfaceMethodOf class name desc ∷ []
with_parts item = item ∷ []

-- each item once, where it is first named (the project's own rule)
unfoldable pub once : List Item → List Item
once [] = []
once (x ∷ items) = x ∷ filter (λ y. not (is_item x y)) (once items)

-- ---- the pool of items, in their order

-- a long takes two places (4.4.5)
abbrev pub places_taken : Item → ℕ
places_taken (LongNumber n) = 2
places_taken item = 1

-- The place of an item: the first place is 1, and the items before it take theirs.
unfoldable pub place_of : Item → List Item → ℕ
place_of item items = sum_by places_taken (before_first (is_item item) items) + 1

-- the item's entry, whose indices are the places of what it names
unfoldable pub entry_in : List Item → Item → PoolEntry
entry_in items (Text text) = Utf8 text
entry_in items (IntNumber n) = Integer n
entry_in items (LongNumber n) = Long n
entry_in items (ClassNamed name) = Class (place_of (Text name) items)
entry_in items (NameWithType name desc) = NameAndType (place_of (Text name) items) (place_of (Text desc) items)
entry_in items (FieldOf class name desc) = FieldRef (place_of (ClassNamed class) items) (place_of (NameWithType name desc) items)
entry_in items (MethodOf class name desc) = MethodRef (place_of (ClassNamed class) items) (place_of (NameWithType name desc) items)
entry_in items (InterfaceMethodOf class name desc) = InterfaceMethodRef (place_of (ClassNamed class) items) (place_of (NameWithType name desc) items)

-- the entries of all items; after a long the next place is unused (4.4.5)
unfoldable pub pool_of : List Item → List PoolEntry
pool_of items = flat_map (λ item. spread (entry_in items item)) items
