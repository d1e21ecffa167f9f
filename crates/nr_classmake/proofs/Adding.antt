-- What the steps of calls make of a pool of items.
use Rattle.std.proofs.Common.{◌≡◌, ℕ, Bool, true, false, cond, List, [], ◌∷◌, ◌++◌, Option, Some, None, refl, sym, ap, ◌∙◌}
use Rattle.std.specs.Prelude.{ℤ, codes}
use Rattle.nr_prog.specs.declared.pool.PoolEntry.TheVariants.{Utf8, Class, NameAndType}
use Rattle.nr_prog.specs.declared.member.Code.{Code}
use Rattle.nr_prog.specs.declared.member.Field.{Field}
use Rattle.nr_classmake.specs.Places.{with_entry}
use Rattle.nr_classmake.specs.Making.{and_then, nothing, class_ref, names, name_and_type, ref_entry, member_ref, number_entry, number, constant, is_long_desc, field, maps_name, code_names, body_names, method}
use Rattle.nr_classmake.specs.Items.{Item, Text, IntNumber, LongNumber, ClassNamed, NameWithType, FieldOf, MethodOf, InterfaceMethodOf, class_items, member_items, with_parts, place_of, entry_in, pool_of}
use Rattle.nr_classmake.specs.Calls.{Call, Place, AddInterface, AddField, AddMethod, value_item, constant_items, maps_items, code_items, named, constant_in}
use Rattle.nr_classmake.specs.Classes.{placed}
use Rattle.nr_classmake.proofs.Items.{has, has_front, has_end}
use Rattle.nr_classmake.proofs.Once.{add, adds, adds-append}
use Rattle.nr_classmake.proofs.Pools.{HasParts, IsClosed, closed_add, place_front, placed_entry}
use Rattle.nr_classmake.proofs.Steps.{goes_ok}

-- ---- items that are added stay, at their places

added_if : (b : Bool) (x : Item) (items : List Item) → has x items ≡ b → has x (cond b items (items ++ x ∷ [])) ≡ true
added_if true x items h = h
added_if false x items h = has_end x items

pub has_added : (x : Item) (items : List Item) → has x (add x items) ≡ true
has_added x items = added_if (has x items) x items refl

pub has_adds : (x : Item) (items raw : List Item) → has x items ≡ true → has x (adds items raw) ≡ true
has_adds x items raw h = ap (has x) (adds-append items raw) ∙ has_front x items _ h

pub place_adds : (x : Item) (items raw : List Item) → has x items ≡ true → place_of x (adds items raw) ≡ place_of x items
place_adds x items raw h = ap (place_of x) (adds-append items raw) ∙ place_front x items _ h

-- ---- items of which each comes after what it names

abbrev pub Follows : List Item → List Item → Type 0
Follows items [] = Unit {0}
Follows items (x ∷ raw) = HasParts items x × Follows (add x items) raw

pub closed_adds : (items raw : List Item) → IsClosed items → Follows items raw → IsClosed (adds items raw)
closed_adds items [] c f = c
closed_adds items (x ∷ raw) c f = closed_adds (add x items) raw (closed_add items x c f.0) f.1

-- ---- a class, and a member's name and descriptor

pub class_follows : (items : List Item) (name : List ℕ) → Follows items (class_items name)
class_follows items name = (tt, (has_added (Text name) items, tt))

pub class_laid : (items : List Item) (name : List ℕ) → IsClosed items
    → class_ref name (pool_of items) ≡ (pool_of (adds items (class_items name)), place_of (ClassNamed name) (adds items (class_items name)))
unfolding class_ref entry_in
class_laid items name c =
    let one = add (Text name) items in
    goes_ok (with_entry (Utf8 name)) (λ n. with_entry (Class n)) (pool_of items) (pool_of one) (place_of (Text name) one) (placed_entry items (Text name) c tt)
    ∙ placed_entry one (ClassNamed name) (closed_add items (Text name) c tt) (has_added (Text name) items)

name_items : List ℕ → List ℕ → List Item
name_items name desc = Text name ∷ Text desc ∷ []

two_closed : (items : List Item) (name desc : List ℕ) → IsClosed items → IsClosed (add (Text desc) (add (Text name) items))
two_closed items name desc c = closed_add (add (Text name) items) (Text desc) (closed_add items (Text name) c tt) tt

pub two_have : (items : List Item) (name desc : List ℕ) → (has (Text name) (add (Text desc) (add (Text name) items)) ≡ true) × (has (Text desc) (add (Text desc) (add (Text name) items)) ≡ true)
two_have items name desc =
    (has_adds (Text name) (add (Text name) items) (Text desc ∷ []) (has_added (Text name) items), has_added (Text desc) (add (Text name) items))

names_laid : (items : List Item) (name desc : List ℕ) → IsClosed items
    → names name desc (pool_of items) ≡ (pool_of (add (Text desc) (add (Text name) items)), (place_of (Text name) (add (Text desc) (add (Text name) items)), place_of (Text desc) (add (Text desc) (add (Text name) items))))
unfolding names entry_in
names_laid items name desc c =
    let one = add (Text name) items in
    let two = add (Text desc) one in
    goes_ok (with_entry (Utf8 name)) (λ n. and_then (with_entry (Utf8 desc)) (λ d. nothing (n, d))) (pool_of items) (pool_of one) (place_of (Text name) one) (placed_entry items (Text name) c tt)
    ∙ goes_ok (with_entry (Utf8 desc)) (λ d. nothing (place_of (Text name) one, d)) (pool_of one) (pool_of two) (place_of (Text desc) two) (placed_entry one (Text desc) (closed_add items (Text name) c tt) tt)
    ∙ ap (λ n. (pool_of two, (n, place_of (Text desc) two))) (sym (place_adds (Text name) one (Text desc ∷ []) (has_added (Text name) items)))

type_laid : (items : List Item) (name desc : List ℕ) → IsClosed items
    → name_and_type name desc (pool_of items) ≡ (pool_of (adds items (with_parts (NameWithType name desc))), place_of (NameWithType name desc) (adds items (with_parts (NameWithType name desc))))
unfolding name_and_type entry_in
type_laid items name desc c =
    let two = add (Text desc) (add (Text name) items) in
    goes_ok (names name desc) (λ m. with_entry (NameAndType m.0 m.1)) (pool_of items) (pool_of two) (place_of (Text name) two, place_of (Text desc) two) (names_laid items name desc c)
    ∙ placed_entry two (NameWithType name desc) (two_closed items name desc c) (two_have items name desc)

type_follows : (items : List Item) (name desc : List ℕ) → Follows items (with_parts (NameWithType name desc))
type_follows items name desc = (tt, (tt, (two_have items name desc, tt)))

-- ---- a reference

-- an item of a class, a name and a descriptor, whose entry is that of the tag
record IsReference (tag : ℕ) (class name desc : List ℕ) (item : Item) : Type 0 where
  entry : (items : List Item) → ref_entry tag (place_of (ClassNamed class) items) (place_of (NameWithType name desc) items) ≡ entry_in items item
  parts : (items : List Item) → has (ClassNamed class) items ≡ true → has (NameWithType name desc) items ≡ true → HasParts items item

five_have : (items : List Item) (class name desc : List ℕ) → (has (ClassNamed class) (adds items (member_items class name desc)) ≡ true) × (has (NameWithType name desc) (adds items (member_items class name desc)) ≡ true)
five_have items class name desc =
    let two = adds items (class_items class) in
    (has_adds (ClassNamed class) two (with_parts (NameWithType name desc)) (has_added (ClassNamed class) (add (Text class) items)), has_added (NameWithType name desc) (add (Text desc) (add (Text name) two)))

ref_follows : (tag : ℕ) (items : List Item) (class name desc : List ℕ) (item : Item) → IsReference tag class name desc item → Follows items (member_items class name desc ++ item ∷ [])
ref_follows tag items class name desc item is =
    let t = type_follows (adds items (class_items class)) name desc in
    let h = five_have items class name desc in
    (tt, (has_added (Text class) items, (tt, (tt, (t.1.1.0, (is.parts (adds items (member_items class name desc)) h.0 h.1, tt))))))

ref_laid : (tag : ℕ) (items : List Item) (class name desc : List ℕ) (item : Item) → IsReference tag class name desc item → IsClosed items
    → member_ref tag class name desc (pool_of items) ≡ (pool_of (adds items (member_items class name desc ++ item ∷ [])), place_of item (adds items (member_items class name desc ++ item ∷ [])))
unfolding member_ref
ref_laid tag items class name desc item is c =
    let two = adds items (class_items class) in
    let five = adds items (member_items class name desc) in
    let closed_two = closed_adds items (class_items class) c (class_follows items class) in
    let closed_five = closed_adds two (with_parts (NameWithType name desc)) closed_two (type_follows two name desc) in
    let h = five_have items class name desc in
    goes_ok (class_ref class) (λ k. and_then (name_and_type name desc) (λ m. with_entry (ref_entry tag k m))) (pool_of items) (pool_of two) (place_of (ClassNamed class) two) (class_laid items class c)
    ∙ goes_ok (name_and_type name desc) (λ m. with_entry (ref_entry tag (place_of (ClassNamed class) two) m)) (pool_of two) (pool_of five) (place_of (NameWithType name desc) five) (type_laid two name desc closed_two)
    ∙ ap (λ k. with_entry (ref_entry tag k (place_of (NameWithType name desc) five)) (pool_of five)) (sym (place_adds (ClassNamed class) two (with_parts (NameWithType name desc)) (has_added (ClassNamed class) (add (Text class) items))))
    ∙ ap (λ e. with_entry e (pool_of five)) (is.entry five)
    ∙ placed_entry five item closed_five (is.parts five h.0 h.1)

is_field : (class name desc : List ℕ) → IsReference 9 class name desc (FieldOf class name desc)
unfolding entry_in
is_field class name desc = record { entry = λ items. refl; parts = λ items p q. (p, q) }

is_method : (class name desc : List ℕ) → IsReference 10 class name desc (MethodOf class name desc)
unfolding entry_in
is_method class name desc = record { entry = λ items. refl; parts = λ items p q. (p, q) }

is_interface_method : (class name desc : List ℕ) → IsReference 11 class name desc (InterfaceMethodOf class name desc)
unfolding entry_in
is_interface_method class name desc = record { entry = λ items. refl; parts = λ items p q. (p, q) }

-- ---- an item

pub item_follows : (items : List Item) (item : Item) → Follows items (with_parts item)
item_follows items (ClassNamed name) = class_follows items name
item_follows items (NameWithType name desc) = type_follows items name desc
item_follows items (FieldOf class name desc) = ref_follows 9 items class name desc _ (is_field class name desc)
item_follows items (MethodOf class name desc) = ref_follows 10 items class name desc _ (is_method class name desc)
item_follows items (InterfaceMethodOf class name desc) = ref_follows 11 items class name desc _ (is_interface_method class name desc)
item_follows items item = (tt, tt)

pub item_laid : (items : List Item) (item : Item) → IsClosed items
    → placed item (pool_of items) ≡ (pool_of (adds items (with_parts item)), place_of item (adds items (with_parts item)))
unfolding entry_in
item_laid items (Text text) c = placed_entry items (Text text) c tt
item_laid items (IntNumber n) c = placed_entry items (IntNumber n) c tt
item_laid items (LongNumber n) c = placed_entry items (LongNumber n) c tt
item_laid items (ClassNamed name) c = class_laid items name c
item_laid items (NameWithType name desc) c = type_laid items name desc c
item_laid items (FieldOf class name desc) c = ref_laid 9 items class name desc _ (is_field class name desc) c
item_laid items (MethodOf class name desc) c = ref_laid 10 items class name desc _ (is_method class name desc) c
item_laid items (InterfaceMethodOf class name desc) c = ref_laid 11 items class name desc _ (is_interface_method class name desc) c

pub item_has : (items : List Item) (item : Item) → has item (adds items (with_parts item)) ≡ true
item_has items (Text text) = has_added (Text text) items
item_has items (IntNumber n) = has_added (IntNumber n) items
item_has items (LongNumber n) = has_added (LongNumber n) items
item_has items (ClassNamed name) = has_added (ClassNamed name) (add (Text name) items)
item_has items (NameWithType name desc) = has_added (NameWithType name desc) (add (Text desc) (add (Text name) items))
item_has items (FieldOf class name desc) = has_added (FieldOf class name desc) (adds items (member_items class name desc))
item_has items (MethodOf class name desc) = has_added (MethodOf class name desc) (adds items (member_items class name desc))
item_has items (InterfaceMethodOf class name desc) = has_added (InterfaceMethodOf class name desc) (adds items (member_items class name desc))

-- ---- a constant value

value_entry : (long : Bool) (n : ℤ) (items : List Item) → number_entry long n ≡ entry_in items (value_item long n)
unfolding entry_in
value_entry true n items = refl
value_entry false n items = refl

value_parts : (long : Bool) (n : ℤ) (items : List Item) → HasParts items (value_item long n)
value_parts true n items = tt
value_parts false n items = tt

constant_follows : (items : List Item) (long : Bool) (value : Option ℤ) → Follows items (constant_items long value)
constant_follows items long None = tt
constant_follows items long (Some n) = (tt, (value_parts long n (add (Text (codes "ConstantValue")) items), tt))

constant_laid : (items : List Item) (long : Bool) (value : Option ℤ) → IsClosed items
    → constant long value (pool_of items) ≡ (pool_of (adds items (constant_items long value)), constant_in (adds items (constant_items long value)) long value)
unfolding constant number entry_in
constant_laid items long None c = refl
constant_laid items long (Some n) c =
    let attribute = Text (codes "ConstantValue") in
    let one = add attribute items in
    goes_ok (with_entry (Utf8 (codes "ConstantValue"))) (λ _. with_entry (number_entry long n)) (pool_of items) (pool_of one) (place_of attribute one) (placed_entry items attribute c tt)
    ∙ ap (λ e. with_entry e (pool_of one)) (value_entry long n one)
    ∙ placed_entry one (value_item long n) (closed_add items attribute c tt) (value_parts long n one)

-- ---- a field

abbrev pub field_of : ℕ → List ℕ → List ℕ → Option ℤ → List Item → Field
field_of flags name desc value items =
    record { flags = flags; name = place_of (Text name) items; desc = place_of (Text desc) items; constant = constant_in items (is_long_desc desc) value }

pub field_laid : (items : List Item) (flags : ℕ) (name desc : List ℕ) (value : Option ℤ) → IsClosed items
    → field flags name desc value (pool_of items)
    ≡ (pool_of (adds items (named (AddField flags name desc value))), field_of flags name desc value (adds items (named (AddField flags name desc value))))
unfolding field
field_laid items flags name desc value c =
    let long = is_long_desc desc in
    let two = add (Text desc) (add (Text name) items) in
    let all = adds two (constant_items long value) in
    let p = sym (place_adds (Text name) two (constant_items long value) (two_have items name desc).0) in
    let q = sym (place_adds (Text desc) two (constant_items long value) (two_have items name desc).1) in
    goes_ok (names name desc) (λ m. and_then (constant long value) (λ k. nothing (record { flags = flags; name = m.0; desc = m.1; constant = k }))) (pool_of items) (pool_of two) (place_of (Text name) two, place_of (Text desc) two) (names_laid items name desc c)
    ∙ goes_ok (constant long value) (λ k. nothing (record { flags = flags; name = place_of (Text name) two; desc = place_of (Text desc) two; constant = k })) (pool_of two) (pool_of all) (constant_in all long value) (constant_laid two long value (two_closed items name desc c))
    ∙ (λ i. (pool_of all, record { flags = flags; name = p i; desc = q i; constant = constant_in all long value }))

-- ---- a method

maps_follow : (items : List Item) (maps : Option (List ℕ)) → Follows items (maps_items maps)
maps_follow items None = tt
maps_follow items (Some maps) = (tt, tt)

maps_laid : (items : List Item) (maps : Option (List ℕ)) → IsClosed items → (maps_name maps (pool_of items)).0 ≡ pool_of (adds items (maps_items maps))
unfolding maps_name entry_in
maps_laid items None c = refl
maps_laid items (Some maps) c = ap (λ m. m.0) (placed_entry items (Text (codes "StackMapTable")) c tt)

code_follows : (items : List Item) (code : Option Code) → Follows items (code_items code)
code_follows items None = tt
code_follows items (Some code) = (tt, maps_follow (add (Text (codes "Code")) items) code.maps)

code_laid : (items : List Item) (code : Option Code) → IsClosed items → (body_names code (pool_of items)).0 ≡ pool_of (adds items (code_items code))
unfolding body_names code_names entry_in
code_laid items None c = refl
code_laid items (Some code) c =
    let attribute = Text (codes "Code") in
    let one = add attribute items in
    ap (λ m. m.0) (goes_ok (with_entry (Utf8 (codes "Code"))) (λ _. maps_name code.maps) (pool_of items) (pool_of one) (place_of attribute one) (placed_entry items attribute c tt))
    ∙ maps_laid one code.maps (closed_add items attribute c tt)

pub method_laid : (items : List Item) (flags : ℕ) (name desc : List ℕ) (code : Option Code) → IsClosed items
    → method name desc code (pool_of items)
    ≡ (pool_of (adds items (named (AddMethod flags name desc code))), (place_of (Text name) (adds items (named (AddMethod flags name desc code))), place_of (Text desc) (adds items (named (AddMethod flags name desc code)))))
unfolding method
method_laid items flags name desc code c =
    let two = add (Text desc) (add (Text name) items) in
    let all = adds two (code_items code) in
    let p = sym (place_adds (Text name) two (code_items code) (two_have items name desc).0) in
    let q = sym (place_adds (Text desc) two (code_items code) (two_have items name desc).1) in
    let pool = code_laid two code (two_closed items name desc c) in
    goes_ok (names name desc) (λ m. and_then (body_names code) (λ _. nothing m)) (pool_of items) (pool_of two) (place_of (Text name) two, place_of (Text desc) two) (names_laid items name desc c)
    ∙ (λ i. (pool i, (p i, q i)))

-- ---- a call

pub call_follows : (items : List Item) (call : Call) → Follows items (named call)
call_follows items (Place item) = item_follows items item
call_follows items (AddInterface name) = class_follows items name
call_follows items (AddField flags name desc value) = (tt, (tt, constant_follows (add (Text desc) (add (Text name) items)) (is_long_desc desc) value))
call_follows items (AddMethod flags name desc code) = (tt, (tt, code_follows (add (Text desc) (add (Text name) items)) code))
