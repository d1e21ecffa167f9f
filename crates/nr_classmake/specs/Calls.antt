-- The class that a list of calls makes (JVM Specification 4.1, 4.4 to 4.7).
use Rattle.std.specs.Prelude.{ℕ, ℤ, List, [], ◌∷◌, ◌++◌, Option, Some, None, Bool, codes, if◌then◌else◌, ◌==◌}
use Rattle.std.specs.List.{flat_map, filter_map}
use Rattle.nr_prog.specs.declared.member.Code.{Code}
use Rattle.nr_prog.specs.declared.member.Field.{Field}
use Rattle.nr_prog.specs.declared.member.Method.{Method}
use Rattle.nr_prog.specs.declared.parts.ClassParts.{ClassParts}
use Rattle.nr_classmake.specs.Making.{is_long_desc}
use Rattle.nr_classmake.specs.Items.{Item, Text, IntNumber, LongNumber, ClassNamed, FieldOf, MethodOf, InterfaceMethodOf, class_items, with_parts, once, place_of, pool_of}

pub data Call : Type 0 where
  Place : Item → Call  -- asks for the place of the item
  AddInterface : List ℕ → Call  -- its name (4.1)
  AddField : ℕ → List ℕ → List ℕ → Option ℤ → Call  -- its flags, name, descriptor and constant value (4.5)
  AddMethod : ℕ → List ℕ → List ℕ → Option Code → Call  -- its flags, name, descriptor and code (4.6)

-- ---- the items that a call names, in their order (the project's own rule)

-- a constant value (4.7.2): a long for a field of descriptor J, and else an int
abbrev pub value_item : Bool → ℤ → Item
value_item long n = if long then LongNumber n else IntNumber n

-- the name of its attribute, and the value
abbrev pub constant_items : Bool → Option ℤ → List Item
constant_items long None = []
constant_items long (Some n) = Text (codes "ConstantValue") ∷ value_item long n ∷ []

-- the names of the attributes that code needs (4.7.3, 4.7.4)
abbrev pub maps_items : Option (List ℕ) → List Item
maps_items None = []
maps_items (Some maps) = Text (codes "StackMapTable") ∷ []

abbrev pub code_items : Option Code → List Item
code_items None = []
code_items (Some code) = Text (codes "Code") ∷ maps_items code.maps

abbrev pub named : Call → List Item
named (Place item) = with_parts item
named (AddInterface name) = class_items name
named (AddField flags name desc value) = Text name ∷ Text desc ∷ constant_items (is_long_desc desc) value
named (AddMethod flags name desc code) = Text name ∷ Text desc ∷ code_items code

-- all items of a class: its own and its superclass's, and those that the calls name
abbrev pub items_of : List ℕ → List ℕ → List Call → List Item
items_of name super calls = once (class_items name ++ class_items super ++ flat_map named calls)

-- ---- members, with the places of what they name

abbrev pub interface_in : List Item → Call → Option ℕ
interface_in items (AddInterface name) = Some (place_of (ClassNamed name) items)
interface_in items call = None

-- 0 for no constant value
abbrev pub constant_in : List Item → Bool → Option ℤ → ℕ
constant_in items long None = 0
constant_in items long (Some n) = place_of (value_item long n) items

abbrev pub field_in : List Item → Call → Option Field
field_in items (AddField flags name desc value) =
    Some (record { flags = flags; name = place_of (Text name) items; desc = place_of (Text desc) items; constant = constant_in items (is_long_desc desc) value })
field_in items call = None

abbrev pub method_in : List Item → Call → Option Method
method_in items (AddMethod flags name desc code) =
    Some (record { flags = flags; name = place_of (Text name) items; desc = place_of (Text desc) items; code = code })
method_in items call = None

-- The class of this name, superclass and flags, and of these calls: its pool has all items, and its interfaces, fields
-- and methods are those of the calls, in their order.
abbrev pub class_of_calls : List ℕ → List ℕ → ℕ → List Call → ClassParts
class_of_calls name super flags calls =
    let items = items_of name super calls in record {
      pool = pool_of items;
      flags = flags;
      this_class = place_of (ClassNamed name) items;
      super_class = place_of (ClassNamed super) items;
      interfaces = filter_map (interface_in items) calls;
      fields = filter_map (field_in items) calls;
      methods = filter_map (method_in items) calls;
    }

-- a reference of this tag (4.4.2): 9 for a field, 10 for a method of a class, and else one of an interface
abbrev pub ref_item : ℕ → List ℕ → List ℕ → List ℕ → Item
ref_item tag class name desc = if tag == 9 then FieldOf class name desc else if tag == 10 then MethodOf class name desc else InterfaceMethodOf class name desc
