-- The rules of linking on classes, each with its first fault, in the project's own order. P is the outline of the classes.
use Rattle.std.specs.Prelude.{ℕ, List, [], ◌∷◌, ◌++◌, length, take, Bool, true, false, not, ◌&&◌, ◌||◌, ◌==◌, nat_le, Option, None, is_some, Result, Ok, Err}
use Rattle.std.specs.List.{list_all, list_any, range_with_len}
use Rattle.std.specs.Option.{option_map_or, option_or, option_to_list}
use Rattle.std.specs.Str.{bytes_eq}
use Rattle.nr_base.specs.DescReading.{desc_of, method_of}
use Rattle.nr_base.specs.declared.desc.fault.DescFault.{DescFault}
use Rattle.nr_base.specs.declared.desc.types.Desc.{Desc}
use Rattle.nr_base.specs.declared.desc.types.DescBase.{DescBase}
use Rattle.nr_base.specs.declared.desc.types.DescBase.TheVariants as bases
use Rattle.nr_base.specs.declared.desc.types.MethodDesc.{MethodDesc}
use Rattle.nr_prog.specs.declared.body.loaded.Loaded.{Loaded}
use Rattle.nr_prog.specs.declared.parts.ClassParts.{ClassParts}
use Rattle.nr_prog.specs.declared.pool.PoolEntry.{PoolEntry}
use Rattle.nr_linked.specs.declared.program.tables.ClassInfo.{ClassInfo}
use Rattle.nr_linked.specs.declared.program.tables.MethodInfo.{MethodInfo}
use Rattle.nr_linked.specs.declared.program.tables.ProgramTables.{ProgramTables}
use Rattle.nr_prog.specs.BodyNames.{class_text_at}
use Rattle.nr_prog.specs.Pool.{text_at}
use Rattle.nr_linked.specs.Linked.{is_super_in}
use Rattle.nr_linked.specs.Programs.{class_named, is_interface, method_at, methods_of}
use Rattle.nr_linked.specs.Selection.{is_selectable}
use Rattle.nr_links.specs.Rules.{has_interface_members, is_class_initialiser, is_final, is_final_class, is_reserved}
use Rattle.nr_linkrules.specs.declared.fault.LinkFault.{LinkFault}
use Rattle.nr_linkrules.specs.declared.fault.LinkFault.TheVariants as faults
use Rattle.nr_linked.specs.declared.program.method_name.MethodName.{MethodName}
use Rattle.nr_linkrules.specs.Faults.{first_of, first_numbered, unless}
use Rattle.nr_linkrules.specs.Outline.{own_name, own_names, some_text}
use Rattle.nr_linkrules.specs.Reaches.{reaches, steps_up}

-- ---- the list of classes

abbrev pub limit_fault : List Loaded → Option LinkFault
limit_fault classes = unless (nat_le (length classes) 1024) (faults.LimitClasses (length classes))

abbrev pub reserved_fault : Loaded → Option LinkFault
reserved_fault l = unless (not (is_reserved (own_name l.«class»))) (faults.ReservedName (own_name l.«class»))

-- an earlier class has this name
abbrev pub is_earlier : List (List ℕ) → ℕ → List ℕ → Bool
is_earlier names c name = list_any (bytes_eq name) (take c names)

abbrev pub doubled_fault : List (List ℕ) → ℕ → Loaded → Option LinkFault
doubled_fault names c l =
    unless (not (is_earlier names c (own_name l.«class»))) (faults.DoubledClass (own_name l.«class»))

-- the rules on the list itself
unfoldable pub list_fault : List Loaded → Option LinkFault
list_fault classes =
    option_or (limit_fault classes)
    (option_or (first_of reserved_fault classes)
    (first_numbered (doubled_fault (own_names classes)) 0 classes))

-- ---- what a class names as its superclass and superinterfaces

abbrev pub is_known : ProgramTables → List ℕ → Bool
is_known P name = is_some (class_named P name)

unfoldable pub known_fault : ProgramTables → List ℕ → Option LinkFault
known_fault P name = unless (is_known P name) (faults.NoClass name)

-- the class that the index names isn't known
abbrev pub named_fault : ProgramTables → List PoolEntry → ℕ → Option LinkFault
named_fault P pool index = known_fault P (some_text (class_text_at pool index))

unfoldable pub named_above_fault : ProgramTables → ClassParts → Option LinkFault
named_above_fault P parts =
    option_or (named_fault P parts.pool parts.super_class) (first_of (named_fault P parts.pool) parts.interfaces)

-- the superclass is a class, and that of an interface is Object; the superinterfaces are interfaces
abbrev pub has_kinds_above : ProgramTables → ℕ → ClassInfo → Bool
has_kinds_above P c e =
    option_map_or (is_super_in P c) e.super_class true && list_all (is_interface P) e.interfaces

abbrev pub has_final_above : ProgramTables → ClassInfo → Bool
has_final_above P e = option_map_or (is_final_class P) e.super_class false

unfoldable pub above_fault : ProgramTables → ℕ → ClassInfo → ClassParts → Option LinkFault
above_fault P c e parts =
    option_or (named_above_fault P parts)
    (option_or (unless (has_kinds_above P c e) (faults.SuperKind e.name))
    (unless (not (has_final_above P e)) (faults.FinalSuper e.name)))

-- ---- cycles

-- something directly above the class has the class above it
abbrev pub is_above_itself : ProgramTables → ℕ → Bool
is_above_itself P c = list_any (λ s. reaches P s c) (steps_up P c)

unfoldable pub cycle_fault : ProgramTables → ℕ → ClassInfo → ClassParts → Option LinkFault
cycle_fault P c e parts = unless (not (is_above_itself P c)) (faults.Cycle e.name)

-- ---- members

abbrev pub has_no_initialiser : ClassParts → Bool
has_no_initialiser parts = list_all (λ m. not (is_class_initialiser parts.pool m)) parts.methods

abbrev pub method_name : MethodInfo → MethodName
method_name i = record { name = i.name; desc = i.desc }

-- the method `over` is final, neither static nor private, and has the name and the descriptor of method i
abbrev pub is_final_as : MethodInfo → MethodInfo → Bool
is_final_as i over = is_selectable i.name i.desc over && is_final over.flags

-- such a method is one of class d
abbrev pub has_final : ProgramTables → MethodInfo → ℕ → Bool
has_final P i d =
    list_any (λ m. option_map_or (is_final_as i) (method_at P m) false) (methods_of P d)

-- class d stands above the method's class, and has such a method
abbrev pub has_final_over : ProgramTables → MethodInfo → ℕ → Bool
has_final_over P i d = not (d == i.«class») && (reaches P i.«class» d && has_final P i d)

-- the method is neither static nor private, and hides a final one of any class or interface above
abbrev pub hides_final : ProgramTables → MethodInfo → Bool
hides_final P i =
    is_selectable i.name i.desc i && list_any (has_final_over P i) (range_with_len 0 (length P.classes))

unfoldable pub override_fault : ProgramTables → List ℕ → ℕ → Option LinkFault
override_fault P name m =
    option_map_or (λ i. unless (not (hides_final P i)) (faults.FinalOverride name (method_name i))) (method_at P m) None

-- ---- descriptors

-- the class in the descriptor, also below dimensions, isn't known
abbrev pub base_fault : ProgramTables → DescBase → Option LinkFault
base_fault P (bases.Object name) = known_fault P name
base_fault P base = None

abbrev pub desc_fault : ProgramTables → Desc → Option LinkFault
desc_fault P d = base_fault P d.base

-- the types of a method's descriptor, parameters first; what doesn't read never comes in a class file
abbrev pub types_in : Result MethodDesc DescFault → List Desc
types_in (Ok m) = m.params ++ option_to_list m.result
types_in (Err e) = []

-- the type of a field's descriptor
abbrev pub type_in : Result Desc DescFault → List Desc
type_in (Ok d) = d ∷ []
type_in (Err e) = []

-- of the descriptor at the index
unfoldable pub field_fault : ProgramTables → List PoolEntry → ℕ → Option LinkFault
field_fault P pool desc = first_of (desc_fault P) (type_in (desc_of (some_text (text_at pool desc))))

unfoldable pub method_fault : ProgramTables → List PoolEntry → ℕ → Option LinkFault
method_fault P pool desc = first_of (desc_fault P) (types_in (method_of (some_text (text_at pool desc))))

-- the rules on the members of a class: methods by their places, then the classes that descriptors name, of fields first
unfoldable pub members_fault : ProgramTables → ℕ → ClassInfo → ClassParts → Option LinkFault
members_fault P c e parts =
    option_or (unless (has_no_initialiser parts) (faults.Initialiser e.name))
    (option_or (unless (not (is_interface P c) || has_interface_members parts) (faults.InterfaceMember e.name))
    (option_or (first_of (override_fault P e.name) (methods_of P c))
    (option_or (first_of (λ f. field_fault P parts.pool f.desc) parts.fields)
    (first_of (λ m. method_fault P parts.pool m.desc) parts.methods))))
