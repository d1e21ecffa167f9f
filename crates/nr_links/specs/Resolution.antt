-- To which field and to which method a reference resolves: JVM Specification 5.4.3.2 to 5.4.3.4.
use Rattle.std.specs.Prelude.{ℕ, zero, suc, List, [], ◌∷◌, ◌++◌, length, Bool, false, ◌&&◌, ◌==◌, Option, Some, find, codes, if◌then◌else◌}
use Rattle.std.specs.List.{flat_map, position}
use Rattle.std.specs.Str.{bytes_eq}
use Rattle.std.specs.Option.{option_and_then, option_map_or, option_to_list}
use Rattle.nr_prog.specs.declared.parts.ClassParts.{ClassParts}
use Rattle.nr_linked.specs.declared.program.built_in.BuiltIn.TheVariants.{Object}
use Rattle.nr_linked.specs.declared.program.kind.Kind.{Kind}
use Rattle.nr_linked.specs.declared.program.tables.ProgramTables.{ProgramTables}
use Rattle.nr_linked.specs.declared.program.tables.SlotInfo.{SlotInfo}
use Rattle.nr_prog.specs.Members.{is_in}
use Rattle.nr_linked.specs.BuiltIns.{built_in}
use Rattle.nr_linked.specs.Kinds.{class_in, is_array}
use Rattle.nr_linked.specs.Programs.{class_at, is_interface, method_at, methods_of, super_of, superclasses}
use Rattle.nr_linked.specs.Selection.{is_called}
use Rattle.nr_linked.specs.Slots.{slots_of}

-- the class whose members a class or an array has: an array has those of java/lang/Object
abbrev pub class_with_members : ProgramTables → Kind → Option ℕ
class_with_members P k = if is_array k then Some (built_in P Object) else class_in k.base

abbrev pub interfaces_of : ProgramTables → ℕ → List ℕ
interfaces_of P c = option_map_or (λ e. e.interfaces) (class_at P c) []

-- ---- fields (5.4.3.2)

-- where a field is looked for, at most n steps up: in the class, then in its direct superinterfaces in the same way, then
-- in its superclass in the same way
abbrev pub field_classes : ProgramTables → ℕ → ℕ → List ℕ
field_classes P zero c = []
field_classes P (suc n) c = c ∷ flat_map (field_classes P n) (interfaces_of P c ++ option_to_list (super_of P c))

-- the class file declares a field of this name and descriptor, static or not
abbrev pub has_field : List ℕ → List ℕ → ClassParts → Bool
has_field name desc parts = is_in (λ f. f.name) (λ f. f.desc) parts.pool parts.fields name desc

-- so does the class; a built-in one has no field
abbrev pub declares_field : ProgramTables → List ℕ → List ℕ → ℕ → Bool
declares_field P name desc c = option_map_or (λ e. option_map_or (has_field name desc) e.read false) (class_at P c) false

-- the class that declares the field to which a reference to class c resolves
abbrev pub field_class : ProgramTables → ℕ → List ℕ → List ℕ → Option ℕ
field_class P c name desc = find (declares_field P name desc) (field_classes P (length P.classes) c)

abbrev pub is_slot_of : ℕ → List ℕ → List ℕ → SlotInfo → Bool
is_slot_of d name desc s = s.declared_in == d && (bytes_eq s.name name && bytes_eq s.desc desc)

-- the slot, in objects of class c, of this field of class d; a static field has none
abbrev pub slot_of_field : ProgramTables → ℕ → List ℕ → List ℕ → ℕ → Option ℕ
slot_of_field P c name desc d = position (is_slot_of d name desc) (slots_of P c)

-- the slot of the field to which a reference to class c resolves; none where there is no such field, or it is static
abbrev pub resolved_slot : ProgramTables → ℕ → List ℕ → List ℕ → Option ℕ
resolved_slot P c name desc = option_and_then (slot_of_field P c name desc) (field_class P c name desc)

-- ---- methods (5.4.3.3, 5.4.3.4)

-- the interface, then its direct superinterfaces in the same way; at most n steps up
abbrev pub interface_and_above : ProgramTables → ℕ → ℕ → List ℕ
interface_and_above P zero c = []
interface_and_above P (suc n) c = c ∷ flat_map (interface_and_above P n) (interfaces_of P c)

-- the superinterfaces of a class: those of the class, then those of its superclass, and so on
abbrev pub superinterfaces : ProgramTables → ℕ → List ℕ
superinterfaces P c = flat_map (λ d. flat_map (interface_and_above P (length P.classes)) (interfaces_of P d)) (superclasses P c)

-- Where a method is looked for: of an interface, in it and its superinterfaces; of a class, in it and its superclasses, then
-- in its superinterfaces.
abbrev pub method_classes : ProgramTables → ℕ → List ℕ
method_classes P c =
    if is_interface P c then interface_and_above P (length P.classes) c
    else superclasses P c ++ superinterfaces P c

-- an initialiser is looked for in the class alone (6.5, invokespecial)
abbrev pub classes_for : ProgramTables → ℕ → List ℕ → List ℕ
classes_for P c name = if bytes_eq name (codes "<init>") then c ∷ [] else method_classes P c

abbrev pub is_called_at : ProgramTables → List ℕ → List ℕ → ℕ → Bool
is_called_at P name desc m = option_map_or (is_called name desc) (method_at P m) false

-- the method to which a reference to class c resolves; none where there is none
abbrev pub resolved_method : ProgramTables → ℕ → List ℕ → List ℕ → Option ℕ
resolved_method P c name desc = find (is_called_at P name desc) (flat_map (methods_of P) (classes_for P c name))
