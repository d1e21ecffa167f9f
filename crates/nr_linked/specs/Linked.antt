-- What linking gives: facts of a program's tables. Which of them the JVM Specification asks of a class file is said in
-- its chapter 5; how the tables are laid out is the project's own.
use Rattle.std.specs.Prelude.{◌≡◌, ℕ, ◌+◌, ◌-◌, ◌<◌, ◌≤◌, ◌^◌, List, [], length, map, drop, Bool, true, false, not, ◌&&◌, ◌||◌, ◌++◌, ◌==◌, nat_lt, Option, Some, is_some, is_none, IsTrue, ◌↔◌, find}
use Rattle.std.specs.List.{filter, list_any, list_all}
use Rattle.std.specs.Str.{bytes_eq}
use Rattle.std.specs.Option.{option_map, option_map_or, IfSome}
use Rattle.nr_prog.specs.declared.body.frame_map.FrameMap.{FrameMap}
use Rattle.nr_prog.specs.declared.body.instruction.Instr.{Instr}
use Rattle.nr_prog.specs.declared.member.Field.{Field}
use Rattle.nr_prog.specs.declared.member.Method.{Method}
use Rattle.nr_prog.specs.declared.member.Handler.{Handler}
use Rattle.nr_prog.specs.declared.parts.ClassParts.{ClassParts}
use Rattle.nr_prog.specs.declared.pool.PoolEntry.{PoolEntry}
use Rattle.nr_linked.specs.declared.program.built_in.BuiltIn.TheVariants.{Object}
use Rattle.nr_linked.specs.declared.program.kind.Kind.{Kind}
use Rattle.nr_linked.specs.declared.program.tables.ProgramTables.{ProgramTables}
use Rattle.nr_linked.specs.declared.program.tables.ClassInfo.{ClassInfo}
use Rattle.nr_linked.specs.declared.program.tables.MethodInfo.{MethodInfo}
use Rattle.nr_linked.specs.declared.program.tables.SlotInfo.{SlotInfo}
use Rattle.nr_linked.specs.declared.program.tables.Resolved.{Resolved}
use Rattle.nr_linked.specs.declared.program.tables.Resolved.TheVariants as resolved
use Rattle.nr_linked.specs.declared.program.types.VFrame.{VFrame}
use Rattle.nr_linked.specs.declared.program.types.VType.{VType}
use Rattle.nr_linked.specs.declared.program.types.VType.TheVariants as types
use Rattle.nr_prog.specs.BodyNames.{class_text_at}
use Rattle.nr_prog.specs.Members.{is_abstract, is_static}
use Rattle.nr_prog.specs.Pool.{text_at}
use Rattle.nr_linked.specs.Kinds.{class_in}
use Rattle.nr_linked.specs.Programs.{class_at, class_named, is_interface, method_at, methods_of, superclasses}
use Rattle.nr_linked.specs.BuiltIns.{built_in, built_in_count}
use Rattle.nr_linked.specs.BuiltInTables.{built_in_infos, built_in_methods}
use Rattle.nr_linked.specs.KindTexts.{class_name, kind_text, signature_text}
use Rattle.nr_linked.specs.Subtypes.{Above, is_above}
use Rattle.nr_linked.specs.Slots.{slots_of}
use Rattle.nr_linked.specs.Selection.{is_called}

-- ---- numbers that name something

abbrev pub is_class_in : ProgramTables → ℕ → Bool
is_class_in P c = nat_lt c (length P.classes)

abbrev pub is_kind_in : ProgramTables → Kind → Bool
is_kind_in P k = option_map_or (is_class_in P) (class_in k.base) true

abbrev pub is_kind_in_or_none : ProgramTables → Option Kind → Bool
is_kind_in_or_none P k = option_map_or (is_kind_in P) k true

abbrev pub is_resolved_in : ProgramTables → Resolved → Bool
is_resolved_in P (resolved.Kind k) = is_kind_in P k
is_resolved_in P (resolved.Slot c i) = is_class_in P c && nat_lt i (length (slots_of P c))
is_resolved_in P (resolved.Method m c) = nat_lt m (length P.methods) && is_class_in P c
is_resolved_in P r = true

abbrev pub is_type_in : ProgramTables → VType → Bool
is_type_in P (types.Class k) = is_kind_in P k
is_type_in P t = true

abbrev pub is_frame_in : ProgramTables → VFrame → Bool
is_frame_in P f = list_all (is_type_in P) f.locals && list_all (is_type_in P) f.stack

-- ---- classes

abbrev pub first_built_in : ProgramTables → ℕ
first_built_in P = length P.classes - built_in_count

-- the class was loaded
abbrev pub is_loaded : ProgramTables → ℕ → Bool
is_loaded P c = nat_lt c (first_built_in P)

-- a superclass is a class of the table and no interface, and that of an interface is java/lang/Object
abbrev pub is_super_in : ProgramTables → ℕ → ℕ → Bool
is_super_in P c s = is_class_in P s && (not (is_interface P s) && (not (is_interface P c) || s == built_in P Object))

-- the slots of the superclass
abbrev pub inherited_slots : ProgramTables → ClassInfo → List SlotInfo
inherited_slots P e = option_map_or (slots_of P) e.super_class []

abbrev pub own_slots : ProgramTables → ClassInfo → List SlotInfo
own_slots P e = drop (length (inherited_slots P e)) e.slots

-- the slot's kind is the one that its descriptor says
abbrev pub is_slot_linked : ProgramTables → SlotInfo → Bool
is_slot_linked P s = is_kind_in P s.kind && bytes_eq s.desc (kind_text P s.kind)

-- a name and a descriptor, of a slot and of a field that was read
abbrev pub Texts : Type 0
Texts = Option (List ℕ) × Option (List ℕ)

abbrev pub slot_texts : SlotInfo → Texts
slot_texts s = (Some s.name, Some s.desc)

abbrev pub field_texts : List PoolEntry → Field → Texts
field_texts pool f = (text_at pool f.name, text_at pool f.desc)

-- the same with the flags, of a method in the table and of one that was read
abbrev pub method_texts : ProgramTables → ℕ → Option (Texts × ℕ)
method_texts P m = option_map (λ i. ((Some i.name, Some i.desc), i.flags)) (method_at P m)

abbrev pub read_texts : List PoolEntry → Method → Option (Texts × ℕ)
read_texts pool m = Some ((text_at pool m.name, text_at pool m.desc), m.flags)

abbrev pub is_method_of : ProgramTables → ℕ → ℕ → Bool
is_method_of P c m = option_map_or (λ i. i.«class» == c) (method_at P m) false

-- the entry says what the class file says, whose parts these are
pub record IsReadAs (P : ProgramTables) (c : ℕ) (e : ClassInfo) (parts : ClassParts) : Type 0 where
  pub name : class_text_at parts.pool parts.this_class ≡ Some e.name
  pub flags : e.flags ≡ parts.flags
  pub super_class : option_map (class_name P) e.super_class ≡ class_text_at parts.pool parts.super_class
  pub interfaces : map (λ i. Some (class_name P i)) e.interfaces ≡ map (class_text_at parts.pool) parts.interfaces
  -- its own slots are its instance fields, in their order
  pub fields : map slot_texts (own_slots P e) ≡ map (field_texts parts.pool) (filter (λ f. not (is_static f.flags)) parts.fields)
  -- its methods are those of the table
  pub methods : map (method_texts P) (methods_of P c) ≡ map (read_texts parts.pool) parts.methods

-- class c, whose entry is e
pub record IsClassLinked (P : ProgramTables) (c : ℕ) (e : ClassInfo) : Type 0 where
  -- no other class has its name
  pub name : class_named P e.name ≡ Some c
  -- it is read from a file, or built in
  pub read : is_some e.read ≡ is_loaded P c
  pub read_as : IfSome e.read (IsReadAs P c e)
  -- java/lang/Object alone has no superclass
  pub root : is_none e.super_class ≡ (c == built_in P Object)
  pub super_class : IsTrue (option_map_or (is_super_in P c) e.super_class true)
  -- its direct superinterfaces are interfaces
  pub interfaces : IsTrue (list_all (is_interface P) e.interfaces)
  -- it and its superclasses lead to java/lang/Object
  pub ends : IsTrue (list_any (λ d. d == built_in P Object) (superclasses P c))
  -- `supers` lists just what stands above it
  pub supers : (d : ℕ) → IsTrue (is_above P c d) ↔ Above P c d
  -- the slots of its superclass come first, at the same places
  pub inherited : e.slots ≡ inherited_slots P e ++ own_slots P e
  -- the others are those of its own fields
  pub own : IsTrue (list_all (λ s. s.declared_in == c) (own_slots P e))
  pub slots : IsTrue (list_all (is_slot_linked P) e.slots)
  pub few_slots : length e.slots < 2 ^ 32
  -- its methods stand in the table of methods, as methods of it
  pub methods : IsTrue (list_all (is_method_of P c) (methods_of P c))

-- ---- methods

abbrev pub instrs_of : MethodInfo → List Instr
instrs_of i = option_map_or (λ b. b.instrs) i.body []

abbrev pub handlers_of : MethodInfo → List Handler
handlers_of i = option_map_or (λ b. b.handlers) i.body []

abbrev pub frame_maps_of : MethodInfo → List FrameMap
frame_maps_of i = option_map_or (λ b. b.maps) i.body []

-- the first method of this name and descriptor that the class declares
abbrev pub declared : ProgramTables → ℕ → List ℕ → List ℕ → Option ℕ
declared P c name desc = find (λ n. option_map_or (is_called name desc) (method_at P n) false) (methods_of P c)

-- method m, whose entry is i
pub record IsMethodLinked (P : ProgramTables) (m : ℕ) (i : MethodInfo) : Type 0 where
  -- its class declares it, and no other of its name and descriptor
  pub alone : declared P i.«class» i.name i.desc ≡ Some m
  -- its parameters and its result are those that its descriptor says
  pub desc : i.desc ≡ signature_text P i.params i.result
  pub params : IsTrue (list_all (is_kind_in P) i.params)
  pub result : IsTrue (is_kind_in_or_none P i.result)
  -- it has code where its class was loaded and it isn't abstract
  pub body : is_some i.body ≡ (is_loaded P i.«class» && not (is_abstract i.flags))
  -- something was found for each instruction, of what stands in the program
  pub one_each : length i.resolved ≡ length (instrs_of i)
  pub resolved : IsTrue (list_all (is_resolved_in P) i.resolved)
  -- and for each exception handler
  pub one_catch_each : length i.catches ≡ length (handlers_of i)
  pub catches : IsTrue (list_all (is_kind_in_or_none P) i.catches)
  -- and for each frame map, at its offset
  pub offsets : map (λ m. m.0) i.maps ≡ map (λ f. f.at) (frame_maps_of i)
  pub maps : IsTrue (list_all (λ m. is_frame_in P m.1) i.maps)

-- ---- the program

-- how many methods the built-in classes have
abbrev pub built_in_method_count : ℕ
built_in_method_count = 23

abbrev pub first_built_in_method : ProgramTables → ℕ
first_built_in_method P = length P.methods - built_in_method_count

pub record Linked (P : ProgramTables) : Type 0 where
  -- at most 1,024 classes are loaded
  pub few_classes : length P.classes ≤ 1024 + built_in_count
  pub few_methods : length P.methods < 2 ^ 32
  -- the built-in classes and their methods stand last
  pub built_ins : drop (first_built_in P) P.classes ≡ built_in_infos (first_built_in P) (first_built_in_method P)
  pub built_in_methods : drop (first_built_in_method P) P.methods ≡ built_in_methods (first_built_in P)
  pub classes : (c : ℕ) (e : ClassInfo) → class_at P c ≡ Some e → IsClassLinked P c e
  pub methods : (m : ℕ) (i : MethodInfo) → method_at P m ≡ Some i → IsMethodLinked P m i
