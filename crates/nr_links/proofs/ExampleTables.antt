-- The example's tables are laid out as those of a program.
use Rattle.std.proofs.Common.{◌≡◌, ℕ, ◌<◌, true, ◌++◌, length, refl, lit<, lit≤, ◌&&◌, ◌^◌, not}
use Rattle.std.specs.Prelude.{Option, Some, None, IfSome, IsTrue, ◌↔◌, is_none, is_some, ◌==◌}
use Rattle.std.specs.List.{list_all, list_any}
use Rattle.std.specs.Option.{option_map_or}
use Rattle.nr_linked.specs.declared.program.built_in.BuiltIn.TheVariants.{Object}
use Rattle.nr_linked.specs.declared.program.tables.ClassInfo.{ClassInfo}
use Rattle.nr_linked.specs.declared.program.tables.MethodInfo.{MethodInfo}
use Rattle.nr_prog.specs.BodyNames.{class_text_at}
use Rattle.nr_prog.specs.Members.{is_abstract}
use Rattle.nr_prog.specs.Pool.{text_at}
use Rattle.nr_linked.specs.BuiltIns.{built_in, built_in_class}
use Rattle.nr_linked.specs.BuiltInTables.{built_in_info, built_in_infos, built_in_method, built_in_methods}
use Rattle.nr_linked.specs.KindTexts.{signature_text}
use Rattle.nr_linked.specs.Linked.{IsClassLinked, IsMethodLinked, IsReadAs, Linked, declared, frame_maps_of, handlers_of, inherited_slots, instrs_of, is_frame_in, is_kind_in, is_kind_in_or_none, is_loaded, is_method_of, is_resolved_in, is_slot_linked, is_super_in, own_slots}
use Rattle.nr_linked.specs.Programs.{class_named, is_interface, methods_of, superclasses}
use Rattle.nr_linked.specs.Subtypes.{Above, is_above}
use Rattle.nr_links.specs.Example.{a_info, a_parts, face_info, face_parts, tables}
use Rattle.nr_linked.proofs.Listed.{AtEach, all_below, at_place}
use Rattle.nr_links.proofs.Reaching.{is_closed_at, is_reached_at, supers_by_check}

-- ---- what stands above each class

closed : IsTrue (all_below 24 (is_closed_at tables 24))
unfolding tables built_in_infos built_in_info built_in_class
closed = refl

reached : IsTrue (all_below 24 (is_reached_at tables 6))
unfolding tables built_in_infos built_in_info built_in_class
reached = refl

pub supers : (c : ℕ) → c < 24 → (d : ℕ) → IsTrue (is_above tables c d) ↔ Above tables c d
supers c l d = supers_by_check tables 24 6 closed reached c l d

-- ---- each class

class_linked : (c : ℕ) (e : ClassInfo) → c < 24 → IfSome e.read (IsReadAs tables c e) → class_named tables e.name ≡ Some c
    → is_some e.read ≡ is_loaded tables c
    → is_none e.super_class ≡ (c == built_in tables Object)
    → IsTrue (option_map_or (is_super_in tables c) e.super_class true)
    → IsTrue (list_all (is_interface tables) e.interfaces)
    → IsTrue (list_any (λ d. d == built_in tables Object) (superclasses tables c))
    → e.slots ≡ inherited_slots tables e ++ own_slots tables e
    → IsTrue (list_all (λ s. s.declared_in == c) (own_slots tables e))
    → IsTrue (list_all (is_slot_linked tables) e.slots)
    → length e.slots < 2 ^ 32
    → IsTrue (list_all (is_method_of tables c) (methods_of tables c))
    → IsClassLinked tables c e
class_linked c e within read_as name read root super_class interfaces ends inherited own slots few methods = record {
  name = name;
  read = read;
  read_as = read_as;
  root = root;
  super_class = super_class;
  interfaces = interfaces;
  ends = ends;
  supers = supers c within;
  inherited = inherited;
  own = own;
  slots = slots;
  few_slots = few;
  methods = methods;
}

a_read : IsReadAs tables 0 a_info a_parts
unfolding tables built_in_infos built_in_info built_in_class built_in_methods built_in_method class_text_at text_at
a_read = record { name = refl; flags = refl; super_class = refl; interfaces = refl; fields = refl; methods = refl }

face_read : IsReadAs tables 1 face_info face_parts
unfolding tables built_in_infos built_in_info built_in_class built_in_methods built_in_method class_text_at text_at
face_read = record { name = refl; flags = refl; super_class = refl; interfaces = refl; fields = refl; methods = refl }

each_class : AtEach (IsClassLinked tables) tables.classes
unfolding tables built_in_infos built_in_info built_in_class built_in_methods built_in_method
each_class = (class_linked 0 _ (lit< tt) a_read refl refl refl refl refl refl refl refl refl (lit< tt) refl, (class_linked 1 _ (lit< tt) face_read refl refl refl refl refl refl refl refl refl (lit< tt) refl, (class_linked 2 _ (lit< tt) tt refl refl refl refl refl refl refl refl refl (lit< tt) refl, (class_linked 3 _ (lit< tt) tt refl refl refl refl refl refl refl refl refl (lit< tt) refl, (class_linked 4 _ (lit< tt) tt refl refl refl refl refl refl refl refl refl (lit< tt) refl, (class_linked 5 _ (lit< tt) tt refl refl refl refl refl refl refl refl refl (lit< tt) refl, (class_linked 6 _ (lit< tt) tt refl refl refl refl refl refl refl refl refl (lit< tt) refl, (class_linked 7 _ (lit< tt) tt refl refl refl refl refl refl refl refl refl (lit< tt) refl, (class_linked 8 _ (lit< tt) tt refl refl refl refl refl refl refl refl refl (lit< tt) refl, (class_linked 9 _ (lit< tt) tt refl refl refl refl refl refl refl refl refl (lit< tt) refl, (class_linked 10 _ (lit< tt) tt refl refl refl refl refl refl refl refl refl (lit< tt) refl, (class_linked 11 _ (lit< tt) tt refl refl refl refl refl refl refl refl refl (lit< tt) refl, (class_linked 12 _ (lit< tt) tt refl refl refl refl refl refl refl refl refl (lit< tt) refl, (class_linked 13 _ (lit< tt) tt refl refl refl refl refl refl refl refl refl (lit< tt) refl, (class_linked 14 _ (lit< tt) tt refl refl refl refl refl refl refl refl refl (lit< tt) refl, (class_linked 15 _ (lit< tt) tt refl refl refl refl refl refl refl refl refl (lit< tt) refl, (class_linked 16 _ (lit< tt) tt refl refl refl refl refl refl refl refl refl (lit< tt) refl, (class_linked 17 _ (lit< tt) tt refl refl refl refl refl refl refl refl refl (lit< tt) refl, (class_linked 18 _ (lit< tt) tt refl refl refl refl refl refl refl refl refl (lit< tt) refl, (class_linked 19 _ (lit< tt) tt refl refl refl refl refl refl refl refl refl (lit< tt) refl, (class_linked 20 _ (lit< tt) tt refl refl refl refl refl refl refl refl refl (lit< tt) refl, (class_linked 21 _ (lit< tt) tt refl refl refl refl refl refl refl refl refl (lit< tt) refl, (class_linked 22 _ (lit< tt) tt refl refl refl refl refl refl refl refl refl (lit< tt) refl, (class_linked 23 _ (lit< tt) tt refl refl refl refl refl refl refl refl refl (lit< tt) refl, tt))))))))))))))))))))))))

-- ---- each method

method_linked : (m : ℕ) (i : MethodInfo) → declared tables i.«class» i.name i.desc ≡ Some m → i.desc ≡ signature_text tables i.params i.result
    → IsTrue (list_all (is_kind_in tables) i.params)
    → IsTrue (is_kind_in_or_none tables i.result)
    → is_some i.body ≡ (is_loaded tables i.«class» && not (is_abstract i.flags))
    → length i.resolved ≡ length (instrs_of i)
    → IsTrue (list_all (is_resolved_in tables) i.resolved)
    → length i.catches ≡ length (handlers_of i)
    → IsTrue (list_all (is_kind_in_or_none tables) i.catches)
    → Rattle.std.specs.Prelude.map (λ m. m.0) i.maps ≡ Rattle.std.specs.Prelude.map (λ f. f.at) (frame_maps_of i)
    → IsTrue (list_all (λ m. is_frame_in tables m.1) i.maps)
    → IsMethodLinked tables m i
method_linked m i alone desc params result body one_each resolved one_catch_each catches offsets maps = record {
  alone = alone;
  desc = desc;
  params = params;
  result = result;
  body = body;
  one_each = one_each;
  resolved = resolved;
  one_catch_each = one_catch_each;
  catches = catches;
  offsets = offsets;
  maps = maps;
}

each_method : AtEach (IsMethodLinked tables) tables.methods
unfolding tables built_in_infos built_in_info built_in_class built_in_methods built_in_method
each_method = (method_linked 0 _ refl refl refl refl refl refl refl refl refl refl refl, (method_linked 1 _ refl refl refl refl refl refl refl refl refl refl refl, (method_linked 2 _ refl refl refl refl refl refl refl refl refl refl refl, (method_linked 3 _ refl refl refl refl refl refl refl refl refl refl refl, (method_linked 4 _ refl refl refl refl refl refl refl refl refl refl refl, (method_linked 5 _ refl refl refl refl refl refl refl refl refl refl refl, (method_linked 6 _ refl refl refl refl refl refl refl refl refl refl refl, (method_linked 7 _ refl refl refl refl refl refl refl refl refl refl refl, (method_linked 8 _ refl refl refl refl refl refl refl refl refl refl refl, (method_linked 9 _ refl refl refl refl refl refl refl refl refl refl refl, (method_linked 10 _ refl refl refl refl refl refl refl refl refl refl refl, (method_linked 11 _ refl refl refl refl refl refl refl refl refl refl refl, (method_linked 12 _ refl refl refl refl refl refl refl refl refl refl refl, (method_linked 13 _ refl refl refl refl refl refl refl refl refl refl refl, (method_linked 14 _ refl refl refl refl refl refl refl refl refl refl refl, (method_linked 15 _ refl refl refl refl refl refl refl refl refl refl refl, (method_linked 16 _ refl refl refl refl refl refl refl refl refl refl refl, (method_linked 17 _ refl refl refl refl refl refl refl refl refl refl refl, (method_linked 18 _ refl refl refl refl refl refl refl refl refl refl refl, (method_linked 19 _ refl refl refl refl refl refl refl refl refl refl refl, (method_linked 20 _ refl refl refl refl refl refl refl refl refl refl refl, (method_linked 21 _ refl refl refl refl refl refl refl refl refl refl refl, (method_linked 22 _ refl refl refl refl refl refl refl refl refl refl refl, (method_linked 23 _ refl refl refl refl refl refl refl refl refl refl refl, (method_linked 24 _ refl refl refl refl refl refl refl refl refl refl refl, (method_linked 25 _ refl refl refl refl refl refl refl refl refl refl refl, (method_linked 26 _ refl refl refl refl refl refl refl refl refl refl refl, tt)))))))))))))))))))))))))))

pub linked : Linked tables
unfolding tables built_in_infos built_in_info built_in_class built_in_methods built_in_method
linked = record {
  few_classes = lit≤ tt;
  few_methods = lit< tt;
  built_ins = refl;
  built_in_methods = refl;
  classes = λ c e is. at_place (IsClassLinked tables) tables.classes c e each_class is;
  methods = λ m i is. at_place (IsMethodLinked tables) tables.methods m i each_method is;
}
