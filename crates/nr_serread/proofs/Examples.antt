-- streams and the faults of those that were changed
use Rattle.std.proofs.Common.{◌≡◌, ◌++◌, ℕ, ℤ, pos, List, [], ◌∷◌, Bool, true, false, refl, Some, None, Ok, Err, length, take, Option, codes, Result}
use Rattle.nr_base.specs.DescReading.{desc_at as field_desc_at, byte_at, letter_at, class_letter_at, class_at, type_at, base_at}
use Rattle.nr_base.specs.Reader.{bind, pure, refuse, choose, from, with_fault, spanned, whole, repeat, while_more}
use Rattle.nr_prog.specs.declared.parts.ClassParts.{ClassParts}
use Rattle.nr_prog.specs.declared.pool.PoolEntry.TheVariants as pool
use Rattle.nr_prog.specs.Members.{spells}
use Rattle.nr_prog.specs.Pool.{text_at}
use Rattle.nr_linked.specs.declared.program.kind.Base.TheVariants as bases
use Rattle.nr_linked.specs.declared.program.kind.Kind.{Kind}
use Rattle.nr_linked.specs.declared.program.tables.ClassInfo.{ClassInfo}
use Rattle.nr_linked.specs.declared.program.tables.ProgramTables.{ProgramTables}
use Rattle.nr_linked.specs.declared.program.tables.SlotInfo.{SlotInfo}
use Rattle.nr_linked.specs.BuiltInTables.{built_in_infos, built_in_info}
use Rattle.nr_linked.specs.BuiltIns.{built_in_class}
use Rattle.nr_linked.specs.Kinds.{class_kind}
use Rattle.nr_linked.specs.Sendable.{has_feature}
use Rattle.nr_graph.specs.declared.graph.Slot.TheVariants.{Int, Null, Node as At}
use Rattle.nr_graph.specs.declared.graph.Node.{Node}
use Rattle.nr_graph.specs.declared.graph.Graph.{Graph}
use Rattle.nr_serform.specs.ClassNumbers.{class_number, parts_number}
use Rattle.nr_serform.specs.Descriptions.{stream_name, described_fields}
use Rattle.nr_serread.specs.declared.fault.StreamFault.{StreamFault}
use Rattle.nr_serread.specs.declared.fault.StreamFault.TheVariants.{Short, Header, Tag, Handle, HandleKind, ClassName, Uid, Fields, SlotType, Length, LimitCells, Trailing}
use Rattle.nr_serread.specs.Items.{utf_at, told_object_at, told_class_at, given_by, due_at}
use Rattle.nr_serread.specs.Describing.{kind_named, string_at, field_at, fields_at, uid_at, own_at, described_supers, no_super_at, new_super_at, super_at, supers_at, name_at, behind_name_at, new_desc_at, old_desc_at, desc_at}
use Rattle.nr_serread.specs.Reading.{kept, number_at, opened, open_at, open_slots_at, object_at, array_at, old_content_at, content_at, slot_at, next_at, until_done, slots_at, header_at, graph_at, stream_of}

abbrev int_kind : Kind
int_kind = record { dims = 0; base = bases.Int }

abbrev ints : Kind
ints = record { dims = 1; base = bases.Int }

abbrev no_classes : ProgramTables
no_classes = record { classes = built_in_infos 0 0; methods = [] }

-- an array of one int
abbrev array_text : List ℕ → List ℕ
array_text size = 0xAC ∷ 0xED ∷ 0 ∷ 5 ∷ 0x75 ∷ 0x72 ∷ 0 ∷ 2 ∷ 0x5B ∷ 0x49 ∷ 0 ∷ 0 ∷ 0 ∷ 0 ∷ 0 ∷ 0 ∷ 0 ∷ 0 ∷ 2 ∷ 0 ∷ 0 ∷ 0x78 ∷ 0x70 ∷ size

abbrev numbered : ClassParts
numbered = record {
  pool = pool.Utf8 (codes "serialVersionUID") ∷ pool.Utf8 (codes "J") ∷ pool.Long (pos 1) ∷ pool.Unused ∷ [];
  flags = 0x0021;
  this_class = 0;
  super_class = 0;
  interfaces = [];
  fields = (record { flags = 0x0018; name = 1; desc = 2; constant = 3 }) ∷ [];
  methods = [];
}

abbrev int_slot : ℕ → SlotInfo
int_slot c = record { declared_in = c; name = codes "v"; desc = codes "I"; kind = int_kind }

abbrev bool_slot : SlotInfo
bool_slot = record { declared_in = 3; name = codes "b"; desc = codes "Z"; kind = record { dims = 0; base = bases.Bool } }

abbrev next_slot : SlotInfo
next_slot = record { declared_in = 0; name = codes "next"; desc = codes "Ldemo/Node;"; kind = class_kind 0 }

abbrev class_of : List ℕ → ℕ → ℕ → List ℕ → List SlotInfo → ClassInfo
class_of name flags above supers slots = record { name = name; flags = flags; super_class = Some above; interfaces = []; supers = supers; slots = slots; first_method = 0; methods = 0; read = Some numbered }

-- demo/Node, demo/Base, which is abstract, demo/Sub below it, demo/Bit
abbrev demo : ProgramTables
demo = record {
  classes = class_of (codes "demo/Node") 0x0021 4 (0 ∷ 4 ∷ 22 ∷ 23 ∷ []) (next_slot ∷ int_slot 0 ∷ [])
      ∷ class_of (codes "demo/Base") 0x0421 4 (1 ∷ 4 ∷ 22 ∷ 23 ∷ []) (int_slot 1 ∷ [])
      ∷ class_of (codes "demo/Sub") 0x0021 1 (1 ∷ 2 ∷ 4 ∷ 22 ∷ 23 ∷ []) (int_slot 1 ∷ int_slot 2 ∷ [])
      ∷ class_of (codes "demo/Bit") 0x0021 4 (3 ∷ 4 ∷ 22 ∷ 23 ∷ []) (bool_slot ∷ [])
      ∷ built_in_infos 4 0;
  methods = [];
}

no_roots : stream_of no_classes 0 (0xAC ∷ 0xED ∷ 0 ∷ 5 ∷ []) ≡ Ok (record { nodes = []; roots = [] })
unfolding bind pure refuse choose from with_fault spanned whole repeat while_more field_desc_at byte_at letter_at class_letter_at class_at type_at base_at utf_at told_object_at told_class_at given_by kind_named due_at string_at field_at fields_at uid_at own_at described_supers no_super_at new_super_at super_at supers_at name_at behind_name_at new_desc_at old_desc_at desc_at kept number_at opened open_at open_slots_at object_at array_at old_content_at content_at slot_at next_at until_done slots_at header_at graph_at built_in_infos built_in_info built_in_class stream_name described_fields class_number parts_number spells text_at has_feature
no_roots = refl

short_header : stream_of no_classes 0 (0 ∷ 0xED ∷ 0 ∷ []) ≡ Err (Short 0)
unfolding bind pure refuse choose from with_fault spanned whole repeat while_more field_desc_at byte_at letter_at class_letter_at class_at type_at base_at utf_at told_object_at told_class_at given_by kind_named due_at string_at field_at fields_at uid_at own_at described_supers no_super_at new_super_at super_at supers_at name_at behind_name_at new_desc_at old_desc_at desc_at kept number_at opened open_at open_slots_at object_at array_at old_content_at content_at slot_at next_at until_done slots_at header_at graph_at built_in_infos built_in_info built_in_class stream_name described_fields class_number parts_number spells text_at has_feature
short_header = refl

other_header : stream_of no_classes 0 (0xAC ∷ 0xED ∷ 0 ∷ 6 ∷ []) ≡ Err Header
unfolding bind pure refuse choose from with_fault spanned whole repeat while_more field_desc_at byte_at letter_at class_letter_at class_at type_at base_at utf_at told_object_at told_class_at given_by kind_named due_at string_at field_at fields_at uid_at own_at described_supers no_super_at new_super_at super_at supers_at name_at behind_name_at new_desc_at old_desc_at desc_at kept number_at opened open_at open_slots_at object_at array_at old_content_at content_at slot_at next_at until_done slots_at header_at graph_at built_in_infos built_in_info built_in_class stream_name described_fields class_number parts_number spells text_at has_feature
other_header = refl

handle_not_given : stream_of no_classes 1 (0xAC ∷ 0xED ∷ 0 ∷ 5 ∷ 0x71 ∷ 0 ∷ 0x7E ∷ 0 ∷ 0 ∷ []) ≡ Err (Handle 4 8257536)
unfolding bind pure refuse choose from with_fault spanned whole repeat while_more field_desc_at byte_at letter_at class_letter_at class_at type_at base_at utf_at told_object_at told_class_at given_by kind_named due_at string_at field_at fields_at uid_at own_at described_supers no_super_at new_super_at super_at supers_at name_at behind_name_at new_desc_at old_desc_at desc_at kept number_at opened open_at open_slots_at object_at array_at old_content_at content_at slot_at next_at until_done slots_at header_at graph_at built_in_infos built_in_info built_in_class stream_name described_fields class_number parts_number spells text_at has_feature
handle_not_given = refl

one_array : stream_of no_classes 1 (0xAC ∷ 0xED ∷ 0 ∷ 5 ∷ 0x75 ∷ 0x72 ∷ 0 ∷ 2 ∷ 0x5B ∷ 0x49 ∷ 0 ∷ 0 ∷ 0 ∷ 0 ∷ 0 ∷ 0 ∷ 0 ∷ 0 ∷ 2 ∷ 0 ∷ 0 ∷ 0x78 ∷ 0x70 ∷ 0 ∷ 0 ∷ 0 ∷ 1 ∷ 0 ∷ 0 ∷ 0 ∷ 1 ∷ []) ≡ Ok (record { nodes = (record { kind = ints; slots = Int (pos 1) ∷ [] }) ∷ []; roots = Some 0 ∷ [] })
unfolding bind pure refuse choose from with_fault spanned whole repeat while_more field_desc_at byte_at letter_at class_letter_at class_at type_at base_at utf_at told_object_at told_class_at given_by kind_named due_at string_at field_at fields_at uid_at own_at described_supers no_super_at new_super_at super_at supers_at name_at behind_name_at new_desc_at old_desc_at desc_at kept number_at opened open_at open_slots_at object_at array_at old_content_at content_at slot_at next_at until_done slots_at header_at graph_at built_in_infos built_in_info built_in_class stream_name described_fields class_number parts_number spells text_at has_feature
one_array = refl

shared : stream_of no_classes 2 (0xAC ∷ 0xED ∷ 0 ∷ 5 ∷ 0x75 ∷ 0x72 ∷ 0 ∷ 2 ∷ 0x5B ∷ 0x49 ∷ 0 ∷ 0 ∷ 0 ∷ 0 ∷ 0 ∷ 0 ∷ 0 ∷ 0 ∷ 2 ∷ 0 ∷ 0 ∷ 0x78 ∷ 0x70 ∷ 0 ∷ 0 ∷ 0 ∷ 1 ∷ 0 ∷ 0 ∷ 0 ∷ 1 ∷ 0x71 ∷ 0 ∷ 0x7E ∷ 0 ∷ 1 ∷ []) ≡ Ok (record { nodes = (record { kind = ints; slots = Int (pos 1) ∷ [] }) ∷ []; roots = Some 0 ∷ Some 0 ∷ [] })
unfolding bind pure refuse choose from with_fault spanned whole repeat while_more field_desc_at byte_at letter_at class_letter_at class_at type_at base_at utf_at told_object_at told_class_at given_by kind_named due_at string_at field_at fields_at uid_at own_at described_supers no_super_at new_super_at super_at supers_at name_at behind_name_at new_desc_at old_desc_at desc_at kept number_at opened open_at open_slots_at object_at array_at old_content_at content_at slot_at next_at until_done slots_at header_at graph_at built_in_infos built_in_info built_in_class stream_name described_fields class_number parts_number spells text_at has_feature
shared = refl

description_for_object : stream_of no_classes 2 (0xAC ∷ 0xED ∷ 0 ∷ 5 ∷ 0x75 ∷ 0x72 ∷ 0 ∷ 2 ∷ 0x5B ∷ 0x49 ∷ 0 ∷ 0 ∷ 0 ∷ 0 ∷ 0 ∷ 0 ∷ 0 ∷ 0 ∷ 2 ∷ 0 ∷ 0 ∷ 0x78 ∷ 0x70 ∷ 0 ∷ 0 ∷ 0 ∷ 1 ∷ 0 ∷ 0 ∷ 0 ∷ 1 ∷ 0x71 ∷ 0 ∷ 0x7E ∷ 0 ∷ 0 ∷ []) ≡ Err (HandleKind 31)
unfolding bind pure refuse choose from with_fault spanned whole repeat while_more field_desc_at byte_at letter_at class_letter_at class_at type_at base_at utf_at told_object_at told_class_at given_by kind_named due_at string_at field_at fields_at uid_at own_at described_supers no_super_at new_super_at super_at supers_at name_at behind_name_at new_desc_at old_desc_at desc_at kept number_at opened open_at open_slots_at object_at array_at old_content_at content_at slot_at next_at until_done slots_at header_at graph_at built_in_infos built_in_info built_in_class stream_name described_fields class_number parts_number spells text_at has_feature
description_for_object = refl

object_for_description : stream_of no_classes 2 (0xAC ∷ 0xED ∷ 0 ∷ 5 ∷ 0x75 ∷ 0x72 ∷ 0 ∷ 2 ∷ 0x5B ∷ 0x49 ∷ 0 ∷ 0 ∷ 0 ∷ 0 ∷ 0 ∷ 0 ∷ 0 ∷ 0 ∷ 2 ∷ 0 ∷ 0 ∷ 0x78 ∷ 0x70 ∷ 0 ∷ 0 ∷ 0 ∷ 1 ∷ 0 ∷ 0 ∷ 0 ∷ 1 ∷ 0x75 ∷ 0x71 ∷ 0 ∷ 0x7E ∷ 0 ∷ 1 ∷ []) ≡ Err (HandleKind 32)
unfolding bind pure refuse choose from with_fault spanned whole repeat while_more field_desc_at byte_at letter_at class_letter_at class_at type_at base_at utf_at told_object_at told_class_at given_by kind_named due_at string_at field_at fields_at uid_at own_at described_supers no_super_at new_super_at super_at supers_at name_at behind_name_at new_desc_at old_desc_at desc_at kept number_at opened open_at open_slots_at object_at array_at old_content_at content_at slot_at next_at until_done slots_at header_at graph_at built_in_infos built_in_info built_in_class stream_name described_fields class_number parts_number spells text_at has_feature
object_for_description = refl

array_class_for_object : stream_of no_classes 2 (0xAC ∷ 0xED ∷ 0 ∷ 5 ∷ 0x75 ∷ 0x72 ∷ 0 ∷ 2 ∷ 0x5B ∷ 0x49 ∷ 0 ∷ 0 ∷ 0 ∷ 0 ∷ 0 ∷ 0 ∷ 0 ∷ 0 ∷ 2 ∷ 0 ∷ 0 ∷ 0x78 ∷ 0x70 ∷ 0 ∷ 0 ∷ 0 ∷ 1 ∷ 0 ∷ 0 ∷ 0 ∷ 1 ∷ 0x73 ∷ 0x71 ∷ 0 ∷ 0x7E ∷ 0 ∷ 0 ∷ []) ≡ Err (HandleKind 32)
unfolding bind pure refuse choose from with_fault spanned whole repeat while_more field_desc_at byte_at letter_at class_letter_at class_at type_at base_at utf_at told_object_at told_class_at given_by kind_named due_at string_at field_at fields_at uid_at own_at described_supers no_super_at new_super_at super_at supers_at name_at behind_name_at new_desc_at old_desc_at desc_at kept number_at opened open_at open_slots_at object_at array_at old_content_at content_at slot_at next_at until_done slots_at header_at graph_at built_in_infos built_in_info built_in_class stream_name described_fields class_number parts_number spells text_at has_feature
array_class_for_object = refl

more_bytes : stream_of no_classes 1 (0xAC ∷ 0xED ∷ 0 ∷ 5 ∷ 0x75 ∷ 0x72 ∷ 0 ∷ 2 ∷ 0x5B ∷ 0x49 ∷ 0 ∷ 0 ∷ 0 ∷ 0 ∷ 0 ∷ 0 ∷ 0 ∷ 0 ∷ 2 ∷ 0 ∷ 0 ∷ 0x78 ∷ 0x70 ∷ 0 ∷ 0 ∷ 0 ∷ 1 ∷ 0 ∷ 0 ∷ 0 ∷ 1 ∷ 0x70 ∷ []) ≡ Err (Trailing 31)
unfolding bind pure refuse choose from with_fault spanned whole repeat while_more field_desc_at byte_at letter_at class_letter_at class_at type_at base_at utf_at told_object_at told_class_at given_by kind_named due_at string_at field_at fields_at uid_at own_at described_supers no_super_at new_super_at super_at supers_at name_at behind_name_at new_desc_at old_desc_at desc_at kept number_at opened open_at open_slots_at object_at array_at old_content_at content_at slot_at next_at until_done slots_at header_at graph_at built_in_infos built_in_info built_in_class stream_name described_fields class_number parts_number spells text_at has_feature
more_bytes = refl

no_last_byte : stream_of no_classes 1 (0xAC ∷ 0xED ∷ 0 ∷ 5 ∷ 0x75 ∷ 0x72 ∷ 0 ∷ 2 ∷ 0x5B ∷ 0x49 ∷ 0 ∷ 0 ∷ 0 ∷ 0 ∷ 0 ∷ 0 ∷ 0 ∷ 0 ∷ 2 ∷ 0 ∷ 0 ∷ 0x78 ∷ 0x70 ∷ 0 ∷ 0 ∷ 0 ∷ 1 ∷ 0 ∷ 0 ∷ 0 ∷ []) ≡ Err (Short 27)
unfolding bind pure refuse choose from with_fault spanned whole repeat while_more field_desc_at byte_at letter_at class_letter_at class_at type_at base_at utf_at told_object_at told_class_at given_by kind_named due_at string_at field_at fields_at uid_at own_at described_supers no_super_at new_super_at super_at supers_at name_at behind_name_at new_desc_at old_desc_at desc_at kept number_at opened open_at open_slots_at object_at array_at old_content_at content_at slot_at next_at until_done slots_at header_at graph_at built_in_infos built_in_info built_in_class stream_name described_fields class_number parts_number spells text_at has_feature
no_last_byte = refl

big_array : stream_of no_classes 1 (0xAC ∷ 0xED ∷ 0 ∷ 5 ∷ 0x75 ∷ 0x72 ∷ 0 ∷ 2 ∷ 0x5B ∷ 0x49 ∷ 0 ∷ 0 ∷ 0 ∷ 0 ∷ 0 ∷ 0 ∷ 0 ∷ 0 ∷ 2 ∷ 0 ∷ 0 ∷ 0x78 ∷ 0x70 ∷ 0 ∷ 0 ∷ 0 ∷ 0xF ∷ []) ≡ Err (Short 27)
unfolding bind pure refuse choose from with_fault spanned whole repeat while_more field_desc_at byte_at letter_at class_letter_at class_at type_at base_at utf_at told_object_at told_class_at given_by kind_named due_at string_at field_at fields_at uid_at own_at described_supers no_super_at new_super_at super_at supers_at name_at behind_name_at new_desc_at old_desc_at desc_at kept number_at opened open_at open_slots_at object_at array_at old_content_at content_at slot_at next_at until_done slots_at header_at graph_at built_in_infos built_in_info built_in_class stream_name described_fields class_number parts_number spells text_at has_feature
big_array = refl

too_big_array : stream_of no_classes 1 (0xAC ∷ 0xED ∷ 0 ∷ 5 ∷ 0x75 ∷ 0x72 ∷ 0 ∷ 2 ∷ 0x5B ∷ 0x49 ∷ 0 ∷ 0 ∷ 0 ∷ 0 ∷ 0 ∷ 0 ∷ 0 ∷ 0 ∷ 2 ∷ 0 ∷ 0 ∷ 0x78 ∷ 0x70 ∷ 0 ∷ 0x10 ∷ 0 ∷ 0 ∷ []) ≡ Err (LimitCells 4)
unfolding bind pure refuse choose from with_fault spanned whole repeat while_more field_desc_at byte_at letter_at class_letter_at class_at type_at base_at utf_at told_object_at told_class_at given_by kind_named due_at string_at field_at fields_at uid_at own_at described_supers no_super_at new_super_at super_at supers_at name_at behind_name_at new_desc_at old_desc_at desc_at kept number_at opened open_at open_slots_at object_at array_at old_content_at content_at slot_at next_at until_done slots_at header_at graph_at built_in_infos built_in_info built_in_class stream_name described_fields class_number parts_number spells text_at has_feature
too_big_array = refl

too_long_array : stream_of no_classes 1 (0xAC ∷ 0xED ∷ 0 ∷ 5 ∷ 0x75 ∷ 0x72 ∷ 0 ∷ 2 ∷ 0x5B ∷ 0x49 ∷ 0 ∷ 0 ∷ 0 ∷ 0 ∷ 0 ∷ 0 ∷ 0 ∷ 0 ∷ 2 ∷ 0 ∷ 0 ∷ 0x78 ∷ 0x70 ∷ 0x80 ∷ 0 ∷ 0 ∷ 0 ∷ []) ≡ Err (Length 23)
unfolding bind pure refuse choose from with_fault spanned whole repeat while_more field_desc_at byte_at letter_at class_letter_at class_at type_at base_at utf_at told_object_at told_class_at given_by kind_named due_at string_at field_at fields_at uid_at own_at described_supers no_super_at new_super_at super_at supers_at name_at behind_name_at new_desc_at old_desc_at desc_at kept number_at opened open_at open_slots_at object_at array_at old_content_at content_at slot_at next_at until_done slots_at header_at graph_at built_in_infos built_in_info built_in_class stream_name described_fields class_number parts_number spells text_at has_feature
too_long_array = refl

described_twice : stream_of no_classes 2 (0xAC ∷ 0xED ∷ 0 ∷ 5 ∷ 0x75 ∷ 0x72 ∷ 0 ∷ 2 ∷ 0x5B ∷ 0x49 ∷ 0 ∷ 0 ∷ 0 ∷ 0 ∷ 0 ∷ 0 ∷ 0 ∷ 0 ∷ 2 ∷ 0 ∷ 0 ∷ 0x78 ∷ 0x70 ∷ 0 ∷ 0 ∷ 0 ∷ 1 ∷ 0 ∷ 0 ∷ 0 ∷ 1 ∷ 0x75 ∷ 0x72 ∷ 0 ∷ 2 ∷ 0x5B ∷ 0x49 ∷ 0 ∷ 0 ∷ 0 ∷ 0 ∷ 0 ∷ 0 ∷ 0 ∷ 0 ∷ 2 ∷ 0 ∷ 0 ∷ 0x78 ∷ 0x70 ∷ 0 ∷ 0 ∷ 0 ∷ 1 ∷ 0 ∷ 0 ∷ 0 ∷ 1 ∷ []) ≡ Err (ClassName 33)
unfolding bind pure refuse choose from with_fault spanned whole repeat while_more field_desc_at byte_at letter_at class_letter_at class_at type_at base_at utf_at told_object_at told_class_at given_by kind_named due_at string_at field_at fields_at uid_at own_at described_supers no_super_at new_super_at super_at supers_at name_at behind_name_at new_desc_at old_desc_at desc_at kept number_at opened open_at open_slots_at object_at array_at old_content_at content_at slot_at next_at until_done slots_at header_at graph_at built_in_infos built_in_info built_in_class stream_name described_fields class_number parts_number spells text_at has_feature
described_twice = refl

object_tag_for_array : stream_of no_classes 1 (0xAC ∷ 0xED ∷ 0 ∷ 5 ∷ 0x73 ∷ 0x72 ∷ 0 ∷ 2 ∷ 0x5B ∷ 0x49 ∷ 0 ∷ 0 ∷ 0 ∷ 0 ∷ 0 ∷ 0 ∷ 0 ∷ 0 ∷ 2 ∷ 0 ∷ 0 ∷ 0x78 ∷ 0x70 ∷ 0 ∷ 0 ∷ 0 ∷ 1 ∷ 0 ∷ 0 ∷ 0 ∷ 1 ∷ []) ≡ Err (ClassName 6)
unfolding bind pure refuse choose from with_fault spanned whole repeat while_more field_desc_at byte_at letter_at class_letter_at class_at type_at base_at utf_at told_object_at told_class_at given_by kind_named due_at string_at field_at fields_at uid_at own_at described_supers no_super_at new_super_at super_at supers_at name_at behind_name_at new_desc_at old_desc_at desc_at kept number_at opened open_at open_slots_at object_at array_at old_content_at content_at slot_at next_at until_done slots_at header_at graph_at built_in_infos built_in_info built_in_class stream_name described_fields class_number parts_number spells text_at has_feature
object_tag_for_array = refl

string_content : stream_of no_classes 1 (0xAC ∷ 0xED ∷ 0 ∷ 5 ∷ 0x74 ∷ []) ≡ Err (Tag 4 0x74)
unfolding bind pure refuse choose from with_fault spanned whole repeat while_more field_desc_at byte_at letter_at class_letter_at class_at type_at base_at utf_at told_object_at told_class_at given_by kind_named due_at string_at field_at fields_at uid_at own_at described_supers no_super_at new_super_at super_at supers_at name_at behind_name_at new_desc_at old_desc_at desc_at kept number_at opened open_at open_slots_at object_at array_at old_content_at content_at slot_at next_at until_done slots_at header_at graph_at built_in_infos built_in_info built_in_class stream_name described_fields class_number parts_number spells text_at has_feature
string_content = refl

array_super : stream_of no_classes 1 (0xAC ∷ 0xED ∷ 0 ∷ 5 ∷ 0x75 ∷ 0x72 ∷ 0 ∷ 2 ∷ 0x5B ∷ 0x49 ∷ 0 ∷ 0 ∷ 0 ∷ 0 ∷ 0 ∷ 0 ∷ 0 ∷ 0 ∷ 2 ∷ 0 ∷ 0 ∷ 0x78 ∷ 0x72 ∷ 0 ∷ 1 ∷ 0x41 ∷ []) ≡ Err (ClassName 23)
unfolding bind pure refuse choose from with_fault spanned whole repeat while_more field_desc_at byte_at letter_at class_letter_at class_at type_at base_at utf_at told_object_at told_class_at given_by kind_named due_at string_at field_at fields_at uid_at own_at described_supers no_super_at new_super_at super_at supers_at name_at behind_name_at new_desc_at old_desc_at desc_at kept number_at opened open_at open_slots_at object_at array_at old_content_at content_at slot_at next_at until_done slots_at header_at graph_at built_in_infos built_in_info built_in_class stream_name described_fields class_number parts_number spells text_at has_feature
array_super = refl

list : stream_of demo 1 (0xAC ∷ 0xED ∷ 0 ∷ 5 ∷ 0x73 ∷ 0x72 ∷ 0 ∷ 9 ∷ 0x64 ∷ 0x65 ∷ 0x6D ∷ 0x6F ∷ 0x2E ∷ 0x4E ∷ 0x6F ∷ 0x64 ∷ 0x65 ∷ 0 ∷ 0 ∷ 0 ∷ 0 ∷ 0 ∷ 0 ∷ 0 ∷ 1 ∷ 2 ∷ 0 ∷ 2 ∷ 0x49 ∷ 0 ∷ 1 ∷ 0x76 ∷ 0x4C ∷ 0 ∷ 4 ∷ 0x6E ∷ 0x65 ∷ 0x78 ∷ 0x74 ∷ 0x74 ∷ 0 ∷ 0xB ∷ 0x4C ∷ 0x64 ∷ 0x65 ∷ 0x6D ∷ 0x6F ∷ 0x2F ∷ 0x4E ∷ 0x6F ∷ 0x64 ∷ 0x65 ∷ 0x3B ∷ 0x78 ∷ 0x70 ∷ 0 ∷ 0 ∷ 0 ∷ 1 ∷ 0x73 ∷ 0x71 ∷ 0 ∷ 0x7E ∷ 0 ∷ 0 ∷ 0 ∷ 0 ∷ 0 ∷ 2 ∷ 0x70 ∷ []) ≡ Ok (record { nodes = (record { kind = class_kind 0; slots = Int (pos 1) ∷ At 1 ∷ [] }) ∷ (record { kind = class_kind 0; slots = Int (pos 2) ∷ Null ∷ [] }) ∷ []; roots = Some 0 ∷ [] })
unfolding bind pure refuse choose from with_fault spanned whole repeat while_more field_desc_at byte_at letter_at class_letter_at class_at type_at base_at utf_at told_object_at told_class_at given_by kind_named due_at string_at field_at fields_at uid_at own_at described_supers no_super_at new_super_at super_at supers_at name_at behind_name_at new_desc_at old_desc_at desc_at kept number_at opened open_at open_slots_at object_at array_at old_content_at content_at slot_at next_at until_done slots_at header_at graph_at built_in_infos built_in_info built_in_class stream_name described_fields class_number parts_number spells text_at has_feature
list = refl

hidden : stream_of demo 1 (0xAC ∷ 0xED ∷ 0 ∷ 5 ∷ 0x73 ∷ 0x72 ∷ 0 ∷ 8 ∷ 0x64 ∷ 0x65 ∷ 0x6D ∷ 0x6F ∷ 0x2E ∷ 0x53 ∷ 0x75 ∷ 0x62 ∷ 0 ∷ 0 ∷ 0 ∷ 0 ∷ 0 ∷ 0 ∷ 0 ∷ 1 ∷ 2 ∷ 0 ∷ 1 ∷ 0x49 ∷ 0 ∷ 1 ∷ 0x76 ∷ 0x78 ∷ 0x72 ∷ 0 ∷ 9 ∷ 0x64 ∷ 0x65 ∷ 0x6D ∷ 0x6F ∷ 0x2E ∷ 0x42 ∷ 0x61 ∷ 0x73 ∷ 0x65 ∷ 0 ∷ 0 ∷ 0 ∷ 0 ∷ 0 ∷ 0 ∷ 0 ∷ 1 ∷ 2 ∷ 0 ∷ 1 ∷ 0x49 ∷ 0 ∷ 1 ∷ 0x76 ∷ 0x78 ∷ 0x70 ∷ 0 ∷ 0 ∷ 0 ∷ 1 ∷ 0 ∷ 0 ∷ 0 ∷ 2 ∷ []) ≡ Ok (record { nodes = (record { kind = class_kind 2; slots = Int (pos 1) ∷ Int (pos 2) ∷ [] }) ∷ []; roots = Some 0 ∷ [] })
unfolding bind pure refuse choose from with_fault spanned whole repeat while_more field_desc_at byte_at letter_at class_letter_at class_at type_at base_at utf_at told_object_at told_class_at given_by kind_named due_at string_at field_at fields_at uid_at own_at described_supers no_super_at new_super_at super_at supers_at name_at behind_name_at new_desc_at old_desc_at desc_at kept number_at opened open_at open_slots_at object_at array_at old_content_at content_at slot_at next_at until_done slots_at header_at graph_at built_in_infos built_in_info built_in_class stream_name described_fields class_number parts_number spells text_at has_feature
hidden = refl

other_number : stream_of demo 1 (0xAC ∷ 0xED ∷ 0 ∷ 5 ∷ 0x73 ∷ 0x72 ∷ 0 ∷ 9 ∷ 0x64 ∷ 0x65 ∷ 0x6D ∷ 0x6F ∷ 0x2E ∷ 0x4E ∷ 0x6F ∷ 0x64 ∷ 0x65 ∷ 0 ∷ 0 ∷ 0 ∷ 0 ∷ 0 ∷ 0 ∷ 0 ∷ 2 ∷ 2 ∷ 0 ∷ 2 ∷ 0x49 ∷ 0 ∷ 1 ∷ 0x76 ∷ 0x4C ∷ 0 ∷ 4 ∷ 0x6E ∷ 0x65 ∷ 0x78 ∷ 0x74 ∷ 0x74 ∷ 0 ∷ 0xB ∷ 0x4C ∷ 0x64 ∷ 0x65 ∷ 0x6D ∷ 0x6F ∷ 0x2F ∷ 0x4E ∷ 0x6F ∷ 0x64 ∷ 0x65 ∷ 0x3B ∷ 0x78 ∷ 0x70 ∷ 0 ∷ 0 ∷ 0 ∷ 1 ∷ 0x73 ∷ 0x71 ∷ 0 ∷ 0x7E ∷ 0 ∷ 0 ∷ 0 ∷ 0 ∷ 0 ∷ 2 ∷ 0x70 ∷ []) ≡ Err (Uid 17)
unfolding bind pure refuse choose from with_fault spanned whole repeat while_more field_desc_at byte_at letter_at class_letter_at class_at type_at base_at utf_at told_object_at told_class_at given_by kind_named due_at string_at field_at fields_at uid_at own_at described_supers no_super_at new_super_at super_at supers_at name_at behind_name_at new_desc_at old_desc_at desc_at kept number_at opened open_at open_slots_at object_at array_at old_content_at content_at slot_at next_at until_done slots_at header_at graph_at built_in_infos built_in_info built_in_class stream_name described_fields class_number parts_number spells text_at has_feature
other_number = refl

other_flags : stream_of demo 1 (0xAC ∷ 0xED ∷ 0 ∷ 5 ∷ 0x73 ∷ 0x72 ∷ 0 ∷ 9 ∷ 0x64 ∷ 0x65 ∷ 0x6D ∷ 0x6F ∷ 0x2E ∷ 0x4E ∷ 0x6F ∷ 0x64 ∷ 0x65 ∷ 0 ∷ 0 ∷ 0 ∷ 0 ∷ 0 ∷ 0 ∷ 0 ∷ 1 ∷ 3 ∷ 0 ∷ 2 ∷ 0x49 ∷ 0 ∷ 1 ∷ 0x76 ∷ 0x4C ∷ 0 ∷ 4 ∷ 0x6E ∷ 0x65 ∷ 0x78 ∷ 0x74 ∷ 0x74 ∷ 0 ∷ 0xB ∷ 0x4C ∷ 0x64 ∷ 0x65 ∷ 0x6D ∷ 0x6F ∷ 0x2F ∷ 0x4E ∷ 0x6F ∷ 0x64 ∷ 0x65 ∷ 0x3B ∷ 0x78 ∷ 0x70 ∷ 0 ∷ 0 ∷ 0 ∷ 1 ∷ 0x73 ∷ 0x71 ∷ 0 ∷ 0x7E ∷ 0 ∷ 0 ∷ 0 ∷ 0 ∷ 0 ∷ 2 ∷ 0x70 ∷ []) ≡ Err (Fields 25)
unfolding bind pure refuse choose from with_fault spanned whole repeat while_more field_desc_at byte_at letter_at class_letter_at class_at type_at base_at utf_at told_object_at told_class_at given_by kind_named due_at string_at field_at fields_at uid_at own_at described_supers no_super_at new_super_at super_at supers_at name_at behind_name_at new_desc_at old_desc_at desc_at kept number_at opened open_at open_slots_at object_at array_at old_content_at content_at slot_at next_at until_done slots_at header_at graph_at built_in_infos built_in_info built_in_class stream_name described_fields class_number parts_number spells text_at has_feature
other_flags = refl

other_count : stream_of demo 1 (0xAC ∷ 0xED ∷ 0 ∷ 5 ∷ 0x73 ∷ 0x72 ∷ 0 ∷ 9 ∷ 0x64 ∷ 0x65 ∷ 0x6D ∷ 0x6F ∷ 0x2E ∷ 0x4E ∷ 0x6F ∷ 0x64 ∷ 0x65 ∷ 0 ∷ 0 ∷ 0 ∷ 0 ∷ 0 ∷ 0 ∷ 0 ∷ 1 ∷ 2 ∷ 0 ∷ 3 ∷ 0x49 ∷ 0 ∷ 1 ∷ 0x76 ∷ 0x4C ∷ 0 ∷ 4 ∷ 0x6E ∷ 0x65 ∷ 0x78 ∷ 0x74 ∷ 0x74 ∷ 0 ∷ 0xB ∷ 0x4C ∷ 0x64 ∷ 0x65 ∷ 0x6D ∷ 0x6F ∷ 0x2F ∷ 0x4E ∷ 0x6F ∷ 0x64 ∷ 0x65 ∷ 0x3B ∷ 0x78 ∷ 0x70 ∷ 0 ∷ 0 ∷ 0 ∷ 1 ∷ 0x73 ∷ 0x71 ∷ 0 ∷ 0x7E ∷ 0 ∷ 0 ∷ 0 ∷ 0 ∷ 0 ∷ 2 ∷ 0x70 ∷ []) ≡ Err (Fields 27)
unfolding bind pure refuse choose from with_fault spanned whole repeat while_more field_desc_at byte_at letter_at class_letter_at class_at type_at base_at utf_at told_object_at told_class_at given_by kind_named due_at string_at field_at fields_at uid_at own_at described_supers no_super_at new_super_at super_at supers_at name_at behind_name_at new_desc_at old_desc_at desc_at kept number_at opened open_at open_slots_at object_at array_at old_content_at content_at slot_at next_at until_done slots_at header_at graph_at built_in_infos built_in_info built_in_class stream_name described_fields class_number parts_number spells text_at has_feature
other_count = refl

other_name : stream_of demo 1 (0xAC ∷ 0xED ∷ 0 ∷ 5 ∷ 0x73 ∷ 0x72 ∷ 0 ∷ 9 ∷ 0x64 ∷ 0x65 ∷ 0x6D ∷ 0x6F ∷ 0x2E ∷ 0x4E ∷ 0x6F ∷ 0x64 ∷ 0x65 ∷ 0 ∷ 0 ∷ 0 ∷ 0 ∷ 0 ∷ 0 ∷ 0 ∷ 1 ∷ 2 ∷ 0 ∷ 2 ∷ 0x49 ∷ 0 ∷ 1 ∷ 0x76 ∷ 0x4C ∷ 0 ∷ 4 ∷ 0x6E ∷ 0x65 ∷ 0x78 ∷ 0x6F ∷ 0x74 ∷ 0 ∷ 0xB ∷ 0x4C ∷ 0x64 ∷ 0x65 ∷ 0x6D ∷ 0x6F ∷ 0x2F ∷ 0x4E ∷ 0x6F ∷ 0x64 ∷ 0x65 ∷ 0x3B ∷ 0x78 ∷ 0x70 ∷ 0 ∷ 0 ∷ 0 ∷ 1 ∷ 0x73 ∷ 0x71 ∷ 0 ∷ 0x7E ∷ 0 ∷ 0 ∷ 0 ∷ 0 ∷ 0 ∷ 2 ∷ 0x70 ∷ []) ≡ Err (Fields 38)
unfolding bind pure refuse choose from with_fault spanned whole repeat while_more field_desc_at byte_at letter_at class_letter_at class_at type_at base_at utf_at told_object_at told_class_at given_by kind_named due_at string_at field_at fields_at uid_at own_at described_supers no_super_at new_super_at super_at supers_at name_at behind_name_at new_desc_at old_desc_at desc_at kept number_at opened open_at open_slots_at object_at array_at old_content_at content_at slot_at next_at until_done slots_at header_at graph_at built_in_infos built_in_info built_in_class stream_name described_fields class_number parts_number spells text_at has_feature
other_name = refl

string_by_handle : stream_of demo 1 (0xAC ∷ 0xED ∷ 0 ∷ 5 ∷ 0x73 ∷ 0x72 ∷ 0 ∷ 9 ∷ 0x64 ∷ 0x65 ∷ 0x6D ∷ 0x6F ∷ 0x2E ∷ 0x4E ∷ 0x6F ∷ 0x64 ∷ 0x65 ∷ 0 ∷ 0 ∷ 0 ∷ 0 ∷ 0 ∷ 0 ∷ 0 ∷ 1 ∷ 2 ∷ 0 ∷ 2 ∷ 0x49 ∷ 0 ∷ 1 ∷ 0x76 ∷ 0x4C ∷ 0 ∷ 4 ∷ 0x6E ∷ 0x65 ∷ 0x78 ∷ 0x74 ∷ 0x71 ∷ 0 ∷ 0xB ∷ 0x4C ∷ 0x64 ∷ 0x65 ∷ 0x6D ∷ 0x6F ∷ 0x2F ∷ 0x4E ∷ 0x6F ∷ 0x64 ∷ 0x65 ∷ 0x3B ∷ 0x78 ∷ 0x70 ∷ 0 ∷ 0 ∷ 0 ∷ 1 ∷ 0x73 ∷ 0x71 ∷ 0 ∷ 0x7E ∷ 0 ∷ 0 ∷ 0 ∷ 0 ∷ 0 ∷ 2 ∷ 0x70 ∷ []) ≡ Err (Fields 39)
unfolding bind pure refuse choose from with_fault spanned whole repeat while_more field_desc_at byte_at letter_at class_letter_at class_at type_at base_at utf_at told_object_at told_class_at given_by kind_named due_at string_at field_at fields_at uid_at own_at described_supers no_super_at new_super_at super_at supers_at name_at behind_name_at new_desc_at old_desc_at desc_at kept number_at opened open_at open_slots_at object_at array_at old_content_at content_at slot_at next_at until_done slots_at header_at graph_at built_in_infos built_in_info built_in_class stream_name described_fields class_number parts_number spells text_at has_feature
string_by_handle = refl

other_end : stream_of demo 1 (0xAC ∷ 0xED ∷ 0 ∷ 5 ∷ 0x73 ∷ 0x72 ∷ 0 ∷ 9 ∷ 0x64 ∷ 0x65 ∷ 0x6D ∷ 0x6F ∷ 0x2E ∷ 0x4E ∷ 0x6F ∷ 0x64 ∷ 0x65 ∷ 0 ∷ 0 ∷ 0 ∷ 0 ∷ 0 ∷ 0 ∷ 0 ∷ 1 ∷ 2 ∷ 0 ∷ 2 ∷ 0x49 ∷ 0 ∷ 1 ∷ 0x76 ∷ 0x4C ∷ 0 ∷ 4 ∷ 0x6E ∷ 0x65 ∷ 0x78 ∷ 0x74 ∷ 0x74 ∷ 0 ∷ 0xB ∷ 0x4C ∷ 0x64 ∷ 0x65 ∷ 0x6D ∷ 0x6F ∷ 0x2F ∷ 0x4E ∷ 0x6F ∷ 0x64 ∷ 0x65 ∷ 0x3B ∷ 0x70 ∷ 0x70 ∷ 0 ∷ 0 ∷ 0 ∷ 1 ∷ 0x73 ∷ 0x71 ∷ 0 ∷ 0x7E ∷ 0 ∷ 0 ∷ 0 ∷ 0 ∷ 0 ∷ 2 ∷ 0x70 ∷ []) ≡ Err (Fields 53)
unfolding bind pure refuse choose from with_fault spanned whole repeat while_more field_desc_at byte_at letter_at class_letter_at class_at type_at base_at utf_at told_object_at told_class_at given_by kind_named due_at string_at field_at fields_at uid_at own_at described_supers no_super_at new_super_at super_at supers_at name_at behind_name_at new_desc_at old_desc_at desc_at kept number_at opened open_at open_slots_at object_at array_at old_content_at content_at slot_at next_at until_done slots_at header_at graph_at built_in_infos built_in_info built_in_class stream_name described_fields class_number parts_number spells text_at has_feature
other_end = refl

slash : stream_of demo 1 (0xAC ∷ 0xED ∷ 0 ∷ 5 ∷ 0x73 ∷ 0x72 ∷ 0 ∷ 9 ∷ 0x64 ∷ 0x65 ∷ 0x6D ∷ 0x6F ∷ 0x2F ∷ 0x4E ∷ 0x6F ∷ 0x64 ∷ 0x65 ∷ 0 ∷ 0 ∷ 0 ∷ 0 ∷ 0 ∷ 0 ∷ 0 ∷ 1 ∷ 2 ∷ 0 ∷ 2 ∷ 0x49 ∷ 0 ∷ 1 ∷ 0x76 ∷ 0x4C ∷ 0 ∷ 4 ∷ 0x6E ∷ 0x65 ∷ 0x78 ∷ 0x74 ∷ 0x74 ∷ 0 ∷ 0xB ∷ 0x4C ∷ 0x64 ∷ 0x65 ∷ 0x6D ∷ 0x6F ∷ 0x2F ∷ 0x4E ∷ 0x6F ∷ 0x64 ∷ 0x65 ∷ 0x3B ∷ 0x78 ∷ 0x70 ∷ 0 ∷ 0 ∷ 0 ∷ 1 ∷ 0x73 ∷ 0x71 ∷ 0 ∷ 0x7E ∷ 0 ∷ 0 ∷ 0 ∷ 0 ∷ 0 ∷ 2 ∷ 0x70 ∷ []) ≡ Err (ClassName 6)
unfolding bind pure refuse choose from with_fault spanned whole repeat while_more field_desc_at byte_at letter_at class_letter_at class_at type_at base_at utf_at told_object_at told_class_at given_by kind_named due_at string_at field_at fields_at uid_at own_at described_supers no_super_at new_super_at super_at supers_at name_at behind_name_at new_desc_at old_desc_at desc_at kept number_at opened open_at open_slots_at object_at array_at old_content_at content_at slot_at next_at until_done slots_at header_at graph_at built_in_infos built_in_info built_in_class stream_name described_fields class_number parts_number spells text_at has_feature
slash = refl

super_missing : stream_of demo 1 (0xAC ∷ 0xED ∷ 0 ∷ 5 ∷ 0x73 ∷ 0x72 ∷ 0 ∷ 8 ∷ 0x64 ∷ 0x65 ∷ 0x6D ∷ 0x6F ∷ 0x2E ∷ 0x53 ∷ 0x75 ∷ 0x62 ∷ 0 ∷ 0 ∷ 0 ∷ 0 ∷ 0 ∷ 0 ∷ 0 ∷ 1 ∷ 2 ∷ 0 ∷ 1 ∷ 0x49 ∷ 0 ∷ 1 ∷ 0x76 ∷ 0x78 ∷ 0x70 ∷ []) ≡ Err (Tag 32 0x70)
unfolding bind pure refuse choose from with_fault spanned whole repeat while_more field_desc_at byte_at letter_at class_letter_at class_at type_at base_at utf_at told_object_at told_class_at given_by kind_named due_at string_at field_at fields_at uid_at own_at described_supers no_super_at new_super_at super_at supers_at name_at behind_name_at new_desc_at old_desc_at desc_at kept number_at opened open_at open_slots_at object_at array_at old_content_at content_at slot_at next_at until_done slots_at header_at graph_at built_in_infos built_in_info built_in_class stream_name described_fields class_number parts_number spells text_at has_feature
super_missing = refl

super_other : stream_of demo 1 (0xAC ∷ 0xED ∷ 0 ∷ 5 ∷ 0x73 ∷ 0x72 ∷ 0 ∷ 8 ∷ 0x64 ∷ 0x65 ∷ 0x6D ∷ 0x6F ∷ 0x2E ∷ 0x53 ∷ 0x75 ∷ 0x62 ∷ 0 ∷ 0 ∷ 0 ∷ 0 ∷ 0 ∷ 0 ∷ 0 ∷ 1 ∷ 2 ∷ 0 ∷ 1 ∷ 0x49 ∷ 0 ∷ 1 ∷ 0x76 ∷ 0x78 ∷ 0x72 ∷ 0 ∷ 9 ∷ 0x64 ∷ 0x65 ∷ 0x6D ∷ 0x6F ∷ 0x2E ∷ 0x4E ∷ 0x6F ∷ 0x64 ∷ 0x65 ∷ []) ≡ Err (ClassName 33)
unfolding bind pure refuse choose from with_fault spanned whole repeat while_more field_desc_at byte_at letter_at class_letter_at class_at type_at base_at utf_at told_object_at told_class_at given_by kind_named due_at string_at field_at fields_at uid_at own_at described_supers no_super_at new_super_at super_at supers_at name_at behind_name_at new_desc_at old_desc_at desc_at kept number_at opened open_at open_slots_at object_at array_at old_content_at content_at slot_at next_at until_done slots_at header_at graph_at built_in_infos built_in_info built_in_class stream_name described_fields class_number parts_number spells text_at has_feature
super_other = refl

abstract_object : stream_of demo 1 (0xAC ∷ 0xED ∷ 0 ∷ 5 ∷ 0x73 ∷ 0x72 ∷ 0 ∷ 9 ∷ 0x64 ∷ 0x65 ∷ 0x6D ∷ 0x6F ∷ 0x2E ∷ 0x42 ∷ 0x61 ∷ 0x73 ∷ 0x65 ∷ []) ≡ Err (ClassName 6)
unfolding bind pure refuse choose from with_fault spanned whole repeat while_more field_desc_at byte_at letter_at class_letter_at class_at type_at base_at utf_at told_object_at told_class_at given_by kind_named due_at string_at field_at fields_at uid_at own_at described_supers no_super_at new_super_at super_at supers_at name_at behind_name_at new_desc_at old_desc_at desc_at kept number_at opened open_at open_slots_at object_at array_at old_content_at content_at slot_at next_at until_done slots_at header_at graph_at built_in_infos built_in_info built_in_class stream_name described_fields class_number parts_number spells text_at has_feature
abstract_object = refl

abstract_by_handle : stream_of demo 2 (0xAC ∷ 0xED ∷ 0 ∷ 5 ∷ 0x73 ∷ 0x72 ∷ 0 ∷ 8 ∷ 0x64 ∷ 0x65 ∷ 0x6D ∷ 0x6F ∷ 0x2E ∷ 0x53 ∷ 0x75 ∷ 0x62 ∷ 0 ∷ 0 ∷ 0 ∷ 0 ∷ 0 ∷ 0 ∷ 0 ∷ 1 ∷ 2 ∷ 0 ∷ 1 ∷ 0x49 ∷ 0 ∷ 1 ∷ 0x76 ∷ 0x78 ∷ 0x72 ∷ 0 ∷ 9 ∷ 0x64 ∷ 0x65 ∷ 0x6D ∷ 0x6F ∷ 0x2E ∷ 0x42 ∷ 0x61 ∷ 0x73 ∷ 0x65 ∷ 0 ∷ 0 ∷ 0 ∷ 0 ∷ 0 ∷ 0 ∷ 0 ∷ 1 ∷ 2 ∷ 0 ∷ 1 ∷ 0x49 ∷ 0 ∷ 1 ∷ 0x76 ∷ 0x78 ∷ 0x70 ∷ 0 ∷ 0 ∷ 0 ∷ 1 ∷ 0 ∷ 0 ∷ 0 ∷ 2 ∷ 0x73 ∷ 0x71 ∷ 0 ∷ 0x7E ∷ 0 ∷ 1 ∷ []) ≡ Err (HandleKind 70)
unfolding bind pure refuse choose from with_fault spanned whole repeat while_more field_desc_at byte_at letter_at class_letter_at class_at type_at base_at utf_at told_object_at told_class_at given_by kind_named due_at string_at field_at fields_at uid_at own_at described_supers no_super_at new_super_at super_at supers_at name_at behind_name_at new_desc_at old_desc_at desc_at kept number_at opened open_at open_slots_at object_at array_at old_content_at content_at slot_at next_at until_done slots_at header_at graph_at built_in_infos built_in_info built_in_class stream_name described_fields class_number parts_number spells text_at has_feature
abstract_by_handle = refl

super_short : stream_of demo 1 (0xAC ∷ 0xED ∷ 0 ∷ 5 ∷ 0x73 ∷ 0x72 ∷ 0 ∷ 8 ∷ 0x64 ∷ 0x65 ∷ 0x6D ∷ 0x6F ∷ 0x2E ∷ 0x53 ∷ 0x75 ∷ 0x62 ∷ 0 ∷ 0 ∷ 0 ∷ 0 ∷ 0 ∷ 0 ∷ 0 ∷ 1 ∷ 2 ∷ 0 ∷ 1 ∷ 0x49 ∷ 0 ∷ 1 ∷ 0x76 ∷ 0x78 ∷ []) ≡ Err (Short 32)
unfolding bind pure refuse choose from with_fault spanned whole repeat while_more field_desc_at byte_at letter_at class_letter_at class_at type_at base_at utf_at told_object_at told_class_at given_by kind_named due_at string_at field_at fields_at uid_at own_at described_supers no_super_at new_super_at super_at supers_at name_at behind_name_at new_desc_at old_desc_at desc_at kept number_at opened open_at open_slots_at object_at array_at old_content_at content_at slot_at next_at until_done slots_at header_at graph_at built_in_infos built_in_info built_in_class stream_name described_fields class_number parts_number spells text_at has_feature
super_short = refl

slot_type_first : stream_of demo 1 (0xAC ∷ 0xED ∷ 0 ∷ 5 ∷ 0x73 ∷ 0x72 ∷ 0 ∷ 9 ∷ 0x64 ∷ 0x65 ∷ 0x6D ∷ 0x6F ∷ 0x2E ∷ 0x4E ∷ 0x6F ∷ 0x64 ∷ 0x65 ∷ 0 ∷ 0 ∷ 0 ∷ 0 ∷ 0 ∷ 0 ∷ 0 ∷ 1 ∷ 2 ∷ 0 ∷ 2 ∷ 0x49 ∷ 0 ∷ 1 ∷ 0x76 ∷ 0x4C ∷ 0 ∷ 4 ∷ 0x6E ∷ 0x65 ∷ 0x78 ∷ 0x74 ∷ 0x74 ∷ 0 ∷ 0xB ∷ 0x4C ∷ 0x64 ∷ 0x65 ∷ 0x6D ∷ 0x6F ∷ 0x2F ∷ 0x4E ∷ 0x6F ∷ 0x64 ∷ 0x65 ∷ 0x3B ∷ 0x78 ∷ 0x70 ∷ 0 ∷ 0 ∷ 0 ∷ 1 ∷ 0x73 ∷ 0x72 ∷ 0 ∷ 8 ∷ 0x64 ∷ 0x65 ∷ 0x6D ∷ 0x6F ∷ 0x2E ∷ 0x53 ∷ 0x75 ∷ 0x62 ∷ 0 ∷ 0 ∷ 0 ∷ 0 ∷ 0 ∷ 0 ∷ 0 ∷ 9 ∷ []) ≡ Err (SlotType 59)
unfolding bind pure refuse choose from with_fault spanned whole repeat while_more field_desc_at byte_at letter_at class_letter_at class_at type_at base_at utf_at told_object_at told_class_at given_by kind_named due_at string_at field_at fields_at uid_at own_at described_supers no_super_at new_super_at super_at supers_at name_at behind_name_at new_desc_at old_desc_at desc_at kept number_at opened open_at open_slots_at object_at array_at old_content_at content_at slot_at next_at until_done slots_at header_at graph_at built_in_infos built_in_info built_in_class stream_name described_fields class_number parts_number spells text_at has_feature
slot_type_first = refl

slot_type_by_handle : stream_of demo 2 (0xAC ∷ 0xED ∷ 0 ∷ 5 ∷ 0x73 ∷ 0x72 ∷ 0 ∷ 8 ∷ 0x64 ∷ 0x65 ∷ 0x6D ∷ 0x6F ∷ 0x2E ∷ 0x53 ∷ 0x75 ∷ 0x62 ∷ 0 ∷ 0 ∷ 0 ∷ 0 ∷ 0 ∷ 0 ∷ 0 ∷ 1 ∷ 2 ∷ 0 ∷ 1 ∷ 0x49 ∷ 0 ∷ 1 ∷ 0x76 ∷ 0x78 ∷ 0x72 ∷ 0 ∷ 9 ∷ 0x64 ∷ 0x65 ∷ 0x6D ∷ 0x6F ∷ 0x2E ∷ 0x42 ∷ 0x61 ∷ 0x73 ∷ 0x65 ∷ 0 ∷ 0 ∷ 0 ∷ 0 ∷ 0 ∷ 0 ∷ 0 ∷ 1 ∷ 2 ∷ 0 ∷ 1 ∷ 0x49 ∷ 0 ∷ 1 ∷ 0x76 ∷ 0x78 ∷ 0x70 ∷ 0 ∷ 0 ∷ 0 ∷ 1 ∷ 0 ∷ 0 ∷ 0 ∷ 2 ∷ 0x73 ∷ 0x72 ∷ 0 ∷ 9 ∷ 0x64 ∷ 0x65 ∷ 0x6D ∷ 0x6F ∷ 0x2E ∷ 0x4E ∷ 0x6F ∷ 0x64 ∷ 0x65 ∷ 0 ∷ 0 ∷ 0 ∷ 0 ∷ 0 ∷ 0 ∷ 0 ∷ 1 ∷ 2 ∷ 0 ∷ 2 ∷ 0x49 ∷ 0 ∷ 1 ∷ 0x76 ∷ 0x4C ∷ 0 ∷ 4 ∷ 0x6E ∷ 0x65 ∷ 0x78 ∷ 0x74 ∷ 0x74 ∷ 0 ∷ 0xB ∷ 0x4C ∷ 0x64 ∷ 0x65 ∷ 0x6D ∷ 0x6F ∷ 0x2F ∷ 0x4E ∷ 0x6F ∷ 0x64 ∷ 0x65 ∷ 0x3B ∷ 0x78 ∷ 0x70 ∷ 0 ∷ 0 ∷ 0 ∷ 1 ∷ 0x73 ∷ 0x71 ∷ 0 ∷ 0x7E ∷ 0 ∷ 0 ∷ []) ≡ Err (SlotType 124)
unfolding bind pure refuse choose from with_fault spanned whole repeat while_more field_desc_at byte_at letter_at class_letter_at class_at type_at base_at utf_at told_object_at told_class_at given_by kind_named due_at string_at field_at fields_at uid_at own_at described_supers no_super_at new_super_at super_at supers_at name_at behind_name_at new_desc_at old_desc_at desc_at kept number_at opened open_at open_slots_at object_at array_at old_content_at content_at slot_at next_at until_done slots_at header_at graph_at built_in_infos built_in_info built_in_class stream_name described_fields class_number parts_number spells text_at has_feature
slot_type_by_handle = refl

slot_type_old : stream_of demo 2 (0xAC ∷ 0xED ∷ 0 ∷ 5 ∷ 0x73 ∷ 0x72 ∷ 0 ∷ 8 ∷ 0x64 ∷ 0x65 ∷ 0x6D ∷ 0x6F ∷ 0x2E ∷ 0x53 ∷ 0x75 ∷ 0x62 ∷ 0 ∷ 0 ∷ 0 ∷ 0 ∷ 0 ∷ 0 ∷ 0 ∷ 1 ∷ 2 ∷ 0 ∷ 1 ∷ 0x49 ∷ 0 ∷ 1 ∷ 0x76 ∷ 0x78 ∷ 0x72 ∷ 0 ∷ 9 ∷ 0x64 ∷ 0x65 ∷ 0x6D ∷ 0x6F ∷ 0x2E ∷ 0x42 ∷ 0x61 ∷ 0x73 ∷ 0x65 ∷ 0 ∷ 0 ∷ 0 ∷ 0 ∷ 0 ∷ 0 ∷ 0 ∷ 1 ∷ 2 ∷ 0 ∷ 1 ∷ 0x49 ∷ 0 ∷ 1 ∷ 0x76 ∷ 0x78 ∷ 0x70 ∷ 0 ∷ 0 ∷ 0 ∷ 1 ∷ 0 ∷ 0 ∷ 0 ∷ 2 ∷ 0x73 ∷ 0x72 ∷ 0 ∷ 9 ∷ 0x64 ∷ 0x65 ∷ 0x6D ∷ 0x6F ∷ 0x2E ∷ 0x4E ∷ 0x6F ∷ 0x64 ∷ 0x65 ∷ 0 ∷ 0 ∷ 0 ∷ 0 ∷ 0 ∷ 0 ∷ 0 ∷ 1 ∷ 2 ∷ 0 ∷ 2 ∷ 0x49 ∷ 0 ∷ 1 ∷ 0x76 ∷ 0x4C ∷ 0 ∷ 4 ∷ 0x6E ∷ 0x65 ∷ 0x78 ∷ 0x74 ∷ 0x74 ∷ 0 ∷ 0xB ∷ 0x4C ∷ 0x64 ∷ 0x65 ∷ 0x6D ∷ 0x6F ∷ 0x2F ∷ 0x4E ∷ 0x6F ∷ 0x64 ∷ 0x65 ∷ 0x3B ∷ 0x78 ∷ 0x70 ∷ 0 ∷ 0 ∷ 0 ∷ 1 ∷ 0x71 ∷ 0 ∷ 0x7E ∷ 0 ∷ 2 ∷ []) ≡ Err (SlotType 124)
unfolding bind pure refuse choose from with_fault spanned whole repeat while_more field_desc_at byte_at letter_at class_letter_at class_at type_at base_at utf_at told_object_at told_class_at given_by kind_named due_at string_at field_at fields_at uid_at own_at described_supers no_super_at new_super_at super_at supers_at name_at behind_name_at new_desc_at old_desc_at desc_at kept number_at opened open_at open_slots_at object_at array_at old_content_at content_at slot_at next_at until_done slots_at header_at graph_at built_in_infos built_in_info built_in_class stream_name described_fields class_number parts_number spells text_at has_feature
slot_type_old = refl

bit : stream_of demo 1 (0xAC ∷ 0xED ∷ 0 ∷ 5 ∷ 0x73 ∷ 0x72 ∷ 0 ∷ 8 ∷ 0x64 ∷ 0x65 ∷ 0x6D ∷ 0x6F ∷ 0x2E ∷ 0x42 ∷ 0x69 ∷ 0x74 ∷ 0 ∷ 0 ∷ 0 ∷ 0 ∷ 0 ∷ 0 ∷ 0 ∷ 1 ∷ 2 ∷ 0 ∷ 1 ∷ 0x5A ∷ 0 ∷ 1 ∷ 0x62 ∷ 0x78 ∷ 0x70 ∷ 1 ∷ []) ≡ Ok (record { nodes = (record { kind = class_kind 3; slots = Int (pos 1) ∷ [] }) ∷ []; roots = Some 0 ∷ [] })
unfolding bind pure refuse choose from with_fault spanned whole repeat while_more field_desc_at byte_at letter_at class_letter_at class_at type_at base_at utf_at told_object_at told_class_at given_by kind_named due_at string_at field_at fields_at uid_at own_at described_supers no_super_at new_super_at super_at supers_at name_at behind_name_at new_desc_at old_desc_at desc_at kept number_at opened open_at open_slots_at object_at array_at old_content_at content_at slot_at next_at until_done slots_at header_at graph_at built_in_infos built_in_info built_in_class stream_name described_fields class_number parts_number spells text_at has_feature
bit = refl

no_bit : stream_of demo 1 (0xAC ∷ 0xED ∷ 0 ∷ 5 ∷ 0x73 ∷ 0x72 ∷ 0 ∷ 8 ∷ 0x64 ∷ 0x65 ∷ 0x6D ∷ 0x6F ∷ 0x2E ∷ 0x42 ∷ 0x69 ∷ 0x74 ∷ 0 ∷ 0 ∷ 0 ∷ 0 ∷ 0 ∷ 0 ∷ 0 ∷ 1 ∷ 2 ∷ 0 ∷ 1 ∷ 0x5A ∷ 0 ∷ 1 ∷ 0x62 ∷ 0x78 ∷ 0x70 ∷ 2 ∷ []) ≡ Err (SlotType 33)
unfolding bind pure refuse choose from with_fault spanned whole repeat while_more field_desc_at byte_at letter_at class_letter_at class_at type_at base_at utf_at told_object_at told_class_at given_by kind_named due_at string_at field_at fields_at uid_at own_at described_supers no_super_at new_super_at super_at supers_at name_at behind_name_at new_desc_at old_desc_at desc_at kept number_at opened open_at open_slots_at object_at array_at old_content_at content_at slot_at next_at until_done slots_at header_at graph_at built_in_infos built_in_info built_in_class stream_name described_fields class_number parts_number spells text_at has_feature
no_bit = refl
