-- the stream of a list of two nodes, and of an object whose class hides a field
use Rattle.std.proofs.Common.{◌≡◌, ◌++◌, ℕ, pos, List, [], ◌∷◌, true, refl, Some, codes}
use Rattle.nr_prog.specs.declared.parts.ClassParts.{ClassParts}
use Rattle.nr_prog.specs.declared.pool.PoolEntry.TheVariants as pool
use Rattle.nr_prog.specs.Members.{spells}
use Rattle.nr_prog.specs.Pool.{text_at}
use Rattle.nr_linked.specs.declared.program.kind.Base.TheVariants as bases
use Rattle.nr_linked.specs.declared.program.kind.Kind.{Kind}
use Rattle.nr_linked.specs.declared.program.tables.ClassInfo.{ClassInfo}
use Rattle.nr_linked.specs.declared.program.tables.ProgramTables.{ProgramTables}
use Rattle.nr_linked.specs.declared.program.tables.SlotInfo.{SlotInfo}
use Rattle.nr_linked.specs.BuiltInTables.{built_in_infos, built_in_info}
use Rattle.nr_linked.specs.BuiltIns.{built_in_class}
use Rattle.nr_linked.specs.Kinds.{class_kind}
use Rattle.nr_graph.specs.declared.graph.Slot.TheVariants.{Int, Null, Node as At}
use Rattle.nr_graph.specs.declared.graph.Graph.{Graph}
use Rattle.nr_graph.specs.Graphs.{root_slots}
use Rattle.nr_serform.specs.Entries.{Class, Text, Object}
use Rattle.nr_serform.specs.ClassNumbers.{class_number, parts_number}
use Rattle.nr_serform.specs.Descriptions.{Describes, nothing, again as described_again, anew as described, described_super, stream_name, described_fields}
use Rattle.nr_serform.specs.Handles.{Table}
use Rattle.nr_serform.specs.Spelling.{Spell, over, plain, null, anew, items_of}
use Rattle.nr_serform.specs.Streams.{header, root_items}

abbrev int_kind : Kind
int_kind = record { dims = 0; base = bases.Int }

-- a class file with just `static final long serialVersionUID = 1`
abbrev numbered : ClassParts
numbered = record {
  pool = pool.Utf8 (codes "serialVersionUID") ∷ pool.Utf8 (codes "J") ∷ pool.Long (pos 1) ∷ pool.Unused ∷ [];
  flags = 0x0021;
  this_class = 0;
  super_class = 0;
  interfaces = [];
  fields = (record { flags = 0x0018; name = 1; desc = 2; constant = 3 }) ∷ [];
  methods = [];
}

abbrev value_of : ℕ → SlotInfo
value_of c = record { declared_in = c; name = codes "v"; desc = codes "I"; kind = int_kind }

abbrev next : SlotInfo
next = record { declared_in = 0; name = codes "next"; desc = codes "Ldemo/Node;"; kind = class_kind 0 }

abbrev class_of : List ℕ → ℕ → List SlotInfo → ClassInfo
class_of name above slots = record { name = name; flags = 0x0021; super_class = Some above; interfaces = []; supers = []; slots = slots; first_method = 0; methods = 0; read = Some numbered }

-- its fields stand the other way round in the class file
abbrev demo : ProgramTables
demo = record {
  classes = class_of (codes "demo/Node") 3 (next ∷ value_of 0 ∷ []) ∷ class_of (codes "demo/Base") 3 (value_of 1 ∷ [])
      ∷ class_of (codes "demo/Sub") 1 (value_of 1 ∷ value_of 2 ∷ []) ∷ built_in_infos 3 0;
  methods = [];
}

abbrev two : Graph
two = record { nodes = (record { kind = class_kind 0; slots = Int (pos 1) ∷ At 1 ∷ [] }) ∷ (record { kind = class_kind 0; slots = Int (pos 2) ∷ Null ∷ [] }) ∷ []; roots = Some 0 ∷ [] }

abbrev node_text : List ℕ
node_text = 0x72 ∷ 0 ∷ 9 ∷ (codes "demo.Node" ++ 0 ∷ 0 ∷ 0 ∷ 0 ∷ 0 ∷ 0 ∷ 0 ∷ 1 ∷ 2 ∷ 0 ∷ 2 ∷ 0x49 ∷ 0 ∷ 1 ∷ 0x76 ∷ 0x4C ∷ 0 ∷ 4 ∷ 0x6E ∷ 0x65 ∷ 0x78 ∷ 0x74 ∷ 0x74 ∷ 0 ∷ 0x0B ∷
    0x4C ∷ 0x64 ∷ 0x65 ∷ 0x6D ∷ 0x6F ∷ 0x2F ∷ 0x4E ∷ 0x6F ∷ 0x64 ∷ 0x65 ∷ 0x3B ∷ 0x78 ∷ 0x70 ∷ [])

abbrev node_table : Table
node_table = Class (class_kind 0) ∷ Text (codes "Ldemo/Node;") ∷ []

described_node : Describes demo true (Some (class_kind 0)) [] node_text node_table
unfolding described_super stream_name described_fields class_number parts_number built_in_infos spells text_at
described_node = described 1 refl refl (nothing refl) refl

abbrev two_text : List ℕ
two_text = 0x73 ∷ (node_text ++ 0 ∷ 0 ∷ 0 ∷ 1 ∷ 0x73 ∷ 0x71 ∷ 0 ∷ 0x7E ∷ 0 ∷ 0 ∷ 0 ∷ 0 ∷ 0 ∷ 2 ∷ 0x70 ∷ [])

-- the 70 bytes
two_bytes : header ++ two_text ≡
    0xAC ∷ 0xED ∷ 0x00 ∷ 0x05 ∷ 0x73 ∷ 0x72 ∷ 0x00 ∷ 0x09 ∷ 0x64 ∷ 0x65 ∷ 0x6D ∷ 0x6F ∷ 0x2E ∷ 0x4E ∷ 0x6F ∷ 0x64 ∷
    0x65 ∷ 0x00 ∷ 0x00 ∷ 0x00 ∷ 0x00 ∷ 0x00 ∷ 0x00 ∷ 0x00 ∷ 0x01 ∷ 0x02 ∷ 0x00 ∷ 0x02 ∷ 0x49 ∷ 0x00 ∷ 0x01 ∷ 0x76 ∷
    0x4C ∷ 0x00 ∷ 0x04 ∷ 0x6E ∷ 0x65 ∷ 0x78 ∷ 0x74 ∷ 0x74 ∷ 0x00 ∷ 0x0B ∷ 0x4C ∷ 0x64 ∷ 0x65 ∷ 0x6D ∷ 0x6F ∷ 0x2F ∷
    0x4E ∷ 0x6F ∷ 0x64 ∷ 0x65 ∷ 0x3B ∷ 0x78 ∷ 0x70 ∷ 0x00 ∷ 0x00 ∷ 0x00 ∷ 0x01 ∷ 0x73 ∷ 0x71 ∷ 0x00 ∷ 0x7E ∷ 0x00 ∷
    0x00 ∷ 0x00 ∷ 0x00 ∷ 0x00 ∷ 0x02 ∷ 0x70 ∷ []
two_bytes = refl

pub two_spelled : Spell demo true two (root_items demo (root_slots two.roots)) [] two_text (node_table ++ Object 0 ∷ Object 1 ∷ [])
unfolding items_of built_in_infos built_in_info built_in_class
two_spelled =
    anew refl refl refl refl described_node refl
    (plain (0 ∷ 0 ∷ 0 ∷ 1 ∷ []) refl refl refl
    (anew refl refl refl refl (described_again refl refl) refl
    (plain (0 ∷ 0 ∷ 0 ∷ 2 ∷ []) refl refl refl (null refl refl (over refl))) (over refl)))
    (over refl)

abbrev hidden : Graph
hidden = record { nodes = (record { kind = class_kind 2; slots = Int (pos 1) ∷ Int (pos 2) ∷ [] }) ∷ []; roots = Some 0 ∷ [] }

abbrev sub_text : List ℕ
sub_text = 0x72 ∷ 0 ∷ 8 ∷ (codes "demo.Sub" ++ 0 ∷ 0 ∷ 0 ∷ 0 ∷ 0 ∷ 0 ∷ 0 ∷ 1 ∷ 2 ∷ 0 ∷ 1 ∷ 0x49 ∷ 0 ∷ 1 ∷ 0x76 ∷ 0x78 ∷
    0x72 ∷ 0 ∷ 9 ∷ (codes "demo.Base" ++ 0 ∷ 0 ∷ 0 ∷ 0 ∷ 0 ∷ 0 ∷ 0 ∷ 1 ∷ 2 ∷ 0 ∷ 1 ∷ 0x49 ∷ 0 ∷ 1 ∷ 0x76 ∷ 0x78 ∷ 0x70 ∷ []))

described_sub : Describes demo true (Some (class_kind 2)) [] sub_text (Class (class_kind 2) ∷ Class (class_kind 1) ∷ [])
unfolding described_super stream_name described_fields class_number parts_number built_in_infos spells text_at
described_sub = described 1 refl refl (described 1 refl refl (nothing refl) refl) refl

abbrev hidden_text : List ℕ
hidden_text = 0x73 ∷ (sub_text ++ 0 ∷ 0 ∷ 0 ∷ 1 ∷ 0 ∷ 0 ∷ 0 ∷ 2 ∷ [])

-- the 69 bytes
hidden_bytes : header ++ hidden_text ≡
    0xAC ∷ 0xED ∷ 0x00 ∷ 0x05 ∷ 0x73 ∷ 0x72 ∷ 0x00 ∷ 0x08 ∷ 0x64 ∷ 0x65 ∷ 0x6D ∷ 0x6F ∷ 0x2E ∷ 0x53 ∷ 0x75 ∷ 0x62 ∷
    0x00 ∷ 0x00 ∷ 0x00 ∷ 0x00 ∷ 0x00 ∷ 0x00 ∷ 0x00 ∷ 0x01 ∷ 0x02 ∷ 0x00 ∷ 0x01 ∷ 0x49 ∷ 0x00 ∷ 0x01 ∷ 0x76 ∷ 0x78 ∷
    0x72 ∷ 0x00 ∷ 0x09 ∷ 0x64 ∷ 0x65 ∷ 0x6D ∷ 0x6F ∷ 0x2E ∷ 0x42 ∷ 0x61 ∷ 0x73 ∷ 0x65 ∷ 0x00 ∷ 0x00 ∷ 0x00 ∷ 0x00 ∷
    0x00 ∷ 0x00 ∷ 0x00 ∷ 0x01 ∷ 0x02 ∷ 0x00 ∷ 0x01 ∷ 0x49 ∷ 0x00 ∷ 0x01 ∷ 0x76 ∷ 0x78 ∷ 0x70 ∷ 0x00 ∷ 0x00 ∷ 0x00 ∷
    0x01 ∷ 0x00 ∷ 0x00 ∷ 0x00 ∷ 0x02 ∷ []
hidden_bytes = refl

pub hidden_spelled : Spell demo true hidden (root_items demo (root_slots hidden.roots)) [] hidden_text (Class (class_kind 2) ∷ Class (class_kind 1) ∷ Object 0 ∷ [])
unfolding items_of built_in_infos built_in_info built_in_class
hidden_spelled =
    anew refl refl refl refl described_sub refl
    (plain (0 ∷ 0 ∷ 0 ∷ 1 ∷ []) refl refl refl (plain (0 ∷ 0 ∷ 0 ∷ 2 ∷ []) refl refl refl (over refl)))
    (over refl)
