-- Reading a stream, with the first fault: Java Object Serialization Specification 6.4, in the project's profile.
use Rattle.std.specs.Prelude.{ℕ, zero, suc, ◌+◌, ◌^◌, List, [], ◌∷◌, ◌++◌, length, map, Bool, true, false, ◌==◌, nat_le, Option, Some, None, Result, Ok, Err, slice_get, slice_set, replicate, if◌then◌else◌}
use Rattle.std.specs.Int.{w8, w16, w32, w64, cast_signed}
use Rattle.std.specs.Option.{option_map_or}
use Rattle.std.specs.Str.{bytes_eq}
use Rattle.nr_base.specs.Reader.{Reader, after, ◌>>=◌, pure, refuse, choose, from, with_fault, whole}
use Rattle.nr_base.specs.Bytes.{run_at}
use Rattle.nr_linked.specs.declared.program.built_in.BuiltIn.TheVariants as built_ins
use Rattle.nr_linked.specs.declared.program.kind.Base.{Base}
use Rattle.nr_linked.specs.declared.program.kind.Base.TheVariants as bases
use Rattle.nr_linked.specs.declared.program.kind.Kind.{Kind}
use Rattle.nr_linked.specs.declared.program.tables.ProgramTables.{ProgramTables}
use Rattle.nr_linked.specs.BuiltIns.{built_in}
use Rattle.nr_linked.specs.Kinds.{class_in, class_kind, element_of, is_reference}
use Rattle.nr_linked.specs.Subtypes.{is_assignable}
use Rattle.nr_graph.specs.declared.graph.Slot.{Slot}
use Rattle.nr_graph.specs.declared.graph.Slot.TheVariants.{Int, Long, Null, Node as At}
use Rattle.nr_graph.specs.declared.graph.Node.{Node}
use Rattle.nr_graph.specs.declared.graph.Graph.{Graph}
use Rattle.nr_graph.specs.Graphs.{node_at}
use Rattle.nr_serform.specs.Entries.{Object}
use Rattle.nr_serform.specs.Handles.{Table}
use Rattle.nr_serform.specs.Streams.{header}
use Rattle.nr_serform.specs.StreamSlots.{stream_kinds}
use Rattle.nr_serread.specs.declared.due.Due.{Due}
use Rattle.nr_serread.specs.declared.fault.StreamFault.{StreamFault}
use Rattle.nr_serread.specs.declared.fault.StreamFault.TheVariants as faults
use Rattle.nr_serread.specs.Faults.{of_short}
use Rattle.nr_serread.specs.Items.{Read, u1_at, u2_at, u4_at, u8_at, told_object_at}
use Rattle.nr_serread.specs.Describing.{desc_at}

-- What was read so far: nodes and roots with the slots that were read, what has a handle, how many cells all these nodes
-- have, and the slots that are due, in their order.
pub record State : Type 0 where
  pub graph : Graph
  pub table : Table
  pub cells : ℕ
  pub due : List Due

-- ---- a slot that was read

abbrev pub add_slot : ℕ → Slot → List Node → List Node
add_slot i s nodes = option_map_or (λ n. slice_set nodes i (record { kind = n.kind; slots = n.slots ++ s ∷ [] })) (slice_get nodes i) nodes

abbrev pub root_of : Slot → Option ℕ
root_of (At i) = Some i
root_of s = None

abbrev pub with_slot : Option ℕ → Slot → Graph → Graph
with_slot None s g = record { nodes = g.nodes; roots = g.roots ++ root_of s ∷ [] }
with_slot (Some i) s g = record { nodes = add_slot i s g.nodes; roots = g.roots }

-- the slot that was due holds this
unfoldable pub kept : Due → Slot → State → State
kept d x s = record { graph = with_slot d.owner x s.graph; table = s.table; cells = s.cells; due = s.due }

-- ---- numbers

-- a boolean is 0 or 1; a class is no type of numbers
unfoldable pub number_at : Base → Read Slot
number_at bases.Bool = from (λ at. u1_at >>= λ n. choose (nat_le n 1) (pure (Int (cast_signed w32 n))) (refuse (faults.SlotType at)))
number_at bases.Byte = u1_at >>= λ n. pure (Int (cast_signed w8 n))
number_at bases.Char = u2_at >>= λ n. pure (Int (cast_signed w32 n))
number_at bases.Short = u2_at >>= λ n. pure (Int (cast_signed w16 n))
number_at bases.Int = u4_at >>= λ n. pure (Int (cast_signed w32 n))
number_at bases.Long = u8_at >>= λ n. pure (Long (cast_signed w64 n))
number_at (bases.Object c) = pure Null

-- ---- new nodes

abbrev pub slots_due : ℕ → List Kind → List Due
slots_due i kinds = map (λ k. record { owner = Some i; kind = k }) kinds

abbrev pub elements_due : ℕ → Kind → ℕ → List Due
elements_due i kind size = option_map_or (λ k. replicate size (record { owner = Some i; kind = k })) (element_of kind) []

-- The slot that was due holds a new node of the kind, whose slots, so many, are due next.
unfoldable pub opened : Due → Kind → Table → ℕ → List Due → State → State
opened d kind table count slots s = record {
  graph = record {
    nodes = (with_slot d.owner (At (length s.graph.nodes)) s.graph).nodes ++ record { kind = kind; slots = [] } ∷ [];
    roots = (with_slot d.owner (At (length s.graph.nodes)) s.graph).roots;
  };
  table = table ++ Object (length s.graph.nodes) ∷ [];
  cells = s.cells + (count + 1);
  due = slots ++ s.due;
}

-- the same, unless there are too many cells then
unfoldable pub open_at : Due → ℕ → Kind → Table → ℕ → List Due → State → Read State
open_at d start kind table count slots s =
    choose (nat_le (s.cells + (count + 1)) (2 ^ 20)) (pure (opened d kind table count slots s)) (refuse (faults.LimitCells start))

unfoldable pub open_slots_at : Due → ℕ → Kind → Table → List Kind → State → Read State
open_slots_at d start kind table kinds s = open_at d start kind table (length kinds) (slots_due (length s.graph.nodes) kinds) s

unfoldable pub object_at : ProgramTables → Due → ℕ → State → Read State
object_at P d start s = desc_at P false d.kind start s.table >>= λ r.
    open_slots_at d start r.0 r.1 (option_map_or (stream_kinds P) (class_in r.0.base) []) s

unfoldable pub array_at : ProgramTables → Due → ℕ → State → Read State
array_at P d start s = desc_at P true d.kind start s.table >>= λ r. from (λ at. u4_at >>= λ size.
    choose (nat_le size 2147483647)
    (open_at d start r.0 r.1 size (elements_due (length s.graph.nodes) r.0 size) s)
    (refuse (faults.Length at)))

-- ---- contents

-- a node that has a handle, behind the tag 71 at `start`
unfoldable pub old_content_at : ProgramTables → Due → ℕ → State → Read State
old_content_at P d start s = told_object_at start s.table >>= λ i.
    choose (option_map_or (λ n. is_assignable P n.kind d.kind) (node_at s.graph i) false) (pure (kept d (At i) s)) (refuse (faults.SlotType start))

unfoldable pub content_at : ProgramTables → Due → State → Read State
content_at P d s = from (λ at. u1_at >>= λ tag.
    choose (tag == 0x70) (pure (kept d Null s))
    (choose (tag == 0x71) (old_content_at P d at s)
    (choose (tag == 0x73) (object_at P d at s)
    (choose (tag == 0x75) (array_at P d at s)
    (refuse (faults.Tag at tag))))))

unfoldable pub slot_at : ProgramTables → Due → State → Read State
slot_at P d s = choose (is_reference d.kind) (content_at P d s) (number_at d.kind.base >>= λ x. pure (kept d x s))

-- ---- streams

abbrev pub is_done : State → Bool
is_done s = is_none_due s.due
  where
    is_none_due : List Due → Bool
    is_none_due [] = true
    is_none_due (d ∷ ds) = false

unfoldable pub next_at : ProgramTables → State → Read State
next_at P s = by_due s.due
  where
    by_due : List Due → Read State
    by_due [] = pure s
    by_due (d ∷ ds) = slot_at P d (record { graph = s.graph; table = s.table; cells = s.cells; due = ds })

-- a step until a test says that it is done, or so many times
unfoldable pub until_done : {S F : Type 0} → (S → Bool) → (S → Reader F S) → ℕ → S → Reader F S
until_done done step zero s p = Ok (s, p)
until_done done step (suc k) s p = if done s then Ok (s, p) else after (step s p) (λ t. until_done done step k t)

-- Slot by slot until none is due. A slot has a byte or more, so that there are no more steps than bytes, and one.
unfoldable pub slots_at : ProgramTables → State → Read State
slots_at P s p = until_done is_done (next_at P) (suc (length p.rest)) s p

unfoldable pub header_at : Read (List ℕ)
header_at = with_fault of_short (run_at 4) >>= λ h. choose (bytes_eq h header) (pure h) (refuse faults.Header)

-- any object may be a root
abbrev pub root_due : ProgramTables → Due
root_due P = record { owner = None; kind = class_kind (built_in P built_ins.Object) }

abbrev pub first_state : ProgramTables → ℕ → State
first_state P roots = record {
  graph = record { nodes = []; roots = [] };
  table = [];
  cells = 0;
  due = replicate roots (root_due P);
}

unfoldable pub graph_at : ProgramTables → ℕ → Read Graph
graph_at P roots = header_at >>= λ _. slots_at P (first_state P roots) >>= λ s. pure s.graph

-- the graph of a text with so many roots, or its first fault
abbrev pub stream_of : ProgramTables → ℕ → List ℕ → Result Graph StreamFault
stream_of P roots = whole faults.Trailing (graph_at P roots)
