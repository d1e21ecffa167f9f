-- the stream of one array of one int, and of the same twice
use Rattle.std.proofs.Common.{◌++◌, ℕ, pos, List, [], ◌∷◌, true, refl, Some}
use Rattle.nr_linked.specs.declared.program.kind.Base.TheVariants as bases
use Rattle.nr_linked.specs.declared.program.kind.Kind.{Kind}
use Rattle.nr_linked.specs.declared.program.tables.ProgramTables.{ProgramTables}
use Rattle.nr_graph.specs.declared.graph.Slot.TheVariants.{Int}
use Rattle.nr_graph.specs.declared.graph.Node.{Node}
use Rattle.nr_graph.specs.declared.graph.Graph.{Graph}
use Rattle.nr_graph.specs.Graphs.{root_slots}
use Rattle.nr_serform.specs.Entries.{Class, Object}
use Rattle.nr_serform.specs.Descriptions.{Describes, nothing, anew as described, described_super, stream_name, described_fields}
use Rattle.nr_serform.specs.Handles.{Table}
use Rattle.nr_serform.specs.Spelling.{Spell, over, plain, again, anew, items_of}
use Rattle.nr_serform.specs.Streams.{root_items}

abbrev ints : Kind
ints = record { dims = 1; base = bases.Int }

abbrev one : Node
one = record { kind = ints; slots = Int (pos 1) ∷ [] }

abbrev twice : Graph
twice = record { nodes = one ∷ []; roots = Some 0 ∷ Some 0 ∷ [] }

abbrev table_after : Table
table_after = Class ints ∷ Object 0 ∷ []

-- 72 0002 5B49, the number 0, 02 0000 78 70
abbrev description : List ℕ
description = 0x72 ∷ 0 ∷ 2 ∷ 0x5B ∷ 0x49 ∷ 0 ∷ 0 ∷ 0 ∷ 0 ∷ 0 ∷ 0 ∷ 0 ∷ 0 ∷ 2 ∷ 0 ∷ 0 ∷ 0x78 ∷ 0x70 ∷ []

described_ints : (P : ProgramTables) → Describes P true (Some ints) [] description (Class ints ∷ [])
unfolding described_super stream_name described_fields
described_ints P = described 0 refl refl (nothing refl) refl

-- 75, the description, 00000001 00000001, and then 71 007E0001
pub twice_spelled : (P : ProgramTables) → Spell P true twice (root_items P (root_slots twice.roots)) []
    (0x75 ∷ (description ++ 0 ∷ 0 ∷ 0 ∷ 1 ∷ 0 ∷ 0 ∷ 0 ∷ 1 ∷ 0x71 ∷ 0 ∷ 0x7E ∷ 0 ∷ 1 ∷ [])) table_after
unfolding items_of
twice_spelled P =
    anew refl refl refl refl (described_ints P) refl
    (plain (0 ∷ 0 ∷ 0 ∷ 1 ∷ []) refl refl refl (over refl))
    (again refl refl refl (over refl))
