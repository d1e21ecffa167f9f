-- Graphs of objects that a program has (JVM Specification 2.3, 2.4; the form of a graph is the project's own).
use Rattle.std.specs.Prelude.{◌≡◌, ℕ, ◌≤◌, length, Bool, true, false, Some, IsSomeAnd, T, slice_get}
use Rattle.std.specs.Int.{w32, w64}
use Rattle.std.specs.Int.RustNames.{FitsSigned}
use Rattle.std.specs.List.{AllByRecursion}
use Rattle.nr_linked.specs.declared.program.kind.Base.{Base}
use Rattle.nr_linked.specs.declared.program.kind.Base.TheVariants as bases
use Rattle.nr_linked.specs.declared.program.kind.Kind.{Kind}
use Rattle.nr_linked.specs.declared.program.tables.ProgramTables.{ProgramTables}
use Rattle.nr_linked.specs.Kinds.{is_reference}
use Rattle.nr_linked.specs.Sendable.{is_sendable}
use Rattle.nr_linked.specs.Subtypes.{is_assignable}
use Rattle.nr_model.specs.Belonging.{InRange}
use Rattle.nr_model.specs.Outcomes.{max_cells}
use Rattle.nr_model.specs.TypedHeaps.{Counts}
use Rattle.nr_graph.specs.declared.graph.Slot.{Slot}
use Rattle.nr_graph.specs.declared.graph.Slot.TheVariants.{Int, Long, Null, Node as At}
use Rattle.nr_graph.specs.declared.graph.Node.{Node}
use Rattle.nr_graph.specs.declared.graph.Graph.{Graph}
use Rattle.nr_graph.specs.Graphs.{IsWithin, IsInOrder, graph_cells, node_kind}
use Rattle.nr_graph.specs.StreamOrder.{stream_kind}

-- a number of the primitive type: in its range, and of no more bits than a stream writes
abbrev pub IsNumber : Base → Slot → Type 0
IsNumber bases.Long (Long n) = FitsSigned w64 n
IsNumber bases.Long s = ⊥
IsNumber base (Int n) = InRange base n × FitsSigned w32 n
IsNumber base s = ⊥

-- null, or a node that goes where the kind is wanted
abbrev pub IsLink : ProgramTables → Graph → Kind → Slot → Type 0
IsLink P g kind Null = Unit {0}
IsLink P g kind (At i) = IsSomeAnd (node_kind g i) (λ k. T (is_assignable P k kind))
IsLink P g kind s = ⊥

abbrev pub SlotFits : ProgramTables → Graph → Kind → Slot → Type 0
SlotFits P g kind s = by_sort (is_reference kind)
  where
    by_sort : Bool → Type 0
    by_sort true = IsLink P g kind s
    by_sort false = IsNumber kind.base s

-- An array of a kind of the program and at most 255 dimensions, or an object of a class that can have objects, with its
-- slots; and each slot holds what belongs to it.
pub record NodeFits (P : ProgramTables) (g : Graph) (n : Node) : Type 0 where
  pub dims : n.kind.dims ≤ 255
  pub count : Counts P n.kind (length n.slots)
  pub slots : (k : ℕ) (s : Slot) → slice_get n.slots k ≡ Some s → IsSomeAnd (stream_kind P n.kind k) (λ kind. SlotFits P g kind s)

pub record GraphFits (P : ProgramTables) (g : Graph) : Type 0 where
  pub within : IsWithin g
  pub nodes : AllByRecursion (NodeFits P g) g.nodes

abbrev pub AllSendable : ProgramTables → Graph → Type 0
AllSendable P g = AllByRecursion (λ n. T (is_sendable P n.kind)) g.nodes

-- what a stream can spell
pub record IsSpellable (P : ProgramTables) (g : Graph) : Type 0 where
  pub fits : GraphFits P g
  pub order : IsInOrder g
  pub sendable : AllSendable P g
  pub cells : graph_cells g ≤ max_cells
