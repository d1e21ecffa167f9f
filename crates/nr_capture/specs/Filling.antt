-- Objects of nodes while their slots are filled.
use Rattle.std.specs.Prelude.{◌≡◌, ◌⊎◌, ℕ, ◌<◌, List, Some, IsSomeAnd, slice_get}
use Rattle.std.specs.FinMap.{get}
use Rattle.nr_linked.specs.declared.program.tables.ProgramTables.{ProgramTables}
use Rattle.nr_model.specs.Heaps.{Has, Heap, Obj}
use Rattle.nr_model.specs.TypedHeaps.{TypedHeap}
use Rattle.nr_graph.specs.declared.graph.Slot.{Slot}
use Rattle.nr_graph.specs.declared.graph.Node.{Node}
use Rattle.nr_graph.specs.declared.graph.Graph.{Graph}
use Rattle.nr_graph.specs.Pictures.{Draws}
use Rattle.nr_graph.specs.StreamOrder.{stream_place}
use Rattle.nr_capture.specs.Making.{AreOf}

-- slot l of node j comes before slot k of node i
abbrev pub IsBefore : ℕ → ℕ → ℕ → ℕ → Type 0
IsBefore j l i k = (j < i) ⊎ ((j ≡ i) × (l < k))

-- an object for each node, in which all slots before slot k of node i show what the graph says
pub record IsFilled (P : ProgramTables) (names : List ℕ) (g : Graph) (i k : ℕ) (h : Heap) : Type 0 where
  pub typed : TypedHeap P h
  pub made : AreOf h names g.nodes
  pub drawn : (j l x : ℕ) (o : Obj) (n : Node) (s : Slot) → IsBefore j l i k → slice_get names j ≡ Some x → get h x ≡ Some o
      → slice_get g.nodes j ≡ Some n → slice_get n.slots l ≡ Some s
      → IsSomeAnd (stream_place P n.kind l) (λ p. IsSomeAnd (slice_get o.slots p) (λ v. Draws names v s))

-- only objects of these names have changed
abbrev pub ChangesOnly : List ℕ → Heap → Heap → Type 0
ChangesOnly names old new = (x : ℕ) → (Has names x → ⊥) → get new x ≡ get old x
