-- New objects of nodes, whose slots aren't filled yet.
use Rattle.std.specs.Prelude.{◌≡◌, ℕ, ◌+◌, ◌≤◌, List, length, Some, IsSomeAnd, slice_get}
use Rattle.std.specs.FinMap.{get}
use Rattle.nr_linked.specs.declared.program.kind.Kind.{Kind}
use Rattle.nr_linked.specs.declared.program.tables.ProgramTables.{ProgramTables}
use Rattle.nr_model.specs.Heaps.{Heap, Obj, cells}
use Rattle.nr_model.specs.Outcomes.{max_cells}
use Rattle.nr_model.specs.TypedHeaps.{TypedHeap}
use Rattle.nr_heap.specs.Contents.{Contents, HasMade}
use Rattle.nr_graph.specs.declared.graph.Node.{Node}
use Rattle.nr_graph.specs.Graphs.{cells_of_nodes}
use Rattle.nr_capture.specs.Planting.{Adds}

-- of the kind, with so many slots
pub record IsOf (kind : Kind) (n : ℕ) (o : Obj) : Type 0 where
  pub kind_is : o.kind ≡ kind
  pub count : length o.slots ≡ n

-- an object for each node, of its kind, with as many slots
pub record AreOf (h : Heap) (names : List ℕ) (nodes : List Node) : Type 0 where
  pub count : length names ≡ length nodes
  pub objects : (i x : ℕ) → slice_get names i ≡ Some x
      → IsSomeAnd (get h x) (λ o. IsSomeAnd (slice_get nodes i) (λ n. IsOf n.kind (length n.slots) o))

-- the heap got an object of the kind, with so many slots
pub record HasMadeOf (old new : Contents) (name : ℕ) (kind : Kind) (n : ℕ) : Type 0 where
  pub object : Obj
  pub made : HasMade old new name object
  pub of_kind : IsOf kind n object

-- the heap got an object for each of these nodes
pub record MadeOf (P : ProgramTables) (old now : Heap) (names : List ℕ) (nodes : List Node) : Type 0 where
  pub typed : TypedHeap P now
  pub adds : Adds old now names
  pub made : AreOf now names nodes

-- there is room for the objects of these nodes
pub record HasRoom (now : Contents) (nodes : List Node) : Type 0 where
  pub room : cells_of_nodes nodes ≤ now.spare
  pub few : cells now.objects + cells_of_nodes nodes ≤ max_cells
