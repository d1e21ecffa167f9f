-- Objects as they are read from a heap, and nodes as they are drawn.
use Rattle.std.specs.Prelude.{◌≡◌, ℕ, ◌<◌, ◌≤◌, List, [], length, Some, IsSomeAnd, slice_get, false}
use Rattle.std.specs.Int.{w32, w64}
use Rattle.std.specs.Int.RustNames.{FitsSigned}
use Rattle.std.specs.FinMap.{get}
use Rattle.std.specs.List.{AllByRecursion}
use Rattle.nr_linked.specs.declared.program.tables.ProgramTables.{ProgramTables}
use Rattle.nr_model.specs.declared.value.Value.{Value}
use Rattle.nr_model.specs.Heaps.{Heap, Obj}
use Rattle.nr_graph.specs.declared.graph.Slot.{Slot}
use Rattle.nr_graph.specs.declared.graph.Slot.TheVariants.{Int, Long}
use Rattle.nr_graph.specs.declared.graph.Node.{Node}
use Rattle.nr_graph.specs.declared.graph.Graph.{Graph}
use Rattle.nr_graph.specs.Pictures.{DrawsObject, is_unsendable, names_in, next_in}
use Rattle.nr_graph.specs.StreamOrder.{stream_place}
use Rattle.nr_graph.specs.Walks.{Walk}
use Rattle.nr_capture.specs.Roots.{IsIn}

-- the values of the object, in the order of the stream
pub record IsRead (P : ProgramTables) (o : Obj) (vs : List Value) : Type 0 where
  pub count : length vs ≡ length o.slots
  pub slots : (k : ℕ) (v : Value) → slice_get vs k ≡ Some v → IsSomeAnd (stream_place P o.kind k) (λ i. slice_get o.slots i ≡ Some v)

-- a number has as many bits as its type in code
abbrev pub HasBits : Slot → Type 0
HasBits (Int n) = FitsSigned w32 n
HasBits (Long n) = FitsSigned w64 n
HasBits s = Unit {0}

abbrev pub AllBits : List Slot → Type 0
AllBits ss = AllByRecursion HasBits ss

-- the numbers and the dimensions of a graph have as many bits as their types in code
abbrev pub HasCodeBits : Graph → Type 0
HasCodeBits g = AllByRecursion (λ n. AllBits n.slots × (n.kind.dims ≤ 255)) g.nodes

-- a node that shows the object, as code can hold it
pub record IsDrawn (P : ProgramTables) (names : List ℕ) (o : Obj) (n : Node) : Type 0 where
  pub draws : DrawsObject P names o n
  pub bits : AllBits n.slots
  pub dims : n.kind.dims ≤ 255

-- the walk of the values meets these, and each is an object of the heap that a call carries
pub record IsWalked (P : ProgramTables) (h : Heap) (vs : List Value) (names : List ℕ) : Type 0 where
  pub order : Walk (next_in P h) (names_in vs) [] names
  pub inside : AllByRecursion (IsIn h) names
  pub sendable : AllByRecursion (λ x. is_unsendable P h x ≡ false) names

-- a node for each name
pub record AllDrawn (P : ProgramTables) (h : Heap) (names : List ℕ) (nodes : List Node) : Type 0 where
  pub count : length nodes ≡ length names
  pub objects : (i x : ℕ) → slice_get names i ≡ Some x
      → IsSomeAnd (get h x) (λ o. IsSomeAnd (slice_get nodes i) (λ n. IsDrawn P names o n))

-- a node for each of the first n names
pub record AllDrawnTo (P : ProgramTables) (h : Heap) (names : List ℕ) (n : ℕ) (nodes : List Node) : Type 0 where
  pub count : length nodes ≡ n
  pub objects : (i x : ℕ) → i < n → slice_get names i ≡ Some x
      → IsSomeAnd (get h x) (λ o. IsSomeAnd (slice_get nodes i) (λ n. IsDrawn P names o n))
