-- What a part of a heap looks like as a graph (the project's own).
use Rattle.std.specs.Prelude.{◌≡◌, ℕ, ℤ, List, [], ◌∷◌, length, Bool, false, not, Some, IsSomeAnd, slice_get}
use Rattle.std.specs.FinMap.{get}
use Rattle.std.specs.List.{filter_map, range_with_len}
use Rattle.std.specs.Option.{option_and_then}
use Rattle.nr_linked.specs.declared.program.tables.ProgramTables.{ProgramTables}
use Rattle.nr_linked.specs.Sendable.{is_sendable}
use Rattle.nr_model.specs.declared.value.Value.{Value}
use Rattle.nr_model.specs.declared.value.Value.TheVariants as values
use Rattle.nr_model.specs.Heaps.{EachOnce, Has, Heap, Obj, on_some}
use Rattle.nr_model.specs.Pairs.{Reach, Holds}
use Rattle.nr_graph.specs.declared.graph.Slot.{Slot}
use Rattle.nr_graph.specs.declared.graph.Slot.TheVariants.{Int, Long, Null, Node as At}
use Rattle.nr_graph.specs.declared.graph.Node.{Node}
use Rattle.nr_graph.specs.declared.graph.Graph.{Graph}
use Rattle.nr_graph.specs.Graphs.{node_at, root_slots}
use Rattle.nr_graph.specs.StreamOrder.{stream_place}
use Rattle.nr_graph.specs.Walks.{MeetsRefused, Walk}

-- ---- by places: names lists the name of each node

-- a value as the graph has it
pub data Draws (names : List ℕ) : Value → Slot → Type 0 where
  draws_int : {n : ℤ} → Draws names (values.Int n) (Int n)
  draws_long : {n : ℤ} → Draws names (values.Long n) (Long n)
  draws_null : Draws names values.Null Null
  draws_node : {x i : ℕ} → slice_get names i ≡ Some x → Draws names (values.Ref x) (At i)

pub data AllDraw (names : List ℕ) : List Value → List Slot → Type 0 where
  no_value : AllDraw names [] []
  one_value : {v : Value} {s : Slot} {vs : List Value} {ss : List Slot} → Draws names v s → AllDraw names vs ss
      → AllDraw names (v ∷ vs) (s ∷ ss)

-- an object and its node: one kind, one length, and each slot of the node is what the object has at its place
pub record DrawsObject (P : ProgramTables) (names : List ℕ) (o : Obj) (n : Node) : Type 0 where
  pub kind : o.kind ≡ n.kind
  pub count : length o.slots ≡ length n.slots
  pub slots : (k : ℕ) (s : Slot) → slice_get n.slots k ≡ Some s
      → IsSomeAnd (stream_place P n.kind k) (λ i. IsSomeAnd (slice_get o.slots i) (λ v. Draws names v s))

-- distinct names, one for each node, and each object is what its node says
pub record Shown (P : ProgramTables) (h : Heap) (names : List ℕ) (g : Graph) : Type 0 where
  pub count : length names ≡ length g.nodes
  pub distinct : EachOnce names
  pub objects : (i x : ℕ) → slice_get names i ≡ Some x
      → IsSomeAnd (get h x) (λ o. IsSomeAnd (node_at g i) (λ n. DrawsObject P names o n))

-- what these values name in the heap is this graph
pub record Pictured (P : ProgramTables) (h : Heap) (vs : List Value) (names : List ℕ) (g : Graph) : Type 0 where
  pub shown : Shown P h names g
  pub roots : AllDraw names vs (root_slots g.roots)

-- each of the names is reached
abbrev pub AllReached : Heap → List Value → List ℕ → Type 0
AllReached h vs names = (x : ℕ) → Has names x → Reach h (Holds vs) x

-- ---- in the order of first visit

abbrev pub names_in : List Value → List ℕ
names_in [] = []
names_in (values.Int n ∷ vs) = names_in vs
names_in (values.Long n ∷ vs) = names_in vs
names_in (values.Null ∷ vs) = names_in vs
names_in (values.Ref x ∷ vs) = x ∷ names_in vs

-- the values of an object in the order of the stream
abbrev pub stream_values : ProgramTables → Obj → List Value
stream_values P o =
    filter_map (λ k. option_and_then (slice_get o.slots) (stream_place P o.kind k)) (range_with_len 0 (length o.slots))

unfoldable pub next_in : ProgramTables → Heap → ℕ → List ℕ
next_in P h x = on_some (get h x) [] (λ o. names_in (stream_values P o))

-- Node i stands for the i-th object that is met when the values are walked in order, depth first, in the stream order of
-- slots.
pub record IsPicture (P : ProgramTables) (h : Heap) (vs : List Value) (names : List ℕ) (g : Graph) : Type 0 where
  pub order : Walk (next_in P h) (names_in vs) [] names
  pub pictured : Pictured P h vs names g

-- ---- objects that no stream may have

abbrev pub is_unsendable : ProgramTables → Heap → ℕ → Bool
is_unsendable P h x = on_some (get h x) false (λ o. not (is_sendable P o.kind))

-- the first object that is met and isn't sendable
abbrev pub FirstUnsendable : ProgramTables → Heap → List Value → ℕ → Type 0
FirstUnsendable P h vs x = MeetsRefused (next_in P h) (is_unsendable P h) (names_in vs) [] x
