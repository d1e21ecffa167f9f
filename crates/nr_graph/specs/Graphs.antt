-- Graphs of objects, and when their nodes are numbered in the order of first visit (the project's own).
use Rattle.std.specs.Prelude.{ℕ, ◌+◌, ◌<◌, List, [], ◌∷◌, length, Option, Some, None, slice_get}
use Rattle.std.specs.List.{AllByRecursion, range_with_len}
use Rattle.std.specs.Option.{option_map, option_map_or}
use Rattle.nr_linked.specs.declared.program.kind.Kind.{Kind}
use Rattle.nr_graph.specs.declared.graph.Slot.{Slot}
use Rattle.nr_graph.specs.declared.graph.Slot.TheVariants.{Int, Long, Null, Node as At}
use Rattle.nr_graph.specs.declared.graph.Node.{Node}
use Rattle.nr_graph.specs.declared.graph.Graph.{Graph}
use Rattle.nr_graph.specs.Walks.{Walk}

-- the nodes that slots name, in order
abbrev pub nodes_in : List Slot → List ℕ
nodes_in [] = []
nodes_in (Int n ∷ ss) = nodes_in ss
nodes_in (Long n ∷ ss) = nodes_in ss
nodes_in (Null ∷ ss) = nodes_in ss
nodes_in (At i ∷ ss) = i ∷ nodes_in ss

abbrev pub root_slot : Option ℕ → Slot
root_slot None = Null
root_slot (Some i) = At i

abbrev pub root_slots : List (Option ℕ) → List Slot
root_slots [] = []
root_slots (r ∷ rs) = root_slot r ∷ root_slots rs

abbrev pub root_nodes : Graph → List ℕ
root_nodes g = nodes_in (root_slots g.roots)

abbrev pub node_at : Graph → ℕ → Option Node
node_at g i = slice_get g.nodes i

-- the nodes that a node leads to
unfoldable pub next_node : Graph → ℕ → List ℕ
next_node g i = nodes_in (option_map_or (λ n. n.slots) (node_at g i) [])

-- node i is the i-th that is met from the roots, and each is met
abbrev pub IsInOrder : Graph → Type 0
IsInOrder g = Walk (next_node g) (root_nodes g) [] (range_with_len 0 (length g.nodes))

abbrev pub node_kind : Graph → ℕ → Option Kind
node_kind g i = option_map (λ n. n.kind) (node_at g i)

abbrev pub cells_of_nodes : List Node → ℕ
cells_of_nodes [] = 0
cells_of_nodes (n ∷ ns) = (length n.slots + 1) + cells_of_nodes ns

-- a cell for each node, and one for each of its slots
abbrev pub graph_cells : Graph → ℕ
graph_cells g = cells_of_nodes g.nodes

-- the nodes are there
abbrev pub AreThere : Graph → List ℕ → Type 0
AreThere g is = AllByRecursion (λ i. i < length g.nodes) is

-- each node that is named is there
pub record IsWithin (g : Graph) : Type 0 where
  pub slots : AllByRecursion (λ n. AreThere g (nodes_in n.slots)) g.nodes
  pub roots : AreThere g (root_nodes g)
