-- Which nodes of a call's graph its reply restores: those that a restorable root reaches (the project's own).
use Rattle.std.specs.Prelude.{◌≡◌, ◌↔◌, ℕ, ◌<◌, List, [], ◌∷◌, ◌++◌, Some, IsSomeAnd, IsTrue, slice_get, if◌then◌else◌}
use Rattle.std.specs.List.{AllByRecursion}
use Rattle.nr_linked.specs.declared.program.tables.ProgramTables.{ProgramTables}
use Rattle.nr_linked.specs.Restorable.{is_restorable}
use Rattle.nr_model.specs.Heaps.{Has}
use Rattle.nr_graph.specs.declared.graph.Graph.{Graph}
use Rattle.nr_graph.specs.Graphs.{next_node, node_kind, root_nodes}
use Rattle.nr_graph.specs.Walks.{is_met}

-- a way over nodes leads from the first to the second
pub data LeadsTo (g : Graph) : ℕ → ℕ → Type 0 where
  here : {i : ℕ} → LeadsTo g i i
  onward : {i j k : ℕ} → Has (next_node g i) j → LeadsTo g j k → LeadsTo g i k

-- a root that is restorable leads to the node
pub record IsListed (P : ProgramTables) (g : Graph) (k : ℕ) : Type 0 where
  pub root : ℕ
  pub named : Has (root_nodes g) root
  pub restorable : IsSomeAnd (node_kind g root) (λ kind. IsTrue (is_restorable P kind))
  pub leads : LeadsTo g root k

abbrev pub Rises : List ℕ → Type 0
Rises [] = Unit {0}
Rises (x ∷ xs) = AllByRecursion (λ y. x < y) xs × Rises xs

-- just these, rising
pub record Lists (P : ProgramTables) (g : Graph) (nodes : List ℕ) : Type 0 where
  pub rises : Rises nodes
  pub just : (k : ℕ) → Has nodes k ↔ IsListed P g k

-- the names and x, which is put at the end where it isn't among them
abbrev pub with_last : List ℕ → ℕ → List ℕ
with_last names x = if is_met names x then names else names ++ x ∷ []

-- the names at these places
pub data Picked (names : List ℕ) : List ℕ → List ℕ → Type 0 where
  none_picked : Picked names [] []
  one_picked : {i x : ℕ} {is xs : List ℕ} → slice_get names i ≡ Some x → Picked names is xs
      → Picked names (i ∷ is) (x ∷ xs)
