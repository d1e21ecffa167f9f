-- Where the listing of nodes begins, and the flags that it sets.
use Rattle.std.specs.Prelude.{◌≡◌, ◌↔◌, ℕ, suc, List, [], ◌∷◌, length, Bool, true, false, Option, Some, None, slice_get, if◌then◌else◌}
use Rattle.std.specs.List.{filter_map}
use Rattle.std.specs.Option.{option_map_or}
use Rattle.nr_linked.specs.declared.program.tables.ProgramTables.{ProgramTables}
use Rattle.nr_linked.specs.Restorable.{is_restorable}
use Rattle.nr_graph.specs.declared.graph.Graph.{Graph}
use Rattle.nr_graph.specs.Graphs.{node_kind}
use Rattle.nr_graph.specs.Listing.{IsListed}

-- the root, where it is of a restorable kind
abbrev pub start_of : ProgramTables → Graph → Option ℕ → Option ℕ
start_of P g None = None
start_of P g (Some i) = if option_map_or (is_restorable P) (node_kind g i) false then Some i else None

abbrev pub starts : ProgramTables → Graph → List (Option ℕ) → List ℕ
starts P g rs = filter_map (start_of P g) rs

abbrev pub IsFlagged : List Bool → ℕ → Type 0
IsFlagged flags k = slice_get flags k ≡ Some true

-- a flag for each node, which is set for just those that are listed
pub record Flags (P : ProgramTables) (g : Graph) (flags : List Bool) : Type 0 where
  pub count : length flags ≡ length g.nodes
  pub just : (k : ℕ) → IsFlagged flags k ↔ IsListed P g k

-- the places of the flags that are set, from place a on
abbrev pub places_from : ℕ → List Bool → List ℕ
places_from a [] = []
places_from a (b ∷ bs) = if b then a ∷ places_from (suc a) bs else places_from (suc a) bs
