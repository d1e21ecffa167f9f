-- The cells of a heap that shows a graph.
use Rattle.std.proofs.Common.{◌≡◌, ◌≢◌, ℕ, zero, suc, ◌+◌, List, [], ◌∷◌, length, refl, ap, ◌∙◌, arith, Some, None, Option}
use Rattle.std.specs.Prelude.{IsSomeAnd, slice_get}
use Rattle.std.specs.FinMap.{get}
use Rattle.nr_linked.specs.declared.program.tables.ProgramTables.{ProgramTables}
use Rattle.nr_model.specs.Heaps.{Has, Heap, Obj, cells, cells_named, cells_of, on_some}
use Rattle.nr_model.proofs.Counting.{all_counted}
use Rattle.nr_graph.specs.declared.graph.Graph.{Graph}
use Rattle.nr_graph.specs.declared.graph.Node.{Node}
use Rattle.nr_graph.specs.Graphs.{cells_of_nodes, graph_cells}
use Rattle.nr_graph.specs.Pictures.{DrawsObject, Shown}

module _ (P : ProgramTables) (names : List ℕ) (h : Heap) where
  one_size : (o : Option Obj) (n : Node) → IsSomeAnd o (λ o. DrawsObject P names o n) → on_some o 0 cells_of ≡ length n.slots + 1
  one_size None n d = absurd d
  one_size (Some o) n d = ap (λ m. m + 1) d.count

  sizes : (xs : List ℕ) (ns : List Node) → length xs ≡ length ns
      → ((i x : ℕ) → slice_get xs i ≡ Some x → IsSomeAnd (get h x) (λ o. IsSomeAnd (slice_get ns i) (λ n. DrawsObject P names o n)))
      → cells_named h xs ≡ cells_of_nodes ns
  sizes [] [] l each = refl
  sizes [] (n ∷ ns) l each = absurd (omega (arith, l))
  sizes (x ∷ xs) [] l each = absurd (omega (arith, l))
  sizes (x ∷ xs) (n ∷ ns) l each =
      let one = one_size (get h x) n (each zero x refl) in
      let more = sizes xs ns (omega (arith, l)) (λ i y e. each (suc i) y e) in
      (λ j. one j + more j)

  pub shown_cells : (g : Graph) → Shown P h names g → cells_named h names ≡ graph_cells g
  shown_cells g s = sizes names g.nodes s.count s.objects

  pub all_cells : (g : Graph) → Shown P h names g → ((x : ℕ) → get h x ≢ None → Has names x) → cells h ≡ graph_cells g
  all_cells g s just = all_counted h names s.distinct just ∙ shown_cells g s
