-- A graph of one array of zeros can be spelled, for each program.
use Rattle.std.proofs.Common.{◌≡◌, ℕ, zero as none, suc, ◌<◌, List, [], ◌∷◌, ◌++◌, length, replicate, refl, sym, ap, subst, ◌∙◌, arith}
use Rattle.std.specs.Prelude.{pos, Some, None, slice_get}
use Rattle.std.specs.Int.{w32}
use Rattle.std.specs.Int.RustNames.{FitsSigned}
use Rattle.nr_linked.specs.declared.program.tables.ProgramTables.{ProgramTables}
use Rattle.nr_model.proofs.Paths.{none_some, some_eq}
use Rattle.nr_graph.specs.declared.graph.Slot.{Slot}
use Rattle.nr_graph.specs.declared.graph.Node.{Node}
use Rattle.nr_graph.specs.declared.graph.Graph.{Graph}
use Rattle.nr_graph.specs.Fitting.{IsNumber, IsSpellable, NodeFits}
use Rattle.nr_graph.specs.Graphs.{AreThere, IsInOrder, next_node, nodes_in, root_slots}
use Rattle.nr_graph.specs.Walks.{Walk, over, again, first}
use Rattle.nr_streamrows.specs.Ints.{int_array, ints, zero}

abbrev graph_of : ℕ → ℕ → Graph
graph_of n k = record { nodes = ints n ∷ []; roots = Some 0 ∷ Some 0 ∷ replicate k None }

no_nodes : (n : ℕ) → nodes_in (replicate n zero) ≡ []
no_nodes none = refl
no_nodes (suc n) = no_nodes n

no_roots : (k : ℕ) → nodes_in (root_slots (replicate k None)) ≡ []
no_roots none = refl
no_roots (suc k) = no_roots k

each_zero : (n i : ℕ) (s : Slot) → slice_get (replicate n zero) i ≡ Some s → zero ≡ s
each_zero none i s e = absurd (none_some e)
each_zero (suc n) none s e = some_eq e
each_zero (suc n) (suc i) s e = each_zero n i s e

long : (n : ℕ) → length (replicate n zero) ≡ n
long none = refl
long (suc n) = ap suc (long n)

zero_fits : FitsSigned w32 (pos 0)
zero_fits = record { sfits = omega arith }

module _ (P : ProgramTables) (n k : ℕ) where
  node : NodeFits P (graph_of n k) (ints n)
  node = record {
    dims = omega arith;
    count = tt;
    slots = λ i s e. subst (λ s. IsNumber int_array.base s) (each_zero n i s e) (tt, zero_fits);
  }

  next_is : next_node (graph_of n k) 0 ≡ []
  unfolding next_node
  next_is = no_nodes n

  order : IsInOrder (graph_of n k)
  order = subst (λ xs. Walk (next_node (graph_of n k)) (0 ∷ 0 ∷ xs) [] (0 ∷ [])) (sym (no_roots k))
      (first refl (subst (λ xs. Walk (next_node (graph_of n k)) xs (0 ∷ []) (0 ∷ [])) (sym next_is) over) (again refl over))

  spellable_literal : n < 1048576 → IsSpellable P (graph_of n k)
  spellable_literal l = record {
    fits = record {
      within = record {
        slots = (subst (λ xs. AreThere (graph_of n k) xs) (sym (no_nodes n)) tt, tt);
        roots = (omega arith, (omega arith, subst (λ xs. AreThere (graph_of n k) xs) (sym (no_roots k)) tt));
      };
      nodes = (node, tt);
    };
    order = order;
    sendable = (tt, tt);
    cells = (let e = long n in omega (arith, e));
  }

  pub spellable : (g : Graph) → n < 1048576 → g.nodes ≡ ints n ∷ [] → g.roots ≡ Some 0 ∷ Some 0 ∷ replicate k None → IsSpellable P g
  spellable g l en er =
      let same : graph_of n k ≡ g = (λ i. record { nodes = sym en i; roots = sym er i }) in
      subst (IsSpellable P) same (spellable_literal l)

pub one_node : (ns old : List Node) (n : ℕ) (slots : List Slot) → ns ≡ old ++ (record { kind = int_array; slots = slots }) ∷ [] → old ≡ [] → slots ≡ replicate n zero → ns ≡ ints n ∷ []
one_node ns old n slots e before same =
    e ∙ ap (λ z. z ++ (record { kind = int_array; slots = slots }) ∷ []) before ∙ ap (λ (s : List Slot). (record { kind = int_array; slots = s }) ∷ []) same
