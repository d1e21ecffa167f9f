-- New objects with filled slots look like the graph.
use Rattle.std.proofs.Common.{◌≡◌, ◌≢◌, ℕ, ◌<◌, ◌⊎◌, inl, inr, true, false, true≢false, List, [], ◌∷◌, length, refl, sym, subst, ◌∙◌, Bool, Option, Some, None}
use Rattle.std.specs.Prelude.{IsSomeAnd, slice_get}
use Rattle.std.specs.FinMap.{get}
use Rattle.std.specs.List.{AllByRecursion}
use Rattle.nr_linked.specs.declared.program.tables.ProgramTables.{ProgramTables}
use Rattle.nr_model.specs.Heaps.{EachOnce, Has, Heap, Obj}
use Rattle.nr_graph.specs.declared.graph.Node.{Node}
use Rattle.nr_graph.specs.declared.graph.Graph.{Graph}
use Rattle.nr_graph.specs.Fitting.{GraphFits}
use Rattle.nr_graph.specs.Graphs.{nodes_in, root_nodes, root_slot, root_slots}
use Rattle.nr_graph.specs.Pictures.{AllDraw, no_value, one_value, Draws, draws_null, draws_node, DrawsObject, Pictured}
use Rattle.nr_graph.specs.Walks.{is_met}
use Rattle.nr_graph.proofs.Walks.{has_met, met_has}
use Rattle.nr_capture.specs.Filling.{ChangesOnly, IsFilled}
use Rattle.nr_capture.specs.Making.{IsOf}
use Rattle.nr_capture.specs.Planting.{Adds, names_of_roots}
use Rattle.nr_capture.specs.Roots.{root_value, root_values}
use Rattle.nr_capture.proofs.Found.{get_there, in_range}

-- ---- roots

roots_drawn : (names : List ℕ) (rs : List (Option ℕ)) → AllByRecursion (λ i. i < length names) (nodes_in (root_slots rs)) → AllDraw names (root_values (names_of_roots names rs)) (root_slots rs)
roots_drawn names [] a = no_value
roots_drawn names (None ∷ rs) a = one_value draws_null (roots_drawn names rs a)
roots_drawn names (Some i ∷ rs) a =
    let x = get_there names i a.0 in
    one_value (subst (λ r. Draws names (root_value r) (root_slot (Some i))) (sym x.1) (draws_node x.1)) (roots_drawn names rs a.1)

-- ---- nodes

pub planted : (P : ProgramTables) (h : Heap) (names : List ℕ) (g : Graph) → GraphFits P g → EachOnce names → IsFilled P names g (length g.nodes) 0 h
    → Pictured P h (root_values (names_of_roots names g.roots)) names g
planted P h names g fits distinct filled = record {
  shown = record { count = filled.made.count; distinct = distinct; objects = λ i x e. by i x e (get h x) refl (slice_get g.nodes i) refl (filled.made.objects i x e) };
  roots = roots_drawn names g.roots (subst (λ m. AllByRecursion (λ i. i < m) (root_nodes g)) (sym filled.made.count) fits.within.roots);
}
  where
    by : (i x : ℕ) → slice_get names i ≡ Some x → (o : Option Obj) → get h x ≡ o → (n : Option Node) → slice_get g.nodes i ≡ n → IsSomeAnd o (λ o. IsSomeAnd n (λ n. IsOf n.kind (length n.slots) o))
        → IsSomeAnd o (λ o. IsSomeAnd n (λ n. DrawsObject P names o n))
    by i x e None f n c a = absurd a
    by i x e (Some o) f None c a = absurd a
    by i x e (Some o) f (Some n) c a = record { kind = a.kind_is; count = a.count; slots = λ l s t. filled.drawn i l x o n s (inl (in_range g.nodes i n c)) e f c t }

-- ---- all else

pub adds_on : (h c d : Heap) (names : List ℕ) → Adds h c names → ChangesOnly names c d → Adds h d names
adds_on h c d names adds only = record {
  distinct = adds.distinct;
  fresh = adds.fresh;
  kept = λ x n. only x (λ i. n (adds.fresh x i)) ∙ adds.kept x n;
  just = λ x n. by x n (is_met names x) refl;
}
  where
    by : (x : ℕ) → get d x ≢ None → (b : Bool) → is_met names x ≡ b → (get h x ≢ None) ⊎ Has names x
    by x n true e = inr (met_has names x e)
    by x n false e = adds.just x (λ f. n (only x (λ i. true≢false (sym (has_met names x i) ∙ e)) ∙ f))

-- ---- the same by names that code lends

pub planted_by : (P : ProgramTables) (h : Heap) (lent names : List ℕ) (g : Graph) → lent ≡ names → GraphFits P g → EachOnce names → IsFilled P lent g (length g.nodes) 0 h
    → Pictured P h (root_values (names_of_roots names g.roots)) names g
planted_by P h lent names g same fits distinct filled = planted P h names g fits distinct (subst (λ names. IsFilled P names g (length g.nodes) 0 h) same filled)

pub adds_by : (h b c d : Heap) (lent names : List ℕ) → lent ≡ names → b ≡ h → Adds b c names → ChangesOnly lent c d → Adds h d names
adds_by h b c d lent names same e adds only = adds_on h c d names (subst (λ b. Adds b c names) e adds) (subst (λ names. ChangesOnly names c d) same only)
