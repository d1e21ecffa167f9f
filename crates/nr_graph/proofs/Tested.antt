-- What the tests know of the graphs that they made.
use Rattle.std.proofs.Common.{◌<◌, ◌+◌, ℕ, List, [], ◌∷◌, ◌++◌, length, get_or, take, subst, sym, Some, None, Option}
use Rattle.std.specs.List.{AllByRecursion}
use Rattle.std.proofs.lemmas.List.{take_more}
use Rattle.nr_graph.specs.declared.graph.Slot.{Slot}
use Rattle.nr_graph.specs.declared.graph.Slot.TheVariants.{Int, Long, Null, Node as At}
use Rattle.nr_graph.specs.Graphs.{nodes_in, root_slots}

module _ (count : ℕ) where
  abbrev AreBelow : List ℕ → Type 0
  AreBelow is = AllByRecursion (λ i. i < count) is

  one_more : (ss : List Slot) (s : Slot) → AreBelow (nodes_in ss) → AreBelow (nodes_in (s ∷ [])) → AreBelow (nodes_in (ss ++ s ∷ []))
  one_more [] s a l = l
  one_more (Int n ∷ ss) s a l = one_more ss s a l
  one_more (Long n ∷ ss) s a l = one_more ss s a l
  one_more (Null ∷ ss) s a l = one_more ss s a l
  one_more (At i ∷ ss) s a l = (a.0, one_more ss s a.1 l)

  pub slots_below : (ss : List Slot) (k : ℕ) (d : Slot) → k < length ss → AreBelow (nodes_in (take k ss)) → AreBelow (nodes_in (get_or ss k d ∷ [])) → AreBelow (nodes_in (take (k + 1) ss))
  slots_below ss k d l a h = subst (λ xs. AreBelow (nodes_in xs)) (sym (take_more ss k d l)) (one_more (take k ss) (get_or ss k d) a h)

  more_roots : (rs : List (Option ℕ)) (r : Option ℕ) → AreBelow (nodes_in (root_slots rs)) → AreBelow (nodes_in (root_slots (r ∷ []))) → AreBelow (nodes_in (root_slots (rs ++ r ∷ [])))
  more_roots [] r a l = l
  more_roots (None ∷ rs) r a l = more_roots rs r a l
  more_roots (Some i ∷ rs) r a l = (a.0, more_roots rs r a.1 l)

  pub roots_below : (rs : List (Option ℕ)) (k : ℕ) (d : Option ℕ) → k < length rs → AreBelow (nodes_in (root_slots (take k rs))) → AreBelow (nodes_in (root_slots (get_or rs k d ∷ [])))
      → AreBelow (nodes_in (root_slots (take (k + 1) rs)))
  roots_below rs k d l a h = subst (λ xs. AreBelow (nodes_in (root_slots xs))) (sym (take_more rs k d l)) (more_roots (take k rs) (get_or rs k d) a h)
