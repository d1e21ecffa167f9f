-- Each graph that fits can be planted in each typed heap.
use Rattle.std.proofs.Common.{◌≡◌, ℕ, zero, suc, ◌+◌, ◌-◌, List, [], ◌∷◌, ◌++◌, length, refl, sym, ap, subst, arith, Option, Some, None}
use Rattle.std.specs.Prelude.{IsSomeAnd, slice_get}
use Rattle.std.specs.FinMap.{get, insert}
use Rattle.std.specs.List.{AllByRecursion}
use Rattle.std.proofs.lemmas.List.{append-nil, append_assoc}
use Rattle.nr_linked.specs.declared.program.kind.Base.{Base}
use Rattle.nr_linked.specs.declared.program.kind.Base.TheVariants as bases
use Rattle.nr_linked.specs.declared.program.kind.Kind.{Kind}
use Rattle.nr_linked.specs.declared.program.tables.ProgramTables.{ProgramTables}
use Rattle.nr_linked.specs.Linked.{Linked}
use Rattle.nr_model.specs.Heaps.{EachOnce, Heap, Obj, cells_of}
use Rattle.nr_model.specs.Scripts.{with_slot}
use Rattle.nr_model.specs.TypedHeaps.{Counts, TypedHeap}
use Rattle.nr_model.proofs.Mirror.{above_all, above_free}
use Rattle.nr_heap.specs.Contents.{Contents, HasMade, array_with, object_of}
use Rattle.nr_graph.specs.declared.graph.Node.{Node}
use Rattle.nr_graph.specs.declared.graph.Graph.{Graph}
use Rattle.nr_graph.specs.Fitting.{GraphFits, NodeFits}
use Rattle.nr_graph.specs.Pictures.{Pictured}
use Rattle.nr_graph.specs.StreamOrder.{stream_place}
use Rattle.nr_capture.specs.Filling.{ChangesOnly, IsFilled}
use Rattle.nr_capture.specs.Making.{HasMadeOf, MadeOf}
use Rattle.nr_capture.specs.Planting.{Adds, names_of_roots}
use Rattle.nr_capture.specs.Roots.{root_values}
use Rattle.nr_capture.proofs.FilledSlots.{filled_more, filled_node, filled_none, object_at, others_more, others_none, others_on, slot_drawn, slot_place}
use Rattle.nr_capture.proofs.Found.{get_there}
use Rattle.nr_capture.proofs.MadeNodes.{made_more, made_none}
use Rattle.nr_capture.proofs.MadeKinds.{made_array, made_object}
use Rattle.nr_capture.proofs.PlantedGraphs.{adds_on, planted}

-- a heap with one more object, under a name of no object
with_new : Heap → Obj → Contents
with_new h o = record { objects = insert h (above_all h) o; spare = 0 - cells_of o }

is_made : (h : Heap) (o : Obj) → HasMade (record { objects = h; spare = 0 }) (with_new h o) (above_all h) o
unfolding with_new
is_made h o = record { fresh = above_free h (above_all h) (omega arith); objects = refl; spare = refl }

module _ (P : ProgramTables) where
  -- an object of the kind, with so many slots
  one_made : (h : Heap) (kind : Kind) (n : ℕ) → TypedHeap P h → Counts P kind n → (d : Contents) × HasMadeOf (record { objects = h; spare = 0 }) d (above_all h) kind n × TypedHeap P d.objects
  one_made h kind n typed c = go kind.dims kind.base c
    where
      go : (dims : ℕ) (base : Base) → Counts P (record { dims = dims; base = base }) n
          → (d : Contents) × HasMadeOf (record { objects = h; spare = 0 }) d (above_all h) (record { dims = dims; base = base }) n × TypedHeap P d.objects
      go (suc dims) base c =
          let e : Kind = record { dims = dims; base = base } in
          let m = made_array P (record { objects = h; spare = 0 }) (with_new h (array_with e n)) (above_all h) (record { dims = suc dims; base = base }) e n typed c (ap (λ m. record { dims = m; base = base }) (suc_is dims)) (is_made h (array_with e n)) in
          (with_new h (array_with e n), m.0, m.1)
        where
          suc_is : (d : ℕ) → suc d ≡ d + 1
          suc_is d = omega arith
      go zero (bases.Object k) c =
          let m = made_object P (record { objects = h; spare = 0 }) (with_new h (object_of P k)) (above_all h) k n typed c (is_made h (object_of P k)) in
          (with_new h (object_of P k), m.0, m.1)
      go zero bases.Bool c = absurd c
      go zero bases.Byte c = absurd c
      go zero bases.Char c = absurd c
      go zero bases.Short c = absurd c
      go zero bases.Int c = absurd c
      go zero bases.Long c = absurd c

  all_made : (g : Graph) (h : Heap) (k : Heap) (names : List ℕ) (nodes rest : List Node) → MadeOf P h k names nodes → AllByRecursion (NodeFits P g) rest → (d : Heap) × (more : List ℕ) × MadeOf P h d more (nodes ++ rest)
  all_made g h k names nodes [] all fits = (k, names, subst (MadeOf P h k names) (sym (append-nil nodes)) all)
  all_made g h k names nodes (n ∷ rest) all fits =
      let one = one_made k n.kind (length n.slots) all.typed fits.0.count in
      let next = made_more P h (record { objects = k; spare = 0 }) one.0 names (names ++ above_all k ∷ []) nodes (nodes ++ n ∷ []) (above_all k) n all one.1 one.2 refl refl in
      let r = all_made g h one.0.objects (names ++ above_all k ∷ []) (nodes ++ n ∷ []) rest next fits.1 in
      (r.0, r.1, subst (MadeOf P h r.0 r.1) (append_assoc nodes (n ∷ []) rest) r.2)

  module _ (linked : Linked P) (g : Graph) (fits : GraphFits P g) (names : List ℕ) (distinct : EachOnce names) (i x : ℕ) (n : Node) (at : slice_get names i ≡ Some x) (node : slice_get g.nodes i ≡ Some n) where
    -- the slots from k on, of which there are m
    slots_filled : (m k : ℕ) (h : Heap) → IsFilled P names g i k h → k + m ≡ length n.slots → (d : Heap) × IsFilled P names g i (length n.slots) d × ChangesOnly names h d
    slots_filled zero k h filled e = let s : k ≡ length n.slots = omega (arith, e) in (h, subst (λ k. IsFilled P names g i k h) s filled, others_none names h)
    slots_filled (suc m) k h filled e =
        let s = get_there n.slots k (omega (arith, e)) in
        let p = held (stream_place P n.kind k) (slot_place P linked names g fits i k h filled x n s.0 at node s.1) in
        let v = slot_drawn P names g fits filled.made.count i k n s.0 node s.1 in
        let o = object_at h names g filled.made i x n at node in
        let d = with_slot h x o.0 p.0 v.0 in
        let there : IsSomeAnd (get h x) (λ o. d ≡ with_slot h x o p.0 v.0) = subst (λ q. IsSomeAnd q (λ o. d ≡ with_slot h x o p.0 v.0)) (sym o.1) refl in
        let next = filled_more P linked names g fits i k h filled x n s.0 at node s.1 p.0 v.0 p.1 v.1 d distinct there in
        let r = slots_filled m (k + 1) d next (omega (arith, e)) in
        (r.0, r.1, others_on names h d r.0 (others_more names h h d i x p.0 v.0 (others_none names h) at there) r.2)
      where
        held : (q : Option ℕ) → IsSomeAnd q (λ p. Unit {0}) → (p : ℕ) × (q ≡ Some p)
        held None a = absurd a
        held (Some p) a = (p, refl)

  -- the nodes from i on, of which there are m
  nodes_filled : (linked : Linked P) (g : Graph) → GraphFits P g → (names : List ℕ) → EachOnce names → length names ≡ length g.nodes → (m i : ℕ) (h : Heap) → IsFilled P names g i 0 h → i + m ≡ length g.nodes
      → (d : Heap) × IsFilled P names g (length g.nodes) 0 d × ChangesOnly names h d
  nodes_filled linked g fits names distinct long zero i h filled e = let s : i ≡ length g.nodes = omega (arith, e) in (h, subst (λ i. IsFilled P names g i 0 h) s filled, others_none names h)
  nodes_filled linked g fits names distinct long (suc m) i h filled e =
      let n = get_there g.nodes i (omega (arith, e)) in
      let x = get_there names i (omega (arith, e, long)) in
      let one = slots_filled linked g fits names distinct i x.0 n.0 x.1 n.1 (length n.0.slots) 0 h filled (omega arith) in
      let next = filled_node P names g i (length n.0.slots) one.0 n.0 one.1 n.1 (omega arith) in
      let r = nodes_filled linked g fits names distinct long m (i + 1) one.0 next (omega (arith, e)) in
      (r.0, r.1, others_on names h one.0 r.0 one.2 r.2)

pub plants_exist : (P : ProgramTables) (h : Heap) (g : Graph) → Linked P → TypedHeap P h → GraphFits P g
    → (k : Heap) × (names : List ℕ) × Adds h k names × Pictured P k (root_values (names_of_roots names g.roots)) names g × TypedHeap P k
plants_exist P h g linked typed fits =
    let made = all_made P g h h [] [] g.nodes (made_none P h [] typed refl) fits.nodes in
    let filled = nodes_filled P linked g fits made.1 made.2.adds.distinct made.2.made.count (length g.nodes) 0 made.0 (filled_none P made.1 g made.0 made.2.typed made.2.made) (omega arith) in
    (filled.0, made.1, adds_on h made.0 filled.0 made.1 made.2.adds filled.2, planted P filled.0 made.1 g fits made.2.adds.distinct filled.1, filled.1.typed)
