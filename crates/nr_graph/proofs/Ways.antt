-- Ways over the nodes of a graph are paths in a heap that it shows.
use Rattle.std.proofs.Common.{◌≡◌, ◌↔◌, ◌<◌, ℕ, zero, suc, List, [], ◌∷◌, refl, sym, ap, subst, ◌∙◌, Some, None, Option}
use Rattle.std.specs.Prelude.{slice_get, IsSomeAnd, IsTrue}
use Rattle.std.specs.FinMap.{get}
use Rattle.std.specs.Option.{option_map, option_map_or}
use Rattle.std.proofs.lemmas.Option.{slice_get_within}
use Rattle.nr_linked.specs.declared.program.tables.ProgramTables.{ProgramTables}
use Rattle.nr_linked.specs.Restorable.{is_restorable}
use Rattle.nr_model.specs.declared.value.Value.{Value}
use Rattle.nr_model.specs.declared.value.Value.TheVariants as values
use Rattle.nr_model.specs.Heaps.{Has, Heap, Obj, on_some}
use Rattle.nr_model.specs.Locals.{IsShared, RestorableRoot}
use Rattle.nr_model.specs.Pairs.{Holds, Reach, leads, name_at, name_in, slot_name}
use Rattle.nr_model.proofs.Paths.{bound, none_some, some_eq}
use Rattle.nr_graph.specs.declared.graph.Graph.{Graph}
use Rattle.nr_graph.specs.declared.graph.Node.{Node}
use Rattle.nr_graph.specs.declared.graph.Slot.{Slot}
use Rattle.nr_graph.specs.declared.graph.Slot.TheVariants.{Int, Long, Null, Node as At}
use Rattle.nr_graph.specs.Graphs.{next_node, node_at, node_kind, nodes_in, root_slots}
use Rattle.nr_graph.specs.Listing.{LeadsTo, here, onward, IsListed, Lists}
use Rattle.nr_graph.specs.Pictures.{AllDraw, no_value, one_value, Draws, draws_int, draws_long, draws_null, draws_node, DrawsObject, Shown}
use Rattle.nr_graph.specs.StreamOrder.{stream_place}
use Rattle.nr_graph.proofs.Along.{Covers}
use Rattle.nr_graph.proofs.Drawn.{reach_on}

-- ---- names and nodes in lists

-- a node that slots name stands at a place of theirs
node_place : (ss : List Slot) (i : ℕ) → Has (nodes_in ss) i → (k : ℕ) × (slice_get ss k ≡ Some (At i))
node_place [] i h = absurd (none_some h.1)
node_place (Int n ∷ ss) i h = let r = node_place ss i h in (suc r.0, r.1)
node_place (Long n ∷ ss) i h = let r = node_place ss i h in (suc r.0, r.1)
node_place (Null ∷ ss) i h = let r = node_place ss i h in (suc r.0, r.1)
node_place (At j ∷ ss) i (zero, e) = (zero, ap (λ j. Some (At j)) (some_eq e))
node_place (At j ∷ ss) i (suc k, e) = let r = node_place ss i (k, e) in (suc r.0, r.1)

place_node : (ss : List Slot) (k i : ℕ) → slice_get ss k ≡ Some (At i) → Has (nodes_in ss) i
place_node [] k i e = absurd (none_some e)
place_node (Int n ∷ ss) zero i e = absurd (cc)
place_node (Long n ∷ ss) zero i e = absurd (cc)
place_node (Null ∷ ss) zero i e = absurd (cc)
place_node (At j ∷ ss) zero i e = let is : j ≡ i = cc in (zero, ap Some is)
place_node (Int n ∷ ss) (suc k) i e = place_node ss k i e
place_node (Long n ∷ ss) (suc k) i e = place_node ss k i e
place_node (Null ∷ ss) (suc k) i e = place_node ss k i e
place_node (At j ∷ ss) (suc k) i e = let r = place_node ss k i e in (suc r.0, r.1)

named_value : (o : Option Value) (x : ℕ) → on_some o None name_in ≡ Some x → o ≡ Some (values.Ref x)
named_value None x e = absurd (none_some e)
named_value (Some (values.Int n)) x e = absurd (none_some e)
named_value (Some (values.Long n)) x e = absurd (none_some e)
named_value (Some values.Null) x e = absurd (none_some e)
named_value (Some (values.Ref y)) x e = ap (λ y. Some (values.Ref y)) (some_eq e)

module _ (names : List ℕ) where
  -- a name is drawn as its node, and a node draws its name
  drawn_name : (v : Value) (s : Slot) (x : ℕ) → Draws names v s → v ≡ values.Ref x → (i : ℕ) × (s ≡ At i) × (slice_get names i ≡ Some x)
  drawn_name v s x draws_int e = absurd (cc)
  drawn_name v s x draws_long e = absurd (cc)
  drawn_name v s x draws_null e = absurd (cc)
  drawn_name v s x (draws_node {x = y} {i = i} f) e = let is : y ≡ x = cc in (i, refl, f ∙ ap Some is)

  drawn_node : (v : Value) (s : Slot) (i : ℕ) → Draws names v s → s ≡ At i → (x : ℕ) × (v ≡ values.Ref x) × (slice_get names i ≡ Some x)
  drawn_node v s i draws_int e = absurd (cc)
  drawn_node v s i draws_long e = absurd (cc)
  drawn_node v s i draws_null e = absurd (cc)
  drawn_node v s i (draws_node {x = x} {i = j} f) e = let is : j ≡ i = cc in (x, refl, ap (slice_get names) (sym is) ∙ f)

  root_in : {vs : List Value} {ss : List Slot} (k x : ℕ) → AllDraw names vs ss → name_at vs k ≡ Some x → (i : ℕ) × Has (nodes_in ss) i × (slice_get names i ≡ Some x)
  root_in k x no_value e = absurd (none_some e)
  root_in zero x (one_value draws_int ds) e = absurd (none_some e)
  root_in zero x (one_value draws_long ds) e = absurd (none_some e)
  root_in zero x (one_value draws_null ds) e = absurd (none_some e)
  root_in zero x (one_value (draws_node {i = i} f) ds) e = (i, (zero, refl), f ∙ e)
  root_in (suc k) x (one_value {s = s} {ss = ss} d ds) e = let r = root_in k x ds e in (r.0, more s ss r.0 r.1, r.2)
    where
      more : (s : Slot) (ss : List Slot) (i : ℕ) → Has (nodes_in ss) i → Has (nodes_in (s ∷ ss)) i
      more (Int n) ss i h = h
      more (Long n) ss i h = h
      more Null ss i h = h
      more (At j) ss i h = (suc h.0, h.1)

  root_out : {vs : List Value} {ss : List Slot} (i : ℕ) → AllDraw names vs ss → Has (nodes_in ss) i → (x : ℕ) × Holds vs x × (slice_get names i ≡ Some x)
  root_out i no_value h = absurd (none_some h.1)
  root_out i (one_value draws_int ds) h = let r = root_out i ds h in (r.0, (suc r.1.0, r.1.1), r.2)
  root_out i (one_value draws_long ds) h = let r = root_out i ds h in (r.0, (suc r.1.0, r.1.1), r.2)
  root_out i (one_value draws_null ds) h = let r = root_out i ds h in (r.0, (suc r.1.0, r.1.1), r.2)
  root_out i (one_value (draws_node {x = x} f) ds) (zero, e) = (x, (zero, refl), ap (slice_get names) (sym (some_eq e)) ∙ f)
  root_out i (one_value (draws_node f) ds) (suc k, e) = let r = root_out i ds (k, e) in (r.0, (suc r.1.0, r.1.1), r.2)

module _ (P : ProgramTables) (h : Heap) (names : List ℕ) (g : Graph) (shown : Shown P h names g) where
  -- an object and its node
  record Both (i x : ℕ) : Type 0 where
    object : Obj
    node : Node
    has : get h x ≡ Some object
    is : node_at g i ≡ Some node
    draws : DrawsObject P names object node

  both : (i x : ℕ) → slice_get names i ≡ Some x → Both i x
  both i x e = by (get h x) (node_at g i) refl refl (shown.objects i x e)
    where
      by : (o : Option Obj) (n : Option Node) → get h x ≡ o → node_at g i ≡ n → IsSomeAnd o (λ o. IsSomeAnd n (λ n. DrawsObject P names o n)) → Both i x
      by None n e f d = absurd d
      by (Some o) None e f d = absurd d
      by (Some o) (Some n) e f d = record { object = o; node = n; has = e; is = f; draws = d }

  -- ---- from the graph to the heap

  some_drawn : (q : Option ℕ) (us : List Value) (s : Slot) → IsSomeAnd q (λ j. IsSomeAnd (slice_get us j) (λ v. Draws names v s)) → (j : ℕ) × (v : Value) × (slice_get us j ≡ Some v) × Draws names v s
  some_drawn None us s d = absurd d
  some_drawn (Some j) us s d = by (slice_get us j) refl d
    where
      by : (o : Option Value) → slice_get us j ≡ o → IsSomeAnd o (λ v. Draws names v s) → (j : ℕ) × (v : Value) × (slice_get us j ≡ Some v) × Draws names v s
      by None e d = absurd d
      by (Some v) e d = (j, v, e, d)

  pub step_out : (i k x : ℕ) → slice_get names i ≡ Some x → Has (next_node g i) k → (j : ℕ) × (y : ℕ) × (slot_name h x j ≡ Some y) × (slice_get names k ≡ Some y)
  unfolding next_node
  step_out i k x e has =
      let b = both i x e in
      let there : Has (nodes_in b.node.slots) k = subst (λ (n : Option Node). Has (nodes_in (option_map_or (λ n. n.slots) n [])) k) b.is has in
      let p = node_place b.node.slots k there in
      let d = some_drawn (stream_place P b.node.kind p.0) b.object.slots (At k) (b.draws.slots p.0 (At k) p.1) in
      let v = drawn_node names d.1 (At k) k d.3 refl in (
        d.0,
        v.0,
        ap (λ (o : Option Obj). on_some o None (λ o. name_at o.slots d.0)) b.has ∙ ap (λ (w : Option Value). on_some w None name_in) (d.2 ∙ ap Some v.1),
        v.2,
      )

  pub way_out : (Root : ℕ → Type 0) (i k x y : ℕ) → Reach h Root x → slice_get names i ≡ Some x → LeadsTo g i k → slice_get names k ≡ Some y → Reach h Root y
  way_out Root i k x y r e here f = subst (Reach h Root) (some_eq (sym e ∙ f)) r
  way_out Root i k x y r e (onward {j = j} has more) f =
      let s = step_out i j x e has in
      way_out Root j k s.1 y (reach_on h Root x s.0 s.1 r s.2) s.3 more f

  -- ---- from the heap to the graph

  module _ (covers : Covers P g) where
    pub step_in : (i x j y : ℕ) → slice_get names i ≡ Some x → slot_name h x j ≡ Some y → (k : ℕ) × Has (next_node g i) k × (slice_get names k ≡ Some y)
    unfolding next_node
    step_in i x j y e f =
        let b = both i x e in
        let at : slice_get b.object.slots j ≡ Some (values.Ref y) = named_value (slice_get b.object.slots j) y (ap (λ (o : Option Obj). on_some o None (λ o. name_at o.slots j)) (sym b.has) ∙ f) in
        let c = covers i b.node b.is j (subst (λ m. j < m) b.draws.count (slice_get_within b.object.slots j (values.Ref y) at)) in
        let d = b.draws.slots c.0 c.1 c.2 in
        let d' = subst (λ (q : Option ℕ). IsSomeAnd q (λ j. IsSomeAnd (slice_get b.object.slots j) (λ v. Draws names v c.1))) c.3 d in
        let d'' = subst (λ (o : Option Value). IsSomeAnd o (λ v. Draws names v c.1)) at d' in
        let n = drawn_name names (values.Ref y) c.1 y d'' refl in
        let has = place_node b.node.slots c.0 n.0 (subst (λ (s : Slot). slice_get b.node.slots c.0 ≡ Some s) n.1 c.2) in
        (n.0, subst (λ (o : Option Node). Has (nodes_in (option_map_or (λ n. n.slots) o [])) n.0) (sym b.is) has, n.2)

    pub way_in : (path : List ℕ) (i a x : ℕ) → slice_get names i ≡ Some a → leads h path a ≡ Some x → (k : ℕ) × LeadsTo g i k × (slice_get names k ≡ Some x)
    way_in [] i a x e f = (i, here, e ∙ f)
    way_in (j ∷ path) i a x e f =
        let c = bound (slot_name h a j) (leads h path) x f in
        let s = step_in i a j c.0 e c.1 in
        let r = way_in path s.0 c.0 x s.2 c.2 in
        (r.0, onward s.1 r.1, r.2)

    module _ (vs : List Value) (roots : AllDraw names vs (root_slots g.roots)) where
      -- all that is reached is listed
      pub reached_listed : (x : ℕ) → Reach h (Holds vs) x → Has names x
      reached_listed x r =
          let a = root_in names r.1.0 r.0 roots r.1.1 in
          let w = way_in r.2 a.0 r.0 x a.2 r.3 in
          (w.0, w.2)

      kind_in : (i a : ℕ) → slice_get names i ≡ Some a → IsSomeAnd (get h a) (λ o. IsTrue (is_restorable P o.kind)) → IsSomeAnd (node_kind g i) (λ kind. IsTrue (is_restorable P kind))
      kind_in i a e r =
          let b = both i a e in
          let r' : IsTrue (is_restorable P b.object.kind) = subst (λ (o : Option Obj). IsSomeAnd o (λ o. IsTrue (is_restorable P o.kind))) b.has r in
          subst (λ (n : Option Node). IsSomeAnd (option_map (λ n. n.kind) n) (λ kind. IsTrue (is_restorable P kind))) (sym b.is) (subst (λ kind. IsTrue (is_restorable P kind)) b.draws.kind r')

      kind_out : (i a : ℕ) → slice_get names i ≡ Some a → IsSomeAnd (node_kind g i) (λ kind. IsTrue (is_restorable P kind)) → IsSomeAnd (get h a) (λ o. IsTrue (is_restorable P o.kind))
      kind_out i a e r =
          let b = both i a e in
          let r' : IsTrue (is_restorable P b.node.kind) = subst (λ (n : Option Node). IsSomeAnd (option_map (λ n. n.kind) n) (λ kind. IsTrue (is_restorable P kind))) b.is r in
          subst (λ (o : Option Obj). IsSomeAnd o (λ o. IsTrue (is_restorable P o.kind))) (sym b.has) (subst (λ kind. IsTrue (is_restorable P kind)) (sym b.draws.kind) r')

      -- the listed nodes are the objects that a restorable argument reaches
      listed_shared : (k x : ℕ) → slice_get names k ≡ Some x → IsListed P g k → IsShared P h vs x
      listed_shared k x e l =
          let a = root_out names l.root roots l.named in
          way_out (RestorableRoot P h vs) l.root k a.0 x (a.0, (a.1, kind_out l.root a.0 a.2 l.restorable), [], refl) a.2 l.leads e

      shared_listed : (k x : ℕ) → slice_get names k ≡ Some x → IsShared P h vs x → IsListed P g k
      shared_listed k x e r =
          let a = root_in names r.1.0.0 r.0 roots r.1.0.1 in
          let w = way_in r.2 a.0 r.0 x a.2 r.3 in
          let same : w.0 ≡ k = shown.distinct w.0 k x w.2 e in
          record { root = a.0; named = a.1; restorable = kind_in a.0 r.0 a.2 r.1.1; leads = subst (LeadsTo g a.0) same w.1 }

      pub lists_shared : (nodes : List ℕ) → Lists P g nodes → (k x : ℕ) → slice_get names k ≡ Some x → Has nodes k ↔ IsShared P h vs x
      lists_shared nodes lists k x e = ((λ has. listed_shared k x e ((lists.just k).0 has)), (λ r. (lists.just k).1 (shared_listed k x e r)))
