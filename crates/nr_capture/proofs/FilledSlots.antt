-- Slots of new objects, filled one by one.
use Rattle.std.proofs.Common.{◌≡◌, ℕ, zero, suc, ◌+◌, ◌^◌, ◌<◌, ◌≤◌, ◌⊎◌, inl, inr, List, [], ◌∷◌, length, get_or, refl, sym, ap, subst, subst₂, ◌∙◌, arith, Option, Some, None}
use Rattle.std.specs.Prelude.{IsSomeAnd, slice_get, slice_set, ℤ}
use Rattle.std.specs.FinMap.{get}
use Rattle.std.specs.List.{AllByRecursion}
use Rattle.std.proofs.Math.Decide.{ℕ_discrete}
use Rattle.std.proofs.lemmas.List.{length-set}
use Rattle.std.proofs.lemmas.Option.{slice_get-get_or}
use Rattle.nr_linked.specs.declared.program.kind.Kind.{Kind}
use Rattle.nr_linked.specs.declared.program.tables.ProgramTables.{ProgramTables}
use Rattle.nr_linked.specs.Linked.{Linked}
use Rattle.nr_model.specs.declared.value.Value.{Value}
use Rattle.nr_model.specs.declared.value.Value.TheVariants as values
use Rattle.nr_model.specs.Belonging.{Belongs}
use Rattle.nr_model.specs.Heaps.{EachOnce, Heap, Obj}
use Rattle.nr_model.specs.Outcomes.{max_cells}
use Rattle.nr_model.specs.Scripts.{with_slot}
use Rattle.nr_model.specs.TypedHeaps.{TypedHeap, slot_ty}
use Rattle.nr_model.proofs.Heaps.{get_other, get_same}
use Rattle.nr_model.proofs.Paths.{none_some, some_eq}
use Rattle.nr_heap.specs.Contents.{Contents, Keeps}
use Rattle.nr_heap.proofs.Maps.{slice_get-set, slice_get-set_other}
use Rattle.nr_heap.proofs.Typed.{kept, typed_slot}
use Rattle.nr_graph.specs.declared.graph.Slot.{Slot}
use Rattle.nr_graph.specs.declared.graph.Slot.TheVariants.{Int, Long, Null, Node as At}
use Rattle.nr_graph.specs.declared.graph.Node.{Node}
use Rattle.nr_graph.specs.declared.graph.Graph.{Graph}
use Rattle.nr_graph.specs.Fitting.{GraphFits, NodeFits}
use Rattle.nr_graph.specs.Graphs.{AreThere, cells_of_nodes, nodes_in}
use Rattle.nr_graph.specs.Pictures.{Draws, draws_int, draws_long, draws_null, draws_node}
use Rattle.nr_graph.specs.StreamOrder.{stream_place}
use Rattle.nr_capture.specs.Filling.{ChangesOnly, IsBefore, IsFilled}
use Rattle.nr_capture.specs.Making.{AreOf, IsOf}
use Rattle.nr_capture.proofs.Fits.{one_of}
use Rattle.nr_capture.proofs.Found.{get_there, in_range}
use Rattle.nr_capture.proofs.StreamFits.{place_belongs, place_once, place_there, place_within}

-- ---- nodes

pub node_cells : (ns : List Node) (i : ℕ) (n : Node) → slice_get ns i ≡ Some n → length n.slots + 1 ≤ cells_of_nodes ns
node_cells [] i n e = absurd (none_some e)
node_cells (m ∷ ns) zero n e = let l = ap (λ (n : Node). length n.slots) (some_eq e) in omega (arith, l)
node_cells (m ∷ ns) (suc i) n e = let l = node_cells ns i n e in omega (arith, l)

-- the object of a node
pub object_at : (h : Heap) (names : List ℕ) (g : Graph) → AreOf h names g.nodes → (i x : ℕ) (n : Node) → slice_get names i ≡ Some x → slice_get g.nodes i ≡ Some n
    → (o : Obj) × (get h x ≡ Some o) × IsOf n.kind (length n.slots) o
object_at h names g are i x n e f = by (get h x) refl (are.objects i x e)
  where
    of : (o : Obj) (m : Option Node) → m ≡ Some n → IsSomeAnd m (λ n. IsOf n.kind (length n.slots) o) → IsOf n.kind (length n.slots) o
    of o None e a = absurd a
    of o (Some m) e a = subst (λ n. IsOf n.kind (length n.slots) o) (some_eq e) a

    by : (q : Option Obj) → get h x ≡ q → IsSomeAnd q (λ o. IsSomeAnd (slice_get g.nodes i) (λ n. IsOf n.kind (length n.slots) o)) → (o : Obj) × (get h x ≡ Some o) × IsOf n.kind (length n.slots) o
    by None e a = absurd a
    by (Some o) e a = (o, e, of o (slice_get g.nodes i) f a)

-- what each slot stands for
pub int_stands : (names : List ℕ) (s : Slot) (n m : ℤ) → s ≡ Int n → m ≡ n → Draws names (values.Int m) s
int_stands names s n m e f = subst₂ (λ m s. Draws names (values.Int m) s) (sym f) (sym e) draws_int

pub long_stands : (names : List ℕ) (s : Slot) (n m : ℤ) → s ≡ Long n → m ≡ n → Draws names (values.Long m) s
long_stands names s n m e f = subst₂ (λ m s. Draws names (values.Long m) s) (sym f) (sym e) draws_long

pub null_stands : (names : List ℕ) (s : Slot) → s ≡ Null → Draws names values.Null s
null_stands names s e = subst (Draws names values.Null) (sym e) draws_null

pub node_stands : (names : List ℕ) (s : Slot) (i d : ℕ) → s ≡ At i → AllByRecursion (λ i. i < length names) (nodes_in (s ∷ [])) → Draws names (values.Ref (get_or names i d)) s
node_stands names s i d e a =
    let l = (subst (λ s. AllByRecursion (λ i. i < length names) (nodes_in (s ∷ []))) e a).0 in
    subst (Draws names (values.Ref (get_or names i d))) (sym e) (draws_node (slice_get-get_or names i d l))

value_drawn : (names : List ℕ) (s : Slot) → AllByRecursion (λ i. i < length names) (nodes_in (s ∷ [])) → (v : Value) × Draws names v s
value_drawn names (Int n) a = (values.Int n, draws_int)
value_drawn names (Long n) a = (values.Long n, draws_long)
value_drawn names Null a = (values.Null, draws_null)
value_drawn names (At i) a = let x = get_there names i a.0 in (values.Ref x.0, draws_node x.1)

slot_below : (n k : ℕ) (ss : List Slot) (s : Slot) → AllByRecursion (λ i. i < n) (nodes_in ss) → slice_get ss k ≡ Some s → AllByRecursion (λ i. i < n) (nodes_in (s ∷ []))
slot_below n k [] s a e = absurd (none_some e)
slot_below n zero (Int m ∷ ss) s a e = subst (λ s. AllByRecursion (λ i. i < n) (nodes_in (s ∷ []))) (some_eq e) tt
slot_below n zero (Long m ∷ ss) s a e = subst (λ s. AllByRecursion (λ i. i < n) (nodes_in (s ∷ []))) (some_eq e) tt
slot_below n zero (Null ∷ ss) s a e = subst (λ s. AllByRecursion (λ i. i < n) (nodes_in (s ∷ []))) (some_eq e) tt
slot_below n zero (At i ∷ ss) s a e = subst (λ s. AllByRecursion (λ i. i < n) (nodes_in (s ∷ []))) (some_eq e) (a.0, tt)
slot_below n (suc k) (Int m ∷ ss) s a e = slot_below n k ss s a e
slot_below n (suc k) (Long m ∷ ss) s a e = slot_below n k ss s a e
slot_below n (suc k) (Null ∷ ss) s a e = slot_below n k ss s a e
slot_below n (suc k) (At i ∷ ss) s a e = slot_below n k ss s a.1 e

-- each node that a slot names has a name
pub slot_named : (P : ProgramTables) (names : List ℕ) (g : Graph) → GraphFits P g → length names ≡ length g.nodes → (i k : ℕ) (n : Node) (s : Slot) → slice_get g.nodes i ≡ Some n → slice_get n.slots k ≡ Some s
    → AllByRecursion (λ i. i < length names) (nodes_in (s ∷ []))
slot_named P names g fits long i k n s node slot =
    subst (λ m. AllByRecursion (λ i. i < m) (nodes_in (s ∷ []))) (sym long) (slot_below (length g.nodes) k n.slots s (one_of (λ n. AreThere g (nodes_in n.slots)) g.nodes i n fits.within.slots node) slot)

pub slot_drawn : (P : ProgramTables) (names : List ℕ) (g : Graph) → GraphFits P g → length names ≡ length g.nodes → (i k : ℕ) (n : Node) (s : Slot) → slice_get g.nodes i ≡ Some n → slice_get n.slots k ≡ Some s
    → (v : Value) × Draws names v s
slot_drawn P names g fits long i k n s node slot = value_drawn names s (slot_named P names g fits long i k n s node slot)

-- ---- one slot

module _ (P : ProgramTables) (linked : Linked P) (names : List ℕ) (g : Graph) (fits : GraphFits P g) (i k : ℕ) (h : Heap) (filled : IsFilled P names g i k h)
    (x : ℕ) (n : Node) (s : Slot) (at : slice_get names i ≡ Some x) (node : slice_get g.nodes i ≡ Some n) (slot : slice_get n.slots k ≡ Some s) where
  node_fits : NodeFits P g n
  node_fits = one_of (NodeFits P g) g.nodes i n fits.nodes node

  pub slot_place : IsSomeAnd (stream_place P n.kind k) (λ p. Unit {0})
  slot_place = place_there P linked n.kind (length n.slots) k node_fits.count (in_range n.slots k s slot)

  module _ (p : ℕ) (v : Value) (place : stream_place P n.kind k ≡ Some p) (draws : Draws names v s) where
    within : p < length n.slots
    within = place_within P n.kind (length n.slots) k p node_fits.count (in_range n.slots k s slot) place

    belongs : Belongs P h (slot_ty P n.kind p) v
    belongs = place_belongs P h names g filled.made n.kind (length n.slots) k p v s node_fits.count place (node_fits.slots k s slot) draws

    pub slot_within : IsSomeAnd (get h x) (λ o. p < length o.slots)
    slot_within =
        let o = object_at h names g filled.made i x n at node in
        subst (λ q. IsSomeAnd q (λ o. p < length o.slots)) (sym o.1) (subst (λ m. p < m) (sym o.2.count) within)

    pub slot_kept : IsSomeAnd (get h x) (λ o. Keeps o.kind v)
    slot_kept =
        let o = object_at h names g filled.made i x n at node in
        subst (λ q. IsSomeAnd q (λ o. Keeps o.kind v)) (sym o.1) (subst (λ kind. Keeps kind v) (sym o.2.kind_is) (kept P h n.kind p v belongs))

    module _ (o : Obj) (there : get h x ≡ Some o) (is : IsOf n.kind (length n.slots) o) (distinct : EachOnce names) where
      now : Obj
      now = record o { slots = slice_set o.slots p v }

      low : p < length o.slots
      low = subst (λ m. p < m) (sym is.count) within

      same : (y : ℕ) → y ≡ x → get (with_slot h x o p v) y ≡ Some (record o { slots = slice_set o.slots p v })
      same y e = ap (get (with_slot h x o p v)) e ∙ get_same h x (record o { slots = slice_set o.slots p v })

      still : AreOf (with_slot h x o p v) names g.nodes
      still = record { count = filled.made.count; objects = λ j y e. by j y (ℕ_discrete y x) (filled.made.objects j y e) }
        where
          old : (j : ℕ) (m : Option Node) → IsSomeAnd m (λ n. IsOf n.kind (length n.slots) o) → IsSomeAnd m (λ n. IsOf n.kind (length n.slots) (record o { slots = slice_set o.slots p v }))
          old j None a = absurd a
          old j (Some m) a = record { kind_is = a.kind_is; count = length-set o.slots p v ∙ a.count }

          by : (j y : ℕ) → Dec (y ≡ x) → IsSomeAnd (get h y) (λ o. IsSomeAnd (slice_get g.nodes j) (λ n. IsOf n.kind (length n.slots) o))
              → IsSomeAnd (get (with_slot h x o p v) y) (λ o. IsSomeAnd (slice_get g.nodes j) (λ n. IsOf n.kind (length n.slots) o))
          by j y (yes d) a =
              subst (λ q. IsSomeAnd q (λ o. IsSomeAnd (slice_get g.nodes j) (λ n. IsOf n.kind (length n.slots) o))) (sym (same y d))
              (old j (slice_get g.nodes j) (subst (λ q. IsSomeAnd q (λ o. IsSomeAnd (slice_get g.nodes j) (λ n. IsOf n.kind (length n.slots) o))) (ap (get h) d ∙ there) a))
          by j y (no m) a = subst (λ q. IsSomeAnd q (λ o. IsSomeAnd (slice_get g.nodes j) (λ n. IsOf n.kind (length n.slots) o))) (sym (get_other h x y (record o { slots = slice_set o.slots p v }) m)) a

      -- what a slot of an object shows
      abbrev Shows : Obj → Kind → ℕ → Slot → Type 0
      Shows q kind l t = IsSomeAnd (stream_place P kind l) (λ p. IsSomeAnd (slice_get q.slots p) (λ v. Draws names v t))

      last_shows : Shows (record o { slots = slice_set o.slots p v }) n.kind k s
      last_shows =
          subst (λ q. IsSomeAnd q (λ p'. IsSomeAnd (slice_get (slice_set o.slots p v) p') (λ v. Draws names v s))) (sym place)
          (subst (λ q. IsSomeAnd q (λ v. Draws names v s)) (sym (slice_get-set o.slots p v low)) draws)

      before_shows : (l : ℕ) (t : Slot) → l < k → Shows o n.kind l t → Shows (record o { slots = slice_set o.slots p v }) n.kind l t
      before_shows l t less a = by (stream_place P n.kind l) refl a
        where
          by : (q : Option ℕ) → stream_place P n.kind l ≡ q → IsSomeAnd q (λ p'. IsSomeAnd (slice_get o.slots p') (λ v. Draws names v t))
              → IsSomeAnd q (λ p'. IsSomeAnd (slice_get (slice_set o.slots p v) p') (λ v. Draws names v t))
          by None e a = absurd a
          by (Some r) e a =
              let apart : r ≡ p → ⊥ = λ d. let same : l ≡ k = place_once P linked n.kind (length n.slots) k l p node_fits.count place (e ∙ ap Some d) in absurd (omega (arith, less, same)) in
              subst (λ q. IsSomeAnd q (λ v. Draws names v t)) (sym (slice_get-set_other o.slots p r v apart)) a

      drawn : (j l y : ℕ) (q : Obj) (m : Node) (t : Slot) → IsBefore j l i (k + 1) → slice_get names j ≡ Some y → get (with_slot h x o p v) y ≡ Some q → slice_get g.nodes j ≡ Some m
          → slice_get m.slots l ≡ Some t → Shows q m.kind l t
      drawn j l y q m t b e f a c = by (ℕ_discrete y x) b
        where
          earlier : (y ≡ x → ⊥) → IsBefore j l i (k + 1) → IsBefore j l i k
          earlier d (inl less) = inl less
          earlier d (inr both) = absurd (d (some_eq (sym e ∙ ap (slice_get names) both.0 ∙ at)))

          own : y ≡ x → j ≡ i
          own d = distinct j i x (e ∙ ap Some d) at

          split : y ≡ x → IsBefore j l i (k + 1) → (l < k) ⊎ (l ≡ k)
          split d (inl less) = let s = own d in absurd (omega (arith, less, s))
          split d (inr both) = by_cases (ℕ_discrete l k)
            where
              by_cases : Dec (l ≡ k) → (l < k) ⊎ (l ≡ k)
              by_cases (yes e) = inr e
              by_cases (no n) = let r = both.1 in inl (omega (arith, r, n))

          shown : y ≡ x → (l < k) ⊎ (l ≡ k) → Shows (record o { slots = slice_set o.slots p v }) n.kind l t
          shown d (inl less) =
              let nodes : slice_get n.slots l ≡ Some t = ap (λ (m : Node). slice_get m.slots l) (some_eq (sym node ∙ ap (slice_get g.nodes) (sym (own d)) ∙ a)) ∙ c in
              before_shows l t less (filled.drawn i l x o n t (inr (refl, less)) at there node nodes)
          shown d (inr z) =
              let nodes : slice_get n.slots l ≡ Some t = ap (λ (m : Node). slice_get m.slots l) (some_eq (sym node ∙ ap (slice_get g.nodes) (sym (own d)) ∙ a)) ∙ c in
              let t_is : s ≡ t = some_eq (sym slot ∙ ap (slice_get n.slots) (sym z) ∙ nodes) in
              subst (λ l. Shows (record o { slots = slice_set o.slots p v }) n.kind l t) (sym z) (subst (Shows (record o { slots = slice_set o.slots p v }) n.kind k) t_is last_shows)

          by : Dec (y ≡ x) → IsBefore j l i (k + 1) → Shows q m.kind l t
          by (no d) b = filled.drawn j l y q m t (earlier d b) e (sym (get_other h x y (record o { slots = slice_set o.slots p v }) d) ∙ f) a c
          by (yes d) b =
              let obj : record o { slots = slice_set o.slots p v } ≡ q = some_eq (sym (same y d) ∙ f) in
              let nod : n ≡ m = some_eq (sym node ∙ ap (slice_get g.nodes) (sym (own d)) ∙ a) in
              subst (λ (m : Node). Shows q m.kind l t) nod (subst (λ q. Shows q n.kind l t) obj (shown d (split d b)))

      filled_one : IsFilled P names g i (k + 1) (with_slot h x o p v)
      filled_one = record {
        typed = typed_slot P h x p o v filled.typed there low (subst (λ kind. Belongs P h (slot_ty P kind p) v) (sym is.kind_is) belongs);
        made = still;
        drawn = drawn;
      }

    pub filled_more : (d : Heap) → EachOnce names → IsSomeAnd (get h x) (λ o. d ≡ with_slot h x o p v) → IsFilled P names g i (k + 1) d
    filled_more d distinct e =
        let o = object_at h names g filled.made i x n at node in
        let is : d ≡ with_slot h x o.0 p v = subst (λ q. IsSomeAnd q (λ o. d ≡ with_slot h x o p v)) o.1 e in
        subst (IsFilled P names g i (k + 1)) (sym is) (filled_one o.0 o.1 o.2 distinct)

-- ---- node by node

pub filled_none : (P : ProgramTables) (names : List ℕ) (g : Graph) (h : Heap) → TypedHeap P h → AreOf h names g.nodes → IsFilled P names g 0 0 h
filled_none P names g h typed made = record { typed = typed; made = made; drawn = λ j l x o n s b e f a c. absurd (none b) }
  where
    none : {j l : ℕ} → IsBefore j l 0 0 → ⊥
    none (inl less) = omega arith
    none (inr both) = let r = both.1 in omega (arith, r)

pub filled_node : (P : ProgramTables) (names : List ℕ) (g : Graph) (i k : ℕ) (h : Heap) (n : Node) → IsFilled P names g i k h → slice_get g.nodes i ≡ Some n → length n.slots ≤ k
    → IsFilled P names g (i + 1) 0 h
filled_node P names g i k h n filled node l = record {
  typed = filled.typed;
  made = filled.made;
  drawn = λ j m x o q s b e f a c. filled.drawn j m x o q s (by j m q s b a c) e f a c;
}
  where
    by : (j m : ℕ) (q : Node) (s : Slot) → IsBefore j m (i + 1) 0 → slice_get g.nodes j ≡ Some q → slice_get q.slots m ≡ Some s → IsBefore j m i k
    by j m q s (inr both) a c = let r = both.1 in absurd (omega (arith, r))
    by j m q s (inl less) a c = cases (ℕ_discrete j i)
      where
        cases : Dec (j ≡ i) → IsBefore j m i k
        cases (no d) = inl (omega (arith, less, d))
        cases (yes d) =
            let same : n ≡ q = some_eq (sym node ∙ ap (slice_get g.nodes) (sym d) ∙ a) in
            let there = in_range q.slots m s c in
            let long = ap (λ (n : Node). length n.slots) same in
            inr (d, omega (arith, there, long, l))

-- ---- other objects

pub others_none : (names : List ℕ) (h : Heap) → ChangesOnly names h h
others_none names h x n = refl

pub others_more : (names : List ℕ) (h c d : Heap) (i x p : ℕ) (v : Value) → ChangesOnly names h c → slice_get names i ≡ Some x → IsSomeAnd (get c x) (λ o. d ≡ with_slot c x o p v)
    → ChangesOnly names h d
others_more names h c d i x p v all at e y n = by (get c x) e
  where
    by : (q : Option Obj) → IsSomeAnd q (λ o. d ≡ with_slot c x o p v) → get d y ≡ get h y
    by None e = absurd e
    by (Some o) e = ap (λ k. get k y) e ∙ get_other c x y (record o { slots = slice_set o.slots p v }) (λ d. n (i, at ∙ ap Some (sym d))) ∙ all y n

pub others_on : (names : List ℕ) (h c d : Heap) → ChangesOnly names h c → ChangesOnly names c d → ChangesOnly names h d
others_on names h c d a b x n = b x n ∙ a x n

-- ---- what code reads of a slot

pub record SlotAt (names : List ℕ) (g : Graph) (i k x : ℕ) (n : Node) (s : Slot) : Type 0 where
  pub name : slice_get names i ≡ Some x
  pub node : slice_get g.nodes i ≡ Some n
  pub slot : slice_get n.slots k ≡ Some s

node_read : (ns ms : List Node) (i : ℕ) (d : Node) → ns ≡ ms → i < length ms → slice_get ms i ≡ Some (get_or ns i d)
node_read ns ms i d same l = ap (λ ns. slice_get ns i) (sym same) ∙ slice_get-get_or ns i d (subst (λ ns. i < length ns) (sym same) l)

module _ (names : List ℕ) (g : Graph) (ns : List Node) (ss : List Slot) (i : ℕ) (d e : Node) (same : ns ≡ g.nodes) (l : i < length g.nodes) (slots : ss ≡ (get_or ns i e).slots) where
  pub node_at : slice_get g.nodes i ≡ Some (get_or ns i d)
  node_at = node_read ns g.nodes i d same l

  pub slots_are : ss ≡ (get_or ns i d).slots
  slots_are = slots ∙ ap (λ (n : Node). n.slots) (some_eq (sym (node_read ns g.nodes i e same l) ∙ node_at))

  pub slot_at : (k : ℕ) (z : Slot) → length names ≡ length g.nodes → k < length ss → SlotAt names g i k (get_or names i 0) (get_or ns i d) (get_or ss k z)
  slot_at k z long low = record {
    name = slice_get-get_or names i 0 (omega (arith, l, long));
    node = node_at;
    slot = ap (λ ss. slice_get ss k) (sym slots_are) ∙ slice_get-get_or ss k z low;
  }

  -- a graph within the limit has few slots
  pub slots_few : (k : ℕ) → cells_of_nodes g.nodes ≤ max_cells → k < length ss → k < 2 ^ 32
  slots_few k few low = let a = node_cells g.nodes i (get_or ns i d) node_at in let b = ap length slots_are in omega (arith, few, low, a, b)

pub written_objects : (c d : Contents) (x p : ℕ) (v : Value) → IsSomeAnd (get c.objects x) (λ o. d ≡ record c { objects = with_slot c.objects x o p v }) → IsSomeAnd (get c.objects x) (λ o. d.objects ≡ with_slot c.objects x o p v)
written_objects c d x p v e = by (get c.objects x) e
  where
    by : (q : Option Obj) → IsSomeAnd q (λ o. d ≡ record c { objects = with_slot c.objects x o p v }) → IsSomeAnd q (λ o. d.objects ≡ with_slot c.objects x o p v)
    by None e = absurd e
    by (Some o) e = ap (λ (c : Contents). c.objects) e
