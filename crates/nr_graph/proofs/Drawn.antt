-- What the objects of a heap and the nodes of a graph that it shows lead to.
use Rattle.std.proofs.Common.{◌≡◌, ℕ, zero, suc, ◌+◌, List, [], ◌∷◌, ◌++◌, length, refl, sym, subst, ◌∙◌, arith}
use Rattle.std.specs.Prelude.{Option, Some, None, IsSomeAnd, slice_get}
use Rattle.std.specs.FinMap.{get}
use Rattle.std.specs.List.{AllByRecursion, cons_option, filter_map, range_with_len}
use Rattle.std.specs.Option.{option_and_then, option_map_or}
use Rattle.nr_linked.specs.declared.program.tables.ProgramTables.{ProgramTables}
use Rattle.nr_model.specs.declared.value.Value.{Value}
use Rattle.nr_model.specs.declared.value.Value.TheVariants as values
use Rattle.nr_model.specs.Heaps.{Heap, Obj, on_some}
use Rattle.nr_model.specs.Pairs.{Reach, name_at, name_in, slot_name}
use Rattle.nr_model.proofs.Paths.{leads_on, none_some}
use Rattle.nr_graph.specs.declared.graph.Graph.{Graph}
use Rattle.nr_graph.specs.declared.graph.Node.{Node}
use Rattle.nr_graph.specs.declared.graph.Slot.{Slot}
use Rattle.nr_graph.specs.Graphs.{next_node, node_at, nodes_in}
use Rattle.nr_graph.specs.Pictures.{Draws, draws_int, draws_long, draws_null, draws_node, AllDraw, no_value, one_value, DrawsObject, Shown, names_in, next_in, stream_values}
use Rattle.nr_graph.specs.StreamOrder.{stream_place}
use Rattle.nr_graph.proofs.Beside.{Beside, no_more, one_more}

-- ---- names beside nodes

module _ (names : List ℕ) where
  abbrev pub IsAt : ℕ → ℕ → Type 0
  IsAt x i = slice_get names i ≡ Some x

  pub drawn_beside : {vs : List Value} {ss : List Slot} → AllDraw names vs ss → Beside IsAt (names_in vs) (nodes_in ss)
  drawn_beside no_value = no_more
  drawn_beside (one_value draws_int ds) = drawn_beside ds
  drawn_beside (one_value draws_long ds) = drawn_beside ds
  drawn_beside (one_value draws_null ds) = drawn_beside ds
  drawn_beside (one_value (draws_node e) ds) = one_more e (drawn_beside ds)

  -- values that are looked up place by place
  drawn_from : (f : ℕ → Option Value) (a : ℕ) (ss : List Slot) → ((k : ℕ) (s : Slot) → slice_get ss k ≡ Some s → IsSomeAnd (f (a + k)) (λ v. Draws names v s))
      → AllDraw names (filter_map f (range_with_len a (length ss))) ss
  drawn_from f a [] each = no_value
  drawn_from f a (s ∷ ss) each =
      by (f a) (let e : a + 0 ≡ a = omega arith in subst (λ b. IsSomeAnd (f b) (λ v. Draws names v s)) e (each zero s refl))
      (drawn_from f (a + 1) ss (λ k t e. let m : a + suc k ≡ (a + 1) + k = omega arith in subst (λ b. IsSomeAnd (f b) (λ v. Draws names v t)) m (each (suc k) t e)))
    where
      by : (o : Option Value) → IsSomeAnd o (λ v. Draws names v s) → AllDraw names (filter_map f (range_with_len (a + 1) (length ss))) ss
          → AllDraw names (cons_option o (filter_map f (range_with_len (a + 1) (length ss)))) (s ∷ ss)
      by None d rest = absurd d
      by (Some v) d rest = one_value d rest

  module _ (P : ProgramTables) where
    looked_up : (q : Option ℕ) (us : List Value) (Q : Value → Type 0) → IsSomeAnd q (λ i. IsSomeAnd (slice_get us i) Q) → IsSomeAnd (option_and_then (slice_get us) q) Q
    looked_up None us Q h = absurd h
    looked_up (Some i) us Q h = h

    -- an object's values in the order of the stream are the slots of its node
    pub stream_drawn : (o : Obj) (n : Node) → DrawsObject P names o n → AllDraw names (stream_values P o) n.slots
    stream_drawn o n d = subst (λ m. AllDraw names (filter_map look (range_with_len 0 m)) n.slots) (sym d.count) (drawn_from look 0 n.slots each)
      where
        look : ℕ → Option Value
        look k = option_and_then (slice_get o.slots) (stream_place P o.kind k)

        each : (k : ℕ) (s : Slot) → slice_get n.slots k ≡ Some s → IsSomeAnd (look (0 + k)) (λ v. Draws names v s)
        each k s e =
            let m : k ≡ 0 + k = omega arith in
            subst (λ j. IsSomeAnd (look j) (λ v. Draws names v s)) m
            (looked_up (stream_place P o.kind k) o.slots (λ v. Draws names v s)
            (subst (λ kind. IsSomeAnd (stream_place P kind k) (λ i. IsSomeAnd (slice_get o.slots i) (λ v. Draws names v s))) (sym d.kind) (d.slots k s e)))

    next_of : (o : Option Obj) (n : Option Node) → IsSomeAnd o (λ o. IsSomeAnd n (λ n. DrawsObject P names o n))
        → Beside IsAt (on_some o [] (λ o. names_in (stream_values P o))) (nodes_in (option_map_or (λ n. n.slots) n []))
    next_of None n d = absurd d
    next_of (Some o) None d = absurd d
    next_of (Some o) (Some n) d = drawn_beside (stream_drawn o n d)

    -- what a name leads to stands beside what its node leads to
    pub next_beside : (h : Heap) (g : Graph) → Shown P h names g → (x i : ℕ) → IsAt x i → Beside IsAt (next_in P h x) (next_node g i)
    unfolding next_in next_node
    next_beside h g shown x i e = next_of (get h x) (node_at g i) (shown.objects i x e)

-- ---- names that are reached

-- from one that is reached, what it names in a slot
pub reach_on : (h : Heap) (Root : ℕ → Type 0) (x i y : ℕ) → Reach h Root x → slot_name h x i ≡ Some y → Reach h Root y
reach_on h Root x i y r e = (r.0, r.1, r.2 ++ i ∷ [], leads_on h r.2 i r.0 x r.3 ∙ e)

pub names_held : (Q : ℕ → Type 0) (vs : List Value) → ((i x : ℕ) → name_at vs i ≡ Some x → Q x) → AllByRecursion Q (names_in vs)
names_held Q [] k = tt
names_held Q (values.Int n ∷ vs) k = names_held Q vs (λ i. k (suc i))
names_held Q (values.Long n ∷ vs) k = names_held Q vs (λ i. k (suc i))
names_held Q (values.Null ∷ vs) k = names_held Q vs (λ i. k (suc i))
names_held Q (values.Ref x ∷ vs) k = (k zero x refl, names_held Q vs (λ i. k (suc i)))

names_looked : (Q : ℕ → Type 0) (f : ℕ → Option Value) (ks : List ℕ) → ((k x : ℕ) → on_some (f k) None name_in ≡ Some x → Q x) → AllByRecursion Q (names_in (filter_map f ks))
names_looked Q f [] all = tt
names_looked Q f (k ∷ ks) all = by (f k) (all k) (names_looked Q f ks all)
  where
    by : (o : Option Value) → ((x : ℕ) → on_some o None name_in ≡ Some x → Q x) → AllByRecursion Q (names_in (filter_map f ks)) → AllByRecursion Q (names_in (cons_option o (filter_map f ks)))
    by None here rest = rest
    by (Some (values.Int n)) here rest = rest
    by (Some (values.Long n)) here rest = rest
    by (Some values.Null) here rest = rest
    by (Some (values.Ref x)) here rest = (here x refl, rest)

module _ (P : ProgramTables) (h : Heap) where
  pub next_names : (Q : ℕ → Type 0) (x : ℕ) → ((i y : ℕ) → slot_name h x i ≡ Some y → Q y) → AllByRecursion Q (next_in P h x)
  unfolding next_in
  next_names Q x all = by (get h x) all
    where
      by : (o : Option Obj) → ((i y : ℕ) → on_some o None (λ o. name_at o.slots i) ≡ Some y → Q y) → AllByRecursion Q (on_some o [] (λ o. names_in (stream_values P o)))
      by None all = tt
      by (Some o) all = names_looked Q (λ k. option_and_then (slice_get o.slots) (stream_place P o.kind k)) (range_with_len 0 (length o.slots)) (λ k y e. found (stream_place P o.kind k) y e)
        where
          found : (q : Option ℕ) (y : ℕ) → on_some (option_and_then (slice_get o.slots) q) None name_in ≡ Some y → Q y
          found None y e = absurd (none_some e)
          found (Some i) y e = all i y e
