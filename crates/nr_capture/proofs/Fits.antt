-- The graph of a typed heap fits the program, and what is drawn of a walk can be spelled.
use Rattle.std.proofs.Common.{◌≡◌, ℕ, zero, suc, ◌<◌, ◌≤◌, Bool, true, false, not, cond, if◌then◌else◌, List, [], ◌∷◌, length, refl, sym, ap, subst, ◌∙◌, arith, Option, Some, None}
use Rattle.std.specs.Prelude.{IsSomeAnd, T, slice_get, ℤ, is_some, ◌||◌}
use Rattle.std.specs.FinMap.{get}
use Rattle.std.specs.List.{AllByRecursion}
use Rattle.std.specs.Option.{option_and_then, option_map}
use Rattle.std.proofs.lemmas.Bool.{lt-ltb}
use Rattle.nr_linked.specs.declared.program.kind.Base.{Base}
use Rattle.nr_linked.specs.declared.program.kind.Base.TheVariants as bases
use Rattle.nr_linked.specs.declared.program.kind.Kind.{Kind}
use Rattle.nr_linked.specs.declared.program.tables.ProgramTables.{ProgramTables}
use Rattle.nr_linked.specs.declared.program.tables.SlotInfo.{SlotInfo}
use Rattle.nr_linked.specs.Kinds.{class_in, class_kind, is_array}
use Rattle.nr_linked.specs.Sendable.{is_sendable}
use Rattle.nr_linked.specs.Slots.{slots_of}
use Rattle.nr_linked.specs.Subtypes.{is_assignable}
use Rattle.nr_model.specs.declared.value.Value.{Value}
use Rattle.nr_model.specs.Belonging.{Belongs}
use Rattle.nr_model.specs.Heaps.{Heap, Obj, cells, on_some}
use Rattle.nr_model.specs.Outcomes.{max_cells}
use Rattle.nr_model.specs.TypedHeaps.{Counts, TypedHeap, slot_ty}
use Rattle.nr_model.specs.Types.{Anything, Nullable, kept_base, kept_ty}
use Rattle.nr_model.proofs.Paths.{none_some, some_eq}
use Rattle.nr_graph.specs.declared.graph.Slot.{Slot}
use Rattle.nr_graph.specs.declared.graph.Slot.TheVariants.{Int, Long, Null, Node as At}
use Rattle.nr_graph.specs.declared.graph.Node.{Node}
use Rattle.nr_graph.specs.declared.graph.Graph.{Graph}
use Rattle.nr_graph.specs.Fitting.{GraphFits, IsLink, IsNumber, IsSpellable, NodeFits, SlotFits}
use Rattle.nr_graph.specs.Graphs.{AreThere, node_at, nodes_in, root_nodes, root_slots}
use Rattle.nr_graph.specs.Pictures.{AllDraw, no_value, one_value, Draws, draws_int, draws_long, draws_null, draws_node, DrawsObject, IsPicture, Pictured, Shown, is_unsendable, next_in}
use Rattle.nr_graph.specs.StreamOrder.{stream_kind, stream_place, stream_slots}
use Rattle.nr_graph.proofs.Pictured.{in_order}
use Rattle.nr_graph.proofs.Sized.{shown_cells}
use Rattle.nr_graph.proofs.StreamPlaces.{kinds_agree}
use Rattle.nr_graph.proofs.Walks.{walk_once, no_names_once}
use Rattle.nr_capture.specs.Drawing.{AllBits, AllDrawn, HasBits, HasCodeBits, IsDrawn, IsWalked}
use Rattle.nr_capture.proofs.Found.{get_there, in_range}
use Rattle.nr_capture.proofs.Fewer.{named_fewer}

-- ---- lists

pub all_at : {A : Type 0} (Q : A → Type 0) (xs : List A) → ((i : ℕ) (x : A) → slice_get xs i ≡ Some x → Q x) → AllByRecursion Q xs
all_at Q [] each = tt
all_at Q (x ∷ xs) each = (each zero x refl, all_at Q xs (λ i y e. each (suc i) y e))

pub one_of : {A : Type 0} (Q : A → Type 0) (xs : List A) (i : ℕ) (x : A) → AllByRecursion Q xs → slice_get xs i ≡ Some x → Q x
one_of Q [] i x a e = absurd (none_some e)
one_of Q (y ∷ ys) zero x a e = subst Q (some_eq e) a.0
one_of Q (y ∷ ys) (suc i) x a e = one_of Q ys i x a.1 e

-- the nodes of slots, where each slot names one below n
nodes_below : (n : ℕ) (ss : List Slot) → ((k i : ℕ) → slice_get ss k ≡ Some (At i) → i < n) → AllByRecursion (λ i. i < n) (nodes_in ss)
nodes_below n [] each = tt
nodes_below n (Int m ∷ ss) each = nodes_below n ss (λ k i e. each (suc k) i e)
nodes_below n (Long m ∷ ss) each = nodes_below n ss (λ k i e. each (suc k) i e)
nodes_below n (Null ∷ ss) each = nodes_below n ss (λ k i e. each (suc k) i e)
nodes_below n (At i ∷ ss) each = (each zero i refl, nodes_below n ss (λ k i e. each (suc k) i e))

drawn_below : (names : List ℕ) {v : Value} (s : Slot) (i : ℕ) → Draws names v s → s ≡ At i → i < length names
drawn_below names s i draws_int e = absurd (other e)
  where
    other : {n : ℤ} → Int n ≡ At i → ⊥
    other e = cc
drawn_below names s i draws_long e = absurd (other e)
  where
    other : {n : ℤ} → Long n ≡ At i → ⊥
    other e = cc
drawn_below names s i draws_null e = absurd (other e)
  where
    other : Null ≡ At i → ⊥
    other e = cc
drawn_below names s i (draws_node {x = x} {i = j} d) e = let l = in_range names j x d in let m : j ≡ i = same e in omega (arith, l, m)
  where
    same : At j ≡ At i → j ≡ i
    same e = cc

roots_below : (names : List ℕ) {vs : List Value} {ss : List Slot} → AllDraw names vs ss → AllByRecursion (λ i. i < length names) (nodes_in ss)
roots_below names no_value = tt
roots_below names (one_value draws_int ds) = roots_below names ds
roots_below names (one_value draws_long ds) = roots_below names ds
roots_below names (one_value draws_null ds) = roots_below names ds
roots_below names (one_value (draws_node {x = x} {i = i} d) ds) = (in_range names i x d, roots_below names ds)

abbrev LinkOrNumber : ProgramTables → Graph → Kind → Base → Slot → Bool → Type 0
LinkOrNumber P g kind base s true = IsLink P g kind s
LinkOrNumber P g kind base s false = IsNumber base s

module _ (P : ProgramTables) (h : Heap) (names : List ℕ) (g : Graph) (typed : TypedHeap P h) (shown : Shown P h names g) where
  -- a reference that goes where a kind is wanted
  link : (kind : Kind) (v : Value) (s : Slot) → Belongs P h (Nullable kind) v → Draws names v s → IsLink P g kind s
  link kind v s b draws_int = b
  link kind v s b draws_long = b
  link kind v s b draws_null = tt
  link kind v s b (draws_node {x = x} {i = i} e) = by (get h x) (node_at g i) (shown.objects i x e) b
    where
      by : (o : Option Obj) (n : Option Node) → IsSomeAnd o (λ o. IsSomeAnd n (λ n. DrawsObject P names o n)) → IsSomeAnd o (λ o. T (is_assignable P o.kind kind))
          → IsSomeAnd (option_map (λ n. n.kind) n) (λ k. T (is_assignable P k kind))
      by None n d b = absurd d
      by (Some o) None d b = absurd d
      by (Some o) (Some n) d b = subst (λ k. T (is_assignable P k kind)) d.kind b

  number : (base : Base) (v : Value) (s : Slot) → Belongs P h (kept_base base) v → Draws names v s → HasBits s → IsNumber base s
  number bases.Long v s b draws_long f = f
  number bases.Long v s b draws_int f = b
  number bases.Long v s b draws_null f = b
  number bases.Long v s b (draws_node e) f = b
  number bases.Int v s b draws_int f = (tt, f)
  number bases.Int v s b draws_long f = b
  number bases.Int v s b draws_null f = b
  number bases.Int v s b (draws_node e) f = b
  number bases.Bool v s b draws_int f = (b, f)
  number bases.Bool v s b draws_long f = b
  number bases.Bool v s b draws_null f = b
  number bases.Bool v s b (draws_node e) f = b
  number bases.Byte v s b draws_int f = (b, f)
  number bases.Byte v s b draws_long f = b
  number bases.Byte v s b draws_null f = b
  number bases.Byte v s b (draws_node e) f = b
  number bases.Char v s b draws_int f = (b, f)
  number bases.Char v s b draws_long f = b
  number bases.Char v s b draws_null f = b
  number bases.Char v s b (draws_node e) f = b
  number bases.Short v s b draws_int f = (b, f)
  number bases.Short v s b draws_long f = b
  number bases.Short v s b draws_null f = b
  number bases.Short v s b (draws_node e) f = b
  number (bases.Object c) v s b draws_int f = (b, f)
  number (bases.Object c) v s b draws_long f = b
  number (bases.Object c) v s b draws_null f = b
  number (bases.Object c) v s b (draws_node e) f = b

  slot_fits : (kind : Kind) (v : Value) (s : Slot) → Belongs P h (kept_ty kind) v → Draws names v s → HasBits s → SlotFits P g kind s
  slot_fits kind v s b d f = go (is_array kind) kind.base b
    where
      go : (a : Bool) (base : Base) → Belongs P h (cond (a || is_some (class_in base)) (Nullable kind) (kept_base base)) v → LinkOrNumber P g kind base s (a || is_some (class_in base))
      go true base b = link kind v s b d
      go false (bases.Object c) b = link kind v s b d
      go false bases.Long b = number bases.Long v s b d f
      go false bases.Int b = number bases.Int v s b d f
      go false bases.Bool b = number bases.Bool v s b d f
      go false bases.Byte b = number bases.Byte v s b d f
      go false bases.Char b = number bases.Char v s b d f
      go false bases.Short b = number bases.Short v s b d f

  -- a slot of a node holds what belongs to it
  place_fits : (kind : Kind) (m k i : ℕ) (v : Value) (s : Slot) → Counts P kind m → stream_place P kind k ≡ Some i → Belongs P h (slot_ty P kind i) v → Draws names v s → HasBits s
      → IsSomeAnd (stream_kind P kind k) (λ kind. SlotFits P g kind s)
  place_fits kind m k i v s c e b d f = go kind.dims kind.base c e b
    where
      of_class : (c : ℕ) (t : Option SlotInfo) (q : Option Kind) → IsSomeAnd t (λ t. q ≡ Some t.kind) → Belongs P h (on_some t Anything (λ t. kept_ty t.kind)) v → IsSomeAnd q (λ kind. SlotFits P g kind s)
      of_class c None q a b = absurd a
      of_class c (Some t) q a b = subst (λ q. IsSomeAnd q (λ kind. SlotFits P g kind s)) (sym a) (slot_fits t.kind v s b d f)

      go : (n : ℕ) (base : Base) → Counts P (record { dims = n; base = base }) m → stream_place P (record { dims = n; base = base }) k ≡ Some i → Belongs P h (slot_ty P (record { dims = n; base = base }) i) v
          → IsSomeAnd (stream_kind P (record { dims = n; base = base }) k) (λ kind. SlotFits P g kind s)
      go (suc n) base c e b =
          let is : stream_kind P (record { dims = suc n; base = base }) k ≡ Some (record { dims = n; base = base })
          = ap (λ (a : Bool). if a then Some (record { dims = n; base = base }) else option_and_then (λ c. option_map (λ a. a.1.kind) (slice_get (stream_slots P c) k)) (class_in base)) (lt-ltb 0 (suc n) (omega arith)) in
          subst (λ q. IsSomeAnd q (λ kind. SlotFits P g kind s)) (sym is) (slot_fits (record { dims = n; base = base }) v s b d f)
      go zero (bases.Object c) m e b = of_class c (slice_get (slots_of P c) i) (stream_kind P (class_kind c) k) (kinds_agree P c k i e) b
      go zero bases.Long m e b = absurd m
      go zero bases.Int m e b = absurd m
      go zero bases.Bool m e b = absurd m
      go zero bases.Byte m e b = absurd m
      go zero bases.Char m e b = absurd m
      go zero bases.Short m e b = absurd m

  module _ (n : Node) (j x : ℕ) (o : Obj) (at : get h x ≡ Some o) (d : DrawsObject P names o n) where
    -- what a slot of the node shows
    held : (k : ℕ) (s : Slot) → slice_get n.slots k ≡ Some s → (i : ℕ) × (v : Value) × (stream_place P n.kind k ≡ Some i) × (slice_get o.slots i ≡ Some v) × Draws names v s
    held k s e = by (stream_place P n.kind k) (d.slots k s e)
      where
        value : (i : ℕ) (v : Option Value) → IsSomeAnd v (λ v. Draws names v s) → (w : Value) × (v ≡ Some w) × Draws names w s
        value i None d = absurd d
        value i (Some v) d = (v, refl, d)

        by : (q : Option ℕ) → IsSomeAnd q (λ i. IsSomeAnd (slice_get o.slots i) (λ v. Draws names v s)) → (i : ℕ) × (v : Value) × (q ≡ Some i) × (slice_get o.slots i ≡ Some v) × Draws names v s
        by None d = absurd d
        by (Some i) d = let w = value i (slice_get o.slots i) d in (i, w.0, refl, w.1, w.2)

    counts : Counts P n.kind (length n.slots)
    counts = subst (λ k. Counts P k (length n.slots)) d.kind (subst (Counts P o.kind) d.count (typed.count x o at))

    node_fits : AllBits n.slots → n.kind.dims ≤ 255 → NodeFits P g n
    node_fits bits dims = record {
      dims = dims;
      count = counts;
      slots = λ k s e.
          let w = held k s e in
          place_fits n.kind (length n.slots) k w.0 w.1 s counts w.2
          (subst (λ kind. Belongs P h (slot_ty P kind w.0) w.1) d.kind (typed.slots x o at w.0 w.1 w.3)) w.4 (one_of HasBits n.slots k s bits e);
    }

    node_within : AreThere g (nodes_in n.slots)
    node_within = subst (λ m. AllByRecursion (λ i. i < m) (nodes_in n.slots)) shown.count
        (nodes_below (length names) n.slots (λ k i e. let w = held k (At i) e in drawn_below names (At i) i w.4 refl))

  -- the object of a node
  shown_at : (j : ℕ) (n : Node) → slice_get g.nodes j ≡ Some n → (x : ℕ) × (o : Obj) × (slice_get names j ≡ Some x) × (get h x ≡ Some o) × DrawsObject P names o n
  shown_at j n e =
      let x = get_there names j (subst (λ m. j < m) (sym shown.count) (in_range g.nodes j n e)) in
      let o = by x.0 (get h x.0) refl (subst (λ q. IsSomeAnd (get h x.0) (λ o. IsSomeAnd q (λ n. DrawsObject P names o n))) e (shown.objects j x.0 x.1)) in
      (x.0, o.0, x.1, o.1, o.2)
    where
      by : (x : ℕ) (o : Option Obj) → get h x ≡ o → IsSomeAnd o (λ o. DrawsObject P names o n) → (o : Obj) × (get h x ≡ Some o) × DrawsObject P names o n
      by x None f d = absurd d
      by x (Some o) f d = (o, f, d)

  pub graph_fits : {vs : List Value} → AllDraw names vs (root_slots g.roots) → AllByRecursion (λ n. AllBits n.slots) g.nodes → AllByRecursion (λ n. n.kind.dims ≤ 255) g.nodes → GraphFits P g
  graph_fits roots bits dims = record {
    within = record {
      slots = all_at (λ n. AreThere g (nodes_in n.slots)) g.nodes (λ j n e. let w = shown_at j n e in node_within n j w.0 w.1 w.3 w.4);
      roots = subst (λ m. AllByRecursion (λ i. i < m) (root_nodes g)) shown.count (roots_below names roots);
    };
    nodes = all_at (NodeFits P g) g.nodes (λ j n e. let w = shown_at j n e in
        node_fits n j w.0 w.1 w.3 w.4 (one_of (λ n. AllBits n.slots) g.nodes j n bits e) (one_of (λ n. n.kind.dims ≤ 255) g.nodes j n dims e));
  }

  pub all_sendable : AllByRecursion (λ x. is_unsendable P h x ≡ false) names → AllByRecursion (λ n. T (is_sendable P n.kind)) g.nodes
  all_sendable send = all_at (λ n. T (is_sendable P n.kind)) g.nodes (λ j n e.
      let w = shown_at j n e in
      let f = one_of (λ x. is_unsendable P h x ≡ false) names j w.0 send w.2 in
      subst (λ k. T (is_sendable P k)) w.4.kind (so (is_sendable P w.1.kind) (sym (ap (λ o. on_some o false (λ o. not (is_sendable P o.kind))) w.3) ∙ f)))
    where
      so : (b : Bool) → not b ≡ false → T b
      so true e = tt
      so false e = absurd (bad e)
        where
          bad : true ≡ false → ⊥
          bad e = cc

pub pictured_fits : (P : ProgramTables) (h : Heap) (vs : List Value) (names : List ℕ) (g : Graph) → TypedHeap P h → Pictured P h vs names g → HasCodeBits g → GraphFits P g
pictured_fits P h vs names g typed p bits =
    graph_fits P h names g typed p.shown p.roots
    (all_at (λ n. AllBits n.slots) g.nodes (λ j n e. (one_of (λ n. AllBits n.slots × (n.kind.dims ≤ 255)) g.nodes j n bits e).0))
    (all_at (λ n. n.kind.dims ≤ 255) g.nodes (λ j n e. (one_of (λ n. AllBits n.slots × (n.kind.dims ≤ 255)) g.nodes j n bits e).1))

-- ---- what is drawn of a walk

module _ (P : ProgramTables) (h : Heap) (vs : List Value) (names : List ℕ) (g : Graph) (walked : IsWalked P h vs names) (drawn : AllDrawn P h names g.nodes) (roots : AllDraw names vs (root_slots g.roots)) where
  shows : Shown P h names g
  shows = record {
    count = sym drawn.count;
    distinct = walk_once (next_in P h) walked.order no_names_once;
    objects = λ i x e. by (get h x) (node_at g i) (drawn.objects i x e);
  }
    where
      by : (o : Option Obj) (n : Option Node) → IsSomeAnd o (λ o. IsSomeAnd n (λ n. IsDrawn P names o n)) → IsSomeAnd o (λ o. IsSomeAnd n (λ n. DrawsObject P names o n))
      by None n d = absurd d
      by (Some o) None d = absurd d
      by (Some o) (Some n) d = d.draws

  pub is_picture : IsPicture P h vs names g
  is_picture = record { order = walked.order; pictured = record { shown = shows; roots = roots } }

  drawn_at : (Q : Node → Type 0) → ((o : Obj) (n : Node) → IsDrawn P names o n → Q n) → AllByRecursion Q g.nodes
  drawn_at Q of = all_at Q g.nodes (λ j n e.
      let x = get_there names j (subst (λ m. j < m) drawn.count (in_range g.nodes j n e)) in
      by n (get h x.0) (subst (λ q. IsSomeAnd (get h x.0) (λ o. IsSomeAnd q (λ n. IsDrawn P names o n))) e (drawn.objects j x.0 x.1)))
    where
      by : (n : Node) (o : Option Obj) → IsSomeAnd o (λ o. IsDrawn P names o n) → Q n
      by n None d = absurd d
      by n (Some o) d = of o n d

  pub is_spellable : TypedHeap P h → cells h ≤ max_cells → IsSpellable P g
  is_spellable typed few = record {
    fits = graph_fits P h names g typed shows roots (drawn_at (λ n. AllBits n.slots) (λ o n d. d.bits)) (drawn_at (λ n. n.kind.dims ≤ 255) (λ o n d. d.dims));
    order = in_order P h vs names g is_picture;
    sendable = all_sendable P h names g typed shows walked.sendable;
    cells = let e = shown_cells P names h g shows in let l = named_fewer h names shows.distinct in omega (arith, e, l, few);
  }
