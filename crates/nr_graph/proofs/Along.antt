-- Two heaps that show one graph.
use Rattle.std.proofs.Common.{◌≡◌, ◌<◌, ◌++◌, ℕ, zero, suc, List, [], ◌∷◌, inl, inr, refl, sym, ap, ◌∙◌, subst, subst₂, arith, length, Some, None, Option, if◌then◌else◌, reverse}
use Rattle.std.specs.Prelude.{slice_get, IsSomeAnd}
use Rattle.std.specs.FinMap.{get}
use Rattle.std.specs.List.{AllByRecursion, zip}
use Rattle.std.specs.Option.{option_and_then, option_map}
use Rattle.std.proofs.lemmas.Bool.{lt-ltb}
use Rattle.std.proofs.lemmas.List.{reverse-append}
use Rattle.std.proofs.lemmas.Option.{slice_get_within}
use Rattle.nr_linked.specs.declared.program.kind.Base.{Base}
use Rattle.nr_linked.specs.declared.program.kind.Base.TheVariants as bases
use Rattle.nr_linked.specs.declared.program.tables.ProgramTables.{ProgramTables}
use Rattle.nr_linked.specs.Kinds.{class_in}
use Rattle.nr_linked.specs.Linked.{Linked}
use Rattle.nr_linked.proofs.Elements.{get_below}
use Rattle.nr_model.specs.declared.value.Value.{Value}
use Rattle.nr_model.specs.Heaps.{Obj, Heap}
use Rattle.nr_model.specs.TypedHeaps.{Counts}
use Rattle.nr_model.specs.Alike.{Like, like_int, like_long, like_null, like_ref, AllLike, no_more, one_more, AlikeObj, AlikeAt, alike_at}
use Rattle.nr_model.specs.Pairs.{Listed}
use Rattle.nr_model.proofs.Matchings.{Matched}
use Rattle.nr_model.proofs.Paths.{none_some, some_eq}
use Rattle.nr_graph.specs.declared.graph.Graph.{Graph}
use Rattle.nr_graph.specs.declared.graph.Node.{Node}
use Rattle.nr_graph.specs.declared.graph.Slot.{Slot}
use Rattle.nr_graph.specs.Fitting.{GraphFits, NodeFits}
use Rattle.nr_graph.specs.Graphs.{node_at}
use Rattle.nr_graph.specs.Pictures.{AllDraw, no_value, one_value, Draws, draws_int, draws_long, draws_null, draws_node, DrawsObject, Shown}
use Rattle.nr_graph.specs.StreamOrder.{stream_place, stream_slots}
use Rattle.nr_graph.proofs.StreamSlots.{each_once}

-- ---- each slot of each object has a place in the stream

abbrev pub Covers : ProgramTables → Graph → Type 0
Covers P g = (j : ℕ) (n : Node) → slice_get g.nodes j ≡ Some n → (i : ℕ) → i < length n.slots
    → (k : ℕ) × (s : Slot) × (slice_get n.slots k ≡ Some s) × (stream_place P n.kind k ≡ Some i)

covered : (P : ProgramTables) → Linked P → (d : ℕ) (b : Base) (m : ℕ) → Counts P (record { dims = d; base = b }) m → (i : ℕ) → i < m
    → (k : ℕ) × (k < m) × (stream_place P (record { dims = d; base = b }) k ≡ Some i)
covered P linked zero (bases.Object c) m counts i l =
    let r = each_once P linked c i (omega (arith, l, counts.count)) in
    (r.0, omega (arith, r.1, counts.count), r.2)
covered P linked zero bases.Bool m counts i l = absurd counts
covered P linked zero bases.Byte m counts i l = absurd counts
covered P linked zero bases.Char m counts i l = absurd counts
covered P linked zero bases.Short m counts i l = absurd counts
covered P linked zero bases.Int m counts i l = absurd counts
covered P linked zero bases.Long m counts i l = absurd counts
covered P linked (suc d) b m counts i l =
    (i, l, ap (λ t. if t then Some i else option_and_then (λ c. option_map (λ a. a.0) (slice_get (stream_slots P c) i)) (class_in b)) (lt-ltb 0 (suc d) (omega arith)))

pub covers : (P : ProgramTables) → Linked P → (g : Graph) → GraphFits P g → Covers P g
covers P linked g fits j n e i l =
    let node = fit_at g.nodes j fits.nodes e in
    let r = covered P linked n.kind.dims n.kind.base (length n.slots) node.count i l in
    let s = get_below n.slots r.0 r.1 in
    (r.0, s.0, s.1, r.2)
  where
    fit_at : (ns : List Node) (j : ℕ) → AllByRecursion (NodeFits P g) ns → slice_get ns j ≡ Some n → NodeFits P g n
    fit_at [] j a e = absurd (none_some e)
    fit_at (m ∷ ns) zero a e = subst (NodeFits P g) (some_eq e) a.0
    fit_at (m ∷ ns) (suc j) a e = fit_at ns j a.1 e

-- ---- one node's names on both sides

pub record IsAlong (names others : List ℕ) (x y : ℕ) : Type 0 where
  pub node : ℕ
  pub left : slice_get names node ≡ Some x
  pub right : slice_get others node ≡ Some y

drawn_alike : (names others : List ℕ) (u v : Value) (s : Slot) → Draws names u s → Draws others v s → Like (IsAlong names others) u v
drawn_alike names others u v s draws_int draws_int = like_int
drawn_alike names others u v s draws_long draws_long = like_long
drawn_alike names others u v s draws_null draws_null = like_null
drawn_alike names others u v s (draws_node {i = i} left) (draws_node right) = like_ref (record { node = i; left = left; right = right })

pub all_drawn_alike : (names others : List ℕ) {us vs : List Value} {ss : List Slot} → AllDraw names us ss → AllDraw others vs ss → AllLike (IsAlong names others) us vs
all_drawn_alike names others no_value no_value = no_more
all_drawn_alike names others (one_value d ds) (one_value e es) = one_more (drawn_alike names others _ _ _ d e) (all_drawn_alike names others ds es)

-- what is at place i on both sides
slot_alike : (P : ProgramTables) (names others : List ℕ) (o p : Obj) (n : Node) (k i : ℕ) (s : Slot) (u v : Value) → DrawsObject P names o n → DrawsObject P others p n
    → slice_get n.slots k ≡ Some s → stream_place P n.kind k ≡ Some i → slice_get o.slots i ≡ Some u → slice_get p.slots i ≡ Some v → Like (IsAlong names others) u v
slot_alike P names others o p n k i s u v one two at place left right =
    let a = subst (λ (q : Option ℕ). IsSomeAnd q (λ j. IsSomeAnd (slice_get o.slots j) (λ w. Draws names w s))) place (one.slots k s at) in
    let b = subst (λ (q : Option ℕ). IsSomeAnd q (λ j. IsSomeAnd (slice_get p.slots j) (λ w. Draws others w s))) place (two.slots k s at) in
    let c : Draws names u s = subst (λ (q : Option Value). IsSomeAnd q (λ w. Draws names w s)) left a in
    let d : Draws others v s = subst (λ (q : Option Value). IsSomeAnd q (λ w. Draws others w s)) right b in
    drawn_alike names others u v s c d

-- lists that agree place by place
by_places : (R : ℕ → ℕ → Type 0) (us vs : List Value) → length us ≡ length vs
    → ((i : ℕ) (u v : Value) → slice_get us i ≡ Some u → slice_get vs i ≡ Some v → Like R u v) → AllLike R us vs
by_places R [] [] count each = no_more
by_places R [] (v ∷ vs) count each = absurd (omega arith)
by_places R (u ∷ us) [] count each = absurd (omega arith)
by_places R (u ∷ us) (v ∷ vs) count each = one_more (each 0 u v refl refl) (by_places R us vs (omega arith) (λ i w z l r. each (suc i) w z l r))

module _ (P : ProgramTables) (names others : List ℕ) (g : Graph) (covers : Covers P g) where
  objects_alike : (j : ℕ) (o p : Obj) (n : Node) → slice_get g.nodes j ≡ Some n → DrawsObject P names o n → DrawsObject P others p n → AlikeObj (IsAlong names others) o p
  objects_alike j o p n at one two = record {
    kind = one.kind ∙ sym two.kind;
    slots = by_places (IsAlong names others) o.slots p.slots (one.count ∙ sym two.count)
        (λ i u v left right. let c = covers j n at i (subst (λ (m : ℕ). i < m) one.count (slice_get_within o.slots i u left)) in
        slot_alike P names others o p n c.0 i c.1 u v one two c.2 c.3 left right);
  }

  at_alike : (j : ℕ) (o p : Option Obj) (n : Option Node) → node_at g j ≡ n → IsSomeAnd o (λ o. IsSomeAnd n (λ n. DrawsObject P names o n)) → IsSomeAnd p (λ o. IsSomeAnd n (λ n. DrawsObject P others o n))
      → AlikeAt (IsAlong names others) o p
  at_alike j None p n at d e = absurd d
  at_alike j (Some o) None n at d e = absurd e
  at_alike j (Some o) (Some p) None at d e = absurd d
  at_alike j (Some o) (Some p) (Some n) at d e = alike_at (objects_alike j o p n at d e)

  pub along : (h k : Heap) → Shown P h names g → Shown P k others g → Matched (IsAlong names others) h k
  along h k a b = record {
    one_right = λ x y z r s. some_eq (sym r.right ∙ ap (slice_get others) (a.distinct r.node s.node x r.left s.left) ∙ s.right);
    one_left = λ x y z r s. some_eq (sym r.left ∙ ap (slice_get names) (b.distinct r.node s.node z r.right s.right) ∙ s.left);
    alike = λ x y r. at_alike r.node (get h x) (get k y) (node_at g r.node) refl (a.objects r.node x r.left) (b.objects r.node y r.right);
  }

-- ---- listed pairs

pub listed_along : (names others : List ℕ) (x y : ℕ) → Listed (zip names others) x y → IsAlong names others x y
listed_along [] others x y l = absurd l
listed_along (a ∷ names) [] x y l = absurd l
listed_along (a ∷ names) (b ∷ others) x y (inl e) = record { node = zero; left = ap Some (sym e.0); right = ap Some (sym e.1) }
listed_along (a ∷ names) (b ∷ others) x y (inr l) = let r = listed_along names others x y l in record { node = suc r.node; left = r.left; right = r.right }

pub along_listed : (names others : List ℕ) (x y i : ℕ) → slice_get names i ≡ Some x → slice_get others i ≡ Some y → Listed (zip names others) x y
along_listed [] others x y i e f = absurd (none_some e)
along_listed (a ∷ names) [] x y i e f = absurd (none_some f)
along_listed (a ∷ names) (b ∷ others) x y zero e f = inl (sym (some_eq e), sym (some_eq f))
along_listed (a ∷ names) (b ∷ others) x y (suc i) e f = inr (along_listed names others x y i e f)

-- ---- arguments, the last first

both_like : (R : ℕ → ℕ → Type 0) {us vs us' vs' : List Value} → AllLike R us vs → AllLike R us' vs' → AllLike R (us ++ us') (vs ++ vs')
both_like R no_more ls = ls
both_like R (one_more l ks) ls = one_more l (both_like R ks ls)

pub reverse_like : (R : ℕ → ℕ → Type 0) {us vs : List Value} → AllLike R us vs → AllLike R (reverse us) (reverse vs)
reverse_like R no_more = no_more
reverse_like R (one_more {u = u} {v = v} {us = us} {vs = vs} l ls) =
    subst₂ (AllLike R) (sym (reverse-append (u ∷ []) us)) (sym (reverse-append (v ∷ []) vs)) (both_like R (reverse_like R ls) (one_more l no_more))
