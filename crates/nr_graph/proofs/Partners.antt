-- Heaps that a one to one relation matches show one graph.
use Rattle.std.proofs.Common.{ℕ, zero, suc, List, [], ◌∷◌, sym, ap, ◌∙◌, subst, length, Some, None, Option}
use Rattle.std.specs.Prelude.{slice_get, IsSomeAnd}
use Rattle.std.specs.FinMap.{get}
use Rattle.std.specs.List.{cons_option, filter_map, range_with_len}
use Rattle.std.specs.Option.{option_and_then}
use Rattle.nr_linked.specs.declared.program.tables.ProgramTables.{ProgramTables}
use Rattle.nr_model.specs.declared.value.Value.{Value}
use Rattle.nr_model.specs.Heaps.{Obj, Heap, on_some}
use Rattle.nr_model.specs.Alike.{Like, like_int, like_long, like_null, like_ref, AllLike, no_more, one_more, AlikeObj, AlikeAt, alike_at}
use Rattle.nr_model.proofs.Matchings.{Matched}
use Rattle.nr_model.proofs.Pairing.{lengths}
use Rattle.nr_graph.specs.declared.graph.Graph.{Graph}
use Rattle.nr_graph.specs.declared.graph.Node.{Node}
use Rattle.nr_graph.specs.declared.graph.Slot.{Slot}
use Rattle.nr_graph.specs.Graphs.{node_at}
use Rattle.nr_graph.specs.Pictures.{AllDraw, no_value, one_value, Draws, draws_int, draws_long, draws_null, draws_node, DrawsObject, IsPicture, Shown, names_in, next_in, stream_values}
use Rattle.nr_graph.specs.StreamOrder.{stream_place}
use Rattle.nr_graph.proofs.Beside.{Beside, beside_long, to_left, to_right, walk_beside}
use Rattle.nr_graph.proofs.Beside as beside

-- ---- what two objects that agree lead to

module _ (R : ℕ → ℕ → Type 0) where
  -- none on both sides, or values that agree
  data Both : Option Value → Option Value → Type 0 where
    neither : Both None None
    each : {u v : Value} → Like R u v → Both (Some u) (Some v)

  both_at : (us vs : List Value) (i : ℕ) → AllLike R us vs → Both (slice_get us i) (slice_get vs i)
  both_at us vs i no_more = neither
  both_at us vs zero (one_more l ls) = each l
  both_at us vs (suc i) (one_more l ls) = both_at _ _ i ls

  both_looked : (q : Option ℕ) (us vs : List Value) → AllLike R us vs → Both (option_and_then (slice_get us) q) (option_and_then (slice_get vs) q)
  both_looked None us vs ls = neither
  both_looked (Some i) us vs ls = both_at us vs i ls

  all_looked : (f g : ℕ → Option Value) → ((k : ℕ) → Both (f k) (g k)) → (ks : List ℕ) → AllLike R (filter_map f ks) (filter_map g ks)
  all_looked f g all [] = no_more
  all_looked f g all (k ∷ ks) = by (f k) (g k) (all k) (all_looked f g all ks)
    where
      by : (o p : Option Value) → Both o p → AllLike R (filter_map f ks) (filter_map g ks) → AllLike R (cons_option o (filter_map f ks)) (cons_option p (filter_map g ks))
      by o p neither rest = rest
      by o p (each l) rest = one_more l rest

  pub names_beside : {us vs : List Value} → AllLike R us vs → Beside R (names_in us) (names_in vs)
  names_beside no_more = beside.no_more
  names_beside (one_more like_int ls) = names_beside ls
  names_beside (one_more like_long ls) = names_beside ls
  names_beside (one_more like_null ls) = names_beside ls
  names_beside (one_more (like_ref r) ls) = beside.one_more r (names_beside ls)

  module _ (P : ProgramTables) where
    streams_like : (o p : Obj) → AlikeObj R o p → AllLike R (stream_values P o) (stream_values P p)
    streams_like o p a =
        let same : AllLike R (filter_map (λ k. option_and_then (slice_get o.slots) (stream_place P o.kind k)) (range_with_len 0 (length o.slots))) (filter_map (λ k. option_and_then (slice_get p.slots) (stream_place P o.kind k)) (range_with_len 0 (length o.slots)))
        = all_looked (λ k. option_and_then (slice_get o.slots) (stream_place P o.kind k)) (λ k. option_and_then (slice_get p.slots) (stream_place P o.kind k))
        (λ k. both_looked (stream_place P o.kind k) o.slots p.slots a.slots) (range_with_len 0 (length o.slots)) in
        let kinds = subst (λ kind. AllLike R (stream_values P o) (filter_map (λ k. option_and_then (slice_get p.slots) (stream_place P kind k)) (range_with_len 0 (length o.slots)))) a.kind same in
        subst (λ n. AllLike R (stream_values P o) (filter_map (λ k. option_and_then (slice_get p.slots) (stream_place P p.kind k)) (range_with_len 0 n))) (lengths R o.slots p.slots a.slots) kinds

    next_at : (o p : Option Obj) → AlikeAt R o p → Beside R (on_some o [] (λ o. names_in (stream_values P o))) (on_some p [] (λ o. names_in (stream_values P o)))
    next_at o p (alike_at {o = a} {p = b} d) = names_beside (streams_like a b d)

    next_like : (h k : Heap) → Matched R h k → (x y : ℕ) → R x y → Beside R (next_in P h x) (next_in P k y)
    unfolding next_in
    next_like h k m x y r = next_at (get h x) (get k y) (m.alike x y r)

    -- ---- the picture of the other heap

    module _ (h k : Heap) (m : Matched R h k) (names others : List ℕ) (g : Graph) (b : Beside R names others) where
      draws_too : (u v : Value) (s : Slot) → Like R u v → Draws names u s → Draws others v s
      draws_too u v s like_int draws_int = draws_int
      draws_too u v s like_long draws_long = draws_long
      draws_too u v s like_null draws_null = draws_null
      draws_too u v s (like_ref {x = x} {y = y} r) (draws_node {i = i} e) =
          let p = to_right R i x b e in draws_node (p.1 ∙ ap Some (m.one_right x p.0 y p.2 r))

      pub all_too : {us vs : List Value} {ss : List Slot} → AllLike R us vs → AllDraw names us ss → AllDraw others vs ss
      all_too no_more no_value = no_value
      all_too (one_more l ls) (one_value d ds) = one_value (draws_too _ _ _ l d) (all_too ls ds)

      place_too : (us vs : List Value) (s : Slot) (q : Option ℕ) → AllLike R us vs → IsSomeAnd q (λ i. IsSomeAnd (slice_get us i) (λ v. Draws names v s)) → IsSomeAnd q (λ i. IsSomeAnd (slice_get vs i) (λ v. Draws others v s))
      place_too us vs s None ls d = absurd d
      place_too us vs s (Some i) ls d = by (slice_get us i) (slice_get vs i) (both_at us vs i ls) d
        where
          by : (o p : Option Value) → Both o p → IsSomeAnd o (λ v. Draws names v s) → IsSomeAnd p (λ v. Draws others v s)
          by o p neither d = absurd d
          by o p (each {u = u} {v = v} l) d = draws_too u v s l d

      object_too : (o p : Obj) (n : Node) → AlikeObj R o p → DrawsObject P names o n → DrawsObject P others p n
      object_too o p n a d = record {
        kind = sym a.kind ∙ d.kind;
        count = sym (lengths R o.slots p.slots a.slots) ∙ d.count;
        slots = λ k s e. place_too o.slots p.slots s (stream_place P n.kind k) a.slots (d.slots k s e);
      }

      at_too : (o p : Option Obj) (n : Option Node) → AlikeAt R o p → IsSomeAnd o (λ o. IsSomeAnd n (λ n. DrawsObject P names o n)) → IsSomeAnd p (λ o. IsSomeAnd n (λ n. DrawsObject P others o n))
      at_too o p None (alike_at a) d = absurd d
      at_too o p (Some n) (alike_at {o = o'} {p = p'} a) d = object_too o' p' n a d

      pub shown_too : Shown P h names g → Shown P k others g
      shown_too s = record {
        count = sym (beside_long R b) ∙ s.count;
        distinct = λ i j y e f.
            let p = to_left R i y b e in
            let q = to_left R j y b f in
            s.distinct i j p.0 p.1 (q.1 ∙ ap Some (m.one_left q.0 p.0 y q.2 p.2));
        objects = λ i y e. let p = to_left R i y b e in at_too (get h p.0) (get k y) (node_at g i) (m.alike p.0 y p.2) (s.objects i p.0 p.1);
      }

    pub picture_too : (h k : Heap) → Matched R h k → (us vs : List Value) → AllLike R us vs → (names : List ℕ) (g : Graph) → IsPicture P h us names g
        → (others : List ℕ) × IsPicture P k vs others g × Beside R names others
    picture_too h k m us vs ls names g p =
        let w = walk_beside R m.one_right m.one_left (next_in P h) (next_in P k) (next_like h k m) (names_in vs) [] p.order (names_beside ls) beside.no_more in (
          w.0,
          record {
            order = w.1;
            pictured = record {
              shown = shown_too h k m names w.0 g w.2 p.pictured.shown;
              roots = all_too h k m names w.0 g w.2 ls p.pictured.roots;
            };
          },
          w.2,
        )
