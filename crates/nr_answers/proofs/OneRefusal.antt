-- In heaps that agree, the first object that no stream may have is the same.
use Rattle.std.proofs.Common.{◌≡◌, ◌++◌, ◌∙◌, ℕ, zero, suc, List, [], ◌∷◌, Bool, true, false, not, refl, sym, ap, subst, length, Option, Some, None}
use Rattle.std.specs.Prelude.{slice_get, IsSomeAnd, T}
use Rattle.std.specs.FinMap.{get}
use Rattle.std.specs.List.{AllByRecursion, cons_option, filter_map, range_with_len}
use Rattle.std.specs.Option.{option_and_then}
use Rattle.nr_linked.specs.declared.program.kind.Kind.{Kind}
use Rattle.nr_linked.specs.declared.program.tables.ProgramTables.{ProgramTables}
use Rattle.nr_linked.specs.Kinds.{class_in}
use Rattle.nr_linked.specs.Sendable.{is_sendable}
use Rattle.nr_model.specs.declared.value.Value.{Value}
use Rattle.nr_model.specs.Alike.{AlikeAt, AlikeObj, AllLike, Like, alike_at, no_more, one_more}
use Rattle.nr_model.specs.Heaps.{Heap, Obj, on_some}
use Rattle.nr_model.proofs.Matchings.{Matched}
use Rattle.nr_model.proofs.Pairing.{lengths}
use Rattle.nr_model.proofs.Paths.{none_some, some_eq}
use Rattle.nr_graph.specs.declared.graph.Graph.{Graph}
use Rattle.nr_graph.specs.declared.graph.Node.{Node}
use Rattle.nr_graph.specs.Fitting.{AllSendable}
use Rattle.nr_graph.specs.Graphs.{node_at}
use Rattle.nr_graph.specs.Pictures.{DrawsObject, FirstUnsendable, IsPicture, is_unsendable, names_in, next_in, stream_values}
use Rattle.nr_graph.specs.StreamOrder.{stream_place}
use Rattle.nr_graph.specs.Walks.{MeetsRefused, again, here, onward}
use Rattle.nr_graph.proofs.Beside.{Beside, both_beside, met_beside}
use Rattle.nr_graph.proofs.Beside as beside
use Rattle.nr_graph.proofs.Partners.{names_beside}
use Rattle.nr_graph.proofs.Walks.{met_has, refused_met}
use Rattle.nr_answers.specs.Answers.{class_of}

module _ (R : ℕ → ℕ → Type 0) where
  -- none on both sides, or values that agree
  data Both : Option Value → Option Value → Type 0 where
    neither : Both None None
    each : {u v : Value} → Like R u v → Both (Some u) (Some v)

  both_at : (us vs : List Value) (i : ℕ) → AllLike R us vs → Both (slice_get us i) (slice_get vs i)
  both_at us vs i no_more = neither
  both_at us vs zero (one_more l ls) = each l
  both_at us vs (suc i) (one_more l ls) = both_at _ _ i ls

  both_looked : (q : Option ℕ) (us vs : List Value) → AllLike R us vs → Both (option_and_then (slice_get us) q) (option_and_then (slice_get vs) q)
  both_looked None us vs ls = neither
  both_looked (Some i) us vs ls = both_at us vs i ls

  all_looked : (f g : ℕ → Option Value) → ((k : ℕ) → Both (f k) (g k)) → (ks : List ℕ) → AllLike R (filter_map f ks) (filter_map g ks)
  all_looked f g all [] = no_more
  all_looked f g all (k ∷ ks) = by (f k) (g k) (all k) (all_looked f g all ks)
    where
      by : (o p : Option Value) → Both o p → AllLike R (filter_map f ks) (filter_map g ks) → AllLike R (cons_option o (filter_map f ks)) (cons_option p (filter_map g ks))
      by o p neither rest = rest
      by o p (each l) rest = one_more l rest

  module _ (P : ProgramTables) (h k : Heap) (m : Matched R h k) where
    streams_like : (o p : Obj) → AlikeObj R o p → AllLike R (stream_values P o) (stream_values P p)
    streams_like o p a =
        let same : AllLike R (filter_map (λ k. option_and_then (slice_get o.slots) (stream_place P o.kind k)) (range_with_len 0 (length o.slots))) (filter_map (λ k. option_and_then (slice_get p.slots) (stream_place P o.kind k)) (range_with_len 0 (length o.slots)))
        = all_looked (λ k. option_and_then (slice_get o.slots) (stream_place P o.kind k)) (λ k. option_and_then (slice_get p.slots) (stream_place P o.kind k))
        (λ k. both_looked (stream_place P o.kind k) o.slots p.slots a.slots) (range_with_len 0 (length o.slots)) in
        let kinds = subst (λ kind. AllLike R (stream_values P o) (filter_map (λ k. option_and_then (slice_get p.slots) (stream_place P kind k)) (range_with_len 0 (length o.slots)))) a.kind same in
        subst (λ n. AllLike R (stream_values P o) (filter_map (λ k. option_and_then (slice_get p.slots) (stream_place P p.kind k)) (range_with_len 0 n))) (lengths R o.slots p.slots a.slots) kinds

    next_at : (o p : Option Obj) → AlikeAt R o p → Beside R (on_some o [] (λ o. names_in (stream_values P o))) (on_some p [] (λ o. names_in (stream_values P o)))
    next_at o p (alike_at {o = a} {p = b} d) = names_beside R (streams_like a b d)

    next_like : (x y : ℕ) → R x y → Beside R (next_in P h x) (next_in P k y)
    unfolding next_in
    next_like x y r = next_at (get h x) (get k y) (m.alike x y r)

    refusal_at : (o p : Option Obj) → AlikeAt R o p → on_some o false (λ o. not (is_sendable P o.kind)) ≡ on_some p false (λ o. not (is_sendable P o.kind))
    refusal_at o p (alike_at d) = ap (λ (kind : Kind). not (is_sendable P kind)) d.kind

    refusal_like : (x y : ℕ) → R x y → is_unsendable P h x ≡ is_unsendable P k y
    refusal_like x y r = refusal_at (get h x) (get k y) (m.alike x y r)

    class_at : (o p : Option Obj) → AlikeAt R o p → option_and_then (λ o. class_in o.kind.base) o ≡ option_and_then (λ o. class_in o.kind.base) p
    class_at o p (alike_at d) = ap (λ (kind : Kind). class_in kind.base) d.kind

    pub class_like : (x y : ℕ) → R x y → class_of h x ≡ class_of k y
    class_like x y r = class_at (get h x) (get k y) (m.alike x y r)

    refused_beside : {xs seen : List ℕ} {x : ℕ} (ys seen' : List ℕ) → MeetsRefused (next_in P h) (is_unsendable P h) xs seen x → Beside R xs ys → Beside R seen seen'
        → (y : ℕ) × MeetsRefused (next_in P k) (is_unsendable P k) ys seen' y × R x y
    refused_beside ys seen' (here {x = x} n r) (beside.one_more {y = y} s a) b =
        (y, here (sym (met_beside R m.one_right m.one_left x y s b) ∙ n) (sym (refusal_like x y s) ∙ r), s)
    refused_beside ys seen' (again {y = x} n v) (beside.one_more {y = y} {ys = ys'} s a) b =
        let q = refused_beside ys' seen' v a b in (q.0, again (sym (met_beside R m.one_right m.one_left x y s b) ∙ n) q.1, q.2)
    refused_beside ys seen' (onward {y = x} n r v) (beside.one_more {y = y} {ys = ys'} s a) b =
        let q = refused_beside (next_in P k y ++ ys') (seen' ++ y ∷ []) v (both_beside R (next_like x y s) a) (both_beside R b (beside.one_more s beside.no_more)) in
        (q.0, onward (sym (met_beside R m.one_right m.one_left x y s b) ∙ n) (sym (refusal_like x y s) ∙ r) q.1, q.2)

    pub unsendable_like : (us vs : List Value) (x : ℕ) → AllLike R us vs → FirstUnsendable P h us x → (y : ℕ) × FirstUnsendable P k vs y × R x y
    unsendable_like us vs x like first = refused_beside (names_in vs) [] first (names_beside R like) beside.no_more

-- ---- what has a picture of sendable objects has none that is refused

node_sendable : (P : ProgramTables) (ns : List Node) (i : ℕ) (n : Node) → AllByRecursion (λ n. T (is_sendable P n.kind)) ns → slice_get ns i ≡ Some n → T (is_sendable P n.kind)
node_sendable P [] i n all e = absurd (none_some e)
node_sendable P (x ∷ xs) zero n all e = subst (λ (z : Node). T (is_sendable P z.kind)) (some_eq e) all.0
node_sendable P (x ∷ xs) (suc i) n all e = node_sendable P xs i n all.1 e

not_refused : (b : Bool) → T b → not b ≡ true → ⊥
not_refused true t e = cc
not_refused false t e = t

pub pictured_not_refused : (P : ProgramTables) (k : Heap) (vs : List Value) (names : List ℕ) (g : Graph) (y : ℕ) → IsPicture P k vs names g → AllSendable P g
    → FirstUnsendable P k vs y → ⊥
pictured_not_refused P k vs names g y pic all first =
    let r = refused_met (next_in P k) (is_unsendable P k) first pic.order in
    let at = met_has names y r.1 in
    by (get k y) (node_at g at.0) at.0 refl (pic.pictured.shown.objects at.0 y at.1) r.0
  where
    by : (o : Option Obj) (n : Option Node) (i : ℕ) → node_at g i ≡ n → IsSomeAnd o (λ o. IsSomeAnd n (λ n. DrawsObject P names o n))
        → on_some o false (λ o. not (is_sendable P o.kind)) ≡ true → ⊥
    by None n i e d r = absurd d
    by (Some o) None i e d r = absurd d
    by (Some o) (Some n) i e d r =
        not_refused (is_sendable P o.kind) (subst (λ (kind : Kind). T (is_sendable P kind)) (sym d.kind) (node_sendable P g.nodes i n all e)) r
