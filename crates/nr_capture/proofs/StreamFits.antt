-- Where a stream's slots stand in an object, and what belongs there.
use Rattle.std.proofs.Common.{◌≡◌, ℕ, zero, suc, ◌<◌, Bool, true, false, cond, if◌then◌else◌, List, length, sym, ap, subst, ◌∙◌, arith, Option, Some, None}
use Rattle.std.specs.Prelude.{IsSomeAnd, T, slice_get, is_some, ◌||◌}
use Rattle.std.specs.FinMap.{get}
use Rattle.std.specs.Option.{option_and_then, option_map}
use Rattle.std.proofs.lemmas.Bool.{lt-ltb}
use Rattle.nr_linked.specs.declared.program.kind.Base.{Base}
use Rattle.nr_linked.specs.declared.program.kind.Base.TheVariants as bases
use Rattle.nr_linked.specs.declared.program.kind.Kind.{Kind}
use Rattle.nr_linked.specs.declared.program.tables.ProgramTables.{ProgramTables}
use Rattle.nr_linked.specs.declared.program.tables.SlotInfo.{SlotInfo}
use Rattle.nr_linked.specs.Kinds.{class_in, class_kind, is_array}
use Rattle.nr_linked.specs.Linked.{Linked}
use Rattle.nr_linked.specs.Slots.{slots_of}
use Rattle.nr_linked.specs.Subtypes.{is_assignable}
use Rattle.nr_model.specs.declared.value.Value.{Value}
use Rattle.nr_model.specs.Belonging.{Belongs}
use Rattle.nr_model.specs.Heaps.{Heap, Obj, on_some}
use Rattle.nr_model.specs.TypedHeaps.{Counts, slot_ty}
use Rattle.nr_model.specs.Types.{Anything, Nullable, kept_base, kept_ty}
use Rattle.nr_model.proofs.Paths.{some_eq}
use Rattle.nr_graph.specs.declared.graph.Slot.{Slot}
use Rattle.nr_graph.specs.declared.graph.Node.{Node}
use Rattle.nr_graph.specs.declared.graph.Graph.{Graph}
use Rattle.nr_graph.specs.Fitting.{IsLink, IsNumber, SlotFits}
use Rattle.nr_graph.specs.Graphs.{node_at}
use Rattle.nr_graph.specs.Pictures.{Draws, draws_int, draws_long, draws_null, draws_node}
use Rattle.nr_graph.specs.StreamOrder.{Placed, stream_kind, stream_place, stream_slots}
use Rattle.nr_graph.proofs.StreamPlaces.{kinds_agree}
use Rattle.nr_graph.proofs.StreamSlots.{each_once, stream_long}
use Rattle.nr_capture.specs.Making.{AreOf, IsOf}
use Rattle.nr_capture.proofs.Found.{get_there, some_below}

module _ (P : ProgramTables) where
  -- ---- places

  array_place : (n k : ℕ) (base : Base) → stream_place P (record { dims = suc n; base = base }) k ≡ Some k
  array_place n k base = ap (λ t. if t then Some k else option_and_then (λ c. option_map (λ a. a.0) (slice_get (stream_slots P c) k)) (class_in base)) (lt-ltb 0 (suc n) (omega arith))

  array_kind : (n k : ℕ) (base : Base) → stream_kind P (record { dims = suc n; base = base }) k ≡ Some (record { dims = n; base = base })
  array_kind n k base = ap (λ (t : Bool). if t then Some (record { dims = n; base = base }) else option_and_then (λ c. option_map (λ a. a.1.kind) (slice_get (stream_slots P c) k)) (class_in base)) (lt-ltb 0 (suc n) (omega arith))

  -- each slot of a stream has a place
  pub place_there : Linked P → (kind : Kind) (m k : ℕ) → Counts P kind m → k < m → IsSomeAnd (stream_place P kind k) (λ p. Unit {0})
  place_there linked kind m k c l = go kind.dims kind.base c
    where
      go : (d : ℕ) (base : Base) → Counts P (record { dims = d; base = base }) m → IsSomeAnd (stream_place P (record { dims = d; base = base }) k) (λ p. Unit {0})
      go (suc d) base c = subst (λ q. IsSomeAnd q (λ p. Unit {0})) (sym (array_place d k base)) tt
      go zero (bases.Object c) m =
          let a = get_there (stream_slots P c) k (omega (arith, l, m.count, stream_long P linked c)) in
          subst (λ (q : Option Placed). IsSomeAnd (option_map (λ a. a.0) q) (λ p. Unit {0})) (sym a.1) tt
      go zero bases.Bool m = absurd m
      go zero bases.Byte m = absurd m
      go zero bases.Char m = absurd m
      go zero bases.Short m = absurd m
      go zero bases.Int m = absurd m
      go zero bases.Long m = absurd m

  -- which is one of the object's slots
  pub place_within : (kind : Kind) (m k p : ℕ) → Counts P kind m → k < m → stream_place P kind k ≡ Some p → p < m
  place_within kind m k p c l e = go kind.dims kind.base c e
    where
      go : (d : ℕ) (base : Base) → Counts P (record { dims = d; base = base }) m → stream_place P (record { dims = d; base = base }) k ≡ Some p → p < m
      go (suc d) base c e = let is : k ≡ p = some_eq (sym (array_place d k base) ∙ e) in omega (arith, is)
      go zero (bases.Object c) m e = let low = some_below (slots_of P c) p (λ s. stream_kind P (class_kind c) k ≡ Some s.kind) (kinds_agree P c k p e) in omega (arith, low, m.count)
      go zero bases.Bool m e = absurd m
      go zero bases.Byte m e = absurd m
      go zero bases.Char m e = absurd m
      go zero bases.Short m e = absurd m
      go zero bases.Int m e = absurd m
      go zero bases.Long m e = absurd m

  -- and has no other
  pub place_once : Linked P → (kind : Kind) (m k l p : ℕ) → Counts P kind m → stream_place P kind k ≡ Some p → stream_place P kind l ≡ Some p → l ≡ k
  place_once linked kind m k l p c e f = go kind.dims kind.base c e f
    where
      go : (d : ℕ) (base : Base) → Counts P (record { dims = d; base = base }) m → stream_place P (record { dims = d; base = base }) k ≡ Some p → stream_place P (record { dims = d; base = base }) l ≡ Some p → l ≡ k
      go (suc d) base c e f = some_eq (sym (array_place d l base) ∙ f ∙ sym e ∙ array_place d k base)
      go zero (bases.Object c) m e f =
          let low = some_below (slots_of P c) p (λ s. stream_kind P (class_kind c) k ≡ Some s.kind) (kinds_agree P c k p e) in
          let one = each_once P linked c p low in
          one.3 l f ∙ sym (one.3 k e)
      go zero bases.Bool m e f = absurd m
      go zero bases.Byte m e f = absurd m
      go zero bases.Char m e f = absurd m
      go zero bases.Short m e f = absurd m
      go zero bases.Int m e f = absurd m
      go zero bases.Long m e f = absurd m

  -- ---- what belongs there

  module _ (h : Heap) (names : List ℕ) (g : Graph) (are : AreOf h names g.nodes) where
    link_belongs : (kind : Kind) (v : Value) (s : Slot) → IsLink P g kind s → Draws names v s → Belongs P h (Nullable kind) v
    link_belongs kind v s f draws_int = f
    link_belongs kind v s f draws_long = f
    link_belongs kind v s f draws_null = tt
    link_belongs kind v s f (draws_node {x = x} {i = i} e) = by (get h x) (node_at g i) (are.objects i x e) f
      where
        by : (o : Option Obj) (n : Option Node) → IsSomeAnd o (λ o. IsSomeAnd n (λ n. IsOf n.kind (length n.slots) o)) → IsSomeAnd (option_map (λ n. n.kind) n) (λ k. T (is_assignable P k kind))
            → IsSomeAnd o (λ o. T (is_assignable P o.kind kind))
        by None n d f = absurd d
        by (Some o) None d f = absurd d
        by (Some o) (Some n) d f = subst (λ k. T (is_assignable P k kind)) (sym d.kind_is) f

    number_belongs : (base : Base) (v : Value) (s : Slot) → IsNumber base s → Draws names v s → Belongs P h (kept_base base) v
    number_belongs bases.Long v s f draws_long = tt
    number_belongs bases.Long v s f draws_int = f
    number_belongs bases.Long v s f draws_null = f
    number_belongs bases.Long v s f (draws_node e) = f
    number_belongs bases.Int v s f draws_int = tt
    number_belongs bases.Int v s f draws_long = f
    number_belongs bases.Int v s f draws_null = f
    number_belongs bases.Int v s f (draws_node e) = f
    number_belongs bases.Bool v s f draws_int = f.0
    number_belongs bases.Bool v s f draws_long = f
    number_belongs bases.Bool v s f draws_null = f
    number_belongs bases.Bool v s f (draws_node e) = f
    number_belongs bases.Byte v s f draws_int = f.0
    number_belongs bases.Byte v s f draws_long = f
    number_belongs bases.Byte v s f draws_null = f
    number_belongs bases.Byte v s f (draws_node e) = f
    number_belongs bases.Char v s f draws_int = f.0
    number_belongs bases.Char v s f draws_long = f
    number_belongs bases.Char v s f draws_null = f
    number_belongs bases.Char v s f (draws_node e) = f
    number_belongs bases.Short v s f draws_int = f.0
    number_belongs bases.Short v s f draws_long = f
    number_belongs bases.Short v s f draws_null = f
    number_belongs bases.Short v s f (draws_node e) = f
    number_belongs (bases.Object c) v s f draws_int = f.0
    number_belongs (bases.Object c) v s f draws_long = f
    number_belongs (bases.Object c) v s f draws_null = f
    number_belongs (bases.Object c) v s f (draws_node e) = f

    abbrev Fits : Kind → Base → Slot → Bool → Type 0
    Fits kind base s true = IsLink P g kind s
    Fits kind base s false = IsNumber base s

    slot_belongs : (kind : Kind) (v : Value) (s : Slot) → SlotFits P g kind s → Draws names v s → Belongs P h (kept_ty kind) v
    slot_belongs kind v s f d = go (is_array kind) kind.base f
      where
        go : (a : Bool) (base : Base) → Fits kind base s (a || is_some (class_in base)) → Belongs P h (cond (a || is_some (class_in base)) (Nullable kind) (kept_base base)) v
        go true base f = link_belongs kind v s f d
        go false (bases.Object c) f = link_belongs kind v s f d
        go false bases.Long f = number_belongs bases.Long v s f d
        go false bases.Int f = number_belongs bases.Int v s f d
        go false bases.Bool f = number_belongs bases.Bool v s f d
        go false bases.Byte f = number_belongs bases.Byte v s f d
        go false bases.Char f = number_belongs bases.Char v s f d
        go false bases.Short f = number_belongs bases.Short v s f d

    pub place_belongs : (kind : Kind) (m k p : ℕ) (v : Value) (s : Slot) → Counts P kind m → stream_place P kind k ≡ Some p → IsSomeAnd (stream_kind P kind k) (λ kind. SlotFits P g kind s) → Draws names v s
        → Belongs P h (slot_ty P kind p) v
    place_belongs kind m k p v s c e f d = go kind.dims kind.base c e f
      where
        of_class : (t : Option SlotInfo) (q : Option Kind) → IsSomeAnd t (λ t. q ≡ Some t.kind) → IsSomeAnd q (λ kind. SlotFits P g kind s) → Belongs P h (on_some t Anything (λ t. kept_ty t.kind)) v
        of_class None q a f = absurd a
        of_class (Some t) q a f = let fit = subst (λ q. IsSomeAnd q (λ kind. SlotFits P g kind s)) a f in slot_belongs t.kind v s fit d

        go : (n : ℕ) (base : Base) → Counts P (record { dims = n; base = base }) m → stream_place P (record { dims = n; base = base }) k ≡ Some p
            → IsSomeAnd (stream_kind P (record { dims = n; base = base }) k) (λ kind. SlotFits P g kind s) → Belongs P h (slot_ty P (record { dims = n; base = base }) p) v
        go (suc n) base c e f = slot_belongs (record { dims = n; base = base }) v s (subst (λ q. IsSomeAnd q (λ kind. SlotFits P g kind s)) (array_kind n k base) f) d
        go zero (bases.Object c) m e f = of_class (slice_get (slots_of P c) p) (stream_kind P (class_kind c) k) (kinds_agree P c k p e) f
        go zero bases.Long m e f = absurd m
        go zero bases.Int m e f = absurd m
        go zero bases.Bool m e f = absurd m
        go zero bases.Byte m e f = absurd m
        go zero bases.Char m e f = absurd m
        go zero bases.Short m e f = absurd m
