-- An array of arrays that holds one array twice, as a graph and in heaps.
use Rattle.std.proofs.Common.{◌≡◌, ◌≢◌, ℕ, zero, suc, ◌⊎◌, inl, inr, List, [], ◌∷◌, refl, sym, ap, subst, ◌∙◌, arith, Some, None, Option}
use Rattle.std.specs.Prelude.{pos, IsSomeAnd, slice_get}
use Rattle.std.specs.FinMap.{empty, get, get-empty, insert}
use Rattle.std.specs.Int.{int_wrap, w32}
use Rattle.std.specs.Ordering.{nat_cmp}
use Rattle.std.proofs.lemmas.Int.{SFits-int_wrap}
use Rattle.std.proofs.lemmas.Bool.{cases_eq}
use Rattle.nr_linked.specs.declared.program.kind.Base.TheVariants as bases
use Rattle.nr_linked.specs.declared.program.kind.Kind.{Kind}
use Rattle.nr_linked.specs.declared.program.tables.ProgramTables.{ProgramTables}
use Rattle.nr_model.specs.declared.value.Value.{Value}
use Rattle.nr_model.specs.declared.value.Value.TheVariants as values
use Rattle.nr_model.specs.Heaps.{EachOnce, Has, Heap, Obj}
use Rattle.nr_model.proofs.Heaps.{get_other, get_same}
use Rattle.nr_model.proofs.Paths.{none_some, some_eq}
use Rattle.nr_graph.specs.declared.graph.Graph.{Graph}
use Rattle.nr_graph.specs.declared.graph.Node.{Node}
use Rattle.nr_graph.specs.declared.graph.Slot.{Slot}
use Rattle.nr_graph.specs.declared.graph.Slot.TheVariants.{Int, Null, Node as At}
use Rattle.nr_graph.specs.Fitting.{GraphFits, SlotFits}
use Rattle.nr_graph.specs.Graphs.{IsInOrder, next_node, node_at}
use Rattle.nr_graph.specs.Pictures.{no_value, one_value, draws_int, draws_null, draws_node, Draws, DrawsObject, IsPicture}
use Rattle.nr_graph.specs.StreamOrder.{stream_kind, stream_place}
use Rattle.nr_graph.specs.Walks.{over, again, first}
use Rattle.nr_graph.proofs.Pictured.{picture}

abbrev rows : Kind
rows = record { dims = 2; base = bases.Int }

abbrev row : Kind
row = record { dims = 1; base = bases.Int }

abbrev outer : Node
outer = record { kind = rows; slots = At 1 ∷ Null ∷ At 1 ∷ [] }

abbrev inner : Node
inner = record { kind = row; slots = Int (pos 7) ∷ [] }

abbrev pub graph : Graph
graph = record { nodes = outer ∷ inner ∷ []; roots = Some 0 ∷ None ∷ Some 1 ∷ [] }

pub in_order : IsInOrder graph
unfolding next_node
in_order = first refl (first refl over (again refl over)) (again refl over)

module _ (P : ProgramTables) where
  outer_slots : (k : ℕ) (s : Slot) → slice_get outer.slots k ≡ Some s → IsSomeAnd (stream_kind P rows k) (λ kind. SlotFits P graph kind s)
  outer_slots zero s e = subst (λ s. SlotFits P graph row s) (some_eq e) tt
  outer_slots (suc zero) s e = subst (λ s. SlotFits P graph row s) (some_eq e) tt
  outer_slots (suc (suc zero)) s e = subst (λ s. SlotFits P graph row s) (some_eq e) tt
  outer_slots (suc (suc (suc k))) s e = absurd (none_some e)

  inner_slots : (k : ℕ) (s : Slot) → slice_get inner.slots k ≡ Some s → IsSomeAnd (stream_kind P row k) (λ kind. SlotFits P graph kind s)
  unfolding int_wrap
  inner_slots zero s e = subst (λ s. SlotFits P graph (record { dims = 0; base = bases.Int }) s) (some_eq e) (tt, SFits-int_wrap w32 (pos 7))
  inner_slots (suc k) s e = absurd (none_some e)

  pub fits : GraphFits P graph
  fits = record {
    within = record { slots = ((omega arith, (omega arith, tt)), (tt, tt)); roots = (omega arith, (omega arith, tt)) };
    nodes = (record { dims = omega arith; count = tt; slots = outer_slots }, (record { dims = omega arith; count = tt; slots = inner_slots }, tt));
  }

  module _ (x y : ℕ) (apart : x ≢ y) where
    abbrev pub names : List ℕ
    names = x ∷ y ∷ []

    abbrev outer_object : Obj
    outer_object = record { kind = rows; slots = values.Ref y ∷ values.Null ∷ values.Ref y ∷ [] }

    abbrev inner_object : Obj
    inner_object = record { kind = row; slots = values.Int (pos 7) ∷ [] }

    abbrev pub heap : Heap
    heap = insert (insert empty y inner_object) x outer_object

    abbrev pub roots : List Value
    roots = values.Ref x ∷ values.Null ∷ values.Ref y ∷ []

    has_outer : get heap x ≡ Some outer_object
    has_outer = get_same (insert empty y inner_object) x outer_object

    has_inner : get heap y ≡ Some inner_object
    has_inner = get_other (insert empty y inner_object) x y outer_object (λ e. apart (sym e)) ∙ get_same empty y inner_object

    outer_drawn : (k : ℕ) (s : Slot) → slice_get outer.slots k ≡ Some s → IsSomeAnd (stream_place P rows k) (λ i. IsSomeAnd (slice_get outer_object.slots i) (λ v. Draws names v s))
    outer_drawn zero s e = subst (Draws names (values.Ref y)) (some_eq e) (draws_node refl)
    outer_drawn (suc zero) s e = subst (Draws names values.Null) (some_eq e) draws_null
    outer_drawn (suc (suc zero)) s e = subst (Draws names (values.Ref y)) (some_eq e) (draws_node refl)
    outer_drawn (suc (suc (suc k))) s e = absurd (none_some e)

    inner_drawn : (k : ℕ) (s : Slot) → slice_get inner.slots k ≡ Some s → IsSomeAnd (stream_place P row k) (λ i. IsSomeAnd (slice_get inner_object.slots i) (λ v. Draws names v s))
    inner_drawn zero s e = subst (Draws names (values.Int (pos 7))) (some_eq e) draws_int
    inner_drawn (suc k) s e = absurd (none_some e)

    once : EachOnce names
    once zero zero z e f = refl
    once zero (suc zero) z e f = absurd (apart (some_eq (e ∙ sym f)))
    once zero (suc (suc j)) z e f = absurd (none_some f)
    once (suc zero) zero z e f = absurd (apart (some_eq (f ∙ sym e)))
    once (suc zero) (suc zero) z e f = refl
    once (suc zero) (suc (suc j)) z e f = absurd (none_some f)
    once (suc (suc i)) j z e f = absurd (none_some e)

    objects : (i z : ℕ) → slice_get names i ≡ Some z → IsSomeAnd (get heap z) (λ o. IsSomeAnd (node_at graph i) (λ n. DrawsObject P names o n))
    objects zero z e = subst (λ z. IsSomeAnd (get heap z) (λ o. DrawsObject P names o outer)) (some_eq e)
        (subst (λ (o : Option Obj). IsSomeAnd o (λ o. DrawsObject P names o outer)) (sym has_outer) (record { kind = refl; count = refl; slots = outer_drawn }))
    objects (suc zero) z e = subst (λ z. IsSomeAnd (get heap z) (λ o. DrawsObject P names o inner)) (some_eq e)
        (subst (λ (o : Option Obj). IsSomeAnd o (λ o. DrawsObject P names o inner)) (sym has_inner) (record { kind = refl; count = refl; slots = inner_drawn }))
    objects (suc (suc i)) z e = absurd (none_some e)

    pub is_picture : IsPicture P heap roots names graph
    is_picture = picture P heap roots names graph in_order (record {
      shown = record { count = refl; distinct = once; objects = objects };
      roots = one_value (draws_node refl) (one_value draws_null (one_value (draws_node refl) no_value));
    })

    pub just : (z : ℕ) → get heap z ≢ None → Has names z
    just z n = by (cases_eq z x) (cases_eq z y)
      where
        by : (z ≡ x) ⊎ (z ≡ x → ⊥) → (z ≡ y) ⊎ (z ≡ y → ⊥) → Has names z
        by (inl e) b = (zero, ap Some (sym e))
        by (inr ne) (inl e) = (suc zero, ap Some (sym e))
        by (inr ne) (inr nf) = absurd (n (get_other (insert empty y inner_object) x z outer_object ne ∙ get_other empty y z inner_object nf ∙ get-empty nat_cmp z))
