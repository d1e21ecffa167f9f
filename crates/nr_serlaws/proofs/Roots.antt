-- A text says how many roots it has: where more are due than it spells, it ends too soon.
use Rattle.std.proofs.Common.{◌≡◌, ℕ, zero, suc, ◌+◌, ◌-◌, ◌*◌, ◌<◌, ◌≤◌, ◌^◌, Bool, true, false, List, [], ◌∷◌, ◌++◌, drop, length, replicate, Option, Some, None, Result, Ok, Err, refl, sym, ap, subst, ◌∙◌, ◌⊎◌, inl, inr, append-nil, length-append, arith}
use Rattle.std.specs.Prelude.{IsSomeAnd, slice_get}
use Rattle.std.specs.List.{AllByRecursion, range_with_len}
use Rattle.std.proofs.lemmas.Bool.{cases_lt, cases_eq}
use Rattle.nr_base.specs.Place.{Place}
use Rattle.nr_base.specs.Reader.{after, bind, ended, pure, whole}
use Rattle.nr_base.proofs.Laws.{bind_ok, place}
use Rattle.nr_linked.specs.declared.program.kind.Kind.{Kind}
use Rattle.nr_linked.specs.declared.program.tables.ProgramTables.{ProgramTables}
use Rattle.nr_linked.specs.Facts.{ProgramFacts}
use Rattle.nr_linked.specs.declared.program.built_in.BuiltIn.TheVariants as built_ins
use Rattle.nr_linked.specs.BuiltIns.{built_in}
use Rattle.nr_linked.specs.Kinds.{class_kind, is_reference}
use Rattle.nr_graph.specs.declared.graph.Slot.{Slot}
use Rattle.nr_graph.specs.declared.graph.Slot.TheVariants.{Int, Long, Null, Node as At}
use Rattle.nr_graph.specs.declared.graph.Node.{Node}
use Rattle.nr_graph.specs.declared.graph.Graph.{Graph}
use Rattle.nr_graph.specs.Fitting.{GraphFits, IsLink, IsSpellable, NodeFits, SlotFits}
use Rattle.nr_graph.specs.Graphs.{IsInOrder, next_node, nodes_in, root_nodes, root_slot, root_slots}
use Rattle.nr_graph.specs.StreamOrder.{stream_kind}
use Rattle.nr_graph.specs.Walks.{Walk}
use Rattle.nr_serform.specs.Handles.{Table}
use Rattle.nr_serform.specs.Spelling.{Item, Spell, over, plain, null, again, anew}
use Rattle.nr_serform.specs.Streams.{Spells, header, root_items}
use Rattle.nr_serread.specs.declared.due.Due.{Due}
use Rattle.nr_serread.specs.declared.fault.StreamFault.{StreamFault}
use Rattle.nr_serread.specs.Reading.{State, first_state, graph_at, header_at, is_done, next_at, root_due, slots_at, stream_of, until_done}
use Rattle.nr_serread.proofs.Taking.{next_takes}
use Rattle.nr_serread.proofs.Turns.{turn_on}
use Rattle.nr_serlaws.proofs.Filling.{Fills}
use Rattle.nr_serlaws.proofs.Main.{ItemFits, LinkOrNumber, with_due}
use Rattle.nr_serlaws.proofs.Redescribed.{NumbersFit}
use Rattle.nr_serlaws.proofs.Refilling.{refill}
use Rattle.nr_serlaws.proofs.Whole.{Ended, ended_is}
use Rattle.nr_serlaws.proofs.Going.{Led, spelled_goes}
use Rattle.nr_serlaws.proofs.Rewhole.{first_ready, header_gives, roots_fill, roots_fit, spelled_is_read}

-- ---- a graph with null roots more

abbrev nones : ℕ → List (Option ℕ)
nones k = replicate k None

abbrev with_roots : Graph → ℕ → Graph
with_roots g k = record { nodes = g.nodes; roots = g.roots ++ nones k }

slots_both : (rs ss : List (Option ℕ)) → root_slots (rs ++ ss) ≡ root_slots rs ++ root_slots ss
slots_both [] ss = refl
slots_both (r ∷ rs) ss = ap (λ z. root_slot r ∷ z) (slots_both rs ss)

items_both : (P : ProgramTables) (xs ys : List Slot) → root_items P (xs ++ ys) ≡ root_items P xs ++ root_items P ys
items_both P [] ys = refl
items_both P (x ∷ xs) ys = ap (λ z. (class_kind (built_in P built_ins.Object), x) ∷ z) (items_both P xs ys)

no_nodes : (k : ℕ) → nodes_in (root_slots (nones k)) ≡ []
no_nodes zero = refl
no_nodes (suc k) = no_nodes k

same_nodes_in : (rs : List (Option ℕ)) (k : ℕ) → nodes_in (root_slots rs) ≡ nodes_in (root_slots (rs ++ nones k))
same_nodes_in [] k = sym (no_nodes k)
same_nodes_in (None ∷ rs) k = same_nodes_in rs k
same_nodes_in (Some i ∷ rs) k = ap (λ z. i ∷ z) (same_nodes_in rs k)

all_map : {X : Type 0} (Q R : X → Type 0) (xs : List X) → ((x : X) → Q x → R x) → AllByRecursion Q xs → AllByRecursion R xs
all_map Q R [] f a = tt
all_map Q R (x ∷ xs) f a = (f x a.0, all_map Q R xs f a.1)

module _ (P : ProgramTables) (g : Graph) (k : ℕ) where
  slot_same : (kind : Kind) (s : Slot) → SlotFits P g kind s → SlotFits P (with_roots g k) kind s
  slot_same kind s h = by (is_reference kind) h
    where
      link : (s : Slot) → IsLink P g kind s → IsLink P (with_roots g k) kind s
      link Null h = tt
      link (At i) h = h
      link (Int n) h = h
      link (Long n) h = h

      by : (b : Bool) → LinkOrNumber P g kind s b → LinkOrNumber P (with_roots g k) kind s b
      by true h = link s h
      by false h = h

  fits_same : (n : Node) → NodeFits P g n → NodeFits P (with_roots g k) n
  fits_same n h = record { dims = h.dims; count = h.count; slots = λ j s e. by (stream_kind P n.kind j) s (h.slots j s e) }
    where
      by : (o : Option Kind) (s : Slot) → IsSomeAnd o (λ kind. SlotFits P g kind s) → IsSomeAnd o (λ kind. SlotFits P (with_roots g k) kind s)
      by None s h = h
      by (Some kind) s h = slot_same kind s h

  order_same : IsInOrder g → IsInOrder (with_roots g k)
  unfolding next_node
  order_same w = subst (λ xs. Walk (next_node (with_roots g k)) xs [] (range_with_len 0 (length g.nodes))) (same_nodes_in g.roots k) w

  able_same : IsSpellable P g → IsSpellable P (with_roots g k)
  able_same h = record {
    fits = record {
      within = record { slots = h.fits.within.slots; roots = subst (AllByRecursion (λ i. i < length g.nodes)) (same_nodes_in g.roots k) h.fits.within.roots };
      nodes = all_map (NodeFits P g) (NodeFits P (with_roots g k)) g.nodes fits_same h.fits.nodes;
    };
    order = order_same h.order;
    sendable = h.sendable;
    cells = h.cells;
  }

  spell_same : {is : List Item} {t after : Table} {text : List ℕ} → Spell P false g is t text after → Spell P false (with_roots g k) is t text after
  spell_same (over t) = over t
  spell_same (plain own r n t rest) = plain own r n t (spell_same rest)
  spell_same (null r t rest) = null r t (spell_same rest)
  spell_same (again r h t rest) = again r h t (spell_same rest)
  spell_same (anew r h e at d t o rest) = anew r h e at d t (spell_same o) (spell_same rest)

-- ---- no bytes are left for one more

ends : (P : ProgramTables) (t : State) (d : Due) (ds : List Due) (total : ℕ) (x : State × Place) → t.due ≡ d ∷ ds → slots_at P t (place total []) ≡ Ok x → ⊥
unfolding slots_at
ends P t d ds total x due e =
    let more : is_done t ≡ false = ap (λ z. is_done (with_due t z)) due in
    let a = bind_ok (next_at P t (place total [])) (λ u. until_done is_done (next_at P) 0 u) x (sym (turn_on is_done (next_at P) 0 t (place total []) more) ∙ e) in
    let less = (next_takes P t more).takes (place total []) a.0.1 a.0.0 a.1 in
    omega (arith, less)

abbrev ok_of : List ℕ × Place → Result (List ℕ × Place) StreamFault
ok_of a = Ok a

place_is : (a b : List ℕ × Place) → ok_of a ≡ ok_of b → a ≡ b
place_is a b e = cc

module _ (P : ProgramTables) (facts : ProgramFacts P) (numbers : NumbersFit P) (g : Graph) (bytes : List ℕ) (few : length bytes < 2 ^ 32) (spells : Spells P bytes g) (k : ℕ) where
  abbrev more : Graph
  more = with_roots g (suc k)

  abbrev count : ℕ
  count = length (g.roots ++ nones (suc k))

  able : IsSpellable P more
  able = able_same P g (suc k) spells.spellable

  items_are : root_items P (root_slots (g.roots ++ nones (suc k))) ≡ root_items P (root_slots g.roots) ++ root_items P (root_slots (nones (suc k)))
  items_are = ap (root_items P) (slots_both g.roots (nones (suc k))) ∙ items_both P (root_slots g.roots) (root_slots (nones (suc k)))

  left : (xs ys : List Item) (Q : Item → Type 0) → AllByRecursion Q (xs ++ ys) → AllByRecursion Q xs
  left [] ys Q a = tt
  left (x ∷ xs) ys Q a = (a.0, left xs ys Q a.1)

  led : Led P facts numbers more able (first_state P count) (place (length bytes) (spells.contents ++ [])) (place (length bytes) []) spells.after (root_items P (root_slots (nones (suc k))))
  led =
      let long = ap length spells.begins in
      let l = length-append header spells.contents in
      let m = length-append {A = ℕ} spells.contents [] in
      (spelled_goes P facts numbers more able (spell_same P g (suc k) spells.spelled)).goes (first_state P count) (root_items P (root_slots (nones (suc k)))) [] (length bytes) refl
      (subst (λ z. Fills more (record { nodes = []; roots = [] }) (replicate count (root_due P)) z) items_are (roots_fill P more (g.roots ++ nones (suc k)) (record { nodes = []; roots = [] }) refl refl))
      (left (root_items P (root_slots g.roots)) (root_items P (root_slots (nones (suc k)))) (ItemFits P more) (subst (AllByRecursion (ItemFits P more)) items_are (roots_fit P facts numbers more able (g.roots ++ nones (suc k)) able.fits.within.roots)))
      (first_ready P facts numbers more able) (omega (arith, few, long, l, m))

  not_slots : (x : State × Place) → slots_at P (first_state P count) (place (length bytes) spells.contents) ≡ Ok x → ⊥
  not_slots x e =
      let u = refill more led.fills in
      ends P led.then_at u.first u.others (length bytes) x u.due_is
      (sym led.same ∙ ap (λ z. slots_at P (first_state P count) (place (length bytes) z)) (append-nil spells.contents) ∙ e)

  pub not_read : (h : Graph) → stream_of P count bytes ≡ Ok h → ⊥
  unfolding whole graph_at bind
  not_read h e =
      let n = ended_is P facts (graph_at P count (place (length bytes) bytes)) h e in
      let a = bind_ok (header_at (place (length bytes) bytes)) (λ x. bind (slots_at P (first_state P count)) (λ s. pure s.graph)) (h, n.at) n.was in
      let first = ap (λ z. header_at (place (length bytes) z)) spells.begins ∙ (header_gives P facts numbers g spells.spellable).gives spells.contents (length bytes) in
      let same = place_is (header, place (length bytes) spells.contents) a.0 (sym first ∙ a.1) in
      let b = bind_ok (slots_at P (first_state P count) a.0.1) (λ s. pure s.graph) (h, n.at) a.2 in
      not_slots b.0 (ap (λ (z : List ℕ × Place). slots_at P (first_state P count) z.1) same ∙ b.1)

-- ---- how many roots a text has

fewer : (P : ProgramTables) (bytes : List ℕ) (g h : Graph) → ProgramFacts P → NumbersFit P → length bytes < 2 ^ 32 → length g.roots < length h.roots → Spells P bytes g → Spells P bytes h → ⊥
fewer P bytes g h facts numbers few l a b =
    let k = length h.roots - suc (length g.roots) in
    let n = length-append g.roots (nones (suc k)) in
    let m = length_nones (suc k) in
    let same : length h.roots ≡ length (g.roots ++ nones (suc k)) = omega (arith, l, n, m) in
    not_read P facts numbers g bytes few a k h (ap (λ z. stream_of P z bytes) (sym same) ∙ spelled_is_read P bytes h facts numbers few b)
  where
    length_nones : (j : ℕ) → length (nones j) ≡ j
    length_nones zero = refl
    length_nones (suc j) = ap suc (length_nones j)

pub as_many_roots : (P : ProgramTables) (bytes : List ℕ) (g h : Graph) → ProgramFacts P → NumbersFit P → length bytes < 2 ^ 32 → Spells P bytes g → Spells P bytes h → length g.roots ≡ length h.roots
as_many_roots P bytes g h facts numbers few a b = by (cases_eq (length g.roots) (length h.roots))
  where
    by : (length g.roots ≡ length h.roots) ⊎ (length g.roots ≡ length h.roots → ⊥) → length g.roots ≡ length h.roots
    by (inl e) = e
    by (inr ne) = less (cases_lt (length g.roots) (length h.roots))
      where
        less : (length g.roots < length h.roots) ⊎ (length h.roots ≤ length g.roots) → length g.roots ≡ length h.roots
        less (inl l) = absurd (fewer P bytes g h facts numbers few l a b)
        less (inr l) = absurd (fewer P bytes h g facts numbers few (omega (arith, l, ne)) b a)
