-- Whole streams that are read are spelled so.
use Rattle.std.proofs.Common.{◌≡◌, ℕ, zero, suc, ◌+◌, ◌<◌, ◌≤◌, ◌^◌, Bool, true, false, eqb, List, [], ◌∷◌, ◌++◌, length, replicate, Option, Some, None, Result, Ok, Err, refl, sym, ap, subst, ◌∙◌, append_assoc, append-nil, if◌then◌else◌, arith}
use Rattle.std.specs.Prelude.{T, IsSomeAnd, slice_get}
use Rattle.std.specs.List.{AllByRecursion}
use Rattle.std.specs.Option.{option_map}
use Rattle.std.specs.Str.{bytes_eq}
use Rattle.std.proofs.lemmas.Bool.{eqb-true}
use Rattle.std.proofs.lemmas.List.{nil_from_length}
use Rattle.std.proofs.lemmas.Slice.Eq.{bytes_eq-Decides}
use Rattle.nr_base.specs.Grammar.{IsBytes}
use Rattle.nr_base.specs.Place.{Place, at_of}
use Rattle.nr_base.specs.Reader.{ended, whole}
use Rattle.nr_base.proofs.Laws.{with_fault_law}
use Rattle.nr_base.proofs.Numbers.{run_law}
use Rattle.nr_linked.specs.declared.program.built_in.BuiltIn.TheVariants as built_ins
use Rattle.nr_linked.specs.declared.program.kind.Base.{Base}
use Rattle.nr_linked.specs.declared.program.kind.Base.TheVariants as bases
use Rattle.nr_linked.specs.declared.program.kind.Kind.{Kind}
use Rattle.nr_linked.specs.declared.program.tables.ProgramTables.{ProgramTables}
use Rattle.nr_linked.specs.BuiltIns.{built_in}
use Rattle.nr_linked.specs.Facts.{ProgramFacts}
use Rattle.nr_linked.specs.Kinds.{class_kind, is_reference}
use Rattle.nr_linked.specs.Sendable.{is_sendable}
use Rattle.nr_linked.specs.Subtypes.{is_assignable}
use Rattle.nr_model.specs.Heaps.{on_some}
use Rattle.nr_model.proofs.Paths.{none_some}
use Rattle.nr_graph.specs.declared.graph.Slot.{Slot}
use Rattle.nr_graph.specs.declared.graph.Slot.TheVariants.{Int, Long, Null, Node as At}
use Rattle.nr_graph.specs.declared.graph.Node.{Node}
use Rattle.nr_graph.specs.declared.graph.Graph.{Graph}
use Rattle.nr_graph.specs.Fitting.{GraphFits, IsLink, IsNumber, IsSpellable, NodeFits, SlotFits}
use Rattle.nr_graph.specs.Graphs.{IsInOrder, cells_of_nodes, next_node, node_at, nodes_in, root_nodes, root_slots}
use Rattle.nr_graph.specs.StreamOrder.{stream_kind}
use Rattle.nr_graph.specs.Walks.{Walk}
use Rattle.nr_serform.specs.Handles.{objects}
use Rattle.nr_serform.specs.Spelling.{Item, Spell, items_from, items_of}
use Rattle.nr_serform.specs.Streams.{Spells, header, root_items}
use Rattle.nr_serread.specs.declared.fault.StreamFault.{StreamFault}
use Rattle.nr_serread.specs.declared.fault.StreamFault.TheVariants as faults
use Rattle.nr_serread.specs.Faults.{of_short}
use Rattle.nr_serread.specs.Reading.{State, first_state, graph_at, header_at, root_due, root_of, slots_at, stream_of, with_slot}
use Rattle.nr_serlaws.proofs.Finds.{Finds, bind_finds, choose_finds, never_finds, of_reads, pure_finds, refuse_never}
use Rattle.nr_serlaws.proofs.Tables.{no_handles}
use Rattle.nr_serlaws.proofs.Filling.{Fills, filled, OwnersIn, unfill}
use Rattle.nr_serlaws.proofs.Splits.{slots_in, spelled_walks}
use Rattle.nr_serlaws.proofs.Main.{LinkOrNumber, ItemFits, NodeIs, Spelled, Stands, below_length, owned, range_length, read_to_end}

-- ---- nodes that are named are there

all_at : {X : Type 0} (Q : X → Type 0) (xs : List X) → ((i : ℕ) (x : X) → slice_get xs i ≡ Some x → Q x) → AllByRecursion Q xs
all_at Q [] each = tt
all_at Q (x ∷ xs) each = (each zero x refl, all_at Q xs (λ i y e. each (suc i) y e))

no_number : (base : Base) (i : ℕ) → IsNumber base (At i) → ⊥
no_number bases.Bool i h = h
no_number bases.Byte i h = h
no_number bases.Char i h = h
no_number bases.Short i h = h
no_number bases.Int i h = h
no_number bases.Long i h = h
no_number (bases.Object c) i h = h

slot_there : (P : ProgramTables) (g : Graph) (kind : Kind) (i : ℕ) → SlotFits P g kind (At i) → i < length g.nodes
slot_there P g kind i h = by (is_reference kind) h
  where
    at_node : (o : Option Node) → node_at g i ≡ o → IsSomeAnd (option_map (λ n. n.kind) o) (λ k. T (is_assignable P k kind)) → i < length g.nodes
    at_node None e h = absurd h
    at_node (Some n) e h = below_length g.nodes i n e

    by : (b : Bool) → LinkOrNumber P g kind (At i) b → i < length g.nodes
    by true h = at_node (node_at g i) refl h
    by false h = absurd (no_number kind.base i h)

nodes_there : (n : ℕ) (ss : List Slot) → ((k i : ℕ) → slice_get ss k ≡ Some (At i) → i < n) → AllByRecursion (λ i. i < n) (nodes_in ss)
nodes_there n [] each = tt
nodes_there n (Int m ∷ ss) each = nodes_there n ss (λ k i e. each (suc k) i e)
nodes_there n (Long m ∷ ss) each = nodes_there n ss (λ k i e. each (suc k) i e)
nodes_there n (Null ∷ ss) each = nodes_there n ss (λ k i e. each (suc k) i e)
nodes_there n (At i ∷ ss) each = (each zero i refl, nodes_there n ss (λ k i e. each (suc k) i e))

roots_there : (P : ProgramTables) (g : Graph) (ss : List Slot) → AllByRecursion (ItemFits P g) (root_items P ss) → AllByRecursion (λ i. i < length g.nodes) (nodes_in ss)
roots_there P g [] a = tt
roots_there P g (Int m ∷ ss) a = roots_there P g ss a.1
roots_there P g (Long m ∷ ss) a = roots_there P g ss a.1
roots_there P g (Null ∷ ss) a = roots_there P g ss a.1
roots_there P g (At i ∷ ss) a = (slot_there P g (class_kind (built_in P built_ins.Object)) i a.0, roots_there P g ss a.1)

-- ---- roots

record Rooted (P : ProgramTables) (g now : Graph) (n : ℕ) (is : List Item) : Type 0 where
  rs : List (Option ℕ)
  count : length rs ≡ n
  roots : g.roots ≡ now.roots ++ rs
  items : is ≡ root_items P (root_slots rs)

no_more : (g : Graph) {now : Graph} {is : List Item} → Fills g now [] is → (now.roots ≡ g.roots) × (is ≡ [])
no_more g (filled each roots) = (roots, refl)

root_again : (P : ProgramTables) (g : Graph) (x : Slot) → SlotFits P g (class_kind (built_in P built_ins.Object)) x → (rs : List (Option ℕ)) → (class_kind (built_in P built_ins.Object), x) ∷ root_items P (root_slots rs) ≡ root_items P (root_slots (root_of x ∷ rs))
root_again P g (Int n) h rs = absurd h
root_again P g (Long n) h rs = absurd h
root_again P g Null h rs = refl
root_again P g (At i) h rs = refl

rooted : (P : ProgramTables) (g : Graph) (n : ℕ) (now : Graph) (is : List Item) → Fills g now (replicate n (root_due P)) is → AllByRecursion (ItemFits P g) is → Rooted P g now n is
rooted P g zero now is f a = let e = no_more g f in record { rs = []; count = refl; roots = sym e.0 ∙ sym (append-nil now.roots); items = e.1 }
rooted P g (suc n) now is f a =
    let u = unfill g f in
    let b = subst (AllByRecursion (ItemFits P g)) u.js_are a in
    let r = rooted P g n (with_slot None u.slot now) u.rest u.fills b.1 in
    record {
      rs = root_of u.slot ∷ r.rs;
      count = ap suc r.count;
      roots = r.roots ∙ append_assoc now.roots (root_of u.slot ∷ []) r.rs;
      items = u.js_are ∙ ap (λ z. (class_kind (built_in P built_ins.Object), u.slot) ∷ z) r.items ∙ root_again P g u.slot b.0 r.rs;
    }

root_slots_in : (P : ProgramTables) (ss : List Slot) → slots_in (root_items P ss) ≡ ss
root_slots_in P [] = refl
root_slots_in P (s ∷ ss) = ap (λ z. s ∷ z) (root_slots_in P ss)

-- ---- each item of a node is a slot

items_slots : (P : ProgramTables) (g : Graph) (n : Node) (ss : List Slot) (j : ℕ) → ((k : ℕ) (s : Slot) → slice_get ss k ≡ Some s → IsSomeAnd (stream_kind P n.kind (j + k)) (λ kind. SlotFits P g kind s)) → slots_in (items_from P n j ss) ≡ ss
items_slots P g n [] j each = refl
items_slots P g n (s ∷ ss) j each =
    by (stream_kind P n.kind j) (subst (λ i. IsSomeAnd (stream_kind P n.kind i) (λ kind. SlotFits P g kind s)) (omega arith) (each zero s refl))
    (items_slots P g n ss (suc j) (λ k t e. subst (λ i. IsSomeAnd (stream_kind P n.kind i) (λ kind. SlotFits P g kind t)) (omega arith) (each (suc k) t e)))
  where
    by : (o : Option Kind) → IsSomeAnd o (λ kind. SlotFits P g kind s) → slots_in (items_from P n (suc j) ss) ≡ ss → slots_in (on_some o [] (λ kind. (kind, s) ∷ []) ++ items_from P n (suc j) ss) ≡ s ∷ ss
    by None h e = absurd h
    by (Some kind) h e = ap (λ z. s ∷ z) e

node_slots : (P : ProgramTables) (g : Graph) (n : Node) → NodeFits P g n → slots_in (items_of P n) ≡ n.slots
unfolding items_of
node_slots P g n h = items_slots P g n n.slots 0 (λ k s e. subst (λ i. IsSomeAnd (stream_kind P n.kind i) (λ kind. SlotFits P g kind s)) (omega arith) (h.slots k s e))

-- ---- the graph

module _ (P : ProgramTables) (facts : ProgramFacts P) where
  pub owners_none : (n : ℕ) → OwnersIn 0 (replicate n (root_due P))
  owners_none zero = tt
  owners_none (suc n) = ((λ i e. absurd (none_some e)), owners_none n)

  owned_none : (n : ℕ) → owned (replicate n (root_due P)) ≡ 0
  owned_none zero = refl
  owned_none (suc n) = let r = owned_none n in omega (arith, r)

  first_stands : (roots : ℕ) → Stands P (first_state P roots)
  first_stands roots = record {
    keeps = record { once = no_handles; classes = tt };
    objects_are = refl;
    owners = owners_none roots;
    counted = let r = owned_none roots in omega (arith, r);
    few = omega arith;
  }

  record Contents (roots : ℕ) (t : State) (text : List ℕ) : Type 0 where
    spelled : Spelled P t.graph (first_state P roots) t.table text
    stands : Stands P t
    done : t.due ≡ []

  slots_finds : (roots : ℕ) → Finds (slots_at P (first_state P roots)) (Contents roots)
  unfolding slots_at
  slots_finds roots = record {
    found = λ p q t fits e.
        let r = read_to_end P facts (suc (length p.rest)) (first_state P roots) p t q (first_stands roots) fits (omega arith) e in
        record { text = r.text; holds = record { spelled = r.spelled; stands = r.stands; done = r.done }; rest = r.rest; fits = r.fits };
  }

  header_finds : Finds header_at (λ h text. text ≡ header)
  unfolding header_at
  header_finds = bind_finds (of_reads (with_fault_law of_short (run_law 4))) (λ h front g. choose_finds (bytes_eq h header)
      (λ e. pure_finds h (append-nil front ∙ g.1 ∙ (bytes_eq-Decides h header).0 e))
      (λ e. never_finds (refuse_never _)))

  record IsGraph (roots : ℕ) (g : Graph) (text : List ℕ) : Type 0 where
    contents : List ℕ
    begins : text ≡ header ++ contents
    state : State
    read : Contents roots state contents
    graph_is : g ≡ state.graph

  graph_finds : (roots : ℕ) → Finds (graph_at P roots) (IsGraph roots)
  unfolding graph_at
  graph_finds roots = bind_finds header_finds (λ h front e. bind_finds (slots_finds roots) (λ t back c. pure_finds t.graph (record {
    contents = back;
    begins = (λ i. e i ++ append-nil back i);
    state = t;
    read = c;
    graph_is = refl;
  })))

  pub record Ended (r : Result (Graph × Place) StreamFault) (g : Graph) : Type 0 where
    pub at : Place
    pub was : r ≡ Ok (g, at)
    pub nothing : at.rest ≡ []

  pub ended_is : (r : Result (Graph × Place) StreamFault) (g : Graph) → ended faults.Trailing r ≡ Ok g → Ended r g
  ended_is (Err e) g h = absurd cc
  ended_is (Ok x) g h = by (eqb (length x.1.rest) 0) refl h
    where
      by : (b : Bool) → eqb (length x.1.rest) 0 ≡ b → (if b then Ok x.0 else Err (faults.Trailing (at_of x.1))) ≡ Ok g → Ended (Ok x) g
      by true e h =
          let same : x.0 ≡ g = cc in
          record { at = x.1; was = ap (λ (z : Graph). Ok (z, x.1)) same; nothing = nil_from_length x.1.rest (eqb-true _ _ e) }
      by false e h = absurd cc

  -- ---- what was read can be spelled

  module _ (roots : ℕ) (t : State) (text : List ℕ) (c : Contents roots t text) where
    abbrev g : Graph
    g = t.graph

    from_roots : Rooted P g (record { nodes = []; roots = [] }) roots c.spelled.is
    from_roots = rooted P g roots (record { nodes = []; roots = [] }) c.spelled.is c.spelled.fills c.spelled.fit

    node_fits : (i : ℕ) (n : Node) → node_at g i ≡ Some n → NodeIs P g n
    node_fits i n e = c.spelled.news i n (omega arith) e

    items_are : c.spelled.is ≡ root_items P (root_slots g.roots)
    items_are = from_roots.items ∙ ap (λ z. root_items P (root_slots z)) (sym from_roots.roots)

    spelled : Spell P false g (root_items P (root_slots g.roots)) [] text t.table
    spelled = subst (λ is. Spell P false g is [] text t.table) items_are c.spelled.spelled

    fits : GraphFits P g
    fits = record {
      within = record {
        slots = all_at (λ n. AllByRecursion (λ i. i < length g.nodes) (nodes_in n.slots)) g.nodes (λ i n e.
            nodes_there (length g.nodes) n.slots (λ k j at. slot_of (stream_kind P n.kind k) j ((node_fits i n e).fits.slots k (At j) at)));
        roots = roots_there P g (root_slots g.roots) (subst (AllByRecursion (ItemFits P g)) items_are c.spelled.fit);
      };
      nodes = all_at (NodeFits P g) g.nodes (λ i n e. (node_fits i n e).fits);
    }
      where
        slot_of : (o : Option Kind) (j : ℕ) → IsSomeAnd o (λ kind. SlotFits P g kind (At j)) → j < length g.nodes
        slot_of None j h = absurd h
        slot_of (Some kind) j h = slot_there P g kind j h

    order : IsInOrder g
    order = subst (Walk (next_node g) (root_nodes g) []) c.stands.objects_are
        (subst (λ xs. Walk (next_node g) (nodes_in xs) [] (objects t.table)) (root_slots_in P (root_slots g.roots))
        (spelled_walks P false g (λ i n e. node_slots P g n (node_fits i n e).fits) spelled))

    cells_fit : cells_of_nodes g.nodes ≤ 2 ^ 20
    cells_fit =
        let counted = c.stands.counted in
        let few = c.stands.few in
        omega (arith, counted, few)

    spellable : IsSpellable P g
    spellable = record {
      fits = fits;
      order = order;
      sendable = all_at (λ n. T (is_sendable P n.kind)) g.nodes (λ i n e. (node_fits i n e).sendable);
      cells = cells_fit;
    }

    spells : (bytes : List ℕ) → bytes ≡ header ++ text → Spells P bytes g
    spells bytes e = record {
      contents = text;
      begins = e;
      after = t.table;
      spelled = spelled;
      whole = ap length c.stands.objects_are ∙ range_length 0 (length g.nodes);
      spellable = spellable;
    }

    as_many : length g.roots ≡ roots
    as_many = ap length from_roots.roots ∙ from_roots.count

  pub read_is_spelled : (roots : ℕ) (bytes : List ℕ) (g : Graph) → IsBytes bytes → stream_of P roots bytes ≡ Ok g → Spells P bytes g × (length g.roots ≡ roots)
  unfolding whole
  read_is_spelled roots bytes g fits e =
      let p : Place = record { total = length bytes; rest = bytes } in
      let n = ended_is (graph_at P roots p) g e in
      let f = (graph_finds roots).found p n.at g fits n.was in
      let whole_text : bytes ≡ f.text = f.rest ∙ ap (λ z. f.text ++ z) n.nothing ∙ append-nil f.text in
      subst (λ z. Spells P bytes z × (length z.roots ≡ roots)) (sym f.holds.graph_is)
      (spells roots f.holds.state f.holds.contents f.holds.read bytes (whole_text ∙ f.holds.begins), as_many roots f.holds.state f.holds.contents f.holds.read)
