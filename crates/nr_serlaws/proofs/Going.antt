-- Each text that spells what is due is read up to its end.
use Rattle.std.proofs.Common.{◌≡◌, ℕ, zero, suc, ◌+◌, ◌*◌, ◌<◌, ◌≤◌, ◌^◌, Bool, true, false, not, ◌||◌, ◌&&◌, List, [], ◌∷◌, ◌++◌, drop, length, replicate, Option, Some, refl, sym, ap, subst, ◌∙◌, ◌⊎◌, inl, inr, append_assoc, append-nil, length-append, if◌then◌else◌, true≢false, arith}
use Rattle.std.specs.Prelude.{T, IsSomeAnd, slice_get}
use Rattle.std.specs.Int.{w32, to_be_bytes}
use Rattle.std.specs.List.{AllByRecursion, range_with_len}
use Rattle.std.specs.Option.{option_map}
use Rattle.std.proofs.lemmas.Bool.{cases_eq, lt-ltb, ne_eqb}
use Rattle.nr_base.specs.Place.{Place}
use Rattle.nr_base.proofs.Laws.{place}
use Rattle.nr_linked.specs.declared.program.kind.Base.{Base}
use Rattle.nr_linked.specs.declared.program.kind.Base.TheVariants as bases
use Rattle.nr_linked.specs.declared.program.kind.Kind.{Kind}
use Rattle.nr_linked.specs.declared.program.tables.ProgramTables.{ProgramTables}
use Rattle.nr_linked.specs.Facts.{ProgramFacts}
use Rattle.nr_linked.specs.Kinds.{is_array, is_reference}
use Rattle.nr_linked.specs.Sendable.{is_sendable}
use Rattle.nr_linked.specs.Subtypes.{is_assignable}
use Rattle.nr_model.specs.TypedHeaps.{Counts}
use Rattle.nr_graph.specs.declared.graph.Slot.{Slot}
use Rattle.nr_graph.specs.declared.graph.Slot.TheVariants.{Null, Node as At}
use Rattle.nr_graph.specs.declared.graph.Node.{Node}
use Rattle.nr_graph.specs.declared.graph.Graph.{Graph}
use Rattle.nr_graph.specs.Fitting.{IsLink, IsSpellable, NodeFits, SlotFits}
use Rattle.nr_graph.specs.Graphs.{cells_of_nodes, graph_cells, node_at}
use Rattle.nr_graph.specs.Walks.{is_met}
use Rattle.nr_serform.specs.Entries.{Object}
use Rattle.nr_serform.specs.Handles.{Table, handle_text, has, objects}
use Rattle.nr_serform.specs.Descriptions.{Describes}
use Rattle.nr_serform.specs.Spelling.{IsNumberText, Item, Spell, over, plain, null, again, anew, items_of, size_text, tag}
use Rattle.nr_serform.specs.StreamSlots.{stream_kinds}
use Rattle.nr_serread.specs.declared.due.Due.{Due}
use Rattle.nr_serread.specs.Describing.{is_of_sort}
use Rattle.nr_serread.specs.Reading.{State, kept, opened, slot_at, slots_at, slots_due, with_slot}
use Rattle.nr_serlaws.proofs.Tables.{all_get, objects-append}
use Rattle.nr_serlaws.proofs.SlotKinds.{AreSlots, IsArray, IsObject, array_slots, items_are, length_replicate, object_slots}
use Rattle.nr_serlaws.proofs.Names.{Known}
use Rattle.nr_serlaws.proofs.Filling.{Fills, OwnersIn, kind_kept, items, with_length, with_node}
use Rattle.nr_serlaws.proofs.Splits.{has_met, describes_objects}
use Rattle.nr_serlaws.proofs.Main.{ItemFits, below_length, nodes_last, owners_both, owners_more, owners_slots, range_length, range_more, there, with_due}
use Rattle.nr_serlaws.proofs.Gives.{Gives, gives_text}
use Rattle.nr_serlaws.proofs.Called.{called}
use Rattle.nr_serlaws.proofs.Bounds.{class_bound}
use Rattle.nr_serlaws.proofs.Redescribed.{Few, NumbersFit}
use Rattle.nr_serlaws.proofs.Refilling.{Refilled, cells_to_come, refill, with_due_slots, with_next}
use Rattle.nr_serlaws.proofs.Leads.{Ready, array_slot, link_of, new_state, null_slot, number_of, number_slot, object_slot, old_slot, so, step_leads}

-- ---- lists

met_range : (a n i : ℕ) → is_met (range_with_len a n) i ≡ true → i < a + n
met_range a zero i e = absurd (true≢false (sym e))
met_range a (suc n) i e = by (cases_eq i a) (met_range (a + 1) n i)
  where
    by : (i ≡ a) ⊎ (i ≡ a → ⊥) → (is_met (range_with_len (a + 1) n) i ≡ true → i < a + 1 + n) → i < a + suc n
    by (inl s) rest = omega (arith, s)
    by (inr ne) rest = let r = rest (sym (ap (λ b. b || is_met (range_with_len (a + 1) n) i) (ne_eqb i a ne)) ∙ e) in omega (arith, r)

items_fit : (P : ProgramTables) (g : Graph) (ks : List Kind) (ss : List Slot) → ((k : ℕ) (s : Slot) → slice_get ss k ≡ Some s → IsSomeAnd (slice_get ks k) (λ kind. SlotFits P g kind s)) → AllByRecursion (ItemFits P g) (items ks ss)
items_fit P g [] ss each = tt
items_fit P g (k ∷ ks) [] each = tt
items_fit P g (k ∷ ks) (s ∷ ss) each = (each zero s refl, items_fit P g ks ss (λ j t e. each (suc j) t e))

one_count : (P : ProgramTables) (kind : Kind) (m n : ℕ) → is_array kind ≡ false → Counts P kind m → Counts P kind n → m ≡ n
one_count P kind m n flat a b = by kind.dims kind.base flat a b
  where
    by : (d : ℕ) (base : Base) → is_array (record { dims = d; base = base }) ≡ false → Counts P (record { dims = d; base = base }) m → Counts P (record { dims = d; base = base }) n → m ≡ n
    by zero (bases.Object c) flat a b = a.count ∙ sym b.count
    by zero bases.Bool flat a b = absurd a
    by zero bases.Byte flat a b = absurd a
    by zero bases.Char flat a b = absurd a
    by zero bases.Short flat a b = absurd a
    by zero bases.Int flat a b = absurd a
    by zero bases.Long flat a b = absurd a
    by (suc d) base flat a b = absurd (true≢false (sym (lt-ltb 0 (suc d) (omega arith)) ∙ flat))

known_of : (P : ProgramTables) (kind : Kind) (n : ℕ) → kind.dims ≤ 255 → Counts P kind n → Known P kind
known_of P kind n few counts = record { few = few; itself = by kind.dims kind.base counts }
  where
    by : (d : ℕ) (base : Base) → Counts P (record { dims = d; base = base }) n → is_array (record { dims = d; base = base }) ≡ true → is_assignable P (record { dims = d; base = base }) (record { dims = d; base = base }) ≡ true
    by zero base counts e = absurd (true≢false (sym e))
    by (suc d) base counts e = so (is_assignable P (record { dims = suc d; base = base }) (record { dims = suc d; base = base })) counts

both : (a b : Bool) → a ≡ true → b ≡ true → (a && b) ≡ true
both true b x y = y
both false b x y = x

-- ---- a new node

pub record NewIs (P : ProgramTables) (d : Due) (s : State) (n : Node) (table : Table) (desc : List ℕ) : Type 0 where
  pub ks : List Kind
  pub slots : AreSlots P n.kind ks
  pub count : length n.slots ≡ length ks
  pub gives : Gives (slot_at P d s) (new_state d s n.kind table ks) (tag n.kind ∷ (desc ++ size_text n))

module _ (P : ProgramTables) (facts : ProgramFacts P) (numbers : NumbersFit P) (g : Graph) (able : IsSpellable P g) where
  node_fits : (i : ℕ) (n : Node) → node_at g i ≡ Some n → NodeFits P g n
  node_fits i n e = all_get (NodeFits P g) g.nodes i n able.fits.nodes e

  pub node_sends : (i : ℕ) (n : Node) → node_at g i ≡ Some n → is_sendable P n.kind ≡ true
  node_sends i n e = so (is_sendable P n.kind) (all_get (λ n. T (is_sendable P n.kind)) g.nodes i n able.sendable e)

  new_slot : (d : Due) (s : State) (n : Node) (table : Table) (desc : List ℕ) → is_reference d.kind ≡ true → NodeFits P g n → is_sendable P n.kind ≡ true → is_assignable P n.kind d.kind ≡ true
      → Describes P false (Some n.kind) s.table desc table → Few s.table desc → s.cells + (length n.slots + 1) ≤ 2 ^ 20 → NewIs P d s n table desc
  new_slot d s n table desc r fits send suits described few room = by (is_array n.kind) refl
    where
      of_object : (flat : is_array n.kind ≡ false) → IsObject P n.kind → is_of_sort P false n.kind ≡ true → NewIs P d s n table desc
      of_object flat c sort =
          let count = one_count P n.kind (length n.slots) (length (stream_kinds P c.number)) flat fits.count c.slots.counts in
          record {
            ks = stream_kinds P c.number;
            slots = c.slots;
            count = count;
            gives = gives_text ((λ i. (if (sym flat) i then 0x75 else 0x73) ∷ (sym (append-nil desc) ∙ ap (λ b. desc ++ (if b then to_be_bytes w32 (length n.slots) else [])) (sym flat)) i))
                (object_slot P facts numbers d s n.kind table desc r c sort suits (called P facts n.kind (length n.slots) fits.dims fits.count send) described few (omega (arith, room, count)));
          }

      of_array : (flat : is_array n.kind ≡ true) → IsArray P n.kind → is_of_sort P true n.kind ≡ true → NewIs P d s n table desc
      of_array flat c sort = record {
        ks = replicate (length n.slots) c.element;
        slots = c.slots (length n.slots);
        count = sym (length_replicate (length n.slots) c.element);
        gives = gives_text ((λ i. (if (sym flat) i then 0x75 else 0x73) ∷ (desc ++ (if (sym flat) i then to_be_bytes w32 (length n.slots) else []))))
            (array_slot P facts numbers d s n.kind table desc (length n.slots) r c sort suits (called P facts n.kind (length n.slots) fits.dims fits.count send) described few room);
      }

      by : (b : Bool) → is_array n.kind ≡ b → NewIs P d s n table desc
      by false flat =
          let sort : is_of_sort P false n.kind ≡ true = both (not (is_array n.kind)) (is_sendable P n.kind) (ap not flat) send in
          of_object flat (object_slots P facts.linked n.kind sort) sort
      by true flat =
          let sort : is_of_sort P true n.kind ≡ true = both (is_array n.kind) (is_sendable P n.kind) flat send in
          of_array flat (array_slots P n.kind flat (known_of P n.kind (length n.slots) fits.dims fits.count)) sort

  -- ---- what reading leads to

  pub record Led (s : State) (p q : Place) (after : Table) (js : List Item) : Type 0 where
    pub then_at : State
    pub same : slots_at P s p ≡ slots_at P then_at q
    pub fills : Fills g then_at.graph then_at.due js
    pub table_is : then_at.table ≡ after
    pub ready : Ready g then_at
    pub few : 2 * length after + length q.rest < 2 ^ 32

  pub record Goes (is : List Item) (table : Table) (text : List ℕ) (after : Table) : Type 0 where
    pub goes : (s : State) (js : List Item) (rest : List ℕ) (total : ℕ) → s.table ≡ table → Fills g s.graph s.due (is ++ js) → AllByRecursion (ItemFits P g) is → Ready g s
        → 2 * length table + length (text ++ rest) < 2 ^ 32 → Led s (place total (text ++ rest)) (place total rest) after js

  goes_over : (table : Table) (text : List ℕ) → text ≡ [] → Goes [] table text table
  goes_over table text e = record {
    goes = λ s js rest total t f a ready few. record {
      then_at = s;
      same = ap (λ z. slots_at P s (place total (z ++ rest))) e;
      fills = f;
      table_is = t;
      ready = ready;
      few = let l = ap (λ z. length (z ++ rest)) e in omega (arith, few, l);
    };
  }

  kept_ready : (d : Due) (x : Slot) (s : State) (ds : List Due) → Ready g s → s.due ≡ d ∷ ds → Ready g (kept d x (with_due s ds))
  unfolding kept
  kept_ready d x s ds ready e =
      let len = with_length d.owner x s.graph in
      let owners = subst (OwnersIn (length s.graph.nodes)) e ready.owners in
      record {
        objects_are = ready.objects_are ∙ ap (range_with_len 0) (sym len);
        owners = subst (λ m. OwnersIn m ds) (sym len) owners.1;
        cells = ap (λ m. s.cells + cells_of_nodes (drop m g.nodes)) len ∙ ready.cells;
      }

  -- a slot whose text is `front`, and then the others
  goes_kept : (kind : Kind) (x : Slot) (is : List Item) (table after : Table) (text front more : List ℕ) → text ≡ front ++ more → Goes is table more after
      → ((s : State) (d : Due) (ds : List Due) (js : List Item) → s.table ≡ table → s.due ≡ d ∷ ds → d.kind ≡ kind → Ready g s → SlotFits P g kind x → Fills g s.graph s.due ((kind, x) ∷ js) → length table < 2 ^ 31
      → Gives (slot_at P d (with_due s ds)) (kept d x (with_due s ds)) front)
      → Goes ((kind, x) ∷ is) table text after
  unfolding kept
  goes_kept kind x is table after text front more t rec step = record {
    goes = λ s js rest total tb f a ready few.
        let u = refill g f in
        let l = length-append front (more ++ rest) in
        let whole : text ++ rest ≡ front ++ (more ++ rest) = ap (λ z. z ++ rest) t ∙ append_assoc front more rest in
        let m = ap length whole in
        let gives = step s u.first u.others (is ++ js) tb u.due_is u.kind_is ready a.0 f (omega (arith, few)) in
        let next : State = kept u.first x (with_due s u.others) in
        let r = rec.goes next js rest total tb u.fills a.1 (kept_ready u.first x s u.others ready u.due_is) (omega (arith, few, l, m)) in
        record {
          then_at = r.then_at;
          same = ap (λ z. slots_at P s (place total z)) whole ∙ step_leads P s next u.first u.others (place total (front ++ (more ++ rest))) (place total (more ++ rest)) u.due_is (gives.gives (more ++ rest) total) ∙ r.same;
          fills = r.fills;
          table_is = r.table_is;
          ready = r.ready;
          few = r.few;
        };
  }

  goes_plain : (kind : Kind) (x : Slot) (is : List Item) (table after : Table) (text own more : List ℕ) → is_reference kind ≡ false → IsNumberText kind.base x own → text ≡ own ++ more
      → Goes is table more after → Goes ((kind, x) ∷ is) table text after
  goes_plain kind x is table after text own more r n t rec = goes_kept kind x is table after text own more t rec (λ s d ds js tb e k ready fit f few.
      number_slot P facts numbers d (with_due s ds) x own (ap is_reference k ∙ r) (subst (λ z. IsNumberText z x own) (ap (λ (z : Kind). z.base) (sym k)) n)
      (number_of P g d.kind x (ap is_reference k ∙ r) (subst (λ z. SlotFits P g z x) (sym k) fit)))

  goes_null : (kind : Kind) (is : List Item) (table after : Table) (text more : List ℕ) → is_reference kind ≡ true → text ≡ 0x70 ∷ more → Goes is table more after → Goes ((kind, Null) ∷ is) table text after
  goes_null kind is table after text more r t rec = goes_kept kind Null is table after text (0x70 ∷ []) more t rec (λ s d ds js tb e k ready fit f few.
      null_slot P facts numbers d (with_due s ds) (ap is_reference k ∙ r))

  link_suits : (kind : Kind) (i : ℕ) (n : Node) → node_at g i ≡ Some n → IsLink P g kind (At i) → is_assignable P n.kind kind ≡ true
  link_suits kind i n e h = so (is_assignable P n.kind kind) (subst (λ (o : Option Node). IsSomeAnd (option_map (λ n. n.kind) o) (λ k. T (is_assignable P k kind))) e h)

  goes_again : (kind : Kind) (i : ℕ) (is : List Item) (table after : Table) (text more : List ℕ) → is_reference kind ≡ true → has table (Object i) ≡ true → text ≡ handle_text table (Object i) ++ more
      → Goes is table more after → Goes ((kind, At i) ∷ is) table text after
  goes_again kind i is table after text more r h t rec = goes_kept kind (At i) is table after text (handle_text table (Object i)) more t rec (λ s d ds js tb e k ready fit f few.
      let met : is_met (range_with_len 0 (length s.graph.nodes)) i ≡ true = ap (λ xs. is_met xs i) (sym (ap objects (sym tb) ∙ ready.objects_are)) ∙ sym (has_met table i) ∙ h in
      let l = met_range 0 (length s.graph.nodes) i met in
      let n = there s.graph.nodes i (omega (arith, l)) in
      let m = kind_kept g f i n.0 n.1 in
      let suits = link_suits kind i m.0 m.1 (link_of P g kind (At i) r fit) in
      gives_text (ap (λ z. handle_text z (Object i)) tb)
      (old_slot P facts numbers d (with_due s ds) i n.0 (ap is_reference k ∙ r) (subst (λ z. has z (Object i) ≡ true) (sym tb) h) (subst (λ z. length z < 2 ^ 31) (sym tb) few) n.1
      (ap (λ z. is_assignable P z d.kind) (sym m.2) ∙ ap (is_assignable P m.0.kind) k ∙ suits)))

  -- ---- a new node, its slots, and then the others

  module _ (kind : Kind) (i : ℕ) (n : Node) (is : List Item) (table mid last after : Table) (text desc own more : List ℕ) (r : is_reference kind ≡ true) (i_is : i ≡ length (objects table)) (at : node_at g i ≡ Some n)
      (described : Describes P false (Some n.kind) table desc mid) (t : text ≡ tag n.kind ∷ (desc ++ size_text n ++ own ++ more)) (rec_own : Goes (items_of P n) (mid ++ Object i ∷ []) own last) (rec : Goes is last more after)
      (s : State) (js : List Item) (rest : List ℕ) (total : ℕ) (tb : s.table ≡ table) (f : Fills g s.graph s.due ((kind, At i) ∷ (is ++ js))) (fit : SlotFits P g kind (At i)) (fit_rest : AllByRecursion (ItemFits P g) is) (ready : Ready g s)
      (few : 2 * length table + length (text ++ rest) < 2 ^ 32) where
    abbrev front : List ℕ
    front = tag n.kind ∷ (desc ++ size_text n)

    whole : text ++ rest ≡ front ++ (own ++ (more ++ rest))
    whole = ap (λ z. z ++ rest) t ∙ ap (λ z. tag n.kind ∷ z) (append_assoc (desc ++ size_text n ++ own) more rest ∙ append_assoc (desc ++ size_text n) own (more ++ rest))

    u : Refilled g s.graph s.due (kind, At i) (is ++ js)
    u = refill g f

    abbrev m : ℕ
    m = length s.graph.nodes

    number_is : i ≡ m
    number_is = i_is ∙ ap (λ z. length (objects z)) (sym tb) ∙ ap length ready.objects_are ∙ range_length 0 m

    lengths : length (text ++ rest) ≡ 1 + (length desc + length (size_text n)) + length (own ++ (more ++ rest))
    lengths =
        let a = ap length whole in
        let b = length-append (desc ++ size_text n) (own ++ (more ++ rest)) in
        let c = length-append desc (size_text n) in
        omega (arith, a, b, c)

    few_desc : Few s.table desc
    few_desc = let a = lengths in let b = ap (λ (z : Table). length z) tb in omega (arith, few, a, b)

    at_m : node_at g m ≡ Some n
    at_m = ap (node_at g) (sym number_is) ∙ at

    cells_left : s.cells + ((length n.slots + 1) + cells_of_nodes (drop (suc m) g.nodes)) ≡ graph_cells g
    cells_left = ap (λ z. s.cells + z) (sym (cells_to_come g.nodes m n at_m)) ∙ ready.cells

    room : s.cells + (length n.slots + 1) ≤ 2 ^ 20
    room = let a = cells_left in let b = able.cells in omega (arith, a, b)

    new : NewIs P u.first (with_due s u.others) n mid desc
    new = new_slot u.first (with_due s u.others) n mid desc (ap is_reference u.kind_is ∙ r) (node_fits i n at) (node_sends i n at)
        (ap (is_assignable P n.kind) u.kind_is ∙ link_suits kind i n at (link_of P g kind (At i) r fit))
        (subst (λ z. Describes P false (Some n.kind) z desc mid) (sym tb) described) few_desc room

    abbrev next : State
    next = new_state u.first (with_due s u.others) n.kind mid new.ks

    next_table : next.table ≡ mid ++ Object i ∷ []
    unfolding opened
    next_table = ap (λ z. mid ++ Object z ∷ []) (sym number_is)

    abbrev now : Graph
    now = with_slot u.first.owner (At m) s.graph

    owners_now : OwnersIn m (u.first ∷ u.others)
    owners_now = subst (OwnersIn m) u.due_is ready.owners

    len : length now.nodes ≡ m
    len = with_length u.first.owner (At m) s.graph

    next_fills : Fills g next.graph next.due (items_of P n ++ (is ++ js))
    unfolding opened
    next_fills =
        let a : Fills g now u.others (is ++ js) = subst (λ z. Fills g (with_slot u.first.owner (At z) s.graph) u.others (is ++ js)) number_is u.fills in
        let b = with_next g a n (ap (node_at g) len ∙ at_m) (subst (λ z. OwnersIn z u.others) (sym len) owners_now.1) in
        let c = with_due_slots g new.ks n.slots now (record { kind = n.kind; slots = [] }) u.others (is ++ js) new.count b in
        let d = subst (λ z. Fills g (with_node now (record { kind = n.kind; slots = [] })) (slots_due z new.ks ++ u.others) (items new.ks n.slots ++ (is ++ js))) len c in
        subst (λ z. Fills g (with_node now (record { kind = n.kind; slots = [] })) (slots_due m new.ks ++ u.others) (z ++ (is ++ js))) (sym (items_are P n.kind new.ks n.slots new.count new.slots)) d

    own_fit : AllByRecursion (ItemFits P g) (items_of P n)
    own_fit = subst (AllByRecursion (ItemFits P g)) (sym (items_are P n.kind new.ks n.slots new.count new.slots))
        (items_fit P g new.ks n.slots (λ k x e. subst (λ o. IsSomeAnd o (λ kind. SlotFits P g kind x)) (new.slots.each k (let l = below_length n.slots k x e in let c = new.count in omega (arith, l, c))) ((node_fits i n at).slots k x e)))

    next_ready : Ready g next
    unfolding opened
    next_ready =
        let more_nodes = nodes_last now.nodes (record { kind = n.kind; slots = [] }) in
        let total_is : length (now.nodes ++ record { kind = n.kind; slots = [] } ∷ []) ≡ suc m = omega (arith, more_nodes, len) in
        let zero_first : 0 + m ≡ m = omega arith in
        let objects_mid : objects mid ≡ range_with_len 0 m = describes_objects P false described ∙ ap objects (sym tb) ∙ ready.objects_are in
        let c = cells_left in
        let k = new.count in
        record {
          objects_are = objects-append mid (Object m ∷ []) ∙ ap (λ z. z ++ m ∷ []) objects_mid ∙ ap (λ z. range_with_len 0 m ++ z ∷ []) (sym zero_first) ∙ sym (range_more 0 m) ∙ ap (range_with_len 0) (sym total_is);
          owners = subst (λ z. OwnersIn z (slots_due m new.ks ++ u.others)) (sym total_is) (owners_both (suc m) (slots_due m new.ks) u.others (owners_slots m (suc m) new.ks (omega arith)) (owners_more m (suc m) u.others (omega arith) owners_now.1));
          cells = ap (λ z. s.cells + (length new.ks + 1) + cells_of_nodes (drop z g.nodes)) total_is ∙ omega (arith, c, k);
        }

    few_own : 2 * length (mid ++ Object i ∷ []) + length (own ++ (more ++ rest)) < 2 ^ 32
    few_own =
        let a = lengths in
        let b = class_bound P false described in
        let c = length-append mid (Object i ∷ []) in
        omega (arith, few, a, b, c)

    led_own : Led next (place total (own ++ (more ++ rest))) (place total (more ++ rest)) last (is ++ js)
    led_own = rec_own.goes next (is ++ js) (more ++ rest) total next_table next_fills own_fit next_ready few_own

    led_rest : Led led_own.then_at (place total (more ++ rest)) (place total rest) after js
    led_rest = rec.goes led_own.then_at js rest total led_own.table_is led_own.fills fit_rest led_own.ready led_own.few

    led_new : Led s (place total (text ++ rest)) (place total rest) after js
    led_new = record {
      then_at = led_rest.then_at;
      same = ap (λ z. slots_at P s (place total z)) whole
          ∙ step_leads P s next u.first u.others (place total (front ++ (own ++ (more ++ rest)))) (place total (own ++ (more ++ rest))) u.due_is (new.gives.gives (own ++ (more ++ rest)) total) ∙ led_own.same ∙ led_rest.same;
      fills = led_rest.fills;
      table_is = led_rest.table_is;
      ready = led_rest.ready;
      few = led_rest.few;
    }

  pub spelled_goes : {is : List Item} {table after : Table} {text : List ℕ} → Spell P false g is table text after → Goes is table text after
  spelled_goes (over {table = table} {text = text} e) = goes_over table text e
  spelled_goes (plain {kind = kind} {s = x} {is = is} {table = table} {after = after} {text = text} {rest = more} own r n t rest) = goes_plain kind x is table after text own more r n t (spelled_goes rest)
  spelled_goes (null {kind = kind} {is = is} {table = table} {after = after} {text = text} {rest = more} r t rest) = goes_null kind is table after text more r t (spelled_goes rest)
  spelled_goes (again {kind = kind} {i = i} {is = is} {table = table} {after = after} {text = text} {rest = more} r h t rest) = goes_again kind i is table after text more r h t (spelled_goes rest)
  spelled_goes (anew {kind = kind} {i = i} {n = n} {is = is} {table = table} {mid = mid} {last = last} {after = after} {text = text} {desc = desc} {own = own} {rest = more} r h e at d t o rest) =
      goes_new (spelled_goes o) (spelled_goes rest)
    where
      goes_new : Goes (items_of P n) (mid ++ Object i ∷ []) own last → Goes is last more after → Goes ((kind, At i) ∷ is) table text after
      goes_new a b = record { goes = λ s js rest total tb f fit ready few. led_new kind i n is table mid last after text desc own more r e at d t a b s js rest total tb f fit.0 fit.1 ready few }
