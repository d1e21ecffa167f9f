-- The steps of the writer.
use Rattle.std.proofs.Common.{◌≡◌, ℕ, zero, suc, ◌+◌, ◌<◌, ◌≤◌, ◌^◌, true, false, List, [], ◌∷◌, ◌++◌, length, drop, refl, sym, ap, subst, ◌∙◌, append_assoc, append-nil, length-append, Some, arith}
use Rattle.std.specs.Prelude.{ℤ, slice_get}
use Rattle.std.specs.Int.{w64}
use Rattle.std.specs.List.{AllByRecursion, range_with_len}
use Rattle.std.specs.Option.{option_map_or}
use Rattle.nr_linked.specs.declared.program.kind.Kind.{Kind}
use Rattle.nr_linked.specs.declared.program.tables.ProgramTables.{ProgramTables}
use Rattle.nr_linked.specs.Kinds.{is_reference}
use Rattle.nr_model.proofs.Paths.{none_some, some_eq}
use Rattle.nr_graph.specs.declared.graph.Slot.TheVariants.{Int, Long, Null, Node as At}
use Rattle.nr_graph.specs.declared.graph.Node.{Node}
use Rattle.nr_graph.specs.declared.graph.Graph.{Graph}
use Rattle.nr_graph.specs.Fitting.{NodeFits, IsSpellable}
use Rattle.nr_graph.specs.Graphs.{cells_of_nodes, next_node, node_at, nodes_in}
use Rattle.nr_graph.specs.Walks.{is_met, Walk}
use Rattle.nr_graph.proofs.Numbers.{next_number}
use Rattle.nr_graph.proofs.Walks.{at_first, at_again}
use Rattle.nr_serform.specs.Descriptions.{Describes}
use Rattle.nr_serform.specs.Entries.{Object}
use Rattle.nr_serform.specs.Handles.{Table, has, handle_text, objects}
use Rattle.nr_serform.specs.Spelling.{Item, Spell, plain, null, again, items_of, number_width, signed_text, size_text, tag}
use Rattle.nr_serwrite.specs.Working.{AreNext, IsNext, Step, item_nodes, steps_left}
use Rattle.nr_serwrite.proofs.Items.{fit_both, node_items_fit, node_items_long, node_items_nodes, nodes_both}
use Rattle.nr_serwrite.proofs.SlotSorts.{int_is, long_is, null_is}
use Rattle.nr_serwrite.proofs.Spells.{open_new}
use Rattle.nr_serwrite.proofs.Tables.{has_met, objects-append, objects_described}

pub at_place : {A : Type 0} (Q : A → Type 0) (xs : List A) (i : ℕ) (x : A) → AllByRecursion Q xs → slice_get xs i ≡ Some x → Q x
at_place Q [] i x a e = absurd (none_some e)
at_place Q (y ∷ ys) zero x a e = subst Q (some_eq e) a.0
at_place Q (y ∷ ys) (suc i) x a e = at_place Q ys i x a.1 e

module _ (P : ProgramTables) (g : Graph) where
  -- ---- none, and two

  pub step_none : (is : List Item) (table : Table) (out : List ℕ) → AreNext P g is table → Step P g is table out is table out
  step_none is table out a = record { text = []; written = sym (append-nil out); spells = λ rest after s. s; next = a }

  pub step_then : (is is' is'' : List Item) (t t' t'' : Table) (o o' o'' : List ℕ) → Step P g is t o is' t' o' → Step P g is' t' o' is'' t'' o'' → Step P g is t o is'' t'' o''
  step_then is is' is'' t t' t'' o o' o'' a b = record {
    text = a.text ++ b.text;
    written = b.written ∙ ap (λ z. z ++ b.text) a.written ∙ append_assoc o a.text b.text;
    spells = λ rest after s.
        let more = a.spells (b.text ++ rest) after (b.spells rest after s) in
        subst (λ z. Spell P true g is t z after) (sym (append_assoc a.text b.text rest)) more;
    next = b.next;
  }

  -- ---- numbers and null

  pub step_int : (kind : Kind) (n : ℤ) (is : List Item) (table : Table) (out out' : List ℕ) → AreNext P g ((kind, Int n) ∷ is) table → out' ≡ out ++ signed_text (number_width kind.base) n
      → Step P g ((kind, Int n) ∷ is) table out is table out'
  step_int kind n is table out out' a w = record {
    text = signed_text (number_width kind.base) n;
    written = w;
    spells = λ rest after s. plain (signed_text (number_width kind.base) n) (int_is P g kind n a.fit.0).0 refl refl s;
    next = record { fit = a.fit.1; order = a.order };
  }

  pub step_long : (kind : Kind) (n : ℤ) (is : List Item) (table : Table) (out out' : List ℕ) → AreNext P g ((kind, Long n) ∷ is) table → out' ≡ out ++ signed_text w64 n
      → Step P g ((kind, Long n) ∷ is) table out is table out'
  step_long kind n is table out out' a w = record {
    text = signed_text w64 n;
    written = w;
    spells = λ rest after s. plain (signed_text w64 n) (long_is P g kind n a.fit.0).0 refl refl s;
    next = record { fit = a.fit.1; order = a.order };
  }

  pub step_null : (kind : Kind) (is : List Item) (table : Table) (out out' : List ℕ) → AreNext P g ((kind, Null) ∷ is) table → out' ≡ out ++ 0x70 ∷ []
      → Step P g ((kind, Null) ∷ is) table out is table out'
  step_null kind is table out out' a w = record {
    text = 0x70 ∷ [];
    written = w;
    spells = λ rest after s. null (null_is P g kind a.fit.0) refl s;
    next = record { fit = a.fit.1; order = a.order };
  }

  -- ---- nodes

  pub step_again : (kind : Kind) (i : ℕ) (is : List Item) (table : Table) (out out' : List ℕ) → is_reference kind ≡ true → IsNext P g i is table → has table (Object i) ≡ true
      → out' ≡ out ++ handle_text table (Object i) → Step P g ((kind, At i) ∷ is) table out is table out'
  step_again kind i is table out out' r a h w = record {
    text = handle_text table (Object i);
    written = w;
    spells = λ rest after s. again r h refl s;
    next = record { fit = a.fit; order = at_again (next_node g) a.order (sym (has_met table i) ∙ h) };
  }

  pub is_new : (i : ℕ) (is : List Item) (table : Table) → IsNext P g i is table → has table (Object i) ≡ false → (i ≡ length (objects table)) × (i < length g.nodes)
  is_new i is table a h = next_number (next_node g) i (length g.nodes) (item_nodes is) (objects table) a.order (sym (has_met table i) ∙ h)

  pub next_is : (i : ℕ) (n : Node) → node_at g i ≡ Some n → next_node g i ≡ nodes_in n.slots
  unfolding next_node
  next_is i n e = ap (λ o. nodes_in (option_map_or (λ n. n.slots) o [])) e

  pub node_fits : (i : ℕ) (n : Node) → IsSpellable P g → node_at g i ≡ Some n → NodeFits P g n
  node_fits i n sp e = at_place (NodeFits P g) g.nodes i n sp.fits.nodes e

  pub objects_more : (i : ℕ) (n : Node) (table mid : Table) (desc : List ℕ) → Describes P true (Some n.kind) table desc mid → objects (mid ++ Object i ∷ []) ≡ objects table ++ i ∷ []
  objects_more i n table mid desc d = objects-append mid (Object i ∷ []) ∙ ap (λ z. z ++ i ∷ []) (objects_described P true d)

  pub still_new : (i : ℕ) (n : Node) (table mid : Table) (desc : List ℕ) → Describes P true (Some n.kind) table desc mid → has table (Object i) ≡ false → has mid (Object i) ≡ false
  still_new i n table mid desc d h = has_met mid i ∙ ap (λ z. is_met z i) (objects_described P true d) ∙ sym (has_met table i) ∙ h

  pub step_new : (kind : Kind) (i : ℕ) (n : Node) (is left : List Item) (table mid table' : Table) (out out' desc : List ℕ) → is_reference kind ≡ true → IsSpellable P g → IsNext P g i is table
      → has table (Object i) ≡ false → node_at g i ≡ Some n → Describes P true (Some n.kind) table desc mid → table' ≡ mid ++ Object i ∷ [] → left ≡ items_of P n ++ is
      → out' ≡ out ++ (tag n.kind ∷ (desc ++ size_text n)) → Step P g ((kind, At i) ∷ is) table out left table' out'
  step_new kind i n is left table mid table' out out' desc r sp a h nd d et el w =
      let fits = node_fits i n sp nd in
      let number = is_new i is table a h in
      let m : is_met (objects table) i ≡ false = sym (has_met table i) ∙ h in
      let nodes : item_nodes (items_of P n ++ is) ≡ next_node g i ++ item_nodes is =
      nodes_both (items_of P n) is ∙ ap (λ z. z ++ item_nodes is) (node_items_nodes P g n fits ∙ sym (next_is i n nd)) in
      let end = range_with_len 0 (length g.nodes) in
      let order : Walk (next_node g) (item_nodes (items_of P n ++ is)) (objects (mid ++ Object i ∷ [])) end =
      subst (λ z. Walk (next_node g) z (objects (mid ++ Object i ∷ [])) end) (sym nodes)
      (subst (λ z. Walk (next_node g) (next_node g i ++ item_nodes is) z end) (sym (objects_more i n table mid desc d)) (at_first (next_node g) a.order m)) in
      let made : Step P g ((kind, At i) ∷ is) table out (items_of P n ++ is) (mid ++ Object i ∷ []) out' = record {
        text = tag n.kind ∷ (desc ++ size_text n);
        written = w;
        spells = λ rest after s. open_new P true g kind i n is table mid after desc rest r h number.0 nd d s;
        next = record { fit = fit_both P g (items_of P n) is (node_items_fit P g n fits) a.fit; order = order };
      } in
      subst (λ z. Step P g ((kind, At i) ∷ is) table out z table' out') (sym el) (subst (λ z. Step P g ((kind, At i) ∷ is) table out (items_of P n ++ is) z out') (sym et) made)

  -- ---- how many are left

  cells_here : (ns : List Node) (i : ℕ) (n : Node) → slice_get ns i ≡ Some n → cells_of_nodes (drop i ns) ≡ (length n.slots + 1) + cells_of_nodes (drop (suc i) ns)
  cells_here [] i n e = absurd (none_some e)
  cells_here (m ∷ ns) zero n e = ap (λ (m : Node). (length m.slots + 1) + cells_of_nodes ns) (some_eq e)
  cells_here (m ∷ ns) (suc i) n e = cells_here ns i n e

  pub fewer_new : (i c c' : ℕ) (n : Node) (is left : List Item) (table mid table' : Table) (desc : List ℕ) → IsSpellable P g → IsNext P g i is table → has table (Object i) ≡ false
      → node_at g i ≡ Some n → Describes P true (Some n.kind) table desc mid → table' ≡ mid ++ Object i ∷ [] → left ≡ items_of P n ++ is → c' ≡ c + 1
      → steps_left g c' left table' ≤ steps_left g c is table
  fewer_new i c c' n is left table mid table' desc sp a h nd d et el ec =
      let number = is_new i is table a h in
      let more : length (objects table') ≡ suc i =
      ap (λ z. length (objects z)) et ∙ ap length (objects_more i n table mid desc d) ∙ length-append (objects table) (i ∷ []) ∙ (let e = number.0 in omega (arith, e)) in
      let cells = cells_here g.nodes i n nd in
      let before : cells_of_nodes (drop (length (objects table)) g.nodes) ≡ cells_of_nodes (drop i g.nodes) = ap (λ k. cells_of_nodes (drop k g.nodes)) (sym number.0) in
      let after : cells_of_nodes (drop (length (objects table')) g.nodes) ≡ cells_of_nodes (drop (suc i) g.nodes) = ap (λ k. cells_of_nodes (drop k g.nodes)) more in
      let long : length left ≡ length n.slots + length is = ap length el ∙ length-append (items_of P n) is ∙ ap (λ k. k + length is) (node_items_long P g n (node_fits i n sp nd)) in
      omega (arith, cells, before, after, long, ec)

  slots_within : (ns : List Node) (i : ℕ) (n : Node) → slice_get ns i ≡ Some n → length n.slots < cells_of_nodes ns
  slots_within [] i n e = absurd (none_some e)
  slots_within (m ∷ ns) zero n e =
      let same : length m.slots ≡ length n.slots = ap (λ (m : Node). length m.slots) (some_eq e) in
      omega (arith, same)
  slots_within (m ∷ ns) (suc i) n e = let r = slots_within ns i n e in omega (arith, r)

  pub few_slots : (i : ℕ) (n : Node) → IsSpellable P g → node_at g i ≡ Some n → length n.slots < 2 ^ 32
  few_slots i n sp e = let r = slots_within g.nodes i n e in let c = sp.cells in omega (arith, r, c)
