-- A graph that a stream can spell has a canonical text.
use Rattle.std.proofs.Common.{◌≡◌, ℕ, zero, suc, ◌+◌, ◌<◌, ◌≤◌, Bool, true, false, List, [], ◌∷◌, ◌++◌, length, get_or, refl, sym, ap, subst, ◌∙◌, append_assoc, append-nil, length-append, arith}
use Rattle.std.specs.Prelude.{Option, Some, None, ℤ}
use Rattle.std.specs.Int.{w64}
use Rattle.std.specs.List.{range_with_len}
use Rattle.nr_linked.specs.declared.program.kind.Kind.{Kind}
use Rattle.nr_linked.specs.declared.program.tables.ProgramTables.{ProgramTables}
use Rattle.nr_linked.specs.Kinds.{is_reference}
use Rattle.nr_linked.specs.Linked.{Linked}
use Rattle.nr_linked.proofs.Elements.{get_below}
use Rattle.nr_graph.specs.declared.graph.Slot.TheVariants.{Int, Long, Null, Node as At}
use Rattle.nr_graph.specs.declared.graph.Graph.{Graph}
use Rattle.nr_graph.specs.Fitting.{IsSpellable}
use Rattle.nr_graph.specs.Graphs.{next_node}
use Rattle.nr_graph.specs.Walks.{is_met, Walk, over as walk_over, again as walk_again, first as walk_first}
use Rattle.nr_graph.proofs.Numbers.{length_range}
use Rattle.nr_graph.proofs.Walks.{prefix}
use Rattle.nr_serform.specs.Descriptions.{Describes, nothing, again as described_again, anew as described, described_super, own_table, own_text}
use Rattle.nr_serform.specs.Entries.{Class, Object}
use Rattle.nr_serform.specs.Handles.{Table, has, handle_text, objects}
use Rattle.nr_serform.specs.Spelling.{Item, Spell, over, plain, null, again, anew, items_of, number_width, signed_text, size_text, tag}
use Rattle.nr_serform.specs.Streams.{IsCanonical, header}
use Rattle.nr_serwrite.specs.Texts.{written_number}
use Rattle.nr_serwrite.specs.Working.{AllFit, item_nodes}
use Rattle.nr_serwrite.proofs.Described.{number_is}
use Rattle.nr_serwrite.proofs.Heights.{height, super_is_lower}
use Rattle.nr_serwrite.proofs.Items.{node_items_fit, node_items_nodes}
use Rattle.nr_serwrite.proofs.SlotSorts.{int_is, long_is, null_is, node_is}
use Rattle.nr_serwrite.proofs.Steps.{next_is, node_fits, objects_more}
use Rattle.nr_serwrite.proofs.Streams.{roots_next, spelled_whole}
use Rattle.nr_serwrite.proofs.Tables.{has_met}

-- ---- descriptions

record Described (P : ProgramTables) (o : Option Kind) (table : Table) : Type 0 where
  pub text : List ℕ
  pub after : Table
  pub described : Describes P true o table text after

abbrev none_described : (P : ProgramTables) (table : Table) → Described P None table
none_described P table = record { text = 0x70 ∷ []; after = table; described = nothing refl }

module _ (P : ProgramTables) (linked : Linked P) where
  described_by : (n : ℕ) (o : Option Kind) (table : Table) → height P o ≤ n → Described P o table
  described_by n None table l = none_described P table
  described_by zero (Some k) table l = absurd (omega arith)
  described_by (suc n) (Some k) table l = by (has table (Class k)) refl (described_by n (described_super P k) (own_table P table k))
    where
      by : (b : Bool) → has table (Class k) ≡ b → (height P (described_super P k) ≤ n → Described P (described_super P k) (own_table P table k)) → Described P (Some k) table
      by true h rest = record { text = handle_text table (Class k); after = table; described = described_again h refl }
      by false h rest =
          let lower = super_is_lower P linked k in
          let r = rest (omega (arith, lower)) in
          record { text = own_text P table k (written_number P k) ++ r.text; after = r.after; described = described (written_number P k) h (number_is P k) r.described refl }

  all_described : (k : Kind) (table : Table) → Described P (Some k) table
  all_described k table = described_by (height P (Some k)) (Some k) table (omega arith)

  -- ---- items

  module _ (g : Graph) (sp : IsSpellable P g) where
    -- a text of the items, behind which these objects have a handle
    record Spelled (is : List Item) (table : Table) (out : List ℕ) : Type 0 where
      pub text : List ℕ
      pub after : Table
      pub spelled : Spell P true g is table text after
      pub objects : objects after ≡ out

    with_int : (kind : Kind) (n : ℤ) (is : List Item) (table : Table) (out : List ℕ) → is_reference kind ≡ false → Spelled is table out → Spelled ((kind, Int n) ∷ is) table out
    with_int kind n is table out r s = record {
      text = signed_text (number_width kind.base) n ++ s.text;
      after = s.after;
      spelled = plain (signed_text (number_width kind.base) n) r refl refl s.spelled;
      objects = s.objects;
    }

    with_long : (kind : Kind) (n : ℤ) (is : List Item) (table : Table) (out : List ℕ) → is_reference kind ≡ false → Spelled is table out → Spelled ((kind, Long n) ∷ is) table out
    with_long kind n is table out r s = record {
      text = signed_text w64 n ++ s.text;
      after = s.after;
      spelled = plain (signed_text w64 n) r refl refl s.spelled;
      objects = s.objects;
    }

    with_null : (kind : Kind) (is : List Item) (table : Table) (out : List ℕ) → is_reference kind ≡ true → Spelled is table out → Spelled ((kind, Null) ∷ is) table out
    with_null kind is table out r s = record { text = 0x70 ∷ s.text; after = s.after; spelled = null r refl s.spelled; objects = s.objects }

    -- items without nodes
    without_nodes : (is : List Item) (table : Table) → item_nodes is ≡ [] → AllFit P g is → Spelled is table (objects table)
    without_nodes [] table e f = record { text = []; after = table; spelled = over refl; objects = refl }
    without_nodes ((kind, Int n) ∷ is) table e f = with_int kind n is table (objects table) (int_is P g kind n f.0).0 (without_nodes is table e f.1)
    without_nodes ((kind, Long n) ∷ is) table e f = with_long kind n is table (objects table) (long_is P g kind n f.0).0 (without_nodes is table e f.1)
    without_nodes ((kind, Null) ∷ is) table e f = with_null kind is table (objects table) (null_is P g kind f.0) (without_nodes is table e f.1)
    without_nodes ((kind, At i) ∷ is) table e f = absurd (some_node e)
      where
        some_node : ◌≡◌ {A = List ℕ} (i ∷ item_nodes is) [] → ⊥
        some_node e = cc

    -- items up to their first node
    up_to_node : (is : List Item) (table : Table) (out xs : List ℕ) (x : ℕ) → item_nodes is ≡ x ∷ xs → AllFit P g is
        → ((kind : Kind) (rest : List Item) → item_nodes rest ≡ xs → AllFit P g rest → is_reference kind ≡ true → Spelled ((kind, At x) ∷ rest) table out) → Spelled is table out
    up_to_node [] table out xs x e f go = absurd (no_node e)
      where
        no_node : ◌≡◌ {A = List ℕ} [] (x ∷ xs) → ⊥
        no_node e = cc
    up_to_node ((kind, Int n) ∷ is) table out xs x e f go = with_int kind n is table out (int_is P g kind n f.0).0 (up_to_node is table out xs x e f.1 go)
    up_to_node ((kind, Long n) ∷ is) table out xs x e f go = with_long kind n is table out (long_is P g kind n f.0).0 (up_to_node is table out xs x e f.1 go)
    up_to_node ((kind, Null) ∷ is) table out xs x e f go = with_null kind is table out (null_is P g kind f.0) (up_to_node is table out xs x e f.1 go)
    up_to_node ((kind, At i) ∷ is) table out xs x e f go = subst (λ y. Spelled ((kind, At y) ∷ is) table out) (sym (first e)) (go kind is (others e) f.1 (node_is P g kind i f.0))
      where
        first : ◌≡◌ {A = List ℕ} (i ∷ item_nodes is) (x ∷ xs) → i ≡ x
        first e = cc

        others : ◌≡◌ {A = List ℕ} (i ∷ item_nodes is) (x ∷ xs) → item_nodes is ≡ xs
        others e = cc

    -- these are the first of the numbers of the nodes
    record IsFront (out : List ℕ) : Type 0 where
      pub more : List ℕ
      pub whole : out ++ more ≡ range_with_len 0 (length g.nodes)

    before : {xs seen out : List ℕ} → Walk (next_node g) xs seen out → IsFront out → IsFront seen
    before {seen = seen} w f =
        let p = prefix (next_node g) w in
        record { more = p.0 ++ f.more; whole = sym (append_assoc seen p.0 f.more) ∙ ap (λ z. z ++ f.more) (sym p.1) ∙ f.whole }

    at_range : (a n k : ℕ) → k < n → get_or (range_with_len a n) k 0 ≡ a + k
    at_range a zero k l = absurd (omega arith)
    at_range a (suc n) zero l = omega arith
    at_range a (suc n) (suc k) l = let e = at_range (a + 1) n k (omega arith) in omega (arith, e)

    get_after : (xs : List ℕ) (x : ℕ) (ys : List ℕ) → get_or (xs ++ x ∷ ys) (length xs) 0 ≡ x
    get_after [] x ys = refl
    get_after (y ∷ xs) x ys = get_after xs x ys

    -- the last of them is their number
    last_number : (seen : List ℕ) (x : ℕ) → IsFront (seen ++ x ∷ []) → (x ≡ length seen) × (x < length g.nodes)
    last_number seen x f =
        let n = length g.nodes in
        let is : seen ++ (x ∷ f.more) ≡ range_with_len 0 n = sym (append_assoc seen (x ∷ []) f.more) ∙ f.whole in
        let len : length seen + suc (length f.more) ≡ n = sym (length-append seen (x ∷ f.more)) ∙ ap length is ∙ length_range 0 n in
        let e : get_or (range_with_len 0 n) (length seen) 0 ≡ x = ap (λ xs. get_or xs (length seen) 0) (sym is) ∙ get_after seen x f.more in
        let at = at_range 0 n (length seen) (omega (arith, len)) in
        let same : x ≡ length seen = omega (arith, e, at) in
        (same, omega (arith, same, len))

    spelled_along : {xs seen out : List ℕ} → Walk (next_node g) xs seen out → IsFront out → (is : List Item) (table : Table) → item_nodes is ≡ xs → AllFit P g is → objects table ≡ seen → Spelled is table out
    spelled_along (walk_over {seen = seen}) front is table e f t = subst (Spelled is table) t (without_nodes is table e f)
    spelled_along (walk_again {x = x} {xs = xs} {out = out} m w) front is table e f t = up_to_node is table out xs x e f (λ kind rest e' f' r.
        let s = spelled_along w front rest table e' f' t in
        let h : has table (Object x) ≡ true = has_met table x ∙ ap (λ z. is_met z x) t ∙ m in
        record { text = handle_text table (Object x) ++ s.text; after = s.after; spelled = again r h refl s.spelled; objects = s.objects })
    spelled_along (walk_first {x = x} {xs = xs} {seen = seen} {mid = mid} {out = out} m inner w) front is table e f t = up_to_node is table out xs x e f (λ kind rest e' f' r.
        let h : has table (Object x) ≡ false = has_met table x ∙ ap (λ z. is_met z x) t ∙ m in
        let front_mid = before w front in
        let number = last_number seen x (before inner front_mid) in
        let got = get_below g.nodes x number.1 in
        let n = got.0 in
        let nd = got.1 in
        let d = all_described n.kind table in
        let fits = node_fits P g x n sp nd in
        let nodes = node_items_nodes P g n fits ∙ sym (next_is P g x n nd) in
        let o = spelled_along inner front_mid (items_of P n) (d.after ++ Object x ∷ []) nodes (node_items_fit P g n fits) (objects_more P g x n table d.after d.text d.described ∙ ap (λ z. z ++ x ∷ []) t) in
        let s = spelled_along w front rest o.after e' f' o.objects in
        record {
          text = tag n.kind ∷ (d.text ++ size_text n ++ o.text ++ s.text);
          after = s.after;
          spelled = anew r h (number.0 ∙ ap length (sym t)) nd d.described refl o.spelled s.spelled;
          objects = s.objects;
        })

    pub some_canonical : (text : List ℕ) × IsCanonical P text g
    some_canonical =
        let next = roots_next P g sp in
        let s = spelled_along next.order (record { more = []; whole = append-nil _ }) _ [] refl next.fit refl in
        (header ++ s.text, spelled_whole P g sp s.text s.after s.spelled s.objects)
