-- Slots that are read until none is due: what was used up spells what was due.
use Rattle.std.proofs.Common.{◌≡◌, ℕ, zero, suc, ◌+◌, ◌<◌, ◌≤◌, ◌^◌, Bool, true, false, not, ◌&&◌, List, [], ◌∷◌, ◌++◌, length, Option, Some, None, is_some, Result, Ok, refl, sym, ap, subst, ◌∙◌, ◌⊎◌, inl, inr, append_assoc, length-append, if◌then◌else◌, true≢false, arith}
use Rattle.std.specs.Prelude.{T, IsSomeAnd, slice_get, slice_set}
use Rattle.std.specs.Int.{w32, to_be_bytes}
use Rattle.std.specs.List.{AllByRecursion, range_with_len}
use Rattle.std.specs.Option.{option_map, option_map_or}
use Rattle.std.proofs.lemmas.Bool.{cases_eq}
use Rattle.nr_base.specs.Grammar.{IsBytes}
use Rattle.nr_base.specs.Place.{Place}
use Rattle.nr_base.specs.Reader.{after}
use Rattle.nr_base.proofs.Laws.{bind_ok, ok_is}
use Rattle.nr_linked.specs.declared.program.kind.Kind.{Kind}
use Rattle.nr_linked.specs.declared.program.tables.ProgramTables.{ProgramTables}
use Rattle.nr_linked.specs.Facts.{ProgramFacts}
use Rattle.nr_linked.specs.Kinds.{is_array, is_reference}
use Rattle.nr_linked.specs.Sendable.{is_sendable}
use Rattle.nr_linked.specs.Subtypes.{is_assignable}
use Rattle.nr_model.specs.TypedHeaps.{Counts}
use Rattle.nr_model.proofs.Paths.{none_some, some_eq}
use Rattle.nr_graph.specs.declared.graph.Slot.{Slot}
use Rattle.nr_graph.specs.declared.graph.Slot.TheVariants.{Null, Node as At}
use Rattle.nr_graph.specs.declared.graph.Node.{Node}
use Rattle.nr_graph.specs.declared.graph.Graph.{Graph}
use Rattle.nr_graph.specs.Fitting.{IsLink, IsNumber, NodeFits, SlotFits}
use Rattle.nr_graph.specs.Graphs.{cells_of_nodes, node_at}
use Rattle.nr_serform.specs.Entries.{Object}
use Rattle.nr_serform.specs.Handles.{Table, handle_text, has, objects}
use Rattle.nr_serform.specs.Spelling.{Item, Spell, over, plain, null, again, anew, items_of, size_text, tag}
use Rattle.nr_serread.specs.declared.due.Due.{Due}
use Rattle.nr_serread.specs.declared.fault.StreamFault.{StreamFault}
use Rattle.nr_serread.specs.Describing.{is_of_sort}
use Rattle.nr_serread.specs.Reading.{State, is_done, kept, next_at, opened, slot_at, slots_due, until_done, with_slot}
use Rattle.nr_serread.proofs.Below.{none_yet}
use Rattle.nr_serread.proofs.Taking.{slot_takes}
use Rattle.nr_serread.proofs.Turns.{turn_done, turn_on}
use Rattle.nr_serlaws.proofs.Tables.{Keeps, keeps_more, objects-append}
use Rattle.nr_serlaws.proofs.Names.{Known}
use Rattle.nr_serlaws.proofs.Numbers.{IsRead}
use Rattle.nr_serlaws.proofs.SlotKinds.{AreSlots, items_are}
use Rattle.nr_serlaws.proofs.Filling.{Fills, fill, filled, OwnersIn, Dropped, Parted, drop_node, part, items, kind_kept, with_kind, with_length, with_node}
use Rattle.nr_serlaws.proofs.Splits.{Parts, split}
use Rattle.nr_serlaws.proofs.Steps.{IsNew, IsStep, step_number, step_null, step_old, step_new, size_of, slot_finds}

-- ---- what belongs to slots

abbrev pub LinkOrNumber : ProgramTables → Graph → Kind → Slot → Bool → Type 0
LinkOrNumber P g kind s true = IsLink P g kind s
LinkOrNumber P g kind s false = IsNumber kind.base s

link_fits : (P : ProgramTables) (g : Graph) (kind : Kind) (s : Slot) → is_reference kind ≡ true → IsLink P g kind s → SlotFits P g kind s
link_fits P g kind s r h = subst (λ b. LinkOrNumber P g kind s b) (sym r) h

number_fits : (P : ProgramTables) (g : Graph) (kind : Kind) (s : Slot) → is_reference kind ≡ false → IsNumber kind.base s → SlotFits P g kind s
number_fits P g kind s r h = subst (λ b. LinkOrNumber P g kind s b) (sym r) h

abbrev pub ItemFits : ProgramTables → Graph → Item → Type 0
ItemFits P g a = SlotFits P g a.0 a.1

pub true_is : (b : Bool) → b ≡ true → T b
true_is true e = tt
true_is false e = absurd (true≢false (sym e))

link_is : (P : ProgramTables) (g : Graph) (kind : Kind) (i : ℕ) (n : Node) → node_at g i ≡ Some n → is_assignable P n.kind kind ≡ true → IsLink P g kind (At i)
link_is P g kind i n e a = subst (λ (o : Option Node). IsSomeAnd (option_map (λ n. n.kind) o) (λ k. T (is_assignable P k kind))) (sym e) (true_is (is_assignable P n.kind kind) a)

-- a node that fits, and that a call carries
pub record NodeIs (P : ProgramTables) (g : Graph) (n : Node) : Type 0 where
  pub fits : NodeFits P g n
  pub sendable : T (is_sendable P n.kind)

item_at : (P : ProgramTables) (g : Graph) (ks : List Kind) (ss : List Slot) → length ss ≡ length ks → AllByRecursion (ItemFits P g) (items ks ss) → (k : ℕ) (s : Slot) → slice_get ss k ≡ Some s → IsSomeAnd (slice_get ks k) (λ kind. SlotFits P g kind s)
item_at P g [] [] l a k s e = absurd (none_some e)
item_at P g [] (x ∷ ss) l a k s e = absurd (omega arith)
item_at P g (q ∷ ks) [] l a k s e = absurd (none_some e)
item_at P g (q ∷ ks) (x ∷ ss) l a zero s e = subst (λ z. SlotFits P g q z) (some_eq e) a.0
item_at P g (q ∷ ks) (x ∷ ss) l a (suc k) s e = item_at P g ks ss (omega arith) a.1 k s e

pub below_length : {X : Type 0} (xs : List X) (k : ℕ) (x : X) → slice_get xs k ≡ Some x → k < length xs
below_length [] k x e = absurd (none_some e)
below_length (y ∷ xs) zero x e = omega arith
below_length (y ∷ xs) (suc k) x e = let r = below_length xs k x e in omega (arith, r)

all_parts : {X : Type 0} (Q : X → Type 0) (xs ys : List X) → AllByRecursion Q (xs ++ ys) → AllByRecursion Q xs × AllByRecursion Q ys
all_parts Q [] ys a = (tt, a)
all_parts Q (x ∷ xs) ys a = let r = all_parts Q xs ys a.1 in ((a.0, r.0), r.1)

all_joined : {X : Type 0} (Q : X → Type 0) (xs ys : List X) → AllByRecursion Q xs → AllByRecursion Q ys → AllByRecursion Q (xs ++ ys)
all_joined Q [] ys a b = b
all_joined Q (x ∷ xs) ys a b = (a.0, all_joined Q xs ys a.1 b)

node_is : (P : ProgramTables) (g : Graph) (kind : Kind) (ks : List Kind) (ss : List Slot) → length ss ≡ length ks → AreSlots P kind ks → Known P kind → is_sendable P kind ≡ true
    → AllByRecursion (ItemFits P g) (items ks ss) → NodeIs P g (record { kind = kind; slots = ss })
node_is P g kind ks ss l slots known send a = record {
  fits = record {
    dims = known.few;
    count = subst (Counts P kind) (sym l) slots.counts;
    slots = λ k s e. subst (λ o. IsSomeAnd o (λ kind. SlotFits P g kind s)) (sym (slots.each k (omega (arith, l, below_length ss k s e)))) (item_at P g ks ss l a k s e);
  };
  sendable = true_is (is_sendable P kind) send;
}

-- ---- the numbers of nodes

pub range_below : (a n m : ℕ) → a + n ≤ m → AllByRecursion (λ i. i < m) (range_with_len a n)
range_below a zero m l = tt
range_below a (suc n) m l = (omega arith, range_below (a + 1) n m (omega arith))

pub range_more : (a n : ℕ) → range_with_len a (suc n) ≡ range_with_len a n ++ (a + n) ∷ []
range_more a zero = ap (λ x. x ∷ []) (omega arith)
range_more a (suc n) = ap (λ x. a ∷ x) (range_more (a + 1) n ∙ ap (λ x. range_with_len (a + 1) n ++ x ∷ []) (omega arith))

pub range_length : (a n : ℕ) → length (range_with_len a n) ≡ n
range_length a zero = refl
range_length a (suc n) = ap suc (range_length (a + 1) n)

-- ---- cells

abbrev one_if : Bool → ℕ
one_if true = 1
one_if false = 0

-- how many slots of nodes are due
abbrev pub owned : List Due → ℕ
owned [] = 0
owned (d ∷ ds) = one_if (is_some d.owner) + owned ds

owned_both : (ds es : List Due) → owned (ds ++ es) ≡ owned ds + owned es
owned_both [] es = omega arith
owned_both (d ∷ ds) es = let r = owned_both ds es in omega (arith, r)

owned_slots : (i : ℕ) (ks : List Kind) → owned (slots_due i ks) ≡ length ks
owned_slots i [] = refl
owned_slots i (k ∷ ks) = let r = owned_slots i ks in omega (arith, r)

cells_set : (ns : List Node) (i : ℕ) (n : Node) (s : Slot) → slice_get ns i ≡ Some n → cells_of_nodes (slice_set ns i (with_kind n s)) ≡ cells_of_nodes ns + 1
cells_set [] i n s e = absurd (none_some e)
cells_set (m ∷ ns) zero n s e =
    let l = length-append n.slots (s ∷ []) in
    let same = ap (λ (z : Node). length z.slots) (some_eq e) in
    omega (arith, l, same)
cells_set (m ∷ ns) (suc i) n s e = let r = cells_set ns i n s e in omega (arith, r)

pub there : (ns : List Node) (i : ℕ) → i < length ns → (n : Node) × (slice_get ns i ≡ Some n)
there [] i l = absurd (omega arith)
there (n ∷ ns) zero l = (n, refl)
there (n ∷ ns) (suc i) l = there ns i (omega arith)

cells_with : (o : Option ℕ) (x : Slot) (g : Graph) → ((i : ℕ) → o ≡ Some i → i < length g.nodes) → cells_of_nodes (with_slot o x g).nodes ≡ cells_of_nodes g.nodes + one_if (is_some o)
cells_with None x g l = omega arith
cells_with (Some i) x g l =
    let t = there g.nodes i (l i refl) in
    ap (λ o. cells_of_nodes (option_map_or (λ n. slice_set g.nodes i (with_kind n x)) o g.nodes)) t.1 ∙ cells_set g.nodes i t.0 x t.1

cells_last : (ns : List Node) (kind : Kind) → cells_of_nodes (ns ++ record { kind = kind; slots = [] } ∷ []) ≡ cells_of_nodes ns + 1
cells_last [] kind = refl
cells_last (n ∷ ns) kind = let r = cells_last ns kind in omega (arith, r)

pub nodes_last : (ns : List Node) (n : Node) → length (ns ++ n ∷ []) ≡ length ns + 1
nodes_last ns n = length-append ns (n ∷ [])

-- ---- what stands all the time

pub record Stands (P : ProgramTables) (s : State) : Type 0 where
  pub keeps : Keeps (Known P) s.table
  pub objects_are : objects s.table ≡ range_with_len 0 (length s.graph.nodes)
  pub owners : OwnersIn (length s.graph.nodes) s.due
  pub counted : cells_of_nodes s.graph.nodes + owned s.due ≡ s.cells
  pub few : s.cells ≤ 2 ^ 20

-- the state in which this slot is due first
abbrev pub due_first : Due → State → State
due_first d s = record { graph = s.graph; table = s.table; cells = s.cells; due = d ∷ s.due }

-- the state in which just these are due
abbrev pub with_due : State → List Due → State
with_due s ds = record { graph = s.graph; table = s.table; cells = s.cells; due = ds }

-- what is due, as the graph has it, has this text, and each node that is still to come fits
pub record Spelled (P : ProgramTables) (g : Graph) (s : State) (after : Table) (text : List ℕ) : Type 0 where
  pub is : List Item
  pub fills : Fills g s.graph s.due is
  pub spelled : Spell P false g is s.table text after
  pub fit : AllByRecursion (ItemFits P g) is
  pub news : (i : ℕ) (n : Node) → length s.graph.nodes ≤ i → node_at g i ≡ Some n → NodeIs P g n

pub owners_more : (n m : ℕ) (ds : List Due) → n ≤ m → OwnersIn n ds → OwnersIn m ds
owners_more n m [] l o = tt
owners_more n m (d ∷ ds) l o = ((λ i e. let r = o.0 i e in omega (arith, r)), owners_more n m ds l o.1)

pub owners_slots : (i m : ℕ) (ks : List Kind) → i < m → OwnersIn m (slots_due i ks)
owners_slots i m [] l = tt
owners_slots i m (k ∷ ks) l = ((λ j e. let s = some_eq e in omega (arith, s)), owners_slots i m ks l)

pub owners_both : (n : ℕ) (ds es : List Due) → OwnersIn n ds → OwnersIn n es → OwnersIn n (ds ++ es)
owners_both n [] es a b = b
owners_both n (d ∷ ds) es a b = (a.0, owners_both n ds es a.1 b)

-- a node that isn't there yet has no handle
pub none_there : (t u : Table) (n : ℕ) → objects u ≡ objects t → objects t ≡ range_with_len 0 n → has u (Object n) ≡ false
none_there t u n same e = none_yet n u (subst (λ xs. AllByRecursion (λ i. i < n) xs) (sym (same ∙ e)) (range_below 0 n n (omega arith)))

module _ (P : ProgramTables) (facts : ProgramFacts P) where
  -- ---- a step keeps what stands

  kept_stands : (d : Due) (x : Slot) (s : State) → Stands P (due_first d s) → Stands P (kept d x s)
  unfolding kept
  kept_stands d x s h =
      let len = with_length d.owner x s.graph in
      let c = cells_with d.owner x s.graph h.owners.0 in
      let counted = h.counted in
      record {
        keeps = h.keeps;
        objects_are = h.objects_are ∙ ap (range_with_len 0) (sym len);
        owners = subst (λ n. OwnersIn n s.due) (sym len) h.owners.1;
        counted = omega (arith, c, counted);
        few = h.few;
      }

  opened_stands : (d : Due) (s t : State) (front : List ℕ) → Stands P (due_first d s) → IsNew P facts d s t front → Stands P t
  unfolding opened
  opened_stands d s t front h n =
      let i = length s.graph.nodes in
      let now = with_slot d.owner (At i) s.graph in
      let len : length now.nodes ≡ i = with_length d.owner (At i) s.graph in
      let c = cells_with d.owner (At i) s.graph h.owners.0 in
      let last = cells_last now.nodes n.kind in
      let more = nodes_last now.nodes (record { kind = n.kind; slots = [] }) in
      let due = owned_both (slots_due i n.ks) s.due in
      let own = owned_slots i n.ks in
      let counted = h.counted in
      let room = n.room in
      let total : length (now.nodes ++ record { kind = n.kind; slots = [] } ∷ []) ≡ suc i = omega (arith, more, len) in
      let zero_first : 0 + i ≡ i = omega arith in
      subst (Stands P) (sym n.then_is) (record {
        keeps = keeps_more (Known P) n.table (Object i) n.described.so.keeps (none_there s.table n.table i n.described.so.same h.objects_are) tt;
        objects_are = objects-append n.table (Object i ∷ []) ∙ ap (λ z. z ++ i ∷ []) (n.described.so.same ∙ h.objects_are)
            ∙ ap (λ z. range_with_len 0 i ++ z ∷ []) (sym zero_first) ∙ sym (range_more 0 i) ∙ ap (range_with_len 0) (sym total);
        owners = subst (λ m. OwnersIn m (slots_due i n.ks ++ s.due)) (sym total) (owners_both (suc i) (slots_due i n.ks) s.due (owners_slots i (suc i) n.ks (omega arith)) (owners_more i (suc i) s.due (omega arith) h.owners.1));
        counted = omega (arith, last, c, due, own, counted);
        few = room;
      })

  step_stands : (d : Due) (s t : State) (front : List ℕ) → Stands P (due_first d s) → IsStep P facts d s t front → Stands P t
  step_stands d s t front h (step_number x r n e) = subst (Stands P) (sym e) (kept_stands d x s h)
  step_stands d s t front h (step_null r f e) = subst (Stands P) (sym e) (kept_stands d Null s h)
  step_stands d s t front h (step_old i n r hd f at a e) = subst (Stands P) (sym e) (kept_stands d (At i) s h)
  step_stands d s t front h (step_new r n) = opened_stands d s t front h n

  -- ---- a step spells what was due

  kept_news : (d : Due) (x : Slot) (g : Graph) (s : State) → ((i : ℕ) (n : Node) → length (with_slot d.owner x s.graph).nodes ≤ i → node_at g i ≡ Some n → NodeIs P g n)
      → (i : ℕ) (n : Node) → length s.graph.nodes ≤ i → node_at g i ≡ Some n → NodeIs P g n
  kept_news d x g s news i n l e = let len = with_length d.owner x s.graph in news i n (omega (arith, len, l)) e

  back_number : (g : Graph) (d : Due) (x : Slot) (s : State) (after : Table) (front text : List ℕ) → is_reference d.kind ≡ false → IsRead d.kind.base x front
      → Spelled P g (kept d x s) after text → Spelled P g (due_first d s) after (front ++ text)
  unfolding kept
  back_number g d x s after front text r n h = record {
    is = (d.kind, x) ∷ h.is;
    fills = fill h.fills;
    spelled = plain front r n.spelled refl h.spelled;
    fit = (number_fits P g d.kind x r n.fits, h.fit);
    news = kept_news d x g s h.news;
  }

  back_null : (g : Graph) (d : Due) (s : State) (after : Table) (front text : List ℕ) → is_reference d.kind ≡ true → front ≡ 0x70 ∷ []
      → Spelled P g (kept d Null s) after text → Spelled P g (due_first d s) after (front ++ text)
  unfolding kept
  back_null g d s after front text r f h = record {
    is = (d.kind, Null) ∷ h.is;
    fills = fill h.fills;
    spelled = null r (ap (λ z. z ++ text) f) h.spelled;
    fit = (link_fits P g d.kind Null r tt, h.fit);
    news = kept_news d Null g s h.news;
  }

  back_old : (g : Graph) (d : Due) (i : ℕ) (n : Node) (s : State) (after : Table) (front text : List ℕ) → is_reference d.kind ≡ true → has s.table (Object i) ≡ true
      → front ≡ handle_text s.table (Object i) → node_at s.graph i ≡ Some n → is_assignable P n.kind d.kind ≡ true
      → Spelled P g (kept d (At i) s) after text → Spelled P g (due_first d s) after (front ++ text)
  unfolding kept
  back_old g d i n s after front text r hd f at a h =
      let fills : Fills g s.graph (d ∷ s.due) ((d.kind, At i) ∷ h.is) = fill h.fills in
      let k = kind_kept g fills i n at in
      record {
        is = (d.kind, At i) ∷ h.is;
        fills = fills;
        spelled = again r hd (ap (λ z. z ++ text) f) h.spelled;
        fit = (link_fits P g d.kind (At i) r (link_is P g d.kind i k.0 k.1 (ap (λ (z : Kind). is_assignable P z d.kind) k.2 ∙ a)), h.fit);
        news = kept_news d (At i) g s h.news;
      }

  sort_sends : (array : Bool) (kind : Kind) → is_of_sort P array kind ≡ true → is_sendable P kind ≡ true
  sort_sends true kind e = right (is_array kind) (is_sendable P kind) e
    where
      right : (a b : Bool) → (a && b) ≡ true → b ≡ true
      right true b e = e
      right false b e = absurd (true≢false (sym e))
  sort_sends false kind e = right (not (is_array kind)) (is_sendable P kind) e
    where
      right : (a b : Bool) → (a && b) ≡ true → b ≡ true
      right true b e = e
      right false b e = absurd (true≢false (sym e))

  new_text : (t : ℕ) (a b c d : List ℕ) → (t ∷ (a ++ b)) ++ (c ++ d) ≡ t ∷ (a ++ b ++ c ++ d)
  new_text t a b c d = ap (λ z. t ∷ z) (sym (append_assoc (a ++ b) c d))

  module _ (g : Graph) (d : Due) (s t : State) (after : Table) (front text : List ℕ) (r : is_reference d.kind ≡ true) (stands : Stands P (due_first d s)) (n : IsNew P facts d s t front) (h : Spelled P g t after text) where
    abbrev new_at : ℕ
    new_at = length s.graph.nodes

    abbrev now : Graph
    now = with_slot d.owner (At (length s.graph.nodes)) s.graph

    abbrev empty : Node
    empty = record { kind = n.kind; slots = [] }

    -- the same of the state that was opened
    abbrev then_state : State
    then_state = opened d n.kind n.table (length n.ks) (slots_due (length s.graph.nodes) n.ks) s

    opened_spelled : Spelled P g then_state after text
    opened_spelled = subst (λ z. Spelled P g z after text) n.then_is h

    len : length now.nodes ≡ new_at
    len = with_length d.owner (At new_at) s.graph

    parted : Parted g now empty n.ks s.due opened_spelled.is
    unfolding opened
    parted = part g n.ks now empty s.due opened_spelled.is (subst (λ i. Fills g (with_node now empty) (slots_due i n.ks ++ s.due) opened_spelled.is) (sym len) opened_spelled.fills)

    abbrev full : Node
    full = record { kind = n.kind; slots = parted.slots }

    dropped : Dropped g now full s.due parted.rest
    dropped = drop_node g parted.fills now full refl (subst (λ m. OwnersIn m s.due) (sym len) stands.owners.1)

    at_new : node_at g new_at ≡ Some full
    at_new = ap (node_at g) (sym len) ∙ dropped.at

    own_items : items n.ks parted.slots ≡ items_of P full
    own_items = sym (items_are P n.kind n.ks parted.slots parted.count n.slots)

    parts : Parts P false g (items_of P full) parted.rest (n.table ++ Object new_at ∷ []) text after
    unfolding opened
    parts = split P false g (items_of P full) parted.rest
        (subst (λ z. Spell P false g z (n.table ++ Object new_at ∷ []) text after) (parted.js_are ∙ ap (λ z. z ++ parted.rest) own_items) opened_spelled.spelled)

    all_fit : AllByRecursion (ItemFits P g) (items n.ks parted.slots) × AllByRecursion (ItemFits P g) parted.rest
    all_fit = all_parts (ItemFits P g) (items n.ks parted.slots) parted.rest (subst (AllByRecursion (ItemFits P g)) parted.js_are opened_spelled.fit)

    new_node : NodeIs P g full
    new_node = node_is P g n.kind n.ks parted.slots parted.count n.slots n.described.known (sort_sends n.array n.kind n.described.sort) all_fit.0

    news_after : (i : ℕ) (m : Node) → suc new_at ≤ i → node_at g i ≡ Some m → NodeIs P g m
    unfolding opened
    news_after i m l e = let more = nodes_last now.nodes empty in opened_spelled.news i m (omega (arith, more, len, l)) e

    all_news : (i : ℕ) (m : Node) → new_at ≤ i → node_at g i ≡ Some m → NodeIs P g m
    all_news i m l e = by (cases_eq i new_at)
      where
        by : (i ≡ new_at) ⊎ (i ≡ new_at → ⊥) → NodeIs P g m
        by (inl same) = subst (NodeIs P g) (some_eq (sym (ap (node_at g) same ∙ at_new) ∙ e)) new_node
        by (inr ne) = news_after i m (omega (arith, l, ne)) e

    sizes : size_of n.kind (length n.ks) ≡ size_text full
    sizes = ap (λ c. if is_array n.kind then to_be_bytes w32 c else []) (sym parted.count)

    text_whole : front ++ text ≡ tag n.kind ∷ (n.desc ++ size_text full ++ parts.first ++ parts.rest)
    text_whole = (λ i. (n.text_is ∙ ap (λ z. tag n.kind ∷ (n.desc ++ z)) sizes) i ++ parts.text_is i) ∙ new_text (tag n.kind) n.desc (size_text full) parts.first parts.rest

    back_new : Spelled P g (due_first d s) after (front ++ text)
    back_new = record {
      is = (d.kind, At new_at) ∷ parted.rest;
      fills = fill dropped.fills;
      spelled = anew r (none_there s.table s.table new_at refl stands.objects_are) (sym (ap length stands.objects_are ∙ range_length 0 new_at)) at_new n.described.so.describes text_whole parts.front parts.back;
      fit = (link_fits P g d.kind (At new_at) r (link_is P g d.kind new_at full at_new n.described.suits), all_fit.1);
      news = all_news;
    }

  step_back : (g : Graph) (d : Due) (s t : State) (after : Table) (front text : List ℕ) → Stands P (due_first d s) → IsStep P facts d s t front
      → Spelled P g t after text → Spelled P g (due_first d s) after (front ++ text)
  step_back g d s t after front text stands (step_number x r n e) h = back_number g d x s after front text r n (subst (λ z. Spelled P g z after text) e h)
  step_back g d s t after front text stands (step_null r f e) h = back_null g d s after front text r f (subst (λ z. Spelled P g z after text) e h)
  step_back g d s t after front text stands (step_old i n r hd f at a e) h = back_old g d i n s after front text r hd f at a (subst (λ z. Spelled P g z after text) e h)
  step_back g d s t after front text stands (step_new r n) h = back_new g d s t after front text r stands n h

  -- ---- all slots

  abbrev ok_of : State × Place → Result (State × Place) StreamFault
  ok_of x = Ok x

  none_due : (s : State) → s.due ≡ [] → is_done s ≡ true
  none_due s e = ap (λ ds. is_done (with_due s ds)) e

  some_due : (s : State) (d : Due) (ds : List Due) → s.due ≡ d ∷ ds → is_done s ≡ false
  some_due s d ds e = ap (λ ds. is_done (with_due s ds)) e

  next_is : (s : State) (d : Due) (ds : List Due) (p : Place) → s.due ≡ d ∷ ds → next_at P s p ≡ slot_at P d (with_due s ds) p
  unfolding next_at
  next_is s d ds p e = ap (λ ds. next_at P (with_due s ds) p) e

  -- what was read up to the end
  pub record IsEnd (s : State) (p : Place) (t : State) (q : Place) : Type 0 where
    pub text : List ℕ
    pub spelled : Spelled P t.graph s t.table text
    pub rest : p.rest ≡ text ++ q.rest
    pub fits : IsBytes q.rest
    pub stands : Stands P t
    pub done : t.due ≡ []

  pub read_to_end : (k : ℕ) (s : State) (p : Place) (t : State) (q : Place) → Stands P s → IsBytes p.rest → length p.rest < k → until_done is_done (next_at P) k s p ≡ Ok (t, q) → IsEnd s p t q
  unfolding until_done
  read_to_end zero s p t q stands fits l e = absurd (omega arith)
  read_to_end (suc k) s p t q stands fits l e = by (λ u r. read_to_end k u r t q) s.due refl
    where
      at_end : s.due ≡ [] → ok_of (s, p) ≡ Ok (t, q) → IsEnd s p t q
      at_end none e =
          let same : s ≡ t = ap (λ (z : State × Place). z.0) (ok_is _ _ e) in
          let place : p ≡ q = ap (λ (z : State × Place). z.1) (ok_is _ _ e) in
          subst (λ z. IsEnd s p z q) same (subst (λ z. IsEnd s p s z) place (record {
            text = [];
            spelled = record {
              is = [];
              fills = subst (λ ds. Fills s.graph s.graph ds []) (sym none) (filled (λ i n at. at) refl);
              spelled = over refl;
              fit = tt;
              news = λ i n m at. absurd (omega (arith, m, below_length s.graph.nodes i n at));
            };
            rest = refl;
            fits = fits;
            stands = stands;
            done = none;
          }))

      onward : ((u : State) (r : Place) → Stands P u → IsBytes r.rest → length r.rest < k → until_done is_done (next_at P) k u r ≡ Ok (t, q) → IsEnd u r t q) → (d : Due) (ds : List Due) → s.due ≡ d ∷ ds
          → after (slot_at P d (with_due s ds) p) (λ u. until_done is_done (next_at P) k u) ≡ Ok (t, q) → IsEnd s p t q
      onward later d ds has_due e =
          let s' : State = with_due s ds in
          let whole : due_first d s' ≡ s = ap (with_due s) (sym has_due) in
          let st : Stands P (due_first d s') = subst (Stands P) (sym whole) stands in
          let a = bind_ok (slot_at P d s' p) (λ u. until_done is_done (next_at P) k u) (t, q) e in
          let f = (slot_finds P facts d s' stands.keeps).found p a.0.1 a.0.0 fits a.1 in
          let less = (slot_takes P d s').takes p a.0.1 a.0.0 a.1 in
          let r = later a.0.0 a.0.1 (step_stands d s' a.0.0 f.text st f.holds) f.fits (omega (arith, less, l)) a.2 in
          record {
            text = f.text ++ r.text;
            spelled = subst (λ z. Spelled P t.graph z t.table (f.text ++ r.text)) whole (step_back t.graph d s' a.0.0 t.table f.text r.text st f.holds r.spelled);
            rest = f.rest ∙ ap (λ z. f.text ++ z) r.rest ∙ sym (append_assoc f.text r.text q.rest);
            fits = r.fits;
            stands = r.stands;
            done = r.done;
          }

      by : ((u : State) (r : Place) → Stands P u → IsBytes r.rest → length r.rest < k → until_done is_done (next_at P) k u r ≡ Ok (t, q) → IsEnd u r t q) → (ds : List Due) → s.due ≡ ds → IsEnd s p t q
      by later [] due = at_end due (sym (turn_done is_done (next_at P) k s p (none_due s due)) ∙ e)
      by later (d ∷ ds) due = onward later d ds due (ap (λ r. after r (λ u. until_done is_done (next_at P) k u)) (sym (next_is s d ds p due)) ∙ sym (turn_on is_done (next_at P) k s p (some_due s d ds due)) ∙ e)
