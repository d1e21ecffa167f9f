-- The items of a node, as the writer reads them.
use Rattle.std.proofs.Common.{◌≡◌, ℕ, zero, suc, ◌+◌, ◌-◌, ◌<◌, ◌≤◌, List, [], ◌∷◌, ◌++◌, length, map, reverse, refl, sym, ap, subst, ◌∙◌, Option, None, Some, arith}
use Rattle.std.specs.Prelude.{IsSomeAnd, slice_get}
use Rattle.std.specs.Option.{option_and_then, option_map, option_map_or}
use Rattle.std.proofs.lemmas.Bool.{lt-ltb}
use Rattle.std.proofs.lemmas.List.{reverse-append}
use Rattle.nr_linked.specs.declared.program.kind.Base.{Base}
use Rattle.nr_linked.specs.declared.program.kind.Kind.{Kind}
use Rattle.nr_linked.specs.declared.program.tables.ProgramTables.{ProgramTables}
use Rattle.nr_linked.specs.Kinds.{class_in}
use Rattle.nr_model.specs.Heaps.{on_some}
use Rattle.nr_graph.specs.declared.graph.Slot.{Slot}
use Rattle.nr_graph.specs.declared.graph.Slot.TheVariants.{Int, Long, Null, Node as At}
use Rattle.nr_graph.specs.declared.graph.Node.{Node}
use Rattle.nr_graph.specs.declared.graph.Graph.{Graph}
use Rattle.nr_graph.specs.Fitting.{NodeFits, SlotFits}
use Rattle.nr_graph.specs.Graphs.{nodes_in}
use Rattle.nr_graph.specs.StreamOrder.{Placed, stream_kind, stream_slots}
use Rattle.nr_serform.specs.Spelling.{Item, items_from, items_of}
use Rattle.nr_serform.specs.StreamSlots.{placed_of}
use Rattle.nr_serwrite.specs.declared.work.Frame.{Frame}
use Rattle.nr_serwrite.specs.declared.work.Kinds.{Kinds}
use Rattle.nr_serwrite.specs.declared.work.Kinds.TheVariants.{Fields, Elements}
use Rattle.nr_serwrite.specs.Working.{AllFit, frame_items, frames_items, item_nodes, items_all, items_with, kinds_items, pending}

-- ---- by kinds

with_none : (ks : List Kind) → items_with ks [] ≡ []
with_none [] = refl
with_none (k ∷ ks) = refl

with_kinds : (P : ProgramTables) (n : Node) (k : ℕ) (ks : List Kind) (ss : List Slot) → ((j : ℕ) → stream_kind P n.kind (k + j) ≡ slice_get ks j) → items_with ks ss ≡ items_from P n k ss
with_kinds P n k ks [] h = with_none ks
with_kinds P n k [] (s ∷ ss) h =
    let here : stream_kind P n.kind k ≡ None = let z : k ≡ k + 0 = omega arith in ap (stream_kind P n.kind) z ∙ h 0 in
    let rest = with_kinds P n (suc k) [] ss (λ j. let z : suc k + j ≡ k + suc j = omega arith in ap (stream_kind P n.kind) z ∙ h (suc j)) in
    rest ∙ ap (λ o. on_some o [] (λ kind. (kind, s) ∷ []) ++ items_from P n (suc k) ss) (sym here)
with_kinds P n k (kind ∷ ks) (s ∷ ss) h =
    let here : stream_kind P n.kind k ≡ Some kind = let z : k ≡ k + 0 = omega arith in ap (stream_kind P n.kind) z ∙ h 0 in
    let rest = with_kinds P n (suc k) ks ss (λ j. let z : suc k + j ≡ k + suc j = omega arith in ap (stream_kind P n.kind) z ∙ h (suc j)) in
    ap (λ is. (kind, s) ∷ is) rest ∙ ap (λ o. on_some o [] (λ kind. (kind, s) ∷ []) ++ items_from P n (suc k) ss) (sym here)

all_elements : (P : ProgramTables) (n : Node) (e : Kind) (k : ℕ) (ss : List Slot) → ((j : ℕ) → stream_kind P n.kind j ≡ Some e) → items_all e ss ≡ items_from P n k ss
all_elements P n e k [] h = refl
all_elements P n e k (s ∷ ss) h =
    ap (λ is. (e, s) ∷ is) (all_elements P n e (suc k) ss h) ∙ ap (λ o. on_some o [] (λ kind. (kind, s) ∷ []) ++ items_from P n (suc k) ss) (sym (h k))

-- where no slot is left there is no item
pub no_slots : (ks : Kinds) (ss : List Slot) → length ss < 1 → kinds_items ks ss ≡ []
no_slots (Fields fields) [] l = with_none (map (λ a. a.1.kind) (map placed_of fields.now))
no_slots (Elements k) [] l = refl
no_slots ks (s ∷ ss) l = absurd (omega arith)

get_mapped : {A B : Type 0} (f : A → B) (xs : List A) (k : ℕ) → option_map f (slice_get xs k) ≡ slice_get (map f xs) k
get_mapped f [] k = refl
get_mapped f (x ∷ xs) zero = refl
get_mapped f (x ∷ xs) (suc k) = get_mapped f xs k

pub elements_are : (P : ProgramTables) (n : Node) (kind : Kind) → n.kind ≡ kind → 0 < kind.dims → items_all (record { dims = kind.dims - 1; base = kind.base }) n.slots ≡ items_of P n
unfolding items_of
elements_are P n kind is more = all_elements P n (record { dims = kind.dims - 1; base = kind.base }) 0 n.slots (λ j. ap (λ k. stream_kind P k j) is ∙ of_kind kind.dims kind.base more j)
  where
    of_kind : (d : ℕ) (b : Base) → 0 < d → (j : ℕ) → stream_kind P (record { dims = d; base = b }) j ≡ Some (record { dims = d - 1; base = b })
    of_kind zero b l j = absurd (omega arith)
    of_kind (suc d) b l j =
        let less : d ≡ suc d - 1 = omega arith in
        rw (lt-ltb 0 (suc d) l) (ap (λ x. Some (record { dims = x; base = b })) less)

pub slots_are : (P : ProgramTables) (n : Node) (kind : Kind) (slots : List Placed) → n.kind ≡ kind → kind.dims ≤ 0 → slots ≡ option_map_or (stream_slots P) (class_in kind.base) []
    → items_with (map (λ a. a.1.kind) slots) n.slots ≡ items_of P n
unfolding items_of
slots_are P n kind slots is flat ss = with_kinds P n 0 (map (λ a. a.1.kind) slots) n.slots (λ j.
    let z : 0 + j ≡ j = omega arith in
    ap (stream_kind P n.kind) z ∙ ap (λ k. stream_kind P k j) is ∙ of_kind kind.dims kind.base flat j ∙ get_mapped (λ (a : Placed). a.1.kind) (option_map_or (stream_slots P) (class_in kind.base) []) j
    ∙ ap (λ xs. slice_get (map (λ (a : Placed). a.1.kind) xs) j) (sym ss))
  where
    of_class : (o : Option ℕ) (j : ℕ) → option_and_then (λ c. option_map (λ (a : Placed). a.1.kind) (slice_get (stream_slots P c) j)) o
        ≡ option_map (λ (a : Placed). a.1.kind) (slice_get (option_map_or (stream_slots P) o []) j)
    of_class None j = refl
    of_class (Some c) j = refl

    of_kind : (d : ℕ) (b : Base) → d ≤ 0 → (j : ℕ) → stream_kind P (record { dims = d; base = b }) j ≡ option_map (λ (a : Placed). a.1.kind) (slice_get (option_map_or (stream_slots P) (class_in b) []) j)
    of_kind zero b l j = of_class (class_in b) j
    of_kind (suc d) b l j = absurd (omega arith)

-- ---- each slot of a node that fits is an item

module _ (P : ProgramTables) (g : Graph) (n : Node) (fits : NodeFits P g n) where
  abbrev FitsAt : ℕ → Slot → Type 0
  FitsAt k s = IsSomeAnd (stream_kind P n.kind k) (λ kind. SlotFits P g kind s)

  record Fitting (is : List Item) (ss : List Slot) : Type 0 where
    pub fit : AllFit P g is
    pub slots : map (λ x. x.1) is ≡ ss
    pub long : length is ≡ length ss

  one_fits : (o : Option Kind) (s : Slot) (is : List Item) (ss : List Slot) → IsSomeAnd o (λ kind. SlotFits P g kind s) → Fitting is ss → Fitting (on_some o [] (λ kind. (kind, s) ∷ []) ++ is) (s ∷ ss)
  one_fits None s is ss f r = absurd f
  one_fits (Some kind) s is ss f r = record { fit = (f, r.fit); slots = ap (λ xs. s ∷ xs) r.slots; long = ap suc r.long }

  from_fits : (k : ℕ) (ss : List Slot) → ((j : ℕ) (s : Slot) → slice_get ss j ≡ Some s → FitsAt (k + j) s) → Fitting (items_from P n k ss) ss
  from_fits k [] h = record { fit = tt; slots = refl; long = refl }
  from_fits k (s ∷ ss) h =
      let z : k + 0 ≡ k = omega arith in
      one_fits (stream_kind P n.kind k) s (items_from P n (suc k) ss) ss (subst (λ k. FitsAt k s) z (h 0 s refl))
      (from_fits (suc k) ss (λ j t e. let y : k + suc j ≡ suc k + j = omega arith in subst (λ k. FitsAt k t) y (h (suc j) t e)))

  all : Fitting (items_of P n) n.slots
  unfolding items_of
  all = from_fits 0 n.slots (λ j s e. let z : j ≡ 0 + j = omega arith in subst (λ k. FitsAt k s) z (fits.slots j s e))

  pub node_items_fit : AllFit P g (items_of P n)
  node_items_fit = all.fit

  pub node_items_nodes : item_nodes (items_of P n) ≡ nodes_in n.slots
  node_items_nodes = ap nodes_in all.slots

  pub node_items_long : length (items_of P n) ≡ length n.slots
  node_items_long = all.long

-- ---- two lists of items

pub fit_both : (P : ProgramTables) (g : Graph) (xs ys : List Item) → AllFit P g xs → AllFit P g ys → AllFit P g (xs ++ ys)
fit_both P g [] ys a b = b
fit_both P g (x ∷ xs) ys a b = (a.0, fit_both P g xs ys a.1 b)

nodes_first : (s : Slot) (is ys : List Item) → nodes_in (map (λ x. x.1) (is ++ ys)) ≡ nodes_in (map (λ x. x.1) is) ++ nodes_in (map (λ x. x.1) ys)
    → nodes_in (s ∷ map (λ x. x.1) (is ++ ys)) ≡ nodes_in (s ∷ map (λ x. x.1) is) ++ nodes_in (map (λ x. x.1) ys)
nodes_first (Int n) is ys r = r
nodes_first (Long n) is ys r = r
nodes_first Null is ys r = r
nodes_first (At i) is ys r = ap (λ z. i ∷ z) r

pub nodes_both : (xs ys : List Item) → item_nodes (xs ++ ys) ≡ item_nodes xs ++ item_nodes ys
nodes_both [] ys = refl
nodes_both (x ∷ xs) ys = nodes_first x.1 xs ys (nodes_both xs ys)

-- ---- open nodes

pub pending_pushed : (fs gs : List Frame) (f : Frame) → gs ≡ fs ++ f ∷ [] → pending gs ≡ frame_items f ++ pending fs
pending_pushed fs gs f e = ap (λ z. frames_items (reverse z)) e ∙ ap frames_items (reverse-append fs (f ∷ []))
