-- The slots that are due, and the graph that they fill.
use Rattle.std.proofs.Common.{◌≡◌, ℕ, zero, suc, ◌<◌, List, [], ◌∷◌, ◌++◌, length, Option, Some, None, refl, sym, ap, subst, ◌∙◌, append_assoc, append-nil, arith}
use Rattle.std.specs.Prelude.{slice_get, slice_set}
use Rattle.std.specs.List.{AllByRecursion}
use Rattle.std.specs.Option.{option_map_or}
use Rattle.nr_linked.specs.declared.program.kind.Kind.{Kind}
use Rattle.nr_model.proofs.Paths.{none_some, some_eq}
use Rattle.nr_graph.specs.declared.graph.Slot.{Slot}
use Rattle.nr_graph.specs.declared.graph.Node.{Node}
use Rattle.nr_graph.specs.declared.graph.Graph.{Graph}
use Rattle.nr_graph.specs.Graphs.{node_at}
use Rattle.nr_serform.specs.Spelling.{Item}
use Rattle.nr_serread.specs.declared.due.Due.{Due}
use Rattle.nr_serread.specs.Reading.{add_slot, with_slot, slots_due}

-- Filled with the slots of these items, one by one, the nodes are the first ones of the graph, and the roots its roots.
pub data Fills (g : Graph) : Graph → List Due → List Item → Type 0 where
  filled : {now : Graph} → ((i : ℕ) (n : Node) → slice_get now.nodes i ≡ Some n → node_at g i ≡ Some n) → now.roots ≡ g.roots → Fills g now [] []
  fill : {now : Graph} {d : Due} {x : Slot} {ds : List Due} {is : List Item} → Fills g (with_slot d.owner x now) ds is
      → Fills g now (d ∷ ds) ((d.kind, x) ∷ is)

-- ---- lists of nodes

abbrev pub with_kind : Node → Slot → Node
with_kind n s = record { kind = n.kind; slots = n.slots ++ s ∷ [] }

set_length : (ns : List Node) (i : ℕ) (n : Node) → length (slice_set ns i n) ≡ length ns
set_length [] i n = refl
set_length (m ∷ ns) zero n = refl
set_length (m ∷ ns) (suc i) n = ap suc (set_length ns i n)

pub add_length : (i : ℕ) (s : Slot) (ns : List Node) → length (add_slot i s ns) ≡ length ns
add_length i s ns = by (slice_get ns i)
  where
    by : (o : Option Node) → length (option_map_or (λ n. slice_set ns i (with_kind n s)) o ns) ≡ length ns
    by None = refl
    by (Some n) = set_length ns i (with_kind n s)

-- one at the end stays as it is
add_front : (i : ℕ) (s : Slot) (ns : List Node) (m : Node) → i < length ns → add_slot i s (ns ++ m ∷ []) ≡ add_slot i s ns ++ m ∷ []
add_front i s [] m l = absurd (omega arith)
add_front zero s (n ∷ ns) m l = refl
add_front (suc i) s (n ∷ ns) m l = by (slice_get (ns ++ m ∷ []) i) refl (slice_get ns i) refl (add_front i s ns m (omega arith))
  where
    by : (o : Option Node) → slice_get (ns ++ m ∷ []) i ≡ o → (p : Option Node) → slice_get ns i ≡ p
        → option_map_or (λ n. slice_set (ns ++ m ∷ []) i (with_kind n s)) (slice_get (ns ++ m ∷ []) i) (ns ++ m ∷ []) ≡ option_map_or (λ n. slice_set ns i (with_kind n s)) (slice_get ns i) ns ++ m ∷ []
        → option_map_or (λ k. slice_set (n ∷ ns ++ m ∷ []) (suc i) (with_kind k s)) (slice_get (ns ++ m ∷ []) i) (n ∷ ns ++ m ∷ [])
        ≡ option_map_or (λ k. slice_set (n ∷ ns) (suc i) (with_kind k s)) (slice_get ns i) (n ∷ ns) ++ m ∷ []
    by None e None f r = rw (e, f) refl
    by None e (Some k) f r = rw (e, f) (ap (λ xs. n ∷ xs) (rw (e, f) at r))
    by (Some k) e None f r = rw (e, f) (ap (λ xs. n ∷ xs) (rw (e, f) at r))
    by (Some k) e (Some j) f r = rw (e, f) (ap (λ xs. n ∷ xs) (rw (e, f) at r))

-- the one at the end gets its slots
pub add_last : (s : Slot) (ns : List Node) (m : Node) → add_slot (length ns) s (ns ++ m ∷ []) ≡ ns ++ with_kind m s ∷ []
add_last s [] m = refl
add_last s (n ∷ ns) m = by (slice_get (ns ++ m ∷ []) (length ns)) refl (add_last s ns m)
  where
    by : (o : Option Node) → slice_get (ns ++ m ∷ []) (length ns) ≡ o
        → option_map_or (λ n. slice_set (ns ++ m ∷ []) (length ns) (with_kind n s)) (slice_get (ns ++ m ∷ []) (length ns)) (ns ++ m ∷ []) ≡ ns ++ with_kind m s ∷ []
        → option_map_or (λ k. slice_set (n ∷ ns ++ m ∷ []) (suc (length ns)) (with_kind k s)) (slice_get (ns ++ m ∷ []) (length ns)) (n ∷ ns ++ m ∷ []) ≡ n ∷ ns ++ with_kind m s ∷ []
    by None e r = rw e (ap (λ xs. n ∷ xs) (rw e at r))
    by (Some k) e r = rw e (ap (λ xs. n ∷ xs) (rw e at r))

pub get_front : (ns : List Node) (m : Node) (i : ℕ) (n : Node) → slice_get ns i ≡ Some n → slice_get (ns ++ m ∷ []) i ≡ Some n
get_front [] m i n e = absurd (none_some e)
get_front (k ∷ ns) m zero n e = e
get_front (k ∷ ns) m (suc i) n e = get_front ns m i n e

pub get_last : (ns : List Node) (m : Node) → slice_get (ns ++ m ∷ []) (length ns) ≡ Some m
get_last [] m = refl
get_last (k ∷ ns) m = get_last ns m

-- ---- what is due

-- who is due is there
abbrev pub OwnerIn : ℕ → Due → Type 0
OwnerIn n d = (i : ℕ) → d.owner ≡ Some i → i < n

abbrev pub OwnersIn : ℕ → List Due → Type 0
OwnersIn n ds = AllByRecursion (OwnerIn n) ds

pub with_length : (o : Option ℕ) (x : Slot) (g : Graph) → length (with_slot o x g).nodes ≡ length g.nodes
with_length None x g = refl
with_length (Some i) x g = add_length i x g.nodes

abbrev pub with_node : Graph → Node → Graph
with_node g n = record { nodes = g.nodes ++ n ∷ []; roots = g.roots }

pub with_both : (o : Option ℕ) (x : Slot) (g : Graph) (n : Node) → ((i : ℕ) → o ≡ Some i → i < length g.nodes) → with_slot o x (with_node g n) ≡ with_node (with_slot o x g) n
with_both None x g n l = refl
with_both (Some i) x g n l = (λ j. record { nodes = add_front i x g.nodes n (l i refl) j; roots = g.roots })

-- A node at the end that has all its slots is the graph's node of this number, and what is due fills the others.
pub record Dropped (g now : Graph) (n : Node) (ds : List Due) (is : List Item) : Type 0 where
  pub fills : Fills g now ds is
  pub at : node_at g (length now.nodes) ≡ Some n

pub drop_node : (g : Graph) {with_n : Graph} {ds : List Due} {is : List Item} → Fills g with_n ds is → (now : Graph) (n : Node) → with_n ≡ with_node now n → OwnersIn (length now.nodes) ds → Dropped g now n ds is
drop_node g (filled each roots) now n e o = record {
  fills = filled (λ i m at. each i m (ap (λ (h : Graph). slice_get h.nodes i) e ∙ get_front now.nodes n i m at)) (ap (λ (h : Graph). h.roots) (sym e) ∙ roots);
  at = each (length now.nodes) n (ap (λ (h : Graph). slice_get h.nodes (length now.nodes)) e ∙ get_last now.nodes n);
}
drop_node g (fill {d = d} {x = x} {ds = ds} f) now n e o =
    let same = ap (with_slot d.owner x) e ∙ with_both d.owner x now n o.0 in
    let len = with_length d.owner x now in
    let r = drop_node g f (with_slot d.owner x now) n same (subst (λ k. OwnersIn k ds) (sym len) o.1) in
    record { fills = fill r.fills; at = ap (node_at g) (sym len) ∙ r.at }

-- ---- the slots of a new node

abbrev pub items : List Kind → List Slot → List Item
items [] xs = []
items (k ∷ ks) [] = []
items (k ∷ ks) (x ∷ xs) = (k, x) ∷ items ks xs

pub record Parted (g now : Graph) (n : Node) (ks : List Kind) (ds : List Due) (js : List Item) : Type 0 where
  pub slots : List Slot
  pub rest : List Item
  pub count : length slots ≡ length ks
  pub js_are : js ≡ items ks slots ++ rest
  pub fills : Fills g (with_node now (record { kind = n.kind; slots = n.slots ++ slots })) ds rest

pub record Unfilled (g now : Graph) (d : Due) (ds : List Due) (js : List Item) : Type 0 where
  pub slot : Slot
  pub rest : List Item
  pub js_are : js ≡ (d.kind, slot) ∷ rest
  pub fills : Fills g (with_slot d.owner slot now) ds rest

pub unfill : (g : Graph) {now : Graph} {d : Due} {ds : List Due} {js : List Item} → Fills g now (d ∷ ds) js → Unfilled g now d ds js
unfill g (fill {x = x} {is = is} f) = record { slot = x; rest = is; js_are = refl; fills = f }

pub part : (g : Graph) (ks : List Kind) (now : Graph) (n : Node) (ds : List Due) (js : List Item) → Fills g (with_node now n) (slots_due (length now.nodes) ks ++ ds) js → Parted g now n ks ds js
part g [] now n ds js f = record {
  slots = [];
  rest = js;
  count = refl;
  js_are = refl;
  fills = subst (λ z. Fills g (with_node now (record { kind = n.kind; slots = z })) ds js) (sym (append-nil n.slots)) f;
}
part g (k ∷ ks) now n ds js f =
    let u = unfill g f in
    let more = subst (λ z. Fills g (record { nodes = z; roots = now.roots }) (slots_due (length now.nodes) ks ++ ds) u.rest) (add_last u.slot now.nodes n) u.fills in
    let r = part g ks now (with_kind n u.slot) ds u.rest more in
    record {
      slots = u.slot ∷ r.slots;
      rest = r.rest;
      count = ap suc r.count;
      js_are = u.js_are ∙ ap (λ z. (k, u.slot) ∷ z) r.js_are;
      fills = subst (λ z. Fills g (with_node now (record { kind = n.kind; slots = z })) ds r.rest) (append_assoc n.slots (u.slot ∷ []) r.slots) r.fills;
    }

-- ---- kinds stay

pub kind_kept : (g : Graph) {now : Graph} {ds : List Due} {is : List Item} → Fills g now ds is → (i : ℕ) (n : Node) → slice_get now.nodes i ≡ Some n → (m : Node) × (node_at g i ≡ Some m) × (m.kind ≡ n.kind)
kind_kept g (filled each roots) i n e = (n, each i n e, refl)
kind_kept g {now = now} (fill {d = d} {x = x} f) i n e =
    let k = slot_kind d.owner in
    let r = kind_kept g f i k.0 k.1 in
    (r.0, r.1, r.2 ∙ k.2)
  where
    set_kind : (ns : List Node) (i j : ℕ) (m n : Node) → slice_get ns j ≡ Some m → slice_get ns i ≡ Some n → (k : Node) × (slice_get (slice_set ns j (with_kind m x)) i ≡ Some k) × (k.kind ≡ n.kind)
    set_kind [] i j m n a b = absurd (none_some b)
    set_kind (k ∷ ns) zero zero m n a b = (with_kind m x, refl, ap (λ (z : Node). z.kind) (some_eq (sym a ∙ b)))
    set_kind (k ∷ ns) zero (suc j) m n a b = (n, b, refl)
    set_kind (k ∷ ns) (suc i) zero m n a b = (n, b, refl)
    set_kind (k ∷ ns) (suc i) (suc j) m n a b = set_kind ns i j m n a b

    added : (j : ℕ) (o : Option Node) → slice_get now.nodes j ≡ o → (k : Node) × (slice_get (option_map_or (λ m. slice_set now.nodes j (with_kind m x)) o now.nodes) i ≡ Some k) × (k.kind ≡ n.kind)
    added j None a = (n, e, refl)
    added j (Some m) a = set_kind now.nodes i j m n a e

    slot_kind : (o : Option ℕ) → (k : Node) × (slice_get (with_slot o x now).nodes i ≡ Some k) × (k.kind ≡ n.kind)
    slot_kind None = (n, e, refl)
    slot_kind (Some j) = added j (slice_get now.nodes j) refl
