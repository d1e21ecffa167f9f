-- What is due fills the graph, also where a new node is opened.
use Rattle.std.proofs.Common.{◌≡◌, ℕ, zero, suc, ◌+◌, List, [], ◌∷◌, ◌++◌, drop, length, Some, refl, sym, ap, subst, ◌∙◌, ◌⊎◌, inl, inr, append_assoc, append-nil, arith}
use Rattle.std.specs.Prelude.{slice_get}
use Rattle.nr_linked.specs.declared.program.kind.Kind.{Kind}
use Rattle.nr_model.proofs.Paths.{none_some, some_eq}
use Rattle.nr_graph.specs.declared.graph.Slot.{Slot}
use Rattle.nr_graph.specs.declared.graph.Node.{Node}
use Rattle.nr_graph.specs.declared.graph.Graph.{Graph}
use Rattle.nr_graph.specs.Graphs.{cells_of_nodes, node_at}
use Rattle.nr_serform.specs.Spelling.{Item}
use Rattle.nr_serread.specs.declared.due.Due.{Due}
use Rattle.nr_serread.specs.Reading.{slots_due, with_slot}
use Rattle.nr_serlaws.proofs.Filling.{Fills, fill, filled, OwnersIn, add_last, items, with_both, with_kind, with_length, with_node}

-- ---- the first item that is due

pub record Refilled (g now : Graph) (due : List Due) (a : Item) (is : List Item) : Type 0 where
  pub first : Due
  pub others : List Due
  pub due_is : due ≡ first ∷ others
  pub kind_is : first.kind ≡ a.0
  pub fills : Fills g (with_slot first.owner a.1 now) others is

pub refill : (g : Graph) {now : Graph} {due : List Due} {a : Item} {is : List Item} → Fills g now due (a ∷ is) → Refilled g now due a is
refill g (fill {d = d} {ds = ds} f) = record { first = d; others = ds; due_is = refl; kind_is = refl; fills = f }

-- ---- one node more

last_or : (ns : List Node) (m : Node) (i : ℕ) (n : Node) → slice_get (ns ++ m ∷ []) i ≡ Some n → (slice_get ns i ≡ Some n) ⊎ ((i ≡ length ns) × (m ≡ n))
last_or [] m zero n e = inr (refl, some_eq e)
last_or [] m (suc i) n e = absurd (none_some e)
last_or (k ∷ ns) m zero n e = inl e
last_or (k ∷ ns) m (suc i) n e = by (last_or ns m i n e)
  where
    by : (slice_get ns i ≡ Some n) ⊎ ((i ≡ length ns) × (m ≡ n)) → (slice_get ns i ≡ Some n) ⊎ ((suc i ≡ suc (length ns)) × (m ≡ n))
    by (inl h) = inl h
    by (inr h) = inr (ap suc h.0, h.1)

-- a node of the graph at the end, with all its slots
pub with_next : (g : Graph) {now : Graph} {ds : List Due} {is : List Item} → Fills g now ds is → (n : Node) → node_at g (length now.nodes) ≡ Some n → OwnersIn (length now.nodes) ds → Fills g (with_node now n) ds is
with_next g {now = now} (filled each roots) n at o = filled more roots
  where
    more : (i : ℕ) (m : Node) → slice_get (now.nodes ++ n ∷ []) i ≡ Some m → node_at g i ≡ Some m
    more i m e = by (last_or now.nodes n i m e)
      where
        by : (slice_get now.nodes i ≡ Some m) ⊎ ((i ≡ length now.nodes) × (n ≡ m)) → node_at g i ≡ Some m
        by (inl h) = each i m h
        by (inr h) = ap (node_at g) h.0 ∙ at ∙ ap Some h.1
with_next g {now = now} (fill {d = d} {x = x} {ds = ds} {is = is} f) n at o =
    let len = with_length d.owner x now in
    let r = with_next g f n (ap (node_at g) len ∙ at) (subst (λ k. OwnersIn k ds) (sym len) o.1) in
    fill (subst (λ z. Fills g z ds is) (sym (with_both d.owner x now n o.0)) r)

-- its slots are due first
pub with_due_slots : (g : Graph) (ks : List Kind) (xs : List Slot) (now : Graph) (n : Node) (ds : List Due) (is : List Item) → length xs ≡ length ks → Fills g (with_node now (record { kind = n.kind; slots = n.slots ++ xs })) ds is
    → Fills g (with_node now n) (slots_due (length now.nodes) ks ++ ds) (items ks xs ++ is)
with_due_slots g [] [] now n ds is l f = subst (λ z. Fills g (with_node now (record { kind = n.kind; slots = z })) ds is) (append-nil n.slots) f
with_due_slots g [] (x ∷ xs) now n ds is l f = absurd (omega arith)
with_due_slots g (k ∷ ks) [] now n ds is l f = absurd (omega arith)
with_due_slots g (k ∷ ks) (x ∷ xs) now n ds is l f =
    let r = with_due_slots g ks xs now (with_kind n x) ds is (omega arith) (subst (λ z. Fills g (with_node now (record { kind = n.kind; slots = z })) ds is) (sym (append_assoc n.slots (x ∷ []) xs)) f) in
    fill {d = record { owner = Some (length now.nodes); kind = k }} (subst (λ z. Fills g (record { nodes = z; roots = now.roots }) (slots_due (length now.nodes) ks ++ ds) (items ks xs ++ is)) (sym (add_last x now.nodes n)) r)

-- ---- cells of the nodes that are still to come

pub drop_at : (ns : List Node) (i : ℕ) (n : Node) → slice_get ns i ≡ Some n → drop i ns ≡ n ∷ drop (suc i) ns
drop_at [] i n e = absurd (none_some e)
drop_at (m ∷ ns) zero n e = ap (λ z. z ∷ ns) (some_eq e)
drop_at (m ∷ ns) (suc i) n e = drop_at ns i n e

pub cells_to_come : (ns : List Node) (i : ℕ) (n : Node) → slice_get ns i ≡ Some n → cells_of_nodes (drop i ns) ≡ (length n.slots + 1) + cells_of_nodes (drop (suc i) ns)
cells_to_come ns i n e = ap cells_of_nodes (drop_at ns i n e)

-- ---- the whole graph in the end

pub same_nodes : (xs ys : List Node) → length xs ≡ length ys → ((i : ℕ) (n : Node) → slice_get xs i ≡ Some n → slice_get ys i ≡ Some n) → xs ≡ ys
same_nodes [] [] l each = refl
same_nodes [] (y ∷ ys) l each = absurd (omega arith)
same_nodes (x ∷ xs) [] l each = absurd (omega arith)
same_nodes (x ∷ xs) (y ∷ ys) l each =
    let here : x ≡ y = sym (some_eq (each zero x refl)) in
    let rest = same_nodes xs ys (omega arith) (λ i n e. each (suc i) n e) in
    (λ j. here j ∷ rest j)

pub record Complete (g now : Graph) (due : List Due) : Type 0 where
  pub none : due ≡ []
  pub each : (i : ℕ) (n : Node) → slice_get now.nodes i ≡ Some n → node_at g i ≡ Some n
  pub roots : now.roots ≡ g.roots

pub complete : (g : Graph) {now : Graph} {due : List Due} → Fills g now due [] → Complete g now due
complete g (filled each roots) = record { none = refl; each = each; roots = roots }
