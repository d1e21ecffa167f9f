-- Texts of items one behind the other, and the order in which their nodes are met.
use Rattle.std.proofs.Common.{◌≡◌, ℕ, Bool, ◌||◌, nat_eq, List, [], ◌∷◌, ◌++◌, map, Option, Some, refl, sym, ap, subst, ◌∙◌, append_assoc}
use Rattle.std.specs.Option.{option_map_or}
use Rattle.nr_linked.specs.declared.program.kind.Base.{Base}
use Rattle.nr_linked.specs.declared.program.kind.Kind.{Kind}
use Rattle.nr_linked.specs.declared.program.tables.ProgramTables.{ProgramTables}
use Rattle.nr_graph.specs.declared.graph.Slot.{Slot}
use Rattle.nr_graph.specs.declared.graph.Slot.TheVariants.{Int, Long, Null, Node as At}
use Rattle.nr_graph.specs.declared.graph.Node.{Node}
use Rattle.nr_graph.specs.declared.graph.Graph.{Graph}
use Rattle.nr_graph.specs.Graphs.{next_node, node_at, nodes_in}
use Rattle.nr_graph.specs.Walks.{Walk, is_met, over as walk_over, again as walk_again, first}
use Rattle.nr_serform.specs.Entries.{Class, Text, Object}
use Rattle.nr_serform.specs.Handles.{Table, handle_text, has, objects}
use Rattle.nr_serform.specs.Descriptions.{Describes, nothing, again as described_again, anew as described_anew}
use Rattle.nr_serform.specs.Spelling.{IsNumberText, Item, Spell, over, plain, null, again, anew, items_of, size_text, tag}
use Rattle.nr_serlaws.proofs.Tables.{objects-append, objects_own}

regroup : (t : ℕ) (a b c d e : List ℕ) → t ∷ (a ++ b ++ c ++ (d ++ e)) ≡ (t ∷ (a ++ b ++ c ++ d)) ++ e
regroup t a b c d e = ap (λ z. t ∷ z) (sym (append_assoc (a ++ b ++ c) d e))

pub record Parts (P : ProgramTables) (canonical : Bool) (g : Graph) (xs ys : List Item) (table : Table) (text : List ℕ) (after : Table) : Type 0 where
  pub first : List ℕ
  pub rest : List ℕ
  pub mid : Table
  pub text_is : text ≡ first ++ rest
  pub front : Spell P canonical g xs table first mid
  pub back : Spell P canonical g ys mid rest after

-- a text of two lists of items is a text of the first and then one of the second
pub split : (P : ProgramTables) (canonical : Bool) (g : Graph) (xs ys : List Item) {table after : Table} {text : List ℕ} → Spell P canonical g (xs ++ ys) table text after → Parts P canonical g xs ys table text after
split P canonical g [] ys {table} {text = text} s = record { first = []; rest = text; mid = table; text_is = refl; front = over refl; back = s }
split P canonical g (x ∷ xs) ys (plain own r n t s) = let p = split P canonical g xs ys s in
    record { first = own ++ p.first; rest = p.rest; mid = p.mid; text_is = t ∙ ap (λ z. own ++ z) p.text_is ∙ sym (append_assoc own p.first p.rest); front = plain own r n refl p.front; back = p.back }
split P canonical g (x ∷ xs) ys (null r t s) = let p = split P canonical g xs ys s in
    record { first = 0x70 ∷ p.first; rest = p.rest; mid = p.mid; text_is = t ∙ ap (λ z. 0x70 ∷ z) p.text_is; front = null r refl p.front; back = p.back }
split P canonical g (x ∷ xs) ys {table} (again {i = i} r h t s) = let p = split P canonical g xs ys s in let k = handle_text table (Object i) in
    record { first = k ++ p.first; rest = p.rest; mid = p.mid; text_is = t ∙ ap (λ z. k ++ z) p.text_is ∙ sym (append_assoc k p.first p.rest); front = again r h refl p.front; back = p.back }
split P canonical g (x ∷ xs) ys {table} (anew {n = n} {desc = desc} {own = own} r h i at d t o s) = let p = split P canonical g xs ys s in
    record {
      first = tag n.kind ∷ (desc ++ size_text n ++ own ++ p.first);
      rest = p.rest;
      mid = p.mid;
      text_is = t ∙ ap (λ z. tag n.kind ∷ (desc ++ size_text n ++ own ++ z)) p.text_is ∙ regroup (tag n.kind) desc (size_text n) own p.first p.rest;
      front = anew r h i at d refl o p.front;
      back = p.back;
    }

-- ---- the order of first visit

pub has_met : (t : Table) (i : ℕ) → has t (Object i) ≡ is_met (objects t) i
has_met [] i = refl
has_met (Class k ∷ t) i = has_met t i
has_met (Text a ∷ t) i = has_met t i
has_met (Object j ∷ t) i = ap (λ b. nat_eq i j || b) (has_met t i)

pub describes_objects : (P : ProgramTables) (canonical : Bool) {o : Option Kind} {table after : Table} {text : List ℕ} → Describes P canonical o table text after → objects after ≡ objects table
describes_objects P canonical (nothing t) = refl
describes_objects P canonical (described_again h t) = refl
describes_objects P canonical (described_anew {kind = kind} {table = table} number h n up t) = describes_objects P canonical up ∙ objects_own P table kind

abbrev pub slots_in : List Item → List Slot
slots_in is = map (λ a. a.1) is

-- each item of a node is a slot of it
abbrev pub ItemsAreSlots : ProgramTables → Graph → Type 0
ItemsAreSlots P g = (i : ℕ) (n : Node) → node_at g i ≡ Some n → slots_in (items_of P n) ≡ n.slots

no_node : (base : Base) (s : Slot) (text : List ℕ) (ss : List Slot) → IsNumberText base s text → nodes_in (s ∷ ss) ≡ nodes_in ss
no_node base (Int n) text ss h = refl
no_node base (Long n) text ss h = refl
no_node base Null text ss h = refl
no_node base (At i) text ss h = absurd h

next_is : (g : Graph) (i : ℕ) (n : Node) → node_at g i ≡ Some n → next_node g i ≡ nodes_in n.slots
unfolding next_node
next_is g i n e = ap (λ o. nodes_in (option_map_or (λ (n : Node). n.slots) o [])) e

module _ (P : ProgramTables) (canonical : Bool) (g : Graph) (same : ItemsAreSlots P g) where
  pub spelled_walks : {is : List Item} {table after : Table} {text : List ℕ} → Spell P canonical g is table text after → Walk (next_node g) (nodes_in (slots_in is)) (objects table) (objects after)
  spelled_walks (over t) = walk_over
  spelled_walks (plain {kind = kind} {s = s} {is = is} {table = table} {after = after} own r n t rest) =
      subst (λ xs. Walk (next_node g) xs (objects table) (objects after)) (sym (no_node kind.base s own (slots_in is) n)) (spelled_walks rest)
  spelled_walks (null r t rest) = spelled_walks rest
  spelled_walks (again {i = i} {table = table} r h t rest) = walk_again (sym (has_met table i) ∙ h) (spelled_walks rest)
  spelled_walks (anew {i = i} {n = n} {table = table} {mid = mid} {last = last} r h e at d t own rest) =
      first (sym (has_met table i) ∙ h)
      (subst (λ xs. Walk (next_node g) xs (objects table ++ i ∷ []) (objects last)) (ap nodes_in (same i n at) ∙ sym (next_is g i n at))
      (subst (λ xs. Walk (next_node g) (nodes_in (slots_in (items_of P n))) xs (objects last)) (objects-append mid (Object i ∷ []) ∙ ap (λ z. z ++ i ∷ []) (describes_objects P canonical d)) (spelled_walks own)))
      (spelled_walks rest)
