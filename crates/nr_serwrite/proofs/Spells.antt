-- Texts of two lists of items, and a new object as a step of a work list.
use Rattle.std.proofs.Common.{◌≡◌, ℕ, Bool, true, false, List, [], ◌∷◌, ◌++◌, length, refl, sym, ap, ◌∙◌, append_assoc, Some}
use Rattle.nr_linked.specs.declared.program.kind.Kind.{Kind}
use Rattle.nr_linked.specs.declared.program.tables.ProgramTables.{ProgramTables}
use Rattle.nr_linked.specs.Kinds.{is_reference}
use Rattle.nr_graph.specs.declared.graph.Slot.TheVariants.{Node as At}
use Rattle.nr_graph.specs.declared.graph.Node.{Node}
use Rattle.nr_graph.specs.declared.graph.Graph.{Graph}
use Rattle.nr_graph.specs.Graphs.{node_at}
use Rattle.nr_serform.specs.Descriptions.{Describes}
use Rattle.nr_serform.specs.Entries.{Object}
use Rattle.nr_serform.specs.Handles.{Table, has, handle_text, objects}
use Rattle.nr_serform.specs.Spelling.{Item, Spell, over, plain, null, again, anew, items_of, size_text, tag}

module _ (P : ProgramTables) (canonical : Bool) (g : Graph) where
  pub record Parts (xs ys : List Item) (table : Table) (text : List ℕ) (after : Table) : Type 0 where
    pub first : List ℕ
    pub rest : List ℕ
    pub mid : Table
    pub text_is : text ≡ first ++ rest
    pub front : Spell P canonical g xs table first mid
    pub back : Spell P canonical g ys mid rest after

  -- a text of two lists of items is a text of the first and then one of the second
  pub split : (xs ys : List Item) {table after : Table} {text : List ℕ} → Spell P canonical g (xs ++ ys) table text after → Parts xs ys table text after
  split [] ys {table} {text = text} s = record { first = []; rest = text; mid = table; text_is = refl; front = over refl; back = s }
  split (x ∷ xs) ys (plain own r n t s) =
      let p = split xs ys s in
      record {
        first = own ++ p.first;
        rest = p.rest;
        mid = p.mid;
        text_is = t ∙ ap (λ z. own ++ z) p.text_is ∙ sym (append_assoc own p.first p.rest);
        front = plain own r n refl p.front;
        back = p.back;
      }
  split (x ∷ xs) ys (null r t s) =
      let p = split xs ys s in
      record { first = 0x70 ∷ p.first; rest = p.rest; mid = p.mid; text_is = t ∙ ap (λ z. 0x70 ∷ z) p.text_is; front = null r refl p.front; back = p.back }
  split (x ∷ xs) ys {table} (again {i = i} r h t s) =
      let p = split xs ys s in
      let k = handle_text table (Object i) in
      record {
        first = k ++ p.first;
        rest = p.rest;
        mid = p.mid;
        text_is = t ∙ ap (λ z. k ++ z) p.text_is ∙ sym (append_assoc k p.first p.rest);
        front = again r h refl p.front;
        back = p.back;
      }
  split (x ∷ xs) ys (anew {n = n} {desc = desc} {own = own} r h e nd d t o s) =
      let p = split xs ys s in
      let head = desc ++ size_text n ++ own in
      record {
        first = tag n.kind ∷ (head ++ p.first);
        rest = p.rest;
        mid = p.mid;
        text_is = t ∙ ap (λ z. tag n.kind ∷ (head ++ z)) p.text_is ∙ ap (λ z. tag n.kind ∷ z) (sym (append_assoc head p.first p.rest));
        front = anew r h e nd d refl o p.front;
        back = p.back;
      }

  -- a new object, then what is left
  pub open_new : (kind : Kind) (i : ℕ) (n : Node) (is : List Item) (table mid after : Table) (desc rest : List ℕ) → is_reference kind ≡ true → has table (Object i) ≡ false
      → i ≡ length (objects table) → node_at g i ≡ Some n → Describes P canonical (Some n.kind) table desc mid
      → Spell P canonical g (items_of P n ++ is) (mid ++ Object i ∷ []) rest after
      → Spell P canonical g ((kind, At i) ∷ is) table ((tag n.kind ∷ (desc ++ size_text n)) ++ rest) after
  open_new kind i n is table mid after desc rest r h e nd d s =
      let p = split (items_of P n) is s in
      let head = desc ++ size_text n in
      anew r h e nd d (ap (λ z. tag n.kind ∷ (head ++ z)) p.text_is ∙ ap (λ z. tag n.kind ∷ z) (sym (append_assoc head p.first p.rest))) p.front p.back
