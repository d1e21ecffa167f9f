-- A graph has one canonical text at most.
use Rattle.std.proofs.Common.{◌≡◌, ℕ, Bool, true, false, List, [], ◌∷◌, ◌++◌, refl, sym, ap, subst, ◌∙◌, true≢false}
use Rattle.std.specs.Prelude.{Option, Some}
use Rattle.nr_linked.specs.declared.program.kind.Base.{Base}
use Rattle.nr_linked.specs.declared.program.kind.Kind.{Kind}
use Rattle.nr_linked.specs.declared.program.tables.ProgramTables.{ProgramTables}
use Rattle.nr_linked.specs.Kinds.{is_array}
use Rattle.nr_model.proofs.Paths.{some_eq}
use Rattle.nr_graph.specs.declared.graph.Slot.{Slot}
use Rattle.nr_graph.specs.declared.graph.Slot.TheVariants.{Int, Long, Null, Node as At}
use Rattle.nr_graph.specs.declared.graph.Node.{Node}
use Rattle.nr_graph.specs.declared.graph.Graph.{Graph}
use Rattle.nr_serform.specs.Descriptions.{Describes, IsNumberOf, nothing, again as described_again, anew as described, own_text}
use Rattle.nr_serform.specs.Entries.{Object}
use Rattle.nr_serform.specs.Handles.{Table, handle_text}
use Rattle.nr_serform.specs.Spelling.{IsNumberText, Item, Spell, over, plain, null, again, anew, items_of, size_text, tag}
use Rattle.nr_serform.specs.Streams.{IsCanonical, header}
use Rattle.nr_serwrite.proofs.Described.{Numbered}

one_number : (P : ProgramTables) (kind : Kind) (m n : ℕ) → IsNumberOf P true kind m → IsNumberOf P true kind n → m ≡ n
one_number P kind m n a b = by (is_array kind) a b
  where
    by : (x : Bool) → Numbered P kind m x true → Numbered P kind n x true → m ≡ n
    by true a b = a ∙ sym b
    by false a b = a ∙ sym b

record Same (a b : List ℕ) (t u : Table) : Type 0 where
  pub text : a ≡ b
  pub table : t ≡ u

one_described : (P : ProgramTables) {kind : Option Kind} {table t u : Table} {a b : List ℕ} → Describes P true kind table a t → Describes P true kind table b u → Same a b t u
one_described P (nothing e) (nothing f) = record { text = e ∙ sym f; table = refl }
one_described P (described_again h e) (described_again k f) = record { text = e ∙ sym f; table = refl }
one_described P (described_again h e) (described m k n d f) = absurd (true≢false (sym h ∙ k))
one_described P (described m k n d f) (described_again h e) = absurd (true≢false (sym h ∙ k))
one_described P (described {kind = kind} {table = table} {up = up} m h i d e) (described {up = up'} n k j c f) =
    let same = one_described P d c in
    let number = one_number P kind m n i j in
    record {
      text = e ∙ (λ x. own_text P table kind (number x) ++ same.text x) ∙ sym f;
      table = same.table;
    }

one_number_text : (base : Base) (s : Slot) (a b : List ℕ) → IsNumberText base s a → IsNumberText base s b → a ≡ b
one_number_text base (Int n) a b x y = x ∙ sym y
one_number_text base (Long n) a b x y = x ∙ sym y
one_number_text base Null a b x y = absurd x
one_number_text base (At i) a b x y = absurd x

one_spelled : (P : ProgramTables) (g : Graph) {is : List Item} {table t u : Table} {a b : List ℕ} → Spell P true g is table a t → Spell P true g is table b u → Same a b t u
one_spelled P g (over e) (over f) = record { text = e ∙ sym f; table = refl }
one_spelled P g (plain {kind = kind} {s = s} own r n e x) (plain own' q m f y) =
    let rest = one_spelled P g x y in
    let first = one_number_text kind.base s own own' n m in
    record { text = e ∙ (λ i. first i ++ rest.text i) ∙ sym f; table = rest.table }
one_spelled P g (plain own r n e x) (null q f y) = absurd (true≢false (sym q ∙ r))
one_spelled P g (plain own r n e x) (again q h f y) = absurd (true≢false (sym q ∙ r))
one_spelled P g (plain own r n e x) (anew q h c nd d f o y) = absurd (true≢false (sym q ∙ r))
one_spelled P g (null q f y) (plain own r n e x) = absurd (true≢false (sym q ∙ r))
one_spelled P g (null r e x) (null q f y) =
    let rest = one_spelled P g x y in
    record { text = e ∙ ap (λ z. 0x70 ∷ z) rest.text ∙ sym f; table = rest.table }
one_spelled P g (again q h f y) (plain own r n e x) = absurd (true≢false (sym q ∙ r))
one_spelled P g (again {i = i} {table = table} r h e x) (again q k f y) =
    let rest = one_spelled P g x y in
    record { text = e ∙ ap (λ z. handle_text table (Object i) ++ z) rest.text ∙ sym f; table = rest.table }
one_spelled P g (again r h e x) (anew q k c nd d f o y) = absurd (true≢false (sym h ∙ k))
one_spelled P g (anew q h c nd d f o y) (plain own r n e x) = absurd (true≢false (sym q ∙ r))
one_spelled P g (anew q k c nd d f o y) (again r h e x) = absurd (true≢false (sym h ∙ k))
one_spelled P g (anew {i = i} {n = n} {is = is} {table = table} {mid = mid} {last = last} {after = after} {desc = desc} {own = own} {rest = rest} r h e nd d t o s) (anew {n = n'} {mid = mid'} {last = last'} {after = after'} {desc = desc'} {own = own'} {rest = rest'} r' h' e' nd' d' t' o' s') =
    let node : n' ≡ n = some_eq (sym nd' ∙ nd) in
    let d'' : Describes P true (Some n.kind) table desc' mid' = subst (λ (m : Node). Describes P true (Some m.kind) table desc' mid') node d' in
    let first = one_described P d d'' in
    let o'' : Spell P true g (items_of P n) (mid ++ Object i ∷ []) own' last' =
    subst (λ z. Spell P true g (items_of P n) (z ++ Object i ∷ []) own' last') (sym first.table) (subst (λ (m : Node). Spell P true g (items_of P m) (mid' ++ Object i ∷ []) own' last') node o') in
    let inner = one_spelled P g o o'' in
    let s'' : Spell P true g is last rest' after' = subst (λ z. Spell P true g is z rest' after') (sym inner.table) s' in
    let others = one_spelled P g s s'' in
    let back : n ≡ n' = sym node in
    record {
      text = t ∙ (λ x. tag (back x).kind ∷ (first.text x ++ size_text (back x) ++ inner.text x ++ others.text x)) ∙ sym t';
      table = others.table;
    }

pub one_canonical : (P : ProgramTables) (a b : List ℕ) (g : Graph) → IsCanonical P a g → IsCanonical P b g → a ≡ b
one_canonical P a b g c d = c.begins ∙ ap (λ z. header ++ z) (one_spelled P g c.spelled d.spelled).text ∙ sym d.begins
