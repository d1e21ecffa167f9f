-- Canonical texts: each spells its graph, and a graph has one at most.
use Rattle.std.proofs.Common.{◌≡◌, ℕ, Bool, true, false, List, [], ◌∷◌, ◌++◌, Option, Some, refl, sym, ap, subst, ◌∙◌, true≢false, arith}
use Rattle.nr_linked.specs.declared.program.kind.Base.{Base}
use Rattle.nr_linked.specs.declared.program.kind.Kind.{Kind}
use Rattle.nr_linked.specs.declared.program.tables.ProgramTables.{ProgramTables}
use Rattle.nr_linked.specs.Kinds.{is_array}
use Rattle.nr_model.proofs.Paths.{some_eq}
use Rattle.nr_graph.specs.declared.graph.Slot.{Slot}
use Rattle.nr_graph.specs.declared.graph.Slot.TheVariants.{Int, Long, Null, Node as At}
use Rattle.nr_graph.specs.declared.graph.Node.{Node}
use Rattle.nr_graph.specs.declared.graph.Graph.{Graph}
use Rattle.nr_serform.specs.Descriptions.{Describes, IsNumberOf, nothing, again as described_again, anew as described_anew, own_text}
use Rattle.nr_serform.specs.Entries.{Object}
use Rattle.nr_serform.specs.Handles.{Table, handle_text}
use Rattle.nr_serform.specs.Spelling.{IsNumberText, Item, Spell, over, plain, null, again, anew, items_of, size_text, tag}
use Rattle.nr_serform.specs.Streams.{IsCanonical, Spells, header}
use Rattle.nr_serlaws.proofs.Fields.{NumberBy}

-- ---- canonical texts spell

number_any : (P : ProgramTables) (kind : Kind) (n : ℕ) → IsNumberOf P true kind n → IsNumberOf P false kind n
number_any P kind n h = by (is_array kind) h
  where
    by : (b : Bool) → NumberBy P kind n b true → NumberBy P kind n b false
    by true h = omega (arith, h)
    by false h = h

describes_any : (P : ProgramTables) {o : Option Kind} {t after : Table} {text : List ℕ} → Describes P true o t text after → Describes P false o t text after
describes_any P (nothing t) = nothing t
describes_any P (described_again h t) = described_again h t
describes_any P (described_anew {kind = kind} number h n d t) = described_anew number h (number_any P kind number n) (describes_any P d) t

spell_any : (P : ProgramTables) (g : Graph) {is : List Item} {t after : Table} {text : List ℕ} → Spell P true g is t text after → Spell P false g is t text after
spell_any P g (over t) = over t
spell_any P g (plain own r n t rest) = plain own r n t (spell_any P g rest)
spell_any P g (null r t rest) = null r t (spell_any P g rest)
spell_any P g (again r h t rest) = again r h t (spell_any P g rest)
spell_any P g (anew r h e at d t o rest) = anew r h e at (describes_any P d) t (spell_any P g o) (spell_any P g rest)

pub canonical_spells : (P : ProgramTables) (text : List ℕ) (g : Graph) → IsCanonical P text g → Spells P text g
canonical_spells P text g h = record {
  contents = h.contents;
  begins = h.begins;
  after = h.after;
  spelled = spell_any P g h.spelled;
  whole = h.whole;
  spellable = h.spellable;
}

-- ---- one canonical text

one_number : (P : ProgramTables) (kind : Kind) (n m : ℕ) → IsNumberOf P true kind n → IsNumberOf P true kind m → n ≡ m
one_number P kind n m a b = by (is_array kind) a b
  where
    by : (c : Bool) → NumberBy P kind n c true → NumberBy P kind m c true → n ≡ m
    by true a b = a ∙ sym b
    by false a b = a ∙ sym b

record Same (a b : List ℕ) (t u : Table) : Type 0 where
  text : a ≡ b
  table : t ≡ u

-- from one table on
one_description : (P : ProgramTables) {o : Option Kind} {t after later : Table} {a b : List ℕ} → Describes P true o t a after → Describes P true o t b later → Same a b after later
one_description P (nothing e) (nothing f) = record { text = e ∙ sym f; table = refl }
one_description P (described_again h e) (described_again k f) = record { text = e ∙ sym f; table = refl }
one_description P (described_again h e) (described_anew number k n d f) = absurd (true≢false (sym h ∙ k))
one_description P (described_anew number h n d e) (described_again k f) = absurd (true≢false (sym k ∙ h))
one_description P (described_anew {kind = kind} {table = t} {up = up} number h n d e) (described_anew {up = more} other k m c f) =
    let r = one_description P d c in
    let s = one_number P kind number other n m in
    record { text = e ∙ (λ i. own_text P t kind (s i) ++ r.text i) ∙ sym f; table = r.table }

one_number_text : (base : Base) (s : Slot) (a b : List ℕ) → IsNumberText base s a → IsNumberText base s b → a ≡ b
one_number_text base (Int n) a b x y = x ∙ sym y
one_number_text base (Long n) a b x y = x ∙ sym y
one_number_text base Null a b x y = absurd x
one_number_text base (At i) a b x y = absurd x

one_spelling : (P : ProgramTables) (g : Graph) {is : List Item} {t after later : Table} {a b : List ℕ} → Spell P true g is t a after → Spell P true g is t b later → Same a b after later
one_spelling P g (over e) (over f) = record { text = e ∙ sym f; table = refl }
one_spelling P g (plain {kind = kind} {s = s} own r n e x) (plain other q m f y) =
    let z = one_spelling P g x y in
    let o = one_number_text kind.base s own other n m in
    record { text = e ∙ (λ i. o i ++ z.text i) ∙ sym f; table = z.table }
one_spelling P g (plain own r n e x) (null q f y) = absurd (true≢false (sym q ∙ r))
one_spelling P g (plain own r n e x) (again q h f y) = absurd (true≢false (sym q ∙ r))
one_spelling P g (plain own r n e x) (anew q h i at d f o y) = absurd (true≢false (sym q ∙ r))
one_spelling P g (null r e x) (plain other q m f y) = absurd (true≢false (sym r ∙ q))
one_spelling P g (null r e x) (null q f y) = let z = one_spelling P g x y in record { text = e ∙ ap (λ w. 0x70 ∷ w) z.text ∙ sym f; table = z.table }
one_spelling P g (again r h e x) (plain other q m f y) = absurd (true≢false (sym r ∙ q))
one_spelling P g (again {i = i} {table = t} r h e x) (again q k f y) = let z = one_spelling P g x y in record { text = e ∙ ap (λ w. handle_text t (Object i) ++ w) z.text ∙ sym f; table = z.table }
one_spelling P g (again r h e x) (anew q k i at d f o y) = absurd (true≢false (sym h ∙ k))
one_spelling P g (anew r h i at d e o x) (plain other q m f y) = absurd (true≢false (sym r ∙ q))
one_spelling P g (anew r h i at d e o x) (again q k f y) = absurd (true≢false (sym k ∙ h))
one_spelling P g (anew {i = i} {n = n} {is = is} {table = t} {mid = mid} {last = last} {after = after} {desc = desc} {own = own} {rest = rest} r h j at d e o x)
    (anew {n = m} {mid = mid'} {last = last'} {after = later} {desc = desc'} {own = own'} {rest = rest'} q k l at' d' f o' y) =
    let s : m ≡ n = some_eq (sym at' ∙ at) in
    let a = one_description P d (subst (λ (z : Node). Describes P true (Some z.kind) t desc' mid') s d') in
    let b = one_spelling P g o (subst (λ z. Spell P true g (items_of P n) (z ++ Object i ∷ []) own' last') (sym a.table) (subst (λ z. Spell P true g (items_of P z) (mid' ++ Object i ∷ []) own' last') s o')) in
    let c = one_spelling P g x (subst (λ z. Spell P true g is z rest' later) (sym b.table) y) in
    record {
      text = e ∙ (λ v. tag n.kind ∷ (a.text v ++ size_text n ++ b.text v ++ c.text v)) ∙ ap (λ (z : Node). tag z.kind ∷ (desc' ++ size_text z ++ own' ++ rest')) (sym s) ∙ sym f;
      table = c.table;
    }

pub one_canonical : (P : ProgramTables) (a b : List ℕ) (g : Graph) → IsCanonical P a g → IsCanonical P b g → a ≡ b
one_canonical P a b g h k = let s = one_spelling P g h.spelled k.spelled in h.begins ∙ ap (λ z. header ++ z) s.text ∙ sym k.begins
