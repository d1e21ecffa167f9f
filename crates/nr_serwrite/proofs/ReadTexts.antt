-- A canonical text is one of those that are read.
use Rattle.std.proofs.Common.{ℕ, Bool, true, false, List, arith}
use Rattle.std.specs.Prelude.{Option}
use Rattle.nr_linked.specs.declared.program.kind.Kind.{Kind}
use Rattle.nr_linked.specs.declared.program.tables.ProgramTables.{ProgramTables}
use Rattle.nr_linked.specs.Kinds.{is_array}
use Rattle.nr_graph.specs.declared.graph.Graph.{Graph}
use Rattle.nr_serform.specs.Descriptions.{Describes, IsNumberOf, nothing, again as described_again, anew as described}
use Rattle.nr_serform.specs.Handles.{Table}
use Rattle.nr_serform.specs.Spelling.{Item, Spell, over, plain, null, again, anew}
use Rattle.nr_serform.specs.Streams.{IsCanonical, Spells}
use Rattle.nr_serwrite.proofs.Described.{Numbered}

number_read : (P : ProgramTables) (kind : Kind) (n : ℕ) → IsNumberOf P true kind n → IsNumberOf P false kind n
number_read P kind n h = by (is_array kind) h
  where
    by : (a : Bool) → Numbered P kind n a true → Numbered P kind n a false
    by true e = omega (arith, e)
    by false e = e

described_read : (P : ProgramTables) {kind : Option Kind} {table after : Table} {text : List ℕ} → Describes P true kind table text after → Describes P false kind table text after
described_read P (nothing t) = nothing t
described_read P (described_again h t) = described_again h t
described_read P (described {kind = kind} number h n d t) = described number h (number_read P kind number n) (described_read P d) t

spelled_read : (P : ProgramTables) (g : Graph) {is : List Item} {table after : Table} {text : List ℕ} → Spell P true g is table text after → Spell P false g is table text after
spelled_read P g (over t) = over t
spelled_read P g (plain own r n t s) = plain own r n t (spelled_read P g s)
spelled_read P g (null r t s) = null r t (spelled_read P g s)
spelled_read P g (again r h t s) = again r h t (spelled_read P g s)
spelled_read P g (anew r h e nd d t o s) = anew r h e nd (described_read P d) t (spelled_read P g o) (spelled_read P g s)

pub canonical_read : (P : ProgramTables) (text : List ℕ) (g : Graph) → IsCanonical P text g → Spells P text g
canonical_read P text g c = record {
  contents = c.contents;
  begins = c.begins;
  after = c.after;
  spelled = spelled_read P g c.spelled;
  whole = c.whole;
  spellable = c.spellable;
}
