-- Contents of a stream: Java Object Serialization Specification 6.4, in the project's profile.
use Rattle.std.specs.Prelude.{◌≡◌, ℕ, suc, ℤ, List, [], ◌∷◌, ◌++◌, length, Bool, true, false, Some, if◌then◌else◌}
use Rattle.std.specs.Int.{Width, w8, w16, w32, w64, to_be_bytes, cast_unsigned}
use Rattle.nr_linked.specs.declared.program.kind.Base.{Base}
use Rattle.nr_linked.specs.declared.program.kind.Base.TheVariants as bases
use Rattle.nr_linked.specs.declared.program.kind.Kind.{Kind}
use Rattle.nr_linked.specs.declared.program.tables.ProgramTables.{ProgramTables}
use Rattle.nr_linked.specs.Kinds.{is_array, is_reference}
use Rattle.nr_model.specs.Heaps.{on_some}
use Rattle.nr_graph.specs.declared.graph.Slot.{Slot}
use Rattle.nr_graph.specs.declared.graph.Slot.TheVariants.{Int, Long, Null, Node as At}
use Rattle.nr_graph.specs.declared.graph.Node.{Node}
use Rattle.nr_graph.specs.declared.graph.Graph.{Graph}
use Rattle.nr_graph.specs.Graphs.{node_at}
use Rattle.nr_graph.specs.StreamOrder.{stream_kind}
use Rattle.nr_serform.specs.Descriptions.{Describes}
use Rattle.nr_serform.specs.Entries.{Object}
use Rattle.nr_serform.specs.Handles.{Table, has, handle_text, objects}

-- what a place holds, and the kind that is wanted there
abbrev pub Item : Type 0
Item = Kind × Slot

-- the items of a node from its k-th slot on, which are these, in their order
abbrev pub items_from : ProgramTables → Node → ℕ → List Slot → List Item
items_from P n k [] = []
items_from P n k (s ∷ ss) = on_some (stream_kind P n.kind k) [] (λ kind. (kind, s) ∷ []) ++ items_from P n (suc k) ss

unfoldable pub items_of : ProgramTables → Node → List Item
items_of P n = items_from P n 0 n.slots

-- ---- numbers, the most significant byte first

abbrev pub number_width : Base → Width
number_width bases.Bool = w8
number_width bases.Byte = w8
number_width bases.Char = w16
number_width bases.Short = w16
number_width bases.Long = w64
number_width base = w32

abbrev pub signed_text : Width → ℤ → List ℕ
signed_text w n = to_be_bytes w (cast_unsigned w n)

abbrev pub IsNumberText : Base → Slot → List ℕ → Type 0
IsNumberText base (Int n) text = text ≡ signed_text (number_width base) n
IsNumberText base (Long n) text = text ≡ signed_text w64 n
IsNumberText base s text = ⊥

-- ---- objects and arrays

abbrev pub tag : Kind → ℕ
tag kind = if is_array kind then 0x75 else 0x73

-- behind its description an array has its length
abbrev pub size_text : Node → List ℕ
size_text n = if is_array n.kind then to_be_bytes w32 (length n.slots) else []

-- The text spells the items one behind the other, where `table` has the handles that were given before, and `after` those
-- that were given then. An object that has a handle is always written as that, and the numbers of nodes go up in the order
-- in which they are given one.
pub data Spell (P : ProgramTables) (canonical : Bool) (g : Graph) : List Item → Table → List ℕ → Table → Type 0 where
  over : {table : Table} {text : List ℕ} → text ≡ [] → Spell P canonical g [] table text table
  plain : {kind : Kind} {s : Slot} {is : List Item} {table after : Table} {text rest : List ℕ} (own : List ℕ)
      → is_reference kind ≡ false → IsNumberText kind.base s own → text ≡ own ++ rest
      → Spell P canonical g is table rest after → Spell P canonical g ((kind, s) ∷ is) table text after
  null : {kind : Kind} {is : List Item} {table after : Table} {text rest : List ℕ} → is_reference kind ≡ true
      → text ≡ 0x70 ∷ rest → Spell P canonical g is table rest after → Spell P canonical g ((kind, Null) ∷ is) table text after
  again : {kind : Kind} {i : ℕ} {is : List Item} {table after : Table} {text rest : List ℕ} → is_reference kind ≡ true
      → has table (Object i) ≡ true → text ≡ handle_text table (Object i) ++ rest
      → Spell P canonical g is table rest after → Spell P canonical g ((kind, At i) ∷ is) table text after
  anew : {kind : Kind} {i : ℕ} {n : Node} {is : List Item} {table mid last after : Table} {text desc own rest : List ℕ}
      → is_reference kind ≡ true → has table (Object i) ≡ false → i ≡ length (objects table) → node_at g i ≡ Some n
      → Describes P canonical (Some n.kind) table desc mid
      → text ≡ tag n.kind ∷ (desc ++ size_text n ++ own ++ rest)
      → Spell P canonical g (items_of P n) (mid ++ Object i ∷ []) own last
      → Spell P canonical g is last rest after → Spell P canonical g ((kind, At i) ∷ is) table text after
