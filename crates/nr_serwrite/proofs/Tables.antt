-- The objects that have a handle: they are those that were met, and a description adds none.
use Rattle.std.proofs.Common.{◌≡◌, ℕ, Bool, true, false, ◌||◌, List, [], ◌∷◌, ◌++◌, nat_eq, refl, ap, ◌∙◌, append-nil, if◌then◌else◌}
use Rattle.std.specs.Prelude.{Option}
use Rattle.nr_linked.specs.declared.program.kind.Kind.{Kind}
use Rattle.nr_linked.specs.declared.program.tables.ProgramTables.{ProgramTables}
use Rattle.nr_linked.specs.declared.program.tables.SlotInfo.{SlotInfo}
use Rattle.nr_linked.specs.Kinds.{is_reference}
use Rattle.nr_graph.specs.Walks.{is_met}
use Rattle.nr_serform.specs.Descriptions.{Describes, nothing, again, anew, described_fields, field_table, fields_table, own_table, string_table}
use Rattle.nr_serform.specs.Entries.{Class, Text, Object}
use Rattle.nr_serform.specs.Handles.{Table, has, objects}

pub objects-append : (a b : Table) → objects (a ++ b) ≡ objects a ++ objects b
objects-append [] b = refl
objects-append (Class k ∷ a) b = objects-append a b
objects-append (Text t ∷ a) b = objects-append a b
objects-append (Object i ∷ a) b = ap (λ x. i ∷ x) (objects-append a b)

-- an object has a handle exactly where it was met
pub has_met : (t : Table) (i : ℕ) → has t (Object i) ≡ is_met (objects t) i
has_met [] i = refl
has_met (Class k ∷ t) i = has_met t i
has_met (Text a ∷ t) i = has_met t i
has_met (Object j ∷ t) i = ap (λ b. nat_eq i j || b) (has_met t i)

objects_string : (t : Table) (a : List ℕ) → objects (string_table t a) ≡ objects t
objects_string t a = by (has t (Text a))
  where
    by : (b : Bool) → objects (if b then t else t ++ Text a ∷ []) ≡ objects t
    by true = refl
    by false = objects-append t (Text a ∷ []) ∙ append-nil (objects t)

objects_field : (t : Table) (s : SlotInfo) → objects (field_table t s) ≡ objects t
objects_field t s = by (is_reference s.kind)
  where
    by : (b : Bool) → objects (if b then string_table t s.desc else t) ≡ objects t
    by true = objects_string t s.desc
    by false = refl

pub objects_fields : (t : Table) (ss : List SlotInfo) → objects (fields_table t ss) ≡ objects t
objects_fields t [] = refl
objects_fields t (s ∷ ss) = objects_fields (field_table t s) ss ∙ objects_field t s

pub objects_own : (P : ProgramTables) (t : Table) (kind : Kind) → objects (own_table P t kind) ≡ objects t
objects_own P t kind =
    objects_fields (t ++ Class kind ∷ []) (described_fields P kind) ∙ objects-append t (Class kind ∷ []) ∙ append-nil (objects t)

-- a description gives no handle to an object
pub objects_described : (P : ProgramTables) (canonical : Bool) {kind : Option Kind} {table after : Table} {text : List ℕ} → Describes P canonical kind table text after → objects after ≡ objects table
objects_described P canonical (nothing t) = refl
objects_described P canonical (again h t) = refl
objects_described P canonical (anew {kind = kind} {table = table} number h n d t) = objects_described P canonical d ∙ objects_own P table kind
