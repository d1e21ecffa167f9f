-- What is kept beside the tables.
use Rattle.std.specs.Prelude.{◌≡◌, ℕ, ◌<◌, ◌^◌, List, [], length, map, Option, None, Some, IfSome, find, IsSomeAnd, slice_get}
use Rattle.std.specs.Option.{option_and_then, option_map_or}
use Rattle.nr_prog.specs.declared.member.Field.{Field}
use Rattle.nr_prog.specs.declared.parts.ClassParts.{ClassParts}
use Rattle.nr_prog.specs.declared.pool.PoolEntry.{PoolEntry}
use Rattle.nr_prog.specs.Pool.{text_at}
use Rattle.nr_names.specs.declared.table.Key.{Key}
use Rattle.nr_names.specs.declared.table.Table.{Table}
use Rattle.nr_names.specs.Numbers.{number_in, numbers_of, texts}
use Rattle.nr_names.specs.Tables.{Lists, has_key, key_by, key_of, place_in}
use Rattle.nr_linked.specs.declared.program.tables.ProgramTables.{ProgramTables}
use Rattle.nr_linked.specs.declared.program.tables.SlotInfo.{SlotInfo}
use Rattle.nr_linked.specs.Programs.{method_at, methods_of}
use Rattle.nr_linked.specs.Slots.{slots_of}
use Rattle.nr_linkrules.specs.Reaches.{HasSteps, rows_of}
use Rattle.nr_link.specs.Coded.{read_class}
use Rattle.nr_link.specs.Leading.{LeadAsInterfaces}
use Rattle.nr_link.specs.Meanings.{class_meanings}
use Rattle.nr_link.specs.declared.lookup.Kept.{Kept}
use Rattle.nr_link.specs.declared.lookup.Lookup.{Lookup}
use Rattle.nr_link.specs.declared.lookup.Sought.{Sought}

-- ---- the keys of members, by the numbers of these texts

-- of method m, which class c declares
abbrev pub method_key : ProgramTables → List (List ℕ) → ℕ → ℕ → Option Key
method_key P known c m = option_and_then (λ i. key_of known c i.name i.desc) (method_at P m)

-- of a field of class c, whose constant pool is given
abbrev pub field_key : List (List ℕ) → ℕ → List PoolEntry → Field → Option Key
field_key known c pool f =
    key_by c (option_and_then (number_in known) (text_at pool f.name)) (option_and_then (number_in known) (text_at pool f.desc))

abbrev pub field_keys : List (List ℕ) → ℕ → ClassParts → List (Option Key)
field_keys known c parts = map (field_key known c parts.pool) parts.fields

-- of a slot, which its class declares
abbrev pub slot_key : List (List ℕ) → SlotInfo → Option Key
slot_key known s = key_of known s.declared_in s.name s.desc

-- ---- what is kept

-- the methods of class c, by their keys: the first of a key
abbrev pub ListsMethods : ProgramTables → List (List ℕ) → ℕ → Table → Type 0
ListsMethods P known c t = (k : Key) → place_in t k ≡ find (λ m. has_key k (method_key P known c m)) (methods_of P c)

pub record IsKept (P : ProgramTables) (known : List (List ℕ)) (c : ℕ) (k : Kept) : Type 0 where
  pub meanings : k.meanings ≡ class_meanings P c
  pub numbers : k.numbers ≡ option_map_or (λ parts. numbers_of known parts.pool) (read_class P c) []
  pub methods : ListsMethods P known c k.methods
  pub fields : Lists k.fields (option_map_or (field_keys known c) (read_class P c) [])
  pub slots : Lists k.slots (map (slot_key known) (slots_of P c))

-- of each class, by its number
pub record AreKept (P : ProgramTables) (known : List (List ℕ)) (kept : List Kept) : Type 0 where
  pub len : length kept ≡ length P.classes
  pub each : (c : ℕ) → IfSome (slice_get kept c) (IsKept P known c)

pub record IsIndexed (P : ProgramTables) (l : Lookup) : Type 0 where
  pub closed : l.rows.now ≡ rows_of P (length P.classes)
  pub steps : HasSteps P
  pub few_classes : length P.classes < 2 ^ 32
  pub few_methods : length P.methods < 2 ^ 32
  pub few_slots : (c : ℕ) → length (slots_of P c) < 2 ^ 32
  pub lists : LeadAsInterfaces l.lists P
  pub kept : AreKept P (texts l.texts) l.classes

-- the numbers of a member that is looked for are those of its name and its descriptor
abbrev pub IsSought : List (List ℕ) → Sought → Type 0
IsSought known s = IfSome s.numbers (λ p. (number_in known s.name.now ≡ Some p.0) × (number_in known s.desc.now ≡ Some p.1))
