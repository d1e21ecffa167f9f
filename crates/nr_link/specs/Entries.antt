-- What entries of the tables are made of.
use Rattle.std.specs.Prelude.{ℕ, List, Option, None, if◌then◌else◌}
use Rattle.std.specs.List.{flat_map}
use Rattle.std.specs.Option.{option_to_list}
use Rattle.nr_base.specs.ModifiedUtf8.{IsModifiedUtf8}
use Rattle.nr_prog.specs.declared.member.Field.{Field}
use Rattle.nr_prog.specs.declared.member.Method.{Method}
use Rattle.nr_prog.specs.declared.pool.PoolEntry.{PoolEntry}
use Rattle.nr_linked.specs.declared.program.tables.ProgramTables.{ProgramTables}
use Rattle.nr_linked.specs.declared.program.tables.SlotInfo.{SlotInfo}
use Rattle.nr_prog.specs.Members.{is_static}
use Rattle.nr_prog.specs.Pool.{text_at}
use Rattle.nr_linkrules.specs.Layout.{slot_of}
use Rattle.nr_linkrules.specs.Outline.{class_number, some_text}

-- the numbers of the classes that the indices of a constant pool name, of those that are known
abbrev pub numbers_of : List (List ℕ) → List PoolEntry → List ℕ → List ℕ
numbers_of names pool indices = flat_map (λ i. option_to_list (class_number names pool i)) indices

-- a method with a name and a descriptor
pub record HasTexts (pool : List PoolEntry) (m : Method) : Type 0 where
  pub name : IsModifiedUtf8 (some_text (text_at pool m.name))
  pub desc : IsModifiedUtf8 (some_text (text_at pool m.desc))

-- a field with a name and a descriptor
pub record HasFieldTexts (pool : List PoolEntry) (f : Field) : Type 0 where
  pub name : IsModifiedUtf8 (some_text (text_at pool f.name))
  pub desc : IsModifiedUtf8 (some_text (text_at pool f.desc))

-- the slot of a field; a static one has none
abbrev pub slot_or_none : ProgramTables → ℕ → List PoolEntry → Field → Option SlotInfo
slot_or_none P c pool f = if is_static f.flags then None else slot_of P c pool f
