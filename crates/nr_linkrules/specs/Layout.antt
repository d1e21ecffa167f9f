-- The classes of a program laid out: what stands above each, and the slots of its objects. Where the classes keep the rules on
-- classes, these are the entries of the linked program.
use Rattle.std.specs.Prelude.{ℕ, ◌+◌, List, [], ◌∷◌, length, reverse, not, Option, Some, None, Result, Ok, Err}
use Rattle.std.specs.List.{filter, flat_map, range_with_len}
use Rattle.std.specs.Option.{option_and_then, option_map, option_map_or, option_to_list}
use Rattle.nr_base.specs.DescReading.{desc_of}
use Rattle.nr_base.specs.declared.desc.fault.DescFault.{DescFault}
use Rattle.nr_base.specs.declared.desc.types.Desc.{Desc}
use Rattle.nr_base.specs.declared.desc.types.DescBase.{DescBase}
use Rattle.nr_base.specs.declared.desc.types.DescBase.TheVariants as desc_bases
use Rattle.nr_prog.specs.declared.member.Field.{Field}
use Rattle.nr_prog.specs.declared.parts.ClassParts.{ClassParts}
use Rattle.nr_prog.specs.declared.pool.PoolEntry.{PoolEntry}
use Rattle.nr_linked.specs.declared.program.kind.Base.{Base}
use Rattle.nr_linked.specs.declared.program.kind.Base.TheVariants as bases
use Rattle.nr_linked.specs.declared.program.kind.Kind.{Kind}
use Rattle.nr_linked.specs.declared.program.tables.ClassInfo.{ClassInfo}
use Rattle.nr_linked.specs.declared.program.tables.ProgramTables.{ProgramTables}
use Rattle.nr_linked.specs.declared.program.tables.SlotInfo.{SlotInfo}
use Rattle.nr_prog.specs.Members.{is_static}
use Rattle.nr_prog.specs.Pool.{text_at}
use Rattle.nr_linked.specs.Programs.{class_at, class_named, superclasses}
use Rattle.nr_linkrules.specs.Outline.{some_text}
use Rattle.nr_linkrules.specs.Reaches.{reaches}

-- ---- kinds

abbrev pub base_of : ProgramTables → DescBase → Option Base
base_of P desc_bases.Bool = Some bases.Bool
base_of P desc_bases.Byte = Some bases.Byte
base_of P desc_bases.Char = Some bases.Char
base_of P desc_bases.Short = Some bases.Short
base_of P desc_bases.Int = Some bases.Int
base_of P desc_bases.Long = Some bases.Long
base_of P (desc_bases.Object name) = option_map (λ c. bases.Object c) (class_named P name)

-- the kind that a descriptor says; none where its class is no class of the program
abbrev pub kind_of : ProgramTables → Desc → Option Kind
kind_of P d = option_map (λ b. record { dims = d.dims; base = b }) (base_of P d.base)

abbrev pub read_desc : Result Desc DescFault → Option Desc
read_desc (Ok d) = Some d
read_desc (Err e) = None

-- the kind that the text of a descriptor says
unfoldable pub kind_said : ProgramTables → List ℕ → Option Kind
kind_said P text = option_and_then (kind_of P) (read_desc (desc_of text))

-- ---- what stands above

-- in the order of the table
unfoldable pub supers_in : ProgramTables → ℕ → List ℕ
supers_in P c = filter (reaches P c) (range_with_len 0 (length P.classes))

-- ---- slots

-- the slot of a field of class c with this name and this descriptor
abbrev pub slot_for : ProgramTables → ℕ → List ℕ → List ℕ → Option SlotInfo
slot_for P c name desc =
    option_map (λ k. record { declared_in = c; name = name; desc = desc; kind = k }) (kind_said P desc)

unfoldable pub slot_of : ProgramTables → ℕ → List PoolEntry → Field → Option SlotInfo
slot_of P c pool f = slot_for P c (some_text (text_at pool f.name)) (some_text (text_at pool f.desc))

-- of its fields that aren't static, in their order
unfoldable pub slots_read : ProgramTables → ℕ → ClassParts → List SlotInfo
slots_read P c parts =
    flat_map (λ f. option_to_list (slot_of P c parts.pool f)) (filter (λ f. not (is_static f.flags)) parts.fields)

abbrev pub slots_declared : ProgramTables → ℕ → List SlotInfo
slots_declared P c = option_map_or (λ e. option_map_or (slots_read P c) e.read []) (class_at P c) []

-- those of its superclasses first, from the topmost down
unfoldable pub slots_in : ProgramTables → ℕ → List SlotInfo
slots_in P c = flat_map (slots_declared P) (reverse (superclasses P c))

-- ---- the table

-- a built-in class stands there as it is
abbrev pub laid_class : ProgramTables → ℕ → ClassInfo → ClassInfo
laid_class P c e = option_map_or (λ parts. record e { supers = supers_in P c; slots = slots_in P c }) e.read e

-- f of each item and its number, where the first has number n
unfoldable pub numbered : {X Y : Type 0} → (ℕ → X → Y) → ℕ → List X → List Y
numbered f n [] = []
numbered f n (x ∷ xs) = f n x ∷ numbered f (n + 1) xs

unfoldable pub laid_out : ProgramTables → ProgramTables
laid_out P = record P { classes = numbered (laid_class P) 0 P.classes }
