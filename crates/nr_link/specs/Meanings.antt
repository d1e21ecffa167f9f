-- What texts mean in a program.
use Rattle.std.specs.Prelude.{ℕ, List, [], length, map, Bool, Option, is_none}
use Rattle.std.specs.List.{range_with_len}
use Rattle.std.specs.Option.{option_and_then, option_map, option_map_or}
use Rattle.nr_base.specs.DescReading.{method_of}
use Rattle.nr_base.specs.declared.desc.types.Desc.{Desc}
use Rattle.nr_prog.specs.declared.pool.PoolEntry.{PoolEntry}
use Rattle.nr_prog.specs.Pool.{text_in}
use Rattle.nr_prog.specs.TextForms.{class_desc}
use Rattle.nr_linked.specs.declared.program.tables.ProgramTables.{ProgramTables}
use Rattle.nr_linkrules.specs.ClassRules.{desc_fault, types_in}
use Rattle.nr_linkrules.specs.Faults.{first_of}
use Rattle.nr_linkrules.specs.Layout.{kind_of, kind_said}
use Rattle.nr_link.specs.Coded.{read_class}
use Rattle.nr_link.specs.declared.meanings.Meaning.{Meaning}

-- the class in the descriptor, where there is one, is one of the program
abbrev pub is_known : ProgramTables → Desc → Bool
is_known P d = is_none (desc_fault P d)

-- so is each class in the text, where it is a descriptor of a method
abbrev pub is_whole : ProgramTables → List ℕ → Bool
is_whole P text = is_none (first_of (desc_fault P) (types_in (method_of text)))

abbrev pub meaning_of : ProgramTables → List ℕ → Meaning
meaning_of P text = record {
  named = option_and_then (kind_of P) (class_desc text);
  said = kind_said P text;
  whole = is_whole P text;
}

-- of the text of each entry of a constant pool, by its place
abbrev pub meanings_of : ProgramTables → List PoolEntry → List (Option Meaning)
meanings_of P pool = map (λ e. option_map (meaning_of P) (text_in e)) pool

-- of the texts of a class that was loaded; and of each class, by its number
abbrev pub class_meanings : ProgramTables → ℕ → List (Option Meaning)
class_meanings P c = option_map_or (λ parts. meanings_of P parts.pool) (read_class P c) []

abbrev pub all_meanings : ProgramTables → List (List (Option Meaning))
all_meanings P = map (class_meanings P) (range_with_len 0 (length P.classes))
