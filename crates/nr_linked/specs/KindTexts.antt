-- The descriptors of kinds: JVM Specification 4.3.2 and 4.3.3, with the names of the classes.
use Rattle.std.specs.Prelude.{ℕ, List, [], Option, map}
use Rattle.std.specs.Option.{option_map, option_map_or}
use Rattle.nr_base.specs.declared.desc.types.DescBase.{DescBase}
use Rattle.nr_base.specs.declared.desc.types.DescBase.TheVariants as desc_bases
use Rattle.nr_base.specs.declared.desc.types.Desc.{Desc}
use Rattle.nr_base.specs.Descs.{desc_text, method_text}
use Rattle.nr_linked.specs.declared.program.kind.Base.{Base}
use Rattle.nr_linked.specs.declared.program.kind.Base.TheVariants as bases
use Rattle.nr_linked.specs.declared.program.kind.Kind.{Kind}
use Rattle.nr_linked.specs.declared.program.tables.ProgramTables.{ProgramTables}
use Rattle.nr_linked.specs.Programs.{class_at}

abbrev pub class_name : ProgramTables → ℕ → List ℕ
class_name P c = option_map_or (λ e. e.name) (class_at P c) []

abbrev pub base_desc : ProgramTables → Base → DescBase
base_desc P bases.Bool = desc_bases.Bool
base_desc P bases.Byte = desc_bases.Byte
base_desc P bases.Char = desc_bases.Char
base_desc P bases.Short = desc_bases.Short
base_desc P bases.Int = desc_bases.Int
base_desc P bases.Long = desc_bases.Long
base_desc P (bases.Object c) = desc_bases.Object (class_name P c)

-- the descriptor that says the kind
abbrev pub kind_desc : ProgramTables → Kind → Desc
kind_desc P k = record { dims = k.dims; base = base_desc P k.base }

abbrev pub kind_text : ProgramTables → Kind → List ℕ
kind_text P k = desc_text (kind_desc P k)

-- the text of the descriptor of a method with these parameters and this result
abbrev pub signature_text : ProgramTables → List Kind → Option Kind → List ℕ
signature_text P params result = method_text (record { params = map (kind_desc P) params; result = option_map (kind_desc P) result })
