-- Which kinds of objects and arrays a call restores: the project's own rule.
use Rattle.std.specs.Prelude.{Bool, false, ◌||◌}
use Rattle.std.specs.Option.{option_map_or}
use Rattle.nr_linked.specs.declared.program.kind.Kind.{Kind}
use Rattle.nr_linked.specs.declared.program.built_in.BuiltIn.TheVariants.{Restorable}
use Rattle.nr_linked.specs.declared.program.tables.ProgramTables.{ProgramTables}
use Rattle.nr_linked.specs.BuiltIns.{built_in}
use Rattle.nr_linked.specs.Kinds.{class_in, is_array}
use Rattle.nr_linked.specs.Subtypes.{is_above}

-- an array, or an object whose class implements nrmi/Restorable
abbrev pub is_restorable : ProgramTables → Kind → Bool
is_restorable P k = is_array k || option_map_or (λ c. is_above P c (built_in P Restorable)) (class_in k.base) false
