-- Tables with what linking finds for methods.
use Rattle.std.specs.Prelude.{◌++◌, List, drop, map, take}
use Rattle.nr_linked.specs.declared.program.tables.MethodInfo.{MethodInfo}
use Rattle.nr_linked.specs.declared.program.tables.ProgramTables.{ProgramTables}
use Rattle.nr_linked.specs.Linked.{first_built_in_method}
use Rattle.nr_linkrules.specs.Completion.{completed}

abbrev pub loaded_methods : ProgramTables → List MethodInfo
loaded_methods P = take (first_built_in_method P) P.methods

abbrev pub later_methods : ProgramTables → List MethodInfo
later_methods P = drop (first_built_in_method P) P.methods

-- those of the built-in classes stand there as they are
abbrev pub finished : ProgramTables → ProgramTables
finished P = record P { methods = map (completed P) (loaded_methods P) ++ later_methods P }
