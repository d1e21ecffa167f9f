-- The methods of a built-in class as entries of the tables.
use Rattle.std.specs.Prelude.{ℕ, ◌+◌, List, map}
use Rattle.nr_linked.specs.declared.program.built_in.BuiltIn.{BuiltIn}
use Rattle.nr_linked.specs.declared.program.tables.MethodInfo.{MethodInfo}
use Rattle.nr_linked.specs.BuiltIns.{built_in_class, number}
use Rattle.nr_linked.specs.BuiltInTables.{built_in_method}

-- where the first of the built-in classes has this number
abbrev pub methods_in : ℕ → BuiltIn → List MethodInfo
methods_in first_class b = map (built_in_method (first_class + number b)) (built_in_class b).methods
