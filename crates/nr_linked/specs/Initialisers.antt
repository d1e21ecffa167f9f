-- Instance initialisers (JVM Specification 2.9.1).
use Rattle.std.specs.Prelude.{Bool, codes}
use Rattle.std.specs.Str.{bytes_eq}
use Rattle.nr_linked.specs.declared.program.tables.MethodInfo.{MethodInfo}

abbrev pub is_initialiser : MethodInfo → Bool
is_initialiser m = bytes_eq m.name (codes "<init>")
