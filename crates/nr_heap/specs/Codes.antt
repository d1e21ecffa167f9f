-- The code of objects.
use Rattle.std.specs.Prelude.{List, refl}
use Rattle.std.specs.Coded.{Coded, code_by, coded×, coded_list}
use Rattle.nr_linked.specs.declared.program.kind.Kind.{Kind}
use Rattle.nr_linked.specs.contracts.program.kind.Kind as kind
use Rattle.nr_model.specs.declared.value.Value.{Value}
use Rattle.nr_model.specs.contracts.value.Value as value
use Rattle.nr_model.specs.Heaps.{Obj}

abbrev pub obj_code : Coded Obj
obj_code = code_by (Kind × List Value) (coded× kind.the_row.coded (coded_list value.the_row.coded)) (λ o. (o.kind, o.slots)) (λ p. record { kind = p.0; slots = p.1 }) (λ _. refl)
