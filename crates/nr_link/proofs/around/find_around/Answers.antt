use Rattle.std.proofs.Common.{◌≡◌, [], ap}
use Rattle.std.specs.Prelude.{Option, None}
use Rattle.std.specs.Option.{option_map_or, option_or}
use Rattle.nr_prog.specs.declared.body.whole.Body.{Body}
use Rattle.nr_linked.specs.declared.program.tables.MethodInfo.{MethodInfo}
use Rattle.nr_linked.specs.declared.program.tables.ProgramTables.{ProgramTables}
use Rattle.nr_linkrules.specs.Faults.{first_of}
use Rattle.nr_linkrules.specs.SiteRules.{around_fault, handler_fault, map_fault, pool_of}
use Rattle.nr_link.proofs.around.find_around.Goals as goal

without_code : (P : ProgramTables) (i : MethodInfo) → i.body ≡ None → around_fault P i ≡ None
unfolding around_fault first_of
without_code P i none =
    ap
    (λ (o : Option Body).
    option_or (first_of (handler_fault P (pool_of P i)) (option_map_or (λ (b : Body). b.handlers) o [])) (first_of (map_fault P) (option_map_or (λ (b : Body). b.maps) o [])))
    none

pub returns-in_default-clause-fault : goal.returns-in_default-clause-fault
returns-in_default-clause-fault c = without_code c.args.tables.now c.args.method.now c.in_default.is
