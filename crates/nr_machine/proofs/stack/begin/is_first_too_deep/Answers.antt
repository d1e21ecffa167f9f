use Rattle.std.proofs.Common.{◌≡◌, ◌+◌, ◌∙◌, ap, ap₂, sym}
use Rattle.std.specs.Prelude.{nat_lt}
use Rattle.nr_linked.specs.declared.program.tables.MethodInfo.{MethodInfo}
use Rattle.nr_linked.specs.Programs.{method_at}
use Rattle.nr_model.specs.Outcomes.{max_value_slots}
use Rattle.nr_machine.proofs.Calls.{in_range}
use Rattle.nr_machine.proofs.Starting.{begins_deep, is_some_of}
use Rattle.nr_machine.proofs.stack.begin.is_first_too_deep.Goals as goal

pub method-info-requires : goal.method-info-requires
method-info-requires c = let i = is_some_of (method_at c.args.program.now c.args.method) c.requires in in_range c.args.program.now c.args.method i.0 i.1

pub returns : goal.returns
returns c = λ h args s b.
    let i : MethodInfo = c.method-info.result.now in
    let slots : c.from.result + c.from-2.result ≡ i.max_locals + i.max_stack = ap₂ ◌+◌ c.from.ensures c.from-2.ensures in
    begins_deep c.args.program.now h c.args.method args s i c.method-info.ensures b ∙ ap (λ n. nat_lt max_value_slots n) (sym slots)
