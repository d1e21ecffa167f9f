use Rattle.std.proofs.Common.{◌≡◌, ◌≤◌, ◌*◌, sum_by, take}
use Rattle.nr_base.specs.Descs.{slots_of}
use Rattle.nr_base.proofs.desc.types.MethodDesc.slots.Given as goal

abbrev pub invariant-loop-param : goal.invariant-loop-param
invariant-loop-param l = (l.count ≡ sum_by slots_of (take l.param-index l.param-items)) × (l.count ≤ 2 * l.param-index)
