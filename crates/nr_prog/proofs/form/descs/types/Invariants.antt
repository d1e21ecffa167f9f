use Rattle.std.proofs.Common.{◌≡◌, map, take}
use Rattle.nr_prog.specs.BodyMaps.{type_of}
use Rattle.nr_prog.proofs.form.descs.types.Given as goal

abbrev pub invariant-loop-param : goal.invariant-loop-param
invariant-loop-param l = l.types ≡ map type_of (take l.param-index l.params)
