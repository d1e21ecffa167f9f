use Rattle.std.proofs.Common.{◌≡◌, drop}
use Rattle.nr_prog.specs.Faults.{first_fault}
use Rattle.nr_prog.specs.Rules.{class_fault}
use Rattle.nr_prog.proofs.form.classes.check_interfaces.Given as goal

abbrev pub invariant-loop-interface : goal.invariant-loop-interface
invariant-loop-interface l =
    first_fault (λ place. class_fault l.pool) l.interface-index (drop l.interface-index l.interfaces) ≡ first_fault (λ place. class_fault l.pool) 0 l.interfaces
