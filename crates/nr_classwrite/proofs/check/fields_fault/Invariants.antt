use Rattle.std.proofs.Common.{◌≡◌, drop}
use Rattle.nr_classwrite.specs.Faults.{first_fault, field_fault}
use Rattle.nr_classwrite.proofs.check.fields_fault.Given as goal

abbrev pub invariant-loop-field : goal.invariant-loop-field
invariant-loop-field l = first_fault (field_fault l.names) (drop l.field-index l.fields) ≡ first_fault (field_fault l.names) l.fn.fields
