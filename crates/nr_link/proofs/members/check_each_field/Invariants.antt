use Rattle.std.proofs.Common.{◌≡◌, drop}
use Rattle.nr_linkrules.specs.ClassRules.{field_fault}
use Rattle.nr_linkrules.specs.Faults.{first_of}
use Rattle.nr_link.proofs.members.check_each_field.Given as goal

abbrev pub invariant-loop-field : goal.invariant-loop-field
invariant-loop-field l =
    first_of (λ f. field_fault l.tables l.class.pool f.desc) (drop l.field-index l.fields) ≡ first_of (λ f. field_fault l.tables l.class.pool f.desc) l.fields
