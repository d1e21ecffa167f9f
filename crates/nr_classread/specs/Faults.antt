-- The faults of class files, and what of them is told by other faults. The project's own rule.
use Rattle.std.specs.Prelude.{Bool, true, false}
use Rattle.nr_base.specs.declared.cur.Short.{Short}
use Rattle.nr_prog.specs.declared.fault.FormFault.{FormFault}
use Rattle.nr_prog.specs.declared.fault.FormFault.TheVariants.{NoMemory}
use Rattle.nr_classread.specs.declared.fault.ClassFault.{ClassFault}
use Rattle.nr_classread.specs.declared.fault.ClassFault.TheVariants as faults

-- want of memory may come at any time
abbrev pub is_free : ClassFault → Bool
is_free faults.NoMemory = true
is_free e = false

abbrev pub of_short : Short → ClassFault
of_short s = faults.Short s.at

-- a fault of the form as one of the file; want of memory is the same in both
abbrev pub of_form : FormFault → ClassFault
of_form NoMemory = faults.NoMemory
of_form e = faults.Form e
