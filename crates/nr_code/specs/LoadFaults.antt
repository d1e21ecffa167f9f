-- The faults of loading, and what of them is told by other faults. The project's own rule.
use Rattle.std.specs.Prelude.{ℕ, Bool, true, false}
use Rattle.nr_classread.specs.declared.fault.ClassFault.{ClassFault}
use Rattle.nr_classread.specs.declared.fault.ClassFault.TheVariants as files
use Rattle.nr_instrs.specs.declared.fault.CodeFault.{CodeFault}
use Rattle.nr_instrs.specs.declared.fault.CodeFault.TheVariants as faults
use Rattle.nr_code.specs.declared.fault.LoadFault.{LoadFault}
use Rattle.nr_code.specs.declared.fault.LoadFault.TheVariants as loads

abbrev pub is_load_free : LoadFault → Bool
is_load_free loads.NoMemory = true
is_load_free e = false

-- want of memory is the same in all three
abbrev pub of_class : ClassFault → LoadFault
of_class files.NoMemory = loads.NoMemory
of_class e = loads.Class e

abbrev pub of_code : ℕ → CodeFault → LoadFault
of_code method faults.NoMemory = loads.NoMemory
of_code method e = loads.Code method e
