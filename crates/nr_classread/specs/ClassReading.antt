-- Reading class files, with the first fault: the project's own rule.
use Rattle.std.specs.Prelude.{ℕ, List, Result, Ok, Err, ◌==◌, ◌&&◌}
use Rattle.nr_base.specs.Reader.{◌>>=◌, pure, refuse, choose, times, map_fault, whole}
use Rattle.nr_prog.specs.declared.parts.ClassParts.{ClassParts}
use Rattle.nr_prog.specs.Form.{class_of as class_of_parts}
use Rattle.nr_classread.specs.declared.fault.ClassFault.{ClassFault}
use Rattle.nr_classread.specs.declared.fault.ClassFault.TheVariants as faults
use Rattle.nr_classread.specs.Faults.{of_form}
use Rattle.nr_classread.specs.Numbers.{Read, u2_at, u4_at}
use Rattle.nr_classread.specs.PoolReading.{pool_at, list_at}
use Rattle.nr_classread.specs.AttributeReading.{ignored_at}
use Rattle.nr_classread.specs.MemberReading.{field_at, method_at}

unfoldable pub magic_at : Read (Unit {0})
magic_at = do
  magic ← u4_at
  choose (magic == 0xCAFEBABE) (pure tt) (refuse faults.BadMagic)

unfoldable pub version_at : Read (Unit {0})
version_at = do
  minor ← u2_at
  major ← u2_at
  choose (minor == 0 && major == 50) (pure tt) (refuse (faults.Version minor major))

unfoldable pub parts_at : Read ClassParts
parts_at = do
  pool ← pool_at
  flags ← u2_at
  this ← u2_at
  super ← u2_at
  interfaces ← list_at u2_at
  fields ← list_at (field_at pool)
  methods ← list_at (method_at pool)
  pure (record { pool = pool; flags = flags; this_class = this; super_class = super; interfaces = interfaces; fields = fields; methods = methods })

unfoldable pub file_at : Read ClassParts
file_at = do
  magic ← magic_at
  version ← version_at
  parts ← parts_at
  count ← u2_at
  attributes ← times ignored_at count tt
  pure parts

-- the parts of a file, whether or not they keep the form
abbrev pub parts_of : List ℕ → Result ClassParts ClassFault
parts_of = whole faults.Trailing file_at

-- The form is looked at once the whole file is read.
abbrev pub formed : Result ClassParts ClassFault → Result ClassParts ClassFault
formed (Ok parts) = map_fault of_form (class_of_parts parts)
formed (Err e) = Err e

-- the parts of a file that keep the form, or the first fault
abbrev pub class_of : List ℕ → Result ClassParts ClassFault
class_of bytes = formed (parts_of bytes)
