-- Reading attributes, with the first fault: the project's own rule.
use Rattle.std.specs.Prelude.{ℕ, List, Option, Some, is_some}
use Rattle.nr_base.specs.Reader.{◌>>=◌, pure, refuse, choose, from}
use Rattle.nr_prog.specs.declared.pool.PoolEntry.{PoolEntry}
use Rattle.nr_classread.specs.declared.fault.ClassFault.TheVariants as faults
use Rattle.nr_classread.specs.Numbers.{Read, u2_at, u4_at, bytes_at}
use Rattle.nr_classread.specs.AttributeText.{is_named}

-- a length and so many bytes, which are skipped
unfoldable pub skip_at : Read (Unit {0})
skip_at = do
  len ← u4_at
  skipped ← bytes_at len
  pure tt

-- An attribute behind others, with the value that they gave: the one of the name that is read, by its offset and its
-- length, or one that is skipped. A second one is refused at its offset as soon as its name is read.
unfoldable pub attribute_at : {A : Type 0} → List PoolEntry → List ℕ → (ℕ → ℕ → Read A) → Option A → Read (Option A)
attribute_at pool known contents_at seen = from (λ at. do
  name ← u2_at
  choose (is_named pool known name)
      (choose (is_some seen) (refuse (faults.DoubledAttr at)) (u4_at >>= λ len. (contents_at at len >>= λ x. pure (Some x))))
      (skip_at >>= λ skipped. pure seen))

-- an attribute whose name isn't looked at
unfoldable pub ignored_at : Unit {0} → Read (Unit {0})
ignored_at s = do
  name ← u2_at
  skip_at
