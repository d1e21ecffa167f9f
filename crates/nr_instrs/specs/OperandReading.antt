-- Reading the operands of an instruction at an offset, with the first fault: the project's own rule.
use Rattle.std.specs.Prelude.{ℕ, ◌+◌, ◌^◌, ℤ, ◌-ℤ◌, unsigned_abs, int_le, List, [], ◌∷◌, ◌++◌, ◌&&◌, ◌==◌, nat_lt, Option, Some}
use Rattle.std.specs.Int.{Width, w8, w16, w32}
use Rattle.nr_base.specs.Reader.{◌>>=◌, pure, refuse, choose, times, onto}
use Rattle.nr_optable.specs.declared.table.Row.{Row}
use Rattle.nr_optable.specs.declared.table.Shape.{Shape}
use Rattle.nr_optable.specs.declared.table.Shape.TheVariants as shapes
use Rattle.nr_prog.specs.declared.pool.PoolEntry.{PoolEntry}
use Rattle.nr_prog.specs.declared.body.instruction.Args.{Args}
use Rattle.nr_prog.specs.declared.body.instruction.Args.TheVariants.{Empty, Local, Num, Pool, Inc, Prim, Dims, Wide, WideInc}
use Rattle.nr_prog.specs.Pool.{names}
use Rattle.nr_prog.specs.BodyOperands.{is_primitive, shape_of, padding, rises}
use Rattle.nr_instrs.specs.NameTests.{names_class_by, is_array, is_interface_ref, is_used, is_kept}
use Rattle.nr_instrs.specs.declared.raw.Operands.{Operands}
use Rattle.nr_instrs.specs.declared.raw.Operands.TheVariants as raw
use Rattle.nr_instrs.specs.declared.fault.CodeFault.TheVariants as faults
use Rattle.nr_instrs.specs.Numbers.{Read, unsigned_at, signed_at, branch_at, skipped_at}

-- ---- indices of the constant pool

-- an index: first the entry that it names is looked at, and then the profile
unfoldable pub checked_at : List PoolEntry → Row → ℕ → ℕ → Read Args
checked_at pool r at index =
    choose (is_used pool r.family r.pushes index)
    (choose (is_kept pool r.family index) (pure (Pool index)) (refuse (faults.OutOfProfile at r.code)))
    (refuse (faults.PoolUse at))

unfoldable pub index_at : Width → List PoolEntry → Row → ℕ → Read Args
index_at w pool r at = unsigned_at w at >>= λ index. checked_at pool r at index

unfoldable pub interface_at : List PoolEntry → ℕ → Read Args
interface_at pool at = do
  index ← unsigned_at w16 at
  count ← unsigned_at w8 at
  zero ← unsigned_at w8 at
  choose (names (is_interface_ref pool count) pool index && zero == 0) (pure (Pool index)) (refuse (faults.PoolUse at))

unfoldable pub dims_at : List PoolEntry → ℕ → Read Args
dims_at pool at = do
  index ← unsigned_at w16 at
  n ← unsigned_at w8 at
  choose (names_class_by (is_array n) pool index) (pure (Dims index n)) (refuse (faults.PoolUse at))

-- ---- other operands that are no branch

unfoldable pub local_at : ℕ → Read Args
local_at at = unsigned_at w8 at >>= λ n. pure (Local n)

unfoldable pub num_at : Width → ℕ → Read Args
num_at w at = signed_at w at >>= λ n. pure (Num n)

unfoldable pub increment_at : ℕ → Read Args
increment_at at = do
  n ← unsigned_at w8 at
  by ← signed_at w8 at
  pure (Inc n by)

unfoldable pub primitive_at : Row → ℕ → Read Args
primitive_at r at = do
  code ← unsigned_at w8 at
  choose (is_primitive code) (pure (Prim code)) (refuse (faults.OutOfProfile at r.code))

-- the wider operands of the widened instruction, by its shape
unfoldable pub widened_at : Row → ℕ → ℕ → Option Shape → Read Args
widened_at r at code (Some shapes.L1) = unsigned_at w16 at >>= λ n. pure (Wide code n)
widened_at r at code (Some shapes.Inc) = unsigned_at w16 at >>= λ n. (signed_at w16 at >>= λ by. pure (WideInc n by))
widened_at r at code shape = refuse (faults.OutOfProfile at r.code)

unfoldable pub wide_at : Row → ℕ → Read Args
wide_at r at = unsigned_at w8 at >>= λ code. widened_at r at code (shape_of code)

unfoldable pub plain_at : List PoolEntry → Row → ℕ → Shape → Read Args
plain_at pool r at shapes.L1 = local_at at
plain_at pool r at shapes.S1 = num_at w8 at
plain_at pool r at shapes.S2 = num_at w16 at
plain_at pool r at shapes.P1 = index_at w8 pool r at
plain_at pool r at shapes.P2 = index_at w16 pool r at
plain_at pool r at shapes.Inc = increment_at at
plain_at pool r at shapes.Prim = primitive_at r at
plain_at pool r at shapes.Itf = interface_at pool at
plain_at pool r at shapes.Mul = dims_at pool at
plain_at pool r at shapes.Wide = wide_at r at
plain_at pool r at shape = pure Empty

-- ---- branches, whose targets are only looked at once all instructions are read

unfoldable pub table_at : ℕ → Read Operands
table_at at = do
  skipped ← skipped_at (padding at) at
  other ← branch_at w32 at
  low ← signed_at w32 at
  high ← signed_at w32 at
  choose (int_le low high)
      (times (onto (branch_at w32 at)) (unsigned_abs (high -ℤ low) + 1) [] >>= λ targets. pure (raw.Switch other low targets))
      (refuse (faults.SwitchOrder at))

-- the numbers and their targets, with one more pair behind them
unfoldable pub pair_at : ℕ → List ℤ × List ℤ → Read (List ℤ × List ℤ)
pair_at at s = do
  key ← signed_at w32 at
  to ← branch_at w32 at
  pure (s.0 ++ key ∷ [], s.1 ++ to ∷ [])

-- all pairs are read before their order is looked at
unfoldable pub pairs_at : ℕ → ℤ → ℕ → Read Operands
pairs_at at other count = do
  pairs ← times (pair_at at) count ([], [])
  choose (rises pairs.0) (pure (raw.Look other pairs.0 pairs.1)) (refuse (faults.SwitchOrder at))

unfoldable pub lookup_at : ℕ → Read Operands
lookup_at at = do
  skipped ← skipped_at (padding at) at
  other ← branch_at w32 at
  count ← unsigned_at w32 at
  choose (nat_lt count (2 ^ 31)) (pairs_at at other count) (refuse (faults.SwitchOrder at))

unfoldable pub jump_at : Width → ℕ → Read Operands
jump_at w at = branch_at w at >>= λ to. pure (raw.Branch to)

unfoldable pub operands_at : List PoolEntry → Row → ℕ → Shape → Read Operands
operands_at pool r at shapes.B2 = jump_at w16 at
operands_at pool r at shapes.B4 = jump_at w32 at
operands_at pool r at shapes.Tab = table_at at
operands_at pool r at shapes.Look = lookup_at at
operands_at pool r at shape = plain_at pool r at shape >>= λ args. pure (raw.Plain args)
