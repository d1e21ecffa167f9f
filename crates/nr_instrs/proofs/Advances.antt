-- Each instruction uses up a byte or more.
use Rattle.std.proofs.Common.{ℕ, ℤ, ◌+◌, List, Option, Some, None, arith}
use Rattle.std.specs.Int.{Width, w8, w16, w32, byte_len}
use Rattle.nr_base.specs.Reader.{◌>>=◌, pure}
use Rattle.nr_optable.specs.declared.table.Row.{Row}
use Rattle.nr_optable.specs.declared.table.Shape.{Shape}
use Rattle.nr_optable.specs.declared.table.Shape.TheVariants as shapes
use Rattle.nr_prog.specs.declared.pool.PoolEntry.{PoolEntry}
use Rattle.nr_instrs.specs.declared.raw.Operands.TheVariants as raw
use Rattle.nr_instrs.specs.Faults.{short_of}
use Rattle.nr_instrs.specs.Numbers.{unsigned_at, signed_at, branch_at, skipped_at}
use Rattle.nr_instrs.specs.OperandReading.{checked_at, index_at, interface_at, dims_at, local_at, num_at, increment_at, primitive_at, widened_at, wide_at, plain_at, table_at, pair_at, pairs_at, lookup_at, jump_at, operands_at}
use Rattle.nr_instrs.specs.InstrReading.{listed_at, row_at, instr_at}
use Rattle.nr_instrs.proofs.Moves.{Moves, pure_moves, refuse_moves, bind_moves, choose_moves, fewer_moves, from_moves, with_fault_moves, number_moves, run_moves, times_moves, onto_moves, then_moves}

-- ---- numbers

byte_moves : (at : ℕ) → Moves 1 (unsigned_at w8 at)
unfolding unsigned_at
byte_moves at = with_fault_moves 1 (short_of at) (number_moves w8)

unsigned_moves : (w : Width) (at : ℕ) → Moves 0 (unsigned_at w at)
unfolding unsigned_at
unsigned_moves w at = fewer_moves (byte_len w) 0 (omega arith) (with_fault_moves (byte_len w) (short_of at) (number_moves w))

signed_moves : (w : Width) (at : ℕ) → Moves 0 (signed_at w at)
unfolding signed_at
signed_moves w at = then_moves (unsigned_moves w at) (λ bits. pure_moves _)

branch_moves : (w : Width) (at : ℕ) → Moves 0 (branch_at w at)
unfolding branch_at
branch_moves w at = then_moves (signed_moves w at) (λ offset. pure_moves _)

skipped_moves : (n at : ℕ) → Moves 0 (skipped_at n at)
unfolding skipped_at
skipped_moves n at = then_moves (fewer_moves n 0 (omega arith) (with_fault_moves n (short_of at) (run_moves n))) (λ bytes. pure_moves tt)

-- ---- operands without a branch

checked_moves : (pool : List PoolEntry) (r : Row) (at index : ℕ) → Moves 0 (checked_at pool r at index)
unfolding checked_at
checked_moves pool r at index = choose_moves 0 _ (choose_moves 0 _ (pure_moves _) (refuse_moves 0 _)) (refuse_moves 0 _)

index_moves : (w : Width) (pool : List PoolEntry) (r : Row) (at : ℕ) → Moves 0 (index_at w pool r at)
unfolding index_at
index_moves w pool r at = then_moves (unsigned_moves w at) (λ index. checked_moves pool r at index)

interface_moves : (pool : List PoolEntry) (at : ℕ) → Moves 0 (interface_at pool at)
unfolding interface_at
interface_moves pool at = then_moves (unsigned_moves w16 at) (λ index. then_moves (unsigned_moves w8 at) (λ count. then_moves (unsigned_moves w8 at) (λ zero.
    choose_moves 0 _ (pure_moves _) (refuse_moves 0 _))))

dims_moves : (pool : List PoolEntry) (at : ℕ) → Moves 0 (dims_at pool at)
unfolding dims_at
dims_moves pool at = then_moves (unsigned_moves w16 at) (λ index. then_moves (unsigned_moves w8 at) (λ n. choose_moves 0 _ (pure_moves _) (refuse_moves 0 _)))

local_moves : (at : ℕ) → Moves 0 (local_at at)
unfolding local_at
local_moves at = then_moves (unsigned_moves w8 at) (λ n. pure_moves _)

num_moves : (w : Width) (at : ℕ) → Moves 0 (num_at w at)
unfolding num_at
num_moves w at = then_moves (signed_moves w at) (λ n. pure_moves _)

increment_moves : (at : ℕ) → Moves 0 (increment_at at)
unfolding increment_at
increment_moves at = then_moves (unsigned_moves w8 at) (λ n. then_moves (signed_moves w8 at) (λ by. pure_moves _))

primitive_moves : (r : Row) (at : ℕ) → Moves 0 (primitive_at r at)
unfolding primitive_at
primitive_moves r at = then_moves (unsigned_moves w8 at) (λ code. choose_moves 0 _ (pure_moves _) (refuse_moves 0 _))

widened_moves : (r : Row) (at code : ℕ) (shape : Option Shape) → Moves 0 (widened_at r at code shape)
unfolding widened_at
widened_moves r at code (Some shapes.L1) = then_moves (unsigned_moves w16 at) (λ n. pure_moves _)
widened_moves r at code (Some shapes.Inc) = then_moves (unsigned_moves w16 at) (λ n. then_moves (signed_moves w16 at) (λ by. pure_moves _))
widened_moves r at code shape = refuse_moves 0 _

wide_moves : (r : Row) (at : ℕ) → Moves 0 (wide_at r at)
unfolding wide_at
wide_moves r at = then_moves (unsigned_moves w8 at) (λ code. widened_moves r at code _)

plain_moves : (pool : List PoolEntry) (r : Row) (at : ℕ) (shape : Shape) → Moves 0 (plain_at pool r at shape)
unfolding plain_at
plain_moves pool r at shapes.L1 = local_moves at
plain_moves pool r at shapes.S1 = num_moves w8 at
plain_moves pool r at shapes.S2 = num_moves w16 at
plain_moves pool r at shapes.P1 = index_moves w8 pool r at
plain_moves pool r at shapes.P2 = index_moves w16 pool r at
plain_moves pool r at shapes.Inc = increment_moves at
plain_moves pool r at shapes.Prim = primitive_moves r at
plain_moves pool r at shapes.Itf = interface_moves pool at
plain_moves pool r at shapes.Mul = dims_moves pool at
plain_moves pool r at shapes.Wide = wide_moves r at
plain_moves pool r at shape = pure_moves _

-- ---- branches

table_moves : (at : ℕ) → Moves 0 (table_at at)
unfolding table_at
table_moves at = then_moves (skipped_moves _ at) (λ s. then_moves (branch_moves w32 at) (λ other. then_moves (signed_moves w32 at) (λ low. then_moves (signed_moves w32 at) (λ high.
    choose_moves 0 _ (then_moves (times_moves _ (λ xs. onto_moves 0 (branch_moves w32 at) xs) _ _) (λ targets. pure_moves _)) (refuse_moves 0 _)))))

pair_moves : (at : ℕ) (s : _) → Moves 0 (pair_at at s)
unfolding pair_at
pair_moves at s = then_moves (signed_moves w32 at) (λ key. then_moves (branch_moves w32 at) (λ to. pure_moves _))

pairs_moves : (at : ℕ) (other : ℤ) (count : ℕ) → Moves 0 (pairs_at at other count)
unfolding pairs_at
pairs_moves at other count = then_moves (times_moves _ (λ s. pair_moves at s) _ _) (λ pairs. choose_moves 0 _ (pure_moves _) (refuse_moves 0 _))

lookup_moves : (at : ℕ) → Moves 0 (lookup_at at)
unfolding lookup_at
lookup_moves at = then_moves (skipped_moves _ at) (λ s. then_moves (branch_moves w32 at) (λ other. then_moves (unsigned_moves w32 at) (λ count.
    choose_moves 0 _ (pairs_moves at other count) (refuse_moves 0 _))))

jump_moves : (w : Width) (at : ℕ) → Moves 0 (jump_at w at)
unfolding jump_at
jump_moves w at = then_moves (branch_moves w at) (λ to. pure_moves _)

with_plain : (pool : List PoolEntry) (r : Row) (at : ℕ) (shape : Shape) → Moves 0 (plain_at pool r at shape >>= λ args. pure (raw.Plain args))
with_plain pool r at shape = then_moves (plain_moves pool r at shape) (λ args. pure_moves _)

operands_moves : (pool : List PoolEntry) (r : Row) (at : ℕ) (shape : Shape) → Moves 0 (operands_at pool r at shape)
unfolding operands_at
operands_moves pool r at shapes.B2 = jump_moves w16 at
operands_moves pool r at shapes.B4 = jump_moves w32 at
operands_moves pool r at shapes.Tab = table_moves at
operands_moves pool r at shapes.Look = lookup_moves at
operands_moves pool r at shape = with_plain pool r at shape

-- ---- instructions

listed_moves : (at code : ℕ) (r : Option Row) → Moves 0 (listed_at at code r)
unfolding listed_at
listed_moves at code None = refuse_moves 0 _
listed_moves at code (Some r) = pure_moves r

row_moves : (at : ℕ) → Moves 1 (row_at at)
unfolding row_at
row_moves at = fewer_moves (1 + 0) 1 (omega arith) (bind_moves 1 0 (byte_moves at) (λ code. listed_moves at code _))

pub instr_moves : (pool : List PoolEntry) → Moves 1 (instr_at pool)
unfolding instr_at
instr_moves pool = from_moves 1 (λ at. fewer_moves (1 + 0) 1 (omega arith) (bind_moves 1 0 (row_moves at) (λ r. then_moves (operands_moves pool r at r.shape) (λ operands. pure_moves _))))
