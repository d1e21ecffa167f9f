-- The laws of instructions as they are read, whose targets may lie anywhere.
use Rattle.std.proofs.Common.{◌≡◌, rules, suc, ℕ, ◌+◌, ◌^◌, ◌<◌, ℤ, pos, ◌+ℤ◌, ◌-ℤ◌, ◌≤ℤ◌, ltb, List, [], ◌∷◌, ◌++◌, length, Option, Some, None, refl}
use Rattle.std.specs.Prelude.{IsTrue, unsigned_abs, int_le}
use Rattle.std.specs.Int.{Width, w8, w16, w32}
use Rattle.std.specs.List.{All}
use Rattle.nr_base.specs.Reader.{◌>>=◌, pure, from}
use Rattle.nr_base.specs.Grammar.{Grammar, number, give, none, Then, Times, Each}
use Rattle.nr_base.proofs.Laws.{Reads, give_law, none_law, then_law, times_law}
use Rattle.nr_base.proofs.Numbers.{u8_law, u16_law, u32_law}
use Rattle.nr_base.proofs.Lists.{each_law}
use Rattle.nr_optable.specs.declared.table.Row.{Row}
use Rattle.nr_optable.specs.declared.table.Shape.{Shape}
use Rattle.nr_optable.specs.declared.table.Shape.TheVariants as shapes
use Rattle.nr_prog.specs.declared.pool.PoolEntry.{PoolEntry}
use Rattle.nr_prog.specs.Pool.{IsText}
use Rattle.nr_prog.specs.BodyOperands.{signed, skipped, when, padding, rises, plain, row_of}
use Rattle.nr_instrs.specs.declared.raw.Operands.{Operands}
use Rattle.nr_instrs.specs.declared.raw.Operands.TheVariants as raw
use Rattle.nr_instrs.specs.declared.raw.RawInstr.{RawInstr}
use Rattle.nr_instrs.specs.Numbers.{Read, branch_at}
use Rattle.nr_instrs.specs.OperandReading.{plain_at, table_at, pair_at, pairs_at, lookup_at, jump_at, operands_at}
use Rattle.nr_instrs.specs.InstrReading.{listed_at, row_at, instr_at}
use Rattle.nr_instrs.proofs.Facts.{Decides, at_most}
use Rattle.nr_instrs.proofs.OperandLaws.{NumberLaw, guard_law, is_true, unsigned_law, signed_law, skipped_law, plain_law}

-- ---- branches

abbrev pub raw_target : Width → ℕ → Grammar ℤ
raw_target w at = Then (signed w) (λ offset. give (pos at +ℤ offset))

pub branch_law : (w : Width) → NumberLaw w → (at : ℕ) → Reads (branch_at w at) (raw_target w at)
unfolding branch_at
branch_law w wide at = then_law (signed_law w wide at) (λ offset. give_law (pos at +ℤ offset))

abbrev pub raw_table : ℕ → Grammar Operands
raw_table at =
    Then (skipped (padding at)) (λ s. Then (raw_target w32 at) (λ other. Then (signed w32) (λ low. Then (signed w32) (λ high.
    when (low ≤ℤ high)
    (Then (λ targets text. (length targets ≡ unsigned_abs (high -ℤ low) + 1) × Each (raw_target w32 at) targets text) (λ targets.
    give (raw.Switch other low targets)))))))

ordered : (x y : ℤ) → Decides (int_le x y) (x ≤ℤ y)
ordered x y = record { is = λ e. search rules; of = λ h. search rules }

table_law : (at : ℕ) → Reads (table_at at) (raw_table at)
unfolding table_at
table_law at = then_law (skipped_law (padding at) at) (λ s. then_law (branch_law w32 u32_law at) (λ other. then_law (signed_law w32 u32_law at) (λ low. then_law (signed_law w32 u32_law at) (λ high.
    guard_law (int_le low high) _ (ordered low high) (then_law (each_law (branch_law w32 u32_law at) (unsigned_abs (high -ℤ low) + 1)) (λ targets. give_law _))))))

abbrev pub raw_pair : ℕ → List ℤ × List ℤ → Grammar (List ℤ × List ℤ)
raw_pair at s = Then (signed w32) (λ key. Then (raw_target w32 at) (λ to. give (s.0 ++ key ∷ [], s.1 ++ to ∷ [])))

pair_law : (at : ℕ) (s : List ℤ × List ℤ) → Reads (pair_at at s) (raw_pair at s)
unfolding pair_at
pair_law at s = then_law (signed_law w32 u32_law at) (λ key. then_law (branch_law w32 u32_law at) (λ to. give_law _))

abbrev pub raw_lookup : ℕ → Grammar Operands
raw_lookup at =
    Then (skipped (padding at)) (λ s. Then (raw_target w32 at) (λ other. Then (number w32) (λ count.
    when (count < 2 ^ 31)
    (Then (Times (raw_pair at) count ([], [])) (λ pairs. when (IsTrue (rises pairs.0)) (give (raw.Look other pairs.0 pairs.1)))))))

pairs_law : (at : ℕ) (other : ℤ) (count : ℕ) → Reads (pairs_at at other count) (Then (Times (raw_pair at) count ([], [])) (λ pairs. when (IsTrue (rises pairs.0)) (give (raw.Look other pairs.0 pairs.1))))
unfolding pairs_at
pairs_law at other count = then_law (times_law (pair_at at) (raw_pair at) (pair_law at) count ([], [])) (λ pairs. guard_law (rises pairs.0) _ (is_true _) (give_law _))

below : (m n : ℕ) → Decides (ltb m n) (m < n)
below m n = at_most (suc m) n

lookup_law : (at : ℕ) → Reads (lookup_at at) (raw_lookup at)
unfolding lookup_at
lookup_law at = then_law (skipped_law (padding at) at) (λ s. then_law (branch_law w32 u32_law at) (λ other. then_law (unsigned_law w32 u32_law at) (λ count.
    guard_law (ltb count (2 ^ 31)) _ (below count (2 ^ 31)) (pairs_law at other count))))

abbrev pub raw_jump : Width → ℕ → Grammar Operands
raw_jump w at = Then (raw_target w at) (λ to. give (raw.Branch to))

jump_law : (w : Width) → NumberLaw w → (at : ℕ) → Reads (jump_at w at) (raw_jump w at)
unfolding jump_at
jump_law w wide at = then_law (branch_law w wide at) (λ to. give_law (raw.Branch to))

-- ---- operands

abbrev pub raw_plain : List PoolEntry → Row → Shape → Grammar Operands
raw_plain pool r shape = Then (plain pool r shape) (λ a. give (raw.Plain a))

abbrev pub raw_operands : List PoolEntry → Row → ℕ → Shape → Grammar Operands
raw_operands pool r at shapes.B2 = raw_jump w16 at
raw_operands pool r at shapes.B4 = raw_jump w32 at
raw_operands pool r at shapes.Tab = raw_table at
raw_operands pool r at shapes.Look = raw_lookup at
raw_operands pool r at shape = raw_plain pool r shape

with_plain : (pool : List PoolEntry) (r : Row) (at : ℕ) (shape : Shape) → All IsText pool → Reads (plain_at pool r at shape >>= λ args. pure (raw.Plain args)) (raw_plain pool r shape)
with_plain pool r at shape all = then_law (plain_law pool r at shape all) (λ args. give_law (raw.Plain args))

operands_law : (pool : List PoolEntry) (r : Row) (at : ℕ) (shape : Shape) → All IsText pool → Reads (operands_at pool r at shape) (raw_operands pool r at shape)
unfolding operands_at
operands_law pool r at shapes.B2 all = jump_law w16 u16_law at
operands_law pool r at shapes.B4 all = jump_law w32 u32_law at
operands_law pool r at shapes.Tab all = table_law at
operands_law pool r at shapes.Look all = lookup_law at
operands_law pool r at shape all = with_plain pool r at shape all

-- ---- instructions

abbrev pub given : Option Row → Grammar Row
given None = none
given (Some r) = give r

listed_law : (at code : ℕ) (r : Option Row) → Reads (listed_at at code r) (given r)
unfolding listed_at
listed_law at code None = none_law _
listed_law at code (Some r) = give_law r

row_law : (at : ℕ) → Reads (row_at at) (Then (number w8) (λ code. given (row_of code)))
unfolding row_at
row_law at = then_law (unsigned_law w8 u8_law at) (λ code. listed_law at code (row_of code))

abbrev pub raw_instr : List PoolEntry → ℕ → Grammar RawInstr
raw_instr pool at = Then (Then (number w8) (λ code. given (row_of code))) (λ r. Then (raw_operands pool r at r.shape) (λ o. give (record { at = at; row = r; operands = o })))

abbrev pub instr_from : List PoolEntry → ℕ → Read RawInstr
instr_from pool at = row_at at >>= λ r. (operands_at pool r at r.shape >>= λ o. pure (record { at = at; row = r; operands = o }))

pub instr_law : (pool : List PoolEntry) (at : ℕ) → All IsText pool → Reads (instr_from pool at) (raw_instr pool at)
instr_law pool at all = then_law (row_law at) (λ r. then_law (operands_law pool r at r.shape all) (λ o. give_law _))

pub instr_is : (pool : List PoolEntry) → instr_at pool ≡ from (instr_from pool)
unfolding instr_at
instr_is pool = refl
