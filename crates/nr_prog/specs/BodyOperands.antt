-- The operands of instructions as text: JVM Specification 6.5, each instruction's format. The constant pool's entries
-- that an instruction may name are those of version 50; that some of them are left out is the project's own profile.
use Rattle.std.specs.Prelude.{◌≡◌, ℕ, ◌+◌, ◌-◌, ◌%◌, ◌^◌, ℤ, pos, ◌+ℤ◌, ◌-ℤ◌, unsigned_abs, int_lt, ◌≤ℤ◌, ◌<◌, IsTrue, IsSomeAnd, List, [], ◌∷◌, ◌++◌, length, Bool, true, ◌&&◌, ◌||◌, ◌==◌, Option, Some, None, find}
use Rattle.std.specs.Int.{Width, w8, w16, w32, cast_signed}
use Rattle.std.specs.Option.{option_map_or}
use Rattle.nr_base.specs.Grammar.{Grammar, number, give, none, Then, Times, Each}
use Rattle.nr_optable.specs.Rows.{all_rows}
use Rattle.nr_optable.specs.declared.table.Row.{Row}
use Rattle.nr_optable.specs.declared.table.Shape.{Shape}
use Rattle.nr_optable.specs.declared.table.Shape.TheVariants as shapes
use Rattle.nr_prog.specs.declared.pool.PoolEntry.{PoolEntry}
use Rattle.nr_prog.specs.declared.body.instruction.Args.{Args}
use Rattle.nr_prog.specs.declared.body.instruction.Args.TheVariants.{Empty, Local, Num, Pool, Branch, Inc, Prim, Dims, Switch, Look, Wide, WideInc}
use Rattle.nr_prog.specs.Pool.{entry_at}
use Rattle.nr_prog.specs.BodyNames.{NamesClassBy, IsArrayOf, IsInterfaceRef, IsUsed}

abbrev pub u1 : Grammar ℕ
u1 = number w8

abbrev pub u2 : Grammar ℕ
u2 = number w16

abbrev pub u4 : Grammar ℕ
u4 = number w32

-- a number with a sign
abbrev pub signed : Width → Grammar ℤ
signed w = Then (number w) (λ bits. give (cast_signed w bits))

-- the row of a code
abbrev pub row_of : ℕ → Option Row
row_of code = find (λ r. r.code == code) all_rows

-- a text of the grammar, where a fact holds
abbrev pub when : {A : Type 0} → Type 0 → Grammar A → Grammar A
when P G x text = P × G x text

-- ---- indices of the constant pool

-- an index that the instruction can name
abbrev pub index_of : Width → List PoolEntry → Row → Grammar Args
index_of w pool r = Then (number w) (λ index. when (IsUsed pool r.family r.pushes index) (give (Pool index)))

-- invokeinterface: the index, the slots of the arguments, and a zero
abbrev pub interface : List PoolEntry → Grammar Args
interface pool = Then u2 (λ index. Then u1 (λ count. Then u1 (λ zero.
    when (IsSomeAnd (entry_at pool index) (IsInterfaceRef pool count) × (zero ≡ 0)) (give (Pool index)))))

-- multianewarray: the index and the dimensions
abbrev pub dims : List PoolEntry → Grammar Args
dims pool = Then u2 (λ index. Then u1 (λ n. when (NamesClassBy (IsArrayOf n) pool index) (give (Dims index n))))

-- ---- other operands that are no branch

-- boolean, char, byte, short, int and long (table 6.5.newarray-A), without float and double
abbrev pub is_primitive : ℕ → Bool
is_primitive code = code == 4 || code == 5 || code == 8 || code == 9 || code == 10 || code == 11

abbrev pub increment : Width → (ℕ → ℤ → Args) → Grammar Args
increment w make = Then (number w) (λ n. Then (signed w) (λ by. give (make n by)))

-- the widened instruction's operands, by its shape
abbrev pub widened : ℕ → Option Shape → Grammar Args
widened code (Some shapes.L1) = Then u2 (λ n. give (Wide code n))
widened code (Some shapes.Inc) = increment w16 WideInc
widened code shape = none

abbrev pub shape_of : ℕ → Option Shape
shape_of code = option_map_or (λ r. Some r.shape) (row_of code) None

-- the code of a load, a store or iinc, and its wider operands (6.5, wide)
abbrev pub wide : Grammar Args
wide = Then u1 (λ code. widened code (shape_of code))

-- the operands of an instruction that has no branch
abbrev pub plain : List PoolEntry → Row → Shape → Grammar Args
plain pool r shapes.L1 = Then u1 (λ n. give (Local n))
plain pool r shapes.S1 = Then (signed w8) (λ n. give (Num n))
plain pool r shapes.S2 = Then (signed w16) (λ n. give (Num n))
plain pool r shapes.P1 = index_of w8 pool r
plain pool r shapes.P2 = index_of w16 pool r
plain pool r shapes.Inc = increment w8 Inc
plain pool r shapes.Prim = Then u1 (λ code. when (IsTrue (is_primitive code)) (give (Prim code)))
plain pool r shapes.Itf = interface pool
plain pool r shapes.Mul = dims pool
plain pool r shapes.Wide = wide
plain pool r shape = give Empty

-- ---- branches

-- the target of a branch, which is told from the offset of its instruction
abbrev pub target : Width → ℕ → Grammar ℕ
target w at to text = (offset : ℤ) × (pos at +ℤ offset ≡ pos to) × signed w offset text

-- zero to three bytes, up to a multiple of four from the start of the code; their values don't matter
abbrev pub padding : ℕ → ℕ
padding at = (4 - (at + 1) % 4) % 4

-- so many bytes, whatever they are
abbrev pub skipped : ℕ → Grammar (Unit {0})
skipped n x text = length text ≡ n

-- 6.5, tableswitch
abbrev pub table : ℕ → Grammar Args
table at =
    Then (skipped (padding at)) (λ s. Then (target w32 at) (λ other. Then (signed w32) (λ low. Then (signed w32) (λ high.
    when (low ≤ℤ high)
    (Then (λ targets text. (length targets ≡ unsigned_abs (high -ℤ low) + 1) × Each (target w32 at) targets text) (λ targets.
    give (Switch other low targets)))))))

-- each number is above the one before
abbrev pub rises : List ℤ → Bool
rises [] = true
rises (x ∷ []) = true
rises (x ∷ y ∷ more) = int_lt x y && rises (y ∷ more)

-- the numbers and their targets, with one more pair behind them
abbrev pub pair : ℕ → List ℤ × List ℕ → Grammar (List ℤ × List ℕ)
pair at s = Then (signed w32) (λ key. Then (target w32 at) (λ to. give (s.0 ++ key ∷ [], s.1 ++ to ∷ [])))

-- 6.5, lookupswitch
abbrev pub lookup : ℕ → Grammar Args
lookup at =
    Then (skipped (padding at)) (λ s. Then (target w32 at) (λ other. Then u4 (λ count.
    when (count < 2 ^ 31)
    (Then (Times (pair at) count ([], [])) (λ pairs. when (IsTrue (rises pairs.0)) (give (Look other pairs.0 pairs.1)))))))

-- the operands behind the code of an instruction at the offset
abbrev pub operands : List PoolEntry → Row → ℕ → Shape → Grammar Args
operands pool r at shapes.B2 = Then (target w16 at) (λ to. give (Branch to))
operands pool r at shapes.B4 = Then (target w32 at) (λ to. give (Branch to))
operands pool r at shapes.Tab = table at
operands pool r at shapes.Look = lookup at
operands pool r at shape = plain pool r shape
