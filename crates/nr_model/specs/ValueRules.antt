-- The rules of instructions that move and compute values alone (JVM Specification 6.5, each under its mnemonic). A rule
-- is given what follows it.
use Rattle.std.specs.Prelude.{ℕ, zero, suc, ◌+◌, ◌-◌, ℤ, pos, negsuc, ◌-ℤ◌, Bool, not, List, ◌∷◌, Option, slice_get, nat_le, ◌==◌, if◌then◌else◌}
use Rattle.std.specs.Int.{w32, w64, int_wrap}
use Rattle.std.specs.Ordering.{int_eq}
use Rattle.nr_optable.specs.declared.table.Letter.{Letter}
use Rattle.nr_optable.specs.Arithmetic.{add, negate, compare}
use Rattle.nr_optable.specs.Operations.{int_operation, long_operation, int_division, long_division, int_shift, long_shift, int_narrowing, zero_condition, pair_condition}
use Rattle.nr_prog.specs.declared.body.instruction.Args.{Args}
use Rattle.nr_prog.specs.declared.body.instruction.Args.TheVariants.{Empty, Num}
use Rattle.nr_linked.specs.declared.program.built_in.BuiltIn.TheVariants.{ArithmeticException}
use Rattle.nr_linked.specs.declared.program.tables.ProgramTables.{ProgramTables}
use Rattle.nr_linked.specs.declared.program.tables.Resolved.{Resolved}
use Rattle.nr_linked.specs.declared.program.tables.Resolved.TheVariants as resolved
use Rattle.nr_model.specs.Heaps.{on_some}
use Rattle.nr_model.specs.Scripts.{PlainInt, PlainLong, Script, GoTo, Stuck, Push, PopInt, PopLong, Load, Store, Pick, Drop, AskLong, AskNull, AskSame}
use Rattle.nr_model.specs.Throws.{throw_new, typed, with_found}

-- ---- constants

-- bipush, sipush; iconst_m1 to iconst_5 (2 to 8); lconst_0, lconst_1 (9, 10)
abbrev pub small_constant : ℕ → Args → Script → Script
small_constant code (Num n) k = Push (PlainInt n) k
small_constant code Empty k =
    if nat_le code 8 then Push (PlainInt (pos code -ℤ pos 3)) k else Push (PlainLong (pos (code - 9))) k
small_constant code args k = Stuck

-- ldc, ldc_w, ldc2_w
abbrev pub pool_constant : Resolved → Script → Script
pool_constant (resolved.Int n) k = Push (PlainInt n) k
pool_constant (resolved.Long n) k = Push (PlainLong n) k
pool_constant found k = Stuck

-- ---- local variables

-- iload, lload, aload
abbrev pub load : Letter → ℕ → Script → Script
load letter i k = Load i (typed letter k)

-- istore, lstore, astore. A long takes the next place too, which then isn't used.
abbrev pub store : Letter → ℕ → Script → Script
store letter i k = typed letter (Store i k)

-- iinc
abbrev pub increment : ℕ → ℤ → Script → Script
increment i by k = Load i (PopInt (λ n. Push (PlainInt (add w32 n by)) (Store i k)))

-- ---- stack moves, in their forms

-- k, where the operand at the depth isn't a long
abbrev pub single : ℕ → Script → Script
single d k = AskLong d (λ long. if long then Stuck else k)

abbrev pub by_size : ℕ → Script → Script → Script
by_size d of_long of_single = AskLong d (λ long. if long then of_long else of_single)

abbrev pub times : ℕ → (Script → Script) → Script → Script
times zero f k = k
times (suc n) f k = f (times n f k)

-- copies the n topmost operands, in their order, onto the top
abbrev pub again : ℕ → Script → Script
again n k = times n (Pick (n - 1)) k

-- takes away n operands, from the depth on
abbrev pub forget : ℕ → ℕ → Script → Script
forget d n k = times n (Drop d) k

-- copies the n topmost operands to below the m next ones
abbrev pub copy_below : ℕ → ℕ → Script → Script
copy_below n m k = again (n + m) (forget (n + m + n) m k)

-- pop; pop2 of two operands, or of a long
abbrev pub drop_top : ℕ → Script → Script
drop_top code k = if code == 87 then single 0 (Drop 0 k) else by_size 0 (Drop 0 k) (single 1 (forget 0 2 k))

abbrev pub dup : Script → Script
dup k = single 0 (Pick 0 k)

abbrev pub dup_x1 : Script → Script
dup_x1 k = single 0 (single 1 (copy_below 1 1 k))

abbrev pub dup_x2 : Script → Script
dup_x2 k = single 0 (by_size 1 (copy_below 1 1 k) (single 2 (copy_below 1 2 k)))

abbrev pub dup2 : Script → Script
dup2 k = by_size 0 (Pick 0 k) (single 1 (again 2 k))

abbrev pub dup2_x1 : Script → Script
dup2_x1 k = by_size 0 (single 1 (copy_below 1 1 k)) (single 1 (single 2 (copy_below 2 1 k)))

abbrev pub dup2_x2 : Script → Script
dup2_x2 k = by_size 0
    (by_size 1 (copy_below 1 1 k) (single 2 (copy_below 1 2 k)))
    (single 1 (by_size 2 (copy_below 2 1 k) (single 3 (copy_below 2 2 k))))

abbrev pub swap : Script → Script
swap k = single 0 (single 1 (Pick 1 (Drop 2 k)))

-- ---- arithmetic

abbrev pub on_ints : (ℤ → ℤ → Script) → Script
on_ints f = PopInt (λ y. PopInt (λ x. f x y))

abbrev pub on_longs : (ℤ → ℤ → Script) → Script
on_longs f = PopLong (λ y. PopLong (λ x. f x y))

-- what each code makes of its operands, where it is one of those on ints, or of those on longs
abbrev pub by_operands : {X : Type 0} → Option X → Option X → (X → Script) → (X → Script) → Script
by_operands of_ints of_longs ints longs = on_some of_ints (with_found of_longs longs) ints

-- iadd and so on, ladd and so on
abbrev pub two_operands : ℕ → Script → Script
two_operands code k = by_operands (int_operation code) (long_operation code)
    (λ f. on_ints (λ x y. Push (PlainInt (f x y)) k))
    (λ f. on_longs (λ x y. Push (PlainLong (f x y)) k))

abbrev pub not_zero : ProgramTables → ℤ → Script → Script
not_zero P (pos zero) k = throw_new P ArithmeticException
not_zero P n k = k

-- idiv, irem, ldiv, lrem
abbrev pub division : ProgramTables → ℕ → Script → Script
division P code k = by_operands (int_division code) (long_division code)
    (λ f. on_ints (λ x y. not_zero P y (Push (PlainInt (f x y)) k)))
    (λ f. on_longs (λ x y. not_zero P y (Push (PlainLong (f x y)) k)))

-- ineg, lneg
abbrev pub negation : ℕ → Script → Script
negation code k =
    if code == 116 then PopInt (λ x. Push (PlainInt (negate w32 x)) k)
    else PopLong (λ x. Push (PlainLong (negate w64 x)) k)

-- ishl and so on, lshl and so on: the count is an int
abbrev pub shift : ℕ → Script → Script
shift code k = by_operands (int_shift code) (long_shift code)
    (λ f. PopInt (λ count. PopInt (λ x. Push (PlainInt (f x count)) k)))
    (λ f. PopInt (λ count. PopLong (λ x. Push (PlainLong (f x count)) k)))

-- i2l, l2i, i2b, i2c, i2s
abbrev pub conversion : ℕ → Script → Script
conversion code k =
    if code == 133 then PopInt (λ x. Push (PlainLong x) k)
    else (if code == 136 then PopLong (λ x. Push (PlainInt (int_wrap w32 x)) k)
    else with_found (int_narrowing code) (λ f. PopInt (λ x. Push (PlainInt (f x)) k)))

-- lcmp
abbrev pub comparison : Script → Script
comparison k = on_longs (λ x y. Push (PlainInt (compare x y)) k)

-- ---- branches

abbrev pub branch : ℕ → Script → Bool → Script
branch target k taken = if taken then GoTo target else k

-- ifeq and so on
abbrev pub test_int : ℕ → ℕ → Script → Script
test_int code target k = with_found (zero_condition code) (λ f. PopInt (λ x. branch target k (f x (pos 0))))

-- if_icmpeq and so on
abbrev pub test_two : ℕ → ℕ → Script → Script
test_two code target k = with_found (pair_condition code) (λ f. on_ints (λ x y. branch target k (f x y)))

-- if_acmpeq, if_acmpne (165, 166); ifnull, ifnonnull (198, 199)
abbrev pub test_references : ℕ → ℕ → Script → Script
test_references code target k =
    if code == 165 then AskSame (λ same. branch target k same)
    else (if code == 166 then AskSame (λ same. branch target k (not same))
    else AskNull 0 (λ null. Drop 0 (branch target k (if code == 198 then null else not null))))

-- the target at a place of the table, or the other one
abbrev pub target_at : List ℕ → ℕ → ℤ → ℕ
target_at targets other (pos i) = on_some (slice_get targets i) other (λ t. t)
target_at targets other (negsuc i) = other

-- the target beside the key, or the other one
abbrev pub target_of : List ℤ → List ℕ → ℕ → ℤ → ℕ
target_of (key ∷ keys) (t ∷ ts) other n = if int_eq key n then t else target_of keys ts other n
target_of keys targets other n = other

abbrev pub table_switch : ℕ → ℤ → List ℕ → Script
table_switch other low targets = PopInt (λ n. GoTo (target_at targets other (n -ℤ low)))

abbrev pub lookup_switch : ℕ → List ℤ → List ℕ → Script
lookup_switch other keys targets = PopInt (λ n. GoTo (target_of keys targets other n))
