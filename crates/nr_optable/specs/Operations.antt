-- The arithmetic of an instruction, by its code (JVM Specification 6.5).
use Rattle.std.specs.Prelude.{ℕ, ℤ, pos, Bool, true, ◌||◌, is_some, List, [], ◌∷◌, Option, Some, None, ◌==◌, if◌then◌else◌}
use Rattle.std.specs.Int.{w8, w16, w32, w64, int_wrap, int_bit_and, int_bit_or, int_bit_xor}
use Rattle.nr_optable.specs.declared.table.Row.{Row}
use Rattle.nr_optable.specs.declared.table.Family.{Family}
use Rattle.nr_optable.specs.declared.table.Family.TheVariants.{F5, F20, F22, F23, F25, F26}
use Rattle.nr_optable.specs.declared.table.Kinds.{Kinds}
use Rattle.nr_optable.specs.declared.table.Kinds.TheVariants.{Letters}
use Rattle.nr_optable.specs.declared.table.Letter.TheVariants.{I}
use Rattle.nr_optable.specs.Arithmetic.{add, subtract, multiply, divide, remainder, shift_left, shift_right, shift_right_unsigned, to_char, is_equal, is_unequal, is_less, is_at_least, is_greater, is_at_most}

-- what stands beside the code in a list, where the code is in it
abbrev pub beside : {X : Type 0} → ℕ → List (ℕ × X) → Option X
beside code [] = None
beside code (line ∷ lines) = if code == line.0 then Some line.1 else beside code lines

-- family 5 on ints
abbrev pub int_operation : ℕ → Option (ℤ → ℤ → ℤ)
int_operation code = beside code (
    (96, add w32) ∷  -- iadd
    (100, subtract w32) ∷  -- isub
    (104, multiply w32) ∷  -- imul
    (126, int_bit_and w32) ∷  -- iand
    (128, int_bit_or w32) ∷  -- ior
    (130, int_bit_xor w32) ∷  -- ixor
    [])

-- family 5 on longs
abbrev pub long_operation : ℕ → Option (ℤ → ℤ → ℤ)
long_operation code = beside code (
    (97, add w64) ∷  -- ladd
    (101, subtract w64) ∷  -- lsub
    (105, multiply w64) ∷  -- lmul
    (127, int_bit_and w64) ∷  -- land
    (129, int_bit_or w64) ∷  -- lor
    (131, int_bit_xor w64) ∷  -- lxor
    [])

-- family 20, by a divisor that isn't 0
abbrev pub int_division : ℕ → Option (ℤ → ℤ → ℤ)
int_division code = beside code (
    (108, divide w32) ∷  -- idiv
    (112, remainder) ∷  -- irem
    [])

abbrev pub long_division : ℕ → Option (ℤ → ℤ → ℤ)
long_division code = beside code (
    (109, divide w64) ∷  -- ldiv
    (113, remainder) ∷  -- lrem
    [])

-- family 22: the value, then the count
abbrev pub int_shift : ℕ → Option (ℤ → ℤ → ℤ)
int_shift code = beside code (
    (120, shift_left w32) ∷  -- ishl
    (122, shift_right w32) ∷  -- ishr
    (124, shift_right_unsigned w32) ∷  -- iushr
    [])

abbrev pub long_shift : ℕ → Option (ℤ → ℤ → ℤ)
long_shift code = beside code (
    (121, shift_left w64) ∷  -- lshl
    (123, shift_right w64) ∷  -- lshr
    (125, shift_right_unsigned w64) ∷  -- lushr
    [])

-- the conversions of family 23 that make an int smaller
abbrev pub int_narrowing : ℕ → Option (ℤ → ℤ)
int_narrowing code = beside code (
    (145, int_wrap w8) ∷  -- i2b
    (146, λ x. pos (to_char x)) ∷  -- i2c
    (147, int_wrap w16) ∷  -- i2s
    [])

-- the condition of families 25, where the second number is 0, and 26
abbrev pub zero_condition : ℕ → Option (ℤ → ℤ → Bool)
zero_condition code = beside code (
    (153, is_equal) ∷  -- ifeq
    (154, is_unequal) ∷  -- ifne
    (155, is_less) ∷  -- iflt
    (156, is_at_least) ∷  -- ifge
    (157, is_greater) ∷  -- ifgt
    (158, is_at_most) ∷  -- ifle
    [])

abbrev pub pair_condition : ℕ → Option (ℤ → ℤ → Bool)
pair_condition code = beside code (
    (159, is_equal) ∷  -- if_icmpeq
    (160, is_unequal) ∷  -- if_icmpne
    (161, is_less) ∷  -- if_icmplt
    (162, is_at_least) ∷  -- if_icmpge
    (163, is_greater) ∷  -- if_icmpgt
    (164, is_at_most) ∷  -- if_icmple
    [])

-- An instruction of these families is in the list for its operands, by the first that it pops. Of family 23, i2l
-- (133) and l2i (136) have rules of their own.
abbrev pub is_covered : Family → Kinds → ℕ → Bool
is_covered F5 (Letters n I second third) code = is_some (int_operation code)
is_covered F5 pops code = is_some (long_operation code)
is_covered F20 (Letters n I second third) code = is_some (int_division code)
is_covered F20 pops code = is_some (long_division code)
is_covered F22 (Letters n I second third) code = is_some (int_shift code)
is_covered F22 pops code = is_some (long_shift code)
is_covered F23 pops code = is_some (int_narrowing code) || code == 133 || code == 136
is_covered F25 pops code = is_some (zero_condition code)
is_covered F26 pops code = is_some (pair_condition code)
is_covered family pops code = true

abbrev pub has_operation : Row → Bool
has_operation r = is_covered r.family r.pops r.code
