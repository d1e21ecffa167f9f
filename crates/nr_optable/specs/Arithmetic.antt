-- Arithmetic on ints (w32) and longs (w64), two's complement numbers that wrap (JVM Specification 2.3.1 and 6.5).
use Rattle.std.specs.Prelude.{ℕ, ◌*◌, ◌/◌, ◌%◌, ◌^◌, ℤ, pos, negsuc, ◌+ℤ◌, ◌-ℤ◌, ◌*ℤ◌, neg_ℤ, Bool, not, int_lt, int_le, int_div, int_rem, if◌then◌else◌}
use Rattle.std.specs.Int.{Width, w32, byte_len, int_wrap, int_shl, int_shr, cast_signed, cast_unsigned}
use Rattle.std.specs.Ordering.{int_eq}

-- iadd, ladd, isub, lsub, imul, lmul: what is left of the exact result in the type's bits
abbrev pub add : Width → ℤ → ℤ → ℤ
add w x y = int_wrap w (x +ℤ y)

abbrev pub subtract : Width → ℤ → ℤ → ℤ
subtract w x y = int_wrap w (x -ℤ y)

abbrev pub multiply : Width → ℤ → ℤ → ℤ
multiply w x y = int_wrap w (x *ℤ y)

-- idiv, ldiv: the quotient rounded toward zero; the least value by -1 wraps to the least value
abbrev pub divide : Width → ℤ → ℤ → ℤ
divide w x y = int_wrap w (int_div x y)

-- irem, lrem: what that quotient leaves, of the dividend's sign
abbrev pub remainder : ℤ → ℤ → ℤ
remainder x y = int_rem x y

-- ineg, lneg: the least value wraps to itself
abbrev pub negate : Width → ℤ → ℤ
negate w x = int_wrap w (neg_ℤ x)

-- the low five bits of a shift count for an int, the low six for a long
abbrev pub shift_count : Width → ℤ → ℕ
shift_count w count = cast_unsigned w32 count % (8 * byte_len w)

-- ishl, lshl: times a power of two, wrapping
abbrev pub shift_left : Width → ℤ → ℤ → ℤ
shift_left w x count = int_shl w x (shift_count w count)

-- ishr, lshr: by a power of two, rounded down
abbrev pub shift_right : Width → ℤ → ℤ → ℤ
shift_right w x count = int_shr x (shift_count w count)

-- iushr, lushr: the bits move to the right, and zeros come in
abbrev pub shift_right_unsigned : Width → ℤ → ℤ → ℤ
shift_right_unsigned w x count = cast_signed w (cast_unsigned w x / 2 ^ shift_count w count)

-- i2c: the low 16 bits, without a sign (i2b, i2s and l2i are `int_wrap` at their widths)
abbrev pub to_char : ℤ → ℕ
to_char x = cast_unsigned w32 x % 2 ^ 16

-- lcmp: 1 where x is greater, 0 where they are equal, -1 where x is less
abbrev pub compare : ℤ → ℤ → ℤ
compare x y = if int_lt y x then pos 1 else (if int_eq x y then pos 0 else negsuc 0)

-- the conditions of the branches
abbrev pub is_equal : ℤ → ℤ → Bool
is_equal x y = int_eq x y

abbrev pub is_unequal : ℤ → ℤ → Bool
is_unequal x y = not (int_eq x y)

abbrev pub is_less : ℤ → ℤ → Bool
is_less x y = int_lt x y

abbrev pub is_at_least : ℤ → ℤ → Bool
is_at_least x y = int_le y x

abbrev pub is_greater : ℤ → ℤ → Bool
is_greater x y = int_lt y x

abbrev pub is_at_most : ℤ → ℤ → Bool
is_at_most x y = int_le x y
