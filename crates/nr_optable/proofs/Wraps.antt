-- What is left of a number in a type's bits, where code takes its remainder or casts it.
use Rattle.std.proofs.Common.{◌≡◌, ℕ, zero, suc, ◌/◌, ◌^◌, ◌<◌, ◌≤◌, ℤ, pos, negsuc, neg_ℤ, refl, sym, ap, ◌∙◌, arith}
use Rattle.std.specs.Int.{Width, cast_signed, cast_unsigned, int_rem_euclid, int_wrap, int_wrapping_div}
use Rattle.std.specs.Int.RustNames.{FitsSigned, int_div, unsigned_abs}
use Rattle.std.proofs.lemmas.Int.{to_z-of_z}
use Rattle.std.proofs.Math.Nat.{mod-eq_of_lt, div-le_self}
use lib.Pow.{pow_pos}
use mir.Val.{bits, hbits}
use mir.ValLaws.{pow-bits}

-- a number that fits, as its bits read back
pub cast_back : (w : Width) (z : ℤ) → FitsSigned w z → cast_signed w (cast_unsigned w z) ≡ z
cast_back w z f = to_z-of_z w z f

-- The code's way to what is left: the remainder r by a power of two of a number x of type v, read as the signed
-- number s of type w.
pub wrap_rem : (v w : Width) (x r s : ℤ) → FitsSigned v x → FitsSigned v r
    → r ≡ int_rem_euclid (cast_signed v (cast_unsigned v x)) (pos (2 ^ bits w))
    → s ≡ cast_signed w (unsigned_abs (cast_signed v (cast_unsigned v r)))
    → s ≡ int_wrap w x
unfolding int_wrap
wrap_rem v w x r s fx fr er es =
    es ∙ ap (λ z. cast_signed w (unsigned_abs z)) (cast_back v r fr ∙ er ∙ ap (λ z. int_rem_euclid z (pos (2 ^ bits w))) (cast_back v x fx))

-- the cast of a number whose size the unsigned type holds
pub wrap_cast : (w : Width) (z : ℤ) → unsigned_abs z < 2 ^ bits w → cast_signed w (cast_unsigned w z) ≡ int_wrap w z
unfolding int_wrap
wrap_cast w (pos n) h = ap (cast_signed w) (sym (mod-eq_of_lt h))
wrap_cast w (negsuc n) h =
    let small : n < 2 ^ bits w = omega arith in
    ap (cast_signed w) (let e = mod-eq_of_lt small in omega arith)

abs_neg : (n : ℕ) → unsigned_abs (neg_ℤ (pos n)) ≡ n
abs_neg zero = refl
abs_neg (suc n) = refl

-- a quotient is no larger than the dividend
abs_quotient : (x y : ℤ) → unsigned_abs (int_div x y) ≤ unsigned_abs x
abs_quotient (pos a) (pos b) = div-le_self a b
abs_quotient (pos a) (negsuc b) = omega (arith, abs_neg (a / suc b), div-le_self a (suc b))
abs_quotient (negsuc a) (pos b) = omega (arith, abs_neg (suc a / b), div-le_self (suc a) b)
abs_quotient (negsuc a) (negsuc b) = div-le_self (suc a) (suc b)

abs_fits : (w : Width) (z : ℤ) → FitsSigned w z → unsigned_abs z ≤ 2 ^ hbits w
abs_fits w (pos n) f = let h = f.sfits in omega arith
abs_fits w (negsuc n) f = let h = f.sfits in omega arith

pub wrap_quotient : (w : Width) (x y : ℤ) → FitsSigned w x → int_wrapping_div w x y ≡ int_wrap w (int_div x y)
wrap_quotient w x y f = wrap_cast w (int_div x y) (omega (arith, abs_quotient x y, abs_fits w x f, pow-bits w, pow_pos (hbits w)))
