-- Decimal texts have a digit.
use Rattle.std.proofs.Common.{◌≡◌, ℕ, ◌<◌, length, refl, arith}
use Rattle.std.specs.Prelude.{◌^◌, ℤ, negsuc, pos}
use Rattle.std.specs.Fmt.{signed_decimal}
use Rattle.std.proofs.lemmas.Fmt.{decimal_nonempty}

pub signed_some : (z : ℤ) → ((n : ℕ) → z ≡ pos n → n < 2 ^ 64) → 0 < length (signed_decimal z)
signed_some (pos n) few = decimal_nonempty n (few n refl)
signed_some (negsuc n) few = omega arith
