-- Modified UTF-8: texts as bytes of a class file. JVM Specification 4.4.7.
use Rattle.std.specs.Prelude.{◌≡◌, ℕ, ◌+◌, ◌/◌, ◌%◌, ◌<◌, ◌^◌, List, [], ◌∷◌, Bool, ◌&&◌, nat_le, if◌then◌else◌}
use Rattle.std.specs.List.{AllByRecursion, flat_map}
use Rattle.nr_base.specs.Grammar.{Grammar}

abbrev pub within : ℕ → ℕ → ℕ → Bool
within low high n = nat_le low n && nat_le n high

-- The bytes of a unit of UTF-16: one for 0001 to 007F, two for 0 and 0080 to 07FF, else three.
abbrev pub unit_bytes : ℕ → List ℕ
unit_bytes u =
    if within 1 0x7F u then u ∷ []
    else (if nat_le u 0x7FF then (0xC0 + u / 64) ∷ (0x80 + u % 64) ∷ []
    else (0xE0 + u / 4096) ∷ (0x80 + u / 64 % 64) ∷ (0x80 + u % 64) ∷ [])

-- A unit of a name: any but U+0000. The project's own rule.
abbrev pub IsUnit : ℕ → Type 0
IsUnit u = (0 < u) × (u < 2 ^ 16)

-- the bytes are the modified UTF-8 of units other than U+0000
pub record IsModifiedUtf8 (bytes : List ℕ) : Type 0 where
  pub units : List ℕ
  pub each : AllByRecursion IsUnit units
  pub spelled : bytes ≡ flat_map unit_bytes units

abbrev pub unit : Grammar ℕ
unit u text = IsUnit u × (text ≡ unit_bytes u)
