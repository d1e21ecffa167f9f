-- Reading names: modified UTF-8 without U+0000.
use Rattle.std.specs.Prelude.{ℕ, ◌+◌, ◌-◌, ◌*◌, List, [], Bool, true, false, is_ok, nat_le, Result, Ok, Err, ◌==◌, if◌then◌else◌}
use Rattle.std.specs.Int.{w8}
use Rattle.nr_base.specs.Place.{Place, start_of}
use Rattle.nr_base.specs.Reader.{Reader, ◌>>=◌, pure, refuse, choose, from, with_fault, onto, to_end}
use Rattle.nr_base.specs.Bytes.{number_at}
use Rattle.nr_base.specs.ModifiedUtf8.{within}
use Rattle.nr_base.specs.declared.name.fault.NameFault.{NameFault}
use Rattle.nr_base.specs.declared.name.fault.NameFault.TheVariants as faults

-- want of memory may come at any time
abbrev pub is_free : NameFault → Bool
is_free faults.NoMemory = true
is_free e = false

-- a byte of the character that begins at `at`
unfoldable pub byte_at : ℕ → Reader NameFault ℕ
byte_at at = with_fault (λ _. faults.BadUtf at) (number_at w8)

-- the six bits of a byte that is not a character's first
unfoldable pub six_bits_at : ℕ → Reader NameFault ℕ
six_bits_at at = byte_at at >>= λ b. choose (within 0x80 0xBF b) (pure (b - 0x80)) (refuse (faults.BadUtf at))

-- A character of two bytes, whose first one holds these bits. One of fewer bytes can't be written so.
unfoldable pub two_at : ℕ → ℕ → Reader NameFault ℕ
two_at at high = do
  low ← six_bits_at at
  choose (nat_le 0x80 (high * 64 + low)) (pure (high * 64 + low))
      (refuse (if high * 64 + low == 0 then faults.ZeroChar at else faults.BadUtf at))

-- a character of three bytes
unfoldable pub three_at : ℕ → ℕ → Reader NameFault ℕ
three_at at high = do
  middle ← six_bits_at at
  low ← six_bits_at at
  choose (nat_le 0x800 ((high * 64 + middle) * 64 + low)) (pure ((high * 64 + middle) * 64 + low))
      (refuse (faults.BadUtf at))

-- A unit of a name. Each fault has the place where its character begins.
unfoldable pub unit_at : Reader NameFault ℕ
unit_at = from (λ at. do
  first ← byte_at at
  choose (within 1 0x7F first) (pure first)
      (choose (within 0xC0 0xDF first) (two_at at (first - 0xC0))
      (choose (within 0xE0 0xEF first) (three_at at (first - 0xE0))
      (refuse (faults.BadUtf at)))))

-- the units of a text
abbrev pub units_of : List ℕ → Result (List ℕ × Place) NameFault
units_of bytes = to_end (onto unit_at) [] (start_of bytes)

abbrev pub named : List ℕ → Result (List ℕ × Place) NameFault → Result (List ℕ) NameFault
named bytes (Ok x) = Ok bytes
named bytes (Err e) = Err e

-- the name of a text
abbrev pub name_of : List ℕ → Result (List ℕ) NameFault
name_of bytes = named bytes (units_of bytes)

abbrev pub is_name : List ℕ → Bool
is_name bytes = is_ok (units_of bytes)
