-- Reading numbers and runs of bytes.
use Rattle.std.specs.Prelude.{ℕ, List, length, take, Ok, Err, nat_lt, if◌then◌else◌}
use Rattle.std.specs.Int.{Width, byte_len, from_be_bytes}
use Rattle.nr_base.specs.Place.{Place, at_of, skip}
use Rattle.nr_base.specs.Reader.{Reader}
use Rattle.nr_base.specs.declared.cur.Short.{Short}

-- the item that begins here doesn't fit
abbrev pub short_at : Place → Short
short_at p = record { at = at_of p }

-- a number of a width, the most significant byte first
abbrev pub number_at : Width → Reader Short ℕ
number_at w p =
    if nat_lt (length p.rest) (byte_len w) then Err (short_at p)
    else Ok (from_be_bytes w (take (byte_len w) p.rest), skip (byte_len w) p)

-- the next n bytes
abbrev pub run_at : ℕ → Reader Short (List ℕ)
run_at n p = if nat_lt (length p.rest) n then Err (short_at p) else Ok (take n p.rest, skip n p)
