-- What the methods of the built-in class nrmi/Out print (the project's own): chars as UTF-8, where two halves of a
-- surrogate pair are one character, and a half alone is a question mark.
use Rattle.std.specs.Prelude.{ℕ, ◌+◌, ◌-◌, ◌*◌, Bool, List, [], ◌∷◌, ◌++◌, Option, Some, None, nat_le, nat_lt, ◌&&◌, if◌then◌else◌}
use Rattle.std.specs.Str.{encode_utf8_all}

abbrev pub is_high_half : ℕ → Bool
is_high_half u = nat_le 0xD800 u && nat_lt u 0xDC00

abbrev pub is_low_half : ℕ → Bool
is_low_half u = nat_le 0xDC00 u && nat_lt u 0xE000

abbrev pub question_mark : ℕ
question_mark = 0x3F

abbrev pub joined : ℕ → ℕ → ℕ
joined high low = 0x1_0000 + (high - 0xD800) * 0x400 + (low - 0xDC00)

-- the character that the unit u is without one before it; none yet where it is a high half
abbrev pub alone : ℕ → List ℕ
alone u = if is_high_half u then [] else (if is_low_half u then question_mark else u) ∷ []

-- the characters that are complete with the unit u, where a high half stands before it, or none does
abbrev pub completed : Option ℕ → ℕ → List ℕ
completed None u = alone u
completed (Some high) u = if is_low_half u then joined high u ∷ [] else question_mark ∷ alone u

abbrev pub high_half : ℕ → Option ℕ
high_half u = if is_high_half u then Some u else None

-- the characters of the units, with what stands before them
abbrev pub characters_after : Option ℕ → List ℕ → List ℕ
characters_after None [] = []
characters_after (Some high) [] = question_mark ∷ []
characters_after before (u ∷ us) = completed before u ++ characters_after (high_half u) us

abbrev pub bytes_of_units : List ℕ → List ℕ
bytes_of_units us = encode_utf8_all (characters_after None us)
