-- A place in a text: how long the whole text is, and what of it is still to be read.
use Rattle.std.specs.Prelude.{ℕ, ◌-◌, List, length, drop}

pub record Place : Type 0 where
  pub total : ℕ
  pub rest : List ℕ

-- the offset of the byte that stands next
abbrev pub at_of : Place → ℕ
at_of p = p.total - length p.rest

-- the place behind the next n bytes
abbrev pub skip : ℕ → Place → Place
skip n p = record { total = p.total; rest = drop n p.rest }

-- where the reading of a whole text begins
abbrev pub start_of : List ℕ → Place
start_of bytes = record { total = length bytes; rest = bytes }
