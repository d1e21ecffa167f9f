-- How many calls were made on an object of the outside. The project's own rule.
use Rattle.std.specs.Prelude.{ℕ, ◌+◌, ◌-◌, ◌^◌, ◌≤◌, min}

-- the count after one more call; it ends at 2^64 - 1
abbrev pub next_count : ℕ → ℕ
next_count calls = min (calls + 1) (2 ^ 64 - 1)

-- so many calls were made at most
abbrev pub CallsAtMost : ℕ → ℕ → ℕ → Type 0
CallsAtMost most before now = now ≤ before + most
