-- What a write leaves.
use Rattle.std.specs.Prelude.{◌≡◌, ℕ, List, ◌++◌, take}

-- Some first bytes of the piece were added, all of them or none included.
pub record AddsPart (old new piece : List ℕ) : Type 0 where
  pub count : ℕ
  pub added : new ≡ old ++ take count piece
