-- What is kept of the class files of a folder while they are read. The project's own rules.
use Rattle.std.specs.Prelude.{◌≡◌, ℕ, ◌+◌, ◌≤◌, List, [], ◌∷◌, ◌++◌, min, Result, Ok}
use Rattle.nr_prog.specs.declared.body.loaded.Loaded.{Loaded}
use Rattle.nr_cli.specs.declared.ending.End.{End}

-- One more class file was read: its class and its length are put to the others. Where all are too long together, no class
-- is wanted any more.
pub record IsNext (read : Result (Loaded × ℕ) End) (old : List Loaded) (old_len : ℕ) (new : List Loaded) (new_len : ℕ) : Type 0 where
  pub loaded : Loaded
  pub len : ℕ
  pub is : read ≡ Ok (loaded, len)
  pub classes : new_len ≤ 67108864 → new ≡ old ++ loaded ∷ []
  pub lens : new_len ≡ min (old_len + len) 67108865

-- all were read: the classes, where they aren't too long together, and how many bytes all have, or one more than the limit
pub record IsRead (all : Result (List Loaded × ℕ) End) (kept : List Loaded) (len : ℕ) : Type 0 where
  pub classes : List Loaded
  pub sum : ℕ
  pub is : all ≡ Ok (classes, sum)
  pub whole : len ≤ 67108864 → kept ≡ classes
  pub lens : len ≡ min sum 67108865
