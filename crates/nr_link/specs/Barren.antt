-- Where nothing stands above.
use Rattle.std.specs.Prelude.{◌≡◌, ℕ, Bool, false}
use Rattle.nr_linked.specs.declared.program.tables.ProgramTables.{ProgramTables}
use Rattle.nr_linked.specs.Subtypes.{Above}

-- no class at or above class c passes the test
abbrev pub IsBarren : ProgramTables → (ℕ → Bool) → ℕ → Type 0
IsBarren P test c = (d : ℕ) → Above P c d → test d ≡ false
