-- When an object of the outside may refuse a call. The project's own rule.
use Rattle.std.specs.Prelude.{◌≡◌, ◌⊎◌, ℕ, ◌+◌, ◌-◌, ◌^◌, ◌≤◌, min, Result, IsErrOf}
use Rattle.nr_outside.specs.declared.fault.Fault.{Fault}
use Rattle.nr_outside.specs.declared.fault.Fault.TheVariants.{Failed}

-- The count rose. At the end of its range it stands still, and counts as risen.
abbrev pub Rose : ℕ → ℕ → Type 0
Rose before now = min (before + 1) (2 ^ 64 - 1) ≤ now

-- The count doesn't fall. It rises where the call fails, and stands still otherwise.
pub record HasCause {T : Type 0} (before now : ℕ) (result : Result T Fault) : Type 0 where
  pub later : before ≤ now
  pub failed : IsErrOf result Failed → Rose before now
  pub still : IsErrOf result Failed ⊎ (now ≡ before)
