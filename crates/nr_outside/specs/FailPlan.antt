-- Which calls of an object in memory are to fail. The project's own rule.
use Rattle.std.specs.Prelude.{◌≡◌, ℕ, ◌==◌, Bool}
use Rattle.std.specs.List.{list_any}
use Rattle.nr_outside.specs.Calls.{next_count}
use Rattle.nr_outside.specs.declared.fail_plan.FailPlan.{FailPlan}

-- the number of the next call
abbrev pub next_call : FailPlan → ℕ
next_call p = next_count p.calls

-- whether the next call is to fail
unfoldable pub is_planned : FailPlan → Bool
is_planned p = list_any (λ n. n == next_call p) p.fails.items

-- a call was counted
pub record IsCounted (old new : FailPlan) : Type 0 where
  pub fails : new.fails.items ≡ old.fails.items
  pub calls : new.calls ≡ next_call old
