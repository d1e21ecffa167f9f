-- What the last answer of a machine tells of a run.
use Rattle.std.specs.Prelude.{◌≡◌, ℕ, ℤ, Some, IsSomeAnd}
use Rattle.std.specs.FinMap.{get}
use Rattle.nr_linked.specs.Kinds.{class_kind}
use Rattle.nr_model.specs.declared.value.Value.TheVariants.{Int}
use Rattle.nr_model.specs.Heaps.{Heap}
use Rattle.nr_machine.specs.declared.answer.Turn.{Turn}
use Rattle.nr_machine.specs.declared.answer.Turn.TheVariants as turns
use Rattle.nr_run.specs.declared.ran.Limit.TheVariants.{Cells, Depth, Output}
use Rattle.nr_run.specs.declared.ran.RunEnd.{RunEnd}
use Rattle.nr_run.specs.declared.ran.RunEnd.TheVariants.{Returned, Thrown, Budget, Limit, NoMemory}

-- the answer of a machine in the heap tells this end of a method that returns an int
abbrev pub Tells : Heap → Turn → RunEnd → Type 0
Tells h (turns.Returned v) end = (n : ℤ) × (v ≡ Some (Int n)) × (end ≡ Returned n)
Tells h (turns.Thrown a) end = (c : ℕ) × (end ≡ Thrown c) × IsSomeAnd (get h a) (λ o. o.kind ≡ class_kind c)
Tells h turns.BudgetSpent end = end ≡ Budget
Tells h turns.HeapFull end = end ≡ Limit Cells
Tells h turns.TooDeep end = end ≡ Limit Depth
Tells h turns.OutputTooLong end = end ≡ Limit Output
Tells h turns.NoMemory end = end ≡ NoMemory
Tells h turns.Ran end = ⊥
Tells h (turns.RemoteAsk m) end = ⊥
