-- How an instruction went, as a rule of the model: what its script does from what it worked on. The script is given the
-- offset of the next instruction.
use Rattle.std.specs.Prelude.{◌≡◌, ℕ, ◌-◌, ◌^◌, ◌<◌, ◌≤◌, [], ◌⊎◌, Option, Some, None, IsSomeAnd}
use Rattle.nr_linked.specs.declared.program.tables.ProgramTables.{ProgramTables}
use Rattle.nr_linked.specs.Programs.{method_at}
use Rattle.nr_model.specs.Heaps.{Heap, cells}
use Rattle.nr_model.specs.Outcomes.{max_cells}
use Rattle.nr_model.specs.Scripts.{Called, Ending, Gave, GoesTo, OnTop, Runs, Script, Threw, Within}
use Rattle.nr_model.specs.CallRules.{out_rule}
use Rattle.nr_model.specs.Throws.{onward}
use Rattle.nr_step.specs.declared.flow.Flow.{Flow}
use Rattle.nr_step.specs.declared.flow.Flow.TheVariants as flows
use Rattle.nr_step.specs.declared.flow.Told.{Told}

-- what an instruction does, by the offset of the next one
abbrev pub Doing : Type 0
Doing = Option ℕ → Script

-- the number told for so many cells: itself, or the greatest number of 64 bits where it is greater
abbrev pub Tells : ℕ → ℕ → Type 0
Tells told n = (told ≡ n) ⊎ ((told ≡ 2 ^ 64 - 1) × (told < n))

-- each run of it leaves just so many cells, which are too many
abbrev pub Fills : Doing → Within → ℕ → Type 0
Fills S w told = (max_cells < told)
    × ((n : Option ℕ) (e : Ending) (u : Within) → Runs (S n) w e u → Tells told (cells u.heap))

-- there are more cells than before, and not too many
abbrev pub HasMoreCells : Heap → Heap → Type 0
HasMoreCells old new = (cells old < cells new) × (cells new ≤ max_cells)

-- each run of it leaves more cells, which are not too many
abbrev pub TakesCells : Doing → Within → Type 0
TakesCells S w = (n : Option ℕ) (e : Ending) (u : Within) → Runs (S n) w e u → HasMoreCells w.heap u.heap

-- it throws the object of this name, and leaves this heap
abbrev pub ThrowsNamed : Doing → Within → ℕ → Heap → Type 0
ThrowsNamed S w a h = (n : Option ℕ) → (v : Within) × Runs (S n) w (Threw a) v × (v.heap ≡ h) × (v.printed ≡ [])

-- it does just what a method of nrmi/Out does
abbrev pub CallsOut : ProgramTables → Doing → ℕ → Type 0
CallsOut P S m = IsSomeAnd (method_at P m) (λ i. (n : Option ℕ) → out_rule P i (onward n) ≡ Some (S n))

-- it went so from w, and left u
abbrev pub Went : Flow → ProgramTables → Doing → Within → Told → Within → Type 0
Went flows.Next P S w told u = (n : ℕ) → Runs (S (Some n)) w (GoesTo n) u
Went flows.Branch P S w told u = (n : Option ℕ) → Runs (S n) w (GoesTo told.number) u
Went flows.Throw P S w told u = (u ≡ record w { heap = u.heap }) × ThrowsNamed S w told.number u.heap
Went flows.Invoke P S w told u = (u ≡ w) × ((n : Option ℕ) → Runs (S n) w (Called told.number) w)
Went flows.Print P S w told u = (u ≡ w) × CallsOut P S told.number
Went flows.Return P S w told u = (u ≡ w) × ((n : Option ℕ) → Runs (S n) w (Gave None) w)
Went flows.ReturnTop P S w told u = (u ≡ w)
    × OnTop w.operands (λ v vs. (n : Option ℕ) → Runs (S n) w (Gave (Some v)) (record w { operands = vs }))
Went flows.NoMemory P S w told u = (u ≡ w) × TakesCells S w
Went flows.Full P S w told u = (u ≡ w) × Fills S w told.cells

-- it threw a new object, or there was no room for one: the script is all that is left of the instruction
abbrev pub ThrewNew : Flow → Script → Within → Told → Heap → Type 0
ThrewNew flows.Throw sc w told h = (v : Within) × Runs sc w (Threw told.number) v × (v.heap ≡ h) × (v.printed ≡ w.printed)
ThrewNew flows.NoMemory sc w told h = (h ≡ w.heap) × ((e : Ending) (u : Within) → Runs sc w e u → HasMoreCells w.heap u.heap)
ThrewNew flows.Full sc w told h = (h ≡ w.heap) × (max_cells < told.cells)
    × ((e : Ending) (u : Within) → Runs sc w e u → Tells told.cells (cells u.heap))
ThrewNew flow sc w told h = ⊥
