-- How a run ends within a budget of steps and the limits of the machine. The limits are the project's own.
use Rattle.std.specs.Prelude.{◌≡◌, ℕ, zero, suc, ◌+◌, ◌^◌, Bool, true, false, ◌||◌, List, [], ◌∷◌, length, Option, Some, None, nat_lt, if◌then◌else◌}
use Rattle.std.specs.Option.{option_map_or}
use Rattle.nr_linked.specs.declared.program.tables.ProgramTables.{ProgramTables}
use Rattle.nr_linked.specs.Programs.{method_at}
use Rattle.nr_model.specs.declared.value.Value.{Value}
use Rattle.nr_model.specs.Heaps.{Heap, cells}
use Rattle.nr_model.specs.States.{Frame, Control, Running, State, IsEnd}
use Rattle.nr_model.specs.Steps.{Step}
use Rattle.nr_model.specs.Locals.{Begins}

-- ---- limits: each number itself is allowed

abbrev pub max_cells : ℕ
max_cells = 2 ^ 20

abbrev pub max_frames : ℕ
max_frames = 1024

abbrev pub max_value_slots : ℕ
max_value_slots = 2 ^ 16

abbrev pub max_printed : ℕ
max_printed = 2 ^ 20

-- the places for locals and operands of all frames
abbrev pub value_slots : ProgramTables → List Frame → ℕ
value_slots P [] = 0
value_slots P (f ∷ fs) =
    option_map_or (λ i. i.max_locals + i.max_stack) (method_at P f.method) 0 + value_slots P fs

abbrev pub is_too_deep : ProgramTables → Control → Bool
is_too_deep P (Running fs) = nat_lt max_frames (length fs) || nat_lt max_value_slots (value_slots P fs)
is_too_deep P c = false

-- ---- outcomes

pub data Fate : Type 0 where
  Ended BudgetSpent HeapFull TooDeep OutputTooLong : Fate

-- the limit that a state passes, if it passes one
abbrev pub passed : ProgramTables → State → Option Fate
passed P s =
    if nat_lt max_cells (cells s.heap) then Some HeapFull
    else (if is_too_deep P s.control then Some TooDeep
    else (if nat_lt max_printed (length s.printed) then Some OutputTooLong
    else None))

-- From the state, with this budget, the outcome is the fate, after so many steps, and leaves the last state. An end
-- comes first, then a spent budget; a step to a state that passes a limit counts, and isn't made.
pub data Outcome (P : ProgramTables) : State → ℕ → ℕ → Fate → State → Type 0 where
  ended : {s : State} {budget : ℕ} → IsEnd s.control → Outcome P s budget zero Ended s
  spent : {s : State} → (IsEnd s.control → ⊥) → Outcome P s zero zero BudgetSpent s
  limited : {s : State} (t : State) {budget : ℕ} {fate : Fate} → Step P s t → passed P t ≡ Some fate
      → Outcome P s (suc budget) (suc zero) fate s
  further : {s t : State} (m : State) {budget n : ℕ} {fate : Fate} → Step P s m → passed P m ≡ None
      → Outcome P m budget n fate t → Outcome P s (suc budget) (suc n) fate t

-- the same of a call of method m in a heap, whose first frame alone may be too deep
pub data CallOutcome (P : ProgramTables) (h : Heap) (m : ℕ) (args : List Value) : ℕ → ℕ → Fate → State → Type 0 where
  too_deep : {s : State} {budget : ℕ} → Begins P h m args s → is_too_deep P s.control ≡ true
      → CallOutcome P h m args budget zero TooDeep s
  begun : (s : State) {t : State} {budget n : ℕ} {fate : Fate} → Begins P h m args s
      → is_too_deep P s.control ≡ false → Outcome P s budget n fate t → CallOutcome P h m args budget n fate t
