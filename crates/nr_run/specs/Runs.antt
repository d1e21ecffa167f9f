-- Runs of a program's `main` on one machine (the project's own rules).
use Rattle.std.specs.Prelude.{◌≡◌, ℕ, List, [], ◌∷◌, ◌++◌, map, Some, IsSome, IsSomeAnd, IsTrue, ℤ, codes}
use Rattle.std.specs.Fmt.{signed_decimal}
use Rattle.std.specs.FinMap.{empty, get, insert}
use Rattle.nr_prog.specs.Members.{is_static}
use Rattle.nr_linked.specs.declared.program.kind.Base.TheVariants as bases
use Rattle.nr_linked.specs.declared.program.kind.Kind.{Kind}
use Rattle.nr_linked.specs.declared.program.tables.MethodInfo.{MethodInfo}
use Rattle.nr_linked.specs.declared.program.tables.ProgramTables.{ProgramTables}
use Rattle.nr_linked.specs.Kinds.{array_of, class_kind}
use Rattle.nr_linked.specs.Programs.{method_at}
use Rattle.nr_model.specs.declared.value.Value.{Value}
use Rattle.nr_model.specs.declared.value.Value.TheVariants.{Int, Ref}
use Rattle.nr_model.specs.Heaps.{Heap, Obj}
use Rattle.nr_model.specs.Locals.{CallRun}
use Rattle.nr_model.specs.Outcomes.{CallOutcome, Ended, Fate, HeapFull, OutputTooLong, TooDeep}
use Rattle.nr_model.specs.Outcomes as outcomes
use Rattle.nr_model.specs.Printed.{CallPrintedAfter}
use Rattle.nr_model.specs.States.{State}
use Rattle.nr_model.specs.States as states
use Rattle.nr_run.specs.declared.ran.Limit.{Limit as TheLimit}
use Rattle.nr_run.specs.declared.ran.Limit.TheVariants.{Cells, Depth, Output}
use Rattle.nr_run.specs.declared.ran.Ran.{Ran}
use Rattle.nr_run.specs.declared.ran.RunEnd.{RunEnd}
use Rattle.nr_run.specs.declared.ran.RunEnd.TheVariants.{Returned, Thrown, Budget, Limit, NoMemory}

-- ---- the start

-- a static method with code that takes an array of int and returns an int
pub record IsMain (P : ProgramTables) (m : ℕ) : Type 0 where
  pub info : MethodInfo
  pub is_info : method_at P m ≡ Some info
  pub static : IsTrue (is_static info.flags)
  pub desc : info.desc ≡ codes "([I)I"
  pub code : IsSome info.body

abbrev pub int_kind : Kind
int_kind = record { dims = 0; base = bases.Int }

-- the array of the ints
abbrev pub int_array : List ℤ → Obj
int_array ints = record { kind = array_of int_kind; slots = map Int ints }

-- the heap at the start holds it alone, under the name 0
abbrev pub first_heap : List ℤ → Heap
first_heap ints = insert empty 0 (int_array ints)

-- `main` is called with it
abbrev pub first_args : List Value
first_args = Ref 0 ∷ []

-- ---- how a run ends

-- an object of the class was thrown, and no frame handled it
pub record IsThrown (s : State) (c : ℕ) : Type 0 where
  pub object : ℕ
  pub thrown : s.control ≡ states.Thrown (Ref object)
  pub of_class : IsSomeAnd (get s.heap object) (λ o. o.kind ≡ class_kind c)

abbrev pub limit_fate : TheLimit → Fate
limit_fate Cells = HeapFull
limit_fate Depth = TooDeep
limit_fate Output = OutputTooLong

-- an outcome that leaves the state ends so
abbrev pub EndsAs : Fate → State → RunEnd → Type 0
EndsAs fate s (Returned n) = (fate ≡ Ended) × (s.control ≡ states.Returned (Some (Int n)))
EndsAs fate s (Thrown c) = (fate ≡ Ended) × IsThrown s c
EndsAs fate s Budget = fate ≡ outcomes.BudgetSpent
EndsAs fate s (Limit limit) = fate ≡ limit_fate limit
EndsAs fate s NoMemory = ⊥

-- A call of method m in a heap, with these arguments and this budget, has an outcome that ends so, and printed so.
pub record CallEnds (P : ProgramTables) (h : Heap) (m : ℕ) (args : List Value) (budget : ℕ) (r : Ran) : Type 0 where
  pub steps : ℕ
  pub fate : Fate
  pub state : State
  pub outcome : CallOutcome P h m args budget steps fate state
  pub ends : EndsAs fate state r.end
  pub printed : r.printed ≡ state.printed

-- It has printed so after some steps.
abbrev pub CallStops : ProgramTables → Heap → ℕ → List Value → ℕ → List ℕ → Type 0
CallStops P h m args budget printed = (k : ℕ) × CallPrintedAfter P h m args budget k printed

-- the same of `main` with these ints
abbrev pub RunEnds : ProgramTables → ℕ → List ℤ → ℕ → Ran → Type 0
RunEnds P m ints budget r = CallEnds P (first_heap ints) m first_args budget r

abbrev pub RunStops : ProgramTables → ℕ → List ℤ → ℕ → List ℕ → Type 0
RunStops P m ints budget printed = CallStops P (first_heap ints) m first_args budget printed

-- ---- the text of a run

abbrev pub result_line : ℤ → List ℕ
result_line n = codes "result " ++ signed_decimal n ++ 10 ∷ []

-- The text of `main` with these ints, on one machine without a budget and limits: what is printed until it returns, and
-- a line with the result.
pub record IsText (P : ProgramTables) (m : ℕ) (ints : List ℤ) (text : List ℕ) : Type 0 where
  pub steps : ℕ
  pub state : State
  pub result : ℤ
  pub run : CallRun P (first_heap ints) m first_args steps state
  pub returned : state.control ≡ states.Returned (Some (Int result))
  pub is_text : text ≡ state.printed ++ result_line result
