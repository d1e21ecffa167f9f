-- Whole runs and their outcomes: iconst_2, iconst_3, iadd, ireturn (JVM Specification 6.5).
use Rattle.std.proofs.Common.{◌≡◌, ℕ, zero, suc, List, [], ◌∷◌, refl, ap}
use Rattle.std.specs.Prelude.{pos, Some, None, false, nat_lt, if◌then◌else◌}
use Rattle.std.specs.Int.{int_wrap}
use Rattle.nr_optable.specs.Rows.{all_rows}
use Rattle.nr_prog.specs.declared.body.instruction.Args.TheVariants as args
use Rattle.nr_linked.specs.declared.program.tables.ProgramTables.{ProgramTables}
use Rattle.nr_linked.specs.declared.program.tables.Resolved.TheVariants as resolved
use Rattle.nr_model.specs.declared.value.Value.{Value}
use Rattle.nr_model.specs.declared.value.Value.TheVariants.{Int}
use Rattle.nr_model.specs.Heaps.{Heap, cells}
use Rattle.nr_model.specs.Scripts.{GoesTo, Gave}
use Rattle.nr_model.specs.States.{Returned, State}
use Rattle.nr_model.specs.Steps.{Step, Run}
use Rattle.nr_model.specs.Outcomes.{Ended, BudgetSpent, HeapFull, max_cells, passed, Outcome, ended, spent, further}
use Rattle.nr_model.proofs.Examples.Machine.{instr, body_of, program, frame_at, running, left_in}

abbrev int : ℕ → Value
int n = Int (pos n)

abbrev sum : ProgramTables
sum = program
    (body_of (record (instr 5 args.Empty) { at = 0 } ∷ record (instr 6 args.Empty) { at = 1 } ∷ record (instr 96 args.Empty) { at = 2 } ∷ record (instr 172 args.Empty) { at = 3 } ∷ []) [])
    (resolved.Nothing ∷ resolved.Nothing ∷ resolved.Nothing ∷ resolved.Nothing ∷ []) []

module _ (h : Heap) where
  abbrev at : ℕ → List Value → State
  at offset operands = running h (frame_at offset [] operands ∷ [])

  abbrev five : State
  five = record { heap = h; control = Returned (Some (int 5)); printed = [] }

  step_0 : Step sum (at 0 []) (at 1 (int 2 ∷ []))
  unfolding all_rows
  step_0 = record { ending = GoesTo 1; left = left_in h [] (int 2 ∷ []) []; runs = (refl, refl); control = refl; heap = refl; printed = refl }

  step_1 : Step sum (at 1 (int 2 ∷ [])) (at 2 (int 3 ∷ int 2 ∷ []))
  unfolding all_rows
  step_1 = record { ending = GoesTo 2; left = left_in h [] (int 3 ∷ int 2 ∷ []) []; runs = (refl, refl); control = refl; heap = refl; printed = refl }

  step_2 : Step sum (at 2 (int 3 ∷ int 2 ∷ [])) (at 3 (int 5 ∷ []))
  unfolding all_rows int_wrap
  step_2 = record { ending = GoesTo 3; left = left_in h [] (int 5 ∷ []) []; runs = (refl, refl); control = refl; heap = refl; printed = refl }

  step_3 : Step sum (at 3 (int 5 ∷ [])) five
  unfolding all_rows
  step_3 = record { ending = Gave (Some (int 5)); left = left_in h [] [] []; runs = (refl, refl); control = refl; heap = refl; printed = refl }

  returns_five : Run sum (at 0 []) (suc (suc (suc (suc zero)))) five
  returns_five = (at 1 (int 2 ∷ []), step_0, (at 2 (int 3 ∷ int 2 ∷ []), step_1, (at 3 (int 5 ∷ []), step_2, (five, step_3, refl))))

  -- where the heap is within its limit, a budget of 4 is enough, and one of 3 isn't
  module _ (fits : nat_lt max_cells (cells h) ≡ false) where
    passes_none : (offset : ℕ) (operands : List Value) → passed sum (at offset operands) ≡ None
    passes_none offset operands = ap (λ b. if b then Some HeapFull else None) fits

    end_passes_none : passed sum five ≡ None
    end_passes_none = ap (λ b. if b then Some HeapFull else None) fits

    ends_within_4 : Outcome sum (at 0 []) (suc (suc (suc (suc zero)))) (suc (suc (suc (suc zero)))) Ended five
    ends_within_4 =
        further _ step_0 (passes_none 1 (int 2 ∷ [])) (further _ step_1 (passes_none 2 (int 3 ∷ int 2 ∷ []))
        (further _ step_2 (passes_none 3 (int 5 ∷ [])) (further _ step_3 end_passes_none (ended tt))))

    spends_3 : Outcome sum (at 0 []) (suc (suc (suc zero))) (suc (suc (suc zero))) BudgetSpent (at 3 (int 5 ∷ []))
    spends_3 =
        further _ step_0 (passes_none 1 (int 2 ∷ [])) (further _ step_1 (passes_none 2 (int 3 ∷ int 2 ∷ []))
        (further _ step_2 (passes_none 3 (int 5 ∷ [])) (spent (λ e. e))))
