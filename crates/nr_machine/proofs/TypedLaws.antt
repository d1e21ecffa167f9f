-- The laws of well-typed programs that the machine rests on.
use Rattle.std.proofs.Common.{◌≡◌, ℕ, List, [], ◌∷◌, refl}
use Rattle.std.specs.Prelude.{Option, Some}
use Rattle.nr_prog.specs.declared.body.whole.Body.{Body}
use Rattle.nr_linked.specs.declared.program.kind.Kind.{Kind}
use Rattle.nr_linked.specs.declared.program.tables.MethodInfo.{MethodInfo}
use Rattle.nr_linked.specs.declared.program.tables.ProgramTables.{ProgramTables}
use Rattle.nr_linked.specs.Programs.{method_at}
use Rattle.nr_linked.specs.TypingFacts.{TypingFacts}
use Rattle.nr_linked.specs.WellTyped.{WellTyped}
use Rattle.nr_model.specs.declared.value.Value.{Value}
use Rattle.nr_model.specs.Asks.{Answer, Asks, AskStep}
use Rattle.nr_model.specs.Belonging.{Belong}
use Rattle.nr_model.specs.Heaps.{Heap}
use Rattle.nr_model.specs.States.{State}
use Rattle.nr_model.specs.TypedAnswers.{IsTypedEntry, entry_of}
use Rattle.nr_model.specs.TypedHeaps.{TypedHeap}
use Rattle.nr_model.specs.Types.{argument_tys}
use Rattle.nr_typed.specs.Standing.{StandsIn, first_state}
use Rattle.nr_typed.proofs.Asking.{answered, asked_stands}
use Rattle.nr_typed.proofs.Progress.{first_state_stands}

pub first_stands : (P : ProgramTables) → TypingFacts P → (typed : WellTyped P) (h : Heap) → TypedHeap P h → (n : ℕ) (i : MethodInfo) (body : Body) → method_at P n ≡ Some i → i.body ≡ Some body
    → (args : List Value) → Belong P h (argument_tys i) args → StandsIn P typed.frames i.result (first_state h n i args)
first_stands P facts typed h heap n i body is_i is_body args q = first_state_stands P facts typed i.result h heap n i body is_i refl is_body args q []

pub answer_stands : (P : ProgramTables) → TypingFacts P → (typed : WellTyped P) (result : Option Kind) (service : Option ℕ) (s : State) (a : Asks P service s) → StandsIn P typed.frames result s
    → (answer : Answer) → IsTypedEntry P (entry_of a answer) → (t : State) × AskStep P service s (entry_of a answer) t × StandsIn P typed.frames result t
answer_stands P facts typed result service s a st answer q =
    let r = answered P facts typed result service s a st answer q in
    (r.0, r.1, asked_stands P facts typed result service s r.0 (entry_of a answer) st r.1 q)
