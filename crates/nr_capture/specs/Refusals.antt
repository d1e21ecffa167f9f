-- Why there is no graph of some objects.
use Rattle.std.specs.Prelude.{◌≡◌, ℕ, List, Some, IsSomeAnd}
use Rattle.std.specs.FinMap.{get}
use Rattle.nr_linked.specs.declared.program.tables.ProgramTables.{ProgramTables}
use Rattle.nr_linked.specs.Kinds.{class_in}
use Rattle.nr_model.specs.declared.value.Value.{Value}
use Rattle.nr_model.specs.Heaps.{Heap}
use Rattle.nr_graph.specs.Pictures.{FirstUnsendable}
use Rattle.nr_capture.specs.declared.fault.CaptureFault.{CaptureFault}
use Rattle.nr_capture.specs.declared.fault.CaptureFault.TheVariants.{NotSendable, NoMemory}

abbrev pub OnNotSendable : CaptureFault → (ℕ → Type 0) → Type 0
OnNotSendable (NotSendable c) Q = Q c
OnNotSendable NoMemory Q = Unit {0}

-- class c stands in the kind of the object
abbrev pub IsOfClass : Heap → ℕ → ℕ → Type 0
IsOfClass h x c = IsSomeAnd (get h x) (λ o. class_in o.kind.base ≡ Some c)

-- of the objects that are met, the first that isn't sendable is of class c, or is an array of its objects
pub record RefusesClass (P : ProgramTables) (h : Heap) (vs : List Value) (c : ℕ) : Type 0 where
  pub name : ℕ
  pub first : FirstUnsendable P h vs name
  pub of_class : IsOfClass h name c
