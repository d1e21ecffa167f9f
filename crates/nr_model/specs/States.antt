-- States of the machine (JVM Specification 2.5, 2.6).
use Rattle.std.specs.Prelude.{ℕ, List, Option}
use Rattle.nr_model.specs.declared.value.Value.{Value}
use Rattle.nr_model.specs.Heaps.{Heap}

-- The frame of an invocation (2.6): its method, by its number in the program, and the offset of the instruction at
-- which it stands. A long is one operand; in the locals it takes two places, of which the second isn't used.
pub record Frame : Type 0 where
  pub method : ℕ
  pub offset : ℕ
  pub locals : List Value
  pub operands : List Value  -- the topmost first

-- the frames, that of the running method first; or how the first method ended (2.6.4, 2.6.5)
pub data Control : Type 0 where
  Running : List Frame → Control
  Returned : Option Value → Control
  Thrown : Value → Control

pub record State : Type 0 where
  pub heap : Heap
  pub control : Control
  pub printed : List ℕ

-- whether a state is an end
abbrev pub IsEnd : Control → Type 0
IsEnd (Running fs) = ⊥
IsEnd (Returned v) = Unit {0}
IsEnd (Thrown v) = Unit {0}
