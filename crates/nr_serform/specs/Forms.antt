-- What the code keeps of each class of a program.
use Rattle.std.specs.Prelude.{◌≡◌, ℕ, ◌+◌, List, length, map, Some, slice_get}
use Rattle.nr_linked.specs.declared.program.tables.ProgramTables.{ProgramTables}
use Rattle.nr_linked.specs.Kinds.{class_kind}
use Rattle.nr_linked.specs.Sendable.{is_sendable}
use Rattle.nr_graph.specs.StreamOrder.{declared_slots, stream_slots}
use Rattle.nr_serform.specs.declared.form.Form.{Form}
use Rattle.nr_serform.specs.ClassNumbers.{class_number}
use Rattle.nr_serform.specs.StreamSlots.{placed_of}

-- what is known of class c
pub record IsFormOf (P : ProgramTables) (c : ℕ) (f : Form) : Type 0 where
  pub slots : map placed_of f.slots.items ≡ stream_slots P c
  pub fields : map placed_of f.fields.items ≡ declared_slots P c c
  pub number : f.number ≡ class_number P c
  pub sendable : f.sendable ≡ is_sendable P (class_kind c)

-- a form for each class, and a last one for numbers that name no class
pub record AreForms (P : ProgramTables) (forms : List Form) : Type 0 where
  pub count : length forms ≡ length P.classes + 1
  pub each : (c : ℕ) (f : Form) → slice_get forms c ≡ Some f → IsFormOf P c f
