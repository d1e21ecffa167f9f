-- Slots of an object by their places.
use Rattle.std.specs.Prelude.{◌≡◌, ℕ, ◌<◌, List, length, Some, slice_get}
use Rattle.nr_model.specs.declared.value.Value.{Value}
use Rattle.nr_serform.specs.declared.order.StreamSlot.{StreamSlot}

-- an object with these values has all these slots
abbrev pub AreWithin : List Value → List StreamSlot → Type 0
AreWithin vs ss = (k : ℕ) (s : StreamSlot) → slice_get ss k ≡ Some s → s.place < length vs

-- what the slots hold of these values, one by one
pub record AreAt (vs : List Value) (ss : List StreamSlot) (us : List Value) : Type 0 where
  pub count : length us ≡ length ss
  pub slots : (k : ℕ) (s : StreamSlot) (u : Value) → slice_get ss k ≡ Some s → slice_get us k ≡ Some u → slice_get vs s.place ≡ Some u
