-- Heaps that keep what they have (the project's own).
use Rattle.std.specs.Prelude.{◌≡◌, ℕ, length, Some}
use Rattle.std.specs.FinMap.{get}
use Rattle.nr_model.specs.Heaps.{Obj, Heap}

-- each object is still there, of its kind and length
pub record Stays (h k : Heap) : Type 0 where
  pub at : (a : ℕ) (o : Obj) → get h a ≡ Some o → (p : Obj) × (get k a ≡ Some p) × (p.kind ≡ o.kind) × (length p.slots ≡ length o.slots)
