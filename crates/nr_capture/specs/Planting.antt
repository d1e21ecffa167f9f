-- What planting a graph gives.
use Rattle.std.specs.Prelude.{◌≡◌, ◌≢◌, ◌⊎◌, ℕ, List, Option, None, map, slice_get}
use Rattle.std.specs.FinMap.{get}
use Rattle.std.specs.Option.{option_and_then}
use Rattle.nr_model.specs.Heaps.{EachOnce, Has, Heap}

-- The heap got objects under these names, which it didn't have, and no others. Those that it had are as they were.
pub record Adds (old new : Heap) (names : List ℕ) : Type 0 where
  pub distinct : EachOnce names
  pub fresh : (x : ℕ) → Has names x → get old x ≡ None
  pub kept : (x : ℕ) → get old x ≢ None → get new x ≡ get old x
  pub just : (x : ℕ) → get new x ≢ None → (get old x ≢ None) ⊎ Has names x

-- the names of the roots, where the nodes have these
abbrev pub names_of_roots : List ℕ → List (Option ℕ) → List (Option ℕ)
names_of_roots names rs = map (λ r. option_and_then (slice_get names) r) rs
