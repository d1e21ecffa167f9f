-- When what a remote call leaves is what a local run leaves (the project's own).
use Rattle.std.specs.Prelude.{◌≡◌, ◌≢◌, ℕ, ◌⊎◌, Option, None}
use Rattle.std.specs.FinMap.{get}
use Rattle.nr_model.specs.declared.value.Value.{Value}
use Rattle.nr_model.specs.Heaps.{Heap}
use Rattle.nr_model.specs.Alike.{AlikeResult, Any}
use Rattle.nr_model.specs.Pairs.{IsPair, Paired, InResults}

-- every old name beside itself, and the results where both are references
abbrev pub OldAndResults : Heap → Option Value → Option Value → ℕ → ℕ → Type 0
OldAndResults h u v x y = ((get h x ≢ None) × (x ≡ y)) ⊎ InResults u v x y

-- From heap h a local run leaves heap l and result u, a remote call heap r and result v. From every old name, those too
-- that no argument reaches any more, and from the results the two heaps are paired, and the results agree.
pub record SameReached (h l : Heap) (u : Option Value) (r : Heap) (v : Option Value) : Type 0 where
  pub heaps : Paired (OldAndResults h u v) l r
  pub results : AlikeResult Any u v

-- the same, where r comes of a restore: it has no other names than h and those of pairs
pub record Same (h l : Heap) (u : Option Value) (r : Heap) (v : Option Value) : Type 0 where
  pub reached : SameReached h l u r v
  pub names : (z : ℕ) → get r z ≢ None → (get h z ≢ None) ⊎ ((x : ℕ) × IsPair (OldAndResults h u v) l r x z)
