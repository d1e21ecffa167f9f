-- Calls of one method from two heaps that agree but for names, and the part of a heap that a call reaches (the project's
-- own).
use Rattle.std.specs.Prelude.{◌≡◌, ◌≢◌, ℕ, ◌⊎◌, List, None}
use Rattle.std.specs.FinMap.{get}
use Rattle.nr_model.specs.declared.value.Value.{Value}
use Rattle.nr_model.specs.Heaps.{Heap}
use Rattle.nr_model.specs.Alike.{AllLike, Any}
use Rattle.nr_model.specs.Pairs.{AtPlace, Holds, Listed, Paired, Reach}

-- the listed pairs, and the names at one place of the arguments
abbrev pub ListedOrArgs : List (ℕ × ℕ) → List Value → List Value → ℕ → ℕ → Type 0
ListedOrArgs ps us vs x y = Listed ps x y ⊎ AtPlace us vs x y

-- the arguments agree in all but names, and the heaps are paired from them and the listed pairs
pub record PairedCalls (ps : List (ℕ × ℕ)) (h : Heap) (us : List Value) (k : Heap) (vs : List Value) : Type 0 where
  pub args : AllLike Any us vs
  pub heaps : Paired (ListedOrArgs ps us vs) h k

-- the part of the heap that the arguments reach
pub record IsPart (h : Heap) (args : List Value) (part : Heap) : Type 0 where
  pub reached : (x : ℕ) → Reach h (Holds args) x → get part x ≡ get h x
  pub no_more : (x : ℕ) → get part x ≢ None → Reach h (Holds args) x
