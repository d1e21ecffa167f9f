-- Heaps (JVM Specification 2.5.3): finite maps from names to objects and arrays.
use Rattle.std.specs.Prelude.{◌≡◌, ℕ, ◌+◌, List, [], ◌∷◌, length, Option, Some, None, slice_get}
use Rattle.std.specs.Ordering.{nat_cmp}
use Rattle.std.specs.FinMap.{FinMap, entries, get}
use Rattle.nr_linked.specs.declared.program.kind.Kind.{Kind}
use Rattle.nr_model.specs.declared.value.Value.{Value}

-- An object: its class, and the value of each instance field, in the order of the class's slots, so that a field is
-- known by the class that declares it, its name and its descriptor. Or an array: its class, and its components (2.4).
pub record Obj : Type 0 where
  pub kind : Kind
  pub slots : List Value

abbrev pub Heap : Type 0
Heap = FinMap nat_cmp Obj

-- The project's own measure of a heap: a cell for each object or array, and one for each of its slots. A long is one.
abbrev pub cells_of : Obj → ℕ
cells_of o = length o.slots + 1

abbrev pub total_cells : List (ℕ × Obj) → ℕ
total_cells [] = 0
total_cells (e ∷ es) = cells_of e.1 + total_cells es

abbrev pub cells : Heap → ℕ
cells h = total_cells (entries h)

-- what f makes of the value, or y where there is none
abbrev pub on_some : {X Y : Type 0} → Option X → Y → (X → Y) → Y
on_some None y f = y
on_some (Some x) y f = f x

-- ---- lists of names

-- the name stands in the list
abbrev pub Has : List ℕ → ℕ → Type 0
Has names x = (i : ℕ) × (slice_get names i ≡ Some x)

-- no name stands at two places
abbrev pub EachOnce : List ℕ → Type 0
EachOnce names = (i j x : ℕ) → slice_get names i ≡ Some x → slice_get names j ≡ Some x → i ≡ j

-- the cells of the objects that the heap has under these names
abbrev pub cells_named : Heap → List ℕ → ℕ
cells_named h [] = 0
cells_named h (x ∷ xs) = on_some (get h x) 0 cells_of + cells_named h xs
