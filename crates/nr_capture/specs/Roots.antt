-- References where a walk of a heap begins.
use Rattle.std.specs.Prelude.{◌≡◌, ℕ, List, [], ◌∷◌, Option, Some, None, IsSomeAnd, true}
use Rattle.std.specs.FinMap.{get}
use Rattle.std.specs.List.{AllByRecursion}
use Rattle.nr_model.specs.declared.value.Value.{Value}
use Rattle.nr_model.specs.declared.value.Value.TheVariants as values
use Rattle.nr_model.specs.Heaps.{Heap, on_some}
use Rattle.nr_graph.specs.Pictures.{names_in}
use Rattle.nr_graph.specs.Walks.{is_met}

-- a reference, or null
abbrev pub root_value : Option ℕ → Value
root_value None = values.Null
root_value (Some x) = values.Ref x

abbrev pub root_values : List (Option ℕ) → List Value
root_values [] = []
root_values (r ∷ rs) = root_value r ∷ root_values rs

-- the heap has an object or an array of this name
abbrev pub IsIn : Heap → ℕ → Type 0
IsIn h x = IsSomeAnd (get h x) (λ o. Unit {0})

-- the heap has all that the references name
abbrev pub AreIn : Heap → List (Option ℕ) → Type 0
AreIn h rs = AllByRecursion (IsIn h) (names_in (root_values rs))

-- each is listed
abbrev pub AreMet : List ℕ → List ℕ → Type 0
AreMet names xs = AllByRecursion (λ x. is_met names x ≡ true) xs

-- what the slots of an object hold
abbrev pub slots_at : Heap → ℕ → List Value
slots_at h x = on_some (get h x) [] (λ o. o.slots)
