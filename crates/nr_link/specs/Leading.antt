-- The direct superinterfaces of classes, as a search upward sees them.
use Rattle.std.specs.Prelude.{◌≡◌, ℕ, List, [], Bool, find, slice_get}
use Rattle.std.specs.List.{flat_map}
use Rattle.std.specs.Option.{option_map_or}
use Rattle.nr_linked.specs.declared.program.tables.ProgramTables.{ProgramTables}
use Rattle.nr_links.specs.Resolution.{interfaces_of}

-- whatever is looked for at each of the classes and above it, both lists lead to the same
abbrev pub LeadAlike : List ℕ → List ℕ → Type 0
LeadAlike cs ds = (above : ℕ → List ℕ) (test : ℕ → Bool) → find test (flat_map above cs) ≡ find test (flat_map above ds)

abbrev pub list_at : List (List ℕ) → ℕ → List ℕ
list_at lists c = option_map_or (λ cs. cs) (slice_get lists c) []

-- by the numbers of classes, lists that lead to the same as what the classes name as their direct superinterfaces
abbrev pub LeadAsInterfaces : List (List ℕ) → ProgramTables → Type 0
LeadAsInterfaces lists P = (c : ℕ) → LeadAlike (list_at lists c) (interfaces_of P c)
