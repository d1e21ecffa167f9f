-- Where the instructions of a method start.
use Rattle.std.specs.Prelude.{ℕ, List, [], ◌∷◌, Bool, true, false, ◌&&◌, ◌==◌}
use Rattle.std.specs.List.{list_any}
use Rattle.nr_optable.specs.declared.table.Family.{Family}
use Rattle.nr_optable.specs.declared.table.Family.TheVariants.{F33}
use Rattle.nr_prog.specs.declared.body.instruction.Args.{Args}
use Rattle.nr_prog.specs.declared.body.instruction.Args.TheVariants.{Branch, Switch, Look}
use Rattle.nr_prog.specs.declared.body.instruction.Instr.{Instr}

-- whether an instruction starts at the offset
unfoldable pub is_start : List Instr → ℕ → Bool
is_start is at = list_any (λ i. i.at == at) is

abbrev pub makes_object : Family → Bool
makes_object F33 = true
makes_object family = false

-- whether a `new` starts at the offset
unfoldable pub is_new : List Instr → ℕ → Bool
is_new is at = list_any (λ i. i.at == at && makes_object i.row.family) is

-- the targets of a branch, for a switch the default first
abbrev pub targets_of : Args → List ℕ
targets_of (Branch to) = to ∷ []
targets_of (Switch other low targets) = other ∷ targets
targets_of (Look other keys targets) = other ∷ targets
targets_of args = []
