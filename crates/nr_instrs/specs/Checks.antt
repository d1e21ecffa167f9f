-- The check of targets, with the first fault: the project's own rule.
use Rattle.std.specs.Prelude.{ℕ, ℤ, pos, negsuc, List, [], ◌∷◌, ◌++◌, map, Bool, ◌&&◌, ◌==◌, nat_lt, Result, Ok, Err, if◌then◌else◌}
use Rattle.std.specs.List.{list_any}
use Rattle.nr_prog.specs.declared.body.instruction.Args.{Args}
use Rattle.nr_prog.specs.declared.body.instruction.Args.TheVariants as args
use Rattle.nr_prog.specs.declared.body.instruction.Instr.{Instr}
use Rattle.nr_instrs.specs.declared.raw.Operands.{Operands}
use Rattle.nr_instrs.specs.declared.raw.Operands.TheVariants as raw
use Rattle.nr_instrs.specs.declared.raw.RawInstr.{RawInstr}
use Rattle.nr_instrs.specs.declared.fault.CodeFault.{CodeFault}
use Rattle.nr_instrs.specs.declared.fault.CodeFault.TheVariants as faults

abbrev pub then_on : {A B F : Type 0} → Result A F → (A → Result B F) → Result B F
then_on (Ok x) f = f x
then_on (Err e) f = Err e

-- one after the other, from state to state, up to the first that fails
unfoldable pub walk : {S X F : Type 0} → (S → X → Result S F) → S → List X → Result S F
walk step s [] = Ok s
walk step s (x ∷ xs) = then_on (step s x) (λ t. walk step t xs)

-- what each gives, in a list
unfoldable pub also : {X Y F : Type 0} → (X → Result Y F) → List Y → X → Result (List Y) F
also f ys x = then_on (f x) (λ y. Ok (ys ++ y ∷ []))

-- ---- targets

-- the offsets where instructions start
abbrev pub starts_of : List RawInstr → List ℕ
starts_of raws = map (λ r. r.at) raws

unfoldable pub is_among : List ℕ → ℕ → Bool
is_among starts at = list_any (λ n. n == at) starts

-- the target as an offset in the code
unfoldable pub settled_target : List ℕ → ℕ → ℤ → Result ℕ CodeFault
settled_target starts at (pos to) = if nat_lt to 65536 && is_among starts to then Ok to else Err (faults.Target at (pos to))
settled_target starts at (negsuc n) = Err (faults.Target at (negsuc n))

unfoldable pub settled_targets : List ℕ → ℕ → List ℤ → Result (List ℕ) CodeFault
settled_targets starts at targets = walk (also (settled_target starts at)) [] targets

-- for a switch the default first
unfoldable pub settled_args : List ℕ → ℕ → Operands → Result Args CodeFault
settled_args starts at (raw.Plain args) = Ok args
settled_args starts at (raw.Branch to) = then_on (settled_target starts at to) (λ to. Ok (args.Branch to))
settled_args starts at (raw.Switch other low targets) =
    then_on (settled_target starts at other) (λ other. then_on (settled_targets starts at targets) (λ targets. Ok (args.Switch other low targets)))
settled_args starts at (raw.Look other keys targets) =
    then_on (settled_target starts at other) (λ other. then_on (settled_targets starts at targets) (λ targets. Ok (args.Look other keys targets)))

unfoldable pub settled : List ℕ → RawInstr → Result Instr CodeFault
settled starts r = then_on (settled_args starts r.at r.operands) (λ args. Ok (record { at = r.at; row = r.row; args = args }))

unfoldable pub settled_all : List RawInstr → Result (List Instr) CodeFault
settled_all raws = walk (also (settled (starts_of raws))) [] raws
