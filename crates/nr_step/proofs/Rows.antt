-- The rule of an instruction is told by its code.
use Rattle.std.proofs.Common.{◌≡◌, ℕ, zero, suc, List, [], ◌∷◌, sym, subst, refl, Bool, true, false, arith, not, ◌||◌}
use Rattle.std.specs.Prelude.{Option, Some, None, Contains, ◌&&◌}
use Rattle.std.specs.List.{list_all}
use Rattle.nr_optable.specs.declared.table.Row.{Row}
use Rattle.nr_optable.specs.Rows.{all_rows}
use Rattle.nr_prog.specs.declared.body.instruction.Instr.{Instr}
use Rattle.nr_linked.specs.declared.program.tables.MethodInfo.{MethodInfo}
use Rattle.nr_linked.specs.declared.program.tables.ProgramTables.{ProgramTables}
use Rattle.nr_linked.specs.declared.program.tables.Resolved.{Resolved}
use Rattle.nr_model.specs.Rules.{script}
use Rattle.nr_model.specs.Scripts.{Ending, GoTo, GoesTo, Runs, Script, Within}
use Rattle.nr_model.specs.Throws.{onward}
use Rattle.nr_step.specs.Windows.{CanBegin, Leads}
use Rattle.nr_step.specs.Instructions.{doing, site_of, CanDo}

-- ---- what holds of each row of the table

pub both : (a b : Bool) → (a && b) ≡ true → (a ≡ true) × (b ≡ true)
both true true e = (refl, refl)
both true false e = absurd cc
both false b e = absurd cc

pub each_of : {X : Type 0} (test : X → Bool) (xs : List X) → list_all test xs ≡ true → (x : X) → Contains xs x → test x ≡ true
each_of test [] t r c = let l = c.1 in absurd (omega arith)
each_of test (x ∷ xs) t r (zero, l, e) = let b = both (test x) _ t in subst (λ x. test x ≡ true) e b.0
each_of test (x ∷ xs) t r (suc k, l, e) = let b = both (test x) _ t in each_of test xs b.1 r (k, omega arith, e)

implied : (b c : Bool) → (not b || c) ≡ true → b ≡ true → c ≡ true
implied true c p q = p
implied false c p q = absurd cc

-- each row that the first test holds of passes the second
pub each_row : (first second : Row → Bool) → list_all (λ r. not (first r) || second r) all_rows ≡ true → (r : Row) → Contains all_rows r → first r ≡ true → second r ≡ true
each_row first second t r c f = implied (first r) (second r) (each_of _ all_rows t r c) f

-- ---- from the rule of a family to the instruction

-- the script of the instruction is this one, with what goes on after it
abbrev pub IsRule : ProgramTables → MethodInfo → Instr → Resolved → (Script → Script) → Type 0
IsRule P own i found F = (n : Option ℕ) → script P own (site_of i found n) ≡ F (onward n)

pub begin_by : (P : ProgramTables) (own : MethodInfo) (i : Instr) (found : Resolved) (w : Within) (room : ℕ) (F : Script → Script)
    → IsRule P own i found F → CanDo P own i found w room → CanBegin F w
begin_by P own i found w room F same can =
    (onward can.next, can.ending, can.left, subst (λ sc. Runs sc w can.ending can.left) (same can.next) can.runs)

pub go_on_by : (P : ProgramTables) (own : MethodInfo) (i : Instr) (found : Resolved) (w v : Within) (F : Script → Script)
    → IsRule P own i found F → Leads F w v → (n : ℕ) → Runs (doing P own i found (Some n)) w (GoesTo n) v
go_on_by P own i found w v F same l = λ n. subst (λ sc. Runs sc w (GoesTo n) v) (sym (same (Some n))) (l (GoTo n) (GoesTo n) v (refl, refl))

-- ---- room

-- what goes on changes nothing
pub nothing_left : (n : Option ℕ) (w u : Within) (e : Ending) → Runs (onward n) w e u → u ≡ w
nothing_left None w u e r = absurd r
nothing_left (Some n) w u e r = r.1
