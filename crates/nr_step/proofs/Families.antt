-- The family of an instruction is told by its code.
use Rattle.std.proofs.Common.{◌≡◌, ℕ, List, [], ◌∷◌, sym, refl, ap, ◌∙◌, Bool, true, not, ◌||◌}
use Rattle.std.proofs.lemmas.Bool.{eqb-true}
use Rattle.std.specs.Prelude.{Option, Some, slice_get, ◌==◌}
use Rattle.std.specs.List.{list_all}
use Rattle.nr_optable.specs.declared.table.Family.{Family}
use Rattle.nr_optable.specs.declared.table.Family.TheVariants.{F1, F2, F3, F4, F5, F6, F7, F8, F9, F10, F11, F12, F13, F14, F15, F16, F17, F18, F19, F20, F21, F22, F23, F24, F25, F26, F27, F28, F29, F30, F31, F32, F33, F34, F35, F36, F37, F38}
use Rattle.nr_optable.specs.declared.table.Row.{Row}
use Rattle.nr_optable.specs.Rows.{all_rows}
use Rattle.nr_prog.specs.declared.body.instruction.Instr.{Instr}
use Rattle.nr_linked.specs.declared.program.tables.MethodInfo.{MethodInfo}
use Rattle.nr_linked.specs.declared.program.tables.ProgramTables.{ProgramTables}
use Rattle.nr_linked.specs.declared.program.tables.Resolved.{Resolved}
use Rattle.nr_model.specs.Rules.{rule}
use Rattle.nr_model.specs.Throws.{onward}
use Rattle.nr_step.specs.Instructions.{IsRowOf, doing}
use Rattle.nr_step.proofs.Rows.{each_row}

-- ---- families by their numbers

abbrev pub number : Family → ℕ
number F1 = 0
number F2 = 1
number F3 = 2
number F4 = 3
number F5 = 4
number F6 = 5
number F7 = 6
number F8 = 7
number F9 = 8
number F10 = 9
number F11 = 10
number F12 = 11
number F13 = 12
number F14 = 13
number F15 = 14
number F16 = 15
number F17 = 16
number F18 = 17
number F19 = 18
number F20 = 19
number F21 = 20
number F22 = 21
number F23 = 22
number F24 = 23
number F25 = 24
number F26 = 25
number F27 = 26
number F28 = 27
number F29 = 28
number F30 = 29
number F31 = 30
number F32 = 31
number F33 = 32
number F34 = 33
number F35 = 34
number F36 = 35
number F37 = 36
number F38 = 37

families : List Family
families = F1 ∷ F2 ∷ F3 ∷ F4 ∷ F5 ∷ F6 ∷ F7 ∷ F8 ∷ F9 ∷ F10 ∷ F11 ∷ F12 ∷ F13 ∷ F14 ∷ F15 ∷ F16 ∷ F17 ∷ F18 ∷ F19 ∷ F20 ∷ F21 ∷ F22 ∷ F23 ∷ F24 ∷ F25 ∷ F26 ∷ F27 ∷ F28 ∷ F29 ∷ F30 ∷ F31 ∷ F32 ∷ F33 ∷ F34 ∷ F35 ∷ F36 ∷ F37 ∷ F38 ∷ []

at_number : (f : Family) → slice_get families (number f) ≡ Some f
unfolding families
at_number F1 = refl
at_number f = refl

some_eq : {X : Type 0} {a b : X} → Some a ≡ Some b → a ≡ b
some_eq e = cc

by_number : (f g : Family) → number f ≡ number g → f ≡ g
by_number f g e = some_eq (sym (at_number f) ∙ ap (slice_get families) e ∙ at_number g)

equal : (m n : ℕ) → (m == n) ≡ true → m ≡ n
equal m n e = eqb-true m n e

-- each instruction whose code passes the test is of the family
abbrev pub AllOf : (ℕ → Bool) → Family → Type 0
AllOf test g = list_all (λ (r : Row). not (test r.code) || number r.family == number g) all_rows ≡ true

pub family_by : (test : ℕ → Bool) (g : Family) → AllOf test g → (code : ℕ) (r : Row) → IsRowOf code r → test code ≡ true → r.family ≡ g
family_by test g all code r is passes =
    by_number r.family g (equal (number r.family) (number g) (each_row (λ r. test r.code) (λ r. number r.family == number g) all r is.listed (ap test is.code ∙ passes)))

-- so its script is the family's rule
pub rule_by : (test : ℕ → Bool) (g : Family) → AllOf test g → (P : ProgramTables) (own : MethodInfo) (i : Instr) (found : Resolved) (code : ℕ) → IsRowOf code i.row → test code ≡ true
    → (n : Option ℕ) → doing P own i found n ≡ rule g P own i.row i.args found (onward n)
rule_by test g all P own i found code is passes n = ap (λ f. rule f P own i.row i.args found (onward n)) (family_by test g all code i.row is passes)
