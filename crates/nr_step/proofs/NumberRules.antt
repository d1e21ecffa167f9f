-- The rules of the instructions that compute numbers, told by the code.
use Rattle.std.proofs.Common.{◌≡◌, ℕ, refl, ap, ◌∙◌, Bool, true, false, not, ◌||◌, is_some}
use Rattle.std.specs.Prelude.{◌==◌}
use Rattle.std.specs.List.{list_all}
use Rattle.nr_optable.specs.declared.table.Family.{Family}
use Rattle.nr_optable.specs.declared.table.Family.TheVariants.{F5, F21, F22, F23, F24}
use Rattle.nr_optable.specs.declared.table.Row.{Row}
use Rattle.nr_optable.specs.Operations.{int_narrowing, int_operation, int_shift, long_operation, long_shift}
use Rattle.nr_optable.specs.Rows.{all_rows}
use Rattle.nr_prog.specs.declared.body.instruction.Instr.{Instr}
use Rattle.nr_linked.specs.declared.program.tables.MethodInfo.{MethodInfo}
use Rattle.nr_linked.specs.declared.program.tables.ProgramTables.{ProgramTables}
use Rattle.nr_linked.specs.declared.program.tables.Resolved.{Resolved}
use Rattle.nr_model.specs.Rules.{rule}
use Rattle.nr_model.specs.Throws.{onward}
use Rattle.nr_model.specs.ValueRules.{comparison, conversion, negation, shift, two_operands}
use Rattle.nr_step.specs.Instructions.{IsRowOf}
use Rattle.nr_step.proofs.Rows.{IsRule, each_row}

abbrev is_F5 : Family → Bool
is_F5 F5 = true
is_F5 family = false

of_F5 : (f : Family) → is_F5 f ≡ true → f ≡ F5
of_F5 F5 p = refl
of_F5 f p = absurd cc

abbrev is_F21 : Family → Bool
is_F21 F21 = true
is_F21 family = false

of_F21 : (f : Family) → is_F21 f ≡ true → f ≡ F21
of_F21 F21 p = refl
of_F21 f p = absurd cc

abbrev is_F22 : Family → Bool
is_F22 F22 = true
is_F22 family = false

of_F22 : (f : Family) → is_F22 f ≡ true → f ≡ F22
of_F22 F22 p = refl
of_F22 f p = absurd cc

abbrev is_F23 : Family → Bool
is_F23 F23 = true
is_F23 family = false

of_F23 : (f : Family) → is_F23 f ≡ true → f ≡ F23
of_F23 F23 p = refl
of_F23 f p = absurd cc

abbrev is_F24 : Family → Bool
is_F24 F24 = true
is_F24 family = false

of_F24 : (f : Family) → is_F24 f ≡ true → f ≡ F24
of_F24 F24 p = refl
of_F24 f p = absurd cc

int_pair_rows : list_all (λ (r : Row). not (is_some (int_operation r.code)) || is_F5 r.family) all_rows ≡ true
unfolding all_rows
int_pair_rows = refl

pub int_pair_rule : (P : ProgramTables) (own : MethodInfo) (i : Instr) (found : Resolved) (code : ℕ) → IsRowOf code i.row → is_some (int_operation code) ≡ true
    → IsRule P own i found (two_operands code)
int_pair_rule P own i found code r s = λ n.
    ap (λ f. rule f P own i.row i.args found (onward n))
    (of_F5 i.row.family (each_row (λ r. is_some (int_operation r.code)) (λ r. is_F5 r.family) int_pair_rows i.row r.listed (ap (λ c. is_some (int_operation c)) r.code ∙ s)))
    ∙ ap (λ c. two_operands c (onward n)) r.code

long_pair_rows : list_all (λ (r : Row). not (is_some (long_operation r.code)) || is_F5 r.family) all_rows ≡ true
unfolding all_rows
long_pair_rows = refl

pub long_pair_rule : (P : ProgramTables) (own : MethodInfo) (i : Instr) (found : Resolved) (code : ℕ) → IsRowOf code i.row → is_some (long_operation code) ≡ true
    → IsRule P own i found (two_operands code)
long_pair_rule P own i found code r s = λ n.
    ap (λ f. rule f P own i.row i.args found (onward n))
    (of_F5 i.row.family (each_row (λ r. is_some (long_operation r.code)) (λ r. is_F5 r.family) long_pair_rows i.row r.listed (ap (λ c. is_some (long_operation c)) r.code ∙ s)))
    ∙ ap (λ c. two_operands c (onward n)) r.code

int_shift_rows : list_all (λ (r : Row). not (is_some (int_shift r.code)) || is_F22 r.family) all_rows ≡ true
unfolding all_rows
int_shift_rows = refl

pub int_shift_rule : (P : ProgramTables) (own : MethodInfo) (i : Instr) (found : Resolved) (code : ℕ) → IsRowOf code i.row → is_some (int_shift code) ≡ true
    → IsRule P own i found (shift code)
int_shift_rule P own i found code r s = λ n.
    ap (λ f. rule f P own i.row i.args found (onward n))
    (of_F22 i.row.family (each_row (λ r. is_some (int_shift r.code)) (λ r. is_F22 r.family) int_shift_rows i.row r.listed (ap (λ c. is_some (int_shift c)) r.code ∙ s)))
    ∙ ap (λ c. shift c (onward n)) r.code

long_shift_rows : list_all (λ (r : Row). not (is_some (long_shift r.code)) || is_F22 r.family) all_rows ≡ true
unfolding all_rows
long_shift_rows = refl

pub long_shift_rule : (P : ProgramTables) (own : MethodInfo) (i : Instr) (found : Resolved) (code : ℕ) → IsRowOf code i.row → is_some (long_shift code) ≡ true
    → IsRule P own i found (shift code)
long_shift_rule P own i found code r s = λ n.
    ap (λ f. rule f P own i.row i.args found (onward n))
    (of_F22 i.row.family (each_row (λ r. is_some (long_shift r.code)) (λ r. is_F22 r.family) long_shift_rows i.row r.listed (ap (λ c. is_some (long_shift c)) r.code ∙ s)))
    ∙ ap (λ c. shift c (onward n)) r.code

int_narrowing_rows : list_all (λ (r : Row). not (is_some (int_narrowing r.code)) || is_F23 r.family) all_rows ≡ true
unfolding all_rows
int_narrowing_rows = refl

pub int_narrowing_rule : (P : ProgramTables) (own : MethodInfo) (i : Instr) (found : Resolved) (code : ℕ) → IsRowOf code i.row → is_some (int_narrowing code) ≡ true
    → IsRule P own i found (conversion code)
int_narrowing_rule P own i found code r s = λ n.
    ap (λ f. rule f P own i.row i.args found (onward n))
    (of_F23 i.row.family (each_row (λ r. is_some (int_narrowing r.code)) (λ r. is_F23 r.family) int_narrowing_rows i.row r.listed (ap (λ c. is_some (int_narrowing c)) r.code ∙ s)))
    ∙ ap (λ c. conversion c (onward n)) r.code

ineg_rows : list_all (λ (r : Row). not (r.code == 116) || is_F21 r.family) all_rows ≡ true
unfolding all_rows
ineg_rows = refl

pub ineg_rule : (P : ProgramTables) (own : MethodInfo) (i : Instr) (found : Resolved) → IsRowOf 116 i.row → IsRule P own i found (negation 116)
ineg_rule P own i found r = λ n.
    ap (λ f. rule f P own i.row i.args found (onward n))
    (of_F21 i.row.family (each_row (λ r. r.code == 116) (λ r. is_F21 r.family) ineg_rows i.row r.listed (ap (λ c. c == 116) r.code)))
    ∙ ap (λ c. negation c (onward n)) r.code

lneg_rows : list_all (λ (r : Row). not (r.code == 117) || is_F21 r.family) all_rows ≡ true
unfolding all_rows
lneg_rows = refl

pub lneg_rule : (P : ProgramTables) (own : MethodInfo) (i : Instr) (found : Resolved) → IsRowOf 117 i.row → IsRule P own i found (negation 117)
lneg_rule P own i found r = λ n.
    ap (λ f. rule f P own i.row i.args found (onward n))
    (of_F21 i.row.family (each_row (λ r. r.code == 117) (λ r. is_F21 r.family) lneg_rows i.row r.listed (ap (λ c. c == 117) r.code)))
    ∙ ap (λ c. negation c (onward n)) r.code

i2l_rows : list_all (λ (r : Row). not (r.code == 133) || is_F23 r.family) all_rows ≡ true
unfolding all_rows
i2l_rows = refl

pub i2l_rule : (P : ProgramTables) (own : MethodInfo) (i : Instr) (found : Resolved) → IsRowOf 133 i.row → IsRule P own i found (conversion 133)
i2l_rule P own i found r = λ n.
    ap (λ f. rule f P own i.row i.args found (onward n))
    (of_F23 i.row.family (each_row (λ r. r.code == 133) (λ r. is_F23 r.family) i2l_rows i.row r.listed (ap (λ c. c == 133) r.code)))
    ∙ ap (λ c. conversion c (onward n)) r.code

l2i_rows : list_all (λ (r : Row). not (r.code == 136) || is_F23 r.family) all_rows ≡ true
unfolding all_rows
l2i_rows = refl

pub l2i_rule : (P : ProgramTables) (own : MethodInfo) (i : Instr) (found : Resolved) → IsRowOf 136 i.row → IsRule P own i found (conversion 136)
l2i_rule P own i found r = λ n.
    ap (λ f. rule f P own i.row i.args found (onward n))
    (of_F23 i.row.family (each_row (λ r. r.code == 136) (λ r. is_F23 r.family) l2i_rows i.row r.listed (ap (λ c. c == 136) r.code)))
    ∙ ap (λ c. conversion c (onward n)) r.code

lcmp_rows : list_all (λ (r : Row). not (r.code == 148) || is_F24 r.family) all_rows ≡ true
unfolding all_rows
lcmp_rows = refl

pub lcmp_rule : (P : ProgramTables) (own : MethodInfo) (i : Instr) (found : Resolved) → IsRowOf 148 i.row → IsRule P own i found comparison
lcmp_rule P own i found r = λ n.
    ap (λ f. rule f P own i.row i.args found (onward n))
    (of_F24 i.row.family (each_row (λ r. r.code == 148) (λ r. is_F24 r.family) lcmp_rows i.row r.listed (ap (λ c. c == 148) r.code)))
