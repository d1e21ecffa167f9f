-- Branches and switches: their rules, told by the code.
use Rattle.std.proofs.Common.{◌≡◌, ℕ, Option, Some, refl, sym, subst, ap, ◌∙◌, Bool, true, false, ◌||◌, ◌==◌, is_some, cond, IsTrue}
use Rattle.nr_optable.specs.Operations.{pair_condition, zero_condition}
use Rattle.nr_optable.specs.Rows.{all_rows}
use Rattle.nr_optable.specs.declared.table.Family.TheVariants.{F25, F26, F27, F28, F29}
use Rattle.nr_prog.specs.declared.body.instruction.Args.{Args}
use Rattle.nr_prog.specs.declared.body.instruction.Args.TheVariants as args
use Rattle.nr_prog.specs.declared.body.instruction.Instr.{Instr}
use Rattle.nr_linked.specs.declared.program.tables.MethodInfo.{MethodInfo}
use Rattle.nr_linked.specs.declared.program.tables.ProgramTables.{ProgramTables}
use Rattle.nr_linked.specs.declared.program.tables.Resolved.{Resolved}
use Rattle.nr_model.specs.Rules.{on_branch, switch_rule}
use Rattle.nr_model.specs.Scripts.{Ending, GoTo, GoesTo, Runs, Script, Within}
use Rattle.nr_model.specs.Throws.{onward}
use Rattle.nr_model.specs.ValueRules.{branch, test_int, test_two, test_references}
use Rattle.nr_step.specs.declared.flow.Flow.{Flow}
use Rattle.nr_step.specs.declared.flow.Flow.TheVariants as flows
use Rattle.nr_step.specs.declared.flow.Told.{Told}
use Rattle.nr_step.specs.Flows.{Went}
use Rattle.nr_step.specs.Instructions.{CanDo, IsBranch, IsRowOf, doing, is_goto, is_switch}
use Rattle.nr_step.proofs.Families.{AllOf, rule_by}

-- ---- branches

-- the script is that of a branch to the target that the operands hold
abbrev pub Branches : ProgramTables → MethodInfo → Instr → Resolved → (ℕ → Script → Script) → Type 0
Branches P own i found G = (n : Option ℕ) → doing P own i found n ≡ on_branch i.args (λ t. G t (onward n))

to_target : (a : Args) (F : ℕ → Script) (w u : Within) (e : Ending) → Runs (on_branch a F) w e u → IsBranch a
to_target (args.Branch t) F w u e r = (t, refl)
to_target a F w u e r = absurd r

pub target_there : (P : ProgramTables) (own : MethodInfo) (i : Instr) (found : Resolved) (w : Within) (room : ℕ) (G : ℕ → Script → Script) → Branches P own i found G → CanDo P own i found w room → IsBranch i.args
target_there P own i found w room G is can =
    to_target i.args (λ t. G t (onward can.next)) w can.left can.ending (subst (λ sc. Runs sc w can.ending can.left) (is can.next) can.runs)

pub at_target : (P : ProgramTables) (own : MethodInfo) (i : Instr) (found : Resolved) (G : ℕ → Script → Script) (t : ℕ) → Branches P own i found G → i.args ≡ args.Branch t
    → (n : Option ℕ) → doing P own i found n ≡ G t (onward n)
at_target P own i found G t is a = λ n. is n ∙ ap (λ a. on_branch a (λ t. G t (onward n))) a

pub branch_begins : (P : ProgramTables) (own : MethodInfo) (i : Instr) (found : Resolved) (w : Within) (room : ℕ) (G : ℕ → Script → Script) (t : ℕ) → Branches P own i found G → i.args ≡ args.Branch t
    → (can : CanDo P own i found w room) → Runs (G t (onward can.next)) w can.ending can.left
branch_begins P own i found w room G t is a can = subst (λ sc. Runs sc w can.ending can.left) (at_target P own i found G t is a can.next) can.runs

same_target : (t s : ℕ) → args.Branch t ≡ args.Branch s → t ≡ s
same_target t s e = cc

pub jumped : (P : ProgramTables) (own : MethodInfo) (i : Instr) (found : Resolved) (G : ℕ → Script → Script) (t : ℕ) (w v : Within) (taken : Bool) (flow : Flow) (told : Told)
    → Branches P own i found G → i.args ≡ args.Branch t → ((k : Script) (e : Ending) (u : Within) → Runs (branch t k taken) v e u → Runs (G t k) w e u)
    → flow ≡ cond taken flows.Branch flows.Next → (IsTrue taken → i.args ≡ args.Branch told.number) → Went flow P (doing P own i found) w told v
jumped P own i found G t w v true flow told is a leads f q =
    subst (λ flow. Went flow P (doing P own i found) w told v) (sym f)
    (λ n. subst (λ sc. Runs sc w (GoesTo told.number) v) (sym (at_target P own i found G t is a n))
    (leads (onward n) (GoesTo told.number) v (ap GoesTo (same_target told.number t (sym (q refl) ∙ a)), refl)))
jumped P own i found G t w v false flow told is a leads f q =
    subst (λ flow. Went flow P (doing P own i found) w told v) (sym f)
    (λ n. subst (λ sc. Runs sc w (GoesTo n) v) (sym (at_target P own i found G t is a (Some n))) (leads (GoTo n) (GoesTo n) v (refl, refl)))

-- ---- the families

ints : AllOf (λ c. is_some (zero_condition c)) F25
unfolding all_rows
ints = refl

pub zero_branches : (P : ProgramTables) (own : MethodInfo) (i : Instr) (found : Resolved) (code : ℕ) → IsRowOf code i.row → is_some (zero_condition code) ≡ true → Branches P own i found (test_int code)
zero_branches P own i found code r s = λ n. rule_by (λ c. is_some (zero_condition c)) F25 ints P own i found code r s n ∙ ap (λ c. on_branch i.args (λ t. test_int c t (onward n))) r.code

pairs : AllOf (λ c. is_some (pair_condition c)) F26
unfolding all_rows
pairs = refl

pub pair_branches : (P : ProgramTables) (own : MethodInfo) (i : Instr) (found : Resolved) (code : ℕ) → IsRowOf code i.row → is_some (pair_condition code) ≡ true → Branches P own i found (test_two code)
pair_branches P own i found code r s = λ n. rule_by (λ c. is_some (pair_condition c)) F26 pairs P own i found code r s n ∙ ap (λ c. on_branch i.args (λ t. test_two c t (onward n))) r.code

abbrev pub is_reference_test : ℕ → Bool
is_reference_test c = c == 165 || (c == 166 || (c == 198 || c == 199))

references : AllOf is_reference_test F27
unfolding all_rows
references = refl

pub reference_branches : (P : ProgramTables) (own : MethodInfo) (i : Instr) (found : Resolved) (code : ℕ) → IsRowOf code i.row → is_reference_test code ≡ true → Branches P own i found (test_references code)
reference_branches P own i found code r s = λ n. rule_by is_reference_test F27 references P own i found code r s n ∙ ap (λ c. on_branch i.args (λ t. test_references c t (onward n))) r.code

gotos : AllOf is_goto F28
unfolding all_rows
gotos = refl

pub goto_branches : (P : ProgramTables) (own : MethodInfo) (i : Instr) (found : Resolved) (code : ℕ) → IsRowOf code i.row → is_goto code ≡ true → Branches P own i found (λ t k. GoTo t)
goto_branches P own i found code r s = λ n. rule_by is_goto F28 gotos P own i found code r s n

switches : AllOf is_switch F29
unfolding all_rows
switches = refl

pub switch_is : (P : ProgramTables) (own : MethodInfo) (i : Instr) (found : Resolved) (code : ℕ) → IsRowOf code i.row → is_switch code ≡ true → (n : Option ℕ) → doing P own i found n ≡ switch_rule i.args
switch_is P own i found code r s n = rule_by is_switch F29 switches P own i found code r s n
