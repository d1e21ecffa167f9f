-- wide: its rule, by the operands.
use Rattle.std.proofs.Common.{◌≡◌, ℕ, ℤ, Option, refl, subst, ap, ◌∙◌, ◌⊎◌, inl, inr, Bool, true, false, ◌||◌, ◌==◌, cond}
use Rattle.nr_optable.specs.declared.table.Family.TheVariants.{F38}
use Rattle.nr_optable.specs.declared.table.Letter.{Letter}
use Rattle.nr_optable.specs.declared.table.Letter.TheVariants as letters
use Rattle.nr_optable.specs.Rows.{all_rows}
use Rattle.nr_prog.specs.declared.body.instruction.Args.{Args}
use Rattle.nr_prog.specs.declared.body.instruction.Args.TheVariants as args
use Rattle.nr_prog.specs.declared.body.instruction.Instr.{Instr}
use Rattle.nr_linked.specs.declared.program.tables.MethodInfo.{MethodInfo}
use Rattle.nr_linked.specs.declared.program.tables.ProgramTables.{ProgramTables}
use Rattle.nr_linked.specs.declared.program.tables.Resolved.{Resolved}
use Rattle.nr_model.specs.Rules.{wide_rule}
use Rattle.nr_model.specs.Scripts.{Ending, Runs, Script, Stuck, Within}
use Rattle.nr_model.specs.Throws.{onward}
use Rattle.nr_model.specs.ValueRules.{increment, load, store}
use Rattle.nr_step.specs.Instructions.{CanDo, IsRowOf, doing, is_load}
use Rattle.nr_step.proofs.Families.{AllOf, rule_by}
use Rattle.nr_step.proofs.Rows.{IsRule}

wides : AllOf (λ c. c == 196) F38
unfolding all_rows
wides = refl

pub wide_is : (P : ProgramTables) (own : MethodInfo) (i : Instr) (found : Resolved) → IsRowOf 196 i.row → (n : Option ℕ) → doing P own i found n ≡ wide_rule i.args (onward n)
wide_is P own i found r n = rule_by (λ c. c == 196) F38 wides P own i found 196 r refl n

wide_runs : (P : ProgramTables) (own : MethodInfo) (i : Instr) (found : Resolved) (w : Within) (room : ℕ) → IsRowOf 196 i.row → (can : CanDo P own i found w room) → Runs (wide_rule i.args (onward can.next)) w can.ending can.left
wide_runs P own i found w room r can = subst (λ sc. Runs sc w can.ending can.left) (wide_is P own i found r can.next) can.runs

-- ---- the operands are those of wide

neither : (a : Args) (k : Script) (w u : Within) (e : Ending) → ((code n : ℕ) → a ≡ args.Wide code n → ⊥) → ((n : ℕ) (by : ℤ) → a ≡ args.WideInc n by → ⊥) → Runs (wide_rule a k) w e u → ⊥
neither (args.Wide code n) k w u e f g r = f code n refl
neither (args.WideInc n by) k w u e f g r = g n by refl
neither a k w u e f g r = r

pub one_of_wide : (P : ProgramTables) (own : MethodInfo) (i : Instr) (found : Resolved) (w : Within) (room : ℕ) → IsRowOf 196 i.row → CanDo P own i found w room
    → ((code n : ℕ) → i.args ≡ args.Wide code n → ⊥) → ((n : ℕ) (by : ℤ) → i.args ≡ args.WideInc n by → ⊥) → ⊥
one_of_wide P own i found w room r can f g = neither i.args (onward can.next) w can.left can.ending f g (wide_runs P own i found w room r can)

-- ---- by the code

abbrev by_codes : (ll lj la si sj sa : Bool) (n : ℕ) (k : Script) → Script
by_codes a b c d e f n k = cond a (load letters.I n k) (cond b (load letters.J n k) (cond c (load letters.A n k) (cond d (store letters.I n k) (cond e (store letters.J n k) (cond f (store letters.A n k) Stuck)))))

abbrev Form : (a b c d e f : Bool) → Type 0
Form a b c d e f = (((a || (b || c)) ≡ true) × (letter : Letter) × ((n : ℕ) (k : Script) → by_codes a b c d e f n k ≡ load letter n k))
    ⊎ (((a || (b || c)) ≡ false) × (letter : Letter) × ((n : ℕ) (k : Script) → by_codes a b c d e f n k ≡ store letter n k))

form : (a b c d e f : Bool) (n : ℕ) (k : Script) (w u : Within) (en : Ending) → Runs (by_codes a b c d e f n k) w en u → Form a b c d e f
form true b c d e f n k w u en r = inl (refl, letters.I, λ n k. refl)
form false true c d e f n k w u en r = inl (refl, letters.J, λ n k. refl)
form false false true d e f n k w u en r = inl (refl, letters.A, λ n k. refl)
form false false false true e f n k w u en r = inr (refl, letters.I, λ n k. refl)
form false false false false true f n k w u en r = inr (refl, letters.J, λ n k. refl)
form false false false false false true n k w u en r = inr (refl, letters.A, λ n k. refl)
form false false false false false false n k w u en r = absurd r

abbrev CodeForm : ℕ → Type 0
CodeForm c = Form (c == 21) (c == 22) (c == 25) (c == 54) (c == 55) (c == 58)

code_form : (P : ProgramTables) (own : MethodInfo) (i : Instr) (found : Resolved) (code n : ℕ) (w : Within) (room : ℕ) → IsRowOf 196 i.row → i.args ≡ args.Wide code n → CanDo P own i found w room → CodeForm code
code_form P own i found c n w room r a can =
    form (c == 21) (c == 22) (c == 25) (c == 54) (c == 55) (c == 58) n (onward can.next) w can.left can.ending (subst (λ a. Runs (wide_rule a (onward can.next)) w can.ending can.left) a (wide_runs P own i found w room r can))

true_false : (b : Bool) → b ≡ true → b ≡ false → ⊥
true_false b p q = cc

pub wide_load : (P : ProgramTables) (own : MethodInfo) (i : Instr) (found : Resolved) (code n : ℕ) (w : Within) (room : ℕ) → IsRowOf 196 i.row → i.args ≡ args.Wide code n → CanDo P own i found w room → is_load code ≡ true
    → (letter : Letter) × ((Q : ProgramTables) (mine : MethodInfo) (other : Resolved) → IsRule Q mine i other (load letter n))
wide_load P own i found code n w room r a can t =
    elim (code_form P own i found code n w room r a can) [
      | inl x ↦ (x.1, λ Q mine other m. wide_is Q mine i other r m ∙ ap (λ a. wide_rule a (onward m)) a ∙ x.2 n (onward m))
      | inr x ↦ absurd (true_false (is_load code) t x.0)
    ]

pub wide_store : (P : ProgramTables) (own : MethodInfo) (i : Instr) (found : Resolved) (code n : ℕ) (w : Within) (room : ℕ) → IsRowOf 196 i.row → i.args ≡ args.Wide code n → CanDo P own i found w room → is_load code ≡ false
    → (letter : Letter) × ((Q : ProgramTables) (mine : MethodInfo) (other : Resolved) → IsRule Q mine i other (store letter n))
wide_store P own i found code n w room r a can t =
    elim (code_form P own i found code n w room r a can) [
      | inl x ↦ absurd (true_false (is_load code) x.0 t)
      | inr x ↦ (x.1, λ Q mine other m. wide_is Q mine i other r m ∙ ap (λ a. wide_rule a (onward m)) a ∙ x.2 n (onward m))
    ]

pub wide_inc : (P : ProgramTables) (own : MethodInfo) (i : Instr) (found : Resolved) (n : ℕ) (by : ℤ) → IsRowOf 196 i.row → i.args ≡ args.WideInc n by → IsRule P own i found (increment n by)
wide_inc P own i found n by r a = λ m. wide_is P own i found r m ∙ ap (λ a. wide_rule a (onward m)) a
