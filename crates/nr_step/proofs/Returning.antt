-- Returns, nop, and constants that the operands or the pool hold: their rules.
use Rattle.std.proofs.Common.{◌≡◌, ℕ, ℤ, List, [], ◌∷◌, Option, refl, subst, ap, ◌∙◌, Bool, true, false, not, ◌||◌, ◌==◌, cond, Some}
use Rattle.std.proofs.lemmas.Bool.{eqb-true}
use Rattle.std.specs.List.{list_all}
use Rattle.nr_optable.specs.declared.table.Family.TheVariants.{F1, F2, F6, F8}
use Rattle.nr_optable.specs.declared.table.Letter.{Letter}
use Rattle.nr_optable.specs.declared.table.Letter.TheVariants as letters
use Rattle.nr_optable.specs.declared.table.Row.{Row}
use Rattle.nr_optable.specs.declared.table.Shape.{Shape}
use Rattle.nr_optable.specs.declared.table.Shape.TheVariants as shapes
use Rattle.nr_optable.specs.Rows.{all_rows}
use Rattle.nr_prog.specs.declared.body.instruction.Args.{Args}
use Rattle.nr_prog.specs.declared.body.instruction.Args.TheVariants as args
use Rattle.nr_prog.specs.declared.body.instruction.Instr.{Instr}
use Rattle.nr_linked.specs.declared.program.tables.MethodInfo.{MethodInfo}
use Rattle.nr_linked.specs.declared.program.tables.ProgramTables.{ProgramTables}
use Rattle.nr_linked.specs.declared.program.tables.Resolved.{Resolved}
use Rattle.nr_linked.specs.declared.program.tables.Resolved.TheVariants as resolved
use Rattle.nr_linked.specs.TypingFacts.{is_shaped}
use Rattle.nr_model.specs.declared.value.Value.{Value}
use Rattle.nr_model.specs.declared.value.Value.TheVariants.{Int, Long, Null, Ref}
use Rattle.nr_model.specs.Heaps.{Heap}
use Rattle.nr_model.specs.Rules.{first_letter}
use Rattle.nr_model.specs.Scripts.{Ending, Gave, OnTop, PlainInt, PlainLong, Push, Return, ReturnTop, Runs, Script, Within}
use Rattle.nr_model.specs.Throws.{onward, typed}
use Rattle.nr_model.specs.ValueRules.{pool_constant, small_constant}
use Rattle.nr_step.specs.Instructions.{CanDo, IsRowOf, doing, is_pool_load, is_push, returns_top}
use Rattle.nr_step.specs.Windows.{view}
use Rattle.nr_step.proofs.Families.{AllOf, rule_by}
use Rattle.nr_step.proofs.Rows.{IsRule, each_row}

-- ---- returns

returns : AllOf (λ c. returns_top c || c == 177) F6
unfolding all_rows
returns = refl

or_left : (b c : Bool) → b ≡ true → (b || c) ≡ true
or_left true c e = refl
or_left false c e = absurd cc

other_code : (code : ℕ) → returns_top code ≡ true → (code == 177) ≡ false
other_code code t = by (code == 177) refl
  where
    not_both : (b : Bool) → returns_top code ≡ true → code ≡ 177 → ⊥
    not_both b t e = let u : returns_top 177 ≡ true = subst (λ c. returns_top c ≡ true) e t in cc

    by : (b : Bool) → (code == 177) ≡ b → (code == 177) ≡ false
    by false e = e
    by true e = absurd (not_both true t (eqb-true code 177 e))

pub nothing_is : (P : ProgramTables) (own : MethodInfo) (i : Instr) (found : Resolved) → IsRowOf 177 i.row → (n : Option ℕ) → doing P own i found n ≡ Return
nothing_is P own i found r n = rule_by (λ c. returns_top c || c == 177) F6 returns P own i found 177 r refl n ∙ ap (λ c. cond (c == 177) Return (typed (first_letter i.row.pops) ReturnTop)) r.code

pub top_is : (P : ProgramTables) (own : MethodInfo) (i : Instr) (found : Resolved) (code : ℕ) → IsRowOf code i.row → returns_top code ≡ true → (n : Option ℕ) → doing P own i found n ≡ typed (first_letter i.row.pops) ReturnTop
top_is P own i found code r t n =
    rule_by (λ c. returns_top c || c == 177) F6 returns P own i found code r (or_left (returns_top code) (code == 177) t) n
    ∙ ap (λ c. cond (c == 177) Return (typed (first_letter i.row.pops) ReturnTop)) r.code ∙ ap (λ b. cond b Return (typed (first_letter i.row.pops) ReturnTop)) (other_code code t)

pub gives : (letter : Letter) (h j : Heap) (ls ms vs : List Value) (e : Ending) (u : Within) → Runs (typed letter ReturnTop) (view h ls vs) e u
    → OnTop vs (λ v us. Runs (typed letter ReturnTop) (view j ms vs) (Gave (Some v)) (view j ms us))
gives letters.I h j ls ms [] e u r = absurd r
gives letters.I h j ls ms (Int n ∷ vs) e u r = (refl, refl)
gives letters.I h j ls ms (v ∷ vs) e u r = absurd r
gives letters.J h j ls ms [] e u r = absurd r
gives letters.J h j ls ms (Long n ∷ vs) e u r = (refl, refl)
gives letters.J h j ls ms (v ∷ vs) e u r = absurd r
gives letter h j ls ms [] e u r = absurd r
gives letter h j ls ms (Int n ∷ vs) e u r = absurd r
gives letter h j ls ms (Long n ∷ vs) e u r = absurd r
gives letter h j ls ms (Null ∷ vs) e u r = (refl, refl)
gives letter h j ls ms (Ref a ∷ vs) e u r = (refl, refl)

pub on_top : (vs : List Value) (A B : Value → List Value → Type 0) → ((v : Value) (us : List Value) → A v us → B v us) → OnTop vs A → OnTop vs B
on_top [] A B f x = x
on_top (v ∷ vs) A B f x = f v vs x

-- ---- nop

nops : AllOf (λ c. c == 0) F1
unfolding all_rows
nops = refl

pub nop_is : (P : ProgramTables) (own : MethodInfo) (i : Instr) (found : Resolved) → IsRowOf 0 i.row → (n : Option ℕ) → doing P own i found n ≡ onward n
nop_is P own i found r n = rule_by (λ c. c == 0) F1 nops P own i found 0 r refl n

-- ---- bipush, sipush

pushes : AllOf is_push F2
unfolding all_rows
pushes = refl

abbrev is_number : Shape → Bool
is_number shapes.S1 = true
is_number shapes.S2 = true
is_number shape = false

numbers : list_all (λ (r : Row). not (is_push r.code) || is_number r.shape) all_rows ≡ true
unfolding all_rows
numbers = refl

a_number : (s : Shape) (a : Args) → is_number s ≡ true → is_shaped s a ≡ true → (n : ℤ) × (a ≡ args.Num n)
a_number shapes.S1 (args.Num n) p q = (n, refl)
a_number shapes.S1 a p q = absurd cc
a_number shapes.S2 (args.Num n) p q = (n, refl)
a_number shapes.S2 a p q = absurd cc
a_number s a p q = absurd cc

pub number_there : (code : ℕ) (i : Instr) → IsRowOf code i.row → is_push code ≡ true → is_shaped i.row.shape i.args ≡ true → (n : ℤ) × (i.args ≡ args.Num n)
number_there code i r s q = a_number i.row.shape i.args (each_row (λ r. is_push r.code) (λ r. is_number r.shape) numbers i.row r.listed (ap is_push r.code ∙ s)) q

pub number_rule : (P : ProgramTables) (own : MethodInfo) (i : Instr) (found : Resolved) (code : ℕ) (n : ℤ) → IsRowOf code i.row → is_push code ≡ true → i.args ≡ args.Num n → IsRule P own i found (Push (PlainInt n))
number_rule P own i found code n r s a = λ k. rule_by is_push F2 pushes P own i found code r s k ∙ ap (λ a. small_constant i.row.code a (onward k)) a

-- ---- ldc, ldc_w, ldc2_w

loads : AllOf is_pool_load F8
unfolding all_rows
loads = refl

pub pool_is : (P : ProgramTables) (own : MethodInfo) (i : Instr) (found : Resolved) (code : ℕ) → IsRowOf code i.row → is_pool_load code ≡ true → (n : Option ℕ) → doing P own i found n ≡ pool_constant found (onward n)
pool_is P own i found code r s n = rule_by is_pool_load F8 loads P own i found code r s n

pub pool_rule_int : (P : ProgramTables) (own : MethodInfo) (i : Instr) (found : Resolved) (code : ℕ) (n : ℤ) → IsRowOf code i.row → is_pool_load code ≡ true → found ≡ resolved.Int n → IsRule P own i found (Push (PlainInt n))
pool_rule_int P own i found code n r s f = λ k. pool_is P own i found code r s k ∙ ap (λ f. pool_constant f (onward k)) f

pub pool_rule_long : (P : ProgramTables) (own : MethodInfo) (i : Instr) (found : Resolved) (code : ℕ) (n : ℤ) → IsRowOf code i.row → is_pool_load code ≡ true → found ≡ resolved.Long n → IsRule P own i found (Push (PlainLong n))
pool_rule_long P own i found code n r s f = λ k. pool_is P own i found code r s k ∙ ap (λ f. pool_constant f (onward k)) f

none_other : (found : Resolved) (k : Script) (w u : Within) (e : Ending) → ((n : ℤ) → found ≡ resolved.Int n → ⊥) → ((n : ℤ) → found ≡ resolved.Long n → ⊥) → Runs (pool_constant found k) w e u → ⊥
none_other (resolved.Int n) k w u e a b r = a n refl
none_other (resolved.Long n) k w u e a b r = b n refl
none_other found k w u e a b r = r

pub pool_there : (P : ProgramTables) (own : MethodInfo) (i : Instr) (found : Resolved) (code : ℕ) (w : Within) (room : ℕ) → IsRowOf code i.row → is_pool_load code ≡ true → CanDo P own i found w room
    → ((n : ℤ) → found ≡ resolved.Int n → ⊥) → ((n : ℤ) → found ≡ resolved.Long n → ⊥) → ⊥
pool_there P own i found code w room r s can a b =
    none_other found (onward can.next) w can.left can.ending a b (subst (λ sc. Runs sc w can.ending can.left) (pool_is P own i found code r s can.next) can.runs)
