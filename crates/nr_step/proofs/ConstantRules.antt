-- The rules of the instructions that push a constant, told by the code, and the room that a push needs.
use Rattle.std.proofs.Common.{◌≡◌, ℕ, zero, suc, ◌≤◌, ◌<◌, List, ◌∷◌, length, refl, subst, ap, ap₂, ◌∙◌, Bool, true, false, not, ◌||◌, arith, rules, cond}
use Rattle.std.specs.Prelude.{◌==◌, ◌&&◌, nat_le, Option, pos, ◌-ℤ◌, ◌-◌}
use Rattle.std.specs.List.{list_all}
use Rattle.nr_optable.specs.declared.table.Family.{Family}
use Rattle.nr_optable.specs.declared.table.Family.TheVariants.{F2, F7}
use Rattle.nr_optable.specs.declared.table.Shape.{Shape}
use Rattle.nr_optable.specs.declared.table.Shape.TheVariants as shapes
use Rattle.nr_optable.specs.declared.table.Row.{Row}
use Rattle.nr_optable.specs.Rows.{all_rows}
use Rattle.nr_prog.specs.declared.body.instruction.Args.{Args}
use Rattle.nr_prog.specs.declared.body.instruction.Args.TheVariants as args
use Rattle.nr_prog.specs.declared.body.instruction.Instr.{Instr}
use Rattle.nr_linked.specs.declared.program.tables.MethodInfo.{MethodInfo}
use Rattle.nr_linked.specs.declared.program.tables.ProgramTables.{ProgramTables}
use Rattle.nr_linked.specs.declared.program.tables.Resolved.{Resolved}
use Rattle.nr_linked.specs.TypingFacts.{is_shaped}
use Rattle.nr_model.specs.declared.value.Value.{Value}
use Rattle.nr_model.specs.Heaps.{Heap}
use Rattle.nr_model.specs.Rules.{rule}
use Rattle.nr_model.specs.Scripts.{Ending, Plain, PlainInt, PlainLong, PlainNull, Push, Runs, Script, Within, plain}
use Rattle.nr_model.specs.Throws.{onward}
use Rattle.nr_model.specs.ValueRules.{small_constant}
use Rattle.nr_step.specs.Windows.{top_first, window}
use Rattle.nr_step.specs.Instructions.{CanDo, IsRowOf}
use Rattle.nr_step.proofs.Rows.{IsRule, each_row, nothing_left}

pub depth_of : (s : List Value) (d : ℕ) → length (top_first s d) ≡ d
depth_of s zero = refl
depth_of s (suc d) = ap suc (depth_of s d)

-- what pushes one operand, and then goes on
abbrev pub Pushes : (Script → Script) → Within → Type 0
Pushes F w = (n : Option ℕ) (u : Within) (e : Ending) → Runs (F (onward n)) w e u → length u.operands ≡ suc (length w.operands)

pub pushed : (c : Plain) (w : Within) → Pushes (Push c) w
pushed c w = λ n u e r. ap (λ (u : Within). length u.operands) (nothing_left n (record w { operands = plain c ∷ w.operands }) u e r)

pub small_pushed : (code : ℕ) (w : Within) → Pushes (small_constant code args.Empty) w
small_pushed code w = λ n u e r. go n u e (nat_le code 8) r
  where
    go : (n : Option ℕ) (u : Within) (e : Ending) (b : Bool)
        → Runs (cond b (Push (PlainInt (pos code -ℤ pos 3)) (onward n)) (Push (PlainLong (pos (code - 9))) (onward n))) w e u → length u.operands ≡ suc (length w.operands)
    go n u e true r = pushed (PlainInt (pos code -ℤ pos 3)) w n u e r
    go n u e false r = pushed (PlainLong (pos (code - 9))) w n u e r

-- where the instruction pushes one, there is room for it
pub push_fits : (P : ProgramTables) (own : MethodInfo) (i : Instr) (found : Resolved) (h : Heap) (ls s : List Value) (d : ℕ) (F : Script → Script)
    → IsRule P own i found F → Pushes F (window h ls s d) → CanDo P own i found (window h ls s d) (length s) → d < length s
push_fits P own i found h ls s d F same one can =
    let r = subst (λ sc. Runs sc (window h ls s d) can.ending can.left) (same can.next) can.runs in
    let l : length can.left.operands ≡ suc (length (top_first s d)) = one can.next can.left can.ending r in
    let f : length can.left.operands ≤ length s = can.fits in
    omega (arith, l, f, depth_of s d)

-- ---- the codes 2 to 10

abbrev is_plain : Shape → Bool
is_plain shapes.Plain = true
is_plain shape = false

abbrev is_F2 : Family → Bool
is_F2 F2 = true
is_F2 family = false

abbrev is_F7 : Family → Bool
is_F7 F7 = true
is_F7 family = false

of_small : (s : Shape) (f : Family) → (is_plain s && is_F2 f) ≡ true → (f ≡ F2) × (s ≡ shapes.Plain)
of_small shapes.Plain F2 p = (refl, refl)
of_small shapes.Plain f p = absurd cc
of_small s f p = absurd cc

of_F7 : (f : Family) → is_F7 f ≡ true → f ≡ F7
of_F7 F7 p = refl
of_F7 f p = absurd cc

plain_args : (a : Args) → is_shaped shapes.Plain a ≡ true → a ≡ args.Empty
plain_args args.Empty p = refl
plain_args a p = absurd cc

small_rows : list_all (λ (r : Row). not (nat_le 2 r.code && nat_le r.code 10) || (is_plain r.shape && is_F2 r.family)) all_rows ≡ true
unfolding all_rows
small_rows = refl

within : (n : ℕ) → 2 ≤ n → n ≤ 10 → (nat_le 2 n && nat_le n 10) ≡ true
within n l h = search rules

pub small_rule : (P : ProgramTables) (own : MethodInfo) (i : Instr) (found : Resolved) (code : ℕ) → IsRowOf code i.row → 2 ≤ code → code ≤ 10
    → is_shaped i.row.shape i.args ≡ true → IsRule P own i found (small_constant code args.Empty)
small_rule P own i found code r l h s =
    let t : (nat_le 2 i.row.code && nat_le i.row.code 10) ≡ true = ap (λ c. nat_le 2 c && nat_le c 10) r.code ∙ within code l h in
    let f = of_small i.row.shape i.row.family (each_row (λ r. nat_le 2 r.code && nat_le r.code 10) (λ r. is_plain r.shape && is_F2 r.family) small_rows i.row r.listed t) in
    let a = plain_args i.args (subst (λ s. is_shaped s i.args ≡ true) f.1 s) in
    λ n. ap (λ f. rule f P own i.row i.args found (onward n)) f.0 ∙ ap₂ (λ c a. small_constant c a (onward n)) r.code a

-- ---- aconst_null

null_rows : list_all (λ (r : Row). not (r.code == 1) || is_F7 r.family) all_rows ≡ true
unfolding all_rows
null_rows = refl

pub null_rule : (P : ProgramTables) (own : MethodInfo) (i : Instr) (found : Resolved) → IsRowOf 1 i.row → IsRule P own i found (Push PlainNull)
null_rule P own i found r = λ n.
    ap (λ f. rule f P own i.row i.args found (onward n))
    (of_F7 i.row.family (each_row (λ r. r.code == 1) (λ r. is_F7 r.family) null_rows i.row r.listed (ap (λ c. c == 1) r.code)))
