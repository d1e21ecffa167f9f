-- Switches: what their operands are, and where they go on.
use Rattle.std.proofs.Common.{◌≡◌, ℕ, suc, ℤ, pos, negsuc, ◌-ℤ◌, List, [], ◌∷◌, Option, Some, None, refl, sym, subst, ap, ◌∙◌, Bool, true, false, not, ◌||◌, ◌==◌, cond, slice_get, nat_lt, length, ◌+◌, arith}
use Rattle.std.specs.List.{list_all, position, position_or_len}
use Rattle.std.specs.Ordering.{int_eq}
use Rattle.std.proofs.lemmas.Bool.{le-ltb, lt-ltb, ltb-false, ltb-true}
use Rattle.nr_optable.specs.declared.table.Row.{Row}
use Rattle.nr_optable.specs.declared.table.Shape.{Shape}
use Rattle.nr_optable.specs.declared.table.Shape.TheVariants as shapes
use Rattle.nr_optable.specs.Rows.{all_rows}
use Rattle.nr_prog.specs.declared.body.instruction.Args.{Args}
use Rattle.nr_prog.specs.declared.body.instruction.Args.TheVariants as args
use Rattle.nr_prog.specs.declared.body.instruction.Instr.{Instr}
use Rattle.nr_linked.specs.declared.program.tables.MethodInfo.{MethodInfo}
use Rattle.nr_linked.specs.declared.program.tables.ProgramTables.{ProgramTables}
use Rattle.nr_linked.specs.declared.program.tables.Resolved.{Resolved}
use Rattle.nr_linked.specs.TypingFacts.{is_shaped}
use Rattle.nr_model.specs.declared.value.Value.{Value}
use Rattle.nr_model.specs.declared.value.Value.TheVariants.{Int}
use Rattle.nr_model.specs.Heaps.{Heap, on_some}
use Rattle.nr_model.specs.Rules.{switch_rule}
use Rattle.nr_model.specs.Scripts.{GoTo, GoesTo, PopInt, Runs}
use Rattle.nr_model.specs.ValueRules.{target_at, target_of}
use Rattle.nr_step.specs.Elements.{count_of}
use Rattle.nr_step.specs.Instructions.{CanDo, IsRowOf, doing}
use Rattle.nr_step.specs.Windows.{IntOnTop, view}
use Rattle.nr_step.proofs.Jumps.{switch_is}
use Rattle.nr_step.proofs.Rows.{each_row}
use Rattle.nr_step.proofs.Tops.{int_top, run_on}

-- ---- the operands

abbrev is_tab : Shape → Bool
is_tab shapes.Tab = true
is_tab shape = false

abbrev is_look : Shape → Bool
is_look shapes.Look = true
is_look shape = false

tables : list_all (λ (r : Row). not (r.code == 170) || is_tab r.shape) all_rows ≡ true
unfolding all_rows
tables = refl

lookups : list_all (λ (r : Row). not (r.code == 171) || is_look r.shape) all_rows ≡ true
unfolding all_rows
lookups = refl

a_table : (s : Shape) (a : Args) → is_tab s ≡ true → is_shaped s a ≡ true → (other : ℕ) × (low : ℤ) × (targets : List ℕ) × (a ≡ args.Switch other low targets)
a_table shapes.Tab (args.Switch other low targets) p q = (other, low, targets, refl)
a_table shapes.Tab a p q = absurd cc
a_table s a p q = absurd cc

a_lookup : (s : Shape) (a : Args) → is_look s ≡ true → is_shaped s a ≡ true → (other : ℕ) × (keys : List ℤ) × (targets : List ℕ) × (a ≡ args.Look other keys targets)
a_lookup shapes.Look (args.Look other keys targets) p q = (other, keys, targets, refl)
a_lookup shapes.Look a p q = absurd cc
a_lookup s a p q = absurd cc

pub table_there : (i : Instr) → IsRowOf 170 i.row → is_shaped i.row.shape i.args ≡ true → (other : ℕ) × (low : ℤ) × (targets : List ℕ) × (i.args ≡ args.Switch other low targets)
table_there i r s = a_table i.row.shape i.args (each_row (λ r. r.code == 170) (λ r. is_tab r.shape) tables i.row r.listed (ap (λ c. c == 170) r.code)) s

pub lookup_there : (i : Instr) → IsRowOf 171 i.row → is_shaped i.row.shape i.args ≡ true → (other : ℕ) × (keys : List ℤ) × (targets : List ℕ) × (i.args ≡ args.Look other keys targets)
lookup_there i r s = a_lookup i.row.shape i.args (each_row (λ r. r.code == 171) (λ r. is_look r.shape) lookups i.row r.listed (ap (λ c. c == 171) r.code)) s

-- ---- the rules

-- the script pops an int, and goes on where it says
abbrev pub GoesBy : ProgramTables → MethodInfo → Instr → Resolved → (ℤ → ℕ) → Type 0
GoesBy P own i found f = (n : Option ℕ) → doing P own i found n ≡ PopInt (λ n. GoTo (f n))

pub table_goes : (P : ProgramTables) (own : MethodInfo) (i : Instr) (found : Resolved) (other : ℕ) (low : ℤ) (targets : List ℕ) → IsRowOf 170 i.row → i.args ≡ args.Switch other low targets → GoesBy P own i found (λ n. target_at targets other (n -ℤ low))
table_goes P own i found other low targets r a = λ n. switch_is P own i found 170 r refl n ∙ ap switch_rule a

pub lookup_goes : (P : ProgramTables) (own : MethodInfo) (i : Instr) (found : Resolved) (other : ℕ) (keys : List ℤ) (targets : List ℕ) → IsRowOf 171 i.row → i.args ≡ args.Look other keys targets → GoesBy P own i found (λ n. target_of keys targets other n)
lookup_goes P own i found other keys targets r a = λ n. switch_is P own i found 171 r refl n ∙ ap switch_rule a

pub switch_int : (P : ProgramTables) (own : MethodInfo) (i : Instr) (found : Resolved) (f : ℤ → ℕ) (h : Heap) (ls vs : List Value) (room : ℕ) → GoesBy P own i found f → CanDo P own i found (view h ls vs) room → IntOnTop vs
switch_int P own i found f h ls vs room is can = int_top (λ n. GoTo (f n)) h ls vs can.ending can.left (subst (λ sc. Runs sc (view h ls vs) can.ending can.left) (is can.next) can.runs)

pub switched : (P : ProgramTables) (own : MethodInfo) (i : Instr) (found : Resolved) (f : ℤ → ℕ) (x : ℤ) (t : ℕ) (h : Heap) (ls vs us : List Value) → GoesBy P own i found f → vs ≡ Int x ∷ us → t ≡ f x
    → (n : Option ℕ) → Runs (doing P own i found n) (view h ls vs) (GoesTo t) (view h ls us)
switched P own i found f x t h ls vs us is top q = λ n.
    subst (λ sc. Runs sc (view h ls vs) (GoesTo t) (view h ls us)) (sym (is n))
    (run_on (PopInt (λ n. GoTo (f n))) h ls vs (Int x ∷ us) (GoesTo t) (view h ls us) top (ap GoesTo q, refl))

-- ---- the target, by its place

abbrev pub at_or : List ℕ → ℕ → Option ℕ → ℕ
at_or targets other place = on_some place other (λ p. on_some (slice_get targets p) other (λ t. t))

lt_next : (p l : ℕ) → nat_lt (suc p) (suc l) ≡ nat_lt p l
lt_next p l = by (nat_lt p l) refl
  where
    by : (b : Bool) → nat_lt p l ≡ b → nat_lt (suc p) (suc l) ≡ nat_lt p l
    by true e = lt-ltb (suc p) (suc l) (omega (arith, ltb-true p l e)) ∙ sym e
    by false e = le-ltb (suc p) (suc l) (omega (arith, ltb-false p l e)) ∙ sym e

pub at_place : (targets : List ℕ) (other : ℕ) (z : ℤ) → at_or targets other (count_of z) ≡ target_at targets other z
at_place targets other (pos n) = refl
at_place targets other (negsuc n) = refl

-- at the place of the first key that is the number
pub beside : (keys : List ℤ) (targets : List ℕ) (other : ℕ) (n : ℤ) → at_or targets other (position (λ k. int_eq k n) keys) ≡ target_of keys targets other n
beside [] targets other n = refl
beside (k ∷ keys) [] other n = by (position (λ k. int_eq k n) (k ∷ keys))
  where
    by : (place : Option ℕ) → at_or [] other place ≡ other
    by None = refl
    by (Some p) = refl
beside (k ∷ keys) (t ∷ targets) other n = by (int_eq k n) refl (beside keys targets other n)
  where
    at_next : (b : Bool) (p : ℕ) → at_or (t ∷ targets) other (cond b (Some (suc p)) None) ≡ at_or targets other (cond b (Some p) None)
    at_next true p = refl
    at_next false p = refl

    next : (q p l : ℕ) → q ≡ suc p → at_or (t ∷ targets) other (cond (nat_lt q (suc l)) (Some q) None) ≡ at_or targets other (cond (nat_lt p l) (Some p) None)
    next q p l e = ap (λ q. at_or (t ∷ targets) other (cond (nat_lt q (suc l)) (Some q) None)) e ∙ ap (λ b. at_or (t ∷ targets) other (cond b (Some (suc p)) None)) (lt_next p l) ∙ at_next (nat_lt p l) p

    by : (b : Bool) → int_eq k n ≡ b → at_or targets other (position (λ k. int_eq k n) keys) ≡ target_of keys targets other n
        → at_or (t ∷ targets) other (position (λ k. int_eq k n) (k ∷ keys)) ≡ target_of (k ∷ keys) (t ∷ targets) other n
    by true e x = rw e (ap (λ b. at_or (t ∷ targets) other (cond b (Some 0) None)) (lt-ltb 0 (suc (length keys)) (omega arith)))
    by false e x = rw e (next (1 + position_or_len (λ k. int_eq k n) keys) (position_or_len (λ k. int_eq k n) keys) (length keys) (omega arith) ∙ x)
