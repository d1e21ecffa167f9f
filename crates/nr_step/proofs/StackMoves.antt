-- The instructions that move operands: their rules, and the room that they need.
use Rattle.std.proofs.Common.{◌≡◌, ℕ, zero, suc, ◌+◌, ◌≤◌, ◌<◌, List, [], ◌∷◌, length, Option, Some, None, IsSomeAnd, refl, subst, ap, ◌∙◌, Bool, true, false, ◌==◌, cond, slice_get, arith}
use Rattle.nr_optable.specs.declared.table.Family.TheVariants.{F12, F13, F14, F15, F16, F17, F18, F19}
use Rattle.nr_optable.specs.Rows.{all_rows}
use Rattle.nr_prog.specs.declared.body.instruction.Instr.{Instr}
use Rattle.nr_linked.specs.declared.program.tables.MethodInfo.{MethodInfo}
use Rattle.nr_linked.specs.declared.program.tables.ProgramTables.{ProgramTables}
use Rattle.nr_linked.specs.declared.program.tables.Resolved.{Resolved}
use Rattle.nr_model.specs.declared.value.Value.{Value}
use Rattle.nr_model.specs.Heaps.{Heap}
use Rattle.nr_model.specs.Scripts.{Drop, Ending, Pick, Runs, Script, Stuck, Within, is_long, without}
use Rattle.nr_model.specs.Throws.{onward}
use Rattle.nr_model.specs.ValueRules.{by_size, copy_below, drop_top, dup, dup2, dup2_x1, dup2_x2, dup_x1, dup_x2, again, single, swap}
use Rattle.nr_step.specs.Instructions.{CanDo, IsRowOf}
use Rattle.nr_step.specs.Windows.{top_first, window}
use Rattle.nr_step.proofs.ConstantRules.{depth_of}
use Rattle.nr_step.proofs.Families.{AllOf, rule_by}
use Rattle.nr_step.proofs.Rows.{IsRule, nothing_left}

-- ---- how many operands are left

-- each run of the script from so many operands leaves m
pub record Ends (m : ℕ) (sc : Script) (l : ℕ) : Type 0 where
  pub so : (w u : Within) (e : Ending) → length w.operands ≡ l → Runs sc w e u → length u.operands ≡ m

onward_ends : (n : Option ℕ) (l : ℕ) → Ends l (onward n) l
onward_ends n l = record { so = λ w u e q r. ap (λ (u : Within). length u.operands) (nothing_left n w u e r) ∙ q }

pick_ends : (d m l : ℕ) (k : Script) → Ends m k (suc l) → Ends m (Pick d k) l
pick_ends d m l k f = record { so = λ w u e q r. go w u e q (slice_get w.operands d) r }
  where
    go : (w u : Within) (e : Ending) → length w.operands ≡ l → (s : Option Value) → IsSomeAnd s (λ v. Runs k (record w { operands = v ∷ w.operands }) e u) → length u.operands ≡ m
    go w u e q None r = absurd r
    go w u e q (Some v) r = f.so (record w { operands = v ∷ w.operands }) u e (ap suc q) r

length_without : (d : ℕ) (vs : List Value) → d < length vs → suc (length (without d vs)) ≡ length vs
length_without d [] l = absurd (omega arith)
length_without zero (v ∷ vs) l = refl
length_without (suc d) (v ∷ vs) l = ap suc (length_without d vs (omega arith))

drop_ends : (d m l : ℕ) (k : Script) → Ends m k l → Ends m (Drop d k) (suc l)
drop_ends d m l k f = record { so = λ w u e q r. f.so (record w { operands = without d w.operands }) u e (omega (arith, length_without d w.operands r.0, q)) r.1 }

ask_ends : (d m l : ℕ) (a b : Script) → Ends m a l → Ends m b l → Ends m (by_size d a b) l
ask_ends d m l a b f g = record { so = λ w u e q r. go w u e q (slice_get w.operands d) r }
  where
    each : (long : Bool) (w u : Within) (e : Ending) → length w.operands ≡ l → Runs (cond long a b) w e u → length u.operands ≡ m
    each true w u e q r = f.so w u e q r
    each false w u e q r = g.so w u e q r

    go : (w u : Within) (e : Ending) → length w.operands ≡ l → (s : Option Value) → IsSomeAnd s (λ v. Runs (cond (is_long v) a b) w e u) → length u.operands ≡ m
    go w u e q None r = absurd r
    go w u e q (Some v) r = each (is_long v) w u e q r

stuck_ends : (m l : ℕ) → Ends m Stuck l
stuck_ends m l = record { so = λ w u e q r. absurd r }

single_ends : (d m l : ℕ) (k : Script) → Ends m k l → Ends m (single d k) l
single_ends d m l k f = ask_ends d m l Stuck k (stuck_ends m l) f

-- the copies
below_one_one : (k : Option ℕ) (l : ℕ) → Ends (suc l) (copy_below 1 1 (onward k)) l
below_one_one k l = pick_ends 1 (suc l) l _ (pick_ends 1 (suc l) (suc l) _ (drop_ends 3 (suc l) (suc l) _ (onward_ends k (suc l))))

below_one_two : (k : Option ℕ) (l : ℕ) → Ends (suc l) (copy_below 1 2 (onward k)) l
below_one_two k l =
    pick_ends 2 (suc l) l _ (pick_ends 2 (suc l) (suc l) _ (pick_ends 2 (suc l) (suc (suc l)) _ (drop_ends 4 (suc l) (suc (suc l)) _ (drop_ends 4 (suc l) (suc l) _ (onward_ends k (suc l))))))

below_two_one : (k : Option ℕ) (l : ℕ) → Ends (suc (suc l)) (copy_below 2 1 (onward k)) l
below_two_one k l =
    pick_ends 2 (suc (suc l)) l _ (pick_ends 2 (suc (suc l)) (suc l) _ (pick_ends 2 (suc (suc l)) (suc (suc l)) _ (drop_ends 5 (suc (suc l)) (suc (suc l)) _ (onward_ends k (suc (suc l))))))

below_two_two : (k : Option ℕ) (l : ℕ) → Ends (suc (suc l)) (copy_below 2 2 (onward k)) l
below_two_two k l =
    pick_ends 3 (suc (suc l)) l _ (pick_ends 3 (suc (suc l)) (suc l) _ (pick_ends 3 (suc (suc l)) (suc (suc l)) _ (pick_ends 3 (suc (suc l)) (suc (suc (suc l))) _
    (drop_ends 6 (suc (suc l)) (suc (suc (suc l))) _ (drop_ends 6 (suc (suc l)) (suc (suc l)) _ (onward_ends k (suc (suc l))))))))

again_two : (k : Option ℕ) (l : ℕ) → Ends (suc (suc l)) (again 2 (onward k)) l
again_two k l = pick_ends 1 (suc (suc l)) l _ (pick_ends 1 (suc (suc l)) (suc l) _ (onward_ends k (suc (suc l))))

-- ---- room for one more

abbrev pub LeavesOne : (Script → Script) → Type 0
LeavesOne F = (n : Option ℕ) (l : ℕ) → Ends (suc l) (F (onward n)) l

pub dup_leaves : LeavesOne dup
dup_leaves n l = single_ends 0 (suc l) l _ (pick_ends 0 (suc l) l _ (onward_ends n (suc l)))

pub dup_x1_leaves : LeavesOne dup_x1
dup_x1_leaves n l = single_ends 0 (suc l) l _ (single_ends 1 (suc l) l _ (below_one_one n l))

pub dup_x2_leaves : LeavesOne dup_x2
dup_x2_leaves n l = single_ends 0 (suc l) l _ (ask_ends 1 (suc l) l _ _ (below_one_one n l) (single_ends 2 (suc l) l _ (below_one_two n l)))

pub one_fits : (P : ProgramTables) (own : MethodInfo) (i : Instr) (found : Resolved) (h : Heap) (ls s : List Value) (d : ℕ) (F : Script → Script) → IsRule P own i found F → LeavesOne F
    → CanDo P own i found (window h ls s d) (length s) → d < length s
one_fits P own i found h ls s d F same leaves can =
    let r = subst (λ sc. Runs sc (window h ls s d) can.ending can.left) (same can.next) can.runs in
    let l : length can.left.operands ≡ suc d = (leaves can.next d).so (window h ls s d) can.left can.ending (depth_of s d) r in
    let f : length can.left.operands ≤ length s = can.fits in
    omega (arith, l, f)

-- ---- room for one more long, or for two

pub sized_fits : (P : ProgramTables) (own : MethodInfo) (i : Instr) (found : Resolved) (h : Heap) (ls s : List Value) (d : ℕ) (A B : Script → Script) → IsRule P own i found (λ k. by_size 0 (A k) (B k))
    → ((n : Option ℕ) (l : ℕ) → Ends (suc l) (A (onward n)) l) → ((n : Option ℕ) (l : ℕ) → Ends (suc (suc l)) (B (onward n)) l)
    → CanDo P own i found (window h ls s d) (length s) → IsSomeAnd (slice_get (top_first s d) 0) (λ v. d + cond (is_long v) 1 2 ≤ length s)
sized_fits P own i found h ls s d A B same fa fb can =
    go (slice_get (top_first s d) 0) (subst (λ sc. Runs sc (window h ls s d) can.ending can.left) (same can.next) can.runs)
  where
    each : (long : Bool) → Runs (cond long (A (onward can.next)) (B (onward can.next))) (window h ls s d) can.ending can.left → d + cond long 1 2 ≤ length s
    each true r = let f : length can.left.operands ≤ length s = can.fits in omega (arith, (fa can.next d).so (window h ls s d) can.left can.ending (depth_of s d) r, f)
    each false r = let f : length can.left.operands ≤ length s = can.fits in omega (arith, (fb can.next d).so (window h ls s d) can.left can.ending (depth_of s d) r, f)

    go : (o : Option Value) → IsSomeAnd o (λ v. Runs (cond (is_long v) (A (onward can.next)) (B (onward can.next))) (window h ls s d) can.ending can.left) → IsSomeAnd o (λ v. d + cond (is_long v) 1 2 ≤ length s)
    go None r = absurd r
    go (Some v) r = each (is_long v) r

-- dup2, dup2_x1, dup2_x2 of a long, and of two others
abbrev pub long_dup2 : Script → Script
long_dup2 k = Pick 0 k

abbrev pub short_dup2 : Script → Script
short_dup2 k = single 1 (again 2 k)

abbrev pub long_dup2_x1 : Script → Script
long_dup2_x1 k = single 1 (copy_below 1 1 k)

abbrev pub short_dup2_x1 : Script → Script
short_dup2_x1 k = single 1 (single 2 (copy_below 2 1 k))

abbrev pub long_dup2_x2 : Script → Script
long_dup2_x2 k = by_size 1 (copy_below 1 1 k) (single 2 (copy_below 1 2 k))

abbrev pub short_dup2_x2 : Script → Script
short_dup2_x2 k = single 1 (by_size 2 (copy_below 2 1 k) (single 3 (copy_below 2 2 k)))

pub long_dup2_leaves : (n : Option ℕ) (l : ℕ) → Ends (suc l) (long_dup2 (onward n)) l
long_dup2_leaves n l = pick_ends 0 (suc l) l _ (onward_ends n (suc l))

pub short_dup2_leaves : (n : Option ℕ) (l : ℕ) → Ends (suc (suc l)) (short_dup2 (onward n)) l
short_dup2_leaves n l = single_ends 1 (suc (suc l)) l _ (again_two n l)

pub long_dup2_x1_leaves : (n : Option ℕ) (l : ℕ) → Ends (suc l) (long_dup2_x1 (onward n)) l
long_dup2_x1_leaves n l = single_ends 1 (suc l) l _ (below_one_one n l)

pub short_dup2_x1_leaves : (n : Option ℕ) (l : ℕ) → Ends (suc (suc l)) (short_dup2_x1 (onward n)) l
short_dup2_x1_leaves n l = single_ends 1 (suc (suc l)) l _ (single_ends 2 (suc (suc l)) l _ (below_two_one n l))

pub long_dup2_x2_leaves : (n : Option ℕ) (l : ℕ) → Ends (suc l) (long_dup2_x2 (onward n)) l
long_dup2_x2_leaves n l = ask_ends 1 (suc l) l _ _ (below_one_one n l) (single_ends 2 (suc l) l _ (below_one_two n l))

pub short_dup2_x2_leaves : (n : Option ℕ) (l : ℕ) → Ends (suc (suc l)) (short_dup2_x2 (onward n)) l
short_dup2_x2_leaves n l = single_ends 1 (suc (suc l)) l _ (ask_ends 2 (suc (suc l)) l _ _ (below_two_one n l) (single_ends 3 (suc (suc l)) l _ (below_two_two n l)))

-- ---- the rules

all_87 : AllOf (λ c. c == 87) F12
unfolding all_rows
all_87 = refl

pub pop_rule : (P : ProgramTables) (own : MethodInfo) (i : Instr) (found : Resolved) → IsRowOf 87 i.row → IsRule P own i found (drop_top 87)
pop_rule P own i found r = λ n. rule_by (λ c. c == 87) F12 all_87 P own i found 87 r refl n ∙ ap (λ c. drop_top c (onward n)) r.code

all_88 : AllOf (λ c. c == 88) F12
unfolding all_rows
all_88 = refl

pub pop2_rule : (P : ProgramTables) (own : MethodInfo) (i : Instr) (found : Resolved) → IsRowOf 88 i.row → IsRule P own i found (drop_top 88)
pop2_rule P own i found r = λ n. rule_by (λ c. c == 88) F12 all_88 P own i found 88 r refl n ∙ ap (λ c. drop_top c (onward n)) r.code

all_89 : AllOf (λ c. c == 89) F13
unfolding all_rows
all_89 = refl

pub dup_rule : (P : ProgramTables) (own : MethodInfo) (i : Instr) (found : Resolved) → IsRowOf 89 i.row → IsRule P own i found (dup)
dup_rule P own i found r = λ n. rule_by (λ c. c == 89) F13 all_89 P own i found 89 r refl n

all_90 : AllOf (λ c. c == 90) F14
unfolding all_rows
all_90 = refl

pub dup_x1_rule : (P : ProgramTables) (own : MethodInfo) (i : Instr) (found : Resolved) → IsRowOf 90 i.row → IsRule P own i found (dup_x1)
dup_x1_rule P own i found r = λ n. rule_by (λ c. c == 90) F14 all_90 P own i found 90 r refl n

all_91 : AllOf (λ c. c == 91) F15
unfolding all_rows
all_91 = refl

pub dup_x2_rule : (P : ProgramTables) (own : MethodInfo) (i : Instr) (found : Resolved) → IsRowOf 91 i.row → IsRule P own i found (dup_x2)
dup_x2_rule P own i found r = λ n. rule_by (λ c. c == 91) F15 all_91 P own i found 91 r refl n

all_92 : AllOf (λ c. c == 92) F16
unfolding all_rows
all_92 = refl

pub dup2_rule : (P : ProgramTables) (own : MethodInfo) (i : Instr) (found : Resolved) → IsRowOf 92 i.row → IsRule P own i found (dup2)
dup2_rule P own i found r = λ n. rule_by (λ c. c == 92) F16 all_92 P own i found 92 r refl n

all_93 : AllOf (λ c. c == 93) F17
unfolding all_rows
all_93 = refl

pub dup2_x1_rule : (P : ProgramTables) (own : MethodInfo) (i : Instr) (found : Resolved) → IsRowOf 93 i.row → IsRule P own i found (dup2_x1)
dup2_x1_rule P own i found r = λ n. rule_by (λ c. c == 93) F17 all_93 P own i found 93 r refl n

all_94 : AllOf (λ c. c == 94) F18
unfolding all_rows
all_94 = refl

pub dup2_x2_rule : (P : ProgramTables) (own : MethodInfo) (i : Instr) (found : Resolved) → IsRowOf 94 i.row → IsRule P own i found (dup2_x2)
dup2_x2_rule P own i found r = λ n. rule_by (λ c. c == 94) F18 all_94 P own i found 94 r refl n

all_95 : AllOf (λ c. c == 95) F19
unfolding all_rows
all_95 = refl

pub swap_rule : (P : ProgramTables) (own : MethodInfo) (i : Instr) (found : Resolved) → IsRowOf 95 i.row → IsRule P own i found (swap)
swap_rule P own i found r = λ n. rule_by (λ c. c == 95) F19 all_95 P own i found 95 r refl n
