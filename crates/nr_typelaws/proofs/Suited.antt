-- The rule of an instruction that suits its row speaks of it.
use Rattle.std.proofs.Common.{◌≡◌, ℕ, zero, suc, List, [], ◌∷◌, Bool, true, false, ◌||◌, reverse, nat_le}
use Rattle.std.specs.Prelude.{Option, Some, None, IsTrue, is_some, if◌then◌else◌, ◌==◌}
use Rattle.std.proofs.lemmas.Bool.{and_parts}
use Rattle.nr_optable.specs.declared.table.Family.{Family}
use Rattle.nr_optable.specs.declared.table.Family.TheVariants.{F3, F4, F6, F9, F10, F11, F12, F13, F14, F15, F16, F17, F18, F19, F30, F31, F32, F33, F34, F35, F36, F37, F38}
use Rattle.nr_optable.specs.declared.table.Letter.{Letter}
use Rattle.nr_optable.specs.declared.table.Letter.TheVariants as letters
use Rattle.nr_optable.specs.declared.table.Row.{Row}
use Rattle.nr_prog.specs.declared.body.instruction.Args.{Args}
use Rattle.nr_prog.specs.declared.body.instruction.Args.TheVariants as args
use Rattle.nr_linked.specs.declared.program.kind.Base.{Base}
use Rattle.nr_linked.specs.declared.program.kind.Base.TheVariants as bases
use Rattle.nr_linked.specs.declared.program.kind.Kind.{Kind}
use Rattle.nr_linked.specs.declared.program.tables.MethodInfo.{MethodInfo}
use Rattle.nr_linked.specs.declared.program.tables.ProgramTables.{ProgramTables}
use Rattle.nr_linked.specs.declared.program.tables.Resolved.{Resolved}
use Rattle.nr_linked.specs.declared.program.tables.Resolved.TheVariants as resolved
use Rattle.nr_linked.specs.declared.program.tables.SlotInfo.{SlotInfo}
use Rattle.nr_linked.specs.declared.program.types.VType.{VType}
use Rattle.nr_linked.specs.declared.typing.fault.OpFault.{OpFault}
use Rattle.nr_linked.specs.declared.typing.fault.Wanted.{Wanted}
use Rattle.nr_linked.specs.ArrayKinds.{Elements, Of, References, elements_of, primitive_of}
use Rattle.nr_linked.specs.Initialisers.{is_initialiser}
use Rattle.nr_linked.specs.LocalNumbers.{local_of}
use Rattle.nr_linked.specs.Programs.{method_at}
use Rattle.nr_linked.specs.Sites.{Site}
use Rattle.nr_linked.specs.TypingFrames.{TypeFrame, is_long, total_size}
use Rattle.nr_linked.specs.TypingChecks.{Checked, Leaves, Refused, NoRule, need, take_operand, take_that, take_kinds, take_ints, take_letters, letters_of, leaves}
use Rattle.nr_linked.specs.TypingRules.{row_rule, iinc_rule, family_rule}
use Rattle.nr_linked.specs.TypingLocals.{with_letter, with_number, load_rule, store_rule, wide_rule, is_in_range}
use Rattle.nr_linked.specs.TypingMoves.{by_size, drop_rule, dup_rule, dup_x1_rule, dup_x2_rule, dup2_rule, dup2_x1_rule, dup2_x2_rule, swap_rule}
use Rattle.nr_linked.specs.TypingArrays.{take_stored, with_elements, array_load_rule, array_store_rule, primitive_array_rule, new_array_rule}
use Rattle.nr_linked.specs.TypingObjects.{with_slot, get_field_rule, put_field_rule, new_rule, test_rule}
use Rattle.nr_linked.specs.TypingCalls.{take_arguments, call_on, call_rule, with_callee, invoke_rule, take_result, return_rule}
use Rattle.nr_linked.specs.Suited.{is_one, has_number, is_increment, is_slot, is_method, is_kind, makes_array, is_wide, suits}

-- it passes or is refused
pub record Speaks (c : Checked) : Type 0 where
  pub not_none : c ≡ NoRule → ⊥

refuses : (f : OpFault) → Speaks (Refused f)
refuses f = record { not_none = λ e. absurd cc }

-- ---- checks

on_need : (c : Bool) (f : OpFault) (k : Checked) → Speaks k → Speaks (need c f k)
on_need true f k s = s
on_need false f k s = refuses f

on_operand : (d : ℕ) (ts : List VType) (k : VType → List VType → Checked) → ((t : VType) (us : List VType) → Speaks (k t us)) → Speaks (take_operand d ts k)
on_operand d [] k s = refuses _
on_operand d (t ∷ ts) k s = s t ts

on_that : (test : VType → Bool) (w : Wanted) (d : ℕ) (ts : List VType) (k : VType → List VType → Checked) → ((t : VType) (us : List VType) → Speaks (k t us)) → Speaks (take_that test w d ts k)
on_that test w d [] k s = refuses _
on_that test w d (t ∷ ts) k s = on_need (test t) _ (k t ts) (s t ts)

on_leaves : (m : MethodInfo) (f : TypeFrame) → Speaks (leaves m f)
on_leaves m f = on_need (nat_le (total_size f.operands) m.max_stack) _ (Leaves f) (record { not_none = λ e. absurd cc })

on_letters : (ls : List Letter) (d : ℕ) (ts : List VType) (k : List VType → Checked) → ((us : List VType) → Speaks (k us)) → Speaks (take_letters ls d ts k)
on_letters [] d ts k s = s ts
on_letters (l ∷ ls) d ts k s = on_that _ _ d ts _ (λ t us. on_letters ls (suc d) us k s)

on_kinds : (P : ProgramTables) (ks : List Kind) (d : ℕ) (ts : List VType) (k : ℕ → List VType → Checked) → ((d : ℕ) (us : List VType) → Speaks (k d us)) → Speaks (take_kinds P ks d ts k)
on_kinds P [] d ts k s = s d ts
on_kinds P (x ∷ xs) d ts k s = on_that _ _ d ts _ (λ t us. on_kinds P xs (suc d) us k s)

on_ints : (n d : ℕ) (ts : List VType) (k : List VType → Checked) → ((us : List VType) → Speaks (k us)) → Speaks (take_ints n d ts k)
on_ints zero d ts k s = s ts
on_ints (suc n) d ts k s = on_that _ _ d ts _ (λ t us. on_ints n (suc d) us k s)

on_if : (c : Bool) (x y : Checked) → Speaks x → Speaks y → Speaks (if c then x else y)
on_if true x y s r = s
on_if false x y s r = r

on_size : (d : ℕ) (ts : List VType) (long single : VType → List VType → Checked) → ((t : VType) (us : List VType) → Speaks (long t us)) → ((t : VType) (us : List VType) → Speaks (single t us)) → Speaks (by_size d ts long single)
on_size d ts long single s r = on_operand d ts _ (λ t us. on_if (is_long t) (long t us) (single t us) (s t us) (r t us))

-- ---- rules

row_speaks : (m : MethodInfo) (row : Row) (f : TypeFrame) → Speaks (row_rule m row f)
row_speaks m row f = on_letters (letters_of row.pops) 0 f.operands _ (λ us. on_leaves m _)

load_speaks : (m : MethodInfo) (l : Letter) (i : ℕ) (f : TypeFrame) → Speaks (load_rule m l i f)
load_speaks m l i f = search (on_need, on_leaves)

store_speaks : (m : MethodInfo) (l : Letter) (i : ℕ) (f : TypeFrame) → Speaks (store_rule m l i f)
store_speaks m l i f = on_need (is_in_range m l i) _ _ (on_that _ _ 0 f.operands _ (λ t us. on_leaves m _))

on_number : (a : Args) (first code : ℕ) (k : ℕ → Checked) → IsTrue (has_number a) → ((i : ℕ) → Speaks (k i)) → Speaks (with_number (local_of first code a) k)
on_number (args.Local i) first code k p s = s i
on_number args.Empty first code k p s = s _
on_number a first code k p s = absurd cc

on_letter : (ls : List Letter) (k : Letter → Checked) → IsTrue (is_one ls) → ((l : Letter) → Speaks (k l)) → Speaks (with_letter ls k)
on_letter [] k p s = absurd cc
on_letter (l ∷ []) k p s = s l
on_letter (l ∷ m ∷ ls) k p s = absurd cc

iinc_speaks : (m : MethodInfo) (a : Args) (f : TypeFrame) → IsTrue (is_increment a) → Speaks (iinc_rule m a f)
iinc_speaks m (args.Inc i by) f p = search (on_need, on_leaves)
iinc_speaks m a f p = absurd cc

on_elements : (o : Option Elements) (k : Elements → Checked) → IsTrue (is_some o) → ((e : Elements) → Speaks (k e)) → Speaks (with_elements o k)
on_elements None k p s = absurd cc
on_elements (Some e) k p s = s e

on_stored : (e : Elements) (d : ℕ) (ts : List VType) (k : List VType → Checked) → ((us : List VType) → Speaks (k us)) → Speaks (take_stored e d ts k)
on_stored References d ts k s = on_that _ _ d ts _ (λ t us. s us)
on_stored (Of bases.Long) d ts k s = on_that _ _ d ts _ (λ t us. s us)
on_stored e d ts k s = on_that _ _ d ts _ (λ t us. s us)

load_array_speaks : (P : ProgramTables) (m : MethodInfo) (code : ℕ) (f : TypeFrame) → IsTrue (is_some (elements_of code)) → Speaks (array_load_rule P m code f)
load_array_speaks P m code f p = search (on_elements, on_that, on_leaves, p)

store_array_speaks : (P : ProgramTables) (m : MethodInfo) (code : ℕ) (f : TypeFrame) → IsTrue (is_some (elements_of code)) → Speaks (array_store_rule P m code f)
store_array_speaks P m code f p = on_elements (elements_of code) _ p (λ e. on_stored e 0 f.operands _ (λ ts. on_that _ _ 1 ts _ (λ t us. on_that _ _ 2 us _ (λ a vs. on_leaves m _))))

drop_speaks : (m : MethodInfo) (code : ℕ) (f : TypeFrame) → Speaks (drop_rule m code f)
drop_speaks m code f = search (on_that, on_operand, on_need, on_leaves, on_size, on_if)

dup_speaks : (m : MethodInfo) (f : TypeFrame) → Speaks (dup_rule m f)
dup_speaks m f = search (on_that, on_operand, on_need, on_leaves, on_size, on_if)

dup_x1_speaks : (m : MethodInfo) (f : TypeFrame) → Speaks (dup_x1_rule m f)
dup_x1_speaks m f = search (on_that, on_operand, on_need, on_leaves, on_size, on_if)

dup_x2_speaks : (m : MethodInfo) (f : TypeFrame) → Speaks (dup_x2_rule m f)
dup_x2_speaks m f = search (on_that, on_operand, on_need, on_leaves, on_size, on_if)

dup2_speaks : (m : MethodInfo) (f : TypeFrame) → Speaks (dup2_rule m f)
dup2_speaks m f = search (on_that, on_operand, on_need, on_leaves, on_size, on_if)

dup2_x1_speaks : (m : MethodInfo) (f : TypeFrame) → Speaks (dup2_x1_rule m f)
dup2_x1_speaks m f = search (on_that, on_operand, on_need, on_leaves, on_size, on_if)

dup2_x2_speaks : (m : MethodInfo) (f : TypeFrame) → Speaks (dup2_x2_rule m f)
dup2_x2_speaks m f = search (on_that, on_operand, on_need, on_leaves, on_size, on_if)

swap_speaks : (m : MethodInfo) (f : TypeFrame) → Speaks (swap_rule m f)
swap_speaks m f = search (on_that, on_operand, on_need, on_leaves, on_size, on_if)

on_slot : (o : Option SlotInfo) (k : SlotInfo → Checked) → IsTrue (is_some o) → ((s : SlotInfo) → Speaks (k s)) → Speaks (with_slot o k)
on_slot None k p s = absurd cc
on_slot (Some x) k p s = s x

get_speaks : (P : ProgramTables) (m : MethodInfo) (r : Resolved) (f : TypeFrame) → IsTrue (is_slot P r) → Speaks (get_field_rule P m r f)
get_speaks P m (resolved.Slot c i) f p = search (on_slot, on_that, on_leaves, p)
get_speaks P m r f p = absurd cc

put_speaks : (P : ProgramTables) (m : MethodInfo) (r : Resolved) (f : TypeFrame) → IsTrue (is_slot P r) → Speaks (put_field_rule P m r f)
put_speaks P m (resolved.Slot c i) f p = search (on_slot, on_that, on_leaves, p)
put_speaks P m r f p = absurd cc

on_arguments : (P : ProgramTables) (callee : MethodInfo) (ts : List VType) (k : ℕ → List VType → Checked) → ((d : ℕ) (us : List VType) → Speaks (k d us)) → Speaks (take_arguments P callee ts k)
on_arguments P callee ts k s = on_kinds P (reverse callee.params) 0 ts k s

call_speaks : (P : ProgramTables) (m : MethodInfo) (code : ℕ) (callee : MethodInfo) (c : ℕ) (f : TypeFrame) → Speaks (call_rule P m code callee c f)
call_speaks P m code callee c f =
    on_if (code == 184) _ _ (on_arguments P callee f.operands _ (λ d ts. on_leaves m _))
    (on_if (code == 183) _ _
    (on_if (is_initialiser callee) _ _ (on_arguments P callee f.operands _ (λ d ts. on_that _ _ d ts _ (λ t us. on_leaves m _))) (on m.«class»))
    (on c))
  where
    on : (c : ℕ) → Speaks (call_on P m callee c f)
    on c = on_arguments P callee f.operands _ (λ d ts. on_that _ _ d ts _ (λ t us. on_leaves m _))

on_callee : (o : Option MethodInfo) (k : MethodInfo → Checked) → IsTrue (is_some o) → ((i : MethodInfo) → Speaks (k i)) → Speaks (with_callee o k)
on_callee None k p s = absurd cc
on_callee (Some i) k p s = s i

invoke_speaks : (P : ProgramTables) (m : MethodInfo) (code : ℕ) (r : Resolved) (f : TypeFrame) → IsTrue (is_method P r) → Speaks (invoke_rule P m code r f)
invoke_speaks P m code (resolved.Method n c) f p = on_callee (method_at P n) _ p (λ i. call_speaks P m code i c f)
invoke_speaks P m code r f p = absurd cc

new_speaks : (m : MethodInfo) (at : ℕ) (r : Resolved) (f : TypeFrame) → IsTrue (is_kind r) → Speaks (new_rule m at r f)
new_speaks m at (resolved.Kind k) f p = search (on_need, on_leaves)
new_speaks m at r f p = absurd cc

on_primitive : (m : MethodInfo) (o : Option Base) (f : TypeFrame) → IsTrue (is_some o) → Speaks (primitive_array_rule m o f)
on_primitive m None f p = absurd cc
on_primitive m (Some b) f p = search (on_ints, on_leaves)

array_speaks : (m : MethodInfo) (a : Args) (r : Resolved) (f : TypeFrame) → IsTrue (makes_array a r) → Speaks (new_array_rule m a r f)
array_speaks m (args.Prim code) r f p = on_primitive m (primitive_of code) f p
array_speaks m (args.Pool i) (resolved.Kind k) f p = search (on_ints, on_leaves)
array_speaks m (args.Dims i n) (resolved.Kind k) f p = search (on_ints, on_leaves)
array_speaks m a r f p = absurd cc

test_speaks : (m : MethodInfo) (code : ℕ) (r : Resolved) (f : TypeFrame) → IsTrue (is_kind r) → Speaks (test_rule m code r f)
test_speaks m code (resolved.Kind k) f p = search (on_that, on_leaves)
test_speaks m code r f p = absurd cc

wide_speaks : (m : MethodInfo) (a : Args) (f : TypeFrame) → IsTrue (is_wide a) → Speaks (wide_rule m a f)
wide_speaks m (args.Wide code i) f p = by_code (code == 21) (code == 22) (code == 25) (code == 54) (code == 55) (code == 58) p
  where
    by_code : (a b c d e g : Bool) → IsTrue (a || (b || (c || (d || (e || g)))))
        → Speaks (if a then load_rule m letters.I i f else (if b then load_rule m letters.J i f else (if c then load_rule m letters.R i f
        else (if d then store_rule m letters.I i f else (if e then store_rule m letters.J i f else (if g then store_rule m letters.R i f else NoRule))))))
    by_code true b c d e g p = load_speaks m letters.I i f
    by_code false true c d e g p = load_speaks m letters.J i f
    by_code false false true d e g p = load_speaks m letters.R i f
    by_code false false false true e g p = store_speaks m letters.I i f
    by_code false false false false true g p = store_speaks m letters.J i f
    by_code false false false false false true p = store_speaks m letters.R i f
    by_code false false false false false false p = absurd cc
wide_speaks m (args.WideInc i by) f p = search (on_need, on_leaves)
wide_speaks m a f p = absurd cc

on_result : (P : ProgramTables) (o : Option Kind) (ts : List VType) (k : List VType → Checked) → ((us : List VType) → Speaks (k us)) → Speaks (take_result P o ts k)
on_result P None ts k s = s ts
on_result P (Some x) ts k s = on_that _ _ 0 ts _ (λ t us. s us)

return_speaks : (P : ProgramTables) (m : MethodInfo) (ls : List Letter) (f : TypeFrame) → Speaks (return_rule P m ls f)
return_speaks P m ls f = search (on_need, on_result, on_leaves)

-- ---- each family

pub speaks : (family : Family) (P : ProgramTables) (m : MethodInfo) (s : Site) (f : TypeFrame) → IsTrue (suits family P s.instr.row s.instr.args s.resolved) → Speaks (family_rule family P m s f)
speaks F3 P m s f p = let q = and_parts (is_one (letters_of s.instr.row.pushes)) _ p in on_letter (letters_of s.instr.row.pushes) _ q.0 (λ l. on_number s.instr.args _ _ _ q.1 (λ i. load_speaks m l i f))
speaks F4 P m s f p = let q = and_parts (is_one (letters_of s.instr.row.pops)) _ p in on_letter (letters_of s.instr.row.pops) _ q.0 (λ l. on_number s.instr.args _ _ _ q.1 (λ i. store_speaks m l i f))
speaks F6 P m s f p = return_speaks P m (letters_of s.instr.row.pops) f
speaks F9 P m s f p = iinc_speaks m s.instr.args f p
speaks F10 P m s f p = load_array_speaks P m s.instr.row.code f p
speaks F11 P m s f p = store_array_speaks P m s.instr.row.code f p
speaks F12 P m s f p = drop_speaks m s.instr.row.code f
speaks F13 P m s f p = dup_speaks m f
speaks F14 P m s f p = dup_x1_speaks m f
speaks F15 P m s f p = dup_x2_speaks m f
speaks F16 P m s f p = dup2_speaks m f
speaks F17 P m s f p = dup2_x1_speaks m f
speaks F18 P m s f p = dup2_x2_speaks m f
speaks F19 P m s f p = swap_speaks m f
speaks F30 P m s f p = get_speaks P m s.resolved f p
speaks F31 P m s f p = put_speaks P m s.resolved f p
speaks F32 P m s f p = invoke_speaks P m s.instr.row.code s.resolved f p
speaks F33 P m s f p = new_speaks m s.instr.at s.resolved f p
speaks F34 P m s f p = array_speaks m s.instr.args s.resolved f p
speaks F35 P m s f p = search (on_that, on_leaves)
speaks F36 P m s f p = search (on_that, on_leaves)
speaks F37 P m s f p = test_speaks m s.instr.row.code s.resolved f p
speaks F38 P m s f p = wide_speaks m s.instr.args f p
speaks family P m s f p = row_speaks m s.instr.row f
