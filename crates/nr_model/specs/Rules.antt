-- What each instruction does, by its family, its code, its operands and what linking found for it (JVM Specification
-- 6.5, each under its mnemonic).
use Rattle.std.specs.Prelude.{ℕ, ◌==◌, if◌then◌else◌}
use Rattle.nr_optable.specs.declared.table.Row.{Row}
use Rattle.nr_optable.specs.declared.table.Family.{Family}
use Rattle.nr_optable.specs.declared.table.Family.TheVariants.{F1, F2, F3, F4, F5, F6, F7, F8, F9, F10, F11, F12, F13, F14, F15, F16, F17, F18, F19, F20, F21, F22, F23, F24, F25, F26, F27, F28, F29, F30, F31, F32, F33, F34, F35, F36, F37, F38}
use Rattle.nr_optable.specs.declared.table.Kinds.{Kinds}
use Rattle.nr_optable.specs.declared.table.Kinds.TheVariants.{Letters}
use Rattle.nr_optable.specs.declared.table.Letter.{Letter}
use Rattle.nr_optable.specs.declared.table.Letter.TheVariants as letters
use Rattle.nr_prog.specs.declared.body.instruction.Args.{Args}
use Rattle.nr_prog.specs.declared.body.instruction.Args.TheVariants as args
use Rattle.nr_linked.specs.declared.program.kind.Kind.{Kind}
use Rattle.nr_linked.specs.declared.program.tables.MethodInfo.{MethodInfo}
use Rattle.nr_linked.specs.declared.program.tables.ProgramTables.{ProgramTables}
use Rattle.nr_linked.specs.declared.program.tables.Resolved.{Resolved}
use Rattle.nr_linked.specs.declared.program.tables.Resolved.TheVariants as resolved
use Rattle.nr_linked.specs.Sites.{Site}
use Rattle.nr_model.specs.Scripts.{Script, GoTo, Return, ReturnTop, Stuck, Push, PlainNull}
use Rattle.nr_model.specs.Throws.{typed, onward, with_found}
use Rattle.nr_linked.specs.ArrayKinds.{primitive_of}
use Rattle.nr_linked.specs.LocalNumbers.{first_load, first_store, local_of}
use Rattle.nr_model.specs.ValueRules.{small_constant, pool_constant, load, store, increment, drop_top, dup, dup_x1, dup_x2, dup2, dup2_x1, dup2_x2, swap, two_operands, division, negation, shift, conversion, comparison, test_int, test_two, test_references, table_switch, lookup_switch}
use Rattle.nr_model.specs.ArrayRules.{array_load, array_store, array_length, new_array, new_arrays}
use Rattle.nr_model.specs.ObjectRules.{get_field, put_field, new_of, throw_top, check_cast, instance_of}
use Rattle.nr_model.specs.CallRules.{call, invoke_virtual, invoke_special, invoke_interface}

-- ---- what a rule takes of the row, the operands and what linking found; there is no rule for anything else

abbrev pub first_letter : Kinds → Letter
first_letter (Letters n first second third) = first
first_letter kinds = letters.Null

abbrev pub third_letter : Kinds → Letter
third_letter (Letters n first second third) = third
third_letter kinds = letters.Null

abbrev pub on_branch : Args → (ℕ → Script) → Script
on_branch (args.Branch target) k = k target
on_branch a k = Stuck

abbrev pub on_kind : Resolved → (Kind → Script) → Script
on_kind (resolved.Kind kind) k = k kind
on_kind found k = Stuck

abbrev pub on_slot : Resolved → (ℕ → ℕ → Script) → Script
on_slot (resolved.Slot c i) k = k c i
on_slot found k = Stuck

-- ---- instructions whose operands say more

-- iinc
abbrev pub inc_rule : Args → Script → Script
inc_rule (args.Inc i by) k = increment i by k
inc_rule a k = Stuck

-- tableswitch, lookupswitch
abbrev pub switch_rule : Args → Script
switch_rule (args.Switch other low targets) = table_switch other low targets
switch_rule (args.Look other keys targets) = lookup_switch other keys targets
switch_rule a = Stuck

-- newarray; anewarray, of the named components; multianewarray, of the named kind
abbrev pub array_rule : ProgramTables → Args → Resolved → Script → Script
array_rule P (args.Prim code) found k = with_found (primitive_of code) (λ base.
    new_array P (record { dims = 0; base = base }) k)
array_rule P (args.Pool i) (resolved.Kind e) k = new_array P e k
array_rule P (args.Dims i dims) (resolved.Kind kind) k = new_arrays P kind dims k
array_rule P a found k = Stuck

-- invokevirtual (182), invokespecial (183), invokestatic (184), invokeinterface (185)
abbrev pub invoke_rule : ProgramTables → MethodInfo → ℕ → Resolved → Script → Script
invoke_rule P own code (resolved.Method m c) k =
    if code == 182 then invoke_virtual P m
    else (if code == 183 then invoke_special P own.class m k
    else (if code == 184 then call P m k
    else invoke_interface P m c))
invoke_rule P own code found k = Stuck

-- wide: iload, lload, aload (21, 22, 25), istore, lstore, astore (54, 55, 58) and iinc
abbrev pub wide_rule : Args → Script → Script
wide_rule (args.Wide code i) k =
    if code == 21 then load letters.I i k
    else (if code == 22 then load letters.J i k
    else (if code == 25 then load letters.A i k
    else (if code == 54 then store letters.I i k
    else (if code == 55 then store letters.J i k
    else (if code == 58 then store letters.A i k
    else Stuck)))))
wide_rule (args.WideInc i by) k = increment i by k
wide_rule a k = Stuck

-- ---- the table

-- what the instruction of the family does in a method; k goes on at the next instruction
abbrev pub rule : Family → ProgramTables → MethodInfo → Row → Args → Resolved → Script → Script
rule F1 P own row a found k = k
rule F2 P own row a found k = small_constant row.code a k
rule F3 P own row a found k = let letter = first_letter row.pushes in
    with_found (local_of (first_load letter) row.code a) (λ i. load letter i k)
rule F4 P own row a found k = let letter = first_letter row.pops in
    with_found (local_of (first_store letter) row.code a) (λ i. store letter i k)
rule F5 P own row a found k = two_operands row.code k
rule F6 P own row a found k = if row.code == 177 then Return else typed (first_letter row.pops) ReturnTop
rule F7 P own row a found k = Push PlainNull k
rule F8 P own row a found k = pool_constant found k
rule F9 P own row a found k = inc_rule a k
rule F10 P own row a found k = array_load P row.code k
rule F11 P own row a found k = array_store P (third_letter row.pops) row.code k
rule F12 P own row a found k = drop_top row.code k
rule F13 P own row a found k = dup k
rule F14 P own row a found k = dup_x1 k
rule F15 P own row a found k = dup_x2 k
rule F16 P own row a found k = dup2 k
rule F17 P own row a found k = dup2_x1 k
rule F18 P own row a found k = dup2_x2 k
rule F19 P own row a found k = swap k
rule F20 P own row a found k = division P row.code k
rule F21 P own row a found k = negation row.code k
rule F22 P own row a found k = shift row.code k
rule F23 P own row a found k = conversion row.code k
rule F24 P own row a found k = comparison k
rule F25 P own row a found k = on_branch a (λ target. test_int row.code target k)
rule F26 P own row a found k = on_branch a (λ target. test_two row.code target k)
rule F27 P own row a found k = on_branch a (λ target. test_references row.code target k)
rule F28 P own row a found k = on_branch a GoTo
rule F29 P own row a found k = switch_rule a
rule F30 P own row a found k = on_slot found (λ c i. get_field P c i k)
rule F31 P own row a found k = on_slot found (λ c i. put_field P c i k)
rule F32 P own row a found k = invoke_rule P own row.code found k
rule F33 P own row a found k = on_kind found (λ kind. new_of P kind k)
rule F34 P own row a found k = array_rule P a found k
rule F35 P own row a found k = array_length P k
rule F36 P own row a found k = throw_top P
rule F37 P own row a found k = on_kind found (λ kind.
    if row.code == 192 then check_cast P kind k else instance_of P kind k)
rule F38 P own row a found k = wide_rule a k

-- what the instruction at a site of a method does
abbrev pub script : ProgramTables → MethodInfo → Site → Script
script P own s = rule s.instr.row.family P own s.instr.row s.instr.args s.resolved (onward s.next)
