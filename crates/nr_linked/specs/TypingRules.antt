-- The typing rule of each instruction (JVM Specification 4.10.1.9), by its family, its code, its operands and what linking
-- found for it.
use Rattle.nr_optable.specs.declared.table.Family.{Family}
use Rattle.nr_optable.specs.declared.table.Family.TheVariants.{F1, F2, F3, F4, F5, F6, F7, F8, F9, F10, F11, F12, F13, F14, F15, F16, F17, F18, F19, F20, F21, F22, F23, F24, F25, F26, F27, F28, F29, F30, F31, F32, F33, F34, F35, F36, F37, F38}
use Rattle.nr_optable.specs.declared.table.Row.{Row}
use Rattle.nr_prog.specs.declared.body.instruction.Args.{Args}
use Rattle.nr_prog.specs.declared.body.instruction.Args.TheVariants as args
use Rattle.nr_linked.specs.declared.program.tables.MethodInfo.{MethodInfo}
use Rattle.nr_linked.specs.declared.program.tables.ProgramTables.{ProgramTables}
use Rattle.nr_linked.specs.Sites.{Site}
use Rattle.nr_linked.specs.TypingFrames.{TypeFrame}
use Rattle.nr_linked.specs.TypingChecks.{Checked, NoRule, letters_of, take_letters, with_letters, leaves_operands}
use Rattle.nr_linked.specs.LocalNumbers.{first_load, first_store, local_of}
use Rattle.nr_linked.specs.TypingLocals.{with_number, with_letter, load_rule, store_rule, increment_rule, wide_rule}
use Rattle.nr_linked.specs.TypingMoves.{drop_rule, dup_rule, dup_x1_rule, dup_x2_rule, dup2_rule, dup2_x1_rule, dup2_x2_rule, swap_rule}
use Rattle.nr_linked.specs.TypingArrays.{array_load_rule, array_store_rule, length_rule, new_array_rule}
use Rattle.nr_linked.specs.TypingObjects.{get_field_rule, put_field_rule, new_rule, test_rule, throw_rule}
use Rattle.nr_linked.specs.TypingCalls.{invoke_rule, return_rule}

-- takes what the row says that it pops, and puts what it pushes
abbrev pub row_rule : MethodInfo → Row → TypeFrame → Checked
row_rule m row f = take_letters (letters_of row.pops) 0 f.operands (λ ts.
    leaves_operands m f (with_letters (letters_of row.pushes) ts))

abbrev pub numbered_load : MethodInfo → Row → Args → TypeFrame → Checked
numbered_load m row a f = with_letter (letters_of row.pushes) (λ letter.
    with_number (local_of (first_load letter) row.code a) (λ i. load_rule m letter i f))

abbrev pub numbered_store : MethodInfo → Row → Args → TypeFrame → Checked
numbered_store m row a f = with_letter (letters_of row.pops) (λ letter.
    with_number (local_of (first_store letter) row.code a) (λ i. store_rule m letter i f))

abbrev pub iinc_rule : MethodInfo → Args → TypeFrame → Checked
iinc_rule m (args.Inc i by) f = increment_rule m i f
iinc_rule m a f = NoRule

abbrev pub family_rule : Family → ProgramTables → MethodInfo → Site → TypeFrame → Checked
family_rule F1 P m s f = row_rule m s.instr.row f
family_rule F2 P m s f = row_rule m s.instr.row f
family_rule F3 P m s f = numbered_load m s.instr.row s.instr.args f
family_rule F4 P m s f = numbered_store m s.instr.row s.instr.args f
family_rule F5 P m s f = row_rule m s.instr.row f
family_rule F6 P m s f = return_rule P m (letters_of s.instr.row.pops) f
family_rule F7 P m s f = row_rule m s.instr.row f
family_rule F8 P m s f = row_rule m s.instr.row f
family_rule F9 P m s f = iinc_rule m s.instr.args f
family_rule F10 P m s f = array_load_rule P m s.instr.row.code f
family_rule F11 P m s f = array_store_rule P m s.instr.row.code f
family_rule F12 P m s f = drop_rule m s.instr.row.code f
family_rule F13 P m s f = dup_rule m f
family_rule F14 P m s f = dup_x1_rule m f
family_rule F15 P m s f = dup_x2_rule m f
family_rule F16 P m s f = dup2_rule m f
family_rule F17 P m s f = dup2_x1_rule m f
family_rule F18 P m s f = dup2_x2_rule m f
family_rule F19 P m s f = swap_rule m f
family_rule F20 P m s f = row_rule m s.instr.row f
family_rule F21 P m s f = row_rule m s.instr.row f
family_rule F22 P m s f = row_rule m s.instr.row f
family_rule F23 P m s f = row_rule m s.instr.row f
family_rule F24 P m s f = row_rule m s.instr.row f
family_rule F25 P m s f = row_rule m s.instr.row f
family_rule F26 P m s f = row_rule m s.instr.row f
family_rule F27 P m s f = row_rule m s.instr.row f
family_rule F28 P m s f = row_rule m s.instr.row f
family_rule F29 P m s f = row_rule m s.instr.row f
family_rule F30 P m s f = get_field_rule P m s.resolved f
family_rule F31 P m s f = put_field_rule P m s.resolved f
family_rule F32 P m s f = invoke_rule P m s.instr.row.code s.resolved f
family_rule F33 P m s f = new_rule m s.instr.at s.resolved f
family_rule F34 P m s f = new_array_rule m s.instr.args s.resolved f
family_rule F35 P m s f = length_rule m f
family_rule F36 P m s f = throw_rule P m f
family_rule F37 P m s f = test_rule m s.instr.row.code s.resolved f
family_rule F38 P m s f = wide_rule m s.instr.args f

-- the frame that the instruction at a site of a method leaves, or the first check that fails
abbrev pub type_op : ProgramTables → MethodInfo → Site → TypeFrame → Checked
type_op P m s f = family_rule s.instr.row.family P m s f
