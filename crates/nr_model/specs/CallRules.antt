-- The rules of calls (JVM Specification 6.5, invokevirtual, invokespecial, invokestatic, invokeinterface), and what the
-- methods of the built-in classes do. A call of one of those is one step and makes no frame (the project's own). A rule
-- is given what follows it.
use Rattle.std.specs.Prelude.{ℕ, zero, suc, not, ◌&&◌, ◌||◌, List, [], ◌∷◌, length, Option, Some, None, is_some, ◌==◌, codes, if◌then◌else◌}
use Rattle.std.specs.Option.{option_and_then}
use Rattle.std.specs.Fmt.{signed_decimal}
use Rattle.nr_optable.specs.Arithmetic.{to_char}
use Rattle.nr_linked.specs.ArrayKinds.{is_base}
use Rattle.nr_linked.specs.Initialisers.{is_initialiser}
use Rattle.nr_linked.specs.declared.program.built_in.BuiltIn.TheVariants.{AbstractMethodError, IncompatibleClassChangeError, Object, Out}
use Rattle.nr_linked.specs.declared.program.kind.Base.TheVariants as bases
use Rattle.nr_linked.specs.declared.program.kind.Kind.{Kind}
use Rattle.nr_linked.specs.declared.program.tables.MethodInfo.{MethodInfo}
use Rattle.nr_linked.specs.declared.program.tables.ProgramTables.{ProgramTables}
use Rattle.nr_linked.specs.BuiltIns.{built_in}
use Rattle.nr_linked.specs.Kinds.{class_kind, class_in, element_of, is_array}
use Rattle.nr_linked.specs.Linked.{is_loaded}
use Rattle.nr_prog.specs.Members.{is_static}
use Rattle.nr_linked.specs.Programs.{method_at, super_of}
use Rattle.nr_linked.specs.Selection.{is_called, is_private, selected}
use Rattle.nr_linked.specs.Subtypes.{is_sub}
use Rattle.nr_model.specs.Heaps.{on_some}
use Rattle.nr_model.specs.Scripts.{Script, Call, PopInt, PopLong, Pick, Drop, AskKind, ReadSlot, Print}
use Rattle.nr_model.specs.Throws.{throw_new, not_null, with_found, which}
use Rattle.nr_model.specs.Printing.{bytes_of_units}

-- how many operands a call of the method takes: its arguments, and the receiver below them
abbrev pub operands_of : MethodInfo → ℕ
operands_of i = if is_static i.flags then length i.params else suc (length i.params)

-- ---- built-in methods

-- k of the units of the topmost array, below i
abbrev pub with_units : ℕ → List ℕ → (List ℕ → Script) → Script
with_units zero us k = k us
with_units (suc i) us k = Pick 0 (ReadSlot i (PopInt (λ u. with_units i (to_char u ∷ us) k)))

-- print([C)V
abbrev pub print_chars : ProgramTables → Script → Script
print_chars P k = not_null P 0 (AskKind 0 (λ kind n. with_found (element_of kind) (λ e.
    which (is_base bases.Char e) (with_units n [] (λ us. Drop 0 (Print (bytes_of_units us) k))))))

-- what a method of nrmi/Out does
abbrev pub out_rule : ProgramTables → MethodInfo → Script → Option Script
out_rule P i k =
    if is_called (codes "print") (codes "([C)V") i then Some (print_chars P k)
    else (if is_called (codes "print") (codes "(C)V") i
    then Some (PopInt (λ u. Print (bytes_of_units (to_char u ∷ [])) k))
    else (if is_called (codes "print") (codes "(I)V") i then Some (PopInt (λ n. Print (signed_decimal n) k))
    else (if is_called (codes "print") (codes "(J)V") i then Some (PopLong (λ n. Print (signed_decimal n) k))
    else (if is_called (codes "line") (codes "()V") i then Some (Print (10 ∷ []) k)
    else None))))

-- the rule of a method without code, if it is a built-in one; an initialiser does nothing
abbrev pub built_in_rule : ProgramTables → MethodInfo → Script → Option Script
built_in_rule P i k =
    if i.class == built_in P Out then out_rule P i k
    else (if not (is_loaded P i.class) && is_initialiser i then Some (Drop 0 k) else None)

-- ---- calls

-- a call of just this method
abbrev pub call : ProgramTables → ℕ → Script → Script
call P m k = with_found (method_at P m) (λ i.
    if is_some i.body then Call m
    else on_some (built_in_rule P i k) (throw_new P AbstractMethodError) (λ rule. rule))

-- a call of the method that was selected, if one was
abbrev pub call_selected : ProgramTables → Option ℕ → Script
call_selected P found = on_some found (throw_new P AbstractMethodError) Call

-- the class of which an object or an array has the methods
abbrev pub class_of : ProgramTables → Kind → Option ℕ
class_of P kind = if is_array kind then Some (built_in P Object) else class_in kind.base

abbrev pub selected_for : ProgramTables → ℕ → Kind → Option ℕ
selected_for P m kind = option_and_then (selected P m) (class_of P kind)

-- k of the class of the receiver, which stands below the arguments
abbrev pub on_receiver : ProgramTables → MethodInfo → (Kind → Script) → Script
on_receiver P i k = not_null P (length i.params) (AskKind (length i.params) (λ kind n. k kind))

abbrev pub invoke_virtual : ProgramTables → ℕ → Script
invoke_virtual P m = with_found (method_at P m) (λ i.
    on_receiver P i (λ kind. call_selected P (selected_for P m kind)))

-- of a method that the named interface c has
abbrev pub invoke_interface : ProgramTables → ℕ → ℕ → Script
invoke_interface P m c = with_found (method_at P m) (λ i. on_receiver P i (λ kind.
    if is_sub P kind (class_kind c) then call_selected P (selected_for P m kind)
    else throw_new P IncompatibleClassChangeError))

-- by a method of class own: an initialiser, a private method or one that own itself declares is called itself; else
-- selection begins at the superclass
abbrev pub invoke_special : ProgramTables → ℕ → ℕ → Script → Script
invoke_special P own m k = with_found (method_at P m) (λ i. on_receiver P i (λ kind.
    if is_initialiser i || is_private i.flags || i.class == own then call P m k
    else call_selected P (option_and_then (selected P m) (super_of P own))))
