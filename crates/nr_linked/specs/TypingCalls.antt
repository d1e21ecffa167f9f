-- The typing rules of calls and returns (JVM Specification 4.10.1.9: invokevirtual, invokespecial, invokestatic,
-- invokeinterface, ireturn to return). Access checks aren't made (the project's own choice).
use Rattle.std.specs.Prelude.{ℕ, List, [], ◌∷◌, reverse, Bool, true, false, not, ◌&&◌, ◌||◌, ◌==◌, Option, Some, None, if◌then◌else◌}
use Rattle.std.specs.Option.{option_map_or, option_and_then}
use Rattle.nr_optable.specs.declared.table.Family.{Family}
use Rattle.nr_optable.specs.declared.table.Family.TheVariants.{F33}
use Rattle.nr_optable.specs.declared.table.Letter.{Letter}
use Rattle.nr_optable.specs.declared.table.Letter.TheVariants as letters
use Rattle.nr_linked.specs.declared.program.kind.Kind.{Kind}
use Rattle.nr_linked.specs.declared.program.tables.MethodInfo.{MethodInfo}
use Rattle.nr_linked.specs.declared.program.tables.ProgramTables.{ProgramTables}
use Rattle.nr_linked.specs.declared.program.tables.Resolved.{Resolved}
use Rattle.nr_linked.specs.declared.program.tables.Resolved.TheVariants as resolved
use Rattle.nr_linked.specs.declared.program.types.VType.{VType}
use Rattle.nr_linked.specs.declared.program.types.VType.TheVariants.{UninitThis, Uninit, Class}
use Rattle.nr_linked.specs.declared.typing.fault.OpFault.TheVariants.{NeedsInit, ReturnKind}
use Rattle.nr_linked.specs.declared.typing.fault.Wanted.TheVariants as wanted
use Rattle.nr_linked.specs.Kinds.{class_kind, class_in, is_array, is_reference}
use Rattle.nr_linked.specs.Programs.{method_at, super_of}
use Rattle.nr_linked.specs.Sites.{site_at}
use Rattle.nr_linked.specs.TypingFrames.{TypeFrame, of_kind, is_int, is_long}
use Rattle.nr_linked.specs.Initialisers.{is_initialiser}
use Rattle.nr_linked.specs.TypingChecks.{Checked, NoRule, need, take_for, take_that, take_kinds, leaves, leaves_operands}

-- ---- arguments and results

abbrev pub with_result : Option Kind → List VType → List VType
with_result None ts = ts
with_result (Some k) ts = of_kind k ∷ ts

-- takes the arguments of a call, the last on top
abbrev pub take_arguments : ProgramTables → MethodInfo → List VType → (ℕ → List VType → Checked) → Checked
take_arguments P callee ts k = take_kinds P (reverse callee.params) 0 ts k

-- a call on a receiver of this class
abbrev pub call_on : ProgramTables → MethodInfo → MethodInfo → ℕ → TypeFrame → Checked
call_on P m callee c f = take_arguments P callee f.operands (λ d ts.
    take_for P (Class (class_kind c)) d ts (λ us. leaves_operands m f (with_result callee.result us)))

abbrev pub call_static : ProgramTables → MethodInfo → MethodInfo → TypeFrame → Checked
call_static P m callee f = take_arguments P callee f.operands (λ d ts. leaves_operands m f (with_result callee.result ts))

-- ---- initialisers

-- the class that the `new` at the offset names
abbrev pub class_made : Family → Resolved → Option ℕ
class_made F33 (resolved.Kind k) = if is_array k then None else class_in k.base
class_made family found = None

abbrev pub class_made_at : MethodInfo → ℕ → Option ℕ
class_made_at m at = option_and_then (λ s. class_made s.instr.row.family s.resolved) (site_at m at)

-- an initialiser of the class c may be called on it: on what a `new` of just that class made, or on `this` by the
-- initialiser of its own class or of its direct superclass
abbrev pub is_init_receiver : ProgramTables → MethodInfo → ℕ → VType → Bool
is_init_receiver P m c UninitThis = c == m.«class» || option_map_or (λ s. s == c) (super_of P m.«class») false
is_init_receiver P m c (Uninit n) = option_map_or (λ made. made == c) (class_made_at m n) false
is_init_receiver P m c t = false

-- the class of an initialised object in place of one that wasn't
abbrev pub initialised_class : MethodInfo → ℕ → VType → ℕ
initialised_class m c UninitThis = m.«class»
initialised_class m c t = c

abbrev pub is_same_uninit : VType → VType → Bool
is_same_uninit UninitThis UninitThis = true
is_same_uninit (Uninit n) (Uninit k) = n == k
is_same_uninit t u = false

-- each place that holds the uninitialised object holds the initialised one (substitute)
abbrev pub initialised : VType → ℕ → List VType → List VType
initialised t c [] = []
initialised t c (u ∷ us) = (if is_same_uninit t u then Class (class_kind c) else u) ∷ initialised t c us

abbrev pub is_uninit_this : VType → Bool
is_uninit_this UninitThis = true
is_uninit_this t = false

abbrev pub after_init : MethodInfo → ℕ → VType → List VType → TypeFrame → TypeFrame
after_init m c t ts f = record {
  locals = initialised t (initialised_class m c t) f.locals;
  operands = initialised t (initialised_class m c t) ts;
  this_uninit = f.this_uninit && not (is_uninit_this t);
}

-- invokespecial of an initialiser of class c
abbrev pub call_init : ProgramTables → MethodInfo → MethodInfo → ℕ → TypeFrame → Checked
call_init P m callee c f = take_arguments P callee f.operands (λ d ts.
    take_that (is_init_receiver P m c) (wanted.Type (Class (class_kind c))) d ts (λ t us. leaves m (after_init m c t us f)))

-- ---- calls

-- invokevirtual (182), invokespecial (183), invokestatic (184), invokeinterface (185), of a method that the class c has
abbrev pub call_rule : ProgramTables → MethodInfo → ℕ → MethodInfo → ℕ → TypeFrame → Checked
call_rule P m code callee c f =
    if code == 184 then call_static P m callee f
    else (if code == 183 then (if is_initialiser callee then call_init P m callee c f else call_on P m callee m.«class» f)
    else call_on P m callee c f)

abbrev pub with_callee : Option MethodInfo → (MethodInfo → Checked) → Checked
with_callee None k = NoRule
with_callee (Some callee) k = k callee

abbrev pub invoke_rule : ProgramTables → MethodInfo → ℕ → Resolved → TypeFrame → Checked
invoke_rule P m code (resolved.Method n c) f = with_callee (method_at P n) (λ callee. call_rule P m code callee c f)
invoke_rule P m code found f = NoRule

-- ---- returns

-- the return's operands are the descriptor's result
abbrev pub is_return_of : List Letter → Option Kind → Bool
is_return_of [] None = true
is_return_of (letters.I ∷ []) (Some k) = is_int (of_kind k)
is_return_of (letters.J ∷ []) (Some k) = is_long (of_kind k)
is_return_of (letters.A ∷ []) (Some k) = is_reference k
is_return_of ls result = false

abbrev pub take_result : ProgramTables → Option Kind → List VType → (List VType → Checked) → Checked
take_result P None ts k = k ts
take_result P (Some x) ts k = take_for P (of_kind x) 0 ts k

-- ireturn, lreturn, areturn, return; an initialiser has initialised `this`
abbrev pub return_rule : ProgramTables → MethodInfo → List Letter → TypeFrame → Checked
return_rule P m ls f = need (is_return_of ls m.result) ReturnKind (take_result P m.result f.operands (λ ts.
    need (not (is_initialiser m && f.this_uninit)) NeedsInit (leaves_operands m f ts)))
