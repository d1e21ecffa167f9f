-- The method that a call runs: JVM Specification 5.4.6 and 6.5, invokevirtual and invokeinterface. All classes count as
-- one package.
use Rattle.std.specs.Prelude.{ℕ, List, Bool, false, not, ◌&&◌, Option, Some, None, find, is_some, if◌then◌else◌}
use Rattle.std.specs.List.{flat_map}
use Rattle.std.specs.Str.{bytes_eq}
use Rattle.std.specs.Option.{option_map_or, option_and_then}
use Rattle.nr_linked.specs.declared.program.tables.ProgramTables.{ProgramTables}
use Rattle.nr_linked.specs.declared.program.tables.MethodInfo.{MethodInfo}
use Rattle.nr_prog.specs.Members.{has_flag, is_static}
use Rattle.nr_linked.specs.Programs.{method_at, methods_of, superclasses}

abbrev pub is_public : ℕ → Bool
is_public flags = has_flag 0x0001 flags

abbrev pub is_private : ℕ → Bool
is_private flags = has_flag 0x0002 flags

-- whether the method is of this name and descriptor
abbrev pub is_called : List ℕ → List ℕ → MethodInfo → Bool
is_called name desc i = bytes_eq i.name name && bytes_eq i.desc desc

-- whether the method can be selected for a call of this name and descriptor: it is neither static nor private
abbrev pub is_selectable : List ℕ → List ℕ → MethodInfo → Bool
is_selectable name desc i = not (is_static i.flags) && (not (is_private i.flags) && is_called name desc i)

-- the same of the method's number
abbrev pub can_select : ProgramTables → List ℕ → List ℕ → ℕ → Bool
can_select P name desc m = option_map_or (is_selectable name desc) (method_at P m) false

-- the methods that the class declares, then those that its superclass declares, and so on
abbrev pub methods_upward : ProgramTables → ℕ → List ℕ
methods_upward P c = flat_map (methods_of P) (superclasses P c)

abbrev pub has_body : ProgramTables → ℕ → Bool
has_body P m = option_map_or (λ i. is_some i.body) (method_at P m) false

-- the method, where it has a body
abbrev pub with_body : ProgramTables → ℕ → Option ℕ
with_body P m = if has_body P m then Some m else None

-- A private method selects itself; else it is the first method of its name and descriptor, neither static nor
-- private, in the receiver's class and then its superclasses.
abbrev pub first_selected : ProgramTables → ℕ → MethodInfo → ℕ → Option ℕ
first_selected P m i c =
    if is_private i.flags then Some m
    else find (can_select P i.name i.desc) (methods_upward P c)

-- the method with a body that a call of method m runs, where the receiver is of class c; none where it has no body
abbrev pub selected : ProgramTables → ℕ → ℕ → Option ℕ
selected P m c = option_and_then (λ i. option_and_then (with_body P) (first_selected P m i c)) (method_at P m)

-- ---- static methods

abbrev pub is_static_called : List ℕ → List ℕ → MethodInfo → Bool
is_static_called name desc i = is_public i.flags && (is_static i.flags && is_called name desc i)

abbrev pub is_static_at : ProgramTables → List ℕ → List ℕ → ℕ → Bool
is_static_at P name desc m = option_map_or (is_static_called name desc) (method_at P m) false

-- the public static method of this name and descriptor that the class itself declares
abbrev pub static_named : ProgramTables → ℕ → List ℕ → List ℕ → Option ℕ
static_named P c name desc = find (is_static_at P name desc) (methods_of P c)
