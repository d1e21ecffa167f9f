-- Classes and methods of a linked program, by their numbers. What is said of a number that names none is never
-- asked for: there the answers are empty.
use Rattle.std.specs.Prelude.{ℕ, zero, suc, List, [], ◌∷◌, length, Bool, false, Option, Some, None, slice_get}
use Rattle.std.specs.List.{position, range_with_len}
use Rattle.std.specs.Str.{bytes_eq}
use Rattle.std.specs.Option.{option_map_or, option_and_then}
use Rattle.nr_linked.specs.declared.program.kind.Kind.{Kind}
use Rattle.nr_linked.specs.declared.program.tables.ProgramTables.{ProgramTables}
use Rattle.nr_linked.specs.declared.program.tables.ClassInfo.{ClassInfo}
use Rattle.nr_linked.specs.declared.program.tables.MethodInfo.{MethodInfo}
use Rattle.nr_prog.specs.Members.{has_flag}

abbrev pub class_at : ProgramTables → ℕ → Option ClassInfo
class_at P c = slice_get P.classes c

abbrev pub method_at : ProgramTables → ℕ → Option MethodInfo
method_at P m = slice_get P.methods m

-- the number of the class with this name
abbrev pub class_named : ProgramTables → List ℕ → Option ℕ
class_named P name = position (λ e. bytes_eq e.name name) P.classes

-- the class is an interface (JVM Specification 4.1, table 4.1-A)
abbrev pub is_interface : ProgramTables → ℕ → Bool
is_interface P c = option_map_or (λ e. has_flag 0x0200 e.flags) (class_at P c) false

-- the superclass, which java/lang/Object alone doesn't have
abbrev pub super_of : ProgramTables → ℕ → Option ℕ
super_of P c = option_and_then (λ e. e.super_class) (class_at P c)

-- at most n classes: the one given, its superclass, the superclass of that, and so on
abbrev pub upward : ProgramTables → ℕ → Option ℕ → List ℕ
upward P zero c = []
upward P (suc n) None = []
upward P (suc n) (Some c) = c ∷ upward P n (super_of P c)

-- the class, its superclass, and so on up to java/lang/Object: at most as many as there are classes
abbrev pub superclasses : ProgramTables → ℕ → List ℕ
superclasses P c = upward P (length P.classes) (Some c)

-- the numbers of the methods that the class declares, in their order
abbrev pub methods_of : ProgramTables → ℕ → List ℕ
methods_of P c = option_map_or (λ e. range_with_len e.first_method e.methods) (class_at P c) []

-- the kinds of the method's parameters, without `this`
abbrev pub params_of : ProgramTables → ℕ → List Kind
params_of P m = option_map_or (λ i. i.params) (method_at P m) []

-- the kind of its result; none where it returns nothing
abbrev pub result_of : ProgramTables → ℕ → Option Kind
result_of P m = option_and_then (λ i. i.result) (method_at P m)
