-- The built-in classes as the last entries of a program's tables.
use Rattle.std.specs.Prelude.{ℕ, zero, suc, ◌+◌, List, [], ◌∷◌, ◌++◌, length, map, take, None}
use Rattle.std.specs.List.{flat_map}
use Rattle.std.specs.Option.{option_map, option_to_list}
use Rattle.nr_linked.specs.declared.program.built_in.BuiltIn.{BuiltIn}
use Rattle.nr_linked.specs.declared.program.built_in.BuiltIn.TheVariants.{Object, Cloneable, Throwable, Exception, Error, RuntimeException, ArithmeticException, ArrayStoreException, ClassCastException, IllegalArgumentException, IllegalStateException, IndexOutOfBoundsException, NegativeArraySizeException, NullPointerException, ArrayIndexOutOfBoundsException, LinkageError, IncompatibleClassChangeError, AbstractMethodError, Serializable, Restorable, Out, RemoteFault}
use Rattle.nr_linked.specs.declared.program.tables.ProgramTables.{ProgramTables}
use Rattle.nr_linked.specs.declared.program.tables.ClassInfo.{ClassInfo}
use Rattle.nr_linked.specs.declared.program.tables.MethodInfo.{MethodInfo}
use Rattle.nr_linked.specs.BuiltIns.{BuiltInMethod, built_in_class, number}

-- in the order of their numbers
abbrev pub built_ins : List BuiltIn
built_ins = Object ∷ Cloneable ∷ Throwable ∷ Exception ∷ Error ∷ RuntimeException ∷ ArithmeticException ∷ ArrayStoreException ∷ ClassCastException ∷ IllegalArgumentException ∷ IllegalStateException ∷ IndexOutOfBoundsException ∷ NegativeArraySizeException ∷ NullPointerException ∷ ArrayIndexOutOfBoundsException ∷ LinkageError ∷ IncompatibleClassChangeError ∷ AbstractMethodError ∷ Serializable ∷ Restorable ∷ Out ∷ RemoteFault ∷ []

-- what stands at most n steps above the class or the interface, itself first
abbrev pub within_steps : ℕ → BuiltIn → List BuiltIn
within_steps zero b = b ∷ []
within_steps (suc n) b =
    b ∷ flat_map (within_steps n) (option_to_list (built_in_class b).super_class ++ (built_in_class b).interfaces)

-- how many methods the earlier ones have
abbrev pub methods_before : BuiltIn → ℕ
methods_before b = length (flat_map (λ a. (built_in_class a).methods) (take (number b) built_ins))

-- where the built-in classes and their methods begin at these places; no class has more than five steps above it
unfoldable pub built_in_info : ℕ → ℕ → BuiltIn → ClassInfo
built_in_info first_class first_method b = record {
  name = (built_in_class b).name;
  flags = (built_in_class b).flags;
  super_class = option_map (λ a. first_class + number a) (built_in_class b).super_class;
  interfaces = map (λ a. first_class + number a) (built_in_class b).interfaces;
  supers = map (λ a. first_class + number a) (within_steps 5 b);
  slots = [];
  first_method = first_method + methods_before b;
  methods = length (built_in_class b).methods;
  read = None;
}

-- a method without code, which the machine knows
unfoldable pub built_in_method : ℕ → BuiltInMethod → MethodInfo
built_in_method c m = record {
  «class» = c;
  name = m.name;
  desc = m.desc;
  flags = m.flags;
  params = m.params;
  result = None;
  max_stack = 0;
  max_locals = 0;
  body = None;
  resolved = [];
  catches = [];
  maps = [];
}

unfoldable pub built_in_infos : ℕ → ℕ → List ClassInfo
built_in_infos first_class first_method = map (built_in_info first_class first_method) built_ins

unfoldable pub built_in_methods : ℕ → List MethodInfo
built_in_methods first_class = flat_map (λ b. map (built_in_method (first_class + number b)) (built_in_class b).methods) built_ins

-- the program of the built-in classes alone
unfoldable pub built_in_tables : ProgramTables
built_in_tables = record { classes = built_in_infos 0 0; methods = built_in_methods 0 }
