-- The built-in classes. The choice of classes and of their members is the project's own; which class extends which
-- is in the Java API. They stand last in a program's table, in this order.
use Rattle.std.specs.Prelude.{ℕ, ◌+◌, ◌-◌, List, [], ◌∷◌, length, Option, Some, None, codes}
use Rattle.nr_linked.specs.declared.program.built_in.BuiltIn.{BuiltIn}
use Rattle.nr_linked.specs.declared.program.built_in.BuiltIn.TheVariants.{Object, Cloneable, Throwable, Exception, Error, RuntimeException, ArithmeticException, ArrayStoreException, ClassCastException, IllegalArgumentException, IllegalStateException, IndexOutOfBoundsException, NegativeArraySizeException, NullPointerException, ArrayIndexOutOfBoundsException, LinkageError, IncompatibleClassChangeError, AbstractMethodError, Serializable, Restorable, Out, RemoteFault}
use Rattle.nr_linked.specs.declared.program.kind.Base.TheVariants as bases
use Rattle.nr_linked.specs.declared.program.kind.Kind.{Kind}
use Rattle.nr_linked.specs.declared.program.tables.ProgramTables.{ProgramTables}

-- ---- their numbers

abbrev pub number : BuiltIn → ℕ
number Object = 0
number Cloneable = 1
number Throwable = 2
number Exception = 3
number Error = 4
number RuntimeException = 5
number ArithmeticException = 6
number ArrayStoreException = 7
number ClassCastException = 8
number IllegalArgumentException = 9
number IllegalStateException = 10
number IndexOutOfBoundsException = 11
number NegativeArraySizeException = 12
number NullPointerException = 13
number ArrayIndexOutOfBoundsException = 14
number LinkageError = 15
number IncompatibleClassChangeError = 16
number AbstractMethodError = 17
number Serializable = 18
number Restorable = 19
number Out = 20
number RemoteFault = 21

abbrev pub built_in_count : ℕ
built_in_count = 22

-- the number of a built-in class in the program
abbrev pub built_in : ProgramTables → BuiltIn → ℕ
built_in P b = length P.classes - built_in_count + number b

-- ---- what they are

pub record BuiltInMethod : Type 0 where
  pub name : List ℕ
  pub desc : List ℕ
  pub flags : ℕ
  pub params : List Kind

-- a class or an interface; none of them has a field
pub record BuiltInClass : Type 0 where
  pub name : List ℕ
  pub flags : ℕ
  pub super_class : Option BuiltIn
  pub interfaces : List BuiltIn
  pub methods : List BuiltInMethod

-- a public initialiser that does nothing
abbrev pub plain_initialiser : BuiltInMethod
plain_initialiser = record { name = codes "<init>"; desc = codes "()V"; flags = 0x0001; params = [] }

-- a public static method
abbrev pub printing : List ℕ → List ℕ → List Kind → BuiltInMethod
printing name desc params = record { name = name; desc = desc; flags = 0x0009; params = params }

abbrev pub marker : List ℕ → List BuiltIn → BuiltInClass
marker name interfaces = record { name = name; flags = 0x0601; super_class = Some Object; interfaces = interfaces; methods = [] }

abbrev pub throwable : List ℕ → BuiltIn → BuiltInClass
throwable name above = record { name = name; flags = 0x0021; super_class = Some above; interfaces = []; methods = plain_initialiser ∷ [] }

unfoldable pub built_in_class : BuiltIn → BuiltInClass
built_in_class Object = record { name = codes "java/lang/Object"; flags = 0x0021; super_class = None; interfaces = []; methods = plain_initialiser ∷ [] }
built_in_class Cloneable = marker (codes "java/lang/Cloneable") []
built_in_class Throwable = throwable (codes "java/lang/Throwable") Object
built_in_class Exception = throwable (codes "java/lang/Exception") Throwable
built_in_class Error = throwable (codes "java/lang/Error") Throwable
built_in_class RuntimeException = throwable (codes "java/lang/RuntimeException") Exception
built_in_class ArithmeticException = throwable (codes "java/lang/ArithmeticException") RuntimeException
built_in_class ArrayStoreException = throwable (codes "java/lang/ArrayStoreException") RuntimeException
built_in_class ClassCastException = throwable (codes "java/lang/ClassCastException") RuntimeException
built_in_class IllegalArgumentException = throwable (codes "java/lang/IllegalArgumentException") RuntimeException
built_in_class IllegalStateException = throwable (codes "java/lang/IllegalStateException") RuntimeException
built_in_class IndexOutOfBoundsException = throwable (codes "java/lang/IndexOutOfBoundsException") RuntimeException
built_in_class NegativeArraySizeException = throwable (codes "java/lang/NegativeArraySizeException") RuntimeException
built_in_class NullPointerException = throwable (codes "java/lang/NullPointerException") RuntimeException
built_in_class ArrayIndexOutOfBoundsException = throwable (codes "java/lang/ArrayIndexOutOfBoundsException") IndexOutOfBoundsException
built_in_class LinkageError = throwable (codes "java/lang/LinkageError") Error
built_in_class IncompatibleClassChangeError = throwable (codes "java/lang/IncompatibleClassChangeError") LinkageError
built_in_class AbstractMethodError = throwable (codes "java/lang/AbstractMethodError") IncompatibleClassChangeError
built_in_class Serializable = marker (codes "java/io/Serializable") []
built_in_class Restorable = marker (codes "nrmi/Restorable") (Serializable ∷ [])
built_in_class Out = record {
  name = codes "nrmi/Out";
  flags = 0x0031;
  super_class = Some Object;
  interfaces = [];
  methods = printing (codes "print") (codes "([C)V") (record { dims = 1; base = bases.Char } ∷ [])
      ∷ printing (codes "print") (codes "(C)V") (record { dims = 0; base = bases.Char } ∷ [])
      ∷ printing (codes "print") (codes "(I)V") (record { dims = 0; base = bases.Int } ∷ [])
      ∷ printing (codes "print") (codes "(J)V") (record { dims = 0; base = bases.Long } ∷ [])
      ∷ printing (codes "line") (codes "()V") [] ∷ [];
}
built_in_class RemoteFault = throwable (codes "nrmi/RemoteFault") RuntimeException
