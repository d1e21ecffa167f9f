-- Lists of classes that don't link, one or more for each fault.
use Rattle.std.specs.Prelude.{ℕ, List, [], ◌∷◌, map, replicate, Option, Some, None, codes}
use Rattle.nr_optable.specs.Rows.{none, op}
use Rattle.nr_optable.specs.declared.table.Family.{Family}
use Rattle.nr_optable.specs.declared.table.Family.TheVariants.{F1, F30, F32, F33, F37}
use Rattle.nr_optable.specs.declared.table.Row.{Row}
use Rattle.nr_optable.specs.declared.table.Shape.TheVariants as shapes
use Rattle.nr_prog.specs.declared.body.frame_map.FrameMap.{FrameMap}
use Rattle.nr_prog.specs.declared.body.frame_map.MapType.TheVariants as map_types
use Rattle.nr_base.specs.declared.desc.types.DescBase.TheVariants as desc_bases
use Rattle.nr_prog.specs.declared.body.instruction.Args.TheVariants.{Empty, Pool}
use Rattle.nr_prog.specs.declared.body.instruction.Instr.{Instr}
use Rattle.nr_prog.specs.declared.body.loaded.Loaded.{Loaded}
use Rattle.nr_prog.specs.declared.body.whole.Body.{Body}
use Rattle.nr_prog.specs.declared.member.Handler.{Handler}
use Rattle.nr_prog.specs.declared.pool.PoolEntry.{PoolEntry}
use Rattle.nr_prog.specs.declared.pool.PoolEntry.TheVariants.{Class, FieldRef, MethodRef, NameAndType, Utf8}
use Rattle.nr_linked.specs.declared.program.tables.MethodInfo.{MethodInfo}
use Rattle.nr_linked.specs.declared.program.tables.ProgramTables.{ProgramTables}
use Rattle.nr_links.specs.Example.{body_of, code_of, getfield, instr, return_}
use Rattle.nr_linkrules.specs.declared.fault.LinkFault.{LinkFault}
use Rattle.nr_linkrules.specs.declared.fault.LinkFault.TheVariants as faults
use Rattle.nr_linked.specs.declared.program.method_name.MethodName.{MethodName}

abbrev pub object : List ℕ
object = codes "java/lang/Object"

-- a class or an interface below another, without members
abbrev pub plain : List ℕ → List ℕ → ℕ → Loaded
plain name above flags = record {
  «class» = record {
    pool = Utf8 name ∷ Class 1 ∷ Utf8 above ∷ Class 3 ∷ [];
    flags = flags;
    this_class = 2;
    super_class = 4;
    interfaces = [];
    fields = [];
    methods = [];
  };
  bodies = [];
}

-- a class below another
abbrev pub below : List ℕ → List ℕ → Loaded
below name above = plain name above 0x0021

-- a class below another, with a superinterface
abbrev pub with_interface : List ℕ → List ℕ → List ℕ → Loaded
with_interface name above face = record {
  «class» = record {
    pool = Utf8 name ∷ Class 1 ∷ Utf8 above ∷ Class 3 ∷ Utf8 face ∷ Class 5 ∷ [];
    flags = 0x0021;
    this_class = 2;
    super_class = 4;
    interfaces = 6 ∷ [];
    fields = [];
    methods = [];
  };
  bodies = [];
}

-- a class or an interface with fields and abstract methods of these flags, all of one name and one descriptor
abbrev pub with_members : List ℕ → List ℕ → ℕ → List ℕ → List ℕ → List ℕ → List ℕ → Loaded
with_members name above flags fields methods member desc = record {
  «class» = record {
    pool = Utf8 name ∷ Class 1 ∷ Utf8 above ∷ Class 3 ∷ Utf8 member ∷ Utf8 desc ∷ [];
    flags = flags;
    this_class = 2;
    super_class = 4;
    interfaces = [];
    fields = map (λ (f : ℕ). record { flags = f; name = 5; desc = 6; constant = 0 }) fields;
    methods = map (λ (f : ℕ). record { flags = f; name = 5; desc = 6; code = None }) methods;
  };
  bodies = map (λ (f : ℕ). None) methods;
}

-- a class with a method of these flags, m of no parameters and no result
abbrev pub with_method : List ℕ → List ℕ → ℕ → Loaded
with_method name above flags = with_members name above 0x0021 [] (flags ∷ []) (codes "m") (codes "()V")

-- ---- classes with code

-- A class with a static method `go` that has this body. Its pool has the class or the array that is named at 8, and a
-- reference to a member of it at 12.
abbrev pub with_code : List ℕ → (ℕ → ℕ → PoolEntry) → List ℕ → List ℕ → List ℕ → Body → Loaded
with_code name ref named member desc body = record {
  «class» = record {
    pool = Utf8 name ∷ Class 1 ∷ Utf8 object ∷ Class 3 ∷ Utf8 (codes "go") ∷ Utf8 (codes "()V")
        ∷ Utf8 named ∷ Class 7 ∷ Utf8 member ∷ Utf8 desc ∷ NameAndType 9 10 ∷ ref 8 11 ∷ [];
    flags = 0x0021;
    this_class = 2;
    super_class = 4;
    interfaces = [];
    fields = [];
    methods = record { flags = 0x0009; name = 5; desc = 6; code = Some (code_of 9 9 [] [] None) } ∷ [];
  };
  bodies = Some body ∷ [];
}

abbrev pub go : MethodName
go = record { name = codes "go"; desc = codes "()V" }

abbrev pub nop : Row
nop = op 0 F1 shapes.Plain none none

-- of a code and a family; what an instruction takes and leaves doesn't matter to linking
abbrev pub row : ℕ → Family → Row
row code family = record getfield { code = code; family = family }

-- at offset 1 an instruction with an index of the pool
abbrev pub at_1 : ℕ → Family → ℕ → Body
at_1 code family index = body_of (instr 0 nop Empty ∷ instr 1 (row code family) (Pool index) ∷ instr 4 return_ Empty ∷ []) [] []

abbrev pub using_field : List ℕ → List ℕ → List ℕ → Loaded
using_field named member desc = with_code (codes "A") FieldRef named member desc (at_1 180 F30 12)

abbrev pub calling : ℕ → List ℕ → List ℕ → List ℕ → Loaded
calling code named member desc = with_code (codes "A") MethodRef named member desc (at_1 code F32 12)

abbrev pub making : List ℕ → Loaded
making named = with_code (codes "A") MethodRef named [] [] (at_1 187 F33 8)

abbrev pub casting : List ℕ → Loaded
casting named = with_code (codes "A") MethodRef named [] [] (at_1 192 F37 8)

-- code that names nothing
abbrev pub ending : List Instr
ending = instr 0 nop Empty ∷ instr 1 return_ Empty ∷ []

-- catching what the catch type names
abbrev pub handler : ℕ → Handler
handler catch_type = record { start = 0; end = 1; handler = 1; catch_type = catch_type }

abbrev pub catching : List ℕ → ℕ → Loaded
catching named catch_type =
    with_code (codes "A") MethodRef named [] [] (body_of ending (handler catch_type ∷ []) [])

-- an array of the class on the operand stack
abbrev pub array_map : List ℕ → FrameMap
array_map named = record {
  at = 1;
  locals = map_types.Int ∷ [];
  stack = map_types.Object (record { dims = 1; base = desc_bases.Object named }) ∷ [];
}

abbrev pub mapping : List ℕ → Loaded
mapping named =
    with_code (codes "A") MethodRef [] [] [] (body_of ending [] (array_map named ∷ []))

-- ---- as many classes as there may be, and one more

abbrev pub full : List Loaded
full = replicate 1024 (below (codes "A") object)

-- ---- the first fault of each list

-- names of classes
abbrev pub a : List ℕ
a = codes "A"

abbrev pub b : List ℕ
b = codes "B"

abbrev pub c : List ℕ
c = codes "C"

abbrev pub q : List ℕ
q = codes "Q"

abbrev pub r : List ℕ
r = codes "R"

-- an interface with the method m
abbrev pub face : Loaded
face = with_members (codes "I") object 0x0601 [] (0x0401 ∷ []) (codes "m") (codes "()V")

-- A that calls m of B, which has it
abbrev pub calling_b : ℕ → List Loaded
calling_b code = calling code b (codes "m") (codes "()V") ∷ with_method b object 0x0401 ∷ []

-- A that calls m of the interface
abbrev pub calling_face : ℕ → List Loaded
calling_face code = calling code (codes "I") (codes "m") (codes "()V") ∷ face ∷ []

-- A with an instruction that names the field v of this class or array
abbrev pub using : List ℕ → Loaded
using named = using_field named (codes "v") (codes "I")

-- A that uses v of B, which has v with these flags
abbrev pub using_b : ℕ → List Loaded
using_b flags = using b ∷ with_members b object 0x0021 (flags ∷ []) [] (codes "v") (codes "I") ∷ []

pub record Example : Type 0 where
  pub classes : List Loaded
  pub fault : Option LinkFault

abbrev pub fails : List Loaded → LinkFault → Example
fails classes fault = record { classes = classes; fault = Some fault }

abbrev pub passes : List Loaded → Example
passes classes = record { classes = classes; fault = None }

-- of the list itself
unfoldable pub list_examples : List Example
list_examples =
    fails (below a object ∷ full) (faults.LimitClasses 1025)
    -- 1,024 aren't too many
    ∷ fails full (faults.DoubledClass a)
    ∷ fails (below a object ∷ below (codes "java/X") object ∷ []) (faults.ReservedName (codes "java/X"))
    -- before a name that comes twice
    ∷ fails (below a object ∷ below a object ∷ below (codes "nrmi/X") object ∷ []) (faults.ReservedName (codes "nrmi/X"))
    ∷ fails (below a q ∷ below b object ∷ below a object ∷ []) (faults.DoubledClass a)
    ∷ passes []
    ∷ passes (below b a ∷ below a object ∷ [])
    ∷ []

-- of what classes name above them
unfoldable pub above_examples : List Example
above_examples =
    fails (below a b ∷ []) (faults.NoClass b)
    ∷ fails (with_interface a object (codes "F") ∷ []) (faults.NoClass (codes "F"))
    -- the superclass before the interfaces
    ∷ fails (with_interface a b (codes "F") ∷ []) (faults.NoClass b)
    -- class by class, so A's kind before B's superclass
    ∷ fails (below a (codes "java/lang/Cloneable") ∷ below b q ∷ []) (faults.SuperKind a)
    ∷ fails (with_interface a object (codes "nrmi/Out") ∷ []) (faults.SuperKind a)
    -- an interface below a class that isn't java/lang/Object
    ∷ fails (plain a (codes "java/lang/Throwable") 0x0601 ∷ []) (faults.SuperKind a)
    ∷ fails (below a b ∷ plain b object 0x0031 ∷ []) (faults.FinalSuper a)
    ∷ fails (below a (codes "nrmi/Out") ∷ []) (faults.FinalSuper a)
    ∷ fails (below a a ∷ []) (faults.Cycle a)
    -- C isn't on the cycle
    ∷ fails (below c a ∷ below a b ∷ below b a ∷ []) (faults.Cycle a)
    -- what all classes name above them before cycles
    ∷ fails (below a b ∷ below b a ∷ below c (codes "java/lang/Cloneable") ∷ []) (faults.SuperKind c)
    -- cycles before members
    ∷ fails (with_members (codes "M") object 0x0021 [] (0x0401 ∷ []) (codes "<clinit>") (codes "()V") ∷ below a a ∷ []) (faults.Cycle a)
    ∷ passes (with_interface a object (codes "nrmi/Restorable") ∷ plain (codes "I") object 0x0601 ∷ with_interface b a (codes "I") ∷ [])
    ∷ []

-- A with a method of the first flags, and B directly below it with one of the second
abbrev pub over : ℕ → ℕ → List Loaded
over upper lower = with_method b a lower ∷ with_method a object upper ∷ []

abbrev pub override : LinkFault
override = faults.FinalOverride b (record { name = codes "m"; desc = codes "()V" })

-- a class with an abstract method of this descriptor, and one with a static field of this one
abbrev pub describing : List ℕ → Loaded
describing desc = with_members a object 0x0421 [] (0x0401 ∷ []) (codes "m") desc

abbrev pub holding : List ℕ → Loaded
holding desc = with_members a object 0x0021 (0x0008 ∷ []) [] (codes "v") desc

-- of members
unfoldable pub member_examples : List Example
member_examples =
    fails (with_members a object 0x0601 [] (0x0008 ∷ []) (codes "<clinit>") (codes "()V") ∷ []) (faults.Initialiser a)
    ∷ fails (with_members a object 0x0601 (0x0001 ∷ []) [] (codes "v") (codes "I") ∷ []) (faults.InterfaceMember a)
    ∷ fails (with_members a object 0x0601 [] (0x0400 ∷ []) (codes "m") (codes "()I") ∷ []) (faults.InterfaceMember a)
    ∷ fails (over 0x0011 0x0001) override
    ∷ fails (over 0x0010 0x0401) override
    -- above by two steps
    ∷ fails (with_method b c 0x0001 ∷ below c a ∷ with_method a object 0x0011 ∷ []) override
    -- the lower one is final, or one of them is private or static
    ∷ passes (over 0x0001 0x0011) ∷ passes (over 0x0012 0x0001) ∷ passes (over 0x0018 0x0001) ∷ passes (over 0x0011 0x0002) ∷ passes (over 0x0011 0x0009)
    -- the class of an array's elements; of static fields too
    ∷ fails (holding (codes "[[LQ;") ∷ []) (faults.NoClass q)
    -- parameters before the result
    ∷ fails (describing (codes "(I[LA;LQ;)LR;") ∷ []) (faults.NoClass q)
    ∷ fails (describing (codes "(ILA;)LR;") ∷ []) (faults.NoClass r)
    ∷ passes (holding (codes "[Lnrmi/Out;") ∷ []) ∷ passes (describing (codes "(LA;[J)[C") ∷ [])
    ∷ []

-- of instructions, exception handlers and frame maps
unfoldable pub site_examples : List Example
site_examples =
    fails (using a ∷ []) (faults.NoField a go 1)
    -- the class that holds the instruction, not the one that it names
    ∷ fails (using b ∷ below b object ∷ []) (faults.NoField a go 1)
    -- a static field
    ∷ fails (using_b 0x0008) (faults.NoField a go 1)
    ∷ fails (using q ∷ []) (faults.NoClass q)
    -- an array has no field; its elements' class is looked at before; bytes that name nothing are told whole
    ∷ fails (using (codes "[I") ∷ []) (faults.NoField a go 1)
    ∷ fails (using (codes "[[LQ;") ∷ []) (faults.NoClass q)
    ∷ fails (using (codes "[F") ∷ []) (faults.NoClass (codes "[F"))
    ∷ passes (using_b 0x0001)
    ∷ fails (calling 182 a (codes "q") (codes "()V") ∷ []) (faults.NoMethod a go 1)
    -- an initialiser is looked for in the named class alone, and an array has none
    ∷ fails (calling 183 a (codes "<init>") (codes "()V") ∷ []) (faults.NoMethod a go 1)
    ∷ fails (calling 183 (codes "[I") (codes "<init>") (codes "()V") ∷ []) (faults.NoMethod a go 1)
    ∷ fails (calling 182 (codes "[LQ;") (codes "q") (codes "()V") ∷ []) (faults.NoClass q)
    -- invokevirtual of a static method, invokestatic of one that isn't, invokevirtual of an interface, invokeinterface of a class
    ∷ fails (calling 182 a (codes "go") (codes "()V") ∷ []) (faults.MemberKind a go 1)
    ∷ fails (calling_b 184) (faults.MemberKind a go 1)
    ∷ fails (calling_face 182) (faults.MemberKind a go 1)
    ∷ fails (calling_b 185) (faults.MemberKind a go 1)
    -- an initialiser outside invokespecial, and invokespecial of another method of a class that isn't above
    ∷ fails (calling 182 object (codes "<init>") (codes "()V") ∷ []) (faults.MemberKind a go 1)
    ∷ fails (calling_b 183) (faults.MemberKind a go 1)
    ∷ passes (calling 184 a (codes "go") (codes "()V") ∷ [])
    ∷ passes (calling 183 object (codes "<init>") (codes "()V") ∷ [])
    ∷ passes (calling_face 185)
    -- `new` of an interface, of an abstract class, of an array
    ∷ fails (making (codes "java/lang/Cloneable") ∷ []) (faults.NotMakeable a go 1)
    ∷ fails (making b ∷ plain b object 0x0421 ∷ []) (faults.NotMakeable a go 1)
    ∷ fails (making (codes "[LA;") ∷ []) (faults.NotMakeable a go 1)
    ∷ fails (making (codes "[LQ;") ∷ []) (faults.NoClass q)
    ∷ passes (making a ∷ [])
    -- a class named I is none of the primitive types
    ∷ fails (casting (codes "I") ∷ []) (faults.NoClass (codes "I"))
    ∷ passes (casting (codes "[[Z") ∷ [])
    -- exception handlers and frame maps; a catch type of 0 names none
    ∷ fails (catching q 8 ∷ []) (faults.NoClass q)
    ∷ passes (catching q 0 ∷ [])
    ∷ fails (mapping q ∷ []) (faults.NoClass q)
    ∷ passes (mapping a ∷ [])
    -- instructions of all classes before exception handlers
    ∷ fails (catching q 8 ∷ with_code b MethodRef r [] [] (at_1 192 F37 8) ∷ []) (faults.NoClass r)
    ∷ []

-- ---- a program to run

-- the tables, where each method takes an array of ints and gives an int by its descriptor
unfoldable pub runnable : ProgramTables → ProgramTables
runnable P = record P { methods = map (λ (i : MethodInfo). record i { desc = codes "([I)I" }) P.methods }
