-- How link faults and verify faults are spelled. The project's own rules.
use Rattle.std.specs.Prelude.{ℕ, List, [], ◌++◌, codes, if◌then◌else◌}
use Rattle.std.specs.Fmt.{decimal}
use Rattle.std.specs.Option.{option_map_or}
use Rattle.nr_linked.specs.declared.program.kind.Kind.{Kind}
use Rattle.nr_linked.specs.declared.program.method_name.MethodName.{MethodName}
use Rattle.nr_linked.specs.declared.program.tables.MethodInfo.{MethodInfo}
use Rattle.nr_linked.specs.declared.program.tables.ProgramTables.{ProgramTables}
use Rattle.nr_linked.specs.declared.program.types.VType.{VType}
use Rattle.nr_linked.specs.declared.program.types.VType.TheVariants as types
use Rattle.nr_linked.specs.declared.typing.fault.OpFault.{OpFault}
use Rattle.nr_linked.specs.declared.typing.fault.OpFault.TheVariants as ops
use Rattle.nr_linked.specs.declared.typing.fault.Wanted.{Wanted}
use Rattle.nr_linked.specs.declared.typing.fault.Wanted.TheVariants as wanteds
use Rattle.nr_linked.specs.KindTexts.{class_name, kind_text}
use Rattle.nr_linked.specs.Kinds.{class_in, is_array}
use Rattle.nr_linked.specs.TypingFaults as checks
use Rattle.nr_linkrules.specs.declared.fault.LinkFault.{LinkFault}
use Rattle.nr_linkrules.specs.declared.fault.LinkFault.TheVariants as links
use Rattle.nr_linkrules.specs.ClassRules.{method_name}
use Rattle.nr_verify.specs.declared.fault.VerifyFault.{VerifyFault}
use Rattle.nr_verify.specs.declared.fault.VerifyFault.TheVariants as verifies
use Rattle.nr_cli.specs.Spelling.{spelled}

-- ---- places in code

-- a method is its name, followed at once by its descriptor
abbrev pub spelled_method : MethodName → List ℕ
spelled_method m = spelled m.name ++ spelled m.desc

-- a method of a class, and an offset in its code
abbrev pub spelled_at : List ℕ → MethodName → ℕ → List ℕ
spelled_at name m at = spelled name ++ codes " " ++ spelled_method m ++ codes " " ++ decimal at

-- ---- linking

abbrev pub spelled_link : LinkFault → List ℕ
spelled_link (links.LimitClasses n) = codes "LimitClasses " ++ decimal n
spelled_link (links.ReservedName name) = codes "ReservedName " ++ spelled name
spelled_link (links.DoubledClass name) = codes "DoubledClass " ++ spelled name
spelled_link (links.NoClass name) = codes "NoClass " ++ spelled name
spelled_link (links.SuperKind name) = codes "SuperKind " ++ spelled name
spelled_link (links.FinalSuper name) = codes "FinalSuper " ++ spelled name
spelled_link (links.Cycle name) = codes "Cycle " ++ spelled name
spelled_link (links.Initialiser name) = codes "Initialiser " ++ spelled name
spelled_link (links.InterfaceMember name) = codes "InterfaceMember " ++ spelled name
spelled_link (links.FinalOverride name m) = codes "FinalOverride " ++ spelled name ++ codes " " ++ spelled_method m
spelled_link (links.NoField name m at) = codes "NoField " ++ spelled_at name m at
spelled_link (links.NoMethod name m at) = codes "NoMethod " ++ spelled_at name m at
spelled_link (links.MemberKind name m at) = codes "MemberKind " ++ spelled_at name m at
spelled_link (links.NotMakeable name m at) = codes "NotMakeable " ++ spelled_at name m at
spelled_link (links.NoMain name) = codes "NoMain " ++ spelled name
spelled_link (links.NoService name) = codes "NoService " ++ spelled name
spelled_link links.NoMemory = codes "NoMemory"

-- ---- verifying

-- the name of a class, or the descriptor of an array
abbrev pub kind_name : ProgramTables → Kind → List ℕ
kind_name P k = if is_array k then kind_text P k else option_map_or (class_name P) (class_in k.base) []

abbrev pub spelled_type : ProgramTables → VType → List ℕ
spelled_type P types.Top = codes "top"
spelled_type P types.Int = codes "int"
spelled_type P types.Long = codes "long"
spelled_type P types.Null = codes "null"
spelled_type P types.UninitThis = codes "uninit-this"
spelled_type P (types.Uninit at) = codes "uninit-" ++ decimal at
spelled_type P (types.Class k) = spelled (kind_name P k)

abbrev pub spelled_wanted : ProgramTables → Wanted → List ℕ
spelled_wanted P (wanteds.«Type» t) = spelled_type P t
spelled_wanted P wanteds.AnyReference = codes "reference"

abbrev pub spelled_op : ProgramTables → OpFault → List ℕ
spelled_op P (ops.NeedsKind depth expected found) =
    codes "NeedsKind " ++ decimal depth ++ codes " " ++ spelled_wanted P expected ++ codes " " ++ spelled_type P found
spelled_op P (ops.StackShort depth) = codes "StackShort " ++ decimal depth
spelled_op P ops.StackOver = codes "StackOver"
spelled_op P (ops.LocalRange n) = codes "LocalRange " ++ decimal n
spelled_op P ops.NeedsInit = codes "NeedsInit"
spelled_op P ops.ReturnKind = codes "ReturnKind"

abbrev pub spelled_verify : ProgramTables → VerifyFault → List ℕ
spelled_verify P (verifies.Op name m at fault) = codes "Op " ++ spelled_at name m at ++ codes " " ++ spelled_op P fault
spelled_verify P (verifies.NoMap name m at) = codes "NoMap " ++ spelled_at name m at
spelled_verify P (verifies.MapMismatch name m at) = codes "MapMismatch " ++ spelled_at name m at
spelled_verify P (verifies.FallsOff name m at) = codes "FallsOff " ++ spelled_at name m at
spelled_verify P (verifies.HandlerMismatch name m at index) =
    codes "HandlerMismatch " ++ spelled_at name m at ++ codes " " ++ decimal index
spelled_verify P verifies.NoMemory = codes "NoMemory"

-- what the verifier tells where this check of the method fails; code of a program is never unsuited
abbrev pub told_fault : ProgramTables → MethodInfo → checks.MethodFault → VerifyFault
told_fault P m (checks.Op at fault) = verifies.Op (class_name P m.«class») (method_name m) at fault
told_fault P m (checks.NoMap at) = verifies.NoMap (class_name P m.«class») (method_name m) at
told_fault P m (checks.MapMismatch at) = verifies.MapMismatch (class_name P m.«class») (method_name m) at
told_fault P m (checks.FallsOff at) = verifies.FallsOff (class_name P m.«class») (method_name m) at
told_fault P m (checks.HandlerMismatch at n) = verifies.HandlerMismatch (class_name P m.«class») (method_name m) at n
told_fault P m (checks.Unsuited at) = verifies.NoMemory
