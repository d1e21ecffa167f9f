-- What linking finds for instructions, exception handlers and frame maps, or the first fault, in the project's own order. P has
-- the classes laid out.
use Rattle.std.specs.Prelude.{ℕ, List, [], ◌++◌, Bool, true, false, not, ◌&&◌, ◌||◌, ◌==◌, Option, Some, None, Result, Ok, Err, codes, if◌then◌else◌}
use Rattle.std.specs.Str.{bytes_eq}
use Rattle.std.specs.Option.{option_and_then, option_map_or, option_or}
use Rattle.nr_optable.specs.declared.table.Family.{Family}
use Rattle.nr_optable.specs.declared.table.Family.TheVariants.{F8, F30, F31, F32, F33, F34, F37}
use Rattle.nr_base.specs.declared.desc.types.DescBase.{DescBase}
use Rattle.nr_base.specs.declared.desc.types.DescBase.TheVariants as desc_bases
use Rattle.nr_prog.specs.declared.body.frame_map.FrameMap.{FrameMap}
use Rattle.nr_prog.specs.declared.body.frame_map.MapType.{MapType}
use Rattle.nr_prog.specs.declared.body.frame_map.MapType.TheVariants as map_types
use Rattle.nr_prog.specs.declared.body.instruction.Instr.{Instr}
use Rattle.nr_prog.specs.declared.member.Handler.{Handler}
use Rattle.nr_prog.specs.declared.pool.PoolEntry.{PoolEntry}
use Rattle.nr_prog.specs.declared.pool.PoolEntry.TheVariants.{FieldRef, Integer, InterfaceMethodRef, Long, MethodRef}
use Rattle.nr_linked.specs.declared.program.kind.Kind.{Kind}
use Rattle.nr_linked.specs.declared.program.tables.MethodInfo.{MethodInfo}
use Rattle.nr_linked.specs.declared.program.tables.ProgramTables.{ProgramTables}
use Rattle.nr_linked.specs.declared.program.tables.Resolved.{Resolved}
use Rattle.nr_linked.specs.declared.program.tables.Resolved.TheVariants as resolved
use Rattle.nr_prog.specs.BodyNames.{class_text_at, desc_text_at}
use Rattle.nr_prog.specs.Members.{is_static}
use Rattle.nr_prog.specs.Pool.{entry_at}
use Rattle.nr_instrs.specs.Checks.{then_on}
use Rattle.nr_prog.specs.TextForms.{class_desc}
use Rattle.nr_linked.specs.Initialisers.{is_initialiser}
use Rattle.nr_linked.specs.KindTexts.{class_name}
use Rattle.nr_linked.specs.Kinds.{class_in, is_array}
use Rattle.nr_linked.specs.Linked.{frame_maps_of, handlers_of, instrs_of}
use Rattle.nr_linked.specs.Programs.{class_at, is_interface, method_at}
use Rattle.nr_linked.specs.Subtypes.{is_above}
use Rattle.nr_linked.specs.TypingFacts.{is_makeable}
use Rattle.nr_links.specs.Found.{index_in}
use Rattle.nr_links.specs.Named.{name_text_at}
use Rattle.nr_links.specs.Resolution.{class_with_members, resolved_method, resolved_slot}
use Rattle.nr_linkrules.specs.declared.fault.LinkFault.{LinkFault}
use Rattle.nr_linkrules.specs.declared.fault.LinkFault.TheVariants as faults
use Rattle.nr_linked.specs.declared.program.method_name.MethodName.{MethodName}
use Rattle.nr_linkrules.specs.ClassRules.{desc_fault, method_name}
use Rattle.nr_linkrules.specs.Faults.{first_of}
use Rattle.nr_linkrules.specs.Layout.{kind_of}
use Rattle.nr_linkrules.specs.Outline.{some_text}

abbrev pub Finding : Type 0 → Type 0
Finding A = Result A LinkFault

-- what is there, or the fault
abbrev pub or_fault : {A : Type 0} → LinkFault → Option A → Finding A
or_fault fault found = option_map_or (λ x. Ok x) found (Err fault)

abbrev pub fault_of : {A : Type 0} → Finding A → Option LinkFault
fault_of (Ok x) = None
fault_of (Err fault) = Some fault

-- ---- classes and arrays that are named

abbrev pub class_in_base : List ℕ → DescBase → List ℕ
class_in_base bytes (desc_bases.Object name) = name
class_in_base bytes base = bytes

-- the class that the bytes name, which for an array is that of its elements; where they name none, the bytes themselves
unfoldable pub class_named_by : List ℕ → List ℕ
class_named_by bytes = option_map_or (λ d. class_in_base bytes d.base) (class_desc bytes) bytes

-- the kind that the bytes name
unfoldable pub kind_named : ProgramTables → List ℕ → Finding Kind
kind_named P bytes =
    or_fault (faults.NoClass (class_named_by bytes)) (option_and_then (kind_of P) (class_desc bytes))

abbrev pub class_bytes : List PoolEntry → ℕ → List ℕ
class_bytes pool index = some_text (class_text_at pool index)

-- the kind that the entry at the index names
abbrev pub kind_at : ProgramTables → List PoolEntry → ℕ → Finding Kind
kind_at P pool index = kind_named P (class_bytes pool index)

-- ---- where an instruction stands

-- an instruction at an offset of a method, whose class it is told by its number and its name
pub record Place : Type 0 where
  pub own : ℕ
  pub class_name : List ℕ
  pub method : MethodName
  pub at : ℕ

-- ---- fields

abbrev pub no_field : Place → LinkFault
no_field p = faults.NoField p.class_name p.method p.at

-- the slot, with the class whose member the instruction names
abbrev pub slot_in : ProgramTables → Place → List ℕ → List ℕ → ℕ → Finding Resolved
slot_in P p name desc c = then_on (or_fault (no_field p) (resolved_slot P c name desc)) (λ s. Ok (resolved.Slot c s))

abbrev pub slot_found : ProgramTables → Place → List ℕ → List ℕ → Kind → Finding Resolved
slot_found P p name desc k = then_on (or_fault (no_field p) (class_with_members P k)) (slot_in P p name desc)

-- ---- methods

abbrev pub is_same : Bool → Bool → Bool
is_same true b = b
is_same false b = not b

-- the call with this code, in a method of class own, can be one of this method of class c: 185 is invokeinterface, 184
-- invokestatic, 183 invokespecial
abbrev pub can_call : ProgramTables → ℕ → ℕ → ℕ → MethodInfo → Bool
can_call P own code c i =
    is_same (is_interface P c) (code == 185)
    && (is_same (is_static i.flags) (code == 184)
    && ((not (is_initialiser i) || code == 183)
    && (not (code == 183) || (is_initialiser i || is_above P own c))))

-- the method to which a reference to the class resolves; an array has no initialiser
abbrev pub method_of : ProgramTables → Kind → List ℕ → List ℕ → ℕ → Option ℕ
method_of P k name desc c =
    if is_array k && bytes_eq name (codes "<init>") then None else resolved_method P c name desc

abbrev pub no_method : Place → LinkFault
no_method p = faults.NoMethod p.class_name p.method p.at

abbrev pub callable : ProgramTables → Place → ℕ → ℕ → ℕ → Finding Resolved
callable P p code c m =
    if option_map_or (can_call P p.own code c) (method_at P m) false then Ok (resolved.Method m c)
    else Err (faults.MemberKind p.class_name p.method p.at)

-- the method, with the class whose member the instruction names
abbrev pub method_in : ProgramTables → Place → ℕ → List ℕ → List ℕ → Kind → ℕ → Finding Resolved
method_in P p code name desc k c = then_on (or_fault (no_method p) (method_of P k name desc c)) (callable P p code c)

abbrev pub method_found : ProgramTables → Place → ℕ → List ℕ → List ℕ → Kind → Finding Resolved
method_found P p code name desc k =
    then_on (or_fault (no_method p) (class_with_members P k)) (method_in P p code name desc k)

-- ---- new

abbrev pub made_found : ProgramTables → Place → Kind → Finding Resolved
made_found P p k =
    if not (is_array k) && option_map_or (is_makeable P) (class_in k.base) false then Ok (resolved.Kind k)
    else Err (faults.NotMakeable p.class_name p.method p.at)

-- ---- each instruction

-- a search by a member's name and descriptor, in the class or the array that was named
abbrev pub Search : Type 0
Search = List ℕ → List ℕ → Kind → Finding Resolved

-- what is found for a reference to a member: its class first, then the rest
abbrev pub on_member : ProgramTables → List PoolEntry → Search → ℕ → ℕ → Finding Resolved
on_member P pool search_in «class» member =
    then_on (kind_at P pool «class»)
    (search_in (some_text (name_text_at pool member)) (some_text (desc_text_at pool member)))

-- that an entry is of another tag than decoding lets through never comes
abbrev pub by_member : ProgramTables → List PoolEntry → Search → PoolEntry → Finding Resolved
by_member P pool search_in (FieldRef «class» member) = on_member P pool search_in «class» member
by_member P pool search_in (MethodRef «class» member) = on_member P pool search_in «class» member
by_member P pool search_in (InterfaceMethodRef «class» member) = on_member P pool search_in «class» member
by_member P pool search_in e = Ok resolved.Nothing

abbrev pub constant_found : PoolEntry → Finding Resolved
constant_found (Integer n) = Ok (resolved.Int n)
constant_found (Long n) = Ok (resolved.Long n)
constant_found e = Ok resolved.Nothing

abbrev pub on_entry : (PoolEntry → Finding Resolved) → List PoolEntry → ℕ → Finding Resolved
on_entry next pool index = option_map_or next (entry_at pool index) (Ok resolved.Nothing)

-- by the family of the instruction, which names the entry at the index
abbrev pub found_by : ProgramTables → Place → List PoolEntry → ℕ → ℕ → Family → Finding Resolved
found_by P p pool code index F8 = on_entry constant_found pool index
found_by P p pool code index F30 = on_entry (by_member P pool (slot_found P p)) pool index
found_by P p pool code index F31 = on_entry (by_member P pool (slot_found P p)) pool index
found_by P p pool code index F32 = on_entry (by_member P pool (method_found P p code)) pool index
found_by P p pool code index F33 = then_on (kind_at P pool index) (made_found P p)
found_by P p pool code index F34 = then_on (kind_at P pool index) (λ k. Ok (resolved.Kind k))
found_by P p pool code index F37 = then_on (kind_at P pool index) (λ k. Ok (resolved.Kind k))
found_by P p pool code index family = Ok resolved.Nothing

-- what is found for an instruction, by the place in whose method it stands
unfoldable pub instr_found : ProgramTables → (ℕ → Place) → List PoolEntry → Instr → Finding Resolved
instr_found P place pool i =
    option_map_or (λ index. found_by P (place i.at) pool i.row.code index i.row.family) (index_in i.args)
    (Ok resolved.Nothing)

-- ---- the faults of a method: of its instructions; and of what its exception handlers and frame maps name

abbrev pub place_in : ProgramTables → MethodInfo → ℕ → Place
place_in P i at = record {
  own = i.«class»;
  class_name = class_name P i.«class»;
  method = method_name i;
  at = at;
}

-- the constant pool of the method's class
abbrev pub pool_of : ProgramTables → MethodInfo → List PoolEntry
pool_of P i = option_map_or (λ e. option_map_or (λ parts. parts.pool) e.read []) (class_at P i.«class») []

unfoldable pub code_fault : ProgramTables → MethodInfo → Option LinkFault
code_fault P i = first_of (λ n. fault_of (instr_found P (place_in P i) (pool_of P i) n)) (instrs_of i)

-- a handler of catch type 0 catches all (4.7.3)
unfoldable pub handler_fault : ProgramTables → List PoolEntry → Handler → Option LinkFault
handler_fault P pool h = if h.catch_type == 0 then None else fault_of (kind_at P pool h.catch_type)

abbrev pub type_fault : ProgramTables → MapType → Option LinkFault
type_fault P (map_types.Object d) = desc_fault P d
type_fault P t = None

unfoldable pub map_fault : ProgramTables → FrameMap → Option LinkFault
map_fault P f = first_of (type_fault P) (f.locals ++ f.stack)

unfoldable pub around_fault : ProgramTables → MethodInfo → Option LinkFault
around_fault P i =
    option_or (first_of (handler_fault P (pool_of P i)) (handlers_of i)) (first_of (map_fault P) (frame_maps_of i))
