-- Frame maps as text: JVM Specification 4.7.4, and for the frame at a method's entry 4.10.1.6. That float and double are
-- left out is the project's own profile.
use Rattle.std.specs.Prelude.{◌≡◌, ℕ, ◌+◌, ◌-◌, ◌≤◌, IsTrue, List, [], ◌∷◌, ◌++◌, length, take, map, Bool, false, not, ◌&&◌, ◌||◌, ◌==◌, nat_lt, nat_le, Option, Some, None, if◌then◌else◌, codes}
use Rattle.std.specs.Int.{w8, w16}
use Rattle.std.specs.Str.{bytes_eq}
use Rattle.nr_base.specs.Grammar.{Grammar, number, give, none, Then, pick, Times, Each}
use Rattle.nr_base.specs.Descs.{method_desc}
use Rattle.nr_base.specs.declared.desc.types.Desc.{Desc}
use Rattle.nr_base.specs.declared.desc.types.DescBase.{DescBase}
use Rattle.nr_base.specs.declared.desc.types.DescBase.TheVariants as bases
use Rattle.nr_base.specs.declared.desc.types.MethodDesc.{MethodDesc}
use Rattle.nr_prog.specs.declared.pool.PoolEntry.{PoolEntry}
use Rattle.nr_prog.specs.declared.member.Method.{Method}
use Rattle.nr_prog.specs.declared.parts.ClassParts.{ClassParts}
use Rattle.nr_prog.specs.declared.body.instruction.Instr.{Instr}
use Rattle.nr_prog.specs.declared.body.frame_map.MapType.{MapType}
use Rattle.nr_prog.specs.declared.body.frame_map.MapType.TheVariants as types
use Rattle.nr_prog.specs.declared.body.frame_map.FrameMap.{FrameMap}
use Rattle.nr_prog.specs.Form.{Spells}
use Rattle.nr_prog.specs.Members.{is_static, spells}
use Rattle.nr_prog.specs.BodyNames.{NamesClassBy, IsClassOf}
use Rattle.nr_prog.specs.BodyOperands.{when}
use Rattle.nr_prog.specs.BodyStarts.{is_start, is_new}

-- ---- types (4.7.4, verification_type_info)

-- the class or the array that the index names
abbrev pub class_type : List PoolEntry → ℕ → Grammar MapType
class_type pool index t text = (d : Desc) × NamesClassBy (λ bytes. IsClassOf bytes d) pool index × give (types.Object d) t text

abbrev pub type_by : List PoolEntry → List Instr → ℕ → Grammar MapType
type_by pool is tag =
    pick (tag == 0) (give types.Top)
    (pick (tag == 1) (give types.Int)
    (pick (tag == 4) (give types.Long)
    (pick (tag == 5) (give types.Null)
    (pick (tag == 6) (give types.UninitThis)
    (pick (tag == 7) (Then (number w16) (λ index. class_type pool index))
    (pick (tag == 8) (Then (number w16) (λ at. when (IsTrue (is_new is at)) (give (types.Uninit at))))
    none))))))

abbrev pub map_type : List PoolEntry → List Instr → Grammar MapType
map_type pool is = Then (number w8) (λ tag. type_by pool is tag)

-- so many types
abbrev pub map_types : List PoolEntry → List Instr → ℕ → Grammar (List MapType)
map_types pool is k ts text = (length ts ≡ k) × Each (map_type pool is) ts text

-- a count, and so many types
abbrev pub counted_types : List PoolEntry → List Instr → Grammar (List MapType)
counted_types pool is = Then (number w16) (λ count. map_types pool is count)

-- ---- frames (4.7.4, stack_map_frame)

-- same, same_locals_1_stack_item and its extended form, chop, same_frame_extended, append, full
abbrev pub is_frame_tag : ℕ → Bool
is_frame_tag tag = nat_lt tag 128 || nat_le 247 tag

-- how many of the last locals a chop leaves out
abbrev pub dropped : ℕ → ℕ
dropped tag = if nat_le 248 tag && nat_le tag 250 then 251 - tag else 0

-- offset_delta, which the tag holds or two bytes
abbrev pub delta : ℕ → Grammar ℕ
delta tag = pick (nat_lt tag 64) (give tag) (pick (nat_lt tag 128) (give (tag - 64)) (number w16))

abbrev pub has_one_operand : ℕ → Bool
has_one_operand tag = (nat_le 64 tag && nat_lt tag 128) || tag == 247

-- the types of locals and operands, after those locals of the frame before
abbrev pub frame_types : List PoolEntry → List Instr → ℕ → List MapType → Grammar (List MapType × List MapType)
frame_types pool is tag locals =
    pick (has_one_operand tag) (Then (map_type pool is) (λ t. give (locals, t ∷ [])))
    (pick (tag == 255) (Then (counted_types pool is) (λ all. Then (counted_types pool is) (λ stack. give (all, stack))))
    (pick (nat_le 252 tag) (Then (map_types pool is (tag - 251)) (λ more. give (locals ++ more, [])))
    (give (take (length locals - dropped tag) locals, []))))

-- The frame maps so far, the locals of the last, and the offset from which the next one's delta counts: 0 for the first
-- map, and one past the last one's offset for each other.
pub record Mapped : Type 0 where
  pub next : ℕ
  pub locals : List MapType
  pub maps : List FrameMap

abbrev pub with_map : List FrameMap → ℕ → List MapType × List MapType → Mapped
with_map maps at f = record { next = at + 1; locals = f.0; maps = maps ++ record { at = at; locals = f.0; stack = f.1 } ∷ [] }

-- one more frame map, at an offset where an instruction starts
abbrev pub frame : List PoolEntry → List Instr → Mapped → Grammar Mapped
frame pool is s = Then (number w8) (λ tag.
    when (IsTrue (is_frame_tag tag) × (dropped tag ≤ length s.locals))
    (Then (delta tag) (λ d.
    when (IsTrue (is_start is (s.next + d)))
    (Then (frame_types pool is tag s.locals) (λ f. give (with_map s.maps (s.next + d) f))))))

-- ---- the frame at a method's entry (4.10.1.6)

abbrev pub base_type : DescBase → Desc → MapType
base_type bases.Long d = types.Long
base_type (bases.Object name) d = types.Object d
base_type base d = types.Int

-- the type of a parameter
abbrev pub type_of : Desc → MapType
type_of d = if d.dims == 0 then base_type d.base d else types.Object d

abbrev pub base_is : List ℕ → DescBase → Bool
base_is name (bases.Object other) = bytes_eq other name
base_is name base = false

-- an initialiser of a class other than Object has to initialise `this`
abbrev pub this_type : ClassParts → Method → Desc → MapType
this_type c m this =
    if spells (bytes_eq (codes "<init>")) c.pool m.name && not (base_is (codes "java/lang/Object") this.base)
    then types.UninitThis else types.Object this

abbrev pub receiver : ClassParts → Method → Desc → List MapType
receiver c m this = if is_static m.flags then [] else this_type c m this ∷ []

-- the receiver, and the parameters of the descriptor
pub record IsEntry (c : ClassParts) (m : Method) (locals : List MapType) : Type 0 where
  pub this : Desc
  pub desc : MethodDesc
  pub class : NamesClassBy (λ bytes. IsClassOf bytes this) c.pool c.this_class
  pub spelled : Spells (method_desc desc) c.pool m.desc
  pub are : locals ≡ receiver c m this ++ map type_of desc.params

abbrev pub at_entry : List MapType → Mapped
at_entry locals = record { next = 0; locals = locals; maps = [] }

-- ---- the contents of StackMapTable (4.7.4): number_of_entries, and the entries

abbrev pub frames : List PoolEntry → List Instr → List MapType → Grammar Mapped
frames pool is locals = Then (number w16) (λ count. Times (frame pool is) count (at_entry locals))

-- the maps of a method, with the contents of its StackMapTable where it has one
abbrev pub IsMapped : ClassParts → Method → List Instr → Option (List ℕ) → List FrameMap → Type 0
IsMapped c m is None maps = maps ≡ []
IsMapped c m is (Some text) maps =
    (locals : List MapType) × (s : Mapped) × IsEntry c m locals × frames c.pool is locals s text × (s.maps ≡ maps)
