-- Reading frame maps, with the first fault: the project's own rule. A number that doesn't fit is told at its own offset,
-- a type at its tag, and else the map's tag.
use Rattle.std.specs.Prelude.{ℕ, ◌+◌, ◌-◌, List, [], ◌∷◌, ◌++◌, length, take, map, Bool, ◌&&◌, ◌==◌, nat_lt, nat_le, Option, Some, None, Result, Ok, Err, if◌then◌else◌}
use Rattle.std.specs.Int.{w8, w16}
use Rattle.std.specs.Option.{option_map_or}
use Rattle.nr_base.specs.Reader.{◌>>=◌, pure, refuse, choose, from, with_fault, times, onto, whole}
use Rattle.nr_base.specs.Bytes.{number_at}
use Rattle.nr_base.specs.DescReading.{method_of}
use Rattle.nr_base.specs.declared.desc.fault.DescFault.{DescFault}
use Rattle.nr_base.specs.declared.desc.types.Desc.{Desc}
use Rattle.nr_base.specs.declared.desc.types.MethodDesc.{MethodDesc}
use Rattle.nr_prog.specs.declared.pool.PoolEntry.{PoolEntry}
use Rattle.nr_prog.specs.declared.member.Method.{Method}
use Rattle.nr_prog.specs.declared.parts.ClassParts.{ClassParts}
use Rattle.nr_prog.specs.declared.body.instruction.Instr.{Instr}
use Rattle.nr_prog.specs.declared.body.frame_map.FrameMap.{FrameMap}
use Rattle.nr_prog.specs.declared.body.frame_map.MapType.{MapType}
use Rattle.nr_prog.specs.declared.body.frame_map.MapType.TheVariants as types
use Rattle.nr_prog.specs.Pool.{text_at}
use Rattle.nr_prog.specs.Members.{is_static}
use Rattle.nr_prog.specs.BodyStarts.{is_start, is_new}
use Rattle.nr_prog.specs.BodyMaps.{Mapped, is_frame_tag, dropped, has_one_operand, with_map, at_entry, type_of, this_type}
use Rattle.nr_instrs.specs.declared.fault.CodeFault.{CodeFault}
use Rattle.nr_instrs.specs.declared.fault.CodeFault.TheVariants as faults
use Rattle.nr_instrs.specs.Faults.{of_short}
use Rattle.nr_instrs.specs.Numbers.{Read}
use Rattle.nr_instrs.specs.NameTests.{class_desc_at}

unfoldable pub u1_at : Read ℕ
u1_at = with_fault of_short (number_at w8)

unfoldable pub u2_at : Read ℕ
u2_at = with_fault of_short (number_at w16)

-- ---- types, whose tag stands at `at`

unfoldable pub class_given : ℕ → Option Desc → Read MapType
class_given at None = refuse (faults.MapTag at)
class_given at (Some d) = pure (types.Object d)

unfoldable pub class_type_at : List PoolEntry → ℕ → Read MapType
class_type_at pool at = u2_at >>= λ index. class_given at (class_desc_at pool index)

unfoldable pub uninit_at : List Instr → ℕ → Read MapType
uninit_at is at = u2_at >>= λ offset. choose (is_new is offset) (pure (types.Uninit offset)) (refuse (faults.MapTag at))

unfoldable pub type_by_at : List PoolEntry → List Instr → ℕ → ℕ → Read MapType
type_by_at pool is at tag =
    choose (tag == 0) (pure types.Top)
    (choose (tag == 1) (pure types.Int)
    (choose (tag == 4) (pure types.Long)
    (choose (tag == 5) (pure types.Null)
    (choose (tag == 6) (pure types.UninitThis)
    (choose (tag == 7) (class_type_at pool at)
    (choose (tag == 8) (uninit_at is at)
    (refuse (faults.MapTag at))))))))

unfoldable pub map_type_at : List PoolEntry → List Instr → Read MapType
map_type_at pool is = from (λ at. u1_at >>= λ tag. type_by_at pool is at tag)

unfoldable pub map_types_at : List PoolEntry → List Instr → ℕ → Read (List MapType)
map_types_at pool is k = times (onto (map_type_at pool is)) k []

unfoldable pub counted_types_at : List PoolEntry → List Instr → Read (List MapType)
counted_types_at pool is = u2_at >>= λ count. map_types_at pool is count

-- ---- frames

unfoldable pub delta_at : ℕ → Read ℕ
delta_at tag = choose (nat_lt tag 64) (pure tag) (choose (nat_lt tag 128) (pure (tag - 64)) u2_at)

unfoldable pub full_at : List PoolEntry → List Instr → Read (List MapType × List MapType)
full_at pool is = do
  all ← counted_types_at pool is
  stack ← counted_types_at pool is
  pure (all, stack)

unfoldable pub frame_types_at : List PoolEntry → List Instr → ℕ → List MapType → Read (List MapType × List MapType)
frame_types_at pool is tag locals =
    choose (has_one_operand tag) (map_type_at pool is >>= λ t. pure (locals, t ∷ []))
    (choose (tag == 255) (full_at pool is)
    (choose (nat_le 252 tag) (map_types_at pool is (tag - 251) >>= λ more. pure (locals ++ more, []))
    (pure (take (length locals - dropped tag) locals, []))))

-- whether an instruction starts at the offset, which is one of code
unfoldable pub starts_at : List Instr → ℕ → Bool
starts_at is at = nat_lt at 65536 && is_start is at

-- a frame map whose tag stands at `at`, for this offset in the code
unfoldable pub placed_at : List PoolEntry → List Instr → List MapType → List FrameMap → ℕ → ℕ → ℕ → Read Mapped
placed_at pool is locals maps at tag offset =
    choose (starts_at is offset) (frame_types_at pool is tag locals >>= λ f. pure (with_map maps offset f)) (refuse (faults.MapOrder at))

unfoldable pub frame_at : List PoolEntry → List Instr → Mapped → Read Mapped
frame_at pool is s = from (λ at. do
  tag ← u1_at
  choose (is_frame_tag tag && nat_le (dropped tag) (length s.locals))
      (delta_at tag >>= λ d. placed_at pool is s.locals s.maps at tag (s.next + d))
      (refuse (faults.MapTag at)))

unfoldable pub frames_at : List PoolEntry → List Instr → List MapType → Read Mapped
frames_at pool is locals = u2_at >>= λ count. times (frame_at pool is) count (at_entry locals)

-- the maps in the contents of a StackMapTable
abbrev pub frames_of : List PoolEntry → List Instr → List MapType → List ℕ → Result Mapped CodeFault
frames_of pool is locals = whole faults.MapTag (frames_at pool is locals)

abbrev pub maps_in : Result Mapped CodeFault → Result (List FrameMap) CodeFault
maps_in (Ok s) = Ok s.maps
maps_in (Err e) = Err e

-- ---- the frame at a method's entry

abbrev pub types_of : Result MethodDesc DescFault → List MapType
types_of (Ok m) = map type_of m.params
types_of (Err e) = []

unfoldable pub params_of : ClassParts → Method → List MapType
params_of c m = option_map_or (λ text. types_of (method_of text)) (text_at c.pool m.desc) []

unfoldable pub receiver_of : ClassParts → Method → List MapType
receiver_of c m = if is_static m.flags then [] else option_map_or (λ d. this_type c m d ∷ []) (class_desc_at c.pool c.this_class) []

unfoldable pub entry_of : ClassParts → Method → List MapType
entry_of c m = receiver_of c m ++ params_of c m
