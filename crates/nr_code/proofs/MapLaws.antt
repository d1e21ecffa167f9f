-- The laws of frame maps.
use Rattle.std.proofs.Common.{◌≡◌, ℕ, suc, ◌+◌, ◌-◌, ◌<◌, true, ◌&&◌, ltb, leb, eqb, List, [], ◌∷◌, ◌++◌, take, length, IsTrue}
use Rattle.std.specs.Int.{w8, w16}
use Rattle.std.specs.List.{All}
use Rattle.std.proofs.lemmas.Bool.{le-leb}
use Rattle.nr_base.specs.Grammar.{number, give, Then}
use Rattle.nr_base.proofs.ClassNames.{both_true, and_true}
use Rattle.nr_base.proofs.Laws.{Reads, give_law, none_law, then_law, pick_law, from_law, with_fault_law, times_law}
use Rattle.nr_base.proofs.Lists.{each_law}
use Rattle.nr_base.proofs.Numbers.{u8_law, u16_law}
use Rattle.nr_prog.specs.declared.pool.PoolEntry.{PoolEntry}
use Rattle.nr_prog.specs.declared.body.instruction.Instr.{Instr}
use Rattle.nr_prog.specs.declared.body.frame_map.MapType.{MapType}
use Rattle.nr_prog.specs.declared.body.frame_map.MapType.TheVariants as types
use Rattle.nr_prog.specs.declared.body.frame_map.FrameMap.{FrameMap}
use Rattle.nr_prog.specs.Pool.{IsText}
use Rattle.nr_prog.specs.BodyOperands.{when}
use Rattle.nr_prog.specs.BodyStarts.{is_start, is_new}
use Rattle.nr_prog.specs.BodyMaps.{class_type, type_by, map_type, map_types, counted_types, is_frame_tag, dropped, delta, has_one_operand, frame_types, Mapped, with_map, frame, at_entry, frames}
use Rattle.nr_instrs.specs.Faults.{of_short}
use Rattle.nr_code.specs.MapReading.{u1_at, u2_at, class_type_at, uninit_at, type_by_at, map_type_at, map_types_at, counted_types_at, delta_at, full_at, frame_types_at, starts_at, placed_at, frame_at, frames_at}
use Rattle.nr_instrs.proofs.Facts.{Decides, both, at_most}
use Rattle.nr_instrs.proofs.OperandLaws.{guard_law, is_true}
use Rattle.nr_code.proofs.Classes.{class_type_law}

one_law : Reads u1_at (number w8)
unfolding u1_at
one_law = with_fault_law of_short u8_law

two_law : Reads u2_at (number w16)
unfolding u2_at
two_law = with_fault_law of_short u16_law

object_law : (pool : List PoolEntry) (at : ℕ) → All IsText pool → Reads (class_type_at pool at) (Then (number w16) (λ index. class_type pool index))
unfolding class_type_at
object_law pool at all = then_law two_law (λ index. class_type_law pool at index all)

uninit_law : (is : List Instr) (at : ℕ) → Reads (uninit_at is at) (Then (number w16) (λ offset. when (IsTrue (is_new is offset)) (give (types.Uninit offset))))
unfolding uninit_at
uninit_law is at = then_law two_law (λ offset. guard_law (is_new is offset) _ (is_true _) (give_law (types.Uninit offset)))

type_by_law : (pool : List PoolEntry) (is : List Instr) (at tag : ℕ) → All IsText pool → Reads (type_by_at pool is at tag) (type_by pool is tag)
unfolding type_by_at
type_by_law pool is at tag all =
    pick_law (eqb tag 0) (give_law types.Top)
    (pick_law (eqb tag 1) (give_law types.Int)
    (pick_law (eqb tag 4) (give_law types.Long)
    (pick_law (eqb tag 5) (give_law types.Null)
    (pick_law (eqb tag 6) (give_law types.UninitThis)
    (pick_law (eqb tag 7) (object_law pool at all)
    (pick_law (eqb tag 8) (uninit_law is at)
    (none_law _)))))))

map_type_law : (pool : List PoolEntry) (is : List Instr) → All IsText pool → Reads (map_type_at pool is) (map_type pool is)
unfolding map_type_at
map_type_law pool is all = from_law (λ at. then_law one_law (λ tag. type_by_law pool is at tag all))

map_types_law : (pool : List PoolEntry) (is : List Instr) (k : ℕ) → All IsText pool → Reads (map_types_at pool is k) (map_types pool is k)
unfolding map_types_at
map_types_law pool is k all = each_law (map_type_law pool is all) k

counted_law : (pool : List PoolEntry) (is : List Instr) → All IsText pool → Reads (counted_types_at pool is) (counted_types pool is)
unfolding counted_types_at
counted_law pool is all = then_law two_law (λ count. map_types_law pool is count all)

delta_law : (tag : ℕ) → Reads (delta_at tag) (delta tag)
unfolding delta_at
delta_law tag = pick_law (ltb tag 64) (give_law tag) (pick_law (ltb tag 128) (give_law (tag - 64)) two_law)

full_law : (pool : List PoolEntry) (is : List Instr) → All IsText pool → Reads (full_at pool is) (Then (counted_types pool is) (λ locals. Then (counted_types pool is) (λ stack. give (locals, stack))))
unfolding full_at
full_law pool is all = then_law (counted_law pool is all) (λ locals. then_law (counted_law pool is all) (λ stack. give_law (locals, stack)))

frame_types_law : (pool : List PoolEntry) (is : List Instr) (tag : ℕ) (locals : List MapType) → All IsText pool → Reads (frame_types_at pool is tag locals) (frame_types pool is tag locals)
unfolding frame_types_at
frame_types_law pool is tag locals all =
    pick_law (has_one_operand tag) (then_law (map_type_law pool is all) (λ t. give_law (locals, t ∷ [])))
    (pick_law (eqb tag 255) (full_law pool is all)
    (pick_law (leb 252 tag) (then_law (map_types_law pool is (tag - 251) all) (λ more. give_law (locals ++ more, [])))
    (give_law (take (length locals - dropped tag) locals, []))))

-- instructions start at offsets of code
abbrev pub StartBelow : List Instr → Type 0
StartBelow is = (t : ℕ) → is_start is t ≡ true → t < 65536

starts_decide : (is : List Instr) (at : ℕ) → StartBelow is → Decides (starts_at is at) (IsTrue (is_start is at))
unfolding starts_at
starts_decide is at below = record {
  is = λ e. (both_true (ltb at 65536) (is_start is at) e).1;
  of = λ h. and_true (ltb at 65536) (is_start is at) (le-leb (suc at) 65536 (below at h)) h;
}

placed_law : (pool : List PoolEntry) (is : List Instr) (locals : List MapType) (maps : List FrameMap) (at tag offset : ℕ) → All IsText pool → StartBelow is
    → Reads (placed_at pool is locals maps at tag offset) (when (IsTrue (is_start is offset)) (Then (frame_types pool is tag locals) (λ f. give (with_map maps offset f))))
unfolding placed_at
placed_law pool is locals maps at tag offset all below =
    guard_law (starts_at is offset) _ (starts_decide is offset below) (then_law (frame_types_law pool is tag locals all) (λ f. give_law (with_map maps offset f)))

frame_law : (pool : List PoolEntry) (is : List Instr) (s : Mapped) → All IsText pool → StartBelow is → Reads (frame_at pool is s) (frame pool is s)
unfolding frame_at
frame_law pool is s all below = from_law (λ at. then_law one_law (λ tag.
    guard_law (is_frame_tag tag && leb (dropped tag) (length s.locals)) _ (both (is_true (is_frame_tag tag)) (at_most (dropped tag) (length s.locals)))
    (then_law (delta_law tag) (λ d. placed_law pool is s.locals s.maps at tag (s.next + d) all below))))

pub frames_law : (pool : List PoolEntry) (is : List Instr) (locals : List MapType) → All IsText pool → StartBelow is → Reads (frames_at pool is locals) (frames pool is locals)
unfolding frames_at
frames_law pool is locals all below = then_law two_law (λ count. times_law (frame_at pool is) (frame pool is) (λ s. frame_law pool is s all below) count (at_entry locals))
