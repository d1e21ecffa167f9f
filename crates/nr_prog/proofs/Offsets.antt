-- What bytes of code spell stands in the order of its offsets.
use Rattle.std.proofs.Common.{◌≡◌, ℕ, zero, suc, ◌+◌, ◌<◌, List, [], ◌∷◌, length, get_or, ap, arith}
use Rattle.nr_prog.specs.declared.pool.PoolEntry.{PoolEntry}
use Rattle.nr_prog.specs.declared.body.instruction.Instr.{Instr}
use Rattle.nr_prog.specs.BodyText.{IsInstr, instrs}
use Rattle.nr_prog.specs.Offsets.{IsInOrder, RiseAbove, StandInOrder}

-- an instruction takes a byte or more
takes : (pool : List PoolEntry) (at : ℕ) (i : Instr) (text : List ℕ) → IsInstr pool at i text → 0 < length text
takes pool at i text g = let e : length text ≡ length (i.row.code ∷ g.spelled.0) = ap length g.spelled.1 in omega arith

pub spelled_rise : (pool : List PoolEntry) (n at : ℕ) (is : List Instr) (text : List ℕ) → n < at → instrs pool at is text → RiseAbove n is
spelled_rise pool n at [] text l g = tt
spelled_rise pool n at (i ∷ is) text l g =
    let e : i.at ≡ at = g.2.placed in
    let some : 0 < length g.0 = takes pool at i g.0 g.2 in
    (omega arith, spelled_rise pool i.at (at + length g.0) is g.1 (omega arith) g.3)

-- code of a byte or more spells instructions that stand in order
pub spelled_stand : (pool : List PoolEntry) (is : List Instr) (text : List ℕ) → 0 < length text → instrs pool 0 is text → StandInOrder is
spelled_stand pool [] text l g = let e : length text ≡ length {A = ℕ} [] = ap length g in absurd (omega arith)
spelled_stand pool (i ∷ is) text l g =
    let e : i.at ≡ 0 = g.2.placed in
    let some : 0 < length g.0 = takes pool 0 i g.0 g.2 in
    (e, spelled_rise pool i.at (0 + length g.0) is g.1 (omega arith) g.3)

-- ---- by index

above : (n : ℕ) (is : List Instr) → RiseAbove n is → (i : ℕ) (d : Instr) → i < length is → n < (get_or is i d).at
above n [] rise i d lt = absurd (omega arith)
above n (x ∷ is) rise zero d lt = rise.0
above n (x ∷ is) rise (suc i) d lt = let more = above x.at is rise.1 i d (omega arith) in let first = rise.0 in omega arith

pub rising_in_order : (n : ℕ) (is : List Instr) → RiseAbove n is → IsInOrder is
rising_in_order n [] rise i j d lt within = absurd (omega arith)
rising_in_order n (x ∷ is) rise i zero d lt within = absurd (omega arith)
rising_in_order n (x ∷ is) rise zero (suc j) d lt within = above x.at is rise.1 j d (omega arith)
rising_in_order n (x ∷ is) rise (suc i) (suc j) d lt within = rising_in_order x.at is rise.1 i j d (omega arith) (omega arith)

behind_first : (x : Instr) (is : List Instr) → RiseAbove x.at is → IsInOrder (x ∷ is)
behind_first x is rise i zero d lt within = absurd (omega arith)
behind_first x is rise zero (suc j) d lt within = above x.at is rise j d (omega arith)
behind_first x is rise (suc i) (suc j) d lt within = rising_in_order x.at is rise i j d (omega arith) (omega arith)

pub standing_in_order : (is : List Instr) → StandInOrder is → IsInOrder is
standing_in_order [] stand = absurd stand
standing_in_order (x ∷ is) stand = behind_first x is stand.1

pub spelled_in_order : (pool : List PoolEntry) (is : List Instr) (text : List ℕ) → instrs pool 0 is text → IsInOrder is
spelled_in_order pool [] text g = rising_in_order 0 [] tt
spelled_in_order pool (x ∷ is) text g =
    let some : 0 < length g.0 = takes pool 0 x g.0 g.2 in
    let e : x.at ≡ 0 = g.2.placed in
    behind_first x is (spelled_rise pool x.at (0 + length g.0) is g.1 (omega arith) g.3)
