-- Instructions that are decoded are those that the bytes spell, in order and with their targets, and those that bytes spell are decoded.
use Rattle.std.proofs.Common.{◌≡◌, ℕ, ◌+◌, ◌<◌, ◌^◌, true, eqb, List, [], ◌∷◌, ◌++◌, map, length, Result, Ok, Err, refl, sym, ap, subst, ◌∙◌, arith}
use Rattle.std.specs.Prelude.{IfOk}
use Rattle.std.proofs.Common.{inl, inr}
use Rattle.std.specs.List.{All, AllByRecursion, list_any}
use Rattle.std.proofs.lemmas.Bool.{eqb-true}
use Rattle.std.proofs.lemmas.List.{length-append}
use Rattle.std.proofs.lemmas.List.Elements.{All-nil, All-cons, All-head, All-tail}
use Rattle.nr_base.specs.Place.{Place, start_of}
use Rattle.nr_base.specs.Reader.{onto, to_end}
use Rattle.nr_base.specs.Grammar.{IsBytes}
use Rattle.nr_base.specs.Clauses.{GivesWhole}
use Rattle.nr_prog.specs.declared.pool.PoolEntry.{PoolEntry}
use Rattle.nr_prog.specs.declared.body.instruction.Instr.{Instr}
use Rattle.nr_prog.specs.Pool.{IsText}
use Rattle.nr_prog.specs.BodyStarts.{is_start, targets_of}
use Rattle.nr_prog.specs.BodyText.{instrs, HasTargets}
use Rattle.nr_instrs.specs.declared.raw.RawInstr.{RawInstr}
use Rattle.nr_instrs.specs.declared.fault.CodeFault.{CodeFault}
use Rattle.nr_instrs.specs.Faults.{is_free}
use Rattle.nr_instrs.specs.InstrReading.{instr_at}
use Rattle.nr_instrs.specs.Checks.{starts_of, settled, settled_all}
use Rattle.nr_instrs.specs.Decoding.{read_of, raws_of, instrs_of}
use Rattle.nr_instrs.proofs.Facts.{or_is}
use Rattle.nr_instrs.proofs.Advances.{instr_moves}
use Rattle.nr_instrs.proofs.Raws.{raw_instr, instr_from, instr_law}
use Rattle.nr_instrs.proofs.Texts.{args_of}
use Rattle.nr_instrs.proofs.Settling.{Maps, then_ok, then_gives, walked, walks, AllIn, AreBelow}
use Rattle.nr_instrs.proofs.ToEnd.{EachAt, ReadsAt, to_end_found, to_end_only}
use Rattle.nr_prog.specs.Offsets.{IsInOrder}
use Rattle.nr_prog.proofs.Offsets.{spelled_in_order}
use Rattle.nr_instrs.specs.Orders.{AreInOrder}
use Rattle.nr_instrs.proofs.Orders.{ascends}
use Rattle.nr_instrs.proofs.Instrs.{raw_placed, made_of, starts_in, start_is, to_all, of_all, all_found, all_read, all_settle}

-- ---- instructions as they are read

reads_at : (pool : List PoolEntry) → All IsText pool → ReadsAt (instr_from pool) (raw_instr pool)
unfolding instr_at
reads_at pool all = record { each = λ at. instr_law pool at all; takes = (instr_moves pool).takes }

read_ok : (r : Result (List RawInstr × Place) CodeFault) (raws : List RawInstr) → read_of r ≡ Ok raws → (q : Place) × (r ≡ Ok (raws, q))
read_ok (Ok x) raws e = let is : x.0 ≡ raws = cc in (x.1, ap (λ z. Ok (z, x.1)) is)
read_ok (Err d) raws e = absurd cc

raws_are : (pool : List PoolEntry) (bytes : List ℕ) (raws : List RawInstr) → All IsText pool → IsBytes bytes → raws_of pool bytes ≡ Ok raws → EachAt (raw_instr pool) 0 raws bytes
unfolding raws_of instr_at
raws_are pool bytes raws all fits e =
    let r = read_ok (to_end (onto (instr_at pool)) [] (start_of bytes)) raws e in
    to_end_found (reads_at pool all) raws bytes r.0 fits r.1

raws_give : (pool : List PoolEntry) (bytes : List ℕ) (raws : List RawInstr) → All IsText pool → EachAt (raw_instr pool) 0 raws bytes → raws_of pool bytes ≡ Ok raws
unfolding raws_of instr_at
raws_give pool bytes raws all g = ap read_of (to_end_only (reads_at pool all) raws bytes g)

-- ---- where instructions start

start_below : (pool : List PoolEntry) (at : ℕ) (is : List Instr) (text : List ℕ) (t : ℕ) → instrs pool at is text → is_start is t ≡ true → t < at + length text
unfolding is_start
start_below pool at [] text t g e = absurd cc
start_below pool at (i ∷ is) text t g e =
    let whole : length text ≡ length (g.0 ++ g.1) = ap length g.4 in
    let parts = length-append g.0 g.1 in
    let front : length g.0 ≡ length (i.row.code ∷ g.2.spelled.0) = ap length g.2.spelled.1 in
    elim (or_is (eqb i.at t) (list_any (λ j. eqb j.at t) is) (λ h. h) (λ h. h) e) [
      | inl h ↦ omega (arith, whole, parts, front, eqb-true i.at t h, g.2.placed)
      | inr h ↦ omega (arith, whole, parts, start_below pool (at + length g.0) is g.1 t g.3 h)
    ]

pub starts_below : (pool : List PoolEntry) (is : List Instr) (bytes : List ℕ) → length bytes < 2 ^ 16 → instrs pool 0 is bytes → (t : ℕ) → is_start is t ≡ true → t < 2 ^ 16
starts_below pool is bytes len g t e = omega (arith, len, start_below pool 0 is bytes t g e)

-- ---- instructions with their targets

has_all : (is ks : List Instr) (starts : List ℕ) → starts ≡ starts_in is → AllByRecursion (λ (i : Instr). AllIn starts (targets_of i.args)) ks → All (HasTargets is) ks
has_all is [] starts e h = All-nil (HasTargets is)
has_all is (k ∷ ks) starts e h = All-cons (HasTargets is) k ks (to_all is starts (targets_of k.args) e h.0) (has_all is ks starts e h.1)

pub instrs_are : (pool : List PoolEntry) (bytes : List ℕ) (is : List Instr) → All IsText pool → IsBytes bytes → instrs_of pool bytes ≡ Ok is → instrs pool 0 is bytes × All (HasTargets is) is
unfolding instrs_of settled_all
instrs_are pool bytes is all fits e =
    let r = then_ok (raws_of pool bytes) settled_all is e in
    let w = walked (settled (starts_of r.value)) r.value [] is r.gave in
    let m : Maps (settled (starts_of r.value)) r.value is = subst (Maps (settled (starts_of r.value)) r.value) (sym w.joined) w.each in
    let f = all_found pool (starts_of r.value) 0 r.value is bytes (raws_are pool bytes r.value all fits r.was) m in
    (f.spelled, has_all is is (starts_of r.value) f.same f.all)

starts_made : (raws : List RawInstr) → starts_of raws ≡ starts_in (map made_of raws)
starts_made [] = refl
starts_made (i ∷ raws) = ap (λ s. i.at ∷ s) (starts_made raws)

all_made : (is : List Instr) (starts : List ℕ) (raws : List RawInstr) → starts ≡ starts_in is → All (HasTargets is) (map made_of raws) → AllByRecursion (λ (i : RawInstr). AllIn starts (targets_of (args_of i.operands))) raws
all_made is starts [] e h = tt
all_made is starts (i ∷ raws) e h =
    (of_all is starts (targets_of (args_of i.operands)) e (All-head (HasTargets is) (made_of i) (map made_of raws) h), all_made is starts raws e (All-tail (HasTargets is) (made_of i) (map made_of raws) h))

pub instrs_give : (pool : List PoolEntry) (bytes : List ℕ) (is : List Instr) → All IsText pool → length bytes < 2 ^ 16 → instrs pool 0 is bytes → All (HasTargets is) is → instrs_of pool bytes ≡ Ok is
unfolding instrs_of settled_all
instrs_give pool bytes is all len g targets =
    let r = all_read pool 0 is bytes g in
    let starts = starts_of r.raws in
    let same : starts_of r.raws ≡ starts_in is = starts_made r.raws ∙ ap starts_in (sym r.are) in
    let below : AreBelow (starts_of r.raws) = λ t h. starts_below pool is bytes len g t (sym (start_is is (starts_of r.raws) t same) ∙ h) in
    let made = all_made is (starts_of r.raws) r.raws same (subst (All (HasTargets is)) r.are targets) in
    let m = all_settle (starts_of r.raws) r.raws below r.is_pos made in
    then_gives (raws_of pool bytes) settled_all r.raws is (raws_give pool bytes r.raws all r.spelled)
    (walks (settled (starts_of r.raws)) r.raws [] (map made_of r.raws) m ∙ ap (λ z. Ok z) (sym r.are))

pub raws_in_order : (pool : List PoolEntry) (bytes : List ℕ) (raws : List RawInstr) → All IsText pool → IsBytes bytes → raws_of pool bytes ≡ Ok raws → AreInOrder raws
raws_in_order pool bytes raws all fits e = ascends (λ (i : RawInstr). i.at) (raw_instr pool) (raw_placed pool) 0 raws bytes (raws_are pool bytes raws all fits e)

pub decoded_are : (pool : List PoolEntry) (bytes : List ℕ) (r : Result (List Instr) CodeFault) → All IsText pool → IsBytes bytes → GivesWhole is_free r (instrs_of pool bytes) → IfOk r (λ is. instrs pool 0 is bytes × All (HasTargets is) is)
decoded_are pool bytes (Ok is) all fits e = instrs_are pool bytes is all fits e
decoded_are pool bytes (Err d) all fits e = tt

pub decoded_in_order : (pool : List PoolEntry) (bytes : List ℕ) (r : Result (List Instr) CodeFault) → All IsText pool → IsBytes bytes → GivesWhole is_free r (instrs_of pool bytes) → IfOk r IsInOrder
decoded_in_order pool bytes (Ok is) all fits e = spelled_in_order pool is bytes (instrs_are pool bytes is all fits e).0
decoded_in_order pool bytes (Err d) all fits e = tt

pub decoded_give : (pool : List PoolEntry) (bytes : List ℕ) (r : Result (List Instr) CodeFault) (is : List Instr) → All IsText pool → length bytes < 2 ^ 16 → GivesWhole is_free r (instrs_of pool bytes) → instrs pool 0 is bytes → All (HasTargets is) is → GivesWhole is_free r (Ok is)
decoded_give pool bytes r is all len e g targets = subst (GivesWhole is_free r) (instrs_give pool bytes is all len g targets) e
