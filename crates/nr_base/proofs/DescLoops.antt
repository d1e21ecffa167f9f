-- The loops of the readers of descriptors.
use Rattle.std.proofs.Common.{◌≡◌, ℕ, zero, suc, ◌-◌, ◌+◌, ◌≤◌, Bool, true, false, List, Result, Ok, Err, refl, sym, ap, ◌∙◌, arith}
use Rattle.std.proofs.lemmas.Bool.{ne_eqb}
use Rattle.nr_base.specs.Place.{Place, at_of}
use Rattle.nr_base.specs.Reader.{Reader, after, bind, pure, refuse, choose, from, while_more}
use Rattle.nr_base.specs.Clauses.{Fails}
use Rattle.nr_base.specs.DescReading.{is_free, byte_at, class_letter_at, base_at, type_at, param_at}
use Rattle.nr_base.specs.declared.desc.fault.DescFault.{DescFault}
use Rattle.nr_base.specs.declared.desc.fault.DescFault.TheVariants as faults
use Rattle.nr_base.specs.declared.desc.types.Desc.{Desc}
use Rattle.nr_base.specs.declared.desc.types.DescBase.{DescBase}
use Rattle.nr_base.proofs.Exits.{fails_on}
use Rattle.nr_base.proofs.While.{goes_on_while, ends_while, stops_while, fails_while}
use Rattle.nr_base.proofs.DescTakes.{class_letter_takes, param_takes}

pub class_goes_on : (s t more : Bool) (p q : Place) (total : Result (Bool × Place) DescFault) → more ≡ true → class_letter_at s p ≡ Ok ((more, t), q) → while_more class_letter_at s p ≡ total → while_more class_letter_at t q ≡ total
class_goes_on s t more p q total is e so_far = goes_on_while class_letter_at class_letter_takes s t p q total more is e so_far

pub class_ends : (s t more : Bool) (p q : Place) (total : Result (Bool × Place) DescFault) → more ≡ false → class_letter_at s p ≡ Ok ((more, t), q) → while_more class_letter_at s p ≡ total → total ≡ Ok (t, q)
class_ends s t more p q total is e so_far = ends_while class_letter_at s t p q total more is e so_far

pub class_stops : (s : Bool) (p : Place) (d : DescFault) (total : Result (Bool × Place) DescFault) → class_letter_at s p ≡ Err d → while_more class_letter_at s p ≡ total → total ≡ Err d
class_stops s p d total e so_far = stops_while class_letter_at s p d total e so_far

pub params_go_on : (s t : List Desc) (more : Bool) (p q : Place) (total : Result (List Desc × Place) DescFault) → more ≡ true → param_at s p ≡ Ok ((more, t), q) → while_more param_at s p ≡ total → while_more param_at t q ≡ total
params_go_on s t more p q total is e so_far = goes_on_while param_at param_takes s t p q total more is e so_far

pub params_end : (s t : List Desc) (more : Bool) (p q : Place) (total : Result (List Desc × Place) DescFault) → more ≡ false → param_at s p ≡ Ok ((more, t), q) → while_more param_at s p ≡ total → total ≡ Ok (t, q)
params_end s t more p q total is e so_far = ends_while param_at s t p q total more is e so_far

pub params_fail : (s : List Desc) (p : Place) (d : DescFault) (total : Result (List Desc × Place) DescFault) → Fails is_free d (param_at s p) → while_more param_at s p ≡ total → Fails is_free d total
params_fail s p d total f so_far = fails_while is_free param_at s p d total f so_far

-- ---- the dimensions, of which dims were read

deeper : (k at letter : ℕ) (p : Place) → letter ≡ 0x5B → type_at (suc k) at letter p ≡ after (byte_at p) (λ l. type_at k (at_of p) l)
unfolding type_at choose from bind
deeper k at letter p e = rw e refl

too_deep : (at letter : ℕ) (p : Place) → letter ≡ 0x5B → type_at 0 at letter p ≡ Err (faults.BadDesc at)
unfolding type_at choose refuse
too_deep at letter p e = rw e refl

abbrev typed : ℕ → DescBase → Reader DescFault Desc
typed dims base q = Ok (record { dims = dims; base = base }, q)

based : (left at letter : ℕ) (p : Place) → (letter ≡ 0x5B → ⊥) → type_at left at letter p ≡ after (base_at at letter p) (typed (255 - left))
unfolding type_at choose bind pure
based zero at letter p ne = rw (ne_eqb letter 0x5B ne) refl
based (suc k) at letter p ne = rw (ne_eqb letter 0x5B ne) refl

pub dims_go_on : (dims at letter next l : ℕ) (p q : Place) (total : Result (Desc × Place) DescFault) → (dims ≡ 255 → ⊥) → dims ≤ 255 → letter ≡ 0x5B → next ≡ at_of p → byte_at p ≡ Ok (l, q) → type_at (255 - dims) at letter p ≡ total → type_at (255 - (dims + 1)) next l q ≡ total
dims_go_on dims at letter next l p q total ne le is here e so_far =
    let k : 255 - dims ≡ suc (255 - (dims + 1)) = omega arith in
    ap (λ z. type_at (255 - (dims + 1)) z l q) here ∙ sym (ap (λ z. type_at z at letter p) k ∙ deeper (255 - (dims + 1)) at letter p is ∙ ap (λ r. after r (λ l. type_at (255 - (dims + 1)) (at_of p) l)) e) ∙ so_far

pub dims_stop : (dims at letter : ℕ) (p : Place) (d : DescFault) (total : Result (Desc × Place) DescFault) → (dims ≡ 255 → ⊥) → dims ≤ 255 → letter ≡ 0x5B → byte_at p ≡ Err d → type_at (255 - dims) at letter p ≡ total → total ≡ Err d
dims_stop dims at letter p d total ne le is e so_far =
    let k : 255 - dims ≡ suc (255 - (dims + 1)) = omega arith in
    sym so_far ∙ ap (λ z. type_at z at letter p) k ∙ deeper (255 - (dims + 1)) at letter p is ∙ ap (λ r. after r (λ l. type_at (255 - (dims + 1)) (at_of p) l)) e

pub dims_too_many : (dims at letter : ℕ) (p : Place) (total : Result (Desc × Place) DescFault) → dims ≡ 255 → letter ≡ 0x5B → type_at (255 - dims) at letter p ≡ total → total ≡ Err (faults.BadDesc at)
dims_too_many dims at letter p total full is so_far =
    let k : 255 - dims ≡ 0 = omega arith in
    sym so_far ∙ ap (λ z. type_at z at letter p) k ∙ too_deep at letter p is

pub dims_end : (dims at letter : ℕ) (base : DescBase) (p q : Place) (total : Result (Desc × Place) DescFault) → dims ≤ 255 → (letter ≡ 0x5B → ⊥) → base_at at letter p ≡ Ok (base, q) → type_at (255 - dims) at letter p ≡ total → total ≡ Ok (record { dims = dims; base = base }, q)
dims_end dims at letter base p q total le ne e so_far =
    let k : 255 - (255 - dims) ≡ dims = omega arith in
    sym so_far ∙ based (255 - dims) at letter p ne ∙ ap (λ r. after r (typed (255 - (255 - dims)))) e ∙ ap (λ z. Ok (record { dims = z; base = base }, q)) k

base_stops : (dims at letter : ℕ) (p : Place) (d : DescFault) (total : Result (Desc × Place) DescFault) → (letter ≡ 0x5B → ⊥) → base_at at letter p ≡ Err d → type_at (255 - dims) at letter p ≡ total → total ≡ Err d
base_stops dims at letter p d total ne e so_far = sym so_far ∙ based (255 - dims) at letter p ne ∙ ap (λ r. after r (typed (255 - (255 - dims)))) e

pub base_fails : (dims at letter : ℕ) (p : Place) (d : DescFault) (total : Result (Desc × Place) DescFault) → (letter ≡ 0x5B → ⊥) → Fails is_free d (base_at at letter p) → type_at (255 - dims) at letter p ≡ total → Fails is_free d total
base_fails dims at letter p d total ne f so_far = fails_on is_free d (base_at at letter p) total (λ e. base_stops dims at letter p d total ne e so_far) f
