-- The readers of descriptors use up bytes.
use Rattle.std.proofs.Common.{◌≡◌, ℕ, zero, suc, ◌<◌, Bool, false, eqb, List, [], length, Ok, arith}
use Rattle.std.specs.Prelude.{◌||◌}
use Rattle.std.specs.Int.{w8}
use Rattle.nr_base.specs.Place.{Place}
use Rattle.nr_base.specs.LegalNames.{is_reserved}
use Rattle.nr_base.specs.DescReading.{of_short, of_name, byte_at, letter_at, class_letter_at, class_at, base_at, type_at, param_at, params_at}
use Rattle.nr_base.specs.declared.desc.types.Desc.{Desc}
use Rattle.nr_base.proofs.Takes.{TakesAll, pure_takes, refuse_takes, bind_takes, choose_takes, fewer_takes, from_takes, with_fault_takes, number_takes, spanned_takes, while_takes}
use Rattle.nr_base.proofs.NameLaws.{unit_takes}

pub byte_takes : TakesAll 1 byte_at
unfolding byte_at
byte_takes = with_fault_takes 1 of_short (number_takes w8)

letter_takes : TakesAll 1 letter_at
unfolding letter_at
letter_takes = with_fault_takes 1 of_name unit_takes

pub class_letter_takes : (begun : Bool) → TakesAll 1 (class_letter_at begun)
unfolding class_letter_at
class_letter_takes begun = from_takes 1 (λ at. bind_takes 1 0 letter_takes (λ letter.
    choose_takes 0 (eqb letter 0x3B) (choose_takes 0 begun (pure_takes _) (refuse_takes 0 _))
    (choose_takes 0 (eqb letter 0x2F) (choose_takes 0 begun (pure_takes _) (refuse_takes 0 _))
    (choose_takes 0 (is_reserved letter) (refuse_takes 0 _) (pure_takes _)))))

class_takes : TakesAll 1 class_at
unfolding class_at
class_takes = bind_takes 1 0 (spanned_takes 1 (while_takes class_letter_at class_letter_takes false)) (λ text. pure_takes _)

pub base_takes : (at letter : ℕ) → TakesAll 0 (base_at at letter)
unfolding base_at
base_takes at letter =
    choose_takes 0 (eqb letter 0x5A) (pure_takes _)
    (choose_takes 0 (eqb letter 0x42) (pure_takes _)
    (choose_takes 0 (eqb letter 0x43) (pure_takes _)
    (choose_takes 0 (eqb letter 0x53) (pure_takes _)
    (choose_takes 0 (eqb letter 0x49) (pure_takes _)
    (choose_takes 0 (eqb letter 0x4A) (pure_takes _)
    (choose_takes 0 (eqb letter 0x4C) (fewer_takes 1 0 (omega arith) (bind_takes 1 0 class_takes (λ name. pure_takes _)))
    (choose_takes 0 (eqb letter 0x46 || eqb letter 0x44) (refuse_takes 0 _) (refuse_takes 0 _))))))))

pub type_takes : (left at letter : ℕ) → TakesAll 0 (type_at left at letter)
unfolding type_at
type_takes zero at letter = choose_takes 0 (eqb letter 0x5B) (refuse_takes 0 _) (bind_takes 0 0 (base_takes at letter) (λ base. pure_takes _))
type_takes (suc k) at letter = choose_takes 0 (eqb letter 0x5B)
    (from_takes 0 (λ next. fewer_takes 1 0 (omega arith) (bind_takes 1 0 byte_takes (λ l. type_takes k next l))))
    (bind_takes 0 0 (base_takes at letter) (λ base. pure_takes _))

pub param_takes : (params : List Desc) → TakesAll 1 (param_at params)
unfolding param_at
param_takes params = from_takes 1 (λ at. bind_takes 1 0 byte_takes (λ letter.
    choose_takes 0 (eqb letter 0x29) (pure_takes _) (bind_takes 0 0 (type_takes 255 at letter) (λ d. pure_takes _))))

-- ---- as the loops and the calls need it

pub byte_shorter : (p q : Place) (b : ℕ) → byte_at p ≡ Ok (b, q) → length q.rest < length p.rest
byte_shorter p q b e = omega (arith, byte_takes.takes p q b e)

pub letter_shorter : (begun : Bool) (p q : Place) (x : Bool × Bool) → class_letter_at begun p ≡ Ok (x, q) → length q.rest < length p.rest
letter_shorter begun p q x e = omega (arith, (class_letter_takes begun).takes p q x e)

pub param_shorter : (params : List Desc) (p q : Place) (x : Bool × List Desc) → param_at params p ≡ Ok (x, q) → length q.rest < length p.rest
param_shorter params p q x e = omega (arith, (param_takes params).takes p q x e)

pub params_shorter : (p q : Place) (x : List Desc) → params_at p ≡ Ok (x, q) → length q.rest < length p.rest
unfolding params_at
params_shorter p q x e = omega (arith, (while_takes param_at param_takes []).takes p q x e)
