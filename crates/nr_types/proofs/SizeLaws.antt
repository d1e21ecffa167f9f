-- How many places types take.
use Rattle.std.proofs.Common.{◌≡◌, ◌+◌, ◌*◌, ◌≤◌, List, [], ◌∷◌, ◌++◌, length, reverse, refl, ap, arith}
use Rattle.std.proofs.lemmas.List.{reverse-append}
use Rattle.nr_linked.specs.declared.program.types.VType.{VType}
use Rattle.nr_linked.specs.declared.program.types.VType.TheVariants.{Long}
use Rattle.nr_linked.specs.TypingFrames.{size_of, total_size}

pub small : (t : VType) → size_of t ≤ 2
small Long = omega arith
small _ = omega arith

pub few : (ts : List VType) → total_size ts ≤ 2 * length ts
few [] = omega arith
few (t ∷ ts) = omega (arith, small t, few ts)

joined_size : (ts us : List VType) → total_size (ts ++ us) ≡ total_size ts + total_size us
joined_size [] us = omega arith
joined_size (t ∷ ts) us = let e = joined_size ts us in omega arith

pub reversed_size : (ts : List VType) → total_size (reverse ts) ≡ total_size ts
reversed_size [] = refl
reversed_size (t ∷ ts) =
    let back = ap total_size (reverse-append (t ∷ []) ts) in
    let parts = joined_size (reverse ts) (t ∷ []) in
    let e = reversed_size ts in
    omega arith
