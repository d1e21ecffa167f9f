-- Types in the places of local variables.
use Rattle.std.proofs.Common.{◌≡◌, List, [], ◌∷◌, refl, ap}
use Rattle.std.specs.List.{flat_map}
use Rattle.nr_linked.specs.declared.program.types.VType.{VType}
use Rattle.nr_linked.specs.declared.program.types.VType.TheVariants.{Top, Int, Long, Null, UninitThis, Uninit, Class}
use Rattle.nr_linked.specs.TypingFrames.{in_places}
use Rattle.nr_link.specs.Around.{places}

pub by_places : (ts : List VType) → flat_map places ts ≡ in_places ts
by_places [] = refl
by_places (Long ∷ ts) = ap (λ us. Long ∷ Top ∷ us) (by_places ts)
by_places (Top ∷ ts) = ap (λ us. Top ∷ us) (by_places ts)
by_places (Int ∷ ts) = ap (λ us. Int ∷ us) (by_places ts)
by_places (Null ∷ ts) = ap (λ us. Null ∷ us) (by_places ts)
by_places (UninitThis ∷ ts) = ap (λ us. UninitThis ∷ us) (by_places ts)
by_places (Uninit n ∷ ts) = ap (λ us. Uninit n ∷ us) (by_places ts)
by_places (Class k ∷ ts) = ap (λ us. Class k ∷ us) (by_places ts)
