-- Lists whose items change one by one.
use Rattle.std.proofs.Common.{◌≡◌, ℕ, zero, suc, ◌+◌, ◌<◌, ◌≤◌, List, [], ◌∷◌, length, get_or, set, refl, ap, ◌∙◌, arith, add-one}
use Rattle.nr_linked.specs.declared.program.types.VType.{VType}
use Rattle.nr_linked.specs.TypingCalls.{initialised}
use Rattle.nr_linked.specs.TypingObjects.{forgotten}
use Rattle.nr_verify_ops.specs.InPlace.{one_forgotten, one_initialised}

-- the first n changed
abbrev pub changed : (VType → VType) → ℕ → List VType → List VType
changed f zero ts = ts
changed f (suc n) [] = []
changed f (suc n) (t ∷ ts) = f t ∷ changed f n ts

pub changed_length : (f : VType → VType) (n : ℕ) (ts : List VType) → length (changed f n ts) ≡ length ts
changed_length f zero ts = refl
changed_length f (suc n) [] = refl
changed_length f (suc n) (t ∷ ts) = let e = changed_length f n ts in omega (arith, e)

set_next : (f : VType → VType) (n : ℕ) (ts : List VType) (d : VType) → n < length ts → set (changed f n ts) n (f (get_or (changed f n ts) n d)) ≡ changed f (suc n) ts
set_next f n [] d l = absurd (omega arith)
set_next f zero (t ∷ ts) d l = refl
set_next f (suc n) (t ∷ ts) d l = ap (λ ts. f t ∷ ts) (set_next f n ts d (omega arith))

-- one more
pub changed_more : (f : VType → VType) (n : ℕ) (ts us : List VType) (d t : VType) → n < length us → us ≡ changed f n ts → t ≡ f (get_or us n d) → set us n t ≡ changed f (n + 1) ts
changed_more f n ts us d t l e v =
    let same = changed_length f n ts in
    let long : length us ≡ length (changed f n ts) = ap length e in
    rw add-one (ap (λ t. set us n t) v ∙ (ap (λ us. set us n (f (get_or us n d))) e ∙ set_next f n ts d (omega arith)))

pub all_initialised : (t : VType) (c n : ℕ) (us : List VType) → length us ≤ n → changed (one_initialised t c) n us ≡ initialised t c us
all_initialised t c zero [] l = refl
all_initialised t c (suc n) [] l = refl
all_initialised t c zero (u ∷ us) l = absurd (omega arith)
all_initialised t c (suc n) (u ∷ us) l = ap (λ us. one_initialised t c u ∷ us) (all_initialised t c n us (omega arith))

pub all_forgotten : (at n : ℕ) (ts : List VType) → length ts ≤ n → changed (one_forgotten at) n ts ≡ forgotten at ts
all_forgotten at zero [] l = refl
all_forgotten at (suc n) [] l = refl
all_forgotten at zero (t ∷ ts) l = absurd (omega arith)
all_forgotten at (suc n) (t ∷ ts) l = ap (λ ts. one_forgotten at t ∷ ts) (all_forgotten at n ts (omega arith))
