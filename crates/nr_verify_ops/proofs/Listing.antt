-- Local variables of which only the first places are listed.
use Rattle.std.proofs.Common.{◌≡◌, ℕ, zero, suc, ◌≤◌, false, List, [], ◌∷◌, length, refl, sym, ap, ◌∙◌, arith}
use Rattle.std.specs.Prelude.{if◌then◌else◌}
use Rattle.nr_linked.specs.declared.program.types.VType.{VType}
use Rattle.nr_linked.specs.declared.program.types.VType.TheVariants.{Top, Long, UninitThis, Uninit, Class}
use Rattle.nr_linked.specs.Kinds.{class_kind}
use Rattle.nr_linked.specs.TypingCalls.{initialised, is_same_uninit}
use Rattle.nr_linked.specs.TypingFrames.{padded}
use Rattle.nr_linked.specs.TypingLocals.{local_type, put, put_word, after, before}
use Rattle.nr_linked.specs.TypingObjects.{forgotten, is_made_at}

pub local_padded : (n : ℕ) (ts : List VType) (i : ℕ) → local_type (padded n ts) i ≡ local_type ts i
local_padded zero ts i = refl
local_padded (suc n) [] zero = refl
local_padded (suc n) [] (suc i) = local_padded n [] i
local_padded (suc n) (t ∷ ts) zero = refl
local_padded (suc n) (t ∷ ts) (suc i) = local_padded n ts i

pub forgotten_padded : (at n : ℕ) (ts : List VType) → padded n (forgotten at ts) ≡ forgotten at (padded n ts)
forgotten_padded at zero ts = refl
forgotten_padded at (suc n) [] = ap (λ ts. Top ∷ ts) (forgotten_padded at n [])
forgotten_padded at (suc n) (t ∷ ts) = ap (λ xs. (if is_made_at at t then Top else t) ∷ xs) (forgotten_padded at n ts)

not_top : (t : VType) → is_same_uninit t Top ≡ false
not_top UninitThis = refl
not_top (Uninit n) = refl
not_top t = refl

pub initialised_padded : (t : VType) (c n : ℕ) (us : List VType) → padded n (initialised t c us) ≡ initialised t c (padded n us)
initialised_padded t c zero us = refl
initialised_padded t c (suc n) [] =
    ap (λ xs. Top ∷ xs) (initialised_padded t c n []) ∙ ap (λ z. (if z then Class (class_kind c) else Top) ∷ initialised t c (padded n [])) (sym (not_top t))
initialised_padded t c (suc n) (u ∷ us) = ap (λ xs. (if is_same_uninit t u then Class (class_kind c) else u) ∷ xs) (initialised_padded t c n us)

-- ---- stores

before_top : (i : ℕ) → before i Top ≡ Top
before_top zero = refl
before_top (suc i) = refl

-- a store where the places up to its own are listed already
pub put_padded : (i : ℕ) (t : VType) (ts : List VType) → put_word i t (padded (suc i) ts) ≡ put_word i t ts
put_padded zero t [] = refl
put_padded zero t (u ∷ us) = refl
put_padded (suc i) t [] = ap (λ u. u ∷ put_word i t (padded (suc i) [])) (before_top i) ∙ ap (λ us. Top ∷ us) (put_padded i t [])
put_padded (suc i) t (u ∷ us) = ap (λ us. before i u ∷ us) (put_padded i t us)

pub listed_long : (k : ℕ) (ts : List VType) → k ≤ length (padded k ts)
listed_long zero ts = omega arith
listed_long (suc k) [] = let a = listed_long k [] in omega (arith, a)
listed_long (suc k) (t ∷ ts) = let a = listed_long k ts in omega (arith, a)

after_padded : (u : VType) (n : ℕ) (us : List VType) → after u (padded n us) ≡ padded n (after u us)
after_padded Long zero us = refl
after_padded Long (suc n) [] = refl
after_padded Long (suc n) (t ∷ ts) = refl
after_padded _ n us = refl

-- places that aren't listed are Top after a store too
word_padded : (i : ℕ) (t : VType) (n : ℕ) (us : List VType) → put_word i t (padded n us) ≡ padded n (put_word i t us)
word_padded i t zero us = refl
word_padded zero t (suc n) [] = refl
word_padded (suc i) t (suc n) [] = ap (λ u. u ∷ put_word i t (padded n [])) (before_top i) ∙ ap (λ us. Top ∷ us) (word_padded i t n [])
word_padded zero t (suc n) (u ∷ us) = ap (λ us. t ∷ us) (after_padded u n us)
word_padded (suc i) t (suc n) (u ∷ us) = ap (λ us. before i u ∷ us) (word_padded i t n us)

pub stored : (i : ℕ) (t : VType) (n : ℕ) (us : List VType) → padded n (put i t us) ≡ put i t (padded n us)
stored i Long n us = sym (ap (λ us. put_word i Long us) (word_padded (suc i) Top n us) ∙ word_padded i Long n (put_word (suc i) Top us))
stored i t n us = sym (word_padded i t n us)
