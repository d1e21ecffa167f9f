-- What a store leaves, step by step.
use Rattle.std.proofs.Common.{◌≡◌, ℕ, zero, suc, ◌<◌, List, [], ◌∷◌, length, refl, ap, sym, ◌∙◌, arith, Bool, true, false}
use Rattle.std.specs.Prelude.{slice_set, if◌then◌else◌}
use Rattle.nr_linked.specs.declared.program.types.VType.{VType}
use Rattle.nr_linked.specs.declared.program.types.VType.TheVariants.{Top, Long}
use Rattle.nr_linked.specs.TypingFrames.{is_long}
use Rattle.nr_linked.specs.TypingLocals.{local_type, put_word, before}
use Rattle.nr_verify_ops.specs.Halves.{without_long, without_half, without_long_before}

abbrev pub stepped : ℕ → VType → List VType → List VType
stepped i t ts = slice_set (without_half i (without_long_before i ts)) i t

if_cons : (z : Bool) (u : VType) (xs ys : List VType) → (if z then u ∷ xs else u ∷ ys) ≡ u ∷ (if z then xs else ys)
if_cons true u xs ys = refl
if_cons false u xs ys = refl

at_zero : (t u : VType) (us : List VType) → put_word zero t (u ∷ us) ≡ stepped zero t (u ∷ us)
at_zero t Long [] = refl
at_zero t Long (x ∷ us) = refl
at_zero t _ us = refl

-- behind the first place
behind : (i : ℕ) (t u : VType) (us : List VType) → stepped i t us ≡ slice_set (without_half i (without_long_before i us)) i t
behind i t u us = refl

set_behind : (u : VType) (us : List VType) (i : ℕ) (t : VType) → slice_set (u ∷ us) (suc i) t ≡ u ∷ slice_set us i t
set_behind u us i t = refl

half_behind : (u : VType) (us : List VType) (i : ℕ) → without_half (suc i) (u ∷ us) ≡ u ∷ without_half i us
half_behind u us i = if_cons (is_long (local_type us i)) u (slice_set us (suc i) Top) us

long_behind : (u : VType) (us : List VType) (i : ℕ) → without_long (suc i) (u ∷ us) ≡ u ∷ without_long i us
long_behind u us i = if_cons (is_long (local_type us i)) u (slice_set us i Top) us

long_first : (u : VType) (us : List VType) → without_long zero (u ∷ us) ≡ before zero u ∷ us
long_first Long us = refl
long_first _ us = refl

pub put_word_is : (i : ℕ) (t : VType) (ts : List VType) → i < length ts → put_word i t ts ≡ stepped i t ts
put_word_is i t [] l = absurd (omega arith)
put_word_is zero t (u ∷ us) l = at_zero t u us
put_word_is (suc zero) t (u ∷ us) l =
    ap (λ xs. before zero u ∷ xs) (put_word_is zero t us (omega arith))
    ∙ sym (ap (λ xs. slice_set (without_half 1 xs) 1 t) (long_first u us) ∙ ap (λ xs. slice_set xs 1 t) (half_behind (before zero u) us zero))
put_word_is (suc (suc i)) t (u ∷ us) l =
    ap (λ xs. before (suc i) u ∷ xs) (put_word_is (suc i) t us (omega arith))
    ∙ sym (ap (λ xs. slice_set (without_half (suc (suc i)) xs) (suc (suc i)) t) (long_behind u us i) ∙ ap (λ xs. slice_set xs (suc (suc i)) t) (half_behind u (without_long i us) (suc i)))
