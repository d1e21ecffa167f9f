-- Writes into the slice, seen from the stack.
use Rattle.std.proofs.Common.{◌≡◌, ℕ, zero, suc, ◌+◌, ◌<◌, ◌≤◌, List, ◌∷◌, length, refl, subst, ap, arith, add-one}
use Rattle.std.specs.Prelude.{slice_set, slice_get, Some}
use Rattle.std.proofs.lemmas.List.{get_or-set_same, get_or-set_other}
use Rattle.nr_model.specs.declared.value.Value.{Value}
use Rattle.nr_model.specs.declared.value.Value.TheVariants.{Null}
use Rattle.nr_step.specs.Windows.{top_first}

top_first_below : (xs : List Value) (i d : ℕ) (v : Value) → d ≤ i → top_first (slice_set xs i v) d ≡ top_first xs d
top_first_below xs i zero v l = refl
top_first_below xs i (suc d) v l = rw (get_or-set_other xs i d v Null (λ e. absurd (omega arith)), top_first_below xs i d v (omega arith))

pub top_first_set : (xs : List Value) (d : ℕ) (v : Value) → d < length xs → top_first (slice_set xs d v) (d + 1) ≡ v ∷ top_first xs d
top_first_set xs d v l = rw (add-one, get_or-set_same xs d v Null l, top_first_below xs d d v (omega arith))

-- an operand is on top where those above it aren't in use
pub below : (xs : List Value) (d e i : ℕ) (v : Value) (us : List Value) → e + i ≡ d → top_first xs e ≡ v ∷ us → slice_get (top_first xs d) i ≡ Some v
below xs d e zero v us s p = subst (λ n. slice_get (top_first xs n) 0 ≡ Some v) (omega (arith, s)) (ap (λ vs. slice_get vs 0) p)
below xs zero e (suc i) v us s p = absurd (omega (arith, s))
below xs (suc d) e (suc i) v us s p = below xs d e i v us (omega (arith, s)) p
