-- The codes of the table.
use Rattle.std.proofs.Common.{◌≡◌, ℕ, List, [], ◌∷◌, refl, Bool, true, false, ◌||◌, ◌==◌}
use Rattle.std.proofs.lemmas.Bool.{eqb-true}
use Rattle.std.specs.Prelude.{Contains}
use Rattle.std.specs.List.{list_all}
use Rattle.nr_optable.specs.declared.table.Row.{Row}
use Rattle.nr_optable.specs.Rows.{all_rows}
use Rattle.nr_step.specs.Codes.{IsNoneOf, frequent, rare}
use Rattle.nr_step.proofs.Rows.{each_of}

abbrev is_one_of : List ℕ → ℕ → Bool
is_one_of [] n = false
is_one_of (c ∷ cs) n = (n == c) || is_one_of cs n

none : (cs : List ℕ) (n : ℕ) → IsNoneOf cs n → is_one_of cs n ≡ true → ⊥
none [] n x t = absurd cc
none (c ∷ cs) n x t = by (n == c) refl t (none cs n x.0)
  where
    by : (b : Bool) → (n == c) ≡ b → (b || is_one_of cs n) ≡ true → (is_one_of cs n ≡ true → ⊥) → ⊥
    by true e t f = x.1 (eqb-true n c e)
    by false e t f = f t

all_codes : list_all (λ (r : Row). is_one_of frequent r.code || is_one_of rare r.code) all_rows ≡ true
unfolding all_rows
all_codes = refl

none_of_both : (n : ℕ) → IsNoneOf frequent n → IsNoneOf rare n → (is_one_of frequent n || is_one_of rare n) ≡ true → ⊥
none_of_both n x y t = by (is_one_of frequent n) refl t
  where
    by : (b : Bool) → is_one_of frequent n ≡ b → (b || is_one_of rare n) ≡ true → ⊥
    by true e u = none frequent n x e
    by false e u = none rare n y u

-- each row of the table has one of them
pub other_code : (r : Row) → Contains all_rows r → IsNoneOf frequent r.code → IsNoneOf rare r.code → ⊥
other_code r c x y = none_of_both r.code x y (each_of (λ (r : Row). is_one_of frequent r.code || is_one_of rare r.code) all_rows all_codes r c)
