-- What `parse` gives for decimal digits.
use Rattle.std.proofs.Common.{◌≡◌, ℕ, ◌^◌, ◌<◌, ◌≤◌, ◌==◌, ◌&&◌, Bool, true, false, List, [], ◌∷◌, length, Result, Err, None, ap, refl, rules, nat_le, slice_index, inl, inr}
use Rattle.std.specs.Char.{is_ascii_digit}
use Rattle.std.specs.List.{list_all}
use Rattle.std.specs.Str.Parse.{digits_value, ParsesUnsigned}
use Rattle.std.proofs.lemmas.Str.Parse.{IsNumeralModel, numerals_by_value, parse_digits}
use Rattle.std.proofs.lemmas.Bool.{leb-true, cases_lt, ne_eqb}
use Rattle.nr_cli.specs.Words.{is_number, number_within, int_of}

pub own : IsNumeralModel (λ ds. list_all is_ascii_digit ds ≡ true) (digits_value 10)
own = numerals_by_value _ (search rules)

both : (a b : Bool) → (a && b) ≡ true → (a ≡ true) × (b ≡ true)
both true b e = (refl, e)
both false b e = absurd cc

pub digits_of_number : (w : List ℕ) → is_number w ≡ true → (list_all is_ascii_digit w ≡ true) × (0 < length w)
digits_of_number w e =
    let some = both (nat_le 1 (length w)) _ e in
    let digits = both (list_all is_ascii_digit w) _ some.1 in
    (digits.0, leb-true _ _ some.0)

-- where `parse` gives no number of 32 bits, the number is too large
pub too_large : (w : List ℕ) → is_number w ≡ true → ParsesUnsigned {E = ℕ} 32 10 w (Err 0) → 2 ^ 32 ≤ digits_value 10 w
too_large w is p =
    let d = digits_of_number w is in
    let none : Result ℕ ℕ = Err 0 in
    let no = parse_digits own 32 w none p d.0 in
    elim (cases_lt (digits_value 10 w) (2 ^ 32)) [ inl lt ↦ absurd (no (d.1, lt)) | inr le ↦ le ]

no_minus : (w : List ℕ) → ((rest : List ℕ) → w ≡ 45 ∷ rest → ⊥) → (slice_index w 0 == 45) ≡ false
no_minus [] h = refl
no_minus (c ∷ cs) h = ne_eqb c 45 (λ e. h cs (ap (λ z. z ∷ cs) e))

-- no number where there are no digits, and no sign either
pub no_int : (w : List ℕ) → ((rest : List ℕ) → w ≡ 45 ∷ rest → ⊥) → number_within 0 2147483647 w ≡ None → None ≡ int_of w
no_int w h none = rw (no_minus w h, none) refl
