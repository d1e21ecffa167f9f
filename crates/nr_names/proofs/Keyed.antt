-- Keys tell names and descriptors.
use Rattle.std.proofs.Common.{◌≡◌, ℕ, ◌<◌, cond, Bool, true, false, not, ◌&&◌, List, [], ◌∷◌, map, length, get_or, refl, sym, ap, subst, ◌∙◌, arith}
use Rattle.std.specs.Prelude.{Option, Some, None, IsTrue, ◌↔◌, ◌==◌}
use Rattle.std.specs.List.{position}
use Rattle.std.specs.Option.{option_map_or, option_and_then}
use Rattle.std.specs.Str.{bytes_eq}
use Rattle.std.proofs.lemmas.Bool.{and_parts, eqb-true, eq-eqb}
use Rattle.std.proofs.lemmas.Option.{same_Some}
use Rattle.std.proofs.lemmas.List.Quantifiers.{position-Some}
use Rattle.std.proofs.lemmas.Slice.Eq.{bytes_eq-Decides}
use Rattle.nr_names.specs.declared.table.Key.{Key}
use Rattle.nr_names.specs.Numbers.{number_in}
use Rattle.nr_names.specs.Tables.{has_key, key_by, key_of}

-- what is true where and only where another is
pub alike : (a b : Bool) → (a ≡ true → b ≡ true) → (b ≡ true → a ≡ true) → a ≡ b
alike true true f g = refl
alike false false f g = refl
alike true false f g = sym (f refl)
alike false true f g = g refl

pub swapped : (m n : ℕ) → (m == n) ≡ (n == m)
swapped m n = alike (m == n) (n == m) (λ e. eq-eqb n m (sym (eqb-true m n e))) (λ e. eq-eqb m n (sym (eqb-true n m e)))

bytes_same : (x y : List ℕ) → bytes_eq x y ≡ true → x ≡ y
bytes_same x y e = (bytes_eq-Decides x y).0 e

bytes_equal : (x y : List ℕ) → x ≡ y → bytes_eq x y ≡ true
bytes_equal x y e = (bytes_eq-Decides x y).1 e

-- a text that has a number stands there
stands : (known : List (List ℕ)) (text : List ℕ) (n : ℕ) → number_in known text ≡ Some n → get_or known n [] ≡ text
stands known text n e = bytes_same (get_or known n []) text (position-Some (λ t. bytes_eq t text) known n [] e).1

abbrev pub has_number : ℕ → Option ℕ → Bool
has_number n None = false
has_number n (Some m) = n == m

-- texts have one number where they are the same
pub same_number : (known : List (List ℕ)) (text other : List ℕ) (n : ℕ) → number_in known text ≡ Some n → has_number n (number_in known other) ≡ bytes_eq other text
same_number known text other n e = alike (has_number n (number_in known other)) (bytes_eq other text) (λ t. bytes_equal other text (by_number (number_in known other) refl t)) by_text
  where
    by_number : (o : Option ℕ) → number_in known other ≡ o → has_number n o ≡ true → other ≡ text
    by_number None is t = absurd cc
    by_number (Some m) is t = sym (stands known other m is) ∙ ap (λ i. get_or known i []) (sym (eqb-true n m t)) ∙ stands known text n e

    by_text : bytes_eq other text ≡ true → has_number n (number_in known other) ≡ true
    by_text t = ap (has_number n) (ap (number_in known) (bytes_same other text t) ∙ e) ∙ eq-eqb n n refl

module _ (known : List (List ℕ)) (name desc : List ℕ) (n d : ℕ) (named : number_in known name ≡ Some n) (described : number_in known desc ≡ Some d) where
  abbrev pub key : ℕ → Key
  key c = record { holder = c; name = n; desc = d }

  pub by_numbers : (c own : ℕ) (a b : Option ℕ) → has_key (key c) (key_by own a b) ≡ (c == own && (has_number n a && has_number d b))
  by_numbers c own None b = nothing (c == own)
    where
      nothing : (x : Bool) → false ≡ (x && false)
      nothing true = refl
      nothing false = refl
  by_numbers c own (Some m) None = nothing (c == own) (n == m)
    where
      nothing : (x y : Bool) → false ≡ (x && (y && false))
      nothing true true = refl
      nothing true false = refl
      nothing false y = refl
  by_numbers c own (Some m) (Some e) = refl

  -- whether a member of the class `own` has the key
  pub tells : (c own : ℕ) (its_name its_desc : List ℕ) → has_key (key c) (key_of known own its_name its_desc) ≡ (c == own && (bytes_eq its_name name && bytes_eq its_desc desc))
  tells c own its_name its_desc =
      by_numbers c own (number_in known its_name) (number_in known its_desc)
      ∙ (λ i. c == own && (same_number known name its_name n named i && same_number known desc its_desc d described i))
