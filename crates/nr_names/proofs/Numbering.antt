-- Numbers of texts.
use Rattle.std.proofs.Common.{◌≡◌, ℕ, zero, suc, ◌+◌, ◌-◌, ◌<◌, cond, Bool, true, false, not, List, [], ◌∷◌, map, length, refl, sym, ap, ◌∙◌, arith}
use Rattle.std.specs.Prelude.{Option, Some, None, IfSome, IsTrue, ◌↔◌, nat_lt, option_copied, slice_get}
use Rattle.std.specs.Borrow.{Bor}
use Rattle.std.specs.List.{position, position_or_len}
use Rattle.std.specs.Option.{option_and_then, option_map, option_map_or}
use Rattle.std.specs.Str.{bytes_eq}
use Rattle.std.proofs.lemmas.List.{length-map}
use Rattle.std.proofs.lemmas.Option.{slice_get-map}
use Rattle.std.proofs.lemmas.List.Quantifiers.{position-Some}
use Rattle.std.proofs.lemmas.Slice.Eq.{bytes_eq-Decides}
use Rattle.nr_prog.specs.declared.pool.PoolEntry.{PoolEntry}
use Rattle.nr_prog.specs.Pool.{entry_at, text_at, text_in}
use Rattle.nr_names.specs.Numbers.{given, listed, number_in, number_of, numbers_of}

abbrev Key : Type 0
Key = Bor (List ℕ)

turned : (a b : List ℕ) → bytes_eq a b ≡ bytes_eq b a
turned a b = by_cases (bytes_eq a b) (bytes_eq b a) (bytes_eq-Decides a b) (bytes_eq-Decides b a)
  where
    by_cases : (p q : Bool) → (IsTrue p ↔ (a ≡ b)) → (IsTrue q ↔ (b ≡ a)) → p ≡ q
    by_cases true true f g = refl
    by_cases false false f g = refl
    by_cases true false f g = sym (g.1 (sym (f.0 refl)))
    by_cases false true f g = f.1 (sym (g.0 refl))

pub same_place : {X Y : Type 0} (f : X → Y) (p : X → Bool) (q : Y → Bool) → ((x : X) → p x ≡ q (f x)) → (xs : List X) → position p xs ≡ position q (map f xs)
same_place f p q same xs = λ i. cond (nat_lt (places xs i) (sym (length-map xs f) i)) (Some (places xs i)) None
  where
    places : (xs : List _) → position_or_len p xs ≡ position_or_len q (map f xs)
    places [] = refl
    places (x ∷ xs) = λ i. cond (not (same x i)) (1 + places xs i) 0

pub place_text : (name : Key) (keys : List Key) → position (λ (k : Key). bytes_eq name.now k.now) keys ≡ number_in (map (λ (k : Key). k.now) keys) name.now
place_text name keys = same_place (λ (k : Key). k.now) (λ (k : Key). bytes_eq name.now k.now) (λ n. bytes_eq n name.now) (λ k. turned name.now k.now) keys

-- a text has a number less than how many there are
pub within : (known : List (List ℕ)) (text : List ℕ) (found : Option ℕ) → found ≡ number_in known text → IfSome found (λ n. n < length known)
within known text None e = tt
within known text (Some n) e = (position-Some (λ t. bytes_eq t text) known n [] (sym e)).0

-- ---- by the places of a constant pool

module _ {Y : Type 0} (f : List ℕ → Option Y) where
  of_entry : (o : Option PoolEntry) → given (option_map (λ e. option_and_then f (text_in e)) o) ≡ option_and_then f (option_map_or text_in o None)
  of_entry (Some e) = refl
  of_entry None = refl

  -- of each entry's text f is listed
  pub listed_at : (pool : List PoolEntry) (index : ℕ) → listed (map (λ e. option_and_then f (text_in e)) pool) index ≡ option_and_then f (text_at pool index)
  unfolding text_at
  listed_at pool zero = refl
  listed_at pool (suc i) = ap given (slice_get-map (λ e. option_and_then f (text_in e)) pool i) ∙ of_entry (slice_get pool i)

-- so of each entry's text its number
pub numbered_at : (known : List (List ℕ)) (pool : List PoolEntry) (numbers : List (Option ℕ)) (index : ℕ) (found : Option ℕ) → numbers ≡ numbers_of known pool → found ≡ listed numbers index
    → found ≡ option_and_then (number_in known) (text_at pool index)
numbered_at known pool numbers index found e is = is ∙ ap (λ ns. listed ns index) e ∙ listed_at (number_in known) pool index
