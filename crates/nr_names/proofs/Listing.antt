-- Tables of members by their keys.
use Rattle.std.proofs.Common.{◌≡◌, ℕ, zero, suc, ◌+◌, ◌<◌, ◌≤◌, cond, Bool, true, false, not, ◌&&◌, List, [], ◌∷◌, ◌++◌, map, length, refl, sym, ap, ◌∙◌, arith}
use Rattle.std.proofs.lemmas.Bool.{and_parts, eqb-true, eq-eqb}
use Rattle.std.specs.Prelude.{Option, Some, None, is_none, IsTrue, nat_lt, nat_eq, ◌==◌}
use Rattle.std.specs.List.{position, position_or_len}
use Rattle.std.specs.Option.{option_map, option_or}
use Rattle.nr_names.specs.declared.table.Key.{Key}
use Rattle.nr_names.specs.declared.table.Table.{Table}
use Rattle.nr_names.specs.Tables.{has_key, place_in, same_key}

lt_suc : (n m : ℕ) → nat_lt (1 + n) (suc m) ≡ nat_lt n m
lt_suc n m = grind arith

none_less : (n : ℕ) → nat_lt 0 (suc n) ≡ true
none_less n = grind arith

pub position_first : {X : Type 0} (p : X → Bool) (x : X) (xs : List X) → position p (x ∷ xs) ≡ cond (p x) (Some 0) (option_map (λ i. suc i) (position p xs))
position_first p x xs = by_test (p x)
  where
    later : (b : Bool) (n : ℕ) → cond b (Some (1 + n)) None ≡ option_map (λ i. suc i) (cond b (Some n) None)
    later true n = ap (λ m. Some m) (omega arith)
    later false n = refl

    by_test : (b : Bool) → cond (nat_lt (cond (not b) (1 + position_or_len p xs) 0) (suc (length xs))) (Some (cond (not b) (1 + position_or_len p xs) 0)) None
        ≡ cond b (Some 0) (option_map (λ i. suc i) (position p xs))
    by_test true = ap (λ b. cond b (Some 0) None) (none_less (length xs))
    by_test false = ap (λ b. cond b (Some (1 + position_or_len p xs)) None) (lt_suc (position_or_len p xs) (length xs)) ∙ later (nat_lt (position_or_len p xs) (length xs)) (position_or_len p xs)

pub position_more : {X : Type 0} (p : X → Bool) (xs : List X) (x : X) → position p (xs ++ x ∷ []) ≡ option_or (position p xs) (cond (p x) (Some (length xs)) None)
position_more p [] x = by_test (p x) (position_first p x [])
  where
    by_test : (b : Bool) → position p (x ∷ []) ≡ cond b (Some 0) None → position p (x ∷ []) ≡ option_or None (cond b (Some 0) None)
    by_test b e = e
position_more p (y ∷ ys) x =
    position_first p y (ys ++ x ∷ []) ∙ ap (λ o. cond (p y) (Some 0) (option_map (λ i. suc i) o)) (position_more p ys x)
    ∙ by_test (p y) (position p ys) (p x) ∙ ap (λ o. option_or o (cond (p x) (Some (suc (length ys))) None)) (sym (position_first p y ys))
  where
    by_test : (a : Bool) (o : Option ℕ) (b : Bool) → cond a (Some 0) (option_map (λ i. suc i) (option_or o (cond b (Some (length ys)) None)))
        ≡ option_or (cond a (Some 0) (option_map (λ i. suc i) o)) (cond b (Some (suc (length ys))) None)
    by_test true o b = refl
    by_test false (Some i) b = refl
    by_test false None true = refl
    by_test false None false = refl

-- ---- keys

-- keys that are the same are equal
pub same_is : (k l : Key) → same_key k l ≡ true → k ≡ l
same_is k l e =
    let first = and_parts (k.holder == l.holder) (k.name == l.name && k.desc == l.desc) e in
    let rest = and_parts (k.name == l.name) (k.desc == l.desc) first.1 in
    λ i. record { holder = eqb-true k.holder l.holder first.0 i; name = eqb-true k.name l.name rest.0 i; desc = eqb-true k.desc l.desc rest.1 i }

pub same_self : (k : Key) → same_key k k ≡ true
same_self k = both (k.holder == k.holder) (k.name == k.name) (k.desc == k.desc) (eq-eqb k.holder k.holder refl) (eq-eqb k.name k.name refl) (eq-eqb k.desc k.desc refl)
  where
    both : (a b c : Bool) → a ≡ true → b ≡ true → c ≡ true → (a && (b && c)) ≡ true
    both a b c e f g = λ i. e i && (f i && g i)

turned : (k l : Key) → same_key k l ≡ same_key l k
turned k l = by_cases (same_key k l) (same_key l k) refl refl
  where
    by_cases : (a b : Bool) → same_key k l ≡ a → same_key l k ≡ b → a ≡ b
    by_cases true true e f = refl
    by_cases false false e f = refl
    by_cases true false e f = let s = same_is k l e in sym (same_self k) ∙ ap (λ m. same_key m k) s ∙ f
    by_cases false true e f = let s = same_is l k f in sym e ∙ ap (λ m. same_key m l) (sym s) ∙ same_self l

-- ---- a table with one member more

kept : (o : Option ℕ) → o ≡ option_or o None
kept None = refl
kept (Some i) = refl

-- which is there
pub adds_old : (t : Table) (key k : Key) (place was : ℕ) → place_in t key ≡ Some was → place_in t k ≡ option_or (place_in t k) (cond (has_key k (Some key)) (Some place) None)
adds_old t key k place was there = by_test (same_key k key) refl
  where
    had : (o : Option ℕ) → o ≡ Some was → o ≡ option_or o (Some place)
    had o e = e ∙ ap (λ o. option_or o (Some place)) (sym e)

    by_test : (b : Bool) → same_key k key ≡ b → place_in t k ≡ option_or (place_in t k) (cond b (Some place) None)
    by_test true e = had (place_in t k) (ap (place_in t) (same_is k key e) ∙ there)
    by_test false e = kept (place_in t k)

-- which is new
pub adds_new : (t new : Table) (key : Key) (place : ℕ) → place_in t key ≡ None → ((q : Key) → place_in new q ≡ cond (same_key key q) (Some place) (place_in t q))
    → (k : Key) → place_in new k ≡ option_or (place_in t k) (cond (has_key k (Some key)) (Some place) None)
adds_new t new key place none updates k = updates k ∙ ap (λ b. cond b (Some place) (place_in t k)) (turned key k) ∙ by_test (same_key k key) refl
  where
    by_test : (b : Bool) → same_key k key ≡ b → cond b (Some place) (place_in t k) ≡ option_or (place_in t k) (cond b (Some place) None)
    by_test true e = ap (λ o. option_or o (Some place)) (sym (ap (place_in t) (same_is k key e) ∙ none))
    by_test false e = kept (place_in t k)
