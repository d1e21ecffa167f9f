-- A loop that looks for the first fault of a list: `total` is what the whole look-out finds.
use Rattle.std.proofs.Common.{◌≡◌, ℕ, suc, ◌+◌, ◌-◌, ◌<◌, ◌≤◌, Bool, true, false, List, length, get_or, drop, Option, Some, None, refl, sym, ap, ◌∙◌, add-one, drop-cons, arith}
use Rattle.std.specs.Bool.{MatchBool}
use Rattle.std.specs.List.{range_with_len}
use Rattle.std.specs.Option.{option_or}
use Rattle.std.proofs.lemmas.List.{drop_all}
use Rattle.nr_linkrules.specs.declared.fault.LinkFault.{LinkFault}
use Rattle.nr_linkrules.specs.Faults.{Fails, first_numbered, first_of, is_free}

pub either : {A B : Type 0} (b : Bool) → (A → B) → MatchBool b (Unit {0}) A → MatchBool b (Unit {0}) B
either true h f = tt
either false h f = h f

-- a fault that is handed on
pub fails_on : (e : LinkFault) (a b : Option LinkFault) → (a ≡ Some e → b ≡ Some e) → Fails e a → Fails e b
fails_on e a b h f = either (is_free e) h f

-- a fault of the first part
pub fails_first : (e : LinkFault) (a b : Option LinkFault) → Fails e a → Fails e (option_or a b)
fails_first e a b f = fails_on e a (option_or a b) (λ some. ap (λ o. option_or o b) some) f

-- ---- items by their numbers

one : {X : Type 0} (fault : ℕ → X → Option LinkFault) (m i : ℕ) (xs : List X) (d : X) → i < length xs
    → first_numbered fault m (drop i xs) ≡ option_or (fault m (get_or xs i d)) (first_numbered fault (m + 1) (drop (i + 1) xs))
unfolding first_numbered
one fault m i xs d lt = rw (drop-cons xs i d lt, add-one i) refl

pub goes_on : {X : Type 0} (fault : ℕ → X → Option LinkFault) (m i : ℕ) (xs : List X) (d : X) (total : Option LinkFault) → i < length xs
    → fault m (get_or xs i d) ≡ None → first_numbered fault m (drop i xs) ≡ total → first_numbered fault (m + 1) (drop (i + 1) xs) ≡ total
goes_on fault m i xs d total lt none so_far =
    sym (ap (λ o. option_or o (first_numbered fault (m + 1) (drop (i + 1) xs))) none) ∙ sym (one fault m i xs d lt) ∙ so_far

stops : {X : Type 0} (fault : ℕ → X → Option LinkFault) (m i : ℕ) (xs : List X) (d : X) (total : Option LinkFault) (e : LinkFault) → i < length xs
    → fault m (get_or xs i d) ≡ Some e → first_numbered fault m (drop i xs) ≡ total → total ≡ Some e
stops fault m i xs d total e lt some so_far =
    sym so_far ∙ one fault m i xs d lt ∙ ap (λ o. option_or o (first_numbered fault (m + 1) (drop (i + 1) xs))) some

pub ends : {X : Type 0} (fault : ℕ → X → Option LinkFault) (m i : ℕ) (xs : List X) (total : Option LinkFault) → length xs ≤ i
    → first_numbered fault m (drop i xs) ≡ total → total ≡ None
unfolding first_numbered
ends fault m i xs total le so_far = sym so_far ∙ rw (drop_all i xs le) refl

pub fails_in : {X : Type 0} (fault : ℕ → X → Option LinkFault) (m i : ℕ) (xs : List X) (d : X) (total : Option LinkFault) (e : LinkFault) → i < length xs
    → Fails e (fault m (get_or xs i d)) → first_numbered fault m (drop i xs) ≡ total → Fails e total
fails_in fault m i xs d total e lt f so_far = fails_on e (fault m (get_or xs i d)) total (λ some. stops fault m i xs d total e lt some so_far) f

-- ---- items without numbers

one_of : {X : Type 0} (fault : X → Option LinkFault) (i : ℕ) (xs : List X) (d : X) → i < length xs
    → first_of fault (drop i xs) ≡ option_or (fault (get_or xs i d)) (first_of fault (drop (i + 1) xs))
unfolding first_of
one_of fault i xs d lt = rw (drop-cons xs i d lt, add-one i) refl

pub goes_on_of : {X : Type 0} (fault : X → Option LinkFault) (i : ℕ) (xs : List X) (d : X) (total : Option LinkFault) → i < length xs
    → fault (get_or xs i d) ≡ None → first_of fault (drop i xs) ≡ total → first_of fault (drop (i + 1) xs) ≡ total
goes_on_of fault i xs d total lt none so_far =
    sym (ap (λ o. option_or o (first_of fault (drop (i + 1) xs))) none) ∙ sym (one_of fault i xs d lt) ∙ so_far

stops_of : {X : Type 0} (fault : X → Option LinkFault) (i : ℕ) (xs : List X) (d : X) (total : Option LinkFault) (e : LinkFault) → i < length xs
    → fault (get_or xs i d) ≡ Some e → first_of fault (drop i xs) ≡ total → total ≡ Some e
stops_of fault i xs d total e lt some so_far =
    sym so_far ∙ one_of fault i xs d lt ∙ ap (λ o. option_or o (first_of fault (drop (i + 1) xs))) some

pub ends_of : {X : Type 0} (fault : X → Option LinkFault) (i : ℕ) (xs : List X) (total : Option LinkFault) → length xs ≤ i
    → first_of fault (drop i xs) ≡ total → total ≡ None
unfolding first_of
ends_of fault i xs total le so_far = sym so_far ∙ rw (drop_all i xs le) refl

pub fails_in_of : {X : Type 0} (fault : X → Option LinkFault) (i : ℕ) (xs : List X) (d : X) (total : Option LinkFault) (e : LinkFault) → i < length xs
    → Fails e (fault (get_or xs i d)) → first_of fault (drop i xs) ≡ total → Fails e total
fails_in_of fault i xs d total e lt f so_far = fails_on e (fault (get_or xs i d)) total (λ some. stops_of fault i xs d total e lt some so_far) f

-- the same of an item that was taken from its place
pub fails_at_of : {X : Type 0} (fault : X → Option LinkFault) (i : ℕ) (xs : List X) (x : X) (total : Option LinkFault) (e : LinkFault) → i < length xs → x ≡ get_or xs i x
    → Fails e (fault x) → first_of fault (drop i xs) ≡ total → Fails e total
fails_at_of fault i xs x total e lt here f so_far = fails_in_of fault i xs x total e lt (Rattle.std.proofs.Common.subst (λ y. Fails e (fault y)) here f) so_far

pub fails_at : {X : Type 0} (fault : ℕ → X → Option LinkFault) (m i : ℕ) (xs : List X) (x : X) (total : Option LinkFault) (e : LinkFault) → i < length xs → x ≡ get_or xs i x
    → Fails e (fault m x) → first_numbered fault m (drop i xs) ≡ total → Fails e total
fails_at fault m i xs x total e lt here f so_far = fails_in fault m i xs x total e lt (Rattle.std.proofs.Common.subst (λ y. Fails e (fault m y)) here f) so_far

-- ---- numbers, from one on

module _ (fault : ℕ → Option LinkFault) where
  one_up : (i end : ℕ) → i < end → first_of fault (range_with_len i (end - i)) ≡ option_or (fault i) (first_of fault (range_with_len (i + 1) (end - (i + 1))))
  unfolding first_of
  one_up i end lt = ap (λ n. first_of fault (range_with_len i n)) more
    where
      more : end - i ≡ suc (end - (i + 1))
      more = omega (arith, lt)

  pub goes_on_up : (i end : ℕ) (total : Option LinkFault) → i < end → fault i ≡ None → first_of fault (range_with_len i (end - i)) ≡ total
      → first_of fault (range_with_len (i + 1) (end - (i + 1))) ≡ total
  goes_on_up i end total lt none so_far =
      sym (ap (λ o. option_or o (first_of fault (range_with_len (i + 1) (end - (i + 1))))) none) ∙ sym (one_up i end lt) ∙ so_far

  pub ends_up : (i end : ℕ) (total : Option LinkFault) → end ≤ i → first_of fault (range_with_len i (end - i)) ≡ total → total ≡ None
  unfolding first_of
  ends_up i end total le so_far = sym so_far ∙ ap (λ n. first_of fault (range_with_len i n)) none
    where
      none : end - i ≡ 0
      none = omega (arith, le)

  pub fails_up : (i end : ℕ) (total : Option LinkFault) (e : LinkFault) → i < end → Fails e (fault i) → first_of fault (range_with_len i (end - i)) ≡ total → Fails e total
  fails_up i end total e lt f so_far =
      fails_on e (fault i) total (λ some. sym so_far ∙ one_up i end lt ∙ ap (λ o. option_or o (first_of fault (range_with_len (i + 1) (end - (i + 1))))) some) f
