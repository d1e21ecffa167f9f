-- Walks that meet the numbers 0, 1, 2 and so on.
use Rattle.std.proofs.Common.{◌≡◌, ℕ, zero, suc, ◌+◌, ◌<◌, ◌≤◌, true, false, ◌||◌, List, [], ◌∷◌, ◌++◌, length, nat_eq, get_or, refl, sym, ap, ◌∙◌, ◌⊎◌, inl, inr, arith, length-append, append_assoc}
use Rattle.std.specs.Prelude.{Some, slice_get}
use Rattle.std.specs.List.{range_with_len}
use Rattle.std.proofs.lemmas.Bool.{cases_Bool, eq-eqb, ne_eqb, false≢true}
use Rattle.nr_graph.specs.Walks.{is_met, Walk}
use Rattle.nr_graph.proofs.Walks.{prefix, at_first}
use Rattle.nr_graph.proofs.Beside.{Beside, no_more, one_more}

-- the first n numbers
abbrev pub upto : ℕ → List ℕ
upto n = range_with_len 0 n

pub length_range : (a n : ℕ) → length (range_with_len a n) ≡ n
length_range a zero = refl
length_range a (suc n) = ap suc (length_range (a + 1) n)

at_range : (a n k : ℕ) → k < n → get_or (range_with_len a n) k 0 ≡ a + k
at_range a zero k l = absurd (omega arith)
at_range a (suc n) zero l = omega arith
at_range a (suc n) (suc k) l = let e = at_range (a + 1) n k (omega arith) in omega (arith, e)

range_more : (a n : ℕ) → range_with_len a (suc n) ≡ range_with_len a n ++ (a + n) ∷ []
range_more a zero = let e : a ≡ a + 0 = omega arith in ap (λ x. x ∷ []) e
range_more a (suc n) =
    let e : (a + 1) + n ≡ a + suc n = omega arith in
    ap (λ xs. a ∷ xs) (range_more (a + 1) n) ∙ ap (λ x. a ∷ (range_with_len (a + 1) n ++ x ∷ [])) e

pub upto_next : (n : ℕ) → upto (suc n) ≡ upto n ++ n ∷ []
upto_next n = let e : 0 + n ≡ n = omega arith in range_more 0 n ∙ ap (λ x. upto n ++ x ∷ []) e

-- of the first n numbers just those are met
met_from : (a n i : ℕ) → a ≤ i → i < a + n → is_met (range_with_len a n) i ≡ true
met_from a zero i l h = absurd (omega arith)
met_from a (suc n) i l h = by (cases_Bool (nat_eq i a)) (λ l'. met_from (a + 1) n i l' (omega arith))
  where
    by : (nat_eq i a ≡ true) ⊎ (nat_eq i a ≡ false) → (a + 1 ≤ i → is_met (range_with_len (a + 1) n) i ≡ true) → is_met (range_with_len a (suc n)) i ≡ true
    by (inl e) rec = ap (λ b. b || is_met (range_with_len (a + 1) n) i) e
    by (inr e) rec = ap (λ b. b || is_met (range_with_len (a + 1) n) i) e ∙ rec (step (λ e2. false≢true (sym e ∙ eq-eqb i a e2)))
      where
        step : (i ≡ a → ⊥) → a + 1 ≤ i
        step ne = omega arith

not_met_from : (a n i : ℕ) → a + n ≤ i → is_met (range_with_len a n) i ≡ false
not_met_from a zero i l = refl
not_met_from a (suc n) i l =
    ap (λ b. b || is_met (range_with_len (a + 1) n) i) (ne_eqb i a (λ e. omega arith)) ∙ not_met_from (a + 1) n i (omega arith)

pub met_below : (n i : ℕ) → i < n → is_met (upto n) i ≡ true
met_below n i l = met_from 0 n i (omega arith) (omega arith)

pub not_met : (n i : ℕ) → n ≤ i → is_met (upto n) i ≡ false
not_met n i l = not_met_from 0 n i (omega arith)

get_after : (xs : List ℕ) (x : ℕ) (ys : List ℕ) → get_or (xs ++ x ∷ ys) (length xs) 0 ≡ x
get_after [] x ys = refl
get_after (y ∷ xs) x ys = get_after xs x ys

-- one that is met new has the next number
pub next_number : (next : ℕ → List ℕ) (i n : ℕ) (xs seen : List ℕ) → Walk next (i ∷ xs) seen (upto n) → is_met seen i ≡ false
    → (i ≡ length seen) × (i < n)
next_number next i n xs seen w m =
    let p = prefix next (at_first next w m) in
    let is : upto n ≡ seen ++ (i ∷ p.0) = p.1 ∙ append_assoc seen (i ∷ []) p.0 in
    let len : n ≡ length seen + (length p.0 + 1) = sym (length_range 0 n) ∙ ap length is ∙ length-append seen (i ∷ p.0) ∙ omega arith in
    let e : get_or (upto n) (length seen) 0 ≡ i = ap (λ xs. get_or xs (length seen) 0) is ∙ get_after seen i p.0 in
    let f = at_range 0 n (length seen) (omega (arith, len)) in
    let same : i ≡ length seen = omega (arith, e, f) in
    (same, omega (arith, same, len))

-- places of names, each of which stands once, are numbered in order
pub numbers_are : (names : List ℕ) → ((i j x : ℕ) → slice_get names i ≡ Some x → slice_get names j ≡ Some x → i ≡ j)
    → (rest out : List ℕ) (a : ℕ) → ((j x : ℕ) → slice_get rest j ≡ Some x → slice_get names (a + j) ≡ Some x)
    → Beside (λ x i. slice_get names i ≡ Some x) rest out → out ≡ range_with_len a (length rest)
numbers_are names once rest out a at no_more = refl
numbers_are names once rest out a at (one_more {x = x} {y = y} {xs = xs} {ys = ys} r b) =
    let here : slice_get names (a + 0) ≡ Some x = at zero x refl in
    let is : y ≡ a = once y (a + 0) x r here ∙ omega arith in
    let more = numbers_are names once xs ys (a + 1) (λ j z e. let f : (a + 1) + j ≡ a + suc j = omega arith in ap (slice_get names) f ∙ at (suc j) z e) b in
    (λ j. is j ∷ more j)
