-- Loops that put together what each item gives.
use Rattle.std.proofs.Common.{◌≡◌, ℕ, suc, ◌+◌, ◌-◌, ◌<◌, ◌≤◌, Bool, true, false, cond, List, [], ◌∷◌, ◌++◌, length, get_or, drop, map, refl, sym, ap, ◌∙◌, add-one, drop-cons, append_assoc, arith}
use Rattle.std.specs.List.{filter, flat_map, range_with_len, zip}
use Rattle.std.proofs.lemmas.List.{drop_all, nil_from_length}
use Rattle.std.proofs.lemmas.Grind.{flat_map-append}
use Rattle.std.proofs.lemmas.List.Folds.{flat_map-map}
use Rattle.std.proofs.lemmas.List.FromFn.{map-range_with_len_more}

pub append_nil : {X : Type 0} (xs : List X) → xs ++ [] ≡ xs
append_nil [] = refl
append_nil (x ∷ xs) = ap (λ ys. x ∷ ys) (append_nil xs)

-- ---- some for each item

one : {X Y : Type 0} (f : X → List Y) (i : ℕ) (xs : List X) (d : X) → i < length xs
    → flat_map f (drop i xs) ≡ f (get_or xs i d) ++ flat_map f (drop (i + 1) xs)
one f i xs d lt = rw (drop-cons xs i d lt, add-one i) refl

pub gathers : {X Y : Type 0} (f : X → List Y) (i : ℕ) (xs : List X) (d : X) (out more total : List Y) → i < length xs
    → more ≡ f (get_or xs i d) → out ++ flat_map f (drop i xs) ≡ total → (out ++ more) ++ flat_map f (drop (i + 1) xs) ≡ total
gathers f i xs d out more total lt e so_far =
    append_assoc out more (flat_map f (drop (i + 1) xs))
    ∙ ap (λ ys. out ++ ys) (ap (λ m. m ++ flat_map f (drop (i + 1) xs)) e ∙ sym (one f i xs d lt)) ∙ so_far

-- the same of a list that was made longer
pub adds : {X Y : Type 0} (f : X → List Y) (i : ℕ) (xs : List X) (d : X) (out longer total : List Y) → i < length xs
    → longer ≡ out ++ f (get_or xs i d) → out ++ flat_map f (drop i xs) ≡ total → longer ++ flat_map f (drop (i + 1) xs) ≡ total
adds f i xs d out longer total lt e so_far =
    ap (λ ys. ys ++ flat_map f (drop (i + 1) xs)) e ∙ gathers f i xs d out (f (get_or xs i d)) total lt refl so_far

pub gathered : {X Y : Type 0} (f : X → List Y) (i : ℕ) (xs : List X) (out total : List Y) → length xs ≤ i
    → out ++ flat_map f (drop i xs) ≡ total → out ≡ total
gathered f i xs out total le so_far =
    sym (append_nil out) ∙ ap (λ ys. out ++ flat_map f ys) (sym (drop_all i xs le)) ∙ so_far

-- ---- one for each item

pub one_each : {X Y : Type 0} (f : X → Y) (i : ℕ) (xs : List X) (d : X) → i < length xs
    → map f (drop i xs) ≡ f (get_or xs i d) ∷ map f (drop (i + 1) xs)
one_each f i xs d lt = rw (drop-cons xs i d lt, add-one i) refl

pub maps : {X Y : Type 0} (f : X → Y) (i : ℕ) (xs : List X) (d : X) (out : List Y) (y : Y) (total : List Y) → i < length xs
    → y ≡ f (get_or xs i d) → out ++ map f (drop i xs) ≡ total → (out ++ y ∷ []) ++ map f (drop (i + 1) xs) ≡ total
maps f i xs d out y total lt e so_far =
    append_assoc out (y ∷ []) (map f (drop (i + 1) xs))
    ∙ ap (λ ys. out ++ ys) (ap (λ y. y ∷ map f (drop (i + 1) xs)) e ∙ sym (one_each f i xs d lt)) ∙ so_far

-- the same of an item that was taken from its place
pub maps_at : {X Y : Type 0} (f : X → Y) (i : ℕ) (xs : List X) (x : X) (out : List Y) (y : Y) (total : List Y) → i < length xs → x ≡ get_or xs i x
    → y ≡ f x → out ++ map f (drop i xs) ≡ total → (out ++ y ∷ []) ++ map f (drop (i + 1) xs) ≡ total
maps_at f i xs x out y total lt here e so_far = maps f i xs x out y total lt (e ∙ ap f here) so_far

pub mapped : {X Y : Type 0} (f : X → Y) (i : ℕ) (xs : List X) (out total : List Y) → length xs ≤ i
    → out ++ map f (drop i xs) ≡ total → out ≡ total
mapped f i xs out total le so_far =
    sym (append_nil out) ∙ ap (λ ys. out ++ map f ys) (sym (drop_all i xs le)) ∙ so_far

-- ---- two lists side by side

pub zips : {X Y Z : Type 0} (f : X × Y → Z) (i : ℕ) (xs : List X) (x : X) (y : Y) (before after : List Y) (out : List Z) (z : Z) (total : List Z) → i < length xs
    → x ≡ get_or xs i x → before ≡ y ∷ after → z ≡ f (x, y) → out ++ map f (zip (drop i xs) before) ≡ total
    → (out ++ z ∷ []) ++ map f (zip (drop (i + 1) xs) after) ≡ total
zips f i xs x y before after out z total lt here is e so_far =
    append_assoc out (z ∷ []) (map f (zip (drop (i + 1) xs) after))
    ∙ ap (λ ys. out ++ ys) (ap (λ z. z ∷ map f (zip (drop (i + 1) xs) after)) (e ∙ ap (λ x. f (x, y)) here) ∙ sym first) ∙ so_far
  where
    first : map f (zip (drop i xs) before) ≡ f (get_or xs i x, y) ∷ map f (zip (drop (i + 1) xs) after)
    first = ap (λ ys. map f (zip (drop i xs) ys)) is ∙ rw (drop-cons xs i x lt, add-one i) refl

pub none_zip : {X Y : Type 0} (xs : List X) → zip {K = X} {X = Y} xs [] ≡ []
none_zip [] = refl
none_zip (x ∷ xs) = refl

pub zipped_short : {X Y Z : Type 0} (f : X × Y → Z) (i : ℕ) (xs : List X) (before : List Y) (n : ℕ) (out total : List Z) → length before ≡ n → n ≡ 0
    → out ++ map f (zip (drop i xs) before) ≡ total → out ≡ total
zipped_short f i xs before n out total len none so_far =
    sym (append_nil out) ∙ ap (λ zs. out ++ map f zs) (sym (none_zip (drop i xs)))
    ∙ ap (λ ys. out ++ map f (zip (drop i xs) ys)) (sym (nil_from_length before (len ∙ none))) ∙ so_far

pub zipped : {X Y Z : Type 0} (f : X × Y → Z) (i : ℕ) (xs : List X) (before : List Y) (out total : List Z) → length xs ≤ i
    → out ++ map f (zip (drop i xs) before) ≡ total → out ≡ total
zipped f i xs before out total le so_far =
    sym (append_nil out) ∙ ap (λ xs. out ++ map f (zip xs before)) (sym (drop_all i xs le)) ∙ so_far

-- ---- one for each number

pub counts_on : {Y : Type 0} (f : ℕ → Y) (n : ℕ) (out : List Y) (y : Y) → y ≡ f n → out ≡ map f (range_with_len 0 n) → out ++ y ∷ [] ≡ map f (range_with_len 0 (n + 1))
counts_on f n out y e so_far =
    ap (λ ys. ys ++ y ∷ []) so_far ∙ ap (λ y. map f (range_with_len 0 n) ++ y ∷ []) e ∙ sym (map-range_with_len_more f 0 n n (omega arith))

-- ---- some for each number

more_up : {Y : Type 0} (f : ℕ → List Y) (n : ℕ) → flat_map f (range_with_len 0 (n + 1)) ≡ flat_map f (range_with_len 0 n) ++ f n
more_up f n =
    sym (flat_map-map f (λ x. x) (range_with_len 0 (n + 1)))
    ∙ ap (flat_map f) (map-range_with_len_more (λ x. x) 0 n n (omega arith))
    ∙ flat_map-append f (map (λ x. x) (range_with_len 0 n)) (n ∷ [])
    ∙ ap (λ ys. flat_map f (map (λ x. x) (range_with_len 0 n)) ++ ys) (append_nil (f n))
    ∙ ap (λ ys. ys ++ f n) (flat_map-map f (λ x. x) (range_with_len 0 n))

pub gathers_up : {Y : Type 0} (f : ℕ → List Y) (n : ℕ) (out longer : List Y) → longer ≡ out ++ f n → out ≡ flat_map f (range_with_len 0 n)
    → longer ≡ flat_map f (range_with_len 0 (n + 1))
gathers_up f n out longer e so_far = e ∙ ap (λ ys. ys ++ f n) so_far ∙ sym (more_up f n)

-- ---- the numbers that pass a test

keep_one : (p : ℕ → Bool) (i end : ℕ) → i < end → filter p (range_with_len i (end - i)) ≡ cond (p i) (i ∷ []) [] ++ filter p (range_with_len (i + 1) (end - (i + 1)))
keep_one p i end lt = ap (λ n. filter p (range_with_len i n)) more ∙ by_test (p i)
  where
    more : end - i ≡ suc (end - (i + 1))
    more = omega (arith, lt)

    by_test : (b : Bool) → cond b (i ∷ filter p (range_with_len (i + 1) (end - (i + 1)))) (filter p (range_with_len (i + 1) (end - (i + 1)))) ≡ cond b (i ∷ []) [] ++ filter p (range_with_len (i + 1) (end - (i + 1)))
    by_test true = refl
    by_test false = refl

pub keeps : (p : ℕ → Bool) (i end : ℕ) (out longer total : List ℕ) (passes : Bool) → i < end → passes ≡ p i → longer ≡ out ++ cond passes (i ∷ []) []
    → out ++ filter p (range_with_len i (end - i)) ≡ total → longer ++ filter p (range_with_len (i + 1) (end - (i + 1))) ≡ total
keeps p i end out longer total passes lt e f so_far =
    ap (λ ys. ys ++ filter p (range_with_len (i + 1) (end - (i + 1)))) (f ∙ ap (λ b. out ++ cond b (i ∷ []) []) e)
    ∙ append_assoc out (cond (p i) (i ∷ []) []) (filter p (range_with_len (i + 1) (end - (i + 1))))
    ∙ ap (λ ys. out ++ ys) (sym (keep_one p i end lt)) ∙ so_far

pub kept : (p : ℕ → Bool) (i end : ℕ) (out total : List ℕ) → end ≤ i → out ++ filter p (range_with_len i (end - i)) ≡ total → out ≡ total
kept p i end out total le so_far = sym (append_nil out) ∙ ap (λ n. out ++ filter p (range_with_len i n)) (sym none) ∙ so_far
  where
    none : end - i ≡ 0
    none = omega (arith, le)

pub from_zero : (p : ℕ → Bool) (n : ℕ) → filter p (range_with_len 0 (n - 0)) ≡ filter p (range_with_len 0 n)
from_zero p n = let e : n - 0 ≡ n = omega arith in ap (λ m. filter p (range_with_len 0 m)) e
