-- Elements of lists by their places, and what a search finds.
use Rattle.std.proofs.Common.{◌≡◌, ℕ, zero, suc, ◌+◌, ◌<◌, ◌≤◌, ◌⊎◌, inl, inr, Bool, true, false, cond, find, List, [], ◌∷◌, ◌++◌, length, map, take, drop, refl, sym, ap, subst, ◌∙◌, arith, length-append}
use Rattle.std.specs.Prelude.{Option, Some, None, IsTrue, IsSomeAnd, slice_get}
use Rattle.std.specs.List.{flat_map, list_all, range_with_len}
use Rattle.std.specs.Option.{option_map_or}
use Rattle.std.proofs.lemmas.Bool.{and_parts}
use Rattle.std.proofs.lemmas.Option.{same_Some}

-- ---- options

pub of_some : {X : Type 0} (P : X → Type 0) (x y : X) → Some x ≡ Some y → P x → P y
of_some P x y e p = subst P (same_Some x y e) p

pub some_of : {X : Type 0} (P : X → Type 0) (o : Option X) → IsSomeAnd o P → (x : X) × (o ≡ Some x) × P x
some_of P (Some x) h = (x, refl, h)
some_of P None h = absurd h

pub is_some_and : {X : Type 0} (P : X → Type 0) (o : Option X) (x : X) → o ≡ Some x → P x → IsSomeAnd o P
is_some_and P o x e p = subst (λ o. IsSomeAnd o P) (sym e) p

-- where a test of an entry passes, there is an entry
pub passing : {X : Type 0} (f : X → Bool) (o : Option X) → IsTrue (option_map_or f o false) → (x : X) × (o ≡ Some x) × IsTrue (f x)
passing f None p = absurd cc
passing f (Some x) p = (x, refl, p)

pub entry_is : {X Y : Type 0} (f : X → Y) (o : Option X) (d : Y) (x : X) → o ≡ Some x → option_map_or f o d ≡ f x
entry_is f o d x e = ap (λ o. option_map_or f o d) e

-- ---- places

pub get_or_past : {X : Type 0} (xs : List X) (k : ℕ) → ((x : X) × (slice_get xs k ≡ Some x)) ⊎ (length xs ≤ k)
get_or_past [] k = inr (omega arith)
get_or_past (x ∷ xs) zero = inl (x, refl)
get_or_past (x ∷ xs) (suc k) = elim (get_or_past xs k) [ inl h ↦ inl h | inr l ↦ inr (omega (arith, l)) ]

pub get_below : {X : Type 0} (xs : List X) (k : ℕ) → k < length xs → (x : X) × (slice_get xs k ≡ Some x)
get_below xs k l = elim (get_or_past xs k) [ inl h ↦ h | inr m ↦ absurd (omega (arith, l, m)) ]

pub get_dropped : {X : Type 0} (xs : List X) (n k : ℕ) → slice_get (drop n xs) k ≡ slice_get xs (n + k)
get_dropped xs zero k = ap (slice_get xs) (omega arith)
get_dropped [] (suc n) k = refl
get_dropped (x ∷ xs) (suc n) k =
    let e : suc n + k ≡ suc (n + k) = omega arith in
    get_dropped xs n k ∙ ap (slice_get (x ∷ xs)) (sym e)

pub get_left : {X : Type 0} (xs ys : List X) (k : ℕ) (x : X) → slice_get xs k ≡ Some x → slice_get (xs ++ ys) k ≡ Some x
get_left [] ys k x e = absurd cc
get_left (y ∷ xs) ys zero x e = e
get_left (y ∷ xs) ys (suc k) x e = get_left xs ys k x e

-- an element of two lists, one behind the other
pub get_either : {X : Type 0} (xs ys : List X) (k : ℕ) (x : X) → slice_get (xs ++ ys) k ≡ Some x → (slice_get xs k ≡ Some x) ⊎ ((j : ℕ) × (k ≡ length xs + j) × (slice_get ys j ≡ Some x))
get_either [] ys k x e = inr (k, omega arith, e)
get_either (y ∷ xs) ys zero x e = inl e
get_either (y ∷ xs) ys (suc k) x e = elim (get_either xs ys k x e) [ inl h ↦ inl h | inr h ↦ inr (h.0, omega (arith, h.1), h.2) ]

pub get_mapped : {X Y : Type 0} (f : X → Y) (xs : List X) (k : ℕ) (y : Y) → slice_get (map f xs) k ≡ Some y → (x : X) × (slice_get xs k ≡ Some x) × (y ≡ f x)
get_mapped f [] k y e = absurd cc
get_mapped f (x ∷ xs) zero y e = (x, refl, sym (same_Some (f x) y e))
get_mapped f (x ∷ xs) (suc k) y e = get_mapped f xs k y e

-- an element of the lists of some elements
pub get_flat : {X Y : Type 0} (f : X → List Y) (xs : List X) (k : ℕ) (y : Y) → slice_get (flat_map f xs) k ≡ Some y
    → (i : ℕ) × (x : X) × (j : ℕ) × (slice_get xs i ≡ Some x) × (slice_get (f x) j ≡ Some y) × (k ≡ length (flat_map f (take i xs)) + j)
get_flat f [] k y e = absurd cc
get_flat f (x ∷ xs) k y e = elim (get_either (f x) (flat_map f xs) k y e) [
  | inl h ↦ (0, x, k, refl, h, omega arith)
  | inr h ↦ let r = get_flat f xs h.0 y h.2 in
      (suc r.0, r.1, r.2, r.3, r.4, omega (arith, h.1, r.5, length-append (f x) (flat_map f (take r.0 xs))))
]

-- what a search finds passes its test, and stands in the list
pub found : (test : ℕ → Bool) (xs : List ℕ) (m : ℕ) → find test xs ≡ Some m → IsTrue (test m) × ((k : ℕ) × (slice_get xs k ≡ Some m))
found test [] m e = absurd cc
found test (x ∷ xs) m e = at_first (test x) refl e (λ e. found test xs m e)
  where
    at_first : (b : Bool) → test x ≡ b → cond b (Some x) (find test xs) ≡ Some m → (find test xs ≡ Some m → IsTrue (test m) × ((k : ℕ) × (slice_get xs k ≡ Some m)))
        → IsTrue (test m) × ((k : ℕ) × (slice_get (x ∷ xs) k ≡ Some m))
    at_first true t e rest = (subst (λ m. IsTrue (test m)) (same_Some x m e) t, (0, e))
    at_first false t e rest = let r = rest e in (r.0, (suc r.1.0, r.1.1))

-- a number of a range
pub get_range : (a n k m : ℕ) → slice_get (range_with_len a n) k ≡ Some m → (m ≡ a + k) × (k < n)
get_range a zero k m e = absurd cc
get_range a (suc n) zero m e = (omega (arith, same_Some a m e), omega arith)
get_range a (suc n) (suc k) m e = let r = get_range (a + 1) n k m e in (omega (arith, r.0), omega (arith, r.1))

pub range_at : (a n k : ℕ) → k < n → slice_get (range_with_len a n) k ≡ Some (a + k)
range_at a zero k l = absurd (omega arith)
range_at a (suc n) zero l = ap (λ m. Some m) (omega arith)
range_at a (suc n) (suc k) l = let e : a + 1 + k ≡ a + suc k = omega arith in range_at (a + 1) n k (omega arith) ∙ ap (λ m. Some m) e

pub passes_at : {X : Type 0} (f : X → Bool) (xs : List X) (k : ℕ) (x : X) → IsTrue (list_all f xs) → slice_get xs k ≡ Some x → IsTrue (f x)
passes_at f [] k x p e = absurd cc
passes_at f (y ∷ xs) zero x p e = of_some (λ x. IsTrue (f x)) y x e (and_parts (f y) (list_all f xs) p).0
passes_at f (y ∷ xs) (suc k) x p e = passes_at f xs k x (and_parts (f y) (list_all f xs) p).1 e
