-- Lists in two parts, and lists in step.
use Rattle.std.proofs.Common.{◌≡◌, ℕ, zero, suc, ◌+◌, ◌-◌, ◌<◌, ◌≤◌, List, [], ◌∷◌, ◌++◌, length, map, drop, refl, sym, ap, ◌∙◌, arith, inl, inr}
use Rattle.std.specs.Prelude.{Some, slice_get}
use Rattle.std.specs.List.{zip}
use Rattle.std.proofs.lemmas.Bool.{cases_lt}
use Rattle.std.proofs.lemmas.Option.{same_Some}
use Rattle.nr_links.proofs.OneNames.{same_list}
use Rattle.nr_linked.proofs.Elements.{get_below, get_dropped}

-- ---- one behind the other

pub get_front : {X : Type 0} (xs ys : List X) (k : ℕ) → k < length xs → slice_get (xs ++ ys) k ≡ slice_get xs k
get_front [] ys k lt = absurd (omega (arith, lt))
get_front (x ∷ xs) ys zero lt = refl
get_front (x ∷ xs) ys (suc k) lt = get_front xs ys k (omega (arith, lt))

pub get_back : {X : Type 0} (xs ys : List X) (j : ℕ) → slice_get (xs ++ ys) (length xs + j) ≡ slice_get ys j
get_back [] ys j = ap (slice_get ys) (omega arith)
get_back (x ∷ xs) ys j = let e : length (x ∷ xs) + j ≡ suc (length xs + j) = omega arith in ap (slice_get (x ∷ xs ++ ys)) e ∙ get_back xs ys j

-- a list is two others, one behind the other
pub two_parts : {X : Type 0} (zs xs ys : List X) → ((k : ℕ) (x : X) → slice_get xs k ≡ Some x → slice_get zs k ≡ Some x) → drop (length xs) zs ≡ ys → zs ≡ xs ++ ys
two_parts zs xs ys front back = same_list zs (xs ++ ys) (λ k. elim (cases_lt k (length xs)) [
  | inl lt ↦ let x = get_below xs k lt in front k x.0 x.1 ∙ sym x.1 ∙ sym (get_front xs ys k lt)
  | inr past ↦ let r = rest k past in ap (slice_get zs) r.1 ∙ sym (get_dropped zs (length xs) r.0) ∙ ap (λ zs. slice_get zs r.0) back ∙ sym (get_back xs ys r.0) ∙ ap (slice_get (xs ++ ys)) (sym r.1)
])
  where
    rest : (k : ℕ) → length xs ≤ k → (j : ℕ) × (k ≡ length xs + j)
    rest k past = (k - length xs, omega (arith, past))

pub drop_map : {X Y : Type 0} (f : X → Y) (n : ℕ) (xs : List X) → drop n (map f xs) ≡ map f (drop n xs)
drop_map f zero xs = refl
drop_map f (suc n) [] = refl
drop_map f (suc n) (x ∷ xs) = drop_map f n xs

pub map_parts : {X Y : Type 0} (f : X → Y) (xs ys : List X) → map f (xs ++ ys) ≡ map f xs ++ map f ys
map_parts f [] ys = refl
map_parts f (x ∷ xs) ys = ap (λ zs. f x ∷ zs) (map_parts f xs ys)

pub map_twice : {X Y Z : Type 0} (f : X → Y) (g : Y → Z) (h : X → Z) → ((x : X) → g (f x) ≡ h x) → (xs : List X) → map g (map f xs) ≡ map h xs
map_twice f g h same [] = refl
map_twice f g h same (x ∷ xs) = λ i. same x i ∷ map_twice f g h same xs i

-- ---- in step

pub zip_at : {X Y : Type 0} (xs : List X) (ys : List Y) (k : ℕ) (x : X) (y : Y) → slice_get xs k ≡ Some x → slice_get ys k ≡ Some y → slice_get (zip xs ys) k ≡ Some (x, y)
zip_at [] ys k x y e f = absurd cc
zip_at (a ∷ xs) [] k x y e f = absurd cc
zip_at (a ∷ xs) (b ∷ ys) zero x y e f = λ i. Some (same_Some a x e i, same_Some b y f i)
zip_at (a ∷ xs) (b ∷ ys) (suc k) x y e f = zip_at xs ys k x y e f

pub zip_length : {X Y : Type 0} (xs : List X) (ys : List Y) → length ys ≡ length xs → length (zip xs ys) ≡ length xs
zip_length [] ys e = refl
zip_length (x ∷ xs) [] e = absurd (omega (arith, e))
zip_length (x ∷ xs) (y ∷ ys) e = let rest = zip_length xs ys (omega (arith, e)) in omega (arith, rest)
