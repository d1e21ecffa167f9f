-- The paths in byte order are one list, whatever order they were told in.
use Rattle.std.proofs.Common.{◌≡◌, ℕ, suc, ◌+◌, ◌≤◌, ◌<◌, Bool, true, false, cond, List, [], ◌∷◌, length, map, get_or, refl, sym, ap, ◌∙◌, arith}
use Rattle.std.specs.Prelude.{sum_by, IsPermutation}
use Rattle.std.specs.Cmp.{IsStrictWeakOrder}
use Rattle.std.specs.Cmp.Lexicographic.{slice_cmp, nat_list_cmp_total}
use Rattle.std.specs.List.Sorted.{IsSorted}
use Rattle.std.specs.Ordering.{nat_cmp, is_lt, ordering_reverse}
use Rattle.std.specs.declared.cmp.Ordering.{Ordering}
use Rattle.std.specs.declared.cmp.Ordering.TheVariants.{Less, Equal, Greater}
use Rattle.std.specs.FinSet.{nat_cmp-IsAntisymmetric, slice_cmp-IsAntisymmetric}
use Rattle.std.specs.String.{string_bytes, string_cmp}
use Rattle.std.specs.declared.alloc.Global.{Global}
use Rattle.std.specs.declared.string.String.{String}
use Rattle.std.proofs.lemmas.List.{get_or-map, length-map}
use Rattle.std.proofs.lemmas.List.Sums.{sum_by-cons}
use Rattle.std.proofs.lemmas.List.Sorted.{IsPermutation-map, ranks_by, sorted_far, sum_by-IsPermutation}
use Rattle.nr_cli.specs.Order.{put_path, in_byte_order}

abbrev below : List ℕ → List ℕ → Bool
below x y = is_lt (slice_cmp nat_cmp x y)

-- none of them is below x
abbrev AllFrom : List ℕ → List (List ℕ) → Type 0
AllFrom x [] = Unit {0}
AllFrom x (y ∷ ys) = (below y x ≡ false) × AllFrom x ys

abbrev Ascends : List (List ℕ) → Type 0
Ascends [] = Unit {0}
Ascends (x ∷ xs) = AllFrom x xs × Ascends xs

weak : IsStrictWeakOrder below
weak = ranks_by nat_list_cmp_total (λ x. x)

all_from : (x : List ℕ) (xs : List (List ℕ)) → ((j : ℕ) → j < length xs → below (get_or xs j x) x ≡ false) → AllFrom x xs
all_from x [] h = tt
all_from x (y ∷ ys) h = (h 0 (omega arith), all_from x ys (λ j lt. h (suc j) (omega arith)))

ascends : (xs : List (List ℕ)) → ((i j : ℕ) (d : List ℕ) → i ≤ j → j < length xs → below (get_or xs j d) (get_or xs i d) ≡ false) → Ascends xs
ascends [] h = tt
ascends (x ∷ xs) h = (all_from x xs (λ j lt. h 0 (suc j) x (omega arith) (omega arith)), ascends xs (λ i j d le lt. h (suc i) (suc j) d (omega arith) (omega arith)))

pub sorted_ascends : (xs : List (List ℕ)) → IsSorted (slice_cmp nat_cmp) xs → Ascends xs
sorted_ascends xs s = ascends xs (sorted_far below weak xs s)

-- ---- one list for each order

total : (List ℕ → ℕ) → List (List ℕ) → ℕ
total f [] = 0
total f (x ∷ xs) = f x + total f xs

total_is : (f : List ℕ → ℕ) (xs : List (List ℕ)) → sum_by f xs ≡ total f xs
unfolding total
total_is f [] = refl
total_is f (x ∷ xs) = sum_by-cons f x xs ∙ ap (λ z. f x + z) (total_is f xs)

-- 1 for what is below y
is_below : List ℕ → List ℕ → ℕ
is_below y w = cond (below w y) 1 0

none_below : (y : List ℕ) (xs : List (List ℕ)) → AllFrom y xs → total (is_below y) xs ≡ 0
unfolding total is_below
none_below y [] h = refl
none_below y (x ∷ xs) h = rw h.0 (omega (arith, none_below y xs h.1))

not_one : (b : Bool) (n : ℕ) → cond b 1 0 + n ≡ 0 → b ≡ false
not_one true n e = absurd (omega arith)
not_one false n e = refl

not_below : (y x : List ℕ) (xs : List (List ℕ)) → total (is_below y) (x ∷ xs) ≡ 0 → below x y ≡ false
unfolding total is_below
not_below y x xs e = not_one (below x y) (total (is_below y) xs) e

not_itself : (y : List ℕ) → below y y ≡ false
not_itself y = elim (below y y) as (λ b. below y y ≡ b → b ≡ false) [ true ↦ λ e. sym e ∙ weak.one_way y y e | false ↦ λ e. refl ] refl

same_head : (x y : List ℕ) (xs ys : List (List ℕ)) → AllFrom y ys → total (is_below y) (x ∷ xs) ≡ total (is_below y) (y ∷ ys) → below x y ≡ false
unfolding total is_below
same_head x y xs ys h e = not_below y x xs (e ∙ rw (not_itself y) (omega (arith, none_below y ys h)))

both_ways : (r s : Ordering) → r ≡ ordering_reverse s → is_lt r ≡ false → is_lt s ≡ false → r ≡ Equal
both_ways Less s e a b = absurd cc
both_ways Equal s e a b = refl
both_ways Greater Less e a b = absurd cc
both_ways Greater Equal e a b = absurd cc
both_ways Greater Greater e a b = absurd cc

equal : (x y : List ℕ) → below x y ≡ false → below y x ≡ false → x ≡ y
equal x y a b = slice_cmp-IsAntisymmetric nat_cmp-IsAntisymmetric x y (both_ways _ _ (nat_list_cmp_total.antisymm x y) a b)

same : (xs ys : List (List ℕ)) → Ascends xs → Ascends ys → ((f : List ℕ → ℕ) → total f xs ≡ total f ys) → xs ≡ ys
unfolding total
same [] [] a b h = refl
same [] (y ∷ ys) a b h = absurd (omega (arith, h (λ _. 1)))
same (x ∷ xs) [] a b h = absurd (omega (arith, h (λ _. 1)))
same (x ∷ xs) (y ∷ ys) a b h =
    let e : x ≡ y = equal x y (same_head x y xs ys b.0 (h (is_below y))) (same_head y x ys xs a.0 (sym (h (is_below x)))) in
    let rest : xs ≡ ys = same xs ys a.1 b.1 (λ f. let both = h f in let head : f x ≡ f y = ap f e in omega arith) in
    cc

-- ---- the definition puts them so

total-put_path : (f : List ℕ → ℕ) (x : List ℕ) (ys : List (List ℕ)) → total f (put_path x ys) ≡ f x + total f ys
unfolding total
total-put_path f x [] = refl
total-put_path f x (y ∷ ys) =
    elim (below y x) as (λ b. total f (cond b (y ∷ put_path x ys) (x ∷ y ∷ ys)) ≡ f x + (f y + total f ys)) [
      | true ↦ omega (arith, total-put_path f x ys)
      | false ↦ refl
    ]

total-in_byte_order : (f : List ℕ → ℕ) (xs : List (List ℕ)) → total f (in_byte_order xs) ≡ total f xs
unfolding total
total-in_byte_order f [] = refl
total-in_byte_order f (x ∷ xs) = total-put_path f x (in_byte_order xs) ∙ ap (λ z. f x + z) (total-in_byte_order f xs)

AllFrom-put_path : (y x : List ℕ) (xs : List (List ℕ)) → below x y ≡ false → AllFrom y xs → AllFrom y (put_path x xs)
AllFrom-put_path y x [] e h = (e, tt)
AllFrom-put_path y x (z ∷ zs) e h =
    elim (below z x) as (λ b. AllFrom y (cond b (z ∷ put_path x zs) (x ∷ z ∷ zs))) [
      | true ↦ (h.0, AllFrom-put_path y x zs e h.1)
      | false ↦ (e, h)
    ]

-- what isn't below y isn't below what is at most y
AllFrom-lower : (x y : List ℕ) (zs : List (List ℕ)) → below y x ≡ false → AllFrom y zs → AllFrom x zs
AllFrom-lower x y [] e h = tt
AllFrom-lower x y (z ∷ zs) e h = (weak.chain z y x h.0 e, AllFrom-lower x y zs e h.1)

Ascends-put_path : (x : List ℕ) (ys : List (List ℕ)) → Ascends ys → Ascends (put_path x ys)
Ascends-put_path x [] h = (tt, tt)
Ascends-put_path x (y ∷ ys) h =
    elim (below y x) as (λ b. below y x ≡ b → Ascends (cond b (y ∷ put_path x ys) (x ∷ y ∷ ys))) [
      | true ↦ λ e. (AllFrom-put_path y x ys (weak.one_way y x e) h.0, Ascends-put_path x ys h.1)
      | false ↦ λ e. ((e, AllFrom-lower x y ys e h.0), h)
    ] refl

Ascends-in_byte_order : (xs : List (List ℕ)) → Ascends (in_byte_order xs)
Ascends-in_byte_order [] = tt
Ascends-in_byte_order (x ∷ xs) = Ascends-put_path x (in_byte_order xs) (Ascends-in_byte_order xs)

-- Whatever order paths stood in, sorting them gives the one list in byte order.
pub sorted_paths : (told listed sorted : List (List ℕ)) → IsPermutation told listed → IsPermutation listed sorted → IsSorted (slice_cmp nat_cmp) sorted → sorted ≡ in_byte_order told
sorted_paths told listed sorted p q s =
    same sorted (in_byte_order told) (sorted_ascends sorted s) (Ascends-in_byte_order told)
    (λ f. sym (total_is f sorted) ∙ sum_by-IsPermutation f listed sorted q ∙ sum_by-IsPermutation f told listed p ∙ total_is f told ∙ sym (total-in_byte_order f told))

-- ---- names as the program holds them

below_at : (d : String Global) (xs : List (String Global)) → IsSorted string_cmp xs → (k : ℕ) (e : List ℕ) → k + 1 < length xs → below (get_or (map string_bytes xs) (k + 1) e) (get_or (map string_bytes xs) k e) ≡ false
below_at d xs s k e lt =
    rw (get_or-map string_bytes xs (k + 1) d e lt, get_or-map string_bytes xs k d e (omega arith)) (s k d (omega arith) lt)

bytes_sorted : (xs : List (String Global)) → IsSorted string_cmp xs → IsSorted (slice_cmp nat_cmp) (map string_bytes xs)
bytes_sorted [] s = λ k d low lt. absurd (omega arith)
bytes_sorted (x ∷ xs) s = λ k d low lt. below_at x (x ∷ xs) s k d (omega (arith, length-map (x ∷ xs) string_bytes))

-- what sorting the names of a folder gives
pub sorted_names : (told : List (List ℕ)) (names sorted : List (String Global)) → IsPermutation told (map string_bytes names) → IsPermutation names sorted → IsSorted string_cmp sorted → map string_bytes sorted ≡ in_byte_order told
sorted_names told names sorted p q s =
    sorted_paths told (map string_bytes names) (map string_bytes sorted) p (IsPermutation-map string_bytes names sorted q) (bytes_sorted sorted s)
