-- Lists of nodes that rise and have the same members are one, and what is picked by one list stands beside.
use Rattle.std.proofs.Common.{◌≡◌, ◌<◌, ◌⊎◌, ◌++◌, ◌∙◌, ℕ, zero, suc, List, [], ◌∷◌, length, refl, sym, ap, arith, map, inl, inr}
use Rattle.std.specs.Prelude.{Some, slice_get}
use Rattle.nr_model.specs.declared.value.Value.TheVariants.{Ref}
use Rattle.nr_model.specs.declared.value.Value.{Value}
use Rattle.nr_model.specs.Alike.{AllLike, like_ref, no_more, one_more}
use Rattle.nr_model.specs.Heaps.{Has}
use Rattle.nr_model.proofs.Paths.{none_some, some_eq}
use Rattle.nr_graph.specs.Listing.{Picked, Rises, none_picked, one_picked}
use Rattle.nr_graph.proofs.Walks.{all_has}

-- a member is the first, or stands behind it
first_or : (x k : ℕ) (xs : List ℕ) → Has (x ∷ xs) k → (x ≡ k) ⊎ Has xs k
first_or x k xs (zero, e) = inl (some_eq e)
first_or x k xs (suc i, e) = inr (i, e)

one_first : (x y : ℕ) (xs ys : List ℕ) → Rises (x ∷ xs) → Rises (y ∷ ys) → Has (y ∷ ys) x → Has (x ∷ xs) y → x ≡ y
one_first x y xs ys a b there here = by (first_or y x ys there) (first_or x y xs here)
  where
    by : (y ≡ x) ⊎ Has ys x → (x ≡ y) ⊎ Has xs y → x ≡ y
    by (inl e) other = sym e
    by (inr h) (inl e) = e
    by (inr h) (inr i) =
        let lt : y < x = all_has (λ z. y < z) ys x b.0 h in
        let gt : x < y = all_has (λ z. x < z) xs y a.0 i in
        absurd (omega (arith, lt, gt))

behind : (x y k : ℕ) (xs ys : List ℕ) → Rises (x ∷ xs) → x ≡ y → Has xs k → Has (y ∷ ys) k → Has ys k
behind x y k xs ys a same h there = by (first_or y k ys there)
  where
    by : (y ≡ k) ⊎ Has ys k → Has ys k
    by (inr i) = i
    by (inl e) = let lt : x < k = all_has (λ z. x < z) xs k a.0 h in absurd (omega (arith, lt, same, e))

pub one_rising : (xs ys : List ℕ) → Rises xs → Rises ys → ((k : ℕ) → Has xs k → Has ys k) → ((k : ℕ) → Has ys k → Has xs k) → xs ≡ ys
one_rising [] [] a b to back = refl
one_rising [] (y ∷ ys) a b to back = absurd (none_some (back y (zero, refl)).1)
one_rising (x ∷ xs) [] a b to back = absurd (none_some (to x (zero, refl)).1)
one_rising (x ∷ xs) (y ∷ ys) a b to back =
    let same : x ≡ y = one_first x y xs ys a b (to x (zero, refl)) (back y (zero, refl)) in
    let more : xs ≡ ys = one_rising xs ys a.1 b.1
    (λ k h. behind x y k xs ys a same h (to k (suc h.0, h.1)))
    (λ k h. behind y x k ys xs b (sym same) h (back k (suc h.0, h.1))) in
    ap (λ (z : ℕ). z ∷ xs) same ∙ ap (λ (zs : List ℕ). y ∷ zs) more

module _ (R : ℕ → ℕ → Type 0) (names others : List ℕ) (beside : (i x y : ℕ) → slice_get names i ≡ Some x → slice_get others i ≡ Some y → R x y) where
  pub picks_like : {is xs ys : List ℕ} → Picked names is xs → Picked others is ys → AllLike R (map Ref xs) (map Ref ys)
  picks_like none_picked none_picked = no_more
  picks_like (one_picked {i = i} {x = x} e p) (one_picked {x = y} f q) = one_more (like_ref (beside i x y e f)) (picks_like p q)

pub picked_long : (names : List ℕ) {is xs : List ℕ} → Picked names is xs → length xs ≡ length is
picked_long names none_picked = refl
picked_long names (one_picked e p) = ap suc (picked_long names p)

pub both_like : (R : ℕ → ℕ → Type 0) {us vs ws zs : List Value} → AllLike R us vs → AllLike R ws zs → AllLike R (us ++ ws) (vs ++ zs)
both_like R no_more b = b
both_like R (one_more l ls) b = one_more l (both_like R ls b)
