-- Members that were sorted by their names and descriptors.
use Rattle.std.proofs.Common.{◌≡◌, Bool, true, false, not, List, [], ◌∷◌, map, ℕ, cond, refl, sym, ap, ◌∙◌}
use Rattle.std.specs.Cmp.{IsStrictWeakOrder}
use Rattle.std.specs.Cmp.Lexicographic.{slice_cmp, texts_ties}
use Rattle.std.specs.declared.cmp.Ordering.{Ordering}
use Rattle.std.specs.declared.cmp.Ordering.TheVariants.{Less, Equal, Greater}
use Rattle.std.specs.Ordering.{is_eq, is_gt, is_lt, nat_cmp, ordering_then, ordering_reverse}
use Rattle.std.specs.List.Sorted.{IsSortedBy, IsStableBy}
use Rattle.std.specs.Borrow.{Bor}
use Rattle.std.proofs.lemmas.Cmp.{nat_list_cmp_total, on_total, then_total}
use Rattle.std.proofs.lemmas.List.Sorted.{ranks_by}
use Rattle.nr_graph.specs.Sorted.{is_at_most, put, sorted}
use Rattle.nr_serform.specs.declared.members.Member.{Member}
use Rattle.nr_serform.specs.ClassNumbers.{is_sooner}
use Rattle.nr_serform.specs.Members.{part_of}
use Rattle.nr_serform.proofs.StableSorts.{stable_is_sorted}

-- ---- sorting what stands for something

module _ {X Y : Type 0} (f : X → Y) (le : Y → Y → Bool) where
  abbrev pub before : X → X → Bool
  before x y = le (f x) (f y)

  map_put : (x : X) (ys : List X) → map f (put before x ys) ≡ put le (f x) (map f ys)
  map_put x [] = refl
  map_put x (y ∷ ys) = by (map_put x ys) (before x y)
    where
      by : map f (put before x ys) ≡ put le (f x) (map f ys) → (b : Bool)
          → map f (cond b (x ∷ y ∷ ys) (y ∷ put before x ys)) ≡ cond b (f x ∷ f y ∷ map f ys) (f y ∷ put le (f x) (map f ys))
      by others true = refl
      by others false = ap (λ zs. f y ∷ zs) others

  pub map_sorted : (xs : List X) → map f (sorted before xs) ≡ sorted le (map f xs)
  map_sorted [] = refl
  map_sorted (x ∷ xs) = map_put x (sorted before xs) ∙ ap (put le (f x)) (map_sorted xs)

-- ---- texts

abbrev Lent : Type 0
Lent = Bor (List ℕ)

abbrev pub less_text : Lent → Lent → Bool
less_text x y = is_lt (slice_cmp nat_cmp x.now y.now)

turned : (o : Ordering) → not (is_gt o) ≡ not (is_lt (ordering_reverse o))
turned Less = refl
turned Equal = refl
turned Greater = refl

less_texts : IsStrictWeakOrder less_text
less_texts = ranks_by nat_list_cmp_total (λ (x : Lent). x.now)

at_most_is : (x y : Lent) → is_at_most x.now y.now ≡ not (less_text y x)
at_most_is x y = turned (slice_cmp nat_cmp x.now y.now) ∙ sym (ap (λ o. not (is_lt o)) (nat_list_cmp_total.antisymm y.now x.now))

pub sorted_texts : (xs ys : List Lent) → IsSortedBy less_text ys → IsStableBy less_text xs ys
    → map (λ (x : Lent). x.now) ys ≡ sorted is_at_most (map (λ (x : Lent). x.now) xs)
sorted_texts xs ys up stable =
    ap (map (λ (x : Lent). x.now)) (stable_is_sorted less_text less_texts xs ys (before (λ (x : Lent). x.now) is_at_most) at_most_is up stable)
    ∙ map_sorted (λ (x : Lent). x.now) is_at_most xs

-- ---- names, and then descriptors

-- of two names and two descriptors, the second is no less
tested : (o p o' p' : Ordering) → o' ≡ ordering_reverse o → p' ≡ ordering_reverse p
    → cond (is_eq o) (not (is_gt p)) (not (is_gt o)) ≡ not (is_lt (ordering_then o' p'))
tested Less p o' p' e f = sym (ap (λ o. not (is_lt (ordering_then o p'))) e)
tested Greater p o' p' e f = sym (ap (λ o. not (is_lt (ordering_then o p'))) e)
tested Equal p o' p' e f = turned p ∙ sym (ap (λ p. not (is_lt p)) f) ∙ sym (ap (λ o. not (is_lt (ordering_then o p'))) e)

abbrev pub less : Member → Member → Bool
less x y = is_lt (ordering_then (slice_cmp nat_cmp x.name.now y.name.now) (slice_cmp nat_cmp x.desc.now y.desc.now))

less_orders : IsStrictWeakOrder less
less_orders = ranks_by (then_total (on_total (λ (m : Member). m.name.now) nat_list_cmp_total) (on_total (λ (m : Member). m.desc.now) nat_list_cmp_total)) (λ m. m)

sooner_is : (x y : Member) → is_sooner (part_of x) (part_of y) ≡ not (less y x)
sooner_is x y =
    ap (λ b. cond b (is_at_most x.desc.now y.desc.now) (is_at_most x.name.now y.name.now)) (texts_ties x.name.now y.name.now)
    ∙ tested _ _ _ _ (nat_list_cmp_total.antisymm y.name.now x.name.now) (nat_list_cmp_total.antisymm y.desc.now x.desc.now)

pub sorted_members : (xs ys : List Member) → IsSortedBy less ys → IsStableBy less xs ys → map part_of ys ≡ sorted is_sooner (map part_of xs)
sorted_members xs ys up stable =
    ap (map part_of) (stable_is_sorted less less_orders xs ys (before part_of is_sooner) sooner_is up stable) ∙ map_sorted part_of is_sooner xs
