-- A search among entries at rising offsets finds what looking at each would find.
use Rattle.std.proofs.Common.{◌≡◌, ℕ, zero, suc, ◌<◌, ◌≤◌, Bool, true, false, eqb, List, [], ◌∷◌, length, get_or, cond, find, eq-eqb, Err, Equal, refl, sym, ap, subst, ◌∙◌, inl, inr, arith}
use Rattle.std.specs.Prelude.{Some, None}
use Rattle.std.specs.List.Sorted.{IsBinarySearchResult, IsNonDecreasingBy}
use Rattle.std.specs.Ordering.{nat_cmp, ordering_index}
use Rattle.std.proofs.lemmas.Cmp.{ranked}
use Rattle.std.proofs.lemmas.Bool.{cases_lt}
use Rattle.std.proofs.lemmas.Bool.Decides.{nat_tests}
use Rattle.std.specs.Option.{option_map}
use Rattle.nr_linked.specs.declared.program.tables.MethodInfo.{MethodInfo}
use Rattle.nr_linked.specs.declared.program.types.VFrame.{VFrame}
use Rattle.nr_linked.specs.WellTyped.{map_at, mapped_frame}
use Rattle.nr_prog.specs.Offsets.{IsAscendingBy}
use Rattle.nr_verify.specs.Walking.{HasMapsInOrder}

first_match : {X : Type 0} (p : X → Bool) (x : X) (xs : List X) → p x ≡ true → find p (x ∷ xs) ≡ Some x
first_match p x xs e = ap (λ z. cond z (Some x) (find p xs)) e

no_match : {X : Type 0} (p : X → Bool) (x : X) (xs : List X) → p x ≡ false → find p (x ∷ xs) ≡ find p xs
no_match p x xs e = ap (λ z. cond z (Some x) (find p xs)) e

-- where an entry of this key stands, it is found
pub found_at : {X : Type 0} (key : X → ℕ) (t : ℕ) (xs : List X) (i : ℕ) (d : X) → IsAscendingBy key xs → i < length xs → key (get_or xs i d) ≡ t → find (λ x. eqb (key x) t) xs ≡ Some (get_or xs i d)
found_at key t [] i d up l e = absurd (omega arith)
found_at key t (x ∷ xs) zero d up l e = first_match (λ x. eqb (key x) t) x xs (eq-eqb (key x) t e)
found_at key t (x ∷ xs) (suc i) d up l e =
    let below : key x < key (get_or xs i d) = up 0 (suc i) d (omega arith) l in
    no_match (λ x. eqb (key x) t) x xs (grind (arith, nat_tests)) ∙ found_at key t xs i d (λ j k d l m. up (suc j) (suc k) d (omega arith) (omega arith)) (omega arith) e

-- where none has the key, none is found
none_found : {X : Type 0} (key : X → ℕ) (t : ℕ) (xs : List X) → ((k : ℕ) (d : X) → k < length xs → eqb (key (get_or xs k d)) t ≡ false) → find (λ x. eqb (key x) t) xs ≡ None
none_found key t [] h = refl
none_found key t (x ∷ xs) h = no_match (λ x. eqb (key x) t) x xs (h 0 x (omega arith)) ∙ none_found key t xs (λ k d l. h (suc k) d (omega arith))

module _ {X : Type 0} (key : X → ℕ) (xs : List X) (ascending : IsAscendingBy key xs) (t : ℕ) where
  rises : IsNonDecreasingBy (λ x. ordering_index (nat_cmp (key x) t)) xs
  rises i j d le within =
      let keys : key (get_or xs i d) ≤ key (get_or xs j d) = grind (arith, ascending i j d, λ (same : i ≡ j). ap (λ k. key (get_or xs k d)) same) in
      grind (arith, nat_tests)

  absent : (i : ℕ) → IsBinarySearchResult (λ x. nat_cmp (key x) t) xs (Err i) → (k : ℕ) (d : X) → k < length xs → eqb (key (get_or xs k d)) t ≡ false
  absent i parted k d within =
      elim (cases_lt k i) [
        | inl below ↦ let h = ranked (key (get_or xs k d)) t _ (sym ((parted rises).0 k d (omega arith) below)) in grind (arith, nat_tests, h)
        | inr up ↦ let h = ranked (key (get_or xs k d)) t _ (sym ((parted rises).1 k d up within)) in grind (arith, nat_tests, h)
      ]

  -- where the search finds none, there is none
  pub missed : (i : ℕ) → IsBinarySearchResult (λ x. nat_cmp (key x) t) xs (Err i) → find (λ x. eqb (key x) t) xs ≡ None
  missed i parted = none_found key t xs (λ k d l. absent i parted k d l)

-- ---- frame maps

module _ (m : MethodInfo) (at : ℕ) (ms : List (ℕ × VFrame)) (same : ms ≡ m.maps) (up : HasMapsInOrder m) where
  risen : IsAscendingBy (λ (e : ℕ × VFrame). e.0) ms
  risen = subst (λ ms. IsAscendingBy (λ (e : ℕ × VFrame). e.0) ms) (sym same) up

  pub map_found : (i : ℕ) (d : ℕ × VFrame) → i < length ms → nat_cmp (get_or ms i d).0 at ≡ Equal → Some (mapped_frame m (get_or ms i d).1) ≡ map_at m at
  map_found i d l e = sym (ap (λ ms. option_map (λ (e : ℕ × VFrame). mapped_frame m e.1) (find (λ (e : ℕ × VFrame). eqb e.0 at) ms)) (sym same)
      ∙ ap (λ o. option_map (λ (e : ℕ × VFrame). mapped_frame m e.1) o) (found_at (λ (e : ℕ × VFrame). e.0) at ms i d risen l (ranked (get_or ms i d).0 at _ (sym e))))

  pub map_missed : (i : ℕ) → IsBinarySearchResult (λ (e : ℕ × VFrame). nat_cmp e.0 at) ms (Err i) → None ≡ map_at m at
  map_missed i parted = sym (ap (λ ms. option_map (λ (e : ℕ × VFrame). mapped_frame m e.1) (find (λ (e : ℕ × VFrame). eqb e.0 at) ms)) (sym same)
      ∙ ap (λ o. option_map (λ (e : ℕ × VFrame). mapped_frame m e.1) o) (missed (λ (e : ℕ × VFrame). e.0) ms risen at i parted))
