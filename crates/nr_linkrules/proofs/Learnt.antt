-- What is known of classes that have no fault of the list of classes.
use Rattle.std.proofs.Common.{◌≡◌, ℕ, zero, suc, ◌+◌, ◌<◌, ◌≤◌, Bool, true, false, cond, List, [], ◌∷◌, ◌++◌, length, map, take, get_or, refl, sym, ap, subst, ◌∙◌, arith, not}
use Rattle.std.specs.Prelude.{Some, None, slice_get, nat_lt, nat_le}
use Rattle.std.specs.List.{list_any, position, position_or_len}
use Rattle.std.specs.Option.{option_or}
use Rattle.std.specs.Str.{bytes_eq}
use Rattle.std.proofs.lemmas.Bool.{leb-true, lt-ltb}
use Rattle.std.proofs.lemmas.List.{get_or_append_left, length-map}
use Rattle.std.proofs.lemmas.Option.{get_or_from_slice_get, slice_get-map, slice_get_within}
use Rattle.nr_prog.specs.declared.body.loaded.Loaded.{Loaded}
use Rattle.nr_links.specs.Rules.{is_reserved}
use Rattle.nr_linkrules.specs.ClassRules.{doubled_fault, limit_fault, list_fault, reserved_fault}
use Rattle.nr_linkrules.specs.Faults.{first_numbered, first_of}
use Rattle.nr_linkrules.specs.Outline.{names_of, number_in, own_name, own_names}
use Rattle.nr_linkrules.proofs.NameLaws.{turned}
use Rattle.nr_linkrules.proofs.NoFault.{both_none, each_numbered, each_of, is_false, passes}

-- ---- the first place at which a test passes

pub first_place : {X : Type 0} (p : X → Bool) (xs : List X) (k : ℕ) (d : X) → k < length xs → p (get_or xs k d) ≡ true → ((j : ℕ) → j < k → p (get_or xs j d) ≡ false) → position_or_len p xs ≡ k
first_place p [] k d lt here before = absurd (omega (arith, lt))
first_place p (x ∷ xs) zero d lt here before = ap (λ b. cond (not b) (1 + position_or_len p xs) 0) here
first_place p (x ∷ xs) (suc k) d lt here before =
    let rest = first_place p xs k d (omega (arith, lt)) here (λ j l. before (suc j) (omega (arith, l))) in
    let sum : 1 + position_or_len p xs ≡ suc k = omega (arith, rest) in
    ap (λ b. cond (not b) (1 + position_or_len p xs) 0) (before 0 (omega arith)) ∙ sum

pub position_is : {X : Type 0} (p : X → Bool) (xs : List X) (k : ℕ) → k < length xs → position_or_len p xs ≡ k → position p xs ≡ Some k
position_is p xs k lt e = (λ i. cond (nat_lt (e i) (length xs)) (Some (e i)) None) ∙ ap (λ b. cond b (Some k) None) (lt-ltb k (length xs) lt)

-- none of the first k passes
none_before : (p : List ℕ → Bool) (xs : List (List ℕ)) (k j : ℕ) (d : List ℕ) → list_any p (take k xs) ≡ false → j < k → j < length xs → p (get_or xs j d) ≡ false
none_before p xs zero j d none lt short = absurd (omega (arith, lt))
none_before p [] (suc k) j d none lt short = absurd (omega (arith, short))
none_before p (x ∷ xs) (suc k) zero d none lt short = head (p x) none
  where
    head : (b : Bool) → Rattle.std.proofs.Common.◌||◌ b (list_any p (take k xs)) ≡ false → b ≡ false
    head true e = absurd cc
    head false e = refl
none_before p (x ∷ xs) (suc k) (suc j) d none lt short = none_before p xs k j d (tail (p x) none) (omega (arith, lt)) (omega (arith, short))
  where
    tail : (b : Bool) → Rattle.std.proofs.Common.◌||◌ b (list_any p (take k xs)) ≡ false → list_any p (take k xs) ≡ false
    tail true e = absurd cc
    tail false e = e

pub itself : (name : List ℕ) → bytes_eq name name ≡ true
itself name = (Rattle.std.proofs.lemmas.Slice.Eq.bytes_eq-Decides name name).1 refl

module _ (classes : List Loaded) (none : list_fault classes ≡ None) where
  list_parts : (limit_fault classes ≡ None) × (option_or (first_of reserved_fault classes) (first_numbered (doubled_fault (own_names classes)) 0 classes) ≡ None)
  unfolding list_fault
  list_parts = both_none _ _ none

  -- there are at most 1,024 classes
  pub few : length classes ≤ 1024
  few = leb-true (length classes) 1024 (passes (nat_le (length classes) 1024) _ list_parts.0)

  -- no class has a name that is kept
  pub not_reserved : (k : ℕ) (l : Loaded) → slice_get classes k ≡ Some l → is_reserved (own_name l.«class») ≡ false
  not_reserved k l at =
      let each = each_of reserved_fault classes (both_none _ _ list_parts.1).0 k l at in
      is_false (is_reserved (own_name l.«class»)) (passes _ _ each)

  -- each class is the first of its name
  pub number : (k : ℕ) (l : Loaded) → slice_get classes k ≡ Some l → number_in (names_of classes) (own_name l.«class») ≡ Some k
  number k l at =
      let each = each_numbered (doubled_fault (own_names classes)) 0 classes (both_none _ _ list_parts.1).1 k k l (omega arith) at in
      let name = own_name l.«class» in
      let earlier = is_false (list_any (bytes_eq name) (take k (own_names classes))) (passes _ _ each) in
      let short = slice_get_within classes k l at in
      let count = length-map classes (λ (l : Loaded). own_name l.«class») in
      let lt : k < length (own_names classes) = omega (arith, short, count) in
      let here : get_or (own_names classes) k [] ≡ name = get_or_from_slice_get (own_names classes) k name [] (slice_get-map (λ (l : Loaded). own_name l.«class») classes k ∙ ap (Rattle.std.specs.Option.option_map (λ (l : Loaded). own_name l.«class»)) at) in
      let long : k < length (names_of classes) = longer k lt in
      position_is (λ n. bytes_eq n name) (names_of classes) k long
      (first_place (λ n. bytes_eq n name) (names_of classes) k [] long
      (ap (λ n. bytes_eq n name) (get_or_append_left (own_names classes) _ [] k lt ∙ here) ∙ itself name)
      (λ j l. let below : j < length (own_names classes) = omega (arith, lt, l) in
      ap (λ n. bytes_eq n name) (get_or_append_left (own_names classes) _ [] j below) ∙ turned (get_or (own_names classes) j []) name ∙ none_before (bytes_eq name) (own_names classes) k j [] earlier l below))
    where
      longer : (k : ℕ) → k < length (own_names classes) → k < length (names_of classes)
      longer k lt = let sum = Rattle.std.proofs.Common.length-append (own_names classes) (map (λ b. (Rattle.nr_linked.specs.BuiltIns.built_in_class b).name) Rattle.nr_linked.specs.BuiltInTables.built_ins) in omega (arith, lt, sum)
