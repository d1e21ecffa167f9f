-- A search through the methods of a class and its superclasses. What is left of the search gives the total result.
use Rattle.std.proofs.Common.{◌≡◌, ℕ, Bool, true, false, List, [], ◌∷◌, ◌++◌, find, Option, Some, None, refl, sym, ap, ◌∙◌, cond}
use Rattle.std.specs.List.{flat_map}
use Rattle.std.specs.Option.{option_map}

find_first : (test : ℕ → Bool) (xs ys : List ℕ) (m : ℕ) → find test xs ≡ Some m → find test (xs ++ ys) ≡ Some m
find_first test [] ys m e = absurd (cc)
find_first test (x ∷ xs) ys m e = at_first (test x) (find test xs) (find test (xs ++ ys)) e (find_first test xs ys m)
  where
    at_first : (b : Bool) (f g : Option ℕ) → cond b (Some x) f ≡ Some m → (f ≡ Some m → g ≡ Some m) → cond b (Some x) g ≡ Some m
    at_first true f g e rest = e
    at_first false f g e rest = rest e

find_second : (test : ℕ → Bool) (xs ys : List ℕ) → find test xs ≡ None → find test (xs ++ ys) ≡ find test ys
find_second test [] ys e = refl
find_second test (x ∷ xs) ys e = at_first (test x) (find test xs) (find test (xs ++ ys)) e (find_second test xs ys)
  where
    clash : Some x ≡ None → ⊥
    clash e = cc

    at_first : (b : Bool) (f g : Option ℕ) → cond b (Some x) f ≡ None → (f ≡ None → g ≡ find test ys) → cond b (Some x) g ≡ find test ys
    at_first true f g e rest = absurd (clash e)
    at_first false f g e rest = rest e

pub option_itself : (o : Option ℕ) → option_map (λ x. x) o ≡ o
option_itself None = refl
option_itself (Some x) = refl

pub goes_on : (of : ℕ → List ℕ) (test : ℕ → Bool) (c : ℕ) (left later : List ℕ) (total : Option ℕ) → left ≡ c ∷ later
    → find test (of c) ≡ None → find test (flat_map of left) ≡ total → find test (flat_map of later) ≡ total
goes_on of test c left later total step none so_far =
    sym (find_second test (of c) (flat_map of later) none) ∙ ap (λ cs. find test (flat_map of cs)) (sym step) ∙ so_far

pub stops : (of : ℕ → List ℕ) (test : ℕ → Bool) (c : ℕ) (left later : List ℕ) (total : Option ℕ) (m : ℕ) → left ≡ c ∷ later
    → find test (of c) ≡ Some m → find test (flat_map of left) ≡ total → Some m ≡ total
stops of test c left later total m step some so_far =
    sym (find_first test (of c) (flat_map of later) m some) ∙ ap (λ cs. find test (flat_map of cs)) (sym step) ∙ so_far
