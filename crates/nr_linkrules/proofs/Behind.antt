-- Numbers that stand behind n others, in tests and lists.
use Rattle.std.proofs.Common.{◌≡◌, ℕ, zero, suc, ◌+◌, ◌≤◌, Bool, true, false, cond, find, List, [], ◌∷◌, map, refl, sym, ap, ◌∙◌, arith, inl, inr, ◌&&◌, ◌||◌}
use Rattle.std.specs.Prelude.{Some, IsTrue, ◌==◌, nat_lt}
use Rattle.std.specs.List.{list_all, list_any, range_with_len}
use Rattle.std.specs.Option.{option_map}
use Rattle.std.proofs.lemmas.Bool.{cases_Bool, cases_lt, eq-eqb, eqb-false, eqb-true, false_from_ne_true, lt-ltb, ltb-true, or_cases, or_left, or_right}
use Rattle.nr_linked.proofs.Listed.{is_listed}

pub not_below : (a b : ℕ) → b ≤ a → nat_lt a b ≡ false
not_below a b le = false_from_ne_true (nat_lt a b) (λ e. let lt = ltb-true a b e in omega (arith, le, lt))

pub lt_behind : (n a b : ℕ) → nat_lt (n + a) (n + b) ≡ nat_lt a b
lt_behind n a b = elim (cases_lt a b) [
  | inl lt ↦ lt-ltb (n + a) (n + b) (omega (arith, lt)) ∙ sym (lt-ltb a b lt)
  | inr le ↦ not_below (n + a) (n + b) (omega (arith, le)) ∙ sym (not_below a b le)
]

pub eq_behind : (n a b : ℕ) → ((n + a) == (n + b)) ≡ (a == b)
eq_behind n a b = elim (cases_Bool (a == b)) [
  | inl e ↦ eq-eqb (n + a) (n + b) (ap (λ a. n + a) (eqb-true a b e)) ∙ sym e
  | inr ne ↦ let apart = eqb-false a b ne in false_from_ne_true ((n + a) == (n + b)) (λ e. let same = eqb-true (n + a) (n + b) e in apart (omega (arith, same))) ∙ sym ne
]

pub any_behind : {X Y : Type 0} (f : Y → Bool) (g : X → Y) (h : X → Bool) → ((x : X) → f (g x) ≡ h x) → (xs : List X) → list_any f (map g xs) ≡ list_any h xs
any_behind f g h same [] = refl
any_behind f g h same (x ∷ xs) = λ i. same x i || any_behind f g h same xs i

pub all_behind : {X Y : Type 0} (f : Y → Bool) (g : X → Y) (h : X → Bool) → ((x : X) → f (g x) ≡ h x) → (xs : List X) → list_all f (map g xs) ≡ list_all h xs
all_behind f g h same [] = refl
all_behind f g h same (x ∷ xs) = λ i. same x i && all_behind f g h same xs i

pub range_behind : (n a k : ℕ) → range_with_len (n + a) k ≡ map (λ x. n + x) (range_with_len a k)
range_behind n a zero = refl
range_behind n a (suc k) = let e : n + a + 1 ≡ n + (a + 1) = omega arith in ap (λ (ys : List ℕ). (n + a) ∷ ys) (ap (λ b. range_with_len b k) e ∙ range_behind n (a + 1) k)

pub find_behind : (f h : ℕ → Bool) (n : ℕ) → ((x : ℕ) → f (n + x) ≡ h x) → (xs : List ℕ) → find f (map (λ x. n + x) xs) ≡ option_map (λ x. n + x) (find h xs)
find_behind f h n same [] = refl
find_behind f h n same (x ∷ xs) = (λ i. cond (same x i) (Some (n + x)) (find_behind f h n same xs i)) ∙ of_test (h x)
  where
    of_test : (b : Bool) → cond b (Some (n + x)) (option_map (λ x. n + x) (find h xs)) ≡ option_map (λ x. n + x) (cond b (Some x) (find h xs))
    of_test true = refl
    of_test false = refl

pub listed_behind : (n d : ℕ) (xs : List ℕ) → IsTrue (is_listed d (map (λ x. n + x) xs)) → (x : ℕ) × (d ≡ n + x) × IsTrue (is_listed x xs)
listed_behind n d [] p = absurd cc
listed_behind n d (x ∷ xs) p = elim (or_cases ((n + x) == d) (is_listed d (map (λ x. n + x) xs)) p) [
  | inl e ↦ (x, sym (eqb-true (n + x) d e), or_left (x == x) (is_listed x xs) (eq-eqb x x refl))
  | inr q ↦ let r = listed_behind n d xs q in (r.0, r.1, or_right (x == r.0) (is_listed r.0 xs) r.2)
]
