-- Where no class stands above itself, each class has a rank, which falls with each step up; so a walk upward ends.
use Rattle.std.proofs.Common.{◌≡◌, ℕ, zero, suc, ◌+◌, ◌<◌, ◌≤◌, ◌⊎◌, inl, inr, Bool, true, false, List, [], ◌∷◌, length, refl, sym, ap, subst, arith, ◌&&◌, not}
use Rattle.std.specs.Prelude.{Some, IsTrue, ◌==◌, if◌then◌else◌}
use Rattle.std.specs.List.{list_any}
use Rattle.std.proofs.lemmas.Bool.{and_from, and_parts, both_ways, cases_Bool, eq-eqb, eqb-true, false_from_ne_true, or_left, or_right}
use Rattle.nr_linked.specs.declared.program.tables.ProgramTables.{ProgramTables}
use Rattle.nr_linked.specs.Programs.{class_at, super_of, upward}
use Rattle.nr_linked.specs.Subtypes.{Above, further, itself}
use Rattle.nr_linked.proofs.Listed.{is_listed}
use Rattle.nr_links.proofs.Reaching.{direct_step}
use Rattle.nr_linked.proofs.Ascents.{super_step}
use Rattle.nr_linkrules.specs.ClassRules.{is_above_itself}
use Rattle.nr_linkrules.specs.Reaches.{HasSteps, is_step, reaches, steps_up}
use Rattle.nr_linkrules.proofs.Reached.{reaches_above}

-- ---- counting

abbrev one : Bool → ℕ
one b = if b then 1 else 0

-- how many of the numbers below n pass the test
count : (ℕ → Bool) → ℕ → ℕ
count f zero = 0
count f (suc n) = one (f n) + count f n

one_less : (a b : Bool) → (IsTrue a → IsTrue b) → one a ≤ one b
one_less true true h = omega arith
one_less true false h = absurd (let e = h refl in cc)
one_less false b h = omega arith

at_most : (f g : ℕ → Bool) (n : ℕ) → ((d : ℕ) → d < n → IsTrue (f d) → IsTrue (g d)) → count f n ≤ count g n
unfolding count
at_most f g zero h = omega arith
at_most f g (suc n) h =
    let rest = at_most f g n (λ d lt. h d (omega (arith, lt))) in
    let here = one_less (f n) (g n) (h n (omega arith)) in
    omega (arith, rest, here)

fewer : (f g : ℕ → Bool) (n x : ℕ) → ((d : ℕ) → d < n → IsTrue (f d) → IsTrue (g d)) → x < n → f x ≡ false → g x ≡ true → count f n < count g n
unfolding count
fewer f g zero x h lt off on = absurd (omega (arith, lt))
fewer f g (suc n) x h lt off on = elim (last x n lt) [
  | inl e ↦
      let rest = at_most f g n (λ d lt. h d (omega (arith, lt))) in
      let a = subst (λ x. f x ≡ false) e off in
      let b = subst (λ x. g x ≡ true) e on in
      let p : one (f n) ≡ 0 = ap one a in
      let q : one (g n) ≡ 1 = ap one b in
      omega (arith, rest, p, q)
  | inr l ↦
      let rest = fewer f g n x (λ d lt. h d (omega (arith, lt))) l off on in
      let here = one_less (f n) (g n) (h n (omega arith)) in
      omega (arith, rest, here)
]
  where
    last : (x n : ℕ) → x < suc n → (x ≡ n) ⊎ (x < n)
    last x n lt = grind arith

all_count : (n : ℕ) → count (λ d. true) n ≡ n
unfolding count
all_count zero = refl
all_count (suc n) = let rest = all_count n in omega (arith, rest)

-- ---- ranks

module _ (P : ProgramTables) (short : HasSteps P) (none : (c : ℕ) → is_above_itself P c ≡ false) where
  -- d stands above c, and is another class
  apart : ℕ → ℕ → Bool
  apart c d = reaches P c d && not (d == c)

  -- how many other classes stand above the class
  pub rank : ℕ → ℕ
  rank c = count (apart c) (length P.classes)

  pub no_cycle : (c s : ℕ) → IsTrue (is_step P c s) → IsTrue (reaches P s c) → ⊥
  no_cycle c s step back = both_ways (is_above_itself P c) (none c) (found (steps_up P c) step)
    where
      found : (ss : List ℕ) → IsTrue (is_listed s ss) → IsTrue (list_any (λ s. reaches P s c) ss)
      found [] p = absurd cc
      found (t ∷ ss) p = elim (Rattle.std.proofs.lemmas.Bool.or_cases (t == s) (is_listed s ss) p) [
        | inl e ↦ or_left (reaches P t c) _ (subst (λ s. IsTrue (reaches P s c)) (sym (eqb-true t s e)) back)
        | inr q ↦ or_right (reaches P t c) _ (found ss q)
      ]

  away : (c d : ℕ) → (d ≡ c → ⊥) → IsTrue (not (d == c))
  away c d h = ap not (false_from_ne_true (d == c) (λ e. h (eqb-true d c e)))

  self_apart : (c : ℕ) → apart c c ≡ false
  unfolding apart
  self_apart c = false_from_ne_true (apart c c) (λ p. let both = and_parts (reaches P c c) (not (c == c)) p in let same = eq-eqb c c refl in absurd cc)

  pub rank_falls : (c s : ℕ) → IsTrue (is_step P c s) → rank s < rank c
  unfolding rank apart
  rank_falls c s step =
      let up = λ (d : ℕ) (p : Above P s d). (reaches_above P short c d).1 (further (Rattle.nr_links.proofs.Reaching.step_direct (class_at P c) s step) p) in
      fewer (apart s) (apart c) (length P.classes) s
      (λ d lt p. let both = and_parts (reaches P s d) (not (d == s)) p in
      and_from (reaches P c d) (not (d == c)) (up d ((reaches_above P short s d).0 both.0)) (away c d (λ e. no_cycle c s step (subst (λ d. IsTrue (reaches P s d)) e both.0))))
      (short c s step) (self_apart s)
      (and_from (reaches P c s) (not (s == c)) (up s itself) (away c s (λ e. no_cycle c s step (subst (λ c. IsTrue (reaches P s c)) e ((reaches_above P short s s).1 itself)))))

  pub rank_short : (c : ℕ) → c < length P.classes → rank c < length P.classes
  unfolding rank
  rank_short c lt =
      let less = fewer (apart c) (λ d. true) (length P.classes) c (λ d lt p. refl) lt (self_apart c) refl in
      subst (λ n. count (apart c) (length P.classes) < n) (all_count (length P.classes)) less

  -- ---- walks upward end

  -- where each class but the root has a superclass, the walk upward meets the root
  pub meets : (root : ℕ) → ((c : ℕ) → c < length P.classes → (c == root) ≡ false → (s : ℕ) × (super_of P c ≡ Some s)) → (m c : ℕ) → c < length P.classes → rank c < m → IsTrue (list_any (λ d. d == root) (upward P m (Some c)))
  meets root super zero c lt l = absurd (omega (arith, l))
  meets root super (suc m) c lt l = elim (cases_Bool (c == root)) [
    | inl e ↦ or_left (c == root) _ e
    | inr ne ↦
        let s = super c lt ne in
        let step = direct_step (class_at P c) s.0 (super_step P c s.0 s.1) in
        let falls = rank_falls c s.0 step in
        or_right (c == root) _ (subst (λ o. IsTrue (list_any (λ d. d == root) (upward P m o))) (sym s.1) (meets root super m s.0 (short c s.0 step) (omega (arith, falls, l))))
  ]
