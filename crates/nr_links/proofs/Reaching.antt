-- What stands above a class, step by step, and by a check of all classes of a program.
use Rattle.std.proofs.Common.{◌≡◌, ℕ, zero, suc, ◌<◌, ◌⊎◌, inl, inr, Bool, false, List, [], ◌∷◌, ◌++◌, refl, subst, ◌&&◌}
use Rattle.std.specs.Prelude.{Option, Some, None, IsTrue, Contains, ◌==◌, ◌↔◌, nat_lt}
use Rattle.std.specs.List.{list_any, list_all, flat_map}
use Rattle.std.specs.Option.{IsSomeAnd, option_map_or, option_to_list}
use Rattle.std.proofs.lemmas.Bool.{and_parts, eq-eqb, eqb-true, ltb-true, or_cases, or_left, or_right}
use Rattle.nr_linked.specs.declared.program.tables.ClassInfo.{ClassInfo}
use Rattle.nr_linked.specs.declared.program.tables.ProgramTables.{ProgramTables}
use Rattle.nr_linked.specs.Programs.{class_at}
use Rattle.nr_linked.specs.Subtypes.{Above, IsDirectlyAbove, further, is_above, itself}
use Rattle.nr_linked.proofs.Listed.{all_below, at_below, contains_listed, is_listed, listed_all, listed_append, listed_contains}

-- ---- the steps up from a class

abbrev pub steps_of : ClassInfo → List ℕ
steps_of e = option_to_list e.super_class ++ e.interfaces

abbrev pub steps_up : ProgramTables → ℕ → List ℕ
steps_up P c = option_map_or steps_of (class_at P c) []

abbrev pub supers_of : ProgramTables → ℕ → List ℕ
supers_of P c = option_map_or (λ e. e.supers) (class_at P c) []

pub direct_step : (o : Option ClassInfo) (s : ℕ) → IsSomeAnd o (λ e. (e.super_class ≡ Some s) ⊎ Contains e.interfaces s) → IsTrue (is_listed s (option_map_or steps_of o []))
direct_step None s h = absurd h
direct_step (Some e) s h = of_entry e.super_class e.interfaces h
  where
    of_entry : (o : Option ℕ) (is : List ℕ) → (o ≡ Some s) ⊎ Contains is s → IsTrue (is_listed s (option_to_list o ++ is))
    of_entry None is (inl q) = absurd cc
    of_entry None is (inr c) = listed_contains s is c
    of_entry (Some a) is (inl q) = let same : a ≡ s = cc in or_left (a == s) (is_listed s is) (eq-eqb a s same)
    of_entry (Some a) is (inr c) = or_right (a == s) (is_listed s is) (listed_contains s is c)

pub step_direct : (o : Option ClassInfo) (s : ℕ) → IsTrue (is_listed s (option_map_or steps_of o [])) → IsSomeAnd o (λ e. (e.super_class ≡ Some s) ⊎ Contains e.interfaces s)
step_direct None s h = absurd cc
step_direct (Some e) s h = of_entry e.super_class e.interfaces h
  where
    of_entry : (o : Option ℕ) (is : List ℕ) → IsTrue (is_listed s (option_to_list o ++ is)) → (o ≡ Some s) ⊎ Contains is s
    of_entry None is p = inr (contains_listed s is p)
    of_entry (Some a) is p = elim (or_cases (a == s) (is_listed s is) p) [
      | inl q ↦ let same = eqb-true a s q in inl cc
      | inr q ↦ inr (contains_listed s is q)
    ]

-- ---- a check that `supers` lists what stands above, for the classes below n

-- what is at most k steps up
abbrev pub within : ProgramTables → ℕ → ℕ → List ℕ
within P zero c = c ∷ []
within P (suc k) c = c ∷ flat_map (within P k) (steps_up P c)

abbrev pub is_closed_at : ProgramTables → ℕ → ℕ → Bool
is_closed_at P n c = is_above P c c && list_all (λ s. nat_lt s n && list_all (is_above P c) (supers_of P s)) (steps_up P c)

abbrev pub is_reached_at : ProgramTables → ℕ → ℕ → Bool
is_reached_at P k c = list_all (λ d. is_listed d (within P k c)) (supers_of P c)

above_super : (P : ProgramTables) (c d : ℕ) → IsTrue (is_above P c d) → IsTrue (is_listed d (supers_of P c))
above_super P c d p = of_entry (class_at P c) p
  where
    of_entry : (o : Option ClassInfo) → IsTrue (option_map_or (λ e. list_any (λ s. s == d) e.supers) o false) → IsTrue (is_listed d (option_map_or (λ e. e.supers) o []))
    of_entry None p = absurd cc
    of_entry (Some e) p = p

module _ (P : ProgramTables) (k d : ℕ) (up : (s : ℕ) → IsTrue (is_listed d (within P k s)) → Above P s d) (c : ℕ) where
  through : (ss : List ℕ) → ((s : ℕ) → IsTrue (is_listed s ss) → IsDirectlyAbove P c s) → IsTrue (is_listed d (flat_map (within P k) ss)) → Above P c d
  through [] direct e = absurd cc
  through (s ∷ ss) direct e = elim (listed_append d (within P k s) (flat_map (within P k) ss) e) [
    | inl p ↦ further (direct s (or_left (s == s) (is_listed s ss) (eq-eqb s s refl))) (up s p)
    | inr q ↦ through ss (λ t l. direct t (or_right (s == t) (is_listed t ss) l)) q
  ]

within_above : (P : ProgramTables) (k c d : ℕ) → IsTrue (is_listed d (within P k c)) → Above P c d
within_above P zero c d e = elim (or_cases (c == d) false e) [ inl p ↦ subst (λ d. Above P c d) (eqb-true c d p) itself | inr q ↦ absurd cc ]
within_above P (suc k) c d e = elim (or_cases (c == d) (is_listed d (flat_map (within P k) (steps_up P c))) e) [
  | inl p ↦ subst (λ d. Above P c d) (eqb-true c d p) itself
  | inr q ↦ through P k d (λ s. within_above P k s d) c (steps_up P c) (λ s l. step_direct (class_at P c) s l) q
]

module _ (P : ProgramTables) (n k : ℕ) (closed : IsTrue (all_below n (is_closed_at P n))) (reached : IsTrue (all_below n (is_reached_at P k))) where
  above_listed : (c d : ℕ) → Above P c d → c < n → IsTrue (is_above P c d)
  above_listed c d itself l = (and_parts (is_above P c c) _ (at_below n (is_closed_at P n) closed c l)).0
  above_listed c d (further {s = s} step rest) l =
      let check = (and_parts (is_above P c c) _ (at_below n (is_closed_at P n) closed c l)).1 in
      let one = and_parts (nat_lt s n) _ (listed_all (λ s. nat_lt s n && list_all (is_above P c) (supers_of P s)) s (steps_up P c) (direct_step (class_at P c) s step) check) in
      listed_all (is_above P c) d (supers_of P s) (above_super P s d (above_listed s d rest (ltb-true s n one.0))) one.1

  pub supers_by_check : (c : ℕ) → c < n → (d : ℕ) → IsTrue (is_above P c d) ↔ Above P c d
  supers_by_check c l d = (
    λ p. within_above P k c d (listed_all (λ d. is_listed d (within P k c)) d (supers_of P c) (above_super P c d p) (at_below n (is_reached_at P k) reached c l)),
    λ a. above_listed c d a l,
  )
