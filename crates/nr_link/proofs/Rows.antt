-- Rows of what stands above, built one class after the other.
use Rattle.std.proofs.Common.{◌≡◌, ℕ, zero, suc, ◌+◌, ◌-◌, ◌<◌, ◌≤◌, ◌&&◌, ◌||◌, Bool, true, false, List, ◌∷◌, [], ◌++◌, length, map, get_or, drop, refl, sym, ap, ◌∙◌, arith}
use Rattle.std.specs.Prelude.{◌==◌}
use Rattle.std.specs.List.{list_any, range_with_len}
use Rattle.std.specs.Option.{option_map_or, option_to_list}
use Rattle.std.proofs.lemmas.Bool.{eqb-true, false_from_ne_true}
use Rattle.std.proofs.lemmas.Option.{slice_get_past}
use Rattle.nr_linked.specs.declared.program.tables.ClassInfo.{ClassInfo}
use Rattle.std.proofs.lemmas.List.FromFn.{get_or-map-range_with_len, length-map-range_with_len, map-range_with_len_more}
use Rattle.nr_linked.specs.declared.program.tables.ProgramTables.{ProgramTables}
use Rattle.nr_linkrules.specs.Reaches.{HasSteps, is_step, reaches, reaches_by, row_of, rows_of}

-- the first n of a row
abbrev pub part : ProgramTables → ℕ → ℕ → ℕ → List Bool
part P k c n = map (reaches_by P k c) (range_with_len 0 n)

pub part_more : (P : ProgramTables) (k c n : ℕ) (b : Bool) → reaches_by P k c n ≡ b → part P k c n ++ b ∷ [] ≡ part P k c (n + 1)
part_more P k c n b e = ap (λ b. part P k c n ++ b ∷ []) (sym e) ∙ sym (map-range_with_len_more (reaches_by P k c) 0 n n (omega arith))

pub at_first : (P : ProgramTables) (c d : ℕ) → reaches_by P 0 c d ≡ ((c == d) || is_step P c d)
unfolding reaches_by
at_first P c d = refl

pub row_length : (P : ProgramTables) (k c : ℕ) → length (row_of P k c) ≡ length P.classes
unfolding row_of
row_length P k c = length-map-range_with_len (reaches_by P k c) 0 (length P.classes)

pub row_at : (P : ProgramTables) (k c d : ℕ) (b : Bool) → d < length P.classes → get_or (row_of P k c) d b ≡ reaches_by P k c d
unfolding row_of
row_at P k c d b lt = get_or-map-range_with_len (reaches_by P k c) 0 (length P.classes) d d b lt (omega arith)

widened : (P : ProgramTables) (k c d : ℕ) → reaches_by P (suc k) c d ≡ (reaches_by P k c d || (reaches_by P k c k && reaches_by P k k d))
unfolding reaches_by
widened P k c d = refl

pub at_next : (P : ProgramTables) (k c d : ℕ) → reaches_by P (k + 1) c d ≡ (reaches_by P k c d || (reaches_by P k c k && reaches_by P k k d))
at_next P k c d = let e : k + 1 ≡ suc k = omega arith in ap (λ k. reaches_by P k c d) e ∙ widened P k c d

-- ---- all rows

abbrev pub parts : ProgramTables → ℕ → ℕ → List (List Bool)
parts P k n = map (row_of P k) (range_with_len 0 n)

pub parts_more : (P : ProgramTables) (k n : ℕ) → parts P k n ++ row_of P k n ∷ [] ≡ parts P k (n + 1)
parts_more P k n = sym (map-range_with_len_more (row_of P k) 0 n n (omega arith))

pub parts_grow : (P : ProgramTables) (k n : ℕ) (out longer : List (List Bool)) (row : List Bool) → longer ≡ out ++ row ∷ [] → row ≡ row_of P k n → out ≡ parts P k n
    → longer ≡ parts P k (n + 1)
parts_grow P k n out longer row e is so_far = e ∙ (λ i. so_far i ++ is i ∷ []) ∙ parts_more P k n

pub parts_all : (P : ProgramTables) (k n : ℕ) (out : List (List Bool)) → n ≡ length P.classes → out ≡ parts P k n → out ≡ rows_of P k
unfolding rows_of
parts_all P k n out e so_far = so_far ∙ ap (parts P k) e

pub rows_length : (P : ProgramTables) (k : ℕ) → length (rows_of P k) ≡ length P.classes
unfolding rows_of
rows_length P k = length-map-range_with_len (row_of P k) 0 (length P.classes)

pub rows_at : (P : ProgramTables) (k c : ℕ) (r : List Bool) → c < length P.classes → get_or (rows_of P k) c r ≡ row_of P k c
unfolding rows_of
rows_at P k c r lt = get_or-map-range_with_len (row_of P k) 0 (length P.classes) c c r lt (omega arith)

-- rows that are left, from one on
pub all_left : (P : ProgramTables) (k : ℕ) (rows : List (List Bool)) → rows ≡ rows_of P k → rows ≡ map (row_of P k) (range_with_len 0 (length P.classes - 0))
unfolding rows_of
all_left P k rows e = let n : length P.classes - 0 ≡ length P.classes = omega arith in e ∙ ap (λ n. map (row_of P k) (range_with_len 0 n)) (sym n)

module _ {X : Type 0} (f : ℕ → X) (i n : ℕ) (x : X) (before after : List X) (lt : i < n) (is : before ≡ x ∷ after)
    (left : before ≡ map f (range_with_len i (n - i))) where
  first_left : x ∷ after ≡ f i ∷ map f (range_with_len (i + 1) (n - (i + 1)))
  first_left = sym is ∙ left ∙ ap (λ k. map f (range_with_len i k)) more
    where
      more : n - i ≡ suc (n - (i + 1))
      more = omega (arith, lt)

  pub this_left : x ≡ f i
  this_left = ap (λ xs. get_or xs 0 x) first_left

  pub others_left : after ≡ map f (range_with_len (i + 1) (n - (i + 1)))
  others_left = ap (drop 1) first_left

-- a row stays where the class more isn't above
pub kept : (P : ProgramTables) (k c : ℕ) → reaches_by P k c k ≡ Rattle.std.proofs.Common.false → row_of P k c ≡ row_of P (k + 1) c
unfolding row_of
kept P k c none = λ i. map (Rattle.nr_links.proofs.OneNames.same_functions (reaches_by P k c) (reaches_by P (k + 1) c) same i) (range_with_len 0 (length P.classes))
  where
    or_none : (b : Bool) → (b || Rattle.std.proofs.Common.false) ≡ b
    or_none Rattle.std.proofs.Common.true = refl
    or_none Rattle.std.proofs.Common.false = refl

    same : (d : ℕ) → reaches_by P k c d ≡ reaches_by P (k + 1) c d
    same d = sym (at_next P k c d ∙ ap (λ b. reaches_by P k c d || (b && reaches_by P k k d)) none ∙ or_none (reaches_by P k c d))

-- ---- numbers that name no class

or_false : (b : Bool) → (b || false) ≡ b
or_false true = refl
or_false false = refl

both_false : (a b : Bool) → a ≡ false → b ≡ false → (a || b) ≡ false
both_false a b e f = ap (λ a. a || b) e ∙ f

second_false : (a b : Bool) → b ≡ false → (a && b) ≡ false
second_false true b e = e
second_false false b e = refl

apart : (c k : ℕ) → k < c → (c == k) ≡ false
apart c k lt = false_from_ne_true (c == k) (λ e. let same = eqb-true c k e in absurd (omega (arith, same, lt)))

apart_up : (c k : ℕ) → c < k → (c == k) ≡ false
apart_up c k lt = false_from_ne_true (c == k) (λ e. let same = eqb-true c k e in absurd (omega (arith, same, lt)))

module _ (P : ProgramTables) where
  no_step : (c d : ℕ) → length P.classes ≤ c → is_step P c d ≡ false
  no_step c d le =
      ap (λ o. list_any (λ s. s == d) (option_map_or (λ (e : ClassInfo). option_to_list e.super_class ++ e.interfaces) o []))
      (slice_get_past P.classes c le)

  outside_by : (k c d : ℕ) → k ≤ length P.classes → length P.classes ≤ c → reaches_by P k c d ≡ (c == d)
  outside_by zero c d short le = at_first P c d ∙ ap (λ b. (c == d) || b) (no_step c d le) ∙ or_false (c == d)
  outside_by (suc k) c d short le =
      let less : k < c = omega (arith, short, le) in
      let before = outside_by k c d (omega (arith, short)) le in
      let pivot = outside_by k c k (omega (arith, short)) le ∙ apart c k less in
      widened P k c d ∙ ap (λ b. b || (reaches_by P k c k && reaches_by P k k d)) before
      ∙ ap (λ b. (c == d) || (b && reaches_by P k k d)) pivot ∙ or_false (c == d)

  inside_by : (k c d : ℕ) → HasSteps P → k ≤ length P.classes → c < length P.classes → length P.classes ≤ d → reaches_by P k c d ≡ false
  inside_by zero c d short le lt past =
      at_first P c d ∙ both_false (c == d) (is_step P c d) (apart_up c d (omega (arith, lt, past)))
      (false_from_ne_true (is_step P c d) (λ e. let within = short c d e in absurd (omega (arith, within, past))))
  inside_by (suc k) c d short le lt past =
      widened P k c d ∙ both_false (reaches_by P k c d) (reaches_by P k c k && reaches_by P k k d)
      (inside_by k c d short (omega (arith, le)) lt past)
      (second_false (reaches_by P k c k) (reaches_by P k k d) (inside_by k k d short (omega (arith, le)) (omega (arith, le)) past))

  pub outside_row : (c d : ℕ) → length P.classes ≤ c → reaches P c d ≡ (c == d)
  outside_row c d le = outside_by (length P.classes) c d (omega arith) le

  pub outside_bit : (c d : ℕ) → HasSteps P → c < length P.classes → length P.classes ≤ d → reaches P c d ≡ false
  outside_bit c d short lt le = inside_by (length P.classes) c d short (omega arith) lt le
