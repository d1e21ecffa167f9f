-- The stream has each slot of an object in just one place.
use Rattle.std.proofs.Common.{◌≡◌, ℕ, zero, suc, ◌+◌, ◌<◌, ◌≤◌, Bool, true, not, List, [], ◌∷◌, length, reverse, refl, sym, ap, ◌∙◌, ◌⊎◌, inl, inr, arith}
use Rattle.std.specs.Prelude.{Option, Some, slice_get, ◌==◌}
use Rattle.std.specs.List.{filter, flat_map}
use Rattle.std.specs.Option.{option_map}
use Rattle.std.proofs.lemmas.Bool.{cases_eq, eq-eqb, ne_eqb}
use Rattle.nr_linked.specs.declared.program.tables.ProgramTables.{ProgramTables}
use Rattle.nr_linked.specs.declared.program.tables.SlotInfo.{SlotInfo}
use Rattle.nr_linked.specs.Kinds.{class_kind}
use Rattle.nr_linked.specs.Linked.{Linked}
use Rattle.nr_linked.specs.Programs.{superclasses}
use Rattle.nr_linked.specs.Slots.{slots_of}
use Rattle.nr_model.proofs.Paths.{none_some, some_eq}
use Rattle.nr_graph.specs.Sorted.{sorted}
use Rattle.nr_graph.specs.StreamOrder.{Placed, placed, is_before, holds_reference, declared_slots, stream_slots, stream_place}
use Rattle.nr_graph.proofs.Ascent.{superclasses_once, superclass_declares}
use Rattle.nr_graph.proofs.Tallies.{one_if, tally, tally_both, tally_reverse, tally_sorted, tally_parts, in_parts, all_in_parts, tally_all, tally_once}

-- ---- slots with their places

placed_at : (b i : ℕ) (ss : List SlotInfo) (a : Placed) → slice_get (placed b ss) i ≡ Some a → slice_get ss i ≡ Some a.1
placed_at b i [] a e = absurd (none_some e)
placed_at b zero (s ∷ ss) a e = ap (λ (a : Placed). Some a.1) (some_eq e)
placed_at b (suc i) (s ∷ ss) a e = placed_at (suc b) i ss a e

placed_long : (b : ℕ) (ss : List SlotInfo) → length (placed b ss) ≡ length ss
placed_long b [] = refl
placed_long b (s ∷ ss) = ap suc (placed_long (suc b) ss)

abbrev pub has_place : ℕ → Placed → Bool
has_place i a = i == a.0

none_below : (b i : ℕ) (ss : List SlotInfo) → i < b → tally (has_place i) (placed b ss) ≡ 0
none_below b i [] l = refl
none_below b i (s ∷ ss) l =
    let r = none_below (suc b) i ss (omega arith) in
    ap (λ t. one_if t + tally (has_place i) (placed (suc b) ss)) (ne_eqb i b (λ e. omega arith)) ∙ omega (arith, r)

one_placed : (b i : ℕ) (ss : List SlotInfo) → b ≤ i → i < b + length ss → tally (has_place i) (placed b ss) ≡ 1
one_placed b i [] l h = absurd (omega arith)
one_placed b i (s ∷ ss) l h = by (cases_eq i b) (λ m. one_placed (suc b) i ss m (omega arith))
  where
    by : (i ≡ b) ⊎ (i ≡ b → ⊥) → (suc b ≤ i → tally (has_place i) (placed (suc b) ss) ≡ 1) → tally (has_place i) (placed b (s ∷ ss)) ≡ 1
    by (inl e) rest =
        let r = none_below (suc b) i ss (omega arith) in
        ap (λ t. one_if t + tally (has_place i) (placed (suc b) ss)) (eq-eqb i b e) ∙ omega (arith, r)
    by (inr ne) rest =
        let r = rest (omega arith) in
        ap (λ t. one_if t + tally (has_place i) (placed (suc b) ss)) (ne_eqb i b ne) ∙ omega (arith, r)

-- ---- all of them

module _ (P : ProgramTables) (linked : Linked P) (c : ℕ) where
  abbrev all : List Placed
  all = placed 0 (slots_of P c)

  abbrev declares : ℕ → Placed → Bool
  declares d a = a.1.declared_in == d

  declared_tally : (p : Placed → Bool) (d : ℕ) → tally p (declared_slots P c d) ≡ tally p (filter (declares d) all)
  declared_tally p d =
      let own = filter (declares d) all in
      let one = tally_both p (sorted is_before (filter (λ a. not (holds_reference a)) own)) (sorted is_before (filter holds_reference own)) in
      let two = tally_sorted p is_before (filter (λ a. not (holds_reference a)) own) in
      let three = tally_sorted p is_before (filter holds_reference own) in
      let four = tally_parts p holds_reference own in
      omega (arith, one, two, three, four)

  flat_tally : (p : Placed → Bool) (ds : List ℕ) → tally p (flat_map (declared_slots P c) ds) ≡ in_parts p declares all ds
  flat_tally p [] = refl
  flat_tally p (d ∷ ds) =
      let b = tally_both p (declared_slots P c d) (flat_map (declared_slots P c) ds) in
      let o = declared_tally p d in
      let r = flat_tally p ds in
      omega (arith, b, o, r)

  -- whatever is counted, the stream has xs many xs the object
  pub stream_tally : (p : Placed → Bool) → tally p (stream_slots P c) ≡ tally p all
  stream_tally p = flat_tally p (reverse (superclasses P c)) ∙ all_in_parts p declares (reverse (superclasses P c)) all (λ i a e.
      let s = placed_at 0 i (slots_of P c) a e in
      tally_reverse (λ d. declares d a) (superclasses P c) ∙ tally_once (superclasses P c) a.1.declared_in (superclasses_once P linked c i a.1 s) (superclass_declares P linked c i a.1 s))

  pub stream_long : length (stream_slots P c) ≡ length (slots_of P c)
  stream_long = sym (tally_all (stream_slots P c)) ∙ stream_tally (λ a. true) ∙ tally_all all ∙ placed_long 0 (slots_of P c)

  -- ---- places in the stream

  abbrev place_at : List Placed → ℕ → Option ℕ
  place_at xs k = option_map (λ a. a.0) (slice_get xs k)

  none_there : (i : ℕ) (xs : List Placed) (k : ℕ) → tally (has_place i) xs ≡ 0 → place_at xs k ≡ Some i → ⊥
  none_there i [] k t e = none_some e
  none_there i (a ∷ xs) zero t e = absurd (omega (arith, t, ap one_if (eq-eqb i a.0 (sym (some_eq e)))))
  none_there i (a ∷ xs) (suc k) t e = none_there i xs k (rest (has_place i a) t) e
    where
      rest : (b : Bool) → one_if b + tally (has_place i) xs ≡ 0 → tally (has_place i) xs ≡ 0
      rest b t = omega (arith, t)

  abbrev pub InOnePlace : ℕ → List Placed → Type 0
  InOnePlace i xs = (k : ℕ) × (k < length xs) × (place_at xs k ≡ Some i) × ((l : ℕ) → place_at xs l ≡ Some i → l ≡ k)

  one_there : (i : ℕ) (xs : List Placed) → tally (has_place i) xs ≡ 1 → InOnePlace i xs
  one_there i [] t = absurd (omega (arith, t))
  one_there i (a ∷ xs) t = by (cases_eq i a.0) (one_there i xs)
    where
      by : (i ≡ a.0) ⊎ (i ≡ a.0 → ⊥) → (tally (has_place i) xs ≡ 1 → InOnePlace i xs) → InOnePlace i (a ∷ xs)
      by (inl e) rest =
          let here = ap one_if (eq-eqb i a.0 e) in
          let more : tally (has_place i) xs ≡ 0 = omega (arith, t, here) in
          (0, omega arith, ap Some (sym e), only more)
        where
          only : tally (has_place i) xs ≡ 0 → (l : ℕ) → place_at (a ∷ xs) l ≡ Some i → l ≡ 0
          only more zero f = refl
          only more (suc l) f = absurd (none_there i xs l more f)
      by (inr ne) rest =
          let here = ap one_if (ne_eqb i a.0 ne) in
          let r = rest (omega (arith, t, here)) in
          (suc r.0, omega (arith, r.1), r.2, only r.0 r.3)
        where
          only : (k : ℕ) → ((l : ℕ) → place_at xs l ≡ Some i → l ≡ k) → (l : ℕ) → place_at (a ∷ xs) l ≡ Some i → l ≡ suc k
          only k one zero f = absurd (ne (sym (some_eq f)))
          only k one (suc l) f = ap suc (one l f)

  pub each_once : (i : ℕ) → i < length (slots_of P c)
      → (k : ℕ) × (k < length (slots_of P c)) × (stream_place P (class_kind c) k ≡ Some i) × ((l : ℕ) → stream_place P (class_kind c) l ≡ Some i → l ≡ k)
  each_once i l =
      let r = one_there i (stream_slots P c) (stream_tally (has_place i) ∙ one_placed 0 i (slots_of P c) (omega arith) (omega arith)) in
      (r.0, omega (arith, r.1, stream_long), r.2, r.3)
