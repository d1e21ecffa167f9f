-- Each place of an object that the stream has is one of its slots, and holds what the slot holds.
use Rattle.std.proofs.Common.{◌≡◌, ℕ, zero, suc, ◌+◌, Bool, true, false, not, cond, List, [], ◌∷◌, ◌++◌, reverse, refl, sym, ap, subst, ◌∙◌, if◌then◌else◌, arith}
use Rattle.std.specs.Prelude.{Option, Some, None, IsSomeAnd, slice_get, ◌==◌}
use Rattle.std.specs.List.{AllByRecursion, filter, flat_map}
use Rattle.std.specs.Option.{option_map}
use Rattle.nr_linked.specs.declared.program.tables.ProgramTables.{ProgramTables}
use Rattle.nr_linked.specs.declared.program.tables.SlotInfo.{SlotInfo}
use Rattle.nr_linked.specs.Kinds.{class_kind}
use Rattle.nr_linked.specs.Programs.{superclasses}
use Rattle.nr_linked.specs.Slots.{slots_of}
use Rattle.nr_model.proofs.Paths.{none_some, some_eq}
use Rattle.nr_graph.specs.Sorted.{put, sorted}
use Rattle.nr_graph.specs.StreamOrder.{Placed, placed, is_before, holds_reference, declared_slots, stream_slots, stream_place, stream_kind}

module _ (Q : Placed → Type 0) where
  all_both : (xs ys : List Placed) → AllByRecursion Q xs → AllByRecursion Q ys → AllByRecursion Q (xs ++ ys)
  all_both [] ys a b = b
  all_both (x ∷ xs) ys a b = (a.0, all_both xs ys a.1 b)

  pub all_filter : (p : Placed → Bool) (xs : List Placed) → AllByRecursion Q xs → AllByRecursion Q (filter p xs)
  all_filter p [] a = tt
  all_filter p (x ∷ xs) a = by (p x) (all_filter p xs a.1)
    where
      by : (b : Bool) → AllByRecursion Q (filter p xs) → AllByRecursion Q (cond b (x ∷ filter p xs) (filter p xs))
      by true r = (a.0, r)
      by false r = r

  all_put : (le : Placed → Placed → Bool) (x : Placed) (ys : List Placed) → Q x → AllByRecursion Q ys → AllByRecursion Q (put le x ys)
  all_put le x [] q a = (q, tt)
  all_put le x (y ∷ ys) q a = by (le x y) (all_put le x ys q a.1)
    where
      by : (b : Bool) → AllByRecursion Q (put le x ys) → AllByRecursion Q (if b then x ∷ y ∷ ys else y ∷ put le x ys)
      by true r = (q, a)
      by false r = (a.0, r)

  pub all_sorted : (le : Placed → Placed → Bool) (xs : List Placed) → AllByRecursion Q xs → AllByRecursion Q (sorted le xs)
  all_sorted le [] a = tt
  all_sorted le (x ∷ xs) a = all_put le x (sorted le xs) a.0 (all_sorted le xs a.1)

  all_flat : (f : ℕ → List Placed) → ((d : ℕ) → AllByRecursion Q (f d)) → (ds : List ℕ) → AllByRecursion Q (flat_map f ds)
  all_flat f each [] = tt
  all_flat f each (d ∷ ds) = all_both (f d) (flat_map f ds) (each d) (all_flat f each ds)

  pub all_get : (xs : List Placed) (k : ℕ) (x : Placed) → AllByRecursion Q xs → slice_get xs k ≡ Some x → Q x
  all_get [] k x a e = absurd (none_some e)
  all_get (y ∷ ys) zero x a e = subst Q (some_eq e) a.0
  all_get (y ∷ ys) (suc k) x a e = all_get ys k x a.1 e

abbrev pub IsSlotOf : List SlotInfo → Placed → Type 0
IsSlotOf ss a = slice_get ss a.0 ≡ Some a.1

pub placed_all : (all ss : List SlotInfo) (b : ℕ) → ((j : ℕ) (s : SlotInfo) → slice_get ss j ≡ Some s → slice_get all (b + j) ≡ Some s) → AllByRecursion (IsSlotOf all) (placed b ss)
placed_all all [] b each = tt
placed_all all (s ∷ ss) b each =
    let z : b ≡ b + 0 = omega arith in (
      ap (slice_get all) z ∙ each zero s refl,
      placed_all all ss (suc b) (λ j t e. let m : suc b + j ≡ b + suc j = omega arith in ap (slice_get all) m ∙ each (suc j) t e),
    )

module _ (P : ProgramTables) (c : ℕ) where
  own_all : (d : ℕ) → AllByRecursion (IsSlotOf (slots_of P c)) (declared_slots P c d)
  own_all d =
      let Q = IsSlotOf (slots_of P c) in
      let own = filter (λ (a : Placed). a.1.declared_in == d) (placed 0 (slots_of P c)) in
      let a = all_filter Q (λ (a : Placed). a.1.declared_in == d) (placed 0 (slots_of P c)) (placed_all (slots_of P c) (slots_of P c) 0 (λ j s e. let m : 0 + j ≡ j = omega arith in ap (slice_get (slots_of P c)) m ∙ e)) in
      all_both Q (sorted is_before (filter (λ a. not (holds_reference a)) own)) (sorted is_before (filter holds_reference own))
      (all_sorted Q is_before (filter (λ a. not (holds_reference a)) own) (all_filter Q (λ a. not (holds_reference a)) own a))
      (all_sorted Q is_before (filter holds_reference own) (all_filter Q holds_reference own a))

  stream_all : AllByRecursion (IsSlotOf (slots_of P c)) (stream_slots P c)
  stream_all = all_flat (IsSlotOf (slots_of P c)) (declared_slots P c) own_all (reverse (superclasses P c))

  pub kinds_agree : (k i : ℕ) → stream_place P (class_kind c) k ≡ Some i → IsSomeAnd (slice_get (slots_of P c) i) (λ s. stream_kind P (class_kind c) k ≡ Some s.kind)
  kinds_agree k i e = by (slice_get (stream_slots P c) k) refl e
    where
      by : (o : Option Placed) → slice_get (stream_slots P c) k ≡ o → option_map (λ a. a.0) o ≡ Some i → IsSomeAnd (slice_get (slots_of P c) i) (λ s. option_map (λ a. a.1.kind) (slice_get (stream_slots P c) k) ≡ Some s.kind)
      by None is e = absurd (none_some e)
      by (Some a) is e =
          let at = all_get (IsSlotOf (slots_of P c)) (stream_slots P c) k a stream_all is in
          let at' : slice_get (slots_of P c) i ≡ Some a.1 = ap (slice_get (slots_of P c)) (sym (some_eq e)) ∙ at in
          subst (λ (o : Option SlotInfo). IsSomeAnd o (λ s. option_map (λ a. a.1.kind) (slice_get (stream_slots P c) k) ≡ Some s.kind)) (sym at') (ap (option_map (λ (a : Placed). a.1.kind)) is)
