-- Where one machine copies its arguments, so can another that agrees with it.
use Rattle.std.proofs.Common.{◌≡◌, ◌≢◌, ℕ, ◌≤◌, List, refl, sym, subst, ◌∙◌, arith, inl, inr}
use Rattle.std.specs.Prelude.{Option, Some, None, map}
use Rattle.std.specs.FinMap.{get}
use Rattle.nr_model.specs.declared.value.Value.{Value}
use Rattle.nr_model.specs.Heaps.{Heap}
use Rattle.nr_model.specs.Alike.{AllLike}
use Rattle.nr_model.specs.Pairs.{Reach, Holds}
use Rattle.nr_model.proofs.Matchings.{Matched}
use Rattle.nr_linked.specs.declared.program.tables.ProgramTables.{ProgramTables}
use Rattle.nr_model.specs.Locals.{IsShared, copied_value, CopyArgs}
use Rattle.std.specs.Ordering.{nat_cmp}
use Rattle.std.proofs.Common.{T}
use Rattle.std.specs.FinMap.{FinMap, entries, entries_sorted, get-entries, is_sorted}
use Rattle.nr_model.proofs.Heaps.{sum_left}
use Rattle.nr_model.proofs.Mirror.{above_all, above_free}
use Rattle.nr_model.proofs.Relations.{Back, back_matched, all_back}
use Rattle.nr_model.proofs.Copies.{key_found, found_key, IsKey, reach_over, shared_over, build, built_from, built_has, built_distinct, planted, planted_old, planted_at, planted_only}

module _ (P : ProgramTables) (Q : ℕ → ℕ → Type 0) (h g : Heap) (q : Matched Q h g) (us vs : List Value) (like : AllLike Q us vs)
    (h1 : Heap) (us1 : List Value) (c : CopyArgs P h us h1 us1) where
  keys : List (ℕ × ℕ)
  keys = entries c.copies

  key_copied : (x : ℕ) → IsKey keys x → get c.copies x ≢ None
  unfolding keys
  key_copied x i e = key_found (entries c.copies) x i (sym (get-entries c.copies x) ∙ e)

  copied_key : (x : ℕ) → get c.copies x ≢ None → IsKey keys x
  unfolding keys
  copied_key x n = found_key (entries c.copies) x (λ e. n (get-entries c.copies x ∙ e))

  partners : (x : ℕ) → IsKey keys x → (y : ℕ) × Q x y
  partners x i = let r = reach_over Q h g q us vs like x (c.originals x (key_copied x i)).0 in (r.0, r.1)

  bound : ℕ
  bound = above_all g

  free : (x : ℕ) → bound ≤ x → get g x ≡ None
  unfolding bound
  free x l = above_free g x l

  pub copies : FinMap nat_cmp ℕ
  copies = build Q h g q bound free keys bound partners

  pub other_heap : Heap
  other_heap = planted Q h g q bound free copies keys bound partners

  pub other_args : List Value
  other_args = map (copied_value copies) vs

  -- what stands on one side stands on the other
  back : (y : ℕ) → Reach g (Holds vs) y → (x : ℕ) × Q x y × Reach h (Holds us) x
  back y r = reach_over (Back Q) g h (back_matched Q h g q) vs us (all_back Q us vs like) y r

  shared_back : (x y : ℕ) → Q x y → IsShared P g vs y → IsShared P h us x
  shared_back x y r s = shared_over P (Back Q) g h (back_matched Q h g q) vs us (all_back Q us vs like) y x r s

  shared_there : (x y : ℕ) → Q x y → IsShared P h us x → IsShared P g vs y
  shared_there x y r s = shared_over P Q h g q us vs like x y r s

  copied_from : (y z : ℕ) → get copies y ≡ Some z → (x : ℕ) × IsKey keys x × Q x y × (bound ≤ z)
  unfolding copies
  copied_from y z e = built_from Q h g q bound free keys bound partners y z e

  has_copy : (x y : ℕ) → get c.copies x ≢ None → Q x y → get copies y ≢ None
  unfolding copies
  has_copy x y n r = built_has Q h g q bound free keys bound partners x y (copied_key x n) r

  distinct_copies : (x y z : ℕ) → get copies x ≡ Some z → get copies y ≡ Some z → x ≡ y
  unfolding copies
  distinct_copies x y z d e = built_distinct Q h g q bound free keys bound partners x y z d e

  is_original : (y : ℕ) → get copies y ≢ None → Reach g (Holds vs) y × ¬ IsShared P g vs y
  is_original y n = go (get copies y) refl n
    where
      go : (o : Option ℕ) → get copies y ≡ o → o ≢ None → Reach g (Holds vs) y × ¬ IsShared P g vs y
      go None e n = absurd (n refl)
      go (Some z) e n =
          let x = copied_from y z e in
          let o = c.originals x.0 (key_copied x.0 x.1) in
          let r = reach_over Q h g q us vs like x.0 o.0 in
          (subst (Reach g (Holds vs)) (q.one_right x.0 r.0 y r.1 x.2) r.2, λ s. o.1 (shared_back x.0 y x.2 s))

  pub other_copies : CopyArgs P g vs other_heap other_args
  unfolding other_heap other_args copies keys
  other_copies = record {
    copies = copies;
    originals = is_original;
    whole = λ y r. let x = back y r in sum_left (c.whole x.0 x.2) (λ s. inl (shared_there x.0 y x.1 s)) (λ n. inr (has_copy x.0 y n x.1));
    new = λ y z e. free z (copied_from y z e).3;
    distinct = distinct_copies;
    objects = λ y z e. planted_at Q h g q bound free copies keys bound partners y z e;
    arguments = refl;
    old = λ y n. planted_old Q h g q bound free copies keys bound partners (omega arith) y n;
    no_more = λ y n. planted_only Q h g q bound free copies keys bound partners sorted y n;
  }
    where
      sorted : T (is_sorted nat_cmp keys)
      sorted = entries_sorted c.copies
