-- A call's copies look like the originals.
use Rattle.std.proofs.Common.{◌≡◌, ◌≢◌, ℕ, zero, suc, List, [], ◌∷◌, refl, sym, ap, subst, ◌∙◌}
use Rattle.std.specs.Prelude.{Option, Some, None, map, slice_get}
use Rattle.std.specs.Option.{option_map}
use Rattle.std.specs.FinMap.{get}
use Rattle.nr_linked.specs.declared.program.tables.ProgramTables.{ProgramTables}
use Rattle.nr_model.specs.declared.value.Value.{Value}
use Rattle.nr_model.specs.declared.value.Value.TheVariants as values
use Rattle.nr_model.specs.Heaps.{Heap, Obj, on_some}
use Rattle.nr_model.specs.Alike.{like_int, like_long, like_null, like_ref, AllLike, no_more, one_more, AlikeAt, alike_at}
use Rattle.nr_model.specs.Locals.{CopyArgs, IsShared, RestorableRoot, copied_object, copied_value, copy_of}
use Rattle.nr_model.specs.Pairs.{Holds, Reach, name_at}
use Rattle.nr_model.proofs.Heaps.{sum_left}
use Rattle.nr_model.proofs.Matchings.{Matched}
use Rattle.nr_model.proofs.Paths.{none_some, some_eq}
use Rattle.nr_graph.specs.declared.graph.Graph.{Graph}
use Rattle.nr_graph.specs.Pictures.{IsPicture}
use Rattle.nr_graph.proofs.Beside.{to_right}
use Rattle.nr_graph.proofs.Drawn.{reach_on}
use Rattle.nr_graph.proofs.Partners.{picture_too}

module _ (P : ProgramTables) (h k : Heap) (us vs : List Value) (c : CopyArgs P h us k vs) (there : (x : ℕ) → Reach h (Holds us) x → get h x ≢ None) where
  -- a name that is reached, and that of its copy or itself
  abbrev pub IsCopy : ℕ → ℕ → Type 0
  IsCopy x y = Reach h (Holds us) x × (y ≡ copy_of c.copies x)

  -- a copy has a new name
  apart : (x y : ℕ) → Reach h (Holds us) x → Reach h (Holds us) y → (o p : Option ℕ) → get c.copies x ≡ o → get c.copies y ≡ p → on_some o x (λ z. z) ≡ on_some p y (λ z. z) → x ≡ y
  apart x y r s None None e f g = g
  apart x y r s None (Some z) e f g = absurd (there x r (ap (get h) g ∙ c.new y z f))
  apart x y r s (Some z) None e f g = absurd (there y s (ap (get h) (sym g) ∙ c.new x z e))
  apart x y r s (Some z) (Some w) e f g = c.distinct x y z e (f ∙ ap Some (sym g))

  -- what is named where each name is reached
  lists_copied : (xs : List Value) → ((i x : ℕ) → name_at xs i ≡ Some x → Reach h (Holds us) x) → AllLike IsCopy xs (map (copied_value c.copies) xs)
  lists_copied [] all = no_more
  lists_copied (values.Int n ∷ xs) all = one_more like_int (lists_copied xs (λ i. all (suc i)))
  lists_copied (values.Long n ∷ xs) all = one_more like_long (lists_copied xs (λ i. all (suc i)))
  lists_copied (values.Null ∷ xs) all = one_more like_null (lists_copied xs (λ i. all (suc i)))
  lists_copied (values.Ref x ∷ xs) all = one_more (like_ref (all zero x refl, refl)) (lists_copied xs (λ i. all (suc i)))

  -- the same where each name is shared, and so not copied
  not_copied : (x : ℕ) → IsShared P h us x → copy_of c.copies x ≡ x
  not_copied x s = by (get c.copies x) refl
    where
      by : (o : Option ℕ) → get c.copies x ≡ o → on_some o x (λ z. z) ≡ x
      by None e = refl
      by (Some z) e = absurd ((c.originals x (λ f. none_some (sym f ∙ e))).1 s)

  lists_shared : (xs : List Value) → ((i x : ℕ) → name_at xs i ≡ Some x → Reach h (Holds us) x × IsShared P h us x) → AllLike IsCopy xs xs
  lists_shared [] all = no_more
  lists_shared (values.Int n ∷ xs) all = one_more like_int (lists_shared xs (λ i. all (suc i)))
  lists_shared (values.Long n ∷ xs) all = one_more like_long (lists_shared xs (λ i. all (suc i)))
  lists_shared (values.Null ∷ xs) all = one_more like_null (lists_shared xs (λ i. all (suc i)))
  lists_shared (values.Ref x ∷ xs) all = let a = all zero x refl in one_more (like_ref (a.0, sym (not_copied x a.1))) (lists_shared xs (λ i. all (suc i)))

  copied_at : (o : Option Obj) → o ≢ None → ((i y : ℕ) → on_some o None (λ o. name_at o.slots i) ≡ Some y → Reach h (Holds us) y) → AlikeAt IsCopy o (option_map (copied_object c.copies) o)
  copied_at None n all = absurd (n refl)
  copied_at (Some o) n all = alike_at (record { kind = refl; slots = lists_copied o.slots all })

  shared_at : (o : Option Obj) → o ≢ None → ((i y : ℕ) → on_some o None (λ o. name_at o.slots i) ≡ Some y → Reach h (Holds us) y × IsShared P h us y) → AlikeAt IsCopy o o
  shared_at None n all = absurd (n refl)
  shared_at (Some o) n all = alike_at (record { kind = refl; slots = lists_shared o.slots all })

  object_at : (x : ℕ) → Reach h (Holds us) x → (o : Option ℕ) → get c.copies x ≡ o → AlikeAt IsCopy (get h x) (get k (on_some o x (λ z. z)))
  object_at x r (Some z) e = subst (AlikeAt IsCopy (get h x)) (sym (c.objects x z e)) (copied_at (get h x) (there x r) (λ i y f. reach_on h (Holds us) x i y r f))
  object_at x r None e =
      let s : IsShared P h us x = sum_left (c.whole x r) (λ s. s) (λ n. absurd (n e)) in
      subst (AlikeAt IsCopy (get h x)) (sym (c.old x (there x r)))
      (shared_at (get h x) (there x r) (λ i y f. (reach_on h (Holds us) x i y r f, reach_on h (RestorableRoot P h us) x i y s f)))

  pub copies_match : Matched IsCopy h k
  copies_match = record {
    one_right = λ x y z r s. r.1 ∙ sym s.1;
    one_left = λ x y z r s. apart x y r.0 s.0 (get c.copies x) (get c.copies y) refl refl (sym r.1 ∙ s.1);
    alike = λ x y r. subst (λ y. AlikeAt IsCopy (get h x) (get k y)) (sym r.1) (object_at x r.0 (get c.copies x) refl);
  }

  -- the arguments with the copies have a picture of the same graph
  pub copies_picture : (names : List ℕ) (g : Graph) → IsPicture P h us names g
      → (others : List ℕ) × IsPicture P k vs others g × ((i x y : ℕ) → slice_get names i ≡ Some x → slice_get others i ≡ Some y → y ≡ copy_of c.copies x)
  copies_picture names g p =
      let like : AllLike IsCopy us vs = subst (AllLike IsCopy us) (sym c.arguments) (lists_copied us (λ i x e. (x, (i, e), [], refl))) in
      let r = picture_too IsCopy P h k copies_match us vs like names g p in
      (r.0, r.1, λ i x y e f. let q = to_right IsCopy i x r.2 e in some_eq (sym f ∙ q.1) ∙ q.2.1)
