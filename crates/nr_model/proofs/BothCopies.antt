-- The copies of one call on two machines that agree: the relation with the copies is one to one, and the heaps and the
-- arguments agree under it.
use Rattle.std.proofs.Common.{◌≡◌, ◌≢◌, ℕ, zero, suc, ◌⊎◌, List, [], ◌∷◌, ◌++◌, refl, sym, ap, subst, subst₂, ◌∙◌, inl, inr}
use Rattle.std.specs.Prelude.{Option, Some, None, map}
use Rattle.std.specs.Option.{option_map}
use Rattle.std.specs.FinMap.{get}
use Rattle.nr_model.specs.declared.value.Value.{Value}
use Rattle.nr_model.specs.Heaps.{Obj, Heap, on_some}
use Rattle.nr_model.specs.Alike.{like_int, like_long, like_null, like_ref, AllLike, no_more, one_more, AlikeAt, alike_at}
use Rattle.nr_model.specs.Pairs.{name_at, slot_name, Reach, Holds}
use Rattle.nr_model.proofs.Matchings.{Matched}
use Rattle.nr_linked.specs.declared.program.tables.ProgramTables.{ProgramTables}
use Rattle.nr_model.specs.Locals.{IsShared, copied_value, copied_object, CopyArgs}
use Rattle.nr_model.specs.Locals.{copy_of}
use Rattle.nr_model.proofs.Heaps.{at_more, held_left, held_right, sum_left}
use Rattle.nr_model.proofs.Paths.{some_eq, leads_on}
use Rattle.nr_model.proofs.Relations.{Back, back_matched, all_back}
use Rattle.nr_model.proofs.Copies.{some_there, reach_over, shared_over}

module _ (P : ProgramTables) (Q : ℕ → ℕ → Type 0) (h g : Heap) (q : Matched Q h g) (us vs : List Value) (like : AllLike Q us vs)
    (h1 g1 : Heap) (us1 vs1 : List Value) (c : CopyArgs P h us h1 us1) (d : CopyArgs P g vs g1 vs1) where
  shared_back : (x y : ℕ) → Q x y → IsShared P g vs y → IsShared P h us x
  shared_back x y r s = shared_over P (Back Q) g h (back_matched Q h g q) vs us (all_back Q us vs like) y x r s

  shared_there : (x y : ℕ) → Q x y → IsShared P h us x → IsShared P g vs y
  shared_there x y r s = shared_over P Q h g q us vs like x y r s

  has_copy : (x y : ℕ) → get c.copies x ≢ None → Q x y → get d.copies y ≢ None
  has_copy x y n r =
      let o = c.originals x n in
      let b = reach_over Q h g q us vs like x o.0 in
      let reached : Reach g (Holds vs) y = subst (Reach g (Holds vs)) (q.one_right x b.0 y b.1 r) b.2 in
      sum_left (d.whole y reached) (λ s. absurd (o.1 (shared_back x y r s))) (λ m. m)

  pub record BothCopied (x y : ℕ) : Type 0 where
    pub left : ℕ
    pub right : ℕ
    pub on_left : get c.copies left ≡ Some x
    pub on_right : get d.copies right ≡ Some y
    pub related : Q left right

  abbrev pub WithCopies : ℕ → ℕ → Type 0
  WithCopies x y = Q x y ⊎ BothCopied x y

  copy_like : (u v : ℕ) → Reach h (Holds us) u → Q u v → WithCopies (copy_of c.copies u) (copy_of d.copies v)
  copy_like u v r s = go (get c.copies u) (get d.copies v) refl refl
    where
      go : (o p : Option ℕ) → get c.copies u ≡ o → get d.copies v ≡ p → WithCopies (on_some o u (λ z. z)) (on_some p v (λ z. z))
      go None None e f = inl s
      go (Some x) (Some y) e f = inr (record { left = u; right = v; on_left = e; on_right = f; related = s })
      go (Some x) None e f = absurd (has_copy u v (some_there e) s f)
      go None (Some y) e f = sum_left (c.whole u r) (λ i. absurd ((d.originals v (some_there f)).1 (shared_there u v s i))) (λ n. absurd (n e))

  lists_like : (xs ys : List Value) → AllLike Q xs ys → ((i a : ℕ) → name_at xs i ≡ Some a → Reach h (Holds us) a)
      → AllLike WithCopies (map (copied_value c.copies) xs) (map (copied_value d.copies) ys)
  lists_like xs ys no_more k = no_more
  lists_like xs ys (one_more like_int ls) k = one_more like_int (lists_like _ _ ls (λ i. k (suc i)))
  lists_like xs ys (one_more like_long ls) k = one_more like_long (lists_like _ _ ls (λ i. k (suc i)))
  lists_like xs ys (one_more like_null ls) k = one_more like_null (lists_like _ _ ls (λ i. k (suc i)))
  lists_like xs ys (one_more (like_ref {x = a} {y = b} r) ls) k = one_more (like_ref (copy_like a b (k zero a refl) r)) (lists_like _ _ ls (λ i. k (suc i)))

  pub args_like : AllLike WithCopies us1 vs1
  args_like = subst₂ (AllLike WithCopies) (sym c.arguments) (sym d.arguments) (lists_like us vs like (λ i a e. (a, (i, e), [], refl)))

  objects_like : (o p : Option Obj) → AlikeAt Q o p → ((i a : ℕ) → on_some o None (λ o. name_at o.slots i) ≡ Some a → Reach h (Holds us) a)
      → AlikeAt WithCopies (option_map (copied_object c.copies) o) (option_map (copied_object d.copies) p)
  objects_like o p (alike_at a) k = alike_at (record { kind = a.kind; slots = lists_like _ _ a.slots k })

  reach_on : (x i b : ℕ) → Reach h (Holds us) x → slot_name h x i ≡ Some b → Reach h (Holds us) b
  reach_on x i b r e = (r.0, r.1, r.2 ++ i ∷ [], leads_on h r.2 i r.0 x r.3 ∙ e)

  at_right : (x y z : ℕ) → WithCopies x y → WithCopies x z → y ≡ z
  at_right x y z (inl r) (inl s) = q.one_right x y z r s
  at_right x y z (inl r) (inr s) = absurd (held_left Q _ _ (q.alike x y r) (c.new s.left x s.on_left))
  at_right x y z (inr r) (inl s) = absurd (held_left Q _ _ (q.alike x z s) (c.new r.left x r.on_left))
  at_right x y z (inr r) (inr s) =
      let a : r.left ≡ s.left = c.distinct r.left s.left x r.on_left s.on_left in
      let b : r.right ≡ s.right = q.one_right s.left r.right s.right (subst (λ a. Q a r.right) a r.related) s.related in
      some_eq (sym r.on_right ∙ ap (get d.copies) b ∙ s.on_right)

  at_left : (x y z : ℕ) → WithCopies x z → WithCopies y z → x ≡ y
  at_left x y z (inl r) (inl s) = q.one_left x y z r s
  at_left x y z (inl r) (inr s) = absurd (held_right Q _ _ (q.alike x z r) (d.new s.right z s.on_right))
  at_left x y z (inr r) (inl s) = absurd (held_right Q _ _ (q.alike y z s) (d.new r.right z r.on_right))
  at_left x y z (inr r) (inr s) =
      let b : r.right ≡ s.right = d.distinct r.right s.right z r.on_right s.on_right in
      let a : r.left ≡ s.left = q.one_left r.left s.left s.right (subst (Q r.left) b r.related) s.related in
      some_eq (sym r.on_left ∙ ap (get c.copies) a ∙ s.on_left)

  copies_alike : (x y : ℕ) → WithCopies x y → AlikeAt WithCopies (get h1 x) (get g1 y)
  copies_alike x y (inl r) =
      subst₂ (AlikeAt WithCopies) (sym (c.old x (held_left Q _ _ (q.alike x y r)))) (sym (d.old y (held_right Q _ _ (q.alike x y r))))
      (at_more Q WithCopies (λ x y r. inl r) _ _ (q.alike x y r))
  copies_alike x y (inr r) =
      let o = c.originals r.left (some_there r.on_left) in
      subst₂ (AlikeAt WithCopies) (sym (c.objects r.left x r.on_left)) (sym (d.objects r.right y r.on_right))
      (objects_like _ _ (q.alike r.left r.right r.related) (λ i a e. reach_on r.left i a o.0 e))

  pub with_copies : Matched WithCopies h1 g1
  with_copies = record { one_right = at_right; one_left = at_left; alike = copies_alike }
