-- What a restore leaves is typed, where it is the same as a typed heap but for names.
use Rattle.std.proofs.Common.{◌≡◌, ◌≢◌, ◌⊎◌, ℕ, zero, suc, List, [], length, refl, sym, ap, subst, subst₂, ◌∙◌, inl, inr, T}
use Rattle.std.specs.Prelude.{Option, Some, None, IsSomeAnd, slice_get}
use Rattle.std.specs.FinMap.{get}
use Rattle.nr_linked.specs.declared.program.kind.Kind.{Kind}
use Rattle.nr_linked.specs.declared.program.tables.ProgramTables.{ProgramTables}
use Rattle.nr_linked.specs.Subtypes.{is_assignable}
use Rattle.nr_model.specs.declared.value.Value.{Value}
use Rattle.nr_model.specs.Heaps.{Obj, Heap}
use Rattle.nr_model.specs.Alike.{Like, like_int, like_long, like_null, like_ref, AllLike, no_more, one_more, AlikeObj, AlikeAt, alike_at, AlikeResult, no_result, one_result}
use Rattle.nr_model.specs.Pairs.{IsPair}
use Rattle.nr_model.specs.Same.{OldAndResults, Same}
use Rattle.nr_model.proofs.Matchings.{Matched}
use Rattle.nr_model.proofs.Paths.{paired_matched}
use Rattle.nr_model.proofs.Kept.{result_match}
use Rattle.nr_model.specs.Types.{Ty, Anything, Word, AnInt, Small, ALong, JustNull, Nullable, Object, Just, Exact, kind_ty}
use Rattle.nr_model.specs.Belonging.{Belongs, IsResult}
use Rattle.nr_model.specs.TypedHeaps.{Counts, slot_ty, TypedHeap, KeepsNames}
use Rattle.nr_typed.proofs.Typed.{some_of, at_some}
use Rattle.nr_typed.proofs.Steps.{some_same, none_some}
use Rattle.nr_typed.proofs.Copying.{some_not_none}

module _ (R : ℕ → ℕ → Type 0) where
  alike_left : (a b : Option Obj) → AlikeAt R a b → (o : Obj) → a ≡ Some o → (p : Obj) × (b ≡ Some p) × AlikeObj R o p
  alike_left a b (alike_at {p = p} x) o e = (p, refl, subst (λ o. AlikeObj R o p) (some_same e) x)

  alike_right : (a b : Option Obj) → AlikeAt R a b → (p : Obj) → b ≡ Some p → (o : Obj) × (a ≡ Some o) × AlikeObj R o p
  alike_right a b (alike_at {o = o} x) p e = (o, refl, subst (λ p. AlikeObj R o p) (some_same e) x)

  same_length : (us vs : List Value) → AllLike R us vs → length us ≡ length vs
  same_length us vs no_more = refl
  same_length us vs (one_more l ls) = ap suc (same_length _ _ ls)

  slot_over : (us vs : List Value) → AllLike R us vs → (i : ℕ) (v : Value) → slice_get vs i ≡ Some v → (u : Value) × (slice_get us i ≡ Some u) × Like R u v
  slot_over us vs no_more i v e = absurd (none_some e)
  slot_over us vs (one_more {u = u} l ls) zero v e = (u, refl, subst (Like R u) (some_same e) l)
  slot_over us vs (one_more l ls) (suc i) v e = slot_over _ _ ls i v e

module _ (P : ProgramTables) (h l r : Heap) (u v : Option Value) (same : Same h l u r v) where
  matched : Matched (IsPair (OldAndResults h u v) l r) l r
  matched = paired_matched (OldAndResults h u v) l r same.reached.heaps

  old_pair : (x : ℕ) → get h x ≢ None → IsPair (OldAndResults h u v) l r x x
  old_pair x n = record { from_left = x; from_right = x; start = inl (n, refl); path = []; to_left = refl; to_right = refl }

  on_right : (x y : ℕ) → IsPair (OldAndResults h u v) l r x y → (o : Obj) → get l x ≡ Some o → (p : Obj) × (get r y ≡ Some p) × AlikeObj (IsPair (OldAndResults h u v) l r) o p
  on_right x y s o e = alike_left (IsPair (OldAndResults h u v) l r) (get l x) (get r y) (matched.alike x y s) o e

  of_kind : (x y : ℕ) → IsPair (OldAndResults h u v) l r x y → (C : Kind → Type 0) → IsSomeAnd (get l x) (λ o. C o.kind) → IsSomeAnd (get r y) (λ o. C o.kind)
  of_kind x y s C b =
      let o = some_of (get l x) (λ o. C o.kind) b in let p = on_right x y s o.0 o.1 in at_some (get r y) p.0 (λ o. C o.kind) p.1 (subst C p.2.kind o.2)

  of_length : (x y : ℕ) → IsPair (OldAndResults h u v) l r x y → (n : Kind) (c : ℕ) → IsSomeAnd (get l x) (λ o. (o.kind ≡ n) × (length o.slots ≡ c)) → IsSomeAnd (get r y) (λ o. (o.kind ≡ n) × (length o.slots ≡ c))
  of_length x y s n c b =
      let o = some_of (get l x) (λ o. (o.kind ≡ n) × (length o.slots ≡ c)) b in let p = on_right x y s o.0 o.1 in
      at_some (get r y) p.0 (λ o. (o.kind ≡ n) × (length o.slots ≡ c)) p.1 (sym p.2.kind ∙ o.2.0, sym (same_length (IsPair (OldAndResults h u v) l r) _ _ p.2.slots) ∙ o.2.1)

  value_over : (t : Ty) (w v' : Value) → Like (IsPair (OldAndResults h u v) l r) w v' → Belongs P l t w → Belongs P r t v'
  value_over Anything w v e q = tt
  value_over Word w v like_int q = q
  value_over Word w v like_long q = q
  value_over Word w v like_null q = q
  value_over Word w v (like_ref r) q = q
  value_over AnInt w v like_int q = q
  value_over AnInt w v like_long q = q
  value_over AnInt w v like_null q = q
  value_over AnInt w v (like_ref r) q = absurd q
  value_over (Small b) w v like_int q = q
  value_over (Small b) w v like_long q = q
  value_over (Small b) w v like_null q = q
  value_over (Small b) w v (like_ref r) q = absurd q
  value_over ALong w v like_int q = q
  value_over ALong w v like_long q = q
  value_over ALong w v like_null q = q
  value_over ALong w v (like_ref r) q = absurd q
  value_over JustNull w v like_int q = q
  value_over JustNull w v like_long q = q
  value_over JustNull w v like_null q = q
  value_over JustNull w v (like_ref r) q = absurd q
  value_over (Nullable n) w v like_int q = q
  value_over (Nullable n) w v like_long q = q
  value_over (Nullable n) w v like_null q = q
  value_over (Nullable n) w v (like_ref r) q = of_kind _ _ r (λ k. T (is_assignable P k n)) q
  value_over (Object n) w v like_int q = q
  value_over (Object n) w v like_long q = q
  value_over (Object n) w v like_null q = q
  value_over (Object n) w v (like_ref r) q = of_kind _ _ r (λ k. T (is_assignable P k n)) q
  value_over (Just n) w v like_int q = q
  value_over (Just n) w v like_long q = q
  value_over (Just n) w v like_null q = q
  value_over (Just n) w v (like_ref r) q = of_kind _ _ r (λ k. k ≡ n) q
  value_over (Exact n c) w v like_int q = q
  value_over (Exact n c) w v like_long q = q
  value_over (Exact n c) w v like_null q = q
  value_over (Exact n c) w v (like_ref r) q = of_length _ _ r n c q

  pub restored_typed : TypedHeap P l → TypedHeap P r
  restored_typed tl = record { count = λ y q f. counted y q (partner y q f); slots = λ y q f i w g. slot y q i w g (partner y q f) }
    where
      partner : (y : ℕ) (q : Obj) → get r y ≡ Some q → (x : ℕ) × (o : Obj) × (get l x ≡ Some o) × AlikeObj (IsPair (OldAndResults h u v) l r) o q
      partner y q f = cases (same.names y (some_not_none f))
        where
          from : (x : ℕ) → IsPair (OldAndResults h u v) l r x y → (x : ℕ) × (o : Obj) × (get l x ≡ Some o) × AlikeObj (IsPair (OldAndResults h u v) l r) o q
          from x s = let o = alike_right (IsPair (OldAndResults h u v) l r) (get l x) (get r y) (matched.alike x y s) q f in (x, o.0, o.1, o.2)

          cases : (get h y ≢ None) ⊎ ((x : ℕ) × IsPair (OldAndResults h u v) l r x y) → (x : ℕ) × (o : Obj) × (get l x ≡ Some o) × AlikeObj (IsPair (OldAndResults h u v) l r) o q
          cases (inl n) = from y (old_pair y n)
          cases (inr s) = from s.0 s.1

      counted : (y : ℕ) (q : Obj) → (x : ℕ) × (o : Obj) × (get l x ≡ Some o) × AlikeObj (IsPair (OldAndResults h u v) l r) o q → Counts P q.kind (length q.slots)
      counted y q x = subst₂ (Counts P) x.3.kind (same_length (IsPair (OldAndResults h u v) l r) _ _ x.3.slots) (tl.count x.0 x.1 x.2)

      slot : (y : ℕ) (q : Obj) (i : ℕ) (w : Value) → slice_get q.slots i ≡ Some w → (x : ℕ) × (o : Obj) × (get l x ≡ Some o) × AlikeObj (IsPair (OldAndResults h u v) l r) o q → Belongs P r (slot_ty P q.kind i) w
      slot y q i w g x =
          let s = slot_over (IsPair (OldAndResults h u v) l r) x.1.slots q.slots x.3.slots i w g in
          value_over (slot_ty P q.kind i) s.0 w s.2 (subst (λ k. Belongs P l (slot_ty P k i) s.0) x.3.kind (tl.slots x.0 x.1 x.2 i s.0 s.1))

  pub restored_keeps : KeepsNames h l → KeepsNames h r
  restored_keeps k = record { at = λ a o e. let p = k.at a o e in let q = on_right a a (old_pair a (some_not_none e)) p.0 p.1 in (q.0, q.1, sym q.2.kind ∙ p.2) }

  pub restored_result : (result : Option Kind) → IsResult P l result u → IsResult P r result v
  restored_result result q = by_result result u v (result_match (IsPair (OldAndResults h u v) l r) u v same.reached.results (λ x y i. record { from_left = x; from_right = y; start = inr i; path = []; to_left = refl; to_right = refl })) q
    where
      by_result : (result : Option Kind) (x y : Option Value) → AlikeResult (IsPair (OldAndResults h u v) l r) x y → IsResult P l result x → IsResult P r result y
      by_result None x y no_result q = tt
      by_result (Some k) x y no_result q = absurd q
      by_result None x y (one_result e) q = absurd q
      by_result (Some k) x y (one_result e) q = value_over (kind_ty k) _ _ e q
