-- Where one of two frames that agree can run a script, so can the other.
use Rattle.std.proofs.Common.{◌≡◌, ℕ, zero, suc, ◌+◌, ◌<◌, ◌≤◌, List, [], ◌∷◌, ◌++◌, length, refl, ap, subst, subst₂, ◌∙◌, arith, inl, inr}
use Rattle.std.specs.Prelude.{ℤ, Option, Some, None, slice_get, slice_set, map, IsSomeAnd}
use Rattle.std.specs.Ordering.{nat_cmp}
use Rattle.std.specs.FinMap.{get, insert, entries, get-entries, find}
use Rattle.nr_model.specs.declared.value.Value.{Value}
use Rattle.nr_model.specs.declared.value.Value.TheVariants.{Int, Long, Null, Ref}
use Rattle.nr_model.specs.Heaps.{Obj, Heap}
use Rattle.nr_model.specs.Scripts.{plain, Script, GoTo, Throw, Return, ReturnTop, Call, Stuck, Push, PopInt, PopLong, Load, Store, Pick, Drop, AskLong, AskNull, AskSame, AskKind, ReadSlot, WriteSlot, Make, Print, Within, Ending, GoesTo, Threw, Gave, Called, OnTop, OnInt, OnLong, OnRef, OnReference, is_long, is_same, is_null, without, IsIn, Runs}
use Rattle.nr_model.specs.Alike.{Like, like_int, like_long, like_null, like_ref, AllLike, no_more, one_more, AlikeObj, AlikeAt, alike_at}
use Rattle.nr_model.proofs.Matchings.{AlikeWithin}
use Rattle.nr_model.proofs.Heaps.{written, made, all_more, with_new, not_equal}
use Rattle.nr_model.proofs.Pairing.{plain_like, plains_like, lengths, set_like, without_like, long_like, LikeNames, like_none, like_some, no_name_like, same_name_like}

-- a name that is not in the heap
abbrev above : {X : Type 0} → List (ℕ × X) → ℕ
above [] = zero
above (e ∷ es) = suc (e.0 + above es)

find_above : {X : Type 0} (es : List (ℕ × X)) (q : ℕ) → above es ≤ q → find nat_cmp q es ≡ None
find_above [] q l = refl
find_above (e ∷ es) q l = rw (not_equal q e.0 _ refl (λ f. absurd (omega arith))) (find_above es q (omega arith))

pub above_all : Heap → ℕ
above_all h = above (entries h)

pub above_free : (h : Heap) (q : ℕ) → above_all h ≤ q → get h q ≡ None
unfolding above_all
above_free h q l = get-entries h q ∙ find_above (entries h) q l

pub fresh : (h : Heap) → (a : ℕ) × (get h a ≡ None)
fresh h = (above (entries h), get-entries h _ ∙ find_above (entries h) _ (omega arith))

module _ (R : ℕ → ℕ → Type 0) where
  some_too : (C : Option Value → Type 0) (us vs : List Value) (i : ℕ) (P : Value → Type 0) → AllLike R us vs → IsSomeAnd (slice_get us i) P
      → ((u v : Value) → Like R u v → P u → C (Some v)) → C (slice_get vs i)
  some_too C us vs i P no_more p k = absurd p
  some_too C us vs zero P (one_more l ls) p k = k _ _ l p
  some_too C us vs (suc i) P (one_more l ls) p k = some_too C _ _ i P ls p k

  pub top_too : (C : List Value → Type 0) (us vs : List Value) (P : Value → List Value → Type 0) → AllLike R us vs → OnTop us P
      → ((u v : Value) (us vs : List Value) → Like R u v → AllLike R us vs → P u us → C (v ∷ vs)) → C vs
  top_too C us vs P no_more p k = absurd p
  top_too C us vs P (one_more l ls) p k = k _ _ _ _ l ls p

  int_too : (C : Value → Type 0) (u v : Value) (P : ℤ → Type 0) → Like R u v → OnInt u P → ((n : ℤ) → P n → C (Int n)) → C v
  int_too C u v P like_int p k = k _ p
  int_too C u v P like_long p k = absurd p
  int_too C u v P like_null p k = absurd p
  int_too C u v P (like_ref r) p k = absurd p

  long_too : (C : Value → Type 0) (u v : Value) (P : ℤ → Type 0) → Like R u v → OnLong u P → ((n : ℤ) → P n → C (Long n)) → C v
  long_too C u v P like_int p k = absurd p
  long_too C u v P like_long p k = k _ p
  long_too C u v P like_null p k = absurd p
  long_too C u v P (like_ref r) p k = absurd p

  pub ref_too : (C : Value → Type 0) (u v : Value) (P : ℕ → Type 0) → Like R u v → OnRef u P → ((a b : ℕ) → R a b → P a → C (Ref b)) → C v
  ref_too C u v P like_int p k = absurd p
  ref_too C u v P like_long p k = absurd p
  ref_too C u v P like_null p k = absurd p
  ref_too C u v P (like_ref r) p k = k _ _ r p

  nullable_too : (C : Value → Type 0) (u v : Value) (P : Option ℕ → Type 0) → Like R u v → OnReference u P
      → ((x y : Option ℕ) (w : Value) → LikeNames R x y → P x → (((Q : Option ℕ → Type 0) → Q y → OnReference w Q) → C w)) → C v
  nullable_too C u v P like_int p k = absurd p
  nullable_too C u v P like_long p k = absurd p
  nullable_too C u v P like_null p k = k _ _ Null like_none p (λ Q q. q)
  nullable_too C u v P (like_ref r) p k = k _ _ (Ref _) (like_some r) p (λ Q q. q)

  pub object_too : (C : Option Obj → Type 0) (x y : Option Obj) (P : Obj → Type 0) → AlikeAt R x y → IsSomeAnd x P
      → ((o p : Obj) → AlikeObj R o p → P o → C (Some p)) → C y
  object_too C x y P (alike_at s) p k = k _ _ s p

abbrev Ended : Type 0
Ended = Ending × Within

pub mirrored : (sc : Script) (R : ℕ → ℕ → Type 0) (w1 w2 v1 : Within) (e : Ending) → AlikeWithin R w1 w2 → Runs sc w1 e v1 → (z : Ended) × Runs sc w2 z.0 z.1
mirrored (GoTo t) R w1 w2 v1 e a p = ((GoesTo t, w2), (refl, refl))
mirrored Throw R w1 w2 v1 e a p =
    top_too R (λ os. (z : Ended) × OnTop os (λ v vs. OnRef v (λ a. (z.0 ≡ Threw a) × (z.1 ≡ record w2 { operands = vs })))) _ _ _ a.operands p (λ u v us vs l ls p.
    ref_too R (λ v. (z : Ended) × OnRef v (λ a. (z.0 ≡ Threw a) × (z.1 ≡ record w2 { operands = vs }))) _ _ _ l p (λ x y r p. ((Threw y, record w2 { operands = vs }), (refl, refl))))
mirrored Return R w1 w2 v1 e a p = ((Gave None, w2), (refl, refl))
mirrored ReturnTop R w1 w2 v1 e a p =
    top_too R (λ os. (z : Ended) × OnTop os (λ v vs. (z.0 ≡ Gave (Some v)) × (z.1 ≡ record w2 { operands = vs }))) _ _ _ a.operands p (λ u v us vs l ls p. ((Gave (Some v), record w2 { operands = vs }), (refl, refl)))
mirrored (Call m) R w1 w2 v1 e a p = ((Called m, w2), (refl, refl))
mirrored Stuck R w1 w2 v1 e a p = absurd p
mirrored (Push c k) R w1 w2 v1 e a p = mirrored k R _ (record w2 { operands = plain c ∷ w2.operands }) v1 e (record { heap = a.heap; printed = a.printed; locals = a.locals; operands = one_more (plain_like R c) a.operands }) p
mirrored (PopInt k) R w1 w2 v1 e a p =
    top_too R (λ os. (z : Ended) × OnTop os (λ v vs. OnInt v (λ n. Runs (k n) (record w2 { operands = vs }) z.0 z.1))) _ _ _ a.operands p (λ u v us vs l ls p.
    int_too R (λ v. (z : Ended) × OnInt v (λ n. Runs (k n) (record w2 { operands = vs }) z.0 z.1)) _ _ _ l p (λ n p.
    mirrored (k n) R _ (record w2 { operands = vs }) v1 e (record { heap = a.heap; printed = a.printed; locals = a.locals; operands = ls }) p))
mirrored (PopLong k) R w1 w2 v1 e a p =
    top_too R (λ os. (z : Ended) × OnTop os (λ v vs. OnLong v (λ n. Runs (k n) (record w2 { operands = vs }) z.0 z.1))) _ _ _ a.operands p (λ u v us vs l ls p.
    long_too R (λ v. (z : Ended) × OnLong v (λ n. Runs (k n) (record w2 { operands = vs }) z.0 z.1)) _ _ _ l p (λ n p.
    mirrored (k n) R _ (record w2 { operands = vs }) v1 e (record { heap = a.heap; printed = a.printed; locals = a.locals; operands = ls }) p))
mirrored (Load i k) R w1 w2 v1 e a p =
    some_too R (λ o. (z : Ended) × IsSomeAnd o (λ v. Runs k (record w2 { operands = v ∷ w2.operands }) z.0 z.1)) _ _ i _ a.locals p (λ u v l p.
    mirrored k R _ (record w2 { operands = v ∷ w2.operands }) v1 e (record { heap = a.heap; printed = a.printed; locals = a.locals; operands = one_more l a.operands }) p)
mirrored (Store i k) R w1 w2 v1 e a p =
    top_too R (λ os. (z : Ended) × OnTop os (λ v vs. IsIn i w2.locals × Runs k (record w2 { locals = slice_set w2.locals i v; operands = vs }) z.0 z.1)) _ _ _ a.operands p (λ u v us vs l ls p.
    let m = mirrored k R _ (record w2 { locals = slice_set w2.locals i v; operands = vs }) v1 e (record { heap = a.heap; printed = a.printed; locals = set_like R _ _ i u v a.locals l; operands = ls }) p.1 in
    (m.0, (subst (λ n. i < n) (lengths R _ _ a.locals) p.0, m.1)))
mirrored (Pick i k) R w1 w2 v1 e a p =
    some_too R (λ o. (z : Ended) × IsSomeAnd o (λ v. Runs k (record w2 { operands = v ∷ w2.operands }) z.0 z.1)) _ _ i _ a.operands p (λ u v l p.
    mirrored k R _ (record w2 { operands = v ∷ w2.operands }) v1 e (record { heap = a.heap; printed = a.printed; locals = a.locals; operands = one_more l a.operands }) p)
mirrored (Drop d k) R w1 w2 v1 e a p =
    let m = mirrored k R _ (record w2 { operands = without d w2.operands }) v1 e (record { heap = a.heap; printed = a.printed; locals = a.locals; operands = without_like R _ _ d a.operands }) p.1 in
    (m.0, (subst (λ n. d < n) (lengths R _ _ a.operands) p.0, m.1))
mirrored (AskLong d k) R w1 w2 v1 e a p =
    some_too R (λ o. (z : Ended) × IsSomeAnd o (λ v. Runs (k (is_long v)) w2 z.0 z.1)) _ _ d _ a.operands p (λ u v l p.
    subst (λ b. (z : Ended) × Runs (k b) w2 z.0 z.1) (long_like R u v l) (mirrored (k (is_long u)) R _ w2 v1 e a p))
mirrored (AskNull d k) R w1 w2 v1 e a p =
    some_too R (λ o. (z : Ended) × IsSomeAnd o (λ v. OnReference v (λ r. Runs (k (is_null r)) w2 z.0 z.1))) _ _ d _ a.operands p (λ u v l p.
    nullable_too R (λ v. (z : Ended) × OnReference v (λ r. Runs (k (is_null r)) w2 z.0 z.1)) _ _ _ l p (λ x y w n p on.
    let m = subst (λ b. (z : Ended) × Runs (k b) w2 z.0 z.1) (no_name_like R x y n) (mirrored (k (is_null x)) R _ w2 v1 e a p) in
    (m.0, on (λ r. Runs (k (is_null r)) w2 m.0.0 m.0.1) m.1)))
mirrored (AskSame k) R w1 w2 v1 e a p =
    top_too R (λ os. (z : Ended) × OnTop os (λ v vs. OnTop vs (λ u us. OnReference v (λ a. OnReference u (λ b. Runs (k (is_same a b)) (record w2 { operands = us }) z.0 z.1))))) _ _ _ a.operands p (λ u v us vs l ls p.
    top_too R (λ os. (z : Ended) × OnTop os (λ u us. OnReference v (λ a. OnReference u (λ b. Runs (k (is_same a b)) (record w2 { operands = us }) z.0 z.1)))) _ _ _ ls p (λ s t ss ts m ms p.
    nullable_too R (λ v. (z : Ended) × OnReference v (λ a. OnReference t (λ b. Runs (k (is_same a b)) (record w2 { operands = ts }) z.0 z.1))) _ _ _ l p (λ x y w n p on.
    let r = nullable_too R (λ t. (z : Ended) × OnReference t (λ b. Runs (k (is_same y b)) (record w2 { operands = ts }) z.0 z.1)) _ _ _ m p (λ z q w o p on.
    let r = subst (λ b. (z : Ended) × Runs (k b) (record w2 { operands = ts }) z.0 z.1) (same_name_like R _ _ a.heap x y z q n o)
    (mirrored (k (is_same x z)) R _ (record w2 { operands = ts }) v1 e (record { heap = a.heap; printed = a.printed; locals = a.locals; operands = ms }) p) in
    (r.0, on (λ b. Runs (k (is_same y b)) (record w2 { operands = ts }) r.0.0 r.0.1) r.1)) in
    (r.0, on (λ a. OnReference t (λ b. Runs (k (is_same a b)) (record w2 { operands = ts }) r.0.0 r.0.1)) r.1))))
mirrored (AskKind d k) R w1 w2 v1 e a p =
    some_too R (λ o. (z : Ended) × IsSomeAnd o (λ v. OnRef v (λ a. IsSomeAnd (get w2.heap a) (λ o. Runs (k o.kind (length o.slots)) w2 z.0 z.1)))) _ _ d _ a.operands p (λ u v l p.
    ref_too R (λ v. (z : Ended) × OnRef v (λ a. IsSomeAnd (get w2.heap a) (λ o. Runs (k o.kind (length o.slots)) w2 z.0 z.1))) _ _ _ l p (λ x y r p.
    object_too R (λ o. (z : Ended) × IsSomeAnd o (λ o. Runs (k o.kind (length o.slots)) w2 z.0 z.1)) _ _ _ (a.heap.alike x y r) p (λ o c s p.
    subst₂ (λ b n. (z : Ended) × Runs (k b n) w2 z.0 z.1) s.kind (lengths R _ _ s.slots) (mirrored (k o.kind (length o.slots)) R _ w2 v1 e a p))))
mirrored (ReadSlot i k) R w1 w2 v1 e a p =
    top_too R (λ os. (z : Ended) × OnTop os (λ v vs. OnRef v (λ a. IsSomeAnd (get w2.heap a) (λ o. IsSomeAnd (slice_get o.slots i) (λ u. Runs k (record w2 { operands = u ∷ vs }) z.0 z.1))))) _ _ _ a.operands p (λ u v us vs l ls p.
    ref_too R (λ v. (z : Ended) × OnRef v (λ a. IsSomeAnd (get w2.heap a) (λ o. IsSomeAnd (slice_get o.slots i) (λ u. Runs k (record w2 { operands = u ∷ vs }) z.0 z.1)))) _ _ _ l p (λ x y r p.
    object_too R (λ o. (z : Ended) × IsSomeAnd o (λ o. IsSomeAnd (slice_get o.slots i) (λ u. Runs k (record w2 { operands = u ∷ vs }) z.0 z.1))) _ _ _ (a.heap.alike x y r) p (λ o c s p.
    some_too R (λ o. (z : Ended) × IsSomeAnd o (λ u. Runs k (record w2 { operands = u ∷ vs }) z.0 z.1)) _ _ i _ s.slots p (λ f g m p.
    mirrored k R _ (record w2 { operands = g ∷ vs }) v1 e (record { heap = a.heap; printed = a.printed; locals = a.locals; operands = one_more m ls }) p))))
mirrored (WriteSlot i k) R w1 w2 v1 e a p =
    top_too R (λ os. (z : Ended) × OnTop os (λ u us. OnTop us (λ v vs. OnRef v (λ a. IsSomeAnd (get w2.heap a) (λ o. IsIn i o.slots
    × Runs k (record w2 { heap = insert w2.heap a (record o { slots = slice_set o.slots i u }); operands = vs }) z.0 z.1))))) _ _ _ a.operands p (λ u v us vs l ls p.
    top_too R (λ os. (z : Ended) × OnTop os (λ t ts. OnRef t (λ a. IsSomeAnd (get w2.heap a) (λ o. IsIn i o.slots
    × Runs k (record w2 { heap = insert w2.heap a (record o { slots = slice_set o.slots i v }); operands = ts }) z.0 z.1)))) _ _ _ ls p (λ s t ss ts m ms p.
    ref_too R (λ t. (z : Ended) × OnRef t (λ a. IsSomeAnd (get w2.heap a) (λ o. IsIn i o.slots
    × Runs k (record w2 { heap = insert w2.heap a (record o { slots = slice_set o.slots i v }); operands = ts }) z.0 z.1))) _ _ _ m p (λ x y r p.
    object_too R (λ o. (z : Ended) × IsSomeAnd o (λ o. IsIn i o.slots
    × Runs k (record w2 { heap = insert w2.heap y (record o { slots = slice_set o.slots i v }); operands = ts }) z.0 z.1)) _ _ _ (a.heap.alike x y r) p (λ o c n p.
    let new : AlikeObj R (record o { slots = slice_set o.slots i u }) (record c { slots = slice_set c.slots i v }) = record { kind = n.kind; slots = set_like R _ _ i u v n.slots l } in
    let q = mirrored k R _ (record w2 { heap = insert w2.heap y (record c { slots = slice_set c.slots i v }); operands = ts }) v1 e
    (record { heap = written R w1.heap w2.heap a.heap x y r _ _ new; printed = a.printed; locals = a.locals; operands = ms }) p.1 in
    (q.0, (subst (λ n. i < n) (lengths R _ _ n.slots) p.0, q.1))))))
mirrored (Make c ps k) R w1 w2 v1 e a p =
    let new : AlikeObj R (record { kind = c; slots = map plain ps }) (record { kind = c; slots = map plain ps }) = record { kind = refl; slots = plains_like R ps } in
    let n = fresh w2.heap in
    let m = mirrored k (with_new R p.0 n.0) _ (record w2 { heap = insert w2.heap n.0 (record { kind = c; slots = map plain ps }); operands = Ref n.0 ∷ w2.operands }) v1 e
    (record {
      heap = made R w1.heap w2.heap a.heap p.0 n.0 p.1 n.1 _ _ new;
      printed = a.printed;
      locals = all_more R _ (λ x y r. inl r) _ _ a.locals;
      operands = one_more (like_ref (inr (refl, refl))) (all_more R _ (λ x y r. inl r) _ _ a.operands);
    }) p.2 in
    (m.0, (n.0, n.1, m.1))
mirrored (Print bs k) R w1 w2 v1 e a p =
    mirrored k R _ (record w2 { printed = w2.printed ++ bs }) v1 e (record { heap = a.heap; printed = ap (λ out. out ++ bs) a.printed; locals = a.locals; operands = a.operands }) p
