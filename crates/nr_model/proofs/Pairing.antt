-- Two runs of one script, from frames that agree.
use Rattle.std.proofs.Common.{◌≡◌, ℕ, zero, suc, List, [], ◌∷◌, ◌++◌, length, refl, sym, ap, subst, subst₂, ◌∙◌, inl, inr, eqb}
use Rattle.std.specs.Prelude.{ℤ, Option, Some, None, slice_get, slice_set, map, IsSomeAnd}
use Rattle.std.specs.FinMap.{get}
use Rattle.nr_model.specs.declared.value.Value.{Value}
use Rattle.nr_model.specs.Heaps.{Obj, Heap}
use Rattle.nr_model.specs.Scripts.{Plain, plain, PlainInt, PlainLong, PlainNull, Script, GoTo, Throw, Return, ReturnTop, Call, Stuck, Push, PopInt, PopLong, Load, Store, Pick, Drop, AskLong, AskNull, AskSame, AskKind, ReadSlot, WriteSlot, Make, Print, Within, Ending, OnTop, OnInt, OnLong, OnRef, OnReference, is_long, is_same, is_null, without, Runs}
use Rattle.nr_model.specs.Alike.{Like, like_int, like_long, like_null, like_ref, AllLike, no_more, one_more, AlikeObj, AlikeAt, alike_at, no_result, one_result}
use Rattle.nr_model.proofs.Matchings.{Matched, Moved, AlikeEnding, both_go, both_threw, both_gave, both_called, AlikeWithin}
use Rattle.nr_model.proofs.Heaps.{written, made, moved_none, moved_write, moved_make, moved_then, all_more, with_new, sum_left}
use Rattle.std.proofs.lemmas.List.{length-set}
use Rattle.std.proofs.lemmas.Bool.{eq-eqb}
use Rattle.std.proofs.lemmas.Bool.Decides.{eqb_tells}

pub plain_like : (R : ℕ → ℕ → Type 0) (c : Plain) → Like R (plain c) (plain c)
plain_like R (PlainInt n) = like_int
plain_like R (PlainLong n) = like_long
plain_like R PlainNull = like_null

pub plains_like : (R : ℕ → ℕ → Type 0) (cs : List Plain) → AllLike R (map plain cs) (map plain cs)
plains_like R [] = no_more
plains_like R (c ∷ cs) = one_more (plain_like R c) (plains_like R cs)

module _ (R : ℕ → ℕ → Type 0) where
  pub lengths : (us vs : List Value) → AllLike R us vs → length us ≡ length vs
  lengths us vs no_more = refl
  lengths us vs (one_more l ls) = ap suc (lengths _ _ ls)

  pub set_like : (us vs : List Value) (i : ℕ) (u v : Value) → AllLike R us vs → Like R u v → AllLike R (slice_set us i u) (slice_set vs i v)
  set_like us vs i u v no_more n = no_more
  set_like us vs zero u v (one_more l ls) n = one_more n ls
  set_like us vs (suc i) u v (one_more l ls) n = one_more l (set_like _ _ i u v ls n)

  pub without_like : (us vs : List Value) (i : ℕ) → AllLike R us vs → AllLike R (without i us) (without i vs)
  without_like us vs i no_more = no_more
  without_like us vs zero (one_more l ls) = ls
  without_like us vs (suc i) (one_more l ls) = one_more l (without_like _ _ i ls)

  pub long_like : (u v : Value) → Like R u v → is_long u ≡ is_long v
  long_like u v like_int = refl
  long_like u v like_long = refl
  long_like u v like_null = refl
  long_like u v (like_ref r) = refl

  -- what is asked of both sides is answered alike
  pub on_place {ℓ} : (C : Type ℓ) (us vs : List Value) (i : ℕ) (P Q : Value → Type 0) → AllLike R us vs → IsSomeAnd (slice_get us i) P → IsSomeAnd (slice_get vs i) Q
      → ((u v : Value) → Like R u v → P u → Q v → C) → C
  on_place C us vs i P Q no_more p q k = absurd p
  on_place C us vs zero P Q (one_more l ls) p q k = k _ _ l p q
  on_place C us vs (suc i) P Q (one_more l ls) p q k = on_place C _ _ i P Q ls p q k

  pub on_top {ℓ} : (C : Type ℓ) (us vs : List Value) (P Q : Value → List Value → Type 0) → AllLike R us vs → OnTop us P → OnTop vs Q
      → ((u v : Value) (us vs : List Value) → Like R u v → AllLike R us vs → P u us → Q v vs → C) → C
  on_top C us vs P Q no_more p q k = absurd p
  on_top C us vs P Q (one_more l ls) p q k = k _ _ _ _ l ls p q

  pub on_int {ℓ} : (C : Type ℓ) (u v : Value) (P Q : ℤ → Type 0) → Like R u v → OnInt u P → OnInt v Q → ((n : ℤ) → P n → Q n → C) → C
  on_int C u v P Q like_int p q k = k _ p q
  on_int C u v P Q like_long p q k = absurd p
  on_int C u v P Q like_null p q k = absurd p
  on_int C u v P Q (like_ref r) p q k = absurd p

  pub on_long {ℓ} : (C : Type ℓ) (u v : Value) (P Q : ℤ → Type 0) → Like R u v → OnLong u P → OnLong v Q → ((n : ℤ) → P n → Q n → C) → C
  on_long C u v P Q like_int p q k = absurd p
  on_long C u v P Q like_long p q k = k _ p q
  on_long C u v P Q like_null p q k = absurd p
  on_long C u v P Q (like_ref r) p q k = absurd p

  pub on_ref {ℓ} : (C : Type ℓ) (u v : Value) (P Q : ℕ → Type 0) → Like R u v → OnRef u P → OnRef v Q → ((a b : ℕ) → R a b → P a → Q b → C) → C
  on_ref C u v P Q like_int p q k = absurd p
  on_ref C u v P Q like_long p q k = absurd p
  on_ref C u v P Q like_null p q k = absurd p
  on_ref C u v P Q (like_ref r) p q k = k _ _ r p q

  pub on_object {ℓ} : (C : Type ℓ) (h1 h2 : Heap) (m : Matched R h1 h2) (a b : ℕ) (P Q : Obj → Type 0) → R a b → IsSomeAnd (get h1 a) P → IsSomeAnd (get h2 b) Q
      → ((o p : Obj) → AlikeObj R o p → P o → Q p → C) → C
  on_object C h1 h2 m a b P Q r p q k = go _ _ (m.alike a b r) p q
    where
      go : (x y : Option Obj) → AlikeAt R x y → IsSomeAnd x P → IsSomeAnd y Q → C
      go x y (alike_at s) p q = k _ _ s p q

module _ (R : ℕ → ℕ → Type 0) where
  -- the same, with what the heaps hold there
  pub on_held {ℓ} : (C : Type ℓ) (h1 h2 : Heap) (m : Matched R h1 h2) (a b : ℕ) (P Q : Obj → Type 0) → R a b → IsSomeAnd (get h1 a) P → IsSomeAnd (get h2 b) Q
      → ((o p : Obj) → get h1 a ≡ Some o → get h2 b ≡ Some p → AlikeObj R o p → P o → Q p → C) → C
  on_held C h1 h2 m a b P Q r p q k = go _ _ refl refl (m.alike a b r) p q
    where
      go : (x y : Option Obj) → get h1 a ≡ x → get h2 b ≡ y → AlikeAt R x y → IsSomeAnd x P → IsSomeAnd y Q → C
      go x y e f (alike_at s) p q = k _ _ e f s p q

-- two optional names that match
pub data LikeNames (R : ℕ → ℕ → Type 0) : Option ℕ → Option ℕ → Type 0 where
  like_none : LikeNames R None None
  like_some : {x y : ℕ} → R x y → LikeNames R (Some x) (Some y)

module _ (R : ℕ → ℕ → Type 0) where
  pub on_nullable {ℓ} : (C : Type ℓ) (u v : Value) (P Q : Option ℕ → Type 0) → Like R u v → OnReference u P → OnReference v Q → ((a b : Option ℕ) → LikeNames R a b → P a → Q b → C) → C
  on_nullable C u v P Q like_int p q k = absurd p
  on_nullable C u v P Q like_long p q k = absurd p
  on_nullable C u v P Q like_null p q k = k _ _ like_none p q
  on_nullable C u v P Q (like_ref r) p q k = k _ _ (like_some r) p q

pub no_name_like : (R : ℕ → ℕ → Type 0) (a b : Option ℕ) → LikeNames R a b → is_null a ≡ is_null b
no_name_like R a b like_none = refl
no_name_like R a b (like_some r) = refl

-- nat_eq agrees along a one to one matching
eq_like : (a b c d : ℕ) → (a ≡ c → b ≡ d) → (b ≡ d → a ≡ c) → eqb a c ≡ eqb b d
eq_like a b c d f g = sum_left (eqb_tells a c)
    (λ s. s.0 ∙ sym (eq-eqb b d (f s.1)))
    (λ s. s.0 ∙ sym (sum_left (eqb_tells b d) (λ t. absurd (s.1 (g t.1))) (λ t. t.0)))

pub same_name_like : (R : ℕ → ℕ → Type 0) (h1 h2 : Heap) (m : Matched R h1 h2) (a b c d : Option ℕ) → LikeNames R a b → LikeNames R c d → is_same a c ≡ is_same b d
same_name_like R h1 h2 m a b c d like_none like_none = refl
same_name_like R h1 h2 m a b c d like_none (like_some r) = refl
same_name_like R h1 h2 m a b c d (like_some r) like_none = refl
same_name_like R h1 h2 m (Some a) (Some b) (Some c) (Some d) (like_some r) (like_some s) =
    eq_like _ _ _ _ (λ e. m.one_right c b d (subst (λ z. R z b) e r) s) (λ e. m.one_left a c d (subst (R a) e r) s)

-- where two runs of one script leave two heaps and frames
pub record Later (R : ℕ → ℕ → Type 0) (h1 h2 : Heap) (e1 e2 : Ending) (w1 w2 : Within) : Type 1 where
  pub now : ℕ → ℕ → Type 0
  pub moved : Moved R h1 h2 now w1.heap w2.heap
  pub alike : AlikeWithin now w1 w2
  pub ending : AlikeEnding now e1 e2

later_first : (R S : ℕ → ℕ → Type 0) (h1 h2 k1 k2 : Heap) (e1 e2 : Ending) (w1 w2 : Within) → Moved R h1 h2 S k1 k2 → Later S k1 k2 e1 e2 w1 w2 → Later R h1 h2 e1 e2 w1 w2
later_first R S h1 h2 k1 k2 e1 e2 w1 w2 m l = record { now = l.now; moved = moved_then R S l.now h1 h2 k1 k2 w1.heap w2.heap m l.moved; alike = l.alike; ending = l.ending }

pub paired : (sc : Script) (R : ℕ → ℕ → Type 0) (w1 w2 v1 v2 : Within) (e1 e2 : Ending) → AlikeWithin R w1 w2 → Runs sc w1 e1 v1 → Runs sc w2 e2 v2 → Later R w1.heap w2.heap e1 e2 v1 v2
paired (GoTo t) R w1 w2 v1 v2 e1 e2 a p q = rw (p.0, q.0, p.1, q.1) (record { now = R; moved = moved_none R _ _; alike = a; ending = both_go })
paired Throw R w1 w2 v1 v2 e1 e2 a p q =
    on_top R _ _ _ _ _ a.operands p q (λ u v us vs l ls p q. on_ref R _ _ _ _ _ l p q (λ x y r p q.
    rw (p.0, q.0, p.1, q.1) (record { now = R; moved = moved_none R _ _; alike = record { heap = a.heap; printed = a.printed; locals = a.locals; operands = ls }; ending = both_threw r })))
paired Return R w1 w2 v1 v2 e1 e2 a p q = rw (p.0, q.0, p.1, q.1) (record { now = R; moved = moved_none R _ _; alike = a; ending = both_gave no_result })
paired ReturnTop R w1 w2 v1 v2 e1 e2 a p q =
    on_top R _ _ _ _ _ a.operands p q (λ u v us vs l ls p q.
    rw (p.0, q.0, p.1, q.1) (record { now = R; moved = moved_none R _ _; alike = record { heap = a.heap; printed = a.printed; locals = a.locals; operands = ls }; ending = both_gave (one_result l) }))
paired (Call m) R w1 w2 v1 v2 e1 e2 a p q = rw (p.0, q.0, p.1, q.1) (record { now = R; moved = moved_none R _ _; alike = a; ending = both_called })
paired Stuck R w1 w2 v1 v2 e1 e2 a p q = absurd p
paired (Push c k) R w1 w2 v1 v2 e1 e2 a p q =
    paired k R _ _ v1 v2 e1 e2 (record { heap = a.heap; printed = a.printed; locals = a.locals; operands = one_more (plain_like R c) a.operands }) p q
paired (PopInt k) R w1 w2 v1 v2 e1 e2 a p q =
    on_top R _ _ _ _ _ a.operands p q (λ u v us vs l ls p q. on_int R _ _ _ _ _ l p q (λ n p q.
    paired (k n) R _ _ v1 v2 e1 e2 (record { heap = a.heap; printed = a.printed; locals = a.locals; operands = ls }) p q))
paired (PopLong k) R w1 w2 v1 v2 e1 e2 a p q =
    on_top R _ _ _ _ _ a.operands p q (λ u v us vs l ls p q. on_long R _ _ _ _ _ l p q (λ n p q.
    paired (k n) R _ _ v1 v2 e1 e2 (record { heap = a.heap; printed = a.printed; locals = a.locals; operands = ls }) p q))
paired (Load i k) R w1 w2 v1 v2 e1 e2 a p q =
    on_place R _ _ _ i _ _ a.locals p q (λ u v l p q. paired k R _ _ v1 v2 e1 e2 (record { heap = a.heap; printed = a.printed; locals = a.locals; operands = one_more l a.operands }) p q)
paired (Store i k) R w1 w2 v1 v2 e1 e2 a p q =
    on_top R _ _ _ _ _ a.operands p q (λ u v us vs l ls p q.
    paired k R _ _ v1 v2 e1 e2 (record { heap = a.heap; printed = a.printed; locals = set_like R _ _ i u v a.locals l; operands = ls }) p.1 q.1)
paired (Pick d k) R w1 w2 v1 v2 e1 e2 a p q =
    on_place R _ _ _ d _ _ a.operands p q (λ u v l p q. paired k R _ _ v1 v2 e1 e2 (record { heap = a.heap; printed = a.printed; locals = a.locals; operands = one_more l a.operands }) p q)
paired (Drop d k) R w1 w2 v1 v2 e1 e2 a p q =
    paired k R _ _ v1 v2 e1 e2 (record { heap = a.heap; printed = a.printed; locals = a.locals; operands = without_like R _ _ d a.operands }) p.1 q.1
paired (AskLong d k) R w1 w2 v1 v2 e1 e2 a p q =
    on_place R _ _ _ d _ _ a.operands p q (λ u v l p q. paired (k (is_long u)) R _ _ v1 v2 e1 e2 a p (subst (λ b. Runs (k b) w2 e2 v2) (sym (long_like R u v l)) q))
paired (AskNull d k) R w1 w2 v1 v2 e1 e2 a p q =
    on_place R _ _ _ d _ _ a.operands p q (λ u v l p q. on_nullable R _ _ _ _ _ l p q (λ x y n p q.
    paired (k (is_null x)) R _ _ v1 v2 e1 e2 a p (subst (λ b. Runs (k b) w2 e2 v2) (sym (no_name_like R x y n)) q)))
paired (AskSame k) R w1 w2 v1 v2 e1 e2 a p q =
    on_top R _ _ _ _ _ a.operands p q (λ u v us vs l ls p q. on_top R _ _ _ _ _ ls p q (λ s t ss ts m ms p q.
    on_nullable R _ _ _ _ _ l p q (λ x y n p q. on_nullable R _ _ _ _ _ m p q (λ z w o p q.
    paired (k (is_same x z)) R _ _ v1 v2 e1 e2 (record { heap = a.heap; printed = a.printed; locals = a.locals; operands = ms }) p
    (subst (λ b. Runs (k b) (record w2 { operands = ts }) e2 v2) (sym (same_name_like R _ _ a.heap x y z w n o)) q)))))
paired (AskKind d k) R w1 w2 v1 v2 e1 e2 a p q =
    on_place R _ _ _ d _ _ a.operands p q (λ u v l p q. on_ref R _ _ _ _ _ l p q (λ x y r p q. on_object R _ _ _ a.heap x y _ _ r p q (λ o c s p q.
    paired (k o.kind (length o.slots)) R _ _ v1 v2 e1 e2 a p (subst₂ (λ b n. Runs (k b n) w2 e2 v2) (sym s.kind) (sym (lengths R _ _ s.slots)) q))))
paired (ReadSlot i k) R w1 w2 v1 v2 e1 e2 a p q =
    on_top R _ _ _ _ _ a.operands p q (λ u v us vs l ls p q. on_ref R _ _ _ _ _ l p q (λ x y r p q. on_object R _ _ _ a.heap x y _ _ r p q (λ o c s p q.
    on_place R _ _ _ i _ _ s.slots p q (λ f g m p q. paired k R _ _ v1 v2 e1 e2 (record { heap = a.heap; printed = a.printed; locals = a.locals; operands = one_more m ls }) p q))))
paired (WriteSlot i k) R w1 w2 v1 v2 e1 e2 a p q =
    on_top R _ _ _ _ _ a.operands p q (λ u v us vs l ls p q. on_top R _ _ _ _ _ ls p q (λ s t ss ts m ms p q.
    on_ref R _ _ _ _ _ m p q (λ x y r p q. on_held R _ _ _ a.heap x y _ _ r p q (λ o c e f n p q.
    later_first R R w1.heap w2.heap _ _ e1 e2 v1 v2 (moved_write R w1.heap w2.heap x y o c _ _ e (length-set o.slots i u) f (length-set c.slots i v) r)
    (paired k R _ _ v1 v2 e1 e2
    (record { heap = written R w1.heap w2.heap a.heap x y r _ _ (record { kind = n.kind; slots = set_like R _ _ i u v n.slots l }); printed = a.printed; locals = a.locals; operands = ms }) p.1 q.1)))))
paired (Make c ps k) R w1 w2 v1 v2 e1 e2 a p q =
    let new : AlikeObj R (record { kind = c; slots = map plain ps }) (record { kind = c; slots = map plain ps }) = record { kind = refl; slots = plains_like R ps } in
    later_first R (with_new R p.0 q.0) w1.heap w2.heap _ _ e1 e2 v1 v2 (moved_make R w1.heap w2.heap a.heap p.0 q.0 p.1 q.1 _ _ new)
    (paired k (with_new R p.0 q.0) _ _ v1 v2 e1 e2
    (record {
      heap = made R w1.heap w2.heap a.heap p.0 q.0 p.1 q.1 _ _ new;
      printed = a.printed;
      locals = all_more R _ (λ x y r. inl r) _ _ a.locals;
      operands = one_more (like_ref (inr (refl, refl))) (all_more R _ (λ x y r. inl r) _ _ a.operands);
    }) p.2 q.2)
paired (Print bs k) R w1 w2 v1 v2 e1 e2 a p q =
    paired k R _ _ v1 v2 e1 e2 (record { heap = a.heap; printed = ap (λ out. out ++ bs) a.printed; locals = a.locals; operands = a.operands }) p q
