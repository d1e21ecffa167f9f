-- What one access does to two matched heaps.
use Rattle.std.proofs.Common.{◌≡◌, ◌≢◌, ℕ, suc, ◌⊎◌, List, length, refl, sym, ap, subst, ◌∙◌, arith, inl, inr, true, false, cond}
use Rattle.std.specs.Prelude.{Option, Some, None}
use Rattle.std.specs.Ordering.{nat_cmp, eq_by_cmp, is_eq}
use Rattle.std.proofs.Common.{Ordering}
use Rattle.std.specs.declared.cmp.Ordering.TheVariants.{Less, Equal, Greater}
use Rattle.std.specs.Cmp.{nat_cmp_is}
use Rattle.std.proofs.lemmas.Cmp.{nat_cmp_total}
use Rattle.std.proofs.Math.Decide.{ℕ_discrete}
use Rattle.std.specs.FinMap.{get, insert, get-insert, nat_cmp-IsAntisymmetric}
use Rattle.nr_model.specs.declared.value.Value.{Value}
use Rattle.nr_model.specs.Heaps.{Obj, Heap}
use Rattle.nr_model.specs.Alike.{Like, like_int, like_long, like_null, like_ref, AllLike, no_more, one_more, AlikeObj, AlikeAt, alike_at}
use Rattle.nr_model.proofs.Matchings.{Matched, Kept, OnLeft, OnRight, Moved}
use Rattle.nr_model.proofs.Cells.{cells_new, cells_write}

pub eq_self : (a : ℕ) → eq_by_cmp nat_cmp a a ≡ true
eq_self a = ap is_eq (sym (nat_cmp_is a a Equal refl))

pub not_equal : (q a : ℕ) (r : Ordering) → nat_cmp q a ≡ r → q ≢ a → is_eq r ≡ false
not_equal q a Equal e n = absurd (n (nat_cmp-IsAntisymmetric q a e))
not_equal q a Less e n = refl
not_equal q a Greater e n = refl

pub get_same : (h : Heap) (a : ℕ) (o : Obj) → get (insert h a o) a ≡ Some o
get_same h a o = get-insert nat_cmp_total h a o a ∙ ap (λ b. cond b (Some o) (get h a)) (eq_self a)

pub get_other : (h : Heap) (a q : ℕ) (o : Obj) → q ≢ a → get (insert h a o) q ≡ get h q
get_other h a q o n = get-insert nat_cmp_total h a o q ∙ ap (λ b. cond b (Some o) (get h q)) (not_equal q a _ refl n)

some_not_none : {X : Type 0} {x : X} {o : Option X} → o ≡ Some x → o ≢ None
some_not_none p q = cc

-- matched names are held, and their objects agree
module _ (R : ℕ → ℕ → Type 0) where
  pub held_left : (o p : Option Obj) → AlikeAt R o p → o ≢ None
  held_left o p (alike_at a) = λ e. cc

  pub held_right : (o p : Option Obj) → AlikeAt R o p → p ≢ None
  held_right o p (alike_at a) = λ e. cc

module _ (R S : ℕ → ℕ → Type 0) (more : (x y : ℕ) → R x y → S x y) where
  pub like_more : (u v : Value) → Like R u v → Like S u v
  like_more u v like_int = like_int
  like_more u v like_long = like_long
  like_more u v like_null = like_null
  like_more u v (like_ref r) = like_ref (more _ _ r)

  pub all_more : (us vs : List Value) → AllLike R us vs → AllLike S us vs
  all_more us vs no_more = no_more
  all_more us vs (one_more l ls) = one_more (like_more _ _ l) (all_more _ _ ls)

  pub at_more : (o p : Option Obj) → AlikeAt R o p → AlikeAt S o p
  at_more o p (alike_at a) = alike_at (record { kind = a.kind; slots = all_more _ _ a.slots })

-- a slot is written on both sides
module _ (R : ℕ → ℕ → Type 0) (h1 h2 : Heap) (m : Matched R h1 h2) (a b : ℕ) (r : R a b) (o p : Obj) (new : AlikeObj R o p) where
  written_at : (x y : ℕ) → R x y → Dec (x ≡ a) → AlikeAt R (get (insert h1 a o) x) (get (insert h2 b p) y)
  written_at x y s (yes e) =
      let f : y ≡ b = m.one_right a y b (subst (λ z. R z y) e s) r in
      subst (λ z. AlikeAt R (get (insert h1 a o) z) (get (insert h2 b p) y)) (sym e)
      (subst (λ z. AlikeAt R (get (insert h1 a o) a) (get (insert h2 b p) z)) (sym f) (rw (get_same, get_same) (alike_at new)))
  written_at x y s (no n) =
      let k : y ≢ b = λ f. n (m.one_left x a b (subst (R x) f s) r) in
      rw (get_other h1 a x o n, get_other h2 b y p k) (m.alike x y s)

  pub written : Matched R (insert h1 a o) (insert h2 b p)
  written = record { one_right = m.one_right; one_left = m.one_left; alike = λ x y s. written_at x y s (ℕ_discrete x a) }

-- a write at a name that In holds
module _ (In : ℕ → Type 0) (h : Heap) (a : ℕ) (o : Obj) where
  kept_name : (x : ℕ) → get (insert h a o) x ≡ None → Dec (x ≡ a) → get h x ≡ None
  kept_name x n (yes e) = absurd (some_not_none (get_same h a o) (rw e at n))
  kept_name x n (no d) = rw (get_other h a x o d) at n

  pub kept_in : In a → Kept In h (insert h a o)
  kept_in i = record {
    outside = λ x n out. get_other h a x o (λ e. out (subst In (sym e) i));
    names = λ x n. kept_name x n (ℕ_discrete x a);
  }

  pub kept_new : get h a ≡ None → Kept In h (insert h a o)
  kept_new f = record {
    outside = λ x n out. get_other h a x o (λ e. n (subst (λ z. get h z ≡ None) (sym e) f));
    names = λ x n. kept_name x n (ℕ_discrete x a);
  }

new_in : (In : ℕ → Type 0) (h : Heap) (a : ℕ) (o : Obj) → In a → (x : ℕ) → get h x ≡ None → (In x → ⊥) → get (insert h a o) x ≡ None
new_in In h a o i x n out = get_other h a x o (λ e. out (subst In (sym e) i)) ∙ n

pub kept_same : (In : ℕ → Type 0) (h : Heap) → Kept In h h
kept_same In h = record { outside = λ x n out. refl; names = λ x n. n }

pub moved_none : (R : ℕ → ℕ → Type 0) (h1 h2 : Heap) → Moved R h1 h2 R h1 h2
moved_none R h1 h2 = record { older = λ x y r. r; newer = λ x y r. inl r; left = kept_same _ h1; right = kept_same _ h2; left_new = λ x n o. n; right_new = λ x n o. n; grown = omega arith }

lengths_like : (R : ℕ → ℕ → Type 0) (us vs : List Value) → AllLike R us vs → length us ≡ length vs
lengths_like R us vs no_more = refl
lengths_like R us vs (one_more l ls) = ap suc (lengths_like R _ _ ls)

pub moved_write : (R : ℕ → ℕ → Type 0) (h1 h2 : Heap) (a b : ℕ) (c d o p : Obj) → get h1 a ≡ Some c → length o.slots ≡ length c.slots → get h2 b ≡ Some d → length p.slots ≡ length d.slots → R a b → Moved R h1 h2 R (insert h1 a o) (insert h2 b p)
moved_write R h1 h2 a b c d o p e l f k r = record { grown = omega (arith, cells_write h1 a c o e l, cells_write h2 b d p f k); older = λ x y r. r; newer = λ x y r. inl r; left = kept_in _ h1 a o (b, r); right = kept_in _ h2 b p (a, r); left_new = new_in (OnLeft R) h1 a o (b, r); right_new = new_in (OnRight R) h2 b p (a, r) }

-- a new object on each side
abbrev pub with_new : (ℕ → ℕ → Type 0) → ℕ → ℕ → ℕ → ℕ → Type 0
with_new R a b x y = R x y ⊎ ((x ≡ a) × (y ≡ b))

module _ (R : ℕ → ℕ → Type 0) (h1 h2 : Heap) (m : Matched R h1 h2) (a b : ℕ) (f : get h1 a ≡ None) (g : get h2 b ≡ None) (o p : Obj) (new : AlikeObj R o p) where
  not_left : (y : ℕ) → R a y → ⊥
  not_left y r = held_left R _ _ (m.alike a y r) f

  not_right : (x : ℕ) → R x b → ⊥
  not_right x r = held_right R _ _ (m.alike x b r) g

  made_at : (x y : ℕ) → with_new R a b x y → AlikeAt (with_new R a b) (get (insert h1 a o) x) (get (insert h2 b p) y)
  made_at x y (inl r) =
      let d : x ≢ a = λ e. not_left y (subst (λ z. R z y) e r) in
      let k : y ≢ b = λ e. not_right x (subst (R x) e r) in
      rw (get_other h1 a x o d, get_other h2 b y p k) (at_more R (with_new R a b) (λ x y r. inl r) _ _ (m.alike x y r))
  made_at x y (inr e) =
      rw (e.0, e.1, get_same, get_same) (at_more R (with_new R a b) (λ x y r. inl r) _ _ (alike_at new))

  made_right : (x y z : ℕ) → with_new R a b x y → with_new R a b x z → y ≡ z
  made_right x y z (inl r) (inl s) = m.one_right x y z r s
  made_right x y z (inl r) (inr e) = absurd (not_left y (subst (λ u. R u y) e.0 r))
  made_right x y z (inr e) (inl s) = absurd (not_left z (subst (λ u. R u z) e.0 s))
  made_right x y z (inr e) (inr d) = e.1 ∙ sym d.1

  made_left : (x y z : ℕ) → with_new R a b x z → with_new R a b y z → x ≡ y
  made_left x y z (inl r) (inl s) = m.one_left x y z r s
  made_left x y z (inl r) (inr e) = absurd (not_right x (subst (R x) e.1 r))
  made_left x y z (inr e) (inl s) = absurd (not_right y (subst (R y) e.1 s))
  made_left x y z (inr e) (inr d) = e.0 ∙ sym d.0

  pub made : Matched (with_new R a b) (insert h1 a o) (insert h2 b p)
  made = record { one_right = made_right; one_left = made_left; alike = made_at }

  made_newer : (x y : ℕ) → with_new R a b x y → R x y ⊎ ((get h1 x ≡ None) × (get h2 y ≡ None))
  made_newer x y (inl r) = inl r
  made_newer x y (inr e) = inr (rw e.0 f, rw e.1 g)

  pub moved_make : Moved R h1 h2 (with_new R a b) (insert h1 a o) (insert h2 b p)
  moved_make = record { grown = omega (arith, cells_new h1 a o f, cells_new h2 b p g, lengths_like R _ _ new.slots); older = λ x y r. inl r; newer = made_newer; left = kept_new _ h1 a o f; right = kept_new _ h2 b p g; left_new = new_in (OnLeft (with_new R a b)) h1 a o (b, inr (refl, refl)); right_new = new_in (OnRight (with_new R a b)) h2 b p (a, inr (refl, refl)) }

-- one movement after another
kept_after : (In Out : ℕ → Type 0) (h k l : Heap) → ((x : ℕ) → get h x ≢ None → Out x → In x) → Kept In h k → Kept Out k l → Kept In h l
kept_after In Out h k l back a b = record {
  outside = λ x n out. b.outside x (λ e. n (a.names x e)) (λ i. out (back x n i)) ∙ a.outside x n out;
  names = λ x n. a.names x (b.names x n);
}

pub sum_left : {A B C : Type 0} → A ⊎ B → (A → C) → (B → C) → C
sum_left (inl a) f g = f a
sum_left (inr b) f g = g b

pub moved_then : (R S T : ℕ → ℕ → Type 0) (h1 h2 k1 k2 l1 l2 : Heap) → Moved R h1 h2 S k1 k2 → Moved S k1 k2 T l1 l2 → Moved R h1 h2 T l1 l2
moved_then R S T h1 h2 k1 k2 l1 l2 a b = record {
  older = λ x y r. b.older x y (a.older x y r);
  newer = λ x y t. sum_left (b.newer x y t) (λ s. a.newer x y s) (λ n. inr (a.left.names x n.0, a.right.names y n.1));
  left = kept_after (OnLeft R) (OnLeft S) h1 k1 l1 (λ x n i. sum_left (a.newer x i.0 i.1) (λ r. (i.0, r)) (λ e. absurd (n e.0))) a.left b.left;
  right = kept_after (OnRight R) (OnRight S) h2 k2 l2 (λ x n i. sum_left (a.newer i.0 x i.1) (λ r. (i.0, r)) (λ e. absurd (n e.1))) a.right b.right;
  grown = omega (arith, a.grown, b.grown);
  left_new = λ x n o. b.left_new x (a.left_new x n (λ i. o (i.0, b.older x i.0 i.1))) o;
  right_new = λ x n o. b.right_new x (a.right_new x n (λ i. o (i.0, b.older i.0 x i.1))) o;
}
