-- Paired by paths is Matched by some matching that holds the start.
use Rattle.std.proofs.Common.{◌≡◌, ℕ, zero, suc, List, [], ◌∷◌, ◌++◌, refl, ap, subst, subst₂, ◌∙◌}
use Rattle.std.specs.Prelude.{Option, Some, None}
use Rattle.nr_model.specs.declared.value.Value.{Value}
use Rattle.nr_model.specs.Heaps.{Obj, Heap, on_some}
use Rattle.nr_model.specs.Alike.{like_int, like_long, like_null, like_ref, AllLike, no_more, one_more, AlikeAt, alike_at, Any}
use Rattle.nr_model.specs.Pairs.{name_at, slot_name, leads, IsPair, Paired}
use Rattle.nr_model.proofs.Matchings.{Matched}
use Rattle.nr_model.proofs.Heaps.{at_more}

pub none_some : {X : Type 0} {a : X} → ◌≡◌ {A = Option X} None (Some a) → ⊥
none_some e = cc

pub bound : {X Y : Type 0} (o : Option X) (f : X → Option Y) (y : Y) → on_some o None f ≡ Some y → (x : X) × (o ≡ Some x) × (f x ≡ Some y)
bound None f y e = absurd (none_some e)
bound (Some x) f y e = (x, refl, e)

pub some_eq : {X : Type 0} {a b : X} → Some a ≡ Some b → a ≡ b
some_eq e = cc

same_on : {X : Type 0} (o : Option X) → on_some o None Some ≡ o
same_on None = refl
same_on (Some x) = refl

on_through : {X Y Z : Type 0} (o : Option X) (f : X → Option Y) (g : X → Option Z) (y : Y) (z : Option Z) → ((x : X) → f x ≡ Some y → g x ≡ z) → on_some o None f ≡ Some y → on_some o None g ≡ z
on_through None f g y z k e = absurd (none_some e)
on_through (Some x) f g y z k e = k x e

-- a path and one more slot
pub leads_on : (h : Heap) (path : List ℕ) (i a x : ℕ) → leads h path a ≡ Some x → leads h (path ++ i ∷ []) a ≡ slot_name h x i
leads_on h [] i a x e = same_on (slot_name h a i) ∙ ap (λ z. slot_name h z i) (some_eq e)
leads_on h (j ∷ path) i a x e = on_through (slot_name h a j) (leads h path) (leads h (path ++ i ∷ [])) x (slot_name h x i) (λ b. leads_on h path i b x) e

module _ (Start : ℕ → ℕ → Type 0) (h1 h2 : Heap) where
  pair_on : (x y i b c : ℕ) → IsPair Start h1 h2 x y → slot_name h1 x i ≡ Some b → slot_name h2 y i ≡ Some c → IsPair Start h1 h2 b c
  pair_on x y i b c p e f = record {
    from_left = p.from_left;
    from_right = p.from_right;
    start = p.start;
    path = p.path ++ i ∷ [];
    to_left = leads_on h1 p.path i p.from_left x p.to_left ∙ e;
    to_right = leads_on h2 p.path i p.from_right y p.to_right ∙ f;
  }

-- lists that agree in all but their names, whose names match place by place
pub names_match : (R : ℕ → ℕ → Type 0) (us vs : List Value) → AllLike Any us vs
    → ((i b c : ℕ) → name_at us i ≡ Some b → name_at vs i ≡ Some c → R b c) → AllLike R us vs
names_match R us vs no_more m = no_more
names_match R us vs (one_more like_int ls) m = one_more like_int (names_match R _ _ ls (λ i. m (suc i)))
names_match R us vs (one_more like_long ls) m = one_more like_long (names_match R _ _ ls (λ i. m (suc i)))
names_match R us vs (one_more like_null ls) m = one_more like_null (names_match R _ _ ls (λ i. m (suc i)))
names_match R us vs (one_more (like_ref r) ls) m = one_more (like_ref (m zero _ _ refl refl)) (names_match R _ _ ls (λ i. m (suc i)))

pub at_match : (R : ℕ → ℕ → Type 0) (o p : Option Obj) → AlikeAt Any o p
    → ((i b c : ℕ) → on_some o None (λ o. name_at o.slots i) ≡ Some b → on_some p None (λ o. name_at o.slots i) ≡ Some c → R b c) → AlikeAt R o p
at_match R o p (alike_at a) m = alike_at (record { kind = a.kind; slots = names_match R _ _ a.slots m })

pub paired_matched : (Start : ℕ → ℕ → Type 0) (h1 h2 : Heap) → Paired Start h1 h2 → Matched (IsPair Start h1 h2) h1 h2
paired_matched Start h1 h2 p = record {
  one_right = λ x y z r s. (p.distinct x y x z r s).0 refl;
  one_left = λ x y z r s. (p.distinct x z y z r s).1 refl;
  alike = λ x y r. at_match _ _ _ (p.agree x y r) (λ i b c. pair_on Start h1 h2 x y i b c r);
}

-- along one path from matched names come matched names
module _ (R : ℕ → ℕ → Type 0) (h1 h2 : Heap) (m : Matched R h1 h2) where
  pub slot_matched : (us vs : List Value) (i x y : ℕ) → AllLike R us vs → name_at us i ≡ Some x → name_at vs i ≡ Some y → R x y
  slot_matched us vs i x y no_more e f = absurd (none_some e)
  slot_matched us vs zero x y (one_more like_int ls) e f = absurd (none_some e)
  slot_matched us vs zero x y (one_more like_long ls) e f = absurd (none_some e)
  slot_matched us vs zero x y (one_more like_null ls) e f = absurd (none_some e)
  slot_matched us vs zero x y (one_more (like_ref r) ls) e f = subst₂ R (some_eq e) (some_eq f) r
  slot_matched us vs (suc i) x y (one_more l ls) e f = slot_matched _ _ i x y ls e f

  name_matched : (o p : Option Obj) (i x y : ℕ) → AlikeAt R o p → on_some o None (λ o. name_at o.slots i) ≡ Some x
      → on_some p None (λ o. name_at o.slots i) ≡ Some y → R x y
  name_matched o p i x y (alike_at a) e f = slot_matched _ _ i x y a.slots e f

  pub path_matched : (path : List ℕ) (a b x y : ℕ) → R a b → leads h1 path a ≡ Some x → leads h2 path b ≡ Some y → R x y
  path_matched [] a b x y r e f = subst₂ R (some_eq e) (some_eq f) r
  path_matched (i ∷ path) a b x y r e f =
      let c = bound (slot_name h1 a i) (leads h1 path) x e in
      let d = bound (slot_name h2 b i) (leads h2 path) y f in
      path_matched path c.0 d.0 x y (name_matched _ _ i c.0 d.0 (m.alike a b r) c.1 d.1) c.2 d.2

pub matched_paired : (Start R : ℕ → ℕ → Type 0) (h1 h2 : Heap) → Matched R h1 h2 → ((x y : ℕ) → Start x y → R x y) → Paired Start h1 h2
matched_paired Start R h1 h2 m s = record {
  distinct = λ x y u v p q.
      let r : R x y = path_matched R h1 h2 m p.path _ _ x y (s _ _ p.start) p.to_left p.to_right in
      let t : R u v = path_matched R h1 h2 m q.path _ _ u v (s _ _ q.start) q.to_left q.to_right in
      ((λ e. m.one_right u y v (subst (λ z. R z y) e r) t), (λ e. m.one_left x u v (subst (R x) e r) t));
  agree = λ x y p. at_more R Any (λ x y r. tt) _ _ (m.alike x y (path_matched R h1 h2 m p.path _ _ x y (s _ _ p.start) p.to_left p.to_right));
}
