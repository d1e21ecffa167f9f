-- Heaps whose objects are listed, and relations whose pairs are: what holds of each entry holds of all.
use Rattle.std.proofs.Common.{◌≡◌, ◌≢◌, ℕ, zero, suc, List, [], ◌∷◌, refl, sym, ap, subst, subst₂, ◌∙◌, inl, inr, Bool, true, T, eq-eqb}
use Rattle.std.specs.Prelude.{Option, Some, None, ◌==◌, ◌&&◌, not}
use Rattle.std.specs.Ordering.{nat_cmp}
use Rattle.std.specs.FinMap.{get, get-from_entries, find, same_map, nat_cmp-IsAntisymmetric}
use Rattle.std.proofs.lemmas.Cmp.{nat_cmp_total}
use Rattle.nr_model.specs.declared.value.Value.{Value}
use Rattle.nr_model.specs.declared.value.Value.TheVariants.{Int, Long, Null, Ref}
use Rattle.nr_model.specs.Heaps.{Obj, on_some}
use Rattle.nr_model.specs.Alike.{AlikeAt}
use Rattle.nr_model.specs.Pairs.{name_at, slot_name, leads, Listed, IsClosed}
use Rattle.nr_model.specs.Example.{heap}
use Rattle.nr_model.proofs.Cells.{first, second}
use Rattle.nr_model.proofs.Copies.{IsKey, found_key, some_there}
use Rattle.nr_model.proofs.Matchings.{Matched}
use Rattle.nr_model.proofs.Paths.{none_some, some_eq, bound}

-- ---- entries

abbrev pub Each : {X : Type 0} → (ℕ → Type 0) → List (ℕ × X) → Type 0
Each A [] = Unit {0}
Each A (e ∷ es) = A e.0 × Each A es

pub each_key : {X : Type 0} (A : ℕ → Type 0) (es : List (ℕ × X)) → Each A es → (x : ℕ) → IsKey es x → A x
each_key A [] t x i = absurd i
each_key A (e ∷ es) t x (inl i) = subst A (sym i) t.0
each_key A (e ∷ es) t x (inr i) = each_key A es t.1 x i

-- what the heap has under the name
pub at : (es : List (ℕ × Obj)) (x : ℕ) → get (heap es) x ≡ find nat_cmp x es
at es x = get-from_entries nat_cmp_total es x

pub there : (es : List (ℕ × Obj)) (x : ℕ) → find nat_cmp x es ≢ None → get (heap es) x ≢ None
there es x n e = n (sym (at es x) ∙ e)

pub is_key : (es : List (ℕ × Obj)) (x : ℕ) → get (heap es) x ≢ None → IsKey es x
is_key es x n = found_key es x (λ e. n (at es x ∙ e))

pub each_name : (A : ℕ → Type 0) (es : List (ℕ × Obj)) → Each A es → (x : ℕ) → get (heap es) x ≢ None → A x
each_name A es t x n = each_key A es t x (is_key es x n)

-- two lists that have the same under each of their names give one heap
pub same_heaps : (es fs : List (ℕ × Obj)) → Each (λ x. find nat_cmp x es ≡ find nat_cmp x fs) es → Each (λ x. find nat_cmp x es ≡ find nat_cmp x fs) fs → heap es ≡ heap fs
same_heaps es fs t s = same_map nat_cmp_total nat_cmp-IsAntisymmetric (heap es) (heap fs) (λ q. at es q ∙ agree q (find nat_cmp q es) (find nat_cmp q fs) refl refl ∙ sym (at fs q))
  where
    agree : (q : ℕ) (o p : Option Obj) → find nat_cmp q es ≡ o → find nat_cmp q fs ≡ p → find nat_cmp q es ≡ find nat_cmp q fs
    agree q None None e f = e ∙ sym f
    agree q (Some o) p e f = each_key _ es t q (found_key es q (some_there e))
    agree q None (Some p) e f = each_key _ fs s q (found_key fs q (some_there f))

-- ---- slots and paths

abbrev pub slots_at : List (ℕ × Obj) → ℕ → List Value
slots_at es x = on_some (find nat_cmp x es) [] (λ o. o.slots)

abbrev pub EachRef : (ℕ → Type 0) → List Value → Type 0
EachRef A [] = Unit {0}
EachRef A (Ref a ∷ vs) = A a × EachRef A vs
EachRef A (v ∷ vs) = EachRef A vs

pub each_ref : (A : ℕ → Type 0) (vs : List Value) → EachRef A vs → (i y : ℕ) → name_at vs i ≡ Some y → A y
each_ref A [] t i y e = absurd (none_some e)
each_ref A (Ref a ∷ vs) t zero y e = subst A (some_eq e) t.0
each_ref A (Ref a ∷ vs) t (suc i) y e = each_ref A vs t.1 i y e
each_ref A (Int n ∷ vs) t zero y e = absurd (none_some e)
each_ref A (Int n ∷ vs) t (suc i) y e = each_ref A vs t i y e
each_ref A (Long n ∷ vs) t zero y e = absurd (none_some e)
each_ref A (Long n ∷ vs) t (suc i) y e = each_ref A vs t i y e
each_ref A (Null ∷ vs) t zero y e = absurd (none_some e)
each_ref A (Null ∷ vs) t (suc i) y e = each_ref A vs t i y e

abbrev pub name_of : List (ℕ × Obj) → ℕ → ℕ → Option ℕ
name_of es x i = on_some (find nat_cmp x es) None (λ o. name_at o.slots i)

slot_is : (es : List (ℕ × Obj)) (x i : ℕ) → slot_name (heap es) x i ≡ name_of es x i
slot_is es x i = ap (λ o. on_some o None (λ o. name_at o.slots i)) (at es x)

pub slot_among : (A : ℕ → Type 0) (es : List (ℕ × Obj)) (x : ℕ) → EachRef A (slots_at es x) → (i y : ℕ) → slot_name (heap es) x i ≡ Some y → A y
slot_among A es x t i y e = go (find nat_cmp x es) t (sym (slot_is es x i) ∙ e)
  where
    go : (o : Option Obj) → EachRef A (on_some o [] (λ o. o.slots)) → on_some o None (λ o. name_at o.slots i) ≡ Some y → A y
    go None t e = absurd (none_some e)
    go (Some o) t e = each_ref A o.slots t i y e

pub is_closed : (es : List (ℕ × Obj)) → Each (λ x. EachRef (λ y. find nat_cmp y es ≢ None) (slots_at es x)) es → IsClosed (heap es)
is_closed es t x i y e =
    let key : IsKey es x = found_key es x (λ f. none_some (sym (slot_is es x i ∙ ap (λ o. on_some o None (λ o. name_at o.slots i)) f) ∙ e)) in
    let there : find nat_cmp y es ≢ None = slot_among (λ y. find nat_cmp y es ≢ None) es x (each_key (λ x. EachRef (λ y. find nat_cmp y es ≢ None) (slots_at es x)) es t x key) i y e in
    λ n. there (sym (at es y) ∙ n)

abbrev pub leads_in : List (ℕ × Obj) → List ℕ → ℕ → Option ℕ
leads_in es [] a = Some a
leads_in es (i ∷ path) a = on_some (name_of es a i) None (leads_in es path)

pub leads_is : (es : List (ℕ × Obj)) (path : List ℕ) (a : ℕ) → leads (heap es) path a ≡ leads_in es path a
leads_is es [] a = refl
leads_is es (i ∷ path) a = ap (λ o. on_some o None (leads (heap es) path)) (slot_is es a i) ∙ on_both (name_of es a i) (leads (heap es) path) (leads_in es path) (leads_is es path)
  where
    on_both : (o : Option ℕ) (f g : ℕ → Option ℕ) → ((b : ℕ) → f b ≡ g b) → on_some o None f ≡ on_some o None g
    on_both None f g k = refl
    on_both (Some b) f g k = k b

-- paths don't lead out of names whose objects name only such
pub stays_among : (A : ℕ → Type 0) (es : List (ℕ × Obj)) → ((x : ℕ) → A x → EachRef A (slots_at es x)) → (path : List ℕ) (a x : ℕ) → A a → leads (heap es) path a ≡ Some x → A x
stays_among A es t [] a x i e = subst A (some_eq e) i
stays_among A es t (j ∷ path) a x i e =
    let c = bound (slot_name (heap es) a j) (leads (heap es) path) x e in
    stays_among A es t path c.0 x (slot_among A es a (t a i) j c.0 c.1) c.2

-- ---- listed pairs

abbrev pub EachPair : (ℕ → ℕ → Type 0) → List (ℕ × ℕ) → Type 0
EachPair A [] = Unit {0}
EachPair A (p ∷ ps) = A p.0 p.1 × EachPair A ps

pub each_pair : (A : ℕ → ℕ → Type 0) (ps : List (ℕ × ℕ)) → EachPair A ps → (x y : ℕ) → Listed ps x y → A x y
each_pair A [] t x y i = absurd i
each_pair A (p ∷ ps) t x y (inl i) = subst₂ A (sym i.0) (sym i.1) t.0
each_pair A (p ∷ ps) t x y (inr i) = each_pair A ps t.1 x y i

-- no name stands twice on one side
abbrev pub is_apart : ℕ × ℕ → List (ℕ × ℕ) → Bool
is_apart p [] = true
is_apart p (q ∷ qs) = (not (p.0 == q.0) && not (p.1 == q.1)) && is_apart p qs

abbrev pub are_apart : List (ℕ × ℕ) → Bool
are_apart [] = true
are_apart (p ∷ ps) = is_apart p ps && are_apart ps

differ : (a b : ℕ) → T (not (a == b)) → a ≢ b
differ a b t e = subst (λ b. T (not b)) (eq-eqb a b e) t

apart_listed : (p : ℕ × ℕ) (ps : List (ℕ × ℕ)) → T (is_apart p ps) → (x y : ℕ) → Listed ps x y → (p.0 ≢ x) × (p.1 ≢ y)
apart_listed p [] t x y i = absurd i
apart_listed p (q ∷ qs) t x y (inl i) =
    let both = first (not (p.0 == q.0) && not (p.1 == q.1)) (is_apart p qs) t in
    let left : p.0 ≢ q.0 = differ p.0 q.0 (first (not (p.0 == q.0)) (not (p.1 == q.1)) both) in
    let right : p.1 ≢ q.1 = differ p.1 q.1 (second (not (p.0 == q.0)) (not (p.1 == q.1)) both) in
    (λ e. left (e ∙ i.0), λ e. right (e ∙ i.1))
apart_listed p (q ∷ qs) t x y (inr i) = apart_listed p qs (second (not (p.0 == q.0) && not (p.1 == q.1)) (is_apart p qs) t) x y i

listed_right : (ps : List (ℕ × ℕ)) → T (are_apart ps) → (x y z : ℕ) → Listed ps x y → Listed ps x z → y ≡ z
listed_right [] t x y z i j = absurd i
listed_right (p ∷ ps) t x y z (inl i) (inl j) = i.1 ∙ sym j.1
listed_right (p ∷ ps) t x y z (inl i) (inr j) = absurd ((apart_listed p ps (first (is_apart p ps) (are_apart ps) t) x z j).0 (sym i.0))
listed_right (p ∷ ps) t x y z (inr i) (inl j) = absurd ((apart_listed p ps (first (is_apart p ps) (are_apart ps) t) x y i).0 (sym j.0))
listed_right (p ∷ ps) t x y z (inr i) (inr j) = listed_right ps (second (is_apart p ps) (are_apart ps) t) x y z i j

listed_left : (ps : List (ℕ × ℕ)) → T (are_apart ps) → (x y z : ℕ) → Listed ps x z → Listed ps y z → x ≡ y
listed_left [] t x y z i j = absurd i
listed_left (p ∷ ps) t x y z (inl i) (inl j) = i.0 ∙ sym j.0
listed_left (p ∷ ps) t x y z (inl i) (inr j) = absurd ((apart_listed p ps (first (is_apart p ps) (are_apart ps) t) y z j).1 (sym i.1))
listed_left (p ∷ ps) t x y z (inr i) (inl j) = absurd ((apart_listed p ps (first (is_apart p ps) (are_apart ps) t) x z i).1 (sym j.1))
listed_left (p ∷ ps) t x y z (inr i) (inr j) = listed_left ps (second (is_apart p ps) (are_apart ps) t) x y z i j

pub listed_matched : (ps : List (ℕ × ℕ)) (es fs : List (ℕ × Obj)) → T (are_apart ps) → EachPair (λ x y. AlikeAt (Listed ps) (find nat_cmp x es) (find nat_cmp y fs)) ps → Matched (Listed ps) (heap es) (heap fs)
listed_matched ps es fs t k = record {
  one_right = listed_right ps t;
  one_left = listed_left ps t;
  alike = λ x y i. subst₂ (AlikeAt (Listed ps)) (sym (at es x)) (sym (at fs y)) (each_pair (λ x y. AlikeAt (Listed ps) (find nat_cmp x es) (find nat_cmp y fs)) ps k x y i);
}
