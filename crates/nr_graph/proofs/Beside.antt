-- Two walks side by side, where a one to one relation says which names stand for one another.
use Rattle.std.proofs.Common.{◌≡◌, ℕ, zero, suc, ◌||◌, List, [], ◌∷◌, ◌++◌, length, nat_eq, refl, sym, ap, subst, ◌∙◌, ◌⊎◌, inl, inr}
use Rattle.std.specs.Prelude.{Some, slice_get}
use Rattle.std.proofs.lemmas.Bool.{cases_eq, ne_eqb, eq-eqb}
use Rattle.nr_model.proofs.Paths.{none_some, some_eq}
use Rattle.nr_graph.specs.Walks.{is_met, Walk, over, again, first}

-- place by place
pub data Beside (R : ℕ → ℕ → Type 0) : List ℕ → List ℕ → Type 0 where
  no_more : Beside R [] []
  one_more : {x y : ℕ} {xs ys : List ℕ} → R x y → Beside R xs ys → Beside R (x ∷ xs) (y ∷ ys)

module _ (R : ℕ → ℕ → Type 0) where
  pub beside_long : {xs ys : List ℕ} → Beside R xs ys → length xs ≡ length ys
  beside_long no_more = refl
  beside_long (one_more r b) = ap suc (beside_long b)

  pub both_beside : {xs ys us vs : List ℕ} → Beside R xs ys → Beside R us vs → Beside R (xs ++ us) (ys ++ vs)
  both_beside no_more b = b
  both_beside (one_more r a) b = one_more r (both_beside a b)

  pub to_right : {xs ys : List ℕ} (i x : ℕ) → Beside R xs ys → slice_get xs i ≡ Some x → (y : ℕ) × (slice_get ys i ≡ Some y) × R x y
  to_right i x no_more e = absurd (none_some e)
  to_right zero x (one_more {y = y} r b) e = (y, refl, subst (λ x. R x y) (some_eq e) r)
  to_right (suc i) x (one_more r b) e = to_right i x b e

  pub to_left : {xs ys : List ℕ} (i y : ℕ) → Beside R xs ys → slice_get ys i ≡ Some y → (x : ℕ) × (slice_get xs i ≡ Some x) × R x y
  to_left i y no_more e = absurd (none_some e)
  to_left zero y (one_more {x = x} r b) e = (x, refl, subst (R x) (some_eq e) r)
  to_left (suc i) y (one_more r b) e = to_left i y b e

module _ (R : ℕ → ℕ → Type 0) (one_right : (x y z : ℕ) → R x y → R x z → y ≡ z) (one_left : (x y z : ℕ) → R x z → R y z → x ≡ y) where
  same_test : (x y a b : ℕ) → R x y → R a b → nat_eq x a ≡ nat_eq y b
  same_test x y a b r s = by (cases_eq x a)
    where
      by : (x ≡ a) ⊎ (x ≡ a → ⊥) → nat_eq x a ≡ nat_eq y b
      by (inl e) = eq-eqb x a e ∙ sym (eq-eqb y b (one_right a y b (subst (λ z. R z y) e r) s))
      by (inr ne) = ne_eqb x a ne ∙ sym (ne_eqb y b (λ e. ne (one_left x a b (subst (R x) e r) s)))

  pub met_beside : {xs ys : List ℕ} (x y : ℕ) → R x y → Beside R xs ys → is_met xs x ≡ is_met ys y
  met_beside x y r no_more = refl
  met_beside x y r (one_more {x = a} {y = b} s bs) = (λ j. same_test x y a b r s j || met_beside x y r bs j)

  -- where what each leads to stands beside, so does the order of first visit
  module _ (next next' : ℕ → List ℕ) (leads : (x y : ℕ) → R x y → Beside R (next x) (next' y)) where
    pub walk_beside : {xs seen out : List ℕ} (ys seen' : List ℕ) → Walk next xs seen out → Beside R xs ys → Beside R seen seen'
        → (out' : List ℕ) × Walk next' ys seen' out' × Beside R out out'
    walk_beside ys seen' over no_more b = (seen', over, b)
    walk_beside ys seen' (again {x = x} m w) (one_more {y = y} {ys = ys'} r a) b =
        let q = walk_beside ys' seen' w a b in
        (q.0, again (sym (met_beside x y r b) ∙ m) q.1, q.2)
    walk_beside ys seen' (first {x = x} m i w) (one_more {y = y} {ys = ys'} r a) b =
        let p = walk_beside (next' y) (seen' ++ y ∷ []) i (leads x y r) (both_beside R b (one_more r no_more)) in
        let q = walk_beside ys' p.0 w a p.2 in
        (q.0, first (sym (met_beside x y r b) ∙ m) p.1 q.1, q.2)
