-- A script with Wp runs, and each of its runs ends as Wp says.
use Rattle.std.proofs.Common.{◌≡◌, ℕ, List, [], ◌∷◌, refl, sym, subst₂, length}
use Rattle.std.specs.Prelude.{ℤ, Option, Some, None, IsSomeAnd, slice_get, slice_set}
use Rattle.std.specs.FinMap.{get}
use Rattle.nr_model.specs.declared.value.Value.{Value}
use Rattle.nr_model.specs.declared.value.Value.TheVariants.{Int, Long, Null, Ref}
use Rattle.nr_model.specs.Scripts.{Script, GoTo, Throw, Return, ReturnTop, Call, Stuck, Push, PopInt, PopLong, Load, Store, Pick, Drop, AskLong, AskNull, AskSame, AskKind, ReadSlot, WriteSlot, Make, Print, Within, Ending, GoesTo, Threw, Gave, Called, OnTop, OnInt, OnLong, OnRef, OnReference, is_long, is_null, is_same, IsIn, with_slot, Runs, Wp}
use Rattle.nr_model.proofs.Mirror.{fresh}

-- a fact under a test passes to a weaker one
module _ (Z : Type 0) where
  at_some : {X : Type 0} (o : Option X) (P : X → Type 0) (Q : X → Z → Type 0) → IsSomeAnd o P → ((x : X) → P x → (z : Z) × Q x z) → (z : Z) × IsSomeAnd o (λ x. Q x z)
  at_some None P Q p k = absurd p
  at_some (Some x) P Q p k = k x p

  at_top : (vs : List Value) (P : Value → List Value → Type 0) (Q : Value → List Value → Z → Type 0) → OnTop vs P → ((v : Value) (vs : List Value) → P v vs → (z : Z) × Q v vs z) → (z : Z) × OnTop vs (λ v vs. Q v vs z)
  at_top [] P Q p k = absurd p
  at_top (v ∷ vs) P Q p k = k v vs p

  at_int : (v : Value) (P : ℤ → Type 0) (Q : ℤ → Z → Type 0) → OnInt v P → ((n : ℤ) → P n → (z : Z) × Q n z) → (z : Z) × OnInt v (λ n. Q n z)
  at_int (Int n) P Q p k = k n p
  at_int (Long n) P Q p k = absurd p
  at_int Null P Q p k = absurd p
  at_int (Ref a) P Q p k = absurd p

  at_long : (v : Value) (P : ℤ → Type 0) (Q : ℤ → Z → Type 0) → OnLong v P → ((n : ℤ) → P n → (z : Z) × Q n z) → (z : Z) × OnLong v (λ n. Q n z)
  at_long (Int n) P Q p k = absurd p
  at_long (Long n) P Q p k = k n p
  at_long Null P Q p k = absurd p
  at_long (Ref a) P Q p k = absurd p

  at_ref : (v : Value) (P : ℕ → Type 0) (Q : ℕ → Z → Type 0) → OnRef v P → ((n : ℕ) → P n → (z : Z) × Q n z) → (z : Z) × OnRef v (λ n. Q n z)
  at_ref (Int n) P Q p k = absurd p
  at_ref (Long n) P Q p k = absurd p
  at_ref Null P Q p k = absurd p
  at_ref (Ref a) P Q p k = k a p

  at_reference : (v : Value) (P : Option ℕ → Type 0) (Q : Option ℕ → Z → Type 0) → OnReference v P → ((r : Option ℕ) → P r → (z : Z) × Q r z) → (z : Z) × OnReference v (λ n. Q n z)
  at_reference (Int n) P Q p k = absurd p
  at_reference (Long n) P Q p k = absurd p
  at_reference Null P Q p k = k None p
  at_reference (Ref a) P Q p k = k (Some a) p

abbrev Z : Type 0
Z = Ending × Within

-- a run, where Wp holds
pub runs : (Q : Ending → Within → Type 0) (sc : Script) (w : Within) → Wp sc w Q → (z : Z) × Runs sc w z.0 z.1
runs Q (GoTo t) w p = ((GoesTo t, w), (refl, refl))
runs Q Throw w p = at_top Z w.operands _ (λ v vs z. OnRef v (λ a. (z.0 ≡ Threw a) × (z.1 ≡ record w { operands = vs }))) p (λ v vs p.
    at_ref Z _ _ (λ a z. (z.0 ≡ Threw a) × (z.1 ≡ record w { operands = vs })) p (λ a p. ((Threw a, record w { operands = vs }), (refl, refl))))
runs Q Return w p = ((Gave None, w), (refl, refl))
runs Q ReturnTop w p = at_top Z w.operands _ (λ v vs z. (z.0 ≡ Gave (Some v)) × (z.1 ≡ record w { operands = vs })) p (λ v vs p. ((Gave (Some v), record w { operands = vs }), (refl, refl)))
runs Q (Call m) w p = ((Called m, w), (refl, refl))
runs Q Stuck w p = absurd p
runs Q (Push c k) w p = runs Q k _ p
runs Q (Print bs k) w p = runs Q k _ p
runs Q (PopInt k) w p = at_top Z w.operands _ (λ v vs z. OnInt v (λ n. Runs (k n) (record w { operands = vs }) z.0 z.1)) p (λ v vs p.
    at_int Z _ _ (λ n z. Runs (k n) (record w { operands = vs }) z.0 z.1) p (λ n p. runs Q (k n) _ p))
runs Q (PopLong k) w p = at_top Z w.operands _ (λ v vs z. OnLong v (λ n. Runs (k n) (record w { operands = vs }) z.0 z.1)) p (λ v vs p.
    at_long Z _ _ (λ n z. Runs (k n) (record w { operands = vs }) z.0 z.1) p (λ n p. runs Q (k n) _ p))
runs Q (Load i k) w p = at_some Z (slice_get w.locals i) _ (λ v z. Runs k (record w { operands = v ∷ w.operands }) z.0 z.1) p (λ v p. runs Q k _ p)
runs Q (Store i k) w p = at_top Z w.operands _ (λ v vs z. IsIn i w.locals × Runs k (record w { locals = slice_set w.locals i v; operands = vs }) z.0 z.1) p (λ v vs p. let r = runs Q k _ p.1 in (r.0, (p.0, r.1)))
runs Q (Pick d k) w p = at_some Z (slice_get w.operands d) _ (λ v z. Runs k (record w { operands = v ∷ w.operands }) z.0 z.1) p (λ v p. runs Q k _ p)
runs Q (Drop d k) w p = let r = runs Q k _ p.1 in (r.0, (p.0, r.1))
runs Q (AskLong d k) w p = at_some Z (slice_get w.operands d) _ (λ v z. Runs (k (is_long v)) w z.0 z.1) p (λ v p. runs Q (k (is_long v)) w p)
runs Q (AskNull d k) w p = at_some Z (slice_get w.operands d) _ (λ v z. OnReference v (λ r. Runs (k (is_null r)) w z.0 z.1)) p (λ v p.
    at_reference Z _ _ (λ r z. Runs (k (is_null r)) w z.0 z.1) p (λ r p. runs Q (k (is_null r)) w p))
runs Q (AskSame k) w p = at_top Z w.operands _ (λ v vs z. OnTop vs (λ u us. OnReference v (λ a. OnReference u (λ b. Runs (k (is_same a b)) (record w { operands = us }) z.0 z.1)))) p (λ v vs p.
    at_top Z _ _ (λ u us z. OnReference v (λ a. OnReference u (λ b. Runs (k (is_same a b)) (record w { operands = us }) z.0 z.1))) p (λ u us p.
    at_reference Z _ _ (λ a z. OnReference u (λ b. Runs (k (is_same a b)) (record w { operands = us }) z.0 z.1)) p (λ a p.
    at_reference Z _ _ (λ b z. Runs (k (is_same a b)) (record w { operands = us }) z.0 z.1) p (λ b p. runs Q (k (is_same a b)) _ p))))
runs Q (AskKind d k) w p = at_some Z (slice_get w.operands d) _ (λ v z. OnRef v (λ a. IsSomeAnd (get w.heap a) (λ o. Runs (k o.kind (length o.slots)) w z.0 z.1))) p (λ v p.
    at_ref Z _ _ (λ a z. IsSomeAnd (get w.heap a) (λ o. Runs (k o.kind (length o.slots)) w z.0 z.1)) p (λ a p.
    at_some Z (get w.heap a) _ (λ o z. Runs (k o.kind (length o.slots)) w z.0 z.1) p (λ o p. runs Q (k o.kind (length o.slots)) w p)))
runs Q (ReadSlot i k) w p = at_top Z w.operands _ (λ v vs z. OnRef v (λ a. IsSomeAnd (get w.heap a) (λ o. IsSomeAnd (slice_get o.slots i) (λ u. Runs k (record w { operands = u ∷ vs }) z.0 z.1)))) p (λ v vs p.
    at_ref Z _ _ (λ a z. IsSomeAnd (get w.heap a) (λ o. IsSomeAnd (slice_get o.slots i) (λ u. Runs k (record w { operands = u ∷ vs }) z.0 z.1))) p (λ a p.
    at_some Z (get w.heap a) _ (λ o z. IsSomeAnd (slice_get o.slots i) (λ u. Runs k (record w { operands = u ∷ vs }) z.0 z.1)) p (λ o p.
    at_some Z (slice_get o.slots i) _ (λ u z. Runs k (record w { operands = u ∷ vs }) z.0 z.1) p (λ u p. runs Q k _ p))))
runs Q (WriteSlot i k) w p = at_top Z w.operands _ (λ u us z. OnTop us (λ v vs. OnRef v (λ a. IsSomeAnd (get w.heap a) (λ o. IsIn i o.slots × Runs k (record w { heap = with_slot w.heap a o i u; operands = vs }) z.0 z.1)))) p (λ u us p.
    at_top Z us _ (λ v vs z. OnRef v (λ a. IsSomeAnd (get w.heap a) (λ o. IsIn i o.slots × Runs k (record w { heap = with_slot w.heap a o i u; operands = vs }) z.0 z.1))) p (λ v vs p.
    at_ref Z _ _ (λ a z. IsSomeAnd (get w.heap a) (λ o. IsIn i o.slots × Runs k (record w { heap = with_slot w.heap a o i u; operands = vs }) z.0 z.1)) p (λ a p.
    at_some Z (get w.heap a) _ (λ o z. IsIn i o.slots × Runs k (record w { heap = with_slot w.heap a o i u; operands = vs }) z.0 z.1) p (λ o p. let r = runs Q k _ p.1 in (r.0, (p.0, r.1))))))
runs Q (Make c ps k) w p = let n = fresh w.heap in let r = runs Q k _ (p n.0 n.1) in (r.0, (n.0, n.1, r.1))

-- two facts under one test
both_some : {X : Type 0} (C : Type 0) (o : Option X) (P Q : X → Type 0) → IsSomeAnd o P → IsSomeAnd o Q → ((x : X) → P x → Q x → C) → C
both_some C None P Q p q k = absurd p
both_some C (Some x) P Q p q k = k x p q

both_top : (C : Type 0) (vs : List Value) (P Q : Value → List Value → Type 0) → OnTop vs P → OnTop vs Q → ((v : Value) (vs : List Value) → P v vs → Q v vs → C) → C
both_top C [] P Q p q k = absurd p
both_top C (v ∷ vs) P Q p q k = k v vs p q

both_int : (C : Type 0) (v : Value) (P Q : ℤ → Type 0) → OnInt v P → OnInt v Q → ((n : ℤ) → P n → Q n → C) → C
both_int C (Int n) P Q p q k = k n p q
both_int C _ P Q p q k = absurd p

both_long : (C : Type 0) (v : Value) (P Q : ℤ → Type 0) → OnLong v P → OnLong v Q → ((n : ℤ) → P n → Q n → C) → C
both_long C (Long n) P Q p q k = k n p q
both_long C _ P Q p q k = absurd p

both_ref : (C : Type 0) (v : Value) (P Q : ℕ → Type 0) → OnRef v P → OnRef v Q → ((n : ℕ) → P n → Q n → C) → C
both_ref C (Ref n) P Q p q k = k n p q
both_ref C _ P Q p q k = absurd p

both_reference : (C : Type 0) (v : Value) (P Q : Option ℕ → Type 0) → OnReference v P → OnReference v Q → ((r : Option ℕ) → P r → Q r → C) → C
both_reference C (Ref n) P Q p q k = k (Some n) p q
both_reference C Null P Q p q k = k None p q
both_reference C (Int n) P Q p q k = absurd p
both_reference C (Long n) P Q p q k = absurd p

module _ (Q : Ending → Within → Type 0) (e : Ending) (w' : Within) where
  ended : (d : Ending) (w : Within) → Q d w → (e ≡ d) × (w' ≡ w) → Q e w'
  ended d w q p = subst₂ Q (sym p.0) (sym p.1) q

  -- each run ends with Q
  pub ends_so : (sc : Script) (w : Within) → Wp sc w Q → Runs sc w e w' → Q e w'
  ends_so (GoTo t) w p r = ended _ _ p r
  ends_so Throw w p r = both_top (Q e w') w.operands _ _ p r (λ v vs p r. both_ref (Q e w') v _ _ p r (λ a p r. ended _ _ p r))
  ends_so Return w p r = ended _ _ p r
  ends_so ReturnTop w p r = both_top (Q e w') w.operands _ _ p r (λ v vs p r. ended _ _ p r)
  ends_so (Call m) w p r = ended _ _ p r
  ends_so Stuck w p r = absurd p
  ends_so (Push c k) w p r = ends_so k _ p r
  ends_so (Print bs k) w p r = ends_so k _ p r
  ends_so (PopInt k) w p r = both_top (Q e w') w.operands _ _ p r (λ v vs p r. both_int (Q e w') v _ _ p r (λ n p r. ends_so (k n) _ p r))
  ends_so (PopLong k) w p r = both_top (Q e w') w.operands _ _ p r (λ v vs p r. both_long (Q e w') v _ _ p r (λ n p r. ends_so (k n) _ p r))
  ends_so (Load i k) w p r = both_some (Q e w') (slice_get w.locals i) _ _ p r (λ v p r. ends_so k _ p r)
  ends_so (Store i k) w p r = both_top (Q e w') w.operands _ _ p r (λ v vs p r. ends_so k _ p.1 r.1)
  ends_so (Pick d k) w p r = both_some (Q e w') (slice_get w.operands d) _ _ p r (λ v p r. ends_so k _ p r)
  ends_so (Drop d k) w p r = ends_so k _ p.1 r.1
  ends_so (AskLong d k) w p r = both_some (Q e w') (slice_get w.operands d) _ _ p r (λ v p r. ends_so (k (is_long v)) _ p r)
  ends_so (AskNull d k) w p r = both_some (Q e w') (slice_get w.operands d) _ _ p r (λ v p r. both_reference (Q e w') v _ _ p r (λ a p r. ends_so (k (is_null a)) _ p r))
  ends_so (AskSame k) w p r = both_top (Q e w') w.operands _ _ p r (λ v vs p r. both_top (Q e w') vs _ _ p r (λ u us p r. both_reference (Q e w') v _ _ p r (λ a p r. both_reference (Q e w') u _ _ p r (λ b p r. ends_so (k (is_same a b)) _ p r))))
  ends_so (AskKind d k) w p r = both_some (Q e w') (slice_get w.operands d) _ _ p r (λ v p r. both_ref (Q e w') v _ _ p r (λ a p r. both_some (Q e w') (get w.heap a) _ _ p r (λ o p r. ends_so (k o.kind (length o.slots)) _ p r)))
  ends_so (ReadSlot i k) w p r = both_top (Q e w') w.operands _ _ p r (λ v vs p r. both_ref (Q e w') v _ _ p r (λ a p r. both_some (Q e w') (get w.heap a) _ _ p r (λ o p r. both_some (Q e w') (slice_get o.slots i) _ _ p r (λ u p r. ends_so k _ p r))))
  ends_so (WriteSlot i k) w p r = both_top (Q e w') w.operands _ _ p r (λ u us p r. both_top (Q e w') us _ _ p r (λ v vs p r. both_ref (Q e w') v _ _ p r (λ a p r. both_some (Q e w') (get w.heap a) _ _ p r (λ o p r. ends_so k _ p.1 r.1))))
  ends_so (Make c ps k) w p r = ends_so k _ (p r.0 r.1) r.2
