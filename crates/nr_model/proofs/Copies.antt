-- A call's copies on one machine, and on another that agrees with it.
use Rattle.std.proofs.Common.{◌≡◌, ◌≢◌, ℕ, suc, ◌≤◌, ◌⊎◌, List, [], ◌∷◌, refl, sym, ap, subst, ◌∙◌, arith, inl, inr, Bool, true, false, cond}
use Rattle.std.specs.Prelude.{Option, Some, None, IsSomeAnd}
use Rattle.std.specs.Option.{option_map}
use Rattle.std.specs.FinMap.{get, insert}
use Rattle.nr_model.specs.declared.value.Value.{Value}
use Rattle.nr_model.specs.Heaps.{Obj, Heap}
use Rattle.nr_model.specs.Alike.{AllLike, AlikeAt, alike_at}
use Rattle.nr_model.specs.Pairs.{Reach, Holds}
use Rattle.nr_model.proofs.Matchings.{Matched}
use Rattle.nr_linked.specs.declared.program.tables.ProgramTables.{ProgramTables}
use Rattle.nr_model.specs.Locals.{IsShared, copied_object}
use Rattle.std.specs.Prelude.{IsTrue, T}
use Rattle.std.specs.Ordering.{nat_cmp, eq_by_cmp, is_eq}
use Rattle.std.proofs.lemmas.Cmp.{nat_cmp_total}
use Rattle.std.proofs.Math.Decide.{ℕ_discrete}
use Rattle.std.specs.FinMap.{FinMap, empty, get-empty, get-insert, find, is_sorted}
use Rattle.nr_linked.specs.Restorable.{is_restorable}
use Rattle.std.specs.FinMap.Entries.{below_all}
use Rattle.nr_model.proofs.Cells.{first, second, less}
use Rattle.nr_model.proofs.Heaps.{eq_self, not_equal, get_same, get_other, held_right, sum_left}
use Rattle.nr_model.proofs.Paths.{none_some, some_eq}
use Rattle.nr_model.proofs.Relations.{slot_over, path_over}

-- ---- names under names

name_same : (m : FinMap nat_cmp ℕ) (a n : ℕ) → get (insert m a n) a ≡ Some n
name_same m a n = get-insert nat_cmp_total m a n a ∙ ap (λ b. cond b (Some n) (get m a)) (eq_self a)

name_other : (m : FinMap nat_cmp ℕ) (a q n : ℕ) → q ≢ a → get (insert m a n) q ≡ get m q
name_other m a q n d = get-insert nat_cmp_total m a n q ∙ ap (λ b. cond b (Some n) (get m q)) (not_equal q a _ refl d)

abbrev pub IsKey : {X : Type 0} → List (ℕ × X) → ℕ → Type 0
IsKey [] x = ⊥
IsKey (e ∷ es) x = (x ≡ e.0) ⊎ IsKey es x

pub some_there : {X : Type 0} {o : Option X} {x : X} → o ≡ Some x → o ≢ None
some_there e f = none_some (sym f ∙ e)

pub key_found : (es : List (ℕ × ℕ)) (x : ℕ) → IsKey es x → find nat_cmp x es ≢ None
key_found [] x i = absurd i
key_found (e ∷ es) x (inl i) = some_there (ap (λ b. cond b (Some e.1) (find nat_cmp x es)) (ap (λ y. eq_by_cmp nat_cmp y e.0) i ∙ eq_self e.0))
key_found (e ∷ es) x (inr i) = go (eq_by_cmp nat_cmp x e.0) (key_found es x i)
  where
    go : (b : Bool) → find nat_cmp x es ≢ None → cond b (Some e.1) (find nat_cmp x es) ≢ None
    go true n f = none_some (sym f)
    go false n f = n f

pub found_key : {X : Type 0} (es : List (ℕ × X)) (x : ℕ) → find nat_cmp x es ≢ None → IsKey es x
found_key [] x n = absurd (n refl)
found_key (e ∷ es) x n = go (ℕ_discrete x e.0) (found_key es x)
  where
    go : Dec (x ≡ e.0) → (find nat_cmp x es ≢ None → IsKey es x) → IsKey (e ∷ es) x
    go (yes i) rec = inl i
    go (no d) rec = inr (rec (λ f. n (ap (λ b. cond b (Some e.1) (find nat_cmp x es)) (not_equal x e.0 _ refl d) ∙ f)))

no_key_below : (e : ℕ × ℕ) (es : List (ℕ × ℕ)) → T (is_sorted nat_cmp (e ∷ es)) → IsKey es e.0 → ⊥
no_key_below e es s i = key_found es e.0 i (find_below_names e.0 es (first _ _ s))
  where
    find_below_names : (k : ℕ) (es : List (ℕ × ℕ)) → T (below_all nat_cmp k es) → find nat_cmp k es ≡ None
    find_below_names k [] h = refl
    find_below_names k (e ∷ es) h = ap (λ r. cond (is_eq r) (Some e.1) (find nat_cmp k es)) (less _ (first _ _ h)) ∙ find_below_names k es (second _ _ h)

-- ---- what is reached on both sides

module _ (Q : ℕ → ℕ → Type 0) (h g : Heap) (q : Matched Q h g) (us vs : List Value) (like : AllLike Q us vs) where
  pub reach_over : (x : ℕ) → Reach h (Holds us) x → (y : ℕ) × Q x y × Reach g (Holds vs) y
  reach_over x r =
      let b = slot_over Q h g q us vs r.1.0 r.0 like r.1.1 in
      let y = path_over Q h g q r.2 r.0 b.0 x b.2 r.3 in
      (y.0, y.2, (b.0, (r.1.0, b.1), r.2, y.1))

module _ (P : ProgramTables) (Q : ℕ → ℕ → Type 0) (h g : Heap) (q : Matched Q h g) (us vs : List Value) (like : AllLike Q us vs) where
  restorable_over : (o p : Option Obj) → AlikeAt Q o p → IsSomeAnd o (λ o. IsTrue (is_restorable P o.kind)) → IsSomeAnd p (λ o. IsTrue (is_restorable P o.kind))
  restorable_over o p (alike_at b) r = subst (λ k. IsTrue (is_restorable P k)) b.kind r

  pub shared_over : (x y : ℕ) → Q x y → IsShared P h us x → IsShared P g vs y
  shared_over x y s r =
      let b = slot_over Q h g q us vs r.1.0.0 r.0 like r.1.0.1 in
      let z = path_over Q h g q r.2 r.0 b.0 x b.2 r.3 in
      subst (IsShared P g vs) (q.one_right x z.0 y z.2 s)
      (b.0, ((r.1.0.0, b.1), restorable_over _ _ (q.alike r.0 b.0 b.2) r.1.1), r.2, z.1)

-- ---- the copies of the other machine: the partners of the originals, with new names from the bound on

module _ (Q : ℕ → ℕ → Type 0) (h g : Heap) (q : Matched Q h g) (bound : ℕ) (free : (x : ℕ) → bound ≤ x → get g x ≡ None) where
  abbrev pub Partners : List (ℕ × ℕ) → Type 0
  Partners es = (x : ℕ) → IsKey es x → (y : ℕ) × Q x y

  pub build : (es : List (ℕ × ℕ)) (n : ℕ) → Partners es → FinMap nat_cmp ℕ
  build [] n f = empty
  build (e ∷ es) n f = insert (build es (suc n) (λ x i. f x (inr i))) (f e.0 (inl refl)).0 n

  pub built_from : (es : List (ℕ × ℕ)) (n : ℕ) (f : Partners es) (y z : ℕ) → get (build es n f) y ≡ Some z → (x : ℕ) × IsKey es x × Q x y × (n ≤ z)
  unfolding build
  built_from [] n f y z e = absurd (none_some (sym (get-empty nat_cmp y) ∙ e))
  built_from (e ∷ es) n f y z p = go (ℕ_discrete y (f e.0 (inl refl)).0) (built_from es (suc n) (λ x i. f x (inr i)) y z)
    where
      go : Dec (y ≡ (f e.0 (inl refl)).0) → (get (build es (suc n) (λ x i. f x (inr i))) y ≡ Some z → (x : ℕ) × IsKey es x × Q x y × (suc n ≤ z)) → (x : ℕ) × IsKey (e ∷ es) x × Q x y × (n ≤ z)
      go (yes i) rec =
          let s : n ≡ z = some_eq (sym (name_same _ _ n) ∙ ap (get (build (e ∷ es) n f)) (sym i) ∙ p) in
          (e.0, inl refl, subst (Q e.0) (sym i) (f e.0 (inl refl)).1, omega (arith, s))
      go (no d) rec = let r = rec (sym (name_other _ _ y n d) ∙ p) in (r.0, inr r.1, r.2, omega (arith, r.3))

  pub built_has : (es : List (ℕ × ℕ)) (n : ℕ) (f : Partners es) (x y : ℕ) → IsKey es x → Q x y → get (build es n f) y ≢ None
  unfolding build
  built_has [] n f x y i r = absurd i
  built_has (e ∷ es) n f x y i r = go (ℕ_discrete y (f e.0 (inl refl)).0) i (λ k. built_has es (suc n) (λ x i. f x (inr i)) x y k r)
    where
      go : Dec (y ≡ (f e.0 (inl refl)).0) → (x ≡ e.0) ⊎ IsKey es x → (IsKey es x → get (build es (suc n) (λ x i. f x (inr i))) y ≢ None) → get (build (e ∷ es) n f) y ≢ None
      go (yes i) k rec = some_there (ap (get (build (e ∷ es) n f)) i ∙ name_same _ _ n)
      go (no d) (inl k) rec = absurd (d (q.one_right e.0 y (f e.0 (inl refl)).0 (subst (λ x. Q x y) k r) (f e.0 (inl refl)).1))
      go (no d) (inr k) rec = λ z. rec k (sym (name_other _ _ y n d) ∙ z)

  pub built_distinct : (es : List (ℕ × ℕ)) (n : ℕ) (f : Partners es) (x y z : ℕ) → get (build es n f) x ≡ Some z → get (build es n f) y ≡ Some z → x ≡ y
  unfolding build
  built_distinct [] n f x y z p r = absurd (none_some (sym (get-empty nat_cmp x) ∙ p))
  built_distinct (e ∷ es) n f x y z p r = go (ℕ_discrete x (f e.0 (inl refl)).0) (ℕ_discrete y (f e.0 (inl refl)).0) (built_distinct es (suc n) (λ x i. f x (inr i)) x y z)
    where
      a : ℕ
      a = (f e.0 (inl refl)).0

      rest : Partners es
      rest x i = f x (inr i)

      here : (x : ℕ) → get (build (e ∷ es) n f) x ≡ Some z → x ≡ a → n ≡ z
      here x p i = some_eq (sym (name_same (build es (suc n) rest) a n) ∙ ap (get (build (e ∷ es) n f)) (sym i) ∙ p)

      there : (x : ℕ) → get (build (e ∷ es) n f) x ≡ Some z → x ≢ a → get (build es (suc n) rest) x ≡ Some z
      there x p d = sym (name_other (build es (suc n) rest) a x n d) ∙ p

      go : Dec (x ≡ a) → Dec (y ≡ a) → (get (build es (suc n) rest) x ≡ Some z → get (build es (suc n) rest) y ≡ Some z → x ≡ y) → x ≡ y
      go (yes i) (yes j) rec = i ∙ sym j
      go (yes i) (no d) rec = absurd (omega (arith, here x p i, (built_from es (suc n) rest y z (there y r d)).3))
      go (no d) (yes j) rec = absurd (omega (arith, here y r j, (built_from es (suc n) rest x z (there x p d)).3))
      go (no d) (no c) rec = rec (there x p d) (there y r c)

  -- the heap with the copies
  put_copy : Heap → ℕ → Option Obj → Heap
  put_copy k n None = k
  put_copy k n (Some o) = insert k n o

  put_other : (k : Heap) (n : ℕ) (o : Option Obj) (x : ℕ) → x ≢ n → get (put_copy k n o) x ≡ get k x
  unfolding put_copy
  put_other k n None x d = refl
  put_other k n (Some o) x d = get_other k n x o d

  put_same : (k : Heap) (n : ℕ) (o : Option Obj) → o ≢ None → get (put_copy k n o) n ≡ o
  unfolding put_copy
  put_same k n None d = absurd (d refl)
  put_same k n (Some o) d = get_same k n o

  map_held : (m : FinMap nat_cmp ℕ) (o : Option Obj) → o ≢ None → option_map (copied_object m) o ≢ None
  map_held m None n = absurd (n refl)
  map_held m (Some o) n = λ e. none_some (sym e)

  module _ (all : FinMap nat_cmp ℕ) where
    pub planted : (es : List (ℕ × ℕ)) (n : ℕ) → Partners es → Heap
    planted [] n f = g
    planted (e ∷ es) n f = put_copy (planted es (suc n) (λ x i. f x (inr i))) n (option_map (copied_object all) (get g (f e.0 (inl refl)).0))

    pub planted_old : (es : List (ℕ × ℕ)) (n : ℕ) (f : Partners es) → bound ≤ n → (x : ℕ) → get g x ≢ None → get (planted es n f) x ≡ get g x
    unfolding planted
    planted_old [] n f b x t = refl
    planted_old (e ∷ es) n f b x t =
        put_other _ n _ x (λ i. t (ap (get g) i ∙ free n b)) ∙ planted_old es (suc n) (λ x i. f x (inr i)) (omega (arith, b)) x t

    pub planted_at : (es : List (ℕ × ℕ)) (n : ℕ) (f : Partners es) (y z : ℕ) → get (build es n f) y ≡ Some z → get (planted es n f) z ≡ option_map (copied_object all) (get g y)
    unfolding planted build
    planted_at [] n f y z p = absurd (none_some (sym (get-empty nat_cmp y) ∙ p))
    planted_at (e ∷ es) n f y z p = go (ℕ_discrete y (f e.0 (inl refl)).0) (planted_at es (suc n) (λ x i. f x (inr i)) y z)
      where
        a : ℕ
        a = (f e.0 (inl refl)).0

        rest : Partners es
        rest x i = f x (inr i)

        there : get g a ≢ None
        there = held_right Q _ _ (q.alike e.0 a (f e.0 (inl refl)).1)

        go : Dec (y ≡ a) → (get (build es (suc n) rest) y ≡ Some z → get (planted es (suc n) rest) z ≡ option_map (copied_object all) (get g y))
            → get (planted (e ∷ es) n f) z ≡ option_map (copied_object all) (get g y)
        go (yes i) rec =
            let s : n ≡ z = some_eq (sym (name_same (build es (suc n) rest) a n) ∙ ap (get (build (e ∷ es) n f)) (sym i) ∙ p) in
            ap (get (planted (e ∷ es) n f)) (sym s) ∙ put_same (planted es (suc n) rest) n _ (map_held all _ there) ∙ ap (λ y. option_map (copied_object all) (get g y)) (sym i)
        go (no d) rec =
            let r = sym (name_other (build es (suc n) rest) a y n d) ∙ p in
            let m = (built_from es (suc n) rest y z r).3 in
            put_other (planted es (suc n) rest) n _ z (λ i. absurd (omega (arith, i, m))) ∙ rec r

    pub planted_only : (es : List (ℕ × ℕ)) (n : ℕ) (f : Partners es) → T (is_sorted nat_cmp es) → (x : ℕ) → get (planted es n f) x ≢ None
        → (get g x ≢ None) ⊎ ((y : ℕ) × (get (build es n f) y ≡ Some x))
    unfolding planted build
    planted_only [] n f s x t = inl t
    planted_only (e ∷ es) n f s x t = go (ℕ_discrete x n) (planted_only es (suc n) (λ x i. f x (inr i)) (second _ _ s) x)
      where
        a : ℕ
        a = (f e.0 (inl refl)).0

        rest : Partners es
        rest x i = f x (inr i)

        apart : (y : ℕ) → get (build es (suc n) rest) y ≡ Some x → y ≢ a
        apart y p i =
            let r = built_from es (suc n) rest y x p in
            let same : r.0 ≡ e.0 = q.one_left r.0 e.0 a (subst (Q r.0) i r.2) (f e.0 (inl refl)).1 in
            no_key_below e es s (subst (IsKey es) same r.1)

        go : Dec (x ≡ n) → (get (planted es (suc n) rest) x ≢ None → (get g x ≢ None) ⊎ ((y : ℕ) × (get (build es (suc n) rest) y ≡ Some x)))
            → (get g x ≢ None) ⊎ ((y : ℕ) × (get (build (e ∷ es) n f) y ≡ Some x))
        go (yes i) rec = inr (a, name_same (build es (suc n) rest) a n ∙ ap Some (sym i))
        go (no d) rec = sum_left (rec (λ z. t (put_other (planted es (suc n) rest) n _ x d ∙ z)))
            (λ o. inl o) (λ r. inr (r.0, name_other (build es (suc n) rest) a r.0 n (apart r.0 r.1) ∙ r.1))
