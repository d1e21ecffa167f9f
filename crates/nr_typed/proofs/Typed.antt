-- A script that fits its types has its Wp.
use Rattle.std.proofs.Common.{◌≡◌, ◌≢◌, ℕ, zero, suc, ◌<◌, List, [], ◌∷◌, ◌++◌, length, refl, sym, ap, subst, subst₂, ◌∙◌, Bool, true, false, arith}
use Rattle.std.specs.Prelude.{ℤ, Option, Some, None, IsSomeAnd, slice_get, slice_set, map, T}
use Rattle.std.proofs.Math.Decide.{ℕ_discrete}
use Rattle.std.proofs.lemmas.List.{length-set, length-map}
use Rattle.std.specs.FinMap.{get, insert}
use Rattle.nr_linked.specs.declared.program.kind.Kind.{Kind}
use Rattle.nr_linked.specs.declared.program.tables.ProgramTables.{ProgramTables}
use Rattle.nr_linked.specs.Subtypes.{is_assignable}
use Rattle.nr_model.specs.declared.value.Value.{Value}
use Rattle.nr_model.specs.declared.value.Value.TheVariants.{Int, Long, Null, Ref}
use Rattle.nr_model.specs.Heaps.{Obj, Heap}
use Rattle.nr_model.specs.Scripts.{Plain, plain, Script, GoTo, Throw, Return, ReturnTop, Call, Stuck, Push, PopInt, PopLong, Load, Store, Pick, Drop, AskLong, AskNull, AskSame, AskKind, ReadSlot, WriteSlot, Make, Print, Within, Ending, OnReference, is_long, is_null, is_same, without, new_object, with_slot, Wp}
use Rattle.nr_model.proofs.Heaps.{get_same, get_other}
use Rattle.nr_model.specs.Types.{Ty, Anything, Word, AnInt, Small, ALong, JustNull, Nullable, Object, Just, Exact}
use Rattle.nr_model.specs.Belonging.{Belongs, Belong, no_place, one_place, Sharper}
use Rattle.nr_model.specs.Staying.{Stays}
use Rattle.nr_model.proofs.Staying.{stays_on, stays_write, stays_make}
use Rattle.nr_model.specs.TypedHeaps.{Counts, slot_ty, TypedHeap}
use Rattle.nr_typed.specs.Fits.{OnTy, OnAnInt, OnALong, OnSize, OnNullness, OnKinds, OnExact, without_ty, Fits}

pub some_of : {X : Type 0} (o : Option X) (P : X → Type 0) → IsSomeAnd o P → (x : X) × (o ≡ Some x) × P x
some_of None P p = absurd p
some_of (Some x) P p = (x, refl, p)

pub at_some : {X : Type 0} (o : Option X) (x : X) (P : X → Type 0) → o ≡ Some x → P x → IsSomeAnd o P
at_some o x P e p = rw e p

module _ (P : ProgramTables) where
  pub belongs_on : (h k : Heap) → Stays h k → (t : Ty) (v : Value) → Belongs P h t v → Belongs P k t v
  belongs_on h k s Anything v b = tt
  belongs_on h k s Word v b = b
  belongs_on h k s AnInt v b = b
  belongs_on h k s ALong v b = b
  belongs_on h k s (Small base) v b = b
  belongs_on h k s JustNull v b = b
  belongs_on h k s (Nullable c) Null b = tt
  belongs_on h k s (Nullable c) (Ref a) b =
      let o = some_of (get h a) _ b in let p = s.at a o.0 o.1 in at_some (get k a) p.0 (λ o. T (is_assignable P o.kind c)) p.1 (subst (λ k. T (is_assignable P k c)) (sym p.2) o.2)
  belongs_on h k s (Nullable c) (Int n) b = b
  belongs_on h k s (Nullable c) (Long n) b = b
  belongs_on h k s (Object c) (Ref a) b =
      let o = some_of (get h a) _ b in let p = s.at a o.0 o.1 in at_some (get k a) p.0 (λ o. T (is_assignable P o.kind c)) p.1 (subst (λ k. T (is_assignable P k c)) (sym p.2) o.2)
  belongs_on h k s (Object c) Null b = b
  belongs_on h k s (Object c) (Int n) b = b
  belongs_on h k s (Object c) (Long n) b = b
  belongs_on h k s (Just c) (Ref a) b =
      let o = some_of (get h a) (λ o. o.kind ≡ c) b in let p = s.at a o.0 o.1 in at_some (get k a) p.0 (λ o. o.kind ≡ c) p.1 (p.2 ∙ o.2)
  belongs_on h k s (Just c) Null b = b
  belongs_on h k s (Just c) (Int n) b = b
  belongs_on h k s (Just c) (Long n) b = b
  belongs_on h k s (Exact c n) (Ref a) b =
      let o = some_of (get h a) (λ o. (o.kind ≡ c) × (length o.slots ≡ n)) b in let p = s.at a o.0 o.1 in at_some (get k a) p.0 (λ o. (o.kind ≡ c) × (length o.slots ≡ n)) p.1 (p.2 ∙ o.2.0, p.3 ∙ o.2.1)
  belongs_on h k s (Exact c n) Null b = b
  belongs_on h k s (Exact c n) (Int m) b = b
  belongs_on h k s (Exact c n) (Long m) b = b

  pub all_on : (h k : Heap) → Stays h k → (ts : List Ty) (vs : List Value) → Belong P h ts vs → Belong P k ts vs
  all_on h k s ts vs no_place = no_place
  all_on h k s ts vs (one_place b bs) = one_place (belongs_on h k s _ _ b) (all_on h k s _ _ bs)

  pub set_ty : (h : Heap) (ts : List Ty) (vs : List Value) (i : ℕ) (t : Ty) (v : Value) → Belong P h ts vs → Belongs P h t v → Belong P h (slice_set ts i t) (slice_set vs i v)
  set_ty h ts vs i t v no_place b = no_place
  set_ty h ts vs zero t v (one_place a bs) b = one_place b bs
  set_ty h ts vs (suc i) t v (one_place a bs) b = one_place a (set_ty h _ _ i t v bs b)

  -- a sharper type for the value that is there
  sharpen : (h : Heap) (ts : List Ty) (vs : List Value) (i : ℕ) (t : Ty) (v : Value) → Belong P h ts vs → slice_get vs i ≡ Some v → Belongs P h t v → Belong P h (slice_set ts i t) vs
  sharpen h ts vs i t v no_place e b = no_place
  sharpen h ts vs zero t v (one_place a bs) e b = one_place (subst (Belongs P h t) (some_same e) b) bs
    where
      some_same : {x y : Value} → Some x ≡ Some y → y ≡ x
      some_same e = cc
  sharpen h ts vs (suc i) t v (one_place a bs) e b = one_place a (sharpen h _ _ i t v bs e b)

  drop_ty : (h : Heap) (ts : List Ty) (vs : List Value) (i : ℕ) → Belong P h ts vs → Belong P h (without_ty i ts) (without i vs)
  drop_ty h ts vs i no_place = no_place
  drop_ty h ts vs zero (one_place a bs) = bs
  drop_ty h ts vs (suc i) (one_place a bs) = one_place a (drop_ty h _ _ i bs)

  pub lengths_ty : (h : Heap) (ts : List Ty) (vs : List Value) → Belong P h ts vs → length ts ≡ length vs
  lengths_ty h ts vs no_place = refl
  lengths_ty h ts vs (one_place a bs) = ap suc (lengths_ty h _ _ bs)

  place_ty : (h : Heap) (ts : List Ty) (vs : List Value) (i : ℕ) (C : Ty → Type 0) → Belong P h ts vs → IsSomeAnd (slice_get ts i) C
      → (t : Ty) × (v : Value) × (slice_get vs i ≡ Some v) × Belongs P h t v × C t
  place_ty h ts vs i C no_place p = absurd p
  place_ty h ts vs zero C (one_place a bs) p = (_, _, refl, a, p)
  place_ty h ts vs (suc i) C (one_place a bs) p = place_ty h _ _ i C bs p

  top_ty : (h : Heap) (ts : List Ty) (vs : List Value) (C : Ty → List Ty → Type 0) → Belong P h ts vs → OnTy ts C
      → (t : Ty) × (v : Value) × (us : List Ty) × (ws : List Value) × (vs ≡ v ∷ ws) × Belongs P h t v × Belong P h us ws × C t us
  top_ty h ts vs C no_place p = absurd p
  top_ty h ts vs C (one_place a bs) p = (_, _, _, _, refl, a, bs, p)

  int_of : (h : Heap) (t : Ty) (v : Value) (X : Type 0) → Belongs P h t v → OnAnInt t X → (n : ℤ) × (v ≡ Int n) × X
  int_of h AnInt (Int n) X b x = (n, refl, x)
  int_of h AnInt (Long n) X b x = absurd b
  int_of h AnInt Null X b x = absurd b
  int_of h AnInt (Ref a) X b x = absurd b
  int_of h (Small base) (Int n) X b x = (n, refl, x)
  int_of h (Small base) (Long n) X b x = absurd b
  int_of h (Small base) Null X b x = absurd b
  int_of h (Small base) (Ref a) X b x = absurd b
  int_of h _ v X b x = absurd x

  long_of : (h : Heap) (t : Ty) (v : Value) (X : Type 0) → Belongs P h t v → OnALong t X → (n : ℤ) × (v ≡ Long n) × X
  long_of h ALong (Long n) X b x = (n, refl, x)
  long_of h ALong (Int n) X b x = absurd b
  long_of h ALong Null X b x = absurd b
  long_of h ALong (Ref a) X b x = absurd b
  long_of h _ v X b x = absurd x

  -- the form of a value is that of its type
  pub form_of : (h : Heap) (t : Ty) (v : Value) (C : Bool → Type 0) → Belongs P h t v → OnSize t (C true) (C false) → C (is_long v)
  form_of h Anything v C b x = absurd x
  form_of h ALong (Long n) C b x = x
  form_of h ALong _ C b x = absurd b
  form_of h Word (Long n) C b x = absurd b
  form_of h Word (Int n) C b x = x
  form_of h Word Null C b x = x
  form_of h Word (Ref a) C b x = x
  form_of h AnInt (Int n) C b x = x
  form_of h AnInt _ C b x = absurd b
  form_of h (Small base) (Int n) C b x = x
  form_of h (Small base) _ C b x = absurd b
  form_of h JustNull Null C b x = x
  form_of h JustNull _ C b x = absurd b
  form_of h (Nullable k) Null C b x = x
  form_of h (Nullable k) (Ref a) C b x = x
  form_of h (Nullable k) _ C b x = absurd b
  form_of h (Object k) (Ref a) C b x = x
  form_of h (Object k) _ C b x = absurd b
  form_of h (Just k) (Ref a) C b x = x
  form_of h (Just k) _ C b x = absurd b
  form_of h (Exact k n) (Ref a) C b x = x
  form_of h (Exact k n) _ C b x = absurd b

  -- a reference or null, and what a reference belongs to
  reference_of : (h : Heap) (t : Ty) (v : Value) (X : Type 0) (Y : Ty → Type 0) (C : Option ℕ → Type 0) → Belongs P h t v → OnNullness t X Y
      → (Belongs P h JustNull v → X → C None) → ((u : Ty) (a : ℕ) → Belongs P h u v → Y u → C (Some a)) → OnReference v C
  reference_of h JustNull Null X Y C b x k m = k tt x
  reference_of h JustNull (Int n) X Y C b x k m = absurd b
  reference_of h JustNull (Long n) X Y C b x k m = absurd b
  reference_of h JustNull (Ref a) X Y C b x k m = absurd b
  reference_of h (Nullable c) (Int n) X Y C b x k m = absurd b
  reference_of h (Nullable c) (Long n) X Y C b x k m = absurd b
  reference_of h (Nullable c) Null X Y C b x k m = k tt x.0
  reference_of h (Nullable c) (Ref a) X Y C b x k m = m (Object c) a b x.1
  reference_of h (Object c) (Int n) X Y C b x k m = absurd b
  reference_of h (Object c) (Long n) X Y C b x k m = absurd b
  reference_of h (Object c) Null X Y C b x k m = absurd b
  reference_of h (Object c) (Ref a) X Y C b x k m = m (Object c) a b x
  reference_of h (Just c) (Int n) X Y C b x k m = absurd b
  reference_of h (Just c) (Long n) X Y C b x k m = absurd b
  reference_of h (Just c) Null X Y C b x k m = absurd b
  reference_of h (Just c) (Ref a) X Y C b x k m = m (Just c) a b x
  reference_of h (Exact c n) (Int i) X Y C b x k m = absurd b
  reference_of h (Exact c n) (Long i) X Y C b x k m = absurd b
  reference_of h (Exact c n) Null X Y C b x k m = absurd b
  reference_of h (Exact c n) (Ref a) X Y C b x k m = m (Exact c n) a b x
  reference_of h _ v X Y C b x k m = absurd x

  pub object_of : (h : Heap) (t : Ty) (v : Value) (Y : Kind → ℕ → Type 0) → Belongs P h t v → OnKinds P t Y
      → (a : ℕ) × (v ≡ Ref a) × (o : Obj) × (get h a ≡ Some o) × (Counts P o.kind (length o.slots) → Y o.kind (length o.slots))
  object_of h (Object c) (Ref a) Y b x = let o = some_of (get h a) (λ o. T (is_assignable P o.kind c)) b in (a, refl, o.0, o.1, λ n. x o.0.kind (length o.0.slots) o.2 n)
  object_of h (Object c) (Int n) Y b x = absurd b
  object_of h (Object c) (Long n) Y b x = absurd b
  object_of h (Object c) Null Y b x = absurd b
  object_of h (Just c) (Ref a) Y b x = let o = some_of (get h a) (λ o. o.kind ≡ c) b in
      (a, refl, o.0, o.1, subst (λ c. Counts P c (length o.0.slots) → Y c (length o.0.slots)) (sym o.2) (x (length o.0.slots)))
  object_of h (Just c) (Int n) Y b x = absurd b
  object_of h (Just c) (Long n) Y b x = absurd b
  object_of h (Just c) Null Y b x = absurd b
  object_of h (Exact c n) (Ref a) Y b x = let o = some_of (get h a) (λ o. (o.kind ≡ c) × (length o.slots ≡ n)) b in
      (a, refl, o.0, o.1, subst₂ (λ c n. Counts P c n → Y c n) (sym o.2.0) (sym o.2.1) x)
  object_of h (Exact c n) (Int m) Y b x = absurd b
  object_of h (Exact c n) (Long m) Y b x = absurd b
  object_of h (Exact c n) Null Y b x = absurd b
  object_of h _ v Y b x = absurd x

  pub exact_of : (h : Heap) (t : Ty) (v : Value) (X : Kind → ℕ → Type 0) → Belongs P h t v → OnExact t X → (a : ℕ) × (v ≡ Ref a) × (o : Obj) × (get h a ≡ Some o) × X o.kind (length o.slots)
  exact_of h (Exact c n) (Ref a) X b x =
      let o = some_of (get h a) (λ o. (o.kind ≡ c) × (length o.slots ≡ n)) b in (a, refl, o.0, o.1, subst₂ X (sym o.2.0) (sym o.2.1) x)
  exact_of h (Exact c n) (Int m) X b x = absurd b
  exact_of h (Exact c n) (Long m) X b x = absurd b
  exact_of h (Exact c n) Null X b x = absurd b
  exact_of h _ v X b x = absurd x

same_obj : {x y : Obj} {o : Option Obj} → o ≡ Some x → o ≡ Some y → x ≡ y
same_obj e f = cc

same_val : {x y : Value} {o : Option Value} → o ≡ Some x → o ≡ Some y → x ≡ y
same_val e f = cc

not_both : {x : Obj} {o : Option Obj} → o ≡ Some x → o ≡ None → ⊥
not_both e f = cc

slot_there : (xs : List Value) (i : ℕ) → i < length xs → (v : Value) × (slice_get xs i ≡ Some v)
slot_there [] i l = absurd (omega arith)
slot_there (x ∷ xs) zero l = (x, refl)
slot_there (x ∷ xs) (suc i) l = slot_there xs i (omega arith)

set_at : (xs : List Value) (i : ℕ) (v : Value) → i < length xs → slice_get (slice_set xs i v) i ≡ Some v
set_at [] i v l = absurd (omega arith)
set_at (x ∷ xs) zero v l = refl
set_at (x ∷ xs) (suc i) v l = set_at xs i v (omega arith)

set_off : (xs : List Value) (i j : ℕ) (v : Value) → j ≢ i → slice_get (slice_set xs i v) j ≡ slice_get xs j
set_off [] i j v n = refl
set_off (x ∷ xs) zero zero v n = absurd (n refl)
set_off (x ∷ xs) zero (suc j) v n = refl
set_off (x ∷ xs) (suc i) zero v n = refl
set_off (x ∷ xs) (suc i) (suc j) v n = set_off xs i j v (λ e. n (ap suc e))

pub plain_length : (ps : List Plain) → length (map plain ps) ≡ length ps
plain_length ps = simp length-map

module _ (P : ProgramTables) where
  -- a slot is written by a value of its type
  pub typed_write : (h : Heap) (a i : ℕ) (o : Obj) (u : Value) → TypedHeap P h → get h a ≡ Some o → i < length o.slots → Belongs P h (slot_ty P o.kind i) u
      → TypedHeap P (insert h a (record o { slots = slice_set o.slots i u }))
  typed_write h a i o u th e l b =
      record { count = λ c q f. counted c q f (ℕ_discrete c a); slots = λ c q f j v g. belongs_on P h _ stays _ v (slot c q f j v g (ℕ_discrete c a)) }
    where
      stays : Stays h (insert h a (record o { slots = slice_set o.slots i u }))
      stays = stays_write h a o _ e refl (length-set o.slots i u)

      counted : (c : ℕ) (q : Obj) → get (insert h a (record o { slots = slice_set o.slots i u })) c ≡ Some q → Dec (c ≡ a) → Counts P q.kind (length q.slots)
      counted c q f (yes d) =
          let s : record o { slots = slice_set o.slots i u } ≡ q = same_obj (get_same h a _) (rw d at f) in
          subst (λ q. Counts P q.kind (length q.slots)) s (subst (Counts P o.kind) (sym (length-set o.slots i u)) (th.count a o e))
      counted c q f (no n) = th.count c q (sym (get_other h a c _ n) ∙ f)

      old_slot : (j : ℕ) (v : Value) → slice_get (slice_set o.slots i u) j ≡ Some v → Dec (j ≡ i) → Belongs P h (slot_ty P o.kind j) v
      old_slot j v g (yes d) = subst₂ (λ j v. Belongs P h (slot_ty P o.kind j) v) (sym d) (same_val (set_at o.slots i u l) (rw d at g)) b
      old_slot j v g (no n) = th.slots a o e j v (sym (set_off o.slots i j u n) ∙ g)

      slot : (c : ℕ) (q : Obj) → get (insert h a (record o { slots = slice_set o.slots i u })) c ≡ Some q → (j : ℕ) (v : Value) → slice_get q.slots j ≡ Some v → Dec (c ≡ a) → Belongs P h (slot_ty P q.kind j) v
      slot c q f j v g (yes d) =
          let s : record o { slots = slice_set o.slots i u } ≡ q = same_obj (get_same h a _) (rw d at f) in
          subst (λ q. slice_get q.slots j ≡ Some v → Belongs P h (slot_ty P q.kind j) v) s (λ g. old_slot j v g (ℕ_discrete j i)) g
      slot c q f j v g (no n) = th.slots c q (sym (get_other h a c _ n) ∙ f) j v g

  plain_at : (ps : List Plain) (j : ℕ) (v : Value) → slice_get (map plain ps) j ≡ Some v → (p : Plain) × (slice_get ps j ≡ Some p) × (plain p ≡ v)
  plain_at [] j v g = absurd (none g)
    where
      none : ◌≡◌ {A = Option Value} None (Some v) → ⊥
      none e = cc
  plain_at (p ∷ ps) zero v g = (p, refl, same_val refl g)
  plain_at (p ∷ ps) (suc j) v g = plain_at ps j v g

  pub typed_make : (h : Heap) (a : ℕ) (c : Kind) (ps : List Plain) → TypedHeap P h → get h a ≡ None → Counts P c (length ps) → ((h : Heap) (i : ℕ) (p : Plain) → slice_get ps i ≡ Some p → Belongs P h (slot_ty P c i) (plain p))
      → TypedHeap P (insert h a (new_object c ps))
  typed_make h a c ps th n k z = record { count = λ b q f. counted b q f (ℕ_discrete b a); slots = λ b q f j v g. slot b q f j v g (ℕ_discrete b a) }
    where
      counted : (b : ℕ) (q : Obj) → get (insert h a (new_object c ps)) b ≡ Some q → Dec (b ≡ a) → Counts P q.kind (length q.slots)
      counted b q f (yes d) =
          let s : new_object c ps ≡ q = same_obj (get_same h a _) (rw d at f) in
          subst (λ q. Counts P q.kind (length q.slots)) s (subst (Counts P c) (sym (plain_length ps)) k)
      counted b q f (no m) = th.count b q (sym (get_other h a b _ m) ∙ f)

      slot : (b : ℕ) (q : Obj) → get (insert h a (new_object c ps)) b ≡ Some q → (j : ℕ) (v : Value) → slice_get q.slots j ≡ Some v → Dec (b ≡ a)
          → Belongs P (insert h a (new_object c ps)) (slot_ty P q.kind j) v
      slot b q f j v g (yes d) =
          let s : ◌≡◌ {A = Obj} (new_object c ps) q = same_obj (get_same h a _) (rw d at f) in
          subst (λ q. slice_get q.slots j ≡ Some v → Belongs P (insert h a (new_object c ps)) (slot_ty P q.kind j) v) s
          (λ g. let p = plain_at ps j v g in subst (Belongs P _ (slot_ty P c j)) p.2 (z _ j p.0 p.1)) g
      slot b q f j v g (no m) = belongs_on P h _ (stays_make h a _ n) _ v (th.slots b q (sym (get_other h a b _ m) ∙ f) j v g)

  module _ (h0 : Heap) (Q : Ending → Within → Type 0) where
    pub sound : (sc : Script) (L ts : List Ty) (w : Within) → TypedHeap P w.heap → Stays h0 w.heap → Belong P w.heap L w.locals → Belong P w.heap ts w.operands
        → Fits P h0 Q sc L ts → Wp sc w Q
    sound (GoTo t) L ts w th st a b f = f w th st a b
    sound Throw L ts w th st a b f =
        let q = top_ty P w.heap _ _ _ b f in
        rw q.4 (q.7 (record w { operands = q.3 }) q.1 th st a q.6 q.5)
    sound Return L ts w th st a b f = f w th st a b
    sound ReturnTop L ts w th st a b f = let q = top_ty P w.heap _ _ _ b f in rw q.4 (q.7 (record w { operands = q.3 }) q.1 th st a q.6 q.5)
    sound (Call m) L ts w th st a b f = f w th st a b
    sound Stuck L ts w th st a b f = absurd f
    sound (Print bs k) L ts w th st a b f = sound k L ts (record w { printed = w.printed ++ bs }) th st a b f
    sound (Push c k) L ts w th st a b f = sound k L _ _ th st a (one_place (f.1 w.heap) b) f.2
    sound (PopInt k) L ts w th st a b f =
        let q = top_ty P w.heap _ _ (λ t ts. OnAnInt t ((n : ℤ) → Fits P h0 Q (k n) L ts)) b f in
        let r = int_of P w.heap q.0 q.1 _ q.5 q.7 in
        rw (q.4, r.1) (sound (k r.0) L q.2 (record w { operands = q.3 }) th st a q.6 (r.2 r.0))
    sound (PopLong k) L ts w th st a b f =
        let q = top_ty P w.heap _ _ (λ t ts. OnALong t ((n : ℤ) → Fits P h0 Q (k n) L ts)) b f in
        let r = long_of P w.heap q.0 q.1 _ q.5 q.7 in
        rw (q.4, r.1) (sound (k r.0) L q.2 (record w { operands = q.3 }) th st a q.6 (r.2 r.0))
    sound (Load i k) L ts w th st a b f =
        let q = place_ty P w.heap _ _ i (λ t. Fits P h0 Q k L (t ∷ ts)) a f in
        rw q.2 (sound k L (q.0 ∷ ts) (record w { operands = q.1 ∷ w.operands }) th st a (one_place q.3 b) q.4)
    sound (Store i k) L ts w th st a b f =
        let q = top_ty P w.heap _ _ (λ t ts. (i < length L) × Fits P h0 Q k (slice_set L i t) ts) b f in
        rw q.4 (subst (λ n. i < n) (lengths_ty P w.heap _ _ a) q.7.0, sound k (slice_set L i q.0) q.2 (record w { locals = slice_set w.locals i q.1; operands = q.3 }) th st (set_ty P w.heap _ _ i q.0 q.1 a q.5) q.6 q.7.1)
    sound (Pick d k) L ts w th st a b f =
        let q = place_ty P w.heap _ _ d (λ t. Fits P h0 Q k L (t ∷ ts)) b f in
        rw q.2 (sound k L (q.0 ∷ ts) (record w { operands = q.1 ∷ w.operands }) th st a (one_place q.3 b) q.4)
    sound (Drop d k) L ts w th st a b f =
        (subst (λ n. d < n) (lengths_ty P w.heap _ _ b) f.0, sound k L (without_ty d ts) (record w { operands = without d w.operands }) th st a (drop_ty P w.heap _ _ d b) f.1)
    sound (AskLong d k) L ts w th st a b f =
        let q = place_ty P w.heap _ _ d (λ t. OnSize t (Fits P h0 Q (k true) L ts) (Fits P h0 Q (k false) L ts)) b f in
        rw q.2 (sound (k (is_long q.1)) L ts w th st a b (form_of P w.heap q.0 q.1 (λ x. Fits P h0 Q (k x) L ts) q.3 q.4))
    sound (AskNull d k) L ts w th st a b f =
        let q = place_ty P w.heap _ _ d (λ t. OnNullness t (Fits P h0 Q (k true) L (slice_set ts d JustNull)) (λ u. Fits P h0 Q (k false) L (slice_set ts d u))) b f in
        rw q.2 (reference_of P w.heap q.0 q.1 (Fits P h0 Q (k true) L (slice_set ts d JustNull)) (λ u. Fits P h0 Q (k false) L (slice_set ts d u)) (λ r. Wp (k (is_null r)) w Q) q.3 q.4
        (λ n x. sound (k true) L (slice_set ts d JustNull) w th st a (sharpen P w.heap ts w.operands d JustNull q.1 b q.2 n) x)
        (λ u n o x. sound (k false) L (slice_set ts d u) w th st a (sharpen P w.heap ts w.operands d u q.1 b q.2 o) x))
    sound (AskSame k) L ts w th st a b f =
        let q = top_ty P w.heap _ _ (λ t ts. OnTy ts (λ u us. OnNullness t (Unit {0}) (λ x. Unit {0}) × OnNullness u (Unit {0}) (λ x. Unit {0}) × ((b : Bool) → Fits P h0 Q (k b) L us))) b f in
        let p = top_ty P w.heap _ _ (λ u us. OnNullness q.0 (Unit {0}) (λ x. Unit {0}) × OnNullness u (Unit {0}) (λ x. Unit {0}) × ((b : Bool) → Fits P h0 Q (k b) L us)) q.6 q.7 in
        let go : (x y : Option ℕ) → Wp (k (is_same x y)) (record w { operands = p.3 }) Q =
        λ x y. sound (k (is_same x y)) L p.2 (record w { operands = p.3 }) th st a p.6 (p.7.2 (is_same x y)) in
        let inner : (x : Option ℕ) → OnReference p.1 (λ y. Wp (k (is_same x y)) (record w { operands = p.3 }) Q) =
        λ x. reference_of P w.heap p.0 p.1 (Unit {0}) (λ x. Unit {0}) (λ y. Wp (k (is_same x y)) (record w { operands = p.3 }) Q) p.5 p.7.1 (λ n g. go x None) (λ u n o g. go x (Some n)) in
        rw (q.4, p.4) (reference_of P w.heap q.0 q.1 (Unit {0}) (λ x. Unit {0}) (λ x. OnReference p.1 (λ y. Wp (k (is_same x y)) (record w { operands = p.3 }) Q)) q.5 p.7.0
        (λ n g. inner None) (λ u n o g. inner (Some n)))
    sound (AskKind d k) L ts w th st a b f =
        let q = place_ty P w.heap _ _ d (λ t. OnKinds P t (λ e n. Fits P h0 Q (k e n) L (slice_set ts d (Exact e n)))) b f in
        let r = object_of P w.heap q.0 q.1 (λ e n. Fits P h0 Q (k e n) L (slice_set ts d (Exact e n))) q.3 q.4 in
        let x : Belongs P w.heap (Exact r.2.kind (length r.2.slots)) q.1 =
        subst (Belongs P w.heap (Exact r.2.kind (length r.2.slots))) (sym r.1) (at_some (get w.heap r.0) r.2 (λ o. (o.kind ≡ r.2.kind) × (length o.slots ≡ length r.2.slots)) r.3 (refl, refl)) in
        rw (q.2, r.1, r.3) (sound (k r.2.kind (length r.2.slots)) L (slice_set ts d (Exact r.2.kind (length r.2.slots))) w th st a
        (sharpen P w.heap ts w.operands d (Exact r.2.kind (length r.2.slots)) q.1 b q.2 x) (r.4 (th.count r.0 r.2 r.3)))
    sound (ReadSlot i k) L ts w th st a b f =
        let q = top_ty P w.heap _ _ (λ t ts. OnExact t (λ c n. (i < n) × Fits P h0 Q k L (slot_ty P c i ∷ ts))) b f in
        let r = exact_of P w.heap q.0 q.1 _ q.5 q.7 in
        let v = slot_there r.2.slots i r.4.0 in
        rw (q.4, r.1, r.3, v.1) (sound k L (slot_ty P r.2.kind i ∷ q.2) (record w { operands = v.0 ∷ q.3 }) th st a (one_place (th.slots r.0 r.2 r.3 i v.0 v.1) q.6) r.4.1)
    sound (WriteSlot i k) L ts w th st a b f =
        let q = top_ty P w.heap _ _ (λ u us. OnTy us (λ t ts. OnExact t (λ c n. (i < n) × Sharper P u (slot_ty P c i) × Fits P h0 Q k L ts))) b f in
        let p = top_ty P w.heap _ _ (λ t ts. OnExact t (λ c n. (i < n) × Sharper P q.0 (slot_ty P c i) × Fits P h0 Q k L ts)) q.6 q.7 in
        let r = exact_of P w.heap p.0 p.1 _ p.5 p.7 in
        let s = stays_write w.heap r.0 r.2 (record r.2 { slots = slice_set r.2.slots i q.1 }) r.3 refl (length-set r.2.slots i q.1) in
        rw (q.4, p.4, r.1, r.3) (
          r.4.0,
          sound k L p.2 (record w { heap = with_slot w.heap r.0 r.2 i q.1; operands = p.3 })
              (typed_write w.heap r.0 i r.2 q.1 th r.3 r.4.0 (r.4.1 w.heap q.1 q.5)) (stays_on _ _ _ st s) (all_on P w.heap _ s _ _ a) (all_on P w.heap _ s _ _ p.6) r.4.2,
        )
    sound (Make c ps k) L ts w th st a b f = λ n g.
        let s = stays_make w.heap n (new_object c ps) g in
        sound k L (Exact c (length ps) ∷ ts) _ (typed_make w.heap n c ps th g f.0 f.1) (stays_on _ _ _ st s) (all_on P w.heap _ s _ _ a)
        (one_place (rw get_same (refl, plain_length ps)) (all_on P w.heap _ s _ _ b)) f.2
