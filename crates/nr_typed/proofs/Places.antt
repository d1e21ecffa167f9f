-- Places of two frames: the values on the left belong to their types, and those of usable places agree.
use Rattle.std.proofs.Common.{◌≡◌, ℕ, zero, suc, ◌<◌, List, [], ◌∷◌, length, refl, sym, subst, subst₂, ◌∙◌, ◌⊎◌, inl, inr, false, arith}
use Rattle.std.specs.Prelude.{pos, Option, Some, None, IsSomeAnd, slice_get, slice_set}
use Rattle.std.specs.FinMap.{get}
use Rattle.nr_linked.specs.declared.program.kind.Base.{Base}
use Rattle.nr_linked.specs.declared.program.kind.Base.TheVariants as bases
use Rattle.nr_linked.specs.declared.program.kind.Kind.{Kind}
use Rattle.nr_linked.specs.declared.program.tables.ProgramTables.{ProgramTables}
use Rattle.nr_linked.specs.declared.program.tables.SlotInfo.{SlotInfo}
use Rattle.nr_linked.specs.Slots.{slots_of}
use Rattle.nr_model.specs.declared.value.Value.{Value}
use Rattle.nr_model.specs.declared.value.Value.TheVariants.{Int, Long, Null, Ref}
use Rattle.nr_model.specs.Heaps.{Obj, Heap, on_some}
use Rattle.nr_model.specs.Scripts.{OnTop, OnRef, OnReference, is_long, without}
use Rattle.nr_model.specs.Alike.{Like, like_int, like_long, like_null, like_ref, AllLike, no_more, one_more}
use Rattle.nr_model.proofs.Heaps.{like_more}
use Rattle.nr_model.proofs.Pairing.{long_like}
use Rattle.nr_model.specs.Types.{Ty, Anything, Word, AnInt, Small, ALong, JustNull, Nullable, Object, Just, Exact, kept_ty}
use Rattle.nr_model.specs.Belonging.{Belongs, Belong, no_place, one_place, NoLong}
use Rattle.nr_model.specs.Staying.{Stays}
use Rattle.nr_model.specs.TypedHeaps.{Counts, slot_ty}
use Rattle.nr_typed.specs.Fits.{OnTy, OnAnInt, OnALong, OnSize, OnNullness, OnKinds, OnExact, without_ty}
use Rattle.nr_typed.specs.Usable.{Usable, UsableLike}
use Rattle.nr_typed.specs.Usable as usable
use Rattle.nr_typed.proofs.Assigning.{by_kind}
use Rattle.nr_typed.proofs.Typed.{belongs_on, object_of, exact_of}

-- the type of an operand that isn't usable: its value is no long
abbrev pub OnWord : Ty → Type 0
OnWord Word = Unit {0}
OnWord t = ⊥

-- ---- what is asked of a type makes it usable

pub used_int : (t : Ty) (X : Type 0) → OnAnInt t X → Usable t × X
used_int AnInt X x = (tt, x)
used_int (Small b) X x = (tt, x)
used_int _ X x = absurd x

pub used_long : (t : Ty) (X : Type 0) → OnALong t X → Usable t × X
used_long ALong X x = (tt, x)
used_long _ X x = absurd x

pub used_null : (t : Ty) (X : Type 0) (Y : Ty → Type 0) → OnNullness t X Y → Usable t
used_null JustNull X Y x = tt
used_null (Nullable k) X Y x = tt
used_null (Object k) X Y x = tt
used_null (Just k) X Y x = tt
used_null (Exact k n) X Y x = tt
used_null _ X Y x = absurd x

pub used_exact : (t : Ty) (Y : Kind → ℕ → Type 0) → OnExact t Y → Usable t
used_exact (Exact k n) Y x = tt
used_exact _ Y x = absurd x

-- a type is usable, or anything but a long belongs to it
pub by_use : (t : Ty) → Usable t ⊎ (((h : Heap) (P : ProgramTables) (v : Value) → NoLong v → Belongs P h t v) × (Usable t → ⊥))
by_use Anything = inr ((λ h P v n. tt), (λ u. u))
by_use Word = inr ((λ h P v n. n), (λ u. u))
by_use _ = inl tt

module _ (P : ProgramTables) where
  pub used_kinds : (t : Ty) (Y : Kind → ℕ → Type 0) → OnKinds P t Y → Usable t
  used_kinds (Object k) Y x = tt
  used_kinds (Just k) Y x = tt
  used_kinds (Exact k n) Y x = tt
  used_kinds _ Y x = absurd x

  -- a type with null and an int isn't usable
  pub both_admitted : (h : Heap) (t : Ty) → Belongs P h t Null → Belongs P h t (Int (pos 0)) → Usable t → ⊥
  both_admitted h Anything p q u = u
  both_admitted h Word p q u = u
  both_admitted h AnInt p q u = p
  both_admitted h (Small b) p q u = p
  both_admitted h ALong p q u = p
  both_admitted h JustNull p q u = q
  both_admitted h (Nullable k) p q u = q
  both_admitted h (Object k) p q u = p
  both_admitted h (Just k) p q u = p
  both_admitted h (Exact k n) p q u = p

  -- ---- slots are usable

  kept_usable : (k : Kind) → Usable (kept_ty k)
  kept_usable k = by_kind (λ k. Usable (kept_ty k)) (λ k e. rw e tt) tt tt tt tt tt tt k

  slot_of : (o : Option SlotInfo) → IsSomeAnd o (λ s. Unit {0}) → Usable (on_some o Anything (λ s. kept_ty s.kind))
  slot_of None p = absurd p
  slot_of (Some s) p = kept_usable s.kind

  there : (xs : List SlotInfo) (i : ℕ) → i < length xs → IsSomeAnd (slice_get xs i) (λ s. Unit {0})
  there [] i l = absurd (omega arith)
  there (x ∷ xs) zero l = tt
  there (x ∷ xs) (suc i) l = there xs i (omega arith)

  slot_by : (d : ℕ) (b : Base) (n i : ℕ) → Counts P (record { dims = d; base = b }) n → i < n → Usable (slot_ty P (record { dims = d; base = b }) i)
  slot_by zero (bases.Object c) n i x l = slot_of (slice_get (slots_of P c) i) (there (slots_of P c) i (subst (λ n. i < n) x.count l))
  slot_by zero _ n i x l = absurd x
  slot_by (suc d) b n i x l = kept_usable (record { dims = d; base = b })

  pub slot_usable : (k : Kind) (n i : ℕ) → Counts P k n → i < n → Usable (slot_ty P k i)
  slot_usable k n i x l = slot_by k.dims k.base n i x l

  -- ---- one place

  pub like_word : (h : Heap) (R : ℕ → ℕ → Type 0) (t : Ty) (u v : Value) → Belongs P h t u → Like R u v → OnWord t → NoLong v
  like_word h R Word u v b like_int w = tt
  like_word h R Word u v b like_long w = absurd b
  like_word h R Word u v b like_null w = tt
  like_word h R Word u v b (like_ref r) w = tt
  like_word h R _ u v b l w = absurd w

  -- both are longs, or neither is
  pub same_form : (h : Heap) (R : ℕ → ℕ → Type 0) (t : Ty) (u v : Value) (X Y : Type 0) → OnSize t X Y → Belongs P h t u → (Usable t → Like R u v) → (OnWord t → NoLong v) → is_long u ≡ is_long v
  same_form h R Anything u v X Y x b l w = absurd x
  same_form h R Word u v X Y x b l w = no_longs u v b (w tt)
    where
      no_long : (v : Value) → NoLong v → is_long v ≡ false
      no_long (Int n) p = refl
      no_long (Long n) p = absurd p
      no_long Null p = refl
      no_long (Ref a) p = refl

      no_longs : (u v : Value) → NoLong u → NoLong v → is_long u ≡ is_long v
      no_longs u v p q = no_long u p ∙ sym (no_long v q)
  same_form h R _ u v X Y x b l w = long_like R u v (l tt)

  -- two references: the names are there on both sides
  pub both_named {ℓ} : (C : Type ℓ) (R : ℕ → ℕ → Type 0) (u v : Value) (A B : ℕ → Type 0) → Like R u v → OnRef u A → OnRef v B
      → ((a b : ℕ) → u ≡ Ref a → v ≡ Ref b → R a b → A a → B b → C) → C
  both_named C R u v A B like_int p q k = absurd p
  both_named C R u v A B like_long p q k = absurd p
  both_named C R u v A B like_null p q k = absurd p
  both_named C R u v A B (like_ref r) p q k = k _ _ refl refl r p q

  -- one slot of two objects that agree
  pub at_slot {ℓ} : (C : Type ℓ) (R : ℕ → ℕ → Type 0) (us vs : List Value) (i : ℕ) (A B : Value → Type 0) → AllLike R us vs → IsSomeAnd (slice_get us i) A → IsSomeAnd (slice_get vs i) B
      → ((u v : Value) → slice_get us i ≡ Some u → Like R u v → A u → B v → C) → C
  at_slot C R us vs i A B no_more p q k = absurd p
  at_slot C R us vs zero A B (one_more l ls) p q k = k _ _ refl l p q
  at_slot C R us vs (suc i) A B (one_more l ls) p q k = at_slot C R _ _ i A B ls p q k

  -- both null, or two references of a sharper type
  pub both_nullable {ℓ} : (C : Type ℓ) (R : ℕ → ℕ → Type 0) (h : Heap) (t : Ty) (u v : Value) (X : Type 0) (Y : Ty → Type 0) (A B : Option ℕ → Type 0) → Belongs P h t u → OnNullness t X Y → Like R u v
      → OnReference u A → OnReference v B → (Belongs P h JustNull u → X → A None → B None → C) → ((x : Ty) (a b : ℕ) → Belongs P h x u → Y x → A (Some a) → B (Some b) → C) → C
  both_nullable C R h JustNull u v X Y A B b x like_null p q f g = f tt x p q
  both_nullable C R h JustNull u v X Y A B b x like_int p q f g = absurd p
  both_nullable C R h JustNull u v X Y A B b x like_long p q f g = absurd p
  both_nullable C R h JustNull u v X Y A B b x (like_ref r) p q f g = absurd b
  both_nullable C R h (Nullable c) u v X Y A B b x like_null p q f g = f tt x.0 p q
  both_nullable C R h (Nullable c) u v X Y A B b x like_int p q f g = absurd p
  both_nullable C R h (Nullable c) u v X Y A B b x like_long p q f g = absurd p
  both_nullable C R h (Nullable c) u v X Y A B b x (like_ref r) p q f g = g (Object c) _ _ b x.1 p q
  both_nullable C R h (Object c) u v X Y A B b x like_null p q f g = absurd b
  both_nullable C R h (Object c) u v X Y A B b x like_int p q f g = absurd p
  both_nullable C R h (Object c) u v X Y A B b x like_long p q f g = absurd p
  both_nullable C R h (Object c) u v X Y A B b x (like_ref r) p q f g = g (Object c) _ _ b x p q
  both_nullable C R h (Just c) u v X Y A B b x like_null p q f g = absurd b
  both_nullable C R h (Just c) u v X Y A B b x like_int p q f g = absurd p
  both_nullable C R h (Just c) u v X Y A B b x like_long p q f g = absurd p
  both_nullable C R h (Just c) u v X Y A B b x (like_ref r) p q f g = g (Just c) _ _ b x p q
  both_nullable C R h (Exact c n) u v X Y A B b x like_null p q f g = absurd b
  both_nullable C R h (Exact c n) u v X Y A B b x like_int p q f g = absurd p
  both_nullable C R h (Exact c n) u v X Y A B b x like_long p q f g = absurd p
  both_nullable C R h (Exact c n) u v X Y A B b x (like_ref r) p q f g = g (Exact c n) _ _ b x p q
  both_nullable C R h Anything u v X Y A B b x l p q f g = absurd x
  both_nullable C R h Word u v X Y A B b x l p q f g = absurd x
  both_nullable C R h AnInt u v X Y A B b x l p q f g = absurd x
  both_nullable C R h (Small s) u v X Y A B b x l p q f g = absurd x
  both_nullable C R h ALong u v X Y A B b x l p q f g = absurd x

  -- the object that a reference names has a kind and a length of its type
  same_object : (h : Heap) (a c : ℕ) (u : Value) (o p : Obj) → u ≡ Ref a → u ≡ Ref c → get h a ≡ Some o → get h c ≡ Some p → o ≡ p
  same_object h a c u o p e f g k = cc

  pub kind_there : (h : Heap) (t : Ty) (u : Value) (a : ℕ) (o : Obj) (Y : Kind → ℕ → Type 0) → Belongs P h t u → OnKinds P t Y → u ≡ Ref a → get h a ≡ Some o → Counts P o.kind (length o.slots) → Y o.kind (length o.slots)
  kind_there h t u a o Y b x e g n =
      let r = object_of P h t u Y b x in
      let s : o ≡ r.2 = same_object h a r.0 u o r.2 e r.1 g r.3 in
      subst (λ (o : Obj). Counts P o.kind (length o.slots) → Y o.kind (length o.slots)) (sym s) r.4 n

  pub exact_there : (h : Heap) (t : Ty) (u : Value) (a : ℕ) (o : Obj) (Y : Kind → ℕ → Type 0) → Belongs P h t u → OnExact t Y → u ≡ Ref a → get h a ≡ Some o → Y o.kind (length o.slots)
  exact_there h t u a o Y b x e g =
      let r = exact_of P h t u Y b x in
      subst (λ (o : Obj). Y o.kind (length o.slots)) (sym (same_object h a r.0 u o r.2 e r.1 g r.3)) r.4

  -- ---- lists of places

  pub data Places (R : ℕ → ℕ → Type 0) (h : Heap) : List Ty → List Value → List Value → Type 0 where
    none : Places R h [] [] []
    some : {t : Ty} {u v : Value} {ts : List Ty} {us vs : List Value} → Belongs P h t u → (Usable t → Like R u v) → (OnWord t → NoLong v) → Places R h ts us vs → Places R h (t ∷ ts) (u ∷ us) (v ∷ vs)

  pub places_on : (R S : ℕ → ℕ → Type 0) (h k : Heap) → Stays h k → ((x y : ℕ) → R x y → S x y) → (ts : List Ty) (us vs : List Value) → Places R h ts us vs → Places S k ts us vs
  places_on R S h k s m ts us vs none = none
  places_on R S h k s m ts us vs (some b l w ps) = some (belongs_on P h k s _ _ b) (λ u. like_more R S m _ _ (l u)) w (places_on R S h k s m _ _ _ ps)

  -- they belong to their types, and agree
  pub places_belong : (R : ℕ → ℕ → Type 0) (h : Heap) (ts : List Ty) (us vs : List Value) → Places R h ts us vs → Belong P h ts us
  places_belong R h ts us vs none = no_place
  places_belong R h ts us vs (some b l w ps) = one_place b (places_belong R h _ _ _ ps)

  word_of : (k : Heap) (t : Ty) (v : Value) → Belongs P k t v → OnWord t → NoLong v
  word_of k Word v c w = c
  word_of k _ v c w = absurd w

  pub places_of : (R : ℕ → ℕ → Type 0) (h k : Heap) (ts : List Ty) (us vs : List Value) → Belong P h ts us → Belong P k ts vs → UsableLike R ts us vs → Places R h ts us vs
  places_of R h k ts us vs no_place no_place usable.no_places = none
  places_of R h k ts us vs (one_place b bs) (one_place c cs) (usable.one_place l ls) = some b l (word_of k _ _ c) (places_of R h k _ _ _ bs cs ls)

  module _ (R : ℕ → ℕ → Type 0) (h : Heap) where
    pub one_like : (t : Ty) (ts : List Ty) (u v : Value) (us vs : List Value) → Belongs P h t u → Like R u v → Places R h ts us vs → Places R h (t ∷ ts) (u ∷ us) (v ∷ vs)
    one_like t ts u v us vs b l ps = some b (λ x. l) (like_word h R t u v b l) ps

    pub places_set : (ts : List Ty) (us vs : List Value) (i : ℕ) (t : Ty) (u v : Value) → Places R h ts us vs → Belongs P h t u → (Usable t → Like R u v) → (OnWord t → NoLong v)
        → Places R h (slice_set ts i t) (slice_set us i u) (slice_set vs i v)
    places_set ts us vs i t u v none b l w = none
    places_set ts us vs zero t u v (some c m x ps) b l w = some b l w ps
    places_set ts us vs (suc i) t u v (some c m x ps) b l w = some c m x (places_set _ _ _ i t u v ps b l w)

    pub places_without : (ts : List Ty) (us vs : List Value) (i : ℕ) → Places R h ts us vs → Places R h (without_ty i ts) (without i us) (without i vs)
    places_without ts us vs i none = none
    places_without ts us vs zero (some c m x ps) = ps
    places_without ts us vs (suc i) (some c m x ps) = some c m x (places_without _ _ _ i ps)

    same_value : {x y : Value} → Some x ≡ Some y → y ≡ x
    same_value e = cc

    -- a sharper type for two values that agree
    pub places_sharper : (ts : List Ty) (us vs : List Value) (i : ℕ) (t : Ty) (u v : Value) → Places R h ts us vs → slice_get us i ≡ Some u → slice_get vs i ≡ Some v → Belongs P h t u → Like R u v → Places R h (slice_set ts i t) us vs
    places_sharper ts us vs i t u v none e f b l = none
    places_sharper ts us vs zero t u v (some {ts = rs} {us = ws} {vs = zs} c m x ps) e f b l = subst₂ (λ u v. Places R h (t ∷ rs) (u ∷ ws) (v ∷ zs)) (same_value e) (same_value f) (one_like t rs u v ws zs b l ps)
    places_sharper ts us vs (suc i) t u v (some c m x ps) e f b l = some c m x (places_sharper _ _ _ i t u v ps e f b l)

    pub at_top {ℓ} : (C : Type ℓ) (ts : List Ty) (us vs : List Value) (F : Ty → List Ty → Type 0) (A B : Value → List Value → Type 0) → Places R h ts us vs → OnTy ts F → OnTop us A → OnTop vs B
        → ((t : Ty) (ts : List Ty) (u v : Value) (us vs : List Value) → Belongs P h t u → (Usable t → Like R u v) → (OnWord t → NoLong v) → Places R h ts us vs → F t ts → A u us → B v vs → C) → C
    at_top C ts us vs F A B none f p q k = absurd p
    at_top C ts us vs F A B (some b l w ps) f p q k = k _ _ _ _ _ _ b l w ps f p q

    pub at_place {ℓ} : (C : Type ℓ) (ts : List Ty) (us vs : List Value) (i : ℕ) (F : Ty → Type 0) (A B : Value → Type 0) → Places R h ts us vs → IsSomeAnd (slice_get ts i) F → IsSomeAnd (slice_get us i) A → IsSomeAnd (slice_get vs i) B
        → ((t : Ty) (u v : Value) → slice_get us i ≡ Some u → slice_get vs i ≡ Some v → Belongs P h t u → (Usable t → Like R u v) → (OnWord t → NoLong v) → F t → A u → B v → C) → C
    at_place C ts us vs i F A B none f p q k = absurd p
    at_place C ts us vs zero F A B (some b l w ps) f p q k = k _ _ _ refl refl b l w f p q
    at_place C ts us vs (suc i) F A B (some b l w ps) f p q k = at_place C _ _ _ i F A B ps f p q k
