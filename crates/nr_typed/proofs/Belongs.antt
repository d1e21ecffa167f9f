-- What fits, belongs.
use Rattle.std.proofs.Common.{◌≡◌, ℕ, zero, suc, ◌<◌, List, [], ◌∷◌, length, refl, sym, ap, subst, Bool, true, false, arith, T}
use Rattle.std.specs.Prelude.{Option, Some, None, IsSomeAnd, slice_get, slice_set, if◌then◌else◌, ◌==◌}
use Rattle.std.proofs.Math.Facts.{eqb_yes}
use Rattle.std.specs.FinMap.{get}
use Rattle.nr_optable.specs.declared.table.Letter.{Letter}
use Rattle.nr_optable.specs.declared.table.Letter.TheVariants as letters
use Rattle.nr_linked.specs.declared.program.kind.Kind.{Kind}
use Rattle.nr_linked.specs.declared.program.tables.MethodInfo.{MethodInfo}
use Rattle.nr_linked.specs.declared.program.tables.ProgramTables.{ProgramTables}
use Rattle.nr_linked.specs.declared.program.types.VType.{VType}
use Rattle.nr_linked.specs.declared.program.types.VType.TheVariants as types
use Rattle.nr_linked.specs.Kinds.{class_kind, is_reference}
use Rattle.nr_linked.specs.Subtypes.{is_assignable, is_above}
use Rattle.nr_linked.specs.TypingFrames.{of_kind, is_type_assignable, is_operand_assignable, locals_fit, operands_fit, size_of, total_size}
use Rattle.nr_linked.specs.TypingChecks.{is_letter}
use Rattle.nr_linked.specs.TypingLocals.{local_type, after, before, put_word, put}
use Rattle.nr_linked.specs.TypingObjects.{is_made_at, forgotten}
use Rattle.nr_linked.specs.TypingCalls.{class_made_at, is_same_uninit, initialised}
use Rattle.nr_linked.specs.TypingFacts.{TypingFacts}
use Rattle.nr_model.specs.declared.value.Value.{Value}
use Rattle.nr_model.specs.declared.value.Value.TheVariants.{Int, Long, Null, Ref}
use Rattle.nr_model.specs.Heaps.{Obj, Heap, on_some}
use Rattle.nr_model.specs.Types.{Ty, Anything, Word, JustNull, Nullable, Object, Just, Exact, kind_ty, ty_of, operand_tys, local_tys}
use Rattle.nr_model.specs.Belonging.{Belongs, Belong, one_place, Sharper, NoLong}
use Rattle.nr_typed.proofs.Assigning.{and_both, by_kind, trans, class_up}

module _ (P : ProgramTables) (facts : TypingFacts P) where
  raise : (o : Option Obj) (k c : Kind) → T (is_assignable P k c) → IsSomeAnd o (λ o. T (is_assignable P o.kind k)) → IsSomeAnd o (λ o. T (is_assignable P o.kind c))
  raise None k c p q = q
  raise (Some o) k c p q = trans P facts o.kind k c q p

  pub null_up : (k c : Kind) → T (is_assignable P k c) → Sharper P (Nullable k) (Nullable c)
  null_up k c p h (Ref a) b = raise (get h a) k c p b
  null_up k c p h Null b = tt
  null_up k c p h (Int n) b = b
  null_up k c p h (Long n) b = b

  pub object_up : (k c : Kind) → T (is_assignable P k c) → Sharper P (Object k) (Object c)
  object_up k c p h (Ref a) b = raise (get h a) k c p b
  object_up k c p h Null b = b
  object_up k c p h (Int n) b = b
  object_up k c p h (Long n) b = b

  pub object_null : (k c : Kind) → T (is_assignable P k c) → Sharper P (Object k) (Nullable c)
  object_null k c p h (Ref a) b = raise (get h a) k c p b
  object_null k c p h Null b = absurd b
  object_null k c p h (Int n) b = b
  object_null k c p h (Long n) b = b

  of_that_kind : (o : Option Obj) (k c : Kind) (n : ℕ) → T (is_assignable P k c) → IsSomeAnd o (λ o. (o.kind ≡ k) × (length o.slots ≡ n)) → IsSomeAnd o (λ o. T (is_assignable P o.kind c))
  of_that_kind None k c n p q = q
  of_that_kind (Some o) k c n p q = subst (λ k. T (is_assignable P k c)) (sym q.0) p

  pub exact_object : (k c : Kind) (n : ℕ) → T (is_assignable P k c) → Sharper P (Exact k n) (Object c)
  exact_object k c n p h (Ref a) b = of_that_kind (get h a) k c n p b
  exact_object k c n p h Null b = b
  exact_object k c n p h (Int i) b = b
  exact_object k c n p h (Long i) b = b

  pub exact_null : (k c : Kind) (n : ℕ) → T (is_assignable P k c) → Sharper P (Exact k n) (Nullable c)
  exact_null k c n p h (Ref a) b = of_that_kind (get h a) k c n p b
  exact_null k c n p h Null b = absurd b
  exact_null k c n p h (Int i) b = b
  exact_null k c n p h (Long i) b = b

  of_just : (o : Option Obj) (k c : Kind) → T (is_assignable P k c) → IsSomeAnd o (λ o. o.kind ≡ k) → IsSomeAnd o (λ o. T (is_assignable P o.kind c))
  of_just None k c p q = q
  of_just (Some o) k c p q = subst (λ k. T (is_assignable P k c)) (sym q) p

  pub just_null : (k c : Kind) → T (is_assignable P k c) → Sharper P (Just k) (Nullable c)
  just_null k c p h (Ref a) b = of_just (get h a) k c p b
  just_null k c p h Null b = absurd b
  just_null k c p h (Int n) b = b
  just_null k c p h (Long n) b = b

  some_kind : (o : Option Obj) (k : Kind) (n : ℕ) → IsSomeAnd o (λ o. (o.kind ≡ k) × (length o.slots ≡ n)) → IsSomeAnd o (λ o. o.kind ≡ k)
  some_kind None k n q = q
  some_kind (Some o) k n q = q.0

  pub exact_just : (k : Kind) (n : ℕ) → Sharper P (Exact k n) (Just k)
  exact_just k n h (Ref a) b = some_kind (get h a) k n b
  exact_just k n h Null b = b
  exact_just k n h (Int i) b = b
  exact_just k n h (Long i) b = b

  pub null_to : (k : Kind) → Sharper P JustNull (Nullable k)
  null_to k h Null q = tt
  null_to k h (Int n) q = absurd q
  null_to k h (Long n) q = absurd q
  null_to k h (Ref n) q = absurd q

  pub all_same : (ts us : List Ty) → ts ≡ us → (h : Heap) (vs : List Value) → Belong P h ts vs → Belong P h us vs
  all_same ts us e h vs q = subst (λ ts. Belong P h ts vs) e q

  pub same_sharper : (t u : Ty) → t ≡ u → Sharper P t u
  same_sharper t u e h v q = subst (λ t. Belongs P h t v) e q

  -- an operand's type of a kind is that of values of the kind
  pub kind_same : (top : Ty) (m : MethodInfo) (k : Kind) → ty_of top m (of_kind k) ≡ kind_ty k
  kind_same top m k = by_kind (λ k. ty_of top m (of_kind k) ≡ kind_ty k) (λ k e. refs k e) refl refl refl refl refl refl k
    where
      refs : (k : Kind) → is_reference k ≡ true → ty_of top m (of_kind k) ≡ kind_ty k
      refs k e = rw e refl

  module _ (m : MethodInfo) (h : Heap) where
    ref_word : (k : Kind) (v : Value) → Belongs P h (Object k) v → NoLong v
    ref_word k (Ref a) q = tt
    ref_word k Null q = tt
    ref_word k (Int n) q = tt
    ref_word k (Long n) q = q

    just_word : (k : Kind) (v : Value) → Belongs P h (Just k) v → NoLong v
    just_word k (Ref a) q = tt
    just_word k Null q = tt
    just_word k (Int n) q = tt
    just_word k (Long n) q = q

    uninit_word : (o : Option ℕ) (v : Value) → Belongs P h (on_some o JustNull (λ c. Just (class_kind c))) v → NoLong v
    uninit_word None Null q = tt
    uninit_word None (Ref a) q = tt
    uninit_word None (Int n) q = tt
    uninit_word None (Long n) q = q
    uninit_word (Some c) v q = just_word (class_kind c) v q

    pub operand_ok : (t u : VType) (v : Value) → T (is_operand_assignable P t u) → Belongs P h (ty_of Word m t) v → Belongs P h (ty_of Word m u) v
    operand_ok types.Top types.Top v p q = q
    operand_ok types.Long types.Top v p q = absurd p
    operand_ok types.Int types.Top (Int n) p q = tt
    operand_ok types.Int types.Top _ p q = absurd q
    operand_ok types.Null types.Top Null p q = tt
    operand_ok types.Null types.Top _ p q = absurd q
    operand_ok types.UninitThis types.Top v p q = ref_word (class_kind m.«class») v q
    operand_ok (types.Uninit n) types.Top v p q = uninit_word (class_made_at m n) v q
    operand_ok (types.Class k) types.Top (Ref a) p q = tt
    operand_ok (types.Class k) types.Top Null p q = tt
    operand_ok (types.Class k) types.Top _ p q = absurd q
    operand_ok types.Top types.Int v p q = absurd p
    operand_ok types.Top types.Long v p q = absurd p
    operand_ok types.Top types.Null v p q = absurd p
    operand_ok types.Top types.UninitThis v p q = absurd p
    operand_ok types.Top (types.Uninit n) v p q = absurd p
    operand_ok types.Top (types.Class k) v p q = absurd p
    operand_ok types.Int types.Int v p q = q
    operand_ok types.Long types.Long v p q = q
    operand_ok types.Null types.Null v p q = q
    operand_ok types.Null (types.Class k) v p q = null_to k h v q
    operand_ok types.UninitThis types.UninitThis v p q = q
    operand_ok (types.Uninit i) (types.Uninit j) v p q = subst (λ j. Belongs P h (ty_of Word m (types.Uninit j)) v) (eqb_yes p) q
    operand_ok (types.Class a) (types.Class c) v p q = null_up a c p h v q
    operand_ok _ _ v p q = absurd p

    pub local_ok : (t u : VType) (v : Value) → T (is_type_assignable P t u) → Belongs P h (ty_of Anything m t) v → Belongs P h (ty_of Anything m u) v
    local_ok t types.Top v p q = tt
    local_ok types.Int types.Int v p q = q
    local_ok types.Long types.Long v p q = q
    local_ok types.Null types.Null v p q = q
    local_ok types.Null (types.Class k) v p q = null_to k h v q
    local_ok types.UninitThis types.UninitThis v p q = q
    local_ok (types.Uninit i) (types.Uninit j) v p q = subst (λ j. Belongs P h (ty_of Anything m (types.Uninit j)) v) (eqb_yes p) q
    local_ok (types.Class a) (types.Class c) v p q = null_up a c p h v q
    local_ok _ _ v p q = absurd p

    pub operands_ok : (ts us : List VType) (vs : List Value) → T (operands_fit P ts us) → Belong P h (operand_tys m ts) vs → Belong P h (operand_tys m us) vs
    operands_ok [] [] vs p q = q
    operands_ok (t ∷ ts) (u ∷ us) vs p (one_place a as_) = let f = and_both (is_operand_assignable P t u) (operands_fit P ts us) p in one_place (operand_ok t u _ f.0 a) (operands_ok ts us _ f.1 as_)
    operands_ok [] (u ∷ us) vs p q = absurd p
    operands_ok (t ∷ ts) [] vs p q = absurd p

    any_places : (n : ℕ) (ts : List VType) (vs : List Value) → Belong P h (local_tys m n ts) vs → Belong P h (local_tys m n []) vs
    any_places zero ts vs q = q
    any_places (suc n) [] vs q = q
    any_places (suc n) (t ∷ ts) vs (one_place a as_) = one_place tt (any_places n ts _ as_)

    pub locals_ok : (n : ℕ) (ts us : List VType) (vs : List Value) → T (locals_fit P ts us) → Belong P h (local_tys m n ts) vs → Belong P h (local_tys m n us) vs
    locals_ok zero ts us vs p q = q
    locals_ok (suc n) ts [] vs p q = any_places (suc n) ts vs q
    locals_ok (suc n) [] (u ∷ us) vs p (one_place a as_) = let f = and_both (is_type_assignable P types.Top u) (locals_fit P [] us) p in
        one_place (local_ok types.Top u _ f.0 tt) (locals_ok n [] us _ f.1 as_)
    locals_ok (suc n) (t ∷ ts) (u ∷ us) vs p (one_place a as_) = let f = and_both (is_type_assignable P t u) (locals_fit P ts us) p in
        one_place (local_ok t u _ f.0 a) (locals_ok n ts us _ f.1 as_)

    -- ---- stores

    after_ok : (n : ℕ) (u : VType) (us : List VType) (vs : List Value) → Belong P h (local_tys m n us) vs → Belong P h (local_tys m n (after u us)) vs
    after_ok zero u us vs q = q
    after_ok (suc n) types.Long (x ∷ xs) vs (one_place a as_) = one_place tt as_
    after_ok (suc n) types.Long [] vs q = q
    after_ok (suc n) types.Top us vs q = q
    after_ok (suc n) types.Int us vs q = q
    after_ok (suc n) types.Null us vs q = q
    after_ok (suc n) types.UninitThis us vs q = q
    after_ok (suc n) (types.Uninit i) us vs q = q
    after_ok (suc n) (types.Class k) us vs q = q

    before_ok : (i : ℕ) (u : VType) (v : Value) → Belongs P h (ty_of Anything m u) v → Belongs P h (ty_of Anything m (before i u)) v
    before_ok zero types.Long v q = tt
    before_ok zero types.Top v q = q
    before_ok zero types.Int v q = q
    before_ok zero types.Null v q = q
    before_ok zero types.UninitThis v q = q
    before_ok zero (types.Uninit n) v q = q
    before_ok zero (types.Class k) v q = q
    before_ok (suc i) u v q = q

    -- a place that is written
    pub put_over : (n i : ℕ) (u : VType) (t : Ty) → ((v : Value) → Belongs P h t v → Belongs P h (ty_of Anything m u) v) → (L : List VType) (vs : List Value)
        → Belong P h (slice_set (local_tys m n L) i t) vs → Belong P h (local_tys m n (put_word i u L)) vs
    put_over zero i u t up L vs q = q
    put_over (suc n) zero u t up [] vs (one_place a as_) = one_place (up _ a) as_
    put_over (suc n) (suc i) u t up [] vs (one_place a as_) = one_place tt (put_over n i u t up [] _ as_)
    put_over (suc n) zero u t up (x ∷ xs) vs (one_place a as_) = one_place (up _ a) (after_ok n x xs _ as_)
    put_over (suc n) (suc i) u t up (x ∷ xs) vs (one_place a as_) = one_place (before_ok i x _ a) (put_over n i u t up xs _ as_)

    -- a place that becomes Top keeps its value
    top_ok : (n i : ℕ) (L : List VType) (vs : List Value) → Belong P h (local_tys m n L) vs → Belong P h (local_tys m n (put_word i types.Top L)) vs
    top_ok zero i L vs q = q
    top_ok (suc n) zero [] vs (one_place a as_) = one_place tt as_
    top_ok (suc n) (suc i) [] vs (one_place a as_) = one_place tt (top_ok n i [] _ as_)
    top_ok (suc n) zero (x ∷ xs) vs (one_place a as_) = one_place tt (after_ok n x xs _ as_)
    top_ok (suc n) (suc i) (x ∷ xs) vs (one_place a as_) = one_place (before_ok i x _ a) (top_ok n i xs _ as_)

    top_after : (n i : ℕ) (t : Ty) (L : List VType) (vs : List Value) → Belong P h (slice_set (local_tys m n L) i t) vs
        → Belong P h (slice_set (local_tys m n (put_word (suc i) types.Top L)) i t) vs
    top_after zero i t L vs q = q
    top_after (suc n) zero t [] vs (one_place a as_) = one_place a (top_ok n zero [] _ as_)
    top_after (suc n) (suc i) t [] vs (one_place a as_) = one_place tt (top_after n i t [] _ as_)
    top_after (suc n) zero t (x ∷ xs) vs (one_place a as_) = one_place a (top_ok n zero xs _ as_)
    top_after (suc n) (suc i) t (x ∷ xs) vs (one_place a as_) = one_place (before_ok (suc i) x _ a) (top_after n i t xs _ as_)

    -- a type that is put, the value's type being its own
    pub put_ok : (n i : ℕ) (u : VType) (t : Ty) → ((v : Value) → Belongs P h t v → Belongs P h (ty_of Anything m u) v) → (L : List VType) (vs : List Value)
        → Belong P h (slice_set (local_tys m n L) i t) vs → Belong P h (local_tys m n (put i u L)) vs
    put_ok n i types.Long t up L vs q = put_over n i types.Long t up (put_word (suc i) types.Top L) vs (top_after n i t L vs q)
    put_ok n i types.Top t up L vs q = put_over n i types.Top t up L vs q
    put_ok n i types.Int t up L vs q = put_over n i types.Int t up L vs q
    put_ok n i types.Null t up L vs q = put_over n i types.Null t up L vs q
    put_ok n i types.UninitThis t up L vs q = put_over n i types.UninitThis t up L vs q
    put_ok n i (types.Uninit j) t up L vs q = put_over n i (types.Uninit j) t up L vs q
    put_ok n i (types.Class k) t up L vs q = put_over n i (types.Class k) t up L vs q

    -- ---- what becomes Top, and what becomes initialised

    forget_one : (c : Bool) (t : VType) (v : Value) → Belongs P h (ty_of Anything m t) v → Belongs P h (ty_of Anything m (if c then types.Top else t)) v
    forget_one true t v q = tt
    forget_one false t v q = q

    pub forgotten_ok : (n at : ℕ) (L : List VType) (vs : List Value) → Belong P h (local_tys m n L) vs → Belong P h (local_tys m n (forgotten at L)) vs
    forgotten_ok zero at L vs q = q
    forgotten_ok (suc n) at [] vs q = q
    forgotten_ok (suc n) at (t ∷ ts) vs (one_place a as_) = one_place (forget_one (is_made_at at t) t _ a) (forgotten_ok n at ts _ as_)

    -- the object that isn't initialised, of type t, is one of class c
    pub Initialises : VType → ℕ → Type 0
    Initialises t c = (top : Ty) (u : VType) (v : Value) → Belongs P h (ty_of top m u) v → Belongs P h (ty_of top m (if is_same_uninit t u then types.Class (class_kind c) else u)) v

    pub this_initialised : (c : ℕ) → T (is_above P m.«class» c) → Initialises types.UninitThis c
    unfolding Initialises
    this_initialised c p top types.UninitThis v q = object_null (class_kind m.«class») (class_kind c) (class_up P facts m.«class» c p) h v q
    this_initialised c p top types.Top v q = q
    this_initialised c p top types.Int v q = q
    this_initialised c p top types.Long v q = q
    this_initialised c p top types.Null v q = q
    this_initialised c p top (types.Uninit n) v q = q
    this_initialised c p top (types.Class k) v q = q

    made_one : (n i c : ℕ) (e : Bool) → (T e → n ≡ i) → class_made_at m n ≡ Some c → T (is_above P c c) → (top : Ty) (v : Value) → Belongs P h (ty_of top m (types.Uninit i)) v
        → Belongs P h (ty_of top m (if e then types.Class (class_kind c) else types.Uninit i)) v
    made_one n i c false same made p top v q = q
    made_one n i c true same made p top v q =
        let e : class_made_at m i ≡ Some c = subst (λ i. class_made_at m i ≡ Some c) (same tt) made in
        just_null (class_kind c) (class_kind c) (class_up P facts c c p) h v (subst (λ o. Belongs P h (on_some o JustNull (λ c. Just (class_kind c))) v) e q)

    pub new_initialised : (n c : ℕ) → class_made_at m n ≡ Some c → T (is_above P c c) → Initialises (types.Uninit n) c
    unfolding Initialises
    new_initialised n c made p top (types.Uninit i) v q = made_one n i c (n == i) (λ e. eqb_yes e) made p top v q
    new_initialised n c made p top types.Top v q = q
    new_initialised n c made p top types.Int v q = q
    new_initialised n c made p top types.Long v q = q
    new_initialised n c made p top types.Null v q = q
    new_initialised n c made p top types.UninitThis v q = q
    new_initialised n c made p top (types.Class k) v q = q

    pub initialised_operands : (t : VType) (c : ℕ) → Initialises t c → (us : List VType) (vs : List Value) → Belong P h (operand_tys m us) vs → Belong P h (operand_tys m (initialised t c us)) vs
    unfolding Initialises
    initialised_operands t c f [] vs q = q
    initialised_operands t c f (u ∷ us) vs (one_place a as_) = one_place (f Word u _ a) (initialised_operands t c f us _ as_)

    pub initialised_locals : (t : VType) (c : ℕ) → Initialises t c → (n : ℕ) (us : List VType) (vs : List Value) → Belong P h (local_tys m n us) vs → Belong P h (local_tys m n (initialised t c us)) vs
    unfolding Initialises
    initialised_locals t c f zero us vs q = q
    initialised_locals t c f (suc n) [] vs q = q
    initialised_locals t c f (suc n) (u ∷ us) vs (one_place a as_) = one_place (f Anything u _ a) (initialised_locals t c f n us _ as_)

-- ---- lists of types

pub local_there : (m : MethodInfo) (n i : ℕ) (L : List VType) → i < n → slice_get (local_tys m n L) i ≡ Some (ty_of Anything m (local_type L i))
local_there m zero i L l = absurd (omega arith)
local_there m (suc n) zero [] l = refl
local_there m (suc n) zero (t ∷ ts) l = refl
local_there m (suc n) (suc i) [] l = local_there m n i [] (omega arith)
local_there m (suc n) (suc i) (t ∷ ts) l = local_there m n i ts (omega arith)

pub length_locals : (m : MethodInfo) (n : ℕ) (L : List VType) → length (local_tys m n L) ≡ n
length_locals m zero L = refl
length_locals m (suc n) [] = ap suc (length_locals m n [])
length_locals m (suc n) (t ∷ ts) = ap suc (length_locals m n ts)

pub length_operands : (m : MethodInfo) (ts : List VType) → length (operand_tys m ts) ≡ length ts
length_operands m [] = refl
length_operands m (t ∷ ts) = ap suc (length_operands m ts)

-- a letter's type means the same in a local variable as on the stack
pub letter_same : (m : MethodInfo) (letter : Letter) (t : VType) → T (is_letter letter t) → ty_of Anything m t ≡ ty_of Word m t
letter_same m letter types.Int p = refl
letter_same m letter types.Long p = refl
letter_same m letter types.Null p = refl
letter_same m letter types.UninitThis p = refl
letter_same m letter (types.Uninit n) p = refl
letter_same m letter (types.Class k) p = refl
letter_same m letters.I types.Top p = absurd p
letter_same m letters.J types.Top p = absurd p
letter_same m letters.A types.Top p = absurd p
letter_same m letters.R types.Top p = absurd p
letter_same m letters.Null types.Top p = absurd p

-- ---- places of operands

module _ (P : ProgramTables) where
  same_size : (t u : VType) → T (is_operand_assignable P t u) → size_of u ≡ size_of t
  same_size types.Long types.Long p = refl
  same_size types.Long types.Top p = absurd p
  same_size types.Top types.Top p = refl
  same_size types.Int types.Top p = refl
  same_size types.Null types.Top p = refl
  same_size types.UninitThis types.Top p = refl
  same_size (types.Uninit n) types.Top p = refl
  same_size (types.Class k) types.Top p = refl
  same_size types.Int types.Int p = refl
  same_size types.Null types.Null p = refl
  same_size types.Null (types.Class k) p = refl
  same_size types.UninitThis types.UninitThis p = refl
  same_size (types.Uninit n) (types.Uninit m) p = refl
  same_size (types.Class a) (types.Class c) p = refl
  same_size _ _ p = absurd p

  pub same_total : (ts us : List VType) → T (operands_fit P ts us) → total_size us ≡ total_size ts
  same_total [] [] p = refl
  same_total (t ∷ ts) (u ∷ us) p = let f = and_both (is_operand_assignable P t u) (operands_fit P ts us) p in let x = same_size t u f.0 in let y = same_total ts us f.1 in omega arith
  same_total [] (u ∷ us) p = absurd p
  same_total (t ∷ ts) [] p = absurd p
