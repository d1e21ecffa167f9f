-- The rules of instructions on local variables and numbers: their scripts fit.
use Rattle.std.proofs.Common.{◌≡◌, ℕ, zero, suc, ◌<◌, List, [], ◌∷◌, refl, sym, ap, subst, ◌∙◌, Bool, true, false, not, arith, T}
use Rattle.std.specs.Prelude.{ℤ, pos, negsuc, Option, Some, None, Contains, slice_get, slice_set, if◌then◌else◌, ◌&&◌}
use Rattle.std.specs.Ordering.{int_eq}
use Rattle.std.proofs.Math.Facts.{ltb_yes}
use Rattle.nr_optable.specs.declared.table.Letter.{Letter}
use Rattle.nr_optable.specs.declared.table.Letter.TheVariants as letters
use Rattle.nr_linked.specs.declared.program.built_in.BuiltIn.TheVariants as built_ins
use Rattle.nr_linked.specs.declared.program.kind.Kind.{Kind}
use Rattle.nr_linked.specs.declared.program.tables.MethodInfo.{MethodInfo}
use Rattle.nr_linked.specs.declared.program.tables.ProgramTables.{ProgramTables}
use Rattle.nr_linked.specs.declared.program.types.VType.{VType}
use Rattle.nr_linked.specs.declared.program.types.VType.TheVariants as types
use Rattle.nr_linked.specs.declared.typing.fault.OpFault.TheVariants.{NeedsInit}
use Rattle.nr_linked.specs.declared.typing.fault.Wanted.TheVariants as wanted
use Rattle.nr_linked.specs.Kinds.{class_kind, is_reference}
use Rattle.nr_linked.specs.Sites.{Site}
use Rattle.nr_linked.specs.TypingFrames.{TypeFrame, of_kind, is_int, is_long, is_initialised, is_operand_assignable}
use Rattle.nr_linked.specs.Initialisers.{is_initialiser}
use Rattle.nr_linked.specs.TypingChecks.{Checked, Leaves, need, is_letter, wanted_letter, take_letters, leaves, leaves_operands}
use Rattle.nr_linked.specs.TypingLocals.{local_type, put, is_in_range, load_rule, store_rule, increment_rule}
use Rattle.nr_linked.specs.TypingCalls.{class_made_at, is_return_of, take_result, return_rule}
use Rattle.nr_linked.specs.TypingFacts.{TypingFacts}
use Rattle.nr_model.specs.Heaps.{Heap, on_some}
use Rattle.nr_model.specs.Scripts.{Plain, plain, PlainInt, PlainLong, Script, GoTo, Return, ReturnTop, Push, PopInt, PopLong, Store, Drop, AskNull, AskSame, Within, Ending}
use Rattle.nr_model.specs.Throws.{typed}
use Rattle.nr_model.specs.ValueRules.{load, store, increment, on_ints, on_longs, not_zero, branch, target_at, target_of}
use Rattle.nr_model.specs.Types.{Ty, Anything, Word, AnInt, ALong, JustNull, Object, Just, ty_of, operand_tys, local_tys}
use Rattle.nr_model.specs.Belonging.{Belongs}
use Rattle.nr_typed.specs.Fits.{OnNullness, Fits}
use Rattle.nr_typed.proofs.Assigning.{by_kind}
use Rattle.nr_typed.proofs.Belongs.{local_there, length_locals, letter_same, put_ok, operand_ok, kind_same}
use Rattle.nr_typed.proofs.Checks.{int_is, long_is, inv_need, inv_that, inv_letter, inv_letters}
use Rattle.nr_typed.proofs.Owed.{Goes, Owed, go_on, go_same, go_top, over, if_fits, throws, typed_fits}

set_same : (L : List Ty) (i : ℕ) (t : Ty) → slice_get L i ≡ Some t → slice_set L i t ≡ L
set_same [] i t e = refl
set_same (x ∷ xs) zero t e = ap (λ x. x ∷ xs) (some_same e)
  where
    some_same : {x y : Ty} → Some x ≡ Some y → y ≡ x
    some_same e = cc
set_same (x ∷ xs) (suc i) t e = ap (λ xs. x ∷ xs) (set_same xs i t e)

pub in_range : (m : MethodInfo) (letter : Letter) (i : ℕ) → T (is_in_range m letter i) → i < m.max_locals
in_range m letters.I i p = ltb_yes p
in_range m letters.J i p = let l : suc i < m.max_locals = ltb_yes p in omega arith
in_range m letters.A i p = ltb_yes p
in_range m letters.R i p = ltb_yes p
in_range m letters.Null i p = ltb_yes p

module _ (P : ProgramTables) (facts : TypingFacts P) (own : MethodInfo) (F G : TypeFrame) (h0 : Heap) (Q : Ending → Within → Type 0) where
  abbrev LT : List Ty
  LT = local_tys own own.max_locals F.locals

  abbrev Fit : Script → Type 0
  Fit sc = Fits P h0 Q sc LT (operand_tys own F.operands)

  abbrev On : Script → Type 0
  On k = Goes P own F G h0 Q k

  -- ---- nothing, constants

  pub nothing : (k : Script) → On k → leaves_operands own F F.operands ≡ Leaves G → Fit k
  nothing k g e = go_same P facts own F G h0 Q k g F.operands e

  pub pushes : (c : Plain) (u : VType) (k : Script) → On k → ((h : Heap) → Belongs P h (ty_of Word own u) (plain c)) → leaves_operands own F (u ∷ F.operands) ≡ Leaves G → Fit (Push c k)
  pushes c u k g b e = (ty_of Word own u, b, go_same P facts own F G h0 Q k g (u ∷ F.operands) e)

  -- ---- local variables

  pub loads : (letter : Letter) (i : ℕ) (k : Script) → On k → load_rule own letter i F ≡ Leaves G → Fit (load letter i k)
  loads letter i k g e =
      let n = inv_need G (is_in_range own letter i) _ _ e in
      let p = inv_need G (is_letter letter (local_type F.locals i)) _ _ n.1 in
      let t = local_type F.locals i in
      let s = letter_same own letter t p.0 in
      rw (local_there own own.max_locals i F.locals (in_range own letter i n.0), s)
      (typed_fits P facts own F G h0 Q letter t p.0 k LT (operand_tys own F.operands) (λ x up. go_top P facts own F G h0 Q k g t F.operands p.1 x up))

  pub stores : (letter : Letter) (i : ℕ) (k : Script) → On k → store_rule own letter i F ≡ Leaves G → Fit (store letter i k)
  stores letter i k g e =
      let n = inv_need G (is_in_range own letter i) _ _ e in
      let r = inv_that G (is_letter letter) (wanted_letter letter) 0 F.operands (λ t ts. leaves own (record F { locals = put i t F.locals; operands = ts })) n.1 in
      let t = r.0 in
      let us = r.1 in
      let l : i < own.max_locals = in_range own letter i n.0 in
      let e = length_locals own own.max_locals F.locals in
      over P facts own F G h0 Q (store letter i k) F.operands (t ∷ us) r.2
      (typed_fits P facts own F G h0 Q letter t r.3 (Store i k) LT (operand_tys own us) (λ x up. (
        subst (λ n. i < n) (sym e) l,
        go_on P facts own F G h0 Q k g (record F { locals = put i t F.locals; operands = us }) r.4 (slice_set LT i x) (operand_tys own us)
            (λ h vs q. put_ok P facts own h own.max_locals i t x (λ v a. subst (λ y. Belongs P h y v) (sym (letter_same own letter t r.3)) (up h v a)) F.locals vs q) (λ h vs q. q),
      )))

  pub increments : (i : ℕ) (by : ℤ) (k : Script) → On k → increment_rule own i F ≡ Leaves G → Fit (increment i by k)
  increments i by k g e =
      let n = inv_need G (is_in_range own letters.I i) _ _ e in
      let p = inv_need G (is_letter letters.I (local_type F.locals i)) _ _ n.1 in
      let there : slice_get LT i ≡ Some AnInt = local_there own own.max_locals i F.locals (in_range own letters.I i n.0) ∙ ap (λ t. Some (ty_of Anything own t)) (int_is (local_type F.locals i) p.0) in
      let l : i < own.max_locals = in_range own letters.I i n.0 in
      let e = length_locals own own.max_locals F.locals in
      rw there (λ n. (AnInt, λ h. tt, (subst (λ n. i < n) (sym e) l, subst (λ L. Fits P h0 Q k L (operand_tys own F.operands)) (sym (set_same LT i AnInt there)) (go_same P facts own F G h0 Q k g F.operands p.1))))

  -- ---- arithmetic: what follows is of the numbers that were popped

  -- an int, a long, and pairs of them are on top
  pub pops_int : (sc : ℤ → Script) (k : List VType → Checked) → take_letters (letters.I ∷ []) 0 F.operands k ≡ Leaves G
      → ((us : List VType) → k us ≡ Leaves G → (x : ℤ) → Fits P h0 Q (sc x) LT (operand_tys own us)) → Fit (PopInt sc)
  pops_int sc k e f =
      let r = inv_letter G letters.I 0 F.operands k e in
      over P facts own F G h0 Q (PopInt sc) F.operands (types.Int ∷ r.1) (r.2 ∙ ap (λ t. t ∷ r.1) (int_is r.0 r.3)) (λ x. f r.1 r.4 x)

  pub pops_long : (sc : ℤ → Script) (k : List VType → Checked) → take_letters (letters.J ∷ []) 0 F.operands k ≡ Leaves G
      → ((us : List VType) → k us ≡ Leaves G → (x : ℤ) → Fits P h0 Q (sc x) LT (operand_tys own us)) → Fit (PopLong sc)
  pops_long sc k e f =
      let r = inv_letter G letters.J 0 F.operands k e in
      over P facts own F G h0 Q (PopLong sc) F.operands (types.Long ∷ r.1) (r.2 ∙ ap (λ t. t ∷ r.1) (long_is r.0 r.3)) (λ x. f r.1 r.4 x)

  pub pops_ints : (sc : ℤ → ℤ → Script) (k : List VType → Checked) → take_letters (letters.I ∷ letters.I ∷ []) 0 F.operands k ≡ Leaves G
      → ((us : List VType) → k us ≡ Leaves G → (y x : ℤ) → Fits P h0 Q (sc y x) LT (operand_tys own us)) → Fit (PopInt (λ y. PopInt (λ x. sc y x)))
  pops_ints sc k e f =
      let r = inv_letters G letters.I letters.I F.operands k e in
      over P facts own F G h0 Q (PopInt (λ y. PopInt (λ x. sc y x))) F.operands (types.Int ∷ types.Int ∷ r.2) (r.3 ∙ (ap (λ t. t ∷ r.1 ∷ r.2) (int_is r.0 r.4) ∙ ap (λ t. types.Int ∷ t ∷ r.2) (int_is r.1 r.5))) (λ y x. f r.2 r.6 y x)

  pub pops_longs : (sc : ℤ → ℤ → Script) (k : List VType → Checked) → take_letters (letters.J ∷ letters.J ∷ []) 0 F.operands k ≡ Leaves G
      → ((us : List VType) → k us ≡ Leaves G → (y x : ℤ) → Fits P h0 Q (sc y x) LT (operand_tys own us)) → Fit (PopLong (λ y. PopLong (λ x. sc y x)))
  pops_longs sc k e f =
      let r = inv_letters G letters.J letters.J F.operands k e in
      over P facts own F G h0 Q (PopLong (λ y. PopLong (λ x. sc y x))) F.operands (types.Long ∷ types.Long ∷ r.2) (r.3 ∙ (ap (λ t. t ∷ r.1 ∷ r.2) (long_is r.0 r.4) ∙ ap (λ t. types.Long ∷ t ∷ r.2) (long_is r.1 r.5))) (λ y x. f r.2 r.6 y x)

  -- a count, and below it a long
  pub pops_shift : (sc : ℤ → ℤ → Script) (k : List VType → Checked) → take_letters (letters.I ∷ letters.J ∷ []) 0 F.operands k ≡ Leaves G
      → ((us : List VType) → k us ≡ Leaves G → (y x : ℤ) → Fits P h0 Q (sc y x) LT (operand_tys own us)) → Fit (PopInt (λ y. PopLong (λ x. sc y x)))
  pops_shift sc k e f =
      let r = inv_letters G letters.I letters.J F.operands k e in
      over P facts own F G h0 Q (PopInt (λ y. PopLong (λ x. sc y x))) F.operands (types.Int ∷ types.Long ∷ r.2) (r.3 ∙ (ap (λ t. t ∷ r.1 ∷ r.2) (int_is r.0 r.4) ∙ ap (λ t. types.Int ∷ t ∷ r.2) (long_is r.1 r.5))) (λ y x. f r.2 r.6 y x)

  -- an int or a long is pushed
  pub gives_int : (n : ℤ) (k : Script) → On k → (us : List VType) → leaves_operands own F (types.Int ∷ us) ≡ Leaves G → Fits P h0 Q (Push (PlainInt n) k) LT (operand_tys own us)
  gives_int n k g us e = (AnInt, λ h. tt, go_same P facts own F G h0 Q k g (types.Int ∷ us) e)

  pub gives_long : (n : ℤ) (k : Script) → On k → (us : List VType) → leaves_operands own F (types.Long ∷ us) ≡ Leaves G → Fits P h0 Q (Push (PlainLong n) k) LT (operand_tys own us)
  gives_long n k g us e = (ALong, λ h. tt, go_same P facts own F G h0 Q k g (types.Long ∷ us) e)

  pub two_ints : (f : ℤ → ℤ → ℤ) (k : Script) → On k → take_letters (letters.I ∷ letters.I ∷ []) 0 F.operands (λ ts. leaves_operands own F (types.Int ∷ ts)) ≡ Leaves G
      → Fit (on_ints (λ x y. Push (PlainInt (f x y)) k))
  two_ints f k g e = pops_ints (λ y x. Push (PlainInt (f x y)) k) (λ ts. leaves_operands own F (types.Int ∷ ts)) e (λ us e y x. gives_int (f x y) k g us e)

  pub two_longs : (f : ℤ → ℤ → ℤ) (k : Script) → On k → take_letters (letters.J ∷ letters.J ∷ []) 0 F.operands (λ ts. leaves_operands own F (types.Long ∷ ts)) ≡ Leaves G
      → Fit (on_longs (λ x y. Push (PlainLong (f x y)) k))
  two_longs f k g e = pops_longs (λ y x. Push (PlainLong (f x y)) k) (λ ts. leaves_operands own F (types.Long ∷ ts)) e (λ us e y x. gives_long (f x y) k g us e)

  -- lcmp
  pub compares : (f : ℤ → ℤ → ℤ) (k : Script) → On k → take_letters (letters.J ∷ letters.J ∷ []) 0 F.operands (λ ts. leaves_operands own F (types.Int ∷ ts)) ≡ Leaves G
      → Fit (on_longs (λ x y. Push (PlainInt (f x y)) k))
  compares f k g e = pops_longs (λ y x. Push (PlainInt (f x y)) k) (λ ts. leaves_operands own F (types.Int ∷ ts)) e (λ us e y x. gives_int (f x y) k g us e)

  pub int_to_int : (f : ℤ → ℤ) (k : Script) → On k → take_letters (letters.I ∷ []) 0 F.operands (λ ts. leaves_operands own F (types.Int ∷ ts)) ≡ Leaves G → Fit (PopInt (λ x. Push (PlainInt (f x)) k))
  int_to_int f k g e = pops_int (λ x. Push (PlainInt (f x)) k) (λ ts. leaves_operands own F (types.Int ∷ ts)) e (λ us e x. gives_int (f x) k g us e)

  pub int_to_long : (f : ℤ → ℤ) (k : Script) → On k → take_letters (letters.I ∷ []) 0 F.operands (λ ts. leaves_operands own F (types.Long ∷ ts)) ≡ Leaves G → Fit (PopInt (λ x. Push (PlainLong (f x)) k))
  int_to_long f k g e = pops_int (λ x. Push (PlainLong (f x)) k) (λ ts. leaves_operands own F (types.Long ∷ ts)) e (λ us e x. gives_long (f x) k g us e)

  pub long_to_int : (f : ℤ → ℤ) (k : Script) → On k → take_letters (letters.J ∷ []) 0 F.operands (λ ts. leaves_operands own F (types.Int ∷ ts)) ≡ Leaves G → Fit (PopLong (λ x. Push (PlainInt (f x)) k))
  long_to_int f k g e = pops_long (λ x. Push (PlainInt (f x)) k) (λ ts. leaves_operands own F (types.Int ∷ ts)) e (λ us e x. gives_int (f x) k g us e)

  pub long_to_long : (f : ℤ → ℤ) (k : Script) → On k → take_letters (letters.J ∷ []) 0 F.operands (λ ts. leaves_operands own F (types.Long ∷ ts)) ≡ Leaves G → Fit (PopLong (λ x. Push (PlainLong (f x)) k))
  long_to_long f k g e = pops_long (λ x. Push (PlainLong (f x)) k) (λ ts. leaves_operands own F (types.Long ∷ ts)) e (λ us e x. gives_long (f x) k g us e)

  -- ishl and so on, lshl and so on
  pub shifts_int : (f : ℤ → ℤ → ℤ) (k : Script) → On k → take_letters (letters.I ∷ letters.I ∷ []) 0 F.operands (λ ts. leaves_operands own F (types.Int ∷ ts)) ≡ Leaves G
      → Fit (PopInt (λ count. PopInt (λ x. Push (PlainInt (f x count)) k)))
  shifts_int f k g e = two_ints f k g e

  pub shifts_long : (f : ℤ → ℤ → ℤ) (k : Script) → On k → take_letters (letters.I ∷ letters.J ∷ []) 0 F.operands (λ ts. leaves_operands own F (types.Long ∷ ts)) ≡ Leaves G
      → Fit (PopInt (λ count. PopLong (λ x. Push (PlainLong (f x count)) k)))
  shifts_long f k g e = pops_shift (λ y x. Push (PlainLong (f x y)) k) (λ ts. leaves_operands own F (types.Long ∷ ts)) e (λ us e y x. gives_long (f x y) k g us e)

  -- ---- branches

  pub branches : (t : ℕ) (k : Script) → On (GoTo t) → On k → (us : List VType) → leaves_operands own F us ≡ Leaves G → (taken : Bool) → Fits P h0 Q (branch t k taken) LT (operand_tys own us)
  branches t k b g us e taken = if_fits P facts own F G h0 Q taken (GoTo t) k LT (operand_tys own us) (λ p. go_same P facts own F G h0 Q (GoTo t) b us e) (λ p. go_same P facts own F G h0 Q k g us e)

  pub tests_int : (f : ℤ → ℤ → Bool) (t : ℕ) (k : Script) → On (GoTo t) → On k → take_letters (letters.I ∷ []) 0 F.operands (λ ts. leaves_operands own F ts) ≡ Leaves G → Fit (PopInt (λ x. branch t k (f x (pos 0))))
  tests_int f t k b g e = pops_int (λ x. branch t k (f x (pos 0))) (λ ts. leaves_operands own F ts) e (λ us e x. branches t k b g us e (f x (pos 0)))

  pub tests_ints : (f : ℤ → ℤ → Bool) (t : ℕ) (k : Script) → On (GoTo t) → On k → take_letters (letters.I ∷ letters.I ∷ []) 0 F.operands (λ ts. leaves_operands own F ts) ≡ Leaves G
      → Fit (on_ints (λ x y. branch t k (f x y)))
  tests_ints f t k b g e = pops_ints (λ y x. branch t k (f x y)) (λ ts. leaves_operands own F ts) e (λ us e y x. branches t k b g us e (f x y))

  on_reference : (o : Option ℕ) → OnNullness (on_some o JustNull (λ c. Just (class_kind c))) (Unit {0}) (λ x. Unit {0})
  on_reference None = tt
  on_reference (Some c) = tt

  reference_like : (t : VType) → T (is_letter letters.R t) → OnNullness (ty_of Word own t) (Unit {0}) (λ x. Unit {0})
  reference_like types.Null p = tt
  reference_like (types.Class k) p = (tt, tt)
  reference_like types.UninitThis p = tt
  reference_like (types.Uninit n) p = on_reference (class_made_at own n)
  reference_like types.Top p = absurd p
  reference_like types.Int p = absurd p
  reference_like types.Long p = absurd p

  pub tests_same : (f : Bool → Bool) (t : ℕ) (k : Script) → On (GoTo t) → On k → take_letters (letters.R ∷ letters.R ∷ []) 0 F.operands (λ ts. leaves_operands own F ts) ≡ Leaves G
      → Fit (AskSame (λ same. branch t k (f same)))
  tests_same f t k b g e =
      let r = inv_letters G letters.R letters.R F.operands (λ ts. leaves_operands own F ts) e in
      over P facts own F G h0 Q (AskSame (λ same. branch t k (f same))) F.operands (r.0 ∷ r.1 ∷ r.2) r.3
      (reference_like r.0 r.4, reference_like r.1 r.5, λ same. branches t k b g r.2 r.6 (f same))

  ask_null : (t : VType) → T (is_letter letters.R t) → (sc : Bool → Script) (us : List Ty) → ((x : Ty) (c : Bool) → Fits P h0 Q (sc c) LT (x ∷ us)) → Fits P h0 Q (AskNull 0 sc) LT (ty_of Word own t ∷ us)
  ask_null types.Null p sc us f = f JustNull true
  ask_null (types.Class k) p sc us f = (f JustNull true, f (Object k) false)
  ask_null types.UninitThis p sc us f = f (Object (class_kind own.«class»)) false
  ask_null (types.Uninit n) p sc us f = made (class_made_at own n)
    where
      made : (o : Option ℕ) → OnNullness (on_some o JustNull (λ c. Just (class_kind c))) (Fits P h0 Q (sc true) LT (JustNull ∷ us)) (λ u. Fits P h0 Q (sc false) LT (u ∷ us))
      made None = f JustNull true
      made (Some c) = f (Just (class_kind c)) false
  ask_null types.Top p sc us f = absurd p
  ask_null types.Int p sc us f = absurd p
  ask_null types.Long p sc us f = absurd p

  pub tests_null : (f : Bool → Bool) (t : ℕ) (k : Script) → On (GoTo t) → On k → take_letters (letters.R ∷ []) 0 F.operands (λ ts. leaves_operands own F ts) ≡ Leaves G
      → Fit (AskNull 0 (λ null. Drop 0 (branch t k (f null))))
  tests_null f t k b g e =
      let r = inv_letter G letters.R 0 F.operands (λ ts. leaves_operands own F ts) e in
      over P facts own F G h0 Q (AskNull 0 (λ null. Drop 0 (branch t k (f null)))) F.operands (r.0 ∷ r.1) r.2
      (ask_null r.0 r.3 (λ null. Drop 0 (branch t k (f null))) (operand_tys own r.1) (λ x c. (omega arith, branches t k b g r.1 r.4 (f c))))

  pub jumps : (t : ℕ) → On (GoTo t) → leaves_operands own F F.operands ≡ Leaves G → Fit (GoTo t)
  jumps t g e = go_same P facts own F G h0 Q (GoTo t) g F.operands e

  -- a switch goes to one of its targets
  at_target : (ts : List ℕ) (other i : ℕ) → (C : ℕ → Type 0) → C other → ((t : ℕ) → Contains ts t → C t) → C (on_some (slice_get ts i) other (λ t. t))
  at_target [] other i C o f = o
  at_target (t ∷ ts) other zero C o f = f t (0, omega arith, refl)
  at_target (t ∷ ts) other (suc i) C o f = at_target ts other i C o (λ u c. f u (suc c.0, (let l = c.1 in omega arith), c.2))

  target_int : (ts : List ℕ) (other : ℕ) (n : ℤ) → (C : ℕ → Type 0) → C other → ((t : ℕ) → Contains ts t → C t) → C (target_at ts other n)
  target_int ts other (pos i) C o f = at_target ts other i C o f
  target_int ts other (negsuc i) C o f = o

  if_or : (c : Bool) (a b : ℕ) (C : ℕ → Type 0) → C a → C b → C (if c then a else b)
  if_or true a b C x y = x
  if_or false a b C x y = y

  target_key : (keys : List ℤ) (ts : List ℕ) (other : ℕ) (n : ℤ) → (C : ℕ → Type 0) → C other → ((t : ℕ) → Contains ts t → C t) → C (target_of keys ts other n)
  target_key [] ts other n C o f = o
  target_key (key ∷ keys) [] other n C o f = o
  target_key (key ∷ keys) (t ∷ ts) other n C o f =
      if_or (int_eq key n) t (target_of keys ts other n) C (f t (0, omega arith, refl)) (target_key keys ts other n C o (λ u c. f u (suc c.0, (let l = c.1 in omega arith), c.2)))

  pub switches : (sc : ℤ → ℕ) (all : List ℕ) → ((t : ℕ) → Contains all t → On (GoTo t)) → ((n : ℤ) (C : ℕ → Type 0) → ((t : ℕ) → Contains all t → C t) → C (sc n))
      → take_letters (letters.I ∷ []) 0 F.operands (λ ts. leaves_operands own F ts) ≡ Leaves G → Fit (PopInt (λ n. GoTo (sc n)))
  switches sc all b among e = pops_int (λ n. GoTo (sc n)) (λ ts. leaves_operands own F ts) e (λ us e n. among n (λ t. Fits P h0 Q (GoTo t) LT (operand_tys own us)) (λ t c. go_same P facts own F G h0 Q (GoTo t) (b t c) us e))

  pub in_table : (other : ℕ) (ts : List ℕ) (low : ℤ) (f : ℤ → ℤ) (n : ℤ) (C : ℕ → Type 0) → ((t : ℕ) → Contains (other ∷ ts) t → C t) → C (target_at ts other (f n))
  in_table other ts low f n C c = target_int ts other (f n) C (c other (0, omega arith, refl)) (λ t i. c t (suc i.0, (let l = i.1 in omega arith), i.2))

  pub in_lookup : (other : ℕ) (keys : List ℤ) (ts : List ℕ) (n : ℤ) (C : ℕ → Type 0) → ((t : ℕ) → Contains (other ∷ ts) t → C t) → C (target_of keys ts other n)
  in_lookup other keys ts n C c = target_key keys ts other n C (c other (0, omega arith, refl)) (λ t i. c t (suc i.0, (let l = i.1 in omega arith), i.2))

  -- ---- division and returns
  module _ (s : Site) (owed : Owed P own F G h0 Q s) where
    divides : (n : ℤ) (k : Script) (us : List Ty) → Fits P h0 Q k LT us → Fits P h0 Q (not_zero P n k) LT us
    divides (pos zero) k us f = throws P facts own F G h0 Q s owed built_ins.ArithmeticException refl LT us
    divides (pos (suc n)) k us f = f
    divides (negsuc n) k us f = f

    pub divides_ints : (f : ℤ → ℤ → ℤ) (k : Script) → On k → take_letters (letters.I ∷ letters.I ∷ []) 0 F.operands (λ ts. leaves_operands own F (types.Int ∷ ts)) ≡ Leaves G
        → Fit (on_ints (λ x y. not_zero P y (Push (PlainInt (f x y)) k)))
    divides_ints f k g e = pops_ints (λ y x. not_zero P y (Push (PlainInt (f x y)) k)) (λ ts. leaves_operands own F (types.Int ∷ ts)) e (λ us e y x. divides y _ _ (gives_int (f x y) k g us e))

    pub divides_longs : (f : ℤ → ℤ → ℤ) (k : Script) → On k → take_letters (letters.J ∷ letters.J ∷ []) 0 F.operands (λ ts. leaves_operands own F (types.Long ∷ ts)) ≡ Leaves G
        → Fit (on_longs (λ x y. not_zero P y (Push (PlainLong (f x y)) k)))
    divides_longs f k g e = pops_longs (λ y x. not_zero P y (Push (PlainLong (f x y)) k)) (λ ts. leaves_operands own F (types.Long ∷ ts)) e (λ us e y x. divides y _ _ (gives_long (f x y) k g us e))

    none_given : (o : Option Kind) → T (is_return_of [] o) → o ≡ None
    none_given None p = refl
    none_given (Some k) p = absurd p

    pub returns_nothing : return_rule P own [] F ≡ Leaves G → Fit Return
    returns_nothing e = let n = inv_need G (is_return_of [] own.result) _ _ e in λ w th st a q. owed.gave_none (none_given own.result n.0) w th st

    -- the result's letter is that of what goes for it
    result_letter : (letter : Letter) (k : Kind) (t : VType) → T (is_return_of (letter ∷ []) (Some k)) → T (is_operand_assignable P t (of_kind k)) → T (is_letter letter t)
    result_letter letters.I k t p q = of_int (of_kind k) t p q
      where
        of_int : (u t : VType) → T (is_int u) → T (is_operand_assignable P t u) → T (is_int t)
        of_int types.Int types.Int p q = tt
        of_int types.Int _ p q = absurd q
        of_int _ t p q = absurd p
    result_letter letters.J k t p q = of_long (of_kind k) t p q
      where
        of_long : (u t : VType) → T (is_long u) → T (is_operand_assignable P t u) → T (is_long t)
        of_long types.Long types.Long p q = tt
        of_long types.Long _ p q = absurd q
        of_long _ t p q = absurd p
    result_letter letters.A k t p q = by_kind (λ k. T (is_reference k) → T (is_operand_assignable P t (of_kind k)) → T (is_initialised t)) refs
        (λ p q. absurd p) (λ p q. absurd p) (λ p q. absurd p) (λ p q. absurd p) (λ p q. absurd p) (λ p q. absurd p) k p q
      where
        of_class : (k : Kind) (t : VType) → T (is_operand_assignable P t (types.Class k)) → T (is_initialised t)
        of_class k types.Null q = tt
        of_class k (types.Class j) q = tt
        of_class k _ q = absurd q

        refs : (k : Kind) → is_reference k ≡ true → T (is_reference k) → T (is_operand_assignable P t (of_kind k)) → T (is_initialised t)
        refs k e p q = of_class k t (rw e at q)
    result_letter letters.R k t p q = absurd p
    result_letter letters.Null k t p q = absurd p

    some_given : (letter : Letter) (o : Option Kind) (k : List VType → Checked) → T (is_return_of (letter ∷ []) o) → take_result P o F.operands k ≡ Leaves G
        → (x : Kind) × (o ≡ Some x) × (t : VType) × (us : List VType) × (F.operands ≡ t ∷ us) × T (is_operand_assignable P t (of_kind x)) × T (is_letter letter t)
    some_given letters.I None k p e = absurd p
    some_given letters.J None k p e = absurd p
    some_given letters.A None k p e = absurd p
    some_given letters.R None k p e = absurd p
    some_given letters.Null None k p e = absurd p
    some_given letter (Some x) k p e =
        let r = inv_that G (λ t. is_operand_assignable P t (of_kind x)) (wanted.Type (of_kind x)) 0 F.operands (λ t us. k us) e in
        (x, refl, r.0, r.1, r.2, r.3, result_letter letter x r.0 p r.3)

    pub returns_top : (letter : Letter) → return_rule P own (letter ∷ []) F ≡ Leaves G → Fit (typed letter ReturnTop)
    returns_top letter e =
        let n = inv_need G (is_return_of (letter ∷ []) own.result) _ _ e in
        let r = some_given letter own.result (λ ts. need (not (is_initialiser own && F.this_uninit)) NeedsInit (leaves_operands own F ts)) n.0 n.1 in
        over P facts own F G h0 Q (typed letter ReturnTop) F.operands (r.2 ∷ r.3) r.4
        (typed_fits P facts own F G h0 Q letter r.2 r.6 ReturnTop LT (operand_tys own r.3) (λ x up. λ w v th st a q y.
        owed.gave r.0 r.1 w v th st (subst (λ t. Belongs P w.heap t v) (kind_same P facts Word own r.0) (operand_ok P facts own w.heap r.2 (of_kind r.0) v r.5 (up w.heap v y)))))
