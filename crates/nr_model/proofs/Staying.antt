-- Runs keep each object, with its kind and length.
use Rattle.std.proofs.Common.{◌≡◌, ℕ, zero, suc, List, [], ◌∷◌, refl, sym, subst, length}
use Rattle.std.specs.Prelude.{ℤ, Option, Some, None, IsSomeAnd, slice_get, slice_set}
use Rattle.std.proofs.lemmas.List.{length-set}
use Rattle.std.specs.FinMap.{get}
use Rattle.nr_linked.specs.declared.program.tables.ProgramTables.{ProgramTables}
use Rattle.nr_model.specs.declared.value.Value.{Value}
use Rattle.nr_model.specs.declared.value.Value.TheVariants.{Int, Long, Null, Ref}
use Rattle.nr_model.specs.Scripts.{Script, GoTo, Throw, Return, ReturnTop, Call, Stuck, Push, PopInt, PopLong, Load, Store, Pick, Drop, AskLong, AskNull, AskSame, AskKind, ReadSlot, WriteSlot, Make, Print, Within, Ending, OnTop, OnInt, OnLong, OnRef, OnReference, is_long, is_null, is_same, new_object, Runs}
use Rattle.nr_model.specs.States.{Control, Running, Returned, Thrown, State}
use Rattle.nr_model.specs.Steps.{script_at, within, StepBy, StepOf, Step, Run}
use Rattle.nr_model.specs.Heaps.{Obj, Heap}
use Rattle.nr_model.specs.Staying.{Stays}
use Rattle.nr_model.proofs.Heaps.{get_same, get_other}
use Rattle.std.specs.FinMap.{insert}
use Rattle.std.proofs.Math.Decide.{ℕ_discrete}
use Rattle.std.proofs.Common.{◌∙◌, ap}

some_of : {X : Type 0} (o : Option X) (P : X → Type 0) → IsSomeAnd o P → (x : X) × (o ≡ Some x) × P x
some_of None P p = absurd p
some_of (Some x) P p = (x, refl, p)

pub stays_self : (h : Heap) → Stays h h
stays_self h = record { at = λ a o e. (o, e, refl, refl) }

pub stays_on : (h k l : Heap) → Stays h k → Stays k l → Stays h l
stays_on h k l s t = record { at = λ a o e. let p = s.at a o e in let q = t.at a p.0 p.1 in (q.0, q.1, q.2 ∙ p.2, q.3 ∙ p.3) }

same_obj : {x y : Obj} {o : Option Obj} → o ≡ Some x → o ≡ Some y → x ≡ y
same_obj e f = cc

not_both : {x : Obj} {o : Option Obj} → o ≡ Some x → o ≡ None → ⊥
not_both e f = cc

pub stays_write : (h : Heap) (a : ℕ) (o p : Obj) → get h a ≡ Some o → p.kind ≡ o.kind → length p.slots ≡ length o.slots → Stays h (insert h a p)
stays_write h a o p held kind len = record { at = λ b q f. go b q f (ℕ_discrete b a) }
  where
    go : (b : ℕ) (q : Obj) → get h b ≡ Some q → Dec (b ≡ a) → (r : Obj) × (get (insert h a p) b ≡ Some r) × (r.kind ≡ q.kind) × (length r.slots ≡ length q.slots)
    go b q f (yes d) =
        let s : o ≡ q = same_obj (rw d held) f in
        (p, rw d (get_same h a p), kind ∙ ap (λ o. o.kind) s, len ∙ ap (λ o. length o.slots) s)
    go b q f (no n) = (q, get_other h a b p n ∙ f, refl, refl)

pub stays_make : (h : Heap) (a : ℕ) (p : Obj) → get h a ≡ None → Stays h (insert h a p)
stays_make h a p n = record { at = λ b q f. (q, get_other h a b p (λ e. not_both f (rw e n)) ∙ f, refl, refl) }

-- what is found goes on
module _ (C : Type 0) where
  in_some : {X : Type 0} (o : Option X) (P : X → Type 0) → IsSomeAnd o P → ((x : X) → o ≡ Some x → P x → C) → C
  in_some o P p k = let r = some_of o P p in k r.0 r.1 r.2

  in_top : (vs : List Value) (P : Value → List Value → Type 0) → OnTop vs P → ((v : Value) (vs : List Value) → P v vs → C) → C
  in_top [] P p k = absurd p
  in_top (v ∷ vs) P p k = k v vs p

  in_int : (v : Value) (P : ℤ → Type 0) → OnInt v P → ((n : ℤ) → P n → C) → C
  in_int (Int n) P p k = k n p
  in_int _ P p k = absurd p

  in_long : (v : Value) (P : ℤ → Type 0) → OnLong v P → ((n : ℤ) → P n → C) → C
  in_long (Long n) P p k = k n p
  in_long _ P p k = absurd p

  in_ref : (v : Value) (P : ℕ → Type 0) → OnRef v P → ((n : ℕ) → P n → C) → C
  in_ref (Ref n) P p k = k n p
  in_ref _ P p k = absurd p

  in_reference : (v : Value) (P : Option ℕ → Type 0) → OnReference v P → ((r : Option ℕ) → P r → C) → C
  in_reference (Ref n) P p k = k (Some n) p
  in_reference Null P p k = k None p
  in_reference (Int n) P p k = absurd p
  in_reference (Long n) P p k = absurd p

module _ (e : Ending) (w' : Within) where
  ended : (w : Within) → w' ≡ w → Stays w.heap w'.heap
  ended w p = subst (λ (v : Within). Stays w.heap v.heap) (sym p) (stays_self w.heap)

  pub script_stays : (sc : Script) (w : Within) → Runs sc w e w' → Stays w.heap w'.heap
  script_stays (GoTo t) w r = ended w r.1
  script_stays Throw w r = in_top _ w.operands _ r (λ v vs r. in_ref _ v _ r (λ a r. ended (record w { operands = vs }) r.1))
  script_stays Return w r = ended w r.1
  script_stays ReturnTop w r = in_top _ w.operands _ r (λ v vs r. ended (record w { operands = vs }) r.1)
  script_stays (Call m) w r = ended w r.1
  script_stays Stuck w r = absurd r
  script_stays (Push c k) w r = script_stays k _ r
  script_stays (Print bs k) w r = script_stays k _ r
  script_stays (PopInt k) w r = in_top _ w.operands _ r (λ v vs r. in_int _ v _ r (λ n r. script_stays (k n) (record w { operands = vs }) r))
  script_stays (PopLong k) w r = in_top _ w.operands _ r (λ v vs r. in_long _ v _ r (λ n r. script_stays (k n) (record w { operands = vs }) r))
  script_stays (Load i k) w r = in_some _ (slice_get w.locals i) _ r (λ v q r. script_stays k (record w { operands = v ∷ w.operands }) r)
  script_stays (Store i k) w r = in_top _ w.operands _ r (λ v vs r. script_stays k (record w { locals = slice_set w.locals i v; operands = vs }) r.1)
  script_stays (Pick d k) w r = in_some _ (slice_get w.operands d) _ r (λ v q r. script_stays k (record w { operands = v ∷ w.operands }) r)
  script_stays (Drop d k) w r = script_stays k _ r.1
  script_stays (AskLong d k) w r = in_some _ (slice_get w.operands d) _ r (λ v q r. script_stays (k (is_long v)) w r)
  script_stays (AskNull d k) w r = in_some _ (slice_get w.operands d) _ r (λ v q r. in_reference _ v _ r (λ a r. script_stays (k (is_null a)) w r))
  script_stays (AskSame k) w r = in_top _ w.operands _ r (λ v vs r. in_top _ vs _ r (λ u us r. in_reference _ v _ r (λ a r. in_reference _ u _ r (λ b r. script_stays (k (is_same a b)) (record w { operands = us }) r))))
  script_stays (AskKind d k) w r = in_some _ (slice_get w.operands d) _ r (λ v q r. in_ref _ v _ r (λ a r. in_some _ (get w.heap a) _ r (λ o q r. script_stays (k o.kind (length o.slots)) w r)))
  script_stays (ReadSlot i k) w r = in_top _ w.operands _ r (λ v vs r. in_ref _ v _ r (λ a r. in_some _ (get w.heap a) _ r (λ o q r. in_some _ (slice_get o.slots i) _ r (λ u q r. script_stays k (record w { operands = u ∷ vs }) r))))
  script_stays (WriteSlot i k) w r = in_top _ w.operands _ r (λ u us r. in_top _ us _ r (λ v vs r. in_ref _ v _ r (λ a r. in_some _ (get w.heap a) _ r (λ o q r.
      stays_on _ _ _ (stays_write w.heap a o (record o { slots = slice_set o.slots i u }) q refl (length-set o.slots i u)) (script_stays k _ r.1)))))
  script_stays (Make c ps k) w r = stays_on _ _ _ (stays_make w.heap r.0 (new_object c ps) r.1) (script_stays k _ r.2)

module _ (P : ProgramTables) where
  step_stays : (s t : State) → Step P s t → Stays s.heap t.heap
  step_stays s t = by_control s.control
    where
      by_control : (c : Control) → StepOf P c s t → Stays s.heap t.heap
      by_control (Running []) q = absurd q
      by_control (Running (f ∷ fs)) q =
          let r = some_of (script_at P f.method f.offset) (λ sc. StepBy P sc f fs s t) q in
          subst (Stays s.heap) (sym r.2.heap) (script_stays r.2.ending r.2.left r.0 (within s.heap f) r.2.runs)
      by_control (Returned v) q = absurd q
      by_control (Thrown v) q = absurd q

  pub run_stays : (n : ℕ) (s t : State) → Run P s n t → Stays s.heap t.heap
  run_stays zero s t r = subst (λ (z : State). Stays s.heap z.heap) (sym r) (stays_self s.heap)
  run_stays (suc n) s t r = stays_on s.heap r.0.heap t.heap (step_stays s r.0 r.1) (run_stays n r.0 t r.2)
