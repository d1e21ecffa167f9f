-- invokespecial of an initialiser, and invokestatic: their scripts fit.
use Rattle.std.proofs.Common.{◌≡◌, ℕ, ◌⊎◌, List, [], ◌∷◌, ◌++◌, length, refl, sym, ap, subst, subst₂, ◌∙◌, inl, inr, Bool, true, false, not, arith, T}
use Rattle.std.specs.Prelude.{Option, Some, None, if◌then◌else◌, ◌==◌, ◌||◌}
use Rattle.std.specs.Option.{option_map_or, option_and_then}
use Rattle.std.proofs.Math.Facts.{eqb_yes}
use Rattle.nr_optable.specs.declared.table.Family.{Family}
use Rattle.nr_optable.specs.declared.table.Family.TheVariants.{F32, F33}
use Rattle.nr_linked.specs.declared.program.kind.Kind.{Kind}
use Rattle.nr_linked.specs.declared.program.tables.MethodInfo.{MethodInfo}
use Rattle.nr_linked.specs.declared.program.tables.ProgramTables.{ProgramTables}
use Rattle.nr_linked.specs.declared.program.tables.Resolved.{Resolved}
use Rattle.nr_linked.specs.declared.program.tables.Resolved.TheVariants as resolved
use Rattle.nr_linked.specs.declared.program.types.VType.{VType}
use Rattle.nr_linked.specs.declared.program.types.VType.TheVariants as types
use Rattle.nr_linked.specs.Kinds.{class_kind, class_in, is_array}
use Rattle.nr_prog.specs.Members.{is_static}
use Rattle.nr_linked.specs.Programs.{method_at, super_of}
use Rattle.nr_linked.specs.Selection.{is_private, is_called}
use Rattle.nr_linked.specs.Sites.{Site, site_at}
use Rattle.nr_linked.specs.Subtypes.{is_assignable, is_above}
use Rattle.nr_linked.specs.TypingFrames.{TypeFrame}
use Rattle.nr_linked.specs.Initialisers.{is_initialiser}
use Rattle.nr_linked.specs.TypingChecks.{Leaves, leaves}
use Rattle.nr_linked.specs.TypingCalls.{class_made, class_made_at, is_init_receiver, initialised_class, after_init}
use Rattle.nr_linked.specs.TypingFacts.{TypingFacts, CallFacts, SiteFacts}
use Rattle.nr_model.specs.Heaps.{Heap, on_some}
use Rattle.nr_model.specs.Scripts.{Script, Drop, Within, Ending}
use Rattle.nr_model.specs.Throws.{with_found}
use Rattle.nr_model.specs.CallRules.{built_in_rule, call, call_selected, on_receiver, invoke_special}
use Rattle.nr_model.specs.Types.{Ty, JustNull, Just, Exact, operand_tys, local_tys}
use Rattle.nr_typed.specs.Fits.{OnNullness, Fits}
use Rattle.nr_typed.proofs.Assigning.{yes, holds, never, or_cases, class_up}
use Rattle.nr_typed.proofs.Belongs.{this_initialised, new_initialised, initialised_operands, initialised_locals, Initialises}
use Rattle.nr_typed.proofs.Owed.{Goes, Owed, go_on, if_fits}
use Rattle.nr_typed.proofs.Receivers.{Receives, receiver}
use Rattle.nr_typed.proofs.Calls.{Arguments, and_then_of, by_body, rule_cases, call_object, same_self}

module _ (P : ProgramTables) (facts : TypingFacts P) (own_number : ℕ) (own : MethodInfo) (is_own : method_at P own_number ≡ Some own) (own_above : T (is_above P own.«class» own.«class»)) where
  -- the class of a `new` stands above itself
  made_above : (n c : ℕ) → class_made_at own n ≡ Some c → T (is_above P c c)
  made_above n c e =
      let r = and_then_of (λ s. class_made s.instr.row.family s.resolved) (site_at own n) c e in
      by_family r.0.instr.row.family refl r.0.resolved refl r.2 (facts.sites own_number own n r.0 is_own r.1)
    where
      of_new : (k : Kind) (d : ℕ) → k ≡ class_kind d → (if is_array k then None else class_in k.base) ≡ Some c → d ≡ c
      of_new k d e x = some_same (subst (λ k. (if is_array k then None else class_in k.base) ≡ Some c) e x)
        where
          some_same : {x y : ℕ} → Some x ≡ Some y → x ≡ y
          some_same e = cc

      none_some : {x : ℕ} → ◌≡◌ {A = Option ℕ} None (Some x) → ⊥
      none_some e = cc

      of_kind' : (k : Kind) {s : Site} → s.instr.row.family ≡ F33 → s.resolved ≡ resolved.Kind k → class_made F33 (resolved.Kind k) ≡ Some c → SiteFacts P own.«class» s → T (is_above P c c)
      of_kind' k f z x facts_of =
          let m = facts_of.made f k z in
          let d : m.0 ≡ c = of_new k m.0 m.1 x in
          subst (λ c. T (is_above P c c)) d (yes (is_above P m.0 m.0) (facts.makeable m.0 m.2))

      by_family : (fam : Family) {s : Site} → s.instr.row.family ≡ fam → (r : Resolved) → s.resolved ≡ r → class_made s.instr.row.family s.resolved ≡ Some c → SiteFacts P own.«class» s → T (is_above P c c)
      by_family F33 f (resolved.Kind k) z x facts_of = of_kind' k f z (subst₂ (λ f r. class_made f r ≡ Some c) f z x) facts_of
      by_family F33 f resolved.Nothing z x facts_of = absurd (none_some (subst₂ (λ f r. class_made f r ≡ Some c) f z x))
      by_family F33 f (resolved.Int n) z x facts_of = absurd (none_some (subst₂ (λ f r. class_made f r ≡ Some c) f z x))
      by_family F33 f (resolved.Long n) z x facts_of = absurd (none_some (subst₂ (λ f r. class_made f r ≡ Some c) f z x))
      by_family F33 f (resolved.Slot d i) z x facts_of = absurd (none_some (subst₂ (λ f r. class_made f r ≡ Some c) f z x))
      by_family F33 f (resolved.Method d i) z x facts_of = absurd (none_some (subst₂ (λ f r. class_made f r ≡ Some c) f z x))
      by_family fam f r z x facts_of = absurd (none_some (subst₂ (λ f r. class_made f r ≡ Some c) f z x))

  module _ (F G : TypeFrame) (h0 : Heap) (Q : Ending → Within → Type 0) where
    abbrev LT : List Ty
    LT = local_tys own own.max_locals F.locals

    -- the object that the initialiser of class c is called on
    init_receives : (c : ℕ) (t : VType) → T (is_init_receiver P own c t) → Receives P facts own F G h0 Q t c
    init_receives c types.UninitThis p X Y x y = (y (class_kind own.«class») (class_up P facts own.«class» c (up (or_cases (c == own.«class») (option_map_or (λ s. s == c) (super_of P own.«class») false) p)))).0
      where
        of_super : (o : Option ℕ) → super_of P own.«class» ≡ o → T (option_map_or (λ s. s == c) o false) → T (is_above P own.«class» c)
        of_super None e p = absurd p
        of_super (Some d) e p = subst (λ c. T (is_above P own.«class» c)) (eqb_yes p) (yes (is_above P own.«class» d) (facts.super_above own.«class» d e))

        up : T (c == own.«class») ⊎ T (option_map_or (λ s. s == c) (super_of P own.«class») false) → T (is_above P own.«class» c)
        up (inl q) = subst (λ c. T (is_above P own.«class» c)) (sym (eqb_yes q)) own_above
        up (inr q) = of_super (super_of P own.«class») refl q
    init_receives c (types.Uninit n) p X Y x y = made (class_made_at own n) refl p
      where
        made : (o : Option ℕ) → class_made_at own n ≡ o → T (option_map_or (λ made. made == c) o false) → OnNullness (on_some o JustNull (λ c. Just (class_kind c))) X Y
        made None e p = absurd p
        made (Some d) e p =
            let f : d ≡ c = eqb_yes p in
            (y (class_kind d) (subst (λ c. T (is_assignable P (class_kind d) (class_kind c))) f (class_up P facts d d (made_above n d e)))).1
    init_receives c types.Top p X Y x y = absurd p
    init_receives c types.Int p X Y x y = absurd p
    init_receives c types.Long p X Y x y = absurd p
    init_receives c types.Null p X Y x y = absurd p
    init_receives c (types.Class k) p X Y x y = absurd p

    -- what the initialiser leaves initialised
    pub initialises : (c : ℕ) (t : VType) → T (is_init_receiver P own c t) → (h : Heap) → Initialises P facts own h t (initialised_class own c t)
    initialises c types.UninitThis p h = this_initialised P facts own h own.«class» own_above
    initialises c (types.Uninit n) p h = made (class_made_at own n) refl p
      where
        made : (o : Option ℕ) → class_made_at own n ≡ o → T (option_map_or (λ made. made == c) o false) → Initialises P facts own h (types.Uninit n) c
        made None e p = absurd p
        made (Some d) e p =
            let f : d ≡ c = eqb_yes p in
            let e : class_made_at own n ≡ Some c = e ∙ ap (λ d. Some d) f in
            new_initialised P facts own h n c e (made_above n c e)
    initialises c types.Top p h = absurd p
    initialises c types.Int p h = absurd p
    initialises c types.Long p h = absurd p
    initialises c types.Null p h = absurd p
    initialises c (types.Class k) p h = absurd p

    module _ (s : Site) (owed : Owed P own F G h0 Q s) (fam : s.instr.row.family ≡ F32) (named owner : ℕ) (rs : s.resolved ≡ resolved.Method named owner) (callee : MethodInfo) (is_callee : method_at P named ≡ Some callee)
        (a : Arguments P callee F.operands) where
      pub init_fits : (k : Script) → Goes P own F G h0 Q k → CallFacts P own.«class» s.instr.row.code owner callee → is_static callee.flags ≡ false → T (is_initialiser callee) → (t : VType) (us : List VType) → a.rest ≡ t ∷ us
          → T (is_init_receiver P own owner t) → leaves own (after_init own owner t us F) ≡ Leaves G → Fits P h0 Q (invoke_special P own.«class» named k) LT (operand_tys own (a.args ++ (t ∷ us)))
      init_fits k g facts_of instance init t us rest p e = subst (λ o. Fits P h0 Q (with_found o (λ i. on_receiver P i (λ kind. if is_initialiser i || is_private i.flags || i.«class» == own.«class» then call P named k else call_selected P (option_and_then (Rattle.nr_linked.specs.Selection.selected P named) (super_of P own.«class»))))) LT (operand_tys own (a.args ++ (t ∷ us)))) (sym is_callee)
          (receiver P facts own F G h0 Q s owed callee (λ kind. if is_initialiser callee || is_private callee.flags || callee.«class» == own.«class» then call P named k else call_selected P (option_and_then (Rattle.nr_linked.specs.Selection.selected P named) (super_of P own.«class»))) a.args us t owner a.count (init_receives owner t p) (λ x n q.
          if_fits P facts own F G h0 Q (is_initialiser callee || is_private callee.flags || callee.«class» == own.«class») (call P named k) (call_selected P (option_and_then (Rattle.nr_linked.specs.Selection.selected P named) (super_of P own.«class»))) LT (operand_tys own a.args ++ (Exact x n ∷ operand_tys own us))
          (λ z. by_body P facts own F G h0 Q s owed fam named owner rs callee is_callee a k (operand_tys own a.args ++ (Exact x n ∷ operand_tys own us))
          (λ body is_body. call_object P facts own F G h0 Q s owed fam named owner rs callee is_callee a instance t us rest named callee body is_callee is_body (same_self P facts own F G h0 Q s owed fam named owner rs callee is_callee a instance t us rest) x n
          (subst (λ c. T (is_assignable P x (class_kind c))) (sym is_owner) q))
          (λ r none y. built_in x n r none y))
          (λ z. absurd (not_all (is_initialiser callee) (is_private callee.flags) (callee.«class» == own.«class») init z))))
        where
          is_owner : callee.«class» ≡ owner
          is_owner = (facts_of.initialiser (holds (is_initialiser callee) init)).1

          not_all : (x y z : Bool) → T x → T (not (x || y || z)) → ⊥
          not_all true y z p q = q
          not_all false y z p q = p

          no_args : (args : List VType) → length args ≡ 0 → args ≡ []
          no_args [] e = refl
          no_args (t ∷ ts) e = absurd (omega arith)

          done : (args : List VType) → args ≡ [] → (x : Kind) (n : ℕ) → Fits P h0 Q (Drop 0 k) LT (operand_tys own args ++ (Exact x n ∷ operand_tys own us))
          done args z x n = subst (λ args. Fits P h0 Q (Drop 0 k) LT (operand_tys own args ++ (Exact x n ∷ operand_tys own us))) (sym z) (
            omega arith,
            go_on P facts own F G h0 Q k g (after_init own owner t us F) e LT (operand_tys own us)
                (λ h vs q. initialised_locals P facts own h t (initialised_class own owner t) (initialises owner t p h) own.max_locals F.locals vs q)
                (λ h vs q. initialised_operands P facts own h t (initialised_class own owner t) (initialises owner t p h) us vs q),
          )

          built_in : (x : Kind) (n : ℕ) (r : Script) → callee.body ≡ None → built_in_rule P callee k ≡ Some r → Fits P h0 Q r LT (operand_tys own a.args ++ (Exact x n ∷ operand_tys own us))
          built_in x n r none y = elim (rule_cases P facts own F G h0 Q s owed fam named owner rs callee is_callee a k r y) [
            | inl z ↦ absurd (never (is_static callee.flags) instance (yes (is_static callee.flags) ((facts.built_ins named callee is_callee none).out z.0).0))
            | inr z ↦ subst (λ r. Fits P h0 Q r LT (operand_tys own a.args ++ (Exact x n ∷ operand_tys own us))) z.1
                (done a.args (no_args a.args (a.count ∙ ap (λ ps. length ps) ((facts.built_ins named callee is_callee none).initialiser (holds (is_initialiser callee) init)))) x n)
          ]
