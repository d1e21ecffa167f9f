-- The four calls: their scripts fit.
use Rattle.std.proofs.Common.{◌≡◌, ℕ, List, ◌∷◌, ◌++◌, refl, sym, ap, subst, ◌∙◌, Bool, true, false, T}
use Rattle.std.specs.Prelude.{Option, Some, None, if◌then◌else◌, ◌==◌}
use Rattle.nr_optable.specs.declared.table.Family.TheVariants.{F32}
use Rattle.nr_linked.specs.declared.program.tables.MethodInfo.{MethodInfo}
use Rattle.nr_linked.specs.declared.program.tables.ProgramTables.{ProgramTables}
use Rattle.nr_linked.specs.declared.program.tables.Resolved.{Resolved}
use Rattle.nr_linked.specs.declared.program.tables.Resolved.TheVariants as resolved
use Rattle.nr_linked.specs.declared.program.types.VType.{VType}
use Rattle.nr_linked.specs.declared.program.types.VType.TheVariants as types
use Rattle.nr_linked.specs.declared.typing.fault.Wanted.TheVariants as wanted
use Rattle.nr_linked.specs.Kinds.{class_kind}
use Rattle.nr_prog.specs.Members.{is_static}
use Rattle.nr_linked.specs.Programs.{method_at}
use Rattle.nr_linked.specs.Sites.{Site}
use Rattle.nr_linked.specs.Subtypes.{is_above}
use Rattle.nr_linked.specs.TypingFrames.{TypeFrame, is_operand_assignable}
use Rattle.nr_linked.specs.Initialisers.{is_initialiser}
use Rattle.nr_linked.specs.TypingChecks.{Checked, Leaves, take_that, take_for, leaves, leaves_operands}
use Rattle.nr_linked.specs.TypingCalls.{with_result, with_callee, call_on, call_static, call_init, call_rule, is_init_receiver, after_init, invoke_rule}
use Rattle.nr_linked.specs.TypingFacts.{TypingFacts, CallFacts, SiteFacts}
use Rattle.nr_model.specs.Heaps.{Heap}
use Rattle.nr_model.specs.Scripts.{Script, Within, Ending}
use Rattle.nr_model.specs.CallRules.{call, invoke_virtual, invoke_interface, invoke_special}
use Rattle.nr_model.specs.Rules as rules
use Rattle.nr_model.specs.Types.{Ty, operand_tys, local_tys}
use Rattle.nr_typed.specs.Fits.{Fits}
use Rattle.nr_typed.proofs.Checks.{no_rule, inv_that}
use Rattle.nr_typed.proofs.Owed.{Goes, Owed, over}
use Rattle.nr_typed.proofs.Receivers.{Receives, wanted_receives}
use Rattle.nr_typed.proofs.Calls.{Arguments, arguments_of, virtual_fits, interface_fits, special_fits}
use Rattle.nr_typed.proofs.Initialisers.{init_fits}
use Rattle.nr_typed.proofs.Statics.{static_fits}

module _ (P : ProgramTables) (facts : TypingFacts P) (own_number : ℕ) (own : MethodInfo) (is_own : method_at P own_number ≡ Some own) (own_above : T (is_above P own.«class» own.«class»))
    (F G : TypeFrame) (h0 : Heap) (Q : Ending → Within → Type 0) (s : Site) (owed : Owed P own F G h0 Q s) (fam : s.instr.row.family ≡ F32) (site_facts : SiteFacts P own.«class» s) where
  abbrev LT : List Ty
  LT = local_tys own own.max_locals F.locals

  abbrev Fit : Script → Type 0
  Fit sc = Fits P h0 Q sc LT (operand_tys own F.operands)

  found_callee : (o : Option MethodInfo) (k : MethodInfo → Checked) → with_callee o k ≡ Leaves G → (i : MethodInfo) × (o ≡ Some i) × (k i ≡ Leaves G)
  found_callee None k e = no_rule G e
  found_callee (Some i) k e = (i, refl, e)

  module _ (n c : ℕ) (rs : s.resolved ≡ resolved.Method n c) (callee : MethodInfo) (is_callee : method_at P n ≡ Some callee) where
    call_facts : CallFacts P own.«class» s.instr.row.code c callee
    call_facts = site_facts.call fam n c callee rs is_callee

    instance : (code : ℕ) → s.instr.row.code ≡ code → (code == 184) ≡ false → is_static callee.flags ≡ false
    instance code e f = call_facts.static ∙ (ap (λ code. code == 184) e ∙ f)

    -- a call on a receiver of class d
    on_object : (sc : Script) (d : ℕ) → ((a : Arguments P callee F.operands) (t : VType) (us : List VType) → a.rest ≡ t ∷ us → Receives P facts own F G h0 Q t d → Fits P h0 Q sc LT (operand_tys own (a.args ++ (t ∷ us))))
        → call_on P own callee d F ≡ Leaves G → Fit sc
    on_object sc d f e =
        let a = arguments_of P facts own F G h0 Q callee (λ d' ts. take_for P (types.Class (class_kind d)) d' ts (λ us. leaves_operands own F (with_result callee.result us))) e in
        let r = inv_that G (λ t. is_operand_assignable P t (types.Class (class_kind d))) (wanted.Type (types.Class (class_kind d))) a.1 a.0.rest (λ t us. leaves_operands own F (with_result callee.result us)) a.2 in
        over P facts own F G h0 Q sc F.operands (a.0.args ++ (r.0 ∷ r.1)) (a.0.split ∙ ap (λ us. a.0.args ++ us) r.2)
        (f a.0 r.0 r.1 r.2 (wanted_receives P facts own F G h0 Q r.0 d r.3))

    virtual : s.instr.row.code ≡ 182 → call_on P own callee c F ≡ Leaves G → Fit (invoke_virtual P n)
    virtual code e = on_object (invoke_virtual P n) c (λ a t us rest r. virtual_fits P facts own F G h0 Q s owed fam n c rs callee is_callee a (instance 182 code refl) t us rest call_facts r) e

    interface : s.instr.row.code ≡ 185 → call_on P own callee c F ≡ Leaves G → Fit (invoke_interface P n c)
    interface code e = on_object (invoke_interface P n c) c (λ a t us rest r. interface_fits P facts own F G h0 Q s owed fam n c rs callee is_callee a (instance 185 code refl) t us rest call_facts r) e

    static : s.instr.row.code ≡ 184 → (k : Script) → Goes P own F G h0 Q k → call_static P own callee F ≡ Leaves G → Fit (call P n k)
    static code k g e =
        let a = arguments_of P facts own F G h0 Q callee (λ d ts. leaves_operands own F (with_result callee.result ts)) e in
        static_fits P facts own F G h0 Q s owed fam n c rs callee is_callee a.0 k g call_facts code (call_facts.static ∙ ap (λ code. code == 184) code) a.2

    initialiser : s.instr.row.code ≡ 183 → (k : Script) → Goes P own F G h0 Q k → T (is_initialiser callee) → call_init P own callee c F ≡ Leaves G → Fit (invoke_special P own.«class» n k)
    initialiser code k g init e =
        let a = arguments_of P facts own F G h0 Q callee (λ d ts. take_that (is_init_receiver P own c) (wanted.Type (types.Class (class_kind c))) d ts (λ t us. leaves own (after_init own c t us F))) e in
        let r = inv_that G (is_init_receiver P own c) (wanted.Type (types.Class (class_kind c))) a.1 a.0.rest (λ t us. leaves own (after_init own c t us F)) a.2 in
        over P facts own F G h0 Q (invoke_special P own.«class» n k) F.operands (a.0.args ++ (r.0 ∷ r.1)) (a.0.split ∙ ap (λ us. a.0.args ++ us) r.2)
        (init_fits P facts own_number own is_own own_above F G h0 Q s owed fam n c rs callee is_callee a.0 k g call_facts (instance 183 code refl) init r.0 r.1 r.2 r.3 r.4)

    special : s.instr.row.code ≡ 183 → (k : Script) → Goes P own F G h0 Q k → (z : Bool) → is_initialiser callee ≡ z → (if z then call_init P own callee c F else call_on P own callee own.«class» F) ≡ Leaves G
        → Fit (invoke_special P own.«class» n k)
    special code k g true init e = initialiser code k g (subst T (sym init) tt) e
    special code k g false init e = on_object (invoke_special P own.«class» n k) own.«class» (λ a t us rest r.
        special_fits P facts own F G h0 Q s owed fam n c rs callee is_callee a (instance 183 code refl) t us rest k call_facts code init r) e

  abbrev Invokes : ℕ → (k : Script) → Resolved → Type 0
  Invokes code k found = s.instr.row.code ≡ code → s.resolved ≡ found → Goes P own F G h0 Q k → invoke_rule P own code found F ≡ Leaves G → Fit (rules.invoke_rule P own code found k)

  pub invokes_virtual : (k : Script) (found : Resolved) → Invokes 182 k found
  invokes_virtual k (resolved.Method n c) code rs g e = let r = found_callee (method_at P n) (λ callee. call_rule P own 182 callee c F) e in virtual n c rs r.0 r.1 code r.2
  invokes_virtual k _ code rs g e = no_rule G e

  pub invokes_special : (k : Script) (found : Resolved) → Invokes 183 k found
  invokes_special k (resolved.Method n c) code rs g e = let r = found_callee (method_at P n) (λ callee. call_rule P own 183 callee c F) e in special n c rs r.0 r.1 code k g (is_initialiser r.0) refl r.2
  invokes_special k _ code rs g e = no_rule G e

  pub invokes_static : (k : Script) (found : Resolved) → Invokes 184 k found
  invokes_static k (resolved.Method n c) code rs g e = let r = found_callee (method_at P n) (λ callee. call_rule P own 184 callee c F) e in static n c rs r.0 r.1 code k g r.2
  invokes_static k _ code rs g e = no_rule G e

  pub invokes_interface : (k : Script) (found : Resolved) → Invokes 185 k found
  invokes_interface k (resolved.Method n c) code rs g e = let r = found_callee (method_at P n) (λ callee. call_rule P own 185 callee c F) e in interface n c rs r.0 r.1 code r.2
  invokes_interface k _ code rs g e = no_rule G e
