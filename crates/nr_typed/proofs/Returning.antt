-- What the rule of a call leaves for the frame that waits at it.
use Rattle.std.proofs.Common.{◌≡◌, ℕ, suc, ◌≤◌, List, [], ◌∷◌, ◌++◌, length, refl, sym, ap, subst, subst₂, ◌∙◌, Bool, true, false, T}
use Rattle.std.specs.Prelude.{Option, Some, None, drop, if◌then◌else◌, ◌==◌}
use Rattle.nr_optable.specs.declared.table.Family.TheVariants.{F32}
use Rattle.nr_linked.specs.declared.program.tables.MethodInfo.{MethodInfo}
use Rattle.nr_linked.specs.declared.program.tables.ProgramTables.{ProgramTables}
use Rattle.nr_linked.specs.declared.program.tables.Resolved.TheVariants as resolved
use Rattle.nr_linked.specs.declared.program.types.VType.{VType}
use Rattle.nr_linked.specs.declared.program.types.VType.TheVariants as types
use Rattle.nr_linked.specs.declared.typing.fault.Wanted.TheVariants as wanted
use Rattle.nr_linked.specs.Kinds.{class_kind}
use Rattle.nr_prog.specs.Members.{is_static}
use Rattle.nr_linked.specs.Programs.{method_at}
use Rattle.nr_linked.specs.Sites.{Site}
use Rattle.nr_linked.specs.Subtypes.{is_above}
use Rattle.nr_linked.specs.TypingFrames.{TypeFrame, is_operand_assignable, total_size}
use Rattle.nr_linked.specs.Initialisers.{is_initialiser}
use Rattle.nr_linked.specs.TypingChecks.{Leaves, take_that, take_for, leaves, leaves_operands}
use Rattle.nr_linked.specs.TypingCalls.{with_result, with_callee, call_on, call_static, call_init, call_rule, is_init_receiver, initialised_class, initialised, after_init, invoke_rule}
use Rattle.nr_linked.specs.TypingRules.{family_rule, type_op}
use Rattle.nr_linked.specs.TypingFacts.{TypingFacts, CallFacts, SiteFacts}
use Rattle.nr_model.specs.Heaps.{Heap}
use Rattle.nr_model.specs.Scripts.{Within, Ending}
use Rattle.nr_model.specs.CallRules.{operands_of}
use Rattle.nr_model.specs.Types.{operand_tys, local_tys}
use Rattle.nr_model.specs.Belonging.{Belong, AllSharper}
use Rattle.nr_typed.proofs.Checks.{inv_that, inv_leaves}
use Rattle.nr_typed.proofs.Belongs.{initialised_operands, initialised_locals}
use Rattle.nr_typed.proofs.Receivers.{drop_past, joined, length_more}
use Rattle.nr_typed.proofs.Calls.{Arguments, arguments_of}
use Rattle.nr_typed.proofs.Initialisers.{initialises}

-- the outgoing frame G has the result of `target` on what is left of the operands of F
pub record Returns (P : ProgramTables) (own target : MethodInfo) (F G : TypeFrame) : Type 0 where
  pub rest : List VType
  pub operands : with_result target.result rest ≡ G.operands
  pub room : total_size G.operands ≤ own.max_stack
  pub locals_on : AllSharper P (local_tys own own.max_locals F.locals) (local_tys own own.max_locals G.locals)
  pub rest_on : AllSharper P (operand_tys own (drop (operands_of target) F.operands)) (operand_tys own rest)

module _ (P : ProgramTables) (facts : TypingFacts P) (own_number : ℕ) (own : MethodInfo) (is_own : method_at P own_number ≡ Some own) (own_above : T (is_above P own.«class» own.«class»)) (F G : TypeFrame) (h0 : Heap) (Q : Ending → Within → Type 0) where
  same_operands : (ts us : List VType) → ts ≡ us → AllSharper P (operand_tys own ts) (operand_tys own us)
  same_operands ts us e h vs q = subst (λ ts. Belong P h (operand_tys own ts) vs) e q

  module _ (callee : MethodInfo) (a : Arguments P callee F.operands) where
    past_receiver : is_static callee.flags ≡ false → (t : VType) (us : List VType) → a.rest ≡ t ∷ us → drop (operands_of callee) F.operands ≡ us
    past_receiver instance t us rest =
        let n : operands_of callee ≡ length (a.args ++ (t ∷ [])) = (rw instance refl) ∙ (ap suc (sym a.count) ∙ sym (length_more a.args t)) in
        let f : F.operands ≡ (a.args ++ (t ∷ [])) ++ us = a.split ∙ (ap (λ r. a.args ++ r) rest ∙ joined a.args us t) in
        subst₂ (λ n ts. drop n ts ≡ us) (sym n) (sym f) (drop_past (a.args ++ (t ∷ [])) us)

    past_arguments : is_static callee.flags ≡ true → drop (operands_of callee) F.operands ≡ a.rest
    past_arguments static =
        let n : operands_of callee ≡ length a.args = (rw static refl) ∙ sym a.count in
        subst₂ (λ n ts. drop n ts ≡ a.rest) (sym n) (sym a.split) (drop_past a.args a.rest)

    -- the same local variables, and the result on these operands
    plain_return : (us : List VType) → drop (operands_of callee) F.operands ≡ us → leaves_operands own F (with_result callee.result us) ≡ Leaves G → Returns P own callee F G
    plain_return us d e =
        let l = inv_leaves G own (record F { operands = with_result callee.result us }) e in
        record {
          rest = us;
          operands = ap (λ (f : TypeFrame). f.operands) l.0;
          room = l.1;
          locals_on = λ h vs q. subst (λ (f : TypeFrame). Belong P h (local_tys own own.max_locals f.locals) vs) l.0 q;
          rest_on = same_operands (drop (operands_of callee) F.operands) us d;
        }

  call_on_returns : (callee : MethodInfo) (c : ℕ) → is_static callee.flags ≡ false → call_on P own callee c F ≡ Leaves G → Returns P own callee F G
  call_on_returns callee c instance e =
      let a = arguments_of P facts own F G h0 Q callee (λ d' ts. take_for P (types.Class (class_kind c)) d' ts (λ us. leaves_operands own F (with_result callee.result us))) e in
      let r = inv_that G (λ t. is_operand_assignable P t (types.Class (class_kind c))) (wanted.Type (types.Class (class_kind c))) a.1 a.0.rest (λ t us. leaves_operands own F (with_result callee.result us)) a.2 in
      plain_return callee a.0 r.1 (past_receiver callee a.0 instance r.0 r.1 r.2) r.4

  call_static_returns : (callee : MethodInfo) → is_static callee.flags ≡ true → call_static P own callee F ≡ Leaves G → Returns P own callee F G
  call_static_returns callee static e =
      let a = arguments_of P facts own F G h0 Q callee (λ d ts. leaves_operands own F (with_result callee.result ts)) e in
      plain_return callee a.0 a.0.rest (past_arguments callee a.0 static) a.2

  call_init_returns : (callee : MethodInfo) (c : ℕ) → is_static callee.flags ≡ false → callee.result ≡ None → call_init P own callee c F ≡ Leaves G → Returns P own callee F G
  call_init_returns callee c instance none e =
      let a = arguments_of P facts own F G h0 Q callee (λ d ts. take_that (is_init_receiver P own c) (wanted.Type (types.Class (class_kind c))) d ts (λ t us. leaves own (after_init own c t us F))) e in
      let r = inv_that G (is_init_receiver P own c) (wanted.Type (types.Class (class_kind c))) a.1 a.0.rest (λ t us. leaves own (after_init own c t us F)) a.2 in
      let l = inv_leaves G own (after_init own c r.0 r.1 F) r.4 in
      let past = past_receiver callee a.0 instance r.0 r.1 r.2 in
      record {
        rest = initialised r.0 (initialised_class own c r.0) r.1;
        operands = ap (λ o. with_result o (initialised r.0 (initialised_class own c r.0) r.1)) none ∙ ap (λ (f : TypeFrame). f.operands) l.0;
        room = l.1;
        locals_on = λ h vs q. subst (λ (f : TypeFrame). Belong P h (local_tys own own.max_locals f.locals) vs) l.0
            (initialised_locals P facts own h r.0 (initialised_class own c r.0) (initialises P facts own_number own is_own own_above F G h0 Q c r.0 r.3 h) own.max_locals F.locals vs q);
        rest_on = λ h vs q. initialised_operands P facts own h r.0 (initialised_class own c r.0) (initialises P facts own_number own is_own own_above F G h0 Q c r.0 r.3 h) r.1 vs (subst (λ ts. Belong P h (operand_tys own ts) vs) past q);
      }

  by_code : (s : Site) (c : ℕ) (callee : MethodInfo) → CallFacts P own.«class» s.instr.row.code c callee → (x y : Bool) → (s.instr.row.code == 184) ≡ x → (s.instr.row.code == 183) ≡ y → (z : Bool) → is_initialiser callee ≡ z
      → (if x then call_static P own callee F else (if y then (if z then call_init P own callee c F else call_on P own callee own.«class» F) else call_on P own callee c F)) ≡ Leaves G → Returns P own callee F G
  by_code s c callee f true y ex ey z ez e = call_static_returns callee (f.static ∙ ex) e
  by_code s c callee f false true ex ey true ez e = call_init_returns callee c (f.static ∙ ex) (f.initialiser ez).2 e
  by_code s c callee f false true ex ey false ez e = call_on_returns callee own.«class» (f.static ∙ ex) e
  by_code s c callee f false false ex ey z ez e = call_on_returns callee c (f.static ∙ ex) e

  some_method : {x y : MethodInfo} {o : Option MethodInfo} → o ≡ Some x → o ≡ Some y → x ≡ y
  some_method e f = cc

  pub call_returns : (s : Site) → SiteFacts P own.«class» s → s.instr.row.family ≡ F32 → (named owner : ℕ) (target : MethodInfo) → s.resolved ≡ resolved.Method named owner → method_at P named ≡ Some target
      → type_op P own s F ≡ Leaves G → Returns P own target F G
  call_returns s f fam named owner target rs is_target e =
      let e : invoke_rule P own s.instr.row.code s.resolved F ≡ Leaves G = subst (λ fam. family_rule fam P own s F ≡ Leaves G) fam e in
      let e : with_callee (method_at P named) (λ callee. call_rule P own s.instr.row.code callee owner F) ≡ Leaves G = subst (λ r. invoke_rule P own s.instr.row.code r F ≡ Leaves G) rs e in
      let e : call_rule P own s.instr.row.code target owner F ≡ Leaves G = subst (λ o. with_callee o (λ callee. call_rule P own s.instr.row.code callee owner F) ≡ Leaves G) is_target e in
      by_code s owner target (f.call fam named owner target rs is_target) (s.instr.row.code == 184) (s.instr.row.code == 183) refl refl (is_initialiser target) refl e
