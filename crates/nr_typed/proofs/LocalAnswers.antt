-- What a local run left is a typed answer.
use Rattle.std.proofs.Common.{◌≡◌, ℕ, suc, List, [], refl, sym, ap, subst, subst₂, ◌∙◌, Bool, true, false}
use Rattle.std.specs.Prelude.{Option, Some, None, is_some, take, if◌then◌else◌}
use Rattle.nr_prog.specs.declared.body.whole.Body.{Body}
use Rattle.nr_linked.specs.declared.program.built_in.BuiltIn.TheVariants.{AbstractMethodError}
use Rattle.nr_linked.specs.declared.program.kind.Kind.{Kind}
use Rattle.nr_linked.specs.declared.program.tables.MethodInfo.{MethodInfo}
use Rattle.nr_linked.specs.declared.program.tables.ProgramTables.{ProgramTables}
use Rattle.nr_linked.specs.Programs.{method_at, result_of}
use Rattle.nr_linked.specs.Sites.{site_at}
use Rattle.nr_linked.specs.TypingFacts.{TypingFacts}
use Rattle.nr_linked.specs.WellTyped.{WellTyped}
use Rattle.nr_model.specs.declared.value.Value.{Value}
use Rattle.nr_model.specs.Heaps.{Heap, on_some}
use Rattle.nr_model.specs.Scripts.{Call, Wp}
use Rattle.nr_model.specs.Throws.{throw_new, with_found, onward}
use Rattle.nr_model.specs.CallRules.{built_in_rule, operands_of}
use Rattle.nr_model.specs.Rules.{rule, invoke_rule, script}
use Rattle.nr_model.specs.States.{Returned, State}
use Rattle.nr_model.specs.Steps.{within}
use Rattle.nr_model.specs.Locals.{start_of, Local}
use Rattle.nr_model.specs.Asks.{Asks, asked_args, waiting, Faulted, Entry, AnswerStep, AskStep, AskRun, arrived, own, asked}
use Rattle.nr_model.specs.LocalEntries.{IsFaulted, IsOwn, Fated, AllFated}
use Rattle.nr_model.specs.Types.{argument_tys}
use Rattle.nr_model.specs.Belonging.{Belong, IsResult}
use Rattle.nr_model.specs.Staying.{Stays}
use Rattle.nr_model.specs.TypedHeaps.{TypedHeap, KeepsNames}
use Rattle.nr_typed.specs.Standing.{ControlStands, StandsIn}
use Rattle.nr_model.specs.LocalEntries.{IsRestored}
use Rattle.nr_model.specs.TypedAnswers.{IsTypedAnswer, IsTypedEntry}
use Rattle.nr_model.proofs.Staying.{stays_on}
use Rattle.nr_typed.proofs.Typed.{some_of}
use Rattle.nr_typed.proofs.Steps.{some_both, frames}
use Rattle.nr_typed.proofs.Progress.{Owes, step_owes, first_state_stands, runs_stand, preservation}
use Rattle.nr_model.proofs.Staying.{run_stays}
use Rattle.nr_typed.proofs.Copying.{copies_stay, copies_typed, arguments_copied}
use Rattle.nr_typed.proofs.Restoring.{restored_typed, restored_keeps, restored_result}
use Rattle.nr_typed.proofs.Asking.{stands, called_result, asked_stands}

keeps : (h k : Heap) → Stays h k → KeepsNames h k
keeps h k s = record { at = λ a o e. let p = s.at a o e in (p.0, p.1, p.2) }

code_of : (o : Option Body) → is_some o ≡ true → (body : Body) × (o ≡ Some body)
code_of None e = absurd cc
code_of (Some body) e = (body, refl)

module _ (P : ProgramTables) (facts : TypingFacts P) (wt : WellTyped P) where
  -- ---- what a local run leaves
  module _ (h : Heap) (th : TypedHeap P h) (n : ℕ) (i : MethodInfo) (is_i : method_at P n ≡ Some i) (body : Body) (is_body : i.body ≡ Some body) (args : List Value) (belong : Belong P h (argument_tys i) args) where
    pub local_typed : (k : ℕ) (t : State) (v : Option Value) → Local P h n args k t → t.control ≡ Returned v → TypedHeap P t.heap × KeepsNames h t.heap × IsResult P t.heap i.result v
    local_typed k t v l e =
        let f = some_of (method_at P n) (λ i. l.call.first ≡ start_of i n l.heap l.args') l.call.begins in
        let begins : l.call.first ≡ start_of i n l.heap l.args' = f.2 ∙ ap (λ i. start_of i n l.heap l.args') (some_both f.1 is_i) in
        let first : StandsIn P (frames P facts wt) i.result (start_of i n l.heap l.args') =
        first_state_stands P facts wt i.result l.heap (copies_typed P h args l.heap l.args' l.copies th) n i body is_i refl is_body l.args' (arguments_copied P h args l.heap l.args' l.copies (argument_tys i) belong) [] in
        let last : StandsIn P (frames P facts wt) i.result t = runs_stand P facts wt i.result k l.call.first t (subst (StandsIn P (frames P facts wt) i.result) (sym begins) first) l.call.run in
        let stays : Stays l.heap t.heap = subst (λ (s : State). Stays s.heap t.heap) begins (run_stays P k l.call.first t l.call.run) in
        (last.heap, keeps h t.heap (stays_on h l.heap t.heap (copies_stay P h args l.heap l.args' l.copies) stays), subst (ControlStands P (frames P facts wt) i.result t.heap) e last.control)

  module _ (result : Option Kind) (service : Option ℕ) where
    -- ---- the arguments of a call that is asked for

    calls_it : (s : State) (a : Asks P service s) (st : StandsIn P (frames P facts wt) result s) → script P (stands P facts wt result service s a st).0.holds.method (stands P facts wt result service s a st).0.holds.site ≡ Call a.method
    calls_it s a st =
        let x = (stands P facts wt result service s a st).0.holds in
        let m : a.caller ≡ x.method = some_both a.calling x.is_method in
        let here : a.site ≡ x.site = some_both (subst (λ m. site_at m a.frame.offset ≡ Some a.site) m a.standing) x.is_site in
        subst₂ (λ m z. script P m z ≡ Call a.method) m here (is_call a)
      where
        is_call : (a : Asks P service s) → script P a.caller a.site ≡ Call a.method
        is_call a =
            ap (λ f. rule f P a.caller a.site.instr.row a.site.instr.args a.site.resolved (onward a.site.next)) a.family
            ∙ ap (λ code. invoke_rule P a.caller code a.site.resolved (onward a.site.next)) a.code
            ∙ ap (λ found. invoke_rule P a.caller 184 found (onward a.site.next)) a.found
            ∙ ap (λ o. with_found o (λ (i : MethodInfo). if is_some i.body then Call a.method
            else on_some (built_in_rule P i (onward a.site.next)) (throw_new P AbstractMethodError) (λ rule. rule))) a.called
            ∙ ap (λ b. if b then Call a.method else on_some (built_in_rule P a.info (onward a.site.next)) (throw_new P AbstractMethodError) (λ rule. rule)) a.has_code

    asked_belong : (s : State) (a : Asks P service s) → StandsIn P (frames P facts wt) result s → Belong P s.heap (argument_tys a.info) (asked_args a)
    asked_belong s a st =
        let all = stands P facts wt result service s a st in
        let w = subst (λ sc. Wp sc (within s.heap a.frame) (Owes P facts wt result s st.heap a.frame a.below all.0 all.1)) (calls_it s a st) (step_owes P facts wt result s st.heap a.frame a.below all.0 all.1) in
        let same : w.4.0 ≡ a.info = some_both w.4.1 a.called in
        subst (λ (i : MethodInfo). Belong P s.heap (argument_tys i) (take (operands_of i) a.frame.operands)) same w.4.3

    -- ---- answers

    -- what a local run of the call left
    left_typed : (s t : State) (e : Entry) → StandsIn P (frames P facts wt) result s → AskStep P service s e t → (k : ℕ) (u : State) (v : Option Value) → Local P e.before e.method e.args k u → u.control ≡ Returned v
        → TypedHeap P u.heap × KeepsNames e.before u.heap × IsResult P u.heap (result_of P e.method) v
    left_typed s t e st z k u v l returned =
        let a = z.asks in
        let code = code_of a.info.body a.has_code in
        let is_i : method_at P e.method ≡ Some a.info = ap (λ n. method_at P n) z.method ∙ a.called in
        let res : result_of P e.method ≡ a.info.result = ap (λ n. result_of P n) z.method ∙ called_result P facts wt result service s a in
        let belong : Belong P e.before (argument_tys a.info) e.args = subst₂ (λ h vs. Belong P h (argument_tys a.info) vs) (sym z.before) (sym z.args) (asked_belong s a st) in
        let r = local_typed e.before (subst (TypedHeap P) (sym z.before) st.heap) e.method a.info is_i code.0 code.1 e.args belong k u v l returned in
        (r.0, r.1, subst (λ o. IsResult P u.heap o v) (sym res) r.2)

    pub own_typed : (s t : State) (e : Entry) → StandsIn P (frames P facts wt) result s → AskStep P service s e t → IsOwn P e → IsTypedEntry P e
    own_typed s t e st z o = subst (λ r. IsTypedAnswer P e.before (result_of P e.method) r) (sym o.answer) (left_typed s t e st z o.steps o.state o.result o.local o.returned)

    pub restored_is_typed : (s t : State) (e : Entry) → StandsIn P (frames P facts wt) result s → AskStep P service s e t → IsRestored P e → IsTypedEntry P e
    restored_is_typed s t e st z o =
        let l = o.local in
        let r = left_typed s t e st z l.steps l.state l.result l.local l.returned in
        subst (λ r. IsTypedAnswer P e.before (result_of P e.method) r) (sym l.answer)
        (restored_typed P e.before l.state.heap l.after l.result l.value o.same r.0, restored_keeps P e.before l.state.heap l.after l.result l.value o.same r.1, restored_result P e.before l.state.heap l.after l.result l.value o.same (result_of P e.method) r.2)

    fault_typed : (s t : State) (e : Entry) → AskStep P service s e t → IsFaulted e → IsTypedEntry P e
    fault_typed s t e z f =
        let step : AnswerStep P (waiting z.asks) (Faulted f.0) s t = subst (λ r. AnswerStep P (waiting z.asks) r s t) f.1 z.answer in
        subst₂ (λ h r. IsTypedAnswer P h (result_of P e.method) r) (sym z.before) (sym f.1) step.0

    fated_typed : (s t : State) (e : Entry) (b : Bool) → StandsIn P (frames P facts wt) result s → AskStep P service s e t → Fated P b e → IsTypedEntry P e
    fated_typed s t e true st z f = fault_typed s t e z f
    fated_typed s t e false st z f = own_typed s t e st z f

    pub fated_stand : (faulted : ℕ → Bool) (n k : ℕ) (s t : State) (calls : List Entry) → StandsIn P (frames P facts wt) result s → AskRun P service s calls k t → AllFated P faulted n calls
        → StandsIn P (frames P facts wt) result t
    fated_stand faulted n k s t calls st arrived q = st
    fated_stand faulted n k s t calls st (own m z d r) q = fated_stand faulted n _ m t _ (preservation P facts wt result s m st d) r q
    fated_stand faulted n k s t calls st (asked {e = e} m a r) q =
        fated_stand faulted (suc n) _ m t _ (asked_stands P facts wt result service s m e st a (fated_typed s m e (faulted n) st a q.0)) r q.1
