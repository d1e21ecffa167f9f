-- A state that asks waits at a call, so each typed answer leads to a state that stands.
use Rattle.std.proofs.Common.{◌≡◌, ℕ, zero, suc, List, [], ◌∷◌, ◌++◌, refl, sym, ap, subst, subst₂, ◌∙◌, T}
use Rattle.std.specs.Prelude.{Option, Some, drop}
use Rattle.std.specs.Option.{option_and_then}
use Rattle.std.specs.FinMap.{insert}
use Rattle.nr_optable.specs.declared.table.Family.TheVariants.{F32}
use Rattle.nr_linked.specs.declared.program.built_in.BuiltIn.TheVariants as built_ins
use Rattle.nr_linked.specs.declared.program.kind.Kind.{Kind}
use Rattle.nr_linked.specs.declared.program.tables.MethodInfo.{MethodInfo}
use Rattle.nr_linked.specs.declared.program.tables.ProgramTables.{ProgramTables}
use Rattle.nr_linked.specs.declared.program.tables.Resolved.TheVariants as resolved
use Rattle.nr_linked.specs.declared.program.types.VType.{VType}
use Rattle.nr_linked.specs.Kinds.{class_kind}
use Rattle.nr_linked.specs.BuiltIns.{built_in}
use Rattle.nr_linked.specs.Programs.{result_of}
use Rattle.nr_linked.specs.Sites.{Site, site_at}
use Rattle.nr_linked.specs.Subtypes.{is_above, is_assignable}
use Rattle.nr_linked.specs.TypingFacts.{TypingFacts}
use Rattle.nr_linked.specs.WellTyped.{WellTyped}
use Rattle.nr_model.specs.declared.value.Value.{Value}
use Rattle.nr_model.specs.declared.value.Value.TheVariants.{Ref}
use Rattle.nr_model.specs.Heaps.{Heap, Obj}
use Rattle.nr_model.specs.Scripts.{new_object}
use Rattle.nr_model.specs.Throws.{zeros}
use Rattle.nr_model.specs.CallRules.{operands_of}
use Rattle.nr_model.specs.States.{Frame, Returned, State}
use Rattle.nr_model.specs.Steps.{unwound}
use Rattle.nr_model.specs.Asks.{Asks, waiting, Answer, Answered, Faulted, Entry, AnswerStep, AskStep, AskRun, arrived, own, asked, fault_class}
use Rattle.nr_model.proofs.Heaps.{get_same}
use Rattle.nr_model.specs.Types.{operand_tys}
use Rattle.nr_model.specs.Belonging.{Belong, no_place, one_place, IsResult}
use Rattle.nr_model.specs.Staying.{Stays}
use Rattle.nr_model.specs.TypedHeaps.{TypedHeap}
use Rattle.nr_typed.specs.Standing.{Waits, AllWait, AllStand, ControlStands, StandsIn}
use Rattle.nr_model.specs.TypedAnswers.{IsTypedAnswer, IsTypedEntry, EachTyped, entry_of}
use Rattle.nr_typed.proofs.Assigning.{yes, class_up}
use Rattle.nr_model.proofs.Staying.{stays_make}
use Rattle.nr_typed.proofs.Typed.{typed_make}
use Rattle.nr_typed.proofs.Owed.{length_zeros, zeros_ok}
use Rattle.nr_typed.proofs.Steps.{some_both, frames, all_wait_on, waiting_unwinds, unwound_ok}
use Rattle.nr_typed.proofs.Elsewhere.{all_wait}
use Rattle.nr_typed.proofs.Progress.{given_ok, preservation}

-- the operands below the topmost n
below_belong : (P : ProgramTables) (h : Heap) (m : MethodInfo) (n : ℕ) (ts : List VType) (vs : List Value) → Belong P h (operand_tys m ts) vs → Belong P h (operand_tys m (drop n ts)) (drop n vs)
below_belong P h m zero ts vs q = q
below_belong P h m (suc n) [] [] q = no_place
below_belong P h m (suc n) [] (v ∷ vs) q = elim q [ ]
below_belong P h m (suc n) (t ∷ ts) [] q = elim q [ ]
below_belong P h m (suc n) (t ∷ ts) (v ∷ vs) (one_place a q) = below_belong P h m n ts vs q

module _ (P : ProgramTables) (facts : TypingFacts P) (wt : WellTyped P) (result : Option Kind) (service : Option ℕ) where
  abbrev pub stands : (s : State) (a : Asks P service s) → StandsIn P (frames P facts wt) result s → AllStand P (frames P facts wt) result s.heap (a.frame ∷ a.below)
  stands s a st = subst (ControlStands P (frames P facts wt) result s.heap) a.running st.control

  waits : (s : State) (a : Asks P service s) → StandsIn P (frames P facts wt) result s → Waits P (frames P facts wt) s.heap a.method (record a.frame { operands = drop (operands_of a.info) a.frame.operands })
  waits s a st =
      let top = (stands s a st).0 in
      let x = top.holds in
      let m : a.caller ≡ x.method = some_both a.calling x.is_method in
      let here : a.site ≡ x.site = some_both (subst (λ m. site_at m a.frame.offset ≡ Some a.site) m a.standing) x.is_site in
      record {
        holds = record { method = x.method; body = x.body; site = x.site; types = x.types; is_method = x.is_method; is_body = x.is_body; is_site = x.is_site; is_types = x.is_types; locals = x.locals };
        is_call = subst (λ (z : Site). z.instr.row.family ≡ F32) here a.family;
        named = a.method;
        owner = a.named;
        is_named = subst (λ (z : Site). z.resolved ≡ resolved.Method a.method a.named) here a.found;
        target = a.info;
        is_target = a.called;
        above = a.info;
        is_above = a.called;
        same = record { name = refl; flags = refl; params = refl; result = refl };
        operands = below_belong P s.heap x.method (operands_of a.info) x.types.operands a.frame.operands top.operands;
      }

  all_waiting : (s : State) (a : Asks P service s) → StandsIn P (frames P facts wt) result s → AllWait P (frames P facts wt) result s.heap a.method (waiting a)
  all_waiting s a st = (waits s a st, (stands s a st).1)

  -- ---- an answer

  record Goes (s : State) (fs : List Frame) (answer : Answer) : Type 0 where
    state : State
    step : AnswerStep P fs answer s state
    stands_on : StandsIn P (frames P facts wt) result state

  goes : (s : State) (a : Asks P service s) → StandsIn P (frames P facts wt) result s → (answer : Answer) → IsTypedAnswer P s.heap a.info.result answer → Goes s (waiting a) answer
  goes s a st (Answered after value printed) q =
      let g = given_ok P facts wt result after a.method a.info a.called value q.2 (waiting a) (all_wait P (frames P facts wt) s.heap after q.1 result a.method (waiting a) (all_waiting s a st)) in
      record {
        state = record { heap = after; control = g.0; printed = s.printed ++ printed };
        step = (refl, g.1, refl);
        stands_on = record { heap = q.0; control = g.2 };
      }
  goes s a st (Faulted name) q =
      let can = facts.thrown built_ins.RemoteFault refl in
      let fault : ℕ = fault_class P in
      let object : Obj = new_object (class_kind fault) (zeros P fault) in
      let k : Heap = insert s.heap name object in
      let stays : Stays s.heap k = stays_make s.heap name object q in
      let thrown : T (is_assignable P (class_kind fault) (class_kind (built_in P built_ins.Throwable))) = class_up P facts fault (built_in P built_ins.Throwable) (yes (is_above P fault (built_in P built_ins.Throwable)) can.0) in
      record {
        state = record { heap = k; control = unwound P (class_kind fault) (Ref name) (waiting a); printed = s.printed };
        step = (q, refl, refl, refl);
        stands_on = record {
          heap = typed_make P s.heap name (class_kind fault) (zeros P fault) st.heap q (record { makeable = yes _ can.1; count = length_zeros P fault }) (λ h i p e. zeros_ok P h fault i p e);
          control = unwound_ok P facts wt result k name object (get_same s.heap name object) thrown (waiting a)
              (waiting_unwinds P facts wt result k a.method (waiting a) (all_wait_on P facts wt result s.heap k stays a.method (waiting a) (all_waiting s a st)));
        };
      }

  -- an answer leads to one state
  one_state : (s t u : State) (fs : List Frame) (answer : Answer) → AnswerStep P fs answer s t → AnswerStep P fs answer s u → (u.heap ≡ t.heap) × (u.control ≡ t.control)
  one_state s t u fs (Answered after value printed) p q = (q.0 ∙ sym p.0, some_both q.1 p.1)
  one_state s t u fs (Faulted name) p q = (q.1 ∙ sym p.1, q.2 ∙ sym p.2)

  pub answer_stands : (s t : State) (a : Asks P service s) → StandsIn P (frames P facts wt) result s → (answer : Answer) → IsTypedAnswer P s.heap a.info.result answer → AnswerStep P (waiting a) answer s t
      → StandsIn P (frames P facts wt) result t
  answer_stands s t a st answer q step =
      let g = goes s a st answer q in
      let e = one_state s t g.state (waiting a) answer step g.step in
      record { heap = subst (TypedHeap P) e.0 g.stands_on.heap; control = subst₂ (ControlStands P (frames P facts wt) result) e.0 e.1 g.stands_on.control }

  pub called_result : (s : State) (a : Asks P service s) → result_of P a.method ≡ a.info.result
  called_result s a = ap (λ o. option_and_then (λ (i : MethodInfo). i.result) o) a.called

  pub asked_stands : (s t : State) (e : Entry) → StandsIn P (frames P facts wt) result s → AskStep P service s e t → IsTypedEntry P e → StandsIn P (frames P facts wt) result t
  asked_stands s t e st z q = answer_stands s t z.asks st e.answer
      (subst₂ (λ h r. IsTypedAnswer P h r e.answer) z.before (ap (λ m. result_of P m) z.method ∙ called_result s z.asks) q) z.answer

  -- each typed answer leads on
  pub answered : (s : State) (a : Asks P service s) → StandsIn P (frames P facts wt) result s → (answer : Answer) → IsTypedEntry P (entry_of a answer) → (t : State) × AskStep P service s (entry_of a answer) t
  answered s a st answer q =
      let g = goes s a st answer (subst (λ r. IsTypedAnswer P s.heap r answer) (called_result s a) q) in
      (g.state, record { asks = a; method = refl; args = refl; before = refl; answer = g.step })

  pub ask_runs_stand : (k : ℕ) (s t : State) (calls : List Entry) → StandsIn P (frames P facts wt) result s → AskRun P service s calls k t → EachTyped P calls → StandsIn P (frames P facts wt) result t
  ask_runs_stand k s t calls st arrived q = st
  ask_runs_stand k s t calls st (own m n d r) q = ask_runs_stand _ m t _ (preservation P facts wt result s m st d) r q
  ask_runs_stand k s t calls st (asked {e = e} m a r) q = ask_runs_stand _ m t _ (asked_stands s m e st a q.0) r q.1

  -- what a run gives that ends by a return
  pub ask_runs_give : (k : ℕ) (s t : State) (calls : List Entry) (v : Option Value) → StandsIn P (frames P facts wt) result s → AskRun P service s calls k t → EachTyped P calls → t.control ≡ Returned v
      → IsResult P t.heap result v
  ask_runs_give k s t calls v st r q e = subst (ControlStands P (frames P facts wt) result t.heap) e (ask_runs_stand k s t calls st r q).control
