-- A run makes the same steps over other frames and after other output.
use Rattle.std.proofs.Common.{◌≡◌, ℕ, zero, suc, List, [], ◌∷◌, ◌++◌, length, refl, sym, ap, ap₂, subst, ◌∙◌, Bool, true, false}
use Rattle.std.specs.Prelude.{Option, Some, None, IsSomeAnd, take, drop, nat_le, if◌then◌else◌}
use Rattle.std.specs.Option.{option_map, option_and_then}
use Rattle.std.specs.FinMap.{get}
use Rattle.nr_linked.specs.declared.program.kind.Kind.{Kind}
use Rattle.nr_model.specs.declared.value.Value.{Value}
use Rattle.nr_model.specs.declared.value.Value.TheVariants.{Ref}
use Rattle.nr_model.specs.Heaps.{on_some}
use Rattle.nr_model.specs.Scripts.{Script, Within, Ending, GoesTo, Threw, Gave, Called}
use Rattle.nr_model.specs.States.{Frame, Control, Running, Returned, Thrown, State}
use Rattle.nr_linked.specs.declared.program.tables.MethodInfo.{MethodInfo}
use Rattle.nr_linked.specs.declared.program.tables.ProgramTables.{ProgramTables}
use Rattle.nr_linked.specs.Programs.{method_at}
use Rattle.nr_model.specs.CallRules.{operands_of}
use Rattle.nr_model.specs.Steps.{handler_at, unwound, next_offset, with_result, given, first_frame, entered, script_at, after, StepBy, StepOf, Run}
use Rattle.std.proofs.Common.{append_assoc}
use Rattle.nr_model.specs.Overs.{over, with_front}
use Rattle.nr_model.proofs.Paths.{some_eq, none_some}

map_some : {X Y : Type 0} (o : Option X) (f : X → Y) (y : Y) → option_map f o ≡ Some y → (x : X) × (o ≡ Some x) × (f x ≡ y)
map_some None f y e = absurd (none_some e)
map_some (Some x) f y e = (x, refl, some_eq e)

some_map : {X : Type 0} (o : Option X) (A B : X → Type 0) → ((x : X) → A x → B x) → IsSomeAnd o A → IsSomeAnd o B
some_map None A B k p = absurd p
some_map (Some x) A B k p = k x p

module _ (P : ProgramTables) (below : List Frame) where
  unwound_over : (k : Kind) (v : Value) (fs : List Frame) (d : Control) → over P below (unwound P k v fs) ≡ Some d → unwound P k v (fs ++ below) ≡ d
  unwound_over k v [] d e = absurd (none_some e)
  unwound_over k v (f ∷ fs) d e = go (handler_at P f.method f.offset k) e (unwound_over k v fs d)
    where
      go : (o : Option ℕ) → over P below (on_some o (unwound P k v fs) (λ t. Running (record f { offset = t; operands = v ∷ [] } ∷ fs))) ≡ Some d
          → (over P below (unwound P k v fs) ≡ Some d → unwound P k v (fs ++ below) ≡ d)
          → on_some o (unwound P k v (fs ++ below)) (λ t. Running (record f { offset = t; operands = v ∷ [] } ∷ (fs ++ below))) ≡ d
      go None e ih = ih e
      go (Some t) e ih = some_eq e

  -- over of what is there
  over_at : (c c' d : Control) → Some c ≡ Some c' → over P below c' ≡ Some d → over P below c ≡ Some d
  over_at c c' d e q = subst (λ c. over P below c ≡ Some d) (sym (some_eq e)) q

  given_over : (v : Option Value) (fs : List Frame) (c d : Control) → given P v fs ≡ Some c → over P below c ≡ Some d → given P v (fs ++ below) ≡ Some d
  given_over v [] c d e q = over_at (Returned v) c d e q
  given_over v (f ∷ fs) c d e q =
      let x = map_some (next_offset P f.method f.offset) (λ t. Running (record f { offset = t; operands = with_result v f.operands } ∷ fs)) c e in
      ap (option_map (λ t. Running (record f { offset = t; operands = with_result v f.operands } ∷ (fs ++ below)))) x.1
      ∙ subst (λ c. over P below c ≡ Some d) (sym x.2) q

  entered_over : (m : ℕ) (f : Frame) (fs : List Frame) (c d : Control) → entered P m f fs ≡ Some c → over P below c ≡ Some d → entered P m f (fs ++ below) ≡ Some d
  entered_over m f fs c d e q = go (method_at P m) e
    where
      choose : (b : Bool) (k : Control) → (if b then Some k else None) ≡ Some c → (if b then over P below k else None) ≡ Some d
      choose true k e = over_at k c d e q
      choose false k e = absurd (none_some e)

      entry : MethodInfo → List Frame → Control
      entry i fs = Running (first_frame i m (take (operands_of i) f.operands) ∷ record f { operands = drop (operands_of i) f.operands } ∷ fs)

      go : (o : Option MethodInfo) → option_and_then (λ i. if nat_le (operands_of i) (length f.operands)
          then Some (Running (first_frame i m (take (operands_of i) f.operands) ∷ record f { operands = drop (operands_of i) f.operands } ∷ fs)) else None) o ≡ Some c
          → option_and_then (λ i. if nat_le (operands_of i) (length f.operands)
          then Some (Running (first_frame i m (take (operands_of i) f.operands) ∷ record f { operands = drop (operands_of i) f.operands } ∷ (fs ++ below))) else None) o ≡ Some d
      go None e = absurd (none_some e)
      go (Some i) e = choose (nat_le (operands_of i) (length f.operands)) _ e

  after_over : (e : Ending) (w : Within) (f : Frame) (fs : List Frame) (c d : Control) → after P e w f fs ≡ Some c → over P below c ≡ Some d → after P e w f (fs ++ below) ≡ Some d
  after_over (GoesTo t) w f fs c d a q = over_at _ c d a q
  after_over (Threw x) w f fs c d a q =
      let y = map_some (get w.heap x) (λ o. unwound P o.kind (Ref x) (f ∷ fs)) c a in
      ap (option_map (λ o. unwound P o.kind (Ref x) (f ∷ (fs ++ below)))) y.1
      ∙ ap Some (unwound_over y.0.kind (Ref x) (f ∷ fs) d (subst (λ c. over P below c ≡ Some d) (sym y.2) q))
  after_over (Gave v) w f fs c d a q = given_over v fs c d a q
  after_over (Called m) w f fs c d a q = entered_over m _ fs c d a q

  module _ (front : List ℕ) where
    step_by_over : (sc : Script) (f : Frame) (fs : List Frame) (s t : State) (c d : Control) → over P below t.control ≡ Some d → StepBy P sc f fs s t
        → StepBy P sc f (fs ++ below) (with_front front c s) (with_front front d t)
    step_by_over sc f fs s t c d q p = record {
      ending = p.ending;
      left = p.left;
      runs = p.runs;
      control = after_over p.ending p.left f fs t.control d p.control q;
      heap = p.heap;
      printed = ap (λ out. front ++ out) p.printed ∙ sym (append_assoc front s.printed p.left.printed);
    }

    step_over : (b : Control) (s t : State) (c d : Control) → over P below b ≡ Some c → over P below t.control ≡ Some d → StepOf P b s t
        → StepOf P c (with_front front c s) (with_front front d t)
    step_over (Running []) s t c d e q p = absurd p
    step_over (Running (f ∷ fs)) s t c d e q p =
        subst (λ c. StepOf P c (with_front front c s) (with_front front d t)) (some_eq e)
        (some_map (script_at P f.method f.offset) _ _ (λ sc p. step_by_over sc f fs s t _ d q p) p)
    step_over (Returned v) s t c d e q p = absurd p
    step_over (Thrown v) s t c d e q p = absurd p

    -- a state that goes on to a state with a place over the frames has one itself
    over_before : (n : ℕ) (s t : State) (d : Control) → over P below t.control ≡ Some d → Run P s n t → (c : Control) × (over P below s.control ≡ Some c)
    over_before zero s t d q p = (d, subst (λ s. over P below s.control ≡ Some d) p q)
    over_before (suc n) s t d q p = go s.control p.1
      where
        go : (c : Control) → StepOf P c s p.0 → (k : Control) × (over P below c ≡ Some k)
        go (Running fs) q = (Running (fs ++ below), refl)
        go (Returned v) q = absurd q
        go (Thrown v) q = absurd q

    pub run_over : (n : ℕ) (s t : State) (c d : Control) → over P below s.control ≡ Some c → over P below t.control ≡ Some d → Run P s n t
        → Run P (with_front front c s) n (with_front front d t)
    run_over zero s t c d e q p =
        let same : d ≡ c = some_eq (sym q ∙ ap (λ s. over P below s.control) p ∙ e) in
        ap₂ (λ d t. with_front front d t) same p
    run_over (suc n) s t c d e q p =
        let k = over_before n p.0 t d q p.2 in
        (with_front front k.0 p.0, step_over s.control s p.0 c k.0 e k.1 p.1, run_over n p.0 t k.0 d k.1 q p.2)
