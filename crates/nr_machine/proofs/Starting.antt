-- A machine starts.
use Rattle.std.proofs.Common.{◌≡◌, ℕ, ◌+◌, ◌≤◌, List, [], ◌∷◌, length, refl, sym, ap, ap₂, subst, ◌∙◌, arith, false, true}
use Rattle.std.specs.Prelude.{◌||◌, Bool, Option, Some, None, IsSome, IsSomeAnd, nat_lt, reverse}
use Rattle.std.specs.Option.{option_and_then, option_map_or}
use Rattle.std.proofs.lemmas.Bool.{le-ltb}
use Rattle.std.proofs.lemmas.List.{reverse-reverse}
use Rattle.nr_prog.specs.declared.body.whole.Body.{Body}
use Rattle.nr_linked.specs.declared.program.tables.MethodInfo.{MethodInfo}
use Rattle.nr_linked.specs.declared.program.tables.ProgramTables.{ProgramTables}
use Rattle.nr_linked.specs.Facts.{ProgramFacts}
use Rattle.nr_linked.specs.Programs.{method_at, result_of}
use Rattle.nr_linked.specs.WellTyped.{WellTyped}
use Rattle.nr_model.specs.declared.value.Value.{Value}
use Rattle.nr_model.specs.Belonging.{Belong}
use Rattle.nr_model.specs.Heaps.{Heap}
use Rattle.nr_model.specs.Outcomes.{is_too_deep, max_frames, max_value_slots, value_slots}
use Rattle.nr_model.specs.Locals.{Begins, start_of}
use Rattle.nr_model.specs.States.{Frame, Running, State}
use Rattle.nr_model.specs.Steps.{first_frame, spread}
use Rattle.nr_model.specs.TypedHeaps.{TypedHeap}
use Rattle.nr_model.specs.Types.{argument_tys}
use Rattle.nr_typed.specs.Standing.{StandsIn}
use Rattle.nr_machine.specs.declared.stack.Frame.{Frame as CodeFrame}
use Rattle.nr_machine.specs.CallStacks.{CanBegin, IsStack, frames_of}
use Rattle.nr_machine.proofs.Standing.{arguments_fit}
use Rattle.nr_machine.proofs.TypedLaws.{first_stands}
use Rattle.nr_machine.proofs.Windows.{frames_length, frames_slots}

pub some_and : {X : Type 0} (o : Option X) (Q : X → Type 0) → IsSomeAnd o Q → (x : X) × (o ≡ Some x) × Q x
some_and None Q q = absurd q
some_and (Some x) Q q = (x, refl, q)

pub is_some_of : {X : Type 0} (o : Option X) → IsSome o → (x : X) × (o ≡ Some x)
is_some_of None q = absurd cc
is_some_of (Some x) q = (x, refl)

pub is_some_for : {X : Type 0} (o : Option X) (Q : X → Type 0) → IsSomeAnd o Q → IsSome o
is_some_for None Q q = absurd q
is_some_for (Some x) Q q = refl

-- a stack is within the limits
pub not_deep : (P : ProgramTables) (fs : List CodeFrame) (vs : List Value) → IsStack P fs vs → is_too_deep P (Running (frames_of P fs vs)) ≡ false
not_deep P fs vs st = ap₂ ◌||◌
    (le-ltb max_frames (length (frames_of P fs vs)) (subst (λ n. n ≤ max_frames) (sym (frames_length P fs vs)) st.few_frames))
    (le-ltb max_value_slots (value_slots P (frames_of P fs vs)) (subst (λ n. n ≤ max_value_slots) (sym (frames_slots P fs vs)) (subst (λ n. n ≤ max_value_slots) st.sized st.few_values)))

-- a first frame is too deep by its slots alone
pub begins_deep : (P : ProgramTables) (h : Heap) (m : ℕ) (args : List Value) (s : State) (i : MethodInfo) → method_at P m ≡ Some i → Begins P h m args s
    → is_too_deep P s.control ≡ nat_lt max_value_slots (i.max_locals + i.max_stack)
begins_deep P h m args s i is b =
    let e : s ≡ start_of i m h args = subst (λ o. IsSomeAnd o (λ (i : MethodInfo). s ≡ start_of i m h args)) is b in
    let z : i.max_locals + i.max_stack + 0 ≡ i.max_locals + i.max_stack = omega arith in
    ap (λ (s : State). is_too_deep P s.control) e
    ∙ ap (λ o. nat_lt max_value_slots (option_map_or (λ (i : MethodInfo). i.max_locals + i.max_stack) o 0 + 0)) is
    ∙ ap (λ n. nat_lt max_value_slots n) z

not_both : (b : Bool) → b ≡ true → b ≡ false → ⊥
not_both b e f = cc

pub never_deep : (P : ProgramTables) (h : Heap) (m : ℕ) (args : List Value) → IsSomeAnd (method_at P m) (λ i. is_too_deep P (Running (first_frame i m args ∷ [])) ≡ true)
    → ((s : State) → Begins P h m args s → is_too_deep P s.control ≡ false) → ⊥
never_deep P h m args deep none =
    let i = some_and (method_at P m) (λ i. is_too_deep P (Running (first_frame i m args ∷ [])) ≡ true) deep in
    let s : State = start_of i.0 m h args in
    let b : Begins P h m args s = subst (λ o. IsSomeAnd o (λ (j : MethodInfo). s ≡ start_of j m h args)) (sym i.1) refl in
    not_both (is_too_deep P s.control) i.2 (none s b)

module _ (P : ProgramTables) (facts : ProgramFacts P) (typed : WellTyped P) (h : Heap) (heap : TypedHeap P h) (m : ℕ) (args : List Value)
    (fits : IsSomeAnd (method_at P m) (λ i. IsSome i.body × Belong P h (argument_tys i) (reverse args))) where
  method : (i : MethodInfo) × (method_at P m ≡ Some i) × (IsSome i.body × Belong P h (argument_tys i) (reverse args))
  method = some_and (method_at P m) (λ i. IsSome i.body × Belong P h (argument_tys i) (reverse args)) fits

  body : (b : Body) × (method.0.body ≡ Some b)
  body = is_some_of method.0.body method.2.0

  stands : StandsIn P typed.frames method.0.result (record { heap = h; control = Running (first_frame method.0 m (reverse args) ∷ []); printed = [] })
  stands = first_stands P facts.typing typed h heap m method.0 body.0 method.1 body.1 (reverse args) method.2.1

  pub can_begin : CanBegin P m args
  can_begin = record {
    method = method.0;
    body = body.0;
    is_method = method.1;
    is_body = body.1;
    fits = subst (λ us. length (spread us) ≤ method.0.max_locals) (reverse-reverse args) (arguments_fit P typed.frames h m method.0 (reverse args) method.1 stands.control.0);
  }

  pub starts_stand : (fs : List Frame) → IsSomeAnd (method_at P m) (λ i. fs ≡ first_frame i m (reverse args) ∷ []) → StandsIn P typed.frames (result_of P m) (record { heap = h; control = Running fs; printed = [] })
  starts_stand fs begun =
      let e : fs ≡ first_frame method.0 m (reverse args) ∷ [] = subst (λ o. IsSomeAnd o (λ i. fs ≡ first_frame i m (reverse args) ∷ [])) method.1 begun in
      let r : method.0.result ≡ result_of P m = sym (ap (λ o. option_and_then (λ (i : MethodInfo). i.result) o) method.1) in
      subst (λ k. StandsIn P typed.frames k (record { heap = h; control = Running fs; printed = [] })) r
      (subst (λ fs. StandsIn P typed.frames method.0.result (record { heap = h; control = Running fs; printed = [] })) (sym e) stands)
