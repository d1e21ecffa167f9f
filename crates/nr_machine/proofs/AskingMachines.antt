-- A machine that asks: what its stack is.
use Rattle.std.proofs.Common.{◌≡◌, ℕ, ◌+◌, ◌<◌, ◌≤◌, List, [], ◌∷◌, length, refl, sym, ap, subst, ◌∙◌, arith, true, false, nat_le}
use Rattle.std.specs.Prelude.{Option, Some, None, drop, reverse, take}
use Rattle.std.proofs.lemmas.Bool.{leb-true}
use Rattle.std.proofs.lemmas.List.{reverse-reverse}
use Rattle.nr_linked.specs.declared.program.tables.MethodInfo.{MethodInfo}
use Rattle.nr_linked.specs.declared.program.tables.ProgramTables.{ProgramTables}
use Rattle.nr_linked.specs.declared.program.tables.Resolved.TheVariants as resolved
use Rattle.nr_linked.specs.Programs.{method_at}
use Rattle.nr_linked.specs.Sites.{Site, site_at}
use Rattle.nr_model.specs.declared.value.Value.{Value}
use Rattle.nr_model.specs.Asks.{Asks, asked_args, waiting}
use Rattle.nr_model.specs.CallRules.{operands_of}
use Rattle.nr_model.specs.Heaps.{Heap}
use Rattle.nr_model.specs.States.{Frame, Control, Running, State}
use Rattle.nr_machine.specs.declared.answer.Turn.{Turn}
use Rattle.nr_machine.specs.declared.stack.Frame.{Frame as CodeFrame}
use Rattle.nr_machine.specs.CallStacks.{IsCallOf, OnRunning, frames_of}
use Rattle.nr_machine.specs.Machines.{control_of}
use Rattle.nr_machine.proofs.AskedCalls.{same_method}
use Rattle.nr_machine.proofs.Calls.{some_both}
use Rattle.nr_machine.proofs.Windows.{frames_length}

running_same : (fs gs : List Frame) → Running fs ≡ Running gs → fs ≡ gs
running_same fs gs e = cc

call_same : (P : ProgramTables) (f : Frame) (m n : ℕ) → IsCallOf P f m → IsCallOf P f n → m ≡ n
call_same P f m n p q =
    let c : p.caller ≡ q.caller = some_both p.is_caller q.is_caller in
    let s : p.site ≡ q.site = some_both (subst (λ (i : MethodInfo). site_at i f.offset ≡ Some p.site) c p.is_site) q.is_site in
    same_method m p.named n q.named (sym p.found ∙ ap (λ (s : Site). s.resolved) s ∙ q.found)

module _ (P : ProgramTables) (service : Option ℕ) (fs : List CodeFrame) (vs : List Value) (last : Option Turn) (h : Heap) (printed : List ℕ) (going : last ≡ None)
    (a : Asks P service (record { heap = h; control = control_of P fs vs last; printed = printed })) where
  pub frames_are : frames_of P fs vs ≡ a.frame ∷ a.below
  frames_are = running_same (frames_of P fs vs) (a.frame ∷ a.below) (sym (ap (control_of P fs vs) going) ∙ a.running)

  pub some_frames : 0 < length fs
  some_frames = omega (arith, frames_length P fs vs, ap length frames_are)

  said : (Q : Frame → List Frame → Type 0) → Q a.frame a.below → OnRunning (frames_of P fs vs) Q
  said Q q = subst (λ xs. OnRunning xs Q) (sym frames_are) q

  pub told : (Q : Frame → List Frame → Type 0) → OnRunning (frames_of P fs vs) Q → Q a.frame a.below
  told Q q = subst (λ xs. OnRunning xs Q) frames_are q

  pub call : IsCallOf P a.frame a.method
  call = record { caller = a.caller; site = a.site; named = a.named; is_caller = a.calling; is_site = a.standing; found = a.found }

  pub some_call : OnRunning (frames_of P fs vs) (λ f others. (m : ℕ) × IsCallOf P f m)
  some_call = said (λ f others. (m : ℕ) × IsCallOf P f m) (a.method, call)

  pub few : operands_of a.info ≤ length a.frame.operands
  few = leb-true (operands_of a.info) (length a.frame.operands) a.enough

  pub method_is : (m : ℕ) → OnRunning (frames_of P fs vs) (λ f others. IsCallOf P f m) → m ≡ a.method
  method_is m q = call_same P a.frame m a.method (told (λ f others. IsCallOf P f m) q) call

  -- the method that was found
  module _ (m : ℕ) (q : OnRunning (frames_of P fs vs) (λ f others. IsCallOf P f m)) (i : MethodInfo) (is_m : method_at P m ≡ Some i) (n : ℕ) (n_is : n ≡ operands_of i) where
    info_is : i ≡ a.info
    info_is = some_both is_m (ap (method_at P) (method_is m q) ∙ a.called)

    pub count_is : n ≡ operands_of a.info
    count_is = n_is ∙ ap operands_of info_is

    pub enough : OnRunning (frames_of P fs vs) (λ f others. n ≤ length f.operands)
    enough = said (λ f others. n ≤ length f.operands) (subst (λ n. n ≤ length a.frame.operands) (sym count_is) few)

    pub args_are : (us : List Value) → OnRunning (frames_of P fs vs) (λ f others. reverse (take n f.operands) ≡ us) → asked_args a ≡ reverse us
    args_are us r =
        let e : reverse (take n a.frame.operands) ≡ us = told (λ f others. reverse (take n f.operands) ≡ us) r in
        ap (λ n. take n a.frame.operands) (sym count_is) ∙ sym (reverse-reverse (take n a.frame.operands)) ∙ ap reverse e

    -- the frames that wait
    pub waiting_is : (new : List Frame) → OnRunning (frames_of P fs vs) (λ f others. new ≡ record f { operands = drop n f.operands } ∷ others) → new ≡ waiting a
    waiting_is new r = told (λ f others. new ≡ record f { operands = drop n f.operands } ∷ others) r ∙ ap (λ n. record a.frame { operands = drop n a.frame.operands } ∷ a.below) count_is

-- the named method is one of the program
pub call_there : (P : ProgramTables) (service : Option ℕ) (s : State) (a : Asks P service s) → method_at P a.method ≡ Some a.info
call_there P service s a = a.called

-- the heap in which it asks is no matter
pub asks_in : (P : ProgramTables) (service : Option ℕ) (c : Control) (bs : List ℕ) (h k : Heap) → Asks P service (record { heap = h; control = c; printed = bs }) → Asks P service (record { heap = k; control = c; printed = bs })
asks_in P service c bs h k a = record {
  frame = a.frame;
  below = a.below;
  running = a.running;
  caller = a.caller;
  calling = a.calling;
  site = a.site;
  standing = a.standing;
  family = a.family;
  code = a.code;
  method = a.method;
  named = a.named;
  found = a.found;
  info = a.info;
  called = a.called;
  has_code = a.has_code;
  remote = a.remote;
  enough = a.enough;
}

module _ (P : ProgramTables) (service : Option ℕ) (fs : List CodeFrame) (vs : List Value) (last : Option Turn) (printed : List ℕ) (going : last ≡ None) (h k : Heap)
    (a : Asks P service (record { heap = h; control = control_of P fs vs last; printed = printed })) (b : Asks P service (record { heap = k; control = control_of P fs vs last; printed = printed })) where
  -- the same frames wait
  pub waiting_same : waiting a ≡ waiting b
  waiting_same = waiting_is P service fs vs last k printed going b a.method
      (subst (λ xs. OnRunning xs (λ f others. IsCallOf P f a.method)) (sym (frames_are P service fs vs last h printed going a)) (call P service fs vs last h printed going a))
      a.info a.called (operands_of a.info) refl (waiting a)
      (subst (λ xs. OnRunning xs (λ f others. waiting a ≡ record f { operands = drop (operands_of a.info) f.operands } ∷ others)) (sym (frames_are P service fs vs last h printed going a)) refl)
