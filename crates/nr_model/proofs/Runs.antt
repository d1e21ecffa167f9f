-- Two steps, and two runs, from states that agree.
use Rattle.std.proofs.Common.{◌≡◌, ℕ, zero, suc, List, ◌++◌, refl, sym, ap₂, subst₂, ◌∙◌}
use Rattle.std.specs.Prelude.{Option, Some, None, IsSomeAnd}
use Rattle.nr_model.specs.Scripts.{Script}
use Rattle.nr_model.specs.States.{Frame, Control, State}
use Rattle.nr_model.specs.Alike.{AlikeFrame, AlikeFrames, no_frame, one_frame, AlikeControl, both_run, both_return, both_throw}
use Rattle.nr_model.proofs.Matchings.{Matched, Moved, AlikeWithin, AlikeState}
use Rattle.nr_linked.specs.declared.program.tables.ProgramTables.{ProgramTables}
use Rattle.nr_model.specs.Steps.{script_at, within, StepBy, StepOf, Step, Run}
use Rattle.nr_model.proofs.Heaps.{moved_none, moved_then}
use Rattle.nr_model.proofs.Pairing.{paired, Later}
use Rattle.nr_model.proofs.Mirror.{mirrored}
use Rattle.nr_model.proofs.Frames.{frame_more, frames_more}
use Rattle.nr_model.proofs.Afters.{next_both, next_too, after_alike}

same_some {ℓ} : (C : Type ℓ) {X : Type 0} (o : Option X) (P Q : X → Type 0) → IsSomeAnd o P → IsSomeAnd o Q → ((x : X) → P x → Q x → C) → C
same_some C None P Q p q k = absurd p
same_some C (Some x) P Q p q k = k x p q

pub some_stays : {X : Type 0} (C : Option X → Type 0) (o : Option X) (P : X → Type 0) → IsSomeAnd o P → ((x : X) → P x → C (Some x)) → C o
some_stays C None P p k = absurd p
some_stays C (Some x) P p k = k x p

-- where two steps, or two runs, leave two states
pub record LaterState (R : ℕ → ℕ → Type 0) (s t s' t' : State) : Type 1 where
  pub now : ℕ → ℕ → Type 0
  pub moved : Moved R s.heap t.heap now s'.heap t'.heap
  pub alike : AlikeState now s' t'

module _ (P : ProgramTables) (R : ℕ → ℕ → Type 0) (s t : State) (m : Matched R s.heap t.heap) (out : s.printed ≡ t.printed) (f g : Frame) (a : AlikeFrame R f g) (fs gs : List Frame) (bs : AlikeFrames R fs gs) where
  start : AlikeWithin R (within s.heap f) (within t.heap g)
  start = record { heap = m; printed = refl; locals = a.locals; operands = a.operands }

  step_by : (sc : Script) (s' t' : State) → StepBy P sc f fs s s' → StepBy P sc g gs t t' → LaterState R s t s' t'
  step_by sc s' t' p q =
      let l : Later R s.heap t.heap p.ending q.ending p.left q.left = paired sc R (within s.heap f) (within t.heap g) p.left q.left p.ending q.ending start p.runs q.runs in
      record {
        now = l.now;
        moved = subst₂ (λ h k. Moved R s.heap t.heap l.now h k) (sym p.heap) (sym q.heap) l.moved;
        alike = record {
          heap = subst₂ (λ h k. Matched l.now h k) (sym p.heap) (sym q.heap) l.alike.heap;
          control = next_both l.now _ _ s'.control t'.control
              (after_alike P l.now p.ending q.ending p.left q.left f g fs gs l.ending l.alike (frame_more R l.now l.moved.older f g a) (frames_more R l.now l.moved.older fs gs bs))
              p.control q.control;
          printed = p.printed ∙ ap₂ (λ x y. x ++ y) out l.alike.printed ∙ sym q.printed;
        };
      }

  step_by_too : (sc : Script) (s' : State) → StepBy P sc f fs s s' → (t' : State) × StepBy P sc g gs t t'
  step_by_too sc s' p =
      let v = mirrored sc R (within s.heap f) (within t.heap g) p.left p.ending start p.runs in
      let l : Later R s.heap t.heap p.ending v.0.0 p.left v.0.1 = paired sc R (within s.heap f) (within t.heap g) p.left v.0.1 p.ending v.0.0 start p.runs v.1 in
      let d = next_too l.now _ _ s'.control
      (after_alike P l.now p.ending v.0.0 p.left v.0.1 f g fs gs l.ending l.alike (frame_more R l.now l.moved.older f g a) (frames_more R l.now l.moved.older fs gs bs))
      p.control in (
        record { heap = v.0.1.heap; control = d.0; printed = t.printed ++ v.0.1.printed },
        record { ending = v.0.0; left = v.0.1; runs = v.1; control = d.1; heap = refl; printed = refl },
      )

module _ (P : ProgramTables) where
  from : (R : ℕ → ℕ → Type 0) (c d : Control) (s t s' t' : State) → Matched R s.heap t.heap → s.printed ≡ t.printed → AlikeControl R c d
      → StepOf P c s s' → StepOf P d t t' → LaterState R s t s' t'
  from R c d s t s' t' m out (both_run no_frame) p q = absurd p
  from R c d s t s' t' m out (both_run (one_frame {f} {g} {fs} {gs} a bs)) p q =
      same_some _ (script_at P f.method f.offset) _ _ p (subst₂ (λ m o. IsSomeAnd (script_at P m o) (λ sc. StepBy P sc g gs t t')) (sym a.method) (sym a.offset) q)
      (λ sc p q. step_by P R s t m out f g a fs gs bs sc s' t' p q)
  from R c d s t s' t' m out (both_return l) p q = absurd p
  from R c d s t s' t' m out (both_throw l) p q = absurd p

  pub steps_paired : (R : ℕ → ℕ → Type 0) (s t s' t' : State) → AlikeState R s t → Step P s s' → Step P t t' → LaterState R s t s' t'
  steps_paired R s t s' t' a p q = from R s.control t.control s t s' t' a.heap a.printed a.control p q

  pub runs_paired : (n : ℕ) (R : ℕ → ℕ → Type 0) (s t s' t' : State) → AlikeState R s t → Run P s n s' → Run P t n t' → LaterState R s t s' t'
  runs_paired zero R s t s' t' a p q = rw (p, q) (record { now = R; moved = moved_none R _ _; alike = a })
  runs_paired (suc n) R s t s' t' a p q =
      let l = steps_paired R s t p.0 q.0 a p.1 q.1 in
      let k = runs_paired n l.now p.0 q.0 s' t' l.alike p.2 q.2 in
      record { now = k.now; moved = moved_then R l.now k.now _ _ _ _ _ _ l.moved k.moved; alike = k.alike }

  -- what one machine can do, so can the other
  from_too : (R : ℕ → ℕ → Type 0) (c d : Control) (s t s' : State) → Matched R s.heap t.heap → s.printed ≡ t.printed → AlikeControl R c d → StepOf P c s s' → (t' : State) × StepOf P d t t'
  from_too R c d s t s' m out (both_run no_frame) p = absurd p
  from_too R c d s t s' m out (both_run (one_frame {f} {g} {fs} {gs} a bs)) p =
      subst₂ (λ m o. (t' : State) × IsSomeAnd (script_at P m o) (λ sc. StepBy P sc g gs t t')) a.method a.offset
      (some_stays (λ o. (t' : State) × IsSomeAnd o (λ sc. StepBy P sc g gs t t')) (script_at P f.method f.offset) _ p
      (λ sc p. step_by_too P R s t m out f g a fs gs bs sc s' p))
  from_too R c d s t s' m out (both_return l) p = absurd p
  from_too R c d s t s' m out (both_throw l) p = absurd p

  pub step_too : (R : ℕ → ℕ → Type 0) (s t s' : State) → AlikeState R s t → Step P s s' → (t' : State) × Step P t t'
  step_too R s t s' a p = from_too R s.control t.control s t s' a.heap a.printed a.control p

  pub run_too : (n : ℕ) (R : ℕ → ℕ → Type 0) (s t s' : State) → AlikeState R s t → Run P s n s' → (t' : State) × Run P t n t'
  run_too zero R s t s' a p = (t, refl)
  run_too (suc n) R s t s' a p =
      let q = step_too R s t p.0 a p.1 in
      let l = steps_paired R s t p.0 q.0 a p.1 q.1 in
      let k = run_too n l.now p.0 q.0 s' l.alike p.2 in
      (k.0, (q.0, q.1, k.1))
