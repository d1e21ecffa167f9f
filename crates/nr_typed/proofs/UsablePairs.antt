-- Where all places agree, the usable ones do.
use Rattle.std.proofs.Common.{ℕ, List, [], ◌∷◌, length, inl, inr}
use Rattle.std.specs.Prelude.{Option}
use Rattle.nr_linked.specs.declared.program.kind.Kind.{Kind}
use Rattle.nr_linked.specs.declared.program.tables.ProgramTables.{ProgramTables}
use Rattle.nr_linked.specs.TypingFrames.{TypeFrame}
use Rattle.nr_model.specs.Heaps.{Heap}
use Rattle.nr_model.specs.States.{Frame, Control, Running, Returned, Thrown, State}
use Rattle.nr_model.specs.Alike as alike
use Rattle.nr_model.specs.Pairs.{IsPair, InFrames, InControl, StartOf, PairedStates}
use Rattle.nr_model.proofs.Heaps.{sum_left}
use Rattle.nr_typed.specs.Standing.{AllWait, ControlStands, StandsIn}
use Rattle.nr_typed.specs.Usable.{local_types, operand_types, UsableFrame, UsableFrames, no_frame, one_frame, UsableControl, both_run, both_return, both_throw, InUsableFrames, InUsableControl, UsableStart, UsablePaired}
use Rattle.nr_typed.proofs.Blanks.{Fills, stands_fills, waits_fills, alike_usable}

module _ (P : ProgramTables) (FR : ℕ → List TypeFrame) where
  module _ (R : ℕ → ℕ → Type 0) (h : Heap) where
    frame_usable : (f g : Frame) → Fills P FR h f.method f.offset f.locals f.operands → alike.AlikeFrame R f g → UsableFrame P FR R f g
    frame_usable f g x a = record {
      method = a.method;
      offset = a.offset;
      locals = alike_usable P R h (local_types P FR f.method f.offset) f.locals g.locals x.locals_belong a.locals;
      operands = alike_usable P R h (operand_types P FR f.method f.offset (length f.operands)) f.operands g.operands x.operands_belong a.operands;
    }

    waiting_usable : (result : Option Kind) (r : ℕ) (fs gs : List Frame) → AllWait P FR result h r fs → alike.AlikeFrames R fs gs → UsableFrames P FR R fs gs
    waiting_usable result r fs gs w alike.no_frame = no_frame
    waiting_usable result r (f ∷ fs) (g ∷ gs) w (alike.one_frame a bs) = one_frame (frame_usable f g (waits_fills P FR h r f w.0) a) (waiting_usable result f.method fs gs w.1 bs)

    control_usable : (result : Option Kind) (c d : Control) → ControlStands P FR result h c → alike.AlikeControl R c d → UsableControl P FR R c d
    control_usable result c d x (alike.both_run alike.no_frame) = absurd x
    control_usable result c d x (alike.both_run (alike.one_frame {f} {g} {fs} {gs} a bs)) = both_run (one_frame (frame_usable f g (stands_fills P FR h f x.0) a) (waiting_usable result f.method fs gs x.1 bs))
    control_usable result c d x (alike.both_return l) = both_return l
    control_usable result c d x (alike.both_throw l) = both_throw l

  in_frames : (fs gs : List Frame) (x y : ℕ) → InUsableFrames P FR fs gs x y → InFrames fs gs x y
  in_frames [] gs x y p = absurd p
  in_frames (f ∷ fs) [] x y p = absurd p
  in_frames (f ∷ fs) (g ∷ gs) x y (inl p) = inl (p.0, p.4, p.5)
  in_frames (f ∷ fs) (g ∷ gs) x y (inr (inl p)) = inr (inl (p.0, p.4, p.5))
  in_frames (f ∷ fs) (g ∷ gs) x y (inr (inr p)) = inr (inr (in_frames fs gs x y p))

  in_control : (c d : Control) (x y : ℕ) → InUsableControl P FR c d x y → InControl c d x y
  in_control (Running fs) (Running gs) x y p = in_frames fs gs x y p
  in_control (Returned u) (Returned v) x y p = p
  in_control (Thrown u) (Thrown v) x y p = p
  in_control _ _ x y p = absurd p

  module _ (ps : List (ℕ × ℕ)) (s t : State) where
    fewer : (x y : ℕ) → IsPair (UsableStart P FR ps s t) s.heap t.heap x y → IsPair (StartOf ps s t) s.heap t.heap x y
    fewer x y p = record {
      from_left = p.from_left;
      from_right = p.from_right;
      start = sum_left p.start (λ l. inl l) (λ u. inr (in_control s.control t.control p.from_left p.from_right u));
      path = p.path;
      to_left = p.to_left;
      to_right = p.to_right;
    }

    pub all_usable : (result : Option Kind) → StandsIn P FR result s → PairedStates ps s t → UsablePaired P FR ps s t
    all_usable result x a = record {
      shape = control_usable alike.Any s.heap result s.control t.control x.control a.shape;
      heaps = record {
        distinct = λ x y u v p q. a.heaps.distinct x y u v (fewer x y p) (fewer u v q);
        agree = λ x y p. a.heaps.agree x y (fewer x y p);
      };
      printed = a.printed;
    }
