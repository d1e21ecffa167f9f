-- What is left of the frames after an instruction, on two machines that agree.
use Rattle.std.proofs.Common.{◌≡◌, ℕ, List, [], ◌∷◌, length, refl, subst, subst₂, Bool, true, false}
use Rattle.std.specs.Prelude.{Option, Some, None, take, drop, nat_le, if◌then◌else◌}
use Rattle.std.specs.Option.{option_map, option_and_then}
use Rattle.nr_linked.specs.declared.program.kind.Kind.{Kind}
use Rattle.nr_model.specs.declared.value.Value.{Value}
use Rattle.nr_model.specs.declared.value.Value.TheVariants.{Ref}
use Rattle.nr_model.specs.Heaps.{Obj, on_some}
use Rattle.nr_model.specs.Scripts.{Within, Ending}
use Rattle.nr_model.specs.States.{Frame, Control, Running}
use Rattle.nr_model.specs.Alike.{Like, like_ref, no_more, one_more, AlikeAt, alike_at, AlikeFrame, AlikeFrames, no_frame, one_frame, AlikeResult, AlikeControl, both_run, both_return, both_throw}
use Rattle.nr_model.proofs.Matchings.{AlikeEnding, both_go, both_threw, both_gave, both_called, AlikeWithin}
use Rattle.nr_linked.specs.declared.program.tables.MethodInfo.{MethodInfo}
use Rattle.nr_linked.specs.declared.program.tables.ProgramTables.{ProgramTables}
use Rattle.nr_linked.specs.Programs.{method_at}
use Rattle.nr_model.specs.CallRules.{operands_of}
use Rattle.nr_model.specs.Steps.{handler_at, unwound, next_offset, with_result, given, first_frame, entered, after}
use Rattle.nr_model.proofs.Pairing.{lengths}
use Rattle.nr_model.proofs.Frames.{all_take, all_drop, locals_like, result_on}

-- there is a rule on both sides, and it leaves alike what it leaves, or there is none on either
pub data AlikeNext (R : ℕ → ℕ → Type 0) : Option Control → Option Control → Type 0 where
  no_next : AlikeNext R None None
  one_next : {c d : Control} → AlikeControl R c d → AlikeNext R (Some c) (Some d)

pub next_both : (R : ℕ → ℕ → Type 0) (o p : Option Control) (c d : Control) → AlikeNext R o p → o ≡ Some c → p ≡ Some d → AlikeControl R c d
next_both R o p c d no_next e f = absurd (bad e)
  where
    bad : ◌≡◌ {A = Option Control} None (Some c) → ⊥
    bad e = cc
next_both R o p c d (one_next a) e f = subst₂ (AlikeControl R) (inside _ _ e) (inside _ _ f) a
  where
    inside : (c d : Control) → Some c ≡ Some d → c ≡ d
    inside c d e = cc

pub next_too : (R : ℕ → ℕ → Type 0) (o p : Option Control) (c : Control) → AlikeNext R o p → o ≡ Some c → (d : Control) × (p ≡ Some d)
next_too R o p c no_next e = absurd (bad e)
  where
    bad : ◌≡◌ {A = Option Control} None (Some c) → ⊥
    bad e = cc
next_too R o p c (one_next {d = d} a) e = (d, refl)

module _ (P : ProgramTables) (R : ℕ → ℕ → Type 0) where
  pub unwound_alike : (k : Kind) (u v : Value) (fs gs : List Frame) → Like R u v → AlikeFrames R fs gs → AlikeControl R (unwound P k u fs) (unwound P k v gs)
  unwound_alike k u v fs gs l no_frame = both_throw l
  unwound_alike k u v (f ∷ fs) (g ∷ gs) l (one_frame a bs) =
      subst₂ (λ m o. AlikeControl R (unwound P k u (f ∷ fs)) (on_some (handler_at P m o k) (unwound P k v gs) (λ t. Running (record g { offset = t; operands = v ∷ [] } ∷ gs)))) a.method a.offset
      (go (handler_at P f.method f.offset k) (unwound_alike k u v fs gs l bs))
    where
      go : (o : Option ℕ) → AlikeControl R (unwound P k u fs) (unwound P k v gs)
          → AlikeControl R (on_some o (unwound P k u fs) (λ t. Running (record f { offset = t; operands = u ∷ [] } ∷ fs))) (on_some o (unwound P k v gs) (λ t. Running (record g { offset = t; operands = v ∷ [] } ∷ gs)))
      go None ih = ih
      go (Some t) ih = both_run (one_frame (record { method = a.method; offset = refl; locals = a.locals; operands = one_more l no_more }) bs)

  pub given_alike : (u v : Option Value) (fs gs : List Frame) → AlikeResult R u v → AlikeFrames R fs gs → AlikeNext R (given P u fs) (given P v gs)
  given_alike u v fs gs l no_frame = one_next (both_return l)
  given_alike u v (f ∷ fs) (g ∷ gs) l (one_frame a bs) =
      subst₂ (λ m o. AlikeNext R (given P u (f ∷ fs)) (option_map (λ t. Running (record g { offset = t; operands = with_result v g.operands } ∷ gs)) (next_offset P m o))) a.method a.offset
      (go (next_offset P f.method f.offset))
    where
      go : (o : Option ℕ) → AlikeNext R (option_map (λ t. Running (record f { offset = t; operands = with_result u f.operands } ∷ fs)) o) (option_map (λ t. Running (record g { offset = t; operands = with_result v g.operands } ∷ gs)) o)
      go None = no_next
      go (Some t) = one_next (both_run (one_frame (record { method = a.method; offset = refl; locals = a.locals; operands = result_on R _ _ _ _ l a.operands }) bs))

  -- the caller's frame, and the called one, where there are operands enough
  abbrev entry : (i : MethodInfo) (m : ℕ) (f : Frame) (fs : List Frame) → Control
  entry i m f fs = Running (first_frame i m (take (operands_of i) f.operands) ∷ record f { operands = drop (operands_of i) f.operands } ∷ fs)

  pub entered_alike : (m : ℕ) (f g : Frame) (fs gs : List Frame) → AlikeFrame R f g → AlikeFrames R fs gs → AlikeNext R (entered P m f fs) (entered P m g gs)
  entered_alike m f g fs gs a bs = go (method_at P m)
    where
      body : (i : MethodInfo) → AlikeControl R (entry i m f fs) (entry i m g gs)
      body i = both_run (one_frame (record { method = refl; offset = refl; locals = locals_like R i _ _ (all_take R (operands_of i) _ _ a.operands); operands = no_more })
          (one_frame (record { method = a.method; offset = a.offset; locals = a.locals; operands = all_drop R (operands_of i) _ _ a.operands }) bs))

      choose : (b : Bool) (c d : Control) → AlikeControl R c d → AlikeNext R (if b then Some c else None) (if b then Some d else None)
      choose true c d l = one_next l
      choose false c d l = no_next

      go : (o : Option MethodInfo) → AlikeNext R (option_and_then (λ i. if nat_le (operands_of i) (length f.operands) then Some (entry i m f fs) else None) o)
          (option_and_then (λ i. if nat_le (operands_of i) (length g.operands) then Some (entry i m g gs) else None) o)
      go None = no_next
      go (Some i) = subst (λ n. AlikeNext R (if nat_le (operands_of i) (length f.operands) then Some (entry i m f fs) else None) (if nat_le (operands_of i) n then Some (entry i m g gs) else None))
          (lengths R _ _ a.operands) (choose (nat_le (operands_of i) (length f.operands)) (entry i m f fs) (entry i m g gs) (body i))

  pub after_alike : (e1 e2 : Ending) (w v : Within) (f g : Frame) (fs gs : List Frame) → AlikeEnding R e1 e2 → AlikeWithin R w v → AlikeFrame R f g → AlikeFrames R fs gs
      → AlikeNext R (after P e1 w f fs) (after P e2 v g gs)
  after_alike e1 e2 w v f g fs gs both_go a b bs = one_next (both_run (one_frame (record { method = b.method; offset = refl; locals = a.locals; operands = a.operands }) bs))
  after_alike e1 e2 w v f g fs gs (both_threw {x} {y} r) a b bs = go _ _ (a.heap.alike x y r)
    where
      go : (o p : Option Obj) → AlikeAt R o p → AlikeNext R (option_map (λ o. unwound P o.kind (Ref x) (f ∷ fs)) o) (option_map (λ o. unwound P o.kind (Ref y) (g ∷ gs)) p)
      go o p (alike_at {o = x1} {p = y1} n) = one_next (subst (λ k. AlikeControl R (unwound P x1.kind (Ref x) (f ∷ fs)) (unwound P k (Ref y) (g ∷ gs))) n.kind (unwound_alike x1.kind _ _ (f ∷ fs) (g ∷ gs) (like_ref r) (one_frame b bs)))
  after_alike e1 e2 w v f g fs gs (both_gave l) a b bs = given_alike _ _ fs gs l bs
  after_alike e1 e2 w v f g fs gs (both_called {m}) a b bs =
      entered_alike m _ _ fs gs (record { method = b.method; offset = b.offset; locals = a.locals; operands = a.operands }) bs
