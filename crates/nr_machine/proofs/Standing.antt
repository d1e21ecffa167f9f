-- States that stand can go on: what the code asks of the running frame.
use Rattle.std.proofs.Common.{◌≡◌, ℕ, zero, suc, ◌+◌, ◌-◌, ◌≤◌, List, [], ◌∷◌, ◌++◌, length, refl, sym, ap, subst, ◌∙◌, arith}
use Rattle.std.specs.Option.{option_and_then}
use Rattle.std.proofs.lemmas.Bool.{leb-true}
use Rattle.nr_model.specs.CallRules.{operands_of}
use Rattle.std.specs.Prelude.{Bool, Option, Some, None, IsSome, IsSomeAnd, drop, false, nat_le, replicate, reverse, take, true, if◌then◌else◌}
use Rattle.std.proofs.lemmas.List.{length-append, length-replicate, reverse-reverse}
use Rattle.nr_prog.specs.declared.body.whole.Body.{Body}
use Rattle.nr_linked.specs.declared.program.kind.Kind.{Kind}
use Rattle.nr_linked.specs.declared.program.tables.MethodInfo.{MethodInfo}
use Rattle.nr_linked.specs.declared.program.tables.ProgramTables.{ProgramTables}
use Rattle.nr_linked.specs.declared.program.types.VType.{VType}
use Rattle.nr_linked.specs.declared.program.types.VType.TheVariants as types
use Rattle.nr_linked.specs.Programs.{method_at}
use Rattle.nr_linked.specs.TypingFrames.{TypeFrame, size_of, total_size}
use Rattle.nr_model.specs.declared.value.Value.{Value}
use Rattle.nr_model.specs.declared.value.Value.TheVariants.{Null}
use Rattle.nr_model.specs.Belonging.{Belong, no_place, one_place}
use Rattle.nr_model.specs.Heaps.{Heap}
use Rattle.nr_model.specs.States.{Frame, Control, Running, Returned, Thrown}
use Rattle.nr_model.specs.Steps.{entered, first_frame, first_locals, spread}
use Rattle.nr_model.specs.Types.{Ty, operand_tys, local_tys}
use Rattle.nr_typed.specs.Standing.{Holds, Stands, AllStand, ControlStands}
use Rattle.nr_machine.specs.CallStacks.{CanBegin, CanEnter, CanGoOn, CanRun}
use Rattle.nr_machine.proofs.Calls.{some_both}

some_eq : {X : Type 0} {a b : X} → Some a ≡ Some b → a ≡ b
some_eq e = cc

as_many : (P : ProgramTables) (h : Heap) (ts : List Ty) (vs : List Value) → Belong P h ts vs → length vs ≡ length ts
as_many P h ts vs no_place = refl
as_many P h ts vs (one_place a q) = ap suc (as_many P h _ _ q)

locals_length : (m : MethodInfo) (n : ℕ) (ts : List VType) → length (local_tys m n ts) ≡ n
locals_length m zero ts = refl
locals_length m (suc n) [] = ap suc (locals_length m n [])
locals_length m (suc n) (t ∷ ts) = ap suc (locals_length m n ts)

operands_length : (m : MethodInfo) (ts : List VType) → length (operand_tys m ts) ≡ length ts
operands_length m [] = refl
operands_length m (t ∷ ts) = ap suc (operands_length m ts)

some_size : (t : VType) → 1 ≤ size_of t
some_size types.Top = omega arith
some_size types.Int = omega arith
some_size types.Long = omega arith
some_size types.Null = omega arith
some_size types.UninitThis = omega arith
some_size (types.Uninit n) = omega arith
some_size (types.Class k) = omega arith

each_size : (ts : List VType) → length ts ≤ total_size ts
each_size [] = omega arith
each_size (t ∷ ts) = omega (arith, some_size t, each_size ts)

module _ (P : ProgramTables) (frames : ℕ → List TypeFrame) (h : Heap) where
  pub stands_run : (f : Frame) → Stands P frames h f → CanRun P f
  stands_run f st = record {
    method = st.holds.method;
    site = st.holds.site;
    is_method = st.holds.is_method;
    is_site = st.holds.is_site;
    depth = omega (arith, as_many P h _ _ st.operands, operands_length st.holds.method st.holds.types.operands, each_size st.holds.types.operands, st.room);
  }

  pub goes_on : (result : Option Kind) (c : Control) → ControlStands P frames result h c → CanGoOn P c
  goes_on result (Running []) q = absurd q
  goes_on result (Running (f ∷ fs)) q = stands_run f q.0
  goes_on result (Returned v) q = tt
  goes_on result (Thrown v) q = tt

  pub locals_held : (f : Frame) (i : MethodInfo) → method_at P f.method ≡ Some i → Holds P frames h f → length f.locals ≡ i.max_locals
  locals_held f i e holds = as_many P h _ _ holds.locals ∙ locals_length holds.method holds.method.max_locals holds.types.locals ∙ ap (λ (i : MethodInfo). i.max_locals) (some_both holds.is_method e)

  -- the arguments of a frame that stands at its entry fit
  pub arguments_fit : (m : ℕ) (i : MethodInfo) (args : List Value) → method_at P m ≡ Some i → Stands P frames h (first_frame i m args) → length (spread (reverse args)) ≤ i.max_locals
  arguments_fit m i args e st =
      let l = locals_held (first_frame i m args) i e st.holds in
      omega (arith, l, length-append (spread (reverse args)) (replicate (i.max_locals - length (spread (reverse args))) Null))

-- a frame that calls has what entering takes, where the state after the call stands
module _ (P : ProgramTables) (frames : ℕ → List TypeFrame) (h : Heap) (result : Option Kind) (m : ℕ) (f : Frame) (fs : List Frame) (c : Control) (q : ControlStands P frames result h c) where
  abbrev after_call : MethodInfo → Control
  after_call i = Running (first_frame i m (take (operands_of i) f.operands) ∷ record f { operands = drop (operands_of i) f.operands } ∷ fs)

  found : (i : MethodInfo) → method_at P m ≡ Some i → (b : Bool) → nat_le (operands_of i) (length f.operands) ≡ b → (if b then Some (after_call i) else None) ≡ Some c → CanEnter P m f
  found i g false t e = absurd cc
  found i g true t e =
      let st : Stands P frames h (first_frame i m (take (operands_of i) f.operands)) = (subst (ControlStands P frames result h) (some_eq (sym e)) q).0 in
      record {
        method = i;
        body = st.holds.body;
        is_method = g;
        is_body = subst (λ (i : MethodInfo). i.body ≡ Some st.holds.body) (some_both st.holds.is_method g) st.holds.is_body;
        enough = leb-true (operands_of i) (length f.operands) t;
        fits = arguments_fit P frames h m i (take (operands_of i) f.operands) g st;
      }

  pub can_enter : entered P m f fs ≡ Some c → CanEnter P m f
  can_enter e = by (method_at P m) refl e
    where
      by : (o : Option MethodInfo) → method_at P m ≡ o → option_and_then (λ i. if nat_le (operands_of i) (length f.operands) then Some (after_call i) else None) o ≡ Some c → CanEnter P m f
      by None g e = absurd cc
      by (Some i) g e = found i g (nat_le (operands_of i) (length f.operands)) refl e
