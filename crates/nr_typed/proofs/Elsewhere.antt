-- A state that stands in its heap also stands in another typed heap that has its names with their kinds.
use Rattle.std.proofs.Common.{◌≡◌, ℕ, zero, suc, List, [], ◌∷◌, sym, subst, ◌∙◌, T}
use Rattle.std.specs.Prelude.{Option, Some, None, IsSomeAnd, drop}
use Rattle.std.specs.FinMap.{get}
use Rattle.nr_linked.specs.declared.program.kind.Kind.{Kind}
use Rattle.nr_linked.specs.declared.program.tables.MethodInfo.{MethodInfo}
use Rattle.nr_linked.specs.declared.program.tables.ProgramTables.{ProgramTables}
use Rattle.nr_linked.specs.declared.program.types.VType.{VType}
use Rattle.nr_linked.specs.declared.program.types.VType.TheVariants as types
use Rattle.nr_linked.specs.Kinds.{class_kind}
use Rattle.nr_linked.specs.Subtypes.{is_assignable}
use Rattle.nr_linked.specs.TypingFrames.{TypeFrame}
use Rattle.nr_linked.specs.TypingCalls.{class_made_at}
use Rattle.nr_model.specs.declared.value.Value.{Value}
use Rattle.nr_model.specs.declared.value.Value.TheVariants.{Int, Long, Null, Ref}
use Rattle.nr_model.specs.Heaps.{Heap, on_some}
use Rattle.nr_model.specs.CallRules.{operands_of}
use Rattle.nr_model.specs.States.{Frame, Control, Running, Returned, Thrown, State}
use Rattle.nr_model.specs.Types.{Ty, Anything, Word, AnInt, Small, ALong, JustNull, Nullable, Object, Just, Exact, kind_ty, ty_of, operand_tys, local_tys}
use Rattle.nr_model.specs.Belonging.{Belongs, Belong, no_place, one_place, IsResult}
use Rattle.nr_model.specs.TypedHeaps.{TypedHeap, KeepsNames}
use Rattle.nr_typed.specs.Standing.{Holds, AllWait, throwable, ControlStands, StandsIn}
use Rattle.nr_typed.proofs.Assigning.{by_kind}
use Rattle.nr_typed.proofs.Typed.{some_of, at_some}

-- the type says nothing of lengths
abbrev Lengthless : Ty → Type 0
Lengthless (Exact k n) = ⊥
Lengthless t = Unit {0}

module _ (P : ProgramTables) (frames : ℕ → List TypeFrame) (h k : Heap) (n : KeepsNames h k) where
  kind_on : (c : Kind) (a : ℕ) → IsSomeAnd (get h a) (λ o. T (is_assignable P o.kind c)) → IsSomeAnd (get k a) (λ o. T (is_assignable P o.kind c))
  kind_on c a b =
      let o = some_of (get h a) (λ o. T (is_assignable P o.kind c)) b in
      let p = n.at a o.0 o.1 in
      at_some (get k a) p.0 (λ o. T (is_assignable P o.kind c)) p.1 (subst (λ k. T (is_assignable P k c)) (sym p.2) o.2)

  value_on : (t : Ty) (v : Value) → Lengthless t → Belongs P h t v → Belongs P k t v
  value_on Anything v l q = tt
  value_on Word v l q = q
  value_on AnInt v l q = q
  value_on (Small b) v l q = q
  value_on ALong v l q = q
  value_on JustNull v l q = q
  value_on (Nullable c) Null l q = tt
  value_on (Nullable c) (Ref a) l q = kind_on c a q
  value_on (Nullable c) (Int i) l q = q
  value_on (Nullable c) (Long i) l q = q
  value_on (Object c) (Ref a) l q = kind_on c a q
  value_on (Object c) Null l q = q
  value_on (Object c) (Int i) l q = q
  value_on (Object c) (Long i) l q = q
  value_on (Just c) (Ref a) l q =
      let o = some_of (get h a) (λ o. o.kind ≡ c) q in let p = n.at a o.0 o.1 in at_some (get k a) p.0 (λ o. o.kind ≡ c) p.1 (p.2 ∙ o.2)
  value_on (Just c) Null l q = q
  value_on (Just c) (Int i) l q = q
  value_on (Just c) (Long i) l q = q
  value_on (Exact c i) v l q = absurd l

  lengthless : (top : Ty) → Lengthless top → (m : MethodInfo) (t : VType) → Lengthless (ty_of top m t)
  lengthless top l m types.Top = l
  lengthless top l m types.Int = tt
  lengthless top l m types.Long = tt
  lengthless top l m types.Null = tt
  lengthless top l m types.UninitThis = tt
  lengthless top l m (types.Uninit i) = made (class_made_at m i)
    where
      made : (o : Option ℕ) → Lengthless (on_some o JustNull (λ c. Just (class_kind c)))
      made None = tt
      made (Some c) = tt
  lengthless top l m (types.Class c) = tt

  operands_on : (m : MethodInfo) (ts : List VType) (vs : List Value) → Belong P h (operand_tys m ts) vs → Belong P k (operand_tys m ts) vs
  operands_on m [] vs no_place = no_place
  operands_on m (t ∷ ts) vs (one_place a q) = one_place (value_on (ty_of Word m t) _ (lengthless Word tt m t) a) (operands_on m ts _ q)

  locals_on : (m : MethodInfo) (i : ℕ) (ts : List VType) (vs : List Value) → Belong P h (local_tys m i ts) vs → Belong P k (local_tys m i ts) vs
  locals_on m zero ts vs no_place = no_place
  locals_on m (suc i) [] vs (one_place a q) = one_place tt (locals_on m i [] _ q)
  locals_on m (suc i) (t ∷ ts) vs (one_place a q) = one_place (value_on (ty_of Anything m t) _ (lengthless Anything tt m t) a) (locals_on m i ts _ q)

  abbrev held : (f : Frame) → Holds P frames h f → Holds P frames k f
  held f x = record {
    method = x.method;
    body = x.body;
    site = x.site;
    types = x.types;
    is_method = x.is_method;
    is_body = x.is_body;
    is_site = x.is_site;
    is_types = x.is_types;
    locals = locals_on x.method x.method.max_locals x.types.locals f.locals x.locals;
  }

  pub all_wait : (result : Option Kind) (r : ℕ) (fs : List Frame) → AllWait P frames result h r fs → AllWait P frames result k r fs
  all_wait result r [] q = q
  all_wait result r (f ∷ fs) q = let w = q.0 in (
    record {
      holds = held f w.holds;
      is_call = w.is_call;
      named = w.named;
      owner = w.owner;
      is_named = w.is_named;
      target = w.target;
      is_target = w.is_target;
      above = w.above;
      is_above = w.is_above;
      same = w.same;
      operands = operands_on w.holds.method (drop (operands_of w.target) w.holds.types.operands) f.operands w.operands;
    },
    all_wait result f.method fs q.1,
  )

  kind_lengthless : (c : Kind) → Lengthless (kind_ty c)
  kind_lengthless c = by_kind (λ c. Lengthless (kind_ty c)) (λ c e. rw e tt) tt tt tt tt tt tt c

  result_on : (result : Option Kind) (v : Option Value) → IsResult P h result v → IsResult P k result v
  result_on None None q = q
  result_on None (Some v) q = q
  result_on (Some c) None q = q
  result_on (Some c) (Some v) q = value_on (kind_ty c) v (kind_lengthless c) q

  control_on : (result : Option Kind) (c : Control) → ControlStands P frames result h c → ControlStands P frames result k c
  control_on result (Running []) q = q
  control_on result (Running (f ∷ fs)) q = let s = q.0 in (record { holds = held f s.holds; operands = operands_on s.holds.method s.holds.types.operands f.operands s.operands; room = s.room }, all_wait result f.method fs q.1)
  control_on result (Returned v) q = result_on result v q
  control_on result (Thrown v) q = value_on (throwable P) v tt q

pub stands_elsewhere : (P : ProgramTables) (frames : ℕ → List TypeFrame) (result : Option Kind) (s : State) (k : Heap) → KeepsNames s.heap k → TypedHeap P k → StandsIn P frames result s → StandsIn P frames result (record s { heap = k })
stands_elsewhere P frames result s k n th st = record { heap = th; control = control_on P frames s.heap k n result s.control st.control }
