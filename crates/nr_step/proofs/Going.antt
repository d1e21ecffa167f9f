-- How an instruction went, from the rule of its family, and from a throw by the machine.
use Rattle.std.proofs.Common.{◌≡◌, ℕ, zero, suc, ◌+◌, ◌<◌, ◌≤◌, ◌⊎◌, inl, inr, List, [], ◌∷◌, refl, sym, subst, ap, ◌∙◌, arith, Option, Some, None, Result, Ok, Err, IsOkUnless, IsSomeAnd}
use Rattle.std.specs.FinMap.{get, insert}
use Rattle.nr_linked.specs.declared.program.built_in.BuiltIn.{BuiltIn}
use Rattle.nr_linked.specs.declared.program.kind.Kind.{Kind}
use Rattle.nr_linked.specs.declared.program.tables.MethodInfo.{MethodInfo}
use Rattle.nr_linked.specs.declared.program.tables.ProgramTables.{ProgramTables}
use Rattle.nr_linked.specs.BuiltIns.{built_in}
use Rattle.nr_linked.specs.Kinds.{class_kind}
use Rattle.nr_linked.specs.Programs.{method_at}
use Rattle.nr_model.specs.Heaps.{Heap, Obj, cells, cells_of}
use Rattle.nr_model.specs.Outcomes.{max_cells}
use Rattle.nr_model.specs.Scripts.{Called, Ending, Gave, GoesTo, Make, OnTop, Plain, Runs, Script, Threw, Throw, Within, new_object}
use Rattle.nr_model.specs.CallRules.{out_rule}
use Rattle.nr_model.specs.Throws.{onward, throw_new, zeros}
use Rattle.nr_model.specs.declared.value.Value.{Value}
use Rattle.nr_model.specs.declared.value.Value.TheVariants.{Ref}
use Rattle.nr_model.proofs.Cells.{cells_new}
use Rattle.nr_heap.specs.declared.fault.HeapFault.{HeapFault}
use Rattle.nr_heap.specs.declared.fault.HeapFault.TheVariants.{HeapFull, NoMemory}
use Rattle.nr_heap.specs.Contents.{Contents, HasMade, object_of, reached}
use Rattle.nr_step.specs.declared.flow.Flow.{Flow}
use Rattle.nr_step.specs.declared.flow.Flow.TheVariants as flows
use Rattle.nr_step.specs.declared.flow.Told.{Told}
use Rattle.nr_step.specs.Flows.{Doing, HasMoreCells, Tells, ThrewNew, Went}

-- ---- by an equal script

on_top : (vs : List Value) (A B : Value → List Value → Type 0) → ((v : Value) (us : List Value) → A v us → B v us) → OnTop vs A → OnTop vs B
on_top [] A B f x = x
on_top (v ∷ vs) A B f x = f v vs x

pub went_by : (f : Flow) (P : ProgramTables) (S T : Doing) (w : Within) (told : Told) (u : Within) → ((n : Option ℕ) → S n ≡ T n) → Went f P T w told u → Went f P S w told u
went_by flows.Next P S T w told u same x = λ n. subst (λ sc. Runs sc w (GoesTo n) u) (sym (same (Some n))) (x n)
went_by flows.Branch P S T w told u same x = λ n. subst (λ sc. Runs sc w (GoesTo told.number) u) (sym (same n)) (x n)
went_by flows.Throw P S T w told u same x = (x.0, λ n. let y = x.1 n in (y.0, subst (λ sc. Runs sc w (Threw told.number) y.0) (sym (same n)) y.1, y.2, y.3))
went_by flows.Invoke P S T w told u same x = (x.0, λ n. subst (λ sc. Runs sc w (Called told.number) w) (sym (same n)) (x.1 n))
went_by flows.Print P S T w told u same x = (x.0, some (method_at P told.number) x.1)
  where
    some : (m : Option MethodInfo) → IsSomeAnd m (λ i. (n : Option ℕ) → out_rule P i (onward n) ≡ Some (T n)) → IsSomeAnd m (λ i. (n : Option ℕ) → out_rule P i (onward n) ≡ Some (S n))
    some None y = y
    some (Some i) y = λ n. y n ∙ sym (ap Some (same n))
went_by flows.Return P S T w told u same x = (x.0, λ n. subst (λ sc. Runs sc w (Gave None) w) (sym (same n)) (x.1 n))
went_by flows.ReturnTop P S T w told u same x = (x.0, on_top w.operands (λ v vs. (n : Option ℕ) → Runs (T n) w (Gave (Some v)) (record w { operands = vs })) (λ v vs. (n : Option ℕ) → Runs (S n) w (Gave (Some v)) (record w { operands = vs })) (λ v vs y n. subst (λ sc. Runs sc w (Gave (Some v)) (record w { operands = vs })) (sym (same n)) (y n)) x.1)
went_by flows.NoMemory P S T w told u same x = (x.0, λ n e v r. x.1 n e v (subst (λ sc. Runs sc w e v) (same n) r))
went_by flows.Full P S T w told u same x = (x.0, (x.1.0, λ n e v r. x.1.1 n e v (subst (λ sc. Runs sc w e v) (same n) r)))

-- ---- by a throw of the machine, which begins where the instruction has taken some operands

pub went_thrown : (f : Flow) (P : ProgramTables) (S : Doing) (sc : Script) (w v : Within) (told : Told) (h : Heap) → v.heap ≡ w.heap → v.printed ≡ []
    → ((n : Option ℕ) (e : Ending) (u : Within) → Runs sc v e u → Runs (S n) w e u) → ((n : Option ℕ) (e : Ending) (u : Within) → Runs (S n) w e u → Runs sc v e u)
    → ThrewNew f sc v told h → Went f P S w told (record w { heap = h })
went_thrown flows.Throw P S sc w v told h same none to from x = (refl, λ n. (x.0, to n (Threw told.number) x.0 x.1, x.2, x.3 ∙ none))
went_thrown flows.NoMemory P S sc w v told h same none to from x = (ap (λ h. record w { heap = h }) (x.0 ∙ same), λ n e u r. subst (λ h. HasMoreCells h u.heap) same (x.1 e u (from n e u r)))
went_thrown flows.Full P S sc w v told h same none to from x = (ap (λ h. record w { heap = h }) (x.0 ∙ same), (x.1, λ n e u r. x.2 e u (from n e u r)))
went_thrown f P S sc w v told h same none to from x = absurd x

-- ---- new objects

pub lt_or_ge : (a b : ℕ) → (a < b) ⊎ (b ≤ a)
lt_or_ge a zero = inr (omega arith)
lt_or_ge zero (suc b) = inl (omega arith)
lt_or_ge (suc a) (suc b) = elim (lt_or_ge a b) [ inl l ↦ inl (omega arith) | inr l ↦ inr (omega arith) ]

-- where there is no room, the number is that of the cells that the heap would have
pub full_number : (r : Result ℕ HeapFault) (m told : ℕ) → r ≡ Err (HeapFull told) → (max_cells < m → r ≡ Err (HeapFull m)) → (m ≤ max_cells → IsOkUnless r NoMemory) → (told ≡ m) × (max_cells < told)
full_number r m told e full other = by (lt_or_ge max_cells m)
  where
    told_is : max_cells < m → told ≡ m
    told_is l = let f = full l in cc

    other_is : (r : Result ℕ HeapFault) → r ≡ Err (HeapFull told) → IsOkUnless r NoMemory → ⊥
    other_is (Ok a) e o = cc
    other_is (Err x) e o = cc

    by : (max_cells < m) ⊎ (m ≤ max_cells) → (told ≡ m) × (max_cells < told)
    by (inl l) = let e = told_is l in (e, subst (λ n. max_cells < n) (sym e) l)
    by (inr l) = absurd (other_is r e (other l))

-- where memory ran out, there are not too many
pub few_reached : (r : Result ℕ HeapFault) (m told : ℕ) → r ≡ Err NoMemory → (max_cells < m → r ≡ Err (HeapFull told)) → m ≤ max_cells
few_reached r m told e full = by (lt_or_ge max_cells m)
  where
    never : r ≡ Err (HeapFull told) → ⊥
    never f = cc

    by : (max_cells < m) ⊎ (m ≤ max_cells) → m ≤ max_cells
    by (inl l) = absurd (never (full l))
    by (inr l) = l

-- the cells after a new object
pub made_cells : (c : Kind) (ps : List Plain) (k : Script) (w : Within) (told : ℕ) → told ≡ cells w.heap + cells_of (new_object c ps)
    → ((a : ℕ) (e : Ending) (u : Within) → Runs k (record w { heap = insert w.heap a (new_object c ps); operands = Ref a ∷ w.operands }) e u → u.heap ≡ insert w.heap a (new_object c ps))
    → (e : Ending) (u : Within) → Runs (Make c ps k) w e u → Tells told (cells u.heap)
made_cells c ps k w told is keeps e u r = inl (is ∙ sym (ap cells (keeps r.0 e u r.2) ∙ cells_new w.heap r.0 (new_object c ps) r.1))

-- there are more of them, and not too many where there is room for the object
pub made_more : (c : Kind) (ps : List Plain) (k : Script) (w : Within) → cells w.heap + cells_of (new_object c ps) ≤ max_cells
    → ((a : ℕ) (e : Ending) (u : Within) → Runs k (record w { heap = insert w.heap a (new_object c ps); operands = Ref a ∷ w.operands }) e u → u.heap ≡ insert w.heap a (new_object c ps))
    → (e : Ending) (u : Within) → Runs (Make c ps k) w e u → HasMoreCells w.heap u.heap
made_more c ps k w room keeps e u r =
    let n : cells u.heap ≡ cells w.heap + cells_of (new_object c ps) = ap cells (keeps r.0 e u r.2) ∙ cells_new w.heap r.0 (new_object c ps) r.1 in
    (omega (arith, n), subst (λ m. m ≤ max_cells) (sym n) room)

pub thrown_new : (P : ProgramTables) (b : BuiltIn) (w : Within) (old new : Contents) (name : ℕ) → w.heap ≡ old.objects → HasMade old new name (object_of P (built_in P b))
    → (v : Within) × Runs (throw_new P b) w (Threw name) v × (v.heap ≡ new.objects) × (v.printed ≡ w.printed)
thrown_new P b w old new name e m =
    let o : Obj = object_of P (built_in P b) in
    (record w { heap = insert w.heap name o }, (name, subst (λ h. get h name ≡ None) (sym e) m.fresh, (refl, refl)), ap (λ h. insert h name o) e ∙ sym m.objects, refl)

pub thrown_full : (P : ProgramTables) (b : BuiltIn) (w : Within) (h : Heap) (told : ℕ) → w.heap ≡ h → told ≡ reached h (object_of P (built_in P b))
    → (e : Ending) (u : Within) → Runs (throw_new P b) w e u → Tells told (cells u.heap)
thrown_full P b w h told s is e u r =
    made_cells (class_kind (built_in P b)) (zeros P (built_in P b)) Throw w told (is ∙ ap (λ h. cells h + cells_of (object_of P (built_in P b))) (sym s)) (λ a e u r. ap (λ (v : Within). v.heap) r.1) e u r

pub thrown_more : (P : ProgramTables) (b : BuiltIn) (w : Within) (h : Heap) → w.heap ≡ h → reached h (object_of P (built_in P b)) ≤ max_cells
    → (e : Ending) (u : Within) → Runs (throw_new P b) w e u → HasMoreCells w.heap u.heap
thrown_more P b w h s room e u r =
    made_more (class_kind (built_in P b)) (zeros P (built_in P b)) Throw w (subst (λ h. reached h (object_of P (built_in P b)) ≤ max_cells) (sym s) room) (λ a e u r. ap (λ (v : Within). v.heap) r.1) e u r
