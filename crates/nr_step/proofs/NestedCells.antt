-- The cells of a nest of arrays: each of its runs takes as many as the product sum of its counts.
use Rattle.std.proofs.Common.{◌≡◌, ℕ, zero, suc, ◌+◌, ◌*◌, ◌-◌, ◌^◌, ◌<◌, ◌≤◌, ◌⊎◌, inl, inr, List, [], ◌∷◌, length, Option, Some, None, min, refl, sym, subst, ap, ◌∙◌, true, false, arith, Result, Ok, Err, IsOkUnless}
use Rattle.std.specs.Prelude.{slice_get, slice_set}
use Rattle.std.specs.FinMap.{get, insert}
use Rattle.std.specs.List.{list_any}
use Rattle.std.proofs.lemmas.List.{length-set}
use Rattle.nr_linked.specs.declared.program.built_in.BuiltIn.TheVariants.{NegativeArraySizeException}
use Rattle.nr_linked.specs.declared.program.kind.Kind.{Kind}
use Rattle.nr_linked.specs.declared.program.tables.ProgramTables.{ProgramTables}
use Rattle.nr_linked.specs.Kinds.{element_of}
use Rattle.nr_model.specs.declared.value.Value.{Value}
use Rattle.nr_model.specs.declared.value.Value.TheVariants.{Int, Long, Null, Ref}
use Rattle.nr_model.specs.ArrayRules.{fill, make_array, nested, new_arrays}
use Rattle.nr_model.specs.Heaps.{Heap, Obj, cells}
use Rattle.nr_model.specs.Outcomes.{max_cells}
use Rattle.nr_model.specs.Scripts.{Ending, IsIn, OnObject, OnTop, Runs, Script, Within, WriteSlot, with_slot}
use Rattle.nr_model.specs.Throws.{onward, throw_new, with_found}
use Rattle.nr_model.proofs.Cells.{cells_new, cells_write}
use Rattle.nr_heap.specs.declared.fault.HeapFault.{HeapFault}
use Rattle.nr_heap.specs.declared.fault.HeapFault.TheVariants.{HeapFull, NoMemory}
use Rattle.nr_heap.specs.Contents.{array_with}
use Rattle.nr_step.specs.declared.flow.Flow.{Flow}
use Rattle.nr_step.specs.declared.flow.Flow.TheVariants as flows
use Rattle.nr_step.specs.declared.flow.Told.{Told}
use Rattle.nr_step.specs.Flows.{Doing, Tells, ThrewNew, Went}
use Rattle.nr_step.specs.NestedArrays.{counts_in, is_negative, nest_cells}
use Rattle.nr_step.specs.Windows.{Leads, top_first, view}
use Rattle.nr_step.proofs.Going.{lt_or_ge, went_by, went_thrown}
use Rattle.nr_step.proofs.NestedArrays.{array_cells}
use Rattle.nr_step.proofs.NestedRules.{IntsAt, by_counts, by_stack, counts_at, from_counts, to_counts}
use Rattle.nr_step.proofs.Objects.{at_some}
use Rattle.nr_step.proofs.Rows.{nothing_left}

-- ---- what each run takes

-- each run goes on with so many cells more
abbrev Grows : (Script → Script) → ℕ → Type 0
Grows F g = (k : Script) (w u : Within) (e : Ending) → Runs (F k) w e u → (v : Within) × Runs k v e u × (cells v.heap ≡ cells w.heap + g)

write_keeps : (i : ℕ) (k : Script) (w u : Within) (e : Ending) → Runs (WriteSlot i k) w e u → (v : Within) × Runs k v e u × (cells v.heap ≡ cells w.heap)
write_keeps i k w u e r = go w.operands r
  where
    after : ℕ → Obj → Value → List Value → Within
    after a o x us = record w { heap = with_slot w.heap a o i x; operands = us }

    go : (vs : List Value) → OnTop vs (λ x us. OnTop us (λ v vs. OnObject w.heap v (λ a o. IsIn i o.slots × Runs k (record w { heap = with_slot w.heap a o i x; operands = vs }) e u))) → (v : Within) × Runs k v e u × (cells v.heap ≡ cells w.heap)
    go [] r = absurd r
    go (x ∷ []) r = absurd r
    go (x ∷ Int n ∷ us) r = absurd r
    go (x ∷ Long n ∷ us) r = absurd r
    go (x ∷ Null ∷ us) r = absurd r
    go (x ∷ Ref a ∷ us) r =
        let o = at_some (get w.heap a) (λ o. IsIn i o.slots × Runs k (record w { heap = with_slot w.heap a o i x; operands = us }) e u) r in
        (record w { heap = with_slot w.heap a o.0 i x; operands = us }, o.2.1, cells_write w.heap a o.0 (record o.0 { slots = slice_set o.0.slots i x }) o.1 (length-set o.0.slots i x))

array_grows : (e : Kind) (n : ℕ) → Grows (make_array e n) (n + 1)
array_grows e n k w u en r =
    (record w { heap = insert w.heap r.0 (array_with e n); operands = Ref r.0 ∷ w.operands }, r.2, cells_new w.heap r.0 (array_with e n) r.1 ∙ ap (λ m. cells w.heap + m) (array_cells e n))

fill_grows : (i : ℕ) (make : Script → Script) (g : ℕ) → Grows make g → Grows (fill i make) (i * g)
fill_grows zero make g grows k w u e r = (w, r, omega arith)
fill_grows (suc i) make g grows k w u e r =
    let x = at_some (slice_get w.operands 0) (λ v. Runs (make (WriteSlot i (fill i make k))) (record w { operands = v ∷ w.operands }) e u) r in
    let a = grows (WriteSlot i (fill i make k)) (record w { operands = x.0 ∷ w.operands }) u e x.2 in
    let b = write_keeps i (fill i make k) a.0 u e a.1 in
    let c = fill_grows i make g grows k b.0 u e b.1 in
    let p : suc i * g ≡ g + i * g = omega arith in
    let q = a.2 in
    let s = b.2 in
    let t = c.2 in
    (c.0, c.1, omega (arith, p, q, s, t))

nest_grows : (ns : List ℕ) (kind : Kind) → Grows (nested kind ns) (nest_cells ns)
nest_grows [] kind k w u en r = absurd r
nest_grows (n ∷ []) kind k w u en r = by (element_of kind) r
  where
    by : (o : Option Kind) → Runs (with_found o (λ e. make_array e n k)) w en u → (v : Within) × Runs k v en u × (cells v.heap ≡ cells w.heap + nest_cells (n ∷ []))
    by None r = absurd r
    by (Some e) r = let x = array_grows e n k w u en r in let q = x.2 in let z : n * 0 ≡ 0 = omega arith in (x.0, x.1, omega (arith, q, z))
nest_grows (n ∷ m ∷ ns) kind k w u en r = by (element_of kind) (λ e. nest_grows (m ∷ ns) e) r
  where
    by : (o : Option Kind) → ((e : Kind) → Grows (nested e (m ∷ ns)) (nest_cells (m ∷ ns))) → Runs (with_found o (λ e. make_array e n (fill n (nested e (m ∷ ns)) k))) w en u → (v : Within) × Runs k v en u × (cells v.heap ≡ cells w.heap + nest_cells (n ∷ m ∷ ns))
    by None inner r = absurd r
    by (Some e) inner r =
        let x = array_grows e n (fill n (nested e (m ∷ ns)) k) w u en r in
        let y = fill_grows n (nested e (m ∷ ns)) (nest_cells (m ∷ ns)) (inner e) k x.0 u en x.1 in
        let q = x.2 in
        let s = y.2 in
        (y.0, y.1, omega (arith, q, s))

-- ---- how the instruction goes

abbrev nest_after : Kind → Script → List ℕ → Script
nest_after kind k ns = nested kind ns k

-- where no count is negative, it goes on as the nest does
not_negative : (P : ProgramTables) (kind : Kind) (xs : List Value) (k : Script) (w u : Within) (e : Ending) → list_any is_negative xs ≡ false → Runs (by_stack P xs (nest_after kind k)) w e u → Runs (nested kind (counts_in xs) k) w e u
not_negative P kind xs k w u e f r = subst (λ b. Runs (by_counts P b (counts_in xs) (nest_after kind k)) w e u) f r

is_positive : (P : ProgramTables) (kind : Kind) (xs : List Value) (k : Script) (w u : Within) (e : Ending) → list_any is_negative xs ≡ false → Runs (nested kind (counts_in xs) k) w e u → Runs (by_stack P xs (nest_after kind k)) w e u
is_positive P kind xs k w u e f r = subst (λ b. Runs (by_counts P b (counts_in xs) (nest_after kind k)) w e u) (sym f) r

-- the cells that each run leaves
cells_left : (P : ProgramTables) (kind : Kind) (stack : List Value) (b d depth : ℕ) (h : Heap) (ls : List Value) (n : Option ℕ) (e : Ending) (u : Within) → b + d ≡ depth → depth ≤ length stack → list_any is_negative (counts_at stack b depth) ≡ false
    → Runs (new_arrays P kind d (onward n)) (view h ls (top_first stack depth)) e u → cells u.heap ≡ cells h + nest_cells (counts_in (counts_at stack b depth))
cells_left P kind stack b d depth h ls n e u q m f r =
    let xs = counts_at stack b depth in
    let x = nest_grows (counts_in xs) kind (onward n) (view h ls (top_first stack b)) u e
    (not_negative P kind xs (onward n) (view h ls (top_first stack b)) u e f (from_counts P stack b d depth (nest_after kind (onward n)) h ls e u q m r)) in
    ap (λ (w : Within). cells w.heap) (nothing_left n x.0 u e x.1) ∙ x.2

pub nest_leads : (P : ProgramTables) (kind : Kind) (stack : List Value) (b d depth : ℕ) (h new : Heap) (ls us : List Value) (name : ℕ) → b + d ≡ depth → depth ≤ length stack → IntsAt stack b depth → list_any is_negative (counts_at stack b depth) ≡ false
    → Leads (nested kind (counts_in (counts_at stack b depth))) (view h ls (top_first stack b)) (view new ls (Ref name ∷ top_first stack b)) → us ≡ Ref name ∷ top_first stack b
    → Leads (new_arrays P kind d) (view h ls (top_first stack depth)) (view new ls us)
nest_leads P kind stack b d depth h new ls us name q m a f l put = λ k e u r.
    to_counts P stack b d depth (nest_after kind k) h ls e u q m a
    (is_positive P kind (counts_at stack b depth) k (view h ls (top_first stack b)) u e f (l k e u (subst (λ us. Runs k (view new ls us) e u) put r)))

pub nest_refused : (flow : Flow) (P : ProgramTables) (S : Doing) (kind : Kind) (stack : List Value) (b d depth : ℕ) (h j : Heap) (ls : List Value) (told : Told) → b + d ≡ depth → depth ≤ length stack → IntsAt stack b depth
    → list_any is_negative (counts_at stack b depth) ≡ true → ((n : Option ℕ) → S n ≡ new_arrays P kind d (onward n)) → ((w : Within) → w.heap ≡ h → ThrewNew flow (throw_new P NegativeArraySizeException) w told j)
    → Went flow P S (view h ls (top_first stack depth)) told (view j ls (top_first stack depth))
nest_refused flow P S kind stack b d depth h j ls told q m a f same x =
    let xs = counts_at stack b depth in
    let v = view h ls (top_first stack b) in
    went_by flow P S (λ n. new_arrays P kind d (onward n)) (view h ls (top_first stack depth)) told (view j ls (top_first stack depth)) same
    (went_thrown flow P (λ n. new_arrays P kind d (onward n)) (throw_new P NegativeArraySizeException) (view h ls (top_first stack depth)) v told j refl refl
    (λ n e u r. to_counts P stack b d depth (nest_after kind (onward n)) h ls e u q m a (subst (λ c. Runs (by_counts P c (counts_in xs) (nest_after kind (onward n))) v e u) (sym f) r))
    (λ n e u r. subst (λ c. Runs (by_counts P c (counts_in xs) (nest_after kind (onward n))) v e u) f (from_counts P stack b d depth (nest_after kind (onward n)) h ls e u q m r))
    (x v refl))

-- the number that is told
nest_number : (r : Result ℕ HeapFault) (n told : ℕ) → r ≡ Err (HeapFull told) → (max_cells < n → r ≡ Err (HeapFull (min n (2 ^ 64 - 1)))) → (n ≤ max_cells → IsOkUnless r NoMemory) → (told ≡ min n (2 ^ 64 - 1)) × (max_cells < n)
nest_number r n told e full other = by (lt_or_ge max_cells n)
  where
    told_is : max_cells < n → told ≡ min n (2 ^ 64 - 1)
    told_is l = let f = full l in cc

    other_is : (r : Result ℕ HeapFault) → r ≡ Err (HeapFull told) → IsOkUnless r NoMemory → ⊥
    other_is (Ok a) e o = cc
    other_is (Err x) e o = cc

    by : (max_cells < n) ⊎ (n ≤ max_cells) → (told ≡ min n (2 ^ 64 - 1)) × (max_cells < n)
    by (inl l) = (told_is l, l)
    by (inr l) = absurd (other_is r e (other l))

tells_least : (told n : ℕ) → told ≡ min n (2 ^ 64 - 1) → Tells told n
tells_least told n e = by (lt_or_ge (2 ^ 64 - 1) n)
  where
    by : (2 ^ 64 - 1 < n) ⊎ (n ≤ 2 ^ 64 - 1) → Tells told n
    by (inl l) = inr (omega (arith, e, l), omega (arith, e, l))
    by (inr l) = inl (omega (arith, e, l))

pub nest_fills : (P : ProgramTables) (S : Doing) (kind : Kind) (stack : List Value) (b d depth : ℕ) (h j : Heap) (ls : List Value) (told : Told) (r : Result ℕ HeapFault) → b + d ≡ depth → depth ≤ length stack
    → list_any is_negative (counts_at stack b depth) ≡ false → ((n : Option ℕ) → S n ≡ new_arrays P kind d (onward n)) → j ≡ h → r ≡ Err (HeapFull told.cells)
    → (max_cells < cells h + nest_cells (counts_in (counts_at stack b depth)) → r ≡ Err (HeapFull (min (cells h + nest_cells (counts_in (counts_at stack b depth))) (2 ^ 64 - 1))))
    → (cells h + nest_cells (counts_in (counts_at stack b depth)) ≤ max_cells → IsOkUnless r NoMemory) → Went flows.Full P S (view h ls (top_first stack depth)) told (view j ls (top_first stack depth))
nest_fills P S kind stack b d depth h j ls told r q m f same kept is full other =
    let x = nest_number r (cells h + nest_cells (counts_in (counts_at stack b depth))) told.cells is full other in
    let t = x.0 in
    let l = x.1 in
    went_by flows.Full P S (λ n. new_arrays P kind d (onward n)) (view h ls (top_first stack depth)) told (view j ls (top_first stack depth)) same (
      ap (λ h. view h ls (top_first stack depth)) kept,
      (
        omega (arith, t, l),
        λ n e u z. subst (λ c. Tells told.cells c) (sym (cells_left P kind stack b d depth h ls n e u q m f z)) (tells_least told.cells (cells h + nest_cells (counts_in (counts_at stack b depth))) t),
      ),
    )

some_cells : (xs : List Value) → 0 < length xs → 0 < nest_cells (counts_in xs)
some_cells [] l = absurd (omega arith)
some_cells (x ∷ xs) l = omega arith

pub nest_unmade : (P : ProgramTables) (S : Doing) (kind : Kind) (stack : List Value) (b d depth : ℕ) (h j : Heap) (ls : List Value) (told : Told) → b + d ≡ depth → depth ≤ length stack → 0 < length (counts_at stack b depth)
    → list_any is_negative (counts_at stack b depth) ≡ false → ((n : Option ℕ) → S n ≡ new_arrays P kind d (onward n)) → j ≡ h
    → cells h + nest_cells (counts_in (counts_at stack b depth)) ≤ max_cells → Went flows.NoMemory P S (view h ls (top_first stack depth)) told (view j ls (top_first stack depth))
nest_unmade P S kind stack b d depth h j ls told q m l f same kept few =
    went_by flows.NoMemory P S (λ n. new_arrays P kind d (onward n)) (view h ls (top_first stack depth)) told (view j ls (top_first stack depth)) same (
      ap (λ h. view h ls (top_first stack depth)) kept,
      λ n e u r. let c = cells_left P kind stack b d depth h ls n e u q m f r in let s = some_cells (counts_at stack b depth) l in (omega (arith, c, s), subst (λ n. n ≤ max_cells) (sym c) few),
    )
