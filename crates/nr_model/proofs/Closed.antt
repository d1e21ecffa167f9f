-- Runs and restores keep heaps closed: each reference is to an object of the heap.
use Rattle.std.proofs.Common.{◌≡◌, ◌≢◌, ℕ, List, [], ◌∷◌, refl, sym, ap, subst, ◌∙◌, inl, inr}
use Rattle.std.specs.Prelude.{Option, Some, None}
use Rattle.std.specs.FinMap.{get}
use Rattle.nr_linked.specs.declared.program.tables.ProgramTables.{ProgramTables}
use Rattle.nr_model.specs.declared.value.Value.{Value}
use Rattle.nr_model.specs.Heaps.{Obj, Heap, on_some}
use Rattle.nr_model.specs.States.{Frame, Control, Running, Returned, Thrown, State}
use Rattle.nr_model.specs.Alike.{like_int, like_long, like_null, like_ref, AlikeAt, AlikeResult, no_result, one_result, Any}
use Rattle.nr_model.specs.Pairs.{name_in, name_at, slot_name, IsClosed, IsPair, InFrames, InControl, NamedInFrames, NamedIn}
use Rattle.nr_model.specs.Steps.{Run}
use Rattle.nr_model.specs.LocalEntries.{BackAndResults, RestoresPairs}
use Rattle.nr_model.proofs.Heaps.{held_left, held_right, sum_left}
use Rattle.nr_model.proofs.Matchings.{Matched, OnLeft}
use Rattle.nr_model.proofs.Paths.{none_some, at_match, paired_matched}
use Rattle.nr_model.proofs.Runs.{LaterState, runs_paired}
use Rattle.nr_model.proofs.Kept.{start_pair, control_names}
use Rattle.nr_model.proofs.Reached.{Self, any_at, both_eq, control_self}
use Rattle.nr_model.proofs.Relations.{Back, back_matched, name_over}
use Rattle.nr_model.proofs.Restores.{on_list}

-- a closed heap beside itself
pub closed_matched : (h : Heap) → IsClosed h → Matched (Self (λ x. get h x ≢ None)) h h
closed_matched h closed = record {
  one_right = λ x y z r s. sym r.1 ∙ s.1;
  one_left = λ x y z r s. r.1 ∙ sym s.1;
  alike = λ x y r. subst (λ z. AlikeAt (Self (λ x. get h x ≢ None)) (get h x) (get h z)) r.1
      (at_match _ _ _ (any_at _ r.0) (λ i b c e f. (closed x i b e, both_eq (slot_name h x i) b c e f)));
}

-- a name of an end or of frames stands there beside itself
frames_beside : (fs : List Frame) (x : ℕ) → NamedInFrames fs x → InFrames fs fs x x
frames_beside [] x n = absurd n
frames_beside (f ∷ fs) x (inl i) = inl (i.0, i.1, i.1)
frames_beside (f ∷ fs) x (inr (inl i)) = inr (inl (i.0, i.1, i.1))
frames_beside (f ∷ fs) x (inr (inr i)) = inr (inr (frames_beside fs x i))

pub control_beside : (c : Control) (x : ℕ) → NamedIn c x → InControl c c x x
control_beside (Running fs) x n = frames_beside fs x n
control_beside (Returned v) x n = (n, n)
control_beside (Thrown v) x n = (n, n)

-- ---- a run

module _ (P : ProgramTables) (n : ℕ) (s t : State) (closed : IsClosed s.heap) (held : (x : ℕ) → NamedIn s.control x → get s.heap x ≢ None) (r : Run P s n t) where
  abbrev R : ℕ → ℕ → Type 0
  R = Self (λ x. get s.heap x ≢ None)

  l : LaterState R s s t t
  l = runs_paired P n R s s t t (record { heap = closed_matched s.heap closed; control = control_self R s.control (λ a i. (held a i, refl)); printed = refl }) r r

  -- what a related object names is there
  named_there : (x i y : ℕ) → OnLeft l.now x → slot_name t.heap x i ≡ Some y → get t.heap y ≢ None
  named_there x i y o e =
      let w = name_over l.now t.heap t.heap l.alike.heap (get t.heap x) (get t.heap o.0) i y (l.alike.heap.alike x o.0 o.1) e in
      held_left l.now _ _ (l.alike.heap.alike y w.0 w.2)

  run_closed : IsClosed t.heap
  run_closed x i y e none = go (get s.heap x) refl
    where
      not_related : OnLeft l.now x → ⊥
      not_related o = named_there x i y o e none

      go : (o : Option Obj) → get s.heap x ≡ o → ⊥
      go None f = none_some (sym (ap (λ o. on_some o None (λ o. name_at o.slots i)) (l.moved.left_new x f not_related)) ∙ e)
      go (Some o) f = not_related (x, l.moved.older x x ((λ g. none_some (sym g ∙ f)), refl))

  run_held : (x : ℕ) → NamedIn t.control x → get t.heap x ≢ None
  run_held x i = held_left l.now _ _ (l.alike.heap.alike x x (control_names l.now t.heap t.heap l.alike.heap t.control t.control x x l.alike.control (control_beside t.control x i)))

  pub run_keeps_closed : IsClosed t.heap × ((x : ℕ) → NamedIn t.control x → get t.heap x ≢ None)
  run_keeps_closed = (run_closed, run_held)

-- ---- a restore

result_name : (v w : Option Value) (x : ℕ) → AlikeResult Any v w → on_some w None name_in ≡ Some x → (y : ℕ) × (on_some v None name_in ≡ Some y)
result_name v w x no_result e = absurd (none_some e)
result_name v w x (one_result like_int) e = absurd (none_some e)
result_name v w x (one_result like_long) e = absurd (none_some e)
result_name v w x (one_result like_null) e = absurd (none_some e)
result_name v w x (one_result (like_ref {x = y} r)) e = (y, refl)

module _ (h r k : Heap) (ps : List (ℕ × ℕ)) (v w : Option Value) (closed : IsClosed h) (restores : RestoresPairs h ps k v r w) where
  abbrev Start : ℕ → ℕ → Type 0
  Start = BackAndResults h ps v w

  abbrev T : ℕ → ℕ → Type 0
  T = IsPair Start k r

  m : Matched T k r
  m = paired_matched Start k r restores.heaps

  pair_held : (y z : ℕ) → T y z → get r z ≢ None
  pair_held y z p = held_right T _ _ (m.alike y z p)

  old_held : (x : ℕ) → get h x ≢ None → get r x ≢ None
  old_held x n = sum_left (on_list ps x)
      (λ i. pair_held i.0 x (start_pair Start k r i.0 x (inl (i.1, n))))
      (λ o. λ e. n (sym (restores.rest x n (λ y i. o (y, i))) ∙ e))

  result_held : (x : ℕ) → on_some w None name_in ≡ Some x → get r x ≢ None
  result_held x e =
      let y = result_name v w x restores.results e in
      pair_held y.0 x (start_pair Start k r y.0 x (inr (y.1, e)))

  -- what a restored object names is there
  named_by_pair : (y z i b : ℕ) → T y z → slot_name r z i ≡ Some b → get r b ≢ None
  named_by_pair y z i b p e =
      let back : Matched (Back T) r k = back_matched T k r m in
      let c = name_over (Back T) r k back (get r z) (get k y) i b (back.alike z y p) e in
      pair_held c.0 b c.2

  restored_closed : IsClosed r
  restored_closed z i b e = go (get r z) refl
    where
      by_old : get h z ≢ None → get r b ≢ None
      by_old n = sum_left (on_list ps z)
          (λ j. named_by_pair j.0 z i b (start_pair Start k r j.0 z (inl (j.1, n))) e)
          (λ o. old_held b (closed z i b (ap (λ o. on_some o None (λ o. name_at o.slots i)) (sym (restores.rest z n (λ y j. o (y, j)))) ∙ e)))

      go : (o : Option Obj) → get r z ≡ o → get r b ≢ None
      go None f = absurd (none_some (sym (ap (λ o. on_some o None (λ o. name_at o.slots i)) f) ∙ e))
      go (Some o) f = sum_left (restores.no_more z (λ g. none_some (sym g ∙ f))) by_old (λ p. named_by_pair p.0 z i b p.1 e)

  pub restore_keeps_closed : IsClosed r × ((x : ℕ) → get h x ≢ None → get r x ≢ None) × ((x : ℕ) → on_some w None name_in ≡ Some x → get r x ≢ None)
  restore_keeps_closed = (restored_closed, old_held, result_held)
