-- A call that was answered by just what a local run left, in a heap whose references are to objects of it, was answered
-- by the same as that run left.
use Rattle.std.proofs.Common.{◌≡◌, ◌≢◌, ℕ, zero, suc, List, [], ◌∷◌, refl, sym, ap, subst, ◌∙◌}
use Rattle.std.specs.Prelude.{Option, Some, None, map, IsSomeAnd}
use Rattle.std.specs.Option.{option_map}
use Rattle.std.specs.Ordering.{nat_cmp}
use Rattle.std.specs.FinMap.{FinMap, get}
use Rattle.nr_model.specs.declared.value.Value.{Value}
use Rattle.nr_model.specs.declared.value.Value.TheVariants.{Int, Long, Null, Ref}
use Rattle.nr_model.specs.Heaps.{Obj, Heap, on_some}
use Rattle.nr_model.specs.States.{Returned, State}
use Rattle.nr_model.specs.Alike.{no_more, no_frame, one_frame, AlikeResult, both_run, Any}
use Rattle.nr_model.specs.Pairs.{name_at, IsClosed, Holds}
use Rattle.nr_model.proofs.Matchings.{AlikeState}
use Rattle.nr_linked.specs.declared.program.tables.MethodInfo.{MethodInfo}
use Rattle.nr_linked.specs.declared.program.tables.ProgramTables.{ProgramTables}
use Rattle.nr_linked.specs.Programs.{method_at}
use Rattle.nr_model.specs.Steps.{Run}
use Rattle.nr_model.specs.Locals.{start_of, copy_of, copied_value, copied_object, CopyArgs}
use Rattle.nr_model.specs.Same.{OldAndResults, SameReached}
use Rattle.nr_model.specs.LocalEntries.{IsLocal, IsOwn}
use Rattle.nr_model.specs.Asks.{Entry}
use Rattle.nr_model.proofs.Heaps.{sum_left}
use Rattle.nr_model.proofs.Paths.{none_some, some_eq, matched_paired}
use Rattle.nr_model.proofs.Frames.{result_more, locals_like}
use Rattle.nr_model.proofs.Runs.{LaterState, runs_paired}
use Rattle.nr_model.proofs.Kept.{result_names}
use Rattle.nr_model.proofs.Reached.{Self, list_self}
use Rattle.nr_model.proofs.Restores.{returned_alike}
use Rattle.nr_model.proofs.Closed.{closed_matched}

-- a name among copied values is the copy of one among the values
names_copied : (copies : FinMap nat_cmp ℕ) (vs : List Value) (i y : ℕ) → name_at (map (copied_value copies) vs) i ≡ Some y → (b : ℕ) × (name_at vs i ≡ Some b) × (copy_of copies b ≡ y)
names_copied copies [] i y e = absurd (none_some e)
names_copied copies (Int n ∷ vs) zero y e = absurd (none_some e)
names_copied copies (Long n ∷ vs) zero y e = absurd (none_some e)
names_copied copies (Null ∷ vs) zero y e = absurd (none_some e)
names_copied copies (Ref a ∷ vs) zero y e = (a, refl, some_eq e)
names_copied copies (v ∷ vs) (suc i) y e = names_copied copies vs i y e

map_held : (f : Obj → Obj) (o : Option Obj) → o ≢ None → option_map f o ≢ None
map_held f None n = absurd (n refl)
map_held f (Some o) n = λ e. none_some (sym e)

module _ (P : ProgramTables) (h : Heap) (args : List Value) (closed : IsClosed h) (held : (x : ℕ) → Holds args x → get h x ≢ None)
    (k : Heap) (args' : List Value) (c : CopyArgs P h args k args') where
  stays : (x : ℕ) → get h x ≢ None → get k x ≢ None
  stays x n e = n (sym (c.old x n) ∙ e)

  -- ---- the heap with the copies is closed too

  copy_there : (x : ℕ) → get h x ≢ None → get k (copy_of c.copies x) ≢ None
  copy_there x n = go (get c.copies x) refl
    where
      go : (o : Option ℕ) → get c.copies x ≡ o → get k (on_some o x (λ z. z)) ≢ None
      go None e = stays x n
      go (Some z) e = λ f. map_held (copied_object c.copies) (get h x) n (sym (c.objects x z e) ∙ f)

  in_copy : (w i y : ℕ) (o : Option Obj) → get h w ≡ o → on_some (option_map (copied_object c.copies) o) None (λ o. name_at o.slots i) ≡ Some y → get k y ≢ None
  in_copy w i y None f e = absurd (none_some e)
  in_copy w i y (Some o) f e =
      let b = names_copied c.copies o.slots i y e in
      subst (λ y. get k y ≢ None) b.2 (copy_there b.0 (closed w i b.0 (ap (λ o. on_some o None (λ o. name_at o.slots i)) f ∙ b.1)))

  with_copies : IsClosed k
  with_copies x i y e = go (get k x) refl e
    where
      go : (o : Option Obj) → get k x ≡ o → on_some o None (λ o. name_at o.slots i) ≡ Some y → get k y ≢ None
      go None f d = absurd (none_some d)
      go (Some o) f d = sum_left (c.no_more x (λ n. none_some (sym n ∙ f)))
          (λ n. stays y (closed x i y (ap (λ o. on_some o None (λ o. name_at o.slots i)) (sym (c.old x n)) ∙ e)))
          (λ w. in_copy w.0 i y (get h w.0) refl (ap (λ o. on_some o None (λ o. name_at o.slots i)) (sym (c.objects w.0 x w.1)) ∙ e))

  args_held : (i a : ℕ) → name_at args' i ≡ Some a → get k a ≢ None
  args_held i a e =
      let b = names_copied c.copies args i a (ap (λ vs. name_at vs i) (sym c.arguments) ∙ e) in
      subst (λ y. get k y ≢ None) b.2 (copy_there b.0 (held b.0 (i, b.1)))

  -- ---- the run beside itself

  abbrev R : ℕ → ℕ → Type 0
  R = Self (λ x. get k x ≢ None)

  begin : (i : MethodInfo) (m : ℕ) → AlikeState R (start_of i m k args') (start_of i m k args')
  begin i m = record {
    heap = closed_matched k with_copies;
    control = both_run (one_frame (record {
      method = refl;
      offset = refl;
      locals = locals_like R i _ _ (list_self R args' (λ i a e. (args_held i a e, refl)));
      operands = no_more;
    }) no_frame);
    printed = refl;
  }

  left_the_same : (i : MethodInfo) (m n : ℕ) (t : State) (v : Option Value) → Run P (start_of i m k args') n t → t.control ≡ Returned v → SameReached h t.heap v t.heap v
  left_the_same i m n t v r e =
      let s : State = start_of i m k args' in
      let l : LaterState R s s t t = runs_paired P n R s s t t (begin i m) r r in
      let results : AlikeResult l.now v v = returned_alike l.now t.control t.control v v l.alike.control e e in
      record {
        heaps = matched_paired (OldAndResults h v v) l.now t.heap t.heap l.alike.heap (λ x y o. sum_left o
            (λ n. subst (l.now x) n.1 (l.moved.older x x (stays x n.0, refl)))
            (λ i. result_names l.now v v x y results i));
        results = result_more l.now Any (λ x y r. tt) v v results;
      }

pub own_local : (P : ProgramTables) (e : Entry) → IsClosed e.before → ((x : ℕ) → Holds e.args x → get e.before x ≢ None) → IsOwn P e → IsLocal P e
own_local P e closed held o = record {
  after = o.state.heap;
  value = o.result;
  printed = o.state.printed;
  answer = o.answer;
  steps = o.steps;
  state = o.state;
  local = o.local;
  result = o.result;
  returned = o.returned;
  same = same (method_at P e.method) o.local.call.begins;
  out = refl;
}
  where
    same : (q : Option MethodInfo) → IsSomeAnd q (λ i. o.local.call.first ≡ start_of i e.method o.local.heap o.local.args') → SameReached e.before o.state.heap o.result o.state.heap o.result
    same None b = absurd b
    same (Some i) b = left_the_same P e.before e.args closed held o.local.heap o.local.args' o.local.copies i e.method o.steps o.state o.result
        (subst (λ s. Run P s o.steps o.state) b o.local.call.run) o.returned
