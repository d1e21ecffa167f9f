-- A remote call and its restore, worked out: the method puts 3 into the first element of its argument. The caller's array
-- has the name 5, the other machine's copy the name 9.
use Rattle.std.proofs.Common.{◌≡◌, ◌≢◌, ℕ, zero, suc, List, [], ◌∷◌, refl, sym, ap, subst, subst₂, ◌∙◌, arith, inl, inr}
use Rattle.std.specs.Prelude.{Option, Some, None}
use Rattle.std.specs.FinMap.{get, insert}
use Rattle.nr_model.specs.declared.value.Value.{Value}
use Rattle.nr_model.specs.declared.value.Value.TheVariants.{Int, Null, Ref}
use Rattle.nr_model.specs.Heaps.{Obj, Heap, on_some}
use Rattle.nr_model.specs.Scripts.{GoesTo, Gave}
use Rattle.nr_model.specs.States.{Returned, State}
use Rattle.nr_model.specs.Alike.{like_int, like_null, like_ref, no_more, one_more, AlikeObj, AlikeAt, alike_at, no_frame, one_frame, no_result, both_run}
use Rattle.nr_model.specs.Pairs.{name_at, slot_name, IsPair, Listed, StartOf, PairedStates}
use Rattle.nr_model.proofs.Matchings.{Matched, AlikeState}
use Rattle.nr_linked.specs.declared.program.tables.ProgramTables.{ProgramTables}
use Rattle.nr_model.specs.Steps.{Step, Run}
use Rattle.nr_model.specs.Same.{Same}
use Rattle.nr_model.specs.LocalEntries.{BackAndResults, RestoresPairs}
use Rattle.std.specs.Prelude.{pos}
use Rattle.std.specs.FinMap.{empty, get-empty}
use Rattle.std.specs.Ordering.{nat_cmp}
use Rattle.std.proofs.Math.Decide.{ℕ_discrete}
use Rattle.nr_optable.specs.Rows.{all_rows}
use Rattle.nr_prog.specs.declared.body.instruction.Args.TheVariants as args
use Rattle.nr_linked.specs.declared.program.kind.Base.TheVariants as bases
use Rattle.nr_linked.specs.declared.program.tables.Resolved.TheVariants as resolved
use Rattle.nr_model.proofs.Heaps.{get_same, get_other, sum_left}
use Rattle.nr_model.proofs.Paths.{none_some, path_matched, matched_paired}
use Rattle.nr_model.proofs.Kept.{states_pair, control_names}
use Rattle.nr_model.proofs.Restores.{same}
use Rattle.nr_model.proofs.Examples.Machine.{instr, of_base, body_of, program, frame_at, running, left_in, held}

abbrev int : ℕ → Value
int n = Int (pos n)

abbrev method : ProgramTables
method = program
    (body_of (record (instr 42 args.Empty) { at = 0 } ∷ record (instr 3 args.Empty) { at = 1 } ∷ record (instr 6 args.Empty) { at = 2 }
    ∷ record (instr 79 args.Empty) { at = 3 } ∷ record (instr 177 args.Empty) { at = 4 } ∷ []) [])
    (resolved.Nothing ∷ resolved.Nothing ∷ resolved.Nothing ∷ resolved.Nothing ∷ resolved.Nothing ∷ []) []

abbrev seven : Obj
seven = record { kind = of_base 1 bases.Int; slots = int 7 ∷ [] }

abbrev three : Obj
three = record { kind = of_base 1 bases.Int; slots = int 3 ∷ [] }

-- a heap with the array under the name a, before and after
abbrev before : ℕ → Heap
before a = insert empty a seven

abbrev after_heap : ℕ → Heap
after_heap a = insert (before a) a three

-- ---- the run, with the array's name a

module _ (a : ℕ) where
  abbrev locals : List Value
  locals = Ref a ∷ Null ∷ Null ∷ Null ∷ []

  abbrev at : Heap → ℕ → List Value → State
  at h offset operands = running h (frame_at offset locals operands ∷ [])

  abbrev done : State
  done = record { heap = after_heap a; control = Returned None; printed = [] }

  array : get (before a) a ≡ Some seven
  array = get_same empty a seven

  step_0 : Step method (at (before a) 0 []) (at (before a) 1 (Ref a ∷ []))
  unfolding all_rows
  step_0 = record { ending = GoesTo 1; left = left_in (before a) locals (Ref a ∷ []) []; runs = (refl, refl); control = refl; heap = refl; printed = refl }

  step_1 : Step method (at (before a) 1 (Ref a ∷ [])) (at (before a) 2 (int 0 ∷ Ref a ∷ []))
  unfolding all_rows
  step_1 = record { ending = GoesTo 2; left = left_in (before a) locals (int 0 ∷ Ref a ∷ []) []; runs = (refl, refl); control = refl; heap = refl; printed = refl }

  step_2 : Step method (at (before a) 2 (int 0 ∷ Ref a ∷ [])) (at (before a) 3 (int 3 ∷ int 0 ∷ Ref a ∷ []))
  unfolding all_rows
  step_2 = record { ending = GoesTo 3; left = left_in (before a) locals (int 3 ∷ int 0 ∷ Ref a ∷ []) []; runs = (refl, refl); control = refl; heap = refl; printed = refl }

  step_3 : Step method (at (before a) 3 (int 3 ∷ int 0 ∷ Ref a ∷ [])) (at (after_heap a) 4 [])
  unfolding all_rows
  step_3 = record {
    ending = GoesTo 4;
    left = left_in (after_heap a) locals [] [];
    runs = held _ _ _ _ array (held _ _ _ _ array (omega arith, (refl, refl)));
    control = refl;
    heap = refl;
    printed = refl;
  }

  step_4 : Step method (at (after_heap a) 4 []) done
  unfolding all_rows
  step_4 = record { ending = Gave None; left = left_in (after_heap a) locals [] []; runs = (refl, refl); control = refl; heap = refl; printed = refl }

  whole_run : Run method (at (before a) 0 []) (suc (suc (suc (suc (suc zero))))) done
  whole_run = (_, step_0, (_, step_1, (_, step_2, (_, step_3, (done, step_4, refl)))))

  -- the heap has the one name, and its array names nothing
  only : (x : ℕ) → get (before a) x ≢ None → x ≡ a
  only x n = go (ℕ_discrete x a)
    where
      go : Dec (x ≡ a) → x ≡ a
      go (yes e) = e
      go (no d) = absurd (n (get_other empty a x seven d ∙ get-empty nat_cmp x))

  only_after : (x : ℕ) → get (after_heap a) x ≢ None → x ≡ a
  only_after x n = go (ℕ_discrete x a)
    where
      go : Dec (x ≡ a) → x ≡ a
      go (yes e) = e
      go (no d) = absurd (n (get_other (before a) a x three d ∙ get_other empty a x seven d ∙ get-empty nat_cmp x))

  no_names : (i : ℕ) → name_at seven.slots i ≡ None
  no_names zero = refl
  no_names (suc i) = refl

  closed : (x i y : ℕ) → slot_name (before a) x i ≡ Some y → get (before a) y ≢ None
  closed x i y e = go (get (before a) x) refl (only x)
    where
      go : (o : Option Obj) → get (before a) x ≡ o → (get (before a) x ≢ None → x ≡ a) → get (before a) y ≢ None
      go None f k = absurd (none_some (sym (ap (λ o. on_some o None (λ o. name_at o.slots i)) f) ∙ e))
      go (Some o) f k =
          let is : x ≡ a = k (λ n. none_some (sym n ∙ f)) in
          absurd (none_some (sym (ap (λ o. on_some o None (λ o. name_at o.slots i)) (ap (get (before a)) is ∙ array) ∙ no_names i) ∙ e))

-- ---- the two machines

abbrev One : ℕ → ℕ → ℕ → ℕ → Type 0
One a b x y = (x ≡ a) × (y ≡ b)

matched : (a b : ℕ) (h k : Heap) (o : Obj) → get h a ≡ Some o → get k b ≡ Some o → ((R : ℕ → ℕ → Type 0) → AlikeObj R o o) → Matched (One a b) h k
matched a b h k o e f s = record {
  one_right = λ x y z p q. p.1 ∙ sym q.1;
  one_left = λ x y z p q. p.0 ∙ sym q.0;
  alike = λ x y p. subst₂ (AlikeAt (One a b)) (sym (ap (get h) p.0 ∙ e)) (sym (ap (get k) p.1 ∙ f)) (alike_at (s (One a b)));
}

abbrev pairs : List (ℕ × ℕ)
pairs = (5, 9) ∷ []

listed_is : (x y : ℕ) → Listed pairs x y → One 5 9 x y
listed_is x y (inl p) = p
listed_is x y (inr p) = absurd p

states_alike : AlikeState (One 5 9) (at 5 (before 5) 0 []) (at 9 (before 9) 0 [])
states_alike = record {
  heap = matched 5 9 (before 5) (before 9) seven (array 5) (array 9) (λ R. record { kind = refl; slots = one_more like_int no_more });
  control = both_run (one_frame (record {
    method = refl;
    offset = refl;
    locals = one_more (like_ref (refl, refl)) (one_more like_null (one_more like_null (one_more like_null no_more)));
    operands = no_more;
  }) no_frame);
  printed = refl;
}

start_alike : PairedStates pairs (at 5 (before 5) 0 []) (at 9 (before 9) 0 [])
start_alike = states_pair pairs (One 5 9) _ _ states_alike listed_is

all_listed : (x y : ℕ) → IsPair (StartOf pairs (at 5 (before 5) 0 []) (at 9 (before 9) 0 [])) (before 5) (before 9) x y → Listed pairs x y
all_listed x y p =
    inl (path_matched (One 5 9) (before 5) (before 9) states_alike.heap p.path _ _ x y
    (sum_left p.start (λ l. listed_is _ _ l) (λ c. control_names (One 5 9) (before 5) (before 9) states_alike.heap _ _ _ _ states_alike.control c)) p.to_left p.to_right)

-- ---- the restore

abbrev Backward : ℕ → ℕ → Type 0
Backward = BackAndResults (before 5) pairs None None

back_is : (y z : ℕ) → Backward y z → One 9 5 y z
back_is y z (inl p) = let l = listed_is z y p.0 in (l.1, l.0)
back_is y z (inr p) = absurd (none_some p.0)

back_matched : Matched (One 9 5) (after_heap 9) (after_heap 5)
back_matched = matched 9 5 (after_heap 9) (after_heap 5) three (get_same (before 9) 9 three) (get_same (before 5) 5 three)
    (λ R. record { kind = refl; slots = one_more like_int no_more })

restores : RestoresPairs (before 5) pairs (after_heap 9) None (after_heap 5) None
restores = record {
  heaps = matched_paired Backward (One 9 5) (after_heap 9) (after_heap 5) back_matched back_is;
  results = no_result;
  new = λ y z p.
      let o = path_matched (One 9 5) (after_heap 9) (after_heap 5) back_matched p.path _ _ y z (back_is _ _ p.start) p.to_left p.to_right in
      inl (inl (o.1, o.0));
  rest = λ x n l. absurd (l 9 (inl (only 5 x n, refl)));
  no_more = λ z n. inl (subst (λ z. get (before 5) z ≢ None) (sym (only_after 5 z n)) (λ e. none_some (sym e ∙ array 5)));
}

-- so the caller has what a local run leaves
left_the_same : Same (before 5) (after_heap 5) None (after_heap 5) None
left_the_same = same method (suc (suc (suc (suc (suc zero))))) pairs (before 5) _ _ (done 5) (done 9) None None (after_heap 5) None
    start_alike (whole_run 5) (whole_run 9) refl refl (closed 5) (λ x n. refl) all_listed restores
