-- The worked call beside the other machine, and its restore.
use Rattle.std.proofs.Common.{◌≡◌, ◌≢◌, ℕ, ◌⊎◌, List, [], ◌∷◌, refl, sym, ◌∙◌, inl, inr}
use Rattle.std.specs.Prelude.{Some, None}
use Rattle.std.specs.Ordering.{nat_cmp}
use Rattle.std.specs.FinMap.{get, find}
use Rattle.nr_model.specs.declared.value.Value.TheVariants.{Ref}
use Rattle.nr_model.specs.States.{State}
use Rattle.nr_model.specs.Alike.{like_int, like_ref, no_more, one_more, alike_at, no_frame, one_frame, one_result, both_run}
use Rattle.nr_model.specs.Pairs.{IsClosed, IsPair, Listed, StartOf, PairedStates}
use Rattle.nr_model.specs.Same.{Same}
use Rattle.nr_model.specs.LocalEntries.{IsRestored, IsLocal, BackAndResults, RestoresPairs}
use Rattle.nr_model.specs.Example.{example, before, call, copied, left, other_before, other_left, restored, heap, copied_args, other_args, pairs, start, end_with}
use Rattle.nr_model.proofs.Heaps.{sum_left}
use Rattle.nr_model.proofs.Matchings.{Matched, AlikeState}
use Rattle.nr_model.proofs.Paths.{none_some, some_eq, path_matched, matched_paired}
use Rattle.nr_model.proofs.Kept.{states_pair, control_names}
use Rattle.nr_model.proofs.Restores.{same}
use Rattle.nr_model.proofs.ListedHeaps.{at, there, each_name, is_closed, leads_is, each_pair, listed_matched}
use Rattle.nr_model.proofs.Examples.BoxCopied.{kept, run_here, run_there, local_run}

-- ---- the start of both runs

abbrev here : State
here = start copied copied_args

abbrev other : State
other = start other_before other_args

-- each pair by its place in the list
first : Listed pairs 1 11
first = inl (refl, refl)

second : Listed pairs 2 12
second = inr (inl (refl, refl))

third : Listed pairs 3 13
third = inr (inr (inl (refl, refl)))

fourth : Listed pairs 6 14
fourth = inr (inr (inr (inl (refl, refl))))

start_matched : Matched (Listed pairs) (heap copied) (heap other_before)
start_matched = listed_matched pairs copied other_before tt (
  alike_at (record { kind = refl; slots = one_more (like_ref second) (one_more (like_ref third) no_more) }),
  (
    alike_at (record { kind = refl; slots = one_more like_int no_more }),
    (
      alike_at (record { kind = refl; slots = one_more like_int no_more }),
      (alike_at (record { kind = refl; slots = one_more (like_ref third) (one_more like_int no_more) }), tt),
    ),
  ),
)

states_alike : AlikeState (Listed pairs) here other
states_alike = record {
  heap = start_matched;
  control = both_run (one_frame (record {
    method = refl;
    offset = refl;
    locals = one_more (like_ref first) (one_more (like_ref first) (one_more (like_ref fourth) no_more));
    operands = no_more;
  }) no_frame);
  printed = refl;
}

pub start_alike : PairedStates pairs here other
start_alike = states_pair pairs (Listed pairs) here other states_alike (λ x y i. i)

pub all_listed : (x y : ℕ) → IsPair (StartOf pairs here other) (heap copied) (heap other_before) x y → Listed pairs x y
all_listed x y p =
    path_matched (Listed pairs) (heap copied) (heap other_before) start_matched p.path p.from_left p.from_right x y
    (sum_left p.start (λ i. i) (λ c. control_names (Listed pairs) (heap copied) (heap other_before) start_matched here.control other.control p.from_left p.from_right states_alike.control c))
    p.to_left p.to_right

held : {X : Type 0} {x : X} → Some x ≢ None
held e = none_some (sym e)

pub closed : IsClosed (heap before)
closed = is_closed before ((held, (held, tt)), (tt, (tt, ((held, tt), ((held, tt), tt)))))

-- ---- the restore

abbrev back : List (ℕ × ℕ)
back = (11, 1) ∷ (12, 2) ∷ (13, 3) ∷ (15, 8) ∷ (14, 9) ∷ []

third_back : Listed back 13 3
third_back = inr (inr (inl (refl, refl)))

fourth_back : Listed back 15 8
fourth_back = inr (inr (inr (inl (refl, refl))))

fifth_back : Listed back 14 9
fifth_back = inr (inr (inr (inr (inl (refl, refl)))))

back_matched : Matched (Listed back) (heap other_left) (heap restored)
back_matched = listed_matched back other_left restored tt (
  alike_at (record { kind = refl; slots = one_more (like_ref fourth_back) (one_more (like_ref third_back) no_more) }),
  (
    alike_at (record { kind = refl; slots = one_more like_int no_more }),
    (
      alike_at (record { kind = refl; slots = one_more like_int no_more }),
      (
        alike_at (record { kind = refl; slots = one_more like_int no_more }),
        (alike_at (record { kind = refl; slots = one_more (like_ref third_back) (one_more like_int no_more) }), tt),
      ),
    ),
  ),
)

abbrev Backward : ℕ → ℕ → Type 0
Backward = BackAndResults (heap before) pairs (Some (Ref 14)) (Some (Ref 9))

back_listed : (y z : ℕ) → Backward y z → Listed back y z
back_listed y z (inl i) =
    each_pair (λ z y. get (heap before) z ≢ None → Listed back y z) pairs
    ((λ n. inl (refl, refl)), ((λ n. inr (inl (refl, refl))), ((λ n. third_back), ((λ n. absurd (n (at before 6))), tt)))) z y i.0 i.1
back_listed y z (inr i) = inr (inr (inr (inr (inl (sym (some_eq i.0), sym (some_eq i.1))))))

still : (z : ℕ) → find nat_cmp z before ≢ None → (get (heap before) z ≢ None) ⊎ ((y : ℕ) × IsPair Backward (heap other_left) (heap restored) y z)
still z n = inl (there before z n)

pub restores : RestoresPairs (heap before) pairs (heap other_left) (Some (Ref 14)) (heap restored) (Some (Ref 9))
restores = record {
  heaps = matched_paired Backward (Listed back) (heap other_left) (heap restored) back_matched back_listed;
  results = one_result (like_ref tt);
  new = λ y z p.
      each_pair (λ y z. Listed pairs z y ⊎ (get (heap before) z ≡ None)) back
      (inl first, (inl second, (inl third, (inr (at before 8), (inr (at before 9), tt))))) y z
      (path_matched (Listed back) (heap other_left) (heap restored) back_matched p.path p.from_left p.from_right y z (back_listed p.from_left p.from_right p.start) p.to_left p.to_right);
  rest = each_name (λ x. ((y : ℕ) → Listed pairs x y → ⊥) → get (heap restored) x ≡ get (heap before) x) before
      ((λ l. absurd (l 11 first)), ((λ l. absurd (l 12 second)), ((λ l. absurd (l 13 third)), ((λ l. at restored 4 ∙ sym (at before 4)), ((λ l. at restored 5 ∙ sym (at before 5)), tt)))));
  no_more = each_name (λ z. (get (heap before) z ≢ None) ⊎ ((y : ℕ) × IsPair Backward (heap other_left) (heap restored) y z)) restored (
    still 1 held,
    (
      still 2 held,
      (
        still 3 held,
        (
          still 4 held,
          (
            still 5 held,
            (
              inr (15, record { from_left = 11; from_right = 1; start = inl (first, there before 1 held); path = 0 ∷ []; to_left = leads_is other_left (0 ∷ []) 11; to_right = leads_is restored (0 ∷ []) 1 }),
              (inr (14, record { from_left = 14; from_right = 9; start = inr (refl, refl); path = []; to_left = refl; to_right = refl }), tt),
            ),
          ),
        ),
      ),
    ),
  );
}

-- so the caller has what the local run leaves
pub left_the_same : Same (heap before) (heap left) (Some (Ref 6)) (heap restored) (Some (Ref 9))
left_the_same = same example 16 pairs (heap before) here other (end_with left 6) (end_with other_left 14) (Some (Ref 6)) (Some (Ref 14)) (heap restored) (Some (Ref 9))
    start_alike run_here run_there refl refl closed kept all_listed restores

pub call_is_local : IsLocal example call
call_is_local = record {
  after = heap restored;
  value = Some (Ref 9);
  printed = [];
  answer = refl;
  steps = 16;
  state = end_with left 6;
  local = local_run;
  result = Some (Ref 6);
  returned = refl;
  same = left_the_same.reached;
  out = refl;
}

pub call_is_restored : IsRestored example call
unfolding call_is_local
call_is_restored = record { local = call_is_local; same = left_the_same }
