-- Paired states, by paths, are states that agree under a relation of names that holds the start; so runs keep them.
use Rattle.std.proofs.Common.{◌≡◌, ℕ, ◌+◌, List, [], refl, subst, inl, inr}
use Rattle.std.specs.Prelude.{Option, Some}
use Rattle.nr_model.specs.declared.value.Value.{Value}
use Rattle.nr_model.specs.Heaps.{Heap, cells}
use Rattle.nr_model.specs.States.{Frame, Control, State, IsEnd}
use Rattle.nr_model.specs.Alike.{Like, like_int, like_long, like_null, like_ref, AlikeFrames, no_frame, one_frame, AlikeResult, no_result, one_result, AlikeControl, both_run, both_return, both_throw, Any}
use Rattle.nr_model.specs.Pairs.{name_in, IsPair, Listed, InFrames, InResults, InControl, StartOf, PairedStates}
use Rattle.nr_model.proofs.Matchings.{Matched, AlikeState}
use Rattle.nr_linked.specs.declared.program.tables.ProgramTables.{ProgramTables}
use Rattle.nr_model.specs.Steps.{Run}
use Rattle.nr_model.proofs.Heaps.{sum_left}
use Rattle.nr_model.proofs.Paths.{names_match, slot_matched, paired_matched, matched_paired, some_eq, none_some}
use Rattle.nr_model.proofs.Frames.{control_more}
use Rattle.nr_model.proofs.Runs.{LaterState, runs_paired, run_too}
use Rattle.nr_model.proofs.Ends.{one_length}

module _ (R : ℕ → ℕ → Type 0) where
  pub like_match : (u v : Value) → Like Any u v → ((x y : ℕ) → (name_in u ≡ Some x) × (name_in v ≡ Some y) → R x y) → Like R u v
  like_match u v like_int k = like_int
  like_match u v like_long k = like_long
  like_match u v like_null k = like_null
  like_match u v (like_ref r) k = like_ref (k _ _ (refl, refl))

  pub like_names : (u v : Value) (x y : ℕ) → Like R u v → name_in u ≡ Some x → name_in v ≡ Some y → R x y
  like_names u v x y like_int e f = absurd (none_some e)
  like_names u v x y like_long e f = absurd (none_some e)
  like_names u v x y like_null e f = absurd (none_some e)
  like_names u v x y (like_ref r) e f = subst (λ x. R x y) (some_eq e) (subst (R _) (some_eq f) r)

  pub result_match : (u v : Option Value) → AlikeResult Any u v → ((x y : ℕ) → InResults u v x y → R x y) → AlikeResult R u v
  result_match u v no_result k = no_result
  result_match u v (one_result l) k = one_result (like_match _ _ l k)

  pub result_names : (u v : Option Value) (x y : ℕ) → AlikeResult R u v → InResults u v x y → R x y
  result_names u v x y no_result p = absurd (none_some p.0)
  result_names u v x y (one_result l) p = like_names _ _ x y l p.0 p.1

  frames_match : (fs gs : List Frame) → AlikeFrames Any fs gs → ((x y : ℕ) → InFrames fs gs x y → R x y) → AlikeFrames R fs gs
  frames_match fs gs no_frame k = no_frame
  frames_match fs gs (one_frame a bs) k = one_frame
      (record {
        method = a.method;
        offset = a.offset;
        locals = names_match R _ _ a.locals (λ i x y e f. k x y (inl (i, e, f)));
        operands = names_match R _ _ a.operands (λ i x y e f. k x y (inr (inl (i, e, f))));
      }) (frames_match _ _ bs (λ x y p. k x y (inr (inr p))))

  control_match : (c d : Control) → AlikeControl Any c d → ((x y : ℕ) → InControl c d x y → R x y) → AlikeControl R c d
  control_match c d (both_run bs) k = both_run (frames_match _ _ bs k)
  control_match c d (both_return l) k = both_return (result_match _ _ l k)
  control_match c d (both_throw l) k = both_throw (like_match _ _ l k)

  module _ (h k : Heap) (m : Matched R h k) where
    frames_names : (fs gs : List Frame) (x y : ℕ) → AlikeFrames R fs gs → InFrames fs gs x y → R x y
    frames_names fs gs x y no_frame p = absurd p
    frames_names fs gs x y (one_frame a bs) (inl p) = slot_matched R h k m _ _ p.0 x y a.locals p.1 p.2
    frames_names fs gs x y (one_frame a bs) (inr (inl p)) = slot_matched R h k m _ _ p.0 x y a.operands p.1 p.2
    frames_names fs gs x y (one_frame a bs) (inr (inr p)) = frames_names _ _ x y bs p

    pub control_names : (c d : Control) (x y : ℕ) → AlikeControl R c d → InControl c d x y → R x y
    control_names c d x y (both_run bs) p = frames_names _ _ x y bs p
    control_names c d x y (both_return l) p = result_names _ _ x y l p
    control_names c d x y (both_throw l) p = like_names _ _ x y l p.0 p.1

pub start_pair : (Start : ℕ → ℕ → Type 0) (h k : Heap) (x y : ℕ) → Start x y → IsPair Start h k x y
start_pair Start h k x y s = record { from_left = x; from_right = y; start = s; path = []; to_left = refl; to_right = refl }

module _ (ps : List (ℕ × ℕ)) (s t : State) (a : PairedStates ps s t) where
  -- the pairs of two states
  abbrev pub PairsOf : ℕ → ℕ → Type 0
  PairsOf = IsPair (StartOf ps s t) s.heap t.heap

  pub states_match : AlikeState PairsOf s t
  states_match = record {
    heap = paired_matched _ _ _ a.heaps;
    control = control_match PairsOf s.control t.control a.shape (λ x y i. start_pair (StartOf ps s t) s.heap t.heap x y (inr i));
    printed = a.printed;
  }

pub states_pair : (ps : List (ℕ × ℕ)) (R : ℕ → ℕ → Type 0) (s t : State) → AlikeState R s t → ((x y : ℕ) → Listed ps x y → R x y) → PairedStates ps s t
states_pair ps R s t a start = record {
  shape = control_more R Any (λ x y r. tt) _ _ a.control;
  heaps = matched_paired (StartOf ps s t) R s.heap t.heap a.heap (λ x y i.
      sum_left i (start x y) (λ b. control_names R s.heap t.heap a.heap s.control t.control x y a.control b));
  printed = a.printed;
}

module _ (P : ProgramTables) (n : ℕ) (ps : List (ℕ × ℕ)) (s t s' : State) (a : PairedStates ps s t) (p : Run P s n s') where
  pub pairs_kept : (t' : State) → Run P t n t' → PairedStates ps s' t'
  pairs_kept t' q =
      let l : LaterState (PairsOf ps s t a) s t s' t' = runs_paired P n (PairsOf ps s t a) s t s' t' (states_match ps s t a) p q in
      states_pair ps l.now s' t' l.alike (λ x y i. l.moved.older x y (start_pair (StartOf ps s t) s.heap t.heap x y (inl i)))

  pub pairs_grown : (t' : State) → Run P t n t' → cells s'.heap + cells t.heap ≡ cells t'.heap + cells s.heap
  pairs_grown t' q = (runs_paired P n (PairsOf ps s t a) s t s' t' (states_match ps s t a) p q).moved.grown

  pub pairs_run_too : (t' : State) × Run P t n t'
  pairs_run_too = run_too P n (PairsOf ps s t a) s t s' (states_match ps s t a) p

  pub pairs_one_length : (k : ℕ) (t' : State) → Run P t k t' → IsEnd s'.control → IsEnd t'.control → n ≡ k
  pairs_one_length k t' q e f = one_length P n k (PairsOf ps s t a) s t s' t' (states_match ps s t a) p e q f
