-- A run changes only what it reaches: it is paired with itself along the names that are reached.
use Rattle.std.proofs.Common.{◌≡◌, ◌≢◌, ℕ, zero, suc, List, [], ◌∷◌, ◌++◌, refl, sym, subst, ◌∙◌, inl, inr}
use Rattle.std.specs.Prelude.{Option, Some, None}
use Rattle.std.specs.FinMap.{get}
use Rattle.nr_model.specs.declared.value.Value.{Value}
use Rattle.nr_model.specs.declared.value.Value.TheVariants.{Int, Long, Null, Ref}
use Rattle.nr_model.specs.Heaps.{Obj, Heap}
use Rattle.nr_model.specs.States.{Frame, Control, Running, Returned, Thrown, State}
use Rattle.nr_model.specs.Alike.{Like, like_int, like_long, like_null, like_ref, AllLike, no_more, one_more, AlikeAt, alike_at, AlikeFrames, no_frame, one_frame, no_result, one_result, AlikeControl, both_run, both_return, both_throw, Any}
use Rattle.nr_model.specs.Pairs.{name_in, name_at, slot_name, Reach, NamedInFrames, NamedIn}
use Rattle.nr_model.proofs.Matchings.{Matched}
use Rattle.nr_linked.specs.declared.program.tables.ProgramTables.{ProgramTables}
use Rattle.nr_model.specs.Steps.{Run}
use Rattle.nr_model.proofs.Paths.{leads_on, at_match}
use Rattle.nr_model.proofs.Runs.{runs_paired}

-- names of one kind, each beside itself
abbrev pub Self : (ℕ → Type 0) → ℕ → ℕ → Type 0
Self In x y = In x × (x ≡ y)

pub any_list : (us : List Value) → AllLike Any us us
any_list [] = no_more
any_list (Int n ∷ us) = one_more like_int (any_list us)
any_list (Long n ∷ us) = one_more like_long (any_list us)
any_list (Null ∷ us) = one_more like_null (any_list us)
any_list (Ref a ∷ us) = one_more (like_ref tt) (any_list us)

pub any_at : (o : Option Obj) → o ≢ None → AlikeAt Any o o
any_at None n = absurd (n refl)
any_at (Some o) n = alike_at (record { kind = refl; slots = any_list o.slots })

pub both_eq : (o : Option ℕ) (b c : ℕ) → o ≡ Some b → o ≡ Some c → b ≡ c
both_eq o b c e f = cc

module _ (h : Heap) (Root : ℕ → Type 0) (held : (x : ℕ) → Reach h Root x → get h x ≢ None) where
  reach_on : (x i b : ℕ) → Reach h Root x → slot_name h x i ≡ Some b → Reach h Root b
  reach_on x i b r e = (r.0, r.1, r.2 ++ i ∷ [], leads_on h r.2 i r.0 x r.3 ∙ e)

  self_at : (x : ℕ) → Reach h Root x → AlikeAt (Self (Reach h Root)) (get h x) (get h x)
  self_at x r = at_match _ _ _ (any_at _ (held x r)) (λ i b c e f. (reach_on x i b r e, both_eq (slot_name h x i) b c e f))

  pub reach_matched : Matched (Self (Reach h Root)) h h
  reach_matched = record {
    one_right = λ x y z r s. sym r.1 ∙ s.1;
    one_left = λ x y z r s. r.1 ∙ sym s.1;
    alike = λ x y r. subst (λ z. AlikeAt (Self (Reach h Root)) (get h x) (get h z)) r.1 (self_at x r.0);
  }

-- a state beside itself, where the names of its frames are of one kind
module _ (R : ℕ → ℕ → Type 0) where
  pub list_self : (us : List Value) → ((i a : ℕ) → name_at us i ≡ Some a → R a a) → AllLike R us us
  list_self [] k = no_more
  list_self (Int n ∷ us) k = one_more like_int (list_self us (λ i. k (suc i)))
  list_self (Long n ∷ us) k = one_more like_long (list_self us (λ i. k (suc i)))
  list_self (Null ∷ us) k = one_more like_null (list_self us (λ i. k (suc i)))
  list_self (Ref a ∷ us) k = one_more (like_ref (k zero a refl)) (list_self us (λ i. k (suc i)))

  frames_self : (fs : List Frame) → ((a : ℕ) → NamedInFrames fs a → R a a) → AlikeFrames R fs fs
  frames_self [] k = no_frame
  frames_self (f ∷ fs) k = one_frame
      (record { method = refl; offset = refl; locals = list_self f.locals (λ i a e. k a (inl (i, e))); operands = list_self f.operands (λ i a e. k a (inr (inl (i, e)))) })
      (frames_self fs (λ a n. k a (inr (inr n))))

  like_self : (v : Value) → ((a : ℕ) → name_in v ≡ Some a → R a a) → Like R v v
  like_self (Int n) k = like_int
  like_self (Long n) k = like_long
  like_self Null k = like_null
  like_self (Ref a) k = like_ref (k a refl)

  pub control_self : (c : Control) → ((a : ℕ) → NamedIn c a → R a a) → AlikeControl R c c
  control_self (Running fs) k = both_run (frames_self fs k)
  control_self (Returned None) k = both_return no_result
  control_self (Returned (Some v)) k = both_return (one_result (like_self v k))
  control_self (Thrown v) k = both_throw (like_self v k)

pub run_keeps : (P : ProgramTables) (n : ℕ) (s t : State) → ((x : ℕ) → Reach s.heap (NamedIn s.control) x → get s.heap x ≢ None) → Run P s n t
    → (x : ℕ) → get s.heap x ≢ None → (Reach s.heap (NamedIn s.control) x → ⊥) → get t.heap x ≡ get s.heap x
run_keeps P n s t held p x there out =
    let R = Self (Reach s.heap (NamedIn s.control)) in
    let l = runs_paired P n R s s t t
    (record { heap = reach_matched s.heap (NamedIn s.control) held; control = control_self R s.control (λ a i. ((a, i, [], refl), refl)); printed = refl }) p p in
    l.moved.left.outside x there (λ i. out i.1.0)
