-- Two heaps of one object each, which names none, under any names: calls with these as the one argument start alike.
use Rattle.std.proofs.Common.{◌≡◌, ◌≢◌, ℕ, [], ◌∷◌, refl, sym, ap, subst₂, ◌∙◌}
use Rattle.std.specs.Prelude.{Option, Some, None, IsSomeAnd}
use Rattle.std.specs.FinMap.{get, insert, empty, get-empty}
use Rattle.std.specs.Ordering.{nat_cmp}
use Rattle.std.proofs.Math.Decide.{ℕ_discrete}
use Rattle.nr_linked.specs.declared.program.tables.MethodInfo.{MethodInfo}
use Rattle.nr_linked.specs.declared.program.tables.ProgramTables.{ProgramTables}
use Rattle.nr_linked.specs.Programs.{method_at}
use Rattle.nr_model.specs.declared.value.Value.TheVariants.{Ref}
use Rattle.nr_model.specs.Heaps.{Obj, Heap, on_some, cells}
use Rattle.nr_model.specs.States.{State}
use Rattle.nr_model.specs.Alike.{like_ref, no_more, one_more, AlikeAt, alike_at, no_frame, one_frame, both_run}
use Rattle.nr_model.specs.Pairs.{name_at, IsClosed, NamedIn, PairedStates}
use Rattle.nr_model.specs.Locals.{start_of, Begins}
use Rattle.nr_model.proofs.Cells.{cells_new}
use Rattle.nr_model.proofs.Heaps.{get_same, get_other, held_left, sum_left}
use Rattle.nr_model.proofs.Matchings.{Matched, AlikeState}
use Rattle.nr_model.proofs.Paths.{none_some}
use Rattle.nr_model.proofs.Frames.{locals_like}
use Rattle.nr_model.proofs.Kept.{states_pair, control_names}
use Rattle.nr_model.proofs.Reached.{list_self}
use Rattle.nr_model.proofs.Closed.{control_beside}

abbrev pub lone : ℕ → Obj → Heap
lone x o = insert empty x o

module _ (o : Obj) (plain : (i : ℕ) → name_at o.slots i ≡ None) where
  module _ (x y : ℕ) where
    abbrev Both : ℕ → ℕ → Type 0
    Both a b = (a ≡ x) × (b ≡ y)

    both_at : (a b : ℕ) → Both a b → AlikeAt Both (get (lone x o) a) (get (lone y o) b)
    both_at a b r = subst₂ (λ a b. AlikeAt Both (get (lone x o) a) (get (lone y o) b)) (sym r.0) (sym r.1)
        (subst₂ (AlikeAt Both) (sym (get_same empty x o)) (sym (get_same empty y o))
        (alike_at (record { kind = refl; slots = list_self Both o.slots (λ i a e. absurd (none_some (sym (plain i) ∙ e))) })))

    lone_matched : Matched Both (lone x o) (lone y o)
    lone_matched = record { one_right = λ a b c r s. r.1 ∙ sym s.1; one_left = λ a b c r s. r.0 ∙ sym s.0; alike = both_at }

    lone_alike : (i : MethodInfo) (m : ℕ) → AlikeState Both (start_of i m (lone x o) (Ref x ∷ [])) (start_of i m (lone y o) (Ref y ∷ []))
    lone_alike i m = record {
      heap = lone_matched;
      control = both_run (one_frame (record { method = refl; offset = refl; locals = locals_like Both i _ _ (one_more (like_ref (refl, refl)) no_more); operands = no_more }) no_frame);
      printed = refl;
    }

  lone_cells : (x y : ℕ) → cells (lone x o) ≡ cells (lone y o)
  lone_cells x y = cells_new empty x o (get-empty nat_cmp x) ∙ sym (cells_new empty y o (get-empty nat_cmp y))

  lone_closed : (y : ℕ) → IsClosed (lone y o)
  lone_closed y a i b e = go (ℕ_discrete a y)
    where
      go : Dec (a ≡ y) → get (lone y o) b ≢ None
      go (yes f) = absurd (none_some (sym (ap (λ o. on_some o None (λ o. name_at o.slots i)) (ap (get (lone y o)) f ∙ get_same empty y o) ∙ plain i) ∙ e))
      go (no n) = absurd (none_some (sym (ap (λ o. on_some o None (λ o. name_at o.slots i)) (get_other empty y a o n ∙ get-empty nat_cmp a)) ∙ e))

  lone_named : (i : MethodInfo) (m y z : ℕ) → NamedIn (start_of i m (lone y o) (Ref y ∷ [])).control z → get (lone y o) z ≢ None
  lone_named i m y z named =
      let t : State = start_of i m (lone y o) (Ref y ∷ []) in
      held_left (Both y y) _ _ (both_at y y z z (control_names (Both y y) t.heap t.heap (lone_matched y y) t.control t.control z z (lone_alike y y i m).control (control_beside t.control z named)))

  abbrev Started : (x y : ℕ) → State → State → Type 0
  Started x y s t = PairedStates ((x, y) ∷ []) s t × (cells s.heap ≡ cells t.heap) × IsClosed t.heap × ((z : ℕ) → NamedIn t.control z → get t.heap z ≢ None)

  started : (i : MethodInfo) (m x y : ℕ) → Started x y (start_of i m (lone x o) (Ref x ∷ [])) (start_of i m (lone y o) (Ref y ∷ []))
  started i m x y = (
    states_pair ((x, y) ∷ []) (Both x y) (start_of i m (lone x o) (Ref x ∷ [])) (start_of i m (lone y o) (Ref y ∷ [])) (lone_alike x y i m) (λ a b l. sum_left l (λ e. e) (λ e. absurd e)),
    lone_cells x y,
    lone_closed y,
    lone_named i m y,
  )

  pub lone_starts : (P : ProgramTables) (m x y : ℕ) (s t : State) → Begins P (lone x o) m (Ref x ∷ []) s → Begins P (lone y o) m (Ref y ∷ []) t → Started x y s t
  lone_starts P m x y s t bs bt = go (method_at P m) bs bt
    where
      go : (q : Option MethodInfo) → IsSomeAnd q (λ i. s ≡ start_of i m (lone x o) (Ref x ∷ [])) → IsSomeAnd q (λ i. t ≡ start_of i m (lone y o) (Ref y ∷ [])) → Started x y s t
      go None bs bt = absurd bs
      go (Some i) bs bt = subst₂ (Started x y) (sym bs) (sym bt) (started i m x y)
