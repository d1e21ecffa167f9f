-- Forms, one for each class.
use Rattle.std.proofs.Common.{◌≡◌, ℕ, zero, suc, ◌+◌, ◌-◌, ◌<◌, ◌≤◌, min, false, get_or, List, [], ◌∷◌, ◌++◌, length, reverse, refl, sym, ap, subst, ◌∙◌, ◌⊎◌, inl, inr, arith, ◌&&◌}
use Rattle.std.specs.Prelude.{None, Some, slice_get, not}
use Rattle.std.specs.List.{flat_map, list_any}
use Rattle.std.specs.Option.{option_and_then, option_map_or}
use Rattle.std.proofs.lemmas.Bool.{cases_lt}
use Rattle.std.proofs.lemmas.Option.{slice_get-get_or, slice_get_past}
use Rattle.nr_prog.specs.Members.{has_flag, is_abstract}
use Rattle.nr_linked.specs.declared.program.tables.ProgramTables.{ProgramTables}
use Rattle.nr_linked.specs.Kinds.{class_kind}
use Rattle.nr_linked.specs.KindTexts.{class_name}
use Rattle.nr_linked.specs.Programs.{class_at, superclasses}
use Rattle.nr_linked.specs.Sendable.{are_serializable, has_twins, is_sendable, is_serial_class, is_serializable}
use Rattle.nr_linked.specs.Slots.{slots_of}
use Rattle.nr_model.proofs.Paths.{none_some, some_eq}
use Rattle.nr_graph.specs.StreamOrder.{Placed, declared_slots, stream_slots}
use Rattle.nr_serform.specs.declared.form.Form.{Form}
use Rattle.nr_serform.specs.ClassNumbers.{class_number, parts_number}
use Rattle.nr_serform.specs.Forms.{AreForms, IsFormOf}
use Rattle.nr_serform.specs.StreamSlots.{slots_declared}
use Rattle.nr_serform.proofs.PlacedSlots.{declared_is}

-- ---- one form more

last_or : {X : Type 0} (xs : List X) (x : X) (c : ℕ) (y : X) → slice_get (xs ++ x ∷ []) c ≡ Some y → (slice_get xs c ≡ Some y) ⊎ ((c ≡ length xs) × (x ≡ y))
last_or [] x zero y e = inr (refl, some_eq e)
last_or [] x (suc c) y e = absurd (none_some e)
last_or (z ∷ xs) x zero y e = inl e
last_or (z ∷ xs) x (suc c) y e = by (last_or xs x c y e)
  where
    by : (slice_get xs c ≡ Some y) ⊎ ((c ≡ length xs) × (x ≡ y)) → (slice_get xs c ≡ Some y) ⊎ ((suc c ≡ suc (length xs)) × (x ≡ y))
    by (inl h) = inl h
    by (inr h) = inr (ap suc h.0, h.1)

pub each_more : (P : ProgramTables) (forms more : List Form) (n : ℕ) (f : Form) → length forms ≡ n → IsFormOf P n f → more ≡ forms ++ f ∷ []
    → ((c : ℕ) (g : Form) → slice_get forms c ≡ Some g → IsFormOf P c g) → (c : ℕ) (g : Form) → slice_get more c ≡ Some g → IsFormOf P c g
each_more P forms more n f count form pushed each c g e = by (last_or forms f c g (ap (λ fs. slice_get fs c) (sym pushed) ∙ e))
  where
    by : (slice_get forms c ≡ Some g) ⊎ ((c ≡ length forms) × (f ≡ g)) → IsFormOf P c g
    by (inl h) = each c g h
    by (inr h) = subst (λ k. IsFormOf P k g) (sym (h.0 ∙ count)) (subst (IsFormOf P n) h.1 form)

-- ---- no class

none_declared : (P : ProgramTables) (c d : ℕ) → class_at P c ≡ None → [] ≡ declared_slots P c d
none_declared P c d none =
    let e : slots_of P c ≡ [] = ap (λ o. option_map_or (λ e. e.slots) o []) none in
    sym (declared_is P c d ∙ ap (λ ss. slots_declared ss d) e)

none_flat : (f : ℕ → List Placed) → ((d : ℕ) → [] ≡ f d) → (ds : List ℕ) → [] ≡ flat_map f ds
none_flat f each [] = refl
none_flat f each (d ∷ ds) = λ i. each d i ++ none_flat f each ds i

none_streamed : (P : ProgramTables) (c : ℕ) → class_at P c ≡ None → [] ≡ stream_slots P c
none_streamed P c none = none_flat (declared_slots P c) (λ d. none_declared P c d none) (reverse (superclasses P c))

none_numbered : (P : ProgramTables) (c : ℕ) → class_at P c ≡ None → 0 ≡ class_number P c
unfolding class_number
none_numbered P c none = sym (ap (λ o. option_map_or (parts_number (class_name P c)) (option_and_then (λ e. e.read) o) 0) none)

none_sendable : (P : ProgramTables) (c : ℕ) → class_at P c ≡ None → false ≡ is_sendable P (class_kind c)
none_sendable P c none =
    sym (ap (λ o. option_map_or (λ e. not (has_flag 0x0200 e.flags) && not (is_abstract e.flags)) o false
    && (is_serializable P c && (are_serializable P c && (not (list_any (is_serial_class P) (superclasses P c)) && not (has_twins (slots_of P c))))))
    none)

-- ---- what the forms say

-- two numbers that name no class
other_form : (P : ProgramTables) (n c : ℕ) (f : Form) → class_at P n ≡ None → class_at P c ≡ None → IsFormOf P n f → IsFormOf P c f
other_form P n c f here there form = record {
  slots = form.slots ∙ sym (none_streamed P n here) ∙ none_streamed P c there;
  fields = form.fields ∙ sym (none_declared P n n here) ∙ none_declared P c c there;
  number = form.number ∙ sym (none_numbered P n here) ∙ none_numbered P c there;
  sendable = form.sendable ∙ sym (none_sendable P n here) ∙ none_sendable P c there;
}

-- the form at the class's place, or the last one
pub form_is : (P Q : ProgramTables) (forms : List Form) (n c place : ℕ) (f : Form) → AreForms P forms → P ≡ Q → n ≡ length forms → place ≡ min c (n - 1)
    → f ≡ get_or forms place f → IsFormOf Q c f
form_is P Q forms n c place f all same counted clamped at = subst (λ R. IsFormOf R c f) same (by (cases_lt (length P.classes) c))
  where
    long : length forms ≡ length P.classes + 1
    long = all.count

    there : slice_get forms place ≡ Some f
    there = slice_get-get_or forms place f (omega (arith, long, counted, clamped)) ∙ ap Some (sym at)

    by : (length P.classes < c) ⊎ (c ≤ length P.classes) → IsFormOf P c f
    by (inr le) =
        let p : place ≡ c = omega (arith, long, counted, clamped, le) in
        all.each c f (ap (slice_get forms) (sym p) ∙ there)
    by (inl gt) =
        let p : place ≡ length P.classes = omega (arith, long, counted, clamped, gt) in
        other_form P (length P.classes) c f (slice_get_past P.classes (length P.classes) (omega arith)) (slice_get_past P.classes c (omega (arith, gt)))
        (all.each (length P.classes) f (ap (slice_get forms) (sym p) ∙ there))
