-- The superclasses of a class of a linked program: no class stands twice among them, and each slot of the class's objects
-- is declared by one of them.
use Rattle.std.proofs.Common.{◌≡◌, ℕ, zero, suc, ◌+◌, ◌≤◌, false, ◌||◌, [], ◌∷◌, length, refl, sym, ap, subst, ◌∙◌, ◌⊎◌, inl, inr, arith}
use Rattle.std.specs.Prelude.{Option, Some, None, is_none, slice_get, IsTrue, ◌==◌}
use Rattle.std.specs.List.{list_any}
use Rattle.std.specs.Option.{option_and_then, option_map_or}
use Rattle.std.proofs.lemmas.Bool.{eqb-true, false≢true}
use Rattle.nr_linked.specs.declared.program.built_in.BuiltIn.TheVariants.{Object}
use Rattle.nr_linked.specs.declared.program.tables.ClassInfo.{ClassInfo}
use Rattle.nr_linked.specs.declared.program.tables.ProgramTables.{ProgramTables}
use Rattle.nr_linked.specs.declared.program.tables.SlotInfo.{SlotInfo}
use Rattle.nr_linked.specs.BuiltIns.{built_in}
use Rattle.nr_linked.specs.Linked.{IsClassLinked, Linked, inherited_slots, own_slots}
use Rattle.nr_linked.specs.Programs.{class_at, super_of, superclasses, upward}
use Rattle.nr_linked.specs.Slots.{slots_of}
use Rattle.nr_model.specs.Heaps.{EachOnce, Has}
use Rattle.nr_model.proofs.Paths.{none_some, some_eq}
use Rattle.nr_linked.proofs.Elements.{get_either, passes_at}

module _ (P : ProgramTables) (linked : Linked P) where
  -- at most n classes lead up to java/lang/Object
  abbrev Ends : ℕ → Option ℕ → Type 0
  Ends n o = IsTrue (list_any (λ d. d == built_in P Object) (upward P n o))

  data Step (n c : ℕ) : Type 0 where
    at_root : super_of P c ≡ None → Step n c
    onward : (d : ℕ) → super_of P c ≡ Some d → Ends n (Some d) → Step n c

  not_root : (c d : ℕ) → super_of P c ≡ Some d → (c == built_in P Object) ≡ false
  not_root c d up = of_entry (class_at P c) refl up
    where
      of_entry : (o : Option ClassInfo) → class_at P c ≡ o → option_and_then (λ e. e.super_class) o ≡ Some d → (c == built_in P Object) ≡ false
      of_entry None is up = absurd (none_some up)
      of_entry (Some e) is up = sym (linked.classes c e is).root ∙ ap is_none up

  step : (n c : ℕ) → Ends (suc n) (Some c) → Step n c
  step n c ends = by (super_of P c) refl ends
    where
      by : (o : Option ℕ) → super_of P c ≡ o → IsTrue ((c == built_in P Object) || list_any (λ d. d == built_in P Object) (upward P n o)) → Step n c
      by None is e = at_root is
      by (Some d) is e = onward d is (subst (λ b. IsTrue (b || list_any (λ d. d == built_in P Object) (upward P n (Some d)))) (not_root c d is) e)

  upward_none : (n : ℕ) → upward P n None ≡ []
  upward_none zero = refl
  upward_none (suc n) = refl

  -- the classes that lead up are the same however many are looked for
  one_chain : (n m c : ℕ) → Ends n (Some c) → Ends m (Some c) → upward P n (Some c) ≡ upward P m (Some c)
  one_chain zero m c a b = absurd (false≢true a)
  one_chain (suc n) zero c a b = absurd (false≢true b)
  one_chain (suc n) (suc m) c a b = ap (λ xs. c ∷ xs) (by (step n c a) (step m c b) (λ d. one_chain n m d))
    where
      by : Step n c → Step m c → ((d : ℕ) → Ends n (Some d) → Ends m (Some d) → upward P n (Some d) ≡ upward P m (Some d)) → upward P n (super_of P c) ≡ upward P m (super_of P c)
      by (at_root e) s rest = ap (upward P n) e ∙ upward_none n ∙ sym (ap (upward P m) e ∙ upward_none m)
      by (onward d e f) (at_root g) rest = absurd (none_some (sym g ∙ e))
      by (onward d e f) (onward d' e' f') rest =
          let same : d' ≡ d = some_eq (sym e' ∙ e) in
          ap (upward P n) e ∙ rest d f (subst (λ d. Ends m (Some d)) same f') ∙ sym (ap (upward P m) e)

  -- what stands above leads up too, by no more classes
  shorter : (n d k c : ℕ) → Ends n (Some d) → slice_get (upward P n (Some d)) k ≡ Some c → (m : ℕ) × Ends m (Some c) × (length (upward P m (Some c)) ≤ length (upward P n (Some d)))
  shorter zero d k c a e = absurd (false≢true a)
  shorter (suc n) d zero c a e = subst (λ c. (m : ℕ) × Ends m (Some c) × (length (upward P m (Some c)) ≤ length (upward P (suc n) (Some d)))) (some_eq e) (suc n, a, omega arith)
  shorter (suc n) d (suc k) c a e = by (step n d a) (λ d'. shorter n d' k c)
    where
      by : Step n d → ((d' : ℕ) → Ends n (Some d') → slice_get (upward P n (Some d')) k ≡ Some c → (m : ℕ) × Ends m (Some c) × (length (upward P m (Some c)) ≤ length (upward P n (Some d'))))
          → (m : ℕ) × Ends m (Some c) × (length (upward P m (Some c)) ≤ length (upward P (suc n) (Some d)))
      by (at_root f) rest = absurd (none_some (ap (λ xs. slice_get xs k) (sym (ap (upward P n) f ∙ upward_none n)) ∙ e))
      by (onward d' f g) rest =
          let r = rest d' g (ap (λ o. slice_get (upward P n o) k) (sym f) ∙ e) in
          let l : length (upward P n (super_of P d)) ≡ length (upward P n (Some d')) = ap (λ o. length (upward P n o)) f in
          (r.0, r.1, omega (arith, r.2, l))

  each_above_once : (n c : ℕ) → Ends n (Some c) → EachOnce (upward P n (Some c))
  each_above_once zero c a = absurd (false≢true a)
  each_above_once (suc n) c a = by (step n c a) (each_above_once n)
    where
      not_again : (k : ℕ) → slice_get (upward P n (super_of P c)) k ≡ Some c → ⊥
      not_again k e = at (step n c a)
        where
          at : Step n c → ⊥
          at (at_root f) = none_some (ap (λ xs. slice_get xs k) (sym (ap (upward P n) f ∙ upward_none n)) ∙ e)
          at (onward d f g) =
              let r = shorter n d k c g (ap (λ o. slice_get (upward P n o) k) (sym f) ∙ e) in
              let same = ap length (one_chain r.0 (suc n) c r.1 a) in
              let l : length (upward P n (super_of P c)) ≡ length (upward P n (Some d)) = ap (λ o. length (upward P n o)) f in
              absurd (omega (arith, r.2, same, l))

      with_first : EachOnce (upward P n (super_of P c)) → EachOnce (upward P (suc n) (Some c))
      with_first once zero zero x e f = refl
      with_first once zero (suc j) x e f = absurd (not_again j (f ∙ ap Some (sym (some_eq e))))
      with_first once (suc i) zero x e f = absurd (not_again i (e ∙ ap Some (sym (some_eq f))))
      with_first once (suc i) (suc j) x e f = ap suc (once i j x e f)

      by : Step n c → ((d : ℕ) → Ends n (Some d) → EachOnce (upward P n (Some d))) → EachOnce (upward P (suc n) (Some c))
      by (at_root f) rest = with_first (subst EachOnce (sym (ap (upward P n) f ∙ upward_none n)) (λ i j x e g. absurd (none_some e)))
      by (onward d f g) rest = with_first (subst EachOnce (ap (upward P n) (sym f)) (rest d g))

  -- ---- who declares a slot

  slots_declared : (n c i : ℕ) (s : SlotInfo) → Ends n (Some c) → slice_get (slots_of P c) i ≡ Some s → Has (upward P n (Some c)) s.declared_in
  slots_declared zero c i s a e = absurd (false≢true a)
  slots_declared (suc n) c i s a e = by (class_at P c) refl e (λ d. slots_declared n d)
    where
      by : (o : Option ClassInfo) → class_at P c ≡ o → slice_get (option_map_or (λ e. e.slots) o []) i ≡ Some s
          → ((d j : ℕ) (t : SlotInfo) → Ends n (Some d) → slice_get (slots_of P d) j ≡ Some t → Has (upward P n (Some d)) t.declared_in)
          → Has (upward P (suc n) (Some c)) s.declared_in
      by None is e rest = absurd (none_some e)
      by (Some c') is e rest = which (get_either (inherited_slots P c') (own_slots P c') i s (ap (λ xs. slice_get xs i) (sym facts.inherited) ∙ e))
        where
          facts : IsClassLinked P c c'
          facts = linked.classes c c' is

          from_super : (o : Option ℕ) → c'.super_class ≡ o → slice_get (option_map_or (slots_of P) o []) i ≡ Some s → Has (upward P (suc n) (Some c)) s.declared_in
          from_super None f g = absurd (none_some g)
          from_super (Some d) f g =
              let up : super_of P c ≡ Some d = ap (λ o. option_and_then (λ e. e.super_class) o) is ∙ f in
              let more = at (step n c a) d up in
              let h = rest d i s more g in
              (suc h.0, ap (λ o. slice_get (upward P n o) h.0) up ∙ h.1)
            where
              at : Step n c → (d : ℕ) → super_of P c ≡ Some d → Ends n (Some d)
              at (at_root f) d up = absurd (none_some (sym f ∙ up))
              at (onward d' f g) d up = subst (λ d. Ends n (Some d)) (some_eq (sym f ∙ up)) g

          which : (slice_get (inherited_slots P c') i ≡ Some s) ⊎ ((j : ℕ) × (i ≡ length (inherited_slots P c') + j) × (slice_get (own_slots P c') j ≡ Some s)) → Has (upward P (suc n) (Some c)) s.declared_in
          which (inl g) = from_super c'.super_class refl g
          which (inr g) = (zero, ap Some (sym (eqb-true s.declared_in c (passes_at (λ (s : SlotInfo). s.declared_in == c) (own_slots P c') g.0 s facts.own g.2))))

  -- ---- all superclasses

  ends_all : (c i : ℕ) (s : SlotInfo) → slice_get (slots_of P c) i ≡ Some s → Ends (length P.classes) (Some c)
  ends_all c i s e = by (class_at P c) refl e
    where
      by : (o : Option ClassInfo) → class_at P c ≡ o → slice_get (option_map_or (λ e. e.slots) o []) i ≡ Some s → Ends (length P.classes) (Some c)
      by None is e = absurd (none_some e)
      by (Some c') is e = (linked.classes c c' is).ends

  pub superclasses_once : (c i : ℕ) (s : SlotInfo) → slice_get (slots_of P c) i ≡ Some s → EachOnce (superclasses P c)
  superclasses_once c i s e = each_above_once (length P.classes) c (ends_all c i s e)

  pub superclass_declares : (c i : ℕ) (s : SlotInfo) → slice_get (slots_of P c) i ≡ Some s → Has (superclasses P c) s.declared_in
  superclass_declares c i s e = slots_declared (length P.classes) c i s (ends_all c i s e) e
