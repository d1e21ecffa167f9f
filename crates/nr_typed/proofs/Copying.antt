-- A typed heap with copies of what arguments reach is typed, and so are the copied arguments.
use Rattle.std.proofs.Common.{◌≡◌, ◌≢◌, ◌⊎◌, ℕ, zero, suc, List, [], ◌∷◌, length, refl, sym, ap, subst, ◌∙◌, inl, inr, T}
use Rattle.std.specs.Prelude.{Option, Some, None, IsSomeAnd, slice_get, map}
use Rattle.std.specs.Option.{option_map}
use Rattle.std.specs.Ordering.{nat_cmp}
use Rattle.std.specs.FinMap.{FinMap, get}
use Rattle.std.proofs.lemmas.List.{length-map}
use Rattle.nr_linked.specs.declared.program.kind.Kind.{Kind}
use Rattle.nr_linked.specs.declared.program.tables.ProgramTables.{ProgramTables}
use Rattle.nr_linked.specs.Subtypes.{is_assignable}
use Rattle.nr_model.specs.declared.value.Value.{Value}
use Rattle.nr_model.specs.declared.value.Value.TheVariants.{Int, Long, Null, Ref}
use Rattle.nr_model.specs.Heaps.{Obj, Heap, on_some}
use Rattle.nr_model.specs.Locals.{copy_of, copied_value, copied_object, CopyArgs}
use Rattle.nr_model.specs.Types.{Ty, Anything, Word, AnInt, Small, ALong, JustNull, Nullable, Object, Just, Exact}
use Rattle.nr_model.specs.Belonging.{Belongs, Belong, no_place, one_place}
use Rattle.nr_model.specs.Staying.{Stays}
use Rattle.nr_model.specs.TypedHeaps.{Counts, slot_ty, TypedHeap}
use Rattle.nr_typed.proofs.Typed.{some_of, at_some, belongs_on}
use Rattle.nr_typed.proofs.Steps.{some_same, none_some}

slots_length : (copies : FinMap nat_cmp ℕ) (o : Obj) → length (map (copied_value copies) o.slots) ≡ length o.slots
slots_length copies o = simp length-map

slot_of : (copies : FinMap nat_cmp ℕ) (vs : List Value) (i : ℕ) (v : Value) → slice_get (map (copied_value copies) vs) i ≡ Some v → (u : Value) × (slice_get vs i ≡ Some u) × (copied_value copies u ≡ v)
slot_of copies [] i v e = absurd (none_some e)
slot_of copies (u ∷ vs) zero v e = (u, refl, some_same e)
slot_of copies (u ∷ vs) (suc i) v e = slot_of copies vs i v e

pub some_not_none : {o : Obj} {x : Option Obj} → x ≡ Some o → x ≢ None
some_not_none e f = cc

module _ (P : ProgramTables) (h : Heap) (args : List Value) (k : Heap) (args' : List Value) (c : CopyArgs P h args k args') where
  pub copies_stay : Stays h k
  copies_stay = record { at = λ a o e. (o, c.old a (some_not_none e) ∙ e, refl, refl) }

  -- the object that the copied reference names
  copied_at : (a : ℕ) (o : Obj) → get h a ≡ Some o → (p : Obj) × (get k (copy_of c.copies a) ≡ Some p) × (p.kind ≡ o.kind) × (length p.slots ≡ length o.slots)
  copied_at a o e = cases (get c.copies a) refl
    where
      cases : (x : Option ℕ) → get c.copies a ≡ x → (p : Obj) × (get k (on_some x a (λ z. z)) ≡ Some p) × (p.kind ≡ o.kind) × (length p.slots ≡ length o.slots)
      cases None f = (o, c.old a (some_not_none e) ∙ e, refl, refl)
      cases (Some z) f = (copied_object c.copies o, c.objects a z f ∙ ap (option_map (copied_object c.copies)) e, refl, slots_length c.copies o)

  kind_at : (n : Kind) (a : ℕ) → IsSomeAnd (get h a) (λ o. T (is_assignable P o.kind n)) → IsSomeAnd (get k (copy_of c.copies a)) (λ o. T (is_assignable P o.kind n))
  kind_at n a b =
      let o = some_of (get h a) (λ o. T (is_assignable P o.kind n)) b in
      let p = copied_at a o.0 o.1 in
      at_some (get k (copy_of c.copies a)) p.0 (λ o. T (is_assignable P o.kind n)) p.1 (subst (λ k. T (is_assignable P k n)) (sym p.2) o.2)

  value_copied : (t : Ty) (v : Value) → Belongs P h t v → Belongs P k t (copied_value c.copies v)
  value_copied Anything v q = tt
  value_copied Word (Int n) q = tt
  value_copied Word (Long n) q = q
  value_copied Word Null q = tt
  value_copied Word (Ref a) q = tt
  value_copied AnInt (Int n) q = q
  value_copied AnInt (Long n) q = q
  value_copied AnInt Null q = q
  value_copied AnInt (Ref a) q = absurd q
  value_copied (Small b) (Int n) q = q
  value_copied (Small b) (Long n) q = q
  value_copied (Small b) Null q = q
  value_copied (Small b) (Ref a) q = absurd q
  value_copied ALong (Int n) q = q
  value_copied ALong (Long n) q = q
  value_copied ALong Null q = q
  value_copied ALong (Ref a) q = absurd q
  value_copied JustNull (Int n) q = q
  value_copied JustNull (Long n) q = q
  value_copied JustNull Null q = q
  value_copied JustNull (Ref a) q = absurd q
  value_copied (Nullable n) Null q = tt
  value_copied (Nullable n) (Ref a) q = kind_at n a q
  value_copied (Nullable n) (Int i) q = q
  value_copied (Nullable n) (Long i) q = q
  value_copied (Object n) (Ref a) q = kind_at n a q
  value_copied (Object n) Null q = q
  value_copied (Object n) (Int i) q = q
  value_copied (Object n) (Long i) q = q
  value_copied (Just n) (Ref a) q =
      let o = some_of (get h a) (λ o. o.kind ≡ n) q in let p = copied_at a o.0 o.1 in at_some (get k (copy_of c.copies a)) p.0 (λ o. o.kind ≡ n) p.1 (p.2 ∙ o.2)
  value_copied (Just n) Null q = q
  value_copied (Just n) (Int i) q = q
  value_copied (Just n) (Long i) q = q
  value_copied (Exact n l) (Ref a) q =
      let o = some_of (get h a) (λ o. (o.kind ≡ n) × (length o.slots ≡ l)) q in let p = copied_at a o.0 o.1 in
      at_some (get k (copy_of c.copies a)) p.0 (λ o. (o.kind ≡ n) × (length o.slots ≡ l)) p.1 (p.2 ∙ o.2.0, p.3 ∙ o.2.1)
  value_copied (Exact n l) Null q = q
  value_copied (Exact n l) (Int i) q = q
  value_copied (Exact n l) (Long i) q = q

  all_copied : (ts : List Ty) (vs : List Value) → Belong P h ts vs → Belong P k ts (map (copied_value c.copies) vs)
  all_copied [] vs no_place = no_place
  all_copied (t ∷ ts) vs (one_place a q) = one_place (value_copied t _ a) (all_copied ts _ q)

  pub arguments_copied : (ts : List Ty) → Belong P h ts args → Belong P k ts args'
  arguments_copied ts q = subst (Belong P k ts) (sym c.arguments) (all_copied ts args q)

  module _ (th : TypedHeap P h) where
    -- an object of k is one of h, or a copy of one
    whence : (y : ℕ) (q : Obj) → get k y ≡ Some q → (get h y ≡ Some q) ⊎ ((x : ℕ) × (o : Obj) × (get h x ≡ Some o) × (copied_object c.copies o ≡ q))
    whence y q f = cases (c.no_more y (some_not_none f))
      where
        of_copy : (x : ℕ) (o : Option Obj) → get h x ≡ o → option_map (copied_object c.copies) o ≡ Some q → (get h y ≡ Some q) ⊎ ((x : ℕ) × (o : Obj) × (get h x ≡ Some o) × (copied_object c.copies o ≡ q))
        of_copy x None e g = absurd (none_some g)
        of_copy x (Some o) e g = inr (x, o, e, some_same g)

        cases : (get h y ≢ None) ⊎ ((x : ℕ) × (get c.copies x ≡ Some y)) → (get h y ≡ Some q) ⊎ ((x : ℕ) × (o : Obj) × (get h x ≡ Some o) × (copied_object c.copies o ≡ q))
        cases (inl n) = inl (sym (c.old y n) ∙ f)
        cases (inr x) = of_copy x.0 (get h x.0) refl (sym (c.objects x.0 y x.1) ∙ f)

    pub copies_typed : TypedHeap P k
    copies_typed = record { count = λ y q f. counted y q (whence y q f); slots = λ y q f i v g. slot y q i v g (whence y q f) }
      where
        counted : (y : ℕ) (q : Obj) → (get h y ≡ Some q) ⊎ ((x : ℕ) × (o : Obj) × (get h x ≡ Some o) × (copied_object c.copies o ≡ q)) → Counts P q.kind (length q.slots)
        counted y q (inl e) = th.count y q e
        counted y q (inr x) = subst (λ (q : Obj). Counts P q.kind (length q.slots)) x.3 (subst (Counts P x.1.kind) (sym (slots_length c.copies x.1)) (th.count x.0 x.1 x.2))

        of_copy : (x : ℕ) (o : Obj) → get h x ≡ Some o → (i : ℕ) (v : Value) → slice_get (map (copied_value c.copies) o.slots) i ≡ Some v → Belongs P k (slot_ty P o.kind i) v
        of_copy x o e i v g = let u = slot_of c.copies o.slots i v g in subst (Belongs P k (slot_ty P o.kind i)) u.2 (value_copied (slot_ty P o.kind i) u.0 (th.slots x o e i u.0 u.1))

        slot : (y : ℕ) (q : Obj) (i : ℕ) (v : Value) → slice_get q.slots i ≡ Some v → (get h y ≡ Some q) ⊎ ((x : ℕ) × (o : Obj) × (get h x ≡ Some o) × (copied_object c.copies o ≡ q)) → Belongs P k (slot_ty P q.kind i) v
        slot y q i v g (inl e) = belongs_on P h k copies_stay (slot_ty P q.kind i) v (th.slots y q e i v g)
        slot y q i v g (inr x) = subst (λ (q : Obj). slice_get q.slots i ≡ Some v → Belongs P k (slot_ty P q.kind i) v) x.3 (λ g. of_copy x.0 x.1 x.2 i v g) g
