-- Typed heaps stay typed.
use Rattle.std.proofs.Common.{◌≡◌, ◌≢◌, ℕ, zero, suc, ◌<◌, ◌+◌, List, [], ◌∷◌, length, refl, sym, ap, subst, ◌∙◌, arith, Bool, true, false, cond, Option, Some, None, replicate, map}
use Rattle.std.specs.Prelude.{T, IsTrue, IsSomeAnd, IfSome, MatchBool, is_some, ◌||◌, ◌==◌, slice_get, slice_set, nat_lt}
use Rattle.std.specs.List.{list_any}
use Rattle.std.specs.Int.{w8, w16}
use Rattle.std.specs.Option.{option_map}
use Rattle.std.specs.FinMap.{get, insert, get-retain_keys, nat_cmp-IsAntisymmetric}
use Rattle.std.proofs.Math.Decide.{ℕ_discrete}
use Rattle.std.proofs.lemmas.List.{length-set, length-map, length-replicate}
use Rattle.std.proofs.lemmas.Option.{slice_get-map}
use Rattle.nr_linked.specs.declared.program.kind.Base.{Base}
use Rattle.nr_linked.specs.declared.program.kind.Base.TheVariants as bases
use Rattle.nr_linked.specs.declared.program.kind.Kind.{Kind}
use Rattle.nr_linked.specs.declared.program.tables.ProgramTables.{ProgramTables}
use Rattle.nr_linked.specs.declared.program.tables.SlotInfo.{SlotInfo}
use Rattle.nr_linked.specs.Kinds.{array_of, class_in, class_kind, element_of, is_array, is_reference}
use Rattle.nr_linked.specs.Slots.{slots_of}
use Rattle.nr_linked.specs.Subtypes.{is_assignable}
use Rattle.nr_linked.specs.TypingFacts.{is_makeable}
use Rattle.nr_model.specs.declared.value.Value.{Value}
use Rattle.nr_model.specs.declared.value.Value.TheVariants.{Int, Long, Null, Ref}
use Rattle.nr_model.specs.Belonging.{Belongs}
use Rattle.nr_model.specs.Heaps.{Heap, Obj, on_some}
use Rattle.nr_model.specs.Scripts.{OnReference, Plain, PlainNull, new_object, plain, with_slot}
use Rattle.nr_model.specs.Staying.{Stays}
use Rattle.nr_model.specs.Throws.{zero_of, zero_of_base, zeros}
use Rattle.nr_model.specs.TypedHeaps.{Counts, TypedHeap, slot_ty}
use Rattle.nr_model.specs.Types.{Ty, Anything, Nullable, Object, Just, Exact, kept_base, kept_ty}
use Rattle.nr_model.proofs.Heaps.{get_same, get_other}
use Rattle.nr_model.proofs.Staying.{stays_write, stays_make}
use Rattle.nr_heap.specs.Contents.{Contents, HasMade, IsOfBase, IsOfKind, Keeps, array_with, object_of, with_only}
use Rattle.nr_heap.proofs.Maps.{slice_get-set, slice_get-set_other}
use Rattle.nr_heap.proofs.Runs.{some_at, some_held, some_told}
use Rattle.nr_heap.proofs.Slots.{none_some, some_eq}

pub passes : (b : Bool) → IsTrue b → T b
passes b e = subst T (sym e) tt

-- ---- what a slot's type says of the value alone

kept_by : (d : Bool) (base : Base) (P : ProgramTables) (h : Heap) (k : Kind) (v : Value)
    → Belongs P h (cond (d || is_some (class_in base)) (Nullable k) (kept_base base)) v → MatchBool (d || is_some (class_in base)) (OnReference v (λ a. Unit {0})) (IsOfBase base v)
kept_by true base P h k Null b = tt
kept_by true base P h k (Ref a) b = tt
kept_by true base P h k v b = b
kept_by false (bases.Object c) P h k Null b = tt
kept_by false (bases.Object c) P h k (Ref a) b = tt
kept_by false (bases.Object c) P h k v b = b
kept_by false bases.Bool P h k v b = b
kept_by false bases.Byte P h k v b = b
kept_by false bases.Char P h k v b = b
kept_by false bases.Short P h k v b = b
kept_by false bases.Int P h k v b = b
kept_by false bases.Long P h k v b = b

pub kept : (P : ProgramTables) (h : Heap) (k : Kind) (i : ℕ) (v : Value) → Belongs P h (slot_ty P k i) v → Keeps k v
kept P h k i v b = by_dims k.dims k.base b
  where
    by_dims : (d : ℕ) (base : Base) → Belongs P h (slot_ty P (record { dims = d; base = base }) i) v → Keeps (record { dims = d; base = base }) v
    by_dims zero base b = tt
    by_dims (suc d) base b = kept_by (nat_lt 0 d) base P h (record { dims = d; base = base }) v b

-- ---- default values

zero_by : (d : Bool) (base : Base) (P : ProgramTables) (h : Heap) (k : Kind)
    → Belongs P h (cond (d || is_some (class_in base)) (Nullable k) (kept_base base)) (plain (cond (d || is_some (class_in base)) PlainNull (zero_of_base base)))
zero_by true base P h k = tt
zero_by false (bases.Object c) P h k = tt
zero_by false bases.Bool P h k = (0, refl, omega arith)
zero_by false bases.Byte P h k = record { sfits = omega arith }
zero_by false bases.Char P h k = (0, refl, omega arith)
zero_by false bases.Short P h k = record { sfits = omega arith }
zero_by false bases.Int P h k = tt
zero_by false bases.Long P h k = tt

zero_belongs : (P : ProgramTables) (h : Heap) (k : Kind) → Belongs P h (kept_ty k) (plain (zero_of k))
zero_belongs P h k = zero_by (is_array k) k.base P h k

zero_at : (ss : List SlotInfo) (i : ℕ) (v : Value) → slice_get (map plain (map (λ s. zero_of s.kind) ss)) i ≡ Some v → (s : SlotInfo) × (slice_get ss i ≡ Some s) × (plain (zero_of s.kind) ≡ v)
zero_at [] i v e = absurd (none_some e)
zero_at (s ∷ ss) zero v e = (s, refl, some_eq e)
zero_at (s ∷ ss) (suc i) v e = zero_at ss i v e

same_at : (n i : ℕ) (p : Plain) (v : Value) → slice_get (map plain (replicate n p)) i ≡ Some v → plain p ≡ v
same_at zero i p v e = absurd (none_some e)
same_at (suc n) zero p v e = some_eq e
same_at (suc n) (suc i) p v e = same_at n i p v e

-- ---- names

module _ (P : ProgramTables) where
  belongs_on : (h k : Heap) → Stays h k → (t : Ty) (v : Value) → Belongs P h t v → Belongs P k t v
  belongs_on h k s (Nullable c) (Ref a) b =
      let o = some_held (λ o. T (is_assignable P o.kind c)) (get h a) b in
      let p = s.at a o.0 o.1 in
      some_told (λ o. T (is_assignable P o.kind c)) (get k a) p.0 p.1 (subst (λ k. T (is_assignable P k c)) (sym p.2) o.2)
  belongs_on h k s (Object c) (Ref a) b =
      let o = some_held (λ o. T (is_assignable P o.kind c)) (get h a) b in
      let p = s.at a o.0 o.1 in
      some_told (λ o. T (is_assignable P o.kind c)) (get k a) p.0 p.1 (subst (λ k. T (is_assignable P k c)) (sym p.2) o.2)
  belongs_on h k s (Just c) (Ref a) b =
      let o = some_held (λ o. o.kind ≡ c) (get h a) b in
      let p = s.at a o.0 o.1 in
      some_told (λ o. o.kind ≡ c) (get k a) p.0 p.1 (p.2 ∙ o.2)
  belongs_on h k s (Exact c n) (Ref a) b =
      let o = some_held (λ o. (o.kind ≡ c) × (length o.slots ≡ n)) (get h a) b in
      let p = s.at a o.0 o.1 in
      some_told (λ o. (o.kind ≡ c) × (length o.slots ≡ n)) (get k a) p.0 p.1 (p.2 ∙ o.2.0, p.3 ∙ o.2.1)
  belongs_on h k s t v b = b

  -- a heap with one object more, or another of its name
  module _ (h : Heap) (a : ℕ) (o : Obj) (typed : TypedHeap P h) (stays : Stays h (insert h a o)) (counts : Counts P o.kind (length o.slots))
      (slots : (i : ℕ) (v : Value) → slice_get o.slots i ≡ Some v → Belongs P (insert h a o) (slot_ty P o.kind i) v) where
    same : (b : ℕ) (q : Obj) → get (insert h a o) b ≡ Some q → b ≡ a → o ≡ q
    same b q e d = some_eq (sym (ap (get (insert h a o)) d ∙ get_same h a o) ∙ e)

    counted : (b : ℕ) (q : Obj) → get (insert h a o) b ≡ Some q → Dec (b ≡ a) → Counts P q.kind (length q.slots)
    counted b q e (yes d) = subst (λ q. Counts P q.kind (length q.slots)) (same b q e d) counts
    counted b q e (no n) = typed.count b q (sym (get_other h a b o n) ∙ e)

    belonging : (b : ℕ) (q : Obj) → get (insert h a o) b ≡ Some q → (i : ℕ) (v : Value) → slice_get q.slots i ≡ Some v → Dec (b ≡ a) → Belongs P (insert h a o) (slot_ty P q.kind i) v
    belonging b q e i v g (yes d) = subst (λ q. slice_get q.slots i ≡ Some v → Belongs P (insert h a o) (slot_ty P q.kind i) v) (same b q e d) (slots i v) g
    belonging b q e i v g (no n) = belongs_on h (insert h a o) stays (slot_ty P q.kind i) v (typed.slots b q (sym (get_other h a b o n) ∙ e) i v g)

    typed_insert : TypedHeap P (insert h a o)
    typed_insert = record { count = λ b q e. counted b q e (ℕ_discrete b a); slots = λ b q e i v g. belonging b q e i v g (ℕ_discrete b a) }

  pub typed_object : (old new : Contents) (name c : ℕ) → TypedHeap P old.objects → T (is_makeable P c) → HasMade old new name (object_of P c) → TypedHeap P new.objects
  typed_object old new name c typed can made =
      let o = object_of P c in
      subst (TypedHeap P) (sym made.objects)
      (typed_insert old.objects name o typed (stays_make old.objects name o made.fresh)
      (record { makeable = can; count = length-map (zeros P c) plain ∙ length-map (slots_of P c) (λ s. zero_of s.kind) })
      (λ i v g.
      let z = zero_at (slots_of P c) i v g in
      subst (λ s. Belongs P (insert old.objects name o) (on_some s Anything (λ s. kept_ty s.kind)) v) (sym z.1)
      (subst (Belongs P (insert old.objects name o) (kept_ty z.0.kind)) z.2 (zero_belongs P (insert old.objects name o) z.0.kind))))

  pub typed_array : (old new : Contents) (name n : ℕ) (e : Kind) → TypedHeap P old.objects → T (is_assignable P (array_of e) (array_of e)) → HasMade old new name (array_with e n) → TypedHeap P new.objects
  typed_array old new name n e typed self made =
      let o = array_with e n in
      let m : suc e.dims ≡ e.dims + 1 = omega arith in
      subst (TypedHeap P) (sym made.objects)
      (typed_insert old.objects name o typed (stays_make old.objects name o made.fresh)
      (subst (λ m. T (is_assignable P (record e { dims = m }) (record e { dims = m })) → Counts P (record e { dims = m }) (length o.slots)) m (λ t. t) self)
      (λ i v g. subst (λ m. Belongs P (insert old.objects name o) (slot_ty P (record e { dims = m }) i) v) m
      (subst (Belongs P (insert old.objects name o) (kept_ty e)) (same_at n i (zero_of e) v g) (zero_belongs P (insert old.objects name o) e))))

  pub typed_slot : (h : Heap) (a i : ℕ) (o : Obj) (v : Value) → TypedHeap P h → get h a ≡ Some o → i < length o.slots → Belongs P h (slot_ty P o.kind i) v → TypedHeap P (with_slot h a o i v)
  typed_slot h a i o v typed e l b =
      let stays = stays_write h a o (record o { slots = slice_set o.slots i v }) e refl (length-set o.slots i v) in
      typed_insert h a (record o { slots = slice_set o.slots i v }) typed stays
      (subst (Counts P o.kind) (sym (length-set o.slots i v)) (typed.count a o e))
      (λ j w g. belongs_on h (with_slot h a o i v) stays (slot_ty P o.kind j) w (old_slot j w g (ℕ_discrete j i)))
    where
      old_slot : (j : ℕ) (w : Value) → slice_get (slice_set o.slots i v) j ≡ Some w → Dec (j ≡ i) → Belongs P h (slot_ty P o.kind j) w
      old_slot j w g (yes d) =
          let f : v ≡ w = some_eq (sym (slice_get-set o.slots i v l) ∙ ap (slice_get (slice_set o.slots i v)) (sym d) ∙ g) in
          subst (λ j. Belongs P h (slot_ty P o.kind j) w) (sym d) (subst (Belongs P h (slot_ty P o.kind i)) f b)
      old_slot j w g (no n) = typed.slots a o e j w (sym (slice_get-set_other o.slots i j v n) ∙ g)

  got : (h : Heap) (names : List ℕ) (a : ℕ) → get (with_only names h) a ≡ cond (list_any (λ b. a == b) names) (get h a) None
  got h names a = get-retain_keys h (λ a. list_any (λ b. a == b) names) a (λ x t. ap (λ a. list_any (λ b. a == b) names) (sym (nat_cmp-IsAntisymmetric a x t)))

  stayed : (h : Heap) (names : List ℕ) (a : ℕ) (o : Obj) → get (with_only names h) a ≡ Some o → get h a ≡ Some o
  stayed h names a o e = by_test (list_any (λ b. a == b) names) (sym (got h names a) ∙ e)
    where
      by_test : (b : Bool) → cond b (get h a) None ≡ Some o → get h a ≡ Some o
      by_test true e = e
      by_test false e = absurd (none_some e)

  same_name : (h : Heap) (names : List ℕ) (a : ℕ) → get (with_only names h) a ≢ None → get (with_only names h) a ≡ get h a
  same_name h names a n = by_test (list_any (λ b. a == b) names) (got h names a)
    where
      by_test : (b : Bool) → get (with_only names h) a ≡ cond b (get h a) None → get (with_only names h) a ≡ get h a
      by_test true e = e
      by_test false e = absurd (n e)

  belongs_same : (h k : Heap) (t : Ty) (v : Value) → ((a : ℕ) → v ≡ Ref a → get k a ≡ get h a) → Belongs P h t v → Belongs P k t v
  belongs_same h k (Nullable c) (Ref a) s b = subst (λ o. IsSomeAnd o (λ o. T (is_assignable P o.kind c))) (sym (s a refl)) b
  belongs_same h k (Object c) (Ref a) s b = subst (λ o. IsSomeAnd o (λ o. T (is_assignable P o.kind c))) (sym (s a refl)) b
  belongs_same h k (Just c) (Ref a) s b = subst (λ o. IsSomeAnd o (λ o. o.kind ≡ c)) (sym (s a refl)) b
  belongs_same h k (Exact c n) (Ref a) s b = subst (λ o. IsSomeAnd o (λ o. (o.kind ≡ c) × (length o.slots ≡ n))) (sym (s a refl)) b
  belongs_same h k t v s b = b

  pub typed_cut : (h : Heap) (names : List ℕ) → TypedHeap P h
      → ((a b i : ℕ) (o : Obj) → get (with_only names h) a ≡ Some o → slice_get o.slots i ≡ Some (Ref b) → get (with_only names h) b ≢ None)
      → TypedHeap P (with_only names h)
  typed_cut h names typed closed = record {
    count = λ a o e. typed.count a o (stayed h names a o e);
    slots = λ a o e i v g. belongs_same h (with_only names h) (slot_ty P o.kind i) v
        (λ b r. same_name h names b (closed a b i o e (g ∙ ap Some r)))
        (typed.slots a o (stayed h names a o e) i v g);
  }
