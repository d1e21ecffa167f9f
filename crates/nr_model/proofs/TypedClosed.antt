-- In a typed heap each reference is to an object of the heap, and so is each among arguments and results that belong.
use Rattle.std.proofs.Common.{◌≡◌, ◌≢◌, ℕ, zero, suc, List, [], ◌∷◌, ◌++◌, refl, sym, ap, subst, ◌∙◌, Bool, true, false}
use Rattle.std.specs.Prelude.{Option, Some, None, IsSomeAnd, T, reverse, slice_get, length, if◌then◌else◌}
use Rattle.std.specs.FinMap.{get}
use Rattle.nr_linked.specs.declared.program.kind.Base.{Base}
use Rattle.nr_linked.specs.declared.program.kind.Base.TheVariants as bases
use Rattle.nr_linked.specs.declared.program.kind.Kind.{Kind}
use Rattle.nr_linked.specs.declared.program.tables.MethodInfo.{MethodInfo}
use Rattle.nr_linked.specs.declared.program.tables.ProgramTables.{ProgramTables}
use Rattle.nr_linked.specs.Kinds.{class_kind, is_reference}
use Rattle.nr_linked.specs.Slots.{slots_of}
use Rattle.nr_prog.specs.Members.{is_static}
use Rattle.nr_linked.specs.Subtypes.{is_assignable}
use Rattle.nr_model.specs.declared.value.Value.{Value}
use Rattle.nr_model.specs.declared.value.Value.TheVariants.{Int, Long, Null, Ref}
use Rattle.nr_model.specs.Heaps.{Obj, Heap, on_some}
use Rattle.nr_model.specs.Pairs.{name_in, name_at, Holds, IsClosed}
use Rattle.nr_model.specs.Types.{Ty, Anything, Nullable, Object, of_base, kept_base, kind_ty, kind_tys, kept_ty, argument_tys}
use Rattle.nr_model.specs.Belonging.{NamesOne, Belongs, Belong, no_place, one_place, IsResult}
use Rattle.nr_model.specs.TypedHeaps.{Counts, slot_ty, TypedHeap}
use Rattle.nr_model.proofs.Paths.{none_some, some_eq}

-- a value at a place that holds a name is a reference
ref_at : (vs : List Value) (i x : ℕ) → name_at vs i ≡ Some x → slice_get vs i ≡ Some (Ref x)
ref_at vs i x e = go (slice_get vs i) refl e
  where
    of_value : (v : Value) → name_in v ≡ Some x → v ≡ Ref x
    of_value (Ref a) e = ap Ref (some_eq e)
    of_value (Int n) e = absurd (none_some e)
    of_value (Long n) e = absurd (none_some e)
    of_value Null e = absurd (none_some e)

    go : (o : Option Value) → slice_get vs i ≡ o → on_some o None name_in ≡ Some x → slice_get vs i ≡ Some (Ref x)
    go None f e = absurd (none_some e)
    go (Some v) f e = f ∙ ap Some (of_value v e)

module _ (P : ProgramTables) (h : Heap) where
  one_there : (k : Kind) (x : ℕ) → NamesOne P h k x → get h x ≢ None
  one_there k x p = go (get h x) p
    where
      go : (o : Option Obj) → IsSomeAnd o (λ (o : Obj). T (is_assignable P o.kind k)) → o ≢ None
      go None p = absurd p
      go (Some o) p = λ e. none_some (sym e)

  -- what belongs to a kind's type, in a slot or elsewhere, is there
  kept_there : (k : Kind) (x : ℕ) → Belongs P h (kept_ty k) (Ref x) → get h x ≢ None
  kept_there k x p = go (is_reference k) k.base p
    where
      go : (b : Bool) (base : Base) → Belongs P h (if b then Nullable k else kept_base base) (Ref x) → get h x ≢ None
      go true base p = one_there k x p
      go false bases.Long p = absurd p
      go false bases.Int p = absurd p
      go false bases.Bool p = absurd p
      go false bases.Byte p = absurd p
      go false bases.Char p = absurd p
      go false bases.Short p = absurd p
      go false (bases.Object c) p = absurd p

  kind_there : (k : Kind) (x : ℕ) → Belongs P h (kind_ty k) (Ref x) → get h x ≢ None
  kind_there k x p = go (is_reference k) k.base p
    where
      go : (b : Bool) (base : Base) → Belongs P h (if b then Nullable k else of_base base) (Ref x) → get h x ≢ None
      go true base p = one_there k x p
      go false bases.Long p = absurd p
      go false bases.Int p = absurd p
      go false bases.Bool p = absurd p
      go false bases.Byte p = absurd p
      go false bases.Char p = absurd p
      go false bases.Short p = absurd p
      go false (bases.Object c) p = absurd p

  -- ---- slots

  below_some : {X : Type 0} (xs : List X) (ys : List Value) (i : ℕ) (v : Value) → length ys ≡ length xs → slice_get ys i ≡ Some v → (x : X) × (slice_get xs i ≡ Some x)
  below_some xs [] i v l e = absurd (none_some e)
  below_some [] (y ∷ ys) i v l e = absurd (bad l)
    where
      bad : suc (length ys) ≡ 0 → ⊥
      bad e = cc
  below_some (x ∷ xs) (y ∷ ys) zero v l e = (x, refl)
  below_some (x ∷ xs) (y ∷ ys) (suc i) v l e = below_some xs ys i v (one_less l) e
    where
      one_less : suc (length ys) ≡ suc (length xs) → length ys ≡ length xs
      one_less e = cc

  slot_there : (o : Obj) (i x : ℕ) → Counts P o.kind (length o.slots) → slice_get o.slots i ≡ Some (Ref x) → Belongs P h (slot_ty P o.kind i) (Ref x) → get h x ≢ None
  slot_there o i x c e p = by_dims o.kind.dims o.kind.base o.kind c p
    where
      by_class : (d : ℕ) → length o.slots ≡ length (slots_of P d) → Belongs P h (on_some (slice_get (slots_of P d) i) Anything (λ s. kept_ty s.kind)) (Ref x) → get h x ≢ None
      by_class d l p =
          let s = below_some (slots_of P d) o.slots i (Ref x) l e in
          kept_there s.0.kind x (subst (λ q. Belongs P h (on_some q Anything (λ s. kept_ty s.kind)) (Ref x)) s.1 p)

      by_dims : (d : ℕ) (base : Base) (k : Kind) → Counts P (record { dims = d; base = base }) (length o.slots) → Belongs P h (slot_ty P (record { dims = d; base = base }) i) (Ref x) → get h x ≢ None
      by_dims zero (bases.Object d) k c p = by_class d c.count p
      by_dims zero bases.Long k c p = absurd c
      by_dims zero bases.Int k c p = absurd c
      by_dims zero bases.Bool k c p = absurd c
      by_dims zero bases.Byte k c p = absurd c
      by_dims zero bases.Char k c p = absurd c
      by_dims zero bases.Short k c p = absurd c
      by_dims (suc d) base k c p = kept_there (record { dims = d; base = base }) x p

  pub typed_closed : TypedHeap P h → IsClosed h
  typed_closed t x i y e = go (get h x) refl e
    where
      go : (o : Option Obj) → get h x ≡ o → on_some o None (λ o. name_at o.slots i) ≡ Some y → get h y ≢ None
      go None f e = absurd (none_some e)
      go (Some o) f e = let r = ref_at o.slots i y e in slot_there o i y (t.count x o f) r (t.slots x o f i (Ref y) r)

  -- ---- arguments and results

  held_among : (ts : List Ty) → ((i x : ℕ) (t : Ty) → slice_get ts i ≡ Some t → Belongs P h t (Ref x) → get h x ≢ None) → (vs : List Value) → Belong P h ts vs → (i x : ℕ) → slice_get vs i ≡ Some (Ref x) → get h x ≢ None
  held_among ts k vs no_place i x e = absurd (none_some e)
  held_among ts k vs (one_place {t = t} {v = v} {ts = us} {vs = ws} b bs) zero x e = k zero x t refl (subst (Belongs P h t) (some_eq e) b)
  held_among ts k vs (one_place {t = t} {v = v} {ts = us} {vs = ws} b bs) (suc i) x e = held_among us (λ j. k (suc j)) ws bs i x e

  kinds_there : (ks : List Kind) (rest : List Ty) → ((i x : ℕ) (t : Ty) → slice_get rest i ≡ Some t → Belongs P h t (Ref x) → get h x ≢ None)
      → (i x : ℕ) (t : Ty) → slice_get (kind_tys ks ++ rest) i ≡ Some t → Belongs P h t (Ref x) → get h x ≢ None
  kinds_there [] rest k i x t e p = k i x t e p
  kinds_there (q ∷ qs) rest k zero x t e p = kind_there q x (subst (λ t. Belongs P h t (Ref x)) (sym (some_eq e)) p)
  kinds_there (q ∷ qs) rest k (suc i) x t e p = kinds_there qs rest k i x t e p

  receiver_there : (m : MethodInfo) (b : Bool) (i x : ℕ) (t : Ty) → slice_get (if b then [] else Object (class_kind m.«class») ∷ []) i ≡ Some t → Belongs P h t (Ref x) → get h x ≢ None
  receiver_there m true i x t e p = absurd (none_some e)
  receiver_there m false zero x t e p = one_there (class_kind m.«class») x (subst (λ t. Belongs P h t (Ref x)) (sym (some_eq e)) p)
  receiver_there m false (suc i) x t e p = absurd (none_some e)

  pub arguments_there : (m : MethodInfo) (vs : List Value) → Belong P h (argument_tys m) vs → (x : ℕ) → Holds vs x → get h x ≢ None
  arguments_there m vs b x n = held_among (argument_tys m) (kinds_there (reverse m.params) _ (receiver_there m (is_static m.flags))) vs b n.0 x (ref_at vs n.0 x n.1)

  pub result_there : (k : Option Kind) (v : Option Value) → IsResult P h k v → (x : ℕ) → on_some v None name_in ≡ Some x → get h x ≢ None
  result_there k None r x e = absurd (none_some e)
  result_there None (Some v) r x e = absurd r
  result_there (Some k) (Some (Ref a)) r x e = kind_there k x (subst (λ a. Belongs P h (kind_ty k) (Ref a)) (some_eq e) r)
  result_there (Some k) (Some (Int n)) r x e = absurd (none_some e)
  result_there (Some k) (Some (Long n)) r x e = absurd (none_some e)
  result_there (Some k) (Some Null) r x e = absurd (none_some e)
