-- What is read of an object, and what a name leads to.
use Rattle.std.proofs.Common.{◌≡◌, ◌≢◌, ℕ, zero, suc, ◌+◌, ◌<◌, Bool, true, false, List, [], ◌∷◌, ◌++◌, length, map, refl, sym, ap, subst, ◌∙◌, ◌⊎◌, inl, inr, arith, true≢false, get_or, take, reverse, if◌then◌else◌, Option, Some, None}
use Rattle.std.specs.Prelude.{IsSomeAnd, IfOk, Result, Ok, Err, slice_get, nat_lt}
use Rattle.std.specs.FinMap.{get}
use Rattle.std.specs.List.{AllByRecursion, cons_option, filter_map, range_with_len}
use Rattle.std.specs.Option.{option_and_then, option_map}
use Rattle.std.proofs.lemmas.Bool.{lt-ltb}
use Rattle.std.proofs.lemmas.List.{length-map, take_more}
use Rattle.std.proofs.lemmas.Option.{slice_get-get_or, slice_get-map}
use Rattle.nr_linked.specs.declared.program.kind.Base.{Base}
use Rattle.nr_linked.specs.declared.program.kind.Base.TheVariants as bases
use Rattle.nr_linked.specs.declared.program.kind.Kind.{Kind}
use Rattle.nr_linked.specs.declared.program.tables.ProgramTables.{ProgramTables}
use Rattle.nr_linked.specs.Kinds.{class_in, class_kind, is_array}
use Rattle.nr_linked.specs.Linked.{Linked}
use Rattle.nr_linked.specs.Slots.{slots_of}
use Rattle.nr_model.specs.declared.value.Value.{Value}
use Rattle.nr_model.specs.Heaps.{Heap, Obj, on_some}
use Rattle.nr_model.specs.TypedHeaps.{Counts, IsObjectOf, TypedHeap}
use Rattle.nr_model.proofs.Paths.{none_some, some_eq}
use Rattle.nr_model.proofs.TypedClosed.{typed_closed}
use Rattle.nr_graph.specs.Pictures.{names_in, next_in, stream_values}
use Rattle.nr_graph.specs.StreamOrder.{Placed, stream_kind, stream_place, stream_slots}
use Rattle.nr_graph.proofs.Drawn.{next_names}
use Rattle.nr_graph.proofs.StreamPlaces.{kinds_agree}
use Rattle.nr_graph.proofs.StreamSlots.{stream_long}
use Rattle.nr_serform.specs.declared.order.StreamSlot.{StreamSlot}
use Rattle.nr_capture.specs.Drawing.{IsRead}
use Rattle.nr_serform.specs.StreamSlots.{placed_of}
use Rattle.nr_capture.specs.Reading.{AreAt, AreWithin}
use Rattle.nr_capture.specs.Roots.{IsIn, slots_at}

pub in_range : {A : Type 0} (xs : List A) (i : ℕ) (x : A) → slice_get xs i ≡ Some x → i < length xs
in_range [] i x e = absurd (none_some e)
in_range (y ∷ ys) zero x e = omega arith
in_range (y ∷ ys) (suc i) x e = let l = in_range ys i x e in omega arith

pub get_there : {A : Type 0} (xs : List A) (i : ℕ) → i < length xs → (x : A) × (slice_get xs i ≡ Some x)
get_there [] i l = absurd (omega arith)
get_there (y ∷ ys) zero l = (y, refl)
get_there (y ∷ ys) (suc i) l = get_there ys i (omega arith)

pub at_end : {A : Type 0} (xs : List A) (y : A) (i : ℕ) (x : A) → slice_get (xs ++ y ∷ []) i ≡ Some x → (slice_get xs i ≡ Some x) ⊎ ((i ≡ length xs) × (y ≡ x))
at_end [] y zero x e = inr (refl, some_eq e)
at_end [] y (suc i) x e = absurd (none_some e)
at_end (z ∷ xs) y zero x e = inl e
at_end (z ∷ xs) y (suc i) x e = by (at_end xs y i x e)
  where
    by : (slice_get xs i ≡ Some x) ⊎ ((i ≡ length xs) × (y ≡ x)) → (slice_get xs i ≡ Some x) ⊎ ((suc i ≡ suc (length xs)) × (y ≡ x))
    by (inl a) = inl a
    by (inr a) = inr (ap suc a.0, a.1)

pub some_below : {A : Type 0} (xs : List A) (i : ℕ) (Q : A → Type 0) → IsSomeAnd (slice_get xs i) Q → i < length xs
some_below xs i Q a = by (slice_get xs i) refl a
  where
    by : (o : Option _) → slice_get xs i ≡ o → IsSomeAnd o Q → i < length xs
    by None e a = absurd a
    by (Some x) e a = in_range xs i x e

-- what holds of each value of a call holds of what it gives
pub each_ok : {A E : Type 0} (r : Result A E) (Q R : A → Type 0) → ((a : A) → Q a → R a) → IfOk r Q → IfOk r R
each_ok (Ok a) Q R f q = f a q
each_ok (Err e) Q R f q = tt

-- ---- values in the order of the stream

looked : (f : ℕ → Option Value) (a : ℕ) (vs : List Value) → ((k : ℕ) (v : Value) → slice_get vs k ≡ Some v → f (a + k) ≡ Some v)
    → filter_map f (range_with_len a (length vs)) ≡ vs
looked f a [] each = refl
looked f a (v ∷ vs) each =
    let z : a ≡ a + 0 = omega arith in
    let one : f a ≡ Some v = ap f z ∙ each zero v refl in
    let more = looked f (a + 1) vs (λ k u e. let m : (a + 1) + k ≡ a + suc k = omega arith in ap f m ∙ each (suc k) u e) in
    ap (λ o. cons_option o (filter_map f (range_with_len (a + 1) (length vs)))) one ∙ ap (λ xs. v ∷ xs) more

pub stream_read : (P : ProgramTables) (o : Obj) (vs : List Value) → IsRead P o vs → stream_values P o ≡ vs
stream_read P o vs r =
    ap (λ n. filter_map look (range_with_len 0 n)) (sym r.count) ∙ looked look 0 vs (λ k v e. let m : 0 + k ≡ k = omega arith in ap look m ∙ found v (stream_place P o.kind k) (r.slots k v e))
  where
    look : ℕ → Option Value
    look k = option_and_then (slice_get o.slots) (stream_place P o.kind k)

    found : (v : Value) (q : Option ℕ) → IsSomeAnd q (λ i. slice_get o.slots i ≡ Some v) → option_and_then (slice_get o.slots) q ≡ Some v
    found v None d = absurd d
    found v (Some i) d = d

pub next_read : (P : ProgramTables) (h : Heap) (x : ℕ) (vs : List Value) → IsSomeAnd (get h x) (λ o. IsRead P o vs) → next_in P h x ≡ names_in vs
unfolding next_in
next_read P h x vs r = by (get h x) r
  where
    by : (o : Option Obj) → IsSomeAnd o (λ o. IsRead P o vs) → on_some o [] (λ o. names_in (stream_values P o)) ≡ names_in vs
    by None r = absurd r
    by (Some o) r = ap names_in (stream_read P o vs r)

-- ---- what names lead to is there

pub there_in : (h : Heap) (x : ℕ) → get h x ≢ None → IsIn h x
there_in h x n = by (get h x) n
  where
    by : (o : Option Obj) → o ≢ None → IsSomeAnd o (λ o. Unit {0})
    by None n = absurd (n refl)
    by (Some o) n = tt

pub next_inside : (P : ProgramTables) (h : Heap) (x : ℕ) → TypedHeap P h → AllByRecursion (IsIn h) (next_in P h x)
next_inside P h x t = next_names P h (IsIn h) x (λ i y e. there_in h y (typed_closed P h t x i y e))

-- ---- the classes of objects

pub object_class : (P : ProgramTables) (k : Kind) (n : ℕ) → Counts P k n → is_array k ≡ false → (c : ℕ) × (k ≡ class_kind c) × IsObjectOf P c n
object_class P k n c flat = by_dims k.dims k.base c flat
  where
    by_dims : (d : ℕ) (base : Base) → Counts P (record { dims = d; base = base }) n → nat_lt 0 d ≡ false → (c : ℕ) × (record { dims = d; base = base } ≡ class_kind c) × IsObjectOf P c n
    by_dims zero (bases.Object c) m e = (c, refl, m)
    by_dims zero bases.Long m e = absurd m
    by_dims zero bases.Int m e = absurd m
    by_dims zero bases.Bool m e = absurd m
    by_dims zero bases.Byte m e = absurd m
    by_dims zero bases.Char m e = absurd m
    by_dims zero bases.Short m e = absurd m
    by_dims (suc d) base m e = absurd (true≢false (sym (lt-ltb 0 (suc d) (omega arith)) ∙ e))

-- ---- objects

module _ (P : ProgramTables) (h : Heap) (x : ℕ) where
  abbrev pub HasKind : Kind → Type 0
  HasKind kind = IsSomeAnd (get h x) (λ o. o.kind ≡ kind)

  -- how many elements an array has, or none
  abbrev pub HasLen : Option ℕ → Type 0
  HasLen len = IsSomeAnd (get h x) (λ o. len ≡ (if is_array o.kind then Some (length o.slots) else None))

  pub array_long : (len : ℕ) → HasLen (Some len) → IsSomeAnd (get h x) (λ o. length o.slots ≡ len)
  array_long len l = by (get h x) l
    where
      of_kind : (b : Bool) (n : ℕ) → Some len ≡ (if b then Some n else None) → n ≡ len
      of_kind true n e = sym (some_eq e)
      of_kind false n e = absurd (none_some (sym e))

      by : (o : Option Obj) → IsSomeAnd o (λ o. Some len ≡ (if is_array o.kind then Some (length o.slots) else None)) → IsSomeAnd o (λ o. length o.slots ≡ len)
      by None l = absurd l
      by (Some o) l = of_kind (is_array o.kind) (length o.slots) l

  pub array_read : (len : ℕ) (vs : List Value) → HasLen (Some len) → vs ≡ slots_at h x → IsSomeAnd (get h x) (λ o. IsRead P o vs)
  array_read len vs l e = by (get h x) l e
    where
      one : (o : Obj) → Some len ≡ (if is_array o.kind then Some (length o.slots) else None) → vs ≡ o.slots → (b : Bool) → is_array o.kind ≡ b → IsRead P o vs
      one o l e false k = absurd (none_some (sym (l ∙ ap (λ b. if b then Some (length o.slots) else None) k)))
      one o l e true k = record {
        count = ap length e;
        slots = λ i v f.
            let place : stream_place P o.kind i ≡ Some i = ap (λ b. if b then Some i else option_and_then (λ c. option_map (λ a. a.0) (slice_get (stream_slots P c) i)) (class_in o.kind.base)) k in
            subst (λ q. IsSomeAnd q (λ i. slice_get o.slots i ≡ Some v)) (sym place) (ap (λ xs. slice_get xs i) (sym e) ∙ f);
      }

      by : (o : Option Obj) → IsSomeAnd o (λ o. Some len ≡ (if is_array o.kind then Some (length o.slots) else None)) → vs ≡ on_some o [] (λ o. o.slots) → IsSomeAnd o (λ o. IsRead P o vs)
      by None l e = absurd l
      by (Some o) l e = one o l e (is_array o.kind) refl

  -- the class of an object whose slots these are, in the order of the stream
  abbrev pub AreSlots : Kind → List StreamSlot → Type 0
  AreSlots kind ss = (c : ℕ) → kind ≡ class_kind c → map placed_of ss ≡ stream_slots P c

  no_array : (o : Obj) → None ≡ (if is_array o.kind then Some (length o.slots) else None) → (b : Bool) → is_array o.kind ≡ b → is_array o.kind ≡ false
  no_array o l false e = e
  no_array o l true e = absurd (none_some (l ∙ ap (λ b. if b then Some (length o.slots) else None) e))

  place_is : (c : ℕ) (ss : List StreamSlot) (k : ℕ) (s : StreamSlot) → map placed_of ss ≡ stream_slots P c → slice_get ss k ≡ Some s → stream_place P (class_kind c) k ≡ Some s.place
  place_is c ss k s e f =
      ap (λ xs. option_map (λ a. a.0) (slice_get xs k)) (sym e) ∙ ap (option_map (λ (a : Placed). a.0)) (slice_get-map placed_of ss k ∙ ap (option_map placed_of) f)

  module _ (typed : TypedHeap P h) (linked : Linked P) (kind : Kind) (ss : List StreamSlot) (slots : AreSlots kind ss) where
    -- an object of a class, and its slots
    class_of : (o : Obj) → get h x ≡ Some o → o.kind ≡ kind → None ≡ (if is_array o.kind then Some (length o.slots) else None)
        → (c : ℕ) × (o.kind ≡ class_kind c) × IsObjectOf P c (length o.slots) × (map placed_of ss ≡ stream_slots P c)
    class_of o f k l =
        let q = object_class P o.kind (length o.slots) (typed.count x o f) (no_array o l (is_array o.kind) refl) in
        (q.0, q.1, q.2, slots q.0 (sym k ∙ q.1))

    within_one : (o : Obj) → get h x ≡ Some o → o.kind ≡ kind → None ≡ (if is_array o.kind then Some (length o.slots) else None) → AreWithin o.slots ss
    within_one o f k l i s e =
        let q = class_of o f k l in
        let at = kinds_agree P q.0 i s.place (place_is q.0 ss i s q.3 e) in
        subst (λ n. s.place < n) (sym q.2.count) (some_below (slots_of P q.0) s.place (λ t. stream_kind P (class_kind q.0) i ≡ Some t.kind) at)

    read_one : (o : Obj) (vs : List Value) → get h x ≡ Some o → o.kind ≡ kind → None ≡ (if is_array o.kind then Some (length o.slots) else None) → AreAt o.slots ss vs → IsRead P o vs
    read_one o vs f k l at =
        let q = class_of o f k l in
        record {
          count = at.count ∙ sym (length-map ss placed_of) ∙ ap length q.3 ∙ stream_long P linked q.0 ∙ sym q.2.count;
          slots = λ i v e.
              let s = get_there ss i (subst (λ n. i < n) at.count (in_range vs i v e)) in
              let place : stream_place P o.kind i ≡ Some s.0.place = ap (λ kind. stream_place P kind i) q.1 ∙ place_is q.0 ss i s.0 q.3 s.1 in
              subst (λ q. IsSomeAnd q (λ i. slice_get o.slots i ≡ Some v)) (sym place) (at.slots i s.0 v s.1 e);
        }

    pub fields_within : HasLen None → HasKind kind → AreWithin (slots_at h x) ss
    fields_within l k = by (get h x) refl l k
      where
        by : (o : Option Obj) → get h x ≡ o → IsSomeAnd o (λ o. None ≡ (if is_array o.kind then Some (length o.slots) else None)) → IsSomeAnd o (λ o. o.kind ≡ kind) → AreWithin (on_some o [] (λ o. o.slots)) ss
        by None f l k = absurd l
        by (Some o) f l k = within_one o f k l

    pub fields_read : (vs : List Value) → HasLen None → HasKind kind → AreAt (slots_at h x) ss vs → IsSomeAnd (get h x) (λ o. IsRead P o vs)
    fields_read vs l k at = by (get h x) refl l k at
      where
        by : (o : Option Obj) → get h x ≡ o → IsSomeAnd o (λ o. None ≡ (if is_array o.kind then Some (length o.slots) else None)) → IsSomeAnd o (λ o. o.kind ≡ kind) → AreAt (on_some o [] (λ o. o.slots)) ss vs → IsSomeAnd o (λ o. IsRead P o vs)
        by None f l k at = absurd l
        by (Some o) f l k at = read_one o vs f k l at

-- ---- one more value

pub slot_got : (h : Heap) (x i : ℕ) (v : Value) → IsSomeAnd (get h x) (λ o. slice_get o.slots i ≡ Some v) → slice_get (slots_at h x) i ≡ Some v
slot_got h x i v e = by (get h x) e
  where
    by : (o : Option Obj) → IsSomeAnd o (λ o. slice_get o.slots i ≡ Some v) → slice_get (on_some o [] (λ o. o.slots)) i ≡ Some v
    by None e = absurd e
    by (Some o) e = e

pub slot_may : (h : Heap) (x i : ℕ) → IsIn h x → i < length (slots_at h x) → IsSomeAnd (get h x) (λ o. i < length o.slots)
slot_may h x i t l = by (get h x) t l
  where
    by : (o : Option Obj) → IsSomeAnd o (λ o. Unit {0}) → i < length (on_some o [] (λ o. o.slots)) → IsSomeAnd o (λ o. i < length o.slots)
    by None t l = absurd t
    by (Some o) t l = l

pub slots_long : (h : Heap) (x n : ℕ) → IsSomeAnd (get h x) (λ o. length o.slots ≡ n) → IsIn h x × (length (slots_at h x) ≡ n)
slots_long h x n l = by (get h x) l
  where
    by : (o : Option Obj) → IsSomeAnd o (λ o. length o.slots ≡ n) → IsSomeAnd o (λ o. Unit {0}) × (length (on_some o [] (λ o. o.slots)) ≡ n)
    by None l = absurd l
    by (Some o) l = (tt, l)

pub take_next : {A : Type 0} (xs ys zs : List A) (k : ℕ) (v : A) → ys ≡ take k xs → zs ≡ ys ++ v ∷ [] → slice_get xs k ≡ Some v → zs ≡ take (k + 1) xs
take_next xs ys zs k v inv push at =
    let l = in_range xs k v at in
    let g : get_or xs k v ≡ v = some_eq (sym (slice_get-get_or xs k v l) ∙ at) in
    push ∙ (λ j. inv j ++ v ∷ []) ∙ ap (λ w. take k xs ++ w ∷ []) (sym g) ∙ sym (take_more xs k v l)

-- what is pushed is what the name leads to
pub pushed_read : (P : ProgramTables) (h : Heap) (x : ℕ) (vs us : List Value) (t u : List ℕ) → IsSomeAnd (get h x) (λ o. IsRead P o vs) → us ≡ vs
    → u ≡ t ++ reverse (names_in us) → u ≡ t ++ reverse (next_in P h x)
pushed_read P h x vs us t u r same e = e ∙ ap (λ xs. t ++ reverse xs) (ap names_in same ∙ sym (next_read P h x vs r))
