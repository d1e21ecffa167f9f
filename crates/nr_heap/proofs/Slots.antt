-- One slot of an object or an array is read or written.
use Rattle.std.proofs.Common.{◌≡◌, ℕ, zero, suc, ◌+◌, ◌-◌, ◌*◌, ◌/◌, ◌%◌, ◌<◌, ◌≤◌, List, [], ◌∷◌, ◌++◌, length, refl, sym, ap, ap₂, subst, ◌∙◌, arith, take, drop, Option, Some, None, get_or, cond}
use Rattle.std.specs.Prelude.{Bool, true, false, slice_get, slice_set, map, is_some, ◌||◌, IfSome, MatchBool}
use Rattle.std.specs.List.{flat_map, zip}
use Rattle.std.specs.Option.{option_map}
use Rattle.std.proofs.lemmas.List.{map-set, set-append_left, set-append_right, drop-set-add}
use Rattle.std.proofs.lemmas.Option.{slice_get-get_or, slice_get-map}
use Rattle.std.proofs.Math.Seq.{take-set-lt}
use Rattle.nr_linked.specs.declared.program.kind.Base.{Base}
use Rattle.nr_linked.specs.declared.program.kind.Base.TheVariants as bases
use Rattle.nr_linked.specs.declared.program.kind.Kind.{Kind}
use Rattle.nr_linked.specs.Kinds.{class_in, element_of, is_array}
use Rattle.nr_model.specs.declared.value.Value.{Value}
use Rattle.nr_model.specs.declared.value.Value.TheVariants as values
use Rattle.nr_model.specs.Scripts.{OnReference}
use Rattle.nr_heap.specs.declared.form.Form.{Form}
use Rattle.nr_heap.specs.declared.form.Form.TheVariants as forms
use Rattle.nr_heap.specs.declared.place.Place.{Place}
use Rattle.nr_heap.specs.Contents.{IsOfBase, IsOfKind, Keeps}
use Rattle.nr_heap.specs.Forms.{bits_of, elements_form, form_of, form_of_base, form_of_value, per_word, value_in, values_in, words_for, Holds, IsSized}
use Rattle.nr_heap.specs.Arenas.{run_of, slots_by, slots_in, width, width_by, IsWritten}
use Rattle.nr_heap.proofs.Lanes.{kept, value_low}

-- ---- lists

module _ {X : Type 0} where
  pub get_take : (xs : List X) (n i : ℕ) → i < n → slice_get (take n xs) i ≡ slice_get xs i
  get_take xs zero i l = absurd (omega arith)
  get_take [] (suc n) i l = refl
  get_take (x ∷ xs) (suc n) zero l = refl
  get_take (x ∷ xs) (suc n) (suc i) l = get_take xs n i (omega arith)

  pub get_drop : (xs : List X) (n i : ℕ) → slice_get (drop n xs) i ≡ slice_get xs (n + i)
  get_drop [] zero i = refl
  get_drop (x ∷ xs) zero i = let e : i ≡ 0 + i = omega arith in ap (slice_get (x ∷ xs)) e
  get_drop [] (suc n) i = refl
  get_drop (x ∷ xs) (suc n) i = let e : suc (n + i) ≡ suc n + i = omega arith in get_drop xs n i ∙ ap (slice_get (x ∷ xs)) e

  get_left : (xs ys : List X) (i : ℕ) → i < length xs → slice_get (xs ++ ys) i ≡ slice_get xs i
  get_left [] ys i l = absurd (omega arith)
  get_left (x ∷ xs) ys zero l = refl
  get_left (x ∷ xs) ys (suc i) l = get_left xs ys i (omega arith)

  get_right : (xs ys : List X) (n i : ℕ) → length xs ≡ n → slice_get (xs ++ ys) (n + i) ≡ slice_get ys i
  get_right [] ys n i e = let f : n + i ≡ i = omega arith in ap (slice_get ys) f
  get_right (x ∷ xs) ys zero i e = absurd (omega arith)
  get_right (x ∷ xs) ys (suc n) i e = let f : suc n + i ≡ suc (n + i) = omega arith in ap (slice_get (x ∷ xs ++ ys)) f ∙ get_right xs ys n i (omega arith)

  pub none_some : {a : X} → ◌≡◌ {A = Option X} None (Some a) → ⊥
  none_some e = cc

  pub some_eq : {a b : X} → Some a ≡ Some b → a ≡ b
  some_eq e = cc

-- of lists that each give m elements
module _ {X Y : Type 0} (g : X → List Y) (m : ℕ) (each : (x : X) → length (g x) ≡ m) where
  pub flat_get : (xs : List X) (q r : ℕ) (x : X) → r < m → slice_get xs q ≡ Some x → slice_get (flat_map g xs) (q * m + r) ≡ slice_get (g x) r
  flat_get [] q r x l e = absurd (none_some e)
  flat_get (y ∷ xs) zero r x l e =
      let f : 0 * m + r ≡ r = omega arith in
      ap (slice_get (flat_map g (y ∷ xs))) f ∙ get_left (g y) (flat_map g xs) r (omega (arith, each y)) ∙ ap (λ x. slice_get (g x) r) (some_eq e)
  flat_get (y ∷ xs) (suc q) r x l e =
      let f : suc q * m + r ≡ m + (q * m + r) = omega arith in
      ap (slice_get (flat_map g (y ∷ xs))) f ∙ get_right (g y) (flat_map g xs) m (q * m + r) (each y) ∙ flat_get xs q r x l e

  pub flat_set : (xs : List X) (q r : ℕ) (x y : X) (b : Y) → r < m → slice_get xs q ≡ Some x → g y ≡ slice_set (g x) r b → flat_map g (slice_set xs q y) ≡ slice_set (flat_map g xs) (q * m + r) b
  flat_set [] q r x y b l e s = absurd (none_some e)
  flat_set (z ∷ xs) zero r x y b l e s =
      let f : 0 * m + r ≡ r = omega arith in
      ap (λ ys. ys ++ flat_map g xs) (s ∙ ap (λ x. slice_set (g x) r b) (sym (some_eq e)))
      ∙ sym (set-append_left (g z) (flat_map g xs) r b (omega (arith, each z))) ∙ ap (λ i. slice_set (flat_map g (z ∷ xs)) i b) (sym f)
  flat_set (z ∷ xs) (suc q) r x y b l e s =
      let f : suc q * m + r - m ≡ q * m + r = omega arith in
      ap (λ ys. g z ++ ys) (flat_set xs q r x y b l e s ∙ ap (λ i. slice_set (flat_map g xs) i b) (sym f))
      ∙ sym (set-append_right (g z) (flat_map g xs) m (suc q * m + r) b (each z) (omega arith))

-- two lists side by side
module _ {X Y : Type 0} where
  pub zip_length : (xs : List X) (ys : List Y) → length xs ≡ length ys → length (zip xs ys) ≡ length ys
  zip_length [] [] e = refl
  zip_length [] (y ∷ ys) e = absurd (omega arith)
  zip_length (x ∷ xs) [] e = absurd (omega arith)
  zip_length (x ∷ xs) (y ∷ ys) e = ap suc (zip_length xs ys (omega arith))

  pub zip_append : (xs zs : List X) (ys us : List Y) → length xs ≡ length ys → zip (xs ++ zs) (ys ++ us) ≡ zip xs ys ++ zip zs us
  zip_append [] zs [] us e = refl
  zip_append [] zs (y ∷ ys) us e = absurd (omega arith)
  zip_append (x ∷ xs) zs [] us e = absurd (omega arith)
  zip_append (x ∷ xs) zs (y ∷ ys) us e = ap (λ ps. (x, y) ∷ ps) (zip_append xs zs ys us (omega arith))

  pub zip_get : (xs : List X) (ys : List Y) (i : ℕ) (x : X) (y : Y) → slice_get xs i ≡ Some x → slice_get ys i ≡ Some y → slice_get (zip xs ys) i ≡ Some (x, y)
  zip_get [] ys i x y e f = absurd (none_some e)
  zip_get (a ∷ xs) [] i x y e f = absurd (none_some f)
  zip_get (a ∷ xs) (b ∷ ys) zero x y e f = ap₂ (λ a b. Some (a, b)) (some_eq e) (some_eq f)
  zip_get (a ∷ xs) (b ∷ ys) (suc i) x y e f = zip_get xs ys i x y e f

  pub zip_set : (xs : List X) (ys : List Y) (i : ℕ) (x : X) (y : Y) → zip (slice_set xs i x) (slice_set ys i y) ≡ slice_set (zip xs ys) i (x, y)
  zip_set [] ys i x y = refl
  zip_set (a ∷ xs) [] zero x y = refl
  zip_set (a ∷ xs) [] (suc i) x y = refl
  zip_set (a ∷ xs) (b ∷ ys) zero x y = refl
  zip_set (a ∷ xs) (b ∷ ys) (suc i) x y = ap (λ zs. (a, b) ∷ zs) (zip_set xs ys i x y)

  pub zip_set_right : (xs : List X) (ys : List Y) (i : ℕ) (x : X) (y : Y) → slice_get xs i ≡ Some x → zip xs (slice_set ys i y) ≡ slice_set (zip xs ys) i (x, y)
  zip_set_right [] ys i x y e = refl
  zip_set_right (a ∷ xs) [] i x y e = refl
  zip_set_right (a ∷ xs) (b ∷ ys) zero x y e = ap (λ a. (a, y) ∷ zip xs ys) (some_eq e)
  zip_set_right (a ∷ xs) (b ∷ ys) (suc i) x y e = ap (λ zs. (a, b) ∷ zs) (zip_set_right xs ys i x y e)

-- ---- words

pub word_count : (f : Form) (w : ℕ) → length (values_in f w) ≡ per_word f
unfolding values_in
word_count forms.Bool w = refl
word_count forms.Byte w = refl
word_count forms.Char w = refl
word_count forms.Short w = refl
word_count forms.Int w = refl
word_count forms.Long w = refl
word_count forms.Reference w = refl

pub per_word_is : (f : Form) → 0 < per_word f
per_word_is forms.Bool = omega arith
per_word_is forms.Byte = omega arith
per_word_is forms.Char = omega arith
per_word_is forms.Short = omega arith
per_word_is forms.Int = omega arith
per_word_is forms.Long = omega arith
per_word_is forms.Reference = omega arith

pub word_within : (f : Form) (n i : ℕ) → i < n → i / per_word f < words_for f n
word_within forms.Bool n i l = omega arith
word_within forms.Byte n i l = omega arith
word_within forms.Char n i l = omega arith
word_within forms.Short n i l = omega arith
word_within forms.Int n i l = omega arith
word_within forms.Long n i l = omega arith
word_within forms.Reference n i l = omega arith

parted : (f : Form) (i : ℕ) → i / per_word f * per_word f + i % per_word f ≡ i
parted f i = omega (arith, per_word_is f)

pub element_read : (f : Form) (n i : ℕ) (ws : List (Form × ℕ)) (w : Form × ℕ) (v : Value) → i < n → slice_get ws (i / per_word f) ≡ Some w
    → slice_get (values_in f w.1) (i % per_word f) ≡ Some v → slice_get (slots_by (Some f) n ws) i ≡ Some v
element_read f n i ws w v l e r =
    get_take _ n i l
    ∙ ap (slice_get (flat_map (λ w. values_in f w.1) ws)) (sym (parted f i))
    ∙ flat_get (λ w. values_in f w.1) (per_word f) (λ w. word_count f w.1) ws (i / per_word f) (i % per_word f) w (omega (arith, per_word_is f)) e
    ∙ r

pub element_written : (f : Form) (n i : ℕ) (ws : List (Form × ℕ)) (w u : Form × ℕ) (v : Value) → i < n → slice_get ws (i / per_word f) ≡ Some w
    → values_in f u.1 ≡ slice_set (values_in f w.1) (i % per_word f) v → slots_by (Some f) n (slice_set ws (i / per_word f) u) ≡ slice_set (slots_by (Some f) n ws) i v
element_written f n i ws w u v l e r =
    ap (take n) (flat_set (λ w. values_in f w.1) (per_word f) (λ w. word_count f w.1) ws (i / per_word f) (i % per_word f) w u v (omega (arith, per_word_is f)) e r
    ∙ ap (λ i. slice_set (flat_map (λ w. values_in f w.1) ws) i v) (parted f i))
    ∙ take-set-lt n _ i v l

pub run_get : (p : Place) (ws : List (Form × ℕ)) (j : ℕ) → j < width p.kind p.len → slice_get (run_of p ws) j ≡ slice_get ws (p.start + j)
run_get p ws j l = get_take (drop p.start ws) (width p.kind p.len) j l ∙ get_drop ws p.start j

pub run_set : (p : Place) (ws : List (Form × ℕ)) (j : ℕ) (w : Form × ℕ) → j < width p.kind p.len → run_of p (slice_set ws (p.start + j) w) ≡ slice_set (run_of p ws) j w
run_set p ws j w l = ap (take (width p.kind p.len)) (drop-set-add p.start ws j w) ∙ take-set-lt (width p.kind p.len) (drop p.start ws) j w l

pub value_alone : (v : Value) → IsSized v → value_in (form_of_value v) (bits_of v) ≡ v
value_alone v s = value_low (form_of_value v) (bits_of v) ∙ kept (form_of_value v) v (alone v) s
  where
    alone : (v : Value) → Holds (form_of_value v) v
    alone (values.Int n) = tt
    alone (values.Long n) = tt
    alone values.Null = tt
    alone (values.Ref a) = tt

-- the place p, whose words begin to stand at p.start in these words
module _ (p : Place) (fs : List Form) (ws : List ℕ) (i : ℕ) (l : i < p.len) (within : p.start + width p.kind p.len ≤ length ws) (formed : length fs ≡ length ws) where
  module _ (f : Form) (is : elements_form p.kind ≡ Some f) where
    at_word : i / per_word f < width p.kind p.len
    at_word = subst (λ o. i / per_word f < width_by o p.len) (sym is) (word_within f p.len i l)

    old_word : (d : Form) → slice_get (run_of p (zip fs ws)) (i / per_word f) ≡ Some (get_or fs (p.start + i / per_word f) d, get_or ws (p.start + i / per_word f) 0)
    old_word d =
        run_get p (zip fs ws) (i / per_word f) at_word
        ∙ zip_get fs ws (p.start + i / per_word f) _ _ (slice_get-get_or fs _ d (omega (arith, at_word))) (slice_get-get_or ws _ 0 (omega (arith, at_word)))

    pub element_loaded : (v : Value) → slice_get (values_in f (get_or ws (p.start + i / per_word f) 0)) (i % per_word f) ≡ Some v
        → slice_get (slots_in p.kind p.len (run_of p (zip fs ws))) i ≡ Some v
    element_loaded v e =
        ap (λ o. slice_get (slots_by o p.len (run_of p (zip fs ws))) i) is ∙ element_read f p.len i _ _ v l (old_word forms.Bool) e

    pub element_stored : (v : Value) (u : ℕ) → values_in f u ≡ slice_set (values_in f (get_or ws (p.start + i / per_word f) 0)) (i % per_word f) v
        → IsWritten p i v (zip fs ws) (zip fs (slice_set ws (p.start + i / per_word f) u))
    element_stored v u e =
        let z : zip fs (slice_set ws (p.start + i / per_word f) u) ≡ slice_set (zip fs ws) (p.start + i / per_word f) (get_or fs (p.start + i / per_word f) forms.Bool, u)
        = zip_set_right fs ws (p.start + i / per_word f) _ u (slice_get-get_or fs _ forms.Bool (omega (arith, at_word))) in
        record {
          at = i / per_word f;
          word = (get_or fs (p.start + i / per_word f) forms.Bool, u);
          within = at_word;
          written = z;
          slots = ap (λ zs. slots_in p.kind p.len (run_of p zs)) z
              ∙ ap (slots_in p.kind p.len) (run_set p (zip fs ws) (i / per_word f) _ at_word)
              ∙ ap (λ o. slots_by o p.len (slice_set (run_of p (zip fs ws)) (i / per_word f) (get_or fs (p.start + i / per_word f) forms.Bool, u))) is
              ∙ element_written f p.len i _ _ _ v l (old_word forms.Bool) e
              ∙ ap (λ o. slice_set (slots_by o p.len (run_of p (zip fs ws))) i v) (sym is);
        }

  module _ (is : elements_form p.kind ≡ None) where
    at_slot : i < width p.kind p.len
    at_slot = subst (λ o. i < width_by o p.len) (sym is) l

    pub slot_loaded : (d : Form) → slice_get (slots_in p.kind p.len (run_of p (zip fs ws))) i ≡ Some (value_in (get_or fs (p.start + i) d) (get_or ws (p.start + i) 0))
    slot_loaded d =
        ap (λ o. slice_get (slots_by o p.len (run_of p (zip fs ws))) i) is
        ∙ slice_get-map (λ w. value_in w.0 w.1) (run_of p (zip fs ws)) i
        ∙ ap (λ o. option_map (λ w. value_in w.0 w.1) o)
        (run_get p (zip fs ws) i at_slot ∙ zip_get fs ws (p.start + i) _ _ (slice_get-get_or fs _ d (omega (arith, at_slot))) (slice_get-get_or ws _ 0 (omega (arith, at_slot))))

    pub slot_stored : (v : Value) (f : Form) (u : ℕ) → value_in f u ≡ v → IsWritten p i v (zip fs ws) (zip (slice_set fs (p.start + i) f) (slice_set ws (p.start + i) u))
    slot_stored v f u e =
        let z = zip_set fs ws (p.start + i) f u in
        record {
          at = i;
          word = (f, u);
          within = at_slot;
          written = z;
          slots = ap (λ zs. slots_in p.kind p.len (run_of p zs)) z
              ∙ ap (slots_in p.kind p.len) (run_set p (zip fs ws) i (f, u) at_slot)
              ∙ ap (λ o. slots_by o p.len (slice_set (run_of p (zip fs ws)) i (f, u))) is
              ∙ map-set (λ w. value_in w.0 w.1) (run_of p (zip fs ws)) i (f, u)
              ∙ ap (λ v. slice_set (map (λ w. value_in w.0 w.1) (run_of p (zip fs ws))) i v) e
              ∙ ap (λ o. slice_set (slots_by o p.len (run_of p (zip fs ws))) i v) (sym is);
        }

-- ---- what slots can hold

holds_by : (d : Bool) (base : Base) (v : Value) → MatchBool (d || is_some (class_in base)) (OnReference v (λ a. Unit {0})) (IsOfBase base v) → Holds (cond d forms.Reference (form_of_base base)) v
holds_by true base v h = h
holds_by false bases.Bool v h = h
holds_by false bases.Byte v h = h
holds_by false bases.Char v h = h
holds_by false bases.Short v h = h
holds_by false bases.Int v h = h
holds_by false bases.Long v h = h
holds_by false (bases.Object c) v h = h

pub holds : (k : Kind) (v : Value) → Keeps k v → IfSome (elements_form k) (λ f. Holds f v)
holds k v h = by_element (element_of k) h
  where
    by_element : (o : Option Kind) → IfSome o (λ e. IsOfKind e v) → IfSome (option_map form_of o) (λ f. Holds f v)
    by_element None h = tt
    by_element (Some e) h = holds_by (is_array e) e.base v h
