-- New objects and arrays.
use Rattle.std.proofs.Common.{◌≡◌, ℕ, zero, suc, ◌+◌, ◌-◌, ◌*◌, ◌≤◌, Bool, true, false, cond, List, [], ◌∷◌, ◌++◌, length, refl, sym, ap, ap₂, subst, ◌∙◌, arith, take, replicate, Some, None, max, Result, Ok, Err}
use Rattle.std.specs.Prelude.{map, is_some, is_ok, IsOk, ◌||◌, if◌then◌else◌}
use Rattle.std.specs.List.{flat_map, zip}
use Rattle.std.proofs.lemmas.Bool.{false≢true}
use Rattle.std.proofs.lemmas.List.{append-nil, length-append, length-map, take_all, replicate-append-replicate, take-replicate, length-replicate}
use Rattle.nr_linked.specs.declared.program.kind.Base.{Base}
use Rattle.nr_linked.specs.declared.program.kind.Base.TheVariants as bases
use Rattle.nr_linked.specs.declared.program.kind.Kind.{Kind}
use Rattle.nr_linked.specs.declared.program.tables.SlotInfo.{SlotInfo}
use Rattle.nr_linked.specs.Kinds.{array_of, class_in, class_kind, element_of, is_array}
use Rattle.nr_model.specs.declared.value.Value.{Value}
use Rattle.nr_model.specs.Heaps.{Obj, cells_of}
use Rattle.nr_model.specs.Scripts.{plain, PlainNull}
use Rattle.nr_model.specs.Throws.{zero_of, zero_of_base}
use Rattle.nr_heap.specs.declared.form.Form.{Form}
use Rattle.nr_heap.specs.declared.form.Form.TheVariants as forms
use Rattle.nr_heap.specs.Forms.{elements_form, form_of, form_of_base, per_word, value_in, values_in, words_for}
use Rattle.nr_heap.specs.Arenas.{new_forms, new_slots, slots_by, slots_in, width, width_by}
use Rattle.nr_heap.specs.Contents.{Contents, HasMade}
use Rattle.nr_heap.proofs.Arenas.{words_hold}

-- 0 stands for the default value
zero_by : (b : Bool) (base : Base) → value_in (cond b forms.Reference (form_of_base base)) 0 ≡ plain (cond (b || is_some (class_in base)) PlainNull (zero_of_base base))
zero_by true base = refl
zero_by false bases.Bool = refl
zero_by false bases.Byte = refl
zero_by false bases.Char = refl
zero_by false bases.Short = refl
zero_by false bases.Int = refl
zero_by false bases.Long = refl
zero_by false (bases.Object c) = refl

pub zero_value : (k : Kind) → value_in (form_of k) 0 ≡ plain (zero_of k)
zero_value k = zero_by (is_array k) k.base

zero_word : (f : Form) → values_in f 0 ≡ replicate (per_word f) (value_in f 0)
unfolding values_in
zero_word forms.Bool = refl
zero_word forms.Byte = refl
zero_word forms.Char = refl
zero_word forms.Short = refl
zero_word forms.Int = refl
zero_word forms.Long = refl
zero_word forms.Reference = refl

zero_words : (f : Form) (gs : List Form) (n : ℕ) → length gs ≡ n → flat_map (λ w. values_in f w.1) (zip gs (replicate n 0)) ≡ replicate (n * per_word f) (value_in f 0)
zero_words f [] zero e = let p : 0 * per_word f ≡ 0 = omega arith in ap (λ n. replicate n (value_in f 0)) (sym p)
zero_words f [] (suc n) e = absurd (omega arith)
zero_words f (g ∷ gs) zero e = absurd (omega arith)
zero_words f (g ∷ gs) (suc n) e =
    let p : per_word f + n * per_word f ≡ suc n * per_word f = omega arith in
    ap₂ (λ xs ys. xs ++ ys) (zero_word f) (zero_words f gs n (omega arith)) ∙ replicate-append-replicate (per_word f) (n * per_word f) (value_in f 0) ∙ ap (λ n. replicate n (value_in f 0)) p

map_replicate : {X Y : Type 0} (f : X → Y) (n : ℕ) (x : X) → map f (replicate n x) ≡ replicate n (f x)
map_replicate f zero x = refl
map_replicate f (suc n) x = ap (λ ys. f x ∷ ys) (map_replicate f n x)

pub elements_of_array : (e : Kind) → elements_form (array_of e) ≡ Some (form_of e)
elements_of_array e = let n : suc e.dims ≡ e.dims + 1 = omega arith in subst (λ n. elements_form (record e { dims = n }) ≡ Some (form_of e)) n refl

pub array_slots : (e : Kind) (n : ℕ) → new_slots (array_of e) n [] ≡ map plain (replicate n (zero_of e))
array_slots e n =
    let f = form_of e in
    let w = words_for f n in
    let l : length (replicate (w - 0) forms.Int) ≡ w = length-replicate (w - 0) forms.Int ∙ omega arith in
    let h : n ≤ w * per_word f = words_hold f n in
    ap (λ o. slots_by o n (zip (replicate (width_by o n - 0) forms.Int) (replicate (width_by o n) 0))) (elements_of_array e)
    ∙ ap (take n) (zero_words f (replicate (w - 0) forms.Int) w l)
    ∙ take-replicate n (w * per_word f) (value_in f 0) h
    ∙ ap (replicate n) (zero_value e)
    ∙ sym (map_replicate plain n (zero_of e))

object_zeros : (ss : List SlotInfo) → map (λ w. value_in w.0 w.1) (zip (map (λ s. form_of s.kind) ss) (replicate (length ss) 0)) ≡ map plain (map (λ s. zero_of s.kind) ss)
object_zeros [] = refl
object_zeros (s ∷ ss) = ap₂ (λ x xs. x ∷ xs) (zero_value s.kind) (object_zeros ss)

pub object_slots : (c n : ℕ) (ss : List SlotInfo) → n ≡ length ss → new_slots (class_kind c) n ss ≡ map plain (map (λ s. zero_of s.kind) ss)
object_slots c n ss e =
    let z : n - length ss ≡ 0 = omega (arith, e) in
    ap₂ (λ m k. map (λ w. value_in w.0 w.1) (zip (map (λ s. form_of s.kind) ss ++ replicate m forms.Int) (replicate k 0))) z e
    ∙ ap (λ fs. map (λ w. value_in w.0 w.1) (zip fs (replicate (length ss) 0))) (append-nil (map (λ s. form_of s.kind) ss))
    ∙ object_zeros ss

-- an object that was made after room was made for it
pub made_in_room : (old mid new : Contents) (name n : ℕ) (o u : Obj) → mid ≡ record old { spare = max old.spare n } → cells_of u ≡ n → o ≡ u → HasMade mid new name o → HasMade old new name u
made_in_room old mid new name n o u em en eo m =
    let d : max old.spare n - n ≡ old.spare - n = omega arith in
    let at_mid = subst (λ o. HasMade mid new name o) eo m in
    let at_old = subst (λ mid. HasMade mid new name u) em at_mid in
    record { fresh = at_old.fresh; objects = at_old.objects; spare = at_old.spare ∙ ap (λ k. max old.spare n - k) en ∙ d ∙ ap (λ k. old.spare - k) (sym en) }

-- a list that was filled up, where there was room
pub resized : {X E : Type 0} (r : Result (Unit {0}) E) (xs ys : List X) (n m : ℕ) (v : X) → IsOk r → ys ≡ (if is_ok r then take n xs ++ replicate (n - m) v else xs) → m ≡ length xs → m ≤ n
    → ys ≡ xs ++ replicate (n - m) v
resized (Ok u) xs ys n m v ok e f l = e ∙ ap (λ zs. zs ++ replicate (n - m) v) (take_all n xs (omega (arith, f)))
resized (Err x) xs ys n m v ok e f l = absurd (false≢true ok)

pub forms_length : (k : Kind) (n : ℕ) (ss : List SlotInfo) → length ss ≤ width k n → length (new_forms k n ss) ≡ width k n
forms_length k n ss l =
    length-append (map (λ s. form_of s.kind) ss) _
    ∙ ap₂ (λ a b. a + b) (length-map ss (λ s. form_of s.kind)) (length-replicate (width k n - length ss) forms.Int)
    ∙ omega (arith, l)
