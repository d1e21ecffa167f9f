-- Objects in an arena.
use Rattle.std.proofs.Common.{◌≡◌, ℕ, zero, suc, ◌+◌, ◌-◌, ◌*◌, ◌<◌, ◌≤◌, List, [], ◌∷◌, ◌++◌, length, refl, sym, ap, ap₂, subst, ◌∙◌, arith, take, drop, Option, Some, None}
use Rattle.std.specs.Prelude.{slice_get, slice_set, slice_index_or, IsSomeAnd}
use Rattle.std.specs.List.{flat_map}
use Rattle.std.proofs.lemmas.List.{drop-set-lt, take-set-le, drop-set-add, take-append-le, drop-append-le, length-map, length-append, length-drop, length-take-le, nil_from_length}
use Rattle.std.proofs.lemmas.Option.{get_or_from_slice_get, slice_get_within}
use Rattle.std.specs.FinMap.{get, insert, from_entries, get-from_entries, find, empty, entries, len-entries, len-empty}
use Rattle.std.specs.Ordering.{nat_cmp}
use Rattle.std.proofs.lemmas.Cmp.{nat_cmp_total}
use Rattle.nr_model.specs.declared.value.Value.{Value}
use Rattle.nr_linked.specs.declared.program.kind.Kind.{Kind}
use Rattle.nr_model.specs.Heaps.{Obj, Heap, cells, cells_of, total_cells}
use Rattle.nr_model.specs.Scripts.{with_slot}
use Rattle.nr_model.proofs.Cells.{cells_new}
use Rattle.nr_model.proofs.Heaps.{not_equal}
use Rattle.nr_heap.specs.declared.form.Form.{Form}
use Rattle.nr_heap.specs.declared.form.Form.TheVariants as forms
use Rattle.nr_heap.specs.declared.place.Place.{Place}
use Rattle.nr_heap.specs.Forms.{elements_form, per_word, value_in, values_in, words_for}
use Rattle.nr_heap.specs.Arenas.{numbered, map_of, map_of_is, run_of, obj_at, objects, slots_by, slots_in, width, width_by, Laid, cells_at, IsWritten}
use Rattle.nr_heap.proofs.Maps.{get-map_of, map_of_set}
use Rattle.nr_heap.proofs.Slots.{none_some, some_eq, word_count}

pub no_objects : map_of [] ≡ empty
no_objects = map_of_is []

-- the end isn't below the start
laid_up : (ps : List Place) (k end : ℕ) → Laid k ps end → k ≤ end
laid_up [] k end l = omega (arith, l)
laid_up (p ∷ ps) k end l = omega (arith, laid_up ps (k + width p.kind p.len) end l.1)

-- the run of a place ends within the arena
pub run_within : (ps : List Place) (k end i : ℕ) (p : Place) → Laid k ps end → slice_get ps i ≡ Some p → (k ≤ p.start) × (p.start + width p.kind p.len ≤ end)
run_within [] k end i p l e = absurd (none_some e)
run_within (q ∷ ps) k end zero p l e = subst (λ p. (k ≤ p.start) × (p.start + width p.kind p.len ≤ end)) (some_eq e) (omega (arith, l.0), omega (arith, l.0, laid_up ps (k + width q.kind q.len) end l.1))
run_within (q ∷ ps) k end (suc i) p l e = let r = run_within ps (k + width q.kind q.len) end i p l.1 e in (omega (arith, r.0), r.1)

-- ---- how many slots

flat_length : (f : Form) (ws : List (Form × ℕ)) → length (flat_map (λ w. values_in f w.1) ws) ≡ length ws * per_word f
flat_length f [] = omega arith
flat_length f (w ∷ ws) = omega (arith, length-append (values_in f w.1) (flat_map (λ w. values_in f w.1) ws), word_count f w.1, flat_length f ws)

pub words_hold : (f : Form) (n : ℕ) → n ≤ words_for f n * per_word f
words_hold forms.Bool n = omega arith
words_hold forms.Byte n = omega arith
words_hold forms.Char n = omega arith
words_hold forms.Short n = omega arith
words_hold forms.Int n = omega arith
words_hold forms.Long n = omega arith
words_hold forms.Reference n = omega arith

pub slot_count : (o : Option Form) (n : ℕ) (ws : List (Form × ℕ)) → length ws ≡ width_by o n → length (slots_by o n ws) ≡ n
slot_count None n ws e = length-map ws (λ w. value_in w.0 w.1) ∙ e
slot_count (Some f) n ws e = length-take-le n _ (omega (arith, flat_length f ws, words_hold f n, ap (λ m. m * per_word f) e))

pub count : (ws : List (Form × ℕ)) (p : Place) → p.start + width p.kind p.len ≤ length ws → length (obj_at ws p).slots ≡ p.len
count ws p l = slot_count (elements_form p.kind) p.len (run_of p ws) (length-take-le (width p.kind p.len) (drop p.start ws) (omega (arith, l, length-drop p.start ws)))

-- ---- a word is written

-- before or behind a run
before : (ws : List (Form × ℕ)) (p : Place) (j : ℕ) (w : Form × ℕ) → j < p.start → obj_at (slice_set ws j w) p ≡ obj_at ws p
before ws p j w l = ap (λ us. record { kind = p.kind; slots = slots_in p.kind p.len (take (width p.kind p.len) us) }) (drop-set-lt p.start ws j w l)

behind : (ws : List (Form × ℕ)) (p : Place) (j : ℕ) (w : Form × ℕ) → width p.kind p.len ≤ j → obj_at (slice_set ws (p.start + j) w) p ≡ obj_at ws p
behind ws p j w l = ap (λ us. record { kind = p.kind; slots = slots_in p.kind p.len us }) (ap (take (width p.kind p.len)) (drop-set-add p.start ws j w) ∙ take-set-le (width p.kind p.len) (drop p.start ws) j w l)

all_before : (ps : List Place) (ws : List (Form × ℕ)) (k end j : ℕ) (w : Form × ℕ) → Laid k ps end → j < k → objects ps (slice_set ws j w) ≡ objects ps ws
all_before [] ws k end j w l b = refl
all_before (p ∷ ps) ws k end j w l b = ap₂ (λ x y. x ∷ y) (before ws p j w (omega (arith, l.0))) (all_before ps ws (k + width p.kind p.len) end j w l.1 (omega arith))

pub objects_set : (ps : List Place) (ws : List (Form × ℕ)) (k end a j : ℕ) (p : Place) (w : Form × ℕ) → Laid k ps end → slice_get ps a ≡ Some p → j < width p.kind p.len
    → objects ps (slice_set ws (p.start + j) w) ≡ slice_set (objects ps ws) a (obj_at (slice_set ws (p.start + j) w) p)
objects_set [] ws k end a j p w l e b = absurd (none_some e)
objects_set (q ∷ ps) ws k end zero j p w l e b =
    let f : q ≡ p = some_eq e in
    subst (λ p. objects (q ∷ ps) (slice_set ws (p.start + j) w) ≡ slice_set (objects (q ∷ ps) ws) 0 (obj_at (slice_set ws (p.start + j) w) p)) f
    (ap (λ os. obj_at (slice_set ws (q.start + j) w) q ∷ os) (all_before ps ws (k + width q.kind q.len) end (q.start + j) w l.1 (omega (arith, l.0, subst (λ p. j < width p.kind p.len) (sym f) b))))
objects_set (q ∷ ps) ws k end (suc a) j p w l e b =
    let r = run_within ps (k + width q.kind q.len) end a p l.1 e in
    let i : p.start + j ≡ q.start + (p.start - q.start + j) = omega (arith, l.0, r.0) in
    ap₂ (λ x y. x ∷ y) (ap (λ n. obj_at (slice_set ws n w) q) i ∙ behind ws q (p.start - q.start + j) w (omega (arith, l.0, r.0))) (objects_set ps ws (k + width q.kind q.len) end a j p w l.1 e b)

-- ---- more words behind the runs

pub objects_more : (ps : List Place) (ws vs : List (Form × ℕ)) (k : ℕ) → Laid k ps (length ws) → objects ps (ws ++ vs) ≡ objects ps ws
objects_more [] ws vs k l = refl
objects_more (p ∷ ps) ws vs k l =
    let r = run_within (p ∷ ps) k (length ws) 0 p l refl in
    ap₂ (λ x y. x ∷ y) (ap (λ us. record { kind = p.kind; slots = slots_in p.kind p.len us }) (ap (take (width p.kind p.len)) (drop-append-le p.start ws vs (omega (arith, r.1))) ∙ take-append-le (width p.kind p.len) (drop p.start ws) vs (omega (arith, r.1, length-drop p.start ws))))
    (objects_more ps ws vs (k + width p.kind p.len) l.1)

-- one more object behind the others
pub laid_more : (ps : List Place) (k end : ℕ) (p : Place) → Laid k ps end → p.start ≡ end → Laid k (ps ++ p ∷ []) (end + width p.kind p.len)
laid_more [] k end p l e = (omega (arith, l, e), omega (arith, l))
laid_more (q ∷ ps) k end p l e = (l.0, laid_more ps (k + width q.kind q.len) end p l.1 e)

-- ---- there are few

width_by_le : (o : Option Form) (n : ℕ) → width_by o n ≤ n
width_by_le None n = omega arith
width_by_le (Some forms.Bool) n = omega arith
width_by_le (Some forms.Byte) n = omega arith
width_by_le (Some forms.Char) n = omega arith
width_by_le (Some forms.Short) n = omega arith
width_by_le (Some forms.Int) n = omega arith
width_by_le (Some forms.Long) n = omega arith
width_by_le (Some forms.Reference) n = omega arith

pub width_le : (k : Kind) (n : ℕ) → width k n ≤ n
width_le k n = width_by_le (elements_form k) n

pub places_few : (ps : List Place) → length ps ≤ cells_at ps
places_few [] = omega arith
places_few (p ∷ ps) = omega (arith, places_few ps)

pub words_few : (ps : List Place) (k end : ℕ) → Laid k ps end → end ≤ k + cells_at ps
words_few [] k end l = omega (arith, l)
words_few (p ∷ ps) k end l = omega (arith, words_few ps (k + width p.kind p.len) end l.1, width_le p.kind p.len)

pub cells_at_more : (ps : List Place) (p : Place) → cells_at (ps ++ p ∷ []) ≡ cells_at ps + (p.len + 1)
cells_at_more [] p = omega arith
cells_at_more (q ∷ ps) p = omega (arith, cells_at_more ps p)

-- ---- objects by their places

get_objects : (ps : List Place) (ws : List (Form × ℕ)) (n : ℕ) (P : Obj → Type 0) → IsSomeAnd (slice_get (objects ps ws) n) P → (p : Place) × (slice_get ps n ≡ Some p) × P (obj_at ws p)
get_objects [] ws n P x = absurd x
get_objects (p ∷ ps) ws zero P x = (p, refl, x)
get_objects (p ∷ ps) ws (suc n) P x = get_objects ps ws n P x

objects_get : (ps : List Place) (ws : List (Form × ℕ)) (n : ℕ) (p : Place) → slice_get ps n ≡ Some p → slice_get (objects ps ws) n ≡ Some (obj_at ws p)
objects_get [] ws n p e = absurd (none_some e)
objects_get (q ∷ ps) ws zero p e = ap (λ q. Some (obj_at ws q)) (some_eq e)
objects_get (q ∷ ps) ws (suc n) p e = objects_get ps ws n p e

-- an arena that is seen as the heap h
module _ (ps : List Place) (ws : List (Form × ℕ)) (h : Heap) (n : ℕ) (view : map_of (objects ps ws) ≡ h) where
  pub held : (P : Obj → Type 0) → IsSomeAnd (get h n) P → (p : Place) × (slice_get ps n ≡ Some p) × P (obj_at ws p)
  held P x = get_objects ps ws n P (subst (λ o. IsSomeAnd o P) (ap (λ h. get h n) (sym view) ∙ get-map_of (objects ps ws) n) x)

  pub told : (P : Obj → Type 0) (p : Place) → slice_get ps n ≡ Some p → P (obj_at ws p) → IsSomeAnd (get h n) P
  told P p e x = subst (λ o. IsSomeAnd o P) (sym (ap (λ h. get h n) (sym view) ∙ get-map_of (objects ps ws) n ∙ objects_get ps ws n p e)) x

  pub name_within : (P : Obj → Type 0) → IsSomeAnd (get h n) P → n < length ps
  name_within P x = let r = held P x in slice_get_within ps n r.0 r.1

  pub place_read : (P : Obj → Type 0) (p : Place) → IsSomeAnd (get h n) P → p ≡ slice_index_or ps n p → (slice_get ps n ≡ Some p) × P (obj_at ws p)
  place_read P p x r =
      let q = held P x in
      let e : q.0 ≡ p = sym (r ∙ get_or_from_slice_get ps n q.0 p q.1) in
      (subst (λ p. slice_get ps n ≡ Some p) e q.1, subst (λ p. P (obj_at ws p)) e q.2)

  pub written : (us : List (Form × ℕ)) (i : ℕ) (v : Value) (p : Place) → Laid 0 ps (length ws) → slice_get ps n ≡ Some p → IsWritten p i v ws us
      → map_of (objects ps us) ≡ with_slot h n (obj_at ws p) i v
  written us i v p laid e w =
      ap (λ us. map_of (objects ps us)) w.written
      ∙ ap map_of (objects_set ps ws 0 (length ws) n w.at p w.word laid e w.within)
      ∙ map_of_set (objects ps ws) n _ (rw length-map (slice_get_within ps n p e))
      ∙ ap₂ (λ h vs. insert h n (record { kind = p.kind; slots = vs })) view (ap (λ us. slots_in p.kind p.len (run_of p us)) (sym w.written) ∙ w.slots)

-- ---- cells

numbered_below : (os : List Obj) (k j : ℕ) → j < k → find nat_cmp j (numbered k os) ≡ None
numbered_below [] k j l = refl
numbered_below (o ∷ os) k j l = rw (not_equal j k _ refl (λ e. absurd (omega arith))) (numbered_below os (suc k) j (omega arith))

total : List Obj → ℕ
total [] = 0
total (o ∷ os) = cells_of o + total os

cells_from : (os : List Obj) (k : ℕ) → cells (from_entries {R = nat_cmp} (numbered k os)) ≡ total os
unfolding total
cells_from [] k = ap total_cells (nil_from_length (entries (empty {R = nat_cmp})) (sym (len-entries (empty {R = nat_cmp})) ∙ len-empty nat_cmp Obj))
cells_from (o ∷ os) k =
    let n : get (from_entries {R = nat_cmp} (numbered (suc k) os)) k ≡ None = get-from_entries nat_cmp_total (numbered (suc k) os) k ∙ numbered_below os (suc k) k (omega arith) in
    omega (arith, cells_new (from_entries {R = nat_cmp} (numbered (suc k) os)) k o n, cells_from os (suc k))

total_at : (ps : List Place) (ws : List (Form × ℕ)) (k end : ℕ) → Laid k ps end → end ≤ length ws → total (objects ps ws) ≡ cells_at ps
unfolding total
total_at [] ws k end l m = refl
total_at (p ∷ ps) ws k end l m =
    let r = run_within (p ∷ ps) k end 0 p l refl in
    omega (arith, count ws p (omega (arith, r.1)), total_at ps ws (k + width p.kind p.len) end l.1 m)

pub cells_map_of : (ps : List Place) (ws : List (Form × ℕ)) → Laid 0 ps (length ws) → cells (map_of (objects ps ws)) ≡ cells_at ps
cells_map_of ps ws l = ap cells (map_of_is (objects ps ws)) ∙ cells_from (objects ps ws) 0 ∙ total_at ps ws 0 (length ws) l (omega arith)
