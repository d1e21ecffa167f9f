-- An arena and the heap that it is seen as.
use Rattle.std.proofs.Common.{refl, arith, ◌++◌, ◌^◌, [], ◌∷◌, ap₂, take, drop, None, ◌≡◌, ℕ, zero, suc, ◌+◌, ◌<◌, ◌≤◌, List, length, sym, ap, subst, ◌∙◌, Some}
use Rattle.std.specs.Prelude.{slice_get, slice_index_or, IsSomeAnd}
use Rattle.std.specs.List.{zip}
use Rattle.std.specs.FinMap.{get, insert}
use Rattle.std.proofs.lemmas.List.{map-append, length-map, length-append, drop_at, take_all}
use Rattle.nr_model.specs.declared.value.Value.{Value}
use Rattle.nr_model.specs.Heaps.{Obj, Heap, cells}
use Rattle.nr_model.specs.Scripts.{with_slot}
use Rattle.nr_heap.specs.declared.form.Form.{Form}
use Rattle.nr_heap.specs.declared.heap.Heap.TheInside.{Inside}
use Rattle.nr_heap.specs.declared.place.Place.{Place}
use Rattle.nr_heap.specs.Contents.{Contents}
use Rattle.nr_heap.specs.Arenas.{cells_at, map_of, obj_at, objects, slots_in, run_of, width, Laid, IsWritten}
use Rattle.nr_heap.specs.Views.{contents_of, IsArena}
use Rattle.nr_heap.proofs.Arenas.{held, laid_more, objects_more, places_few, words_few, cells_map_of, count, told, name_within, place_read, run_within, written}
use Rattle.nr_heap.proofs.Maps.{map_of_push, map_of_fresh}
use Rattle.nr_heap.proofs.Slots.{none_some, some_eq, zip_append, zip_length}

abbrev pub words_of : Inside → List (Form × ℕ)
words_of a = zip a.forms.items a.words.items

abbrev pub contents : Heap → ℕ → Contents
contents h n = record { objects = h; spare = n }

-- the place of the object of a name
pub record IsPlace (a : Inside) (n : ℕ) (p : Place) : Type 0 where
  pub at : slice_get a.places.items n ≡ Some p
  pub within : p.start + width p.kind p.len ≤ length a.words.items
  pub count : length (slots_in p.kind p.len (run_of p (words_of a))) ≡ p.len

last_obj : (zs ys : List (Form × ℕ)) (p : Place) → p.start ≡ length zs → length ys ≡ width p.kind p.len → obj_at (zs ++ ys) p ≡ record { kind = p.kind; slots = slots_in p.kind p.len ys }
last_obj zs ys p es n =
    ap (λ us. record { kind = p.kind; slots = slots_in p.kind p.len us })
    (ap (λ s. take (width p.kind p.len) (drop s (zs ++ ys))) es ∙ ap (take (width p.kind p.len)) (drop_at zs ys (length zs) refl) ∙ take_all (width p.kind p.len) ys (omega (arith, n)))

module _ (a : Inside) (h : Contents) (view : contents_of a ≡ h) (sound : IsArena a) where
  pub objects_are : map_of (objects a.places.items (words_of a)) ≡ h.objects
  objects_are = ap (λ h. h.objects) view

  pub same_count : length (words_of a) ≡ length a.words.items
  same_count = zip_length a.forms.items a.words.items sound.formed

  pub laid_words : Laid 0 a.places.items (length (words_of a))
  laid_words = subst (λ n. Laid 0 a.places.items n) (sym same_count) sound.laid

  -- a name of the heap is a number of a place
  pub name_of : (P : Obj → Type 0) (n : ℕ) → IsSomeAnd (get h.objects n) P → n < length a.places.items
  name_of P n x = name_within a.places.items (words_of a) h.objects n objects_are P x

  -- what is read there is the place of the object
  pub place_of : (P : Obj → Type 0) (n : ℕ) (p : Place) → IsSomeAnd (get h.objects n) P → p ≡ slice_index_or a.places.items n p → IsPlace a n p × P (obj_at (words_of a) p)
  place_of P n p x r =
      let q = place_read a.places.items (words_of a) h.objects n objects_are P p x r in
      let w = run_within a.places.items 0 (length a.words.items) n p sound.laid q.0 in
      (record { at = q.0; within = w.1; count = count (words_of a) p (subst (λ n. p.start + width p.kind p.len ≤ n) (sym same_count) w.1) }, q.1)

  pub tell : (P : Obj → Type 0) (n : ℕ) (p : Place) → IsPlace a n p → P (obj_at (words_of a) p) → IsSomeAnd (get h.objects n) P
  tell P n p is x = told a.places.items (words_of a) h.objects n objects_are P p is.at x

  pub cells_are : cells h.objects ≡ a.cells
  cells_are = ap cells (sym objects_are) ∙ cells_map_of a.places.items (words_of a) laid_words ∙ sym sound.counted

  pub wrote : (n : ℕ) (p : Place) (us : List (Form × ℕ)) (i : ℕ) (v : Value) → IsPlace a n p → IsWritten p i v (words_of a) us
      → map_of (objects a.places.items us) ≡ with_slot h.objects n (obj_at (words_of a) p) i v
  wrote n p us i v is w = written a.places.items (words_of a) h.objects n objects_are us i v p laid_words is.at w

  pub few_places : length a.places.items < 2 ^ 32
  few_places = omega (arith, places_few a.places.items, sound.counted, sound.few)

  pub few_words : length a.words.items < 2 ^ 32
  few_words = omega (arith, words_few a.places.items 0 (length a.words.items) sound.laid, sound.counted, sound.few)

  -- one more object, whose words are 0
  pub made : (ps : List Place) (fs gs : List Form) (ws us : List ℕ) (p : Place) → ps ≡ a.places.items ++ p ∷ [] → fs ≡ a.forms.items ++ gs → ws ≡ a.words.items ++ us
      → length gs ≡ width p.kind p.len → length us ≡ width p.kind p.len → p.start ≡ length a.words.items
      → (map_of (objects ps (zip fs ws)) ≡ insert h.objects (length a.places.items) (record { kind = p.kind; slots = slots_in p.kind p.len (zip gs us) }))
      × Laid 0 ps (length ws)
  made ps fs gs ws us p ep ef ew lg lu es =
      let z : zip fs ws ≡ words_of a ++ zip gs us = ap₂ zip ef ew ∙ zip_append a.forms.items gs a.words.items us sound.formed in
      let n : length (zip gs us) ≡ width p.kind p.len = zip_length gs us (lg ∙ sym lu) ∙ lu in
      let l : length ws ≡ length a.words.items + width p.kind p.len = ap length ew ∙ length-append a.words.items us ∙ ap (λ n. length a.words.items + n) lu in (
        ap₂ (λ ps zs. map_of (objects ps zs)) ep z
            ∙ ap map_of (map-append (obj_at (words_of a ++ zip gs us)) a.places.items (p ∷ []) ∙ ap₂ (λ xs y. xs ++ y ∷ []) (objects_more a.places.items (words_of a) (zip gs us) 0 laid_words) (last_obj (words_of a) (zip gs us) p (es ∙ sym same_count) n))
            ∙ map_of_push (objects a.places.items (words_of a)) _
            ∙ ap₂ (λ h n. insert h n (record { kind = p.kind; slots = slots_in p.kind p.len (zip gs us) })) objects_are (length-map a.places.items (obj_at (words_of a))),
        subst (λ n. Laid 0 ps n) (sym l) (subst (λ ps. Laid 0 ps (length a.words.items + width p.kind p.len)) (sym ep) (laid_more a.places.items 0 (length a.words.items) p sound.laid es)),
      )

  pub fresh : get h.objects (length a.places.items) ≡ None
  fresh = ap₂ get (sym objects_are) (sym (length-map a.places.items (obj_at (words_of a)))) ∙ map_of_fresh (objects a.places.items (words_of a))

  -- an object has few slots
  pub few_slots : (n m : ℕ) → IsSomeAnd (get h.objects n) (λ o. m ≤ length o.slots) → m < 2 ^ 32
  few_slots n m x =
      let q = held a.places.items (words_of a) h.objects n objects_are (λ o. m ≤ length o.slots) x in
      let w = run_within a.places.items 0 (length a.words.items) n q.0 sound.laid q.1 in
      omega (arith, q.2, count (words_of a) q.0 (subst (λ n. q.0.start + width q.0.kind q.0.len ≤ n) (sym same_count) w.1), small a.places.items n q.0 q.1, sound.counted, sound.few)
    where
      small : (ps : List Place) (n : ℕ) (p : Place) → slice_get ps n ≡ Some p → p.len ≤ cells_at ps
      small [] n p e = absurd (none_some e)
      small (q ∷ ps) zero p e = omega (arith, ap (λ p. p.len) (some_eq e))
      small (q ∷ ps) (suc n) p e = omega (arith, small ps n p e)
