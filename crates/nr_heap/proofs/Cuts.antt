-- Names, and the first objects alone.
use Rattle.std.proofs.Common.{◌≡◌, ℕ, zero, suc, ◌+◌, ◌-◌, ◌<◌, ◌≤◌, ◌^◌, Bool, true, false, cond, List, [], ◌∷◌, length, refl, sym, ap, ap₂, subst, ◌∙◌, arith, take, drop, Option, Some, None, add-one}
use Rattle.std.specs.Prelude.{slice_get, map, nat_lt, ◌==◌, ◌||◌}
use Rattle.std.specs.List.{list_any, range_with_len, zip}
use Rattle.std.specs.Ordering.{nat_cmp}
use Rattle.std.specs.Cmp.{nat_cmp_is}
use Rattle.std.specs.declared.cmp.Ordering.TheVariants.{Less}
use Rattle.std.proofs.lemmas.Cmp.{nat_cmp_total}
use Rattle.std.proofs.lemmas.Bool.{ltb-true, ltb-false}
use Rattle.std.proofs.lemmas.Bool.Decides.{nat_tests}
use Rattle.std.proofs.lemmas.List.{drop-take, take-take, length-take-le, nil_from_length, length-map}
use Rattle.std.proofs.lemmas.Option.{slice_get_past, slice_get_within}
use Rattle.std.specs.FinMap.{FinMap, get, insert, put, keys, entries, empty, from_entries, entries-insert, retain_keys, get-retain_keys, len-entries, len-empty, nat_cmp-IsAntisymmetric}
use Rattle.std.specs.FinMap.Entries.{by_order}
use Rattle.nr_model.specs.Heaps.{Obj, Heap}
use Rattle.nr_heap.specs.declared.form.Form.{Form}
use Rattle.nr_heap.specs.declared.heap.Heap.TheInside.{Inside}
use Rattle.nr_heap.specs.declared.place.Place.{Place}
use Rattle.nr_heap.specs.Arenas.{numbered, map_of, map_of_is, obj_at, objects, slots_in, width, Laid, cells_at}
use Rattle.nr_heap.specs.Contents.{Contents, with_only}
use Rattle.nr_heap.specs.Views.{contents_of, IsArena}
use Rattle.nr_heap.proofs.Arenas.{run_within}
use Rattle.nr_heap.proofs.Maps.{get-map_of, same_heap}
use Rattle.nr_heap.proofs.Slots.{get_take, none_some, some_eq, zip_length}
use Rattle.nr_heap.proofs.Views.{words_of, objects_are, same_count}

-- ---- the names are the numbers

no_entries : entries (empty {X = Obj} {R = nat_cmp}) ≡ []
no_entries = nil_from_length (entries (empty {R = nat_cmp})) (sym (len-entries (empty {R = nat_cmp})) ∙ len-empty nat_cmp Obj)

put_first : (k : ℕ) (o : Obj) (os : List Obj) → put nat_cmp k o (numbered (suc k) os) ≡ (k, o) ∷ numbered (suc k) os
put_first k o [] = refl
put_first k o (p ∷ os) =
    ap (λ r. by_order r ((k, o) ∷ (suc k, p) ∷ numbered (suc (suc k)) os) ((suc k, o) ∷ numbered (suc (suc k)) os) ((suc k, p) ∷ put nat_cmp k o (numbered (suc (suc k)) os)))
    (sym (nat_cmp_is k (suc k) Less (omega arith)))

entries_numbered : (os : List Obj) (k : ℕ) → entries (from_entries {R = nat_cmp} (numbered k os)) ≡ numbered k os
entries_numbered [] k = no_entries
entries_numbered (o ∷ os) k =
    entries-insert nat_cmp_total (from_entries {R = nat_cmp} (numbered (suc k) os)) k o ∙ ap (put nat_cmp k o) (entries_numbered os (suc k)) ∙ put_first k o os

numbers : (os : List Obj) (k : ℕ) → map (λ e. e.0) (numbered k os) ≡ range_with_len k (length os)
numbers [] k = refl
numbers (o ∷ os) k = ap (λ ks. k ∷ ks) (numbers os (suc k) ∙ ap (λ n. range_with_len n (length os)) (sym (add-one k)))

keys_map_of : (os : List Obj) → keys (map_of os) ≡ range_with_len 0 (length os)
keys_map_of os = ap keys (map_of_is os) ∙ ap (map (λ e. e.0)) (entries_numbered os 0) ∙ numbers os 0

-- ---- the heap with the first names alone

among : (a k n : ℕ) → list_any (λ b. a == b) (range_with_len k n) ≡ cond (nat_lt a k) false (nat_lt a (k + n))
among a k zero = grind (arith, nat_tests)
among a k (suc n) =
    let e : k + 1 + n ≡ k + suc n = omega arith in
    ap (λ b. a == k || b) (among a (k + 1) n ∙ ap (λ m. cond (nat_lt a (k + 1)) false (nat_lt a m)) e) ∙ joined a k (k + suc n) (omega arith)
  where
    joined : (a k m : ℕ) → k < m → (a == k || cond (nat_lt a (k + 1)) false (nat_lt a m)) ≡ cond (nat_lt a k) false (nat_lt a m)
    joined a k m l = grind (arith, nat_tests)

get_first : (h : Heap) (n a : ℕ) → get (with_only (range_with_len 0 n) h) a ≡ cond (nat_lt a n) (get h a) None
get_first h n a =
    let e : 0 + n ≡ n = omega arith in
    let z : cond (nat_lt a 0) false (nat_lt a (0 + n)) ≡ nat_lt a n = ap (λ m. cond (nat_lt a 0) false (nat_lt a m)) e ∙ none_below a (nat_lt a n) in
    get-retain_keys h (λ a. list_any (λ b. a == b) (range_with_len 0 n)) a (λ x t. ap (λ a. list_any (λ b. a == b) (range_with_len 0 n)) (sym (nat_cmp-IsAntisymmetric a x t)))
    ∙ ap (λ b. cond b (get h a) None) (among a 0 n ∙ z)
  where
    none_below : (a : ℕ) (b : Bool) → cond (nat_lt a 0) false b ≡ b
    none_below a b = grind (arith, nat_tests)

by_test : {X : Type 0} (a n : ℕ) (x y z : X) → (a < n → z ≡ x) → (n ≤ a → z ≡ y) → z ≡ cond (nat_lt a n) x y
by_test a n x y z f g = go (nat_lt a n) refl
  where
    go : (b : Bool) → nat_lt a n ≡ b → z ≡ cond b x y
    go true e = f (ltb-true a n e)
    go false e = g (ltb-false a n e)

-- ---- the first places with their words

laid_first : (ps : List Place) (k end n : ℕ) (p : Place) → Laid k ps end → slice_get ps n ≡ Some p → Laid k (take n ps) p.start
laid_first [] k end n p l e = absurd (none_some e)
laid_first (q ∷ ps) k end zero p l e = subst (λ p. k ≡ p.start) (some_eq e) (sym l.0)
laid_first (q ∷ ps) k end (suc n) p l e = (l.0, laid_first ps (k + width q.kind q.len) end n p l.1 e)

objects_first : (ps : List Place) (ws : List (Form × ℕ)) (k n : ℕ) → Laid k ps n → n ≤ length ws → objects ps (take n ws) ≡ objects ps ws
objects_first [] ws k n l b = refl
objects_first (p ∷ ps) ws k n l b =
    let m = width p.kind p.len in
    let r = run_within (p ∷ ps) k n 0 p l refl in
    let c : n ≡ p.start + (n - p.start) = omega (arith, r.1) in
    ap₂ (λ x y. x ∷ y)
    (ap (λ us. record { kind = p.kind; slots = slots_in p.kind p.len us })
    (ap (λ n. take m (drop p.start (take n ws))) c ∙ ap (take m) (drop-take p.start (n - p.start) ws) ∙ take-take m (n - p.start) (drop p.start ws) (omega (arith, r.1))))
    (objects_first ps ws (k + m) n l.1 b)

objects_take : (ps : List Place) (ws : List (Form × ℕ)) (n : ℕ) → objects (take n ps) ws ≡ take n (objects ps ws)
objects_take [] ws zero = refl
objects_take [] ws (suc n) = refl
objects_take (p ∷ ps) ws zero = refl
objects_take (p ∷ ps) ws (suc n) = ap (λ os. obj_at ws p ∷ os) (objects_take ps ws n)

pub cells_at_parts : (ps : List Place) (n : ℕ) → cells_at ps ≡ cells_at (take n ps) + cells_at (drop n ps)
cells_at_parts [] zero = omega arith
cells_at_parts [] (suc n) = omega arith
cells_at_parts (p ∷ ps) zero = omega arith
cells_at_parts (p ∷ ps) (suc n) = omega (arith, cells_at_parts ps n)

zip_take : {X Y : Type 0} (n : ℕ) (xs : List X) (ys : List Y) → zip (take n xs) (take n ys) ≡ take n (zip xs ys)
zip_take zero xs ys = refl
zip_take (suc n) [] ys = refl
zip_take (suc n) (x ∷ xs) [] = refl
zip_take (suc n) (x ∷ xs) (y ∷ ys) = ap (λ zs. (x, y) ∷ zs) (zip_take n xs ys)

module _ (a : Inside) (h : Contents) (view : contents_of a ≡ h) (sound : IsArena a) where
  pub names_are : range_with_len 0 (length a.places.items) ≡ keys h.objects
  names_are = ap (range_with_len 0) (sym (length-map a.places.items (obj_at (words_of a)))) ∙ sym (keys_map_of (objects a.places.items (words_of a))) ∙ ap keys (objects_are a h view sound)

  got : (b : ℕ) → get h.objects b ≡ slice_get (objects a.places.items (words_of a)) b
  got b = ap (λ h. get h b) (sym (objects_are a h view sound)) ∙ get-map_of (objects a.places.items (words_of a)) b

  pub uncut : (n : ℕ) → length a.places.items ≤ n → h.objects ≡ with_only (range_with_len 0 n) h.objects
  uncut n l = same_heap _ _ (λ b. by_test b n (get h.objects b) None (get h.objects b) (λ m. refl)
      (λ m. got b ∙ slice_get_past (objects a.places.items (words_of a)) b (omega (arith, length-map a.places.items (obj_at (words_of a)))))
      ∙ sym (get_first h.objects n b))

  module _ (n : ℕ) (p : Place) (at : slice_get a.places.items n ≡ Some p) where
    within : p.start ≤ length a.words.items
    within = let w = run_within a.places.items 0 (length a.words.items) n p sound.laid at in omega (arith, w.1)

    pub cut_laid : (ws : List ℕ) → ws ≡ take p.start a.words.items → Laid 0 (take n a.places.items) (length ws)
    cut_laid ws e = subst (λ m. Laid 0 (take n a.places.items) m) (sym (ap length e ∙ length-take-le p.start a.words.items within)) (laid_first a.places.items 0 (length a.words.items) n p sound.laid at)

    pub cut_formed : (fs : List Form) (ws : List ℕ) → fs ≡ take p.start a.forms.items → ws ≡ take p.start a.words.items → length fs ≡ length ws
    cut_formed fs ws e f = ap length e ∙ length-take-le p.start a.forms.items (omega (arith, within, sound.formed)) ∙ sym (ap length f ∙ length-take-le p.start a.words.items within)

    firsts : List Obj
    firsts = objects a.places.items (words_of a)

    short : length (take n firsts) ≤ n
    unfolding firsts
    short = omega (arith, length-take-le n firsts (omega (arith, length-map a.places.items (obj_at (words_of a)), slice_get_within a.places.items n p at)))

    pub cut : (ps : List Place) (fs : List Form) (ws : List ℕ) → ps ≡ take n a.places.items → fs ≡ take p.start a.forms.items → ws ≡ take p.start a.words.items
        → map_of (objects ps (zip fs ws)) ≡ with_only (range_with_len 0 n) h.objects
    unfolding firsts
    cut ps fs ws ep ef ew =
        let os : objects ps (zip fs ws) ≡ take n firsts
        = ap₂ objects ep (ap₂ zip ef ew ∙ zip_take p.start a.forms.items a.words.items)
        ∙ objects_first (take n a.places.items) (words_of a) 0 p.start (laid_first a.places.items 0 (length a.words.items) n p sound.laid at) (omega (arith, within, same_count a h view sound))
        ∙ objects_take a.places.items (words_of a) n in
        same_heap _ _ (λ b. by_test b n (get h.objects b) None (get (map_of (objects ps (zip fs ws))) b)
        (λ l. get-map_of (objects ps (zip fs ws)) b ∙ ap (λ os. slice_get os b) os ∙ get_take firsts n b l ∙ sym (got b))
        (λ l. get-map_of (objects ps (zip fs ws)) b ∙ ap (λ os. slice_get os b) os ∙ slice_get_past (take n firsts) b (omega (arith, short)))
        ∙ sym (get_first h.objects n b))
