-- Arrays of arrays, as they are made.
use Rattle.std.proofs.Common.{◌≡◌, ℕ, zero, suc, ◌+◌, ◌-◌, ◌*◌, ◌<◌, ◌≤◌, List, [], ◌∷◌, length, Option, Some, None, IsSomeAnd, refl, sym, subst, ap, ◌∙◌, true, ◌==◌, arith, rules, replicate, take, drop, get_or}
use Rattle.std.specs.Prelude.{MatchBool, ◌||◌, is_some, nat_lt, slice_set}
use Rattle.std.specs.FinMap.{get}
use Rattle.std.proofs.lemmas.Bool.{eqb-true}
use Rattle.std.proofs.lemmas.List.{length-map, length-replicate, length-set, take_all}
use Rattle.nr_linked.specs.declared.program.kind.Kind.{Kind}
use Rattle.nr_linked.specs.Kinds.{array_of, class_in}
use Rattle.nr_model.specs.declared.value.Value.{Value}
use Rattle.nr_model.specs.declared.value.Value.TheVariants.{Ref}
use Rattle.nr_model.specs.ArrayRules.{fill, nested}
use Rattle.nr_model.specs.Heaps.{Heap, Obj, cells, cells_of}
use Rattle.nr_model.specs.Scripts.{Ending, IsIn, Runs, Script, Within, WriteSlot, plain, with_slot}
use Rattle.nr_model.specs.Outcomes.{max_cells}
use Rattle.nr_model.specs.Throws.{zero_of}
use Rattle.nr_model.proofs.Cells.{cells_new, cells_write}
use Rattle.nr_model.proofs.Heaps.{get_other, get_same}
use Rattle.nr_heap.specs.Contents.{Contents, HasMade, IsOfBase, IsOfKind, Keeps, array_with}
use Rattle.nr_step.specs.NestedArrays.{count_in, counts_in, nest_cells}
use Rattle.nr_step.specs.Windows.{Leads, view}
use Rattle.nr_step.proofs.Objects.{some_map}

-- the heap has the array
abbrev pub IsArrayThere : Heap → ℕ → Kind → ℕ → Type 0
IsArrayThere h a e n = IsSomeAnd (get h a) (λ o. (o.kind ≡ array_of e) × (length o.slots ≡ n))

-- what the heap had, it has
abbrev pub HasAll : Heap → Heap → Type 0
HasAll h j = (a : ℕ) (o : Obj) → get h a ≡ Some o → get j a ≡ Some o

-- The array has been made, with so many elements, and those from `left` on have been filled with arrays of the counts.
pub record Filling (old start now : Contents) (e : Kind) (ns : List ℕ) (name n left : ℕ) : Type 0 where
  pub leads : (k : Script) (ls vs : List Value) (en : Ending) (u : Within) → Runs (fill left (nested e ns) k) (view now.objects ls (Ref name ∷ vs)) en u
      → Runs (fill n (nested e ns) k) (view start.objects ls (Ref name ∷ vs)) en u
  pub array : IsArrayThere now.objects name e n
  pub within : left ≤ n
  pub cells : cells now.objects + left * nest_cells ns ≡ cells start.objects + n * nest_cells ns
  pub room : start.spare + left * nest_cells ns ≤ now.spare + n * nest_cells ns
  pub kept : HasAll old.objects now.objects

-- ---- the counts

-- the counts but for the outermost, as the code takes them
abbrev pub inner_of : List Value → List Value
inner_of xs = take (length xs - 1) (drop 1 xs)

inner_is : (x : Value) (xs : List Value) → inner_of (x ∷ xs) ≡ xs
inner_is x xs = take_all (suc (length xs) - 1) xs (omega arith)

pub counts_split : (xs : List Value) (n : ℕ) (d : Value) → 0 < length xs → n ≡ count_in (get_or xs 0 d) → counts_in xs ≡ n ∷ counts_in (inner_of xs)
counts_split [] n d l e = absurd (omega arith)
counts_split (x ∷ xs) n d l e = ap (λ n. n ∷ counts_in xs) (sym e) ∙ ap (λ xs. n ∷ counts_in xs) (sym (inner_is x xs))

pub inner_length : (xs : List Value) → 0 < length xs → length (inner_of xs) + 1 ≡ length xs
inner_length [] l = absurd (omega arith)
inner_length (x ∷ xs) l = let e : length (inner_of (x ∷ xs)) ≡ length xs = ap length (inner_is x xs) in omega (arith, e)

pub no_counts : (xs : List Value) → true ≡ (length xs == 0) → length (counts_in xs) ≡ 0
no_counts xs e = length-map xs count_in ∙ eqb-true (length xs) 0 (sym e)

-- ---- a new array

pub array_cells : (e : Kind) (n : ℕ) → cells_of (array_with e n) ≡ n + 1
array_cells e n = ap (λ n. n + 1) (length-map (replicate n (zero_of e)) plain ∙ length-replicate n (zero_of e))

made_cells : (old new : Contents) (name n : ℕ) (e : Kind) → HasMade old new name (array_with e n) → cells new.objects ≡ cells old.objects + (n + 1)
made_cells old new name n e m = ap cells m.objects ∙ cells_new old.objects name (array_with e n) m.fresh ∙ ap (λ k. cells old.objects + k) (array_cells e n)

made_room : (old new : Contents) (name n : ℕ) (e : Kind) → HasMade old new name (array_with e n) → new.spare ≡ old.spare - (n + 1)
made_room old new name n e m = m.spare ∙ ap (λ k. old.spare - k) (array_cells e n)

none_some : {X : Type 0} {x : X} → None ≡ Some x → ⊥
none_some e = cc

pub made_keeps : (old new : Contents) (name : ℕ) (o : Obj) → HasMade old new name o → HasAll old.objects new.objects
made_keeps old new name o m = λ a x q.
    subst (λ h. get h a ≡ Some x) (sym m.objects) (get_other old.objects name a o (λ s. none_some (sym m.fresh ∙ ap (get old.objects) (sym s) ∙ q)) ∙ q)

pub filling_begins : (old start : Contents) (e : Kind) (ns : List ℕ) (name n : ℕ) → HasMade old start name (array_with e n) → Filling old start start e ns name n n
filling_begins old start e ns name n m = record {
  leads = λ k ls vs en u r. r;
  array = subst (λ g. IsSomeAnd g (λ o. (o.kind ≡ array_of e) × (length o.slots ≡ n))) (sym (ap (λ h. get h name) m.objects ∙ get_same old.objects name (array_with e n)))
      (refl, length-map (replicate n (zero_of e)) plain ∙ length-replicate n (zero_of e));
  within = omega arith;
  cells = refl;
  room = omega arith;
  kept = made_keeps old start name (array_with e n) m;
}

-- ---- the elements

pub filling_room : (old start now : Contents) (e : Kind) (ns : List ℕ) (name n left : ℕ) → Filling old start now e ns name n left → 0 < left → HasMade old start name (array_with e n)
    → cells old.objects + nest_cells (n ∷ ns) ≤ max_cells → nest_cells (n ∷ ns) ≤ old.spare → (cells now.objects + nest_cells ns ≤ max_cells) × (nest_cells ns ≤ now.spare)
filling_room old start now e ns name n zero f l m few room = absurd (omega arith)
filling_room old start now e ns name n (suc j) f l m few room =
    let g = nest_cells ns in
    let p : suc j * g ≡ g + j * g = omega arith in
    let c = made_cells old start name n e m in
    let s = made_room old start name n e m in
    let fc = f.cells in
    let fr = f.room in
    (omega (arith, p, c, fc, few), omega (arith, p, s, fr, room))

some_write : (mid : Heap) (name j n part : ℕ) (e : Kind) (new : Heap) → IsArrayThere mid name e n → IsSomeAnd (get mid name) (λ o. new ≡ with_slot mid name o j (Ref part))
    → (o : Obj) × (get mid name ≡ Some o) × (o.kind ≡ array_of e) × (length o.slots ≡ n) × (new ≡ with_slot mid name o j (Ref part))
some_write mid name j n part e new a w = go (get mid name) refl a w
  where
    go : (g : Option Obj) → get mid name ≡ g → IsSomeAnd g (λ o. (o.kind ≡ array_of e) × (length o.slots ≡ n)) → IsSomeAnd g (λ o. new ≡ with_slot mid name o j (Ref part))
        → (o : Obj) × (get mid name ≡ Some o) × (o.kind ≡ array_of e) × (length o.slots ≡ n) × (new ≡ with_slot mid name o j (Ref part))
    go None q a w = absurd a
    go (Some o) q a w = (o, q, a.0, a.1, w)

pub array_stays : (h j : Heap) (name n : ℕ) (e : Kind) → HasAll h j → IsArrayThere h name e n → IsArrayThere j name e n
array_stays h j name n e all a = go (get h name) refl a
  where
    go : (g : Option Obj) → get h name ≡ g → IsSomeAnd g (λ o. (o.kind ≡ array_of e) × (length o.slots ≡ n)) → IsArrayThere j name e n
    go None q a = absurd a
    go (Some o) q a = subst (λ g. IsSomeAnd g (λ o. (o.kind ≡ array_of e) × (length o.slots ≡ n))) (sym (all name o q)) a

-- an array of arrays can hold a reference
pub array_keeps : (h : Heap) (name n part : ℕ) (e : Kind) → 0 < e.dims → IsArrayThere h name e n → IsSomeAnd (get h name) (λ o. Keeps o.kind (Ref part))
array_keeps h name n part e l a =
    some_map (get h name) (λ o. (o.kind ≡ array_of e) × (length o.slots ≡ n)) (λ o. Keeps o.kind (Ref part)) a
    (λ o a. let d : suc e.dims ≡ e.dims + 1 = omega arith in
    subst (λ k. Keeps k (Ref part)) (sym a.0) (subst (λ d. Keeps (record e { dims = d }) (Ref part)) d (by e.dims l)))
  where
    above : (d : ℕ) → nat_lt 0 (suc d) ≡ true
    above d = search rules

    by : (d : ℕ) → 0 < d → IsOfKind (record e { dims = d }) (Ref part)
    by zero l = absurd (omega arith)
    by (suc d) l = subst (λ b. MatchBool (b || is_some (class_in e.base)) (Unit {0}) (IsOfBase e.base (Ref part))) (sym (above d)) tt

filling_next : (old start now mid : Contents) (new : Heap) (e : Kind) (ns : List ℕ) (name n j part : ℕ) → Filling old start now e ns name n (suc j)
    → ((ls vs : List Value) → Leads (nested e ns) (view now.objects ls vs) (view mid.objects ls (Ref part ∷ vs)))
    → cells mid.objects ≡ cells now.objects + nest_cells ns → now.spare ≤ mid.spare + nest_cells ns → HasAll now.objects mid.objects → get old.objects name ≡ None
    → IsSomeAnd (get mid.objects name) (λ o. new ≡ with_slot mid.objects name o j (Ref part))
    → Filling old start (record mid { objects = new }) e ns name n j
filling_next old start now mid new e ns name n j part f made c s all fresh written =
    let g = nest_cells ns in
    let w = some_write mid.objects name j n part e new (array_stays now.objects mid.objects name n e all f.array) written in
    let o = w.0 in
    let changed : Obj = record o { slots = slice_set o.slots j (Ref part) } in
    let len : length (slice_set o.slots j (Ref part)) ≡ length o.slots = length-set o.slots j (Ref part) in
    let in_range : j < length o.slots = let l = f.within in let q = w.3 in omega (arith, l, q) in
    let same : cells new ≡ cells mid.objects = ap cells w.4 ∙ cells_write mid.objects name o changed w.1 len in
    let p : suc j * g ≡ g + j * g = omega arith in
    let fc = f.cells in
    let fr = f.room in
    record {
      leads = λ k ls vs en u r. f.leads k ls vs en u
          (made ls (Ref name ∷ Ref name ∷ vs) (WriteSlot j (fill j (nested e ns) k)) en u
          (subst (λ x. IsSomeAnd x (λ o. IsIn j o.slots × Runs (fill j (nested e ns) k) (view (with_slot mid.objects name o j (Ref part)) ls (Ref name ∷ vs)) en u)) (sym w.1)
          (in_range, subst (λ h. Runs (fill j (nested e ns) k) (view h ls (Ref name ∷ vs)) en u) w.4 r)));
      array = subst (λ g. IsSomeAnd g (λ o. (o.kind ≡ array_of e) × (length o.slots ≡ n))) (sym (ap (λ h. get h name) w.4 ∙ get_same mid.objects name changed)) (w.2, len ∙ w.3);
      within = let l = f.within in omega (arith, l);
      cells = omega (arith, same, p, fc, c);
      room = omega (arith, p, fr, s);
      kept = λ a x q. subst (λ h. get h a ≡ Some x) (sym w.4) (get_other mid.objects name a changed (λ s. none_some (sym fresh ∙ ap (get old.objects) (sym s) ∙ q)) ∙ all a x (f.kept a x q));
    }

pub filling_more : (old start now mid new : Contents) (e : Kind) (ns : List ℕ) (name n left part : ℕ) → Filling old start now e ns name n left → 0 < left
    → ((ls vs : List Value) → Leads (nested e ns) (view now.objects ls vs) (view mid.objects ls (Ref part ∷ vs)))
    → cells mid.objects ≡ cells now.objects + nest_cells ns → now.spare ≤ mid.spare + nest_cells ns → HasAll now.objects mid.objects → get old.objects name ≡ None
    → IsSomeAnd (get mid.objects name) (λ o. new ≡ record mid { objects = with_slot mid.objects name o (left - 1) (Ref part) })
    → Filling old start new e ns name n (left - 1)
filling_more old start now mid new e ns name n zero part f l made c s all fresh written = absurd (omega arith)
filling_more old start now mid new e ns name n (suc j) part f l made c s all fresh written =
    let q : suc j - 1 ≡ j = omega arith in
    let w = subst (λ i. IsSomeAnd (get mid.objects name) (λ o. new ≡ record mid { objects = with_slot mid.objects name o i (Ref part) })) q written in
    subst (λ i. Filling old start new e ns name n i) (sym q)
    (subst (λ h. Filling old start h e ns name n j) (whole (get mid.objects name) w)
    (filling_next old start now mid new.objects e ns name n j part f made c s all fresh (part_of (get mid.objects name) w)))
  where
    whole : (g : Option Obj) → IsSomeAnd g (λ o. new ≡ record mid { objects = with_slot mid.objects name o j (Ref part) }) → record mid { objects = new.objects } ≡ new
    whole None w = absurd w
    whole (Some o) w = ap (λ (c : Contents). record mid { objects = c.objects }) w ∙ sym w

    part_of : (g : Option Obj) → IsSomeAnd g (λ o. new ≡ record mid { objects = with_slot mid.objects name o j (Ref part) }) → IsSomeAnd g (λ o. new.objects ≡ with_slot mid.objects name o j (Ref part))
    part_of None w = absurd w
    part_of (Some o) w = ap (λ (c : Contents). c.objects) w

-- ---- the cells of the whole

pub flat_cells : (n : ℕ) (ns : List ℕ) (old new : Contents) (name : ℕ) (e : Kind) → length ns ≡ 0 → HasMade old new name (array_with e n) → cells new.objects ≡ cells old.objects + nest_cells (n ∷ ns)
flat_cells n [] old new name e l m =
    let c = made_cells old new name n e m in
    let z : n * 0 ≡ 0 = omega arith in
    omega (arith, c, z)
flat_cells n (x ∷ ns) old new name e l m = absurd (omega (arith, l))

pub deep_cells : (n left : ℕ) (ns : List ℕ) (old start now : Contents) (name : ℕ) (e : Kind) → HasMade old start name (array_with e n) → Filling old start now e ns name n left → left ≡ 0
    → cells now.objects ≡ cells old.objects + nest_cells (n ∷ ns)
deep_cells n left ns old start now name e m f z =
    let c = made_cells old start name n e m in
    let x = ap (λ i. i * nest_cells ns) z in
    let fc = f.cells in
    omega (arith, c, x, fc)
