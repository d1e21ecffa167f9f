-- The outline of some classes, laid out, is ready for the search for members.
use Rattle.std.proofs.Common.{◌≡◌, ℕ, zero, suc, ◌+◌, ◌*◌, ◌<◌, ◌≤◌, ◌^◌, Bool, true, false, not, cond, List, [], ◌∷◌, ◌++◌, length, map, reverse, inl, inr, refl, sym, ap, subst, ◌∙◌, arith, length-append}
use Rattle.std.specs.Prelude.{All, Option, Some, None, IsTrue, slice_get}
use Rattle.std.specs.Borrow.{Bor}
use Rattle.std.specs.List.{filter, flat_map, list_any, range_with_len}
use Rattle.std.specs.Option.{option_and_then, option_map, option_map_or, option_to_list}
use Rattle.std.proofs.lemmas.List.{length-map, length-reverse}
use Rattle.std.proofs.lemmas.List.Elements.{All-append, All-cons, All-nil}
use Rattle.std.proofs.Math.Nat.{suc-mul}
use Rattle.std.proofs.lemmas.Option.{get_or_from_slice_get, same_Some, slice_get_within}
use Rattle.nr_prog.specs.declared.body.loaded.Loaded.{Loaded}
use Rattle.nr_prog.specs.declared.member.Field.{Field}
use Rattle.nr_prog.specs.declared.parts.ClassParts.{ClassParts}
use Rattle.nr_prog.specs.Members.{is_static}
use Rattle.nr_linked.specs.declared.program.built_in.BuiltIn.{BuiltIn}
use Rattle.nr_linked.specs.declared.program.tables.ClassInfo.{ClassInfo}
use Rattle.nr_linked.specs.declared.program.tables.MethodInfo.{MethodInfo}
use Rattle.nr_linked.specs.declared.program.tables.ProgramTables.{ProgramTables}
use Rattle.nr_linked.specs.BuiltIns.{BuiltInMethod, built_in_class, built_in_count, number}
use Rattle.nr_linked.specs.BuiltInTables.{built_in_info, built_in_infos, built_in_method, built_in_methods, built_ins}
use Rattle.nr_linked.specs.Linked.{built_in_method_count}
use Rattle.nr_linked.specs.Programs.{class_at, super_of, superclasses, upward}
use Rattle.nr_linked.specs.Slots.{slots_of}
use Rattle.nr_links.specs.Entries.{method_count}
use Rattle.nr_links.specs.Links.{IsDecoded}
use Rattle.nr_linked.proofs.Elements.{get_either, get_mapped}
use Rattle.nr_links.proofs.OneNames.{same_functions}
use Rattle.nr_linkrules.specs.Layout.{laid_class, laid_out, numbered, slot_of, slots_declared, slots_in, slots_read, supers_in}
use Rattle.nr_linkrules.specs.Outline.{bare_class, names_of, outline, outline_class, outline_classes, outline_methods}
use Rattle.nr_linkrules.specs.Reaches.{HasSteps, reaches, row_of, rows_of}
use Rattle.nr_linkrules.specs.Readable.{IsReadable}
use Rattle.nr_linkrules.proofs.Alike.{bare_says, count, entry, reached, steps}
use Rattle.nr_linkrules.proofs.LaidOut.{numbered_at}
use Rattle.nr_linkrules.proofs.OutlinedMethods.{outlined_length}
use Rattle.nr_linkrules.proofs.Parts.{map_twice}
use Rattle.nr_linkrules.proofs.Program.{bare_classes, classes_laid, laid_methods, methods_length}
use Rattle.nr_link.specs.Coded.{IsCoded, read_class}
use Rattle.nr_link.specs.Ready.{IsReady}
use Rattle.nr_names.specs.Numbers.{texts}
use Rattle.nr_link.proofs.Codes.{all_coded}
use Rattle.nr_link.proofs.Steps as outlines
use Rattle.indexmap.specs.IndexSet.{IndexSet}

-- ---- how many

few_each : {X Y : Type 0} (f : X → List Y) (b : ℕ) (xs : List X) → ((k : ℕ) (x : X) → slice_get xs k ≡ Some x → length (f x) ≤ b) → length (flat_map f xs) ≤ length xs * b
few_each f b [] few = omega arith
few_each f b (x ∷ xs) few =
    let rest = few_each f b xs (λ k. few (suc k)) in
    let here = few 0 x refl in
    let sum = length-append (f x) (flat_map f xs) in
    let product = suc-mul (length xs) b in
    omega (arith, rest, here, sum, product)

few_kept : {X : Type 0} (p : X → Bool) (xs : List X) → length (filter p xs) ≤ length xs
few_kept p [] = omega arith
few_kept p (x ∷ xs) = by_test (p x) (few_kept p xs)
  where
    by_test : (b : Bool) → length (filter p xs) ≤ length xs → length (cond b (x ∷ filter p xs) (filter p xs)) ≤ length (x ∷ xs)
    by_test true le = omega (arith, le)
    by_test false le = omega (arith, le)

one_each : {X : Type 0} (o : Option X) → length (option_to_list o) ≤ 1
one_each None = omega arith
one_each (Some x) = omega arith

few_upward : (P : ProgramTables) (k : ℕ) (o : Option ℕ) → length (upward P k o) ≤ k
few_upward P zero o = omega arith
few_upward P (suc k) None = omega arith
few_upward P (suc k) (Some c) = let rest = few_upward P k (super_of P c) in omega (arith, rest)

-- ---- entries of an outline

record Bare (e : ClassInfo) : Type 0 where
  slots : e.slots ≡ []
  few : (parts : ClassParts) → e.read ≡ Some parts → length parts.fields ≤ 65536

loaded_bare : (names : List (List ℕ)) (first : ℕ) (ls : List Loaded) → All IsReadable ls → (k : ℕ) (e : ClassInfo) → slice_get (outline_classes names first ls) k ≡ Some e → Bare e
unfolding outline_classes outline_class
loaded_bare names first [] all k e at = absurd cc
loaded_bare names first (l ∷ ls) all zero e at =
    subst Bare (same_Some (outline_class names first l.«class») e at) (record {
      slots = refl;
      few = λ parts is. let few = (all 0 l (omega arith)).few_fields in
          subst (λ (c : ClassParts). length c.fields ≤ 65536) (same_Some l.«class» parts is) (omega (arith, few));
    })
loaded_bare names first (l ∷ ls) all (suc k) e at =
    loaded_bare names (first + length l.«class».methods) ls (λ k d lt. all (suc k) d (omega (arith, lt))) k e at

built_in_bare : (first m k : ℕ) (e : ClassInfo) → slice_get (built_in_infos first m) k ≡ Some e → Bare e
unfolding built_in_infos built_in_info
built_in_bare first m k e at =
    let r = get_mapped (built_in_info first m) built_ins k e at in
    subst Bare (sym r.2) (record { slots = refl; few = λ parts is. absurd cc })

module _ (classes : List Loaded) (all : All IsReadable classes) (few_loaded : length classes ≤ 1024) where
  abbrev O : ProgramTables
  O = outline classes

  abbrev L : ProgramTables
  L = laid_out (outline classes)

  bare_at : (k : ℕ) (e : ClassInfo) → class_at O k ≡ Some e → Bare e
  unfolding outline
  bare_at k e at = elim (get_either (outline_classes (names_of classes) 0 classes) (built_in_infos (length classes) (method_count classes)) k e at) [
    | inl h ↦ loaded_bare (names_of classes) 0 classes all k e h
    | inr h ↦ built_in_bare (length classes) (method_count classes) h.0 e h.2
  ]

  same : map bare_class L.classes ≡ O.classes
  same = ap (map bare_class) (sym (classes_laid classes)) ∙ bare_classes classes

  class_count : length L.classes ≡ length classes + built_in_count
  class_count = sym (count L O same) ∙ outlines.entry_count classes

  -- ---- names, and what stands above

  pub laid_names : map (λ (e : ClassInfo). e.name) L.classes ≡ names_of classes
  laid_names =
      sym (map_twice bare_class (λ (e : ClassInfo). e.name) (λ (e : ClassInfo). e.name) (bare_says (λ (e : ClassInfo). e.name) (λ e. refl)) L.classes)
      ∙ ap (map (λ (e : ClassInfo). e.name)) same ∙ outlines.names_are classes

  row_same : (c : ℕ) → row_of O (length O.classes) c ≡ row_of L (length L.classes) c
  unfolding row_of
  row_same c = λ i. map (same_functions (reaches O c) (reaches L c) (reached L O same c) i) (range_with_len 0 (count L O same i))

  pub rows_same : rows_of O (length O.classes) ≡ rows_of L (length L.classes)
  unfolding rows_of
  rows_same = λ i. map (same_functions (row_of O (length O.classes)) (row_of L (length L.classes)) row_same i) (range_with_len 0 (count L O same i))

  laid_steps : HasSteps L
  laid_steps c s h =
      subst (λ n. s < n) (count L O same)
      (outlines.has_steps classes c s (subst (λ ss. IsTrue (list_any (λ t. Rattle.std.specs.Prelude.◌==◌ t s) ss)) (sym (steps L O same c)) h))

  -- ---- slots

  few_read : (c : ℕ) (parts : ClassParts) → length parts.fields ≤ 65536 → length (slots_read O c parts) ≤ 65536
  unfolding slots_read
  few_read c parts le =
      let kept = filter (λ (f : Field). not (is_static f.flags)) parts.fields in
      let each = few_each (λ (f : Field). option_to_list (slot_of O c parts.pool f)) 1 kept (λ k f at. one_each (slot_of O c parts.pool f)) in
      let few = few_kept (λ (f : Field). not (is_static f.flags)) parts.fields in
      omega (arith, each, few, le)

  few_declared : (d : ℕ) → length (slots_declared O d) ≤ 65536
  few_declared d = of_entry (class_at O d) refl
    where
      of_read : (e : ClassInfo) → Bare e → (o : Option ClassParts) → e.read ≡ o → length (option_map_or (slots_read O d) o []) ≤ 65536
      of_read e bare None is = omega arith
      of_read e bare (Some parts) is = few_read d parts (bare.few parts is)

      of_entry : (o : Option ClassInfo) → class_at O d ≡ o → length (option_map_or (λ (e : ClassInfo). option_map_or (slots_read O d) e.read []) o []) ≤ 65536
      of_entry None is = omega arith
      of_entry (Some e) is = of_read e (bare_at d e is) e.read refl

  few_in : (c : ℕ) → length (slots_in O c) < 2 ^ 32
  unfolding slots_in
  few_in c =
      let each = few_each (slots_declared O) 65536 (reverse (superclasses O c)) (λ k d at. few_declared d) in
      let same_length = length-reverse (superclasses O c) in
      let up = few_upward O (length O.classes) (Some c) in
      let total = outlines.entry_count classes in
      let bound : length (reverse (superclasses O c)) ≤ 1024 + built_in_count = omega (arith, same_length, up, total, few_loaded) in
      omega (arith, each, bound)

  few_slots : (c : ℕ) → length (slots_of L c) < 2 ^ 32
  unfolding laid_out
  few_slots c =
      subst (λ o. length (option_map_or (λ (e : ClassInfo). e.slots) o []) < 2 ^ 32) (sym (numbered_at (laid_class O) 0 O.classes c)) (of_entry (class_at O c) refl)
    where
      of_read : (e : ClassInfo) → Bare e → (o : Option ClassParts) → length (option_map_or (λ (parts : ClassParts). record e { supers = supers_in O (0 + c); slots = slots_in O (0 + c) }) o e).slots < 2 ^ 32
      of_read e bare None = subst (λ ss. length ss < 2 ^ 32) (sym bare.slots) (omega arith)
      of_read e bare (Some parts) = few_in (0 + c)

      of_entry : (o : Option ClassInfo) → class_at O c ≡ o → length (option_map_or (λ (e : ClassInfo). e.slots) (option_map (laid_class O (0 + c)) o) []) < 2 ^ 32
      of_entry None is = omega arith
      of_entry (Some e) is = of_read e (bare_at c e is) e.read

  -- ---- methods

  decoded : All IsDecoded classes
  decoded k d lt = (all k d lt).decoded

  few_methods : method_count classes ≤ 1024 * 65536
  few_methods =
      let each = few_each (λ (l : Loaded). l.«class».methods) 65536 classes (λ k l at.
      let short = slice_get_within classes k l at in
      let here = subst IsReadable (get_or_from_slice_get classes k l l at) (all k l short) in
      let bound = here.decoded.bounds.methods in omega (arith, bound)) in
      omega (arith, each, few_loaded)

  pub method_total : length L.methods ≡ method_count classes + built_in_method_count
  method_total =
      ap length (laid_methods classes) ∙ length-append (outline_methods 0 classes) (built_in_methods (length classes))
      ∙ (λ i. outlined_length 0 classes decoded i + methods_length (length classes) i)

  -- ---- the whole

  pub ready : {S : Type 0} (names : IndexSet (Bor (List ℕ)) S) (rows : List (List Bool)) → texts names ≡ names_of classes → rows ≡ rows_of O (length O.classes) → IsReady L names rows
  ready names rows texts_are rows_are = record {
    named = texts_are ∙ sym laid_names;
    closed = rows_are ∙ rows_same;
    steps = laid_steps;
    few_classes = omega (arith, class_count, few_loaded);
    few_methods = omega (arith, method_total, few_methods);
    few_slots = few_slots;
  }

  -- ---- code

  read_there : (k : ℕ) (l : Loaded) → slice_get classes k ≡ Some l → read_class L (0 + k) ≡ Some l.«class»
  unfolding outline_class
  read_there k l at =
      let zero_more : 0 + k ≡ k = omega arith in
      ap (λ n. read_class L n) zero_more
      ∙ ap (option_and_then (λ (e : ClassInfo). e.read)) (ap (λ (es : List ClassInfo). slice_get es k) (sym (classes_laid classes)) ∙ Rattle.nr_linkrules.proofs.Program.class_at_loaded classes k l at)

  built_in_coded : (first : ℕ) (bs : List BuiltIn) → All (IsCoded L) (flat_map (λ b. map (built_in_method (first + number b)) (built_in_class b).methods) bs)
  unfolding built_in_method
  built_in_coded first [] = All-nil (IsCoded L)
  built_in_coded first (b ∷ bs) =
      All-append (IsCoded L) (map (built_in_method (first + number b)) (built_in_class b).methods) (flat_map (λ b. map (built_in_method (first + number b)) (built_in_class b).methods) bs)
      (each (built_in_class b).methods) (built_in_coded first bs)
    where
      each : (ms : List BuiltInMethod) → All (IsCoded L) (map (built_in_method (first + number b)) ms)
      each [] = All-nil (IsCoded L)
      each (m ∷ ms) = All-cons (IsCoded L) (built_in_method (first + number b) m) (map (built_in_method (first + number b)) ms) tt (each ms)

  pub coded : All (IsCoded L) L.methods
  unfolding built_in_methods
  coded =
      subst (All (IsCoded L)) (sym (laid_methods classes))
      (All-append (IsCoded L) (outline_methods 0 classes) (built_in_methods (length classes)) (all_coded L 0 classes decoded read_there) (built_in_coded (length classes) built_ins))
