-- The entries of the program that classes make, by their places; and that the program is, without what linking finds, the
-- outline.
use Rattle.std.proofs.Common.{◌≡◌, ℕ, ◌+◌, ◌<◌, List, [], ◌∷◌, ◌++◌, length, map, take, refl, sym, ap, ◌∙◌, arith, length-append}
use Rattle.std.specs.Prelude.{All, Option, Some, None, slice_get}
use Rattle.std.specs.Option.{option_map, option_map_or}
use Rattle.std.proofs.lemmas.List.{length-map}
use Rattle.std.proofs.lemmas.Option.{slice_get-map, slice_get_within}
use Rattle.nr_prog.specs.declared.body.loaded.Loaded.{Loaded}
use Rattle.nr_prog.specs.declared.body.whole.Body.{Body}
use Rattle.nr_prog.specs.declared.member.Method.{Method}
use Rattle.nr_prog.specs.declared.parts.ClassParts.{ClassParts}
use Rattle.nr_linked.specs.declared.program.tables.ClassInfo.{ClassInfo}
use Rattle.nr_linked.specs.declared.program.tables.MethodInfo.{MethodInfo}
use Rattle.nr_linked.specs.declared.program.tables.ProgramTables.{ProgramTables}
use Rattle.nr_linked.specs.BuiltIns.{built_in_class, built_in_count}
use Rattle.nr_linked.specs.BuiltInTables.{built_in_info, built_in_infos, built_in_method, built_in_methods}
use Rattle.nr_linked.specs.Linked.{built_in_method_count, first_built_in, first_built_in_method}
use Rattle.nr_linked.specs.Programs.{class_at, method_at}
use Rattle.nr_links.specs.Entries.{method_count}
use Rattle.nr_links.specs.Links.{IsDecoded}
use Rattle.nr_linked.proofs.Elements.{get_below, get_dropped}
use Rattle.nr_linkrules.specs.Completion.{completed, linked_program}
use Rattle.nr_linkrules.specs.Layout.{laid_class, laid_out, numbered, slots_in, supers_in}
use Rattle.nr_linkrules.specs.Outline.{bare_class, bare_method, names_of, outline, outline_class, outline_classes, outline_method, outline_methods}
use Rattle.nr_linkrules.proofs.LaidOut.{numbered_at}
use Rattle.nr_linkrules.proofs.Outlined as classes_of
use Rattle.nr_linkrules.proofs.Outlined.{bare_built_in, bare_built_ins, bare_loaded}
use Rattle.nr_linkrules.proofs.OutlinedMethods as methods_of
use Rattle.nr_linkrules.proofs.Parts.{get_back, get_front, map_parts, map_twice}

-- ---- laid out

-- laying out changes what stands above and slots alone
bare_laid : (O : ProgramTables) (c : ℕ) (e : ClassInfo) → bare_class (laid_class O c e) ≡ bare_class e
bare_laid O c e = of_read e.read refl
  where
    of_read : (o : Option ClassParts) → e.read ≡ o → bare_class (laid_class O c e) ≡ bare_class e
    of_read None r = ap bare_class (ap (λ o. option_map_or (λ (parts : ClassParts). record e { supers = supers_in O c; slots = slots_in O c }) o e) r)
    of_read (Some parts) r =
        ap bare_class (ap (λ o. option_map_or (λ (parts : ClassParts). record e { supers = supers_in O c; slots = slots_in O c }) o e) r)
        ∙ bare_loaded (record e { supers = supers_in O c; slots = slots_in O c }) parts r ∙ sym (bare_loaded e parts r)

bare_numbered : (O : ProgramTables) (c : ℕ) (es : List ClassInfo) → map bare_class (numbered (laid_class O) c es) ≡ map bare_class es
unfolding numbered
bare_numbered O c [] = refl
bare_numbered O c (e ∷ es) = λ i. bare_laid O c e i ∷ bare_numbered O (c + 1) es i

numbered_length : {X Y : Type 0} (f : ℕ → X → Y) (n : ℕ) (xs : List X) → length (numbered f n xs) ≡ length xs
unfolding numbered
numbered_length f n [] = refl
numbered_length f n (x ∷ xs) = let rest = numbered_length f (n + 1) xs in omega (arith, rest)

-- ---- the outline is bare

bare_outline : (names : List (List ℕ)) (first : ℕ) (classes : List Loaded) → map bare_class (outline_classes names first classes) ≡ outline_classes names first classes
unfolding outline_classes outline_class
bare_outline names first [] = refl
bare_outline names first (l ∷ ls) = λ i. bare_loaded (outline_class names first l.«class») l.«class» refl i ∷ bare_outline names (first + length l.«class».methods) ls i

bare_completed : (L : ProgramTables) (i : MethodInfo) → bare_method (completed L i) ≡ bare_method i
unfolding bare_method completed
bare_completed L i = refl

pub infos_length : (a m : ℕ) → length (built_in_infos a m) ≡ built_in_count
unfolding built_in_infos
infos_length a m = refl

pub methods_length : (a : ℕ) → length (built_in_methods a) ≡ built_in_method_count
unfolding built_in_methods built_in_class
methods_length a = refl

module _ (classes : List Loaded) where
  abbrev pub O : ProgramTables
  O = outline classes

  abbrev pub L : ProgramTables
  L = laid_out (outline classes)

  abbrev pub P : ProgramTables
  P = linked_program classes

  pub classes_laid : P.classes ≡ L.classes
  unfolding linked_program
  classes_laid = refl

  laid : P.classes ≡ numbered (laid_class O) 0 O.classes
  unfolding linked_program laid_out
  laid = refl

  outlined : O.classes ≡ outline_classes (names_of classes) 0 classes ++ built_in_infos (length classes) (method_count classes)
  unfolding outline
  outlined = refl

  pub bare_classes : map bare_class P.classes ≡ O.classes
  bare_classes =
      ap (map bare_class) laid ∙ bare_numbered O 0 O.classes ∙ ap (map bare_class) outlined
      ∙ map_parts bare_class (outline_classes (names_of classes) 0 classes) (built_in_infos (length classes) (method_count classes))
      ∙ (λ i. bare_outline (names_of classes) 0 classes i ++ bare_built_ins (length classes) (method_count classes) i) ∙ sym outlined

  pub class_count : length P.classes ≡ length classes + built_in_count
  class_count =
      ap length laid ∙ numbered_length (laid_class O) 0 O.classes ∙ ap length outlined
      ∙ length-append (outline_classes (names_of classes) 0 classes) (built_in_infos (length classes) (method_count classes))
      ∙ (λ i. classes_of.outlined_length (names_of classes) 0 classes i + infos_length (length classes) (method_count classes) i)

  pub first_class : first_built_in P ≡ length classes
  first_class = omega (arith, class_count)

  -- the entry of the class that was loaded at place k
  abbrev pub entry_of : ℕ → Loaded → ClassInfo
  entry_of k l = record (outline_class (names_of classes) (method_count (take k classes)) l.«class») { supers = supers_in O k; slots = slots_in O k }

  pub class_at_loaded : (k : ℕ) (l : Loaded) → slice_get classes k ≡ Some l → class_at P k ≡ Some (entry_of k l)
  unfolding outline_class
  class_at_loaded k l at =
      let w = slice_get_within classes k l at in
      let long = classes_of.outlined_length (names_of classes) 0 classes in
      let zero_more : 0 + k ≡ k = omega arith in
      let first : 0 + method_count (take k classes) ≡ method_count (take k classes) = omega arith in
      ap (λ es. slice_get es k) laid ∙ numbered_at (laid_class O) 0 O.classes k
      ∙ (λ i. option_map (laid_class O (zero_more i)) (slice_get (outlined i) k))
      ∙ ap (option_map (laid_class O k)) (get_front (outline_classes (names_of classes) 0 classes) _ k (omega (arith, w, long)) ∙ classes_of.outlined_at (names_of classes) 0 classes k l at)
      ∙ ap (λ n. Some (laid_class O k (outline_class (names_of classes) n l.«class»))) first

  -- a built-in class stands there as it is
  unread : (a m j : ℕ) (e : ClassInfo) → slice_get (built_in_infos a m) j ≡ Some e → e.read ≡ None
  unfolding built_in_infos built_in_info
  unread a m j e at = let r = Rattle.nr_linked.proofs.Elements.get_mapped (built_in_info a m) Rattle.nr_linked.specs.BuiltInTables.built_ins j e at in ap (λ (e : ClassInfo). e.read) r.2

  laid_built_in : (c a m j : ℕ) (o : Option ClassInfo) → slice_get (built_in_infos a m) j ≡ o → option_map (laid_class O c) o ≡ o
  laid_built_in c a m j None at = refl
  laid_built_in c a m j (Some e) at = ap (λ e. Some e) (ap (λ o. option_map_or (λ (parts : ClassParts). record e { supers = supers_in O c; slots = slots_in O c }) o e) (unread a m j e at))

  pub class_at_built_in : (j : ℕ) → class_at P (length classes + j) ≡ slice_get (built_in_infos (length classes) (method_count classes)) j
  class_at_built_in j =
      let long = classes_of.outlined_length (names_of classes) 0 classes in
      ap (λ es. slice_get es (length classes + j)) laid ∙ numbered_at (laid_class O) 0 O.classes (length classes + j)
      ∙ ap (option_map (laid_class O (0 + (length classes + j)))) (ap (λ es. slice_get es (length classes + j)) outlined ∙ ap (λ n. slice_get (outline_classes (names_of classes) 0 classes ++ built_in_infos (length classes) (method_count classes)) (n + j)) (sym long)
      ∙ get_back (outline_classes (names_of classes) 0 classes) (built_in_infos (length classes) (method_count classes)) j)
      ∙ laid_built_in (0 + (length classes + j)) (length classes) (method_count classes) j (slice_get (built_in_infos (length classes) (method_count classes)) j) refl

  -- ---- methods

  made : P.methods ≡ map (completed L) (outline_methods 0 classes) ++ built_in_methods (length classes)
  unfolding linked_program
  made = refl

  pub laid_methods : L.methods ≡ outline_methods 0 classes ++ built_in_methods (length classes)
  unfolding laid_out outline
  laid_methods = refl

  outlined_methods : O.methods ≡ outline_methods 0 classes ++ built_in_methods (length classes)
  unfolding outline
  outlined_methods = refl

  pub bare_methods : map bare_method P.methods ≡ map bare_method O.methods
  bare_methods =
      ap (map bare_method) made ∙ map_parts bare_method (map (completed L) (outline_methods 0 classes)) (built_in_methods (length classes))
      ∙ ap (λ is. is ++ map bare_method (built_in_methods (length classes))) (map_twice (completed L) bare_method bare_method (bare_completed L) (outline_methods 0 classes))
      ∙ sym (ap (map bare_method) outlined_methods ∙ map_parts bare_method (outline_methods 0 classes) (built_in_methods (length classes)))

  module _ (all : All IsDecoded classes) where
    made_length : length (map (completed L) (outline_methods 0 classes)) ≡ method_count classes
    made_length = length-map (outline_methods 0 classes) (completed L) ∙ methods_of.outlined_length 0 classes all

    pub all_methods : length P.methods ≡ method_count classes + built_in_method_count
    all_methods =
        ap length made ∙ length-append (map (completed L) (outline_methods 0 classes)) (built_in_methods (length classes))
        ∙ (λ i. made_length i + methods_length (length classes) i)

    pub first_method : first_built_in_method P ≡ method_count classes
    first_method = omega (arith, all_methods)

    pub method_at_built_in : (j : ℕ) → method_at P (method_count classes + j) ≡ slice_get (built_in_methods (length classes)) j
    method_at_built_in j =
        ap (λ is. slice_get is (method_count classes + j)) made
        ∙ ap (λ n. slice_get (map (completed L) (outline_methods 0 classes) ++ built_in_methods (length classes)) (n + j)) (sym made_length)
        ∙ get_back (map (completed L) (outline_methods 0 classes)) (built_in_methods (length classes)) j

    -- the method at a place of a class that was loaded, as the outline has it, and as the program has it
    abbrev pub outlined_method : ℕ → Loaded → Method → Option Body → MethodInfo
    outlined_method own l m decoded = outline_method own l.«class».pool (m, decoded)

    module _ (own : ℕ) (l : Loaded) (place : ℕ) (m : Method) (decoded : Option Body) (at : slice_get classes own ≡ Some l) (declares : slice_get l.«class».methods place ≡ Some m) (decodes : slice_get l.bodies place ≡ Some decoded) where
      there : slice_get (outline_methods 0 classes) (method_count (take own classes) + place) ≡ Some (outlined_method own l m decoded)
      there = let e : 0 + own ≡ own = omega arith in
          methods_of.outlined_at 0 classes all own l place m decoded at declares decodes ∙ ap (λ n. Some (outlined_method n l m decoded)) e

      within : method_count (take own classes) + place < length (outline_methods 0 classes)
      within = slice_get_within (outline_methods 0 classes) (method_count (take own classes) + place) (outlined_method own l m decoded) there

      pub laid_at : method_at L (method_count (take own classes) + place) ≡ Some (outlined_method own l m decoded)
      laid_at = ap (λ is. slice_get is (method_count (take own classes) + place)) laid_methods ∙ get_front (outline_methods 0 classes) (built_in_methods (length classes)) _ within ∙ there

      pub method_at_loaded : method_at P (method_count (take own classes) + place) ≡ Some (completed L (outlined_method own l m decoded))
      method_at_loaded =
          let long = length-map (outline_methods 0 classes) (completed L) in
          ap (λ is. slice_get is (method_count (take own classes) + place)) made
          ∙ get_front (map (completed L) (outline_methods 0 classes)) (built_in_methods (length classes)) (method_count (take own classes) + place) (omega (arith, within, long))
          ∙ slice_get-map (completed L) (outline_methods 0 classes) (method_count (take own classes) + place) ∙ ap (option_map (completed L)) there
