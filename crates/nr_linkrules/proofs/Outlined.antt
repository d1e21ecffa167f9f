-- The tables that classes link to are, without what linking finds, the outline of the classes.
use Rattle.std.proofs.Common.{◌≡◌, ℕ, zero, suc, ◌+◌, ◌<◌, true, List, [], ◌∷◌, ◌++◌, length, map, take, drop, refl, sym, ap, subst, ◌∙◌, arith, length-append}
use Rattle.std.specs.Prelude.{Option, Some, None, IsTrue, slice_get}
use Rattle.std.specs.List.{flat_map, list_all}
use Rattle.std.specs.Option.{option_and_then, option_map, option_map_or, option_to_list}
use Rattle.std.proofs.lemmas.Bool.{and_parts, lt-ltb, ltb-true}
use Rattle.std.proofs.lemmas.List.{length-map}
use Rattle.std.proofs.lemmas.Option.{same_Some, slice_get-map, slice_get_within}
use Rattle.nr_prog.specs.declared.body.loaded.Loaded.{Loaded}
use Rattle.nr_prog.specs.declared.parts.ClassParts.{ClassParts}
use Rattle.nr_prog.specs.declared.pool.PoolEntry.{PoolEntry}
use Rattle.nr_linked.specs.declared.program.tables.ClassInfo.{ClassInfo}
use Rattle.nr_linked.specs.declared.program.tables.ProgramTables.{ProgramTables}
use Rattle.nr_prog.specs.BodyNames.{class_text_at}
use Rattle.nr_prog.specs.Members.{has_flag}
use Rattle.nr_linked.specs.BuiltIns.{built_in_class}
use Rattle.nr_linked.specs.BuiltInTables.{built_in_info, built_in_infos, built_ins}
use Rattle.nr_linked.specs.KindTexts.{class_name}
use Rattle.nr_linked.specs.Linked.{first_built_in, first_built_in_method, is_class_in, is_super_in}
use Rattle.nr_linked.specs.Programs.{class_at, is_interface}
use Rattle.nr_links.specs.Entries.{method_count}
use Rattle.nr_links.specs.Links.{Links}
use Rattle.nr_links.proofs.Descriptors.{name_of}
use Rattle.nr_links.proofs.OneClass.{counted}
use Rattle.nr_linked.proofs.Elements.{get_below, get_dropped, passing}
use Rattle.nr_links.proofs.SlotFacts.{LoadedEntry, below_loaded, loaded_entry}
use Rattle.nr_linkrules.specs.Outline.{bare_class, class_number, names_of, number_in, outline, outline_class, outline_classes, own_name, own_names, some_text}
use Rattle.nr_linkrules.proofs.NameLaws.{known_by_texts}
use Rattle.nr_linkrules.proofs.Parts.{drop_map, two_parts}

-- ---- the entries of an outline

pub outlined_at : (names : List (List ℕ)) (first : ℕ) (classes : List Loaded) (k : ℕ) (l : Loaded) → slice_get classes k ≡ Some l
    → slice_get (outline_classes names first classes) k ≡ Some (outline_class names (first + method_count (take k classes)) l.«class»)
unfolding outline_classes
outlined_at names first [] k l at = absurd cc
outlined_at names first (m ∷ ls) zero l at =
    let e : first ≡ first + method_count (take zero (m ∷ ls)) = omega arith in
    let same = same_Some m l at in
    ap (λ (l : Loaded). Some (outline_class names first l.«class»)) same ∙ ap (λ n. Some (outline_class names n l.«class»)) e
outlined_at names first (m ∷ ls) (suc k) l at =
    let sum = length-append m.«class».methods (flat_map (λ (l : Loaded). l.«class».methods) (take k ls)) in
    let e : first + length m.«class».methods + method_count (take k ls) ≡ first + method_count (take (suc k) (m ∷ ls)) = omega (arith, sum) in
    outlined_at names (first + length m.«class».methods) ls k l at ∙ ap (λ n. Some (outline_class names n l.«class»)) e

pub outlined_length : (names : List (List ℕ)) (first : ℕ) (classes : List Loaded) → length (outline_classes names first classes) ≡ length classes
unfolding outline_classes
outlined_length names first [] = refl
outlined_length names first (l ∷ ls) = let rest = outlined_length names (first + length l.«class».methods) ls in omega (arith, rest)

pub built_in_names : (a m : ℕ) → map (λ (e : ClassInfo). e.name) (built_in_infos a m) ≡ map (λ b. (built_in_class b).name) built_ins
unfolding built_in_infos built_in_info
built_in_names a m = refl

pub bare_built_ins : (a m : ℕ) → map bare_class (built_in_infos a m) ≡ built_in_infos a m
unfolding bare_class built_in_infos built_in_info
bare_built_ins a m = refl

-- the entry of a class that was loaded, without what linking finds
pub bare_loaded : (e : ClassInfo) (parts : ClassParts) → e.read ≡ Some parts → bare_class e ≡ record e { supers = []; slots = [] }
unfolding bare_class
bare_loaded e parts r = ap (λ o. option_map_or (λ (parts : ClassParts). record e { supers = []; slots = [] }) o e) r

pub bare_built_in : (e : ClassInfo) → e.read ≡ None → bare_class e ≡ e
unfolding bare_class
bare_built_in e r = ap (λ o. option_map_or (λ (parts : ClassParts). record e { supers = []; slots = [] }) o e) r

module _ (classes : List Loaded) (P : ProgramTables) (links : Links classes P) where
  pub loaded_count : first_built_in P ≡ length classes
  loaded_count = omega (arith, links.class_count)

  pub first_method : first_built_in_method P ≡ method_count classes
  first_method = omega (arith, links.method_count)

  -- the classes behind those that were loaded
  built_in_part : drop (length classes) P.classes ≡ built_in_infos (length classes) (method_count classes)
  built_in_part = ap (λ n. drop n P.classes) (sym loaded_count) ∙ links.linked.built_ins ∙ ap (λ n. built_in_infos n (first_built_in_method P)) loaded_count ∙ ap (built_in_infos (length classes)) first_method

  -- the entry of a class that was loaded
  pub record At (k : ℕ) (l : Loaded) : Type 0 where
    pub e : ClassInfo
    pub is : class_at P k ≡ Some e
    pub entry : LoadedEntry classes P k e
    pub same : entry.l ≡ l

  pub at_loaded : (k : ℕ) (l : Loaded) → slice_get classes k ≡ Some l → At k l
  at_loaded k l at =
      let w = slice_get_within classes k l at in
      let e = get_below P.classes k (omega (arith, links.class_count, w)) in
      let entry = loaded_entry classes P links k e.0 e.1 (below_loaded classes P links k l at) in
      record { e = e.0; is = e.1; entry = entry; same = same_Some entry.l l (sym entry.at ∙ at) }

  -- ---- names

  pub own_name_is : (k : ℕ) (l : Loaded) (a : At k l) → a.e.name ≡ own_name l.«class»
  own_name_is k l a = ap some_text (sym a.entry.read_as.name) ∙ ap (λ (l : Loaded). own_name l.«class») a.same

  pub names_are : map (λ (e : ClassInfo). e.name) P.classes ≡ names_of classes
  names_are = two_parts (map (λ (e : ClassInfo). e.name) P.classes) (own_names classes) (map (λ b. (built_in_class b).name) built_ins)
      (λ k name at. front k name at)
      (ap (λ n. drop n (map (λ (e : ClassInfo). e.name) P.classes)) (length-map classes (λ (l : Loaded). own_name l.«class»)) ∙ drop_map (λ (e : ClassInfo). e.name) (length classes) P.classes
      ∙ ap (map (λ (e : ClassInfo). e.name)) built_in_part ∙ built_in_names (length classes) (method_count classes))
    where
      front : (k : ℕ) (name : List ℕ) → slice_get (own_names classes) k ≡ Some name → slice_get (map (λ (e : ClassInfo). e.name) P.classes) k ≡ Some name
      front k name at =
          let r = Rattle.nr_linked.proofs.Elements.get_mapped (λ (l : Loaded). own_name l.«class») classes k name at in
          let a = at_loaded k r.0 r.1 in
          slice_get-map (λ (e : ClassInfo). e.name) P.classes k ∙ ap (option_map (λ (e : ClassInfo). e.name)) a.is ∙ ap (λ n. Some n) (own_name_is k r.0 a ∙ sym r.2)

  -- a class's number is found by its name
  pub number_back : (c : ℕ) → IsTrue (is_class_in P c) → number_in (names_of classes) (class_name P c) ≡ Some c
  number_back c p =
      let e = get_below P.classes c (ltb-true c (length P.classes) p) in
      ap (number_in (names_of classes)) (name_of P c e.0 e.1) ∙ known_by_texts (names_of classes) P e.0.name (sym names_are) ∙ (links.linked.classes c e.0 e.1).name

  -- ---- what a class names above it

  super_number : (c : ℕ) (o : Option ℕ) → IsTrue (option_map_or (is_super_in P c) o true) → option_and_then (number_in (names_of classes)) (option_map (class_name P) o) ≡ o
  super_number c None p = refl
  super_number c (Some s) p = number_back s (and_parts (is_class_in P s) _ p).0

  pub face_in : (c : ℕ) → IsTrue (is_interface P c) → IsTrue (is_class_in P c)
  face_in c p = let r = passing (λ (e : ClassInfo). has_flag 0x0200 e.flags) (class_at P c) p in lt-ltb c (length P.classes) (slice_get_within P.classes c r.0 r.1)

  interface_numbers : (pool : List PoolEntry) (is js : List ℕ) → IsTrue (list_all (is_interface P) is) → map (λ i. Some (class_name P i)) is ≡ map (class_text_at pool) js
      → is ≡ flat_map (λ j. option_to_list (class_number (names_of classes) pool j)) js
  interface_numbers pool [] [] p e = refl
  interface_numbers pool [] (j ∷ js) p e = absurd cc
  interface_numbers pool (i ∷ is) [] p e = absurd cc
  interface_numbers pool (i ∷ is) (j ∷ js) p e =
      let both = and_parts (is_interface P i) (list_all (is_interface P) is) p in
      let text : Some (class_name P i) ≡ class_text_at pool j = cc in
      let rest = interface_numbers pool is js both.1 (cc) in
      let number : class_number (names_of classes) pool j ≡ Some i = ap (option_and_then (number_in (names_of classes))) (sym text) ∙ number_back i (face_in i both.0) in
      ap (λ is. i ∷ is) rest ∙ ap (λ o. option_to_list o ++ flat_map (λ j. option_to_list (class_number (names_of classes) pool j)) js) (sym number)

  -- ---- entries

  entry_same : (e f : ClassInfo) → e.name ≡ f.name → e.flags ≡ f.flags → e.super_class ≡ f.super_class → e.interfaces ≡ f.interfaces → e.supers ≡ f.supers → e.slots ≡ f.slots
      → e.first_method ≡ f.first_method → e.methods ≡ f.methods → e.read ≡ f.read → e ≡ f
  entry_same e f name flags super_class interfaces supers slots first_method methods read =
      λ i. record { name = name i; flags = flags i; super_class = super_class i; interfaces = interfaces i; supers = supers i; slots = slots i; first_method = first_method i; methods = methods i; read = read i }

  entry_is : (k : ℕ) (l : Loaded) → slice_get classes k ≡ Some l → (a : At k l) → bare_class a.e ≡ outline_class (names_of classes) (method_count (take k classes)) l.«class»
  unfolding outline_class
  entry_is k l at a =
      let linked = links.linked.classes k a.e a.is in
      let said = links.entries k l a.e at a.is in
      let read = a.entry.read_as in
      bare_loaded a.e l.«class» said.read ∙ entry_same (record a.e { supers = []; slots = [] }) (outline_class (names_of classes) (method_count (take k classes)) l.«class»)
      (own_name_is k l a)
      (read.flags ∙ ap (λ (l : Loaded). l.«class».flags) a.same)
      (sym (super_number k a.e.super_class linked.super_class) ∙ ap (option_and_then (number_in (names_of classes))) read.super_class
      ∙ ap (λ (l : Loaded). class_number (names_of classes) l.«class».pool l.«class».super_class) a.same)
      (interface_numbers a.entry.l.«class».pool a.e.interfaces a.entry.l.«class».interfaces linked.interfaces read.interfaces
      ∙ ap (λ (l : Loaded). flat_map (λ j. option_to_list (class_number (names_of classes) l.«class».pool j)) l.«class».interfaces) a.same)
      refl
      refl
      said.first_method
      (counted classes P P links links P k a.e a.entry.l.«class» a.is read.methods ∙ ap (λ (l : Loaded). length l.«class».methods) a.same)
      said.read

  pub classes_are : map bare_class P.classes ≡ (outline classes).classes
  unfolding outline
  classes_are = two_parts (map bare_class P.classes) (outline_classes (names_of classes) 0 classes) (built_in_infos (length classes) (method_count classes))
      (λ k f there. front k f there)
      (ap (λ n. drop n (map bare_class P.classes)) (outlined_length (names_of classes) 0 classes) ∙ drop_map bare_class (length classes) P.classes ∙ ap (map bare_class) built_in_part ∙ bare_built_ins (length classes) (method_count classes))
    where
      front : (k : ℕ) (f : ClassInfo) → slice_get (outline_classes (names_of classes) 0 classes) k ≡ Some f → slice_get (map bare_class P.classes) k ≡ Some f
      front k f there =
          let w = slice_get_within (outline_classes (names_of classes) 0 classes) k f there in
          let l = get_below classes k (subst (λ n. k < n) (outlined_length (names_of classes) 0 classes) w) in
          let a = at_loaded k l.0 l.1 in
          let e : 0 + method_count (take k classes) ≡ method_count (take k classes) = omega arith in
          slice_get-map bare_class P.classes k ∙ ap (option_map bare_class) a.is
          ∙ ap (λ e. Some e) (entry_is k l.0 l.1 a) ∙ ap (λ n. Some (outline_class (names_of classes) n l.0.«class»)) (sym e) ∙ sym (outlined_at (names_of classes) 0 classes k l.0 l.1) ∙ there
