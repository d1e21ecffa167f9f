-- What is known of the program that classes make where they have no fault: the names, and what stands above each class.
use Rattle.std.proofs.Common.{◌≡◌, ℕ, suc, ◌+◌, ◌<◌, Bool, true, false, cond, List, [], ◌∷◌, ◌++◌, length, map, take, refl, sym, ap, subst, ◌∙◌, arith, not, length-append}
use Rattle.std.specs.Prelude.{All, Some, None, slice_get, nat_lt}
use Rattle.std.specs.List.{position, position_or_len}
use Rattle.std.specs.Str.{bytes_eq}
use Rattle.std.proofs.lemmas.Bool.{both_ways, false_from_ne_true, ltb-true}
use Rattle.std.proofs.lemmas.List.{length-map}
use Rattle.std.proofs.lemmas.Option.{get_or_from_slice_get, same_Some, slice_get_within}
use Rattle.nr_prog.specs.declared.body.loaded.Loaded.{Loaded}
use Rattle.nr_linked.specs.declared.program.tables.ClassInfo.{ClassInfo}
use Rattle.nr_linked.specs.declared.program.tables.ProgramTables.{ProgramTables}
use Rattle.nr_linked.specs.BuiltIns.{built_in_class}
use Rattle.nr_linked.specs.BuiltInTables.{built_in_info, built_in_infos, built_in_tables, built_ins}
use Rattle.nr_linked.specs.Programs.{class_at, class_named}
use Rattle.nr_linked.proofs.Witness as witness
use Rattle.nr_links.specs.Entries.{method_count}
use Rattle.nr_links.specs.Links.{IsDecoded}
use Rattle.nr_links.specs.Rules.{is_reserved}
use Rattle.nr_linked.proofs.BuiltInEntries.{on_all}
use Rattle.nr_links.proofs.Described.{same_bytes}
use Rattle.nr_linked.proofs.Elements.{get_mapped}
use Rattle.nr_linkrules.specs.ClassRules.{above_fault, cycle_fault, list_fault, members_fault}
use Rattle.nr_linkrules.specs.Faults.{first_of}
use Rattle.nr_linkrules.specs.LinkFaults.{Rule, classes_fault, code_faults, first_class_fault, link_fault, on_loaded}
use Rattle.nr_linkrules.specs.Outline.{names_of, number_in, outline, outline_class, outline_classes, own_name, own_names}
use Rattle.nr_linkrules.specs.Readable.{IsReadable}
use Rattle.nr_linkrules.specs.SiteRules.{around_fault, code_fault}
use Rattle.nr_linkrules.proofs.Alike as alike
use Rattle.nr_linkrules.proofs.Learnt as learnt
use Rattle.nr_linkrules.proofs.NameLaws as names
use Rattle.nr_linkrules.proofs.NoFault.{both_none, each_numbered}
use Rattle.nr_linkrules.proofs.Outlined as outlines
use Rattle.nr_linkrules.proofs.Parts.{get_front, map_parts}
use Rattle.nr_linkrules.proofs.Program as program

-- ---- the first place, behind others

past_all : {X : Type 0} (p : X → Bool) (xs ys : List X) → ((k : ℕ) (x : X) → slice_get xs k ≡ Some x → p x ≡ false) → position_or_len p (xs ++ ys) ≡ length xs + position_or_len p ys
past_all p [] ys none = omega arith
past_all p (x ∷ xs) ys none =
    let rest = past_all p xs ys (λ k. none (suc k)) in
    ap (λ b. cond (not b) (1 + position_or_len p (xs ++ ys)) 0) (none 0 x refl) ∙ (let e : 1 + position_or_len p (xs ++ ys) ≡ length (x ∷ xs) + position_or_len p ys = omega (arith, rest) in e)

place_of : {X : Type 0} (p : X → Bool) (xs : List X) (j : ℕ) → position p xs ≡ Some j → (position_or_len p xs ≡ j) × (j < length xs)
place_of p xs j e = by_test (nat_lt (position_or_len p xs) (length xs)) refl e
  where
    by_test : (b : Bool) → nat_lt (position_or_len p xs) (length xs) ≡ b → cond b (Some (position_or_len p xs)) None ≡ Some j → (position_or_len p xs ≡ j) × (j < length xs)
    by_test true lt e = let same = same_Some (position_or_len p xs) j e in let l = ltb-true (position_or_len p xs) (length xs) lt in (same, omega (arith, same, l))
    by_test false lt e = absurd cc

place_behind : {X : Type 0} (p : X → Bool) (xs ys : List X) (j : ℕ) → ((k : ℕ) (x : X) → slice_get xs k ≡ Some x → p x ≡ false) → position p ys ≡ Some j → position p (xs ++ ys) ≡ Some (length xs + j)
place_behind p xs ys j none e =
    let r = place_of p ys j e in
    let sum = length-append xs ys in
    learnt.position_is p (xs ++ ys) (length xs + j) (omega (arith, r.1, sum)) (past_all p xs ys none ∙ ap (λ j. length xs + j) r.0)

-- the names of built-in classes are kept
built_in_reserved : (j : ℕ) (e : ClassInfo) → class_at built_in_tables j ≡ Some e → is_reserved e.name ≡ true
unfolding built_in_tables built_in_infos built_in_info built_in_class
built_in_reserved j e at =
    let r = get_mapped (built_in_info 0 0) built_ins j e at in
    ap (λ (e : ClassInfo). is_reserved e.name) r.2 ∙ on_all (λ b. is_reserved (built_in_class b).name) refl r.0

built_in_names : map (λ (e : ClassInfo). e.name) built_in_tables.classes ≡ map (λ b. (built_in_class b).name) built_ins
unfolding built_in_tables
built_in_names = outlines.built_in_names 0 0

own_outline : (names : List (List ℕ)) (first : ℕ) (classes : List Loaded) → map (λ (e : ClassInfo). e.name) (outline_classes names first classes) ≡ own_names classes
unfolding outline_classes outline_class
own_outline names first [] = refl
own_outline names first (l ∷ ls) = ap (λ ns. own_name l.«class» ∷ ns) (own_outline names (first + length l.«class».methods) ls)

module _ (classes : List Loaded) (none : link_fault classes ≡ None) (all : All IsReadable classes) where
  abbrev pub O : ProgramTables
  O = outline classes

  abbrev pub L : ProgramTables
  L = program.L classes

  abbrev pub P : ProgramTables
  P = program.P classes

  abbrev n : ℕ
  n = length classes

  abbrev m : ℕ
  m = method_count classes

  pub decoded : All IsDecoded classes
  decoded k d lt = (all k d lt).decoded

  pub readable : (k : ℕ) (l : Loaded) → slice_get classes k ≡ Some l → IsReadable l
  readable k l at = subst IsReadable (get_or_from_slice_get classes k l l at) (all k l (slice_get_within classes k l at))

  -- ---- the passes

  pub record Passes : Type 0 where
    pub list : list_fault classes ≡ None
    pub above : first_class_fault (above_fault O) O ≡ None
    pub cycle : first_class_fault (cycle_fault O) O ≡ None
    pub members : first_class_fault (members_fault O) O ≡ None
    pub code : first_of (code_fault L) L.methods ≡ None
    pub around : first_of (around_fault L) L.methods ≡ None

  pub passed : Passes
  unfolding link_fault classes_fault code_faults
  passed =
      let a = both_none _ _ none in
      let b = both_none _ _ a.1 in
      let c = both_none _ _ b.0 in
      let d = both_none _ _ c.1 in
      let e = both_none _ _ b.1 in
      record { list = a.0; above = c.0; cycle = d.0; members = d.1; code = e.0; around = e.1 }

  -- the entry of a class that was loaded, as the outline has it
  abbrev pub outlined : ℕ → Loaded → ClassInfo
  outlined k l = outline_class (names_of classes) (method_count (take k classes)) l.«class»

  pub outline_at : (k : ℕ) (l : Loaded) → slice_get classes k ≡ Some l → class_at O k ≡ Some (outlined k l)
  unfolding outline
  outline_at k l at =
      let w = slice_get_within classes k l at in
      let long = outlines.outlined_length (names_of classes) 0 classes in
      let first : 0 + method_count (take k classes) ≡ method_count (take k classes) = omega arith in
      get_front (outline_classes (names_of classes) 0 classes) _ k (omega (arith, w, long)) ∙ outlines.outlined_at (names_of classes) 0 classes k l at
      ∙ ap (λ n. Some (outline_class (names_of classes) n l.«class»)) first

  -- a rule that finds nothing finds nothing in each class that was loaded
  pub each_class : (rule : Rule) → first_class_fault rule O ≡ None → (k : ℕ) (l : Loaded) → slice_get classes k ≡ Some l → rule k (outlined k l) l.«class» ≡ None
  unfolding first_class_fault outline_class
  each_class rule e k l at = each_numbered (on_loaded rule) 0 O.classes e k k (outlined k l) (omega arith) (outline_at k l at)

  -- ---- names

  outline_names : map (λ (e : ClassInfo). e.name) O.classes ≡ names_of classes
  unfolding outline
  outline_names =
      map_parts (λ (e : ClassInfo). e.name) (outline_classes (names_of classes) 0 classes) (built_in_infos (length classes) (method_count classes))
      ∙ (λ i. own_outline (names_of classes) 0 classes i ++ outlines.built_in_names (length classes) (method_count classes) i)

  pub number_is : (name : List ℕ) → number_in (names_of classes) name ≡ class_named P name
  number_is name = names.known_by_texts (names_of classes) O name (sym outline_names) ∙ alike.named P O (program.bare_classes classes) name

  pub own_number : (k : ℕ) (l : Loaded) → slice_get classes k ≡ Some l → class_named P (own_name l.«class») ≡ Some k
  own_number k l at = sym (number_is (own_name l.«class»)) ∙ learnt.number classes passed.list k l at

  pub not_reserved : (k : ℕ) (l : Loaded) → slice_get classes k ≡ Some l → is_reserved (own_name l.«class») ≡ false
  not_reserved k l at = learnt.not_reserved classes passed.list k l at

  pub built_in_number : (j : ℕ) (e : ClassInfo) → class_at built_in_tables j ≡ Some e → class_named P e.name ≡ Some (n + j)
  built_in_number j e at =
      let test = λ (name : List ℕ). bytes_eq name e.name in
      let alone : position test (map (λ b. (built_in_class b).name) built_ins) ≡ Some j =
      ap (position test) (sym built_in_names) ∙ sym (names.same_place (λ (e : ClassInfo). e.name) (λ (d : ClassInfo). bytes_eq d.name e.name) test (λ d. refl) built_in_tables.classes) ∙ (witness.linked.classes j e at).name in
      sym (number_is e.name) ∙ place_behind test (own_names classes) (map (λ b. (built_in_class b).name) built_ins) j (λ k name there. other k name there) alone
      ∙ ap (λ n. Some (n + j)) (length-map classes (λ (l : Loaded). own_name l.«class»))
    where
      other : (k : ℕ) (name : List ℕ) → slice_get (own_names classes) k ≡ Some name → bytes_eq name e.name ≡ false
      other k name there =
          let r = get_mapped (λ (l : Loaded). own_name l.«class») classes k name there in
          false_from_ne_true (bytes_eq name e.name) (λ same. both_ways (is_reserved e.name) (ap is_reserved (sym (same_bytes name e.name same) ∙ r.2) ∙ not_reserved k r.0 r.1) (built_in_reserved j e at))
