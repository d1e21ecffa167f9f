-- Classes that link have no fault of the list of classes, of what they name above them, or of cycles.
use Rattle.std.proofs.Common.{◌≡◌, ℕ, zero, suc, ◌<◌, false, List, [], ◌∷◌, length, take, get_or, refl, sym, ap, subst, ◌∙◌, arith, not}
use Rattle.std.specs.Prelude.{Option, Some, None, IsTrue, slice_get, ◌==◌, nat_le, is_some}
use Rattle.std.specs.List.{list_any}
use Rattle.std.specs.Option.{option_map, option_map_or}
use Rattle.std.specs.Str.{bytes_eq}
use Rattle.std.proofs.lemmas.Bool.{and_from, and_parts, both_ways, eqb-true, false_from_ne_true, le-leb}
use Rattle.std.proofs.lemmas.List.Folds.{list_any_none}
use Rattle.std.proofs.lemmas.List.{get_or-take, get_or_append_left, length-map, length-take-le}
use Rattle.std.proofs.lemmas.List.Quantifiers.{position-Some}
use Rattle.std.proofs.lemmas.Option.{same_Some, slice_get-map, slice_get_within}
use Rattle.nr_prog.specs.declared.body.loaded.Loaded.{Loaded}
use Rattle.nr_prog.specs.declared.parts.ClassParts.{ClassParts}
use Rattle.nr_prog.specs.declared.pool.PoolEntry.{PoolEntry}
use Rattle.nr_linked.specs.declared.program.tables.ClassInfo.{ClassInfo}
use Rattle.nr_linked.specs.declared.program.tables.ProgramTables.{ProgramTables}
use Rattle.nr_prog.specs.BodyNames.{class_text_at}
use Rattle.nr_linked.specs.declared.program.built_in.BuiltIn.TheVariants.{Object}
use Rattle.nr_linked.specs.BuiltIns.{built_in}
use Rattle.nr_linked.specs.KindTexts.{class_name}
use Rattle.nr_linked.specs.Linked.{is_class_in, is_loaded}
use Rattle.nr_linked.specs.Programs.{class_at, class_named, is_interface}
use Rattle.nr_links.specs.Links.{Links}
use Rattle.nr_links.specs.Rules.{is_reserved}
use Rattle.nr_linked.proofs.Elements.{get_mapped, passes_at}
use Rattle.nr_links.proofs.Reaching.{step_direct}
use Rattle.nr_links.proofs.SlotFacts.{LoadedEntry, below_loaded, loaded_entry}
use Rattle.nr_linked.proofs.BuiltInEntries.{not_loaded}
use Rattle.nr_linked.proofs.AnyReferences.{super_in}
use Rattle.nr_linkrules.specs.ClassRules.{above_fault, cycle_fault, doubled_fault, has_final_above, has_kinds_above, is_above_itself, known_fault, limit_fault, list_fault, named_above_fault, named_fault, reserved_fault}
use Rattle.nr_linkrules.specs.LinkFaults.{first_class_fault, on_loaded, Rule}
use Rattle.nr_linkrules.specs.Outline.{bare_class, names_of, number_in, outline, own_name, own_names, some_text}
use Rattle.nr_linkrules.specs.Reaches.{reaches, steps_up}
use Rattle.nr_linkrules.proofs.Alike.{above_itself, bare_says, entry, final_above, kinds_above, named}
use Rattle.nr_linkrules.proofs.NameLaws.{known_by_texts, turned}
use Rattle.nr_linkrules.proofs.NoFault.{any_at, listed_at, none_numbered, none_of, none_or, not_so, passed}
use Rattle.nr_linkrules.proofs.Outlined.{at_loaded, classes_are, face_in, names_are, number_back, own_name_is}
use Rattle.nr_linkrules.proofs.Reached.{reached_above}

module _ (classes : List Loaded) (P : ProgramTables) (links : Links classes P) where
  -- ---- the list of classes

  limited : limit_fault classes ≡ None
  limited = passed (nat_le (length classes) 1024) _ (le-leb (length classes) 1024 (omega (arith, links.class_count, links.linked.few_classes)))

  none_reserved : (k : ℕ) (l : Loaded) → slice_get classes k ≡ Some l → reserved_fault l ≡ None
  none_reserved k l at =
      let a = at_loaded classes P links k l at in
      let rules = links.rules k l a.e at a.is in
      passed (not (is_reserved (own_name l.«class»))) _ (not_so (is_reserved (own_name l.«class»)) (ap is_reserved (sym (own_name_is classes P links k l a)) ∙ rules.reserved))

  none_doubled : (k : ℕ) (l : Loaded) → slice_get classes k ≡ Some l → doubled_fault (own_names classes) k l ≡ None
  none_doubled k l at =
      let a = at_loaded classes P links k l at in
      let name = own_name l.«class» in
      let number : number_in (names_of classes) name ≡ Some k =
      known_by_texts (names_of classes) P name (sym (names_are classes P links)) ∙ ap (class_named P) (sym (own_name_is classes P links k l a)) ∙ (links.linked.classes k a.e a.is).name in
      passed _ _ (not_so _ (earlier k name number (slice_get_within classes k l at)))
    where
      any_default : {X : Type 0} (xs : List X) (i : ℕ) (a b : X) → i < length xs → get_or xs i a ≡ get_or xs i b
      any_default [] i a b lt = absurd (omega (arith, lt))
      any_default (x ∷ xs) zero a b lt = refl
      any_default (x ∷ xs) (suc i) a b lt = any_default xs i a b (omega (arith, lt))

      here : (i k : ℕ) (d : List ℕ) → i < k → i < length (own_names classes) → get_or (take k (own_names classes)) i d ≡ get_or (names_of classes) i []
      here i k d below short = get_or-take k (own_names classes) i d below ∙ any_default (own_names classes) i d [] short ∙ sym (get_or_append_left (own_names classes) _ [] i short)

      earlier : (k : ℕ) (name : List ℕ) → number_in (names_of classes) name ≡ Some k → k < length classes → list_any (bytes_eq name) (take k (own_names classes)) ≡ false
      earlier k name number lt =
          let before = (position-Some (λ n. bytes_eq n name) (names_of classes) k [] number).2 in
          list_any_none (bytes_eq name) (take k (own_names classes)) (λ i d short.
          let count = length-take-le k (own_names classes) (let n = length-map classes (λ (l : Loaded). own_name l.«class») in omega (arith, n, lt)) in
          let below : i < k = omega (arith, short, count) in
          turned name (get_or (take k (own_names classes)) i d) ∙ ap (λ n. bytes_eq n name) (here i k d below (let n = length-map classes (λ (l : Loaded). own_name l.«class») in omega (arith, n, lt, below))) ∙ before i below)

  pub no_list_fault : list_fault classes ≡ None
  unfolding list_fault
  no_list_fault =
      none_or _ _ limited
      (none_or _ _ (none_of reserved_fault classes none_reserved)
      (none_numbered (doubled_fault (own_names classes)) 0 classes (λ m k l e at. subst (λ k. doubled_fault (own_names classes) k l ≡ None) (let f : k ≡ m = omega (arith, e) in f) (none_doubled k l at))))

  -- ---- rules on the classes that were loaded

  abbrev pub O : ProgramTables
  O = outline classes

  pub each_loaded : (rule : Rule) → ((c : ℕ) (e : ClassInfo) (l : LoadedEntry classes P c e) → class_at P c ≡ Some e → rule c (bare_class e) l.l.«class» ≡ None) → first_class_fault rule O ≡ None
  unfolding first_class_fault
  each_loaded rule h = none_numbered (on_loaded rule) 0 O.classes (λ m k f e at. subst (λ k. on_loaded rule k f ≡ None) (let f : k ≡ m = omega (arith, e) in f) (of_entry k f (class_at P k) refl (sym (entry P O (classes_are classes P links) k) ∙ at)))
    where
      of_read : (k : ℕ) (e : ClassInfo) → class_at P k ≡ Some e → (o : Option ClassParts) → e.read ≡ o → option_map_or (rule k (bare_class e)) o None ≡ None
      of_read k e is None r = refl
      of_read k e is (Some parts) r =
          let l = loaded_entry classes P links k e is (sym (links.linked.classes k e is).read ∙ ap is_some r) in
          let same = same_Some parts l.l.«class» (sym r ∙ l.read) in
          ap (rule k (bare_class e)) same ∙ h k e l is

      of_entry : (k : ℕ) (f : ClassInfo) (o : Option ClassInfo) → class_at P k ≡ o → option_map bare_class o ≡ Some f → on_loaded rule k f ≡ None
      of_entry k f None is e = absurd cc
      of_entry k f (Some g) is e = subst (λ f. on_loaded rule k f ≡ None) (same_Some (bare_class g) f e) (ap (λ o. option_map_or (rule k (bare_class g)) o None) (bare_says (λ (e : ClassInfo). e.read) (λ e. refl) g) ∙ of_read k g is g.read refl)

  pub known : (c : ℕ) → IsTrue (is_class_in P c) → known_fault O (class_name P c) ≡ None
  unfolding known_fault
  known c p =
      let number = named P O (classes_are classes P links) (class_name P c) ∙ sym (known_by_texts (names_of classes) P (class_name P c) (sym (names_are classes P links))) ∙ number_back classes P links c p in
      passed (is_some (class_named O (class_name P c))) _ (ap is_some number)

  -- ---- what a class names above it

  text_known : (pool : List PoolEntry) (index c : ℕ) → IsTrue (is_class_in P c) → class_text_at pool index ≡ Some (class_name P c) → named_fault O pool index ≡ None
  text_known pool index c p e = ap (λ t. known_fault O (some_text t)) e ∙ known c p

  not_object : (c : ℕ) → IsTrue (is_loaded P c) → (c == built_in P Object) ≡ false
  not_object c p = false_from_ne_true (c == built_in P Object) (λ e. both_ways (is_loaded P (built_in P Object)) (not_loaded P Object) (subst (λ c. IsTrue (is_loaded P c)) (eqb-true c (built_in P Object) e) p))

  super_known : (c : ℕ) (e : ClassInfo) (l : LoadedEntry classes P c e) → class_at P c ≡ Some e → named_fault O l.l.«class».pool l.l.«class».super_class ≡ None
  super_known c e l is =
      let s = super_in P links.linked c e is (not_object c (below_loaded classes P links c l.l l.at)) in
      text_known l.l.«class».pool l.l.«class».super_class s.0 (and_parts (is_class_in P s.0) _ s.2).0 (sym l.read_as.super_class ∙ ap (option_map (class_name P)) s.1)

  interface_known : (c : ℕ) (e : ClassInfo) (l : LoadedEntry classes P c e) → class_at P c ≡ Some e → (k index : ℕ) → slice_get l.l.«class».interfaces k ≡ Some index → named_fault O l.l.«class».pool index ≡ None
  interface_known c e l is k index at =
      let text = ap (λ ts. slice_get ts k) l.read_as.interfaces ∙ slice_get-map (class_text_at l.l.«class».pool) l.l.«class».interfaces k ∙ ap (option_map (class_text_at l.l.«class».pool)) at in
      let r = get_mapped (λ (i : ℕ). Some (class_name P i)) e.interfaces k (class_text_at l.l.«class».pool index) text in
      text_known l.l.«class».pool index r.0 (face_in classes P links r.0 (passes_at (is_interface P) e.interfaces k r.0 (links.linked.classes c e is).interfaces r.1)) r.2

  no_named_fault : (c : ℕ) (e : ClassInfo) (l : LoadedEntry classes P c e) → class_at P c ≡ Some e → named_above_fault O l.l.«class» ≡ None
  unfolding named_above_fault
  no_named_fault c e l is = none_or _ _ (super_known c e l is) (none_of (named_fault O l.l.«class».pool) l.l.«class».interfaces (interface_known c e l is))

  pub no_above_fault : first_class_fault (above_fault O) O ≡ None
  unfolding above_fault
  no_above_fault = each_loaded (above_fault O) (λ c e l is.
      let linked = links.linked.classes c e is in
      let rules = links.rules c l.l e l.at is in
      none_or _ _ (no_named_fault c e l is)
      (none_or _ _
      (passed (has_kinds_above O c (bare_class e)) _ (kinds_above P O (classes_are classes P links) c e ∙ and_from _ _ linked.super_class linked.interfaces))
      (passed (not (has_final_above O (bare_class e))) _ (not_so (has_final_above O (bare_class e)) (final_above P O (classes_are classes P links) e ∙ rules.final_super)))))

  -- ---- cycles

  not_above_itself : (c : ℕ) (e : ClassInfo) (l : Loaded) → slice_get classes c ≡ Some l → class_at P c ≡ Some e → is_above_itself P c ≡ false
  not_above_itself c e l at is = false_from_ne_true (is_above_itself P c) (λ p.
      let r = any_at (λ s. reaches P s c) (steps_up P c) p in
      (links.rules c l e at is).cycle r.1 (step_direct (class_at P c) r.1 (listed_at (steps_up P c) r.0 r.1 r.2)) (reached_above P (length P.classes) r.1 c r.3))

  pub no_cycle_fault : first_class_fault (cycle_fault O) O ≡ None
  unfolding cycle_fault
  no_cycle_fault = each_loaded (cycle_fault O) (λ c e l is.
      passed (not (is_above_itself O c)) _ (not_so (is_above_itself O c) (above_itself P O (classes_are classes P links) c ∙ not_above_itself c e l.l l.at is)))
