-- What stands above the classes of the program that classes make where they have no fault.
use Rattle.std.proofs.Common.{◌≡◌, ℕ, suc, ◌+◌, ◌-◌, ◌<◌, Bool, true, false, List, [], ◌∷◌, ◌++◌, length, map, refl, sym, ap, subst, ◌∙◌, arith, inl, inr, ◌&&◌}
use Rattle.std.specs.Prelude.{All, Option, Some, None, IsTrue, slice_get, ◌==◌, is_none, is_some, ◌↔◌}
use Rattle.std.specs.List.{flat_map, list_all, list_any, range_with_len}
use Rattle.std.specs.Option.{option_and_then, option_map, option_map_or, option_to_list}
use Rattle.std.proofs.lemmas.Bool.{and_parts, cases_lt, false_from_ne_true}
use Rattle.std.proofs.lemmas.Option.{same_Some, slice_get_within}
use Rattle.nr_prog.specs.declared.body.loaded.Loaded.{Loaded}
use Rattle.nr_prog.specs.declared.pool.PoolEntry.{PoolEntry}
use Rattle.nr_prog.specs.BodyNames.{class_text_at}
use Rattle.nr_prog.specs.Form.{IsFormed, NamesClass}
use Rattle.nr_linked.specs.declared.program.built_in.BuiltIn.TheVariants.{Object}
use Rattle.nr_linked.specs.declared.program.tables.ClassInfo.{ClassInfo}
use Rattle.nr_linked.specs.declared.program.tables.ProgramTables.{ProgramTables}
use Rattle.nr_linked.specs.BuiltIns.{built_in}
use Rattle.nr_linked.specs.BuiltInTables.{built_in_tables}
use Rattle.nr_linked.specs.KindTexts.{class_name}
use Rattle.nr_linked.specs.Linked.{IsClassLinked, is_super_in}
use Rattle.nr_linked.specs.Programs.{class_at, class_named, is_interface, super_of, superclasses}
use Rattle.nr_linked.specs.Subtypes.{Above, further, is_above, itself}
use Rattle.nr_links.specs.Entries.{method_count}
use Rattle.nr_links.specs.Rules.{is_final_class}
use Rattle.nr_links.proofs.OneNames.{same_functions}
use Rattle.nr_linked.proofs.Elements.{get_below}
use Rattle.nr_links.proofs.Reaching.{direct_step}
use Rattle.nr_linkrules.specs.ClassRules.{above_fault, cycle_fault, has_final_above, has_kinds_above, is_above_itself, is_known, known_fault, named_above_fault, named_fault}
use Rattle.nr_linkrules.specs.Faults.{first_of}
use Rattle.nr_linkrules.specs.Layout.{supers_in}
use Rattle.nr_linkrules.specs.LinkFaults.{link_fault}
use Rattle.nr_linkrules.specs.Outline.{bare_class, class_number, names_of, number_in, outline_class, some_text}
use Rattle.nr_linkrules.specs.Readable.{IsReadable}
use Rattle.nr_linkrules.specs.Reaches.{HasSteps, reaches, steps_up}
use Rattle.nr_linkrules.proofs.Alike as alike
use Rattle.nr_linkrules.proofs.Known as known
use Rattle.nr_linkrules.proofs.NameLaws as names
use Rattle.nr_linkrules.proofs.Naming.{named_class}
use Rattle.nr_linkrules.proofs.NoFault.{any_at, both_none, is_false, listed_at, passes}
use Rattle.nr_linkrules.proofs.Program as program
use Rattle.nr_linkrules.proofs.Ranks.{meets, rank_short}
use Rattle.nr_linkrules.proofs.Reached.{reached_above, reaches_above}
use Rattle.nr_linkrules.proofs.Rising.{filter_listed, listed_filter, range_listed}
use Rattle.nr_linkrules.proofs.Shifted as shifted
use Rattle.nr_linkrules.proofs.Steps.{steps_in}

module _ (classes : List Loaded) (none : link_fault classes ≡ None) (all : All IsReadable classes) where
  abbrev O : ProgramTables
  O = known.O classes none all

  abbrev P : ProgramTables
  P = known.P classes none all

  abbrev n : ℕ
  n = length classes

  same : map bare_class P.classes ≡ O.classes
  same = program.bare_classes classes

  -- ---- what a name names

  pub named_is : (name : List ℕ) → known_fault O name ≡ None → (s : ℕ) × (class_named P name ≡ Some s)
  unfolding known_fault
  named_is name e = of_option (class_named O name) (passes (is_known O name) _ e) (sym (alike.named P O same name))
    where
      of_option : (o : Option ℕ) → is_some o ≡ true → class_named P name ≡ o → (s : ℕ) × (class_named P name ≡ Some s)
      of_option None p e = absurd cc
      of_option (Some s) p e = (s, e)

  -- the class that an index names
  pub record Named (pool : List PoolEntry) (index : ℕ) : Type 0 where
    pub number : ℕ
    pub is : class_number (names_of classes) pool index ≡ Some number
    pub text : class_text_at pool index ≡ Some (class_name P number)

  named_there : (pool : List PoolEntry) (index : ℕ) → NamesClass pool index → named_fault O pool index ≡ None → Named pool index
  named_there pool index formed e =
      let t = names.named pool index formed in
      let s = named_is t.0 (sym (ap (λ o. known_fault O (some_text o)) t.1) ∙ e) in
      record {
        number = s.0;
        is = ap (option_and_then (number_in (names_of classes))) t.1 ∙ known.number_is classes none all t.0 ∙ s.1;
        text = t.1 ∙ ap (λ t. Some t) (sym (named_class P t.0 s.0 s.1).1);
      }

  -- ---- a class that was loaded

  module _ (k : ℕ) (l : Loaded) (at : slice_get classes k ≡ Some l) where
    abbrev e : ClassInfo
    e = program.entry_of classes k l

    pub is_entry : class_at P k ≡ Some e
    is_entry = program.class_at_loaded classes k l at

    pub formed : IsFormed l.«class»
    formed = (known.readable classes none all k l at).decoded.formed

    record Above3 : Type 0 where
      named : named_above_fault O l.«class» ≡ None
      kinds : has_kinds_above O k (known.outlined classes none all k l) ≡ true
      final : has_final_above O (known.outlined classes none all k l) ≡ false

    above3 : Above3
    unfolding above_fault
    above3 =
        let a = both_none _ _ (known.each_class classes none all (above_fault O) (known.passed classes none all).above k l at) in
        let b = both_none _ _ a.1 in
        record { named = a.0; kinds = passes _ _ b.0; final = is_false _ (passes _ _ b.1) }

    named_parts : (named_fault O l.«class».pool l.«class».super_class ≡ None) × (first_of (named_fault O l.«class».pool) l.«class».interfaces ≡ None)
    unfolding named_above_fault
    named_parts = both_none _ _ above3.named

    pub super_is : Named l.«class».pool l.«class».super_class
    super_is = named_there l.«class».pool l.«class».super_class formed.above named_parts.0

    pub super_class : e.super_class ≡ Some super_is.number
    unfolding outline_class
    super_class = super_is.is

    kinds_above : has_kinds_above P k (known.outlined classes none all k l) ≡ true
    kinds_above =
        (λ i. option_map_or (same_functions (is_super_in P k) (is_super_in O k) (λ s. sym (alike.super_in P O same k s)) i) (known.outlined classes none all k l).super_class true
        && list_all (sym (alike.interfaces P O same) i) (known.outlined classes none all k l).interfaces)
        ∙ above3.kinds

    pub super_fits : IsTrue (option_map_or (is_super_in P k) e.super_class true)
    unfolding outline_class
    super_fits = (and_parts _ _ kinds_above).0

    pub interfaces_fit : IsTrue (list_all (is_interface P) e.interfaces)
    unfolding outline_class
    interfaces_fit = (and_parts _ _ kinds_above).1

    pub not_final : option_map_or (is_final_class P) e.super_class false ≡ false
    unfolding outline_class
    not_final = ap (λ (f : ℕ → Bool). option_map_or f (known.outlined classes none all k l).super_class false) (sym (alike.finals P O same)) ∙ above3.final

    each_interface : (is : List ℕ) → All (NamesClass l.«class».pool) is → first_of (named_fault O l.«class».pool) is ≡ None
        → map (λ i. Some (class_name P i)) (flat_map (λ i. option_to_list (class_number (names_of classes) l.«class».pool i)) is) ≡ map (class_text_at l.«class».pool) is
    unfolding first_of
    each_interface [] fit e = refl
    each_interface (i ∷ is) fit e =
        let parts = both_none _ _ e in
        let here = named_there l.«class».pool i (fit 0 i (omega arith)) parts.0 in
        let rest = each_interface is (λ k d lt. fit (suc k) d (omega (arith, lt))) parts.1 in
        ap (λ o. map (λ i. Some (class_name P i)) (option_to_list o ++ flat_map (λ i. option_to_list (class_number (names_of classes) l.«class».pool i)) is)) here.is
        ∙ (λ at. sym here.text at ∷ rest at)

    pub interfaces_are : map (λ i. Some (class_name P i)) e.interfaces ≡ map (class_text_at l.«class».pool) l.«class».interfaces
    unfolding outline_class
    interfaces_are = each_interface l.«class».interfaces formed.interfaces named_parts.1

    not_above_itself : is_above_itself P k ≡ false
    unfolding cycle_fault
    not_above_itself = sym (alike.above_itself P O same k) ∙ is_false _ (passes _ _ (known.each_class classes none all (cycle_fault O) (known.passed classes none all).cycle k l at))

  -- ---- all classes

  pub data Kind : ℕ → Type 0 where
    loaded : (k : ℕ) (l : Loaded) → slice_get classes k ≡ Some l → Kind k
    built_in_at : (j : ℕ) → Kind (n + j)

  pub kind : (c : ℕ) → Kind c
  kind c = elim (cases_lt c n) [
    | inl lt ↦ let l = get_below classes c lt in loaded c l.0 l.1
    | inr le ↦ let e : n + (c - n) ≡ c = omega (arith, le) in subst Kind e (built_in_at (c - n))
  ]

  pub class_there : (j : ℕ) → class_at P (n + j) ≡ slice_get (Rattle.nr_linked.specs.BuiltInTables.built_in_infos n (method_count classes)) j
  class_there j = program.class_at_built_in classes j

  pub method_there : (j : ℕ) → Rattle.nr_linked.specs.Programs.method_at P (method_count classes + j) ≡ slice_get (Rattle.nr_linked.specs.BuiltInTables.built_in_methods n) j
  method_there j = program.method_at_built_in classes (known.decoded classes none all) j

  -- a built-in class is linked
  pub built_in_linked : (j : ℕ) (e : ClassInfo) → class_at P (n + j) ≡ Some e → IsClassLinked P (n + j) e
  built_in_linked j e is = shifted.class_linked P n (method_count classes) (program.class_count classes) class_there method_there j e is (named (class_at built_in_tables j) refl (sym (shifted.class_behind P n (method_count classes) (program.class_count classes) class_there method_there j) ∙ is))
    where
      named : (o : Option ClassInfo) → class_at built_in_tables j ≡ o → option_map (shifted.shift_class n (method_count classes)) o ≡ Some e → class_named P e.name ≡ Some (n + j)
      named None there same = absurd cc
      named (Some d) there same = ap (λ (e : ClassInfo). class_named P e.name) (sym (same_Some (shifted.shift_class n (method_count classes) d) e same)) ∙ known.built_in_number classes none all j d there

  pub kinds_fit : (c : ℕ) (e : ClassInfo) → class_at P c ≡ Some e → IsTrue (option_map_or (is_super_in P c) e.super_class true) × IsTrue (list_all (is_interface P) e.interfaces)
  kinds_fit c e is = of_kind (kind c) e is
    where
      of_kind : {c : ℕ} → Kind c → (e : ClassInfo) → class_at P c ≡ Some e → IsTrue (option_map_or (is_super_in P c) e.super_class true) × IsTrue (list_all (is_interface P) e.interfaces)
      of_kind (loaded k l at) e is =
          subst (λ (e : ClassInfo). IsTrue (option_map_or (is_super_in P k) e.super_class true) × IsTrue (list_all (is_interface P) e.interfaces)) (same_Some (program.entry_of classes k l) e (sym (is_entry k l at) ∙ is)) (super_fits k l at, interfaces_fit k l at)
      of_kind (built_in_at j) e is = let t = built_in_linked j e is in (t.super_class, t.interfaces)

  pub has_steps : HasSteps P
  has_steps = steps_in P kinds_fit

  built_in_apart : (j : ℕ) → is_above_itself P (n + j) ≡ false
  built_in_apart j = false_from_ne_true (is_above_itself P (n + j)) (λ p.
      let r = any_at (λ s. reaches P s (n + j)) (steps_up P (n + j)) p in
      let t = shifted.step_behind P n (method_count classes) (program.class_count classes) class_there method_there j r.1 (listed_at (steps_up P (n + j)) r.0 r.1 r.2) in
      let a = subst (λ s. Above P s (n + j)) t.1 (reached_above P (length P.classes) r.1 (n + j) r.3) in
      let b = shifted.back P n (method_count classes) (program.class_count classes) class_there method_there (n + t.0) (n + j) a t.0 refl in
      let same : b.0 ≡ j = (let e = b.1 in omega (arith, e)) in
      shifted.acyclic j t.0 t.2 (subst (Above built_in_tables t.0) same b.2))

  pub apart : (c : ℕ) → is_above_itself P c ≡ false
  apart c = of_kind (kind c)
    where
      of_kind : {c : ℕ} → Kind c → is_above_itself P c ≡ false
      of_kind (loaded k l at) = not_above_itself k l at
      of_kind (built_in_at j) = built_in_apart j

  super_there : (c : ℕ) → c < length P.classes → (c == built_in P Object) ≡ false → (s : ℕ) × (super_of P c ≡ Some s)
  super_there c lt ne = of_kind (kind c) lt ne
    where
      of_option : (o : Option ℕ) → is_none o ≡ false → (s : ℕ) × (o ≡ Some s)
      of_option None e = absurd cc
      of_option (Some s) e = (s, refl)

      of_kind : {c : ℕ} → Kind c → c < length P.classes → (c == built_in P Object) ≡ false → (s : ℕ) × (super_of P c ≡ Some s)
      of_kind (loaded k l at) lt ne = ((super_is k l at).number, ap (option_and_then (λ (e : ClassInfo). e.super_class)) (is_entry k l at) ∙ super_class k l at)
      of_kind (built_in_at j) lt ne =
          let e = get_below P.classes (n + j) lt in
          let s = of_option e.0.super_class ((built_in_linked j e.0 e.1).root ∙ ne) in
          (s.0, ap (option_and_then (λ (e : ClassInfo). e.super_class)) e.1 ∙ s.1)

  -- the walk upward meets java/lang/Object
  pub ends : (c : ℕ) → c < length P.classes → IsTrue (list_any (λ d. d == built_in P Object) (superclasses P c))
  ends c lt = meets P has_steps apart (built_in P Object) super_there (length P.classes) c lt (rank_short P has_steps apart c lt)

  pub above_in : (c d : ℕ) → c < length P.classes → Above P c d → d < length P.classes
  above_in c d lt itself = lt
  above_in c d lt (further {s = s} step rest) = above_in s d (has_steps c s (direct_step (class_at P c) s step)) rest

  -- what is listed is what stands above
  pub supers : (k : ℕ) (l : Loaded) → slice_get classes k ≡ Some l → (d : ℕ) → IsTrue (is_above P k d) ↔ Above P k d
  unfolding supers_in
  supers k l at d = (
    λ p.
        let q = subst (λ o. IsTrue (option_map_or (λ (e : ClassInfo). list_any (λ s. s == d) e.supers) o false)) (is_entry k l at) p in
        let r = listed_filter (reaches O k) (range_with_len 0 (length O.classes)) d q in
        (reaches_above P has_steps k d).0 (sym (alike.reached P O same k d) ∙ r.0),
    λ a.
        let short = above_in k d (slice_get_within P.classes k (program.entry_of classes k l) (is_entry k l at)) a in
        let more = alike.count P O same in
        subst (λ o. IsTrue (option_map_or (λ (e : ClassInfo). list_any (λ s. s == d) e.supers) o false)) (sym (is_entry k l at))
        (filter_listed (reaches O k) (range_with_len 0 (length O.classes)) d (alike.reached P O same k d ∙ (reaches_above P has_steps k d).1 a) (range_listed 0 (length O.classes) d (omega arith) (omega (arith, short, more)))),
  )
