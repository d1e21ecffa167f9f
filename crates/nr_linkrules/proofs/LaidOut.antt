-- The classes of the program that classes link to are those of the outline, laid out.
use Rattle.std.proofs.Common.{◌≡◌, ℕ, zero, suc, ◌+◌, ◌<◌, Bool, true, false, List, [], ◌∷◌, ◌++◌, length, map, drop, refl, sym, ap, subst, ◌∙◌, arith, inl, inr, ◌||◌, not}
use Rattle.std.specs.Prelude.{Option, Some, None, IsTrue, slice_get, reverse, ◌==◌, is_none}
use Rattle.std.specs.List.{filter, flat_map, list_any, range_with_len}
use Rattle.std.specs.Option.{option_and_then, option_map, option_map_or, option_to_list}
use Rattle.std.proofs.lemmas.Bool.{and_parts, eqb-true, ltb-true}
use Rattle.std.proofs.lemmas.Grind.{flat_map-append}
use Rattle.std.proofs.lemmas.List.{reverse-append}
use Rattle.std.proofs.lemmas.Option.{get_or_from_slice_get, slice_get_within}
use Rattle.nr_base.specs.Descs.{desc}
use Rattle.nr_prog.specs.declared.body.loaded.Loaded.{Loaded}
use Rattle.nr_prog.specs.declared.member.Field.{Field}
use Rattle.nr_prog.specs.declared.parts.ClassParts.{ClassParts}
use Rattle.nr_prog.specs.declared.pool.PoolEntry.{PoolEntry}
use Rattle.nr_prog.specs.Members.{is_static}
use Rattle.nr_prog.specs.Pool.{text_at}
use Rattle.nr_instrs.proofs.Facts.{reads_desc}
use Rattle.nr_linked.specs.declared.program.built_in.BuiltIn.{BuiltIn}
use Rattle.nr_linked.specs.declared.program.built_in.BuiltIn.TheVariants.{Object}
use Rattle.nr_linked.specs.declared.program.tables.ClassInfo.{ClassInfo}
use Rattle.nr_linked.specs.declared.program.tables.ProgramTables.{ProgramTables}
use Rattle.nr_linked.specs.declared.program.tables.SlotInfo.{SlotInfo}
use Rattle.nr_linked.specs.BuiltIns.{built_in}
use Rattle.nr_linked.specs.BuiltInTables.{built_in_info}
use Rattle.nr_linked.specs.KindTexts.{kind_desc}
use Rattle.nr_linked.specs.Linked.{field_texts, inherited_slots, is_class_in, is_kind_in, is_slot_linked, own_slots, slot_texts}
use Rattle.nr_linked.specs.Programs.{class_at, super_of, upward}
use Rattle.nr_linked.specs.Slots.{slots_of}
use Rattle.nr_linked.specs.Subtypes.{Above, further, itself}
use Rattle.nr_links.specs.Links.{Links}
use Rattle.nr_linked.proofs.BuiltInEntries.{info_of}
use Rattle.nr_linked.proofs.Listed.{is_listed}
use Rattle.nr_links.proofs.OneClass.{SlotOk, one_rising}
use Rattle.nr_links.proofs.OneNames.{same_functions, same_list}
use Rattle.nr_linked.proofs.Elements.{get_below, get_dropped, passes_at}
use Rattle.nr_links.proofs.Reaching.{direct_step}
use Rattle.nr_links.proofs.SlotFacts.{LoadedEntry, entry_cases}
use Rattle.nr_linkrules.specs.Layout.{kind_of, kind_said, laid_class, laid_out, numbered, read_desc, slot_for, slot_of, slots_declared, slots_in, slots_read, supers_in}
use Rattle.nr_linkrules.specs.Outline.{bare_class, outline, some_text}
use Rattle.nr_linkrules.specs.Reaches.{HasSteps, reaches}
use Rattle.nr_linkrules.proofs.Alike.{bare_says, count, entry, kinds_alike, named, on_entry, reached, upward_alike}
use Rattle.nr_linkrules.proofs.Naming.{kind_back}
use Rattle.nr_linkrules.proofs.Outlined.{bare_built_in, bare_loaded, classes_are}
use Rattle.nr_linkrules.proofs.Reached.{reaches_above}
use Rattle.nr_linkrules.proofs.Steps.{steps_in}
use Rattle.nr_linkrules.proofs.Rising.{filter_listed, listed_filter, range_listed, rising_filter}

pub numbered_at : {X Y : Type 0} (f : ℕ → X → Y) (n : ℕ) (xs : List X) (k : ℕ) → slice_get (numbered f n xs) k ≡ option_map (f (n + k)) (slice_get xs k)
unfolding numbered
numbered_at f n [] k = refl
numbered_at f n (x ∷ xs) zero = let e : n ≡ n + zero = omega arith in ap (λ n. Some (f n x)) e
numbered_at f n (x ∷ xs) (suc k) = let e : n + 1 + k ≡ n + suc k = omega arith in numbered_at f (n + 1) xs k ∙ ap (λ n. option_map (f n) (slice_get xs k)) e

module _ (classes : List Loaded) (P : ProgramTables) (links : Links classes P) where
  abbrev O : ProgramTables
  O = outline classes

  -- ---- what stands above a class

  pub has_steps : HasSteps P
  has_steps = steps_in P (λ c e is. ((links.linked.classes c e is).super_class, (links.linked.classes c e is).interfaces))

  above_in : (c d : ℕ) → c < length P.classes → Above P c d → d < length P.classes
  above_in c d lt itself = lt
  above_in c d lt (further {s = s} step rest) = above_in s d (has_steps c s (direct_step (class_at P c) s step)) rest

  listed_above : (c : ℕ) (e : ClassInfo) → class_at P c ≡ Some e → (d : ℕ) → IsTrue (is_listed d e.supers) → Above P c d
  listed_above c e is d p = ((links.linked.classes c e is).supers d).0 (subst (λ o. IsTrue (option_map_or (λ (e : ClassInfo). list_any (λ s. s == d) e.supers) o false)) (sym is) p)

  above_listed : (c : ℕ) (e : ClassInfo) → class_at P c ≡ Some e → (d : ℕ) → Above P c d → IsTrue (is_listed d e.supers)
  above_listed c e is d a = subst (λ o. IsTrue (option_map_or (λ (e : ClassInfo). list_any (λ s. s == d) e.supers) o false)) is (((links.linked.classes c e is).supers d).1 a)

  reached_in : (c : ℕ) → supers_in O c ≡ filter (reaches P c) (range_with_len 0 (length P.classes))
  unfolding supers_in
  reached_in c = λ i. filter (same_functions (reaches O c) (reaches P c) (λ d. reached P O (classes_are classes P links) c d) i) (range_with_len 0 (count P O (classes_are classes P links) i))

  supers_are : (c : ℕ) (e : ClassInfo) (l : LoadedEntry classes P c e) → class_at P c ≡ Some e → supers_in O c ≡ e.supers
  supers_are c e l is =
      reached_in c ∙ one_rising (filter (reaches P c) (range_with_len 0 (length P.classes))) e.supers
      (rising_filter (reaches P c) 0 (length P.classes))
      (links.entries c l.l e l.at is).rising
      (λ d p. above_listed c e is d ((reaches_above P has_steps c d).0 (listed_filter (reaches P c) (range_with_len 0 (length P.classes)) d p).0))
      (λ d p. let a = listed_above c e is d p in
      let lt = above_in c d (slice_get_within P.classes c e is) a in
      filter_listed (reaches P c) (range_with_len 0 (length P.classes)) d ((reaches_above P has_steps c d).1 a) (range_listed 0 (length P.classes) d (omega arith) (omega (arith, lt))))

  -- ---- slots

  own_ok : (c : ℕ) (e : ClassInfo) (l : LoadedEntry classes P c e) → class_at P c ≡ Some e → (k : ℕ) (s : SlotInfo) → slice_get (own_slots P e) k ≡ Some s → SlotOk P c s
  own_ok c e l is k s here =
      let n = length (inherited_slots P e) in
      let among = sym (get_dropped e.slots n k) ∙ here in
      let linked = links.linked.classes c e is in
      record {
        own = eqb-true s.declared_in c (passes_at (λ (s : SlotInfo). s.declared_in == c) (own_slots P e) k s linked.own here);
        known = (and_parts (is_kind_in P s.kind) _ (passes_at (is_slot_linked P) e.slots (n + k) s linked.slots among)).0;
        says = subst (λ (s : SlotInfo). desc (kind_desc P s.kind) s.desc) (get_or_from_slice_get e.slots (n + k) s s among) ((links.entries c l.l e l.at is).slots (n + k) s (slice_get_within e.slots (n + k) s among));
      }

  kind_there : (s : SlotInfo) (c : ℕ) → SlotOk P c s → kind_said O s.desc ≡ Some s.kind
  unfolding kind_said
  kind_there s c ok =
      ap (λ r. option_and_then (kind_of O) (read_desc r)) (reads_desc s.desc (kind_desc P s.kind) ok.says)
      ∙ kinds_alike P O (named P O (classes_are classes P links)) (kind_desc P s.kind) ∙ kind_back P links.linked s.kind ok.known

  slot_is : (c : ℕ) (pool : List PoolEntry) (s : SlotInfo) (f : Field) → SlotOk P c s → slot_texts s ≡ field_texts pool f → slot_of O c pool f ≡ Some s
  unfolding slot_of
  slot_is c pool s f ok texts =
      let name : text_at pool f.name ≡ Some s.name = sym (ap (λ (t : Option (List ℕ) × Option (List ℕ)). t.0) texts) in
      let said : text_at pool f.desc ≡ Some s.desc = sym (ap (λ (t : Option (List ℕ) × Option (List ℕ)). t.1) texts) in
      (λ i. slot_for O c (some_text (name i)) (some_text (said i)))
      ∙ ap (option_map (λ k. record { declared_in = c; name = s.name; desc = s.desc; kind = k })) (kind_there s c ok)
      ∙ ap (λ (n : ℕ). Some (record { declared_in = n; name = s.name; desc = s.desc; kind = s.kind })) (sym ok.own)

  each_slot : (c : ℕ) (pool : List PoolEntry) (ss : List SlotInfo) (fs : List Field) → ((k : ℕ) (s : SlotInfo) → slice_get ss k ≡ Some s → SlotOk P c s) → map slot_texts ss ≡ map (field_texts pool) fs
      → flat_map (λ f. option_to_list (slot_of O c pool f)) fs ≡ ss
  each_slot c pool [] [] ok e = refl
  each_slot c pool [] (f ∷ fs) ok e = absurd cc
  each_slot c pool (s ∷ ss) [] ok e = absurd cc
  each_slot c pool (s ∷ ss) (f ∷ fs) ok e =
      let texts : slot_texts s ≡ field_texts pool f = cc in
      let rest = each_slot c pool ss fs (λ k. ok (suc k)) (cc) in
      (λ i. option_to_list (slot_is c pool s f (ok 0 s refl) texts i) ++ rest i)

  declared_by : (c : ℕ) (e : ClassInfo) (read : Option ClassParts) → class_at P c ≡ Some e → e.read ≡ read → slots_declared O c ≡ option_map_or (slots_read O c) read []
  declared_by c e read is r =
      on_entry P O (classes_are classes P links) (λ (e : ClassInfo). option_map_or (slots_read O c) e.read []) [] (bare_says (λ (e : ClassInfo). option_map_or (slots_read O c) e.read []) (λ e. refl)) c
      ∙ ap (λ o. option_map_or (λ (e : ClassInfo). option_map_or (slots_read O c) e.read []) o []) is ∙ ap (λ o. option_map_or (slots_read O c) o []) r

  drop_none : {X : Type 0} (n : ℕ) → ◌≡◌ {A = List X} (drop n []) []
  drop_none zero = refl
  drop_none (suc n) = refl

  no_own : (b : BuiltIn) → own_slots P (info_of P b) ≡ []
  unfolding built_in_info
  no_own b = drop_none (length (inherited_slots P (info_of P b)))

  unread : (b : BuiltIn) → (info_of P b).read ≡ None
  unfolding built_in_info
  unread b = refl

  own_are : (c : ℕ) (e : ClassInfo) → class_at P c ≡ Some e → slots_declared O c ≡ own_slots P e
  unfolding slots_read
  own_are c e is = elim (entry_cases classes P links c e is) [
    | inl l ↦ declared_by c e (Some l.l.«class») is l.read
        ∙ each_slot c l.l.«class».pool (own_slots P e) (filter (λ (f : Field). not (is_static f.flags)) l.l.«class».fields) (own_ok c e l is) l.read_as.fields
    | inr b ↦ declared_by c e None is (ap (λ (e : ClassInfo). e.read) b.1 ∙ unread b.0) ∙ sym (ap (own_slots P) b.1 ∙ no_own b.0)
  ]

  append_none : {X : Type 0} (xs : List X) → xs ++ [] ≡ xs
  append_none [] = refl
  append_none (x ∷ xs) = ap (λ ys. x ∷ ys) (append_none xs)

  past_head : (b c : Bool) → b ≡ false → (b || c) ≡ true → IsTrue c
  past_head true c e p = absurd cc
  past_head false c e p = p

  -- the slots of the classes upward from c, from the topmost down
  slots_upward : (n c : ℕ) (e : ClassInfo) → class_at P c ≡ Some e → IsTrue (list_any (λ d. d == built_in P Object) (upward P n (Some c))) → flat_map (slots_declared O) (reverse (upward P n (Some c))) ≡ e.slots
  slots_upward zero c e is ends = absurd cc
  slots_upward (suc n) c e is ends =
      let next : super_of P c ≡ e.super_class = ap (option_and_then (λ (e : ClassInfo). e.super_class)) is in
      ap (flat_map (slots_declared O)) (reverse-append (c ∷ []) (upward P n (super_of P c)))
      ∙ flat_map-append (slots_declared O) (reverse (upward P n (super_of P c))) (c ∷ [])
      ∙ (λ i. flat_map (slots_declared O) (reverse (upward P n (next i))) ++ append_none (slots_declared O c) i)
      ∙ (λ i. from_above (slots_upward n) e.super_class refl i ++ own_are c e is i)
      ∙ sym (links.linked.classes c e is).inherited
    where
      none_up : (m : ℕ) → upward P m None ≡ []
      none_up zero = refl
      none_up (suc m) = refl

      from_above : ((c : ℕ) (e : ClassInfo) → class_at P c ≡ Some e → IsTrue (list_any (λ d. d == built_in P Object) (upward P n (Some c))) → flat_map (slots_declared O) (reverse (upward P n (Some c))) ≡ e.slots) → (o : Option ℕ) → e.super_class ≡ o → flat_map (slots_declared O) (reverse (upward P n o)) ≡ option_map_or (slots_of P) o []
      from_above up None s = ap (λ cs. flat_map (slots_declared O) (reverse cs)) (none_up n)
      from_above up (Some s) sup =
          let linked = links.linked.classes c e is in
          let apart : (c == built_in P Object) ≡ false = sym linked.root ∙ ap is_none sup in
          let onward = past_head (c == built_in P Object) _ apart ends in
          let rest = subst (λ o. IsTrue (list_any (λ d. d == built_in P Object) (upward P n o))) (ap (option_and_then (λ (e : ClassInfo). e.super_class)) is ∙ sup) onward in
          let known = subst (λ o. IsTrue (option_map_or (Rattle.nr_linked.specs.Linked.is_super_in P c) o true)) sup linked.super_class in
          let f = get_below P.classes s (ltb-true s (length P.classes) (and_parts (is_class_in P s) _ known).0) in
          up s f.0 f.1 rest ∙ sym (ap (λ o. option_map_or (λ (e : ClassInfo). e.slots) o []) f.1)

  slots_are : (c : ℕ) (e : ClassInfo) → class_at P c ≡ Some e → slots_in O c ≡ e.slots
  unfolding slots_in
  slots_are c e is =
      ap (λ cs. flat_map (slots_declared O) (reverse cs)) (ap (λ n. upward O n (Some c)) (count P O (classes_are classes P links)) ∙ upward_alike P O (classes_are classes P links) (length P.classes) (Some c))
      ∙ slots_upward (length P.classes) c e is (links.linked.classes c e is).ends

  -- ---- the entries

  laid_is : (c : ℕ) (e : ClassInfo) → class_at P c ≡ Some e → laid_class O c (bare_class e) ≡ e
  laid_is c e is = elim (entry_cases classes P links c e is) [
    | inl l ↦ ap (laid_class O c) (bare_loaded e l.l.«class» l.read)
        ∙ ap (λ o. option_map_or (λ (parts : ClassParts). record e { supers = supers_in O c; slots = slots_in O c }) o (record e { supers = []; slots = [] })) l.read
        ∙ (λ i. record e { supers = supers_are c e l is i; slots = slots_are c e is i })
    | inr b ↦ let none = ap (λ (e : ClassInfo). e.read) b.1 ∙ unread b.0 in
        ap (laid_class O c) (bare_built_in e none) ∙ ap (λ o. option_map_or (λ (parts : ClassParts). record e { supers = supers_in O c; slots = slots_in O c }) o e) none
  ]

  -- the classes of the program are those that are laid out
  pub laid_classes : (laid_out O).classes ≡ P.classes
  unfolding laid_out
  laid_classes = same_list (numbered (laid_class O) 0 O.classes) P.classes (λ c.
      let e : 0 + c ≡ c = omega arith in
      numbered_at (laid_class O) 0 O.classes c ∙ (λ i. option_map (laid_class O (e i)) (entry P O (classes_are classes P links) c i)) ∙ of_entry c (class_at P c) refl)
    where
      of_entry : (c : ℕ) (o : Option ClassInfo) → class_at P c ≡ o → option_map (laid_class O c) (option_map bare_class o) ≡ o
      of_entry c None is = refl
      of_entry c (Some e) is = ap (λ e. Some e) (laid_is c e is)
