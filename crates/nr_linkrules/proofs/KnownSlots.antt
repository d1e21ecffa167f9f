-- The slots of the classes that are made where there is no fault.
use Rattle.std.proofs.Common.{◌≡◌, ℕ, zero, suc, ◌+◌, ◌*◌, ◌<◌, ◌≤◌, Bool, true, false, cond, List, [], ◌∷◌, ◌++◌, length, map, drop, refl, sym, ap, subst, ◌∙◌, arith, not, length-append}
use Rattle.std.specs.Prelude.{All, Option, Some, None, Ok, Err, IsTrue, slice_get, ◌==◌, ◌^◌, reverse, is_some, Result}
use Rattle.std.specs.List.{filter, flat_map, list_all}
use Rattle.std.specs.Option.{option_and_then, option_map, option_map_or, option_to_list}
use Rattle.std.specs.Str.{bytes_eq}
use Rattle.std.proofs.Math.Nat.{suc-mul}
use Rattle.std.proofs.Math.Seq.{drop-append_seam}
use Rattle.std.proofs.lemmas.Grind.{flat_map-append}
use Rattle.std.proofs.lemmas.List.{length-reverse, reverse-append}
use Rattle.std.proofs.lemmas.Option.{get_or_from_slice_get, same_Some, slice_get_within}
use Rattle.nr_base.specs.Grammar.{IsBytes}
use Rattle.nr_base.specs.Descs.{desc}
use Rattle.nr_base.specs.DescReading.{desc_of}
use Rattle.nr_base.specs.declared.desc.fault.DescFault.{DescFault}
use Rattle.nr_base.specs.declared.desc.types.Desc.{Desc}
use Rattle.nr_base.specs.declared.desc.types.DescBase.{DescBase}
use Rattle.nr_base.specs.declared.desc.types.DescBase.TheVariants as desc_bases
use Rattle.nr_prog.specs.declared.body.loaded.Loaded.{Loaded}
use Rattle.nr_prog.specs.declared.member.Field.{Field}
use Rattle.nr_prog.specs.declared.parts.ClassParts.{ClassParts}
use Rattle.nr_prog.specs.declared.pool.PoolEntry.{PoolEntry}
use Rattle.nr_prog.specs.Form.{IsFieldFormed}
use Rattle.nr_prog.specs.Legal.{IsFieldDesc, IsFieldText}
use Rattle.nr_prog.specs.Members.{is_static}
use Rattle.nr_prog.specs.Pool.{IsText, text_at}
use Rattle.nr_prog.proofs.Spelled.{text_bytes}
use Rattle.nr_instrs.proofs.Facts.{desc_is, reads_desc}
use Rattle.nr_linked.specs.declared.program.kind.Base.{Base}
use Rattle.nr_linked.specs.declared.program.kind.Base.TheVariants as bases
use Rattle.nr_linked.specs.declared.program.kind.Kind.{Kind}
use Rattle.nr_linked.specs.declared.program.tables.ClassInfo.{ClassInfo}
use Rattle.nr_linked.specs.declared.program.tables.ProgramTables.{ProgramTables}
use Rattle.nr_linked.specs.declared.program.tables.SlotInfo.{SlotInfo}
use Rattle.nr_linked.specs.BuiltIns.{built_in_count}
use Rattle.nr_linked.specs.KindTexts.{kind_desc}
use Rattle.nr_linked.specs.Linked.{field_texts, inherited_slots, is_kind_in, own_slots, slot_texts}
use Rattle.nr_linked.specs.Programs.{class_at, super_of, superclasses, upward}
use Rattle.nr_linked.specs.Slots.{slots_of}
use Rattle.nr_links.specs.Entries.{method_count}
use Rattle.nr_linked.proofs.Elements.{get_flat, get_mapped, some_of}
use Rattle.nr_linkrules.specs.ClassRules.{base_fault, desc_fault, field_fault, members_fault, type_in}
use Rattle.nr_linkrules.specs.Faults.{first_of}
use Rattle.nr_linkrules.specs.Layout.{base_of, kind_of, kind_said, read_desc, slot_for, slot_of, slots_declared, slots_in, slots_read}
use Rattle.nr_linkrules.specs.LinkFaults.{link_fault}
use Rattle.nr_linkrules.specs.Outline.{bare_class, outline_class, some_text}
use Rattle.nr_linkrules.specs.Readable.{IsReadable}
use Rattle.nr_linkrules.specs.Reaches.{HasSteps}
use Rattle.nr_linkrules.proofs.Alike as alike
use Rattle.nr_linkrules.proofs.Inherited.{inherits}
use Rattle.nr_linkrules.proofs.Known as known
use Rattle.nr_linkrules.proofs.KnownAbove as above
use Rattle.nr_linkrules.proofs.Learnt as learnt
use Rattle.nr_linkrules.proofs.MemberParts.{members_kept}
use Rattle.nr_linkrules.proofs.Naming.{kind_says}
use Rattle.nr_linkrules.proofs.NoFault.{both_none, each_of}
use Rattle.nr_linkrules.proofs.Program as program
use Rattle.nr_linkrules.proofs.Shifted as shifted

-- ---- lists

none_reversed : {X Y : Type 0} (f : X → List Y) (xs : List X) → ((k : ℕ) (x : X) → slice_get xs k ≡ Some x → f x ≡ []) → flat_map f (reverse xs) ≡ []
none_reversed f [] h = refl
none_reversed f (x ∷ xs) h =
    ap (flat_map f) (reverse-append (x ∷ []) xs) ∙ flat_map-append f (reverse xs) (x ∷ [])
    ∙ (λ i. none_reversed f xs (λ k. h (suc k)) i ++ (h 0 x refl i ++ []))

of_list : {X : Type 0} (o : Option X) (j : ℕ) (x : X) → slice_get (option_to_list o) j ≡ Some x → o ≡ Some x
of_list None j x e = absurd cc
of_list (Some y) zero x e = e
of_list (Some y) (suc j) x e = absurd cc

few_each : {X Y : Type 0} (f : X → List Y) (b : ℕ) (xs : List X) → ((x : X) → length (f x) ≤ b) → length (flat_map f xs) ≤ length xs * b
few_each f b [] few = omega arith
few_each f b (x ∷ xs) few =
    let rest = few_each f b xs few in
    let here = few x in
    let sum = length-append (f x) (flat_map f xs) in
    let product = suc-mul (length xs) b in
    omega (arith, rest, here, sum, product)

few_kept : {X : Type 0} (p : X → Bool) (xs : List X) → length (filter p xs) ≤ length xs
few_kept p [] = omega arith
few_kept p (x ∷ xs) = by_test (p x) (few_kept p xs)
  where
    by_test : (b : Bool) → length (filter p xs) ≤ length xs → length (cond b (x ∷ filter p xs) (filter p xs)) ≤ length (x ∷ xs)
    by_test true le = omega (arith, le)
    by_test false le = omega (arith, le)

one_each : {X : Type 0} (o : Option X) → length (option_to_list o) ≤ 1
one_each None = omega arith
one_each (Some x) = omega arith

few_upward : (P : ProgramTables) (k : ℕ) (o : Option ℕ) → length (upward P k o) ≤ k
few_upward P zero o = omega arith
few_upward P (suc k) None = omega arith
few_upward P (suc k) (Some c) = let rest = few_upward P k (super_of P c) in omega (arith, rest)

module _ (classes : List Loaded) (none : link_fault classes ≡ None) (all : All IsReadable classes) where
  abbrev O : ProgramTables
  O = known.O classes none all

  abbrev P : ProgramTables
  P = known.P classes none all

  abbrev n : ℕ
  n = length classes

  same : map bare_class P.classes ≡ O.classes
  same = program.bare_classes classes

  -- ---- the outline has the same classes above

  outline_steps : HasSteps O
  outline_steps c s p =
      let more = alike.count P O same in
      let lt = above.has_steps classes none all c s (subst (λ ss. IsTrue (Rattle.std.specs.List.list_any (λ t. t == s) ss)) (alike.steps P O same c) p) in
      omega (arith, more, lt)

  outline_apart : (c : ℕ) → Rattle.nr_linkrules.specs.ClassRules.is_above_itself O c ≡ false
  outline_apart c = alike.above_itself P O same c ∙ above.apart classes none all c

  upward_same : (c : ℕ) → superclasses O c ≡ superclasses P c
  upward_same c = ap (λ k. upward O k (Some c)) (alike.count P O same) ∙ alike.upward_alike P O same (length P.classes) (Some c)

  -- ---- the slots that a class declares

  pub declared_loaded : (k : ℕ) (l : Loaded) → slice_get classes k ≡ Some l → slots_declared O k ≡ slots_read O k l.«class»
  unfolding outline_class
  declared_loaded k l at = ap (λ o. option_map_or (λ (e : ClassInfo). option_map_or (slots_read O k) e.read []) o []) (known.outline_at classes none all k l at)

  declared_built_in : (j : ℕ) → slots_declared O (n + j) ≡ []
  declared_built_in j =
      alike.on_entry P O same (λ (e : ClassInfo). option_map_or (slots_read O (n + j)) e.read []) [] (alike.bare_says (λ (e : ClassInfo). option_map_or (slots_read O (n + j)) e.read []) (λ e. refl)) (n + j)
      ∙ of_entry (class_at P (n + j)) refl
    where
      unread : (o : Option ClassParts) → is_some o ≡ false → option_map_or (slots_read O (n + j)) o [] ≡ []
      unread None e = refl
      unread (Some parts) e = absurd cc

      of_entry : (o : Option ClassInfo) → class_at P (n + j) ≡ o → option_map_or (λ (e : ClassInfo). option_map_or (slots_read O (n + j)) e.read []) o [] ≡ []
      of_entry None is = refl
      of_entry (Some e) is = unread e.read ((above.built_in_linked classes none all j e is).read ∙ shifted.not_loaded_there P n (method_count classes) (program.class_count classes) (above.class_there classes none all) (above.method_there classes none all) j)

  slots_built_in : (j : ℕ) → slots_in O (n + j) ≡ []
  unfolding slots_in
  slots_built_in j = none_reversed (slots_declared O) (superclasses O (n + j)) (λ k d at.
      let r = get_mapped (λ a. n + a) (upward Rattle.nr_linked.specs.BuiltInTables.built_in_tables (length P.classes) (Some j)) k d
      (sym (ap (λ cs. slice_get cs k) (upward_same (n + j) ∙ shifted.upward_there P n (method_count classes) (program.class_count classes) (above.class_there classes none all) (above.method_there classes none all) (length P.classes) (Some j))) ∙ at) in
      ap (slots_declared O) r.2 ∙ declared_built_in r.0)

  pub slots_there : (c : ℕ) → slots_of P c ≡ slots_in O c
  slots_there c = of_kind (above.kind classes none all c)
    where
      of_kind : {c : ℕ} → above.Kind classes none all c → slots_of P c ≡ slots_in O c
      of_kind (above.loaded k l at) = ap (λ o. option_map_or (λ (e : ClassInfo). e.slots) o []) (above.is_entry classes none all k l at)
      of_kind (above.built_in_at j) = shifted.no_slots_there P n (method_count classes) (program.class_count classes) (above.class_there classes none all) (above.method_there classes none all) j ∙ sym (slots_built_in j)

  -- ---- of a class that was loaded

  module _ (k : ℕ) (l : Loaded) (at : slice_get classes k ≡ Some l) where
    abbrev e : ClassInfo
    e = program.entry_of classes k l

    abbrev s : ℕ
    s = above.Named.number (above.super_is classes none all k l at)

    super_here : super_of O k ≡ Some s
    super_here = alike.supers_alike P O same k ∙ ap (option_and_then (λ (e : ClassInfo). e.super_class)) (above.is_entry classes none all k l at) ∙ above.super_class classes none all k l at

    slots_are : slots_in O k ≡ slots_in O s ++ slots_read O k l.«class»
    slots_are =
        let more = alike.count P O same in
        let w = slice_get_within P.classes k e (above.is_entry classes none all k l at) in
        inherits O outline_steps outline_apart k s (omega (arith, w, more)) super_here ∙ ap (λ ss. slots_in O s ++ ss) (declared_loaded k l at)

    inherited_are : inherited_slots P e ≡ slots_in O s
    inherited_are = ap (λ o. option_map_or (slots_of P) o []) (above.super_class classes none all k l at) ∙ slots_there s

    pub own_are : own_slots P e ≡ slots_read O k l.«class»
    own_are = (λ i. drop (length (inherited_are i)) (slots_are i)) ∙ drop-append_seam (slots_in O s) (slots_read O k l.«class»)

    pub inherited : e.slots ≡ inherited_slots P e ++ own_slots P e
    inherited = slots_are ∙ (λ i. sym inherited_are i ++ sym own_are i)

  -- ---- fields

  base_known : (b : DescBase) → base_fault O b ≡ None → (base : Base) × (base_of O b ≡ Some base)
  base_known desc_bases.Bool e = (bases.Bool, refl)
  base_known desc_bases.Byte e = (bases.Byte, refl)
  base_known desc_bases.Char e = (bases.Char, refl)
  base_known desc_bases.Short e = (bases.Short, refl)
  base_known desc_bases.Int e = (bases.Int, refl)
  base_known desc_bases.Long e = (bases.Long, refl)
  base_known (desc_bases.Object name) e = let c = above.named_is classes none all name e in (bases.Object c.0, ap (option_map (λ c. bases.Object c)) (alike.named P O same name ∙ c.1))

  pub kind_known : (d : Desc) → desc_fault O d ≡ None → (k : Kind) × (kind_of O d ≡ Some k)
  kind_known d e = let b = base_known d.base e in (record { dims = d.dims; base = b.0 }, ap (option_map (λ b. record { dims = d.dims; base = b })) b.1)

  pub kind_of_same : (d : Desc) → kind_of O d ≡ kind_of P d
  kind_of_same d = alike.kinds_alike P O (alike.named P O same) d

  -- what a field is laid out by
  pub record FieldKnown (pool : List PoolEntry) (f : Field) : Type 0 where
    pub name : List ℕ
    pub text : List ℕ
    pub named : text_at pool f.name ≡ Some name
    pub described : text_at pool f.desc ≡ Some text
    pub desc : Desc
    pub spelled : Rattle.nr_base.specs.Descs.desc desc text
    pub kind : Kind
    pub is_kind : kind_of O desc ≡ Some kind

  field_known : (pool : List PoolEntry) (f : Field) → IsFieldFormed pool f → field_fault O pool f.desc ≡ None → FieldKnown pool f
  unfolding field_fault first_of
  field_known pool f formed e =
      let name = some_of IsFieldText (text_at pool f.name) formed.name in
      let text = some_of IsFieldDesc (text_at pool f.desc) formed.desc in
      let found = ap (λ o. first_of (desc_fault O) (type_in (desc_of (some_text o)))) text.1 ∙ ap (λ r. first_of (desc_fault O) (type_in r)) (reads_desc text.0 text.2.0 text.2.1) in
      let k = kind_known text.2.0 (both_none _ _ (sym found ∙ e)).0 in
      record { name = name.0; text = text.0; named = name.1; described = text.1; desc = text.2.0; spelled = text.2.1; kind = k.0; is_kind = k.1 }

  no_field_fault : (k : ℕ) (l : Loaded) → slice_get classes k ≡ Some l → first_of (λ (f : Field). field_fault O l.«class».pool f.desc) l.«class».fields ≡ None
  no_field_fault k l at = (members_kept O k (known.outlined classes none all k l) l.«class» (known.each_class classes none all (members_fault O) (known.passed classes none all).members k l at)).fields

  pub fields_known : (k : ℕ) (l : Loaded) → slice_get classes k ≡ Some l → All (FieldKnown l.«class».pool) l.«class».fields
  fields_known k l at i d lt =
      let f = Rattle.nr_linked.proofs.Elements.get_below l.«class».fields i lt in
      let here = get_or_from_slice_get l.«class».fields i f.0 d f.1 in
      subst (FieldKnown l.«class».pool) (sym here) (field_known l.«class».pool f.0
      (subst (IsFieldFormed l.«class».pool) here ((above.formed classes none all k l at).fields i d lt))
      (each_of (λ (f : Field). field_fault O l.«class».pool f.desc) l.«class».fields (no_field_fault k l at) i f.0 f.1))

  slot_there : (c : ℕ) (pool : List PoolEntry) (f : Field) (h : FieldKnown pool f) → slot_of O c pool f ≡ Some (record { declared_in = c; name = h.name; desc = h.text; kind = h.kind })
  unfolding slot_of kind_said
  slot_there c pool f h =
      (λ i. slot_for O c (some_text (h.named i)) (some_text (h.described i)))
      ∙ ap (option_map (λ k. record { declared_in = c; name = h.name; desc = h.text; kind = k })) (ap (λ r. option_and_then (kind_of O) (read_desc r)) (reads_desc h.text h.desc h.spelled) ∙ h.is_kind)

  pub texts_are : (c : ℕ) (pool : List PoolEntry) (fs : List Field) → All (FieldKnown pool) fs → map slot_texts (flat_map (λ f. option_to_list (slot_of O c pool f)) fs) ≡ map (field_texts pool) fs
  texts_are c pool [] h = refl
  texts_are c pool (f ∷ fs) h =
      let here = h 0 f (omega arith) in
      ap (λ o. map slot_texts (option_to_list o ++ flat_map (λ f. option_to_list (slot_of O c pool f)) fs)) (slot_there c pool f here)
      ∙ (λ i. (sym here.named i, sym here.described i) ∷ texts_are c pool fs (λ k d lt. h (suc k) d (omega (arith, lt))) i)

  -- ---- what is known of each slot

  pub record SlotKnown (s : SlotInfo) : Type 0 where
    pub known : IsTrue (is_kind_in P s.kind)
    pub says : desc (kind_desc P s.kind) s.desc

  text_bytes_at : (pool : List PoolEntry) → All IsText pool → (i : ℕ) → IsBytes (some_text (text_at pool i))
  text_bytes_at pool texts i = of_text (text_at pool i) refl
    where
      of_text : (o : Option (List ℕ)) → text_at pool i ≡ o → IsBytes (some_text o)
      of_text None e = λ k. omega arith
      of_text (Some t) e = text_bytes pool i t texts e

  slot_said : (c : ℕ) (name text : List ℕ) (s : SlotInfo) → IsBytes text → slot_for O c name text ≡ Some s → SlotKnown s × (s.declared_in ≡ c)
  unfolding kind_said
  slot_said c name text s fits e = of_read (desc_of text) refl e
    where
      of_kind : (d : Desc) → desc d text → (o : Option Kind) → kind_of O d ≡ o → ◌≡◌ {A = Option SlotInfo} (option_map (λ k. record { declared_in = c; name = name; desc = text; kind = k }) o) (Some s) → SlotKnown s × (s.declared_in ≡ c)
      of_kind d g None is e = absurd cc
      of_kind d g (Some k) is e =
          let slot : record { declared_in = c; name = name; desc = text; kind = k } ≡ s = same_Some (record { declared_in = c; name = name; desc = text; kind = k }) s e in
          let says = kind_says P d k (sym (kind_of_same d) ∙ is) in
          (subst SlotKnown slot (record { known = says.1; says = subst (λ d. desc d text) (sym says.0) g }), ap (λ (s : SlotInfo). s.declared_in) (sym slot))

      of_read : (r : Result Desc DescFault) → desc_of text ≡ r → ◌≡◌ {A = Option SlotInfo} (option_map (λ k. record { declared_in = c; name = name; desc = text; kind = k }) (option_and_then (kind_of O) (read_desc r))) (Some s) → SlotKnown s × (s.declared_in ≡ c)
      of_read (Ok d) is e = of_kind d (desc_is text d fits is) (kind_of O d) refl e
      of_read (Err f) is e = absurd cc

  pub read_known : (k : ℕ) (l : Loaded) → slice_get classes k ≡ Some l → (j : ℕ) (s : SlotInfo) → slice_get (slots_read O k l.«class») j ≡ Some s → SlotKnown s × (s.declared_in ≡ k)
  unfolding slots_read slot_of
  read_known k l at j s here =
      let r = get_flat (λ (f : Field). option_to_list (slot_of O k l.«class».pool f)) (filter (λ (f : Field). not (is_static f.flags)) l.«class».fields) j s here in
      slot_said k _ (some_text (text_at l.«class».pool r.1.desc)) s (text_bytes_at l.«class».pool (known.readable classes none all k l at).texts r.1.desc) (of_list (slot_of O k l.«class».pool r.1) r.2 s r.4)

  declared_known : (d j : ℕ) (s : SlotInfo) → slice_get (slots_declared O d) j ≡ Some s → SlotKnown s
  declared_known d j s here = of_kind (above.kind classes none all d) here
    where
      of_kind : {d : ℕ} → above.Kind classes none all d → slice_get (slots_declared O d) j ≡ Some s → SlotKnown s
      of_kind (above.loaded k l at) here = (read_known k l at j s (ap (λ ss. slice_get ss j) (sym (declared_loaded k l at)) ∙ here)).0
      of_kind (above.built_in_at i) here = let clash = ap (λ ss. slice_get ss j) (sym (declared_built_in i)) ∙ here in absurd cc

  pub slots_known : (c j : ℕ) (s : SlotInfo) → slice_get (slots_in O c) j ≡ Some s → SlotKnown s
  unfolding slots_in
  slots_known c j s here = let r = get_flat (slots_declared O) (reverse (superclasses O c)) j s here in declared_known r.1 r.2 s r.4

  -- ---- how many

  few_read : (k : ℕ) (l : Loaded) → slice_get classes k ≡ Some l → length (slots_read O k l.«class») ≤ 65536
  unfolding slots_read
  few_read k l at =
      let kept = filter (λ (f : Field). not (is_static f.flags)) l.«class».fields in
      let each = few_each (λ (f : Field). option_to_list (slot_of O k l.«class».pool f)) 1 kept (λ f. one_each (slot_of O k l.«class».pool f)) in
      let few = few_kept (λ (f : Field). not (is_static f.flags)) l.«class».fields in
      let bound = (known.readable classes none all k l at).few_fields in
      omega (arith, each, few, bound)

  few_declared : (d : ℕ) → length (slots_declared O d) ≤ 65536
  few_declared d = of_kind (above.kind classes none all d)
    where
      of_kind : {d : ℕ} → above.Kind classes none all d → length (slots_declared O d) ≤ 65536
      of_kind (above.loaded k l at) = subst (λ ss. length ss ≤ 65536) (sym (declared_loaded k l at)) (few_read k l at)
      of_kind (above.built_in_at j) = subst (λ ss. length ss ≤ 65536) (sym (declared_built_in j)) (omega arith)

  pub few : (k : ℕ) → length (slots_in O k) < 2 ^ 32
  unfolding slots_in
  few k =
      let each = few_each (slots_declared O) 65536 (reverse (superclasses O k)) few_declared in
      let same_length = length-reverse (superclasses O k) in
      let up = few_upward O (length O.classes) (Some k) in
      let more = alike.count P O same in
      let total = program.class_count classes in
      let few_classes = learnt.few classes (known.passed classes none all).list in
      let bound : length (reverse (superclasses O k)) ≤ 1024 + built_in_count = omega (arith, same_length, up, more, total, few_classes) in
      omega (arith, each, bound)
