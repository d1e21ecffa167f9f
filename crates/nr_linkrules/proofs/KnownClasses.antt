-- Each class that was loaded is linked in the program that classes make where they have no fault.
use Rattle.std.proofs.Common.{◌≡◌, ℕ, suc, ◌+◌, ◌-◌, ◌<◌, Bool, true, false, List, [], ◌∷◌, length, map, take, refl, sym, ap, subst, ◌∙◌, arith, inl, inr, not}
use Rattle.std.specs.Prelude.{All, Option, Some, None, IsTrue, slice_get, ◌==◌, is_none}
use Rattle.std.specs.List.{filter, list_all, range_with_len}
use Rattle.std.specs.Option.{option_map, option_map_or}
use Rattle.std.specs.Str.{bytes_eq}
use Rattle.std.proofs.lemmas.Bool.{and_from, cases_lt, eq-eqb, eqb-true, false_from_ne_true, lt-ltb}
use Rattle.std.proofs.lemmas.List.Elements.{All-filter}
use Rattle.std.proofs.lemmas.List.{length-map}
use Rattle.std.proofs.lemmas.Option.{get_or_from_slice_get, slice_get-map, slice_get_past, slice_get_within}
use Rattle.std.proofs.lemmas.Slice.Eq.{bytes_eq-Decides}
use Rattle.nr_prog.specs.declared.body.loaded.Loaded.{Loaded}
use Rattle.nr_prog.specs.declared.body.whole.Body.{Body}
use Rattle.nr_prog.specs.declared.member.Field.{Field}
use Rattle.nr_prog.specs.declared.member.Method.{Method}
use Rattle.nr_prog.specs.Form.{IsMethodFormed}
use Rattle.nr_prog.specs.Legal.{IsMethodDesc, IsMethodText}
use Rattle.nr_prog.specs.Members.{is_static}
use Rattle.nr_prog.specs.Pool.{text_at}
use Rattle.nr_linked.specs.declared.program.built_in.BuiltIn.TheVariants.{Object}
use Rattle.nr_linked.specs.declared.program.tables.ClassInfo.{ClassInfo}
use Rattle.nr_linked.specs.declared.program.tables.MethodInfo.{MethodInfo}
use Rattle.nr_linked.specs.declared.program.tables.ProgramTables.{ProgramTables}
use Rattle.nr_linked.specs.declared.program.tables.SlotInfo.{SlotInfo}
use Rattle.nr_linked.specs.BuiltIns.{built_in}
use Rattle.nr_linked.specs.KindTexts.{kind_text}
use Rattle.nr_linked.specs.Linked.{IsClassLinked, IsReadAs, Texts, is_kind_in, is_loaded, is_method_of, is_slot_linked, method_texts, own_slots, read_texts}
use Rattle.nr_linked.specs.Programs.{class_at, method_at, methods_of}
use Rattle.nr_links.specs.Entries.{method_count}
use Rattle.nr_links.proofs.OneNames.{same_list}
use Rattle.nr_linked.proofs.Elements.{get_below, get_range, range_at, some_of}
use Rattle.nr_linkrules.specs.Completion.{completed}
use Rattle.nr_linkrules.specs.Layout.{slots_read}
use Rattle.nr_linkrules.specs.LinkFaults.{link_fault}
use Rattle.nr_linkrules.specs.Outline.{outline_class, outline_method, some_text}
use Rattle.nr_linkrules.specs.Readable.{IsReadable}
use Rattle.nr_linkrules.proofs.Known as known
use Rattle.nr_linkrules.proofs.KnownAbove as above
use Rattle.nr_linkrules.proofs.KnownSlots as slots
use Rattle.nr_linkrules.proofs.NameLaws as names
use Rattle.nr_linkrules.proofs.OutlinedMethods.{one_body_each}
use Rattle.nr_linkrules.proofs.Program as program

pub all_of : {X : Type 0} (f : X → Bool) (xs : List X) → ((k : ℕ) (x : X) → slice_get xs k ≡ Some x → IsTrue (f x)) → IsTrue (list_all f xs)
all_of f [] h = refl
all_of f (x ∷ xs) h = and_from (f x) (list_all f xs) (h 0 x refl) (all_of f xs (λ k. h (suc k)))

module _ (classes : List Loaded) (none : link_fault classes ≡ None) (all : All IsReadable classes) where
  abbrev P : ProgramTables
  P = known.P classes none all

  abbrev L : ProgramTables
  L = known.L classes none all

  module _ (k : ℕ) (l : Loaded) (at : slice_get classes k ≡ Some l) where
    abbrev e : ClassInfo
    e = program.entry_of classes k l

    abbrev first : ℕ
    first = method_count (take k classes)

    abbrev is_entry : class_at P k ≡ Some e
    is_entry = above.is_entry classes none all k l at

    -- ---- methods

    -- the method at a place
    pub record Declared (place : ℕ) (m : Method) : Type 0 where
      pub name : List ℕ
      pub text : List ℕ
      pub named : text_at l.«class».pool m.name ≡ Some name
      pub described : text_at l.«class».pool m.desc ≡ Some text
      pub says : Rattle.nr_base.specs.declared.desc.types.MethodDesc.MethodDesc
      pub spelled : Rattle.nr_base.specs.Descs.method_desc says text
      pub decoded : Option Body
      pub decodes : slice_get l.bodies place ≡ Some decoded
      pub formed : IsMethodFormed l.«class».pool m

    pub declared : (place : ℕ) (m : Method) → slice_get l.«class».methods place ≡ Some m → Declared place m
    declared place m there =
        let w = slice_get_within l.«class».methods place m there in
        let formed = subst (IsMethodFormed l.«class».pool) (get_or_from_slice_get l.«class».methods place m m there) ((above.formed classes none all k l at).methods place m w) in
        let name = some_of IsMethodText (text_at l.«class».pool m.name) formed.name in
        let text = some_of IsMethodDesc (text_at l.«class».pool m.desc) formed.desc in
        let one = one_body_each l (known.readable classes none all k l at).decoded in
        let body = get_below l.bodies place (omega (arith, w, one)) in
        record { name = name.0; text = text.0; named = name.1; described = text.1; says = text.2.0; spelled = text.2.1; decoded = body.0; decodes = body.1; formed = formed }

    pub method_here : (place : ℕ) (m : Method) (decoded : Option Body) → slice_get l.«class».methods place ≡ Some m → slice_get l.bodies place ≡ Some decoded
        → method_at P (first + place) ≡ Some (completed L (outline_method k l.«class».pool (m, decoded)))
    method_here place m decoded there decodes = program.method_at_loaded classes (known.decoded classes none all) k l place m decoded at there decodes

    pub methods_are : methods_of P k ≡ range_with_len first (length l.«class».methods)
    unfolding outline_class
    methods_are = ap (λ o. option_map_or (λ (e : ClassInfo). range_with_len e.first_method e.methods) o []) is_entry

    texts_at : (place : ℕ) (m : Method) → slice_get l.«class».methods place ≡ Some m → method_texts P (first + place) ≡ read_texts l.«class».pool m
    unfolding completed outline_method
    texts_at place m there =
        let d = declared place m there in
        ap (option_map (λ (i : MethodInfo). ((Some i.name, Some i.desc), i.flags))) (method_here place m d.decoded there d.decodes)
        ∙ (λ i. Some ((Some (some_text (d.named i)), Some (some_text (d.described i))), m.flags)) ∙ (λ i. Some ((sym d.named i, sym d.described i), m.flags))

    pub texts_are : map (method_texts P) (methods_of P k) ≡ map (read_texts l.«class».pool) l.«class».methods
    texts_are = ap (map (method_texts P)) methods_are ∙ same_list (map (method_texts P) (range_with_len first (length l.«class».methods))) (map (read_texts l.«class».pool) l.«class».methods) (λ j. elim (cases_lt j (length l.«class».methods)) [
      | inl lt ↦ let m = get_below l.«class».methods j lt in
          slice_get-map (method_texts P) (range_with_len first (length l.«class».methods)) j ∙ ap (option_map (method_texts P)) (range_at first (length l.«class».methods) j lt)
          ∙ ap (λ t. Some t) (texts_at j m.0 m.1) ∙ sym (slice_get-map (read_texts l.«class».pool) l.«class».methods j ∙ ap (option_map (read_texts l.«class».pool)) m.1)
      | inr past ↦
          let a = length-map (range_with_len first (length l.«class».methods)) (method_texts P) in
          let b = length-map l.«class».methods (read_texts l.«class».pool) in
          let c = Rattle.std.proofs.lemmas.List.FromFn.length-range_with_len first (length l.«class».methods) in
          slice_get_past (map (method_texts P) (range_with_len first (length l.«class».methods))) j (omega (arith, past, a, c))
          ∙ sym (slice_get_past (map (read_texts l.«class».pool) l.«class».methods) j (omega (arith, past, b)))
    ])

    own_class : (m : Method) (decoded : Option Body) → IsTrue ((completed L (outline_method k l.«class».pool (m, decoded))).«class» == k)
    unfolding completed outline_method
    own_class m decoded = eq-eqb k k refl

    methods_own : IsTrue (list_all (is_method_of P k) (methods_of P k))
    methods_own = ap (list_all (is_method_of P k)) methods_are ∙ all_of (is_method_of P k) (range_with_len first (length l.«class».methods)) (λ j x there.
        let r = get_range first (length l.«class».methods) j x there in
        let m = get_below l.«class».methods j r.1 in
        let d = declared j m.0 m.1 in
        own_at (first + j) x r.0 m.0 d.decoded (method_here j m.0 d.decoded m.1 d.decodes))
      where
        own_at : (y x : ℕ) → x ≡ y → (m : Method) (decoded : Option Body) → method_at P y ≡ Some (completed L (outline_method k l.«class».pool (m, decoded))) → IsTrue (is_method_of P k x)
        own_at y x same m decoded here = ap (is_method_of P k) same ∙ ap (λ o. option_map_or (λ (i : MethodInfo). i.«class» == k) o false) here ∙ own_class m decoded

    -- ---- the class

    below : k < length classes
    below = slice_get_within classes k l at

    is_below : is_loaded P k ≡ true
    is_below = let total = program.class_count classes in lt-ltb k (length P.classes - Rattle.nr_linked.specs.BuiltIns.built_in_count) (omega (arith, below, total))

    not_object : (k == built_in P Object) ≡ false
    not_object = let total = program.class_count classes in false_from_ne_true (k == built_in P Object) (λ e. let same = eqb-true k (built_in P Object) e in let lt = below in omega (arith, lt, total, same))

    slot_linked : (s : SlotInfo) → slots.SlotKnown classes none all s → IsTrue (is_slot_linked P s)
    slot_linked s h = and_from (is_kind_in P s.kind) (bytes_eq s.desc (kind_text P s.kind)) h.known ((bytes_eq-Decides s.desc (kind_text P s.kind)).1 h.says.1)

    fields_are : map Rattle.nr_linked.specs.Linked.slot_texts (slots_read (known.O classes none all) k l.«class») ≡ map (Rattle.nr_linked.specs.Linked.field_texts l.«class».pool) (filter (λ (f : Field). not (is_static f.flags)) l.«class».fields)
    unfolding slots_read
    fields_are = slots.texts_are classes none all k l.«class».pool (filter (λ (f : Field). not (is_static f.flags)) l.«class».fields)
        (All-filter (λ (f : Field). not (is_static f.flags)) (slots.FieldKnown classes none all l.«class».pool) l.«class».fields (slots.fields_known classes none all k l at))

    read_as : IsReadAs P k e l.«class»
    unfolding outline_class
    read_as = record {
      name = let t = names.named l.«class».pool l.«class».this_class (above.formed classes none all k l at).this in t.1 ∙ ap (λ o. Some (some_text o)) (sym t.1);
      flags = refl;
      super_class = ap (option_map (Rattle.nr_linked.specs.KindTexts.class_name P)) (above.super_class classes none all k l at) ∙ sym (above.Named.text (above.super_is classes none all k l at));
      interfaces = above.interfaces_are classes none all k l at;
      fields = ap (map Rattle.nr_linked.specs.Linked.slot_texts) (slots.own_are classes none all k l at) ∙ fields_are;
      methods = texts_are;
    }

    pub class_linked : IsClassLinked P k e
    unfolding outline_class
    class_linked = record {
      name = known.own_number classes none all k l at;
      read = sym is_below;
      read_as = read_as;
      root = ap is_none (above.super_class classes none all k l at) ∙ sym not_object;
      super_class = above.super_fits classes none all k l at;
      interfaces = above.interfaces_fit classes none all k l at;
      ends = above.ends classes none all k (slice_get_within P.classes k e is_entry);
      supers = above.supers classes none all k l at;
      inherited = slots.inherited classes none all k l at;
      own = ap (list_all (λ (s : SlotInfo). s.declared_in == k)) (slots.own_are classes none all k l at)
          ∙ all_of (λ (s : SlotInfo). s.declared_in == k) (slots_read (known.O classes none all) k l.«class») (λ j s here. eq-eqb s.declared_in k (slots.read_known classes none all k l at j s here).1);
      slots = all_of (is_slot_linked P) e.slots (λ j s here. slot_linked s (slots.slots_known classes none all k j s here));
      few_slots = slots.few classes none all k;
      methods = methods_own;
    }
