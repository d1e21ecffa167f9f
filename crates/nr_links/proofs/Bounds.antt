-- The names of what classes link to are legal and short, and their methods have few parameters and handlers.
use Rattle.std.proofs.Common.{◌≡◌, ℕ, zero, suc, ◌+◌, ◌<◌, ◌≤◌, ◌^◌, inl, inr, Bool, true, false, List, [], ◌∷◌, length, map, drop, refl, sym, ap, subst, ◌∙◌, arith, not}
use Rattle.std.specs.Prelude.{Option, Some, None, All, IsSomeAnd, slice_get, ◌==◌, if◌then◌else◌}
use Rattle.std.specs.List.{filter}
use Rattle.std.specs.Option.{option_map, option_map_or}
use Rattle.std.proofs.lemmas.List.{length-map}
use Rattle.std.proofs.lemmas.List.Sums.{sum_by-cons}
use Rattle.std.proofs.lemmas.Option.{same_Some, slice_get-map}
use Rattle.nr_base.specs.Descs.{slots, slots_of as places_of}
use Rattle.nr_base.specs.declared.desc.types.Desc.{Desc}
use Rattle.nr_base.specs.declared.desc.types.DescBase.{DescBase}
use Rattle.nr_base.specs.declared.desc.types.DescBase.TheVariants as desc_bases
use Rattle.nr_prog.specs.declared.body.loaded.Loaded.{Loaded}
use Rattle.nr_prog.specs.declared.body.whole.Body.{Body}
use Rattle.nr_prog.specs.declared.member.Field.{Field}
use Rattle.nr_prog.specs.declared.member.Method.{Method}
use Rattle.nr_prog.specs.declared.pool.PoolEntry.{PoolEntry}
use Rattle.nr_prog.specs.declared.pool.PoolEntry.TheVariants.{Utf8, Class}
use Rattle.nr_prog.specs.BodyNames.{class_text_at, class_text_in}
use Rattle.nr_prog.specs.Form.{IsClassOf, NamesClass, handler_count}
use Rattle.nr_prog.specs.Legal.{IsClassText}
use Rattle.nr_prog.specs.Members.{is_static}
use Rattle.nr_prog.specs.Pool.{entry_at, text_at, text_in, text_len}
use Rattle.nr_linked.specs.declared.program.tables.ClassInfo.{ClassInfo}
use Rattle.nr_linked.specs.declared.program.tables.MethodInfo.{MethodInfo}
use Rattle.nr_linked.specs.declared.program.tables.ProgramTables.{ProgramTables}
use Rattle.nr_linked.specs.declared.program.tables.SlotInfo.{SlotInfo}
use Rattle.nr_linked.specs.BuiltIns.{number}
use Rattle.nr_linked.specs.Facts.{ClassTexts, MethodBounds}
use Rattle.nr_linked.specs.KindTexts.{kind_desc}
use Rattle.nr_linked.specs.Linked.{Texts, field_texts, first_built_in, first_built_in_method, handlers_of, own_slots, slot_texts}
use Rattle.nr_linked.specs.Programs.{class_at, method_at}
use Rattle.nr_linked.specs.Slots.{slots_of}
use Rattle.nr_linked.proofs.BuiltInTexts.{built_in_bounds, built_in_texts}
use Rattle.nr_linked.proofs.BuiltInLaws.{built_in_slots}
use Rattle.nr_linked.proofs.Elements.{get_mapped, some_of}
use Rattle.nr_links.specs.Links.{IsDecoded, Links}
use Rattle.nr_links.proofs.LaidOut.{of_code}
use Rattle.nr_links.proofs.MethodEntries.{LoadedMethod, all_at, method_cases}
use Rattle.nr_links.proofs.SlotFacts.{entry_cases, own_slot}

-- ---- texts of a constant pool

abbrev IsShort : PoolEntry → Type 0
IsShort e = text_len e < 2 ^ 16

short_text : (pool : List PoolEntry) (index : ℕ) (text : List ℕ) → All IsShort pool → text_at pool index ≡ Some text → length text < 2 ^ 16
unfolding text_at
short_text pool zero text short e = absurd cc
short_text pool (suc i) text short e = of_entry (slice_get pool i) refl e
  where
    of_text : (e : PoolEntry) → text_in e ≡ Some text → text_len e < 2 ^ 16 → length text < 2 ^ 16
    of_text (Utf8 bytes) e l = subst (λ bytes. length bytes < 2 ^ 16) (same_Some bytes text e) l
    of_text entry e l = absurd cc

    of_entry : (o : Option PoolEntry) → slice_get pool i ≡ o → option_map_or text_in o None ≡ Some text → length text < 2 ^ 16
    of_entry None at e = absurd cc
    of_entry (Some entry) at e = of_text entry e (all_at IsShort pool i entry short at)

short_class : (pool : List PoolEntry) (index : ℕ) (text : List ℕ) → All IsShort pool → class_text_at pool index ≡ Some text → length text < 2 ^ 16
unfolding class_text_at
short_class pool index text short e = of_entry (entry_at pool index) e
  where
    of_class : (e : PoolEntry) → class_text_in pool e ≡ Some text → length text < 2 ^ 16
    of_class (Class name) e = short_text pool name text short e
    of_class entry e = absurd cc

    of_entry : (o : Option PoolEntry) → option_map_or (class_text_in pool) o None ≡ Some text → length text < 2 ^ 16
    of_entry None e = absurd cc
    of_entry (Some entry) e = of_class entry e

legal_class : (pool : List PoolEntry) (index : ℕ) (text : List ℕ) → NamesClass pool index → class_text_at pool index ≡ Some text → IsClassText text
unfolding class_text_at
legal_class pool index text named e = of_entry (entry_at pool index) named e
  where
    of_class : (e : PoolEntry) → IsClassOf pool e → class_text_in pool e ≡ Some text → IsClassText text
    of_class (Class name) c e = let r = some_of IsClassText (text_at pool name) c in subst IsClassText (same_Some r.0 text (sym r.1 ∙ e)) r.2
    of_class entry c e = absurd cc

    of_entry : (o : Option PoolEntry) → IsSomeAnd o (IsClassOf pool) → option_map_or (class_text_in pool) o None ≡ Some text → IsClassText text
    of_entry None c e = absurd c
    of_entry (Some entry) c e = of_class entry c e

-- ---- parameters

one_place : (n : ℕ) (b : DescBase) → 1 ≤ places_of (record { dims = n; base = b })
one_place n (desc_bases.Long) = by_flag (n == 0)
  where
    by_flag : (z : Bool) → 1 ≤ (if z then 2 else 1)
    by_flag true = omega arith
    by_flag false = omega arith
one_place n b = by_flag (n == 0)
  where
    by_flag : (z : Bool) → 1 ≤ (if z then 1 else 1)
    by_flag true = omega arith
    by_flag false = omega arith

few_places : (ds : List Desc) → length ds ≤ slots ds
few_places [] = omega arith
few_places (d ∷ ds) = let a = few_places ds in let b = one_place d.dims d.base in let e = sum_by-cons places_of d ds in omega (arith, a, b, e)

-- ---- classes

all_from : {X : Type 0} (Q : X → Type 0) (xs : List X) → ((k : ℕ) (x : X) → slice_get xs k ≡ Some x → Q x) → All Q xs
all_from Q [] each i d l = absurd (omega arith)
all_from Q (x ∷ xs) each zero d l = each 0 x refl
all_from Q (x ∷ xs) each (suc i) d l = all_from Q xs (λ k y at. each (suc k) y at) i d (omega arith)

texts_of : (a b : List ℕ) (x y : Option (List ℕ)) → ◌≡◌ {A = Texts} (Some a, Some b) (x, y) → (x ≡ Some a) × (y ≡ Some b)
texts_of a b x y e = (sym (ap (λ (t : Texts). t.0) e), sym (ap (λ (t : Texts). t.1) e))

module _ (classes : List Loaded) (P : ProgramTables) (links : Links classes P) (all : All IsDecoded classes) where
  short_slot : (c i : ℕ) (x : SlotInfo) → slice_get (slots_of P c) i ≡ Some x → (length x.name < 2 ^ 16) × (length x.desc < 2 ^ 16)
  short_slot c i x at = let own = own_slot classes P links c i x at in elim (entry_cases classes P links x.declared_in own.entry own.is_entry) [
    | inl r ↦
        let pool = r.l.«class».pool in
        let short = (all_at IsDecoded classes x.declared_in r.l all r.at).bounds.texts in
        let there : slice_get (map (field_texts pool) (filter (λ (f : Field). not (is_static f.flags)) r.l.«class».fields)) own.place ≡ Some (slot_texts x) =
        ap (λ ts. slice_get ts own.place) (sym r.read_as.fields) ∙ slice_get-map slot_texts (own_slots P own.entry) own.place ∙ ap (option_map slot_texts) own.own in
        let f = get_mapped (field_texts pool) (filter (λ (f : Field). not (is_static f.flags)) r.l.«class».fields) own.place (slot_texts x) there in
        let texts = texts_of x.name x.desc (text_at pool f.0.name) (text_at pool f.0.desc) f.2 in
        (short_text pool f.0.name x.name short texts.0, short_text pool f.0.desc x.desc short texts.1)
    | inr r ↦
        let none : own.entry.slots ≡ [] = ap (λ (e : ClassInfo). e.slots) r.1 ∙ built_in_slots (first_built_in P) (first_built_in_method P) r.0 in
        absurd (no_own own.entry own.place x none own.own)
  ]
    where
      in_dropped : (n k : ℕ) (xs : List SlotInfo) (x : SlotInfo) → xs ≡ [] → slice_get (drop n xs) k ≡ Some x → ⊥
      in_dropped zero k [] x none at = cc
      in_dropped (suc n) k [] x none at = cc
      in_dropped n k (y ∷ xs) x none at = cc

      no_own : (e : ClassInfo) (k : ℕ) (x : SlotInfo) → e.slots ≡ [] → slice_get (own_slots P e) k ≡ Some x → ⊥
      no_own e k x none at = in_dropped _ k e.slots x none at

  class_slots : (c : ℕ) (e : ClassInfo) → class_at P c ≡ Some e → (k : ℕ) (x : SlotInfo) → slice_get e.slots k ≡ Some x → slice_get (slots_of P c) k ≡ Some x
  class_slots c e is k x at = ap (λ o. slice_get (option_map_or (λ (e : ClassInfo). e.slots) o []) k) is ∙ at

  pub class_texts : (c : ℕ) (e : ClassInfo) → class_at P c ≡ Some e → ClassTexts e
  class_texts c e is = elim (entry_cases classes P links c e is) [
    | inl r ↦
        let parts = r.l.«class» in
        let decoded = all_at IsDecoded classes c r.l all r.at in
        record {
          name = legal_class parts.pool parts.this_class e.name decoded.formed.this r.read_as.name;
          short_name = short_class parts.pool parts.this_class e.name decoded.bounds.texts r.read_as.name;
          slot_names = all_from (λ (s : SlotInfo). length s.name < 2 ^ 16) e.slots (λ k x at. (short_slot c k x (class_slots c e is k x at)).0);
          slot_descs = all_from (λ (s : SlotInfo). length s.desc < 2 ^ 16) e.slots (λ k x at. (short_slot c k x (class_slots c e is k x at)).1);
        }
    | inr r ↦ subst ClassTexts (sym r.1) (built_in_texts (first_built_in P) (first_built_in_method P) r.0)
  ]

  -- ---- methods

  few_handlers : (n : ℕ) (i : MethodInfo) (m : LoadedMethod classes P n i) → length (handlers_of i) ≤ 2 ^ 16
  few_handlers n i m = of_body i.body refl
    where
      bound : handler_count m.m.code ≤ 2 ^ 16
      bound = all_at (λ (m : Method). handler_count m.code ≤ 2 ^ 16) m.l.«class».methods m.place m.m (all_at IsDecoded classes m.own m.l all m.at).bounds.handlers m.declares

      of_body : (o : Option Body) → i.body ≡ o → length (option_map_or (λ (b : Body). b.handlers) o []) ≤ 2 ^ 16
      of_body None is = omega arith
      of_body (Some body) is =
          let code = of_code m.l.«class» m.m m.m.code m.decoded body m.body_for (sym m.said.body ∙ is) in
          let count : handler_count m.m.code ≡ length code.0.handlers = ap handler_count code.1 in
          let same : length body.handlers ≡ length code.0.handlers = ap length code.2.handlers in
          omega (arith, bound, count, same)

  pub method_bounds : (n : ℕ) (i : MethodInfo) → method_at P n ≡ Some i → MethodBounds i
  method_bounds n i is = elim (method_cases classes P links all n i is) [
    | inl m ↦
        let pool = m.l.«class».pool in
        let short = (all_at IsDecoded classes m.own m.l all m.at).bounds.texts in
        let said : length i.params ≡ length m.said.says.params = sym (length-map i.params (kind_desc P)) ∙ ap length m.said.params in
        let few = few_places m.said.says.params in
        let most : slots m.said.says.params ≤ 254 = m.said.spelled.0.2 in
        record {
          short_name = short_text pool m.m.name i.name short m.name;
          short_desc = short_text pool m.m.desc i.desc short m.desc;
          few_params = omega (arith, said, few, most);
          few_handlers = few_handlers n i m;
        }
    | inr m ↦ subst MethodBounds (sym m.is) (built_in_bounds m.holder m.place m.method (first_built_in P + number m.holder) m.declares)
  ]
