-- The slots of classes, in the tables that classes link to.
use Rattle.std.proofs.Common.{◌≡◌, ℕ, zero, suc, ◌<◌, ◌⊎◌, inl, inr, Bool, true, false, List, [], ◌∷◌, ◌++◌, length, map, refl, sym, ap, subst, ◌∙◌, arith, not, cond, ◌||◌}
use Rattle.std.specs.Prelude.{Option, Some, None, IfSome, IsTrue, Contains, slice_get, ◌==◌}
use Rattle.std.specs.List.{filter, list_all, list_any}
use Rattle.std.specs.Option.{option_and_then, option_map_or}
use Rattle.std.proofs.lemmas.Bool.{and_parts, eqb-true, both_ways, cases_Bool, false_from_ne_true, ltb-true, lt-ltb, or_left, or_right}
use Rattle.std.proofs.lemmas.Option.{slice_get_within}
use Rattle.nr_prog.specs.declared.body.loaded.Loaded.{Loaded}
use Rattle.nr_prog.specs.declared.member.Field.{Field}
use Rattle.nr_linked.specs.declared.program.built_in.BuiltIn.{BuiltIn}
use Rattle.nr_linked.specs.declared.program.built_in.BuiltIn.TheVariants.{Object}
use Rattle.nr_linked.specs.declared.program.tables.ClassInfo.{ClassInfo}
use Rattle.nr_linked.specs.declared.program.tables.ProgramTables.{ProgramTables}
use Rattle.nr_linked.specs.declared.program.tables.SlotInfo.{SlotInfo}
use Rattle.nr_prog.specs.Members.{is_static}
use Rattle.nr_linked.specs.BuiltIns.{built_in}
use Rattle.nr_linked.specs.Linked.{IsReadAs, first_built_in, inherited_slots, is_loaded, own_slots, slot_texts, field_texts}
use Rattle.nr_linked.specs.Programs.{class_at, is_interface, super_of, upward}
use Rattle.nr_linked.specs.Slots.{slots_of}
use Rattle.nr_linked.specs.Subtypes.{Above, IsDirectlyAbove, admits_any, further, is_above, itself}
use Rattle.nr_links.specs.Links.{Links}
use Rattle.nr_linked.proofs.AnyReferences.{is_face, super_in, super_of_interface}
use Rattle.nr_linked.proofs.BuiltInEntries.{info_of, not_loaded, of_built_in}
use Rattle.nr_linked.proofs.BuiltInLaws.{built_in_slots, no_built_in_slots}
use Rattle.nr_linked.proofs.Listed.{listed_all, listed_contains}
use Rattle.nr_linked.proofs.Elements.{get_below, get_either, get_left, passes_at, some_of}
use Rattle.nr_linked.proofs.Ascents.{down, super_step, up}

-- ---- classes that were loaded

-- a class with an entry was loaded, or is built in
pub record LoadedEntry (classes : List Loaded) (P : ProgramTables) (c : ℕ) (e : ClassInfo) : Type 0 where
  pub l : Loaded
  pub at : slice_get classes c ≡ Some l
  pub read : e.read ≡ Some l.«class»
  pub read_as : IsReadAs P c e l.«class»

module _ (classes : List Loaded) (P : ProgramTables) (links : Links classes P) where
  loaded_below : (c : ℕ) → IsTrue (is_loaded P c) → c < length classes
  loaded_below c p = let l = ltb-true c (first_built_in P) p in omega (arith, links.class_count, l)

  pub below_loaded : (c : ℕ) (l : Loaded) → slice_get classes c ≡ Some l → IsTrue (is_loaded P c)
  below_loaded c l at = lt-ltb c (first_built_in P) (let w = slice_get_within classes c l at in omega (arith, links.class_count, w))

  pub loaded_entry : (c : ℕ) (e : ClassInfo) → class_at P c ≡ Some e → IsTrue (is_loaded P c) → LoadedEntry classes P c e
  loaded_entry c e is p =
      let r = get_below classes c (loaded_below c p) in
      let read = (links.entries c r.0 e r.1 is).read in
      record {
        l = r.0;
        at = r.1;
        read = read;
        read_as = subst (λ o. IfSome o (IsReadAs P c e)) read (links.linked.classes c e is).read_as;
      }

  pub entry_cases : (c : ℕ) (e : ClassInfo) → class_at P c ≡ Some e → LoadedEntry classes P c e ⊎ ((b : BuiltIn) × (e ≡ info_of P b))
  entry_cases c e is = elim (cases_Bool (is_loaded P c)) [
    | inl p ↦ inl (loaded_entry c e is p)
    | inr p ↦ inr (of_built_in P links.linked c e is p)
  ]

-- ---- slots of such classes

filter_none : {X : Type 0} (f : X → Bool) (xs : List X) → IsTrue (list_all f xs) → filter (λ x. not (f x)) xs ≡ []
filter_none f [] p = refl
filter_none f (x ∷ xs) p = let both = and_parts (f x) (list_all f xs) p in at_first (f x) both.0 (filter_none f xs both.1)
  where
    at_first : (b : Bool) → b ≡ true → filter (λ x. not (f x)) xs ≡ [] → cond (not b) (x ∷ filter (λ x. not (f x)) xs) (filter (λ x. not (f x)) xs) ≡ []
    at_first true e rest = rest
    at_first false e rest = absurd cc

map_none : {X Y : Type 0} (f : X → Y) (xs : List X) → map f xs ≡ [] → xs ≡ []
map_none f [] e = refl
map_none f (x ∷ xs) e = absurd cc

module _ (classes : List Loaded) (P : ProgramTables) (links : Links classes P) where
  loaded_no_slots : (c : ℕ) (e : ClassInfo) → class_at P c ≡ Some e → LoadedEntry classes P c e → IsTrue (admits_any P c) → e.slots ≡ []
  loaded_no_slots c e is r any =
      let loaded = below_loaded classes P links c r.l r.at in
      let apart : (c == built_in P Object) ≡ false = false_from_ne_true (c == built_in P Object) (λ q. both_ways (is_loaded P (built_in P Object)) (not_loaded P Object) (subst (λ c. IsTrue (is_loaded P c)) (eqb-true c (built_in P Object) q) loaded)) in
      let face = is_face P c apart any in
      let s = super_in P links.linked c e is apart in
      let top = super_of_interface P c s.0 s.2 face in
      let inherited : inherited_slots P e ≡ [] = ap (λ o. option_map_or (slots_of P) o []) s.1 ∙ ap (slots_of P) top ∙ no_built_in_slots P links.linked (built_in P Object) (not_loaded P Object) in
      let members = (links.rules c r.l e r.at is).interface_members face in
      let statics = (and_parts (list_all (λ (f : Field). is_static f.flags) r.l.«class».fields) _ members).0 in
      let own : own_slots P e ≡ [] = map_none slot_texts (own_slots P e) (r.read_as.fields ∙ ap (map (field_texts r.l.«class».pool)) (filter_none (λ (f : Field). is_static f.flags) r.l.«class».fields statics)) in
      (links.linked.classes c e is).inherited ∙ ap (λ l. l ++ own_slots P e) inherited ∙ own

  entry_no_slots : (c : ℕ) (e : ClassInfo) → class_at P c ≡ Some e → IsTrue (admits_any P c) → e.slots ≡ []
  entry_no_slots c e is any = elim (entry_cases classes P links c e is) [
    | inl r ↦ loaded_no_slots c e is r any
    | inr r ↦ ap (λ (e : ClassInfo). e.slots) r.1 ∙ built_in_slots (first_built_in P) _ r.0
  ]

  pub no_slots : (c : ℕ) → IsTrue (admits_any P c) → slots_of P c ≡ []
  no_slots c any = of_option (class_at P c) refl
    where
      of_option : (o : Option ClassInfo) → class_at P c ≡ o → option_map_or (λ (e : ClassInfo). e.slots) o [] ≡ []
      of_option None is = refl
      of_option (Some e) is = entry_no_slots c e is any

  no_slot : (c i : ℕ) (s : SlotInfo) → IsTrue (admits_any P c) → slice_get (slots_of P c) i ≡ Some s → ⊥
  no_slot c i s any at = let e = sym (ap (λ l. slice_get l i) (no_slots c any)) ∙ at in absurd cc

  pub slotted : (c i : ℕ) (s : SlotInfo) → slice_get (slots_of P c) i ≡ Some s → admits_any P c ≡ false
  slotted c i s at = false_from_ne_true (admits_any P c) (λ any. no_slot c i s any at)

  -- ---- the slots of a superclass are those of the class

  slots_entry : (c : ℕ) (e : ClassInfo) → class_at P c ≡ Some e → slots_of P c ≡ inherited_slots P e ++ own_slots P e
  slots_entry c e is = ap (λ o. option_map_or (λ (e : ClassInfo). e.slots) o []) is ∙ (links.linked.classes c e is).inherited

  inherited_step : (c s i : ℕ) (x : SlotInfo) → IsDirectlyAbove P c s → slice_get (slots_of P s) i ≡ Some x → slice_get (slots_of P c) i ≡ Some x
  inherited_step c s i x step at =
      let r = some_of (λ (e : ClassInfo). (e.super_class ≡ Some s) ⊎ Contains e.interfaces s) (class_at P c) step in
      ap (λ l. slice_get l i) (slots_entry c r.0 r.1) ∙ by_way r.0 r.1 r.2
    where
      by_way : (e : ClassInfo) → class_at P c ≡ Some e → (e.super_class ≡ Some s) ⊎ Contains e.interfaces s → slice_get (inherited_slots P e ++ own_slots P e) i ≡ Some x
      by_way e is (inl q) = get_left (inherited_slots P e) (own_slots P e) i x (ap (λ o. slice_get (option_map_or (slots_of P) o []) i) q ∙ at)
      by_way e is (inr q) =
          let face = listed_all (is_interface P) s e.interfaces (listed_contains s e.interfaces q) (links.linked.classes c e is).interfaces in
          absurd (no_slot s i x (or_right (s == built_in P Object) (is_interface P s) face) at)

  inherited_above : (c d i : ℕ) (x : SlotInfo) → Above P c d → slice_get (slots_of P d) i ≡ Some x → slice_get (slots_of P c) i ≡ Some x
  inherited_above c d i x itself at = at
  inherited_above c d i x (further {s = s} step rest) at = inherited_step c s i x step (inherited_above s d i x rest at)

  pub inherited : (c d i : ℕ) (x : SlotInfo) → IsTrue (is_above P c d) → slice_get (slots_of P d) i ≡ Some x → slice_get (slots_of P c) i ≡ Some x
  inherited c d i x p at = inherited_above c d i x (up P links.linked c d p) at

  -- ---- a class has a slot from the class that declares its field on

  -- a slot among those of the class's own fields
  pub record OwnSlot (x : SlotInfo) : Type 0 where
    pub entry : ClassInfo
    pub is_entry : class_at P x.declared_in ≡ Some entry
    pub place : ℕ
    pub own : slice_get (own_slots P entry) place ≡ Some x

  Declared : ℕ → ℕ → SlotInfo → Type 0
  Declared c i x = Above P c x.declared_in × (slice_get (slots_of P x.declared_in) i ≡ Some x) × OwnSlot x

  own_declared : (c i j : ℕ) (e : ClassInfo) (x : SlotInfo) → class_at P c ≡ Some e → slice_get (own_slots P e) j ≡ Some x → slice_get (slots_of P c) i ≡ Some x → Declared c i x
  unfolding Declared
  own_declared c i j e x is own at =
      let same = eqb-true x.declared_in c (passes_at (λ (s : SlotInfo). s.declared_in == c) (own_slots P e) j x (links.linked.classes c e is).own own) in (
        subst (λ d. Above P c d) (sym same) itself,
        subst (λ d. slice_get (slots_of P d) i ≡ Some x) (sym same) at,
        record { entry = e; is_entry = subst (λ d. class_at P d ≡ Some e) (sym same) is; place = j; own = own },
      )

  slot_entry : (c i : ℕ) (x : SlotInfo) → slice_get (slots_of P c) i ≡ Some x → (e : ClassInfo) × (class_at P c ≡ Some e)
  slot_entry c i x at = of_option (class_at P c) at
    where
      of_option : (o : Option ClassInfo) → slice_get (option_map_or (λ (e : ClassInfo). e.slots) o []) i ≡ Some x → (e : ClassInfo) × (o ≡ Some e)
      of_option None at = absurd cc
      of_option (Some e) at = (e, refl)

  inherited_slot : (o : Option ℕ) (i : ℕ) (x : SlotInfo) → slice_get (option_map_or (slots_of P) o []) i ≡ Some x → (s : ℕ) × (o ≡ Some s) × (slice_get (slots_of P s) i ≡ Some x)
  inherited_slot None i x at = absurd cc
  inherited_slot (Some s) i x at = (s, refl, at)

  super_of_entry : (c s : ℕ) (e : ClassInfo) → class_at P c ≡ Some e → e.super_class ≡ Some s → super_of P c ≡ Some s
  super_of_entry c s e is q = ap (option_and_then (λ (e : ClassInfo). e.super_class)) is ∙ q

  declared_from : (n c i : ℕ) (x : SlotInfo) → IsTrue (list_any (λ d. d == built_in P Object) (upward P n (Some c))) → slice_get (slots_of P c) i ≡ Some x → Declared c i x
  unfolding Declared
  declared_from zero c i x ends at = absurd cc
  declared_from (suc n) c i x ends at =
      let r = slot_entry c i x at in
      let here = sym (ap (λ l. slice_get l i) (slots_entry c r.0 r.1)) ∙ at in
      elim (get_either (inherited_slots P r.0) (own_slots P r.0) i x here) [
        | inl h ↦ let s = inherited_slot r.0.super_class i x h in
            let more = onward (c == built_in P Object) (λ q. no_slot c i x (or_left (c == built_in P Object) (is_interface P c) q) at) ends in
            let up_there = subst (λ o. IsTrue (list_any (λ d. d == built_in P Object) (upward P n o))) (super_of_entry c s.0 r.0 r.1 s.1) more in
            let d = declared_from n s.0 i x up_there s.2 in
            (further (super_step P c s.0 (super_of_entry c s.0 r.0 r.1 s.1)) d.0, d.1, d.2)
        | inr h ↦ own_declared c i h.0 r.0 x r.1 h.2 at
      ]
    where
      onward : (b : Bool) → (b ≡ true → ⊥) → (b || list_any (λ d. d == built_in P Object) (upward P n (super_of P c))) ≡ true → IsTrue (list_any (λ d. d == built_in P Object) (upward P n (super_of P c)))
      onward true never e = absurd (never refl)
      onward false never e = e

  pub declared_slot : (c i : ℕ) (x : SlotInfo) → slice_get (slots_of P c) i ≡ Some x → IsTrue (is_above P c x.declared_in) × (slice_get (slots_of P x.declared_in) i ≡ Some x)
  unfolding Declared
  declared_slot c i x at =
      let r = slot_entry c i x at in
      let d = declared_from (length P.classes) c i x (links.linked.classes c r.0 r.1).ends at in
      (down P links.linked c x.declared_in r.0 r.1 d.0, d.1)

  -- so each slot stands among those of the own fields of the class that declares its field
  pub own_slot : (c i : ℕ) (x : SlotInfo) → slice_get (slots_of P c) i ≡ Some x → OwnSlot x
  unfolding Declared
  own_slot c i x at =
      let r = slot_entry c i x at in
      (declared_from (length P.classes) c i x (links.linked.classes c r.0 r.1).ends at).2
