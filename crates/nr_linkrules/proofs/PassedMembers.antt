-- Classes that link have no fault of members.
use Rattle.std.proofs.Common.{◌≡◌, ℕ, ◌+◌, Bool, true, false, List, [], ◌∷◌, length, map, refl, sym, ap, subst, ◌∙◌, arith, not, ◌&&◌, ◌||◌}
use Rattle.std.specs.Prelude.{All, Option, Some, None, IsTrue, slice_get, ◌==◌}
use Rattle.std.specs.List.{list_all, range_with_len}
use Rattle.std.specs.Option.{option_map, option_map_or, option_to_list}
use Rattle.std.proofs.lemmas.Bool.{and_parts, both_ways, cases_Bool, eqb-true, false_from_ne_true, or_left, or_right}
use Rattle.std.proofs.lemmas.Option.{get_or_from_slice_get, slice_get-map, slice_get_within}
use Rattle.nr_base.specs.DescReading.{desc_of, method_of}
use Rattle.nr_prog.specs.declared.body.loaded.Loaded.{Loaded}
use Rattle.nr_prog.specs.declared.body.whole.Body.{Body}
use Rattle.nr_prog.specs.declared.member.Field.{Field}
use Rattle.nr_prog.specs.declared.member.Method.{Method}
use Rattle.nr_prog.specs.Pool.{text_at}
use Rattle.nr_prog.proofs.LegalLaws.{method_only}
use Rattle.nr_instrs.proofs.Facts.{reads_desc}
use Rattle.nr_linked.specs.declared.program.kind.Base.{Base}
use Rattle.nr_linked.specs.declared.program.kind.Base.TheVariants as bases
use Rattle.nr_linked.specs.declared.program.kind.Kind.{Kind}
use Rattle.nr_linked.specs.declared.program.tables.ClassInfo.{ClassInfo}
use Rattle.nr_linked.specs.declared.program.tables.MethodInfo.{MethodInfo}
use Rattle.nr_linked.specs.declared.program.tables.ProgramTables.{ProgramTables}
use Rattle.nr_linked.specs.KindTexts.{base_desc, kind_desc}
use Rattle.nr_linked.specs.Kinds.{class_in}
use Rattle.nr_linked.specs.Linked.{is_class_in, is_kind_in, is_kind_in_or_none, method_texts, read_texts}
use Rattle.nr_linked.specs.Programs.{class_at, is_interface, method_at, methods_of}
use Rattle.nr_linked.specs.Selection.{is_selectable}
use Rattle.nr_linked.specs.Subtypes.{Above}
use Rattle.nr_links.specs.Entries.{IsMethodAs}
use Rattle.nr_links.specs.Links.{IsDecoded, Links}
use Rattle.nr_links.specs.Rules.{SaysKind, has_interface_members, is_final}
use Rattle.nr_linked.proofs.Elements.{get_below, get_mapped, get_range, some_of}
use Rattle.nr_links.proofs.MethodEntries.{method_from}
use Rattle.nr_linked.proofs.Declaring.{held}
use Rattle.nr_links.proofs.SlotFacts.{LoadedEntry}
use Rattle.nr_linkrules.specs.declared.fault.LinkFault.TheVariants as faults
use Rattle.nr_linkrules.specs.ClassRules.{desc_fault, field_fault, has_final, has_final_over, hides_final, is_final_as, members_fault, method_fault, method_name, override_fault, type_in, types_in}
use Rattle.nr_linkrules.specs.Faults.{first_of, unless}
use Rattle.nr_linkrules.specs.LinkFaults.{first_class_fault}
use Rattle.nr_linkrules.specs.Outline.{bare_class, some_text}
use Rattle.nr_linkrules.specs.Reaches.{reaches}
use Rattle.nr_linkrules.proofs.Alike.{declares, interfaces, overrides}
use Rattle.nr_linkrules.proofs.NoFault.{any_at, none_of, none_of_both, none_or, not_so, passed}
use Rattle.nr_linkrules.proofs.Outlined.{classes_are}
use Rattle.nr_linkrules.proofs.OutlinedMethods.{methods_are, one_body_each}
use Rattle.nr_linkrules.proofs.Passed.{O, each_loaded, known}
use Rattle.nr_linkrules.proofs.Reached.{reached_above}

module _ (classes : List Loaded) (P : ProgramTables) (links : Links classes P) where
  -- ---- the classes that descriptors name

  base_known : (b : Base) → IsTrue (option_map_or (is_class_in P) (class_in b) true) → Rattle.nr_linkrules.specs.ClassRules.base_fault (O classes P links) (base_desc P b) ≡ None
  base_known bases.Bool p = refl
  base_known bases.Byte p = refl
  base_known bases.Char p = refl
  base_known bases.Short p = refl
  base_known bases.Int p = refl
  base_known bases.Long p = refl
  base_known (bases.Object c) p = known classes P links c p

  pub kind_known : (k : Kind) → IsTrue (is_kind_in P k) → desc_fault (O classes P links) (kind_desc P k) ≡ None
  kind_known k p = base_known k.base p

  pub kinds_known : (ks : List Kind) → IsTrue (list_all (is_kind_in P) ks) → first_of (desc_fault (O classes P links)) (map (kind_desc P) ks) ≡ None
  unfolding first_of
  kinds_known [] p = refl
  kinds_known (k ∷ ks) p = let both = and_parts (is_kind_in P k) (list_all (is_kind_in P) ks) p in none_or _ _ (kind_known k both.0) (kinds_known ks both.1)

  pub result_known : (o : Option Kind) → IsTrue (is_kind_in_or_none P o) → first_of (desc_fault (O classes P links)) (option_to_list (option_map (kind_desc P) o)) ≡ None
  unfolding first_of
  result_known None p = refl
  result_known (Some k) p = none_or _ _ (kind_known k p) refl

  said_field : (text : List ℕ) → SaysKind P text → first_of (desc_fault (O classes P links)) (type_in (desc_of text)) ≡ None
  unfolding first_of
  said_field text (k, known, says) =
      ap (λ r. first_of (desc_fault (O classes P links)) (type_in r)) (reads_desc text (kind_desc P k) says) ∙ none_or _ _ (kind_known k known) refl

  fields_known : (c : ℕ) (e : ClassInfo) (l : LoadedEntry classes P c e) → class_at P c ≡ Some e → (k : ℕ) (f : Field) → slice_get l.l.«class».fields k ≡ Some f → field_fault (O classes P links) l.l.«class».pool f.desc ≡ None
  unfolding field_fault
  fields_known c e l is k f at =
      let all = (links.rules c l.l e l.at is).fields in
      let spelled = subst (λ (f : Field). Rattle.nr_prog.specs.Form.Spells (SaysKind P) l.l.«class».pool f.desc) (get_or_from_slice_get l.l.«class».fields k f f at) (all k f (slice_get_within l.l.«class».fields k f at)) in
      let t = some_of (SaysKind P) (text_at l.l.«class».pool f.desc) spelled in
      ap (λ o. first_of (desc_fault (O classes P links)) (type_in (desc_of (some_text o)))) t.1 ∙ said_field t.0 t.2

  -- ---- the methods of a class that was loaded

  pub record Declared (c : ℕ) (e : ClassInfo) (l : Loaded) (m : Method) : Type 0 where
    pub n : ℕ
    pub i : MethodInfo
    pub is : method_at P n ≡ Some i
    pub decoded : Option Body
    pub desc : text_at l.«class».pool m.desc ≡ Some i.desc
    pub said : IsMethodAs P c l.«class».pool m decoded i

  declared : (c : ℕ) (e : ClassInfo) (l : LoadedEntry classes P c e) → class_at P c ≡ Some e → IsDecoded l.l → (place : ℕ) (m : Method) → slice_get l.l.«class».methods place ≡ Some m → Declared c e l.l m
  declared c e l is formed place m at =
      let there = ap (λ ts. slice_get ts place) l.read_as.methods ∙ slice_get-map (read_texts l.l.«class».pool) l.l.«class».methods place ∙ ap (option_map (read_texts l.l.«class».pool)) at in
      let r = get_mapped (method_texts P) (methods_of P c) place (read_texts l.l.«class».pool m) there in
      let h = held P links.linked c place r.0 r.1 in
      let range = ap (λ o. option_map_or (λ (e : ClassInfo). range_with_len e.first_method e.methods) o []) is in
      let number = (get_range e.first_method e.methods place r.0 (sym (ap (λ ns. slice_get ns place) range) ∙ r.1)).0 in
      let short = slice_get_within l.l.«class».methods place m at in
      let body = get_below l.l.bodies place (let one = one_body_each l.l formed in omega (arith, short, one)) in
      let first = (links.entries c l.l e l.at is).first_method in
      let from = method_from classes P links r.0 h.method c l.l m place body.0 h.is_method l.at at body.1 (number ∙ ap (λ n. n + place) first) in
      record { n = r.0; i = h.method; is = h.is_method; decoded = body.0; desc = from.desc; said = from.said }

  said_method : (n : ℕ) (i : MethodInfo) (m : Method) (c : ℕ) (pool : List Rattle.nr_prog.specs.declared.pool.PoolEntry.PoolEntry) (decoded : Option Body) → method_at P n ≡ Some i → text_at pool m.desc ≡ Some i.desc
      → IsMethodAs P c pool m decoded i → method_fault (O classes P links) pool m.desc ≡ None
  unfolding method_fault
  said_method n i m c pool decoded is text said =
      let linked = links.linked.methods n i is in
      ap (λ o. first_of (desc_fault (O classes P links)) (types_in (method_of (some_text o)))) text
      ∙ ap (λ r. first_of (desc_fault (O classes P links)) (types_in r)) (method_only i.desc said.says said.spelled)
      ∙ none_of_both (desc_fault (O classes P links)) said.says.params (option_to_list said.says.result)
      (ap (first_of (desc_fault (O classes P links))) (sym said.params) ∙ kinds_known i.params linked.params)
      (ap (λ o. first_of (desc_fault (O classes P links)) (option_to_list o)) (sym said.result) ∙ result_known i.result linked.result)

  -- ---- final methods

  not_final : (c n : ℕ) (i : MethodInfo) (e : ClassInfo) (l : LoadedEntry classes P c e) → class_at P c ≡ Some e → method_at P n ≡ Some i → i.«class» ≡ c → hides_final P i ≡ false
  not_final c n i e l is at own = false_from_ne_true (hides_final P i) (λ p.
      let both = and_parts (is_selectable i.name i.desc i) _ p in
      let d = any_at (has_final_over P i) (range_with_len 0 (length P.classes)) both.1 in
      let apart = and_parts (not (d.1 == i.«class»)) (reaches P i.«class» d.1 && has_final P i d.1) d.3 in
      let reached = and_parts (reaches P i.«class» d.1) (has_final P i d.1) apart.1 in
      let m = any_at (λ m. option_map_or (is_final_as i) (method_at P m) false) (methods_of P d.1) reached.1 in
      let h = held P links.linked d.1 m.0 m.1 m.2 in
      let test = subst (λ o. IsTrue (option_map_or (is_final_as i) o false)) h.is_method m.3 in
      let final = and_parts (is_selectable i.name i.desc h.method) (is_final h.method.flags) test in
      let above = subst (Above P c) (sym h.own) (subst (λ c. Above P c d.1) own (reached_above P (length P.classes) i.«class» d.1 reached.0)) in
      both_ways (is_final h.method.flags)
      ((links.rules c l.l e l.at is).final_override n m.1 i h.method at h.is_method own both.0 final.0 above
      (λ same. both_ways (d.1 == i.«class») (of_not (d.1 == i.«class») apart.0) (Rattle.std.proofs.lemmas.Bool.eq-eqb d.1 i.«class» (sym h.own ∙ same ∙ sym own))))
      final.1)
    where
      of_not : (b : Bool) → not b ≡ true → b ≡ false
      of_not true e = absurd cc
      of_not false e = refl

  not_hiding : (name : List ℕ) (m : ℕ) (i : MethodInfo) → method_at P m ≡ Some i → hides_final P i ≡ false → override_fault P name m ≡ None
  unfolding override_fault
  not_hiding name m i is not_hidden = ap (λ o. option_map_or (λ i. unless (not (hides_final P i)) (faults.FinalOverride name (method_name i))) o None) is ∙ passed _ _ (not_so (hides_final P i) not_hidden)

  module _ (all : All IsDecoded classes) where
    override_none : (c : ℕ) (e : ClassInfo) (l : LoadedEntry classes P c e) → class_at P c ≡ Some e → (k m : ℕ) → slice_get (methods_of (O classes P links) c) k ≡ Some m → override_fault (O classes P links) (bare_class e).name m ≡ None
    override_none c e l is k m at =
        let h = held P links.linked c k m (ap (λ ms. slice_get ms k) (sym (declares P (O classes P links) (classes_are classes P links) c)) ∙ at) in
        overrides P (O classes P links) (classes_are classes P links) (methods_are classes P links all) (bare_class e).name m
        ∙ not_hiding (bare_class e).name m h.method h.is_method (not_final c m h.method e l is h.is_method h.own)

    pub no_members_fault : first_class_fault (members_fault (O classes P links)) (O classes P links) ≡ None
    unfolding members_fault
    no_members_fault = each_loaded classes P links (members_fault (O classes P links)) (λ c e l is.
        let rules = links.rules c l.l e l.at is in
        let formed = subst IsDecoded (get_or_from_slice_get classes c l.l l.l l.at) (all c l.l (slice_get_within classes c l.l l.at)) in
        none_or _ _ (passed _ _ rules.initialiser)
        (none_or _ _ (passed _ _ (kept c (has_interface_members l.l.«class») (ap (λ f. f c) (interfaces P (O classes P links) (classes_are classes P links))) rules.interface_members))
        (none_or _ _ (none_of _ (methods_of (O classes P links) c) (override_none c e l is))
        (none_or _ _ (none_of (λ (f : Field). field_fault (O classes P links) l.l.«class».pool f.desc) l.l.«class».fields (fields_known c e l is))
        (none_of (λ (m : Method). method_fault (O classes P links) l.l.«class».pool m.desc) l.l.«class».methods (λ place m at. let d = declared c e l is formed place m at in said_method d.n d.i m c l.l.«class».pool d.decoded d.is d.desc d.said))))))
      where
        implied : (a b : Bool) → (IsTrue a → IsTrue b) → (not a || b) ≡ true
        implied true b h = h refl
        implied false b h = refl

        kept : (c : ℕ) (b : Bool) → is_interface (O classes P links) c ≡ is_interface P c → (IsTrue (is_interface P c) → IsTrue b) → (not (is_interface (O classes P links) c) || b) ≡ true
        kept c b same h = ap (λ a. not a || b) same ∙ implied (is_interface P c) b h
