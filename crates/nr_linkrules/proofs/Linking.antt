-- Classes without a fault link to the program that they make.
use Rattle.std.proofs.Common.{◌≡◌, ℕ, zero, suc, ◌+◌, Bool, true, false, List, [], ◌∷◌, length, take, refl, sym, ap, subst, ◌∙◌, arith, ◌||◌, not, inl, inr}
use Rattle.std.specs.Prelude.{All, Option, Some, None, IsTrue, slice_get, ◌==◌}
use Rattle.std.specs.List.{list_any, range_with_len}
use Rattle.std.specs.Option.{option_map_or}
use Rattle.std.proofs.lemmas.Bool.{and_from, both_ways, eqb-true, false_from_ne_true, or_cases, or_left, or_right}
use Rattle.std.proofs.lemmas.Option.{get_or_from_slice_get, same_Some, slice_get_within}
use Rattle.nr_base.specs.Descs.{desc}
use Rattle.nr_prog.specs.declared.body.loaded.Loaded.{Loaded}
use Rattle.nr_prog.specs.declared.body.whole.Body.{Body}
use Rattle.nr_prog.specs.declared.member.Field.{Field}
use Rattle.nr_prog.specs.declared.member.Method.{Method}
use Rattle.nr_prog.specs.declared.parts.ClassParts.{ClassParts}
use Rattle.nr_prog.specs.BodyText.{BodyFor, EachBody}
use Rattle.nr_prog.specs.Form.{Spells}
use Rattle.nr_linked.specs.declared.program.tables.ClassInfo.{ClassInfo}
use Rattle.nr_linked.specs.declared.program.tables.MethodInfo.{MethodInfo}
use Rattle.nr_linked.specs.declared.program.tables.ProgramTables.{ProgramTables}
use Rattle.nr_linked.specs.declared.program.tables.SlotInfo.{SlotInfo}
use Rattle.nr_linked.specs.KindTexts.{kind_desc}
use Rattle.nr_linked.specs.Programs.{class_at, is_interface, method_at, methods_of}
use Rattle.nr_linked.specs.Selection.{is_called, is_selectable}
use Rattle.nr_linked.specs.Subtypes.{Above, IsDirectlyAbove}
use Rattle.nr_links.specs.Entries.{IsClassAs, IsMethodAs, is_rising, method_count}
use Rattle.nr_links.specs.Links.{IsDecoded, Links}
use Rattle.nr_links.specs.Rules.{KeepsRules, SaysKind, has_interface_members, is_final}
use Rattle.nr_linked.proofs.Listed.{is_listed}
use Rattle.nr_links.proofs.OneMethod.{one_program}
use Rattle.nr_linked.proofs.Elements.{found, get_below, is_some_and}
use Rattle.nr_links.proofs.Reaching.{direct_step}
use Rattle.nr_linkrules.specs.declared.fault.LinkFault.TheVariants as faults
use Rattle.nr_linkrules.specs.ClassRules.{has_final, has_final_over, hides_final, is_final_as, members_fault, method_name, override_fault}
use Rattle.nr_linkrules.specs.Completion.{linked_program}
use Rattle.nr_linkrules.specs.Faults.{unless}
use Rattle.nr_linkrules.specs.Layout.{slots_in, supers_in}
use Rattle.nr_linkrules.specs.LinkFaults.{link_fault}
use Rattle.nr_linkrules.specs.Outline.{outline_class}
use Rattle.nr_linkrules.specs.Readable.{IsReadable}
use Rattle.nr_linkrules.specs.Reaches.{reaches}
use Rattle.nr_linkrules.proofs.Alike as alike
use Rattle.nr_linkrules.proofs.Completed.{method_as}
use Rattle.nr_linkrules.proofs.Known as known
use Rattle.nr_linkrules.proofs.KnownAbove as above
use Rattle.nr_linkrules.proofs.KnownMethods as methods_known
use Rattle.nr_linkrules.proofs.KnownProgram.{linked}
use Rattle.nr_linkrules.proofs.KnownSlots as slots
use Rattle.nr_linkrules.proofs.MemberParts.{MembersKept, members_kept}
use Rattle.nr_linkrules.proofs.Naming.{kind_says}
use Rattle.nr_linkrules.proofs.NoFault.{each_of, is_false, listed_at, passes}
use Rattle.nr_linkrules.proofs.PassedCode.{no_fault}
use Rattle.nr_linkrules.proofs.Program as program
use Rattle.nr_linkrules.proofs.Ranks.{no_cycle}
use Rattle.nr_linkrules.proofs.Reached.{reaches_above}
use Rattle.nr_linkrules.proofs.Rising.{range_listed, rising_filter}

any_in : (f : ℕ → Bool) (xs : List ℕ) (x : ℕ) → IsTrue (is_listed x xs) → IsTrue (f x) → IsTrue (list_any f xs)
any_in f [] x p q = absurd cc
any_in f (y ∷ xs) x p q = elim (or_cases (y == x) (is_listed x xs) p) [
  | inl e ↦ or_left (f y) _ (subst (λ x. IsTrue (f x)) (sym (eqb-true y x e)) q)
  | inr r ↦ or_right (f y) _ (any_in f xs x r q)
]

body_of : (c : ClassParts) (ms : List Method) (bs : List (Option Body)) (k : ℕ) (m : Method) (b : Option Body) → EachBody c ms bs → slice_get ms k ≡ Some m → slice_get bs k ≡ Some b → BodyFor c m m.code b
body_of c [] bs k m b all at here = absurd cc
body_of c (n ∷ ms) [] k m b all at here = absurd all
body_of c (n ∷ ms) (d ∷ bs) zero m b all at here = subst (λ (m : Method). BodyFor c m m.code b) (same_Some n m at) (subst (BodyFor c n n.code) (same_Some d b here) all.0)
body_of c (n ∷ ms) (d ∷ bs) (suc k) m b all at here = body_of c ms bs k m b all.1 at here

module _ (classes : List Loaded) (none : link_fault classes ≡ None) (all : All IsReadable classes) where
  abbrev O : ProgramTables
  O = known.O classes none all

  abbrev P : ProgramTables
  P = known.P classes none all

  -- a method stands among those that its class declares
  among : (n : ℕ) (i : MethodInfo) → method_at P n ≡ Some i → (k : ℕ) × (slice_get (methods_of P i.«class») k ≡ Some n)
  among n i is = (found (λ x. option_map_or (is_called i.name i.desc) (method_at P x) false) (methods_of P i.«class») n ((linked classes none all).methods n i is).alone).1

  module _ (c : ℕ) (l : Loaded) (at : slice_get classes c ≡ Some l) where
    abbrev e : ClassInfo
    e = program.entry_of classes c l

    -- ---- the entry

    rising : IsTrue (is_rising (supers_in O c))
    unfolding supers_in
    rising = rising_filter (reaches O c) 0 (length O.classes)

    each_slot : All (λ (s : SlotInfo). desc (kind_desc P s.kind) s.desc) (slots_in O c)
    each_slot k d lt =
        let s = get_below (slots_in O c) k lt in
        subst (λ (s : SlotInfo). desc (kind_desc P s.kind) s.desc) (sym (get_or_from_slice_get (slots_in O c) k s.0 d s.1)) (slots.SlotKnown.says (slots.slots_known classes none all c k s.0 s.1))

    each_method : (n : ℕ) (m : Method) (decoded : Option Body) (i : MethodInfo) → slice_get l.«class».methods n ≡ Some m → slice_get l.bodies n ≡ Some decoded → method_at P (method_count (take c classes) + n) ≡ Some i → IsMethodAs P c l.«class».pool m decoded i
    each_method n m decoded i declares decodes is =
        let same = same_Some (methods_known.i classes none all c l n m decoded at declares decodes) i (sym (methods_known.here classes none all c l n m decoded at declares decodes) ∙ is) in
        subst (IsMethodAs P c l.«class».pool m decoded) same
        (method_as classes none all c l n m decoded at declares decodes (body_of l.«class» l.«class».methods l.bodies n m decoded (known.readable classes none all c l at).decoded.bodies declares decodes))

    class_as : IsClassAs P classes c l e
    unfolding outline_class
    class_as = record { read = refl; slots = each_slot; rising = rising; first_method = refl; methods = each_method }

    -- ---- the rules

    kept : MembersKept O c (known.outlined classes none all c l) l.«class»
    kept = members_kept O c (known.outlined classes none all c l) l.«class» (known.each_class classes none all (members_fault O) (known.passed classes none all).members c l at)

    interface_members : IsTrue (is_interface P c) → IsTrue (has_interface_members l.«class»)
    interface_members p = of_test (is_interface O c) (ap (λ f. f c) (alike.interfaces P O (program.bare_classes classes)) ∙ p) kept.interface
      where
        of_test : (b : Bool) → b ≡ true → (not b || has_interface_members l.«class») ≡ true → IsTrue (has_interface_members l.«class»)
        of_test true e q = q
        of_test false e q = absurd cc

    cycle : (d : ℕ) → IsDirectlyAbove P c d → Above P d c → ⊥
    cycle d step back =
        no_cycle P (above.has_steps classes none all) (above.apart classes none all) c d (direct_step (class_at P c) d step) ((reaches_above P (above.has_steps classes none all) d c).1 back)

    hides : (name : List ℕ) (n : ℕ) (i : MethodInfo) → method_at P n ≡ Some i → override_fault P name n ≡ None → hides_final P i ≡ false
    unfolding override_fault
    hides name n i is e = is_false (hides_final P i) (passes _ _ (sym (ap (λ o. option_map_or (λ i. unless (not (hides_final P i)) (faults.FinalOverride name (method_name i))) o None) is) ∙ e))

    not_hiding : (n : ℕ) (i : MethodInfo) → method_at P n ≡ Some i → i.«class» ≡ c → hides_final P i ≡ false
    not_hiding n i is own =
        let k = among n i is in
        let here = ap (λ ms. slice_get ms k.0) (alike.declares P O (program.bare_classes classes) c ∙ ap (methods_of P) (sym own)) ∙ k.1 in
        let name = (known.outlined classes none all c l).name in
        hides name n i is (sym (alike.overrides P O (program.bare_classes classes) (program.bare_methods classes) name n) ∙ each_of (override_fault O name) (methods_of O c) kept.overrides k.0 n here)

    final_override : (n m : ℕ) (i over : MethodInfo) → method_at P n ≡ Some i → method_at P m ≡ Some over → i.«class» ≡ c
        → IsTrue (is_selectable i.name i.desc i) → IsTrue (is_selectable i.name i.desc over) → Above P c over.«class» → (over.«class» ≡ c → ⊥) → is_final over.flags ≡ false
    final_override n m i over is js own mine theirs a apart = false_from_ne_true (is_final over.flags) (λ final.
        let k = among m over js in
        let w = slice_get_within P.classes c e (above.is_entry classes none all c l at) in
        let short = above.above_in classes none all c over.«class» w a in
        let there : IsTrue (has_final P i over.«class») =
        any_in (λ m. option_map_or (is_final_as i) (method_at P m) false) (methods_of P over.«class») m (listed_at (methods_of P over.«class») k.0 m k.1)
        (subst (λ o. IsTrue (option_map_or (is_final_as i) o false)) (sym js) (and_from (is_selectable i.name i.desc over) (is_final over.flags) theirs final)) in
        let reached : IsTrue (reaches P i.«class» over.«class») = subst (λ c. IsTrue (reaches P c over.«class»)) (sym own) ((reaches_above P (above.has_steps classes none all) c over.«class»).1 a) in
        let other : IsTrue (not (over.«class» == i.«class»)) = ap not (false_from_ne_true (over.«class» == i.«class») (λ same. apart (eqb-true over.«class» i.«class» same ∙ own))) in
        let hidden : hides_final P i ≡ true =
        and_from (is_selectable i.name i.desc i) _ mine
        (any_in (has_final_over P i) (range_with_len 0 (length P.classes)) over.«class» (range_listed 0 (length P.classes) over.«class» (omega arith) (omega (arith, short)))
        (and_from (not (over.«class» == i.«class»)) _ other (and_from (reaches P i.«class» over.«class») (has_final P i over.«class») reached there))) in
        both_ways (hides_final P i) (not_hiding n i is own) hidden)

    each_field : All (λ (f : Field). Spells (SaysKind P) l.«class».pool f.desc) l.«class».fields
    each_field k d lt =
        let f = slots.fields_known classes none all c l at k d lt in
        let says = kind_says P (slots.FieldKnown.desc f) (slots.FieldKnown.kind f) (sym (slots.kind_of_same classes none all (slots.FieldKnown.desc f)) ∙ slots.FieldKnown.is_kind f) in
        is_some_and (SaysKind P) _ (slots.FieldKnown.text f) (slots.FieldKnown.described f)
        (slots.FieldKnown.kind f, says.1, subst (λ d. desc d (slots.FieldKnown.text f)) (sym says.0) (slots.FieldKnown.spelled f))

    keeps_rules : KeepsRules P c e l.«class»
    unfolding outline_class
    keeps_rules = record {
      reserved = known.not_reserved classes none all c l at;
      final_super = above.not_final classes none all c l at;
      cycle = cycle;
      initialiser = kept.initialiser;
      interface_members = interface_members;
      final_override = final_override;
      fields = each_field;
    }

  -- ---- the whole

  pub links : Links classes (linked_program classes)
  links = record {
    linked = linked classes none all;
    class_count = program.class_count classes;
    method_count = program.all_methods classes (known.decoded classes none all);
    entries = λ c l e at is. subst (IsClassAs P classes c l) (same_Some (program.entry_of classes c l) e (sym (above.is_entry classes none all c l at) ∙ is)) (class_as c l at);
    rules = λ c l e at is. subst (λ e. KeepsRules P c e l.«class») (same_Some (program.entry_of classes c l) e (sym (above.is_entry classes none all c l at) ∙ is)) (keeps_rules c l at);
  }

all_decoded : (classes : List Loaded) → All IsReadable classes → All IsDecoded classes
all_decoded classes all k d lt = (all k d lt).decoded

-- and to no other
pub no_other : (classes : List Loaded) (P : ProgramTables) → All IsReadable classes → Links classes P → P ≡ linked_program classes
no_other classes P all linked =
    let decoded = all_decoded classes all in
    one_program classes P (linked_program classes) decoded linked (links classes (no_fault classes P linked decoded) all)
