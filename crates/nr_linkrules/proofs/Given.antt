-- What the rules on instructions give is what linking finds, where the instruction names an entry that it can name.
use Rattle.std.proofs.Common.{◌≡◌, ℕ, Bool, true, false, ◌&&◌, List, Option, Some, None, Ok, Err, refl, sym, ap, subst, ◌∙◌}
use Rattle.std.specs.Prelude.{All, IsTrue, codes, if◌then◌else◌}
use Rattle.std.specs.Str.{bytes_eq}
use Rattle.std.specs.Option.{option_map_or}
use Rattle.std.proofs.lemmas.Bool.{and_parts, both_ways}
use Rattle.nr_prog.specs.declared.pool.PoolEntry.{PoolEntry}
use Rattle.nr_prog.specs.declared.pool.PoolEntry.TheVariants.{Class, NameAndType, Utf8}
use Rattle.nr_prog.specs.BodyNames.{class_text_at, desc_text_at}
use Rattle.nr_prog.specs.Pool.{IsText, entry_at, is_class, is_entry_formed, is_name_and_type, is_utf8, names, text_at}
use Rattle.nr_instrs.specs.Checks.{then_on}
use Rattle.nr_linked.specs.declared.program.tables.ClassInfo.{ClassInfo}
use Rattle.nr_linked.specs.declared.program.tables.ProgramTables.{ProgramTables}
use Rattle.nr_linked.specs.declared.program.tables.Resolved.{Resolved}
use Rattle.nr_linked.specs.declared.program.tables.Resolved.TheVariants as resolved
use Rattle.nr_linked.specs.Kinds.{is_array}
use Rattle.nr_linked.specs.Linked.{Linked}
use Rattle.nr_linked.specs.Programs.{class_at, method_at}
use Rattle.nr_links.specs.Found.{IsCallFound, IsSlotFound}
use Rattle.nr_links.specs.Named.{NamesMember, name_text_at}
use Rattle.nr_links.specs.Resolution.{class_with_members, resolved_method, resolved_slot}
use Rattle.nr_linked.proofs.Elements.{passing}
use Rattle.nr_linkrules.specs.declared.fault.LinkFault.{LinkFault}
use Rattle.nr_linkrules.specs.Outline.{some_text}
use Rattle.nr_linkrules.specs.SiteRules.{Finding, Place, callable, can_call, kind_at, method_found, method_in, method_of, on_member, or_fault, slot_found, slot_in}
use Rattle.nr_linkrules.proofs.Finding.{call_passes, resolved_name}
use Rattle.nr_linkrules.proofs.Naming.{kind_is_named, unwrap}

-- ---- findings in turn

pub first_then : {A B : Type 0} (o : Finding A) (f : A → Finding B) (y : B) → then_on o f ≡ Ok y → (x : A) × (o ≡ Ok x) × (f x ≡ Ok y)
first_then (Ok x) f y e = (x, refl, e)
first_then (Err g) f y e = absurd cc

by_test : {A : Type 0} (b : Bool) (x y : A) (f : LinkFault) → ◌≡◌ {A = Finding A} (if b then Ok x else Err f) (Ok y) → (b ≡ true) × (x ≡ y)
by_test true x y f e = (refl, cc)
by_test false x y f e = absurd cc

-- ---- what a member reference of a well-formed pool names

module _ (pool : List PoolEntry) (formed : (index : ℕ) (e : PoolEntry) → entry_at pool index ≡ Some e → IsTrue (is_entry_formed pool index e)) where
  text_there : (index : ℕ) → IsTrue (names is_utf8 pool index) → (text : List ℕ) × (text_at pool index ≡ Some text)
  unfolding text_at
  text_there index p = of_entry (entry_at pool index) p
    where
      of_entry : (o : Option PoolEntry) → IsTrue (option_map_or is_utf8 o false) → (text : List ℕ) × (option_map_or Rattle.nr_prog.specs.Pool.text_in o None ≡ Some text)
      of_entry None p = absurd cc
      of_entry (Some (Utf8 bytes)) p = (bytes, refl)
      of_entry (Some e) p = absurd cc

  pub class_there : (index : ℕ) → IsTrue (names is_class pool index) → (text : List ℕ) × (class_text_at pool index ≡ Some text)
  unfolding class_text_at is_entry_formed
  class_there index p = of_entry (entry_at pool index) refl p
    where
      of_entry : (o : Option PoolEntry) → entry_at pool index ≡ o → IsTrue (option_map_or is_class o false) → (text : List ℕ) × (option_map_or (Rattle.nr_prog.specs.BodyNames.class_text_in pool) o None ≡ Some text)
      of_entry None is p = absurd cc
      of_entry (Some (Class name)) is p = text_there name (formed index (Class name) is)
      of_entry (Some e) is p = absurd cc

  pub record Member (member : ℕ) : Type 0 where
    pub name : List ℕ
    pub desc : List ℕ
    pub named : name_text_at pool member ≡ Some name
    pub described : desc_text_at pool member ≡ Some desc

  pub member_there : (index : ℕ) → IsTrue (names is_name_and_type pool index) → Member index
  unfolding desc_text_at is_entry_formed
  member_there index p = of_entry (entry_at pool index) refl p
    where
      of_entry : (o : Option PoolEntry) → entry_at pool index ≡ o → IsTrue (option_map_or is_name_and_type o false) → Member index
      of_entry None is p = absurd cc
      of_entry (Some (NameAndType n d)) is p =
          let both = and_parts (names is_utf8 pool n) (names is_utf8 pool d) (formed index (NameAndType n d) is) in
          let name = text_there n both.0 in
          let desc = text_there d both.1 in
          record {
            name = name.0;
            desc = desc.0;
            named = ap (λ o. option_map_or (Rattle.nr_links.specs.Named.name_text_in pool) o None) is ∙ name.1;
            described = ap (λ o. option_map_or (Rattle.nr_prog.specs.BodyNames.desc_text_in pool) o None) is ∙ desc.1;
          }
      of_entry (Some e) is p = absurd cc

  -- ---- what is given is found

  module _ (P : ProgramTables) (linked : Linked P) (own : ℕ) (entry : ClassInfo) (own_is : class_at P own ≡ Some entry) (all : All IsText pool) (p : Place) (here : p.own ≡ own) where
    pub slot_is : (named member : ℕ) (r : Resolved) → IsTrue (names is_class pool named) → IsTrue (names is_name_and_type pool member) → on_member P pool (slot_found P p) named member ≡ Ok r → IsSlotFound P pool named member r
    slot_is named member r class_named pair_named e =
        let bytes = class_there named class_named in
        let m = member_there member pair_named in
        let k = first_then (kind_at P pool named) (slot_found P p (some_text (name_text_at pool member)) (some_text (desc_text_at pool member))) r e in
        let at_names : slot_found P p m.name m.desc k.0 ≡ Ok r =
        ap (λ t. slot_found P p m.name (some_text t) k.0) (sym m.described) ∙ ap (λ t. slot_found P p (some_text t) (some_text (desc_text_at pool member)) k.0) (sym m.named) ∙ k.2 in
        let c = first_then _ (slot_in P p m.name m.desc) r at_names in
        let s = first_then (or_fault (Rattle.nr_linkrules.specs.declared.fault.LinkFault.TheVariants.NoField p.class_name p.method p.at) (resolved_slot P c.0 m.name m.desc)) (λ s. Ok (resolved.Slot c.0 s)) r c.2 in
        record {
          kind = k.0;
          name = m.name;
          desc = m.desc;
          names = record { kind = kind_is_named P pool all named bytes.0 k.0 bytes.1 k.1; named = m.named; described = m.described };
          holder = c.0;
          holds = unwrap _ (class_with_members P k.0) c.0 c.1;
          slot = s.0;
          resolves = unwrap _ (resolved_slot P c.0 m.name m.desc) s.0 s.1;
          found = cc;
        }

    pub call_is : (code named member : ℕ) (r : Resolved) → IsTrue (names is_class pool named) → IsTrue (names is_name_and_type pool member) → on_member P pool (method_found P p code) named member ≡ Ok r → IsCallFound P own code pool named member r
    call_is code named member r class_named pair_named e =
        let bytes = class_there named class_named in
        let m = member_there member pair_named in
        let k = first_then (kind_at P pool named) (method_found P p code (some_text (name_text_at pool member)) (some_text (desc_text_at pool member))) r e in
        let at_names : method_found P p code m.name m.desc k.0 ≡ Ok r =
        ap (λ t. method_found P p code m.name (some_text t) k.0) (sym m.described) ∙ ap (λ t. method_found P p code (some_text t) (some_text (desc_text_at pool member)) k.0) (sym m.named) ∙ k.2 in
        let c = first_then _ (method_in P p code m.name m.desc k.0) r at_names in
        let n = first_then (or_fault (Rattle.nr_linkrules.specs.declared.fault.LinkFault.TheVariants.NoMethod p.class_name p.method p.at) (method_of P k.0 m.name m.desc c.0)) (callable P p code c.0) r c.2 in
        let here_method = split (is_array k.0 && bytes_eq m.name (codes "<init>")) (resolved_method P c.0 m.name m.desc) n.0 (unwrap _ (method_of P k.0 m.name m.desc c.0) n.0 n.1) in
        let test = by_test (option_map_or (can_call P p.own code c.0) (method_at P n.0) false) (resolved.Method n.0 c.0) r _ n.2 in
        let callee = passing (can_call P p.own code c.0) (method_at P n.0) test.0 in
        let callee_name = resolved_name P linked own entry own_is pool p here c.0 n.0 m.name m.desc callee.0 here_method.1 callee.1 in
        record {
          kind = k.0;
          name = m.name;
          desc = m.desc;
          names = record { kind = kind_is_named P pool all named bytes.0 k.0 bytes.1 k.1; named = m.named; described = m.described };
          holder = c.0;
          holds = unwrap _ (class_with_members P k.0) c.0 c.1;
          method = n.0;
          resolves = here_method.1;
          callee = callee.0;
          is_callee = callee.1;
          no_array = λ init. not_array (is_array k.0) (bytes_eq m.name (codes "<init>")) here_method.0 (subst (λ n. IsTrue (bytes_eq n (codes "<init>"))) callee_name init);
          can_call = call_passes P linked own entry own_is code c.0 callee.0 (subst (λ own. can_call P own code c.0 callee.0 ≡ true) here callee.2);
          found = sym test.1;
        }
      where
        split : (b : Bool) (o : Option ℕ) (m : ℕ) → (if b then None else o) ≡ Some m → (b ≡ false) × (o ≡ Some m)
        split true o m e = absurd cc
        split false o m e = (refl, e)

        not_array : (a b : Bool) → (a && b) ≡ false → IsTrue b → a ≡ false
        not_array true b e p = absurd (both_ways b e p)
        not_array false b e p = refl
