-- No rule is broken exactly where the parts keep the form.
use Rattle.std.proofs.Common.{◌≡◌, ℕ, zero, suc, ◌+◌, ◌<◌, Bool, true, false, cond, eqb, List, length, get_or, take, Option, Some, None, Result, Ok, Err, IsTrue, sym, subst, ◌∙◌, arith, add-one}
use Rattle.std.specs.List.{All, AllPairs}
use Rattle.std.specs.Option.{option_or}
use Rattle.std.proofs.lemmas.Bool.{ne_eqb}
use Rattle.std.proofs.lemmas.Option.{slice_get_within, get_or_from_slice_get, slice_get-get_or}
use Rattle.nr_prog.specs.declared.pool.PoolEntry.{PoolEntry}
use Rattle.nr_prog.specs.declared.member.Field.{Field}
use Rattle.nr_prog.specs.declared.member.Method.{Method}
use Rattle.nr_prog.specs.declared.parts.ClassParts.{ClassParts}
use Rattle.nr_prog.specs.declared.fault.FormFault.{FormFault}
use Rattle.nr_prog.specs.declared.fault.FormFault.TheVariants.{PoolKind, BadName, BadDesc, OutOfProfile, CodePresence}
use Rattle.nr_prog.specs.Pool.{IsText, entry_at, text_at, is_entry_formed}
use Rattle.nr_prog.specs.Faults.{Fails, first_fault, is_free}
use Rattle.nr_prog.proofs.Walks.{either}
use Rattle.std.specs.Bool.{MatchBool}
use Rattle.nr_prog.specs.LegalTests.{is_field_text, is_method_text, is_field_desc, is_method_desc}
use Rattle.nr_prog.specs.Legal.{IsFieldText, IsMethodText, IsFieldDesc, IsMethodDesc}
use Rattle.nr_prog.specs.Members.{is_in}
use Rattle.nr_prog.specs.Rules.{entry_fault, pool_fault, class_fault, super_fault, classes_fault, name_fault, desc_fault, doubled_fault, constant_fault, field_fault, fields_fault, body_fault, method_fault, methods_fault, form_fault}
use Rattle.nr_prog.specs.Form.{AreApart, Spells, NamesClass, IsFieldFormed, IsMethodFormed, IsFormed}
use Rattle.nr_prog.proofs.NoFault.{both_none, none_or, passes, passed, each_none, none_of_each}
use Rattle.nr_prog.proofs.Distinct.{HasTexts, apart_of_new, new_of_apart}
use Rattle.nr_prog.proofs.LegalLaws.{field_is, of_field, method_is, of_method, field_desc_is, of_field_desc, method_desc_is, of_method_desc}
use Rattle.nr_prog.proofs.Spelled.{text_of, spells_is, of_spells, named_is, of_named}
use Rattle.nr_prog.proofs.Profiles.{profile_is, of_profile}

-- ---- entries

entries_formed : (pool : List PoolEntry) → pool_fault pool ≡ None → (index : ℕ) (e : PoolEntry) → entry_at pool index ≡ Some e → IsTrue (is_entry_formed pool index e)
unfolding pool_fault
entries_formed pool none zero e is = absurd cc
entries_formed pool none (suc i) e is =
    let lt = slice_get_within pool i e is in
    let here = passes _ (PoolKind (i + 1)) (each_none (entry_fault pool) 0 pool none i i e (omega arith) lt) in
    let same : get_or pool i e ≡ e = get_or_from_slice_get pool i e e is in
    let number : i + 1 ≡ suc i = add-one i in
    sym (λ k. is_entry_formed pool (number k) (same k)) ∙ here

formed_entries : (pool : List PoolEntry) → ((index : ℕ) (e : PoolEntry) → entry_at pool index ≡ Some e → IsTrue (is_entry_formed pool index e)) → pool_fault pool ≡ None
unfolding pool_fault
formed_entries pool h = none_of_each (entry_fault pool) 0 pool (λ m i d is lt.
    let here = h (suc i) (get_or pool i d) (slice_get-get_or pool i d lt) in
    let number : m + 1 ≡ suc i = omega arith in
    passed _ (PoolKind (m + 1)) ((λ k. is_entry_formed pool (number k) (get_or pool i d)) ∙ here))

-- ---- classes

named : (pool : List PoolEntry) (index : ℕ) → All IsText pool → class_fault pool index ≡ None → NamesClass pool index
unfolding class_fault
named pool index texts none = named_is pool index texts (passes _ (BadName index) none)

of_class_named : (pool : List PoolEntry) (index : ℕ) → NamesClass pool index → class_fault pool index ≡ None
unfolding class_fault
of_class_named pool index h = passed _ (BadName index) (of_named pool index h)

beside : (test : Bool) (fault : FormFault) (o : Option FormFault) → cond test (Some fault) o ≡ None → o ≡ None
beside true fault o e = absurd cc
beside false fault o e = e

beside_of : (test : Bool) (fault : FormFault) (o : Option FormFault) → test ≡ false → o ≡ None → cond test (Some fault) o ≡ None
beside_of true fault o t e = absurd cc
beside_of false fault o t e = e

super_named : (pool : List PoolEntry) (index : ℕ) → All IsText pool → super_fault pool index ≡ None → NamesClass pool index
unfolding super_fault
super_named pool index texts none = named pool index texts (beside (eqb index 0) (PoolKind 0) (class_fault pool index) none)

of_super_named : (pool : List PoolEntry) (index : ℕ) → NamesClass pool index → super_fault pool index ≡ None
unfolding super_fault
of_super_named pool zero h = absurd h
of_super_named pool (suc k) h = beside_of (eqb (suc k) 0) (PoolKind 0) (class_fault pool (suc k)) (ne_eqb (suc k) 0 (λ e. omega arith)) (of_class_named pool (suc k) h)

record AreNamed (pool : List PoolEntry) (this above : ℕ) (interfaces : List ℕ) : Type 0 where
  this_named : NamesClass pool this
  above_named : NamesClass pool above
  each_named : All (NamesClass pool) interfaces

are_named : (pool : List PoolEntry) (this above : ℕ) (interfaces : List ℕ) → All IsText pool → classes_fault pool this above interfaces ≡ None → AreNamed pool this above interfaces
unfolding classes_fault
are_named pool this above interfaces texts none =
    let a = both_none (class_fault pool this) (option_or (super_fault pool above) (first_fault (λ place. class_fault pool) 0 interfaces)) none in
    let b = both_none (super_fault pool above) (first_fault (λ place. class_fault pool) 0 interfaces) a.1 in
    record {
      this_named = named pool this texts a.0;
      above_named = super_named pool above texts b.0;
      each_named = λ i d lt. named pool (get_or interfaces i d) texts (each_none (λ place. class_fault pool) 0 interfaces b.1 i i d (omega arith) lt);
    }

of_are_named : (pool : List PoolEntry) (this above : ℕ) (interfaces : List ℕ) → AreNamed pool this above interfaces → classes_fault pool this above interfaces ≡ None
unfolding classes_fault
of_are_named pool this above interfaces h =
    none_or _ _ (of_class_named pool this h.this_named)
    (none_or _ _ (of_super_named pool above h.above_named)
    (none_of_each (λ place. class_fault pool) 0 interfaces (λ m i d is lt. of_class_named pool (get_or interfaces i d) (h.each_named i d lt))))

-- ---- members

named_text : (P : List ℕ → Type 0) (pool : List PoolEntry) (index : ℕ) → Spells P pool index → (t : List ℕ) × (text_at pool index ≡ Some t)
named_text P pool index h = let t = text_of P pool index h in (t.0, t.1)

field_texts : (pool : List PoolEntry) (f : Field) → IsFieldFormed pool f → HasTexts pool f.name f.desc
field_texts pool f h = record { name = named_text IsFieldText pool f.name h.name; desc = named_text IsFieldDesc pool f.desc h.desc }

method_texts : (pool : List PoolEntry) (m : Method) → IsMethodFormed pool m → HasTexts pool m.name m.desc
method_texts pool m h = record { name = named_text IsMethodText pool m.name h.name; desc = named_text IsMethodDesc pool m.desc h.desc }

field_checked : (pool : List PoolEntry) (earlier : List ℕ → List ℕ → Bool) (f : Field) → All IsText pool → field_fault pool earlier f ≡ None → IsFieldFormed pool f × (doubled_fault earlier pool f.name f.desc ≡ None)
unfolding field_fault name_fault desc_fault constant_fault
field_checked pool earlier f texts none =
    let a = both_none (name_fault is_field_text pool f.name) _ none in
    let b = both_none (desc_fault is_field_desc pool f.desc) _ a.1 in
    let c = both_none (doubled_fault earlier pool f.name f.desc) _ b.1 in (
      record {
        name = spells_is is_field_text IsFieldText pool f.name texts field_is (passes _ (BadName f.name) a.0);
        desc = spells_is is_field_desc IsFieldDesc pool f.desc texts field_desc_is (passes _ (BadDesc f.desc) b.0);
        constant = passes _ (PoolKind f.constant) c.1;
      },
      c.0,
    )

of_field_checked : (pool : List PoolEntry) (earlier : List ℕ → List ℕ → Bool) (f : Field) → IsFieldFormed pool f → doubled_fault earlier pool f.name f.desc ≡ None → field_fault pool earlier f ≡ None
unfolding field_fault name_fault desc_fault constant_fault
of_field_checked pool earlier f h new =
    none_or _ _ (passed _ (BadName f.name) (of_spells is_field_text IsFieldText pool f.name of_field h.name))
    (none_or _ _ (passed _ (BadDesc f.desc) (of_spells is_field_desc IsFieldDesc pool f.desc of_field_desc h.desc)) (none_or _ _ new (passed _ (PoolKind f.constant) h.constant)))

method_checked : (pool : List PoolEntry) (earlier : List ℕ → List ℕ → Bool) (place : ℕ) (m : Method) → All IsText pool → method_fault pool earlier place m ≡ None → IsMethodFormed pool m × (doubled_fault earlier pool m.name m.desc ≡ None)
unfolding method_fault name_fault desc_fault body_fault
method_checked pool earlier place m texts none =
    let a = both_none (name_fault is_method_text pool m.name) _ none in
    let b = both_none (desc_fault is_method_desc pool m.desc) _ a.1 in
    let c = both_none (doubled_fault earlier pool m.name m.desc) _ b.1 in
    let d = both_none _ _ c.1 in
    let profile = profile_is pool m texts (passes _ (OutOfProfile place) d.0) in (
      record {
        name = spells_is is_method_text IsMethodText pool m.name texts method_is (passes _ (BadName m.name) a.0);
        desc = spells_is is_method_desc IsMethodDesc pool m.desc texts method_desc_is (passes _ (BadDesc m.desc) b.0);
        plain = profile.plain;
        initialiser = profile.initialiser;
        code = passes _ (CodePresence place) d.1;
      },
      c.0,
    )

of_method_checked : (pool : List PoolEntry) (earlier : List ℕ → List ℕ → Bool) (place : ℕ) (m : Method) → IsMethodFormed pool m → doubled_fault earlier pool m.name m.desc ≡ None → method_fault pool earlier place m ≡ None
unfolding method_fault name_fault desc_fault body_fault
of_method_checked pool earlier place m h new =
    let t = method_texts pool m h in
    let profile = of_profile pool m t.name.0 t.desc.0 t.name.1 t.desc.1 (record { plain = h.plain; initialiser = h.initialiser }) in
    none_or _ _ (passed _ (BadName m.name) (of_spells is_method_text IsMethodText pool m.name of_method h.name))
    (none_or _ _ (passed _ (BadDesc m.desc) (of_spells is_method_desc IsMethodDesc pool m.desc of_method_desc h.desc))
    (none_or _ _ new (none_or _ _ (passed _ (OutOfProfile place) profile) (passed _ (CodePresence place) h.code))))

-- ---- fields and methods, in order

record AreFields (pool : List PoolEntry) (fields : List Field) : Type 0 where
  each_field : All (IsFieldFormed pool) fields
  apart_fields : AllPairs (λ f g. AreApart pool f.name f.desc g.name g.desc) fields

abbrev fault_of_field : List PoolEntry → List Field → ℕ → Field → Option FormFault
fault_of_field pool fields place f = field_fault pool (is_in (λ (g : Field). g.name) (λ (g : Field). g.desc) pool (take place fields)) f

are_fields : (pool : List PoolEntry) (fields : List Field) → All IsText pool → fields_fault pool fields ≡ None → AreFields pool fields
unfolding fields_fault
are_fields pool fields texts none =
    let checked = λ (i : ℕ) (d : Field) (lt : i < length fields).
    field_checked pool (is_in (λ (g : Field). g.name) (λ (g : Field). g.desc) pool (take i fields)) (get_or fields i d) texts
    (each_none (fault_of_field pool fields) 0 fields none i i d (omega arith) lt) in
    record {
      each_field = λ i d lt. (checked i d lt).0;
      apart_fields = apart_of_new (λ (g : Field). g.name) (λ (g : Field). g.desc) pool fields
          (λ i d lt. field_texts pool (get_or fields i d) (checked i d lt).0) (λ i d lt. (checked i d lt).1);
    }

of_are_fields : (pool : List PoolEntry) (fields : List Field) → AreFields pool fields → fields_fault pool fields ≡ None
unfolding fields_fault
of_are_fields pool fields h = none_of_each (fault_of_field pool fields) 0 fields (λ m i d is lt.
    let new = new_of_apart (λ (g : Field). g.name) (λ (g : Field). g.desc) pool fields
    (λ j e short. field_texts pool (get_or fields j e) (h.each_field j e short)) h.apart_fields i d lt in
    let place : i ≡ m = omega arith in
    subst (λ (k : ℕ). fault_of_field pool fields k (get_or fields i d) ≡ None) place
    (of_field_checked pool (is_in (λ (g : Field). g.name) (λ (g : Field). g.desc) pool (take i fields)) (get_or fields i d) (h.each_field i d lt) new))

record AreMethods (pool : List PoolEntry) (methods : List Method) : Type 0 where
  each_method : All (IsMethodFormed pool) methods
  apart_methods : AllPairs (λ m n. AreApart pool m.name m.desc n.name n.desc) methods

abbrev fault_of_method : List PoolEntry → List Method → ℕ → Method → Option FormFault
fault_of_method pool methods place m = method_fault pool (is_in (λ (n : Method). n.name) (λ (n : Method). n.desc) pool (take place methods)) place m

are_methods : (pool : List PoolEntry) (methods : List Method) → All IsText pool → methods_fault pool methods ≡ None → AreMethods pool methods
unfolding methods_fault
are_methods pool methods texts none =
    let checked = λ (i : ℕ) (d : Method) (lt : i < length methods).
    method_checked pool (is_in (λ (n : Method). n.name) (λ (n : Method). n.desc) pool (take i methods)) i (get_or methods i d) texts
    (each_none (fault_of_method pool methods) 0 methods none i i d (omega arith) lt) in
    record {
      each_method = λ i d lt. (checked i d lt).0;
      apart_methods = apart_of_new (λ (n : Method). n.name) (λ (n : Method). n.desc) pool methods
          (λ i d lt. method_texts pool (get_or methods i d) (checked i d lt).0) (λ i d lt. (checked i d lt).1);
    }

of_are_methods : (pool : List PoolEntry) (methods : List Method) → AreMethods pool methods → methods_fault pool methods ≡ None
unfolding methods_fault
of_are_methods pool methods h = none_of_each (fault_of_method pool methods) 0 methods (λ m i d is lt.
    let new = new_of_apart (λ (n : Method). n.name) (λ (n : Method). n.desc) pool methods
    (λ j e short. method_texts pool (get_or methods j e) (h.each_method j e short)) h.apart_methods i d lt in
    let place : i ≡ m = omega arith in
    subst (λ (k : ℕ). fault_of_method pool methods k (get_or methods i d) ≡ None) place
    (of_method_checked pool (is_in (λ (n : Method). n.name) (λ (n : Method). n.desc) pool (take i methods)) i (get_or methods i d) (h.each_method i d lt) new))

-- ---- the whole

pub formed : (c : ClassParts) → All IsText c.pool → form_fault c ≡ None → IsFormed c
unfolding form_fault
formed c texts none =
    let a = both_none (pool_fault c.pool) _ none in
    let b = both_none (classes_fault c.pool c.this_class c.super_class c.interfaces) _ a.1 in
    let d = both_none (fields_fault c.pool c.fields) (methods_fault c.pool c.methods) b.1 in
    let names = are_named c.pool c.this_class c.super_class c.interfaces texts b.0 in
    let fields = are_fields c.pool c.fields texts d.0 in
    let methods = are_methods c.pool c.methods texts d.1 in
    record {
      entries = entries_formed c.pool a.0;
      this = names.this_named;
      above = names.above_named;
      interfaces = names.each_named;
      fields = fields.each_field;
      apart_fields = fields.apart_fields;
      methods = methods.each_method;
      apart_methods = methods.apart_methods;
    }

pub of_formed : (c : ClassParts) → IsFormed c → form_fault c ≡ None
unfolding form_fault
of_formed c h =
    none_or _ _ (formed_entries c.pool h.entries)
    (none_or _ _ (of_are_named c.pool c.this_class c.super_class c.interfaces (record { this_named = h.this; above_named = h.above; each_named = h.interfaces }))
    (none_or _ _ (of_are_fields c.pool c.fields (record { each_field = h.fields; apart_fields = h.apart_fields }))
    (of_are_methods c.pool c.methods (record { each_method = h.methods; apart_methods = h.apart_methods }))))

abbrev ok : {A E : Type 0} → A → Result A E
ok x = Ok x

-- where the parts keep the form, a check fails for want of memory alone
pub only_free : (c : ClassParts) (e : FormFault) → Fails e (form_fault c) → IsFormed c → MatchBool (is_free e) (Unit {0}) (ok {E = FormFault} c ≡ Err e)
only_free c e f h = either (is_free e) (λ (some : form_fault c ≡ Some e). let none = of_formed c h in absurd cc) f
