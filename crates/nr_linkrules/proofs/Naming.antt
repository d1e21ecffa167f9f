-- What bytes and entries of a constant pool name in a program, as a test and as a relation.
use Rattle.std.proofs.Common.{◌≡◌, ℕ, suc, ◌-◌, ◌<◌, ◌≤◌, Bool, true, false, cond, ◌&&◌, eqb, List, [], ◌∷◌, ◌++◌, length, replicate, Option, Some, None, Result, Ok, Err, inl, inr, refl, sym, ap, subst, ◌∙◌, arith}
use Rattle.std.specs.Prelude.{All, IsSomeAnd, IsTrue}
use Rattle.std.specs.List.{position}
use Rattle.std.specs.Str.{bytes_eq}
use Rattle.std.specs.Option.{option_and_then, option_map, option_map_or}
use Rattle.std.proofs.lemmas.Bool.{eqb-false, lt-ltb, ltb-true, ne_eqb}
use Rattle.std.proofs.lemmas.List.Quantifiers.{position-Some}
use Rattle.std.proofs.lemmas.Option.{get_or_from_slice_get, same_Some}
use Rattle.nr_base.specs.Grammar.{IsBytes}
use Rattle.nr_base.specs.Names.{is_name}
use Rattle.nr_base.specs.LegalNames.{class_from}
use Rattle.nr_base.specs.Descs.{desc, base_text}
use Rattle.nr_base.specs.DescReading.{desc_of}
use Rattle.nr_base.specs.declared.desc.fault.DescFault.{DescFault}
use Rattle.nr_base.specs.declared.desc.types.Desc.{Desc}
use Rattle.nr_base.specs.declared.desc.types.DescBase.{DescBase}
use Rattle.nr_base.specs.declared.desc.types.DescBase.TheVariants as desc_bases
use Rattle.nr_prog.specs.declared.pool.PoolEntry.{PoolEntry}
use Rattle.nr_prog.specs.LegalTests.{is_class_text}
use Rattle.nr_prog.specs.Pool.{IsText}
use Rattle.nr_prog.specs.BodyNames.{IsClassOf, class_text_at, object}
use Rattle.nr_prog.proofs.LegalLaws.{class_is, of_class}
use Rattle.nr_prog.specs.TextForms.{class_desc}
use Rattle.nr_instrs.proofs.ClassDescs.{class_desc_is, class_desc_of}
use Rattle.nr_instrs.proofs.Facts.{class_bytes as bytes_of_class, desc_is, reads_desc}
use Rattle.nr_linked.specs.declared.program.kind.Base.{Base}
use Rattle.nr_linked.specs.declared.program.kind.Base.TheVariants as bases
use Rattle.nr_linked.specs.declared.program.kind.Kind.{Kind}
use Rattle.nr_linked.specs.declared.program.tables.ClassInfo.{ClassInfo}
use Rattle.nr_linked.specs.declared.program.tables.ProgramTables.{ProgramTables}
use Rattle.nr_linked.specs.KindTexts.{class_name, kind_desc}
use Rattle.nr_linked.specs.Linked.{Linked, is_class_in, is_kind_in}
use Rattle.nr_linked.specs.Programs.{class_named}
use Rattle.nr_links.specs.Named.{NamesKind}
use Rattle.nr_links.proofs.Described.{same_bytes}
use Rattle.nr_links.proofs.Descriptors.{name_of}
use Rattle.nr_linked.proofs.Elements.{get_below, some_of}
use Rattle.nr_linkrules.specs.declared.fault.LinkFault.{LinkFault}
use Rattle.nr_linkrules.specs.Layout.{base_of, kind_of}
use Rattle.nr_linkrules.specs.Outline.{some_text}
use Rattle.nr_linkrules.specs.SiteRules.{Finding, kind_at, kind_named, or_fault}

-- ---- findings

pub unwrap : {A : Type 0} (f : LinkFault) (o : Option A) (x : A) → ◌≡◌ {A = Finding A} (or_fault f o) (Ok x) → o ≡ Some x
unwrap f None x e = absurd cc
unwrap f (Some y) x e = cc

pub wrap : {A : Type 0} (f : LinkFault) (o : Option A) (x : A) → o ≡ Some x → ◌≡◌ {A = Finding A} (or_fault f o) (Ok x)
wrap f o x e = ap (or_fault f) e

pub and_then_from : {A B : Type 0} (f : A → Option B) (o : Option A) (y : B) → option_and_then f o ≡ Some y → (x : A) × (o ≡ Some x) × (f x ≡ Some y)
and_then_from f None y e = absurd cc
and_then_from f (Some x) y e = (x, refl, e)

-- ---- kinds

-- the class of a name has this name
pub named_class : (P : ProgramTables) (name : List ℕ) (c : ℕ) → class_named P name ≡ Some c → IsTrue (is_class_in P c) × (class_name P c ≡ name)
named_class P name c e =
    let l = lower P.classes e in
    let r = get_below P.classes c l in
    let t = (position-Some (λ (e : ClassInfo). bytes_eq e.name name) P.classes c r.0 e).1 in
    let same = same_bytes r.0.name name (ap (λ (e : ClassInfo). bytes_eq e.name name) (sym (get_or_from_slice_get P.classes c r.0 r.0 r.1)) ∙ t) in
    (lt-ltb c (length P.classes) l, name_of P c r.0 r.1 ∙ same)
  where
    lower : (es : List ClassInfo) → position (λ (e : ClassInfo). bytes_eq e.name name) es ≡ Some c → c < length es
    lower [] e = absurd cc
    lower (x ∷ es) e = (position-Some (λ (e : ClassInfo). bytes_eq e.name name) (x ∷ es) c x e).0

kind_from : (dims : ℕ) (b : Option Base) (k : Kind) → option_map (λ b. record { dims = dims; base = b }) b ≡ Some k → b ≡ Some k.base × (dims ≡ k.dims)
kind_from dims None k e = absurd cc
kind_from dims (Some b) k e = let same = same_Some (record { dims = dims; base = b }) k e in (ap (λ (k : Kind). Some k.base) same, ap (λ (k : Kind). k.dims) same)

base_from : (P : ProgramTables) (d : DescBase) (b : Base) → base_of P d ≡ Some b → (Rattle.nr_linked.specs.KindTexts.base_desc P b ≡ d) × IsTrue (option_map_or (is_class_in P) (Rattle.nr_linked.specs.Kinds.class_in b) true)
base_from P desc_bases.Bool b e = let s : bases.Bool ≡ b = same_Some bases.Bool b e in subst (λ b. (Rattle.nr_linked.specs.KindTexts.base_desc P b ≡ desc_bases.Bool) × IsTrue (option_map_or (is_class_in P) (Rattle.nr_linked.specs.Kinds.class_in b) true)) s (refl, refl)
base_from P desc_bases.Byte b e = let s : bases.Byte ≡ b = same_Some bases.Byte b e in subst (λ b. (Rattle.nr_linked.specs.KindTexts.base_desc P b ≡ desc_bases.Byte) × IsTrue (option_map_or (is_class_in P) (Rattle.nr_linked.specs.Kinds.class_in b) true)) s (refl, refl)
base_from P desc_bases.Char b e = let s : bases.Char ≡ b = same_Some bases.Char b e in subst (λ b. (Rattle.nr_linked.specs.KindTexts.base_desc P b ≡ desc_bases.Char) × IsTrue (option_map_or (is_class_in P) (Rattle.nr_linked.specs.Kinds.class_in b) true)) s (refl, refl)
base_from P desc_bases.Short b e = let s : bases.Short ≡ b = same_Some bases.Short b e in subst (λ b. (Rattle.nr_linked.specs.KindTexts.base_desc P b ≡ desc_bases.Short) × IsTrue (option_map_or (is_class_in P) (Rattle.nr_linked.specs.Kinds.class_in b) true)) s (refl, refl)
base_from P desc_bases.Int b e = let s : bases.Int ≡ b = same_Some bases.Int b e in subst (λ b. (Rattle.nr_linked.specs.KindTexts.base_desc P b ≡ desc_bases.Int) × IsTrue (option_map_or (is_class_in P) (Rattle.nr_linked.specs.Kinds.class_in b) true)) s (refl, refl)
base_from P desc_bases.Long b e = let s : bases.Long ≡ b = same_Some bases.Long b e in subst (λ b. (Rattle.nr_linked.specs.KindTexts.base_desc P b ≡ desc_bases.Long) × IsTrue (option_map_or (is_class_in P) (Rattle.nr_linked.specs.Kinds.class_in b) true)) s (refl, refl)
base_from P (desc_bases.Object name) b e = of_class_number (class_named P name) refl e
  where
    of_class_number : (o : Option ℕ) → class_named P name ≡ o → option_map (λ c. bases.Object c) o ≡ Some b → (Rattle.nr_linked.specs.KindTexts.base_desc P b ≡ desc_bases.Object name) × IsTrue (option_map_or (is_class_in P) (Rattle.nr_linked.specs.Kinds.class_in b) true)
    of_class_number None is e = absurd cc
    of_class_number (Some c) is e =
        let n = named_class P name c is in
        subst (λ b. (Rattle.nr_linked.specs.KindTexts.base_desc P b ≡ desc_bases.Object name) × IsTrue (option_map_or (is_class_in P) (Rattle.nr_linked.specs.Kinds.class_in b) true)) (same_Some (bases.Object c) b e)
        (ap (λ n. desc_bases.Object n) n.1, n.0)

-- the kind of a descriptor says the descriptor
pub kind_says : (P : ProgramTables) (d : Desc) (k : Kind) → kind_of P d ≡ Some k → (kind_desc P k ≡ d) × IsTrue (is_kind_in P k)
kind_says P d k e =
    let p = kind_from d.dims (base_of P d.base) k e in
    let b = base_from P d.base k.base p.0 in
    (λ i. record { dims = sym p.1 i; base = b.0 i }, b.1)

base_back : (P : ProgramTables) → Linked P → (b : Base) → IsTrue (option_map_or (is_class_in P) (Rattle.nr_linked.specs.Kinds.class_in b) true) → base_of P (Rattle.nr_linked.specs.KindTexts.base_desc P b) ≡ Some b
base_back P linked bases.Bool p = refl
base_back P linked bases.Byte p = refl
base_back P linked bases.Char p = refl
base_back P linked bases.Short p = refl
base_back P linked bases.Int p = refl
base_back P linked bases.Long p = refl
base_back P linked (bases.Object c) p =
    let r = get_below P.classes c (ltb-true c (length P.classes) p) in
    ap (option_map (λ c. bases.Object c)) (ap (class_named P) (name_of P c r.0 r.1) ∙ (linked.classes c r.0 r.1).name)

pub kind_back : (P : ProgramTables) → Linked P → (k : Kind) → IsTrue (is_kind_in P k) → kind_of P (kind_desc P k) ≡ Some k
kind_back P linked k p = ap (option_map (λ b. record { dims = k.dims; base = b })) (base_back P linked k.base p)

-- ---- entries of the pool

module _ (P : ProgramTables) (pool : List PoolEntry) where
  -- what is found is named
  pub kind_is_named : All IsText pool → (index : ℕ) (bytes : List ℕ) (k : Kind) → class_text_at pool index ≡ Some bytes → kind_at P pool index ≡ Ok k → NamesKind P pool index k
  unfolding kind_named
  kind_is_named all index bytes k at e =
      let found = unwrap _ _ k (ap (λ t. kind_named P (some_text t)) (sym at) ∙ e) in
      let d = and_then_from (kind_of P) (class_desc bytes) k found in
      let says = kind_says P d.0 k d.2 in
      record {
        text = subst (λ t. IsSomeAnd t (λ bytes. IsClassOf bytes (kind_desc P k))) (sym at) (subst (IsClassOf bytes) (sym says.0) (class_desc_is bytes d.0 (bytes_of_class pool index bytes all at) d.1));
        known = says.1;
      }

  -- what is named is found
  pub named_is_found : Linked P → (index : ℕ) (k : Kind) → NamesKind P pool index k → kind_at P pool index ≡ Ok k
  unfolding kind_named
  named_is_found linked index k n =
      let t = some_of (λ bytes. IsClassOf bytes (kind_desc P k)) (class_text_at pool index) n.text in
      ap (λ o. kind_named P (some_text o)) t.1 ∙ wrap _ _ k (ap (option_and_then (kind_of P)) (class_desc_of t.0 (kind_desc P k) t.2) ∙ kind_back P linked k n.known)
