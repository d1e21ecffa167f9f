-- What the text of a class in the constant pool spells.
use Rattle.std.proofs.Common.{◌≡◌, ℕ, List, [], refl, sym, ap, ◌∙◌}
use Rattle.std.specs.Prelude.{Option, Some, None, Ok, Err, IsSomeAnd}
use Rattle.std.specs.Option.{option_and_then, option_map, option_map_or}
use Rattle.std.proofs.lemmas.Option.{same_Some}
use Rattle.nr_base.specs.ModifiedUtf8.{IsModifiedUtf8}
use Rattle.nr_base.specs.declared.desc.types.Desc.{Desc}
use Rattle.nr_prog.specs.declared.pool.PoolEntry.{PoolEntry}
use Rattle.nr_prog.specs.declared.text.TextForm.{TextForm}
use Rattle.nr_prog.specs.BodyNames.{NamesAnyClass, class_text_at}
use Rattle.nr_prog.specs.TextForms.{class_desc, form_of}
use Rattle.nr_linked.specs.declared.program.kind.Kind.{Kind}
use Rattle.nr_linked.specs.declared.program.tables.ProgramTables.{ProgramTables}
use Rattle.nr_linkrules.specs.declared.fault.LinkFault.TheVariants as faults
use Rattle.nr_linkrules.specs.Layout.{kind_of}
use Rattle.nr_linkrules.specs.SiteRules.{class_bytes, class_in_base, class_named_by, kind_named, or_fault}

-- the bytes are a name
pub bytes_are_name : (pool : List PoolEntry) (index : ℕ) → NamesAnyClass pool index → IsModifiedUtf8 (class_bytes pool index)
bytes_are_name pool index h = of_text (class_text_at pool index) h
  where
    of_text : (o : Option (List ℕ)) → IsSomeAnd o IsModifiedUtf8 → IsModifiedUtf8 (option_map_or (λ (text : List ℕ). text) o [])
    of_text None h = absurd h
    of_text (Some text) h = h

-- something is told of each class
pub none_told : (pool : List PoolEntry) (index : ℕ) → NamesAnyClass pool index → None ≡ option_map form_of (class_text_at pool index) → None ≡ class_desc (class_bytes pool index)
none_told pool index h none = of_text (class_text_at pool index) h none
  where
    of_text : (o : Option (List ℕ)) → IsSomeAnd o IsModifiedUtf8 → None ≡ option_map form_of o → None ≡ class_desc (option_map_or (λ (text : List ℕ). text) o [])
    of_text None h e = absurd h
    of_text (Some text) h e = absurd cc

-- what is told of the text is told of the class's bytes
pub class_told : (pool : List PoolEntry) (index : ℕ) (form : TextForm) → Some form ≡ option_map form_of (class_text_at pool index) → form.class ≡ class_desc (class_bytes pool index)
unfolding form_of
class_told pool index form told = of_text (class_text_at pool index) told
  where
    of_text : (o : Option (List ℕ)) → Some form ≡ option_map form_of o → form.class ≡ class_desc (option_map_or (λ (text : List ℕ). text) o [])
    of_text None e = absurd cc
    of_text (Some text) e = ap (λ (f : TextForm). f.class) (same_Some form (form_of text) e)

pub named_by : (bytes name : List ℕ) (d : Desc) → Some d ≡ class_desc bytes → name ≡ class_in_base bytes d.base → name ≡ class_named_by bytes
unfolding class_named_by
named_by bytes name d e is = is ∙ ap (λ o. option_map_or (λ (d : Desc). class_in_base bytes d.base) o bytes) e

-- ---- kinds

pub kind_found : (P : ProgramTables) (bytes : List ℕ) (k : Kind) → Some k ≡ option_and_then (kind_of P) (class_desc bytes) → kind_named P bytes ≡ Ok k
unfolding kind_named
kind_found P bytes k e = ap (λ (o : Option Kind). or_fault (faults.NoClass (class_named_by bytes)) o) (sym e)

pub kind_lost : (P : ProgramTables) (bytes name : List ℕ) → None ≡ option_and_then (kind_of P) (class_desc bytes) → name ≡ class_named_by bytes → kind_named P bytes ≡ Err (faults.NoClass name)
unfolding kind_named
kind_lost P bytes name e is =
    ap (λ (o : Option Kind). or_fault (faults.NoClass (class_named_by bytes)) o) (sym e) ∙ ap (λ name. Err (faults.NoClass name)) (sym is)

-- what a class's text names is what the class's bytes name
pub kind_of_text : (P : ProgramTables) (pool : List PoolEntry) (index : ℕ) (found : Option Kind) → NamesAnyClass pool index → found ≡ option_and_then (λ text. option_and_then (kind_of P) (class_desc text)) (class_text_at pool index)
    → found ≡ option_and_then (kind_of P) (class_desc (class_bytes pool index))
kind_of_text P pool index found h e = e ∙ of_text (class_text_at pool index) h
  where
    of_text : (o : Option (List ℕ)) → IsSomeAnd o IsModifiedUtf8 → option_and_then (λ text. option_and_then (kind_of P) (class_desc text)) o ≡ option_and_then (kind_of P) (class_desc (option_map_or (λ (text : List ℕ). text) o []))
    of_text None h = absurd h
    of_text (Some text) h = refl
