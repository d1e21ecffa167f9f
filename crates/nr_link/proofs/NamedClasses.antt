-- Classes by their names.
use Rattle.std.proofs.Common.{◌≡◌, ℕ, ◌<◌, List, [], length, map, refl, sym, ap, ◌∙◌}
use Rattle.std.specs.Prelude.{Option, Some, None, is_none, is_some}
use Rattle.std.specs.Option.{option_and_then}
use Rattle.std.specs.Str.{bytes_eq}
use Rattle.std.proofs.lemmas.List.{length-map}
use Rattle.nr_prog.specs.declared.pool.PoolEntry.{PoolEntry}
use Rattle.nr_prog.specs.BodyNames.{class_text_at}
use Rattle.nr_prog.specs.Form.{NamesClass}
use Rattle.nr_prog.specs.Legal.{IsClassText}
use Rattle.nr_linked.specs.declared.program.tables.ClassInfo.{ClassInfo}
use Rattle.nr_linked.specs.declared.program.tables.ProgramTables.{ProgramTables}
use Rattle.nr_linked.specs.Programs.{class_named}
use Rattle.nr_linkrules.specs.declared.fault.LinkFault.TheVariants.{NoClass}
use Rattle.nr_linkrules.specs.ClassRules.{known_fault}
use Rattle.nr_linkrules.specs.Faults.{unless}
use Rattle.nr_linkrules.specs.Outline.{class_number, number_in, some_text}
use Rattle.nr_linkrules.proofs.NameLaws.{known_by_texts, named}

pub named_by_texts : (P : ProgramTables) (names : List (List ℕ)) (name : List ℕ) → names ≡ map (λ (e : ClassInfo). e.name) P.classes → number_in names name ≡ class_named P name
named_by_texts P names name e = known_by_texts names P name e

pub as_many : (P : ProgramTables) (names : List (List ℕ)) → names ≡ map (λ (e : ClassInfo). e.name) P.classes → length names ≡ length P.classes
as_many P names e = ap length e ∙ length-map P.classes (λ (e : ClassInfo). e.name)

-- a class is known where its name has a number
pub known_by_number : (P : ProgramTables) (names : List (List ℕ)) (name : List ℕ) (found : Option ℕ) → names ≡ map (λ (e : ClassInfo). e.name) P.classes → found ≡ number_in names name → is_some found ≡ is_none (known_fault P name)
unfolding known_fault
known_by_number P names name found e is = ap is_some (is ∙ known_by_texts names P name e) ∙ by_found (class_named P name)
  where
    by_found : (o : Option ℕ) → is_some o ≡ is_none (unless (is_some o) (NoClass name))
    by_found None = refl
    by_found (Some c) = refl

-- the same of a class in a constant pool
pub known_at : (P : ProgramTables) (names : List (List ℕ)) (pool : List PoolEntry) (index : ℕ) (found : Option ℕ) → names ≡ map (λ (e : ClassInfo). e.name) P.classes → NamesClass pool index
    → found ≡ class_number names pool index → found ≡ class_named P (some_text (class_text_at pool index))
known_at P names pool index found e h is = is ∙ of_text (class_text_at pool index) (named pool index h)
  where
    of_text : (o : Option (List ℕ)) → (text : List ℕ) × (o ≡ Some text) × IsClassText text → option_and_then (number_in names) o ≡ class_named P (some_text o)
    of_text None h = absurd cc
    of_text (Some text) h = known_by_texts names P text e
