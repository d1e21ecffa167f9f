-- Tests of names and descriptors: of a text of bytes each holds exactly where the text is legal.
use Rattle.std.proofs.Common.{◌≡◌, ℕ, Bool, true, false, cond, ◌&&◌, List, Option, Some, None, Result, Ok, Err, ◌↔◌, IsTrue, refl, sym, ap, ◌∙◌}
use Rattle.std.specs.Bool.{one_answer}
use Rattle.std.specs.Prelude.{is_ok, is_none}
use Rattle.nr_base.specs.Clauses.{GivesWhole}
use Rattle.nr_base.specs.Grammar.{IsBytes}
use Rattle.nr_base.specs.Names.{is_name}
use Rattle.nr_base.specs.LegalNames.{IsClassName, class_from, is_unqualified, is_method_name}
use Rattle.nr_base.specs.Descs.{method_desc}
use Rattle.nr_base.specs.DescReading.{is_free, desc_of, method_of}
use Rattle.nr_base.specs.declared.desc.fault.DescFault.{DescFault}
use Rattle.nr_base.specs.declared.desc.fault.DescFault.TheVariants as faults
use Rattle.nr_base.specs.declared.desc.types.Desc.{Desc}
use Rattle.nr_base.specs.declared.desc.types.MethodDesc.{MethodDesc}
use Rattle.nr_base.proofs.ClassNames.{both_true, and_true, class_found, class_only}
use Rattle.nr_base.proofs.NameLaws.{legal, is_name_only}
use Rattle.nr_base.proofs.Laws.{whole_found, whole_only}
use Rattle.nr_base.proofs.DescLaws.{desc_law}
use Rattle.nr_base.proofs.MethodLaws.{method_found, gives_method}
use Rattle.nr_prog.specs.Legal.{IsClassText, IsFieldText, IsMethodText, IsFieldDesc, IsMethodDesc, IsVoidDesc}
use Rattle.nr_prog.specs.LegalTests.{is_class_text, is_field_text, is_method_text, is_field_desc, is_method_desc, returns_nothing, is_void_desc}
use Rattle.nr_prog.proofs.Memory.{method_of_never}

-- a test that says whether a text is a class name
class_test : (b : Bool) (name : List ℕ) → (IsTrue b ↔ IsClassName name) → b ≡ class_from false name
class_test b name h = one_answer b (class_from false name) h (λ e. class_found name e, λ n. class_only name n)

by_name : (t b : Bool) (name bytes : List ℕ) → Some name ≡ cond t (Some bytes) None → b ≡ class_from false name → b ≡ (t && class_from false bytes)
by_name true b name bytes e h = let same : name ≡ bytes = cc in h ∙ ap (class_from false) same
by_name false b name bytes e h = absurd cc

-- the same of a text that may be no name
pub class_text : (b : Bool) (name bytes : List ℕ) → Some name ≡ cond (is_name bytes) (Some bytes) None → (IsTrue b ↔ IsClassName name) → b ≡ is_class_text bytes
unfolding is_class_text
class_text b name bytes e h = by_name (is_name bytes) b name bytes e (class_test b name h)

-- ---- names

pub class_is : (text : List ℕ) → IsBytes text → is_class_text text ≡ true → IsClassText text
unfolding is_class_text
class_is text fits e = let b = both_true (is_name text) (class_from false text) e in (legal text fits b.0, class_found text b.1)

pub of_class : (text : List ℕ) → IsClassText text → is_class_text text ≡ true
unfolding is_class_text
of_class text h = and_true (is_name text) (class_from false text) (is_name_only text h.0) (class_only text h.1)

pub field_is : (text : List ℕ) → IsBytes text → is_field_text text ≡ true → IsFieldText text
unfolding is_field_text
field_is text fits e = let b = both_true (is_name text) (is_unqualified text) e in (legal text fits b.0, b.1)

pub of_field : (text : List ℕ) → IsFieldText text → is_field_text text ≡ true
unfolding is_field_text
of_field text h = and_true (is_name text) (is_unqualified text) (is_name_only text h.0) h.1

pub method_is : (text : List ℕ) → IsBytes text → is_method_text text ≡ true → IsMethodText text
unfolding is_method_text
method_is text fits e = let b = both_true (is_name text) (is_method_name text) e in (legal text fits b.0, b.1)

pub of_method : (text : List ℕ) → IsMethodText text → is_method_text text ≡ true
unfolding is_method_text
of_method text h = and_true (is_name text) (is_method_name text) (is_name_only text h.0) h.1

-- ---- descriptors

ok_of : {A : Type 0} (r : Result A DescFault) → is_ok r ≡ true → (x : A) × (r ≡ Ok x)
ok_of (Ok x) e = (x, refl)
ok_of (Err f) e = absurd cc

pub field_desc_is : (text : List ℕ) → IsBytes text → is_field_desc text ≡ true → IsFieldDesc text
unfolding is_field_desc
field_desc_is text fits e = let d = ok_of (desc_of text) e in (d.0, whole_found faults.BadDesc desc_law text d.0 fits d.1)

pub of_field_desc : (text : List ℕ) → IsFieldDesc text → is_field_desc text ≡ true
unfolding is_field_desc
of_field_desc text h = ap is_ok (whole_only faults.BadDesc desc_law text h.0 h.1)

abbrev gives : Result MethodDesc DescFault → Result MethodDesc DescFault → Type 0
gives result read = GivesWhole is_free result read

-- each call on a text gives m, and its reading does not want memory: so its reading gives m
settled : (a : Result MethodDesc DescFault) (m : MethodDesc) → (a ≡ Err faults.NoMemory → ⊥) → ((r : Result MethodDesc DescFault) → gives r a → gives r (Ok m)) → a ≡ Ok m
settled (Ok n) m ne each = sym (each (Ok n) refl)
settled (Err (faults.BadDesc at)) m ne each = let bad : Ok m ≡ Err (faults.BadDesc at) = each (Err (faults.BadDesc at)) refl in absurd cc
settled (Err (faults.FloatDesc at)) m ne each = let bad : Ok m ≡ Err (faults.FloatDesc at) = each (Err (faults.FloatDesc at)) refl in absurd cc
settled (Err (faults.TooManyArgs n)) m ne each = let bad : Ok m ≡ Err (faults.TooManyArgs n) = each (Err (faults.TooManyArgs n)) refl in absurd cc
settled (Err faults.NoMemory) m ne each = absurd (ne refl)

pub method_only : (text : List ℕ) (m : MethodDesc) → method_desc m text → method_of text ≡ Ok m
method_only text m g = settled (method_of text) m (method_of_never text) (λ r e. gives_method text r m e g)

pub method_desc_is : (text : List ℕ) → IsBytes text → is_method_desc text ≡ true → IsMethodDesc text
unfolding is_method_desc
method_desc_is text fits e = let m = ok_of (method_of text) e in (m.0, method_found text (Ok m.0) fits m.1)

pub of_method_desc : (text : List ℕ) → IsMethodDesc text → is_method_desc text ≡ true
unfolding is_method_desc
of_method_desc text h = ap is_ok (method_only text h.0 h.1)

none_of : (o : Option Desc) → is_none o ≡ true → o ≡ None
none_of None e = refl
none_of (Some d) e = absurd cc

nothing_of : (r : Result MethodDesc DescFault) → returns_nothing r ≡ true → (m : MethodDesc) × (r ≡ Ok m) × (m.result ≡ None)
nothing_of (Ok m) e = (m, refl, none_of m.result e)
nothing_of (Err f) e = absurd cc

pub void_is : (text : List ℕ) → IsBytes text → is_void_desc text ≡ true → IsVoidDesc text
unfolding is_void_desc
void_is text fits e = let m = nothing_of (method_of text) e in (m.0, method_found text (Ok m.0) fits m.1, m.2)

pub of_void : (text : List ℕ) → IsVoidDesc text → is_void_desc text ≡ true
unfolding is_void_desc
of_void text h = ap returns_nothing (method_only text h.0 h.1) ∙ ap is_none h.2
