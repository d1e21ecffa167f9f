-- Names of classes.
use Rattle.std.proofs.Common.{◌≡◌, ℕ, Bool, true, false, cond, ◌&&◌, List, Option, Some, None, ◌↔◌, IsTrue, refl, sym, ap, ◌∙◌}
use Rattle.nr_base.specs.Names.{is_name}
use Rattle.nr_base.specs.LegalNames.{IsClassName, class_from}
use Rattle.nr_prog.specs.LegalTests.{is_class_text}
use Rattle.nr_prog.proofs.LegalLaws.{class_text}

abbrev made : Bool → List ℕ → Option (List ℕ)
made t bytes = cond t (Some bytes) None

same : (t : Bool) (name bytes : List ℕ) → Some name ≡ made t bytes → name ≡ bytes
same true name bytes e = cc
same false name bytes e = absurd cc

pub is_class : (b : Bool) (name bytes : List ℕ) → Some name ≡ made (is_name bytes) bytes → (IsTrue b ↔ IsClassName name) → b ≡ true → Some name ≡ made (is_class_text bytes) bytes
is_class b name bytes e h is = ap (λ z. Some z) (same (is_name bytes) name bytes e) ∙ sym (ap (λ t. made t bytes) (sym (class_text b name bytes e h) ∙ is))

pub is_no_class : (b : Bool) (name bytes : List ℕ) → Some name ≡ made (is_name bytes) bytes → (IsTrue b ↔ IsClassName name) → b ≡ false → None ≡ made (is_class_text bytes) bytes
is_no_class b name bytes e h is = sym (ap (λ t. made t bytes) (sym (class_text b name bytes e h) ∙ is))

unnamed : (t u : Bool) (bytes : List ℕ) → None ≡ made t bytes → None ≡ made (t && u) bytes
unnamed true u bytes e = absurd cc
unnamed false u bytes e = refl

pub is_no_name : (bytes : List ℕ) → None ≡ made (is_name bytes) bytes → None ≡ made (is_class_text bytes) bytes
unfolding is_class_text
is_no_name bytes e = unnamed (is_name bytes) (class_from false bytes) bytes e
