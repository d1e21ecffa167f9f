-- Names of classes, told by reading.
use Rattle.std.proofs.Common.{◌≡◌, ℕ, Bool, true, false, cond, ◌&&◌, ◌↔◌, List, Some, None, IsTrue, refl}
use Rattle.nr_base.specs.Names.{is_name}
use Rattle.nr_base.specs.LegalNames.{IsClassName, class_from}
use Rattle.nr_prog.specs.LegalTests.{is_class_text}
use Rattle.nr_prog.proofs.LegalLaws.{class_text}

same_name : (t : Bool) (name bytes : List ℕ) → Some name ≡ cond t (Some bytes) None → name ≡ bytes
same_name true name bytes e = cc
same_name false name bytes e = absurd cc

pub legal_name : (b : Bool) (name bytes : List ℕ) → Some name ≡ cond (is_name bytes) (Some bytes) None → (IsTrue b ↔ IsClassName name)
    → cond b (Some name) None ≡ cond (is_class_text bytes) (Some bytes) None
legal_name b name bytes e h =
    let same = same_name (is_name bytes) name bytes e in
    let test = class_text b name bytes e h in
    cc (same, test)

not_both : (t c : Bool) (bytes : List ℕ) → None ≡ cond t (Some bytes) None → None ≡ cond (t && c) (Some bytes) None
not_both true c bytes e = absurd cc
not_both false c bytes e = refl

pub no_name : (bytes : List ℕ) → None ≡ cond (is_name bytes) (Some bytes) None → None ≡ cond (is_class_text bytes) (Some bytes) None
unfolding is_class_text
no_name bytes e = not_both (is_name bytes) (class_from false bytes) bytes e
