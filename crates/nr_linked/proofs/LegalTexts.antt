-- Texts of plain ASCII that are legal class names.
use Rattle.std.proofs.Common.{◌≡◌, ℕ, Bool, true, false, List, [], ◌∷◌, ◌++◌, refl, ap, ◌∙◌, arith}
use Rattle.std.specs.Prelude.{IsTrue, nat_le, ◌+◌, ◌/◌, ◌%◌, if◌then◌else◌}
use Rattle.std.specs.List.{AllByRecursion, flat_map, list_all}
use Rattle.std.proofs.lemmas.Bool.{and_parts, leb-true}
use Rattle.nr_base.specs.LegalNames.{class_from}
use Rattle.nr_base.specs.ModifiedUtf8.{IsUnit, unit_bytes, within}
use Rattle.nr_base.proofs.ClassNames.{class_found}
use Rattle.nr_prog.specs.Legal.{IsClassText}

abbrev pub is_plain : List ℕ → Bool
is_plain text = list_all (within 1 0x7F) text

plain_units : (text : List ℕ) → IsTrue (is_plain text) → AllByRecursion IsUnit text
plain_units [] p = tt
plain_units (b ∷ text) p =
    let both = and_parts (within 1 0x7F b) (is_plain text) p in
    let one = and_parts (nat_le 1 b) (nat_le b 0x7F) both.0 in
    let low = leb-true 1 b one.0 in
    let high = leb-true b 0x7F one.1 in
    ((omega (arith, low), omega (arith, high)), plain_units text both.1)

plain_bytes : (text : List ℕ) → IsTrue (is_plain text) → text ≡ flat_map unit_bytes text
plain_bytes [] p = refl
plain_bytes (b ∷ text) p = let both = and_parts (within 1 0x7F b) (is_plain text) p in ap (λ more. b ∷ more) (plain_bytes text both.1) ∙ ap (λ bs. bs ++ flat_map unit_bytes text) (one (within 1 0x7F b) both.0)
  where
    one : (c : Bool) → c ≡ true → b ∷ [] ≡ (if c then b ∷ [] else (if nat_le b 0x7FF then (0xC0 + b / 64) ∷ (0x80 + b % 64) ∷ [] else (0xE0 + b / 4096) ∷ (0x80 + b / 64 % 64) ∷ (0x80 + b % 64) ∷ []))
    one true e = refl
    one false e = absurd cc

pub legal : (text : List ℕ) → IsTrue (is_plain text) → class_from false text ≡ true → IsClassText text
legal text plain name = (record { units = text; each = plain_units text plain; spelled = plain_bytes text plain }, class_found text name)
