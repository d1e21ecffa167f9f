-- The test of a class name says that the name is unqualified names with `/` between.
use Rattle.std.proofs.Common.{◌≡◌, ℕ, ◌+◌, ◌/◌, ◌%◌, ◌<◌, ◌≤◌, Bool, true, false, cond, eqb, ltb, List, [], ◌∷◌, ◌++◌, length, refl, sym, ap, subst, ◌∙◌, arith, inl, inr}
use Rattle.std.specs.Prelude.{◌&&◌, not, IsTrue}
use Rattle.std.specs.List.{AllByRecursion, list_all, join_with_byte}
use Rattle.std.proofs.lemmas.Bool.{cases_lt, lt-ltb, ltb-true, ne_eqb, cases_eq}
use Rattle.std.proofs.lemmas.Bool.Decides.{nat_tests}
use Rattle.std.proofs.lemmas.List.{append-nil}
use Rattle.nr_base.specs.ModifiedUtf8.{unit_bytes, IsUnit}
use Rattle.nr_base.specs.LegalNames.{is_reserved, is_unqualified, IsClassName, class_from}
use Rattle.nr_base.proofs.Units.{one_bytes, two_bytes, three_bytes}

abbrev slash : ℕ
slash = 0x2F

-- bytes without a reserved one
abbrev plain : List ℕ → Bool
plain bytes = list_all (λ b. not (is_reserved b)) bytes

pub both_true : (x y : Bool) → (x && y) ≡ true → (x ≡ true) × (y ≡ true)
both_true true y e = (refl, e)
both_true false y e = absurd cc

pub and_true : (x y : Bool) → x ≡ true → y ≡ true → (x && y) ≡ true
and_true true y e f = f
and_true false y e f = absurd cc

unqualified : (part : List ℕ) → 0 < length part → plain part ≡ true → is_unqualified part ≡ true
unqualified part some p = and_true (ltb 0 (length part)) (plain part) (lt-ltb _ _ some) p

pub at_slash : (begun : Bool) (bytes : List ℕ) → class_from begun (slash ∷ bytes) ≡ (begun && class_from false bytes)
at_slash begun bytes = refl

pub at_other : (begun : Bool) (b : ℕ) (bytes : List ℕ) → (b ≡ slash → ⊥) → class_from begun (b ∷ bytes) ≡ (not (is_reserved b) && class_from true bytes)
at_other begun b bytes ne = rw (ne_eqb b slash ne) refl

-- ---- from the test to the parts

record Parts (begun : Bool) (bytes : List ℕ) : Type 0 where
  first : List ℕ
  others : List (List ℕ)
  plain_first : plain first ≡ true
  some : begun ≡ false → 0 < length first
  each : AllByRecursion (λ part. IsTrue (is_unqualified part)) others
  joined : bytes ≡ join_with_byte slash (first ∷ others)

joined_cons : (b : ℕ) (first : List ℕ) (others : List (List ℕ)) → b ∷ join_with_byte slash (first ∷ others) ≡ join_with_byte slash ((b ∷ first) ∷ others)
joined_cons b first [] = refl
joined_cons b first (x ∷ others) = refl

parts : (begun : Bool) (bytes : List ℕ) → class_from begun bytes ≡ true → Parts begun bytes
parts begun [] e = record { first = []; others = []; plain_first = refl; some = λ no. absurd cc; each = tt; joined = refl }
parts begun (b ∷ bytes) e =
    elim (cases_eq b slash) [
      | inl is ↦
          let t = both_true begun (class_from false bytes) (subst (λ z. class_from begun (z ∷ bytes) ≡ true) is e) in
          let more = parts false bytes t.1 in
          record {
            first = [];
            others = more.first ∷ more.others;
            plain_first = refl;
            some = λ no. absurd cc;
            each = (unqualified more.first (more.some refl) more.plain_first, more.each);
            joined = ap (λ z. z ∷ bytes) is ∙ ap (λ z. slash ∷ z) more.joined;
          }
      | inr ne ↦
          let t = both_true (not (is_reserved b)) (class_from true bytes) (sym (at_other begun b bytes ne) ∙ e) in
          let more = parts true bytes t.1 in
          record {
            first = b ∷ more.first;
            others = more.others;
            plain_first = and_true (not (is_reserved b)) (plain more.first) t.0 more.plain_first;
            some = λ no. omega arith;
            each = more.each;
            joined = ap (λ z. b ∷ z) more.joined ∙ joined_cons b more.first more.others;
          }
    ]

pub class_found : (name : List ℕ) → class_from false name ≡ true → IsClassName name
class_found name e =
    let p = parts false name e in
    record { first = p.first; others = p.others; each = (unqualified p.first (p.some refl) p.plain_first, p.each); joined = p.joined }

-- ---- and back

reserved_slash : (b : ℕ) → not (is_reserved b) ≡ true → b ≡ slash → ⊥
reserved_slash b e is = let f : not (is_reserved slash) ≡ true = subst (λ z. not (is_reserved z) ≡ true) is e in cc

begins : Bool → List ℕ → Bool
begins begun [] = begun
begins begun (b ∷ bytes) = true

over : (begun : Bool) (part rest : List ℕ) → plain part ≡ true → class_from begun (part ++ rest) ≡ class_from (begins begun part) rest
unfolding begins
over begun [] rest p = refl
over begun (b ∷ []) rest p =
    let t = both_true (not (is_reserved b)) true p in
    at_other begun b rest (reserved_slash b t.0) ∙ ap (λ z. z && class_from true rest) t.0
over begun (b ∷ c ∷ part) rest p =
    let t = both_true (not (is_reserved b)) (plain (c ∷ part)) p in
    at_other begun b (c ∷ part ++ rest) (reserved_slash b t.0) ∙ ap (λ z. z && class_from true (c ∷ part ++ rest)) t.0 ∙ over true (c ∷ part) rest t.1

begins_part : (begun : Bool) (part : List ℕ) → 0 < length part → begins begun part ≡ true
unfolding begins
begins_part begun [] some = absurd (omega arith)
begins_part begun (b ∷ part) some = refl

parts_of : (part : List ℕ) → is_unqualified part ≡ true → (0 < length part) × (plain part ≡ true)
parts_of part e = let t = both_true (ltb 0 (length part)) (plain part) e in (ltb-true _ _ t.0, t.1)

from_parts : (first : List ℕ) (others : List (List ℕ)) → AllByRecursion (λ part. IsTrue (is_unqualified part)) (first ∷ others) → class_from false (join_with_byte slash (first ∷ others)) ≡ true
from_parts first [] each =
    let t = parts_of first each.0 in
    ap (λ z. class_from false z) (sym (append-nil first)) ∙ over false first [] t.1 ∙ begins_part false first t.0
from_parts first (x ∷ others) each =
    let t = parts_of first each.0 in
    over false first (slash ∷ join_with_byte slash (x ∷ others)) t.1 ∙ ap (λ z. class_from z (slash ∷ join_with_byte slash (x ∷ others))) (begins_part false first t.0) ∙ from_parts x others each.1

pub class_only : (name : List ℕ) → IsClassName name → class_from false name ≡ true
class_only name c = ap (λ z. class_from false z) c.joined ∙ from_parts c.first c.others c.each

-- ---- unit by unit

high : (b : ℕ) → 0x80 ≤ b → is_reserved b ≡ false
high b le = grind (arith, nat_tests)

-- what a unit makes of the test
abbrev pub class_unit : Bool → ℕ → List ℕ → Bool
class_unit begun u rest = cond (eqb u slash) (begun && class_from false rest) (not (is_reserved u) && class_from true rest)

high_byte : (begun : Bool) (b : ℕ) (rest : List ℕ) → 0x80 ≤ b → class_from begun (b ∷ rest) ≡ class_from true rest
high_byte begun b rest le = at_other begun b rest (λ e. omega arith) ∙ ap (λ z. not z && class_from true rest) (high b le)

high_unit : (begun : Bool) (u : ℕ) (rest : List ℕ) → 0x80 ≤ u → class_unit begun u rest ≡ class_from true rest
high_unit begun u rest le = rw (ne_eqb u slash (λ e. omega arith), high u le) refl

pub over_unit : (begun : Bool) (u : ℕ) (rest : List ℕ) → IsUnit u → class_from begun (unit_bytes u ++ rest) ≡ class_unit begun u rest
over_unit begun u rest is =
    elim (cases_lt u 0x80) [
      | inl lt ↦ ap (λ z. class_from begun (z ++ rest)) (one_bytes u (omega arith) (omega arith))
      | inr ge ↦ elim (cases_lt u 0x800) [
        | inl lt ↦ ap (λ z. class_from begun (z ++ rest)) (two_bytes u (omega arith) (omega arith)) ∙ high_byte begun (0xC0 + u / 64) ((0x80 + u % 64) ∷ rest) (omega arith) ∙ high_byte true (0x80 + u % 64) rest (omega arith) ∙ sym (high_unit begun u rest (omega arith))
        | inr le ↦ ap (λ z. class_from begun (z ++ rest)) (three_bytes u (omega arith)) ∙ high_byte begun (0xE0 + u / 4096) ((0x80 + u / 64 % 64) ∷ (0x80 + u % 64) ∷ rest) (omega arith) ∙ high_byte true (0x80 + u / 64 % 64) ((0x80 + u % 64) ∷ rest) (omega arith) ∙ high_byte true (0x80 + u % 64) rest (omega arith) ∙ sym (high_unit begun u rest (omega arith))
      ]
    ]
