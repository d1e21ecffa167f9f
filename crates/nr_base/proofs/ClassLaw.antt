-- The law of class names in descriptors.
use Rattle.std.proofs.Common.{◌≡◌, ℕ, zero, suc, ◌+◌, ◌-◌, ◌<◌, ◌⊎◌, Bool, true, false, eqb, List, [], ◌∷◌, ◌++◌, length, take, Ok, refl, sym, ap, subst, ◌∙◌, append_assoc, arith, inl, inr}
use Rattle.std.specs.Prelude.{◌&&◌, not, IsTrue}
use Rattle.std.specs.List.{AllByRecursion, flat_map}
use Rattle.std.proofs.lemmas.Bool.{cases_eq, eqb-true, eqb-false, ne_eqb}
use Rattle.std.proofs.lemmas.List.{append-nil, length-append, take_at}
use Rattle.nr_base.specs.Place.{Place}
use Rattle.nr_base.specs.Reader.{while_more}
use Rattle.nr_base.specs.Grammar.{Grammar, IsBytes, Then, pick, give, none, Repeat, While, Spanned}
use Rattle.nr_base.specs.ModifiedUtf8.{unit_bytes, IsUnit, IsModifiedUtf8, unit}
use Rattle.nr_base.specs.Names.{is_name}
use Rattle.nr_base.specs.LegalNames.{is_reserved, IsClassName, class_from}
use Rattle.nr_base.specs.DescReading.{of_name, letter_at, class_letter_at, class_at}
use Rattle.nr_base.specs.declared.desc.fault.DescFault.TheVariants as faults
use Rattle.nr_base.proofs.Laws.{Reads, give_law, none_law, then_law, pick_law, from_law, with_fault_law, same_law}
use Rattle.nr_base.proofs.Lists.{leaf, made, picked, picks_first, picks_second}
use Rattle.nr_base.proofs.While.{while_law}
use Rattle.nr_base.proofs.Spans.{spanned_law}
use Rattle.nr_base.proofs.Units.{unit_law}
use Rattle.nr_base.proofs.NameLaws.{is_name_only}
use Rattle.nr_base.proofs.DescTakes.{class_letter_takes}
use Rattle.nr_base.proofs.ClassNames.{both_true, class_found, class_only, class_unit, over_unit}

letter_law : Reads letter_at unit
unfolding letter_at
letter_law = with_fault_law of_name unit_law

abbrev slash : ℕ
slash = 0x2F

abbrev end : ℕ
end = 0x3B

abbrev goes : Bool → ℕ → Bool × Bool → List ℕ → Type 0
goes begun u = pick (eqb u slash) (pick begun (give (true, false)) none) (pick (is_reserved u) none (give (true, true)))

abbrev letter : Bool → Bool × Bool → List ℕ → Type 0
letter begun = Then unit (λ u. pick (eqb u end) (pick begun (give (false, begun)) none) (goes begun u))

class_letter_law : (begun : Bool) → Reads (class_letter_at begun) (letter begun)
unfolding class_letter_at
class_letter_law begun = from_law (λ at. then_law letter_law (λ u.
    pick_law (eqb u end) (pick_law begun (give_law (false, begun)) (none_law (faults.BadDesc at)))
    (pick_law (eqb u slash) (pick_law begun (give_law (true, false)) (none_law (faults.BadDesc at)))
    (pick_law (is_reserved u) (none_law (faults.BadDesc at)) (give_law (true, true))))))

-- ---- one character

-- the name ends, or goes on with a unit behind which the test goes on
record Ended (begun : Bool) (x : Bool × Bool) (text : List ℕ) : Type 0 where
  no_more : x.0 ≡ false
  begun_is : begun ≡ true
  text_is : text ≡ end ∷ []

record GoesOn (begun : Bool) (x : Bool × Bool) (text : List ℕ) : Type 0 where
  value : ℕ
  is_unit : IsUnit value
  more : x.0 ≡ true
  text_is : text ≡ unit_bytes value
  test : (rest : List ℕ) → class_from begun (unit_bytes value ++ rest) ≡ class_from x.1 rest

slash_test : (begun : Bool) (u : ℕ) (rest : List ℕ) → IsUnit u → u ≡ slash → begun ≡ true → class_from begun (unit_bytes u ++ rest) ≡ class_from false rest
slash_test begun u rest is e f = over_unit begun u rest is ∙ rw (e, f) refl

other_test : (begun : Bool) (u : ℕ) (rest : List ℕ) → IsUnit u → (u ≡ slash → ⊥) → is_reserved u ≡ false → class_from begun (unit_bytes u ++ rest) ≡ class_from true rest
other_test begun u rest is ne f = over_unit begun u rest is ∙ rw (ne_eqb u slash ne, f) refl

whole_text : (begun : Bool) (x : Bool × Bool) (text : List ℕ) (t : letter begun x text) → t.back ≡ [] → text ≡ unit_bytes t.value
whole_text begun x text t e = t.whole ∙ rw (e, t.first.1, append-nil (unit_bytes t.value)) refl

turn : (begun : Bool) (x : Bool × Bool) (text : List ℕ) → letter begun x text → Ended begun x text ⊎ GoesOn begun x text
turn begun x text t =
    picked (eqb t.value end) (pick begun (give (false, begun)) none) (goes begun t.value) x t.back t.second
    (λ is g. picked begun (give (false, begun)) none x t.back g
    (λ b h. inl (record { no_more = ap (λ (z : Bool × Bool). z.0) h.0; begun_is = b; text_is = whole_text begun x text t h.1 ∙ ap unit_bytes (eqb-true _ _ is) }))
    (λ b h. absurd h))
    (λ no g. picked (eqb t.value slash) (pick begun (give (true, false)) none) (pick (is_reserved t.value) none (give (true, true))) x t.back g
    (λ is h. picked begun (give (true, false)) none x t.back h
    (λ b k. inr (record { value = t.value; is_unit = t.first.0; more = ap (λ (z : Bool × Bool). z.0) k.0; text_is = whole_text begun x text t k.1; test = λ rest. slash_test begun t.value rest t.first.0 (eqb-true _ _ is) b ∙ ap (λ (z : Bool × Bool). class_from z.1 rest) (sym k.0) }))
    (λ b k. absurd k))
    (λ ne h. picked (is_reserved t.value) none (give (true, true)) x t.back h
    (λ b k. absurd k)
    (λ b k. inr (record { value = t.value; is_unit = t.first.0; more = ap (λ (z : Bool × Bool). z.0) k.0; text_is = whole_text begun x text t k.1; test = λ rest. other_test begun t.value rest t.first.0 (eqb-false _ _ ne) b ∙ ap (λ (z : Bool × Bool). class_from z.1 rest) (sym k.0) }))))

-- ---- the characters and the `;`

record Spelled (begun : Bool) (text : List ℕ) : Type 0 where
  units : List ℕ
  each : AllByRecursion IsUnit units
  test : class_from begun (flat_map unit_bytes units) ≡ true
  whole : text ≡ flat_map unit_bytes units ++ end ∷ []

last : (begun : Bool) (t : Bool) (text : List ℕ) → letter begun (false, t) text → Spelled begun text
last begun t text g =
    elim (turn begun (false, t) text g) [
      | inl a ↦ record { units = []; each = tt; test = a.begun_is; whole = a.text_is }
      | inr a ↦ absurd (let e : false ≡ true = a.more in cc)
    ]

before : (begun next : Bool) (text front back : List ℕ) → text ≡ front ++ back → letter begun (true, next) front → Spelled next back → Spelled begun text
before begun next text front back w g more =
    elim (turn begun (true, next) front g) [
      | inl a ↦ absurd (let e : true ≡ false = a.no_more in cc)
      | inr a ↦ record {
        units = a.value ∷ more.units;
        each = (a.is_unit, more.each);
        test = a.test (flat_map unit_bytes more.units) ∙ more.test;
        whole = w ∙ ap (λ z. z ++ back) a.text_is ∙ ap (λ z. unit_bytes a.value ++ z) more.whole ∙ sym (append_assoc (unit_bytes a.value) (flat_map unit_bytes more.units) (end ∷ []));
      }
    ]

spelled : (k : ℕ) (begun t : Bool) (text : List ℕ) → Repeat letter k begun t text → Spelled begun text
spelled zero begun t text g = last begun t text g
spelled (suc k) begun t text g = before begun g.value text g.front g.back g.whole g.first (spelled k g.value t g.back g.second)

-- ---- and back

end_letter : (begun : Bool) → begun ≡ true → letter begun (false, true) (end ∷ [])
end_letter begun e = record { value = end; front = end ∷ []; back = []; first = ((omega arith, omega arith), refl); second = picks_first begun (give (false, begun)) none (false, true) [] e (ap (λ z. (false, z)) (sym e), refl); whole = refl }

unit_letter : (begun : Bool) (x : Bool × Bool) (u : ℕ) → IsUnit u → (u ≡ end → ⊥) → goes begun u x [] → letter begun x (unit_bytes u)
unit_letter begun x u is ne g = record { value = u; front = unit_bytes u; back = []; first = (is, refl); second = picks_second (eqb u end) (pick begun (give (false, begun)) none) (goes begun u) x [] (ne_eqb u end ne) g; whole = sym (append-nil (unit_bytes u)) }

not_false : (b : Bool) → not b ≡ true → b ≡ false
not_false true e = absurd cc
not_false false e = refl

at_slash : (begun : Bool) (u : ℕ) (rest : List ℕ) → u ≡ slash → class_unit begun u rest ≡ (begun && class_from false rest)
at_slash begun u rest e = rw e refl

at_other : (begun : Bool) (u : ℕ) (rest : List ℕ) → (u ≡ slash → ⊥) → class_unit begun u rest ≡ (not (is_reserved u) && class_from true rest)
at_other begun u rest ne = rw (ne_eqb u slash ne) refl

reserved_end : (u : ℕ) → is_reserved u ≡ false → u ≡ end → ⊥
reserved_end u e is = let f : is_reserved end ≡ false = subst (λ z. is_reserved z ≡ false) is e in cc

more : (begun next : Bool) (u : ℕ) (rest : List ℕ) → letter begun (true, next) (unit_bytes u) → While letter next true (rest ++ end ∷ []) → While letter begun true ((unit_bytes u ++ rest) ++ end ∷ [])
more begun next u rest g w = (suc w.0, record { value = next; front = unit_bytes u; back = rest ++ end ∷ []; first = g; second = w.1; whole = append_assoc (unit_bytes u) rest (end ∷ []) })

from_units : (units : List ℕ) (begun : Bool) → AllByRecursion IsUnit units → class_from begun (flat_map unit_bytes units) ≡ true → While letter begun true (flat_map unit_bytes units ++ end ∷ [])
from_units [] begun each e = (0, end_letter begun e)
from_units (u ∷ units) begun each e =
    let rest : List ℕ = flat_map unit_bytes units in
    let f : class_unit begun u (flat_map unit_bytes units) ≡ true = sym (over_unit begun u (flat_map unit_bytes units) each.0) ∙ e in
    elim (cases_eq u slash) [
      | inl is ↦
          let t = both_true begun (class_from false (flat_map unit_bytes units)) (sym (at_slash begun u (flat_map unit_bytes units) is) ∙ f) in
          let chosen : goes begun u (true, false) [] = subst (λ z. goes begun z (true, false) []) (sym is) (picks_first begun (give (true, false)) none (true, false) [] t.0 (refl, refl)) in
          more begun false u (flat_map unit_bytes units) (unit_letter begun (true, false) u each.0 (λ w. omega arith) chosen) (from_units units false each.1 t.1)
      | inr ne ↦
          let t = both_true (not (is_reserved u)) (class_from true (flat_map unit_bytes units)) (sym (at_other begun u (flat_map unit_bytes units) ne) ∙ f) in
          let r = not_false (is_reserved u) t.0 in
          let chosen : goes begun u (true, true) [] = picks_second (eqb u slash) (pick begun (give (true, false)) none) _ (true, true) [] (ne_eqb u slash ne) (picks_second (is_reserved u) none (give (true, true)) (true, true) [] r (refl, refl)) in
          more begun true u (flat_map unit_bytes units) (unit_letter begun (true, true) u each.0 (reserved_end u r) chosen) (from_units units true each.1 t.1)
    ]

-- ---- class names

abbrev pub class : Grammar (List ℕ)
class name text = IsModifiedUtf8 name × IsClassName name × (text ≡ name ++ end ∷ [])

without_end : (name rest : List ℕ) → take (length (name ++ end ∷ []) - 1) (name ++ end ∷ []) ≡ name
without_end name rest = take_at name (end ∷ []) (length (name ++ end ∷ []) - 1) (omega (arith, length-append name (end ∷ [])))

of_spelled : (text name : List ℕ) → name ≡ take (length text - 1) text → Spelled false text → class name text
of_spelled text name e s =
    let is : name ≡ flat_map unit_bytes s.units = e ∙ ap (λ z. take (length z - 1) z) s.whole ∙ without_end (flat_map unit_bytes s.units) [] in
    (record { units = s.units; each = s.each; spelled = is }, class_found name (ap (class_from false) is ∙ s.test), s.whole ∙ ap (λ z. z ++ end ∷ []) (sym is))

pub class_law : Reads class_at class
unfolding class_at
class_law = same_law (then_law (spanned_law (while_law class_letter_at letter class_letter_law class_letter_takes false)) (λ text. give_law (take (length text - 1) text)))
    (λ name text t.
    let l = leaf t in
    let whole : l.0 ≡ text = l.2.2 in
    of_spelled text name (l.1 ∙ ap (λ z. take (length z - 1) z) whole) (spelled l.2.1.0 false l.2.0 text l.2.1.1))
    (λ name text g.
    let m = g.0 in
    let test : class_from false (flat_map unit_bytes m.units) ≡ true = ap (class_from false) (sym m.spelled) ∙ class_only name g.1 in
    let w = from_units m.units false m.each test in
    let text_is : flat_map unit_bytes m.units ++ end ∷ [] ≡ text = ap (λ z. z ++ end ∷ []) (sym m.spelled) ∙ sym g.2 in
    let name_is : take (length text - 1) text ≡ name = ap (λ z. take (length z - 1) z) g.2 ∙ without_end name [] in
    let span : Spanned (While letter false) text text = (true, subst (λ z. While letter false true z) text_is w, refl) in
    subst (λ z. Then (Spanned (While letter false)) (λ x. give (take (length x - 1) x)) z text) name_is (made {f = λ x. take (length x - 1) x} text text span))

-- as the call needs it, which copies the name
pub class_span : (p q : Place) (b : Bool) → IsBytes p.rest → while_more class_letter_at false p ≡ Ok (b, q) → (length q.rest < length p.rest) × IsTrue (is_name (take (length p.rest - length q.rest - 1) p.rest))
class_span p q b fits e =
    let a = (while_law class_letter_at letter class_letter_law class_letter_takes false).found p q b fits e in
    let s = spelled a.spelled.0 false b a.text a.spelled.1 in
    let name : List ℕ = flat_map unit_bytes s.units in
    let rest : p.rest ≡ flat_map unit_bytes s.units ++ (end ∷ q.rest) = a.rest ∙ ap (λ z. z ++ q.rest) s.whole ∙ append_assoc (flat_map unit_bytes s.units) (end ∷ []) q.rest in
    let size : length p.rest ≡ length (flat_map unit_bytes s.units) + length (end ∷ q.rest) = ap length rest ∙ length-append (flat_map unit_bytes s.units) (end ∷ q.rest) in
    let name_is : take (length p.rest - length q.rest - 1) p.rest ≡ flat_map unit_bytes s.units = ap (λ z. take (length p.rest - length q.rest - 1) z) rest ∙ take_at (flat_map unit_bytes s.units) (end ∷ q.rest) (length p.rest - length q.rest - 1) (omega arith) in
    (omega arith, ap is_name name_is ∙ is_name_only (flat_map unit_bytes s.units) (record { units = s.units; each = s.each; spelled = refl }))
