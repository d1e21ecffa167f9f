-- The law of one unit of a name, in modified UTF-8.
use Rattle.std.proofs.Common.{◌≡◌, ℕ, ◌+◌, ◌-◌, ◌*◌, ◌/◌, ◌%◌, ◌^◌, ◌<◌, ◌≤◌, true, false, leb, List, [], ◌∷◌, ◌++◌, refl, sym, ap, subst, ◌∙◌, arith, inl, inr}
use Rattle.std.specs.Int.{w8}
use Rattle.std.proofs.lemmas.Bool.{cases_lt, leb-true, le-leb, lt-leb}
use Rattle.std.proofs.lemmas.Bool.Decides.{nat_tests}
use Rattle.std.proofs.lemmas.List.{append-nil}
use Rattle.nr_base.specs.Grammar.{Grammar, number, give, none, Then, pick}
use Rattle.nr_base.specs.ModifiedUtf8.{within, unit_bytes, unit}
use Rattle.nr_base.specs.Names.{byte_at, six_bits_at, two_at, three_at, unit_at}
use Rattle.nr_base.specs.declared.name.fault.NameFault.TheVariants as faults
use Rattle.nr_base.proofs.Laws.{Reads, give_law, none_law, then_law, pick_law, from_law, with_fault_law, same_law}
use Rattle.nr_base.proofs.Numbers.{u8_law, byte_alone}
use Rattle.nr_base.proofs.Lists.{picked, picks_first, picks_second}

pub within_is : (low high n : ℕ) → low ≤ n → n ≤ high → within low high n ≡ true
within_is low high n p q = grind (arith, nat_tests)

pub within_tells : (low high n : ℕ) → within low high n ≡ true → (low ≤ n) × (n ≤ high)
within_tells low high n e = grind (arith, nat_tests)

pub within_above : (low high n : ℕ) → high < n → within low high n ≡ false
within_above low high n p = grind (arith, nat_tests)

pub within_below : (low high n : ℕ) → n < low → within low high n ≡ false
within_below low high n p = grind (arith, nat_tests)

-- ---- the parts of a character

byte_law : (at : ℕ) → Reads (byte_at at) (number w8)
unfolding byte_at
byte_law at = with_fault_law (λ _. faults.BadUtf at) u8_law

abbrev six : Grammar ℕ
six x text = (x < 64) × (text ≡ (0x80 + x) ∷ [])

abbrev two : ℕ → Grammar ℕ
two high u text = (low : ℕ) × (0x80 ≤ high * 64 + low) × (u ≡ high * 64 + low) × six low text

abbrev three : ℕ → Grammar ℕ
three high u text = (middle low : ℕ) × (low < 64) × (0x800 ≤ (high * 64 + middle) * 64 + low) × (u ≡ (high * 64 + middle) * 64 + low) × (middle < 64) × (text ≡ (0x80 + middle) ∷ (0x80 + low) ∷ [])

six_to : (x : ℕ) (text : List ℕ) → Then (number w8) (λ b. pick (within 0x80 0xBF b) (give (b - 0x80)) none) x text → six x text
six_to x text t =
    picked (within 0x80 0xBF t.value) (give (t.value - 0x80)) none x t.back t.second
    (λ e g.
    let w = within_tells 0x80 0xBF t.value e in
    let is : x ≡ t.value - 0x80 = g.0 in
    (omega arith, t.whole ∙ rw (t.first.1, g.1) (byte_alone t.value t.first.0 ∙ ap (λ (z : ℕ). z ∷ []) (omega arith))))
    (λ e g. absurd g)

six_back : (x : ℕ) (text : List ℕ) → six x text → Then (number w8) (λ b. pick (within 0x80 0xBF b) (give (b - 0x80)) none) x text
six_back x text g = record {
  value = 0x80 + x;
  front = text;
  back = [];
  first = (omega arith, g.1 ∙ sym (byte_alone (0x80 + x) (omega arith)));
  second = picks_first (within 0x80 0xBF (0x80 + x)) (give (0x80 + x - 0x80)) none x [] (within_is 0x80 0xBF (0x80 + x) (omega arith) (omega arith)) (omega arith, refl);
  whole = sym (append-nil text);
}

six_law : (at : ℕ) → Reads (six_bits_at at) six
unfolding six_bits_at
six_law at = same_law (then_law (byte_law at) (λ b. pick_law (within 0x80 0xBF b) (give_law (b - 0x80)) (none_law (faults.BadUtf at)))) six_to six_back

two_to : (high u : ℕ) (text : List ℕ) → Then six (λ low. pick (leb 0x80 (high * 64 + low)) (give (high * 64 + low)) none) u text → two high u text
two_to high u text t =
    picked (leb 0x80 (high * 64 + t.value)) (give (high * 64 + t.value)) none u t.back t.second
    (λ e g. (t.value, leb-true _ _ e, g.0, (t.first.0, t.whole ∙ rw (t.first.1, g.1) refl)))
    (λ e g. absurd g)

two_back : (high u : ℕ) (text : List ℕ) → two high u text → Then six (λ low. pick (leb 0x80 (high * 64 + low)) (give (high * 64 + low)) none) u text
two_back high u text g = record {
  value = g.0;
  front = text;
  back = [];
  first = g.3;
  second = picks_first (leb 0x80 (high * 64 + g.0)) (give (high * 64 + g.0)) none u [] (le-leb _ _ g.1) (g.2, refl);
  whole = sym (append-nil text);
}

two_law : (at high : ℕ) → Reads (two_at at high) (two high)
unfolding two_at
two_law at high = same_law (then_law (six_law at) (λ low. pick_law (leb 0x80 (high * 64 + low)) (give_law (high * 64 + low)) (none_law _))) (two_to high) (two_back high)

abbrev three_parts : ℕ → Grammar ℕ
three_parts high = Then six (λ middle. Then six (λ low. pick (leb 0x800 ((high * 64 + middle) * 64 + low)) (give ((high * 64 + middle) * 64 + low)) none))

three_to : (high u : ℕ) (text : List ℕ) → three_parts high u text → three high u text
three_to high u text t =
    let s = t.second in
    picked (leb 0x800 ((high * 64 + t.value) * 64 + s.value)) (give ((high * 64 + t.value) * 64 + s.value)) none u s.back s.second
    (λ e g. (t.value, s.value, s.first.0, leb-true _ _ e, g.0, t.first.0, t.whole ∙ rw (t.first.1, s.whole, s.first.1, g.1) refl))
    (λ e g. absurd g)

three_back : (high u : ℕ) (text : List ℕ) → three high u text → three_parts high u text
three_back high u text g = record {
  value = g.0;
  front = (0x80 + g.0) ∷ [];
  back = (0x80 + g.1) ∷ [];
  first = (g.5, refl);
  second = record {
    value = g.1;
    front = (0x80 + g.1) ∷ [];
    back = [];
    first = (g.2, refl);
    second = picks_first (leb 0x800 ((high * 64 + g.0) * 64 + g.1)) (give ((high * 64 + g.0) * 64 + g.1)) none u [] (le-leb _ _ g.3) (g.4, refl);
    whole = refl;
  };
  whole = g.6;
}

three_law : (at high : ℕ) → Reads (three_at at high) (three high)
unfolding three_at
three_law at high = same_law (then_law (six_law at) (λ middle. then_law (six_law at) (λ low. pick_law (leb 0x800 ((high * 64 + middle) * 64 + low)) (give_law _) (none_law (faults.BadUtf at))))) (three_to high) (three_back high)

-- ---- a character

abbrev parts : Grammar ℕ
parts = Then (number w8) (λ first. pick (within 1 0x7F first) (give first)
    (pick (within 0xC0 0xDF first) (two (first - 0xC0))
    (pick (within 0xE0 0xEF first) (three (first - 0xE0)) none)))

pub one_bytes : (u : ℕ) → 1 ≤ u → u ≤ 0x7F → unit_bytes u ≡ u ∷ []
one_bytes u p q = rw (within_is 1 0x7F u p q) refl

pub two_bytes : (u : ℕ) → 0x7F < u → u ≤ 0x7FF → unit_bytes u ≡ (0xC0 + u / 64) ∷ (0x80 + u % 64) ∷ []
two_bytes u p q = rw (within_above 1 0x7F u p, le-leb u 0x7FF q) refl

pub three_bytes : (u : ℕ) → 0x7FF < u → unit_bytes u ≡ (0xE0 + u / 4096) ∷ (0x80 + u / 64 % 64) ∷ (0x80 + u % 64) ∷ []
three_bytes u p = rw (within_above 1 0x7F u (omega arith), lt-leb u 0x7FF p) refl

both : (a b x y : ℕ) → a ≡ x → b ≡ y → a ∷ b ∷ [] ≡ x ∷ y ∷ []
both a b x y e f = cc

all_three : (a b c x y z : ℕ) → a ≡ x → b ≡ y → c ≡ z → a ∷ b ∷ c ∷ [] ≡ x ∷ y ∷ z ∷ []
all_three a b c x y z e f g = cc

of_two : (first u : ℕ) (text : List ℕ) → (0xC0 ≤ first) × (first ≤ 0xDF) → two (first - 0xC0) u text → unit u (first ∷ text)
of_two first u text w g =
    let is : u ≡ (first - 0xC0) * 64 + g.0 = g.2 in
    let bits : g.0 < 64 = g.3.0 in
    ((omega arith, omega arith), ap (λ z. first ∷ z) g.3.1 ∙ both first (0x80 + g.0) (0xC0 + u / 64) (0x80 + u % 64) (omega arith) (omega arith) ∙ sym (two_bytes u (omega arith) (omega arith)))

of_three : (first u : ℕ) (text : List ℕ) → (0xE0 ≤ first) × (first ≤ 0xEF) → three (first - 0xE0) u text → unit u (first ∷ text)
of_three first u text w g =
    let is : u ≡ ((first - 0xE0) * 64 + g.0) * 64 + g.1 = g.4 in
    let low : g.1 < 64 = g.2 in
    let middle : g.0 < 64 = g.5 in
    ((omega arith, omega arith), ap (λ z. first ∷ z) g.6 ∙ all_three first (0x80 + g.0) (0x80 + g.1) (0xE0 + u / 4096) (0x80 + u / 64 % 64) (0x80 + u % 64) (omega arith) (omega arith) (omega arith) ∙ sym (three_bytes u (omega arith)))

unit_to : (u : ℕ) (text : List ℕ) → parts u text → unit u text
unit_to u text t =
    let head : text ≡ t.value ∷ t.back = t.whole ∙ ap (λ z. z ++ t.back) (t.first.1 ∙ byte_alone t.value t.first.0) in
    subst (λ z. unit u z) (sym head) (picked (within 1 0x7F t.value) _ _ u t.back t.second
    (λ e g.
    let w = within_tells 1 0x7F t.value e in
    let is : u ≡ t.value = g.0 in
    ((omega arith, omega arith), ap (λ z. t.value ∷ z) g.1 ∙ ap (λ (z : ℕ). z ∷ []) (sym is) ∙ sym (one_bytes u (omega arith) (omega arith))))
    (λ e0 g0. picked (within 0xC0 0xDF t.value) _ _ u t.back g0
    (λ e g. of_two t.value u t.back (within_tells 0xC0 0xDF t.value e) g)
    (λ e1 g1. picked (within 0xE0 0xEF t.value) _ _ u t.back g1
    (λ e g. of_three t.value u t.back (within_tells 0xE0 0xEF t.value e) g)
    (λ e2 g2. absurd g2))))

from_first : (u first : ℕ) (rest text : List ℕ) → first < 256 → text ≡ first ∷ rest → pick (within 1 0x7F first) (give first) (pick (within 0xC0 0xDF first) (two (first - 0xC0)) (pick (within 0xE0 0xEF first) (three (first - 0xE0)) none)) u rest → parts u text
from_first u first rest text lt e g = record { value = first; front = first ∷ []; back = rest; first = (lt, sym (byte_alone first lt)); second = g; whole = e }

back_one : (u : ℕ) (text : List ℕ) → 1 ≤ u → u ≤ 0x7F → text ≡ unit_bytes u → parts u text
back_one u text p q e = from_first u u [] text (omega arith) (e ∙ one_bytes u p q) (picks_first (within 1 0x7F u) (give u) _ u [] (within_is 1 0x7F u p q) (refl, refl))

back_two : (u : ℕ) (text : List ℕ) → 0x7F < u → u ≤ 0x7FF → text ≡ unit_bytes u → parts u text
back_two u text p q e =
    let high : (0xC0 + u / 64) - 0xC0 ≡ u / 64 = omega arith in
    let low : u % 64 < 64 = omega arith in
    from_first u (0xC0 + u / 64) ((0x80 + u % 64) ∷ []) text (omega arith) (e ∙ two_bytes u p q)
    (picks_second (within 1 0x7F (0xC0 + u / 64)) _ _ u _ (within_above 1 0x7F (0xC0 + u / 64) (omega arith))
    (picks_first (within 0xC0 0xDF (0xC0 + u / 64)) (two (0xC0 + u / 64 - 0xC0)) _ u _ (within_is 0xC0 0xDF (0xC0 + u / 64) (omega arith) (omega arith))
    (u % 64, omega arith, omega arith, (low, refl))))

back_three : (u : ℕ) (text : List ℕ) → 0x7FF < u → u < 2 ^ 16 → text ≡ unit_bytes u → parts u text
back_three u text p q e =
    let low : u % 64 < 64 = omega arith in
    let middle : u / 64 % 64 < 64 = omega arith in
    from_first u (0xE0 + u / 4096) ((0x80 + u / 64 % 64) ∷ (0x80 + u % 64) ∷ []) text (omega arith) (e ∙ three_bytes u p)
    (picks_second (within 1 0x7F (0xE0 + u / 4096)) _ _ u _ (within_above 1 0x7F (0xE0 + u / 4096) (omega arith))
    (picks_second (within 0xC0 0xDF (0xE0 + u / 4096)) _ _ u _ (within_above 0xC0 0xDF (0xE0 + u / 4096) (omega arith))
    (picks_first (within 0xE0 0xEF (0xE0 + u / 4096)) (three (0xE0 + u / 4096 - 0xE0)) _ u _ (within_is 0xE0 0xEF (0xE0 + u / 4096) (omega arith) (omega arith))
    (u / 64 % 64, u % 64, low, omega arith, omega arith, middle, refl))))

unit_back : (u : ℕ) (text : List ℕ) → unit u text → parts u text
unit_back u text g =
    elim (cases_lt u 0x80) [
      | inl lt ↦ back_one u text (omega (arith, g.0.0)) (omega arith) g.1
      | inr ge ↦ elim (cases_lt u 0x800) [
        | inl lt ↦ back_two u text (omega arith) (omega arith) g.1
        | inr le ↦ back_three u text (omega arith) g.0.1 g.1
      ]
    ]

pub unit_law : Reads unit_at unit
unfolding unit_at
unit_law = same_law (from_law (λ at. then_law (byte_law at) (λ first. pick_law (within 1 0x7F first) (give_law first)
    (pick_law (within 0xC0 0xDF first) (two_law at (first - 0xC0))
    (pick_law (within 0xE0 0xEF first) (three_law at (first - 0xE0)) (none_law (faults.BadUtf at))))))) unit_to unit_back
