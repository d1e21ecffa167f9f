-- A list that is read one item behind the other, a value made of one that was read, and tags.
use Rattle.std.proofs.Common.{◌≡◌, ℕ, zero, suc, ◌<◌, Bool, true, false, List, [], ◌∷◌, ◌++◌, length, refl, sym, ap, subst, ◌∙◌, append_assoc}
use Rattle.std.specs.Int.{w8}
use Rattle.std.specs.List.{AllByRecursion, flat_map}
use Rattle.std.proofs.lemmas.List.{append-nil}
use Rattle.nr_base.specs.Reader.{Reader, onto, times}
use Rattle.nr_base.specs.Grammar.{number, give, Then, pick, Times, Each, tagged}
use Rattle.nr_base.proofs.Laws.{Reads, onto_law, times_law, same_law}
use Rattle.nr_base.proofs.Numbers.{byte_alone}

-- a text whose value is made of one that was read
pub leaf : {A B : Type 0} {G : A → List ℕ → Type 0} {f : A → B} {y : B} {text : List ℕ} → Then G (λ x. give (f x)) y text → (x : A) × (y ≡ f x) × G x text
leaf {G = G} t = (t.value, t.second.0, subst (λ (z : List ℕ). G t.value z) (sym (t.whole ∙ ap (λ (z : List ℕ). t.front ++ z) t.second.1 ∙ append-nil t.front)) t.first)

pub made : {A B : Type 0} {G : A → List ℕ → Type 0} {f : A → B} (x : A) (text : List ℕ) → G x text → Then G (λ x. give (f x)) (f x) text
made x text g = record { value = x; front = text; back = []; first = g; second = (refl, refl); whole = sym (append-nil text) }

-- a text of one of two grammars
pub picked : {A X : Type 0} (b : Bool) (G H : A → List ℕ → Type 0) (x : A) (t : List ℕ) → pick b G H x t → (b ≡ true → G x t → X) → (b ≡ false → H x t → X) → X
picked true G H x t g f h = f refl g
picked false G H x t g f h = h refl g

pub picks_first : {A : Type 0} (b : Bool) (G H : A → List ℕ → Type 0) (x : A) (t : List ℕ) → b ≡ true → G x t → pick b G H x t
picks_first true G H x t e g = g
picks_first false G H x t e g = absurd cc

pub picks_second : {A : Type 0} (b : Bool) (G H : A → List ℕ → Type 0) (x : A) (t : List ℕ) → b ≡ false → H x t → pick b G H x t
picks_second false G H x t e g = g
picks_second true G H x t e g = absurd cc

-- ---- tags

-- a byte and what it chooses, as a tag before a text
pub to_tagged : {A : Type 0} {H : ℕ → A → List ℕ → Type 0} {x : A} {text : List ℕ} → (t : Then (number w8) H x text) → tagged t.value (H t.value) x text
to_tagged t = (t.back, t.whole ∙ ap (λ (z : List ℕ). z ++ t.back) (t.first.1 ∙ byte_alone t.value t.first.0), t.second)

pub from_tagged : {A : Type 0} {H : ℕ → A → List ℕ → Type 0} {x : A} {text : List ℕ} (tag : ℕ) → tag < 256 → tagged tag (H tag) x text → Then (number w8) H x text
from_tagged tag lt g = record { value = tag; front = tag ∷ []; back = g.0; first = (lt, sym (byte_alone tag lt)); second = g.2; whole = g.1 }

-- ---- lists

-- the texts of values that each have one text
pub spells_all : {A : Type 0} (P : A → Type 0) (f : A → List ℕ) (xs : List A) (text : List ℕ) → Each (λ x t. P x × (t ≡ f x)) xs text → AllByRecursion P xs × (text ≡ flat_map f xs)
spells_all P f [] text e = (tt, e)
spells_all P f (x ∷ xs) text e =
    let more = spells_all P f xs e.1 e.3 in
    ((e.2.0, more.0), e.4 ∙ ap (λ z. z ++ e.1) e.2.1 ∙ ap (λ z. f x ++ z) more.1)

pub all_spelled : {A : Type 0} (P : A → Type 0) (f : A → List ℕ) (xs : List A) (text : List ℕ) → AllByRecursion P xs → text ≡ flat_map f xs → Each (λ x t. P x × (t ≡ f x)) xs text
all_spelled P f [] text each e = e
all_spelled P f (x ∷ xs) text each e = (f x, flat_map f xs, (each.0, refl), all_spelled P f xs (flat_map f xs) each.1 refl, e)

abbrev Onto : {A : Type 0} → (A → List ℕ → Type 0) → List A → List A → List ℕ → Type 0
Onto G xs = Then G (λ x. give (xs ++ x ∷ []))

-- what a list of items adds to the items before
record Adds {A : Type 0} (G : A → List ℕ → Type 0) (k : ℕ) (xs ys : List A) (text : List ℕ) : Type 0 where
  items : List A
  count : length items ≡ k
  joined : ys ≡ xs ++ items
  each : Each G items text

adds : {A : Type 0} (G : A → List ℕ → Type 0) (k : ℕ) (xs ys : List A) (text : List ℕ) → Times (Onto G) k xs ys text → Adds G k xs ys text
adds G zero xs ys text t = record { items = []; count = refl; joined = t.0 ∙ sym (append-nil xs); each = t.1 }
adds G (suc k) xs ys text t =
    let one = leaf t.first in
    let more = adds G k t.value ys t.back t.second in
    record {
      items = one.0 ∷ more.items;
      count = ap suc more.count;
      joined = more.joined ∙ ap (λ z. z ++ more.items) one.1 ∙ append_assoc xs (one.0 ∷ []) more.items;
      each = (t.front, t.back, one.2, more.each, t.whole);
    }

added : {A : Type 0} (G : A → List ℕ → Type 0) (xs items : List A) (text : List ℕ) → Each G items text → Times (Onto G) (length items) xs (xs ++ items) text
added G xs [] text e = (append-nil xs, e)
added G xs (x ∷ items) text e =
    record {
      value = xs ++ x ∷ [];
      front = e.0;
      back = e.1;
      first = made x e.0 e.2;
      second = subst (λ z. Times (Onto G) (length items) (xs ++ x ∷ []) z e.1) (append_assoc xs (x ∷ []) items) (added G (xs ++ x ∷ []) items e.1 e.3);
      whole = e.4;
    }

-- a list of k items
pub each_law : {A F : Type 0} {r : Reader F A} {G : A → List ℕ → Type 0} → Reads r G → (k : ℕ) → Reads (times (onto r) k []) (λ xs text. (length xs ≡ k) × Each G xs text)
each_law {r = r} {G = G} rs k = same_law (times_law (onto r) (Onto G) (λ xs. onto_law rs xs) k [])
    (λ xs text t. let a = adds G k [] xs text t in (ap length a.joined ∙ a.count, subst (λ z. Each G z text) (sym a.joined) a.each))
    (λ xs text e. subst (λ j. Times (Onto G) j [] xs text) e.0 (added G [] xs text e.1))
