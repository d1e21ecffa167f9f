-- A set of classes and names, kept in their order.
use Rattle.std.proofs.Common.{◌≡◌, ℕ, Bool, true, false, ◌&&◌, ◌||◌, List, [], ◌∷◌, refl, sym, ap, ◌∙◌}
use Rattle.std.specs.Prelude.{◌==◌}
use Rattle.std.specs.declared.cmp.Ordering.{Ordering}
use Rattle.std.specs.declared.cmp.Ordering.TheVariants.{Less, Equal, Greater}
use Rattle.std.specs.Ordering.{ordering_then, nat_cmp, is_eq, match_ordering}
use Rattle.std.specs.Cmp.{both_tied, unsigned_ties}
use Rattle.std.specs.Cmp.Lexicographic.{slice_cmp, lists_ties, bytes_decides}
use Rattle.std.specs.List.{list_any}
use Rattle.std.specs.Str.{bytes_eq}
use Rattle.std.specs.BTreeSet.{BTreeSet, insert_key, contains}
use Rattle.std.specs.Borrow.{Bor}
use Rattle.std.proofs.lemmas.Bool.{and_from, and_parts, eq-eqb, eqb-true}
use Rattle.nr_linked.specs.declared.program.tables.SlotInfo.{SlotInfo}
use Rattle.nr_linked.specs.SeenSlots.{has}
use Rattle.nr_linked.specs.Sendable.{has_twins, is_twin}

abbrev Key : Type 0
Key = ℕ × Bor (List ℕ)

-- the order of the set
abbrev order : Key → Key → Ordering
order x y = ordering_then (nat_cmp x.0 y.0) (slice_cmp nat_cmp x.1.now y.1.now)

abbrev is_key : SlotInfo → Key → Bool
is_key t k = t.declared_in == k.0 && bytes_eq t.name k.1.now

ties : (x y : Key) → (x.0 == y.0 && bytes_eq x.1.now y.1.now) ≡ is_eq (order x y)
ties x y = both_tied _ _ _ _ (unsigned_ties x.0 y.0) (lists_ties nat_cmp unsigned_ties x.1.now y.1.now)

any_same : {X : Type 0} (p q : X → Bool) → ((x : X) → p x ≡ q x) → (xs : List X) → list_any p xs ≡ list_any q xs
any_same p q same [] = refl
any_same p q same (x ∷ xs) = λ i. same x i || any_same p q same xs i

both_so : (a b : Bool) → (a ≡ true → b ≡ true) → (b ≡ true → a ≡ true) → a ≡ b
both_so true true f g = refl
both_so true false f g = sym (f refl)
both_so false true f g = g refl
both_so false false f g = refl

twin_turned : (s t : SlotInfo) → is_twin s t ≡ is_twin t s
twin_turned s t = both_so (is_twin s t) (is_twin t s) (turn s t) (turn t s)
  where
    turn : (s t : SlotInfo) → is_twin s t ≡ true → is_twin t s ≡ true
    turn s t e =
        let both = and_parts (s.declared_in == t.declared_in) (bytes_eq s.name t.name) e in
        and_from (t.declared_in == s.declared_in) (bytes_eq t.name s.name) (eq-eqb t.declared_in s.declared_in (sym (eqb-true s.declared_in t.declared_in both.0))) ((bytes_decides t.name s.name).1 (sym ((bytes_decides s.name t.name).0 both.1)))

-- a test that takes keys of one class and name alike, over a set with one more key
module _ (p : Key → Bool) (same : (x y : Key) → is_eq (order x y) ≡ true → p y ≡ p x) where
  again : (a b : Bool) → (a || b) ≡ (a || (a || b))
  again true b = refl
  again false b = refl

  swapped : (a b c : Bool) → (b || (a || c)) ≡ (a || (b || c))
  swapped true true c = refl
  swapped true false c = refl
  swapped false b c = refl

  inserted : (k x : Key) (xs : List Key) (o : Ordering) → order k x ≡ o → list_any p (insert_key order xs k) ≡ (p k || list_any p xs)
      → list_any p (match_ordering o (k ∷ x ∷ xs) (x ∷ xs) (x ∷ insert_key order xs k)) ≡ (p k || (p x || list_any p xs))
  inserted k x xs Less e h = refl
  inserted k x xs Equal e h = again (p x) (list_any p xs) ∙ ap (λ b. b || (p x || list_any p xs)) (same k x (ap is_eq e))
  inserted k x xs Greater e h = ap (λ b. p x || b) h ∙ swapped (p k) (p x) (list_any p xs)

  insert_any : (ks : List Key) (k : Key) → list_any p (insert_key order ks k) ≡ (p k || list_any p ks)
  insert_any [] k = refl
  insert_any (x ∷ xs) k = inserted k x xs (order k x) refl (insert_any xs k)

same_key : (t : SlotInfo) (x y : Key) → is_eq (order x y) ≡ true → is_key t y ≡ is_key t x
same_key t x y e =
    let both = and_parts (x.0 == y.0) (bytes_eq x.1.now y.1.now) (ties x y ∙ e) in
    let a = eqb-true x.0 y.0 both.0 in
    let b = (bytes_decides x.1.now y.1.now).0 both.1 in
    λ i. t.declared_in == sym a i && bytes_eq t.name (sym b i)

-- whether the set has a key is what `has` says of the slot
pub contains_is_has : (s : BTreeSet Key) (t : SlotInfo) (k : Key) → k.0 ≡ t.declared_in → k.1.now ≡ t.name → contains order s k ≡ has s t
unfolding has
contains_is_has s t k e f = any_same _ _ (λ q. sym (ties k q) ∙ λ i. e i == q.0 && bytes_eq (f i) q.1.now) s.keys

-- what the set has once a slot is put in
pub has_more : (s n : BTreeSet Key) (slot : SlotInfo) (k : Key) → k.0 ≡ slot.declared_in → k.1.now ≡ slot.name → n.keys ≡ insert_key order s.keys k → (t : SlotInfo) → has n t ≡ (is_twin slot t || has s t)
unfolding has
has_more s n slot k e f keys t =
    ap (list_any (is_key t)) keys ∙ insert_any (is_key t) (same_key t) s.keys k
    ∙ ap (λ b. b || list_any (is_key t) s.keys) ((λ i. t.declared_in == e i && bytes_eq t.name (f i)) ∙ twin_turned t slot)

-- ---- a walk along the slots

or_any : (f g h : SlotInfo → Bool) → ((t : SlotInfo) → h t ≡ (f t || g t)) → (ss : List SlotInfo) → list_any h ss ≡ (list_any f ss || list_any g ss)
or_any f g h e [] = refl
or_any f g h e (t ∷ ss) = (λ i. e t i || or_any f g h e ss i) ∙ mixed (f t) (g t) (list_any f ss) (list_any g ss)
  where
    mixed : (a b c d : Bool) → ((a || b) || (c || d)) ≡ ((a || c) || (b || d))
    mixed true b c d = refl
    mixed false true true d = refl
    mixed false true false d = refl
    mixed false false c d = refl

none_seen : (seen : BTreeSet Key) → seen.keys ≡ [] → (ss : List SlotInfo) → list_any (has seen) ss ≡ false
unfolding has
none_seen seen e [] = refl
none_seen seen e (t ∷ ss) = (λ i. list_any (is_key t) (e i) || none_seen seen e ss i)

pub begins : (seen : BTreeSet Key) (ss : List SlotInfo) → seen.keys ≡ [] → (list_any (has seen) ss || has_twins ss) ≡ has_twins ss
begins seen ss e = ap (λ b. b || has_twins ss) (none_seen seen e ss)

pub stops : (seen : BTreeSet Key) (s : SlotInfo) (ss all : List SlotInfo) → has seen s ≡ true → (list_any (has seen) (s ∷ ss) || has_twins (s ∷ ss)) ≡ has_twins all → true ≡ has_twins all
stops seen s ss all found e = sym (ap (λ b. (b || list_any (has seen) ss) || has_twins (s ∷ ss)) found) ∙ e

pub goes_on : (seen next : BTreeSet Key) (s : SlotInfo) (ss all : List SlotInfo) → has seen s ≡ false → ((t : SlotInfo) → has next t ≡ (is_twin s t || has seen t))
    → (list_any (has seen) (s ∷ ss) || has_twins (s ∷ ss)) ≡ has_twins all → (list_any (has next) ss || has_twins ss) ≡ has_twins all
goes_on seen next s ss all new kept e =
    ap (λ b. b || has_twins ss) (or_any (is_twin s) (has seen) (has next) kept ss)
    ∙ moved (list_any (is_twin s) ss) (list_any (has seen) ss) (has_twins ss)
    ∙ sym (ap (λ b. (b || list_any (has seen) ss) || has_twins (s ∷ ss)) new) ∙ e
  where
    moved : (a b c : Bool) → ((a || b) || c) ≡ (b || (a || c))
    moved true true c = refl
    moved true false c = refl
    moved false true c = refl
    moved false false c = refl
