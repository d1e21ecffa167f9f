-- A set of pairs of numbers, kept in their order.
use Rattle.std.proofs.Common.{◌≡◌, ℕ, Bool, true, false, ◌&&◌, ◌||◌, List, [], ◌∷◌, refl, sym, ap, ◌∙◌}
use Rattle.std.proofs.lemmas.Bool.{eqb-true}
use Rattle.std.specs.declared.cmp.Ordering.{Ordering}
use Rattle.std.specs.declared.cmp.Ordering.TheVariants.{Less, Equal, Greater}
use Rattle.std.specs.Ordering.{ordering_then, nat_cmp, is_eq, match_ordering}
use Rattle.std.specs.Cmp.{both_tied, unsigned_ties}
use Rattle.std.specs.List.{list_any}
use Rattle.std.specs.BTreeSet.{BTreeSet, insert_key, contains}
use Rattle.nr_prog.specs.Seen.{has_pair, is_pair}

abbrev Pair : Type 0
Pair = ℕ × ℕ

-- the order of the set
abbrev order : Pair → Pair → Ordering
order x y = ordering_then (nat_cmp x.0 y.0) (nat_cmp x.1 y.1)

ties : (n d a b : ℕ) → is_pair n d a b ≡ is_eq (ordering_then (nat_cmp n a) (nat_cmp d b))
ties n d a b = both_tied _ _ _ _ (unsigned_ties n a) (unsigned_ties d b)

any_same : {X : Type 0} (p q : X → Bool) → ((x : X) → p x ≡ q x) → (xs : List X) → list_any p xs ≡ list_any q xs
any_same p q same [] = refl
any_same p q same (x ∷ xs) = λ i. same x i || any_same p q same xs i

-- whether the set has a pair is what `has_pair` says
pub contains_is_has : (s : BTreeSet Pair) (name desc : ℕ) → contains order s (name, desc) ≡ has_pair s name desc
unfolding has_pair
contains_is_has s name desc = any_same _ _ (λ k. sym (ties name desc k.0 k.1)) s.keys

first_so : (s t : Bool) → (s && t) ≡ true → s ≡ true
first_so true t h = refl
first_so false t h = absurd cc

second_so : (s t : Bool) → (s && t) ≡ true → t ≡ true
second_so true t h = h
second_so false t h = absurd cc

-- pairs that tie are the same
same_pair : (n d : ℕ) (x y : Pair) → is_eq (order x y) ≡ true → is_pair n d y.0 y.1 ≡ is_pair n d x.0 x.1
same_pair n d x y e =
    let tied : is_pair x.0 x.1 y.0 y.1 ≡ true = ties x.0 x.1 y.0 y.1 ∙ e in
    let a = eqb-true x.0 y.0 (first_so _ _ tied) in
    let b = eqb-true x.1 y.1 (second_so _ _ tied) in
    λ i. is_pair n d (sym a i) (sym b i)

again : (a b : Bool) → (a || b) ≡ (a || (a || b))
again true b = refl
again false b = refl

swapped : (a b c : Bool) → (b || (a || c)) ≡ (a || (b || c))
swapped true true c = refl
swapped true false c = refl
swapped false b c = refl

turned : (a b : Bool) → (a || b) ≡ (b || a)
turned true true = refl
turned true false = refl
turned false true = refl
turned false false = refl

inserted : (n d : ℕ) (k x : Pair) (xs : List Pair) (o : Ordering) → order k x ≡ o
    → list_any (λ q. is_pair n d q.0 q.1) (insert_key order xs k) ≡ (is_pair n d k.0 k.1 || list_any (λ q. is_pair n d q.0 q.1) xs)
    → list_any (λ q. is_pair n d q.0 q.1) (match_ordering o (k ∷ x ∷ xs) (x ∷ xs) (x ∷ insert_key order xs k))
    ≡ (is_pair n d k.0 k.1 || (is_pair n d x.0 x.1 || list_any (λ q. is_pair n d q.0 q.1) xs))
inserted n d k x xs Less e h = refl
inserted n d k x xs Equal e h =
    let rest = list_any (λ (q : Pair). is_pair n d q.0 q.1) xs in
    let same = same_pair n d k x (ap is_eq e) in
    again (is_pair n d x.0 x.1) rest ∙ ap (λ b. b || (is_pair n d x.0 x.1 || rest)) same
inserted n d k x xs Greater e h =
    let rest = list_any (λ (q : Pair). is_pair n d q.0 q.1) xs in
    ap (λ b. is_pair n d x.0 x.1 || b) h ∙ swapped (is_pair n d k.0 k.1) (is_pair n d x.0 x.1) rest

insert_any : (n d : ℕ) (ks : List Pair) (k : Pair)
    → list_any (λ q. is_pair n d q.0 q.1) (insert_key order ks k) ≡ (is_pair n d k.0 k.1 || list_any (λ q. is_pair n d q.0 q.1) ks)
insert_any n d [] k = refl
insert_any n d (x ∷ xs) k = inserted n d k x xs (order k x) refl (insert_any n d xs k)

-- what the set has once a pair is put in
pub has_more : (s t : BTreeSet Pair) (name desc : ℕ) → t.keys ≡ insert_key order s.keys (name, desc)
    → (n d : ℕ) → has_pair t n d ≡ (has_pair s n d || is_pair n d name desc)
unfolding has_pair
has_more s t name desc e n d =
    ap (list_any (λ (q : Pair). is_pair n d q.0 q.1)) e ∙ insert_any n d s.keys (name, desc) ∙ turned (is_pair n d name desc) _

pub has_none : (s : BTreeSet Pair) → s.keys ≡ [] → (n d : ℕ) → has_pair s n d ≡ false
unfolding has_pair
has_none s e n d = ap (list_any (λ (q : Pair). is_pair n d q.0 q.1)) e
