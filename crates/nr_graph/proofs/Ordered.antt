-- Where a test of the order of first visit stands: what is left of the walk, and how much is left to do.
use Rattle.std.proofs.Common.{◌≡◌, ℕ, zero, suc, ◌+◌, ◌<◌, ◌≤◌, false, List, [], ◌∷◌, ◌++◌, length, nat_eq, nat_lt, get_or, reverse, refl, sym, ap, subst, ◌∙◌, length-append, ◌⊎◌, inl, inr, IsTrue, arith}
use Rattle.std.specs.List.{AllByRecursion}
use Rattle.std.proofs.lemmas.List.{reverse-append, reverse-reverse, length-reverse}
use Rattle.std.proofs.lemmas.Bool.{eq-eqb, lt-ltb, le-ltb, cases_lt, eqb-true, false≢true}
use Rattle.std.specs.Option.{option_map_or}
use Rattle.std.proofs.lemmas.Option.{slice_get-get_or}
use Rattle.nr_graph.specs.declared.graph.Graph.{Graph}
use Rattle.nr_graph.specs.declared.graph.Node.{Node}
use Rattle.nr_graph.specs.declared.graph.Slot.{Slot}
use Rattle.nr_graph.specs.Graphs.{AreThere, IsWithin, next_node, nodes_in}
use Rattle.nr_graph.specs.Walks.{is_met, Walk, over, again}
use Rattle.nr_graph.proofs.Walks.{open_first, at_first, at_again}
use Rattle.nr_graph.proofs.Numbers.{upto, length_range, upto_next, met_below, not_met, next_number}
use Rattle.nr_graph.proofs.Left.{left_of, left_less}

unfoldable pub unmet : (ℕ → List ℕ) → ℕ → ℕ → ℕ
unmet next n count = left_of (λ i. nat_lt i count) (λ i. length (next i)) n

-- Numbers below count were met in order, and those on the stack come next, the last first: finishing from here finishes
-- the walk of the roots, and a walk of the roots that meets the numbers below n in order goes on from here.
pub record StandsAt (next : ℕ → List ℕ) (n : ℕ) (roots stack : List ℕ) (count : ℕ) : Type 0 where
  pub there : (out : List ℕ) → Walk next (reverse stack) (upto count) out → Walk next roots [] out
  pub back : Walk next roots [] (upto n) → Walk next (reverse stack) (upto count) (upto n)
  pub few : count ≤ n
  pub below : AllByRecursion (λ i. i < n) (reverse stack)

both_below : (n : ℕ) (xs ys : List ℕ) → AllByRecursion (λ i. i < n) xs → AllByRecursion (λ i. i < n) ys → AllByRecursion (λ i. i < n) (xs ++ ys)
both_below n [] ys a b = b
both_below n (x ∷ xs) ys a b = (a.0, both_below n xs ys a.1 b)

turned : (s t : List ℕ) (r : ℕ) → s ≡ t ++ r ∷ [] → reverse s ≡ r ∷ reverse t
turned s t r e = ap reverse e ∙ reverse-append t (r ∷ [])

module _ (next : ℕ → List ℕ) (n : ℕ) (roots : List ℕ) where
  pub at_start : (s t : List ℕ) → AllByRecursion (λ i. i < n) roots → s ≡ [] → t ≡ s ++ reverse roots → StandsAt next n roots t 0
  at_start s t within e f =
      let is : reverse t ≡ roots = ap reverse (f ∙ ap (λ x. x ++ reverse roots) e) ∙ reverse-reverse roots in
      record {
        there = λ out w. subst (λ x. Walk next x [] out) is w;
        back = λ w. subst (λ x. Walk next x [] (upto n)) (sym is) w;
        few = omega arith;
        below = subst (AllByRecursion (λ i. i < n)) (sym is) within;
      }

  pub at_below : (s t : List ℕ) (r count : ℕ) → StandsAt next n roots s count → s ≡ t ++ r ∷ [] → r < n
  at_below s t r count a e = (subst (AllByRecursion (λ i. i < n)) (turned s t r e) a.below).0

  pub at_old : (s t : List ℕ) (r count : ℕ) → StandsAt next n roots s count → s ≡ t ++ r ∷ [] → r < count → StandsAt next n roots t count
  at_old s t r count a e l =
      let m = met_below count r l in let is = turned s t r e in
      record {
        there = λ out w. a.there out (subst (λ x. Walk next x (upto count) out) (sym is) (again m w));
        back = λ w. at_again next (subst (λ x. Walk next x (upto count) (upto n)) is (a.back w)) m;
        few = a.few;
        below = (subst (AllByRecursion (λ i. i < n)) is a.below).1;
      }

  pub at_new : (s t u : List ℕ) (r count : ℕ) → StandsAt next n roots s count → s ≡ t ++ r ∷ [] → r ≡ count
      → AllByRecursion (λ i. i < n) (next r) → u ≡ t ++ reverse (next r) → StandsAt next n roots u (count + 1)
  at_new s t u r count a e is within g =
      let l : r < n = at_below s t r count a e in
      let m : is_met (upto count) r ≡ false = not_met count r (omega arith) in
      let now : reverse u ≡ next r ++ reverse t = ap reverse g ∙ reverse-append t (reverse (next r)) ∙ ap (λ x. x ++ reverse t) (reverse-reverse (next r)) in
      let plus : count + 1 ≡ suc count = omega arith in
      let more : upto (count + 1) ≡ upto count ++ r ∷ [] = ap upto plus ∙ upto_next count ∙ ap (λ x. upto count ++ x ∷ []) (sym is) in
      let turn = turned s t r e in
      record {
        there = λ out w. a.there out (subst (λ x. Walk next x (upto count) out) (sym turn)
            (open_first next r (reverse t) (upto count) out m (subst (λ x. Walk next x (upto count ++ r ∷ []) out) now (subst (λ x. Walk next (reverse u) x out) more w))));
        back = λ w. subst (λ x. Walk next (reverse u) x (upto n)) (sym more) (subst (λ x. Walk next x (upto count ++ r ∷ []) (upto n)) (sym now)
            (at_first next (subst (λ x. Walk next x (upto count) (upto n)) turn (a.back w)) m));
        few = omega arith;
        below = subst (AllByRecursion (λ i. i < n)) (sym now) (both_below n (next r) (reverse t) within (subst (AllByRecursion (λ i. i < n)) turn a.below).1);
      }

  -- a number that is too large
  pub at_wrong : (s t : List ℕ) (r count : ℕ) → StandsAt next n roots s count → s ≡ t ++ r ∷ [] → count < r → Walk next roots [] (upto n) → ⊥
  at_wrong s t r count a e l w =
      let p = next_number next r n (reverse t) (upto count) (subst (λ x. Walk next x (upto count) (upto n)) (turned s t r e) (a.back w)) (not_met count r (omega arith)) in
      let q = length_range 0 count in
      omega (arith, p.0, q)

  pub at_end : (s : List ℕ) (count : ℕ) → StandsAt next n roots s count → s ≡ [] → (count ≡ n → Walk next roots [] (upto n)) × (Walk next roots [] (upto n) → count ≡ n)
  at_end s count a e = (
    (λ c. a.there (upto n) (subst (λ x. Walk next (reverse x) (upto count) (upto n)) (sym e) (subst (λ x. Walk next [] (upto count) (upto x)) c over))),
    λ w. same (subst (λ x. Walk next (reverse x) (upto count) (upto n)) e (a.back w)) refl refl,
  )
    where
      same : {seen out : List ℕ} → Walk next [] seen out → out ≡ upto n → seen ≡ upto count → count ≡ n
      same over p q = sym (length_range 0 count) ∙ ap length (sym q ∙ p) ∙ length_range 0 n

pub smaller_old : (next : ℕ → List ℕ) (n count r : ℕ) (s t : List ℕ) → s ≡ t ++ r ∷ [] → length t + unmet next n count < length s + unmet next n count
smaller_old next n count r s t e = let l : length s ≡ length t + 1 = ap length e ∙ length-append t (r ∷ []) in omega (arith, l)

pub smaller_new : (next : ℕ → List ℕ) (n count r : ℕ) (s t u : List ℕ) → s ≡ t ++ r ∷ [] → r ≡ count → r < n → u ≡ t ++ reverse (next r)
    → length u + unmet next n (count + 1) < length s + unmet next n count
unfolding unmet
smaller_new next n count r s t u e is l g =
    let a : length s ≡ length t + 1 = ap length e ∙ length-append t (r ∷ []) in
    let b : length u ≡ length t + length (next r) = ap length g ∙ length-append t (reverse (next r)) ∙ ap (λ x. length t + x) (length-reverse (next r)) in
    let d = left_less (λ i. nat_lt i count) (λ i. nat_lt i (count + 1)) (λ i. length (next i)) r (others count r is) n l (le-ltb r count (omega arith)) (lt-ltb r (count + 1) (omega arith)) in
    omega (arith, a, b, d)
  where
    others : (count r : ℕ) → r ≡ count → (q : ℕ) → (q ≡ r → ⊥) → nat_lt q (count + 1) ≡ nat_lt q count
    others count r is q ne = by (cases_lt q count)
      where
        by : (q < count) ⊎ (count ≤ q) → nat_lt q (count + 1) ≡ nat_lt q count
        by (inl h) = lt-ltb q (count + 1) (omega arith) ∙ sym (lt-ltb q count h)
        by (inr h) = le-ltb q (count + 1) (omega arith) ∙ sym (le-ltb q count h)

-- ---- answers of the test

pub not_so : (P : Type 0) → (P → ⊥) → (IsTrue false → P) × (P → IsTrue false)
not_so P no_p = ((λ h. absurd (false≢true h)), (λ p. absurd (no_p p)))

pub so_if : (a b : ℕ) (P : Type 0) → (a ≡ b → P) × (P → a ≡ b) → (IsTrue (nat_eq a b) → P) × (P → IsTrue (nat_eq a b))
so_if a b P h = ((λ t. h.0 (eqb-true a b t)), (λ p. eq-eqb a b (h.1 p)))

-- ---- what the test reads of a graph

pub next_read : (g : Graph) (i : ℕ) (o : Node) → i < length g.nodes → next_node g i ≡ nodes_in (get_or g.nodes i o).slots
unfolding next_node
next_read g i o l = ap (λ x. nodes_in (option_map_or (λ n. n.slots) x [])) (slice_get-get_or g.nodes i o l)

pub next_within : (g : Graph) (i : ℕ) (o : Node) → IsWithin g → i < length g.nodes → AreThere g (next_node g i)
next_within g i o within l = subst (AreThere g) (sym (next_read g i o l)) (at_place g.nodes i within.slots l)
  where
    at_place : (ns : List Node) (i : ℕ) → AllByRecursion (λ n. AreThere g (nodes_in n.slots)) ns → i < length ns → AreThere g (nodes_in (get_or ns i o).slots)
    at_place [] i a l = absurd (omega arith)
    at_place (n ∷ ns) zero a l = a.0
    at_place (n ∷ ns) (suc i) a l = at_place ns i a.1 (omega arith)

pub pushed_read : (g : Graph) (i : ℕ) (o : Node) (ns : List Node) (slots : List Slot) (t u : List ℕ) → i < length g.nodes → ns ≡ g.nodes
    → slots ≡ (get_or ns i o).slots → u ≡ t ++ reverse (nodes_in slots) → u ≡ t ++ reverse (next_node g i)
pushed_read g i o ns slots t u l same is e =
    let read : slots ≡ (get_or g.nodes i o).slots = is ∙ ap (λ (ns : List Node). (get_or ns i o).slots) same in
    e ∙ ap (λ x. t ++ reverse x) (ap nodes_in read ∙ sym (next_read g i o l))
