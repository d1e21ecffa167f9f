-- The cells of nodes, one by one.
use Rattle.std.proofs.Common.{◌≡◌, ℕ, ◌+◌, ◌<◌, ◌≤◌, List, [], ◌∷◌, ◌++◌, length, get_or, min, take, sym, ap, ◌∙◌, arith}
use Rattle.std.proofs.lemmas.List.{take_all, take_more}
use Rattle.nr_graph.specs.declared.graph.Node.{Node}
use Rattle.nr_graph.specs.Graphs.{cells_of_nodes}

cells_push : (ns : List Node) (n : Node) → cells_of_nodes (ns ++ n ∷ []) ≡ cells_of_nodes ns + (length n.slots + 1)
cells_push [] n = omega arith
cells_push (m ∷ ns) n = let e = cells_push ns n in omega (arith, e)

-- a sum that stands still at its limit
pub cells_more : (ns : List Node) (i a b c : ℕ) (n : Node) (k m : ℕ) → i < length ns → n ≡ get_or ns i n → a ≡ min (cells_of_nodes (take i ns)) m → k ≡ length n.slots → b ≡ min (a + k) m → c ≡ min (b + 1) m
    → c ≡ min (cells_of_nodes (take (i + 1) ns)) m
cells_more ns i a b c n k m l is e j f g =
    let all : cells_of_nodes (take (i + 1) ns) ≡ cells_of_nodes (take i ns) + (length n.slots + 1) = ap cells_of_nodes (take_more ns i n l ∙ ap (λ x. take i ns ++ x ∷ []) (sym is)) ∙ cells_push (take i ns) n in
    omega (arith, all, e, j, f, g)

pub cells_all : (ns ms : List Node) (i a m : ℕ) → ns ≡ ms → length ns ≤ i → a ≡ min (cells_of_nodes (take i ns)) m → a ≡ min (cells_of_nodes ms) m
cells_all ns ms i a m same l e = e ∙ ap (λ ns. min (cells_of_nodes ns) m) (take_all i ns l ∙ same)
