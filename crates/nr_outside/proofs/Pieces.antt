-- A list that is taken from its front, part after part.
use Rattle.std.proofs.Common.{◌≡◌, ◌≤◌, ◌<◌, ◌-◌, ◌+◌, min, ◌++◌, List, [], ◌∷◌, ℕ, drop, take, flat_map, length, refl, sym, ◌∙◌, ap, append_assoc, subst, arith}
use Rattle.std.proofs.lemmas.List.{take-append-drop, drop-drop, take_all, take-append-le, length-drop, length-take}
use Rattle.nr_outside.specs.Link.{put_piece, GivesOfOne}

-- what is left from an offset, whole
take-drop : (xs : List ℕ) (from : ℕ) → take (length xs - from) (drop from xs) ≡ drop from xs
take-drop xs from = take_all (length xs - from) (drop from xs) (simp length-drop (omega arith))

-- some first elements, written over the front of another list, are its front
take-written : (xs part into : List ℕ) (n : ℕ) → part ≡ take n xs → n ≤ length xs → take n (part ++ drop n into) ≡ take n xs
take-written xs part into n is le =
    let whole : length part ≡ n = rw is (simp length-take (omega arith)) in
    take-append-le n part (drop n into) (omega arith) ∙ take_all n part (omega arith) ∙ is

-- what is left from an offset is its first n elements and what is left after them
drop-split : (xs : List ℕ) (from n : ℕ) → drop from xs ≡ take n (drop from xs) ++ drop (from + n) xs
drop-split xs from n = sym (rw (← drop-drop n from xs) (take-append-drop n (drop from xs)))

-- what is given of a piece is what stands at the front of the buffer
pub given_part : (piece written into : List ℕ) (from n : ℕ) → written ≡ take n (take (length piece - from) (drop from piece))
    → n ≡ min (length (take (length piece - from) (drop from piece))) (length into)
    → take n (written ++ drop n into) ≡ take n (take (length piece - from) (drop from piece))
given_part piece written into from n is count = take-written (take (length piece - from) (drop from piece)) written into n is (omega arith)

-- what was to come is what is given and what is to come after it
left_bytes : (piece later : List ℕ) (from n : ℕ)
    → drop from piece ++ later ≡ take n (take (length piece - from) (drop from piece)) ++ (drop (from + n) piece ++ later)
left_bytes piece later from n =
    rw (take-drop piece from)
    (ap (λ xs. xs ++ later) (drop-split piece from n) ∙ append_assoc (take n (drop from piece)) (drop (from + n) piece) later)

bytes-put : (p : List ℕ) (pieces : List (List ℕ)) → flat_map (λ q. q) (put_piece p pieces) ≡ p ++ flat_map (λ q. q) pieces
bytes-put [] pieces = refl
bytes-put (b ∷ bytes) pieces = refl

pub left_part : (piece : List ℕ) (later : List (List ℕ)) (from n : ℕ)
    → flat_map (λ p. p) (put_piece (drop from piece) later)
    ≡ take n (take (length piece - from) (drop from piece)) ++ flat_map (λ p. p) (put_piece (drop (from + n) piece) later)
left_part piece later from n =
    rw (bytes-put (drop from piece) later, bytes-put (drop (from + n) piece) later) (left_bytes piece (flat_map (λ p. p) later) from n)

of_one : (p : List ℕ) (pieces : List (List ℕ)) (room n : ℕ) → 0 < length p → n ≡ min (length p) room → GivesOfOne room n (put_piece p pieces) (put_piece (drop n p) pieces)
of_one [] pieces room n lt is = absurd (omega arith)
of_one (b ∷ bytes) pieces room n lt is = (is, refl)

-- what is given are bytes of the first piece
pub given_of_one : (piece : List ℕ) (later : List (List ℕ)) (room from n : ℕ) → from < length piece → n ≡ min (length (take (length piece - from) (drop from piece))) room
    → GivesOfOne room n (put_piece (drop from piece) later) (put_piece (drop (from + n) piece) later)
given_of_one piece later room from n lt is =
    let own = of_one (drop from piece) later room n (simp length-drop (omega arith)) (is ∙ ap (λ xs. min (length xs) room) (take-drop piece from)) in
    subst (λ xs. GivesOfOne room n (put_piece (drop from piece) later) (put_piece xs later)) (drop-drop n from piece) own
