-- What a connection in memory stands for.
use Rattle.std.specs.Prelude.{◌≡◌, ℕ, List, [], ◌∷◌, drop, flat_map, length, min, Vec}
use Rattle.std.specs.declared.alloc.Global.{Global}
use Rattle.nr_outside.specs.Wire.{Connection}
use Rattle.nr_outside.specs.declared.wire.link.Link.{Link}

-- a piece and the pieces after it; one with no bytes is left out
abbrev pub put_piece : List ℕ → List (List ℕ) → List (List ℕ)
put_piece [] pieces = pieces
put_piece (b ∷ bytes) pieces = (b ∷ bytes) ∷ pieces

-- the pieces that have bytes
abbrev pub pieces_of : List (Vec ℕ Global) → List (List ℕ)
pieces_of [] = []
pieces_of (p ∷ ps) = put_piece p.items (pieces_of ps)

-- the pieces that a script gives
abbrev pub script_pieces : Vec (Vec ℕ Global) Global → List (List ℕ)
script_pieces script = pieces_of script.items

-- the rest of the piece that is being given, and then the later pieces
abbrev pub link_pieces : Link → List (List ℕ)
link_pieces l = put_piece (drop l.from l.piece.items) (pieces_of l.later.items)

-- the bytes of these pieces
abbrev pub link_to_come : Link → List ℕ
link_to_come l = flat_map (λ p. p) (link_pieces l)

-- As many bytes of the first piece are given as there is room for, and none of another piece.
abbrev pub GivesOfOne : ℕ → ℕ → List (List ℕ) → List (List ℕ) → Type 0
GivesOfOne room n [] left = (n ≡ 0) × (left ≡ [])
GivesOfOne room n (p ∷ ps) left = (n ≡ min (length p) room) × (left ≡ put_piece (drop n p) ps)

-- the connection that it stands for
abbrev pub connection_of : Link → Connection
connection_of l = record { sent = l.sent.items; given = l.given.items; to_come = link_to_come l }
