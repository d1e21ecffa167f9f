-- Paths in byte order.
use Rattle.std.specs.Prelude.{ℕ, List, [], ◌∷◌, cond}
use Rattle.std.specs.Cmp.Lexicographic.{slice_cmp}
use Rattle.std.specs.Ordering.{nat_cmp, is_lt}

-- puts a path before the first one that it isn't above
abbrev pub put_path : List ℕ → List (List ℕ) → List (List ℕ)
put_path x [] = x ∷ []
put_path x (y ∷ ys) = cond (is_lt (slice_cmp nat_cmp y x)) (y ∷ put_path x ys) (x ∷ y ∷ ys)

-- the same paths, each at most the next byte by byte
abbrev pub in_byte_order : List (List ℕ) → List (List ℕ)
in_byte_order [] = []
in_byte_order (x ∷ xs) = put_path x (in_byte_order xs)
