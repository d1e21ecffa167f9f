-- Which names are legal. JVM Specification 4.2.1 and 4.2.2.
use Rattle.std.specs.Prelude.{◌≡◌, ℕ, List, [], ◌∷◌, length, Bool, true, false, not, ◌&&◌, ◌||◌, ◌==◌, nat_lt, if◌then◌else◌, IsTrue, codes}
use Rattle.std.specs.Str.{bytes_eq}
use Rattle.std.specs.List.{AllByRecursion, list_any, list_all, join_with_byte}

-- a byte that no part of a name has
abbrev pub is_reserved : ℕ → Bool
is_reserved b = list_any (λ c. c == b) (codes ".;[/")

-- an unqualified name, as of a field: not empty, with no reserved byte
abbrev pub is_unqualified : List ℕ → Bool
is_unqualified name = nat_lt 0 (length name) && list_all (λ b. not (is_reserved b)) name

abbrev pub is_angle : ℕ → Bool
is_angle b = list_any (λ c. c == b) (codes "<>")

-- the name of a method: unqualified, and without angle brackets but for the two special ones
abbrev pub is_method_name : List ℕ → Bool
is_method_name name =
    is_unqualified name
    && (bytes_eq name (codes "<init>") || (bytes_eq name (codes "<clinit>")
    || list_all (λ b. not (is_angle b)) name))

-- the name of a class in internal form: unqualified names with `/` between
pub record IsClassName (name : List ℕ) : Type 0 where
  pub first : List ℕ
  pub others : List (List ℕ)
  pub each : AllByRecursion (λ part. IsTrue (is_unqualified part)) (first ∷ others)
  pub joined : name ≡ join_with_byte 0x2F (first ∷ others)

-- The same as a test: whether a class name can go on so, where a part of it has begun or not.
abbrev pub class_from : Bool → List ℕ → Bool
class_from begun [] = begun
class_from begun (b ∷ bytes) =
    if b == 0x2F then begun && class_from false bytes
    else (not (is_reserved b) && class_from true bytes)
