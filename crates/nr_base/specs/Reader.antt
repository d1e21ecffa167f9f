-- Reading as a function on places, and how readers are made of smaller ones. The project's own rule.
use Rattle.std.specs.Prelude.{ℕ, zero, suc, List, [], ◌∷◌, ◌++◌, length, take, Bool, true, false, Result, Ok, Err, ◌+◌, ◌-◌, ◌==◌, if◌then◌else◌, ◌≡◌, ◌<◌}
use Rattle.nr_base.specs.Place.{Place, at_of}

-- What reading at a place gives: a value and the place behind it, or a fault.
abbrev pub Reader : Type 0 → Type 0 → Type 0
Reader F A = Place → Result (A × Place) F

abbrev pub after : {A B F : Type 0} → Result (A × Place) F → (A → Reader F B) → Result (B × Place) F
after (Ok x) f = f x.0 x.1
after (Err e) f = Err e

-- one reader, and then the one that is chosen by the value of the first
unfoldable pub bind : {A B F : Type 0} → Reader F A → (A → Reader F B) → Reader F B
bind r f p = after (r p) f

infixr 5 ◌>>=◌
abbrev pub ◌>>=◌ : {A B F : Type 0} → Reader F A → (A → Reader F B) → Reader F B
r >>= f = bind r f

-- a value for no byte
unfoldable pub pure : {A F : Type 0} → A → Reader F A
pure x p = Ok (x, p)

-- a fault
unfoldable pub refuse : {A F : Type 0} → F → Reader F A
refuse e p = Err e

-- one of two readers, by a test
unfoldable pub choose : {A F : Type 0} → Bool → Reader F A → Reader F A → Reader F A
choose true r s p = r p
choose false r s p = s p

-- a reader that is told the offset where it begins
unfoldable pub from : {A F : Type 0} → (ℕ → Reader F A) → Reader F A
from f p = f (at_of p) p

abbrev pub map_fault : {A E F : Type 0} → (E → F) → Result A E → Result A F
map_fault f (Ok x) = Ok x
map_fault f (Err e) = Err (f e)

-- a reader whose fault is told as another
unfoldable pub with_fault : {A E F : Type 0} → (E → F) → Reader E A → Reader F A
with_fault f r p = map_fault f (r p)

-- a step that goes from state to state, so many times
unfoldable pub times : {S F : Type 0} → (S → Reader F S) → ℕ → S → Reader F S
times step zero s = pure s
times step (suc k) s = bind (step s) (λ t. times step k t)

-- a reader as a step that puts its value at the end of a list
unfoldable pub onto : {A F : Type 0} → Reader F A → List A → Reader F (List A)
onto r xs = bind r (λ x. pure (xs ++ x ∷ []))

abbrev pub checked_size : {A F : Type 0} → ℕ → F → ℕ → Result (A × Place) F → Result (A × Place) F
checked_size len e before (Ok x) = if before == length x.1.rest + len then Ok x else Err e
checked_size len e before (Err f) = Err f

-- A reader that has to use up exactly so many bytes; where it uses fewer or more, the fault is e.
unfoldable pub sized : {A F : Type 0} → ℕ → F → Reader F A → Reader F A
sized len e r p = checked_size len e (length p.rest) (r p)

-- a step until no byte is left, or so many times
unfoldable pub until : {S F : Type 0} → (S → Reader F S) → ℕ → S → Reader F S
until step zero s p = Ok (s, p)
until step (suc k) s p =
    if length p.rest == 0 then Ok (s, p) else after (step s p) (λ t. until step k t)

-- a step until no byte is left
unfoldable pub to_end : {S F : Type 0} → (S → Reader F S) → S → Reader F S
to_end step s p = until step (length p.rest) s p

-- a step that says whether another one follows: at most k more follow the first
unfoldable pub repeat : {S F : Type 0} → (S → Reader F (Bool × S)) → ℕ → S → Reader F S
repeat step zero s = bind (step s) (λ x. pure x.1)
repeat step (suc k) s = bind (step s) (λ x. choose x.0 (repeat step k x.1) (pure x.1))

-- A step until it says that none follows. One that uses up a byte or more can't follow more often
-- than there are bytes.
unfoldable pub while_more : {S F : Type 0} → (S → Reader F (Bool × S)) → S → Reader F S
while_more step s p = repeat step (length p.rest) s p

abbrev pub span_from : {A F : Type 0} → List ℕ → Result (A × Place) F → Result (List ℕ × Place) F
span_from before (Ok x) = Ok (take (length before - length x.1.rest) before, x.1)
span_from before (Err e) = Err e

-- the bytes that a reader uses up, in place of its value
unfoldable pub spanned : {A F : Type 0} → Reader F A → Reader F (List ℕ)
spanned r p = span_from p.rest (r p)

-- each time the step reads, it uses up a byte or more
abbrev pub Advances : {S F : Type 0} → (S → Reader F S) → Type 0
Advances {S = S} step =
    (s t : S) (p q : Place) → step s p ≡ Ok (t, q) → length q.rest < length p.rest

abbrev pub ended : {A F : Type 0} → (ℕ → F) → Result (A × Place) F → Result A F
ended trailing (Ok x) = if length x.1.rest == 0 then Ok x.0 else Err (trailing (at_of x.1))
ended trailing (Err e) = Err e

-- A whole text as one value. Where bytes follow the value, the fault is told their offset.
unfoldable pub whole : {A F : Type 0} → (ℕ → F) → Reader F A → List ℕ → Result A F
whole trailing r bytes = ended trailing (r (record { total = length bytes; rest = bytes }))
