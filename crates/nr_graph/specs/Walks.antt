-- The order of first visit, depth first (the project's own).
use Rattle.std.specs.Prelude.{◌≡◌, ℕ, Bool, true, false, List, [], ◌∷◌, ◌++◌, nat_eq}
use Rattle.std.specs.List.{list_any}

abbrev pub is_met : List ℕ → ℕ → Bool
is_met seen x = list_any (nat_eq x) seen

-- Who walks these in order, and has met those of `seen` before, has met those of `out` in all, in the order in which each
-- was first met. `next` gives what each leads to, in order.
pub data Walk (next : ℕ → List ℕ) : List ℕ → List ℕ → List ℕ → Type 0 where
  over : {seen : List ℕ} → Walk next [] seen seen
  again : {x : ℕ} {xs seen out : List ℕ} → is_met seen x ≡ true → Walk next xs seen out → Walk next (x ∷ xs) seen out
  -- one that is new comes next, then all that it leads to, then the others
  first : {x : ℕ} {xs seen mid out : List ℕ} → is_met seen x ≡ false → Walk next (next x) (seen ++ x ∷ []) mid
      → Walk next xs mid out → Walk next (x ∷ xs) seen out

-- Who walks these, and has met those of `seen` before, meets x as the first that is refused.
pub data MeetsRefused (next : ℕ → List ℕ) (refused : ℕ → Bool) : List ℕ → List ℕ → ℕ → Type 0 where
  here : {x : ℕ} {xs seen : List ℕ} → is_met seen x ≡ false → refused x ≡ true → MeetsRefused next refused (x ∷ xs) seen x
  again : {x y : ℕ} {ys seen : List ℕ} → is_met seen y ≡ true → MeetsRefused next refused ys seen x → MeetsRefused next refused (y ∷ ys) seen x
  -- one that isn't refused, then what it leads to and the others
  onward : {x y : ℕ} {ys seen : List ℕ} → is_met seen y ≡ false → refused y ≡ false
      → MeetsRefused next refused (next y ++ ys) (seen ++ y ∷ []) x → MeetsRefused next refused (y ∷ ys) seen x
