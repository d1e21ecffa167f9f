-- Names put into a set, one after the other.
use Rattle.std.proofs.Common.{◌≡◌, ℕ, zero, suc, ◌+◌, ◌<◌, Bool, not, List, [], ◌∷◌, ◌++◌, length, get_or, take, refl, sym, ap, ◌∙◌, arith}
use Rattle.std.specs.Prelude.{IsTrue}
use Rattle.std.specs.List.{list_any}
use Rattle.std.specs.Str.{bytes_eq}
use Rattle.nr_link.specs.Seen.{AreApart}

pub more : {X : Type 0} (xs : List X) (i : ℕ) (d : X) → i < length xs → take (i + 1) xs ≡ take i xs ++ get_or xs i d ∷ []
more [] i d lt = absurd (omega (arith, lt))
more (x ∷ xs) zero d lt = refl
more (x ∷ xs) (suc i) d lt =
    let e : suc i + 1 ≡ suc (i + 1) = omega arith in
    ap (λ n. take n (x ∷ xs)) e ∙ ap (λ ys. x ∷ ys) (more xs i d (omega (arith, lt)))

pub adds : (all : List (List ℕ)) (i : ℕ) (name : List ℕ) (before after : List (List ℕ)) (new : Bool) → AreApart all → i < length all → name ≡ get_or all i name
    → before ≡ take i all → new ≡ not (list_any (bytes_eq name) before) → (IsTrue new → after ≡ before ++ name ∷ []) → after ≡ take (i + 1) all
adds all i name before after new apart lt here so_far is_new kept =
    kept (is_new ∙ ap not (ap (list_any (bytes_eq name)) so_far ∙ ap (λ n. list_any (bytes_eq n) (take i all)) here ∙ apart i name lt))
    ∙ ap (λ ys. ys ++ name ∷ []) so_far ∙ ap (λ n. take i all ++ n ∷ []) here ∙ sym (more all i name lt)
