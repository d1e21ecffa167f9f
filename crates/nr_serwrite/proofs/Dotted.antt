-- Texts with dots, and the brackets of arrays.
use Rattle.std.proofs.Common.{◌≡◌, ℕ, zero, suc, ◌+◌, ◌≤◌, List, [], ◌∷◌, ◌++◌, length, map, replicate, take, refl, sym, ap, ◌∙◌, arith}
use Rattle.std.specs.Int.{w16, to_be_bytes}
use Rattle.std.proofs.lemmas.List.{take_all}
use Rattle.nr_serform.specs.ClassNumbers.{dotted, utf, with_dot}

pub dotted_long : (text : List ℕ) → length (dotted text) ≡ length text
dotted_long [] = refl
dotted_long (b ∷ bs) = ap suc (dotted_long bs)

pub whole_dotted : (out old text : List ℕ) (i : ℕ) → out ≡ old ++ (to_be_bytes w16 (length text) ++ map with_dot (take i text)) → length text ≤ i → out ≡ old ++ utf (dotted text)
whole_dotted out old text i e l =
    e ∙ ap (λ t. old ++ (to_be_bytes w16 (length text) ++ map with_dot t)) (take_all i text l)
    ∙ ap (λ n. old ++ (to_be_bytes w16 n ++ dotted text)) (sym (dotted_long text))

pub one_bracket_more : (n : ℕ) (b : ℕ) → replicate n b ++ b ∷ [] ≡ replicate (n + 1) b
one_bracket_more zero b = refl
one_bracket_more (suc n) b = let e : suc (n + 1) ≡ suc n + 1 = omega arith in ap (λ t. b ∷ t) (one_bracket_more n b) ∙ ap (λ k. replicate k b) e
