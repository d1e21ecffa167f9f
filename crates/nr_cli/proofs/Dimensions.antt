-- One more bracket of an array's descriptor.
use Rattle.std.proofs.Common.{◌≡◌, ℕ, ◌+◌, List, [], ◌∷◌, ◌++◌, replicate, sym, ap, ◌∙◌, append_assoc}
use Rattle.std.proofs.lemmas.List.{append-nil, replicate-append-replicate}

pub none_yet : (text : List ℕ) → text ≡ text ++ replicate 0 91
none_yet text = sym (append-nil text)

pub one_more : (old text new : List ℕ) (n : ℕ) → text ≡ old ++ replicate n 91 → new ≡ text ++ 91 ∷ [] → new ≡ old ++ replicate (n + 1) 91
one_more old text new n was is =
    is ∙ ap (λ z. z ++ 91 ∷ []) was ∙ append_assoc old (replicate n 91) (91 ∷ [])
    ∙ ap (λ z. old ++ z) (replicate-append-replicate n 1 91)
