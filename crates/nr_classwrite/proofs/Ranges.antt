-- One item more of which something holds.
use Rattle.std.proofs.Common.{◌≡◌, ℕ, zero, suc, ◌+◌, ◌<◌, List, [], ◌∷◌, length, get_or, refl, subst, ◌∙◌, arith, below_more}

same_item : {A : Type 0} (xs : List A) (k : ℕ) (d e : A) → k < length xs → get_or xs k d ≡ get_or xs k e
same_item [] k d e lt = absurd (omega arith)
same_item (x ∷ xs) zero d e lt = refl
same_item (x ∷ xs) (suc k) d e lt = same_item xs k d e (omega arith)

pub one_more : {A : Type 0} (P : A → Type 0) (xs : List A) (i : ℕ) (e : A) → i < length xs → e ≡ get_or xs i e → P e → ((k : ℕ) (d : A) → k < i → P (get_or xs k d)) → (k : ℕ) (d : A) → k < i + 1 → P (get_or xs k d)
one_more {A = A} P xs i e lt same r below k d le =
    below_more (λ j. (d : A) → P (get_or xs j d)) i (λ j h d. below j d h) (λ d. subst P (same ∙ same_item xs i e d lt) r) k le d
