-- A work list, the first on top: what is left of a walk, and of the search for the first that is refused.
use Rattle.std.proofs.Common.{◌≡◌, ℕ, Bool, true, false, List, [], ◌∷◌, ◌++◌, reverse, sym, ap, subst, ◌∙◌}
use Rattle.std.proofs.lemmas.List.{reverse-append, reverse-reverse}
use Rattle.nr_graph.specs.Walks.{is_met, Walk, over, again, MeetsRefused, here, onward}
use Rattle.nr_graph.proofs.Walks.{open_first}

-- Who goes on from here goes on as from the roots: the walk is theirs, and so is the first that is refused.
pub record IsLeft (next : ℕ → List ℕ) (refused : ℕ → Bool) (roots stack seen : List ℕ) : Type 0 where
  pub walk : (out : List ℕ) → Walk next (reverse stack) seen out → Walk next roots [] out
  pub refusal : (x : ℕ) → MeetsRefused next refused (reverse stack) seen x → MeetsRefused next refused roots [] x

module _ (next : ℕ → List ℕ) (refused : ℕ → Bool) (roots : List ℕ) where
  turned : (s t : List ℕ) (x : ℕ) → s ≡ t ++ x ∷ [] → reverse s ≡ x ∷ reverse t
  turned s t x e = ap reverse e ∙ reverse-append t (x ∷ [])

  pub left_at_start : (s t : List ℕ) → s ≡ [] → t ≡ s ++ reverse roots → IsLeft next refused roots t []
  left_at_start s t e f =
      let is : reverse t ≡ roots = ap reverse (f ∙ ap (λ x. x ++ reverse roots) e) ∙ reverse-reverse roots in
      record {
        walk = λ out w. subst (λ x. Walk next x [] out) is w;
        refusal = λ x m. subst (λ xs. MeetsRefused next refused xs [] x) is m;
      }

  -- one that was met before
  pub left_again : (s t seen : List ℕ) (x : ℕ) → IsLeft next refused roots s seen → s ≡ t ++ x ∷ [] → is_met seen x ≡ true → IsLeft next refused roots t seen
  left_again s t seen x l e m =
      let is = turned s t x e in
      record {
        walk = λ out w. l.walk out (subst (λ xs. Walk next xs seen out) (sym is) (again m w));
        refusal = λ y r. l.refusal y (subst (λ xs. MeetsRefused next refused xs seen y) (sym is) (again m r));
      }

  -- one that is new, with what it leads to
  pub left_first : (s t u seen : List ℕ) (x : ℕ) → IsLeft next refused roots s seen → s ≡ t ++ x ∷ [] → is_met seen x ≡ false → refused x ≡ false
      → u ≡ t ++ reverse (next x) → IsLeft next refused roots u (seen ++ x ∷ [])
  left_first s t u seen x l e m r f =
      let is = turned s t x e in
      let now : reverse u ≡ next x ++ reverse t = ap reverse f ∙ reverse-append t (reverse (next x)) ∙ ap (λ xs. xs ++ reverse t) (reverse-reverse (next x)) in
      record {
        walk = λ out w. l.walk out (subst (λ xs. Walk next xs seen out) (sym is) (open_first next x (reverse t) seen out m (subst (λ xs. Walk next xs (seen ++ x ∷ []) out) now w)));
        refusal = λ y q. l.refusal y (subst (λ xs. MeetsRefused next refused xs seen y) (sym is) (onward m r (subst (λ xs. MeetsRefused next refused xs (seen ++ x ∷ []) y) now q)));
      }

  -- one that is new and refused
  pub left_refused : (s t seen : List ℕ) (x : ℕ) → IsLeft next refused roots s seen → s ≡ t ++ x ∷ [] → is_met seen x ≡ false → refused x ≡ true → MeetsRefused next refused roots [] x
  left_refused s t seen x l e m r = l.refusal x (subst (λ xs. MeetsRefused next refused xs seen x) (sym (turned s t x e)) (here m r))

  pub left_at_end : (s seen : List ℕ) → IsLeft next refused roots s seen → s ≡ [] → Walk next roots [] seen
  left_at_end s seen l e = l.walk seen (subst (λ xs. Walk next (reverse xs) seen seen) (sym e) over)
