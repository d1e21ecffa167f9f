-- The law of a list that is read until no byte is left: the items spell all that was left.
use Rattle.std.proofs.Common.{◌≡◌, ℕ, zero, suc, ◌≤◌, List, [], ◌∷◌, ◌++◌, length, Ok, refl, sym, ap, ◌∙◌, append_assoc, arith, inl, inr}
use Rattle.std.proofs.lemmas.Bool.{cases_eq}
use Rattle.std.proofs.lemmas.List.{append-nil, nil_from_length}
use Rattle.nr_base.specs.Place.{Place}
use Rattle.nr_base.specs.Reader.{Reader, after, onto, until, to_end}
use Rattle.nr_base.specs.Grammar.{IsBytes, Each}
use Rattle.nr_base.proofs.Laws.{Reads, place, bind_ok, ok_is, onto_law}
use Rattle.nr_base.proofs.Lists.{leaf, made}
use Rattle.nr_base.proofs.Takes.{TakesAll, onto_takes}
use Rattle.nr_base.proofs.Ends.{at_end, one}

-- the items that were read behind xs, up to the end of the text
pub record ReadAll {A : Type 0} (G : A → List ℕ → Type 0) (xs ys : List A) (p q : Place) : Type 0 where
  pub items : List A
  pub joined : ys ≡ xs ++ items
  pub each : Each G items p.rest
  pub end : q.rest ≡ []

behind : {A : Type 0} (xs before ys items : List A) (x : A) → ys ≡ before ++ items → before ≡ xs ++ x ∷ [] → ys ≡ xs ++ (x ∷ items)
behind xs before ys items x e f = e ∙ ap (λ z. z ++ items) f ∙ append_assoc xs (x ∷ []) items

ended : {A F : Type 0} (r : Reader F A) (G : A → List ℕ → Type 0) (k : ℕ) (xs ys : List A) (p q : Place) → length p.rest ≡ 0 → until (onto r) k xs p ≡ Ok (ys, q) → ReadAll G xs ys p q
ended r G k xs ys p q e h =
    let is = ok_is _ _ (sym (at_end (onto r) k xs p e) ∙ h) in
    let nothing = nil_from_length p.rest e in
    record {
      items = [];
      joined = sym (ap (λ (a : _ × Place). a.0) is) ∙ sym (append-nil xs);
      each = nothing;
      end = ap (λ (a : _ × Place). a.1.rest) (sym is) ∙ nothing;
    }

found : {A F : Type 0} {r : Reader F A} {G : A → List ℕ → Type 0} → Reads r G → TakesAll 1 r → (k : ℕ) (xs ys : List A) (p q : Place) → length p.rest ≤ k → IsBytes p.rest → until (onto r) k xs p ≡ Ok (ys, q) → ReadAll G xs ys p q
found {r = r} {G = G} rs takes zero xs ys p q le fits h = ended r G zero xs ys p q (omega arith) h
found {r = r} {G = G} rs takes (suc k) xs ys p q le fits h =
    elim (cases_eq (length p.rest) 0) [
      | inl e ↦ ended r G (suc k) xs ys p q e h
      | inr ne ↦
          let step = bind_ok (onto r xs p) (λ t. until (onto r) k t) (ys, q) (sym (one (onto r) k xs p ne) ∙ h) in
          let took = (onto_law rs xs).found p step.0.1 step.0.0 fits step.1 in
          let x = leaf took.spelled in
          let less = (onto_takes 1 takes xs).takes p step.0.1 step.0.0 step.1 in
          let more = found rs takes k step.0.0 ys step.0.1 q (omega (arith, less)) took.fits step.2 in
          record {
            items = x.0 ∷ more.items;
            joined = behind xs step.0.0 ys more.items x.0 more.joined x.1;
            each = (took.text, step.0.1.rest, x.2, more.each, took.rest);
            end = more.end;
          }
    ]

only : {A F : Type 0} {r : Reader F A} {G : A → List ℕ → Type 0} → Reads r G → TakesAll 1 r → (k total : ℕ) (xs items : List A) (text : List ℕ) → length text ≤ k → Each G items text → until (onto r) k xs (place total text) ≡ Ok (xs ++ items, place total [])
only {r = r} rs takes k total xs [] text le e =
    at_end (onto r) k xs (place total text) (ap length e) ∙ rw (e, append-nil xs) refl
only {r = r} rs takes zero total xs (x ∷ items) text le e =
    let step = (onto_law rs xs).only (xs ++ x ∷ []) e.0 e.1 total (made x e.0 e.2) in
    let less = (onto_takes 1 takes xs).takes (place total (e.0 ++ e.1)) (place total e.1) (xs ++ x ∷ []) step in
    absurd (omega (arith, less, ap length e.4))
only {r = r} rs takes (suc k) total xs (x ∷ items) text le e =
    let step = (onto_law rs xs).only (xs ++ x ∷ []) e.0 e.1 total (made x e.0 e.2) in
    let less = (onto_takes 1 takes xs).takes (place total (e.0 ++ e.1)) (place total e.1) (xs ++ x ∷ []) step in
    let size : length text ≡ length (e.0 ++ e.1) = ap length e.4 in
    let here : onto r xs (place total text) ≡ Ok (xs ++ x ∷ [], place total e.1) = ap (λ (z : List ℕ). onto r xs (place total z)) e.4 ∙ step in
    let more = only rs takes k total (xs ++ x ∷ []) items e.1 (omega (arith, less, size)) e.3 in
    one (onto r) k xs (place total text) (λ z. omega (arith, less, size)) ∙ (ap (λ z. after z (λ t. until (onto r) k t)) here ∙ more ∙ ap (λ z. Ok (z, place total [])) (append_assoc xs (x ∷ []) items))

-- what is read to the end of the text is spelled by it
pub to_end_found : {A F : Type 0} {r : Reader F A} {G : A → List ℕ → Type 0} → Reads r G → TakesAll 1 r → (xs ys : List A) (p q : Place) → IsBytes p.rest → to_end (onto r) xs p ≡ Ok (ys, q) → ReadAll G xs ys p q
unfolding to_end
to_end_found rs takes xs ys p q fits h = found rs takes (length p.rest) xs ys p q (omega arith) fits h

-- items that the text spells are read, up to its end
pub to_end_only : {A F : Type 0} {r : Reader F A} {G : A → List ℕ → Type 0} → Reads r G → TakesAll 1 r → (total : ℕ) (xs items : List A) (text : List ℕ) → Each G items text → to_end (onto r) xs (place total text) ≡ Ok (xs ++ items, place total [])
unfolding to_end
to_end_only rs takes total xs items text e = only rs takes (length text) total xs items text (omega arith) e
