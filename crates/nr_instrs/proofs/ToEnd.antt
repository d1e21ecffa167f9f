-- The law of a list that is read to the end of a text, where an item's text depends on its offset.
use Rattle.std.proofs.Common.{◌≡◌, ℕ, zero, suc, ◌+◌, ◌-◌, ◌≤◌, List, [], ◌∷◌, ◌++◌, length, Ok, refl, sym, ap, subst, ◌∙◌, append_assoc, arith, inl, inr}
use Rattle.std.proofs.lemmas.Bool.{cases_eq}
use Rattle.std.proofs.lemmas.List.{append-nil, nil_from_length, length-append}
use Rattle.nr_base.specs.Place.{Place, at_of}
use Rattle.nr_base.specs.Reader.{Reader, after, bind, from, onto, until, to_end}
use Rattle.nr_base.specs.Grammar.{IsBytes}
use Rattle.nr_base.proofs.Laws.{Reads, place, bind_ok, ok_is, onto_law}
use Rattle.nr_base.proofs.Lists.{leaf, made}
use Rattle.nr_base.proofs.Takes.{TakesAll, onto_takes}
use Rattle.nr_base.proofs.Ends.{at_end, one}

-- the texts of the items, the first at the offset
abbrev pub EachAt : {A : Type 0} → (ℕ → A → List ℕ → Type 0) → ℕ → List A → List ℕ → Type 0
EachAt G at [] text = text ≡ []
EachAt G at (x ∷ xs) text = (front back : List ℕ) × G at x front × EachAt G (at + length front) xs back × (text ≡ front ++ back)

-- each item by the law of its offset
pub record ReadsAt {A F : Type 0} (f : ℕ → Reader F A) (G : ℕ → A → List ℕ → Type 0) : Type 0 where
  pub each : (at : ℕ) → Reads (f at) (G at)
  pub takes : TakesAll 1 (from f)

pub record ReadAllAt {A : Type 0} (G : ℕ → A → List ℕ → Type 0) (xs ys : List A) (p q : Place) : Type 0 where
  pub items : List A
  pub joined : ys ≡ xs ++ items
  pub each : EachAt G (at_of p) items p.rest
  pub end : q.rest ≡ []

here : {A F : Type 0} (f : ℕ → Reader F A) (xs : List A) (p : Place) → onto (from f) xs p ≡ onto (f (at_of p)) xs p
unfolding onto bind from
here f xs p = refl

ended : {A F : Type 0} (f : ℕ → Reader F A) (G : ℕ → A → List ℕ → Type 0) (k : ℕ) (xs ys : List A) (p q : Place) → length p.rest ≡ 0 → until (onto (from f)) k xs p ≡ Ok (ys, q) → ReadAllAt G xs ys p q
ended f G k xs ys p q e h =
    let is = ok_is _ _ (sym (at_end (onto (from f)) k xs p e) ∙ h) in
    let nothing = nil_from_length p.rest e in
    record {
      items = [];
      joined = sym (ap (λ (a : _ × Place). a.0) is) ∙ sym (append-nil xs);
      each = nothing;
      end = ap (λ (a : _ × Place). a.1.rest) (sym is) ∙ nothing;
    }

-- the offset behind an item
moved : (p q : Place) (text : List ℕ) → length p.rest ≤ p.total → p.total ≡ q.total → p.rest ≡ text ++ q.rest → at_of q ≡ at_of p + length text
moved p q text within total rest = omega (arith, total, ap length rest, length-append text q.rest)

found : {A F : Type 0} {f : ℕ → Reader F A} {G : ℕ → A → List ℕ → Type 0} → ReadsAt f G → (k : ℕ) (xs ys : List A) (p q : Place) → length p.rest ≤ k → length p.rest ≤ p.total → IsBytes p.rest → until (onto (from f)) k xs p ≡ Ok (ys, q) → ReadAllAt G xs ys p q
found {f = f} {G = G} rs zero xs ys p q le within fits h = ended f G zero xs ys p q (omega arith) h
found {f = f} {G = G} rs (suc k) xs ys p q le within fits h =
    elim (cases_eq (length p.rest) 0) [
      | inl e ↦ ended f G (suc k) xs ys p q e h
      | inr ne ↦
          let step = bind_ok (onto (from f) xs p) (λ t. until (onto (from f)) k t) (ys, q) (sym (one (onto (from f)) k xs p ne) ∙ h) in
          let took = (onto_law (rs.each (at_of p)) xs).found p step.0.1 step.0.0 fits (sym (here f xs p) ∙ step.1) in
          let x = leaf took.spelled in
          let less = (onto_takes 1 rs.takes xs).takes p step.0.1 step.0.0 step.1 in
          let behind = moved p step.0.1 took.text within took.total took.rest in
          let more = found rs k step.0.0 ys step.0.1 q (omega (arith, less)) (omega (arith, less, took.total)) took.fits step.2 in
          record {
            items = x.0 ∷ more.items;
            joined = more.joined ∙ ap (λ z. z ++ more.items) x.1 ∙ append_assoc xs (x.0 ∷ []) more.items;
            each = (took.text, step.0.1.rest, x.2, subst (λ at. EachAt G at more.items step.0.1.rest) behind more.each, took.rest);
            end = more.end;
          }
    ]

only : {A F : Type 0} {f : ℕ → Reader F A} {G : ℕ → A → List ℕ → Type 0} → ReadsAt f G → (k total at : ℕ) (xs items : List A) (text : List ℕ) → length text ≤ k → at + length text ≡ total → EachAt G at items text
    → until (onto (from f)) k xs (place total text) ≡ Ok (xs ++ items, place total [])
only {f = f} rs k total at xs [] text le sum e = at_end (onto (from f)) k xs (place total text) (ap length e) ∙ rw (e, append-nil xs) refl
only {f = f} {G = G} rs zero total at xs (x ∷ items) text le sum e =
    let size : length text ≡ length (e.0 ++ e.1) = ap length e.4 in
    let spot : at_of (place total (e.0 ++ e.1)) ≡ at = omega (arith, size) in
    let step = here f xs (place total (e.0 ++ e.1)) ∙ ap (λ a. onto (f a) xs (place total (e.0 ++ e.1))) spot ∙ (onto_law (rs.each at) xs).only (xs ++ x ∷ []) e.0 e.1 total (made x e.0 e.2) in
    let less = (onto_takes 1 rs.takes xs).takes (place total (e.0 ++ e.1)) (place total e.1) (xs ++ x ∷ []) step in
    absurd (omega (arith, less, size))
only {f = f} {G = G} rs (suc k) total at xs (x ∷ items) text le sum e =
    let size : length text ≡ length (e.0 ++ e.1) = ap length e.4 in
    let parts : length (e.0 ++ e.1) ≡ length e.0 + length e.1 = length-append e.0 e.1 in
    let spot : at_of (place total (e.0 ++ e.1)) ≡ at = omega (arith, size) in
    let step = here f xs (place total (e.0 ++ e.1)) ∙ ap (λ a. onto (f a) xs (place total (e.0 ++ e.1))) spot ∙ (onto_law (rs.each at) xs).only (xs ++ x ∷ []) e.0 e.1 total (made x e.0 e.2) in
    let less = (onto_takes 1 rs.takes xs).takes (place total (e.0 ++ e.1)) (place total e.1) (xs ++ x ∷ []) step in
    let read : onto (from f) xs (place total text) ≡ Ok (xs ++ x ∷ [], place total e.1) = ap (λ (z : List ℕ). onto (from f) xs (place total z)) e.4 ∙ step in
    let more = only rs k total (at + length e.0) (xs ++ x ∷ []) items e.1 (omega (arith, less, size)) (omega (arith, size, parts, sum)) e.3 in
    one (onto (from f)) k xs (place total text) (λ z. omega (arith, less, size)) ∙ (ap (λ z. after z (λ t. until (onto (from f)) k t)) read ∙ more ∙ ap (λ z. Ok (z, place total [])) (append_assoc xs (x ∷ []) items))

pub to_end_found : {A F : Type 0} {f : ℕ → Reader F A} {G : ℕ → A → List ℕ → Type 0} → ReadsAt f G → (ys : List A) (bytes : List ℕ) (q : Place) → IsBytes bytes → to_end (onto (from f)) [] (place (length bytes) bytes) ≡ Ok (ys, q) → EachAt G 0 ys bytes
unfolding to_end
to_end_found {G = G} rs ys bytes q fits h =
    let a = found rs (length bytes) [] ys (place (length bytes) bytes) q (omega arith) (omega arith) fits h in
    let zero_at : length bytes - length bytes ≡ 0 = omega arith in
    subst (λ xs. EachAt G 0 xs bytes) (sym a.joined) (subst (λ at. EachAt G at a.items bytes) zero_at a.each)

pub to_end_only : {A F : Type 0} {f : ℕ → Reader F A} {G : ℕ → A → List ℕ → Type 0} → ReadsAt f G → (items : List A) (bytes : List ℕ) → EachAt G 0 items bytes → to_end (onto (from f)) [] (place (length bytes) bytes) ≡ Ok (items, place (length bytes) [])
unfolding to_end
to_end_only rs items bytes e = only rs (length bytes) (length bytes) 0 [] items bytes (omega arith) (omega arith) e
