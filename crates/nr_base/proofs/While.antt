-- A step that says whether another one follows: the loop, and its law.
use Rattle.std.proofs.Common.{◌≡◌, ℕ, zero, suc, ◌≤◌, Bool, true, false, List, ◌++◌, length, Result, Ok, Err, refl, sym, ap, subst, ◌∙◌, append_assoc, arith}
use Rattle.nr_base.specs.Place.{Place}
use Rattle.nr_base.specs.Reader.{Reader, after, bind, pure, choose, repeat, while_more}
use Rattle.nr_base.specs.Clauses.{Fails}
use Rattle.nr_base.specs.Grammar.{IsBytes, Repeat, While}
use Rattle.nr_base.proofs.Exits.{fails_on}
use Rattle.nr_base.proofs.Laws.{Reads, Took, place, bind_ok, ok_is}
use Rattle.nr_base.proofs.Takes.{TakesAll}

abbrev Step : Type 0 → Type 0 → Type 0
Step S F = S → Reader F (Bool × S)

abbrev pub TakesOne : {S F : Type 0} → (S → Reader F (Bool × S)) → Type 0
TakesOne {S = S} step = (s : S) → TakesAll 1 (step s)

-- what follows a step that was made
next : {S F : Type 0} → Step S F → ℕ → Bool × S → Reader F S
next step zero x p = Ok (x.1, p)
next step (suc k) x p = choose x.0 (repeat step k x.1) (pure x.1) p

one : {S F : Type 0} (step : Step S F) (k : ℕ) (s : S) (p : Place) → repeat step k s p ≡ after (step s p) (next step k)
unfolding repeat bind pure next
one step zero s p = refl
one step (suc k) s p = refl

ends_here : {S F : Type 0} (step : Step S F) (k : ℕ) (t : S) (q : Place) → next step k (false, t) q ≡ Ok (t, q)
unfolding choose pure next
ends_here step zero t q = refl
ends_here step (suc k) t q = refl

goes_here : {S F : Type 0} (step : Step S F) (k : ℕ) (t : S) (q : Place) → next step (suc k) (true, t) q ≡ repeat step k t q
unfolding choose next
goes_here step k t q = refl

same_after : {A B F : Type 0} (r : Result (A × Place) F) (f g : A → Reader F B) → ((x : A × Place) → r ≡ Ok x → f x.0 x.1 ≡ g x.0 x.1) → after r f ≡ after r g
same_after (Ok x) f g h = h x refl
same_after (Err d) f g h = refl

same_next : {S F : Type 0} (step : Step S F) (k j : ℕ) (b : Bool) (t : S) (q : Place) → repeat step k t q ≡ repeat step j t q → next step (suc k) (b, t) q ≡ next step (suc j) (b, t) q
same_next step k j true t q h = goes_here step k t q ∙ h ∙ sym (goes_here step j t q)
same_next step k j false t q h = ends_here step (suc k) t q ∙ sym (ends_here step (suc j) t q)

-- more turns than there are bytes change nothing
enough : {S F : Type 0} (step : Step S F) → TakesOne step → (k j : ℕ) (s : S) (p : Place) → length p.rest ≤ k → length p.rest ≤ j → repeat step k s p ≡ repeat step j s p
enough step takes zero j s p lk lj = one step zero s p ∙ same_after (step s p) (next step zero) (next step j) (λ x e. absurd (omega (arith, (takes s).takes p x.1 x.0 e))) ∙ sym (one step j s p)
enough step takes (suc k) zero s p lk lj = one step (suc k) s p ∙ same_after (step s p) (next step (suc k)) (next step zero) (λ x e. absurd (omega (arith, (takes s).takes p x.1 x.0 e))) ∙ sym (one step zero s p)
enough step takes (suc k) (suc j) s p lk lj =
    one step (suc k) s p ∙ same_after (step s p) (next step (suc k)) (next step (suc j)) (λ x e.
    let less = (takes s).takes p x.1 x.0 e in
    same_next step k j x.0.0 x.0.1 x.1 (enough step takes k j x.0.1 x.1 (omega (arith, less)) (omega (arith, less)))) ∙ sym (one step (suc j) s p)

-- ---- the loop

pub goes_on_while : {S F : Type 0} (step : Step S F) → TakesOne step → (s t : S) (p q : Place) (total : Result (S × Place) F) (more : Bool) → more ≡ true → step s p ≡ Ok ((more, t), q) → while_more step s p ≡ total → while_more step t q ≡ total
unfolding while_more
goes_on_while step takes s t p q total more is e' so_far =
    let e : step s p ≡ Ok ((true, t), q) = e' ∙ ap (λ z. Ok ((z, t), q)) is in
    let less = (takes s).takes p q (true, t) e in
    let k : length p.rest ≤ suc (length p.rest) = omega arith in
    let after_one : repeat step (suc (length p.rest)) s p ≡ repeat step (length p.rest) t q = one step (suc (length p.rest)) s p ∙ ap (λ r. after r (next step (suc (length p.rest)))) e ∙ goes_here step (length p.rest) t q in
    enough step takes (length q.rest) (length p.rest) t q (omega arith) (omega (arith, less)) ∙ sym after_one ∙ enough step takes (suc (length p.rest)) (length p.rest) s p k (omega arith) ∙ so_far

pub ends_while : {S F : Type 0} (step : Step S F) (s t : S) (p q : Place) (total : Result (S × Place) F) (more : Bool) → more ≡ false → step s p ≡ Ok ((more, t), q) → while_more step s p ≡ total → total ≡ Ok (t, q)
unfolding while_more
ends_while step s t p q total more is e so_far = sym so_far ∙ one step (length p.rest) s p ∙ ap (λ r. after r (next step (length p.rest))) (e ∙ ap (λ z. Ok ((z, t), q)) is) ∙ ends_here step (length p.rest) t q

pub stops_while : {S F : Type 0} (step : Step S F) (s : S) (p : Place) (d : F) (total : Result (S × Place) F) → step s p ≡ Err d → while_more step s p ≡ total → total ≡ Err d
unfolding while_more
stops_while step s p d total e so_far = sym so_far ∙ one step (length p.rest) s p ∙ ap (λ r. after r (next step (length p.rest))) e

-- the same, for a step that may fail for want of memory too
pub fails_while : {S F : Type 0} (is_free : F → Bool) (step : Step S F) (s : S) (p : Place) (d : F) (total : Result (S × Place) F) → Fails is_free d (step s p) → while_more step s p ≡ total → Fails is_free d total
fails_while is_free step s p d total f so_far =
    fails_on is_free d (step s p) total (λ e. stops_while step s p d total e so_far) f

-- ---- the law

more_turns : {S : Type 0} (G : S → Bool × S → List ℕ → Type 0) (s u t : S) (p q r : Place) → Took (G s) (true, u) p q → Took (While G u) t q r → Took (While G s) t p r
more_turns G s u t p q r a b = record {
  text = a.text ++ b.text;
  spelled = (suc b.spelled.0, record { value = u; front = a.text; back = b.text; first = a.spelled; second = b.spelled.1; whole = refl });
  total = a.total ∙ b.total;
  rest = a.rest ∙ ap (λ z. a.text ++ z) b.rest ∙ sym (append_assoc a.text b.text r.rest);
  fits = b.fits;
}

last_turn : {S : Type 0} (G : S → Bool × S → List ℕ → Type 0) (s t : S) (p q : Place) → Took (G s) (false, t) p q → Took (While G s) t p q
last_turn G s t p q a = record { text = a.text; spelled = (0, a.spelled); total = a.total; rest = a.rest; fits = a.fits }

found_turn : {S F : Type 0} (step : Step S F) (G : S → Bool × S → List ℕ → Type 0) (k : ℕ) (b : Bool) (s u t : S) (p q r : Place) → Took (G s) (b, u) p q → next step (suc k) (b, u) q ≡ Ok (t, r) → (repeat step k u q ≡ Ok (t, r) → Took (While G u) t q r) → Took (While G s) t p r
found_turn step G k true s u t p q r a e h = more_turns G s u t p q r a (h (sym (goes_here step k u q) ∙ e))
found_turn {S = S} step G k false s u t p q r a e h = subst (λ (z : S × Place). Took (While G s) z.0 p z.1) (ok_is _ _ (sym (ends_here step (suc k) u q) ∙ e)) (last_turn G s u p q a)

found : {S F : Type 0} (step : Step S F) (G : S → Bool × S → List ℕ → Type 0) → ((s : S) → Reads (step s) (G s)) → TakesOne step → (k : ℕ) (s t : S) (p q : Place) → length p.rest ≤ k → IsBytes p.rest → repeat step k s p ≡ Ok (t, q) → Took (While G s) t p q
found step G rs takes zero s t p q le fits e =
    let x = bind_ok (step s p) (next step zero) (t, q) (sym (one step zero s p) ∙ e) in
    absurd (omega (arith, (takes s).takes p x.0.1 x.0.0 x.1))
found step G rs takes (suc k) s t p q le fits e =
    let x = bind_ok (step s p) (next step (suc k)) (t, q) (sym (one step (suc k) s p) ∙ e) in
    let less = (takes s).takes p x.0.1 x.0.0 x.1 in
    let a = (rs s).found p x.0.1 x.0.0 fits x.1 in
    found_turn step G k x.0.0.0 s x.0.0.1 t p x.0.1 q a x.2 (λ h. found step G rs takes k x.0.0.1 t x.0.1 q (omega (arith, less)) a.fits h)

only : {S F : Type 0} (step : Step S F) (G : S → Bool × S → List ℕ → Type 0) → ((s : S) → Reads (step s) (G s)) → TakesOne step → (n k total : ℕ) (s t : S) (text rest : List ℕ) → length (text ++ rest) ≤ k → Repeat G n s t text → repeat step k s (place total (text ++ rest)) ≡ Ok (t, place total rest)
only step G rs takes zero k total s t text rest le g =
    one step k s (place total (text ++ rest)) ∙ ap (λ r. after r (next step k)) ((rs s).only (false, t) text rest total g) ∙ ends_here step k t (place total rest)
only step G rs takes (suc n) zero total s t text rest le g =
    let step_is = (rs s).only (true, g.value) g.front (g.back ++ rest) total g.first in
    let less = (takes s).takes (place total (g.front ++ (g.back ++ rest))) (place total (g.back ++ rest)) (true, g.value) step_is in
    let regrouped : text ++ rest ≡ g.front ++ (g.back ++ rest) = ap (λ z. z ++ rest) g.whole ∙ append_assoc g.front g.back rest in
    absurd (omega (arith, less, ap length regrouped))
only step G rs takes (suc n) (suc k) total s t text rest le g =
    let step_is = (rs s).only (true, g.value) g.front (g.back ++ rest) total g.first in
    let less = (takes s).takes (place total (g.front ++ (g.back ++ rest))) (place total (g.back ++ rest)) (true, g.value) step_is in
    let regrouped : text ++ rest ≡ g.front ++ (g.back ++ rest) = ap (λ z. z ++ rest) g.whole ∙ append_assoc g.front g.back rest in
    let here : step s (place total (text ++ rest)) ≡ Ok ((true, g.value), place total (g.back ++ rest)) = ap (λ z. step s (place total z)) regrouped ∙ step_is in
    let more = only step G rs takes n k total g.value t g.back rest (omega (arith, less, ap length regrouped)) g.second in
    one step (suc k) s (place total (text ++ rest)) ∙ ap (λ r. after r (next step (suc k))) here ∙ goes_here step k g.value (place total (g.back ++ rest)) ∙ more

pub while_law : {S F : Type 0} (step : Step S F) (G : S → Bool × S → List ℕ → Type 0) → ((s : S) → Reads (step s) (G s)) → TakesOne step → (s : S) → Reads (while_more step s) (While G s)
unfolding while_more
while_law step G rs takes s = record {
  found = λ p q t fits e. found step G rs takes (length p.rest) s t p q (omega arith) fits e;
  only = λ t text rest total g. only step G rs takes g.0 (length (text ++ rest)) total s t text rest (omega arith) g.1;
}
