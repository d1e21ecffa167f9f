-- A reader reads a grammar: what it reads is a text of its value, and each text of a value is read,
-- whatever follows it. One law for each way to make a reader of smaller ones.
use Rattle.std.proofs.Common.{◌≡◌, ℕ, zero, suc, ◌+◌, Bool, true, false, cond, eqb, List, [], ◌∷◌, ◌++◌, length, Result, Ok, Err, refl, sym, ap, subst, ◌∙◌, append_assoc, arith}
use Rattle.std.proofs.lemmas.Bool.{eqb-true, eq-eqb}
use Rattle.std.proofs.lemmas.List.{length-append, append-nil, nil_from_length}
use Rattle.nr_base.specs.Place.{Place, at_of}
use Rattle.nr_base.specs.Reader.{Reader, after, bind, pure, refuse, choose, from, map_fault, with_fault, onto, times, checked_size, sized, ended, whole}
use Rattle.nr_base.specs.Grammar.{IsBytes, give, none, Then, pick, Times, Sized}

-- what was read from p up to q
pub record Took {A : Type 0} (G : A → List ℕ → Type 0) (x : A) (p q : Place) : Type 0 where
  pub text : List ℕ
  pub spelled : G x text
  pub total : p.total ≡ q.total
  pub rest : p.rest ≡ text ++ q.rest
  pub fits : IsBytes q.rest

abbrev pub place : ℕ → List ℕ → Place
place total rest = record { total = total; rest = rest }

pub record Reads {A F : Type 0} (reader : Place → Result (A × Place) F) (G : A → List ℕ → Type 0) : Type 0 where
  -- what is read is spelled so
  pub found : (p q : Place) (x : A) → IsBytes p.rest → reader p ≡ Ok (x, q) → Took G x p q
  -- what is spelled so is read
  pub only : (x : A) (text rest : List ℕ) (total : ℕ) → G x text → reader (place total (text ++ rest)) ≡ Ok (x, place total rest)

-- ---- answers

abbrev done : {A F : Type 0} → A → Result A F
done x = Ok x

-- the value of a step that didn't fail
pub bind_ok : {A B F : Type 0} (r : Result (A × Place) F) (f : A → Reader F B) (y : B × Place) → after r f ≡ Ok y → (x : A × Place) × (r ≡ Ok x) × (f x.0 x.1 ≡ Ok y)
bind_ok (Ok x) f y e = (x, refl, e)
bind_ok (Err d) f y e = absurd cc

pub guard_ok : {A F : Type 0} (b : Bool) (d : F) (x y : A) → cond b (Err d) (Ok x) ≡ Ok y → (b ≡ false) × (x ≡ y)
guard_ok true d x y e = absurd cc
guard_ok false d x y e = (refl, cc)

pub test_ok : {A F : Type 0} (b : Bool) (d : F) (x y : A) → cond b (Ok x) (Err d) ≡ Ok y → (b ≡ true) × (x ≡ y)
test_ok true d x y e = (refl, cc)
test_ok false d x y e = absurd cc

pub ok_is : {A F : Type 0} (x y : A) → done {A = A} {F = F} x ≡ Ok y → x ≡ y
ok_is x y e = cc

pub map_fault_ok : {A E F : Type 0} (f : E → F) (r : Result A E) (x : A) → map_fault f r ≡ Ok x → r ≡ Ok x
map_fault_ok f (Ok y) x e = ap (λ z. Ok z) (ok_is _ _ e)
map_fault_ok f (Err d) x e = absurd cc

-- ---- the parts

pub give_law : {A F : Type 0} (x : A) → Reads {A = A} {F = F} (pure x) (give x)
unfolding pure
give_law x = record {
  found = λ p q y fits e. record { text = []; spelled = (ap (λ (a : _ × Place). a.0) (sym (ok_is _ _ e)), refl); total = ap (λ (a : _ × Place). a.1.total) (ok_is _ _ e); rest = ap (λ (a : _ × Place). a.1.rest) (ok_is _ _ e); fits = subst (λ (a : _ × Place). IsBytes a.1.rest) (ok_is _ _ e) fits };
  only = λ y text rest total g. rw (g.0, g.1) refl;
}

pub none_law : {A F : Type 0} (d : F) → Reads {A = A} (refuse d) none
unfolding refuse
none_law d = record {
  found = λ p q y fits e. absurd cc;
  only = λ y text rest total g. absurd g;
}

pub then_law : {A B F : Type 0} {r : Reader F A} {G : A → List ℕ → Type 0} {f : A → Reader F B} {H : A → B → List ℕ → Type 0}
    → Reads r G → ((x : A) → Reads (f x) (H x)) → Reads (bind r f) (Then G H)
unfolding bind
then_law {r = r} {G = G} {f = f} {H = H} rs fs = record {
  found = λ p q y fits e.
      let a = bind_ok (r p) f (y, q) e in
      let t = rs.found p a.0.1 a.0.0 fits a.1 in
      let u = (fs a.0.0).found a.0.1 q y t.fits a.2 in
      record {
        text = t.text ++ u.text;
        spelled = record { value = a.0.0; front = t.text; back = u.text; first = t.spelled; second = u.spelled; whole = refl };
        total = t.total ∙ u.total;
        rest = t.rest ∙ ap (λ (z : List ℕ). t.text ++ z) u.rest ∙ sym (append_assoc t.text u.text q.rest);
        fits = u.fits;
      };
  only = λ y text rest total g.
      let step : r (place total (g.front ++ (g.back ++ rest))) ≡ Ok (g.value, place total (g.back ++ rest)) = rs.only g.value g.front (g.back ++ rest) total g.first in
      let later : f g.value (place total (g.back ++ rest)) ≡ Ok (y, place total rest) = (fs g.value).only y g.back rest total g.second in
      let regrouped : text ++ rest ≡ g.front ++ (g.back ++ rest) = ap (λ (z : List ℕ). z ++ rest) g.whole ∙ append_assoc g.front g.back rest in
      let whole : r (place total (text ++ rest)) ≡ Ok (g.value, place total (g.back ++ rest)) = ap (λ (z : List ℕ). r (place total z)) regrouped ∙ step in
      rw whole later;
}

pub pick_law : {A F : Type 0} (b : Bool) {r s : Reader F A} {G H : A → List ℕ → Type 0} → Reads r G → Reads s H → Reads (choose b r s) (pick b G H)
unfolding choose
pick_law true rs ss = record { found = rs.found; only = rs.only }
pick_law false rs ss = record { found = ss.found; only = ss.only }

pub from_law : {A F : Type 0} {f : ℕ → Reader F A} {G : A → List ℕ → Type 0} → ((at : ℕ) → Reads (f at) G) → Reads (from f) G
unfolding from
from_law rs = record {
  found = λ p q x fits e. (rs (at_of p)).found p q x fits e;
  only = λ x text rest total g. (rs (at_of (place total (text ++ rest)))).only x text rest total g;
}

pub with_fault_law : {A E F : Type 0} (f : E → F) {r : Reader E A} {G : A → List ℕ → Type 0} → Reads r G → Reads (with_fault f r) G
unfolding with_fault
with_fault_law f {r = r} rs = record {
  found = λ p q x fits e. rs.found p q x fits (map_fault_ok f (r p) (x, q) e);
  only = λ x text rest total g. ap (map_fault f) (rs.only x text rest total g);
}

pub times_law : {S F : Type 0} (step : S → Reader F S) (G : S → S → List ℕ → Type 0) → ((s : S) → Reads (step s) (G s)) → (k : ℕ) (s : S) → Reads (times step k s) (Times G k s)
unfolding times
times_law step G each zero s = give_law s
times_law step G each (suc k) s = then_law (each s) (λ t. times_law step G each k t)

pub onto_law : {A F : Type 0} {r : Reader F A} {G : A → List ℕ → Type 0} → Reads r G → (xs : List A) → Reads (onto r xs) (Then G (λ x. give (xs ++ x ∷ [])))
unfolding onto
onto_law rs xs = then_law rs (λ x. give_law (xs ++ x ∷ []))

-- the same grammar in other words
pub same_law : {A F : Type 0} {r : Reader F A} {G H : A → List ℕ → Type 0} → Reads r G → ((x : A) (t : List ℕ) → G x t → H x t) → ((x : A) (t : List ℕ) → H x t → G x t) → Reads r H
same_law rs to back = record {
  found = λ p q x fits e. let a = rs.found p q x fits e in record { text = a.text; spelled = to x a.text a.spelled; total = a.total; rest = a.rest; fits = a.fits };
  only = λ x text rest total h. rs.only x text rest total (back x text h);
}

-- ---- texts of a known size

record SizedOk {A F : Type 0} (len before : ℕ) (r : Result (A × Place) F) (y : A × Place) : Type 0 where
  was : r ≡ Ok y
  size : before ≡ length y.1.rest + len

sized_ok : {A F : Type 0} (len before : ℕ) (e : F) (r : Result (A × Place) F) (y : A × Place) → checked_size len e before r ≡ Ok y → SizedOk len before r y
sized_ok len before e (Ok x) y h =
    let g = test_ok (eqb before (length x.1.rest + len)) e x y h in
    record { was = ap (λ (z : _ × Place). Ok z) g.1; size = eqb-true _ _ g.0 ∙ ap (λ (z : _ × Place). length z.1.rest + len) g.1 }
sized_ok len before e (Err f) y h = absurd cc

pub sized_was : {A F : Type 0} (len before : ℕ) (e : F) (r : Result (A × Place) F) (y : A × Place) → checked_size len e before r ≡ Ok y → r ≡ Ok y
sized_was len before e r y h = (sized_ok len before e r y h).was

pub sized_law : {A F : Type 0} (len : ℕ) (e : F) {r : Reader F A} {G : A → List ℕ → Type 0} → Reads r G → Reads (sized len e r) (Sized len G)
unfolding sized
sized_law len e {r = r} rs = record {
  found = λ p q x fits h.
      let z = sized_ok len (length p.rest) e (r p) (x, q) h in
      let a = rs.found p q x fits z.was in
      record { text = a.text; spelled = (a.spelled, omega (arith, z.size, ap length a.rest, length-append a.text q.rest)); total = a.total; rest = a.rest; fits = a.fits };
  only = λ x text rest total g.
      let step = rs.only x text rest total g.0 in
      let size : eqb (length (text ++ rest)) (length rest + len) ≡ true = eq-eqb _ _ (omega (arith, length-append text rest, g.1)) in
      rw step (rw size refl);
}

-- ---- whole texts

record Ended {A F : Type 0} (r : Result (A × Place) F) (x : A) : Type 0 where
  at : Place
  was : r ≡ Ok (x, at)
  nothing : at.rest ≡ []

ended_ok : {A F : Type 0} (trailing : ℕ → F) (r : Result (A × Place) F) (x : A) → ended trailing r ≡ Ok x → Ended r x
ended_ok trailing (Ok y) x e =
    let b = test_ok (eqb (length y.1.rest) 0) (trailing (at_of y.1)) y.0 x e in
    record { at = y.1; was = ap (λ (z : _). Ok (z, y.1)) b.1; nothing = nil_from_length y.1.rest (eqb-true _ _ b.0) }
ended_ok trailing (Err d) x e = absurd cc

-- what is read of a whole text is spelled by it
pub whole_found : {A F : Type 0} (trailing : ℕ → F) {r : Reader F A} {G : A → List ℕ → Type 0} → Reads r G → (bytes : List ℕ) (x : A) → IsBytes bytes → whole trailing r bytes ≡ Ok x → G x bytes
unfolding whole
whole_found trailing {r = r} {G = G} rs bytes x fits e =
    let z = ended_ok trailing (r (place (length bytes) bytes)) x e in
    let a = rs.found (place (length bytes) bytes) z.at x fits z.was in
    subst (λ (t : List ℕ). G x t) (sym (a.rest ∙ ap (λ (t : List ℕ). a.text ++ t) z.nothing ∙ append-nil a.text)) a.spelled

-- a whole text that spells a value is read
pub whole_only : {A F : Type 0} (trailing : ℕ → F) {r : Reader F A} {G : A → List ℕ → Type 0} → Reads r G → (bytes : List ℕ) (x : A) → G x bytes → whole trailing r bytes ≡ Ok x
unfolding whole
whole_only trailing {r = r} rs bytes x g =
    ap (ended trailing) (sym (ap (λ (t : List ℕ). r (place (length bytes) t)) (append-nil bytes)) ∙ rs.only x bytes [] (length bytes) g)
