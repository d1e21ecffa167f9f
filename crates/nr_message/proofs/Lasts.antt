-- Readers of which the last part takes all that is left: what they read is a text of its value, and each text of a
-- value is read where nothing follows it.
use Rattle.std.proofs.Common.{◌≡◌, ℕ, Bool, true, false, eqb, List, [], ◌++◌, length, Result, Ok, Err, refl, sym, ap, subst, ◌∙◌, append_assoc}
use Rattle.std.specs.Prelude.{IfOk}
use Rattle.std.proofs.lemmas.Bool.{eqb-true}
use Rattle.std.proofs.lemmas.List.{append-nil, nil_from_length, take_at, drop_at}
use Rattle.nr_base.specs.Place.{Place, at_of, start_of}
use Rattle.nr_base.specs.Reader.{Reader, bind, pure, choose, from, ended, whole}
use Rattle.nr_base.specs.Clauses.{Gives, GivesWhole}
use Rattle.nr_base.specs.Grammar.{IsBytes, give, Then, pick}
use Rattle.nr_base.proofs.Exits.{fails_on}
use Rattle.nr_base.proofs.Bytes.{IsBytes-drop, IsBytes-take}
use Rattle.nr_base.proofs.Laws.{Took, place, Reads, bind_ok, test_ok, ok_is, give_law}

-- ---- parts of bytes

pub front_fits : (a b : List ℕ) → IsBytes (a ++ b) → IsBytes a
front_fits a b h = subst (λ (z : List ℕ). IsBytes z) (take_at a b (length a) refl) (IsBytes-take (length a) (a ++ b) h)

pub back_fits : (a b : List ℕ) → IsBytes (a ++ b) → IsBytes b
back_fits a b h = subst (λ (z : List ℕ). IsBytes z) (drop_at a b (length a) refl) (IsBytes-drop (length a) (a ++ b) h)

-- the same grammar in other words, at bytes
pub same_bytes_law : {A F : Type 0} {r : Reader F A} {G H : A → List ℕ → Type 0} → Reads r G → ((x : A) (t : List ℕ) → IsBytes t → G x t → H x t) → ((x : A) (t : List ℕ) → H x t → G x t) → Reads r H
same_bytes_law rs to back = record {
  found = λ p q x fits e. let a = rs.found p q x fits e in record { text = a.text; spelled = to x a.text (front_fits a.text q.rest (subst (λ (z : List ℕ). IsBytes z) a.rest fits)) a.spelled; total = a.total; rest = a.rest; fits = a.fits };
  only = λ x text rest total h. rs.only x text rest total (back x text h);
}

-- ---- readers to the end

pub record ReadsLast {A F : Type 0} (reader : Place → Result (A × Place) F) (G : A → List ℕ → Type 0) : Type 0 where
  -- what is read is spelled so
  pub found : (p q : Place) (x : A) → IsBytes p.rest → reader p ≡ Ok (x, q) → Took G x p q
  -- what is spelled so is read, where nothing follows
  pub only : (x : A) (text : List ℕ) (total : ℕ) → G x text → reader (place total text) ≡ Ok (x, place total [])

pub last_of : {A F : Type 0} {r : Reader F A} {G : A → List ℕ → Type 0} → Reads r G → ReadsLast r G
last_of {r = r} rs = record {
  found = λ p q x fits e. rs.found p q x fits e;
  only = λ x text total g. sym (ap (λ (z : List ℕ). r (place total z)) (append-nil text)) ∙ rs.only x text [] total g;
}

then_found : {A B F : Type 0} {r : Reader F A} {G : A → List ℕ → Type 0} {f : A → Reader F B} {H : A → B → List ℕ → Type 0}
    → ((p q : Place) (x : A) → IsBytes p.rest → r p ≡ Ok (x, q) → Took G x p q) → ((x : A) (p q : Place) (y : B) → IsBytes p.rest → f x p ≡ Ok (y, q) → Took (H x) y p q)
    → (p q : Place) (y : B) → IsBytes p.rest → bind r f p ≡ Ok (y, q) → Took (Then G H) y p q
unfolding bind
then_found {r = r} {f = f} rs fs p q y fits e =
    let a = bind_ok (r p) f (y, q) e in
    let t = rs p a.0.1 a.0.0 fits a.1 in
    let u = fs a.0.0 a.0.1 q y t.fits a.2 in
    record {
      text = t.text ++ u.text;
      spelled = record { value = a.0.0; front = t.text; back = u.text; first = t.spelled; second = u.spelled; whole = refl };
      total = t.total ∙ u.total;
      rest = t.rest ∙ ap (λ (z : List ℕ). t.text ++ z) u.rest ∙ sym (append_assoc t.text u.text q.rest);
      fits = u.fits;
    }

pub then_last : {A B F : Type 0} {r : Reader F A} {G : A → List ℕ → Type 0} {f : A → Reader F B} {H : A → B → List ℕ → Type 0}
    → Reads r G → ((x : A) → ReadsLast (f x) (H x)) → ReadsLast (bind r f) (Then G H)
unfolding bind
then_last {r = r} {f = f} rs fs = record {
  found = λ p q y fits e. then_found (λ p q x fits e. rs.found p q x fits e) (λ x p q y fits e. (fs x).found p q y fits e) p q y fits e;
  only = λ y text total g.
      let step : r (place total (g.front ++ g.back)) ≡ Ok (g.value, place total g.back) = rs.only g.value g.front g.back total g.first in
      let later : f g.value (place total g.back) ≡ Ok (y, place total []) = (fs g.value).only y g.back total g.second in
      let whole : r (place total text) ≡ Ok (g.value, place total g.back) = ap (λ (z : List ℕ). r (place total z)) g.whole ∙ step in
      rw whole later;
}

-- a value made of one that was read to the end
pub made_last : {A B F : Type 0} {r : Reader F A} {G : A → List ℕ → Type 0} (f : A → B) → ReadsLast r G → ReadsLast (bind r (λ x. pure (f x))) (Then G (λ x. give (f x)))
unfolding bind pure
made_last {r = r} f rs = record {
  found = λ p q y fits e. then_found (λ p q x fits e. rs.found p q x fits e) (λ x p q y fits e. (give_law (f x)).found p q y fits e) p q y fits e;
  only = λ y text total g.
      let is : text ≡ g.front = g.whole ∙ ap (λ (z : List ℕ). g.front ++ z) g.second.1 ∙ append-nil g.front in
      let whole : r (place total text) ≡ Ok (g.value, place total []) = ap (λ (z : List ℕ). r (place total z)) is ∙ rs.only g.value g.front total g.first in
      rw (whole, g.second.0) refl;
}

pub pick_last : {A F : Type 0} (b : Bool) {r s : Reader F A} {G H : A → List ℕ → Type 0} → ReadsLast r G → ReadsLast s H → ReadsLast (choose b r s) (pick b G H)
unfolding choose
pick_last true rs ss = record { found = rs.found; only = rs.only }
pick_last false rs ss = record { found = ss.found; only = ss.only }

pub from_last : {A F : Type 0} {f : ℕ → Reader F A} {G : A → List ℕ → Type 0} → ((at : ℕ) → ReadsLast (f at) G) → ReadsLast (from f) G
unfolding from
from_last rs = record {
  found = λ p q x fits e. (rs (at_of p)).found p q x fits e;
  only = λ x text total g. (rs (at_of (place total text))).only x text total g;
}

pub same_last : {A F : Type 0} {r : Reader F A} {G H : A → List ℕ → Type 0} → ReadsLast r G → ((x : A) (t : List ℕ) → G x t → H x t) → ((x : A) (t : List ℕ) → H x t → G x t) → ReadsLast r H
same_last rs to back = record {
  found = λ p q x fits e. let a = rs.found p q x fits e in record { text = a.text; spelled = to x a.text a.spelled; total = a.total; rest = a.rest; fits = a.fits };
  only = λ x text total h. rs.only x text total (back x text h);
}

-- ---- whole texts

record Ended {A F : Type 0} (r : Result (A × Place) F) (x : A) : Type 0 where
  at : Place
  was : r ≡ Ok (x, at)
  nothing : at.rest ≡ []

ended_ok : {A F : Type 0} (trailing : ℕ → F) (r : Result (A × Place) F) (x : A) → ended trailing r ≡ Ok x → Ended r x
ended_ok trailing (Ok y) x e =
    let b = test_ok (eqb (length y.1.rest) 0) (trailing (at_of y.1)) y.0 x e in
    record { at = y.1; was = ap (λ (z : _). Ok (z, y.1)) b.1; nothing = nil_from_length y.1.rest (eqb-true _ _ b.0) }
ended_ok trailing (Err d) x e = absurd cc

found_last : {A F : Type 0} (trailing : ℕ → F) {r : Reader F A} {G : A → List ℕ → Type 0} → ReadsLast r G → (bytes : List ℕ) (x : A) → IsBytes bytes → whole trailing r bytes ≡ Ok x → G x bytes
unfolding whole
found_last trailing {r = r} {G = G} rs bytes x fits e =
    let z = ended_ok trailing (r (place (length bytes) bytes)) x e in
    let a = rs.found (place (length bytes) bytes) z.at x fits z.was in
    subst (λ (t : List ℕ). G x t) (sym (a.rest ∙ ap (λ (t : List ℕ). a.text ++ t) z.nothing ∙ append-nil a.text)) a.spelled

pub only_last : {A F : Type 0} (trailing : ℕ → F) {r : Reader F A} {G : A → List ℕ → Type 0} → ReadsLast r G → (bytes : List ℕ) (x : A) → G x bytes → whole trailing r bytes ≡ Ok x
unfolding whole
only_last trailing rs bytes x g = ap (ended trailing) (rs.only x bytes (length bytes) g)

-- what the call gave is spelled by the text
pub found_whole_last : {A F : Type 0} (is_free : F → Bool) (trailing : ℕ → F) {r : Reader F A} {G : A → List ℕ → Type 0} → ReadsLast r G → (bytes : List ℕ) (result : Result A F) → IsBytes bytes → GivesWhole is_free result (whole trailing r bytes) → IfOk result (λ x. G x bytes)
found_whole_last is_free trailing rs bytes (Ok x) fits e = found_last trailing rs bytes x fits e
found_whole_last is_free trailing rs bytes (Err e) fits f = tt

-- of a text that spells a value, the call gave that value, or wants memory
pub only_whole_last : {A F : Type 0} (is_free : F → Bool) (trailing : ℕ → F) {r : Reader F A} {G : A → List ℕ → Type 0} → ReadsLast r G → (bytes : List ℕ) (result : Result A F) (x : A) → G x bytes → GivesWhole is_free result (whole trailing r bytes) → GivesWhole is_free result (Ok x)
only_whole_last is_free trailing rs bytes result x g e = subst (λ read. GivesWhole is_free result read) (only_last trailing rs bytes x g) e

-- ---- nothing is left

-- where it reads, it reads to the end
pub record Exhausts {A F : Type 0} (reader : Place → Result (A × Place) F) : Type 0 where
  pub nothing : (p q : Place) (x : A) → reader p ≡ Ok (x, q) → q.rest ≡ []

pub then_exhausts : {A B F : Type 0} (r : Reader F A) (f : A → Reader F B) → ((x : A) → Exhausts (f x)) → Exhausts (bind r f)
unfolding bind
then_exhausts r f fs = record { nothing = λ p q y e. let a = bind_ok (r p) f (y, q) e in (fs a.0.0).nothing a.0.1 q y a.2 }

pub made_exhausts : {A B F : Type 0} (r : Reader F A) (f : A → B) → Exhausts r → Exhausts (bind r (λ x. pure (f x)))
unfolding bind pure
made_exhausts r f rs = record {
  nothing = λ p q y e.
      let a = bind_ok (r p) (λ x. pure (f x)) (y, q) e in
      let same : a.0.1 ≡ q = ap (λ (z : _ × Place). z.1) (ok_is _ _ a.2) in
      subst (λ (z : Place). z.rest ≡ []) same (rs.nothing p a.0.1 a.0.0 a.1);
}

-- what such a reader gives is what is read of the whole text
pub gives_last : {A F : Type 0} (is_free : F → Bool) (trailing : ℕ → F) (r : Reader F A) → Exhausts r → (bytes : List ℕ) (result : Result A F) (q : Place) → Gives is_free result q (r (start_of bytes)) → GivesWhole is_free result (whole trailing r bytes)
unfolding whole
gives_last is_free trailing r rs bytes (Ok x) q e = rw (e, rs.nothing (start_of bytes) q x e) refl
gives_last is_free trailing r rs bytes (Err d) q f = fails_on is_free d (r (start_of bytes)) (ended trailing (r (start_of bytes))) (λ e. ap (ended trailing) e) f
