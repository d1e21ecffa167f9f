-- What readers find: each value that is read has a text of which something holds.
use Rattle.std.proofs.Common.{◌≡◌, ℕ, Bool, true, false, List, [], ◌∷◌, ◌++◌, Result, Ok, Err, refl, sym, ap, subst, ◌∙◌, append_assoc, arith}
use Rattle.nr_base.specs.Place.{Place, at_of}
use Rattle.nr_base.specs.Grammar.{IsBytes}
use Rattle.nr_base.specs.Reader.{Reader, bind, pure, refuse, choose, from}
use Rattle.nr_base.proofs.Laws.{Reads, bind_ok, ok_is}
use Rattle.nr_base.proofs.Numbers.{byte_alone}
use Rattle.nr_serread.specs.declared.fault.StreamFault.{StreamFault}
use Rattle.nr_serread.specs.Items.{Read, u1_at, given_by}
use Rattle.nr_serlaws.proofs.Items.{one_law}

-- what was read and what was used up for it
pub record Text {A : Type 0} (K : A → List ℕ → Type 0) (x : A) (p q : Place) : Type 0 where
  pub text : List ℕ
  pub holds : K x text
  pub rest : p.rest ≡ text ++ q.rest
  pub fits : IsBytes q.rest

pub record Finds {A F : Type 0} (r : Place → Result (A × Place) F) (K : A → List ℕ → Type 0) : Type 0 where
  pub found : (p q : Place) (x : A) → IsBytes p.rest → r p ≡ Ok (x, q) → Text K x p q

pub of_reads : {A F : Type 0} {r : Reader F A} {K : A → List ℕ → Type 0} → Reads r K → Finds r K
of_reads rs = record { found = λ p q x fits e. let t = rs.found p q x fits e in record { text = t.text; holds = t.spelled; rest = t.rest; fits = t.fits } }

pub weaken : {A F : Type 0} {r : Reader F A} {G K : A → List ℕ → Type 0} → Finds r G → ((x : A) (text : List ℕ) → G x text → K x text) → Finds r K
weaken rs to = record { found = λ p q x fits e. let t = rs.found p q x fits e in record { text = t.text; holds = to x t.text t.holds; rest = t.rest; fits = t.fits } }

pub pure_finds : {A F : Type 0} {K : A → List ℕ → Type 0} (x : A) → K x [] → Finds {F = F} (pure x) K
unfolding pure
pure_finds {K = K} x k = record {
  found = λ p q y fits e. record {
    text = [];
    holds = subst (λ y. K y []) (ap (λ (a : _ × Place). a.0) (ok_is _ _ e)) k;
    rest = ap (λ (a : _ × Place). a.1.rest) (ok_is _ _ e);
    fits = subst (λ (a : _ × Place). IsBytes a.1.rest) (ok_is _ _ e) fits;
  };
}

pub bind_finds : {A B F : Type 0} {r : Reader F A} {f : A → Reader F B} {G : A → List ℕ → Type 0} {K : B → List ℕ → Type 0}
    → Finds r G → ((x : A) (front : List ℕ) → G x front → Finds (f x) (λ y back. K y (front ++ back))) → Finds (bind r f) K
unfolding bind
bind_finds {r = r} {f = f} rs fs = record {
  found = λ p q y fits e.
      let a = bind_ok (r p) f (y, q) e in
      let t = rs.found p a.0.1 a.0.0 fits a.1 in
      let u = (fs a.0.0 t.text t.holds).found a.0.1 q y t.fits a.2 in
      record {
        text = t.text ++ u.text;
        holds = u.holds;
        rest = t.rest ∙ ap (λ z. t.text ++ z) u.rest ∙ sym (append_assoc t.text u.text q.rest);
        fits = u.fits;
      };
}

pub from_finds : {A F : Type 0} {f : ℕ → Reader F A} {K : A → List ℕ → Type 0} → ((at : ℕ) → Finds (f at) K) → Finds (from f) K
unfolding from
from_finds rs = record { found = λ p q x fits e. (rs (at_of p)).found p q x fits e }

pub choose_finds : {A F : Type 0} {r s : Reader F A} {K : A → List ℕ → Type 0} (b : Bool) → (b ≡ true → Finds r K) → (b ≡ false → Finds s K) → Finds (choose b r s) K
unfolding choose
choose_finds true rs ss = record { found = λ p q x fits e. (rs refl).found p q x fits e }
choose_finds false rs ss = record { found = λ p q x fits e. (ss refl).found p q x fits e }

pub given_finds : {A : Type 0} {K : A → List ℕ → Type 0} (r : Result A StreamFault) → ((x : A) → r ≡ Ok x → K x []) → Finds (given_by r) K
unfolding given_by pure
given_finds {K = K} (Ok x) k = record { found = λ p q y fits e. (pure_finds {F = StreamFault} {K = K} x (k x refl)).found p q y fits (same p q y e) }
  where
    same : (p q : Place) (y : _) → given_by (Ok x) p ≡ Ok (y, q) → pure {F = StreamFault} x p ≡ Ok (y, q)
    same p q y e = e
given_finds (Err d) k = record { found = λ p q y fits e. absurd cc }

-- ---- a tag, and what is chosen by it

pub tag_finds : {B : Type 0} {f : ℕ → Read B} {K : B → List ℕ → Type 0} → ((tag : ℕ) → Finds (f tag) (λ y back. K y (tag ∷ back))) → Finds (bind u1_at f) K
tag_finds {f = f} {K = K} fs = bind_finds (of_reads one_law) (λ tag front g.
    let one : tag ∷ [] ≡ front = sym (g.1 ∙ byte_alone tag (omega (arith, g.0))) in
    weaken (fs tag) (λ y back k. subst (λ z. K y (z ++ back)) one k))

-- ---- readers that give nothing

pub record Never {A F : Type 0} (r : Place → Result (A × Place) F) : Type 0 where
  pub none : (p q : Place) (x : A) → r p ≡ Ok (x, q) → ⊥

pub never_finds : {A F : Type 0} {r : Reader F A} {K : A → List ℕ → Type 0} → Never r → Finds r K
never_finds n = record { found = λ p q x fits e. absurd (n.none p q x e) }

pub refuse_never : {A F : Type 0} (e : F) → Never {A = A} (refuse e)
unfolding refuse
refuse_never d = record { none = λ p q x e. absurd cc }

pub bind_never : {A B F : Type 0} {f : A → Reader F B} (r : Reader F A) → ((x : A) → Never (f x)) → Never (bind r f)
unfolding bind
bind_never {f = f} r fs = record { none = λ p q y e. let a = bind_ok (r p) f (y, q) e in (fs a.0.0).none a.0.1 q y a.2 }

pub from_never : {A F : Type 0} {f : ℕ → Reader F A} → ((at : ℕ) → Never (f at)) → Never (from f)
unfolding from
from_never rs = record { none = λ p q x e. (rs (at_of p)).none p q x e }

pub choose_never : {A F : Type 0} {r s : Reader F A} (b : Bool) → Never r → Never s → Never (choose b r s)
unfolding choose
choose_never true rs ss = record { none = rs.none }
choose_never false rs ss = record { none = ss.none }
