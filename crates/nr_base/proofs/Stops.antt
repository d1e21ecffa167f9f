-- Where a reader gives up: what stands before the fault's place begins a text of the grammar, and no
-- text of the grammar goes on with the item that stands there, or the item is cut off by the end.
use Rattle.std.proofs.Common.{◌≡◌, ℕ, zero, suc, ◌^◌, ◌≤◌, ◌<◌, ◌⊎◌, Bool, true, false, cond, ltb, List, [], ◌∷◌, ◌++◌, length, take, drop, Result, Ok, Err, refl, sym, ap, subst, ◌∙◌, append_assoc, arith, inl, inr}
use Rattle.std.specs.Int.{Width, byte_len, from_be_bytes, to_be_bytes}
use Rattle.std.proofs.lemmas.Bool.{ltb-true}
use Rattle.std.proofs.lemmas.List.{take-append-drop, length-append, take_at}
use Rattle.nr_base.specs.Place.{Place, at_of, skip}
use Rattle.nr_base.specs.Reader.{Reader, after, bind, pure, refuse, choose, from, map_fault, with_fault, times}
use Rattle.nr_base.specs.Bytes.{number_at, run_at, short_at}
use Rattle.nr_base.specs.Grammar.{IsBytes, number, run, give, none, Then, pick, Times}
use Rattle.nr_base.specs.declared.cur.Short.{Short}
use Rattle.nr_base.proofs.Laws.{Reads, Took, place, ok_is}
use Rattle.nr_base.proofs.Numbers.{IsWide}

-- the bytes begin a text of the grammar
pub record Begins {A : Type 0} (G : A → List ℕ → Type 0) (front : List ℕ) : Type 0 where
  pub value : A
  pub back : List ℕ
  pub spelled : G value (front ++ back)

-- behind the front an item of so many bytes is due, and fewer are left
pub record CutOff {A : Type 0} (G : A → List ℕ → Type 0) (front rest : List ℕ) : Type 0 where
  pub size : ℕ
  pub due : (x : A) (back : List ℕ) → G x (front ++ back) → size ≤ length back
  pub left : length rest < size

-- no text goes on behind the front with the item of so many bytes that stands there
pub record NoneHas {A : Type 0} (G : A → List ℕ → Type 0) (front rest : List ℕ) : Type 0 where
  pub size : ℕ
  pub absent : (x : A) (back : List ℕ) → G x (front ++ (take size rest ++ back)) → ⊥

-- reading from p stops at a place
pub record Stopped {A : Type 0} (G : A → List ℕ → Type 0) (p at : Place) : Type 0 where
  pub front : List ℕ
  pub total : p.total ≡ at.total
  pub rest : p.rest ≡ front ++ at.rest
  pub begins : Begins G front
  pub ends : CutOff G front at.rest ⊎ NoneHas G front at.rest

-- each fault tells of the place where reading stopped
pub record Stops {A F : Type 0} (reader : Place → Result (A × Place) F) (G : A → List ℕ → Type 0) (tells : F → ℕ → Type 0) : Type 0 where
  pub stops : (p : Place) (e : F) → IsBytes p.rest → reader p ≡ Err e → (at : Place) × Stopped G p at × tells e (at_of at)

-- ---- two ways to part a list

aligned : (a b c d : List ℕ) → a ++ b ≡ c ++ d → ((m : List ℕ) × (c ≡ a ++ m) × (b ≡ m ++ d)) ⊎ ((m : List ℕ) × (a ≡ c ++ m) × (d ≡ m ++ b))
aligned [] b c d e = inl (c, refl, e)
aligned (x ∷ a) b [] d e = inr (x ∷ a, refl, sym e)
aligned (x ∷ a) b (y ∷ c) d e =
    let head : x ≡ y = cc in
    let tail : a ++ b ≡ c ++ d = cc in
    elim (aligned a b c d tail) [
      | inl m ↦ inl (m.0, ap (λ z. y ∷ z) m.1 ∙ ap (λ z. z ∷ (a ++ m.0)) (sym head), m.2)
      | inr m ↦ inr (m.0, ap (λ z. x ∷ z) m.1 ∙ ap (λ z. z ∷ (c ++ m.0)) head, m.2)
    ]

-- ---- what reading says of texts

clash : {A F : Type 0} (r : Result A F) (e : F) (x : A) → r ≡ Err e → r ≡ Ok x → ⊥
clash (Ok y) e x h i = absurd cc
clash (Err d) e x h i = absurd cc

same_fault : {A F : Type 0} (r : Result A F) (d e : F) → r ≡ Err d → r ≡ Err e → d ≡ e
same_fault (Ok y) d e h i = absurd cc
same_fault (Err c) d e h i = cc

-- where reading gives up, no front of the bytes is a text
not_read : {A F : Type 0} {r : Reader F A} {G : A → List ℕ → Type 0} → Reads r G → (p : Place) (e : F) → r p ≡ Err e → (x : A) (g more : List ℕ) → p.rest ≡ g ++ more → G x g → ⊥
not_read {r = r} rs p e h x g more w spelled =
    let ok : r (place p.total (g ++ more)) ≡ Ok (x, place p.total more) = rs.only x g more p.total spelled in
    let same : r p ≡ Ok (x, place p.total more) = ap (λ (z : List ℕ). r (place p.total z)) w ∙ ok in
    clash (r p) e (x, place p.total more) h same

-- one text begins only one way
record Same {A : Type 0} (x y : A) (xs ys : List ℕ) : Type 0 where
  value : y ≡ x
  back : ys ≡ xs

parted : {A F : Type 0} {r : Reader F A} {G : A → List ℕ → Type 0} → Reads r G → (x y : A) (f g xs ys : List ℕ) → G x f → G y g → f ++ xs ≡ g ++ ys → Same x y xs ys
parted {r = r} rs x y f g xs ys a b w =
    let one : r (place 0 (f ++ xs)) ≡ Ok (x, place 0 xs) = rs.only x f xs 0 a in
    let two : r (place 0 (g ++ ys)) ≡ Ok (y, place 0 ys) = rs.only y g ys 0 b in
    let is = ok_is _ _ (sym two ∙ ap (λ (z : List ℕ). r (place 0 z)) (sym w) ∙ one) in
    record { value = ap (λ (z : _ × Place). z.0) is; back = ap (λ (z : _ × Place). z.1.rest) is }

-- ---- one text behind the other

-- the first text isn't whole yet
stopped_first : {A B F : Type 0} {r : Reader F A} {G : A → List ℕ → Type 0} (H : A → B → List ℕ → Type 0) → Reads r G → ((x : A) (t : List ℕ) → G x t → Begins (H x) []) → (p at : Place) (e : F) → r p ≡ Err e → Stopped G p at → Stopped (Then G H) p at
stopped_first {G = G} H rs inhabited p at e h s =
    let b = s.begins in
    let later = inhabited b.value (s.front ++ b.back) b.spelled in
    record {
      front = s.front;
      total = s.total;
      rest = s.rest;
      begins = record {
        value = later.value;
        back = b.back ++ later.back;
        spelled = record { value = b.value; front = s.front ++ b.back; back = later.back; first = b.spelled; second = later.spelled; whole = sym (append_assoc s.front b.back later.back) };
      };
      ends = elim s.ends [
        | inl c ↦ inl (record {
          size = c.size;
          left = c.left;
          due = λ y back t. elim (aligned s.front back t.front t.back t.whole) [
            | inl m ↦ omega (arith, c.due t.value m.0 (subst (λ (z : List ℕ). G t.value z) m.1 t.first), ap length m.2, length-append m.0 t.back)
            | inr m ↦ absurd (not_read rs p e h t.value t.front (m.0 ++ at.rest) (s.rest ∙ ap (λ (z : List ℕ). z ++ at.rest) m.1 ∙ append_assoc t.front m.0 at.rest) t.first)
          ];
        })
        | inr n ↦ inr (record {
          size = n.size;
          absent = λ y back t.
              let item : List ℕ = take n.size at.rest in
              let regrouped : (s.front ++ take n.size at.rest) ++ back ≡ t.front ++ t.back = append_assoc s.front (take n.size at.rest) back ∙ t.whole in
              elim (aligned (s.front ++ take n.size at.rest) back t.front t.back regrouped) [
                | inl m ↦ n.absent t.value m.0 (subst (λ (z : List ℕ). G t.value z) (m.1 ∙ append_assoc s.front (take n.size at.rest) m.0) t.first)
                | inr m ↦
                    let behind : p.rest ≡ (s.front ++ take n.size at.rest) ++ drop n.size at.rest = s.rest ∙ ap (λ (z : List ℕ). s.front ++ z) (sym (take-append-drop n.size at.rest)) ∙ sym (append_assoc s.front (take n.size at.rest) (drop n.size at.rest)) in
                    not_read rs p e h t.value t.front (m.0 ++ drop n.size at.rest) (behind ∙ ap (λ (z : List ℕ). z ++ drop n.size at.rest) m.1 ∙ append_assoc t.front m.0 (drop n.size at.rest)) t.first
              ];
        })
      ];
    }

-- the first text is whole
stopped_second : {A B F : Type 0} {r : Reader F A} {G : A → List ℕ → Type 0} (H : A → B → List ℕ → Type 0) → Reads r G → (p q at : Place) (x : A) → Took G x p q → Stopped (H x) q at → Stopped (Then G H) p at
stopped_second {A = A} {B = B} {G = G} H rs p q at x a s =
    let b = s.begins in
    let second : (y : B) (behind : List ℕ) → Then G H y ((a.text ++ s.front) ++ behind) → H x y (s.front ++ behind) = λ y behind t.
    let same = parted rs x t.value a.text t.front (s.front ++ behind) t.back a.spelled t.first (sym (append_assoc a.text s.front behind) ∙ t.whole) in
    subst (λ (z : List ℕ). H x y z) same.back (subst (λ (z : A). H z y t.back) same.value t.second) in
    record {
      front = a.text ++ s.front;
      total = a.total ∙ s.total;
      rest = a.rest ∙ ap (λ (z : List ℕ). a.text ++ z) s.rest ∙ sym (append_assoc a.text s.front at.rest);
      begins = record {
        value = b.value;
        back = b.back;
        spelled = record { value = x; front = a.text; back = s.front ++ b.back; first = a.spelled; second = b.spelled; whole = append_assoc a.text s.front b.back };
      };
      ends = elim s.ends [
        | inl c ↦ inl (record { size = c.size; left = c.left; due = λ y back t. c.due y back (second y back t) })
        | inr n ↦ inr (record { size = n.size; absent = λ y back t. n.absent y back (second y (take n.size at.rest ++ back) t) })
      ];
    }

then_at : {A B F : Type 0} {r : Reader F A} {G : A → List ℕ → Type 0} {f : A → Reader F B} {H : A → B → List ℕ → Type 0} {tells : F → ℕ → Type 0}
    → Reads r G → Stops r G tells → ((x : A) → Stops (f x) (H x) tells) → ((x : A) (t : List ℕ) → G x t → Begins (H x) []) → (p : Place) (e : F) (res : Result (A × Place) F) → IsBytes p.rest → r p ≡ res → after res f ≡ Err e → (at : Place) × Stopped (Then G H) p at × tells e (at_of at)
then_at {H = H} rs ss fs inhabited p e (Ok x) fits h i =
    let a = rs.found p x.1 x.0 fits h in
    let s = (fs x.0).stops x.1 e a.fits i in
    (s.0, stopped_second H rs p x.1 s.0 x.0 a s.1, s.2)
then_at {F = F} {H = H} {tells = tells} rs ss fs inhabited p e (Err d) fits h i =
    let same : d ≡ e = cc in
    let s = ss.stops p d fits h in
    (s.0, stopped_first H rs inhabited p s.0 d h s.1, subst (λ (z : F). tells z (at_of s.0)) same s.2)

pub then_stops : {A B F : Type 0} {r : Reader F A} {G : A → List ℕ → Type 0} {f : A → Reader F B} {H : A → B → List ℕ → Type 0} {tells : F → ℕ → Type 0}
    → Reads r G → Stops r G tells → ((x : A) → Stops (f x) (H x) tells) → ((x : A) (t : List ℕ) → G x t → Begins (H x) []) → Stops (bind r f) (Then G H) tells
unfolding bind
then_stops {r = r} rs ss fs inhabited = record { stops = λ p e fits h. then_at rs ss fs inhabited p e (r p) fits refl h }

-- ---- the parts

pub give_stops : {A F : Type 0} (x : A) (tells : F → ℕ → Type 0) → Stops (pure x) (give x) tells
unfolding pure
give_stops x tells = record { stops = λ p e fits h. absurd cc }

pub pick_stops : {A F : Type 0} (b : Bool) {r s : Reader F A} {G H : A → List ℕ → Type 0} {tells : F → ℕ → Type 0} → Stops r G tells → Stops s H tells → Stops (choose b r s) (pick b G H) tells
unfolding choose
pick_stops true rs ss = record { stops = rs.stops }
pick_stops false rs ss = record { stops = ss.stops }

pub from_stops : {A F : Type 0} {f : ℕ → Reader F A} {G : A → List ℕ → Type 0} {tells : F → ℕ → Type 0} → ((at : ℕ) → Stops (f at) G tells) → Stops (from f) G tells
unfolding from
from_stops rs = record { stops = λ p e fits h. (rs (at_of p)).stops p e fits h }

mapped : {A E F : Type 0} (f : E → F) (r : Result A E) (e : F) → map_fault f r ≡ Err e → (d : E) × (r ≡ Err d) × (f d ≡ e)
mapped f (Ok x) e h = absurd cc
mapped f (Err d) e h = (d, refl, cc)

pub with_fault_stops : {A E F : Type 0} (f : E → F) {r : Reader E A} {G : A → List ℕ → Type 0} {tells : E → ℕ → Type 0} (tells_too : F → ℕ → Type 0) → ((d : E) (n : ℕ) → tells d n → tells_too (f d) n) → Stops r G tells → Stops (with_fault f r) G tells_too
unfolding with_fault
with_fault_stops {F = F} f {r = r} tells_too to rs = record {
  stops = λ p e fits h.
      let m = mapped f (r p) e h in
      let s = rs.stops p m.0 fits m.1 in
      (s.0, s.1, subst (λ (z : F). tells_too z (at_of s.0)) m.2 (to m.0 (at_of s.0) s.2));
}

times_begins : {S : Type 0} (G : S → S → List ℕ → Type 0) → ((s : S) → Begins (G s) []) → (k : ℕ) (s : S) → Begins (Times G k s) []
times_begins G each zero s = record { value = s; back = []; spelled = (refl, refl) }
times_begins G each (suc k) s =
    let one = each s in
    let later = times_begins G each k one.value in
    record { value = later.value; back = one.back ++ later.back; spelled = record { value = one.value; front = one.back; back = later.back; first = one.spelled; second = later.spelled; whole = refl } }

pub times_stops : {S F : Type 0} (step : S → Reader F S) (G : S → S → List ℕ → Type 0) (tells : F → ℕ → Type 0) → ((s : S) → Reads (step s) (G s)) → ((s : S) → Stops (step s) (G s) tells) → ((s : S) → Begins (G s) []) → (k : ℕ) (s : S) → Stops (times step k s) (Times G k s) tells
unfolding times
times_stops step G tells reads stops begins zero s = give_stops s tells
times_stops step G tells reads stops begins (suc k) s = then_stops (reads s) (stops s) (λ t. times_stops step G tells reads stops begins k t) (λ t text g. times_begins G begins k t)

-- ---- numbers and runs

abbrev pub short_tells : Short → ℕ → Type 0
short_tells s n = s.at ≡ n

guard_err : {A F : Type 0} (b : Bool) (d e : F) (x : A) → cond b (Err d) (Ok x) ≡ Err e → (b ≡ true) × (d ≡ e)
guard_err true d e x h = (refl, cc)
guard_err false d e x h = absurd cc

zeros : ℕ → List ℕ
zeros zero = []
zeros (suc k) = 0 ∷ zeros k

length-zeros : (n : ℕ) → length (zeros n) ≡ n
unfolding zeros
length-zeros zero = refl
length-zeros (suc k) = ap suc (length-zeros k)

pub run_begins : (n : ℕ) → Begins (run n) []
run_begins n = record { value = zeros n; back = zeros n; spelled = (length-zeros n, refl) }

pub number_begins : (w : Width) → 0 < 256 ^ byte_len w → Begins (number w) []
number_begins w some = record { value = 0; back = to_be_bytes w 0; spelled = (some, refl) }

pub give_begins : {A : Type 0} (x : A) → Begins (give x) []
give_begins x = record { value = x; back = []; spelled = (refl, refl) }

pub then_begins : {A B : Type 0} {G : A → List ℕ → Type 0} {H : A → B → List ℕ → Type 0} → Begins G [] → ((x : A) → Begins (H x) []) → Begins (Then G H) []
then_begins first second =
    let later = second first.value in
    record { value = later.value; back = first.back ++ later.back; spelled = record { value = first.value; front = first.back; back = later.back; first = first.spelled; second = later.spelled; whole = refl } }

pub run_stops : (n : ℕ) → Stops (run_at n) (run n) short_tells
run_stops n = record {
  stops = λ p e fits h.
      let g = guard_err (ltb (length p.rest) n) (short_at p) e (take n p.rest, skip n p) h in (
        p,
        record {
          front = [];
          total = refl;
          rest = refl;
          begins = run_begins n;
          ends = inl (record { size = n; left = ltb-true _ _ g.0; due = λ x back t. omega (arith, t.0, ap length t.1) });
        },
        ap (λ (s : Short). s.at) (sym g.1),
      );
}

pub number_stops : (w : Width) → IsWide w → 0 < 256 ^ byte_len w → Stops (number_at w) (number w) short_tells
number_stops w wide some = record {
  stops = λ p e fits h.
      let g = guard_err (ltb (length p.rest) (byte_len w)) (short_at p) e (from_be_bytes w (take (byte_len w) p.rest), skip (byte_len w) p) h in (
        p,
        record {
          front = [];
          total = refl;
          rest = refl;
          begins = number_begins w some;
          ends = inl (record { size = byte_len w; left = ltb-true _ _ g.0; due = λ n back t. omega (arith, wide.len n, ap length t.1) });
        },
        ap (λ (s : Short). s.at) (sym g.1),
      );
}

-- ---- an item that chooses what follows, or that nothing follows: then the fault tells of its place

-- each fault tells of the place where the reader began
pub record Atomic {A F : Type 0} (reader : Place → Result (A × Place) F) (G : A → List ℕ → Type 0) (tells : F → ℕ → Type 0) : Type 0 where
  pub blocked : (p : Place) (e : F) → IsBytes p.rest → reader p ≡ Err e → (CutOff G [] p.rest ⊎ NoneHas G [] p.rest) × tells e (at_of p)

pub record Fine {A F : Type 0} (reader : Place → Result (A × Place) F) (G : A → List ℕ → Type 0) (tells : F → ℕ → Type 0) : Type 0 where
  pub stops : Stops reader G tells

pub record Refused {A F : Type 0} (reader : Place → Result (A × Place) F) (G : A → List ℕ → Type 0) (d : F) : Type 0 where
  pub fails : (p : Place) → reader p ≡ Err d
  pub empty : (x : A) (text : List ℕ) → G x text → ⊥

pub refused : {A F : Type 0} (d : F) → Refused {A = A} (refuse d) none d
unfolding refuse
refused d = record { fails = λ p. refl; empty = λ x text g. absurd g }

pub fine_or : {A F : Type 0} (b : Bool) {r s : Reader F A} {G H : A → List ℕ → Type 0} {tells : F → ℕ → Type 0} {d : F} → Fine r G tells → (Fine s H tells ⊎ Refused s H d) → Fine (choose b r s) (pick b G H) tells ⊎ Refused (choose b r s) (pick b G H) d
unfolding choose
fine_or true f g = inl (record { stops = record { stops = f.stops.stops } })
fine_or false f (inl g) = inl (record { stops = record { stops = g.stops.stops } })
fine_or false f (inr g) = inr (record { fails = g.fails; empty = g.empty })

cut_off : {A B F : Type 0} {r : Reader F A} {G : A → List ℕ → Type 0} (H : A → B → List ℕ → Type 0) → Reads r G → (p : Place) (e : F) → r p ≡ Err e → CutOff G [] p.rest ⊎ NoneHas G [] p.rest → CutOff (Then G H) [] p.rest ⊎ NoneHas (Then G H) [] p.rest
cut_off H rs p e h (inl c) = inl (record { size = c.size; left = c.left; due = λ y back t. omega (arith, c.due t.value t.front t.first, ap length t.whole, length-append t.front t.back) })
cut_off {G = G} H rs p e h (inr n) = inr (record {
  size = n.size;
  absent = λ y back t. elim (aligned (take n.size p.rest) back t.front t.back t.whole) [
    | inl m ↦ n.absent t.value m.0 (subst (λ (z : List ℕ). G t.value z) m.1 t.first)
    | inr m ↦ not_read rs p e h t.value t.front (m.0 ++ drop n.size p.rest) (sym (take-append-drop n.size p.rest) ∙ ap (λ (z : List ℕ). z ++ drop n.size p.rest) m.1 ∙ append_assoc t.front m.0 (drop n.size p.rest)) t.first
  ];
})

nothing_follows : {A B F : Type 0} {r : Reader F A} {G : A → List ℕ → Type 0} (H : A → B → List ℕ → Type 0) → Reads r G → (p q : Place) (x : A) → Took G x p q → ((y : B) (t : List ℕ) → H x y t → ⊥) → NoneHas (Then G H) [] p.rest
nothing_follows {A = A} {B = B} {G = G} H rs p q x a empty = record {
  size = length a.text;
  absent = λ y back t.
      let item : take (length a.text) p.rest ≡ a.text = ap (λ (z : List ℕ). take (length a.text) z) a.rest ∙ take_at a.text q.rest (length a.text) refl in
      let same = parted rs x t.value a.text t.front back t.back a.spelled t.first (ap (λ (z : List ℕ). z ++ back) (sym item) ∙ t.whole) in
      empty y t.back (subst (λ (z : A). H z y t.back) same.value t.second);
}

chosen : {A B F : Type 0} {r : Reader F A} {G : A → List ℕ → Type 0} (f : A → Reader F B) (H : A → B → List ℕ → Type 0) {tells : F → ℕ → Type 0} (d : A → F) (e : F) (p q : Place) (x : A) → Reads r G → Begins (Then G H) [] → tells (d x) (at_of p) → Took G x p q → f x q ≡ Err e → Fine (f x) (H x) tells ⊎ Refused (f x) (H x) (d x) → (at : Place) × Stopped (Then G H) p at × tells e (at_of at)
chosen f H d e p q x rs begins told a h (inl g) =
    let s = g.stops.stops q e a.fits h in
    (s.0, stopped_second H rs p q s.0 x a s.1, s.2)
chosen {F = F} f H {tells = tells} d e p q x rs begins told a h (inr g) =
    let same = same_fault (f x q) (d x) e (g.fails q) h in
    (p, record { front = []; total = refl; rest = refl; begins = begins; ends = inr (nothing_follows H rs p q x a g.empty) }, subst (λ (z : F). tells z (at_of p)) same told)

chosen_at : {A B F : Type 0} {r : Reader F A} {G : A → List ℕ → Type 0} {f : A → Reader F B} (H : A → B → List ℕ → Type 0) {tells : F → ℕ → Type 0} (d : A → F) (e : F) (p : Place) → Reads r G → Atomic r G tells → Begins (Then G H) [] → ((x : A) → tells (d x) (at_of p)) → ((x : A) → Fine (f x) (H x) tells ⊎ Refused (f x) (H x) (d x)) → (res : Result (A × Place) F) → IsBytes p.rest → r p ≡ res → after res f ≡ Err e → (at : Place) × Stopped (Then G H) p at × tells e (at_of at)
chosen_at {f = f} H d e p rs ss begins told each (Ok x) fits h i =
    let a = rs.found p x.1 x.0 fits h in
    chosen f H d e p x.1 x.0 rs begins (told x.0) a i (each x.0)
chosen_at {F = F} H {tells = tells} d e p rs ss begins told each (Err c) fits h i =
    let same : c ≡ e = cc in
    let s = ss.blocked p c fits h in
    (p, record { front = []; total = refl; rest = refl; begins = begins; ends = cut_off H rs p c h s.0 }, subst (λ (z : F). tells z (at_of p)) same s.1)

-- an item by which what follows is chosen; where nothing may follow, the fault is that of its place
pub chosen_stops : {A B F : Type 0} {r : Reader F A} {G : A → List ℕ → Type 0} {f : ℕ → A → Reader F B} {H : A → B → List ℕ → Type 0} {tells : F → ℕ → Type 0} (d : ℕ → A → F)
    → Reads r G → Atomic r G tells → Begins (Then G H) [] → ((at : ℕ) (x : A) → tells (d at x) at) → ((at : ℕ) (x : A) → Fine (f at x) (H x) tells ⊎ Refused (f at x) (H x) (d at x)) → Stops (from (λ at. bind r (f at))) (Then G H) tells
unfolding from bind
chosen_stops {r = r} {H = H} d rs ss begins told each = record { stops = λ p e fits h. chosen_at H (d (at_of p)) e p rs ss begins (told (at_of p)) (each (at_of p)) (r p) fits refl h }

pub number_atomic : (w : Width) → IsWide w → Atomic (number_at w) (number w) short_tells
number_atomic w wide = record {
  blocked = λ p e fits h.
      let g = guard_err (ltb (length p.rest) (byte_len w)) (short_at p) e (from_be_bytes w (take (byte_len w) p.rest), skip (byte_len w) p) h in
      (inl (record { size = byte_len w; left = ltb-true _ _ g.0; due = λ n back t. omega (arith, wide.len n, ap length t.1) }), ap (λ (s : Short). s.at) (sym g.1));
}

pub with_fault_atomic : {A E F : Type 0} (f : E → F) {r : Reader E A} {G : A → List ℕ → Type 0} {tells : E → ℕ → Type 0} (tells_too : F → ℕ → Type 0) → ((d : E) (n : ℕ) → tells d n → tells_too (f d) n) → Atomic r G tells → Atomic (with_fault f r) G tells_too
unfolding with_fault
with_fault_atomic {F = F} f {r = r} tells_too to rs = record {
  blocked = λ p e fits h.
      let m = mapped f (r p) e h in
      let s = rs.blocked p m.0 fits m.1 in
      (s.0, subst (λ (z : F). tells_too z (at_of p)) m.2 (to m.0 (at_of p) s.1));
}
