-- Readers that use up so many bytes or more, and that none gives bytes back.
use Rattle.std.proofs.Common.{◌≡◌, ℕ, zero, suc, ◌+◌, ◌≤◌, Bool, true, false, ltb, List, [], ◌∷◌, ◌++◌, length, take, Ok, ap, arith}
use Rattle.std.specs.Int.{Width, byte_len, from_be_bytes}
use Rattle.std.proofs.lemmas.Bool.{ltb-false}
use Rattle.std.proofs.lemmas.List.{length-drop}
use Rattle.nr_base.specs.Place.{Place, at_of, skip}
use Rattle.nr_base.specs.Bytes.{number_at, run_at, short_at}
use Rattle.nr_base.specs.Reader.{Reader, bind, pure, refuse, choose, from, with_fault, onto, times, repeat, while_more, sized, spanned, Advances}
use Rattle.nr_base.proofs.Laws.{bind_ok, guard_ok, ok_is, map_fault_ok, sized_was}
use Rattle.nr_base.proofs.Spans.{span_ok}

pub record TakesAll {A F : Type 0} (n : ℕ) (r : Reader F A) : Type 0 where
  pub takes : (p q : Place) (x : A) → r p ≡ Ok (x, q) → n + length q.rest ≤ length p.rest

pub pure_takes : {A F : Type 0} (x : A) → TakesAll {F = F} 0 (pure x)
unfolding pure
pure_takes x = record { takes = λ p q y e. omega (arith, ap (λ (a : _ × Place). length a.1.rest) (ok_is _ _ e)) }

pub refuse_takes : {A F : Type 0} (n : ℕ) (d : F) → TakesAll {A = A} n (refuse d)
unfolding refuse
refuse_takes n d = record { takes = λ p q y e. absurd cc }

pub bind_takes : {A B F : Type 0} (n m : ℕ) {r : Reader F A} {f : A → Reader F B} → TakesAll n r → ((x : A) → TakesAll m (f x)) → TakesAll (n + m) (bind r f)
unfolding bind
bind_takes n m {r = r} {f = f} rs fs = record {
  takes = λ p q y e.
      let a = bind_ok (r p) f (y, q) e in
      omega (arith, rs.takes p a.0.1 a.0.0 a.1, (fs a.0.0).takes a.0.1 q y a.2);
}

pub choose_takes : {A F : Type 0} (n : ℕ) (b : Bool) {r s : Reader F A} → TakesAll n r → TakesAll n s → TakesAll n (choose b r s)
unfolding choose
choose_takes n true rs ss = record { takes = rs.takes }
choose_takes n false rs ss = record { takes = ss.takes }

pub fewer_takes : {A F : Type 0} (n m : ℕ) {r : Reader F A} → m ≤ n → TakesAll n r → TakesAll m r
fewer_takes n m le rs = record { takes = λ p q x e. omega (arith, rs.takes p q x e) }

pub from_takes : {A F : Type 0} (n : ℕ) {f : ℕ → Reader F A} → ((at : ℕ) → TakesAll n (f at)) → TakesAll n (from f)
unfolding from
from_takes n rs = record { takes = λ p q x e. (rs (at_of p)).takes p q x e }

pub with_fault_takes : {A E F : Type 0} (n : ℕ) (f : E → F) {r : Reader E A} → TakesAll n r → TakesAll n (with_fault f r)
unfolding with_fault
with_fault_takes n f {r = r} rs = record { takes = λ p q x e. rs.takes p q x (map_fault_ok f (r p) (x, q) e) }

pub number_takes : (w : Width) → TakesAll (byte_len w) (number_at w)
number_takes w = record {
  takes = λ p q n e.
      let g = guard_ok (ltb (length p.rest) (byte_len w)) (short_at p) (from_be_bytes w (take (byte_len w) p.rest), skip (byte_len w) p) (n, q) e in
      let long : byte_len w ≤ length p.rest = ltb-false _ _ g.0 in
      omega (arith, length-drop (byte_len w) p.rest, ap (λ (a : ℕ × Place). length a.1.rest) g.1);
}

pub run_takes : (n : ℕ) → TakesAll n (run_at n)
run_takes n = record {
  takes = λ p q x e.
      let g = guard_ok (ltb (length p.rest) n) (short_at p) (take n p.rest, skip n p) (x, q) e in
      let long : n ≤ length p.rest = ltb-false _ _ g.0 in
      omega (arith, length-drop n p.rest, ap (λ (a : List ℕ × Place). length a.1.rest) g.1);
}

pub onto_takes : {A F : Type 0} (n : ℕ) {r : Reader F A} → TakesAll n r → (xs : List A) → TakesAll n (onto r xs)
unfolding onto
onto_takes n rs xs = fewer_takes (n + 0) n (omega arith) (bind_takes n 0 rs (λ x. pure_takes (xs ++ x ∷ [])))

pub advances : {S F : Type 0} {step : S → Reader F S} → ((s : S) → TakesAll 1 (step s)) → Advances step
advances rs s t p q e = omega (arith, (rs s).takes p q t e)

pub spanned_takes : {A F : Type 0} (n : ℕ) {r : Reader F A} → TakesAll n r → TakesAll n (spanned r)
unfolding spanned
spanned_takes n {r = r} rs = record { takes = λ p q x e. let s = span_ok p.rest (r p) x q e in rs.takes p q s.value s.was }

repeat_takes : {S F : Type 0} (step : S → Reader F (Bool × S)) → ((s : S) → TakesAll 1 (step s)) → (k : ℕ) (s : S) → TakesAll 1 (repeat step k s)
unfolding repeat
repeat_takes step takes zero s = bind_takes 1 0 (takes s) (λ x. pure_takes x.1)
repeat_takes step takes (suc k) s = bind_takes 1 0 (takes s) (λ x. choose_takes 0 x.0 (fewer_takes 1 0 (omega arith) (repeat_takes step takes k x.1)) (pure_takes x.1))

pub while_takes : {S F : Type 0} (step : S → Reader F (Bool × S)) → ((s : S) → TakesAll 1 (step s)) → (s : S) → TakesAll 1 (while_more step s)
unfolding while_more
while_takes step takes s = record { takes = λ p q x e. (repeat_takes step takes (length p.rest) s).takes p q x e }

pub times_takes : {S F : Type 0} (step : S → Reader F S) → ((s : S) → TakesAll 0 (step s)) → (k : ℕ) (s : S) → TakesAll 0 (times step k s)
unfolding times
times_takes step takes zero s = pure_takes s
times_takes step takes (suc k) s = bind_takes 0 0 (takes s) (λ t. times_takes step takes k t)

pub sized_takes : {A F : Type 0} (n len : ℕ) (d : F) {r : Reader F A} → TakesAll n r → TakesAll n (sized len d r)
unfolding sized
sized_takes n len d {r = r} rs = record { takes = λ p q x e. rs.takes p q x (sized_was len (length p.rest) d (r p) (x, q) e) }
