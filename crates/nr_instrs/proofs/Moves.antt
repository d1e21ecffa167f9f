-- Readers that use up so many bytes or more, and stay within the same text.
use Rattle.std.proofs.Common.{◌≡◌, ℕ, zero, suc, ◌+◌, ◌≤◌, Bool, true, false, ltb, List, [], ◌∷◌, ◌++◌, length, take, Ok, sym, ap, ◌∙◌, arith}
use Rattle.std.specs.Int.{Width, byte_len, from_be_bytes}
use Rattle.nr_base.specs.Place.{Place, skip}
use Rattle.nr_base.specs.Bytes.{number_at, run_at, short_at}
use Rattle.nr_base.specs.Reader.{Reader, bind, pure, refuse, choose, from, with_fault, onto, times}
use Rattle.nr_base.proofs.Laws.{bind_ok, guard_ok, ok_is, map_fault_ok}
use Rattle.nr_base.proofs.Takes.{TakesAll, pure_takes, refuse_takes, bind_takes, choose_takes, fewer_takes, from_takes, with_fault_takes, number_takes, run_takes}

pub record Moves {A F : Type 0} (n : ℕ) (r : Reader F A) : Type 0 where
  pub takes : TakesAll n r
  pub total : (p q : Place) (x : A) → r p ≡ Ok (x, q) → q.total ≡ p.total

pub pure_moves : {A F : Type 0} (x : A) → Moves {F = F} 0 (pure x)
unfolding pure
pure_moves x = record { takes = pure_takes x; total = λ p q y e. sym (ap (λ (a : _ × Place). a.1.total) (ok_is _ _ e)) }

pub refuse_moves : {A F : Type 0} (n : ℕ) (d : F) → Moves {A = A} n (refuse d)
unfolding refuse
refuse_moves n d = record { takes = refuse_takes n d; total = λ p q y e. absurd cc }

pub bind_moves : {A B F : Type 0} (n m : ℕ) {r : Reader F A} {f : A → Reader F B} → Moves n r → ((x : A) → Moves m (f x)) → Moves (n + m) (bind r f)
unfolding bind
bind_moves n m {r = r} {f = f} rs fs = record {
  takes = bind_takes n m rs.takes (λ x. (fs x).takes);
  total = λ p q y e. let a = bind_ok (r p) f (y, q) e in (fs a.0.0).total a.0.1 q y a.2 ∙ rs.total p a.0.1 a.0.0 a.1;
}

pub choose_moves : {A F : Type 0} (n : ℕ) (b : Bool) {r s : Reader F A} → Moves n r → Moves n s → Moves n (choose b r s)
unfolding choose
choose_moves n true rs ss = record { takes = choose_takes n true rs.takes ss.takes; total = rs.total }
choose_moves n false rs ss = record { takes = choose_takes n false rs.takes ss.takes; total = ss.total }

pub fewer_moves : {A F : Type 0} (n m : ℕ) {r : Reader F A} → m ≤ n → Moves n r → Moves m r
fewer_moves n m le rs = record { takes = fewer_takes n m le rs.takes; total = rs.total }

pub from_moves : {A F : Type 0} (n : ℕ) {f : ℕ → Reader F A} → ((at : ℕ) → Moves n (f at)) → Moves n (from f)
unfolding from
from_moves n rs = record { takes = from_takes n (λ at. (rs at).takes); total = λ p q x e. (rs _).total p q x e }

pub with_fault_moves : {A E F : Type 0} (n : ℕ) (f : E → F) {r : Reader E A} → Moves n r → Moves n (with_fault f r)
unfolding with_fault
with_fault_moves n f {r = r} rs = record { takes = with_fault_takes n f rs.takes; total = λ p q x e. rs.total p q x (map_fault_ok f (r p) (x, q) e) }

pub number_moves : (w : Width) → Moves (byte_len w) (number_at w)
number_moves w = record {
  takes = number_takes w;
  total = λ p q n e.
      let g = guard_ok (ltb (length p.rest) (byte_len w)) (short_at p) (from_be_bytes w (take (byte_len w) p.rest), skip (byte_len w) p) (n, q) e in
      sym (ap (λ (a : ℕ × Place). a.1.total) g.1);
}

pub run_moves : (n : ℕ) → Moves n (run_at n)
run_moves n = record {
  takes = run_takes n;
  total = λ p q x e.
      let g = guard_ok (ltb (length p.rest) n) (short_at p) (take n p.rest, skip n p) (x, q) e in
      sym (ap (λ (a : List ℕ × Place). a.1.total) g.1);
}

pub times_moves : {S F : Type 0} (step : S → Reader F S) → ((s : S) → Moves 0 (step s)) → (k : ℕ) (s : S) → Moves 0 (times step k s)
unfolding times
times_moves step moves zero s = pure_moves s
times_moves step moves (suc k) s = bind_moves 0 0 (moves s) (λ t. times_moves step moves k t)

pub onto_moves : {A F : Type 0} (n : ℕ) {r : Reader F A} → Moves n r → (xs : List A) → Moves n (onto r xs)
unfolding onto
onto_moves n rs xs = fewer_moves (n + 0) n (omega arith) (bind_moves n 0 rs (λ x. pure_moves (xs ++ x ∷ [])))

-- a reader behind another one, where only some bytes of both count
pub then_moves : {A B F : Type 0} {r : Reader F A} {f : A → Reader F B} → Moves 0 r → ((x : A) → Moves 0 (f x)) → Moves 0 (bind r f)
then_moves rs fs = fewer_moves (0 + 0) 0 (omega arith) (bind_moves 0 0 rs fs)
