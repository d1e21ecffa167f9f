-- Readers that never tell some fault, as want of memory.
use Rattle.std.proofs.Common.{◌≡◌, ℕ, zero, suc, ◌+◌, Bool, true, false, cond, eqb, List, [], ◌∷◌, ◌++◌, length, Result, Ok, Err}
use Rattle.nr_base.specs.Place.{Place, at_of}
use Rattle.nr_base.specs.Reader.{Reader, after, bind, pure, refuse, choose, from, map_fault, with_fault, times, onto, checked_size, sized, until, to_end, ended, whole}

-- an answer that isn't the fault d
pub record Avoids {A F : Type 0} (d : F) (a : Result A F) : Type 0 where
  pub avoids : a ≡ Err d → ⊥

-- a reader never tells the fault d
pub record Never {A F : Type 0} (d : F) (r : Reader F A) : Type 0 where
  pub never : (p : Place) → Avoids d (r p)

pub ok_avoids : {A F : Type 0} (d : F) (x : A) → Avoids d (Ok x)
ok_avoids d x = record { avoids = λ e. absurd cc }

pub err_avoids : {A F : Type 0} (d f : F) → (f ≡ d → ⊥) → Avoids {A = A} d (Err f)
err_avoids d f ne = record { avoids = λ e. ne cc }

pub pure_never : {A F : Type 0} (d : F) (x : A) → Never d (pure x)
unfolding pure
pure_never d x = record { never = λ p. ok_avoids d (x, p) }

pub refuse_never : {A F : Type 0} (d f : F) → (f ≡ d → ⊥) → Never {A = A} d (refuse f)
unfolding refuse
refuse_never d f ne = record { never = λ p. err_avoids d f ne }

after_never : {A B F : Type 0} (d : F) (a : Result (A × Place) F) (f : A → Reader F B) → Avoids d a → ((x : A) → Never d (f x)) → Avoids d (after a f)
after_never d (Ok x) f ne fs = (fs x.0).never x.1
after_never d (Err g) f ne fs = record { avoids = λ e. ne.avoids cc }

pub bind_never : {A B F : Type 0} (d : F) {r : Reader F A} {f : A → Reader F B} → Never d r → ((x : A) → Never d (f x)) → Never d (bind r f)
unfolding bind
bind_never d {r = r} {f = f} rs fs = record { never = λ p. after_never d (r p) f (rs.never p) fs }

pub choose_never : {A F : Type 0} (d : F) (b : Bool) {r s : Reader F A} → Never d r → Never d s → Never d (choose b r s)
unfolding choose
choose_never d true rs ss = record { never = rs.never }
choose_never d false rs ss = record { never = ss.never }

pub from_never : {A F : Type 0} (d : F) {f : ℕ → Reader F A} → ((at : ℕ) → Never d (f at)) → Never d (from f)
unfolding from
from_never d rs = record { never = λ p. (rs (at_of p)).never p }

pub mapped_avoids : {A E F : Type 0} (d : F) (f : E → F) (a : Result A E) → ((g : E) → a ≡ Err g → f g ≡ d → ⊥) → Avoids d (map_fault f a)
mapped_avoids d f (Ok x) ne = ok_avoids d x
mapped_avoids d f (Err g) ne = err_avoids d (f g) (ne g (λ i. Err g))

pub with_fault_never : {A E F : Type 0} (d : F) (f : E → F) (r : Reader E A) → ((g : E) → f g ≡ d → ⊥) → Never d (with_fault f r)
unfolding with_fault
with_fault_never d f r ne = record { never = λ p. mapped_avoids d f (r p) (λ g was. ne g) }

pub times_never : {S F : Type 0} (d : F) {step : S → Reader F S} → ((s : S) → Never d (step s)) → (k : ℕ) (s : S) → Never d (times step k s)
unfolding times
times_never d steps zero s = pure_never d s
times_never d steps (suc k) s = bind_never d (steps s) (λ t. times_never d steps k t)

pub onto_never : {A F : Type 0} (d : F) {r : Reader F A} → Never d r → (xs : List A) → Never d (onto r xs)
unfolding onto
onto_never d rs xs = bind_never d rs (λ x. pure_never d (xs ++ x ∷ []))

size_avoids : {A F : Type 0} (d : F) (len : ℕ) (f : F) (before : ℕ) (a : Result (A × Place) F) → (f ≡ d → ⊥) → Avoids d a → Avoids d (checked_size len f before a)
size_avoids d len f before (Ok x) ne good =
    elim (eqb before (length x.1.rest + len)) as (λ b. Avoids d (cond b (Ok x) (Err f))) [ true ↦ ok_avoids d x | false ↦ err_avoids d f ne ]
size_avoids d len f before (Err g) ne good = good

pub sized_never : {A F : Type 0} (d : F) (len : ℕ) (f : F) {r : Reader F A} → (f ≡ d → ⊥) → Never d r → Never d (sized len f r)
unfolding sized
sized_never d len f {r = r} ne rs = record { never = λ p. size_avoids d len f (length p.rest) (r p) ne (rs.never p) }

pub until_never : {S F : Type 0} (d : F) {step : S → Reader F S} → ((s : S) → Never d (step s)) → (k : ℕ) (s : S) → Never d (until step k s)
unfolding until
until_never d steps zero s = record { never = λ p. ok_avoids d (s, p) }
until_never d {step = step} steps (suc k) s = record {
  never = λ p. elim (eqb (length p.rest) 0) as (λ b. Avoids d (cond b (Ok (s, p)) (after (step s p) (λ t. until step k t)))) [
    | true ↦ ok_avoids d (s, p)
    | false ↦ after_never d (step s p) (λ t. until step k t) ((steps s).never p) (λ t. until_never d steps k t)
  ];
}

pub to_end_never : {S F : Type 0} (d : F) {step : S → Reader F S} → ((s : S) → Never d (step s)) → (s : S) → Never d (to_end step s)
unfolding to_end
to_end_never d steps s = record { never = λ p. (until_never d steps (length p.rest) s).never p }

ended_avoids : {A F : Type 0} (d : F) (trailing : ℕ → F) (a : Result (A × Place) F) → ((at : ℕ) → trailing at ≡ d → ⊥) → Avoids d a → Avoids d (ended trailing a)
ended_avoids d trailing (Ok x) ne good =
    elim (eqb (length x.1.rest) 0) as (λ b. Avoids d (cond b (Ok x.0) (Err (trailing (at_of x.1))))) [ true ↦ ok_avoids d x.0 | false ↦ err_avoids d (trailing (at_of x.1)) (ne (at_of x.1)) ]
ended_avoids d trailing (Err g) ne good = record { avoids = λ e. good.avoids cc }

pub whole_avoids : {A F : Type 0} (d : F) (trailing : ℕ → F) {r : Reader F A} → ((at : ℕ) → trailing at ≡ d → ⊥) → Never d r → (bytes : List ℕ) → Avoids d (whole trailing r bytes)
unfolding whole
whole_avoids d trailing {r = r} ne rs bytes =
    ended_avoids d trailing (r (record { total = length bytes; rest = bytes })) ne (rs.never (record { total = length bytes; rest = bytes }))
