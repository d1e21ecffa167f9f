-- What a run says of the operands that it takes.
use Rattle.std.proofs.Common.{◌≡◌, ℤ, Bool, List, [], ◌∷◌, refl, sym, subst}
use Rattle.nr_model.specs.declared.value.Value.{Value}
use Rattle.nr_model.specs.declared.value.Value.TheVariants.{Int, Long, Null, Ref}
use Rattle.nr_model.specs.Heaps.{Heap}
use Rattle.nr_model.specs.Scripts.{AskNull, Ending, PopInt, PopLong, Runs, Script, Within}
use Rattle.nr_step.specs.Windows.{IntOnTop, LongOnTop, ReferenceOnTop, view}

-- ---- a run from equal operands

pub run_on : (sc : Script) (h : Heap) (ls vs us : List Value) (e : Ending) (u : Within) → vs ≡ us → Runs sc (view h ls us) e u → Runs sc (view h ls vs) e u
run_on sc h ls vs us e u same r = subst (λ vs. Runs sc (view h ls vs) e u) (sym same) r

pub run_off : (sc : Script) (h : Heap) (ls vs us : List Value) (e : Ending) (u : Within) → vs ≡ us → Runs sc (view h ls vs) e u → Runs sc (view h ls us) e u
run_off sc h ls vs us e u same r = subst (λ vs. Runs sc (view h ls vs) e u) same r

-- ---- ints

pub record TakesInt (k : ℤ → Script) (h : Heap) (ls vs : List Value) (e : Ending) (u : Within) : Type 0 where
  pub number : ℤ
  pub rest : List Value
  pub is : vs ≡ Int number ∷ rest
  pub runs : Runs (k number) (view h ls rest) e u

pub takes_int : (k : ℤ → Script) (h : Heap) (ls vs : List Value) (e : Ending) (u : Within) → Runs (PopInt k) (view h ls vs) e u → TakesInt k h ls vs e u
takes_int k h ls [] e u r = absurd r
takes_int k h ls (Int n ∷ vs) e u r = record { number = n; rest = vs; is = refl; runs = r }
takes_int k h ls (Long n ∷ vs) e u r = absurd r
takes_int k h ls (Null ∷ vs) e u r = absurd r
takes_int k h ls (Ref a ∷ vs) e u r = absurd r

pub int_on : (n : ℤ) (vs us : List Value) → vs ≡ Int n ∷ us → IntOnTop vs
int_on n vs us is = subst IntOnTop (sym is) tt

pub int_top : (k : ℤ → Script) (h : Heap) (ls vs : List Value) (e : Ending) (u : Within) → Runs (PopInt k) (view h ls vs) e u → IntOnTop vs
int_top k h ls vs e u r = let t = takes_int k h ls vs e u r in int_on t.number vs t.rest t.is

-- the same of the operand below one that is known
pub after_int : (k : ℤ → Script) (n : ℤ) (h : Heap) (ls vs us : List Value) (e : Ending) (u : Within) → vs ≡ Int n ∷ us → Runs (PopInt k) (view h ls vs) e u → Runs (k n) (view h ls us) e u
after_int k n h ls vs us e u is r = run_off (PopInt k) h ls vs (Int n ∷ us) e u is r

-- ---- longs

pub record TakesLong (k : ℤ → Script) (h : Heap) (ls vs : List Value) (e : Ending) (u : Within) : Type 0 where
  pub number : ℤ
  pub rest : List Value
  pub is : vs ≡ Long number ∷ rest
  pub runs : Runs (k number) (view h ls rest) e u

pub takes_long : (k : ℤ → Script) (h : Heap) (ls vs : List Value) (e : Ending) (u : Within) → Runs (PopLong k) (view h ls vs) e u → TakesLong k h ls vs e u
takes_long k h ls [] e u r = absurd r
takes_long k h ls (Long n ∷ vs) e u r = record { number = n; rest = vs; is = refl; runs = r }
takes_long k h ls (Int n ∷ vs) e u r = absurd r
takes_long k h ls (Null ∷ vs) e u r = absurd r
takes_long k h ls (Ref a ∷ vs) e u r = absurd r

pub long_on : (n : ℤ) (vs us : List Value) → vs ≡ Long n ∷ us → LongOnTop vs
long_on n vs us is = subst LongOnTop (sym is) tt

pub long_top : (k : ℤ → Script) (h : Heap) (ls vs : List Value) (e : Ending) (u : Within) → Runs (PopLong k) (view h ls vs) e u → LongOnTop vs
long_top k h ls vs e u r = let t = takes_long k h ls vs e u r in long_on t.number vs t.rest t.is

pub after_long : (k : ℤ → Script) (n : ℤ) (h : Heap) (ls vs us : List Value) (e : Ending) (u : Within) → vs ≡ Long n ∷ us → Runs (PopLong k) (view h ls vs) e u → Runs (k n) (view h ls us) e u
after_long k n h ls vs us e u is r = run_off (PopLong k) h ls vs (Long n ∷ us) e u is r

-- ---- references

pub reference_top : (k : Bool → Script) (h : Heap) (ls vs : List Value) (e : Ending) (u : Within) → Runs (AskNull 0 k) (view h ls vs) e u → ReferenceOnTop vs
reference_top k h ls [] e u r = absurd r
reference_top k h ls (Int n ∷ vs) e u r = absurd r
reference_top k h ls (Long n ∷ vs) e u r = absurd r
reference_top k h ls (Null ∷ vs) e u r = tt
reference_top k h ls (Ref a ∷ vs) e u r = tt
