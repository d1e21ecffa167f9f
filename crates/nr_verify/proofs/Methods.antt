-- The methods of a program one by one.
use Rattle.std.proofs.Common.{◌≡◌, ℕ, zero, suc, ◌+◌, List, [], ◌∷◌, drop, refl, ap, subst, ◌∙◌, add-one}
use Rattle.std.specs.Prelude.{Option, Some, None, IsSomeAnd, slice_get}
use Rattle.std.specs.Option.{option_map}
use Rattle.nr_linked.specs.declared.program.tables.MethodInfo.{MethodInfo}
use Rattle.nr_linked.specs.declared.program.tables.ProgramTables.{ProgramTables}
use Rattle.nr_linked.specs.Layout.{IsLaidOut}
use Rattle.nr_linked.specs.TypingFaults.{MethodFault as Refusal, first_fault}
use Rattle.nr_typelaws.specs.Faultless.{HasNoFault}
use Rattle.nr_typelaws.proofs.Decides.{complete}
use Rattle.nr_verify.specs.declared.fault.VerifyFault.{VerifyFault}
use Rattle.nr_verify.specs.declared.fault.VerifyFault.TheVariants.{NoMemory}
use Rattle.nr_verify.specs.First.{IsFaultOf, IsRefusal, Tells, first_refused, or_later, program_fault}

pub got : (xs : List MethodInfo) (n : ℕ) (x : MethodInfo) (ys : List MethodInfo) → x ∷ ys ≡ drop n xs → slice_get xs n ≡ Some x
got [] zero x ys e = absurd cc
got [] (suc n) x ys e = absurd cc
got (z ∷ xs) zero x ys e = cc
got (z ∷ xs) (suc n) x ys e = got xs n x ys e

pub behind : (xs : List MethodInfo) (n : ℕ) (x : MethodInfo) (ys : List MethodInfo) → x ∷ ys ≡ drop n xs → ys ≡ drop (n + 1) xs
behind xs n x ys e = rw add-one (step xs n e)
  where
    step : (xs : List MethodInfo) (n : ℕ) → x ∷ ys ≡ drop n xs → ys ≡ drop (suc n) xs
    step [] zero e = absurd cc
    step [] (suc n) e = absurd cc
    step (z ∷ xs) zero e = cc
    step (z ∷ xs) (suc n) e = step xs n e

pub goes_on : (P : ProgramTables) (m : MethodInfo) (ms : List MethodInfo) → first_fault P m ≡ None → first_refused P (m ∷ ms) ≡ first_refused P ms
goes_on P m ms e = ap (λ o. or_later m o (first_refused P ms)) e

pub stops : (P : ProgramTables) (m : MethodInfo) (ms : List MethodInfo) (v : VerifyFault) → Tells P v (option_map (λ f. (m, f)) (first_fault P m)) → Tells P v (first_refused P (m ∷ ms))
stops P m ms NoMemory t = tt
stops P m ms v t = by_first (first_fault P m) t
  where
    by_first : (o : Option Refusal) → IsSomeAnd (option_map (λ (f : Refusal). (m, f)) o) (λ (r : MethodInfo × Refusal). IsFaultOf P r.0 r.1 v)
        → IsSomeAnd (or_later m o (first_refused P ms)) (λ (r : MethodInfo × Refusal). IsFaultOf P r.0 r.1 v)
    by_first None t = absurd t
    by_first (Some f) t = t

none_refused : (P : ProgramTables) (ms : List MethodInfo) → first_refused P ms ≡ None → (k : ℕ) (m : MethodInfo) → slice_get ms k ≡ Some m → first_fault P m ≡ None
none_refused P [] e k m is = absurd cc
none_refused P (x ∷ ms) e k m is = by_first (first_fault P x) refl e k is (λ k e is. none_refused P ms e k m is)
  where
    by_first : (o : Option Refusal) → first_fault P x ≡ o → or_later x o (first_refused P ms) ≡ None → (k : ℕ) → slice_get (x ∷ ms) k ≡ Some m
        → ((k : ℕ) → first_refused P ms ≡ None → slice_get ms k ≡ Some m → first_fault P m ≡ None) → first_fault P m ≡ None
    by_first (Some f) q e k is again = absurd cc
    by_first None q e zero is again = subst (λ (m : MethodInfo). first_fault P m ≡ None) (same x m is) q
      where
        same : (x m : MethodInfo) → Some x ≡ Some m → x ≡ m
        same x m e = cc
    by_first None q e (suc k) is again = again k e is

pub no_fault : (P : ProgramTables) → program_fault P ≡ None → HasNoFault P
no_fault P e n m is = none_refused P P.methods e n m is

-- ---- the other way round

all_pass : (P : ProgramTables) (ms : List MethodInfo) → ((k : ℕ) (m : MethodInfo) → slice_get ms k ≡ Some m → first_fault P m ≡ None) → first_refused P ms ≡ None
all_pass P [] h = refl
all_pass P (x ∷ ms) h = goes_on P x ms (h 0 x refl) ∙ all_pass P ms (λ k m is. h (suc k) m is)

told_some : (P : ProgramTables) (v : VerifyFault) (o : Option (MethodInfo × Refusal)) → o ≡ None → IsSomeAnd o (λ (r : MethodInfo × Refusal). IsFaultOf P r.0 r.1 v) → ⊥
told_some P v None e t = t
told_some P v (Some r) e t = absurd cc

-- a program that is refused isn't well typed
pub refused : (P : ProgramTables) → IsLaidOut P → (v : VerifyFault) → Tells P v (program_fault P) → IsRefusal P v
refused P laid NoMemory t = tt
refused P laid v t = λ typed. told_some P v (program_fault P) (all_pass P P.methods (λ k m is. complete P laid typed k m is)) t
