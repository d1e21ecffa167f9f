-- A fault on the way is the fault of the whole.
use Rattle.std.proofs.Common.{◌≡◌, Bool, true, false, Result, Err}
use Rattle.std.specs.Bool.{MatchBool}
use Rattle.nr_base.specs.Clauses.{Fails}

either : {A B : Type 0} (b : Bool) → (A → B) → MatchBool b (Unit {0}) A → MatchBool b (Unit {0}) B
either true h f = tt
either false h f = h f

pub fails_on : {A B F : Type 0} (is_free : F → Bool) (e : F) (r : Result A F) (s : Result B F) → (r ≡ Err e → s ≡ Err e) → Fails is_free e r → Fails is_free e s
fails_on is_free e r s h f = either (is_free e) h f
