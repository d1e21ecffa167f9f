-- From what a call on a whole text owes by its reader to what it owes by its grammar.
use Rattle.std.proofs.Common.{ℕ, Bool, List, Result, Ok, Err, subst}
use Rattle.std.specs.Prelude.{IfOk}
use Rattle.nr_base.specs.Reader.{Reader, whole}
use Rattle.nr_base.specs.Clauses.{GivesWhole}
use Rattle.nr_base.specs.Grammar.{IsBytes}
use Rattle.nr_base.proofs.Laws.{Reads, whole_found, whole_only}

-- what the call gave is spelled by the text
pub found_whole : {A F : Type 0} (is_free : F → Bool) (trailing : ℕ → F) {r : Reader F A} {G : A → List ℕ → Type 0} → Reads r G → (bytes : List ℕ) (result : Result A F) → IsBytes bytes → GivesWhole is_free result (whole trailing r bytes) → IfOk result (λ x. G x bytes)
found_whole is_free trailing rs bytes (Ok x) fits e = whole_found trailing rs bytes x fits e
found_whole is_free trailing rs bytes (Err e) fits f = tt

-- of a text that spells a value, the call gave that value, or wants memory
pub only_whole : {A F : Type 0} (is_free : F → Bool) (trailing : ℕ → F) {r : Reader F A} {G : A → List ℕ → Type 0} → Reads r G → (bytes : List ℕ) (result : Result A F) (x : A) → G x bytes → GivesWhole is_free result (whole trailing r bytes) → GivesWhole is_free result (Ok x)
only_whole is_free trailing rs bytes result x g e = subst (λ read. GivesWhole is_free result read) (whole_only trailing rs bytes x g) e
