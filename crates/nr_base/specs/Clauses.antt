-- What calls that read owe their callers.
use Rattle.std.specs.Prelude.{◌≡◌, Bool, false, Result, Ok, Err}
use Rattle.std.specs.Bool.{MatchBool}
use Rattle.nr_base.specs.Place.{Place}

-- What a cursor's call gave and left is what reading gives. One that is refused moves nothing.
abbrev pub TakesItem : {X Y E : Type 0} → (X → Y) → Result X E → Place → Place → Result (Y × Place) E → Type 0
TakesItem view (Ok x) old new read = read ≡ Ok (view x, new)
TakesItem view (Err e) old new read = (read ≡ Err e) × (new ≡ old)

-- no fault may come at any time: the call takes no memory
abbrev pub none_free : {F : Type 0} → F → Bool
none_free e = false

-- A call failed by e: so does reading, unless e may come at any time, as want of memory.
abbrev pub Fails : {A F : Type 0} → (F → Bool) → F → Result A F → Type 0
Fails is_free e read = MatchBool (is_free e) (Unit {0}) (read ≡ Err e)

-- What a call gave, seen by a view, and where it left the cursor is what reading gives.
abbrev pub GivesBy : {X A F : Type 0} → (F → Bool) → (X → A) → Result X F → Place → Result (A × Place) F → Type 0
GivesBy is_free view (Ok x) after read = read ≡ Ok (view x, after)
GivesBy is_free view (Err e) after read = Fails is_free e read

abbrev pub Gives : {A F : Type 0} → (F → Bool) → Result A F → Place → Result (A × Place) F → Type 0
Gives is_free result after read = GivesBy is_free (λ x. x) result after read

-- What a call on a whole text gave, seen by a view, is what reading gives.
abbrev pub GivesWholeBy : {X A F : Type 0} → (F → Bool) → (X → A) → Result X F → Result A F → Type 0
GivesWholeBy is_free view (Ok x) read = read ≡ Ok (view x)
GivesWholeBy is_free view (Err e) read = Fails is_free e read

abbrev pub GivesWhole : {A F : Type 0} → (F → Bool) → Result A F → Result A F → Type 0
GivesWhole is_free result read = GivesWholeBy is_free (λ x. x) result read
