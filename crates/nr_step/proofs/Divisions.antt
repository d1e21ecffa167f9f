-- Division and remainder: their rules, told by the code, by a divisor that is 0 and by another one.
use Rattle.std.proofs.Common.{◌≡◌, ◌≢◌, ℕ, zero, suc, ℤ, pos, negsuc, List, ◌∷◌, length, refl, sym, subst, ap, ap₂, ◌∙◌, Bool, true, false, not, ◌&&◌, ◌||◌, is_some, Option, Some, None, arith, of_z, to_z, w32, w64, ◌<◌, ◌^◌}
use Rattle.std.specs.Option.{option_map}
use Rattle.std.proofs.lemmas.Int.{to_z-of_z}
use mir.Val.{SFits}
use mir.Syntax.{Width}
use lib.Signed.{mag}
use Rattle.std.specs.List.{list_all}
use Rattle.nr_optable.specs.declared.table.Family.{Family}
use Rattle.nr_optable.specs.declared.table.Family.TheVariants.{F20}
use Rattle.nr_optable.specs.declared.table.Row.{Row}
use Rattle.nr_optable.specs.Operations.{int_division, long_division}
use Rattle.nr_optable.specs.Rows.{all_rows}
use Rattle.nr_prog.specs.declared.body.instruction.Instr.{Instr}
use Rattle.nr_linked.specs.declared.program.built_in.BuiltIn.TheVariants.{ArithmeticException}
use Rattle.nr_linked.specs.declared.program.tables.MethodInfo.{MethodInfo}
use Rattle.nr_linked.specs.declared.program.tables.ProgramTables.{ProgramTables}
use Rattle.nr_linked.specs.declared.program.tables.Resolved.{Resolved}
use Rattle.nr_model.specs.declared.value.Value.{Value}
use Rattle.nr_model.specs.declared.value.Value.TheVariants.{Int, Long}
use Rattle.nr_model.specs.Heaps.{Heap}
use Rattle.nr_model.specs.Rules.{rule}
use Rattle.nr_model.specs.Scripts.{OnTop, PlainInt, PlainLong, PopInt, PopLong, Push, Runs, Script, Within}
use Rattle.nr_model.specs.Throws.{onward, throw_new}
use Rattle.nr_model.specs.ValueRules.{by_operands, division, not_zero, on_ints, on_longs}
use Rattle.nr_step.specs.Instructions.{CanReach, IsRowOf}
use Rattle.nr_step.specs.declared.flow.Flow.{Flow}
use Rattle.nr_step.specs.declared.flow.Told.{Told}
use Rattle.nr_step.specs.Flows.{Doing, ThrewNew, Went}
use Rattle.nr_step.specs.Windows.{CanBegin, IntOnTop, Leads, LongOnTop, view, window}
use Rattle.nr_step.proofs.Rows.{IsRule, begin_by, both, each_row}
use Rattle.nr_step.proofs.Tops.{after_int, after_long, int_top, long_top, run_off, run_on, takes_int, takes_long}
use Rattle.nr_step.proofs.Going.{went_by, went_thrown}

abbrev is_F20 : Family → Bool
is_F20 F20 = true
is_F20 family = false

of_F20 : (f : Family) → is_F20 f ≡ true → f ≡ F20
of_F20 F20 p = refl
of_F20 f p = absurd cc

pub what : {X : Type 0} (o : Option X) → is_some o ≡ true → (x : X) × (o ≡ Some x)
what None s = absurd cc
what (Some x) s = (x, refl)

-- ---- ints

abbrev pub of_ints : ProgramTables → (ℤ → ℤ → ℤ) → Script → Script
of_ints P f k = on_ints (λ x y. not_zero P y (Push (PlainInt (f x y)) k))

int_rows : list_all (λ (r : Row). not (is_some (int_division r.code)) || is_F20 r.family) all_rows ≡ true
unfolding all_rows
int_rows = refl

pub int_rule : (P : ProgramTables) (own : MethodInfo) (i : Instr) (found : Resolved) (code : ℕ) (f : ℤ → ℤ → ℤ) → IsRowOf code i.row → int_division code ≡ Some f
    → IsRule P own i found (of_ints P f)
int_rule P own i found code f r s = λ n.
    ap (λ f. rule f P own i.row i.args found (onward n))
    (of_F20 i.row.family (each_row (λ r. is_some (int_division r.code)) (λ r. is_F20 r.family) int_rows i.row r.listed (ap (λ c. is_some (int_division c)) r.code ∙ ap is_some s)))
    ∙ ap (λ c. division P c (onward n)) r.code
    ∙ ap (λ o. by_operands o (long_division code) (λ f. of_ints P f (onward n)) (λ f. on_longs (λ x y. not_zero P y (Push (PlainLong (f x y)) (onward n))))) s

other : (P : ProgramTables) (y : ℤ) (k : Script) → y ≢ pos 0 → not_zero P y k ≡ k
other P (pos zero) k d = absurd (d refl)
other P (pos (suc n)) k d = refl
other P (negsuc n) k d = refl

pub int_leads : (P : ProgramTables) (f : ℤ → ℤ → ℤ) (h : Heap) (ls vs us new : List Value) (x y z : ℤ) → vs ≡ Int y ∷ Int x ∷ us → y ≢ pos 0 → z ≡ f x y → new ≡ Int z ∷ us
    → Leads (of_ints P f) (view h ls vs) (view h ls new)
int_leads P f h ls vs us new x y z is d made push = λ k e u r.
    run_on (of_ints P f k) h ls vs (Int y ∷ Int x ∷ us) e u is
    (let k' = Push (PlainInt (f x y)) k in subst (λ sc. Runs sc (view h ls us) e u) (sym (other P y k' d))
    (run_off k h ls new (Int (f x y) ∷ us) e u (push ∙ ap (λ z. Int z ∷ us) made) r))

-- ---- longs

abbrev pub of_longs : ProgramTables → (ℤ → ℤ → ℤ) → Script → Script
of_longs P f k = on_longs (λ x y. not_zero P y (Push (PlainLong (f x y)) k))

long_rows : list_all (λ (r : Row). not (is_some (long_division r.code)) || (is_F20 r.family && not (is_some (int_division r.code)))) all_rows ≡ true
unfolding all_rows
long_rows = refl

none_of : {X : Type 0} (o : Option X) → not (is_some o) ≡ true → o ≡ None
none_of None s = refl
none_of (Some x) s = absurd cc

pub long_rule : (P : ProgramTables) (own : MethodInfo) (i : Instr) (found : Resolved) (code : ℕ) (f : ℤ → ℤ → ℤ) → IsRowOf code i.row → long_division code ≡ Some f
    → IsRule P own i found (of_longs P f)
long_rule P own i found code f r s = λ n.
    let b = each_row (λ r. is_some (long_division r.code)) (λ r. is_F20 r.family && not (is_some (int_division r.code))) long_rows i.row r.listed (ap (λ c. is_some (long_division c)) r.code ∙ ap is_some s) in
    let p = both (is_F20 i.row.family) (not (is_some (int_division i.row.code))) b in
    ap (λ f. rule f P own i.row i.args found (onward n)) (of_F20 i.row.family p.0)
    ∙ ap (λ c. division P c (onward n)) r.code
    ∙ ap (λ o. by_operands o (long_division code) (λ f. of_ints P f (onward n)) (λ f. of_longs P f (onward n))) (none_of (int_division code) (ap (λ c. not (is_some (int_division c))) (sym r.code) ∙ p.1))
    ∙ ap (λ o. by_operands None o (λ f. of_ints P f (onward n)) (λ f. of_longs P f (onward n))) s

pub long_leads : (P : ProgramTables) (f : ℤ → ℤ → ℤ) (h : Heap) (ls vs us new : List Value) (x y z : ℤ) → vs ≡ Long y ∷ Long x ∷ us → y ≢ pos 0 → z ≡ f x y → new ≡ Long z ∷ us
    → Leads (of_longs P f) (view h ls vs) (view h ls new)
long_leads P f h ls vs us new x y z is d made push = λ k e u r.
    run_on (of_longs P f k) h ls vs (Long y ∷ Long x ∷ us) e u is
    (let k' = Push (PlainLong (f x y)) k in subst (λ sc. Runs sc (view h ls us) e u) (sym (other P y k' d))
    (run_off k h ls new (Long (f x y) ∷ us) e u (push ∙ ap (λ z. Long z ∷ us) made) r))

-- ---- by zero

pub zero_w32 : (z : ℤ) → of_z w32 z ≡ 0 → mag z < 2 ^ 31 → z ≡ pos 0
zero_w32 (pos n) e l = ap pos e
zero_w32 (negsuc n) e l = absurd (omega (arith, e, l))

pub zero_w64 : (z : ℤ) → of_z w64 z ≡ 0 → mag z < 2 ^ 63 → z ≡ pos 0
zero_w64 (pos n) e l = ap pos e
zero_w64 (negsuc n) e l = absurd (omega (arith, e, l))

top_is : (y : ℤ) (v : Value) (vs us : List Value) → OnTop vs (λ v us. v ≡ Int y) → vs ≡ v ∷ us → v ≡ Int y
top_is y v vs us t is = subst (λ vs. OnTop vs (λ v us. v ≡ Int y)) is t

long_top_is : (y : ℤ) (v : Value) (vs us : List Value) → OnTop vs (λ v us. v ≡ Long y) → vs ≡ v ∷ us → v ≡ Long y
long_top_is y v vs us t is = subst (λ vs. OnTop vs (λ v us. v ≡ Long y)) is t

pub int_zero : (flow : Flow) (P : ProgramTables) (f : ℤ → ℤ → ℤ) (S : Doing) (h k : Heap) (ls ms vs : List Value) (y : ℤ) (told : Told)
    → CanBegin (of_ints P f) (view h ms vs) → OnTop vs (λ v us. v ≡ Int y) → y ≡ pos 0 → ((n : Option ℕ) → S n ≡ of_ints P f (onward n))
    → ((w : Within) → w.heap ≡ h → ThrewNew flow (throw_new P ArithmeticException) w told k) → Went flow P S (view h ls vs) told (view k ls vs)
int_zero flow P f S h k ls ms vs y told (j, e, u, r) top none same x =
    let s = takes_int (λ y. PopInt (λ x. not_zero P y (Push (PlainInt (f x y)) j))) h ms vs e u r in
    let t = takes_int (λ x. not_zero P s.number (Push (PlainInt (f x s.number)) j)) h ms s.rest e u s.runs in
    let is : vs ≡ Int (pos 0) ∷ Int t.number ∷ t.rest = s.is ∙ ap₂ ◌∷◌ (top_is y (Int s.number) vs s.rest top s.is ∙ ap Int none) t.is in
    went_by flow P S (λ n. of_ints P f (onward n)) (view h ls vs) told (view k ls vs) same
    (went_thrown flow P (λ n. of_ints P f (onward n)) (throw_new P ArithmeticException) (view h ls vs) (view h ls t.rest) told k refl refl
    (λ n e u r. run_on (of_ints P f (onward n)) h ls vs (Int (pos 0) ∷ Int t.number ∷ t.rest) e u is r)
    (λ n e u r. run_off (of_ints P f (onward n)) h ls vs (Int (pos 0) ∷ Int t.number ∷ t.rest) e u is r)
    (x (view h ls t.rest) refl))

pub long_zero : (flow : Flow) (P : ProgramTables) (f : ℤ → ℤ → ℤ) (S : Doing) (h k : Heap) (ls ms vs : List Value) (y : ℤ) (told : Told)
    → CanBegin (of_longs P f) (view h ms vs) → OnTop vs (λ v us. v ≡ Long y) → y ≡ pos 0 → ((n : Option ℕ) → S n ≡ of_longs P f (onward n))
    → ((w : Within) → w.heap ≡ h → ThrewNew flow (throw_new P ArithmeticException) w told k) → Went flow P S (view h ls vs) told (view k ls vs)
long_zero flow P f S h k ls ms vs y told (j, e, u, r) top none same x =
    let s = takes_long (λ y. PopLong (λ x. not_zero P y (Push (PlainLong (f x y)) j))) h ms vs e u r in
    let t = takes_long (λ x. not_zero P s.number (Push (PlainLong (f x s.number)) j)) h ms s.rest e u s.runs in
    let is : vs ≡ Long (pos 0) ∷ Long t.number ∷ t.rest = s.is ∙ ap₂ ◌∷◌ (long_top_is y (Long s.number) vs s.rest top s.is ∙ ap Long none) t.is in
    went_by flow P S (λ n. of_longs P f (onward n)) (view h ls vs) told (view k ls vs) same
    (went_thrown flow P (λ n. of_longs P f (onward n)) (throw_new P ArithmeticException) (view h ls vs) (view h ls t.rest) told k refl refl
    (λ n e u r. run_on (of_longs P f (onward n)) h ls vs (Long (pos 0) ∷ Long t.number ∷ t.rest) e u is r)
    (λ n e u r. run_off (of_longs P f (onward n)) h ls vs (Long (pos 0) ∷ Long t.number ∷ t.rest) e u is r)
    (x (view h ls t.rest) refl))

-- ---- what is on top

pub int_tops : (P : ProgramTables) (f : ℤ → ℤ → ℤ) (h : Heap) (ls vs : List Value) → CanBegin (of_ints P f) (view h ls vs) → IntOnTop vs
int_tops P f h ls vs (k, e, u, r) = int_top (λ y. PopInt (λ x. not_zero P y (Push (PlainInt (f x y)) k))) h ls vs e u r

pub long_tops : (P : ProgramTables) (f : ℤ → ℤ → ℤ) (h : Heap) (ls vs : List Value) → CanBegin (of_longs P f) (view h ls vs) → LongOnTop vs
long_tops P f h ls vs (k, e, u, r) = long_top (λ y. PopLong (λ x. not_zero P y (Push (PlainLong (f x y)) k))) h ls vs e u r

pub next_int : (P : ProgramTables) (f : ℤ → ℤ → ℤ) (h : Heap) (ls vs us : List Value) (y : ℤ) → CanBegin (of_ints P f) (view h ls vs) → vs ≡ Int y ∷ us → IntOnTop us
next_int P f h ls vs us y (k, e, u, r) is =
    int_top (λ x. not_zero P y (Push (PlainInt (f x y)) k)) h ls us e u (after_int (λ y. PopInt (λ x. not_zero P y (Push (PlainInt (f x y)) k))) y h ls vs us e u is r)

pub next_long : (P : ProgramTables) (f : ℤ → ℤ → ℤ) (h : Heap) (ls vs us : List Value) (y : ℤ) → CanBegin (of_longs P f) (view h ls vs) → vs ≡ Long y ∷ us → LongOnTop us
next_long P f h ls vs us y (k, e, u, r) is =
    long_top (λ x. not_zero P y (Push (PlainLong (f x y)) k)) h ls us e u (after_long (λ y. PopLong (λ x. not_zero P y (Push (PlainLong (f x y)) k))) y h ls vs us e u is r)

pub int_begun : (P : ProgramTables) (i : Instr) (code : ℕ) (h : Heap) (s : List Value) (d : ℕ) (f : ℤ → ℤ → ℤ) → IsRowOf code i.row → int_division code ≡ Some f
    → (can : CanReach P i h s d) → CanBegin (of_ints P f) (window h can.2 s d)
int_begun P i code h s d f r q can = begin_by P can.0 i can.1 (window h can.2 s d) (length s) (of_ints P f) (int_rule P can.0 i can.1 code f r q) can.3

pub long_begun : (P : ProgramTables) (i : Instr) (code : ℕ) (h : Heap) (s : List Value) (d : ℕ) (f : ℤ → ℤ → ℤ) → IsRowOf code i.row → long_division code ≡ Some f
    → (can : CanReach P i h s d) → CanBegin (of_longs P f) (window h can.2 s d)
long_begun P i code h s d f r q can = begin_by P can.0 i can.1 (window h can.2 s d) (length s) (of_longs P f) (long_rule P can.0 i can.1 code f r q) can.3

-- ---- what the code computed

some_eq : {X : Type 0} {a b : X} → Some a ≡ Some b → a ≡ b
some_eq e = cc

pub quotient : (w : Width) (o : Option (ℤ → ℤ → ℤ)) (f : ℤ → ℤ → ℤ) (q : Option ℤ) (x y m : ℤ) → SFits w x → SFits w y → SFits w m → o ≡ Some f
    → q ≡ option_map (λ op. op (to_z w (of_z w x)) (to_z w (of_z w y))) o → q ≡ Some m → to_z w (of_z w m) ≡ f x y
quotient w o f q x y m fx fy fm a b c =
    to_z-of_z w m fm ∙ some_eq (sym c ∙ b ∙ ap (option_map (λ op. op (to_z w (of_z w x)) (to_z w (of_z w y)))) a) ∙ ap₂ f (to_z-of_z w x fx) (to_z-of_z w y fy)

-- the topmost operand is the one that is popped
pub popped_int : (vs us : List Value) (y z : ℤ) → OnTop vs (λ v us. v ≡ Int y) → vs ≡ Int z ∷ us → y ≡ z
popped_int vs us y z t is = let e = top_is y (Int z) vs us t is in cc

pub popped_long : (vs us : List Value) (y z : ℤ) → OnTop vs (λ v us. v ≡ Long y) → vs ≡ Long z ∷ us → y ≡ z
popped_long vs us y z t is = let e = long_top_is y (Long z) vs us t is in cc
