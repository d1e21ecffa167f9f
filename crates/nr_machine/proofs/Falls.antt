-- An instruction that goes on at the next one is of a family from which control falls through.
use Rattle.std.proofs.Common.{◌≡◌, ℕ, List, [], ◌∷◌, refl, sym, subst, ◌∙◌, Bool, true, false, cond}
use Rattle.std.specs.Prelude.{◌-ℤ◌, ℤ, Option, Some, None, IsSomeAnd, IsTrue, slice_get, ◌==◌, if◌then◌else◌}
use Rattle.std.specs.FinMap.{get}
use Rattle.nr_optable.specs.declared.table.Family.{Family}
use Rattle.nr_optable.specs.declared.table.Family.TheVariants.{F6, F28, F29, F36}
use Rattle.nr_optable.specs.declared.table.Letter.{Letter}
use Rattle.nr_optable.specs.declared.table.Letter.TheVariants as letters
use Rattle.nr_optable.specs.declared.table.Row.{Row}
use Rattle.nr_prog.specs.declared.body.instruction.Args.{Args}
use Rattle.nr_prog.specs.declared.body.instruction.Args.TheVariants as args
use Rattle.nr_linked.specs.declared.program.built_in.BuiltIn.TheVariants.{NullPointerException, Throwable}
use Rattle.nr_linked.specs.declared.program.tables.MethodInfo.{MethodInfo}
use Rattle.nr_linked.specs.declared.program.tables.ProgramTables.{ProgramTables}
use Rattle.nr_linked.specs.declared.program.tables.Resolved.{Resolved}
use Rattle.nr_linked.specs.BuiltIns.{built_in}
use Rattle.nr_linked.specs.Kinds.{class_kind}
use Rattle.nr_linked.specs.Subtypes.{is_sub}
use Rattle.nr_linked.specs.WellTyped.{falls_through}
use Rattle.nr_model.specs.declared.value.Value.{Value}
use Rattle.nr_model.specs.declared.value.Value.TheVariants.{Int, Long, Null, Ref}
use Rattle.nr_model.specs.Heaps.{Heap, Obj}
use Rattle.nr_model.specs.ObjectRules.{throw_top}
use Rattle.nr_model.specs.Rules.{first_letter, on_branch, rule, switch_rule}
use Rattle.nr_model.specs.Scripts.{Ending, Gave, GoTo, GoesTo, OnReference, PopInt, OnTop, Return, ReturnTop, Runs, Script, Threw, Throw, Within, is_null}
use Rattle.nr_model.specs.ValueRules.{target_at, target_of}
use Rattle.nr_model.specs.Throws.{onward, throw_new, typed, which}

-- no run of it goes on
abbrev NeverOn : Script → Type 0
NeverOn sc = (w u : Within) (n : ℕ) → Runs sc w (GoesTo n) u → ⊥

never_return : NeverOn Return
never_return w u n r = absurd (bad n r.0)
  where
    bad : (n : ℕ) → GoesTo n ≡ Gave None → ⊥
    bad n e = cc

never_top : NeverOn ReturnTop
never_top w u n r = go w.operands r
  where
    bad : (n : ℕ) (v : Value) → GoesTo n ≡ Gave (Some v) → ⊥
    bad n v e = cc

    go : (vs : List Value) → OnTop vs (λ v us. (GoesTo n ≡ Gave (Some v)) × (u ≡ record w { operands = us })) → ⊥
    go [] q = q
    go (v ∷ us) q = bad n v q.0

never_throw : NeverOn Throw
never_throw w u n r = go w.operands r
  where
    bad : (n a : ℕ) → GoesTo n ≡ Threw a → ⊥
    bad n a e = cc

    go : (vs : List Value) → Runs Throw (record w { operands = vs }) (GoesTo n) u → ⊥
    go [] q = q
    go (Int x ∷ us) q = q
    go (Long x ∷ us) q = q
    go (Null ∷ us) q = q
    go (Ref a ∷ us) q = bad n a q.0

never_typed : (l : Letter) → NeverOn (typed l ReturnTop)
never_typed letters.I w u n r = go w.operands r
  where
    go : (vs : List Value) → Runs (typed letters.I ReturnTop) (record w { operands = vs }) (GoesTo n) u → ⊥
    go [] q = q
    go (Int x ∷ us) q = never_top (record w { operands = Int x ∷ us }) u n q
    go (Long x ∷ us) q = q
    go (Null ∷ us) q = q
    go (Ref a ∷ us) q = q
never_typed letters.J w u n r = go w.operands r
  where
    go : (vs : List Value) → Runs (typed letters.J ReturnTop) (record w { operands = vs }) (GoesTo n) u → ⊥
    go [] q = q
    go (Int x ∷ us) q = q
    go (Long x ∷ us) q = never_top (record w { operands = Long x ∷ us }) u n q
    go (Null ∷ us) q = q
    go (Ref a ∷ us) q = q
never_typed letter w u n r = go w.operands r
  where
    go : (vs : List Value) → IsSomeAnd (slice_get vs 0) (λ v. OnReference v (λ r. Runs ReturnTop w (GoesTo n) u)) → ⊥
    go [] q = q
    go (Int x ∷ us) q = q
    go (Long x ∷ us) q = q
    go (Null ∷ us) q = never_top w u n q
    go (Ref a ∷ us) q = never_top w u n q

never_returns : (b : Bool) (l : Letter) → NeverOn (cond b Return (typed l ReturnTop))
never_returns true l = never_return
never_returns false l = never_typed l

module _ (P : ProgramTables) where
  never_kind : (b : Bool) → NeverOn (which b Throw)
  never_kind true w u n r = never_throw w u n r
  never_kind false w u n r = r

  abbrev w_of : Heap → List Value → List Value → List ℕ → Within
  w_of h ls vs bs = record { heap = h; locals = ls; operands = vs; printed = bs }

  never_new : (w u : Within) (n : ℕ) → Runs (throw_new P NullPointerException) w (GoesTo n) u → ⊥
  never_new w u n (a, fresh, q) = bad n a q.0
    where
      bad : (n a : ℕ) → GoesTo n ≡ Threw a → ⊥
      bad n a e = cc

  never_object : (o : Option Obj) (w u : Within) (n : ℕ) → IsSomeAnd o (λ o. Runs (which (is_sub P o.kind (class_kind (built_in P Throwable))) Throw) w (GoesTo n) u) → ⊥
  never_object None w u n q = q
  never_object (Some o) w u n q = never_kind (is_sub P o.kind (class_kind (built_in P Throwable))) w u n q

  never_thrown_of : (h : Heap) (ls vs : List Value) (bs : List ℕ) (u : Within) (n : ℕ) → Runs (throw_top P) (w_of h ls vs bs) (GoesTo n) u → ⊥
  never_thrown_of h ls [] bs u n r = r
  never_thrown_of h ls (Int x ∷ us) bs u n r = r
  never_thrown_of h ls (Long x ∷ us) bs u n r = r
  never_thrown_of h ls (Null ∷ us) bs u n r = never_new (w_of h ls (Null ∷ us) bs) u n r
  never_thrown_of h ls (Ref a ∷ us) bs u n r = never_object (get h a) (w_of h ls (Ref a ∷ us) bs) u n r

  never_thrown : NeverOn (throw_top P)
  never_thrown w u n r = never_thrown_of w.heap w.locals w.operands w.printed u n r

-- a goto and a switch go to places of their own
goes_same : (m n : ℕ) → GoesTo m ≡ GoesTo n → m ≡ n
goes_same m n e = cc

one_place : (t : ℕ) → GoesTo 0 ≡ GoesTo t → GoesTo 1 ≡ GoesTo t → ⊥
one_place t p q = bad (goes_same 0 t p ∙ sym (goes_same 1 t q))
  where
    bad : ◌≡◌ {A = ℕ} 0 1 → ⊥
    bad e = cc

goto_one : (a : Args) (w u v : Within) → Runs (on_branch a GoTo) w (GoesTo 0) u → Runs (on_branch a GoTo) w (GoesTo 1) v → ⊥
goto_one (args.Branch t) w u v p q = one_place t p.0 q.0
goto_one a w u v p q = p

by_int : (k : ℤ → ℕ) (h : Heap) (ls vs : List Value) (bs : List ℕ) (u v : Within) → Runs (PopInt (λ n. GoTo (k n))) (record { heap = h; locals = ls; operands = vs; printed = bs }) (GoesTo 0) u
    → Runs (PopInt (λ n. GoTo (k n))) (record { heap = h; locals = ls; operands = vs; printed = bs }) (GoesTo 1) v → ⊥
by_int k h ls [] bs u v p q = p
by_int k h ls (Int x ∷ us) bs u v p q = one_place (k x) p.0 q.0
by_int k h ls (Long x ∷ us) bs u v p q = p
by_int k h ls (Null ∷ us) bs u v p q = p
by_int k h ls (Ref a ∷ us) bs u v p q = p

switch_one : (a : Args) (w u v : Within) → Runs (switch_rule a) w (GoesTo 0) u → Runs (switch_rule a) w (GoesTo 1) v → ⊥
switch_one (args.Switch other low ts) w u v p q = by_int (λ n. target_at ts other (n -ℤ low)) w.heap w.locals w.operands w.printed u v p q
switch_one (args.Look other keys ts) w u v p q = by_int (λ n. target_of keys ts other n) w.heap w.locals w.operands w.printed u v p q
switch_one a w u v p q = p

-- where it goes on at whatever the next instruction is, there is a next one
pub next_falls : (family : Family) (P : ProgramTables) (own : MethodInfo) (row : Row) (a : Args) (found : Resolved) (w u : Within)
    → ((n : ℕ) → Runs (rule family P own row a found (onward (Some n))) w (GoesTo n) u) → falls_through family ≡ true
next_falls F6 P own row a found w u r = absurd (never_returns (row.code == 177) (first_letter row.pops) w u 0 (r 0))
next_falls F28 P own row a found w u r = absurd (goto_one a w u u (r 0) (r 1))
next_falls F29 P own row a found w u r = absurd (switch_one a w u u (r 0) (r 1))
next_falls F36 P own row a found w u r = absurd (never_thrown P w u 0 (r 0))
next_falls family P own row a found w u r = refl
