-- What a script asks of the operands: what its beginning says of them, and how it leads on.
use Rattle.std.proofs.Common.{◌≡◌, ◌∙◌, ℕ, zero, suc, ◌<◌, ◌≤◌, ◌+◌, List, refl, sym, subst, Bool, true, false, arith, cond}
use Rattle.std.specs.Prelude.{Option, Some, None, IsSomeAnd, slice_get}
use Rattle.nr_model.specs.declared.value.Value.{Value}
use Rattle.nr_model.specs.Scripts.{AskLong, Ending, Runs, Script, Stuck, Within, is_long}
use Rattle.nr_model.specs.ValueRules.{by_size, single}
use Rattle.nr_step.specs.Windows.{CanBegin, Leads, top_first}

-- ---- operands in use

pub in_use : (stack : List Value) (d i : ℕ) (P : Value → Type 0) → IsSomeAnd (slice_get (top_first stack d) i) P → i < d
in_use stack zero i P s = absurd s
in_use stack (suc d) zero P s = omega arith
in_use stack (suc d) (suc i) P s = omega (arith, in_use stack d i P s)

-- ---- whether an operand is a long

-- the operand at a depth is one, or is none
abbrev pub IsLong : Bool → ℕ → List Value → Type 0
IsLong b d ops = IsSomeAnd (slice_get ops d) (λ v. is_long v ≡ b)

ask : (d : ℕ) (f : Bool → Script) (w u : Within) (e : Ending) (b : Bool) → IsLong b d w.operands → Runs (f b) w e u → Runs (AskLong d f) w e u
ask d f w u e b l r = go (slice_get w.operands d) l
  where
    go : (s : Option Value) → IsSomeAnd s (λ v. is_long v ≡ b) → IsSomeAnd s (λ v. Runs (f (is_long v)) w e u)
    go None l = absurd l
    go (Some v) l = subst (λ b. Runs (f b) w e u) (sym l) r

asked : (d : ℕ) (f : Bool → Script) (w u : Within) (e : Ending) (b : Bool) → IsLong b d w.operands → Runs (AskLong d f) w e u → Runs (f b) w e u
asked d f w u e b l r = go (slice_get w.operands d) l r
  where
    go : (s : Option Value) → IsSomeAnd s (λ v. is_long v ≡ b) → IsSomeAnd s (λ v. Runs (f (is_long v)) w e u) → Runs (f b) w e u
    go None l r = absurd l
    go (Some v) l r = subst (λ b. Runs (f b) w e u) l r

-- ---- an operand that is no long

short : (d : ℕ) (k : Script) (w u : Within) (e : Ending) → Runs (single d k) w e u → IsLong false d w.operands
short d k w u e r = go (slice_get w.operands d) r
  where
    each : (b : Bool) → Runs (cond b Stuck k) w e u → b ≡ false
    each true r = absurd r
    each false r = refl

    go : (s : Option Value) → IsSomeAnd s (λ v. Runs (cond (is_long v) Stuck k) w e u) → IsSomeAnd s (λ v. is_long v ≡ false)
    go None r = absurd r
    go (Some v) r = each (is_long v) r

pub begins_single : (d : ℕ) (F : Script → Script) (w : Within) → CanBegin (λ k. single d (F k)) w → IsLong false d w.operands × CanBegin F w
begins_single d F w (k, e, u, r) =
    let s = short d (F k) w u e r in
    (s, (k, e, u, asked d (λ long. cond long Stuck (F k)) w u e false s r))

pub leads_single : (d : ℕ) (F : Script → Script) (w v : Within) → IsLong false d w.operands → Leads F w v → Leads (λ k. single d (F k)) w v
leads_single d F w v s f = λ k e u r. ask d (λ long. cond long Stuck (F k)) w u e false s (f k e u r)

-- ---- by the size of an operand

pub begins_sized : (d : ℕ) (L S : Script → Script) (w : Within) → CanBegin (λ k. by_size d (L k) (S k)) w → IsSomeAnd (slice_get w.operands d) (λ v. Unit {0})
begins_sized d L S w (k, e, u, r) = go (slice_get w.operands d) r
  where
    go : (s : Option Value) → IsSomeAnd s (λ v. Runs (cond (is_long v) (L k) (S k)) w e u) → IsSomeAnd s (λ v. Unit {0})
    go None r = absurd r
    go (Some v) r = tt

pub begins_by : (d : ℕ) (L S : Script → Script) (w : Within) (b c : Bool) → IsLong b d w.operands → b ≡ c → CanBegin (λ k. by_size d (L k) (S k)) w
    → CanBegin (λ k. cond c (L k) (S k)) w
begins_by d L S w b c s p (k, e, u, r) =
    (k, e, u, subst (λ c. Runs (cond c (L k) (S k)) w e u) p (asked d (λ long. cond long (L k) (S k)) w u e b s r))

pub leads_by : (d : ℕ) (L S : Script → Script) (w v : Within) (b c : Bool) → IsLong b d w.operands → b ≡ c → Leads (λ k. cond c (L k) (S k)) w v
    → Leads (λ k. by_size d (L k) (S k)) w v
leads_by d L S w v b c s p f = λ k e u r.
    ask d (λ long. cond long (L k) (S k)) w u e b s (subst (λ c. Runs (cond c (L k) (S k)) w e u) (sym p) (f k e u r))

-- the room that copies need, where it is told by the size of an operand
pub room_by : (s : Option Value) (d n : ℕ) (b c : Bool) → IsSomeAnd s (λ v. d + cond (is_long v) 1 2 ≤ n) → IsSomeAnd s (λ v. is_long v ≡ b) → b ≡ c
    → d + cond c 1 2 ≤ n
room_by None d n b c r l p = absurd r
room_by (Some v) d n b c r l p = subst (λ c. d + cond c 1 2 ≤ n) (l ∙ p) r
