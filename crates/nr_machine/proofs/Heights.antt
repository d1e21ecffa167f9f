-- How many operands an instruction leaves that doesn't go on in its frame: no more than there were.
use Rattle.std.proofs.Common.{◌≡◌, ℕ, zero, suc, ◌+◌, ◌-◌, ◌<◌, ◌≤◌, ◌⊎◌, inl, inr, List, [], ◌∷◌, length, refl, sym, subst, ap, ◌∙◌, Bool, true, false, cond, arith}
use Rattle.std.specs.Prelude.{ℤ, pos, negsuc, Option, Some, None, IsSomeAnd, slice_get}
use Rattle.std.specs.FinMap.{get}
use Rattle.nr_linked.specs.declared.program.kind.Kind.{Kind}
use Rattle.nr_linked.specs.declared.program.tables.MethodInfo.{MethodInfo}
use Rattle.nr_linked.specs.declared.program.tables.ProgramTables.{ProgramTables}
use Rattle.nr_linked.specs.Sites.{Site}
use Rattle.nr_model.specs.declared.value.Value.{Value}
use Rattle.nr_model.specs.declared.value.Value.TheVariants.{Int, Long, Null, Ref}
use Rattle.nr_model.specs.Heaps.{Obj}
use Rattle.nr_model.specs.Rules.{script}
use Rattle.nr_model.specs.Scripts.{Script, GoTo, Throw, Return, ReturnTop, Call, Stuck, Push, PopInt, PopLong, Load, Store, Pick, Drop, AskLong, AskNull, AskSame, AskKind, ReadSlot, WriteSlot, Make, Print, Within, Ending, GoesTo, OnTop, OnInt, OnLong, OnRef, OnReference, is_long, is_null, is_same, IsIn, Runs, without}

-- With so many operands the script ends with no more than the limit, unless it goes on at an offset.
abbrev pub Low : ℕ → ℕ → Script → Type 0
Low m h (GoTo t) = Unit {0}
Low m h Throw = h ≤ suc m
Low m h Return = h ≤ m
Low m h ReturnTop = h ≤ suc m
Low m h (Call n) = h ≤ m
Low m h Stuck = Unit {0}
Low m h (Push c k) = Low m (suc h) k
Low m h (PopInt k) = (n : ℤ) → 1 ≤ h → Low m (h - 1) (k n)
Low m h (PopLong k) = (n : ℤ) → 1 ≤ h → Low m (h - 1) (k n)
Low m h (Load i k) = Low m (suc h) k
Low m h (Store i k) = Low m (h - 1) k
Low m h (Pick d k) = Low m (suc h) k
Low m h (Drop d k) = Low m (h - 1) k
Low m h (AskLong d k) = (b : Bool) → Low m h (k b)
Low m h (AskNull d k) = (b : Bool) → Low m h (k b)
Low m h (AskSame k) = (b : Bool) → Low m (h - 2) (k b)
Low m h (AskKind d k) = (kind : Kind) (n : ℕ) → Low m h (k kind n)
Low m h (ReadSlot i k) = Low m h k
Low m h (WriteSlot i k) = Low m (h - 2) k
Low m h (Make c ps k) = Low m (suc h) k
Low m h (Print bs k) = Low m h k

module _ {Z : Type 0} where
  at_some : {X : Type 0} (o : Option X) (Q : X → Type 0) → IsSomeAnd o Q → ((x : X) → Q x → Z) → Z
  at_some None Q q f = absurd q
  at_some (Some x) Q q f = f x q

  at_top : (vs : List Value) (Q : Value → List Value → Type 0) → OnTop vs Q → ((v : Value) (us : List Value) → suc (length us) ≡ length vs → Q v us → Z) → Z
  at_top [] Q q f = absurd q
  at_top (v ∷ us) Q q f = f v us refl q

  at_int : (v : Value) (Q : ℤ → Type 0) → OnInt v Q → ((n : ℤ) → Q n → Z) → Z
  at_int (Int n) Q q f = f n q
  at_int (Long n) Q q f = absurd q
  at_int Null Q q f = absurd q
  at_int (Ref a) Q q f = absurd q

  at_long : (v : Value) (Q : ℤ → Type 0) → OnLong v Q → ((n : ℤ) → Q n → Z) → Z
  at_long (Int n) Q q f = absurd q
  at_long (Long n) Q q f = f n q
  at_long Null Q q f = absurd q
  at_long (Ref a) Q q f = absurd q

  at_ref : (v : Value) (Q : ℕ → Type 0) → OnRef v Q → ((a : ℕ) → Q a → Z) → Z
  at_ref (Int n) Q q f = absurd q
  at_ref (Long n) Q q f = absurd q
  at_ref Null Q q f = absurd q
  at_ref (Ref a) Q q f = f a q

  at_reference : (v : Value) (Q : Option ℕ → Type 0) → OnReference v Q → ((r : Option ℕ) → Q r → Z) → Z
  at_reference (Int n) Q q f = absurd q
  at_reference (Long n) Q q f = absurd q
  at_reference Null Q q f = f None q
  at_reference (Ref a) Q q f = f (Some a) q

without_one : (d : ℕ) (vs : List Value) → d < length vs → length (without d vs) + 1 ≡ length vs
without_one d [] l = absurd (omega (arith, l))
without_one zero (v ∷ vs) l = omega arith
without_one (suc d) (v ∷ vs) l = omega (arith, without_one d vs (omega (arith, l)))

module _ (m : ℕ) (e : Ending) (u : Within) where
  -- it goes on, or there are no more than the limit
  abbrev Ends : Type 0
  Ends = ((n : ℕ) × (e ≡ GoesTo n)) ⊎ (length u.operands ≤ m)

  left_of : (vs : List Value) (w : Within) → u ≡ record w { operands = vs } → length u.operands ≡ length vs
  left_of vs w q = ap (λ (u : Within). length u.operands) q

  low_ends : (sc : Script) (w : Within) (h : ℕ) → length w.operands ≡ h → Low m h sc → Runs sc w e u → Ends
  low_ends (GoTo t) w h l q r = inl (t, r.0)
  low_ends Throw w h l q r = at_top w.operands _ r (λ v us s r. at_ref v _ r (λ a r. inr (omega (arith, l, s, q, ap (λ (u : Within). length u.operands) r.1))))
  low_ends Return w h l q r = inr (omega (arith, l, q, ap (λ (u : Within). length u.operands) r.1))
  low_ends ReturnTop w h l q r = at_top w.operands _ r (λ v us s r. inr (omega (arith, l, s, q, ap (λ (u : Within). length u.operands) r.1)))
  low_ends (Call n) w h l q r = inr (omega (arith, l, q, ap (λ (u : Within). length u.operands) r.1))
  low_ends Stuck w h l q r = absurd r
  low_ends (Push c k) w h l q r = low_ends k _ (suc h) (ap suc l) q r
  low_ends (PopInt k) w h l q r = at_top w.operands _ r (λ v us s r. at_int v _ r (λ n r. low_ends (k n) _ (h - 1) (omega (arith, l, s)) (q n (omega (arith, l, s))) r))
  low_ends (PopLong k) w h l q r = at_top w.operands _ r (λ v us s r. at_long v _ r (λ n r. low_ends (k n) _ (h - 1) (omega (arith, l, s)) (q n (omega (arith, l, s))) r))
  low_ends (Load i k) w h l q r = at_some (slice_get w.locals i) _ r (λ v r. low_ends k _ (suc h) (ap suc l) q r)
  low_ends (Store i k) w h l q r = at_top w.operands _ r (λ v us s r. low_ends k _ (h - 1) (omega (arith, l, s)) q r.1)
  low_ends (Pick d k) w h l q r = at_some (slice_get w.operands d) _ r (λ v r. low_ends k _ (suc h) (ap suc l) q r)
  low_ends (Drop d k) w h l q r = low_ends k _ (h - 1) (omega (arith, l, without_one d w.operands r.0)) q r.1
  low_ends (AskLong d k) w h l q r = at_some (slice_get w.operands d) _ r (λ v r. low_ends (k (is_long v)) w h l (q (is_long v)) r)
  low_ends (AskNull d k) w h l q r = at_some (slice_get w.operands d) _ r (λ v r. at_reference v _ r (λ a r. low_ends (k (is_null a)) w h l (q (is_null a)) r))
  low_ends (AskSame k) w h l q r = at_top w.operands _ r (λ v vs s r. at_top vs _ r (λ u us t r. at_reference v _ r (λ a r. at_reference u _ r (λ b r. low_ends (k (is_same a b)) _ (h - 2) (omega (arith, l, s, t)) (q (is_same a b)) r))))
  low_ends (AskKind d k) w h l q r = at_some (slice_get w.operands d) _ r (λ v r. at_ref v _ r (λ a r. at_some (get w.heap a) _ r (λ (o : Obj) r. low_ends (k o.kind (length o.slots)) w h l (q o.kind (length o.slots)) r)))
  low_ends (ReadSlot i k) w h l q r = at_top w.operands _ r (λ v us s r. at_ref v _ r (λ a r. at_some (get w.heap a) _ r (λ (o : Obj) r. at_some (slice_get o.slots i) _ r (λ x r. low_ends k _ h (s ∙ l) q r))))
  low_ends (WriteSlot i k) w h l q r = at_top w.operands _ r (λ x vs s r. at_top vs _ r (λ v us t r. at_ref v _ r (λ a r. at_some (get w.heap a) _ r (λ (o : Obj) r. low_ends k _ (h - 2) (omega (arith, l, s, t)) q r.1))))
  low_ends (Make c ps k) w h l q r = low_ends k _ (suc h) (ap suc l) q r.2
  low_ends (Print bs k) w h l q r = low_ends k _ h l q r

pub low_left : (sc : Script) (w u : Within) (e : Ending) (room : ℕ) → Low (length w.operands) (length w.operands) sc → Runs sc w e u → length w.operands ≤ room
    → ((n : ℕ) → e ≡ GoesTo n → length u.operands ≤ room) → length u.operands ≤ room
low_left sc w u e room q r l on = by (low_ends (length w.operands) e u sc w (length w.operands) refl q r)
  where
    by : ((n : ℕ) × (e ≡ GoesTo n)) ⊎ (length u.operands ≤ length w.operands) → length u.operands ≤ room
    by (inl p) = on p.0 p.1
    by (inr p) = omega (arith, p, l)
