-- Paired ends that threw threw objects of one class; and a closed start beside itself.
use Rattle.std.proofs.Common.{◌≡◌, ◌≢◌, ℕ, [], refl, sym, ap, subst, ◌∙◌}
use Rattle.std.specs.Prelude.{List, Option, Some, None}
use Rattle.std.specs.FinMap.{get}
use Rattle.nr_model.specs.declared.value.Value.{Value}
use Rattle.nr_model.specs.declared.value.Value.TheVariants.{Int, Long, Null, Ref}
use Rattle.nr_model.specs.Heaps.{Obj}
use Rattle.nr_model.specs.States.{Control, Running, Returned, Thrown, State}
use Rattle.nr_model.specs.Alike.{Like, like_int, like_long, like_null, like_ref, AlikeAt, alike_at, AlikeControl, both_run, both_return, both_throw}
use Rattle.nr_model.specs.Pairs.{IsClosed, NamedIn, PairedStates}
use Rattle.nr_model.proofs.Matchings.{AlikeState}
use Rattle.nr_model.proofs.Paths.{some_eq}
use Rattle.nr_model.proofs.Kept.{PairsOf, states_match, states_pair}
use Rattle.nr_model.proofs.Reached.{Self}
use Rattle.nr_model.proofs.Printed.{closed_alike}

module _ (R : ℕ → ℕ → Type 0) where
  ref_over : (u v : Value) (a : ℕ) → Like R u v → u ≡ Ref a → (b : ℕ) × (v ≡ Ref b) × R a b
  ref_over u v a (like_int {n = n}) e = absurd (bad e)
    where
      bad : Int n ≡ Ref a → ⊥
      bad e = cc
  ref_over u v a (like_long {n = n}) e = absurd (bad e)
    where
      bad : Long n ≡ Ref a → ⊥
      bad e = cc
  ref_over u v a like_null e = absurd (bad e)
    where
      bad : Null ≡ Ref a → ⊥
      bad e = cc
  ref_over u v a (like_ref {x = x} {y = y} r) e = (y, refl, subst (λ x. R x y) (inner e) r)
    where
      inner : Ref x ≡ Ref a → x ≡ a
      inner e = cc

  thrown_over : (c d : Control) (a : ℕ) → AlikeControl R c d → c ≡ Thrown (Ref a) → (b : ℕ) × (d ≡ Thrown (Ref b)) × R a b
  thrown_over c d a (both_run {fs = fs} bs) e = absurd (bad e)
    where
      bad : Running fs ≡ Thrown (Ref a) → ⊥
      bad e = cc
  thrown_over c d a (both_return {u = u} l) e = absurd (bad e)
    where
      bad : Returned u ≡ Thrown (Ref a) → ⊥
      bad e = cc
  thrown_over c d a (both_throw {u = u} {v = v} l) e = let r = ref_over u v a l (inner e) in (r.0, ap Thrown r.1, r.2)
    where
      inner : Thrown u ≡ Thrown (Ref a) → u ≡ Ref a
      inner e = cc

  kind_over : (o p : Option Obj) (x : Obj) → AlikeAt R o p → o ≡ Some x → (q : Obj) × (p ≡ Some q) × (q.kind ≡ x.kind)
  kind_over o p x (alike_at {o = c} {p = d} s) e = (d, refl, sym s.kind ∙ ap (λ (o : Obj). o.kind) (some_eq e))

pub one_class : (ps : List (ℕ × ℕ)) (s t : State) (a : ℕ) (o : Obj) → PairedStates ps s t → s.control ≡ Thrown (Ref a) → get s.heap a ≡ Some o
    → (b : ℕ) × (q : Obj) × (t.control ≡ Thrown (Ref b)) × (get t.heap b ≡ Some q) × (q.kind ≡ o.kind)
one_class ps s t a o p e f =
    let m : AlikeState (PairsOf ps s t p) s t = states_match ps s t p in
    let r = thrown_over (PairsOf ps s t p) s.control t.control a m.control e in
    let k = kind_over (PairsOf ps s t p) (get s.heap a) (get t.heap r.0) o (m.heap.alike a r.0 r.2) f in
    (r.0, k.0, r.1, k.1, k.2)

pub closed_pair : (s : State) → IsClosed s.heap → ((x : ℕ) → NamedIn s.control x → get s.heap x ≢ None) → PairedStates [] s s
closed_pair s closed held = states_pair [] (Self (λ x. get s.heap x ≢ None)) s s (closed_alike s closed held) (λ x y i. absurd i)
