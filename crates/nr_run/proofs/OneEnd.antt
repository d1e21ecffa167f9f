-- A run within a budget has one end at most.
use Rattle.std.proofs.Common.{◌≡◌, ℕ, List, [], ◌∷◌, refl, sym, ap, subst, ◌∙◌}
use Rattle.std.specs.Prelude.{Option, Some, None, IsSomeAnd, ℤ}
use Rattle.std.specs.FinMap.{get}
use Rattle.nr_linked.specs.declared.program.tables.ProgramTables.{ProgramTables}
use Rattle.nr_linked.specs.declared.program.kind.Kind.{Kind}
use Rattle.nr_linked.specs.Kinds.{class_in, class_kind}
use Rattle.nr_model.specs.declared.value.Value.TheVariants.{Int, Ref}
use Rattle.nr_model.specs.Heaps.{Obj}
use Rattle.nr_model.specs.Outcomes.{Ended, Fate, HeapFull, OutputTooLong, TooDeep}
use Rattle.nr_model.specs.Outcomes as outcomes
use Rattle.nr_model.specs.States.{State}
use Rattle.nr_model.specs.States as states
use Rattle.nr_model.proofs.Outcomes.{pairs_call}
use Rattle.nr_run.specs.declared.ran.Limit.{Limit as TheLimit}
use Rattle.nr_run.specs.declared.ran.Limit.TheVariants.{Cells, Depth, Output}
use Rattle.nr_run.specs.declared.ran.Ran.{Ran}
use Rattle.nr_run.specs.declared.ran.RunEnd.{RunEnd}
use Rattle.nr_run.specs.declared.ran.RunEnd.TheVariants.{Returned, Thrown, Budget, Limit, NoMemory}
use Rattle.nr_run.specs.Runs.{EndsAs, IsThrown, RunEnds, first_args, first_heap, limit_fate}
use Rattle.nr_run.proofs.Renamed.{ends_over, start_in}

-- ---- one state and one fate

one_limit : (l k : TheLimit) → limit_fate l ≡ limit_fate k → l ≡ k
one_limit Cells Cells e = refl
one_limit Depth Depth e = refl
one_limit Output Output e = refl
one_limit Cells Depth e = absurd cc
one_limit Cells Output e = absurd cc
one_limit Depth Cells e = absurd cc
one_limit Depth Output e = absurd cc
one_limit Output Cells e = absurd cc
one_limit Output Depth e = absurd cc

not_ended : (l : TheLimit) → limit_fate l ≡ Ended → ⊥
not_ended Cells e = cc
not_ended Depth e = cc
not_ended Output e = cc

not_spent : (l : TheLimit) → limit_fate l ≡ outcomes.BudgetSpent → ⊥
not_spent Cells e = cc
not_spent Depth e = cc
not_spent Output e = cc

some_eq : {X : Type 0} {x y : X} → Some x ≡ Some y → x ≡ y
some_eq e = cc

one_class : (o : Option Obj) (c d : ℕ) → IsSomeAnd o (λ o. o.kind ≡ class_kind c) → IsSomeAnd o (λ o. o.kind ≡ class_kind d) → c ≡ d
one_class None c d a b = elim a [ ]
one_class (Some o) c d a b = some_eq (ap (λ (k : Kind). class_in k.base) (sym a ∙ b))

one_thrown : (s : State) (c d : ℕ) → IsThrown s c → IsThrown s d → c ≡ d
one_thrown s c d x y =
    let e : states.Thrown (Ref x.object) ≡ states.Thrown (Ref y.object) = sym x.thrown ∙ y.thrown in
    let same : x.object ≡ y.object = cc in
    one_class (get s.heap y.object) c d (subst (λ a. IsSomeAnd (get s.heap a) (λ o. o.kind ≡ class_kind c)) same x.of_class) y.of_class

not_both : (s : State) (n : ℤ) (a : ℕ) → s.control ≡ states.Returned (Some (Int n)) → s.control ≡ states.Thrown (Ref a) → ⊥
not_both s n a e f = let g : states.Returned (Some (Int n)) ≡ states.Thrown (Ref a) = sym e ∙ f in cc

one_end : (fate : Fate) (s : State) (d e : RunEnd) → EndsAs fate s d → EndsAs fate s e → d ≡ e
one_end fate s (Returned n) (Returned k) a b = let e : states.Returned (Some (Int n)) ≡ states.Returned (Some (Int k)) = sym a.1 ∙ b.1 in cc
one_end fate s (Returned n) (Thrown c) a b = absurd (not_both s n b.1.object a.1 b.1.thrown)
one_end fate s (Returned n) Budget a b = let e : Ended ≡ outcomes.BudgetSpent = sym a.0 ∙ b in absurd cc
one_end fate s (Returned n) (Limit l) a b = absurd (not_ended l (sym b ∙ a.0))
one_end fate s (Thrown c) (Returned n) a b = absurd (not_both s n a.1.object b.1 a.1.thrown)
one_end fate s (Thrown c) (Thrown d) a b = ap Thrown (one_thrown s c d a.1 b.1)
one_end fate s (Thrown c) Budget a b = let e : Ended ≡ outcomes.BudgetSpent = sym a.0 ∙ b in absurd cc
one_end fate s (Thrown c) (Limit l) a b = absurd (not_ended l (sym b ∙ a.0))
one_end fate s Budget (Returned n) a b = let e : Ended ≡ outcomes.BudgetSpent = sym b.0 ∙ a in absurd cc
one_end fate s Budget (Thrown c) a b = let e : Ended ≡ outcomes.BudgetSpent = sym b.0 ∙ a in absurd cc
one_end fate s Budget Budget a b = refl
one_end fate s Budget (Limit l) a b = absurd (not_spent l (sym b ∙ a))
one_end fate s (Limit l) (Returned n) a b = absurd (not_ended l (sym a ∙ b.0))
one_end fate s (Limit l) (Thrown c) a b = absurd (not_ended l (sym a ∙ b.0))
one_end fate s (Limit l) Budget a b = absurd (not_spent l (sym a ∙ b))
one_end fate s (Limit l) (Limit k) a b = ap Limit (one_limit l k (sym a ∙ b))
one_end fate s NoMemory e a b = absurd a
one_end fate s d NoMemory a b = absurd b

-- ---- two outcomes

pub runs_end : (P : ProgramTables) (m : ℕ) (ints : List ℤ) (budget : ℕ) (r q : Ran) → RunEnds P m ints budget r → RunEnds P m ints budget q → r ≡ q
runs_end P m ints budget r q x y =
    let z = start_in P m 0 0 budget ints x.steps x.fate x.state x.outcome in
    let both = pairs_call P ((0, 0) ∷ []) (first_heap ints) (first_heap ints) m first_args first_args z.left z.right z.left_begins z.right_begins z.paired refl
    x.state y.state budget x.steps y.steps x.fate y.fate x.outcome y.outcome in
    let mine : EndsAs y.fate y.state r.end = subst (λ f. EndsAs f y.state r.end) both.1 (ends_over ((0, 0) ∷ []) x.state y.state both.2 x.fate r.end x.ends) in
    let ends = one_end y.fate y.state r.end q.end mine y.ends in
    let printed = x.printed ∙ both.2.printed ∙ sym y.printed in
    λ i. record { end = ends i; printed = printed i }
