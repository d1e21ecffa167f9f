-- The example's instructions stand in the order of their offsets.
use Rattle.std.proofs.Common.{◌≡◌, ℕ, zero, suc, List, [], ◌∷◌, subst, Bool, true, false, T, nat_lt}
use Rattle.std.specs.Prelude.{Option, Some, None, ◌&&◌, ◌==◌, slice_get}
use Rattle.std.proofs.Math.Facts.{eqb_yes, ltb_yes}
use Rattle.nr_prog.specs.declared.body.instruction.Instr.{Instr}
use Rattle.nr_prog.specs.declared.body.whole.Body.{Body}
use Rattle.nr_prog.specs.Offsets.{RiseAbove, StandInOrder}
use Rattle.nr_linked.specs.declared.program.tables.MethodInfo.{MethodInfo}
use Rattle.nr_linked.specs.BuiltIns.{built_in_class}
use Rattle.nr_linked.specs.BuiltInTables.{built_in_methods, built_in_method}
use Rattle.nr_linked.specs.Layout.{CodeInOrder}
use Rattle.nr_typed.specs.Example.{example}
use Rattle.nr_typed.proofs.Assigning.{and_both}
use Rattle.nr_typed.proofs.Steps.{none_some, some_same}

do_rise : ℕ → List Instr → Bool
do_rise at [] = true
do_rise at (i ∷ is) = nat_lt at i.at && do_rise i.at is

are_in_order : List Instr → Bool
are_in_order [] = false
are_in_order (i ∷ is) = i.at == 0 && do_rise i.at is

code_in_order : Option Body → Bool
code_in_order None = true
code_in_order (Some body) = are_in_order body.instrs

all_in_order : List MethodInfo → Bool
all_in_order [] = true
all_in_order (m ∷ ms) = code_in_order m.body && all_in_order ms

rise : (at : ℕ) (is : List Instr) → T (do_rise at is) → RiseAbove at is
unfolding do_rise
rise at [] p = tt
rise at (i ∷ is) p = let q = and_both (nat_lt at i.at) (do_rise i.at is) p in (ltb_yes q.0, rise i.at is q.1)

in_order : (is : List Instr) → T (are_in_order is) → StandInOrder is
unfolding are_in_order
in_order [] p = absurd p
in_order (i ∷ is) p = let q = and_both (i.at == 0) (do_rise i.at is) p in (eqb_yes q.0, rise i.at is q.1)

of_body : (o : Option Body) (body : Body) → o ≡ Some body → T (code_in_order o) → StandInOrder body.instrs
unfolding code_in_order
of_body None body e p = absurd (none_some e)
of_body (Some x) body e p = subst (λ (b : Body). StandInOrder b.instrs) (some_same e) (in_order x.instrs p)

of_methods : (ms : List MethodInfo) → T (all_in_order ms) → (n : ℕ) (m : MethodInfo) (body : Body) → slice_get ms n ≡ Some m → m.body ≡ Some body → StandInOrder body.instrs
unfolding all_in_order
of_methods [] p n m body e f = absurd (none_some e)
of_methods (x ∷ ms) p zero m body e f = of_body m.body body f (subst (λ (m : MethodInfo). T (code_in_order m.body)) (some_same e) (and_both (code_in_order x.body) (all_in_order ms) p).0)
of_methods (x ∷ ms) p (suc n) m body e f = of_methods ms (and_both (code_in_order x.body) (all_in_order ms) p).1 n m body e f

all_example : T (all_in_order example.methods)
unfolding do_rise are_in_order code_in_order all_in_order example built_in_methods built_in_method built_in_class
all_example = tt

pub example_in_order : CodeInOrder example
example_in_order n m body e f = of_methods example.methods all_example n m body e f
