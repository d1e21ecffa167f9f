use Rattle.std.proofs.Common.{sym, ap, ◌∙◌}
use Rattle.nr_verify.specs.First.{first_refused}
use Rattle.nr_verify.proofs.Methods.{got, behind, goes_on}
use Rattle.nr_verify.proofs.program.check_methods.Goals as goal

pub check_named-requires : goal.check_named-requires
check_named-requires c = got c.args.p.now.methods c.loop-method.id c.in-Some.method.now c.in-Some.more.now (sym c.in-Some.ensures.cases.0 ∙ c.loop-method.invariant.behind)

pub loop-method-preserved : goal.loop-method-preserved
loop-method-preserved c = record {
  same = c.loop-method.invariant.same ∙ (ap (λ ms. first_refused c.args.p.now ms) c.in-Some.ensures.cases.0
      ∙ goes_on c.args.p.now c.in-Some.method.now c.in-Some.more.now c.in_ok-check_named.ensures);
  behind = behind c.args.p.now.methods c.loop-method.id c.in-Some.method.now c.in-Some.more.now (sym c.in-Some.ensures.cases.0 ∙ c.loop-method.invariant.behind);
}
