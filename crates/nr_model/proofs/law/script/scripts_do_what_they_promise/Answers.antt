use Rattle.std.specs.Prelude.{IsTrue}
use Rattle.nr_model.proofs.Wp.{runs, ends_so}
use Rattle.nr_model.proofs.law.script.scripts_do_what_they_promise.Goals as goal

pub returns-clause-runs : goal.returns-clause-runs
returns-clause-runs c = λ sc w test p. let z = runs (λ e v. IsTrue (test e v)) sc w p in (z.0.0, z.0.1, z.1)

pub returns-clause-passes : goal.returns-clause-passes
returns-clause-passes c = λ sc w v e test p r. ends_so (λ e v. IsTrue (test e v)) e v sc w p r
