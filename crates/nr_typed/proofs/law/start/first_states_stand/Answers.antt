use Rattle.nr_typed.proofs.Progress.{first_state_stands, runs_give}
use Rattle.std.proofs.Common.{refl}
use Rattle.std.specs.Prelude.{[]}
use Rattle.nr_typed.specs.Standing.{first_state}
use Rattle.nr_typed.proofs.law.start.first_states_stand.Goals as goal

pub returns-clause-stands : goal.returns-clause-stands
returns-clause-stands c = λ p h n m body args facts typed is_method is_body th q. first_state_stands p facts typed m.result h th n m body is_method refl is_body args q []

pub returns-clause-results : goal.returns-clause-results
returns-clause-results c = λ p h n k m body args t v facts typed is_method is_body th q run e.
    runs_give p facts typed m.result k (first_state h n m args) t v (first_state_stands p facts typed m.result h th n m body is_method refl is_body args q []) run e
