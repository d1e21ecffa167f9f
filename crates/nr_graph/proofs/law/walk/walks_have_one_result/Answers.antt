use Rattle.nr_graph.proofs.Walks.{led_on, met_has, no_names_once, one_refused, one_walk, refused_met, root_met, walk_once}
use Rattle.nr_graph.proofs.law.walk.walks_have_one_result.Goals as goal

pub returns-clause-one : goal.returns-clause-one
returns-clause-one c = λ next xs seen a b w v. one_walk next w v

pub returns-clause-once : goal.returns-clause-once
returns-clause-once c = λ next xs out w. walk_once next w no_names_once

pub returns-clause-roots : goal.returns-clause-roots
returns-clause-roots c = λ next xs out x w h. root_met next w x h

pub returns-clause-closed : goal.returns-clause-closed
returns-clause-closed c = λ next xs out x y w h i. led_on next w x y h i

pub returns-clause-refused : goal.returns-clause-refused
returns-clause-refused c = λ next refused xs seen x y m n. one_refused next refused m n

pub returns-clause-met : goal.returns-clause-met
returns-clause-met c = λ next refused xs seen out x m w. let r = refused_met next refused m w in (r.0, met_has out x r.1)
