use Rattle.std.proofs.Common.{refl}
use Rattle.std.proofs.lemmas.List.Sums.{AllPass-from_list_all}
use Rattle.nr_optable.specs.Rows.{all_rows}
use Rattle.nr_optable.specs.Operations.{has_operation}
use Rattle.nr_optable.proofs.lookup.operations_cover.Goals as goal

pub returns : goal.returns
unfolding all_rows
returns c = AllPass-from_list_all has_operation all_rows refl
