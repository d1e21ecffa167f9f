use Rattle.nr_typelaws.proofs.Decides.{sound, complete}
use Rattle.nr_typelaws.proofs.law.no_first_fault_means_well_typed.Goals as goal

pub returns : goal.returns
returns c = λ p laid. ((λ none. sound p laid none), (λ typed. complete p laid typed))
