use Rattle.nr_linkrules.proofs.Finding.{found_is_given}
use Rattle.nr_linkrules.proofs.GivenAll.{given_is_found}
use Rattle.nr_linkrules.proofs.law.found_is_what_linking_finds.Goals as goal

pub returns : goal.returns
returns c = λ P linked own e is parts formed texts place here at i text spelled r. (
  given_is_found parts.pool formed.entries texts P linked own e is place here i r (at, text, spelled),
  found_is_given P linked own e is parts.pool place here i r,
)
