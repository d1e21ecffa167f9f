use Rattle.std.proofs.Common.{◌<◌, ◌^◌, length}
use Rattle.std.proofs.lemmas.List.Sorted.{All-permutation}
use Rattle.nr_serform.proofs.SortedMembers.{sorted_texts}
use Rattle.nr_serform.proofs.parts.sort_texts.Goals as goal

pub returns-clause-sorted : goal.returns-clause-sorted
returns-clause-sorted c = sorted_texts _ _ c.in_ok-sort.ensures.sorted c.in_ok-sort.ensures.stable

pub returns-clause-short : goal.returns-clause-short
returns-clause-short c = All-permutation (λ name. length name.now < 2 ^ 16) _ _ c.in_ok-sort.ensures.permutation c.requires
