use Rattle.std.proofs.Common.{rules}
use Rattle.std.proofs.lemmas.List.Sorted.{All-permutation, answers_always}
use Rattle.nr_serform.specs.Members.{IsShort}
use Rattle.nr_serform.proofs.SortedMembers.{sorted_members}
use Rattle.nr_serform.proofs.members.sort.Goals as goal

pub returns-clause-sorted : goal.returns-clause-sorted
returns-clause-sorted c =
    sorted_members _ _
    (c.in_ok-sort_by_key.ensures.sorted (λ m. (m.name, m.desc)) (answers_always _ _ _ (λ f a r g h. search rules)))
    (c.in_ok-sort_by_key.ensures.stable (λ m. (m.name, m.desc)) (answers_always _ _ _ (λ f a r g h. search rules)))

pub returns-clause-short : goal.returns-clause-short
returns-clause-short c = All-permutation IsShort _ _ c.in_ok-sort_by_key.ensures.permutation c.requires
