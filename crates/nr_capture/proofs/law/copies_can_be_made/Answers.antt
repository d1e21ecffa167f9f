use Rattle.nr_capture.proofs.CopiesExist.{copied_args, copied_heap, copies_exist, copies_look}
use Rattle.nr_capture.proofs.law.copies_can_be_made.Goals as goal

pub returns : goal.returns
returns c = λ p h us names nodes g linked fits picture lists.
    let look = copies_look p h us names nodes g linked fits picture lists in (
      copied_heap p h us names nodes g linked fits picture lists,
      copied_args p h us names nodes g linked fits picture lists,
      look.0,
      copies_exist p h us names nodes g linked fits picture lists,
      look.1,
    )
