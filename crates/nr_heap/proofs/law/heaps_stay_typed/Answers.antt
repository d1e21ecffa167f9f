use Rattle.nr_heap.proofs.Typed.{kept, passes, typed_array, typed_cut, typed_object, typed_slot}
use Rattle.nr_heap.proofs.law.heaps_stay_typed.Goals as goal

pub returns-clause-object : goal.returns-clause-object
returns-clause-object c = λ p old new name k typed can. typed_object p old new name k typed (passes _ can)

pub returns-clause-array : goal.returns-clause-array
returns-clause-array c = λ p old new name n e typed self. typed_array p old new name n e typed (passes _ self)

pub returns-clause-slot : goal.returns-clause-slot
returns-clause-slot c = typed_slot

pub returns-clause-kept : goal.returns-clause-kept
returns-clause-kept c = kept

pub returns-clause-cut : goal.returns-clause-cut
returns-clause-cut c = typed_cut
