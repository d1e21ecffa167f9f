use Rattle.std.proofs.Common.{◌≡◌}
use Rattle.std.specs.Prelude.{IsSomeAnd}
use Rattle.std.specs.FinMap.{get}
use Rattle.nr_capture.specs.Drawing.{IsRead}
use Rattle.nr_capture.specs.Reading.{AreAt}
use Rattle.nr_capture.specs.Roots.{slots_at}
use Rattle.nr_capture.proofs.Found.{array_read, each_ok, fields_read, fields_within}
use Rattle.nr_capture.proofs.values.values_of.Goals as goal

pub returns-in-Some : goal.returns-in-Some
returns-in-Some c =
    let h = c.args.heap.now.objects in
    each_ok c.elements.result (λ values. values.items ≡ slots_at h c.args.name) (λ values. IsSomeAnd (get h c.args.name) (λ o. IsRead c.args.forms.now o values.items))
    (λ values same. array_read c.args.forms.now h c.args.name c.in-Some.len values.items c.in-Some.ensures same) c.elements.ensures

pub fields-requires-clause-within : goal.fields-requires-clause-within
fields-requires-clause-within c =
    fields_within c.args.forms.now c.args.heap.now.objects c.args.name c.requires.typed c.program_of.ensures.linked c.kind_of.result c.slots_of.result.now c.slots_of.ensures c.in-None.ensures c.kind_of.ensures

pub returns-in-None : goal.returns-in-None
returns-in-None c =
    let h = c.args.heap.now.objects in
    each_ok c.fields.result (λ values. AreAt (slots_at h c.args.name) c.slots_of.result.now values.items) (λ values. IsSomeAnd (get h c.args.name) (λ o. IsRead c.args.forms.now o values.items))
    (λ values at. fields_read c.args.forms.now h c.args.name c.requires.typed c.program_of.ensures.linked c.kind_of.result c.slots_of.result.now c.slots_of.ensures values.items c.in-None.ensures c.kind_of.ensures at) c.fields.ensures
