use Rattle.std.proofs.Common.{◌+◌, ◌∙◌, ap, ap₂, sym, Some, get_or}
use Rattle.std.specs.Prelude.{slice_get}
use Rattle.nr_heap.specs.Forms.{values_in}
use Rattle.nr_heap.proofs.Slots.{element_loaded, slot_loaded}
use Rattle.nr_heap.proofs.place.Place.load.Goals as goal

pub returns-in-Some : goal.returns-in-Some
returns-in-Some c =
    element_loaded c.args.self c.args.forms.now c.args.words.now c.args.slot c.requires.slot c.requires.within c.requires.formed
    c.in-Some.form (sym c.of_elements.ensures ∙ c.in-Some.is) c.load.result
    (ap₂ (λ q r. slice_get (values_in c.in-Some.form (get_or c.args.words.now (c.args.self.start + q) 0)) r) (sym c.place-word.ensures.word) (sym c.place-word.ensures.place)
    ∙ c.load.ensures)

pub returns-in-None : goal.returns-in-None
returns-in-None c =
    slot_loaded c.args.self c.args.forms.now c.args.words.now c.args.slot c.requires.slot c.requires.within c.requires.formed
    (sym c.of_elements.ensures ∙ c.in-None.is) _ ∙ ap Some (sym c.value.ensures)
