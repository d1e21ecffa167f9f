use Rattle.std.proofs.Common.{◌+◌, ◌∙◌, ap₂, sym, subst, get_or}
use Rattle.std.specs.Prelude.{slice_set}
use Rattle.std.specs.List.{zip}
use Rattle.nr_heap.specs.Forms.{values_in, value_in}
use Rattle.nr_heap.specs.Arenas.{IsWritten}
use Rattle.nr_heap.proofs.Slots.{element_stored, slot_stored, value_alone}
use Rattle.nr_heap.proofs.place.Place.store.Goals as goal

pub returns-in-Some : goal.returns-in-Some
returns-in-Some c =
    subst (λ q. IsWritten c.args.self c.args.slot c.args.value (zip c.args.forms.now c.args.words.now) (zip c.args.forms.now (slice_set c.args.words.now (c.args.self.start + q) c.store.result)))
    (sym c.place-word.ensures.word)
    (element_stored c.args.self c.args.forms.now c.args.words.now c.args.slot c.requires.slot c.requires.within c.requires.formed
    c.in-Some.form (sym c.of_elements.ensures ∙ c.in-Some.is) c.args.value c.store.result
    (c.store.ensures ∙ ap₂ (λ q r. slice_set (values_in c.in-Some.form (get_or c.args.words.now (c.args.self.start + q) 0)) r c.args.value) c.place-word.ensures.word c.place-word.ensures.place))

pub returns-in-None : goal.returns-in-None
returns-in-None c =
    slot_stored c.args.self c.args.forms.now c.args.words.now c.args.slot c.requires.slot c.requires.within c.requires.formed
    (sym c.of_elements.ensures ∙ c.in-None.is) c.args.value c.of_value.result c.bits_of_value.result
    (ap₂ value_in c.of_value.ensures c.bits_of_value.ensures.bits ∙ value_alone c.args.value c.bits_of_value.ensures.sized)
