use Rattle.std.proofs.Common.{◌/◌, ◌^◌, ◌*◌, ◌∙◌, ap, sym, Some}
use Rattle.nr_heap.specs.Forms.{per_word, value_in, values_in}
use Rattle.nr_heap.proofs.Lanes.{lane_at}
use Rattle.nr_heap.proofs.form.Form.load.Goals as goal

pub returns : goal.returns
unfolding values_in
returns c =
    lane_at c.args.self (per_word c.args.self) c.args.place c.args.word c.requires
    ∙ ap Some (ap (λ b. value_in c.args.self (c.args.word / 2 ^ (b * c.args.place))) (sym c.bits.ensures) ∙ sym c.value.ensures)
