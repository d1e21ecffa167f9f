use Rattle.std.proofs.Common.{◌%◌, ◌^◌, ◌*◌, ◌∙◌, ap, arith}
use Rattle.nr_heap.specs.Forms.{bits}
use Rattle.nr_heap.proofs.Lanes.{word_fits, word_stored}
use Rattle.nr_heap.proofs.form.Form.store.Goals as goal

pub overflow_add-result : goal.overflow_add-result
overflow_add-result c = record {
  fits =
      word_fits c.args.self c.args.place c.args.word c.lowest-old.result c.lowest-new.result (c.bits.result * c.args.place) c.args.value
      c.requires.place c.requires.holds c.bits_of_value.ensures.sized (omega (arith, c.ranges.word)) (ap (λ n. n * c.args.place) c.bits.ensures) c.lowest-old.ensures
      (c.lowest-new.ensures ∙ ap (λ n. n % 2 ^ bits c.args.self) c.bits_of_value.ensures.bits);
}

pub returns : goal.returns
returns c =
    word_stored c.args.self c.args.place c.args.word c.lowest-old.result c.lowest-new.result (c.bits.result * c.args.place) c.args.value
    c.requires.place c.requires.holds c.bits_of_value.ensures.sized (omega (arith, c.ranges.word)) (ap (λ n. n * c.args.place) c.bits.ensures) c.lowest-old.ensures
    (c.lowest-new.ensures ∙ ap (λ n. n % 2 ^ bits c.args.self) c.bits_of_value.ensures.bits)
