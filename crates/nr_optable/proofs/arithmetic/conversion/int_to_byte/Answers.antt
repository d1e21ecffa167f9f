use Rattle.std.proofs.Common.{◌∙◌, rules, w32, w8, FitsSigned}
use Rattle.nr_optable.proofs.Wraps.{wrap_rem, cast_back}
use Rattle.nr_optable.proofs.arithmetic.conversion.int_to_byte.Goals as goal

pub returns : goal.returns
returns c =
    let r : FitsSigned w32 c.rem_euclid-low.result = search rules in
    let s : FitsSigned w8 c.cast_signed.result = search rules in
    cast_back w8 _ s ∙ wrap_rem w32 w8 _ _ _ c.ranges.x r c.rem_euclid-low.ensures.value c.cast_signed.ensures
