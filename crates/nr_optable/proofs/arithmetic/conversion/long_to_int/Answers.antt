use Rattle.std.proofs.Common.{◌∙◌, rules, w32, w64, FitsSigned}
use Rattle.nr_optable.proofs.Wraps.{wrap_rem, cast_back}
use Rattle.nr_optable.proofs.arithmetic.conversion.long_to_int.Goals as goal

pub returns : goal.returns
returns c =
    let r : FitsSigned w64 c.rem_euclid-low.result = search rules in
    let s : FitsSigned w32 c.cast_signed.result = search rules in
    cast_back w32 _ s ∙ wrap_rem w64 w32 _ _ _ c.ranges.x r c.rem_euclid-low.ensures.value c.cast_signed.ensures
