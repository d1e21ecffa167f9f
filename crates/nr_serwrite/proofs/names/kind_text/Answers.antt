use Rattle.std.proofs.Common.{◌++◌, ◌∷◌, [], ap, ◌∙◌}
use Rattle.nr_serwrite.proofs.Dotted.{one_bracket_more}
use Rattle.nr_serwrite.proofs.names.kind_text.Goals as goal

pub loop-dim-preserved : goal.loop-dim-preserved
loop-dim-preserved c = c.in_ok-push.ensures.items ∙ ap (λ t. t ++ 0x5B ∷ []) c.loop-dim.invariant ∙ one_bracket_more c.loop-dim._dim 0x5B
