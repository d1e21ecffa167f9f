use Rattle.std.proofs.Common.{◌≡◌, map, take}
use Rattle.nr_prog.specs.TextForms.{form_in}
use Rattle.nr_prog.proofs.form.texts.text_forms.Given as goal

abbrev pub invariant-loop-entry : goal.invariant-loop-entry
invariant-loop-entry l = l.forms ≡ map form_in (take l.entry-index l.pool)
