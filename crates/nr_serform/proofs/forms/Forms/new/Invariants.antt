use Rattle.std.proofs.Common.{◌≡◌, ℕ, length, Some}
use Rattle.std.specs.Prelude.{slice_get}
use Rattle.nr_serform.specs.declared.form.Form.{Form}
use Rattle.nr_serform.specs.Forms.{IsFormOf}
use Rattle.nr_serform.proofs.forms.Forms.new.Given as goal

abbrev pub invariant-loop-class : goal.invariant-loop-class
invariant-loop-class l = record {
  count : length l.forms.items ≡ l.«class»;
  each : (c : ℕ) (f : Form) → slice_get l.forms.items c ≡ Some f → IsFormOf l.program c f;
}
