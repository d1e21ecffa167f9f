use Rattle.std.proofs.Common.{sym, ◌∙◌}
use Rattle.nr_instrs.proofs.Forms.{component_told}
use Rattle.nr_instrs.proofs.pool.is_element_class.Goals as goal

pub returns-in-Some : goal.returns-in-Some
returns-in-Some c = c.has_arrays.ensures ∙ component_told c.args.class.now.pool c.args.index c.in-Some.form.now (sym c.in-Some.ensures)
