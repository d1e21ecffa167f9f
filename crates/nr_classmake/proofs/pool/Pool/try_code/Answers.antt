use Rattle.std.specs.Prelude.{codes}
use Rattle.nr_prog.specs.declared.pool.PoolEntry.TheVariants.{Utf8}
use Rattle.nr_classmake.specs.Making.{code_names, maps_name}
use Rattle.nr_classmake.specs.Places.{with_entry}
use Rattle.nr_classmake.proofs.Steps.{hands_on, goes_on, entry_keeps, maps_keep}
use Rattle.nr_classmake.proofs.pool.Pool.try_code.Goals as goal

pub returns-in_err-attribute : goal.returns-in_err-attribute
unfolding code_names
returns-in_err-attribute c =
    hands_on (with_entry (Utf8 (codes "Code"))) (λ _. maps_name c.args.code.now.maps) c.from_residual.result c.in_err-attribute.field-0.0 c.args.self.now c.try_text.new.self c.from_residual.ensures.1 (λ _. maps_keep c.args.code.now.maps) c.in_err-attribute.ensures

pub returns : goal.returns
unfolding code_names
returns c =
    goes_on (with_entry (Utf8 (codes "Code"))) (λ _. maps_name c.args.code.now.maps) c.try_maps_name.result c.in_ok-attribute.attribute c.args.self.now c.try_text.new.self c.try_maps_name.new.self (entry_keeps (Utf8 (codes "Code"))) c.in_ok-attribute.ensures c.try_maps_name.ensures
