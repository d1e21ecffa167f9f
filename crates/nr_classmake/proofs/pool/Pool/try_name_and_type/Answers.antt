use Rattle.nr_prog.specs.declared.pool.PoolEntry.TheVariants.{NameAndType}
use Rattle.nr_classmake.specs.Making.{names, name_and_type}
use Rattle.nr_classmake.specs.Places.{with_entry}
use Rattle.nr_classmake.proofs.Steps.{hands_on, goes_on, entry_keeps, names_keep}
use Rattle.nr_classmake.proofs.pool.Pool.try_name_and_type.Goals as goal

pub returns-in_err-name : goal.returns-in_err-name
unfolding name_and_type
returns-in_err-name c =
    hands_on (names c.args.name.now c.args.desc.now) (λ m. with_entry (NameAndType m.0 m.1)) c.from_residual.result c.in_err-name.field-0.0 c.args.self.now c.try_names.new.self c.from_residual.ensures.1 (λ m. entry_keeps (NameAndType m.0 m.1)) c.in_err-name.ensures

pub returns : goal.returns
unfolding name_and_type
returns c =
    goes_on (names c.args.name.now c.args.desc.now) (λ m. with_entry (NameAndType m.0 m.1)) c.place.result _ c.args.self.now c.try_names.new.self c.place.new.self (names_keep c.args.name.now c.args.desc.now) c.in_ok-name.ensures c.place.ensures
