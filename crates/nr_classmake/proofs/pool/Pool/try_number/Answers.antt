use Rattle.std.proofs.Common.{subst, ap, ◌∙◌, rules, w64}
use Rattle.std.specs.Int.RustNames.{FitsSigned}
use Rattle.std.proofs.lemmas.Int.{to_z-of_z}
use Rattle.std.specs.Prelude.{codes}
use Rattle.nr_prog.specs.declared.pool.PoolEntry.TheVariants.{Utf8}
use Rattle.nr_classmake.specs.Making.{number, number_entry}
use Rattle.nr_classmake.specs.Places.{with_entry}
use Rattle.nr_classmake.specs.Words.{Tries}
use Rattle.nr_classmake.proofs.Steps.{hands_on, goes_on, entry_keeps}
use Rattle.nr_classmake.proofs.pool.Pool.try_number.Goals as goal

pub returns-in_err-attribute : goal.returns-in_err-attribute
unfolding number
returns-in_err-attribute c =
    hands_on (with_entry (Utf8 (codes "ConstantValue"))) (λ _. with_entry (number_entry c.args.long c.args.value)) c.from_residual.result c.in_err-attribute.field-0.0 c.args.self.now c.try_text.new.self c.from_residual.ensures.1 (λ _. entry_keeps (number_entry c.args.long c.args.value)) c.in_err-attribute.ensures

pub returns : goal.returns
unfolding number
returns c =
    let f : FitsSigned w64 c.args.value = search rules in
    let e = c.number_entry.ensures.entry ∙ ap (number_entry c.args.long) (to_z-of_z w64 c.args.value f) in
    goes_on (with_entry (Utf8 (codes "ConstantValue"))) (λ _. with_entry (number_entry c.args.long c.args.value)) c.place.result c.in_ok-attribute.attribute c.args.self.now c.try_text.new.self c.place.new.self (entry_keeps (Utf8 (codes "ConstantValue"))) c.in_ok-attribute.ensures
    (subst (λ e. Tries c.place.result c.try_text.new.self c.place.new.self (with_entry e c.try_text.new.self)) e c.place.ensures)
