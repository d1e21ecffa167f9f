use Rattle.std.proofs.Common.{Err, ◌≡◌, subst}
use Rattle.nr_prog.specs.declared.pool.PoolEntry.TheVariants.{Utf8, Class}
use Rattle.nr_classmake.specs.Making.{class_ref}
use Rattle.nr_classmake.specs.Places.{with_entry}
use Rattle.nr_classmake.specs.Words.{Tries}
use Rattle.nr_classmake.proofs.Steps.{hands_on, goes_on, entry_keeps}
use Rattle.nr_classmake.proofs.pool.Pool.try_class.Goals as goal

pub returns-in_err-name : goal.returns-in_err-name
unfolding class_ref
returns-in_err-name c =
    hands_on (with_entry (Utf8 c.args.name.now)) (λ n. with_entry (Class n)) c.from_residual.result c.in_err-name.field-0.0 c.args.self.now c.try_text.new.self c.from_residual.ensures.1 (λ n. entry_keeps (Class n))
    (subst (λ x. Tries (Err c.in_err-name.field-0.0) c.args.self.now c.try_text.new.self (with_entry (Utf8 x) c.args.self.now)) c.as_bytes.ensures.bytes c.in_err-name.ensures)

pub returns : goal.returns
unfolding class_ref
returns c = goes_on (with_entry (Utf8 c.args.name.now)) (λ n. with_entry (Class n)) c.place.result c.in_ok-name.name c.args.self.now c.try_text.new.self c.place.new.self (entry_keeps (Utf8 c.args.name.now)) (subst (λ x. with_entry (Utf8 x) c.args.self.now ≡ (c.try_text.new.self, c.in_ok-name.name)) c.as_bytes.ensures.bytes c.in_ok-name.ensures) c.place.ensures
