use Rattle.std.proofs.Common.{ℕ, ◌≡◌, Err, subst, ◌∙◌}
use Rattle.nr_prog.specs.declared.member.Field.{Field}
use Rattle.nr_classmake.specs.Making.{names, constant, is_long_desc, field, and_then, nothing}
use Rattle.nr_classmake.specs.Words.{Tries}
use Rattle.nr_classmake.proofs.Steps.{hands_on, goes_on, goes_ok, names_keep, constant_keeps, then_keeps, nothing_keeps}
use Rattle.nr_classmake.proofs.pool.Pool.try_field.Goals as goal

abbrev to_field : (flags name desc constant : ℕ) → Field
to_field flags name desc constant = record { flags = flags; name = name; desc = desc; constant = constant }

pub returns-in_err-name : goal.returns-in_err-name
unfolding field
returns-in_err-name c =
    let second = constant (is_long_desc c.args.desc.now) c.args.value in
    hands_on (names c.args.name.now c.args.desc.now) (λ m. and_then second (λ k. nothing (to_field c.args.flags m.0 m.1 k))) c.from_residual.result c.in_err-name.field-0.0 c.args.self.now c.try_names.new.self c.from_residual.ensures.1
    (λ m. then_keeps second (λ k. nothing (to_field c.args.flags m.0 m.1 k)) (constant_keeps (is_long_desc c.args.desc.now) c.args.value) (λ k. nothing_keeps (to_field c.args.flags m.0 m.1 k))) c.in_err-name.ensures

pub returns-in_err-constant : goal.returns-in_err-constant
unfolding field
returns-in_err-constant c =
    let second = constant (is_long_desc c.args.desc.now) c.args.value in
    goes_on (names c.args.name.now c.args.desc.now) (λ m. and_then second (λ k. nothing (to_field c.args.flags m.0 m.1 k))) c.from_residual-in_err-constant.result (c.in_ok-name.name, c.in_ok-name.desc) c.args.self.now c.try_names.new.self c.try_constant.new.self (names_keep c.args.name.now c.args.desc.now) c.in_ok-name.ensures
    (hands_on second (λ k. nothing (to_field c.args.flags c.in_ok-name.name c.in_ok-name.desc k)) c.from_residual-in_err-constant.result c.in_err-constant.field-0.0 c.try_names.new.self c.try_constant.new.self c.from_residual-in_err-constant.ensures.1
    (λ k. nothing_keeps (to_field c.args.flags c.in_ok-name.name c.in_ok-name.desc k)) (subst (λ b. Tries (Err c.in_err-constant.field-0.0) c.try_names.new.self c.try_constant.new.self (constant b c.args.value c.try_names.new.self)) c.is_long_desc-long.ensures c.in_err-constant.ensures))

pub returns : goal.returns
unfolding field
returns c =
    let second = constant (is_long_desc c.args.desc.now) c.args.value in
    goes_ok (names c.args.name.now c.args.desc.now) (λ m. and_then second (λ k. nothing (to_field c.args.flags m.0 m.1 k))) c.args.self.now c.try_names.new.self (c.in_ok-name.name, c.in_ok-name.desc) c.in_ok-name.ensures
    ∙ goes_ok second (λ k. nothing (to_field c.args.flags c.in_ok-name.name c.in_ok-name.desc k)) c.try_names.new.self c.try_constant.new.self c.in_ok-constant.constant (subst (λ b. constant b c.args.value c.try_names.new.self ≡ (c.try_constant.new.self, c.in_ok-constant.constant)) c.is_long_desc-long.ensures c.in_ok-constant.ensures)
