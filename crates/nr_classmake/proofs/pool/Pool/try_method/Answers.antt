use Rattle.std.proofs.Common.{◌∙◌}
use Rattle.nr_classmake.specs.Making.{names, body_names, method, and_then, nothing}
use Rattle.nr_classmake.proofs.Steps.{hands_on, goes_on, goes_ok, names_keep, code_keeps, then_keeps, nothing_keeps}
use Rattle.nr_classmake.proofs.pool.Pool.try_method.Goals as goal

pub returns-in_err-name : goal.returns-in_err-name
unfolding method
returns-in_err-name c =
    let second = body_names c.args.code.now in
    hands_on (names c.args.name.now c.args.desc.now) (λ m. and_then second (λ k. nothing m)) c.from_residual.result c.in_err-name.field-0.0 c.args.self.now c.try_names.new.self c.from_residual.ensures.1
    (λ m. then_keeps second (λ k. nothing m) (code_keeps c.args.code.now) (λ k. nothing_keeps m)) c.in_err-name.ensures

pub returns-in_err-body : goal.returns-in_err-body
unfolding method
returns-in_err-body c =
    let second = body_names c.args.code.now in
    goes_on (names c.args.name.now c.args.desc.now) (λ m. and_then second (λ k. nothing m)) c.from_residual-in_err-body.result (c.in_ok-name.name, c.in_ok-name.desc) c.args.self.now c.try_names.new.self c.try_body.new.self (names_keep c.args.name.now c.args.desc.now) c.in_ok-name.ensures
    (hands_on second (λ k. nothing (c.in_ok-name.name, c.in_ok-name.desc)) c.from_residual-in_err-body.result c.in_err-body.field-0.0 c.try_names.new.self c.try_body.new.self c.from_residual-in_err-body.ensures.1
    (λ k. nothing_keeps (c.in_ok-name.name, c.in_ok-name.desc)) c.in_err-body.ensures)

pub returns : goal.returns
unfolding method
returns c =
    let second = body_names c.args.code.now in
    goes_ok (names c.args.name.now c.args.desc.now) (λ m. and_then second (λ k. nothing m)) c.args.self.now c.try_names.new.self (c.in_ok-name.name, c.in_ok-name.desc) c.in_ok-name.ensures
    ∙ goes_ok second (λ k. nothing (c.in_ok-name.name, c.in_ok-name.desc)) c.try_names.new.self c.try_body.new.self c.in_ok-body.body c.in_ok-body.ensures
