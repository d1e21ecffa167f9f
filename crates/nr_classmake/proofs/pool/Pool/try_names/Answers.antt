use Rattle.std.proofs.Common.{◌≡◌, Err, subst, ◌∙◌}
use Rattle.nr_prog.specs.declared.pool.PoolEntry.TheVariants.{Utf8}
use Rattle.nr_classmake.specs.Making.{names, and_then, nothing}
use Rattle.nr_classmake.specs.Places.{with_entry}
use Rattle.nr_classmake.specs.Words.{Tries}
use Rattle.nr_classmake.proofs.Steps.{hands_on, goes_on, goes_ok, entry_keeps, then_keeps, nothing_keeps}
use Rattle.nr_classmake.proofs.pool.Pool.try_names.Goals as goal

pub returns-in_err-name : goal.returns-in_err-name
unfolding names
returns-in_err-name c =
    let desc = with_entry (Utf8 c.args.desc.now) in
    hands_on (with_entry (Utf8 c.args.name.now)) (λ n. and_then desc (λ d. nothing (n, d))) c.from_residual.result c.in_err-name.field-0.0 c.args.self.now c.try_text.new.self c.from_residual.ensures.1
    (λ n. then_keeps desc (λ d. nothing (n, d)) (entry_keeps (Utf8 c.args.desc.now)) (λ d. nothing_keeps (n, d)))
    (subst (λ x. Tries (Err c.in_err-name.field-0.0) c.args.self.now c.try_text.new.self (with_entry (Utf8 x) c.args.self.now)) c.as_bytes.ensures.bytes c.in_err-name.ensures)

pub returns-in_err-desc : goal.returns-in_err-desc
unfolding names
returns-in_err-desc c =
    let desc = with_entry (Utf8 c.args.desc.now) in
    goes_on (with_entry (Utf8 c.args.name.now)) (λ n. and_then desc (λ d. nothing (n, d))) c.from_residual-in_err-desc.result c.in_ok-name.name c.args.self.now c.try_text.new.self c.try_text-2.new.self (entry_keeps (Utf8 c.args.name.now))
    (subst (λ x. with_entry (Utf8 x) c.args.self.now ≡ (c.try_text.new.self, c.in_ok-name.name)) c.as_bytes.ensures.bytes c.in_ok-name.ensures)
    (hands_on desc (λ d. nothing (c.in_ok-name.name, d)) c.from_residual-in_err-desc.result c.in_err-desc.field-0.0 c.try_text.new.self c.try_text-2.new.self c.from_residual-in_err-desc.ensures.1 (λ d. nothing_keeps (c.in_ok-name.name, d))
    (subst (λ x. Tries (Err c.in_err-desc.field-0.0) c.try_text.new.self c.try_text-2.new.self (with_entry (Utf8 x) c.try_text.new.self)) c.as_bytes-2.ensures.bytes c.in_err-desc.ensures))

pub returns : goal.returns
unfolding names
returns c =
    let one : with_entry (Utf8 c.args.name.now) c.args.self.now ≡ (c.try_text.new.self, c.in_ok-name.name) = subst (λ x. with_entry (Utf8 x) c.args.self.now ≡ (c.try_text.new.self, c.in_ok-name.name)) c.as_bytes.ensures.bytes c.in_ok-name.ensures in
    let two : with_entry (Utf8 c.args.desc.now) c.try_text.new.self ≡ (c.try_text-2.new.self, c.in_ok-desc.desc) = subst (λ x. with_entry (Utf8 x) c.try_text.new.self ≡ (c.try_text-2.new.self, c.in_ok-desc.desc)) c.as_bytes-2.ensures.bytes c.in_ok-desc.ensures in
    goes_ok (with_entry (Utf8 c.args.name.now)) (λ n. and_then (with_entry (Utf8 c.args.desc.now)) (λ d. nothing (n, d))) c.args.self.now c.try_text.new.self c.in_ok-name.name one
    ∙ goes_ok (with_entry (Utf8 c.args.desc.now)) (λ d. nothing (c.in_ok-name.name, d)) c.try_text.new.self c.try_text-2.new.self c.in_ok-desc.desc two
