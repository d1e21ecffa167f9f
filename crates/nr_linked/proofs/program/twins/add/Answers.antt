use Rattle.std.proofs.Common.{not, refl, ap, ◌∙◌}
use Rattle.nr_linked.proofs.SeenSlots.{contains_is_has, has_more}
use Rattle.nr_linked.proofs.program.twins.add.Goals as goal

pub returns-clause-new : goal.returns-clause-new
returns-clause-new c = c.in_ok-new.ensures.added ∙ ap not (contains_is_has c.args.seen.now c.args.slot.now (c.args.slot.now.declared_in, c.as_bytes.result) refl c.as_bytes.ensures.bytes)

pub returns-clause-kept : goal.returns-clause-kept
returns-clause-kept c = has_more c.args.seen.now c.insert.new.self c.args.slot.now (c.args.slot.now.declared_in, c.as_bytes.result) refl c.as_bytes.ensures.bytes c.in_ok-new.ensures.keys
