use Rattle.std.proofs.Common.{true, false, refl, sym, ap, ◌∙◌}
use Rattle.std.specs.List.{list_all}
use Rattle.std.specs.Option.{option_map_or}
use Rattle.nr_link.specs.Meanings.{is_known}
use Rattle.nr_link.proofs.Meant.{all_known}
use Rattle.nr_link.proofs.meanings.knows.Goals as goal

pub returns-then-are_known : goal.returns-then-are_known
returns-then-are_known c =
    all_known c.args.tables.now c.args.desc.now.params c.args.desc.now.result true c.is_result_known.result
    (sym c.if-are_known.true ∙ c.are_known.ensures ∙ ap (list_all (is_known c.args.tables.now)) c.as_slice.ensures) c.is_result_known.ensures

pub returns-else-are_known : goal.returns-else-are_known
returns-else-are_known c =
    c.if-are_known.false
    ∙ all_known c.args.tables.now c.args.desc.now.params c.args.desc.now.result false (option_map_or (is_known c.args.tables.now) c.args.desc.now.result true)
    (sym c.if-are_known.false ∙ c.are_known.ensures ∙ ap (list_all (is_known c.args.tables.now)) c.as_slice.ensures) refl
