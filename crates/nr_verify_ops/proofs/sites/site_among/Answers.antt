use Rattle.std.proofs.Common.{rules, ap, sym, ◌∙◌, slice_index_or}
use Rattle.std.specs.Option.{option_map}
use Rattle.std.proofs.lemmas.Cmp.{ranked}
use Rattle.std.proofs.lemmas.List.Sorted.{answers_always}
use Rattle.nr_prog.specs.declared.body.instruction.Instr.{Instr}
use Rattle.nr_verify_ops.proofs.Searching.{beside, site_found, site_missed}
use Rattle.nr_verify_ops.proofs.sites.site_among.Goals as goal

pub returns-in-Ok : goal.returns-in-Ok
returns-in-Ok c =
    let d = c.index-instrs-place.result in
    let i = slice_index_or c.args.instrs.now c.in-Ok.place d in
    let here = ranked i.at c.args.at _ (sym (c.in-Ok.ensures.position (λ (i : Instr). i.at) (answers_always _ _ _ (λ f a r g called. search rules)) d)) in
    c.beside.ensures ∙ (ap (λ o. option_map (beside i) o) c.found_at.ensures
    ∙ site_found c.args.at c.args.instrs.now c.args.resolved.now c.in-Ok.place d c.requires c.in-Ok.ensures.bound here)

pub returns-in-Err : goal.returns-in-Err
returns-in-Err c = site_missed c.args.instrs.now c.requires c.args.at c.args.resolved.now c.in-Err.field-0
    (c.in-Err.ensures.position (λ (i : Instr). i.at) (answers_always _ _ _ (λ f a r g called. search rules)))
