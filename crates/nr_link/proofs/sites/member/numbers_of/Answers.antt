use Rattle.std.proofs.Common.{◌≡◌, sym, ap, ◌∙◌}
use Rattle.std.specs.Prelude.{Some, option_copied}
use Rattle.nr_prog.specs.declared.pool.PoolEntry.TheVariants.{NameAndType}
use Rattle.nr_prog.specs.Pool.{entry_at}
use Rattle.nr_names.specs.Numbers.{texts}
use Rattle.nr_names.proofs.Numbering.{numbered_at}
use Rattle.nr_link.proofs.Looked.{both_numbers, number_told, numbers_here}
use Rattle.nr_link.proofs.sites.member.numbers_of.Goals as goal

pub returns-in_ok-number_at-in-Some-NameAndType-2 : goal.returns-in_ok-number_at-in-Some-NameAndType-2
returns-in_ok-number_at-in-Some-NameAndType-2 c =
    let known = texts c.args.lookup.now.texts in
    let pool = c.args.class.now.pool in
    let numbers = numbers_here c.args.tables.now known c.args.own c.args.class.now c.as_slice-numbers.result.now c.requires.here (c.as_slice-numbers.ensures ∙ c.in_ok-kept.ensures.kept.numbers) in
    let e = c.in-Some-NameAndType in
    both_numbers known pool c.args.member e.name e.desc c.in_ok-number_at-in-Some-NameAndType.field-0 c.in_ok-number_at-in-Some-NameAndType-2.field-0
    (sym c.entry.ensures ∙ ap option_copied e.is ∙ ap (λ entry. Some entry) e.field-0-is)
    (sym c.in_ok-number_at-in-Some-NameAndType.was ∙ numbered_at known pool c.as_slice-numbers.result.now e.name c.number_at.result numbers c.number_at.ensures)
    (sym c.in_ok-number_at-in-Some-NameAndType-2.was ∙ numbered_at known pool c.as_slice-numbers.result.now e.desc c.number_at-in-Some-NameAndType.result numbers c.number_at-in-Some-NameAndType.ensures)
