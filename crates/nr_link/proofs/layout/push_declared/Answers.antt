use Rattle.std.proofs.Common.{◌≡◌, ◌++◌, sym, ap, subst, ◌∙◌}
use Rattle.std.specs.Prelude.{All, List, OnOk, Option}
use Rattle.std.specs.Option.{option_and_then}
use Rattle.nr_linked.specs.declared.program.tables.ClassInfo.{ClassInfo}
use Rattle.nr_link.proofs.Meant.{meant_here}
use Rattle.nr_prog.specs.declared.member.Field.{Field}
use Rattle.nr_prog.specs.declared.parts.ClassParts.{ClassParts}
use Rattle.nr_linked.specs.declared.program.tables.SlotInfo.{SlotInfo}
use Rattle.nr_link.specs.Entries.{HasFieldTexts}
use Rattle.nr_link.proofs.Layouts.{declared_by}
use Rattle.nr_link.proofs.Texts.{have_field_texts}
use Rattle.nr_link.proofs.layout.push_declared.Goals as goal

pub push_slots_of-requires-clause-texts : goal.push_slots_of-requires-clause-texts
push_slots_of-requires-clause-texts c =
    let e = c.as_slice-fields.ensures ∙ ap (λ (p : ClassParts). p.fields) c.parts.ensures.parts in
    subst (λ (fs : List Field). All (HasFieldTexts c.in-Some-read.class.pool) fs) (sym e) (have_field_texts c.in-Some-read.class c.parts.ensures.formed)

pub push_slots_of-requires-clause-meanings : goal.push_slots_of-requires-clause-meanings
push_slots_of-requires-clause-meanings c =
    meant_here c.args.tables.now c.args.place c.in-Some-read.class c.meanings_in-meanings.result.now
    (sym (ap (λ (o : Option ClassInfo). option_and_then (λ (e : ClassInfo). e.read) o) (sym c.in-Some.ensures) ∙ c.in-Some-read.is)) c.meanings_in-meanings.ensures

pub returns-clause-added : goal.returns-clause-added
returns-clause-added c =
    let e = c.as_slice-fields.ensures ∙ ap (λ (p : ClassParts). p.fields) c.parts.ensures.parts in
    subst (λ (xs : List SlotInfo). OnOk c.push_slots_of.result (c.push_slots_of.new.slots ≡ c.args.slots.now ++ xs))
    (declared_by c.args.tables.now c.args.place c.in-Some.info.now c.in-Some-read.class c.as_slice-fields.result.now (sym c.in-Some.ensures) c.in-Some-read.is e)
    c.push_slots_of.ensures.added
