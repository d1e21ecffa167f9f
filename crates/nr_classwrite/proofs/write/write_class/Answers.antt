use Rattle.std.proofs.Common.{List, ℕ, sym, subst}
use Rattle.nr_prog.specs.declared.parts.ClassParts.{ClassParts}
use Rattle.nr_classread.specs.ClassText.{ReadsAs}
use Rattle.nr_classwrite.proofs.Room.{methods_small, counts}
use Rattle.nr_classwrite.proofs.Classes.{class_spelled, class_back}
use Rattle.nr_classwrite.proofs.write.write_class.Goals as goal

pub class_fault-requires-clause-small : goal.class_fault-requires-clause-small
class_fault-requires-clause-small c = methods_small c.parts-parts.result.now (rw c.parts-parts.ensures.parts c.parts-parts.ensures.formed) (rw c.parts-parts.ensures.parts c.parts-parts.ensures.bounds)

pub written-requires-clause-counts : goal.written-requires-clause-counts
written-requires-clause-counts c = counts c.parts-parts.result.now (rw c.parts-parts.ensures.parts c.parts-parts.ensures.formed) (rw c.parts-parts.ensures.parts c.parts-parts.ensures.bounds) (sym c.in_default.ensures)

pub returns-clause-spelled : goal.returns-clause-spelled
returns-clause-spelled c = subst (λ (z : ClassParts). ReadsAs c.in_ok-written.field-0.items z) c.parts-parts.ensures.parts
    (subst (λ (z : List ℕ). ReadsAs z c.parts-parts.result.now) (sym c.in_ok-written.ensures.text) (class_spelled c.parts-parts.result.now (rw c.parts-parts.ensures.parts c.parts-parts.ensures.formed) (counts c.parts-parts.result.now (rw c.parts-parts.ensures.parts c.parts-parts.ensures.formed) (rw c.parts-parts.ensures.parts c.parts-parts.ensures.bounds) (sym c.in_default.ensures)) c.in_ok-written.ensures.fits (sym c.in_default.ensures)))

pub returns-clause-back : goal.returns-clause-back
returns-clause-back c = class_back c.in_ok-written.field-0.items c.args.class.now (
    subst (λ (z : ClassParts). ReadsAs c.in_ok-written.field-0.items z) c.parts-parts.ensures.parts
    (subst (λ (z : List ℕ). ReadsAs z c.parts-parts.result.now) (sym c.in_ok-written.ensures.text) (class_spelled c.parts-parts.result.now (rw c.parts-parts.ensures.parts c.parts-parts.ensures.formed) (counts c.parts-parts.result.now (rw c.parts-parts.ensures.parts c.parts-parts.ensures.formed) (rw c.parts-parts.ensures.parts c.parts-parts.ensures.bounds) (sym c.in_default.ensures)) c.in_ok-written.ensures.fits (sym c.in_default.ensures))))
