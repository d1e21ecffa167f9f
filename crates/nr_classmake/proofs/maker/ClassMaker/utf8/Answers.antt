use Rattle.std.proofs.Common.{subst}
use Rattle.nr_prog.specs.declared.pool.PoolEntry.TheVariants.{Utf8}
use Rattle.nr_classmake.specs.Items.{Text}
use Rattle.nr_classmake.specs.Places.{with_entry}
use Rattle.nr_classmake.specs.Words.{Makes}
use Rattle.nr_classmake.proofs.Parts.{places}
use Rattle.nr_classmake.proofs.maker.ClassMaker.utf8.Goals as goal

pub returns : goal.returns
returns c =
    let p = places c.entry.result _ c.args.self.now c.entry.new.self (Text c.args.bytes.now) c.self.view_is
    (subst (λ b. Makes c.entry.result c.self.inside.pool c.entry.new.self (with_entry (Utf8 b) c.self.inside.pool)) c.in_ok-text.ensures c.entry.ensures) in
    record { made = p.0; place = p.1 }
