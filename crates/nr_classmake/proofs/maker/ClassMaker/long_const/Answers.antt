use Rattle.std.proofs.Common.{subst, rules, w64}
use Rattle.std.specs.Int.RustNames.{FitsSigned}
use Rattle.std.proofs.lemmas.Int.{to_z-of_z}
use Rattle.nr_prog.specs.declared.pool.PoolEntry.TheVariants.{Long}
use Rattle.nr_classmake.specs.Items.{LongNumber}
use Rattle.nr_classmake.specs.Places.{with_entry}
use Rattle.nr_classmake.specs.Words.{Makes}
use Rattle.nr_classmake.proofs.Parts.{places}
use Rattle.nr_classmake.proofs.maker.ClassMaker.long_const.Goals as goal

pub returns : goal.returns
returns c =
    let f : FitsSigned w64 c.args.value = search rules in
    let p = places c.entry.result _ c.args.self.now c.entry.new.self (LongNumber c.args.value) c.self.view_is
    (subst (λ n. Makes c.entry.result c.self.inside.pool c.entry.new.self (with_entry (Long n) c.self.inside.pool)) (to_z-of_z w64 c.args.value f) c.entry.ensures) in
    record { made = p.0; place = p.1 }
