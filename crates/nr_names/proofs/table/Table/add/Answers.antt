use Rattle.std.proofs.Common.{◌≡◌, Option, Some, None, cond, sym, ap, subst, ◌∙◌}
use Rattle.std.specs.Option.{option_or}
use Rattle.nr_names.specs.declared.table.Key.{Key}
use Rattle.nr_names.specs.declared.table.Table.{Table}
use Rattle.nr_names.specs.Tables.{has_key, place_in}
use Rattle.nr_names.proofs.Listing.{adds_new}
use Rattle.nr_names.proofs.table.Table.add.Goals as goal

pub returns-in_ok-insert-in-None : goal.returns-in_ok-insert-in-None
returns-in_ok-insert-in-None c = λ k.
    let new : Table = record { places = c.insert.new.self } in
    subst (λ (key : Option Key). place_in new k ≡ option_or (place_in c.args.self.now k) (cond (has_key k key) (Some c.args.place) None)) (sym c.in-Some.is)
    (adds_new c.args.self.now new c.in-Some.key c.args.place (sym c.in-None.ensures.value) c.in_ok-insert-in-None.ensures.updates.0 k)
