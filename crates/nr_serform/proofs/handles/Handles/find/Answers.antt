use Rattle.std.proofs.Common.{◌+◌, ap, refl}
use Rattle.nr_serform.proofs.KeyTables.{key_found, key_missed}
use Rattle.nr_serform.proofs.handles.Handles.find.Goals as goal

pub returns-in-Some : goal.returns-in-Some
returns-in-Some c =
    let found = key_found c.self.inside.keys.keys c.args.self.now c.args.key c.self.view_is c.in-Some.place c.in-Some.ensures.index c.in-Some.ensures.found in
    (ap (λ n. 0x7E0000 + n) found.0, found.1)

pub returns-in-None : goal.returns-in-None
returns-in-None c = key_missed c.self.inside.keys.keys c.args.self.now c.args.key c.self.view_is _ refl c.in-None.ensures.found
