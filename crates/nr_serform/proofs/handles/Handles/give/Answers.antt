use Rattle.nr_serform.proofs.KeyTables.{key_given}
use Rattle.nr_serform.proofs.handles.Handles.give.Goals as goal

pub returns-clause-ok : goal.returns-clause-ok
returns-clause-ok c = key_given c.self.inside.keys.keys c.args.self.now c.args.key c.self.view_is c.insert.new.self.keys c.requires c.in_ok-insert.ensures.keys
