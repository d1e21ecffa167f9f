use Rattle.nr_verify_ops.proofs.Initialising.{initialised_size, initialised_frame}
use Rattle.nr_verify_ops.proofs.frame.Frame.initialise.Goals as goal

pub invariant_of-self : goal.invariant_of-self
invariant_of-self c = initialised_size c.args.t c.args.«class» c.self.inside.stack.items c.initialise_listed.new.listed.items c.self.inside.size c.self.invariant c.initialise_listed.ensures

pub returns : goal.returns
returns c = initialised_frame c.args.t c.args.«class» c.self.inside.locals c.self.inside.stack.items c.self.inside.this_uninit c.args.is_this c.args.self.now
    c.initialise.new.self c.initialise_listed.new.listed.items c.stays_uninit-self-inside.result c.self.view_is
    c.initialise.ensures c.initialise_listed.ensures c.stays_uninit-self-inside.ensures
