use Rattle.nr_frame.proofs.Past.{cuts_agree_lem}
use Rattle.nr_frame.proofs.law.cuts_agree.Goals as goal

pub returns : goal.returns
returns c = cuts_agree_lem
