use Rattle.std.proofs.Common.{◌≡◌, Ok}
use Rattle.nr_message.specs.Text.{reply}
use Rattle.nr_message.specs.Reading.{reply_of}
use Rattle.nr_message.specs.Writing.{reply_text}
use Rattle.nr_message.proofs.Written.{of_text, reply_spelled}
use Rattle.nr_message.proofs.Backs.{reply_back}
use Rattle.nr_message.proofs.write.reply.reply_bytes.Goals as goal

pub returns-clause-spelled : goal.returns-clause-spelled
returns-clause-spelled c = of_text (λ b. b.items) (reply_text c.args.m.now) (λ z. reply c.args.m.now z) (reply_spelled c.args.m.now) c.written.result c.written.ensures.text c.written.ensures.fits

pub returns-clause-back : goal.returns-clause-back
returns-clause-back c = of_text (λ b. b.items) (reply_text c.args.m.now) (λ z. reply_of z ≡ Ok c.args.m.now) (λ h. reply_back c.args.m.now (reply_text c.args.m.now) (reply_spelled c.args.m.now h)) c.written.result c.written.ensures.text c.written.ensures.fits
