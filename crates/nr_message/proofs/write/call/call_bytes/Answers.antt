use Rattle.std.proofs.Common.{◌≡◌, Ok}
use Rattle.nr_message.specs.Text.{call}
use Rattle.nr_message.specs.Reading.{call_of}
use Rattle.nr_message.specs.Writing.{call_text}
use Rattle.nr_message.proofs.Written.{of_text, call_spelled}
use Rattle.nr_message.proofs.Backs.{call_back}
use Rattle.nr_message.proofs.write.call.call_bytes.Goals as goal

pub returns-clause-spelled : goal.returns-clause-spelled
returns-clause-spelled c = of_text (λ b. b.items) (call_text c.args.m.now) (λ z. call c.args.m.now z) (call_spelled c.args.m.now) c.written.result c.written.ensures.text c.written.ensures.fits

pub returns-clause-back : goal.returns-clause-back
returns-clause-back c = of_text (λ b. b.items) (call_text c.args.m.now) (λ z. call_of z ≡ Ok c.args.m.now) (λ h. call_back c.args.m.now (call_text c.args.m.now) (call_spelled c.args.m.now h)) c.written.result c.written.ensures.text c.written.ensures.fits
