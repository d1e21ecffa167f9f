use Rattle.std.proofs.Common.{◌++◌}
use Rattle.std.specs.Int.{w32, w64, to_be_bytes}
use Rattle.nr_message.specs.Writing.{name_text}
use Rattle.nr_message.proofs.Written.{behind_two}
use Rattle.nr_message.proofs.write.call.put_head.Goals as goal

pub returns-clause-text : goal.returns-clause-text
returns-clause-text c = behind_two c.put_method.result c.args.put.now c.u32.new.self c.u64.new.self c.put_method.new.put (to_be_bytes w32 c.args.m.now.number) (to_be_bytes w64 c.args.m.now.budget) (name_text c.args.m.now.name ++ name_text c.args.m.now.desc) c.in_ok-u32.ensures.ok c.in_ok-u64.ensures.ok c.put_method.ensures.text
