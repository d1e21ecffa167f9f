use Rattle.std.proofs.Common.{arith}
use Rattle.nr_base.specs.DescReading.{is_free}
use Rattle.nr_base.specs.declared.desc.fault.DescFault.TheVariants as faults
use Rattle.nr_base.proofs.DescLaws.{desc_law}
use Rattle.nr_base.proofs.Wholes.{found_whole, only_whole}
use Rattle.nr_base.proofs.desc.types.Desc.read.Goals as goal

pub returns-clause-found : goal.returns-clause-found
returns-clause-found c = found_whole is_free faults.BadDesc desc_law c.args.bytes.now c.whole_desc.result (λ i. omega (arith, c.type_inv.bytes i)) c.whole_desc.ensures

pub returns-clause-only : goal.returns-clause-only
returns-clause-only c = λ d spelled. only_whole is_free faults.BadDesc desc_law c.args.bytes.now c.whole_desc.result d spelled c.whole_desc.ensures
