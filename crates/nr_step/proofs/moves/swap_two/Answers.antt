use Rattle.nr_model.specs.Scripts.{Drop, Pick}
use Rattle.nr_model.specs.ValueRules.{single}
use Rattle.nr_step.specs.Windows.{window}
use Rattle.nr_step.proofs.Asks.{begins_single, in_use, leads_single}
use Rattle.nr_step.proofs.moves.swap_two.Goals as goal

pub exchange-requires-clause-some : goal.exchange-requires-clause-some
exchange-requires-clause-some c =
    let can = c.requires.can in
    let w = window can.0 can.1 c.args.stack.now c.args.depth.now in
    let b = begins_single 0 (λ k. single 1 (Pick 1 (Drop 2 k))) w can.2 in
    let d = begins_single 1 (λ k. Pick 1 (Drop 2 k)) w b.1 in
    in_use c.args.stack.now c.args.depth.now 1 _ d.0

pub returns-clause-leads : goal.returns-clause-leads
returns-clause-leads c = λ h ls.
    let can = c.requires.can in
    let w = window can.0 can.1 c.args.stack.now c.args.depth.now in
    let b = begins_single 0 (λ k. single 1 (Pick 1 (Drop 2 k))) w can.2 in
    let d = begins_single 1 (λ k. Pick 1 (Drop 2 k)) w b.1 in
    leads_single 0 (λ k. single 1 (Pick 1 (Drop 2 k))) (window h ls c.args.stack.now c.args.depth.now) (window h ls c.exchange.new.stack c.exchange.new.depth) b.0 (leads_single 1 (λ k. Pick 1 (Drop 2 k)) (window h ls c.args.stack.now c.args.depth.now) (window h ls c.exchange.new.stack c.exchange.new.depth) d.0 (c.exchange.ensures.leads h ls))
