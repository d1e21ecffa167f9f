use Rattle.std.proofs.Common.{◌≡◌, ◌++◌, ◌∷◌, [], ◌-◌, ◌+◌, replicate, rules, refl, None, ap, ◌∙◌, sym, subst, Ok}
use Rattle.nr_base.specs.Clauses.{Fails}
use Rattle.nr_serread.specs.Faults.{is_free}
use Rattle.nr_serread.specs.Reading.{slots_at, root_due}
use Rattle.nr_serread.specs.Working.{state_of, graph_of}
use Rattle.nr_serread.proofs.Opening.{one_root, no_root, no_due}
use Rattle.nr_serread.proofs.Stepping.{all_done, at}
use Rattle.nr_serread.proofs.slots.read_roots.Goals as goal

pub loop-root-preserved : goal.loop-root-preserved
loop-root-preserved c =
    let P = c.args.forms.now in
    let next = one_root c.args.n_roots c.loop-root._root (root_due P) (record { owner = None; kind = c.root_kind-kind.result }) c.loop-root-test.true (search rules) in
    record {
      on = c.in_ok-read_root.ensures.on (replicate (c.args.n_roots - (c.loop-root._root + 1)) (root_due P)) ∙ ap (λ z. slots_at P (state_of c.loop-root.w z) c.loop-root.cur) (sym next) ∙ c.loop-root.invariant.on;
      fits = search rules;
      closed = search rules;
    }

pub returns-in_err-read_root-clause-err : goal.returns-in_err-read_root-clause-err
returns-in_err-read_root-clause-err c =
    let P = c.args.forms.now in
    let next = one_root c.args.n_roots c.loop-root._root (root_due P) (record { owner = None; kind = c.root_kind-kind.result }) c.loop-root-test.true (search rules) in
    let f = c.in_err-read_root.ensures.err (replicate (c.args.n_roots - (c.loop-root._root + 1)) (root_due P)) in
    let same = ap (λ z. slots_at P (state_of c.loop-root.w z) c.loop-root.cur) (sym next) ∙ c.loop-root.invariant.on in
    let fact = subst (λ z. Fails is_free c.in_err-read_root.field-0.0 z) same f in
    search (rules, fact)

pub returns-clause-on : goal.returns-clause-on
returns-clause-on c =
    let P = c.args.forms.now in
    let table = c.loop-root.w.handles in
    let none = no_root c.args.n_roots c.loop-root._root (root_due P) (search rules) in
    let due = no_due c.loop-root.w.frames.items c.loop-root.invariant.closed in
    let ends = all_done P (graph_of c.loop-root.w) table c.loop-root.w.cells c.loop-root.cur in
    let here = subst (λ z. slots_at P (at (graph_of c.loop-root.w) table c.loop-root.w.cells z) c.loop-root.cur ≡ Ok (at (graph_of c.loop-root.w) table c.loop-root.w.cells z, c.loop-root.cur)) (sym due) ends in
    sym c.loop-root.invariant.on ∙ ap (λ z. slots_at P (state_of c.loop-root.w z) c.loop-root.cur) none ∙ here
