use Rattle.std.proofs.Common.{◌≡◌, ◌++◌, ◌∷◌, ◌<◌, ◌∙◌, [], ℕ, List, length, arith, sym, subst, ap, true}
use Rattle.std.specs.Prelude.{Some, is_some, slice_get, slice_index_or}
use Rattle.nr_prog.specs.declared.body.instruction.Instr.{Instr}
use Rattle.nr_prog.specs.declared.body.whole.Body.{Body}
use Rattle.nr_linked.specs.declared.program.tables.MethodInfo.{MethodInfo}
use Rattle.nr_linked.specs.declared.program.tables.Resolved.{Resolved}
use Rattle.nr_linked.specs.declared.program.tables.Resolved.TheVariants as resolved
use Rattle.nr_linked.specs.declared.program.tables.Resolved.TheVariants.{Nothing}
use Rattle.nr_linked.specs.Programs.{method_at}
use Rattle.nr_model.specs.Asks.{is_remote}
use Rattle.nr_model.specs.declared.value.Value.{Value}
use Rattle.nr_machine.specs.declared.stack.Frame.{Frame as CodeFrame}
use Rattle.nr_machine.specs.CallStacks.{IsPlaced}
use Rattle.nr_machine.proofs.AskedCalls.{same_method}
use Rattle.nr_machine.proofs.Calls.{in_range, some_both}
use Rattle.nr_machine.proofs.Places.{code_is, entry_at}
use Rattle.nr_machine.proofs.Remote.{Named, asks_so, named_so, none_not, no_false}
use Rattle.nr_machine.proofs.Rising.{read_there}
use Rattle.nr_machine.proofs.Tops.{placed}
use Rattle.nr_machine.proofs.stack.CallStack.asked_method.Goals as goal
use Rattle.nr_machine.proofs.stack.CallStack.asked_method.Goals.{else-is_some-via-then-is_some+else-is_remote, else-is_some-via-else-is_some}

pub returns-then-code-frame-clause-own : goal.returns-then-code-frame-clause-own
returns-then-code-frame-clause-own c =
    let P = c.args.program.now in
    let facts = c.requires.facts in
    let fs : List CodeFrame = c.args.self.now.frames.items in
    let vs : List Value = c.args.self.now.values.items in
    let st = c.requires.stack in
    let gs : List CodeFrame = c.running-frame.ensures.0 in
    let g : CodeFrame = c.running-frame.result in
    let e : fs ≡ gs ++ g ∷ [] = c.running-frame.ensures.1 in
    let at : IsPlaced P g = placed P fs vs st gs g e in
    let own : MethodInfo = at.method in
    let body : Body = at.body in
    let few : g.instr < length own.resolved = omega (arith, at.instr, facts.typing.one_each g.method own body at.is_method at.is_body) in
    let x : Instr = c.index-code-frame.result in
    let is_x : slice_get body.instrs g.instr ≡ Some x = read_there body.instrs g.instr x x at.instr (c.index-code-frame.is ∙ ap (λ is. slice_index_or is g.instr x) (c.code_of-code.ensures ∙ code_is P g.method own body at.is_method at.is_body)) in
    let r : Resolved = (entry_at own.resolved g.instr few).0 in
    let is_r : slice_get own.resolved g.instr ≡ Some r = (entry_at own.resolved g.instr few).1 in
    λ none h printed a. c.if-code-frame.true (sym (ap (λ (x : Instr). x.row.code) c.index-code-frame.is) ∙ (named_so P facts fs vs st gs g e own body at.is_method at.is_body x r is_x is_r c.args.service h printed a).code)

pub method-requires : goal.method-requires
method-requires c =
    let P = c.args.program.now in
    let facts = c.requires.facts in
    let fs : List CodeFrame = c.args.self.now.frames.items in
    let vs : List Value = c.args.self.now.values.items in
    let st = c.requires.stack in
    let gs : List CodeFrame = c.running-frame.ensures.0 in
    let g : CodeFrame = c.running-frame.result in
    let e : fs ≡ gs ++ g ∷ [] = c.running-frame.ensures.1 in
    let at : IsPlaced P g = placed P fs vs st gs g e in
    let own : MethodInfo = at.method in
    let body : Body = at.body in
    let few : g.instr < length own.resolved = omega (arith, at.instr, facts.typing.one_each g.method own body at.is_method at.is_body) in
    in_range P g.method own at.is_method

pub bounds : goal.bounds
bounds c =
    let P = c.args.program.now in
    let facts = c.requires.facts in
    let fs : List CodeFrame = c.args.self.now.frames.items in
    let vs : List Value = c.args.self.now.values.items in
    let st = c.requires.stack in
    let gs : List CodeFrame = c.running-frame.ensures.0 in
    let g : CodeFrame = c.running-frame.result in
    let e : fs ≡ gs ++ g ∷ [] = c.running-frame.ensures.1 in
    let at : IsPlaced P g = placed P fs vs st gs g e in
    let own : MethodInfo = at.method in
    let body : Body = at.body in
    let few : g.instr < length own.resolved = omega (arith, at.instr, facts.typing.one_each g.method own body at.is_method at.is_body) in
    let same : c.method.result.now ≡ own = some_both c.method.ensures at.is_method in
    let found : c.as_slice.result.now ≡ own.resolved = c.as_slice.ensures ∙ ap (λ (i : MethodInfo). i.resolved) same in
    subst (λ rs. g.instr < length rs) (sym found) few

pub returns-in_default : goal.returns-in_default
returns-in_default c =
    let P = c.args.program.now in
    let facts = c.requires.facts in
    let fs : List CodeFrame = c.args.self.now.frames.items in
    let vs : List Value = c.args.self.now.values.items in
    let st = c.requires.stack in
    let gs : List CodeFrame = c.running-frame.ensures.0 in
    let g : CodeFrame = c.running-frame.result in
    let e : fs ≡ gs ++ g ∷ [] = c.running-frame.ensures.1 in
    let at : IsPlaced P g = placed P fs vs st gs g e in
    let own : MethodInfo = at.method in
    let body : Body = at.body in
    let few : g.instr < length own.resolved = omega (arith, at.instr, facts.typing.one_each g.method own body at.is_method at.is_body) in
    let x : Instr = c.index-code-frame.result in
    let is_x : slice_get body.instrs g.instr ≡ Some x = read_there body.instrs g.instr x x at.instr (c.index-code-frame.is ∙ ap (λ is. slice_index_or is g.instr x) (c.code_of-code.ensures ∙ code_is P g.method own body at.is_method at.is_body)) in
    let same : c.method.result.now ≡ own = some_both c.method.ensures at.is_method in
    let found : c.as_slice.result.now ≡ own.resolved = c.as_slice.ensures ∙ ap (λ (i : MethodInfo). i.resolved) same in
    let r : Resolved = slice_index_or c.as_slice.result.now g.instr Nothing in
    let is_r : slice_get own.resolved g.instr ≡ Some r = read_there own.resolved g.instr Nothing r few (ap (λ rs. slice_index_or rs g.instr Nothing) found) in
    record {
      asks = tt;
      own = λ none h printed a. let n = named_so P facts fs vs st gs g e own body at.is_method at.is_body x r is_x is_r c.args.service h printed a in c.in_default.not-Method a.method n.named n.found;
    }

pub returns-in_err-called-clause-own : goal.returns-in_err-called-clause-own
returns-in_err-called-clause-own c =
    let P = c.args.program.now in
    let facts = c.requires.facts in
    let fs : List CodeFrame = c.args.self.now.frames.items in
    let vs : List Value = c.args.self.now.values.items in
    let st = c.requires.stack in
    let gs : List CodeFrame = c.running-frame.ensures.0 in
    let g : CodeFrame = c.running-frame.result in
    let e : fs ≡ gs ++ g ∷ [] = c.running-frame.ensures.1 in
    let at : IsPlaced P g = placed P fs vs st gs g e in
    let own : MethodInfo = at.method in
    let body : Body = at.body in
    let few : g.instr < length own.resolved = omega (arith, at.instr, facts.typing.one_each g.method own body at.is_method at.is_body) in
    let x : Instr = c.index-code-frame.result in
    let is_x : slice_get body.instrs g.instr ≡ Some x = read_there body.instrs g.instr x x at.instr (c.index-code-frame.is ∙ ap (λ is. slice_index_or is g.instr x) (c.code_of-code.ensures ∙ code_is P g.method own body at.is_method at.is_body)) in
    let same : c.method.result.now ≡ own = some_both c.method.ensures at.is_method in
    let found : c.as_slice.result.now ≡ own.resolved = c.as_slice.ensures ∙ ap (λ (i : MethodInfo). i.resolved) same in
    let r : Resolved = slice_index_or c.as_slice.result.now g.instr Nothing in
    let is_r : slice_get own.resolved g.instr ≡ Some r = read_there own.resolved g.instr Nothing r few (ap (λ rs. slice_index_or rs g.instr Nothing) found) in
    let one = λ (n : ℕ) (d : ℕ) (q : r ≡ resolved.Method n d). same_method n d c.in-Method.method c.in-Method.field-1 (sym q ∙ c.in-Method.is) in
    λ none h printed a. let n = named_so P facts fs vs st gs g e own body at.is_method at.is_body x r is_x is_r c.args.service h printed a in
    none_not n.info (c.in_err-called.ensures ∙ ap (method_at P) (sym (one a.method n.named n.found)) ∙ n.called)

pub returns-then-is_remote-clause-asks : goal.returns-then-is_remote-clause-asks
returns-then-is_remote-clause-asks c =
    let P = c.args.program.now in
    let facts = c.requires.facts in
    let fs : List CodeFrame = c.args.self.now.frames.items in
    let vs : List Value = c.args.self.now.values.items in
    let st = c.requires.stack in
    let gs : List CodeFrame = c.running-frame.ensures.0 in
    let g : CodeFrame = c.running-frame.result in
    let e : fs ≡ gs ++ g ∷ [] = c.running-frame.ensures.1 in
    let at : IsPlaced P g = placed P fs vs st gs g e in
    let own : MethodInfo = at.method in
    let body : Body = at.body in
    let few : g.instr < length own.resolved = omega (arith, at.instr, facts.typing.one_each g.method own body at.is_method at.is_body) in
    let x : Instr = c.index-code-frame.result in
    let is_x : slice_get body.instrs g.instr ≡ Some x = read_there body.instrs g.instr x x at.instr (c.index-code-frame.is ∙ ap (λ is. slice_index_or is g.instr x) (c.code_of-code.ensures ∙ code_is P g.method own body at.is_method at.is_body)) in
    let same : c.method.result.now ≡ own = some_both c.method.ensures at.is_method in
    let found : c.as_slice.result.now ≡ own.resolved = c.as_slice.ensures ∙ ap (λ (i : MethodInfo). i.resolved) same in
    let r : Resolved = slice_index_or c.as_slice.result.now g.instr Nothing in
    let is_r : slice_get own.resolved g.instr ≡ Some r = read_there own.resolved g.instr Nothing r few (ap (λ rs. slice_index_or rs g.instr Nothing) found) in
    let code : x.row.code ≡ 184 = ap (λ (x : Instr). x.row.code) c.index-code-frame.is ∙ c.if-code-frame.false in
    let n : Named P c.args.service x r c.in-Method.method = record {
      code = code;
      named = c.in-Method.field-1;
      found = c.in-Method.is;
      info = c.in_ok-called.called.now;
      called = sym c.in_ok-called.ensures;
      has_code = sym c.if-is_some.ensures;
      remote = sym c.if-is_remote.ensures;
    } in
    asks_so P facts fs vs st gs g e own body at.is_method at.is_body x r is_x is_r c.args.service c.in-Method.method n c.requires.stands.0 c.requires.stands.1

pub returns-else-is_some-clause-own : goal.returns-else-is_some-clause-own
returns-else-is_some-clause-own c =
    let P = c.args.program.now in
    let facts = c.requires.facts in
    let fs : List CodeFrame = c.args.self.now.frames.items in
    let vs : List Value = c.args.self.now.values.items in
    let st = c.requires.stack in
    let gs : List CodeFrame = c.running-frame.ensures.0 in
    let g : CodeFrame = c.running-frame.result in
    let e : fs ≡ gs ++ g ∷ [] = c.running-frame.ensures.1 in
    let at : IsPlaced P g = placed P fs vs st gs g e in
    let own : MethodInfo = at.method in
    let body : Body = at.body in
    let few : g.instr < length own.resolved = omega (arith, at.instr, facts.typing.one_each g.method own body at.is_method at.is_body) in
    let x : Instr = c.index-code-frame.result in
    let is_x : slice_get body.instrs g.instr ≡ Some x = read_there body.instrs g.instr x x at.instr (c.index-code-frame.is ∙ ap (λ is. slice_index_or is g.instr x) (c.code_of-code.ensures ∙ code_is P g.method own body at.is_method at.is_body)) in
    let same : c.method.result.now ≡ own = some_both c.method.ensures at.is_method in
    let found : c.as_slice.result.now ≡ own.resolved = c.as_slice.ensures ∙ ap (λ (i : MethodInfo). i.resolved) same in
    let r : Resolved = slice_index_or c.as_slice.result.now g.instr Nothing in
    let is_r : slice_get own.resolved g.instr ≡ Some r = read_there own.resolved g.instr Nothing r few (ap (λ rs. slice_index_or rs g.instr Nothing) found) in
    let one = λ (n : ℕ) (d : ℕ) (q : r ≡ resolved.Method n d). same_method n d c.in-Method.method c.in-Method.field-1 (sym q ∙ c.in-Method.is) in
    λ none h printed a.
    let n = named_so P facts fs vs st gs g e own body at.is_method at.is_body x r is_x is_r c.args.service h printed a in
    let info : n.info ≡ c.in_ok-called.called.now = some_both n.called (ap (method_at P) (one a.method n.named n.found) ∙ sym c.in_ok-called.ensures) in
    elim c.else-is_some.branch [
      | else-is_some-via-then-is_some+else-is_remote w ↦ no_false (is_remote c.args.service c.in_ok-called.called.now) (sym w.if-is_remote.ensures) (subst (λ (i : MethodInfo). is_remote c.args.service i ≡ true) info n.remote)
      | else-is_some-via-else-is_some w ↦ no_false (is_some c.in_ok-called.called.now.body) (sym w.if-is_some.ensures) (subst (λ (i : MethodInfo). is_some i.body ≡ true) info n.has_code)
    ]
