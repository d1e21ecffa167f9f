use Rattle.std.proofs.Common.{◌≡◌, ◌+◌, ◌-◌, ◌≤◌, ◌∙◌, ℕ, [], min, sym, subst}
use Rattle.std.specs.Prelude.{None, Option, Some}
use Rattle.nr_linked.specs.declared.program.kind.Kind.{Kind}
use Rattle.nr_linked.specs.declared.program.tables.ProgramTables.{ProgramTables}
use Rattle.nr_linked.specs.Facts.{ProgramFacts}
use Rattle.nr_typed.specs.Standing.{StandsIn}
use Rattle.nr_machine.specs.declared.answer.Turn.{Turn}
use Rattle.nr_machine.specs.CallStacks.{frames_of}
use Rattle.nr_machine.specs.Executions.{Execution, Stands}
use Rattle.nr_machine.specs.Machines.{control_of}
use Rattle.nr_machine.specs.Settles.{Advanced, seen}
use Rattle.nr_machine.specs.Stays.{FramesStand, running}
use Rattle.nr_machine.specs.Turned.{Goes, Turned, last_of}
use Rattle.nr_machine.proofs.Goings.{after_last, after_turn, goes_answered, goes_ran, goes_spent, goes_stands, turned_so}
use Rattle.nr_machine.proofs.Resuming.{before_it}
use Rattle.nr_machine.proofs.machine.Machine.turn.Goals as goal
use Rattle.nr_machine.proofs.machine.Machine.turn.Goals.{in-Some-answer, in-None, in-None-2}

pub advance_all-part-requires-clause-stands : goal.advance_all-part-requires-clause-stands
advance_all-part-requires-clause-stands c =
    let e = c.self.view_is in
    let Pr : ProgramTables = c.program-program.result.now in
    let P : ProgramTables = c.self.inside.program.now in
    let same : Pr ≡ P = c.program-program.ensures.program in
    let service = c.self.inside.service in
    let budget = c.self.inside.budget in
    let steps = c.self.inside.steps in
    let fs = c.self.inside.stack.frames.items in
    let vs = c.self.inside.stack.values.items in
    let old = c.self.inside.printed.items in
    let last : Option Turn = c.self.inside.last in
    let going : last ≡ None = c.in_default.is in
    let h = c.args.heap.now.objects in
    let x : Execution = before_it P service budget steps fs vs old last in
    let kind = c.requires.stands.0 in
    let st : Stands kind h x = subst (Stands kind h) (sym e) c.requires.stands.1 in
    let up : StandsIn P st.0.frames kind (running h (frames_of P fs vs) old) = subst (λ l. StandsIn P st.0.frames kind (record { heap = h; control = control_of P fs vs l; printed = old })) going st.1 in
    subst (λ (q : ProgramTables). FramesStand q h (frames_of q fs vs)) (sym same) (st.0, kind, record { heap = up.heap; control = up.control })

pub returns-clause-turned : goal.returns-clause-turned
returns-clause-turned c =
    let e = c.self.view_is in
    let Pr : ProgramTables = c.program-program.result.now in
    let P : ProgramTables = c.self.inside.program.now in
    let same : Pr ≡ P = c.program-program.ensures.program in
    let service = c.self.inside.service in
    let budget = c.self.inside.budget in
    let steps = c.self.inside.steps in
    let fs = c.self.inside.stack.frames.items in
    let vs = c.self.inside.stack.values.items in
    let old = c.self.inside.printed.items in
    let last : Option Turn = c.self.inside.last in
    let going : last ≡ None = c.in_default.is in
    let h = c.args.heap.now.objects in
    let x : Execution = before_it P service budget steps fs vs old last in
    let facts : ProgramFacts P = subst (λ (q : ProgramTables). ProgramFacts q) same c.tables-facts.ensures.facts in
    let n = c.args.n in
    let k = c.advance_all-part.new.heap.objects in
    let gs = c.advance_all-part.new.self.frames.items in
    let us = c.advance_all-part.new.self.values.items in
    let new = c.advance_all-part.new.printed.items in
    let made = c.advance_all-part.result.made in
    let part : Option Turn = c.advance_all-part.result.answer in
    let answer : Turn = c.match-part.answer in
    let before : steps ≤ budget = c.self.invariant.in_budget in
    let limit : c.min-steps.result ≡ min n (budget - steps) = c.min-steps.ensures in
    let all = λ (q : part ≡ None). c.advance_all-part.ensures.all q ∙ limit in
    let adv : Advanced P service (min n (budget - steps)) (running h (frames_of P fs vs) old) made part (seen P k gs us part new)
    = subst (λ m. Advanced P service m (running h (frames_of P fs vs) old) made part (seen P k gs us part new)) limit
    (subst (λ (q : ProgramTables). Advanced q service c.min-steps.result (running h (frames_of q fs vs) old) made part (seen q k gs us part new)) same c.advance_all-part.ensures.advanced) in
    let with_answer = λ (o : Option Turn) (q : part ≡ o). subst (λ o. Advanced P service (min n (budget - steps)) (running h (frames_of P fs vs) old) made o (seen P k gs us o new)) q adv in
    let after : Turn → Execution = λ a. after_turn P service budget steps fs vs old n h k made gs us new before a in
    let goes : Goes n x h answer (after answer) k = elim c.match-part.branch [
      | in-Some-answer w ↦ subst (λ a. Goes n x h a (after a) k) (sym w.answer-is) (goes_answered P service budget steps fs vs old n h k made gs us new before last going w.in-Some-answer.answer (with_answer (Some w.in-Some-answer.answer) w.in-Some-answer.is))
      | in-None w ↦ subst (λ a. Goes n x h a (after a) k) (sym w.answer-is) (goes_spent P service budget steps fs vs old n h k made gs us new before last going (all w.in-None.is) w.if-self.true (with_answer None w.in-None.is))
      | in-None-2 w ↦ subst (λ a. Goes n x h a (after a) k) (sym w.answer-is) (goes_ran P service budget steps fs vs old n h k made gs us new before last going (all w.in-None.is) w.if-self.false (with_answer None w.in-None.is))
    ] in
    let l : Option Turn = c.last_of-self-inside.result in
    let l_is : last_of answer ≡ l = sym c.last_of-self-inside.ensures in
    let done : Goes n x h answer (after_last P service budget steps fs vs old n h k made gs us new before l) k = subst (λ l. Goes n x h answer (after_last P service budget steps fs vs old n h k made gs us new before l) k) l_is goes in
    turned_so n x c.args.self.now (after_last P service budget steps fs vs old n h k made gs us new before l) h k answer e going done

pub returns-clause-stands : goal.returns-clause-stands
returns-clause-stands c = λ kind st.
    let e = c.self.view_is in
    let Pr : ProgramTables = c.program-program.result.now in
    let P : ProgramTables = c.self.inside.program.now in
    let same : Pr ≡ P = c.program-program.ensures.program in
    let service = c.self.inside.service in
    let budget = c.self.inside.budget in
    let steps = c.self.inside.steps in
    let fs = c.self.inside.stack.frames.items in
    let vs = c.self.inside.stack.values.items in
    let old = c.self.inside.printed.items in
    let last : Option Turn = c.self.inside.last in
    let going : last ≡ None = c.in_default.is in
    let h = c.args.heap.now.objects in
    let x : Execution = before_it P service budget steps fs vs old last in
    let facts : ProgramFacts P = subst (λ (q : ProgramTables). ProgramFacts q) same c.tables-facts.ensures.facts in
    let n = c.args.n in
    let k = c.advance_all-part.new.heap.objects in
    let gs = c.advance_all-part.new.self.frames.items in
    let us = c.advance_all-part.new.self.values.items in
    let new = c.advance_all-part.new.printed.items in
    let made = c.advance_all-part.result.made in
    let part : Option Turn = c.advance_all-part.result.answer in
    let answer : Turn = c.match-part.answer in
    let before : steps ≤ budget = c.self.invariant.in_budget in
    let limit : c.min-steps.result ≡ min n (budget - steps) = c.min-steps.ensures in
    let all = λ (q : part ≡ None). c.advance_all-part.ensures.all q ∙ limit in
    let adv : Advanced P service (min n (budget - steps)) (running h (frames_of P fs vs) old) made part (seen P k gs us part new)
    = subst (λ m. Advanced P service m (running h (frames_of P fs vs) old) made part (seen P k gs us part new)) limit
    (subst (λ (q : ProgramTables). Advanced q service c.min-steps.result (running h (frames_of q fs vs) old) made part (seen q k gs us part new)) same c.advance_all-part.ensures.advanced) in
    let with_answer = λ (o : Option Turn) (q : part ≡ o). subst (λ o. Advanced P service (min n (budget - steps)) (running h (frames_of P fs vs) old) made o (seen P k gs us o new)) q adv in
    let after : Turn → Execution = λ a. after_turn P service budget steps fs vs old n h k made gs us new before a in
    let goes : Goes n x h answer (after answer) k = elim c.match-part.branch [
      | in-Some-answer w ↦ subst (λ a. Goes n x h a (after a) k) (sym w.answer-is) (goes_answered P service budget steps fs vs old n h k made gs us new before last going w.in-Some-answer.answer (with_answer (Some w.in-Some-answer.answer) w.in-Some-answer.is))
      | in-None w ↦ subst (λ a. Goes n x h a (after a) k) (sym w.answer-is) (goes_spent P service budget steps fs vs old n h k made gs us new before last going (all w.in-None.is) w.if-self.true (with_answer None w.in-None.is))
      | in-None-2 w ↦ subst (λ a. Goes n x h a (after a) k) (sym w.answer-is) (goes_ran P service budget steps fs vs old n h k made gs us new before last going (all w.in-None.is) w.if-self.false (with_answer None w.in-None.is))
    ] in
    let l : Option Turn = c.last_of-self-inside.result in
    let l_is : last_of answer ≡ l = sym c.last_of-self-inside.ensures in
    let done : Goes n x h answer (after_last P service budget steps fs vs old n h k made gs us new before l) k = subst (λ l. Goes n x h answer (after_last P service budget steps fs vs old n h k made gs us new before l) k) l_is goes in
    goes_stands n x (after_last P service budget steps fs vs old n h k made gs us new before l) h k answer facts.typing done kind (subst (Stands kind h) (sym e) st)
