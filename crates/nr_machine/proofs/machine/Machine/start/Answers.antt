use Rattle.std.proofs.Common.{◌≡◌, ◌∷◌, ◌∙◌, [], refl, sym, subst}
use Rattle.std.specs.Prelude.{IsSome, IsSomeAnd, reverse}
use Rattle.nr_linked.specs.declared.program.tables.ProgramTables.{ProgramTables}
use Rattle.nr_linked.specs.Facts.{ProgramFacts}
use Rattle.nr_linked.specs.Programs.{method_at, result_of}
use Rattle.nr_model.specs.States.{Running}
use Rattle.nr_model.specs.Steps.{first_frame}
use Rattle.nr_typed.specs.Standing.{StandsIn}
use Rattle.nr_machine.specs.CallStacks.{CanBegin, IsStack, frames_of}
use Rattle.nr_model.specs.Belonging.{Belong}
use Rattle.nr_model.specs.Types.{argument_tys}
use Rattle.nr_machine.proofs.Starting.{can_begin, is_some_for, never_deep, not_deep, starts_stand}
use Rattle.nr_machine.proofs.machine.Machine.start.Goals as goal

pub is_first_too_deep-requires : goal.is_first_too_deep-requires
is_first_too_deep-requires c =
    subst (λ (q : ProgramTables). IsSome (method_at q c.args.method)) (sym c.program-program.ensures.program)
    (is_some_for (method_at c.args.p.now c.args.method) (λ i. IsSome i.body × Belong c.args.p.now c.args.heap.now.objects (argument_tys i) (reverse c.args.args.now)) c.requires.method)

pub unreachable-requires : goal.unreachable-requires
unreachable-requires c =
    let P = c.program-program.result.now in
    let same = c.program-program.ensures.program in
    let h = c.args.heap.now.objects in
    let args = reverse c.args.args.now in
    never_deep P h c.args.method args (c.if-not-begin.ensures.too_deep refl)
    (λ s b. c.is_first_too_deep.ensures h args s b ∙ c.if-is_first_too_deep.false)

pub begin-requires-clause-can : goal.begin-requires-clause-can
begin-requires-clause-can c =
    let same = c.program-program.ensures.program in
    let facts : ProgramFacts c.args.p.now = subst (λ (q : ProgramTables). ProgramFacts q) same c.tables-facts.ensures.facts in
    subst (λ (q : ProgramTables). CanBegin q c.args.method c.args.args.now) (sym same)
    (can_begin c.args.p.now facts c.program-program.ensures.typed c.args.heap.now.objects c.requires.heap c.args.method c.args.args.now c.requires.method)

pub returns-clause-stands : goal.returns-clause-stands
returns-clause-stands c =
    let same = c.program-program.ensures.program in
    let facts : ProgramFacts c.args.p.now = subst (λ (q : ProgramTables). ProgramFacts q) same c.tables-facts.ensures.facts in (
      c.program-program.ensures.typed,
      subst (λ bs. StandsIn c.args.p.now c.program-program.ensures.typed.frames (result_of c.args.p.now c.args.method)
          (record { heap = c.args.heap.now.objects; control = Running (frames_of c.args.p.now c.begin.new.self.frames.items c.begin.new.self.values.items); printed = bs })) (sym c.new-3.ensures.items)
          (starts_stand c.args.p.now facts c.program-program.ensures.typed c.args.heap.now.objects c.requires.heap c.args.method c.args.args.now c.requires.method
          (frames_of c.args.p.now c.begin.new.self.frames.items c.begin.new.self.values.items)
          (subst (λ (q : ProgramTables). IsSomeAnd (method_at q c.args.method) (λ i. frames_of q c.begin.new.self.frames.items c.begin.new.self.values.items ≡ first_frame i c.args.method (reverse c.args.args.now) ∷ [])) same
          (c.if-not-begin.ensures.begun refl))),
    )

pub returns-clause-room : goal.returns-clause-room
returns-clause-room c =
    let same = c.program-program.ensures.program in
    not_deep c.args.p.now c.begin.new.self.frames.items c.begin.new.self.values.items
    (subst (λ (q : ProgramTables). IsStack q c.begin.new.self.frames.items c.begin.new.self.values.items) same (c.if-not-begin.ensures.stack refl))
