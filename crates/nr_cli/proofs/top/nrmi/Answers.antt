use Rattle.std.proofs.Common.{◌++◌, map, refl, ap, ◌∙◌}
use Rattle.std.proofs.lemmas.List.{append-nil}
use Rattle.nr_outside.specs.Causes.{Rose}
use Rattle.nr_cli.specs.Ending.{err_of, out_of, status_of}
use Rattle.nr_cli.specs.Plan.{due_of}
use Rattle.nr_cli.proofs.CodeReading.{loaded_avoids}
use Rattle.nr_cli.proofs.Ends.{own_due}
use Rattle.nr_cli.proofs.Parts.{widened}
use Rattle.nr_cli.proofs.Returns.{differ, folder_end, may_end, no_sink, no_words_status, own_of, returns, text_of, words_end}
use Rattle.nr_cli.proofs.top.nrmi.Goals as goal

pub returns-clause-ends : goal.returns-clause-ends
returns-clause-ends g c = (
  c.plan-end.result,
  (λ tells. may_end _ _ c.plan-end.result c.plan-end.ensures.cause (c.plan-end.ensures.end tells)),
  record {
    own = c.end_with.ensures.status;
    result = c.end_with.ensures.out;
    part = c.end_with.ensures.part;
    line = c.end_with.ensures.err;
    said = λ tells. widened _ _ _ _ _ (c.end_with.ensures.said tells);
  },
  c.end_with.ensures.out_calls,
)

pub returns-clause-text : goal.returns-clause-text
returns-clause-text g c = λ files bytes zero.
    let words = map (λ w. w.now) c.args.words.now in
    let told = g.F.Folder.files c.args.folder.now in
    text_of (due_of words told) c.plan-end.result (g.O.Sink.bytes c.args.out.now) (g.O.Sink.bytes c.end_with.new.out) c.end_with.result
    (own_due (λ text. (loaded_avoids text).avoids) words told) (c.plan-end.ensures.end files) c.end_with.ensures.status zero
    (c.end_with.ensures.out bytes)

pub returns-clause-returns : goal.returns-clause-returns
returns-clause-returns g c = λ printed n files is sound out err.
    let words = map (λ w. w.now) c.args.words.now in
    let told = g.F.Folder.files c.args.folder.now in
    let F = Rose (g.F.Folder.faults c.args.folder.now) (g.F.Folder.faults c.plan-end.new.folder) in
    returns F (due_of words told) c.plan-end.result c.end_with.result
    (may_end F (due_of words told) c.plan-end.result c.plan-end.ensures.cause (c.plan-end.ensures.end files)) c.end_with.ensures.status
    sound (λ e. no_sink _ _ (c.end_with.ensures.sink e) out err) printed n is

pub returns-clause-words : goal.returns-clause-words
returns-clause-words g c = λ two. c.plan-end.ensures.words (words_end c.plan-end.result (own_of c.end_with.result (status_of c.plan-end.result) 2 c.end_with.ensures.status two refl refl))

pub returns-clause-no_words : goal.returns-clause-no_words
returns-clause-no_words g c = λ none. no_words_status c.plan-end.result c.end_with.result c.end_with.ensures.status (c.plan-end.ensures.no_words none)

pub returns-clause-folder : goal.returns-clause-folder
returns-clause-folder g c = λ three. c.plan-end.ensures.cause (folder_end c.plan-end.result (own_of c.end_with.result (status_of c.plan-end.result) 3 c.end_with.ensures.status three refl refl))

pub returns-clause-folder_out : goal.returns-clause-folder_out
returns-clause-folder_out g c = λ bytes three.
    let is = folder_end c.plan-end.result (own_of c.end_with.result (status_of c.plan-end.result) 3 c.end_with.ensures.status three refl refl) in
    c.end_with.ensures.out bytes (λ e. differ c.end_with.result three e refl) (λ e. differ c.end_with.result three e refl)
    ∙ ap (λ z. g.O.Sink.bytes c.args.out.now ++ out_of z) is ∙ append-nil (g.O.Sink.bytes c.args.out.now)

pub returns-clause-folder_line : goal.returns-clause-folder_line
returns-clause-folder_line g c = λ bytes three.
    let is = folder_end c.plan-end.result (own_of c.end_with.result (status_of c.plan-end.result) 3 c.end_with.ensures.status three refl refl) in
    c.end_with.ensures.err bytes (λ e. differ c.end_with.result three e refl) (λ e. differ c.end_with.result three e refl)
    ∙ ap (λ z. g.E.Sink.bytes c.args.err.now ++ err_of z) is
