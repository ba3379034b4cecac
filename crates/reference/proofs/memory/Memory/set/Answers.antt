use Rattle.std.proofs.lemmas.Result.{MatchResult-from_err}
use Rattle.reference.specs.Memory.{words_of}
use Rattle.reference.proofs.Words.{reads_kept, reads_set}
use Rattle.reference.proofs.memory.Memory.set.Goals as goal

pub returns-in_err-insert : goal.returns-in_err-insert
unfolding words_of
returns-in_err-insert c =
    MatchResult-from_err c.from_residual.result _ _ c.from_residual.ensures.0
    (λ _. reads_kept c.args.self.now.words c.insert.new.self c.in_err-insert.ensures.err)

pub returns : goal.returns
unfolding words_of
returns c = reads_set c.args.self.now.words c.insert.new.self c.args.number c.args.word c.in_ok-insert.ensures.updates
