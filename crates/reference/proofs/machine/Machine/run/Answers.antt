use Rattle.std.proofs.Common.{Some, sym, subst, arith}
use Rattle.isa.specs.Manual.{S}
use Rattle.isa.specs.Runs.{At}
use Rattle.isa.proofs.RunSteps.{at_suc}
use Rattle.reference.specs.Memory.{words_of}
use Rattle.reference.specs.Machine.{state}
use Rattle.reference.proofs.Running.{none_yet, all_done, on_the_way, came, one_more, ended}
use Rattle.reference.proofs.machine.Machine.run.Goals as goal

pub loop-init : goal.loop-init
loop-init c = none_yet (words_of c.args.code.now) (state c.args.self.now c.args.answers.now) c.new-history.ensures.traces c.new-history.ensures.effects c.new-history.ensures.end

pub returns-in_err-done : goal.returns-in_err-done
returns-in_err-done c =
    on_the_way c.from_residual.result c.from_residual.ensures.0 c.loop.auto.counter-end
    (subst (λ (u : S). At (words_of c.args.code.now) (state c.args.self.now c.args.answers.now) c.loop.counter u) (sym c.in_err-done.ensures) c.loop.invariant.at)

pub returns-in_err-push-in-Ok : goal.returns-in_err-push-in-Ok
returns-in_err-push-in-Ok c =
    on_the_way c.from_residual-in_err-push-in-Ok.result c.from_residual-in_err-push-in-Ok.ensures.0 c.loop-test.true
    (at_suc c.loop.invariant.at (sym (came c.in-Ok.is c.in_ok-done.ensures)))

pub returns-in-Err : goal.returns-in-Err
returns-in-Err c =
    let past = c.ended.ensures in
    ended c.loop.invariant c.ended.result (came c.in-Err.is c.in_ok-done.ensures) c.args.count c.loop-test.true
    past.traces past.effects (Some c.in-Err.halt) past.end (state c.step.new.self c.args.answers.now) (λ e. e)

pub loop-preserved : goal.loop-preserved
loop-preserved c =
    let pushed = c.in_ok-push-in-Ok.ensures in
    one_more c.loop.invariant c.push.new.self c.in-Ok.done.trace c.in-Ok.done.effect (came c.in-Ok.is c.in_ok-done.ensures)
    pushed.traces pushed.effects pushed.end

pub returns : goal.returns
returns c = all_done c.loop.invariant (omega arith)
