use Rattle.window.proofs.EightRuns.{eight_runs}
use Rattle.window.proofs.laws.eight_runs.Goals as goal

pub returns : goal.returns
returns c = eight_runs
