-- The core with a window of eight, by computing.
use Rattle.std.proofs.Common.{refl}
use Rattle.isa.specs.Decoding.{decodes}
use Rattle.isa.specs.Executing.{executed}
use Rattle.pins.specs.Cases.{words, program, sevens}
use Rattle.window.specs.Operands.{work_with}
use Rattle.window.specs.Eight.{EightRuns}

pub eight_runs : EightRuns
unfolding work_with decodes executed words program sevens
eight_runs = record { sums = refl; works = refl; branch = refl; late = refl }
