use Rattle.pins.proofs.Progressing.{progress_laws}
use Rattle.pins.proofs.laws.progress.Goals as goal

pub returns : goal.returns
returns g c = progress_laws _
