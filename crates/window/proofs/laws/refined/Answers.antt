use Rattle.window.proofs.Refined.{refine_laws}
use Rattle.window.proofs.laws.refined.Goals as goal

pub returns : goal.returns
returns g c = refine_laws _ _
