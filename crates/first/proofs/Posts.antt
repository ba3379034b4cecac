-- The promises of the two calls, where what a call says of its words is shown.
use Rattle.std.proofs.Common.{◌≡◌, ℕ, ◌<◌, ◌↔◌, List, length}
use Rattle.pins.specs.declared.Started.{Started}
use Rattle.pins.specs.declared.Started.TheVariants.{Few}
use Rattle.pins.specs.declared.Clocked.{Clocked}
use Rattle.pins.specs.Says.{StartedSays, StartedPost, ClockedSays, ClockedPost}
use Rattle.first.specs.Stands.{Stands}
use Rattle.first.proofs.AlwaysRight.{always_right}
use Rattle.first.proofs.GoesOn.{goes_on}

pub started : {a : ℕ} {w w' : List ℕ} {r : Started} → StartedSays Stands a w w' r → (length w < 65536) ↔ (r ≡ Few) → StartedPost Stands a w w' r
started says few = record { says = says; right = always_right; goes_on = goes_on; few = few }

pub clocked : {w w' i o o' : List ℕ} {r : Clocked} → ClockedSays Stands w w' i o o' r → ClockedPost Stands w w' i o o' r
clocked says = record { says = says; right = always_right; goes_on = goes_on }
