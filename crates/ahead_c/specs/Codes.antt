-- What a number promises: what the answer that it stands for promises.
use Rattle.std.specs.Prelude.{◌≡◌, List, ℕ}
use Rattle.pins.specs.declared.Started.{Started}
use Rattle.pins.specs.declared.Started.TheVariants.{Ready, Few}
use Rattle.pins.specs.declared.Clocked.{Clocked}
use Rattle.pins.specs.declared.Clocked.TheVariants.{Done, NoCore, NoPorts}
use Rattle.pins.specs.Says.{StartedPost, ClockedPost}
use Rattle.first.specs.Stands.{Stands}

abbrev pub started_code : Started → ℕ
started_code Ready = 0
started_code Few = 1

abbrev pub clocked_code : Clocked → ℕ
clocked_code Done = 0
clocked_code NoCore = 1
clocked_code NoPorts = 2

pub record StartedFor (a : ℕ) (w w' : List ℕ) (r : ℕ) : Type 0 where
  pub answer : Started
  pub code : r ≡ started_code answer
  pub post : StartedPost Stands a w w' answer

pub record ClockedFor (w w' i o o' : List ℕ) (r : ℕ) : Type 0 where
  pub answer : Clocked
  pub code : r ≡ clocked_code answer
  pub post : ClockedPost Stands w w' i o o' answer
