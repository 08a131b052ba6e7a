-- The generated world, with the readings of the sample model's custom aggregates.
use Rattle.std.specs.Prelude.{◌≡◌, ℕ}
use Rattle.edm_data.specs.Worlds.{World}
use Rattle.sample_data.specs.Generator.{generated_world}
use Rattle.context_typing.specs.Typing.{Customs}
use Rattle.apply_store.specs.CustomReadings.{AreCustoms}

-- it is the world of so many sales, and these are readings of its custom aggregates
pub record IsGenerated (count : ℕ) (w : World) (c : Customs) : Type 0 where
  pub world : w ≡ generated_world count
  pub customs : AreCustoms (generated_world count).model c
