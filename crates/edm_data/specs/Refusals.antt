-- What a refusal says of a data file.
use Rattle.std.specs.Prelude.{◌≡◌, ⊤}
use Rattle.edm_data.specs.Worlds.{entity_at}
use Rattle.edm_data.specs.DataFile.{DataReading}
use Rattle.edm_data.specs.DataFile as file
use Rattle.edm_data.specs.declared.DataRefused.{DataRefused}

-- the refusal is what the file is; want of memory says nothing of it
abbrev pub Tells : DataRefused → DataReading → Type 0
Tells DataRefused.TooLong r = r ≡ file.TooLong
Tells DataRefused.Json r = r ≡ file.NoJson
Tells (DataRefused.Set name) r = r ≡ file.Set name
Tells (DataRefused.Shape s k) r = r ≡ file.Shape (entity_at s k)
Tells (DataRefused.TwiceKey s k) r = r ≡ file.TwiceKey (entity_at s k)
Tells (DataRefused.Dangling s k) r = r ≡ file.Dangling (entity_at s k)
Tells DataRefused.Memory r = ⊤
