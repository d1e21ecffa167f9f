-- What the linker is given of each class.
use Rattle.std.specs.Prelude.{◌<◌, ◌^◌, length, All}
use Rattle.nr_prog.specs.declared.body.loaded.Loaded.{Loaded}
use Rattle.nr_prog.specs.Pool.{IsText}
use Rattle.nr_links.specs.Links.{IsDecoded}

-- a class as bytes give it: its form, its bounds and its code, texts of bytes, and no more fields than the count of a class
-- file can say (4.1)
pub record IsReadable (l : Loaded) : Type 0 where
  pub decoded : IsDecoded l
  pub texts : All IsText l.«class».pool
  pub few_fields : length l.«class».fields < 2 ^ 16
