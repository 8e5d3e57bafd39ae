-- The model of a builder's map of field tables.
use Rattle.std.specs.Prelude.{ℕ, map}
use Rattle.std.specs.Prelude.{Vec}
use Rattle.std.specs.Global.{Global}
use Rattle.indexmap.specs.IndexMap.{IndexMap}
use Rattle.vx_flat.specs.BlockOffsets.{Known}

-- The bytes and the place of each field table, in the order of writing.
abbrev pub known_of : {S : Type 0} → IndexMap (Vec ℕ Global) ℕ S → Known
known_of m = map (λ e. (e.0.items, e.1)) m.entries
