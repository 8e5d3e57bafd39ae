-- What messages show and weigh, for the readers and writers of tables in other crates.
use Rattle.std.proofs.Common.{◌≡◌, ℕ, Bool, List, length, ◌<◌, ◌^◌}
use Rattle.std.specs.Prelude.{IsTrue}
use Rattle.vx_flat.specs.IsOf.{IsOf}
use Rattle.vx_flat.specs.Layout.{layout}
use Rattle.vx_flat.specs.Places.{u32_at}
use Rattle.vx_flat.specs.Schema.{Schema, is_lawful}
use Rattle.vx_flat.specs.Shows.{Shows}
use Rattle.vx_flat.specs.Value.{Fields}
use Rattle.vx_flat.specs.ValueWeight.{weight_of}
use Rattle.vx_flat.specs.Weight.{weight}
use Rattle.vx_flat.proofs.Agree.{one_value}
use Rattle.vx_flat.proofs.Inverse.{layout_shows, length_is}
use Rattle.vx_flat.proofs.Lawful.{tables_short}
use Rattle.vx_flat.proofs.ValueWeight.{shown_weighs}
-- A table shows the fields that are read from it.
pub use Rattle.vx_flat.proofs.Agree.{table_sound}
-- The length of a layout.
pub use Rattle.vx_flat.proofs.Inverse.{layout_length}

-- A message shows one value at most.
pub shown-one : (s : Schema) (m : List ℕ) (v w : Fields) → Shows s m v → Shows s m w → v ≡ w
shown-one s m v w a b = one_value s m (u32_at m 0) s.root v w a.1 b.1

-- The layout of a value of a lawful schema shows it, in both forms.
pub shown-layout : (s : Schema) (sharing : Bool) (v : Fields) → IsTrue (is_lawful s) → IsOf s v
    → length (layout sharing s v) < 2 ^ 31 → Shows s (layout sharing s v) v
shown-layout s sharing v lawful of short =
    layout_shows s (tables_short s lawful) sharing v of (length_is s (tables_short s lawful) sharing v of short)

-- A message weighs what the value weighs that it shows.
pub weight-shown : (s : Schema) (m : List ℕ) (v : Fields) → Shows s m v → weight s m ≡ weight_of v
weight-shown s m v shows = shown_weighs s m v shows
