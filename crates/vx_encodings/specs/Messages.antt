-- The messages of metadata, and the tables of statistics: which bytes or which field shows one, and what is written.
use Rattle.std.specs.Prelude.{ℕ, ◌≡◌, List, []}
use Rattle.vx_flat.specs.Value.{Field, table}
use Rattle.vx_scalars.specs.Stats.{Stats}
use Rattle.vx_array_tree.specs.Encoding.{Encoding}
use Rattle.vx_array_tree.specs.Encoding as E
use Rattle.vx_scalar_wire.specs.StatsShown.{ShowsStatsIn}
use Rattle.vx_scalar_wire.specs.StatsTable.{AreStorable, stats_table}
use Rattle.vx_wire_tree.specs.Codec.{Codec}
use Rattle.vx_wire_tree.specs.Fields.{Fields}
use Rattle.vx_wire_tree.specs.Fields as F
use Rattle.vx_encodings.specs.BoolMessage.{ShowsBool, bool_bytes}
use Rattle.vx_encodings.specs.DecimalMessage.{ShowsDecimal, decimal_bytes}
use Rattle.vx_encodings.specs.VarBinMessage.{ShowsVarBin, varbin_bytes}
use Rattle.vx_encodings.specs.DictMessage.{ShowsDict, dict_bytes}
use Rattle.vx_encodings.specs.ListMessage.{ShowsList, list_bytes}
use Rattle.vx_encodings.specs.ListViewMessage.{ShowsListView, kept_views, view_bytes}
use Rattle.vx_encodings.specs.VariantMessage.{ShowsVariant, variant_bytes}

-- An encoding that has no metadata: its bytes are empty.
pub record ShowsNothing (bytes : List ℕ) (f : Fields) : Type 0 where
  pub bytes_are : bytes ≡ []
  pub fields_are : f ≡ F.empty

-- Eight encodings have no metadata, booleans an offset, decimals a width, texts by offsets a kind of numbers,
-- dictionaries a number of values, a kind and two flags, lists a number of elements and a kind, list views another kind
-- too, and variants an optional type. A foreign node has no message: no bytes show one.
abbrev pub Shows : Encoding → List ℕ → Fields → Type 0
Shows E.null = ShowsNothing
Shows E.bool = ShowsBool
Shows E.primitive = ShowsNothing
Shows E.decimal = ShowsDecimal
Shows E.varbin = ShowsVarBin
Shows E.varbinview = ShowsNothing
Shows E.dict = ShowsDict
Shows E.list = ShowsList
Shows E.listview = ShowsListView
Shows E.fixed_size_list = ShowsNothing
Shows E.map = ShowsNothing
Shows E.struct = ShowsNothing
Shows E.union = ShowsNothing
Shows E.variant = ShowsVariant
Shows E.ext = ShowsNothing
Shows E.foreign = λ bytes f. ⊥

-- Where there is no metadata no byte is written, where there is some its message, and a foreign node's bytes unchanged.
abbrev pub message_bytes : Fields → List ℕ
message_bytes (F.bool offset) = bool_bytes offset
message_bytes (F.decimal width) = decimal_bytes width
message_bytes (F.varbin kind) = varbin_bytes kind
message_bytes (F.dict f) = dict_bytes f
message_bytes (F.list count kind) = list_bytes count kind
message_bytes (F.listview count kind other) = view_bytes (kept_views count kind other)
message_bytes (F.variant d) = variant_bytes d
message_bytes (F.raw bytes) = bytes
message_bytes F.empty = []

-- A set of statistics is written as its table, whatever is in it.
abbrev pub stats_field : Stats → Field
stats_field t = table (stats_table t)

-- The messages that are read and written here, and the tables of statistics.
abbrev pub codec : Codec
codec = record {
  Shows = Shows;
  fields_bytes = message_bytes;
  ShowsStats = ShowsStatsIn;
  stats_field = stats_field;
  IsStorable = AreStorable;
}
