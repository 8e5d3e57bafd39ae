-- The messages of metadata and the tables of statistics, as far as the definitions of trees need them: which bytes show
-- a message, which field shows a set, and what is written. The crates of the messages and of the tables give this
-- record its values, so these definitions depend on neither.
use Rattle.std.specs.Prelude.{ℕ, ◌≡◌, ◌<◌, ◌^◌, List, Some, length}
use Rattle.vx_flat.specs.Value.{Field}
use Rattle.vx_types.specs.Typ.{Typ}
use Rattle.vx_scalars.specs.Stats.{Stats, FitStats, no_stats}
use Rattle.vx_scalars.specs.WrittenStats.{written_stats}
use Rattle.vx_array_tree.specs.Encoding.{Encoding}
use Rattle.vx_array_tree.specs.Metadata.{Metadata}
use Rattle.vx_array_tree.specs.Table.{IsFair, IsNativeEncoding}
use Rattle.vx_wire_tree.specs.Fields.{Fields, raw, told, FitsMessage}
use Rattle.vx_wire_tree.specs.Session.{SessionMeaning, encoding_by}

-- Bytes show a message of an encoding's metadata, and a message is written as bytes. A field shows statistics of
-- arrays of a type, and statistics that can be stored are written as a field.
pub record Codec : Type 1 where
  pub Shows : Encoding → List ℕ → Fields → Type 0
  pub fields_bytes : Fields → List ℕ
  pub ShowsStats : Typ → Field → Stats → Type 0
  pub stats_field : Stats → Field
  pub IsStorable : Stats → Type 0

-- The messages of a known encoding's metadata are lawful: bytes show one message at most, and what is written of
-- metadata shows it, where its bytes can be counted in 64 bits.
pub record IsLawfulAt (c : Codec) (e : Encoding) : Type 0 where
  pub native : IsNativeEncoding e
  pub one_message : (bytes : List ℕ) (f g : Fields) → c.Shows e bytes f → c.Shows e bytes g → f ≡ g
  pub message_again : (v : Metadata) → IsFair e v → FitsMessage v → length (c.fields_bytes (told v)) < 2 ^ 64 → c.Shows e (c.fields_bytes (told v)) (told v)

-- The tables of statistics are lawful: a field shows one set at most, which fits. The field of a set that fits and can
-- be stored shows what is written of the set, which can be stored and is written alike. The empty set can be stored.
pub record HasLawfulStats (c : Codec) : Type 0 where
  pub one_set : (d : Typ) (f : Field) (x y : Stats) → c.ShowsStats d f x → c.ShowsStats d f y → x ≡ y
  pub shown_fit : (d : Typ) (f : Field) (x : Stats) → c.ShowsStats d f x → FitStats d x
  pub stats_again : (d : Typ) (x : Stats) → FitStats d x → c.IsStorable x → c.ShowsStats d (c.stats_field x) (written_stats x)
  pub written_storable : (x : Stats) → c.IsStorable x → c.IsStorable (written_stats x)
  pub written_alike : (x : Stats) → c.stats_field (written_stats x) ≡ c.stats_field x
  pub none_storable : c.IsStorable no_stats

-- The bytes that are written of a message; a foreign node's bytes are written unchanged.
abbrev pub metadata_bytes : Codec → Fields → List ℕ
metadata_bytes c (raw bytes) = bytes
metadata_bytes c f = c.fields_bytes f

-- The messages are lawful at each encoding by which a session reads, and so are the tables.
pub record IsLawful (c : Codec) (s : SessionMeaning) : Type 0 where
  pub messages : (id : List ℕ) (e : Encoding) → encoding_by (s.reader id) ≡ Some e → IsLawfulAt c e
  pub stats : HasLawfulStats c
