-- The tables of a session: what reads an identifier, and what writes the arrays of one.
use Rattle.std.specs.Prelude.{ℕ, ◌≡◌, ◌<◌, List, [], ◌∷◌, Option, Some, None, option_map, option_and_then, map, bytes_eq, if◌then◌else◌}
use Rattle.std.specs.Map.{lookup}
use Rattle.vx_types.specs.Known.{ExtMeaning}
use Rattle.vx_array_tree.specs.Encodings.Primitives as Primitives
use Rattle.vx_array_tree.specs.Table.{id_of}
use Rattle.vx_wire_tree.specs.Context.{is_among}
use Rattle.vx_wire_tree.specs.Plugin.{PluginMeaning}
use Rattle.vx_wire_tree.specs.Revised.{revised_name}
use Rattle.vx_wire_tree.specs.Session.{Reader, shipped, revised, plugin, SessionMeaning, IsPaired}
use Rattle.vx_encodings.specs.Plain.{plain_encoding}
use Rattle.indexmap.specs.IndexMap.{insert_entry}
use Rattle.vx_registry.specs.declared.tables.Entry.{Entry}
use Rattle.vx_registry.specs.declared.tables.Entry.TheVariants.{Shipped, Revised, Boxed}
use Rattle.vx_encodings.specs.declared.encoding.Encoding.{Encoding}
use Rattle.vx_encodings.specs.declared.encoding.Encoding.TheVariants as V

-- Entries, under identifiers.
abbrev pub Entries : Type 0
Entries = List (List ℕ × Entry)

-- Entries by the identifiers that they read, and by the identifiers of the arrays that they write.
pub record Registry : Type 0 where
  pub readers : Entries
  pub writers : Entries

-- Tables without entries.
abbrev pub empty_registry : Registry
empty_registry = record { readers = []; writers = [] }

-- The meanings of a session's plugins, by their numbers.
abbrev pub Plugins : Type 0
Plugins = ℕ → Option PluginMeaning

-- No plugins.
abbrev pub no_plugins : Plugins
no_plugins = λ n. None

-- What an encoding reads or writes nodes as.
abbrev pub entry : Encoding → Reader
entry e = shipped (plain_encoding e)

-- What an entry reads or writes nodes as: its encoding, primitives under two identifiers, or the plugin of its number.
abbrev pub entry_in : Plugins → Entry → Option Reader
entry_in plugins (Shipped e) = Some (entry e)
entry_in plugins Revised = Some revised
entry_in plugins (Boxed n) = option_map (λ p. plugin p) (plugins n)

-- What is found under an identifier in a table: the first entry that stands there.
abbrev pub found : Plugins → Entries → List ℕ → Option Reader
found plugins table id = option_and_then (entry_in plugins) (lookup (bytes_eq id) table)

-- The identifier of an encoding.
abbrev pub shipped_id : Encoding → List ℕ
shipped_id e = id_of (plain_encoding e)

-- What is found under an identifier once a reader is put under others: there the reader, elsewhere what was found
-- before.
abbrev pub found_with : List (List ℕ) → Reader → (List ℕ → Option Reader) → List ℕ → Option Reader
found_with ids r before id = if is_among id ids then Some r else before id

-- The meaning of the tables, beside readers of extension types.
abbrev pub tables_meaning : Plugins → Registry → ExtMeaning → SessionMeaning
tables_meaning plugins r x = record { reader = found plugins r.readers; writer = found plugins r.writers; ext = x }

-- Both identifiers of primitives, where they have two.
abbrev pub both_ids : List (List ℕ)
both_ids = Primitives.id ∷ revised_name ∷ []

-- The tables fit one another: their meaning does, whatever the plugins of their numbers mean.
abbrev pub ArePaired : Registry → Type 0
ArePaired r = (f : ℕ → PluginMeaning) (x : ExtMeaning) → IsPaired (tables_meaning (λ n. Some (f n)) r x)

-- Each number in the tables is below k.
pub record AreWithin (r : Registry) (k : ℕ) : Type 0 where
  pub readers : (id : List ℕ) (n : ℕ) → lookup (bytes_eq id) r.readers ≡ Some (Boxed n) → n < k
  pub writers : (id : List ℕ) (n : ℕ) → lookup (bytes_eq id) r.writers ≡ Some (Boxed n) → n < k

-- The shipped encodings.
abbrev pub shipped_encodings : List Encoding
shipped_encodings =
    V.Null ∷
    V.Bool ∷
    V.Primitive ∷
    V.Decimal ∷
    V.VarBin ∷
    V.VarBinView ∷
    V.Dict ∷
    V.FixedSizeList ∷
    V.Struct ∷
    V.Extension ∷
    V.List ∷
    V.ListView ∷
    V.Map ∷
    V.Union ∷
    V.Variant ∷ []

-- The registry of the shipped encodings, each under its own identifier.
abbrev pub shipped_registry : Registry
shipped_registry = record { readers = map (λ e. (shipped_id e, Shipped e)) shipped_encodings; writers = map (λ e. (shipped_id e, Shipped e)) shipped_encodings }

-- The meaning of a session of the shipped encodings, beside readers of extension types.
abbrev pub shipped_meaning : ExtMeaning → SessionMeaning
shipped_meaning x = tables_meaning no_plugins shipped_registry x

-- An entry under an identifier, in the place of what stood there or at the end.
abbrev pub put : Entry → List ℕ → Entries → Entries
put e id table = insert_entry bytes_eq table id e

-- An entry under each of several identifiers.
abbrev pub put_all : Entry → List (List ℕ) → Entries → Entries
put_all e [] table = table
put_all e (id ∷ ids) table = put_all e ids (put e id table)

-- A registry in which an encoding stands under its own identifier.
abbrev pub registered : Encoding → Registry → Registry
registered e r = record { readers = put (Shipped e) (shipped_id e) r.readers; writers = put (Shipped e) (shipped_id e) r.writers }

-- A registry in which primitives have two identifiers.
abbrev pub with_revised : Registry → Registry
with_revised r = record { readers = put_all Revised both_ids r.readers; writers = put Revised Primitives.id r.writers }

-- The meaning of a session of the shipped encodings in which primitives have two identifiers, beside readers of
-- extension types.
abbrev pub revised_meaning : ExtMeaning → SessionMeaning
revised_meaning x = tables_meaning no_plugins (with_revised shipped_registry) x

-- A registry in which the plugin of a number reads these identifiers and writes the arrays of one.
abbrev pub with_plugin : ℕ → List ℕ → List (List ℕ) → Registry → Registry
with_plugin n id ids r = record { readers = put_all (Boxed n) ids r.readers; writers = put (Boxed n) id r.writers }
