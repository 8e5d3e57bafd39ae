-- What a session means: what reads which identifier, what writes which encoding, and which types it knows.
use Rattle.std.specs.Prelude.{ℕ, ◌≡◌, List, Option, Some, None, IsTrue}
use Rattle.vx_types.specs.Known.{ExtMeaning}
use Rattle.vx_array_tree.specs.Encoding.{Encoding}
use Rattle.vx_array_tree.specs.Encoding as E
use Rattle.vx_array_tree.specs.Encodings.Primitives as Primitives
use Rattle.vx_array_tree.specs.Table.{id_of}
use Rattle.vx_wire_tree.specs.Plugin.{PluginMeaning}
use Rattle.vx_wire_tree.specs.Revised.{revised_name, revised_holds}

-- What reads or writes a node: a shipped encoding, primitives under two identifiers, or a plugin of the caller.
pub data Reader : Type 0 where
  shipped : Encoding → Reader
  revised : Reader
  plugin : PluginMeaning → Reader

-- An identifier is read in one way or not at all. What writes the arrays of an encoding stands under the encoding's
-- identifier. Extension types have readers of their own.
pub record SessionMeaning : Type 0 where
  pub reader : List ℕ → Option Reader
  pub writer : List ℕ → Option Reader
  pub ext : ExtMeaning

abbrev pub IsShippedReader : Option Reader → Type 0
IsShippedReader None = Unit {0}
IsShippedReader (Some (shipped e)) = Unit {0}
IsShippedReader (Some revised) = Unit {0}
IsShippedReader (Some (plugin p)) = ⊥

-- The session reads and writes by shipped encodings alone; primitives may have two identifiers.
pub record IsShipped (s : SessionMeaning) : Type 0 where
  pub reads : (id : List ℕ) → IsShippedReader (s.reader id)
  pub writes : (id : List ℕ) → IsShippedReader (s.writer id)

-- The identifier under which an entry is a writer.
abbrev pub entry_id : Reader → List ℕ
entry_id (shipped e) = id_of e
entry_id revised = Primitives.id
entry_id (plugin p) = p.id

-- The encoding by which nodes are read or written, where one does.
abbrev pub encoding_by : Option Reader → Option Encoding
encoding_by None = None
encoding_by (Some (shipped e)) = Some e
encoding_by (Some revised) = Some E.primitive
encoding_by (Some (plugin p)) = None

-- What reads an identifier may read n rows under it: primitives under two identifiers where this one holds them,
-- anything else any number.
abbrev pub HoldsLength : Option Reader → List ℕ → ℕ → Type 0
HoldsLength (Some revised) id n = IsTrue (revised_holds id n)
HoldsLength _ id n = Unit {0}

-- An encoding's identifier is read by that encoding or by a plugin.
abbrev pub IsReadAgainBy : Option Reader → Encoding → Type 0
IsReadAgainBy None e = ⊥
IsReadAgainBy (Some (shipped f)) e = f ≡ e
IsReadAgainBy (Some revised) e = ⊥
IsReadAgainBy (Some (plugin p)) e = Unit {0}

-- An identifier is read by primitives under two identifiers, or by a plugin.
abbrev pub IsRevisedAgainBy : Option Reader → Type 0
IsRevisedAgainBy None = ⊥
IsRevisedAgainBy (Some (shipped f)) = ⊥
IsRevisedAgainBy (Some revised) = Unit {0}
IsRevisedAgainBy (Some (plugin p)) = Unit {0}

-- The readers and the writers of a session fit one another, as far as encodings go. What an encoding reads is written,
-- an encoding that writes stands under its own identifier, and what it writes is read again. The same holds of
-- primitives under two identifiers: both are read again where they are written.
pub record IsPaired (s : SessionMeaning) : Type 0 where
  pub read_is_written : (id : List ℕ) (e : Encoding) → s.reader id ≡ Some (shipped e) → (q : Reader) × (s.writer (id_of e) ≡ Some q)
  pub own_identifier : (id : List ℕ) (e : Encoding) → s.writer id ≡ Some (shipped e) → id ≡ id_of e
  pub written_is_read : (id : List ℕ) (e : Encoding) → s.writer id ≡ Some (shipped e) → IsReadAgainBy (s.reader id) e
  pub revised_is_written : (id : List ℕ) → s.reader id ≡ Some revised → (q : Reader) × (s.writer Primitives.id ≡ Some q)
  pub own_revised : (id : List ℕ) → s.writer id ≡ Some revised → id ≡ Primitives.id
  pub revised_is_read : s.writer Primitives.id ≡ Some revised → IsRevisedAgainBy (s.reader Primitives.id) × IsRevisedAgainBy (s.reader revised_name)

-- And as far as plugins go: what a plugin reads is written, and a plugin that writes stands under its own identifier.
pub record HasPairedPlugins (s : SessionMeaning) : Type 0 where
  pub read_is_written : (id : List ℕ) (p : PluginMeaning) → s.reader id ≡ Some (plugin p) → (q : Reader) × (s.writer p.id ≡ Some q)
  pub own_identifier : (id : List ℕ) (p : PluginMeaning) → s.writer id ≡ Some (plugin p) → id ≡ p.id
