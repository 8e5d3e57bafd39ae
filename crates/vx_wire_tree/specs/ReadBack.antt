-- The conditions under which what is written of an array is read back.
use Rattle.std.specs.Prelude.{ℕ, ◌≡◌, ◌<◌, ◌^◌, List, Option, Some, None, IsTrue, length}
use Rattle.vx_trees.specs.Rose.{node, end, more}
use Rattle.vx_trees.specs.Everywhere.{Everywhere}
use Rattle.vx_array_tree.specs.Body.{Body}
use Rattle.vx_array_tree.specs.Body as B
use Rattle.vx_array_tree.specs.Encoding.{Encoding}
use Rattle.vx_array_tree.specs.Encodings.Foreigns as Foreigns
use Rattle.vx_array_tree.specs.Sound.{metadata_in}
use Rattle.vx_array_tree.specs.Table.{encoding_of, id_of}
use Rattle.vx_array_tree.specs.Tree.{Tree, Trees, Head}
use Rattle.vx_wire_tree.specs.Codec.{Codec, metadata_bytes}
use Rattle.vx_wire_tree.specs.Fields.{told}
use Rattle.vx_wire_tree.specs.Limits.{HasMessage}
use Rattle.vx_wire_tree.specs.KnownTypes.{KnowsNode}
use Rattle.vx_wire_tree.specs.Session.{SessionMeaning, Reader, encoding_by, HoldsLength}
use Rattle.vx_wire_tree.specs.Written.{written_id}

-- The session has a writer of an encoding.
pub record HasWriter (s : SessionMeaning) (e : Encoding) : Type 0 where
  pub writer : Reader
  pub writer_is : s.writer (id_of e) ≡ Some writer

-- A node is written: the session has a writer of its encoding, or it is foreign and such nodes are allowed.
abbrev pub IsWrittenBy : SessionMeaning → Body → Type 0
IsWrittenBy s (B.foreign x) = IsTrue s.ext.unknown
IsWrittenBy s b = HasWriter s (encoding_of b)

abbrev pub IsWrittenNode : SessionMeaning → Head → Trees → Type 0
IsWrittenNode s h ts = IsWrittenBy s h.body

-- Each node of an array is written.
abbrev pub IsWritten : SessionMeaning → Tree → Type 0
IsWritten s = Everywhere (IsWrittenNode s)

-- A node's statistics can be stored.
abbrev pub IsStorableNode : Codec → Head → Trees → Type 0
IsStorableNode c h ts = c.IsStorable h.stats

-- The statistics of each node of an array can be stored.
abbrev pub HasStorableStats : Codec → Tree → Type 0
HasStorableStats c = Everywhere (IsStorableNode c)

-- The bytes of a node's metadata can be counted in 64 bits.
abbrev pub IsCountableNode : Codec → Head → Trees → Type 0
IsCountableNode c h ts = length (metadata_bytes c (told (metadata_in h ts))) < 2 ^ 64

-- The bytes of each node's metadata can be counted in 64 bits.
abbrev pub HasCountableMetadata : Codec → Tree → Type 0
HasCountableMetadata c = Everywhere (IsCountableNode c)

-- Nothing reads a foreign node; for any other node the same is said of what is below it.
abbrev pub IsUnreadBy : SessionMeaning → Body → Type 0 → Type 0
IsUnreadBy s (B.foreign x) Below = s.reader x.id ≡ None
IsUnreadBy s _ Below = Below

abbrev mutual
  -- Nothing reads the topmost foreign nodes of an array. Below them identifiers are free, since nothing there is read.
  pub IsUnread : SessionMeaning → Tree → Type 0
  IsUnread s (node h ts) = IsUnreadBy s h.body (AreUnread s ts)

  -- The same for several arrays.
  pub AreUnread : SessionMeaning → Trees → Type 0
  AreUnread s end = Unit {0}
  AreUnread s (more t ts) = IsUnread s t × AreUnread s ts

-- What reads an identifier is of this encoding, and may read n rows under it.
pub record IsReadAs (r : Option Reader) (e : Encoding) (id : List ℕ) (n : ℕ) : Type 0 where
  pub encoding : encoding_by r ≡ Some e
  pub held : HoldsLength r id n

-- A node of an encoding is read back: the identifier under which it is written is read by its encoding, its metadata
-- fits a message whose bytes can be counted, a type in it is known, and its statistics can be stored.
pub record IsReadBack (c : Codec) (s : SessionMeaning) (h : Head) (ts : Trees) : Type 0 where
  pub reader : IsReadAs (s.reader (written_id s h)) (encoding_of h.body) (written_id s h) h.len
  pub message : HasMessage h ts
  pub countable : IsCountableNode c h ts
  pub known : KnowsNode s.ext h ts
  pub storable : IsStorableNode c h ts

-- A foreign node is read back as such: nothing reads it, and such nodes are allowed.
pub record IsKept (s : SessionMeaning) (x : Foreigns.Data) : Type 0 where
  pub reader : s.reader x.id ≡ None
  pub allowed : IsTrue s.ext.unknown

abbrev pub ReadsBackBy : Codec → SessionMeaning → Body → Head → Trees → Type 0 → Type 0
ReadsBackBy c s (B.foreign x) h ts Below = IsKept s x
ReadsBackBy c s _ h ts Below = IsReadBack c s h ts × Below

abbrev mutual
  -- Each node of an array down to the topmost foreign ones is read back.
  pub ReadsBack : Codec → SessionMeaning → Tree → Type 0
  ReadsBack c s (node h ts) = ReadsBackBy c s h.body h ts (AllReadBack c s ts)

  -- The same for each of several arrays.
  pub AllReadBack : Codec → SessionMeaning → Trees → Type 0
  AllReadBack c s end = Unit {0}
  AllReadBack c s (more t ts) = ReadsBack c s t × AllReadBack c s ts
