-- The wire tree of an array, and the array that is read back from it.
use Rattle.std.specs.Prelude.{ℕ, List, Option, Some, Bool, true, false}
use Rattle.vx_trees.specs.Rose.{node, end, more, label}
use Rattle.vx_array_tree.specs.Body.{Body}
use Rattle.vx_array_tree.specs.Body as B
use Rattle.vx_array_tree.specs.Canon.{canon_at}
use Rattle.vx_array_tree.specs.Encoding.{Encoding}
use Rattle.vx_array_tree.specs.Encoding as E
use Rattle.vx_array_tree.specs.Encodings.Foreigns as Foreigns
use Rattle.vx_array_tree.specs.Encodings.Primitives as Primitives
use Rattle.vx_array_tree.specs.Sound.{metadata_in}
use Rattle.vx_array_tree.specs.Table.{encoding_of, id_of, buffers_of}
use Rattle.vx_array_tree.specs.Tree.{Tree, Trees, Head}
use Rattle.vx_wire_tree.specs.Codec.{Codec, metadata_bytes}
use Rattle.vx_wire_tree.specs.Fields.{told}
use Rattle.vx_wire_tree.specs.Revised.{id_of_rows}
use Rattle.vx_wire_tree.specs.Session.{SessionMeaning, Reader, revised}
use Rattle.vx_wire_tree.specs.Wire.{WireHead, Wire, Wires, all_present}

-- A writer writes primitives under two identifiers.
abbrev pub is_revised : Option Reader → Bool
is_revised (Some revised) = true
is_revised _ = false

-- A session writes primitives under two identifiers.
abbrev pub writes_two : SessionMeaning → Bool
writes_two s = is_revised (s.writer Primitives.id)

-- The identifier under which nodes of an encoding with n rows are written: the encoding's, but for primitives, which
-- may have two.
abbrev pub id_under : Bool → Encoding → ℕ → List ℕ
id_under two E.primitive n = id_of_rows two n
id_under two e n = id_of e

-- The identifier of a body with n rows: a foreign one has its own.
abbrev pub body_id : Bool → Body → ℕ → List ℕ
body_id two (B.foreign x) n = x.id
body_id two b n = id_under two (encoding_of b) n

-- The identifier of a node.
abbrev pub head_id : Bool → Head → List ℕ
head_id two h = body_id two h.body h.len

-- The identifier of a node under a session.
abbrev pub written_id : SessionMeaning → Head → List ℕ
written_id s h = head_id (writes_two s) h

-- How a node is spelled: its identifier, the bytes of its metadata, its buffers.
abbrev pub spelled : Codec → SessionMeaning → Head → Trees → Foreigns.Data
spelled c s h ts = record {
  id = written_id s h;
  metadata = metadata_bytes c (told (metadata_in h ts));
  buffers = buffers_of h.body;
}

-- A node on the wire: as it is spelled, with the field of its statistics.
abbrev pub wire_head : Codec → SessionMeaning → Head → Trees → WireHead
wire_head c s h ts = record {
  id = Some (written_id s h);
  metadata = metadata_bytes c (told (metadata_in h ts));
  buffers = all_present (buffers_of h.body);
  stats = c.stats_field h.stats;
}

abbrev mutual
  -- The wire tree of an array, node by node.
  pub wire : Codec → SessionMeaning → Tree → Wire
  wire c s (node h ts) = node (wire_head c s h ts) (wires c s ts)

  -- The wire trees of several arrays.
  pub wires : Codec → SessionMeaning → Trees → Wires
  wires c s end = end
  wires c s (more t ts) = more (wire c s t) (wires c s ts)

-- The array that is read back where an array was written: the same array in the form in which it is read, at its own
-- type, with foreign nodes and all below them as they are spelled.
abbrev pub canon : Codec → SessionMeaning → Tree → Tree
canon c s t = canon_at (spelled c s) (label t).dtype t
