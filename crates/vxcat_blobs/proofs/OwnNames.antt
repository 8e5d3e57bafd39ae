-- Where primitives have one identifier, each node is written under its encoding's own, and read under it.
use Rattle.std.proofs.Common.{ℕ, ◌≡◌, List, Some, false, refl, sym, ap, ◌∙◌, subst}
use Rattle.vx_trees.specs.Rose.{node, end, more}
use Rattle.vx_array_tree.specs.Body.{Body}
use Rattle.vx_array_tree.specs.Sound.{metadata_in}
use Rattle.vx_array_tree.specs.Table.{encoding_of, own_id, buffers_of}
use Rattle.vx_array_tree.specs.Tree.{Tree, Trees, Head}
use Rattle.vx_wire_tree.specs.Codec.{metadata_bytes}
use Rattle.vx_wire_tree.specs.Fields.{told}
use Rattle.vx_wire_tree.specs.ReadBack.{IsReadAs}
use Rattle.vx_wire_tree.specs.Session.{SessionMeaning}
use Rattle.vx_wire_tree.specs.Wire.{WireHead, Wire, Wires, all_present}
use Rattle.vx_wire_tree.specs.Written.{wire, wires, writes_two, body_id}
use Rattle.vx_wire_tree.proofs.Laws.{one_own}
use Rattle.vx_encodings.specs.Messages.{codec}

-- A node of these parts, under an identifier.
abbrev named_head : List ℕ → Head → Trees → WireHead
named_head id h ts = record { id = Some id; metadata = metadata_bytes codec (told (metadata_in h ts)); buffers = all_present (buffers_of h.body); stats = codec.stats_field h.stats }

abbrev mutual
  -- The wire tree of an array whose nodes have their encodings' own identifiers.
  pub own_wire : Tree → Wire
  own_wire (node h ts) = node (named_head (own_id h.body) h ts) (own_wires ts)

  own_wires : Trees → Wires
  own_wires end = end
  own_wires (more t ts) = more (own_wire t) (own_wires ts)

module _ (s : SessionMeaning) (one : writes_two s ≡ false) where
  named : (b : Body) (n : ℕ) → body_id (writes_two s) b n ≡ own_id b
  named b n = ap (λ two. body_id two b n) one ∙ one_own b n

  mutual
    -- It is the wire tree that is written.
    pub wire_named : (t : Tree) → wire codec s t ≡ own_wire t
    wire_named (node h ts) = λ i. node (named_head (named h.body h.len i) h ts) (wires_named ts i)

    wires_named : (ts : Trees) → wires codec s ts ≡ own_wires ts
    wires_named end = refl
    wires_named (more t ts) = λ i. more (wire_named t i) (wires_named ts i)

  -- What is read under its own identifier is read as it is written.
  pub read_named : (b : Body) (n : ℕ) → IsReadAs (s.reader (own_id b)) (encoding_of b) (own_id b) n → IsReadAs (s.reader (body_id (writes_two s) b n)) (encoding_of b) (body_id (writes_two s) b n) n
  read_named b n k = subst (λ id. IsReadAs (s.reader id) (encoding_of b) id n) (sym (named b n)) k
