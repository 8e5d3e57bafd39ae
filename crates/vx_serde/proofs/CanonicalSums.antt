-- What is read back of an array that was read is the array with NaN sums canonical.
use Rattle.std.proofs.Common.{ℕ, ◌≡◌, Option, Some, None, refl, sym, ap, ◌∙◌, subst}
use Rattle.vx_trees.specs.Rose.{node, end, more}
use Rattle.vx_trees.specs.Everywhere.{EverywhereBelow}
use Rattle.vx_types.specs.Typ.{Typ}
use Rattle.vx_scalars.specs.Stats.{Stats}
use Rattle.vx_scalars.specs.WrittenStats.{written_stats}
use Rattle.vx_scalar_wire.specs.StatsKept.{canonical_stats}
use Rattle.vx_scalar_wire.proofs.LawsStats.{shown_kept_in}
use Rattle.vx_array_tree.specs.Canon.{stats_written, each_stats_written}
use Rattle.vx_array_tree.specs.Normal.{IsNormal, IsNormalBy, IsNormalForeign, IsNormalNode}
use Rattle.vx_array_tree.specs.Tree.{Tree, Trees, Head}
use Rattle.vx_wire_tree.specs.Codec.{IsLawful}
use Rattle.vx_wire_tree.specs.Matches.{Matches, AllMatch, IsNodeBy, IsRaw, AreRaw}
use Rattle.vx_wire_tree.specs.Session.{SessionMeaning, Reader, shipped, revised, plugin, IsShipped, IsShippedReader}
use Rattle.vx_wire_tree.specs.DecodesTo.{DecodesTo}
use Rattle.vx_wire_tree.specs.Wire.{WireHead, Wire, Wires}
use Rattle.vx_wire_tree.specs.Written.{canon}
use Rattle.vx_wire_tree.proofs.Laws.{canon_written, matched_normal}
use Rattle.vx_encodings.specs.Messages.{codec}
use Rattle.vx_serde.specs.Sums.{canonical_head, sums_canonical, each_sums_canonical}

-- A node in whose statistics only a sum changes, over children of which the same holds.
node_kept : (h : Head) (ts : Trees) → written_stats h.stats ≡ canonical_stats h.stats → each_stats_written ts ≡ each_sums_canonical ts → stats_written (node h ts) ≡ sums_canonical (node h ts)
node_kept h ts own kids =
    let head : Stats → Head = λ x. record { dtype = h.dtype; len = h.len; stats = x; body = h.body } in
    ap (λ x. node (head x) (each_stats_written ts)) own ∙ ap (λ us. node (canonical_head h) us) kids

more_kept : (t : Tree) (ts : Trees) → stats_written t ≡ sums_canonical t → each_stats_written ts ≡ each_sums_canonical ts → each_stats_written (more t ts) ≡ each_sums_canonical (more t ts)
more_kept t ts own others = ap (λ u. more u (each_stats_written ts)) own ∙ ap (λ us. more (sums_canonical t) us) others

none_kept : (ts : Trees) → ts ≡ end → each_stats_written ts ≡ each_sums_canonical ts
none_kept ts e = subst (λ (z : Trees). each_stats_written z ≡ each_sums_canonical z) (sym e) refl

mutual
  -- A foreign node has no statistics, and so have none below it.
  raw_sums : (w : Wire) (t : Tree) → IsRaw w t → IsNormal t → stats_written t ≡ sums_canonical t
  raw_sums (node w ws) (node h ts) r n =
      let foreign : IsNormalForeign h ts = subst (λ b. IsNormalBy b h ts) r.0.body n.0 in
      node_kept h ts (subst (λ (x : Stats). written_stats x ≡ canonical_stats x) (sym foreign.stats) refl) (each_raw_sums ws ts r.1 n.1)

  each_raw_sums : (ws : Wires) (ts : Trees) → AreRaw ws ts → EverywhereBelow IsNormalNode ts → each_stats_written ts ≡ each_sums_canonical ts
  each_raw_sums end ts r n = none_kept ts r
  each_raw_sums (more w ws) end r n = absurd r
  each_raw_sums (more w ws) (more t ts) r n = more_kept t ts (raw_sums w t r.0 n.0) (each_raw_sums ws ts r.1 n.1)

module _ (s : SessionMeaning) (ok : IsShipped s) where
  -- A node by what reads it.
  sums_by : (r : Option Reader) → IsShippedReader r → (w : WireHead) (ws : Wires) (h : Head) (ts : Trees) → IsNodeBy codec s r w ws (node h ts) (λ us. AllMatch codec s ws us) → IsNormal (node h ts)
      → (AllMatch codec s ws ts → each_stats_written ts ≡ each_sums_canonical ts) → stats_written (node h ts) ≡ sums_canonical (node h ts)
  sums_by None u w ws h ts x n kids = raw_sums (node w ws) (node h ts) x.1 n
  sums_by (Some (shipped e)) u w ws h ts x n kids = node_kept h ts (shown_kept_in h.dtype w.stats h.stats x.stats) (kids x.children)
  sums_by (Some revised) u w ws h ts x n kids = node_kept h ts (shown_kept_in h.dtype w.stats h.stats x.1.stats) (kids x.1.children)
  sums_by (Some (plugin p)) u w ws h ts x n kids = absurd u

  mutual
    matched_sums : (w : Wire) (t : Tree) → Matches codec s w t → IsNormal t → stats_written t ≡ sums_canonical t
    matched_sums (node w ws) (node h ts) m n = sums_by (s.reader m.0) (ok.reads m.0) w ws h ts m.2 n (λ k. each_matched_sums ws ts k n.1)

    each_matched_sums : (ws : Wires) (ts : Trees) → AllMatch codec s ws ts → EverywhereBelow IsNormalNode ts → each_stats_written ts ≡ each_sums_canonical ts
    each_matched_sums end ts m n = none_kept ts m
    each_matched_sums (more w ws) end m n = absurd m
    each_matched_sums (more w ws) (more t ts) m n = more_kept t ts (matched_sums w t m.0 n.0) (each_matched_sums ws ts m.1 n.1)

  -- Of an array that a wire tree decodes to, nothing is lost where it is read back, and a sum that is no number becomes
  -- the NaN of its width.
  pub told_sums : IsLawful codec s → (w : Wire) (d : Typ) (n : ℕ) (t : Tree) → DecodesTo codec s w d n t → canon codec s t ≡ sums_canonical t
  told_sums law w d n t x =
      let normal = matched_normal codec s ok law w t x.matched in
      canon_written codec s t x.sound normal ∙ matched_sums w t x.matched normal
