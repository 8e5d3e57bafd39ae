-- What is written of statistics is written as the statistics are, so a tree is written alike before and after.
use Rattle.std.proofs.Common.{ℕ, ◌≡◌, List, [], ◌∷◌, Some, refl}
use Rattle.vx_trees.specs.Rose.{node, end, more, label}
use Rattle.vx_trees.specs.Everywhere.{EverywhereBelow}
use Rattle.vx_types.specs.Typ.{Typ}
use Rattle.vx_array_tree.specs.Canon.{child_types, Spelling, as_foreign, all_foreign, canon_at, canon_all, written_head, stats_written, each_stats_written}
use Rattle.vx_array_tree.specs.Table.{metadata_of, buffers_of}
use Rattle.vx_array_tree.specs.Tree.{Head, Tree, Trees, places}
use Rattle.vx_array_tree.proofs.CanonLaws.{by_node, written_places}
use Rattle.vx_wire_tree.specs.Codec.{Codec, HasLawfulStats, metadata_bytes}
use Rattle.vx_wire_tree.specs.Fields.{told}
use Rattle.vx_wire_tree.specs.ReadBack.{IsStorableNode, HasStorableStats}
use Rattle.vx_wire_tree.specs.Session.{SessionMeaning}
use Rattle.vx_wire_tree.specs.Wire.{all_present}
use Rattle.vx_wire_tree.specs.Written.{written_id, wire_head, wire, wires}

module _ (c : Codec) (law : HasLawfulStats c) where
  module _ (s : SessionMeaning) where
    head_alike : (h : Head) (ts us : Trees) → places us ≡ places ts → wire_head c s (written_head h) us ≡ wire_head c s h ts
    head_alike h ts us p =
        let x = law.written_alike h.stats in
        λ i. record {
          id = Some (written_id s h);
          metadata = metadata_bytes c (told (metadata_of h.body (p i)));
          buffers = all_present (buffers_of h.body);
          stats = x i;
        }

    mutual
      pub wire_alike : (t : Tree) → wire c s (stats_written t) ≡ wire c s t
      wire_alike (node h ts) =
          let a = head_alike h ts (each_stats_written ts) (written_places ts) in
          let b = wires_alike ts in
          λ i. node (a i) (b i)

      wires_alike : (ts : Trees) → wires c s (each_stats_written ts) ≡ wires c s ts
      wires_alike end = refl
      wires_alike (more t ts) =
          let a = wire_alike t in
          let b = wires_alike ts in
          λ i. more (a i) (b i)

  mutual
    foreign_storable : (sp : Spelling) (d : Typ) (n : ℕ) (t : Tree) → HasStorableStats c (as_foreign sp d n t)
    foreign_storable sp d n (node h ts) = (law.none_storable, all_foreign_storable sp d n ts)

    all_foreign_storable : (sp : Spelling) (d : Typ) (n : ℕ) (ts : Trees) → EverywhereBelow (IsStorableNode c) (all_foreign sp d n ts)
    all_foreign_storable sp d n end = tt
    all_foreign_storable sp d n (more t ts) = (foreign_storable sp d n t, all_foreign_storable sp d n ts)

  mutual
    -- What is read back can be stored where what was written could.
    pub storable_at : (sp : Spelling) (d : Typ) (t : Tree) → HasStorableStats c t → HasStorableStats c (canon_at sp d t)
    storable_at sp d (node h ts) k =
        by_node sp (λ u. HasStorableStats c u) d h ts
        (λ _. (law.written_storable h.stats k.0, storable_each sp (child_types d h ts) ts k.1))
        (λ z e. foreign_storable sp d h.len (node h ts))

    storable_each : (sp : Spelling) (ds : List Typ) (ts : Trees) → EverywhereBelow (IsStorableNode c) ts → EverywhereBelow (IsStorableNode c) (canon_all sp ds ts)
    storable_each sp ds end k = tt
    storable_each sp [] (more t ts) k = (storable_at sp (label t).dtype t k.0, storable_each sp [] ts k.1)
    storable_each sp (d ∷ ds) (more t ts) k = (storable_at sp d t k.0, storable_each sp ds ts k.1)
