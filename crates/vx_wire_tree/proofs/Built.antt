-- The array that a node decodes to, from what its steps say.
use Rattle.std.proofs.Common.{ℕ, ◌≡◌, List, Some, refl, sym, ap, ◌∙◌, subst}
use Rattle.vx_buffer.specs.Buffer.{Buffer}
use Rattle.vx_trees.specs.Rose.{node, label, count}
use Rattle.vx_types.specs.Typ.{Typ}
use Rattle.vx_array_tree.specs.Encoding.{Encoding}
use Rattle.vx_array_tree.specs.Metadata.{Metadata}
use Rattle.vx_array_tree.specs.Place.{Place}
use Rattle.vx_array_tree.specs.Sound.{IsSound}
use Rattle.vx_array_tree.specs.Table.{plan_of, IsNative, IsNativeEncoding}
use Rattle.vx_array_tree.specs.Tree.{Tree, Trees, places, untold, with_stats}
use Rattle.vx_array_tree.proofs.Built.{body_buffers, built_normal, own_metadata, IsBuiltOver, stats_sound}
use Rattle.vx_array_tree.proofs.Bodies.{normal_by}
use Rattle.vx_array_tree.proofs.NodeLaws.{body_encoding}
use Rattle.vx_wire_tree.specs.Codec.{Codec, IsLawful}
use Rattle.vx_wire_tree.specs.Causes.{HasChildren}
use Rattle.vx_wire_tree.specs.Matches.{IsEncodedNode, AllMatch}
use Rattle.vx_wire_tree.specs.ReadBack.{IsReadAs}
use Rattle.vx_wire_tree.specs.Reads.{IsMetadata}
use Rattle.vx_wire_tree.specs.Session.{SessionMeaning}
use Rattle.vx_wire_tree.specs.Steps.{PlansChildren, HasParts, IsToldBy}
use Rattle.vx_wire_tree.specs.DecodesTo.{DecodesTo}
use Rattle.vx_wire_tree.specs.Wire.{WireHead, Wires, all_present}
use Rattle.vx_wire_tree.proofs.TwoIdentifiers.{node_by}
use Rattle.vx_wire_tree.proofs.Unique.{all_count, one_metadata}

module _ (c : Codec) (s : SessionMeaning) (law : IsLawful c s) where
  -- A node whose children decode to arrays where they are planned decodes to the array that is built of its parts, with
  -- the statistics that its field shows.
  pub node_decodes : (id : List ℕ) (e : Encoding) (w : WireHead) (ws : Wires) (d : Typ) (n : ℕ) (ps : List Place) (bs : List Buffer) (ts : Trees) (t u : Tree)
      → w.id ≡ Some id → IsReadAs (s.reader id) e id n → PlansChildren c s.ext e d n w.metadata (count ws) ps → w.buffers ≡ all_present bs
      → HasChildren c s (node w ws) ps ts → HasParts c s.ext e d n w.metadata bs ts t → IsSound t → IsToldBy c d w.stats t u → DecodesTo c s (node w ws) d n u
  node_decodes id e w ws d n ps bs ts t u i r p b k x sound y =
      let same = one_metadata c s e (law.messages id e r.encoding) d d w.metadata p.value x.value refl p.metadata x.metadata in
      let plan : plan_of e d n x.value (count ts) ≡ Some (places ts) =
      (λ j. plan_of e d n (sym same j) (all_count c s ws ts k.matched j)) ∙ p.plan ∙ ap (λ (qs : List Place). Some qs) (sym k.placed) in
      let over : IsBuiltOver e d n x.value bs x.body ts = record { fair = x.metadata.fair; body_is = x.body_is; planned = plan } in
      let built = node (untold d n x.body) ts in
      let told = with_stats y.stats built in
      let fit = law.stats.shown_fit d w.stats y.stats y.shown in
      let same_sound : IsSound built = subst (λ (z : Tree). IsSound z) x.tree_is sound in
      let native : IsNative x.body = subst (λ f. IsNativeEncoding f) (sym (body_encoding e x.value bs x.body x.body_is)) (law.messages id e r.encoding).native in
      let m : IsEncodedNode c s e w told (λ us. AllMatch c s ws us) = record {
        encoding = body_encoding e x.value bs x.body x.body_is;
        metadata = subst (λ (v : Metadata). IsMetadata c s.ext e d w.metadata v) (sym (own_metadata e d n x.value bs x.body ts over)) x.metadata;
        buffers = b ∙ ap (λ zs. all_present zs) (sym (body_buffers e x.value bs x.body x.body_is));
        stats = y.shown;
        normal = normal_by x.body (label told) ts native (built_normal e d n x.value (count ts) bs x.body (places ts) x.body_is plan);
        children = k.matched;
      } in
      let all : DecodesTo c s (node w ws) d n told = record {
        matched = (id, i, node_by c s (s.reader id) e id w ws told (λ us. AllMatch c s ws us) r i m);
        dtype = refl;
        len = refl;
        sound = stats_sound y.stats built same_sound fit;
      } in
      subst (λ (z : Tree). DecodesTo c s (node w ws) d n z) (sym (y.tree_is ∙ ap (λ (z : Tree). with_stats y.stats z) x.tree_is)) all
