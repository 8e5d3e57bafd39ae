-- What a plugin reads, from what its steps say.
use Rattle.std.proofs.Common.{ℕ, ◌≡◌, List, Some, refl, sym, ap, ◌∙◌, subst}
use Rattle.vx_buffer.specs.Buffer.{Buffer}
use Rattle.vx_trees.specs.Rose.{node, label, count}
use Rattle.vx_types.specs.Typ.{Typ}
use Rattle.vx_scalars.specs.Stats.{Stats}
use Rattle.vx_array_tree.specs.Place.{Place}
use Rattle.vx_array_tree.specs.Sound.{IsSound}
use Rattle.vx_array_tree.specs.Tree.{Tree, Trees, places, with_stats}
use Rattle.vx_array_tree.proofs.Built.{stats_sound}
use Rattle.vx_wire_tree.specs.Codec.{Codec, HasLawfulStats}
use Rattle.vx_wire_tree.specs.Causes.{HasChildren}
use Rattle.vx_wire_tree.specs.Matches.{IsNodeBy, IsPluginNode, AllMatch}
use Rattle.vx_wire_tree.specs.Plugin.{PluginMeaning, head_at}
use Rattle.vx_wire_tree.specs.Session.{SessionMeaning, plugin}
use Rattle.vx_wire_tree.specs.Steps.{IsToldBy}
use Rattle.vx_wire_tree.specs.DecodesTo.{DecodesTo}
use Rattle.vx_wire_tree.specs.Wire.{WireHead, Wires, all_present}

-- Other statistics change neither the type nor the length.
told_dtype : (x : Stats) (t : Tree) → (label (with_stats x t)).dtype ≡ (label t).dtype
told_dtype x (node h ts) = refl

told_len : (x : Stats) (t : Tree) → (label (with_stats x t)).len ≡ (label t).len
told_len x (node h ts) = refl

-- A node that a plugin reads decodes to the array that the plugin builds of its parts, with the statistics that its
-- field shows, where its children decode to sound arrays that stand where the plugin plans them.
pub plugin_decodes : (c : Codec) (s : SessionMeaning) → HasLawfulStats c → (id : List ℕ) (p : PluginMeaning) (w : WireHead) (ws : Wires) (d : Typ) (n : ℕ) (ps : List Place) (bs : List Buffer) (ts : Trees) (t u : Tree)
    → w.id ≡ Some id → s.reader id ≡ Some (plugin p) → p.plan (head_at id w (count ws) d n) s.ext ≡ Some ps → w.buffers ≡ all_present bs
    → HasChildren c s (node w ws) ps ts → p.build (head_at id w (count ws) d n) bs ts s.ext ≡ Some t → IsSound t → IsToldBy c d w.stats t u → DecodesTo c s (node w ws) d n u
plugin_decodes c s law id p w ws d n ps bs ts t u i r plan b k build sound y =
    let planned : p.plan (head_at id w (count ws) d n) s.ext ≡ Some (places ts) = plan ∙ ap (λ (qs : List Place). Some qs) (sym k.placed) in
    let asked = p.as_asked (head_at id w (count ws) d n) bs ts s.ext t planned k.sound build in
    let told = with_stats y.stats t in
    let dtype : (label told).dtype ≡ d = told_dtype y.stats t ∙ asked.0 in
    let len : (label told).len ≡ n = told_len y.stats t ∙ asked.1 in
    let fit = law.shown_fit (label t).dtype w.stats y.stats (subst (λ (z : Typ). c.ShowsStats z w.stats y.stats) (sym asked.0) y.shown) in
    let m : IsPluginNode c s p w (count ws) told (λ us. AllMatch c s ws us) = record {
      id = id;
      id_is = i;
      buffers = bs;
      buffers_are = b;
      children = ts;
      planned = (λ j. p.plan (head_at id w (count ws) (dtype j) (len j)) s.ext) ∙ planned;
      matched = k.matched;
      sound = k.sound;
      built = t;
      built_is = (λ j. p.build (head_at id w (count ws) (dtype j) (len j)) bs ts s.ext) ∙ build;
      stats = y.stats;
      shown = subst (λ (z : Typ). c.ShowsStats z w.stats y.stats) (sym dtype) y.shown;
      tree_is = refl;
    } in
    let all : DecodesTo c s (node w ws) d n told = record {
      matched = (id, i, subst (λ z. IsNodeBy c s z w ws told (λ us. AllMatch c s ws us)) (sym r) m);
      dtype = dtype;
      len = len;
      sound = stats_sound y.stats t sound fit;
    } in
    subst (λ (z : Tree). DecodesTo c s (node w ws) d n z) (sym y.tree_is) all
