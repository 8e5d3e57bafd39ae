-- The places of what is written of an array are those of the array.
use Rattle.std.proofs.Common.{ℕ, zero, suc, ◌≡◌, Option, Some, None, Bool, true, false, ◌∷◌, refl}
use Rattle.std.specs.Prelude.{if◌then◌else◌}
use Rattle.vx_trees.specs.Rose.{node, end, more, label}
use Rattle.vx_array_tree.specs.Body.{Body}
use Rattle.vx_array_tree.specs.Body as B
use Rattle.vx_array_tree.specs.Place.{Place, place}
use Rattle.vx_array_tree.specs.Tree.{Tree, Trees, Head, places}
use Rattle.vx_wire_tree.specs.Context.{is_among}
use Rattle.vx_wire_tree.specs.Plugin.{PluginMeaning, Parts, Answer, none, refused, given}
use Rattle.vx_wire_tree.specs.Session.{SessionMeaning, Reader, shipped, revised, plugin}
use Rattle.vx_wire_tree.specs.Taken.{written, unwritten, undeclared, given_head, foreign_step, plugin_step, writer_step, step_by, step_head, each, taken}

-- The place of a node.
abbrev at : Head → Place
at h = place h.dtype h.len

module _ (s : SessionMeaning) where
  foreign_at : (b : Bool) (h : Head) (ts : Trees) → at (step_head (foreign_step b h ts) h) ≡ at h
  foreign_at true h ts = refl
  foreign_at false h ts = refl

  declared_at : (b : Bool) (h : Head) (y : Parts) → at (step_head (if b then written (given_head h y) y.children else unwritten undeclared) h) ≡ at h
  declared_at true h y = refl
  declared_at false h y = refl

  plugin_at : (p : PluginMeaning) (h : Head) (a : Answer) → at (step_head (plugin_step p h a) h) ≡ at h
  plugin_at p h none = refl
  plugin_at p h refused = refl
  plugin_at p h (given y) = declared_at (is_among y.id p.declared) h y

  writer_at : (r : Option Reader) (h : Head) (ts : Trees) → at (step_head (writer_step r h ts) h) ≡ at h
  writer_at None h ts = refl
  writer_at (Some (shipped e)) h ts = refl
  writer_at (Some revised) h ts = refl
  writer_at (Some (plugin p)) h ts = plugin_at p h (p.serialize (node h ts))

  body_at : (b : Body) (h : Head) (ts : Trees) → at (step_head (step_by s b h ts) h) ≡ at h
  body_at (B.foreign x) h ts = foreign_at s.ext.unknown h ts
  body_at _ h ts = writer_at (s.writer _) h ts

  place_taken : (n : ℕ) (t : Tree) → at (label (taken s n t)) ≡ at (label t)
  place_taken zero (node h ts) = body_at h.body h ts
  place_taken (suc n) (node h ts) = body_at h.body h ts

  pub places_taken : (n : ℕ) (ts : Trees) → places (each (taken s n) ts) ≡ places ts
  places_taken n end = refl
  places_taken n (more t ts) = λ i. place_taken n t i ∷ places_taken n ts i
