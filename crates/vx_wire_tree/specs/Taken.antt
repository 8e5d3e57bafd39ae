-- An array as it is written under a session: each node as its writer takes it, down to a level at which the descent
-- ends.
use Rattle.std.specs.Prelude.{ℕ, zero, suc, ◌≡◌, ◌⊎◌, Option, Some, None, Bool, true, false, if◌then◌else◌}
use Rattle.vx_trees.specs.Rose.{Rose, Roses, node, end, more, label}
use Rattle.vx_array_tree.specs.Body.{Body}
use Rattle.vx_array_tree.specs.Body as B
use Rattle.vx_array_tree.specs.Table.{encoding_of, id_of}
use Rattle.vx_array_tree.specs.Tree.{Tree, Trees, Head}
use Rattle.vx_wire_tree.specs.Context.{is_among}
use Rattle.vx_wire_tree.specs.Plugin.{PluginMeaning, Parts, Answer, none, refused, given}
use Rattle.vx_wire_tree.specs.Session.{SessionMeaning, Reader, shipped, revised, plugin}

-- Why a node is not written: nothing writes it, or its plugin has no form for it, names an identifier that it does not
-- declare, or refuses it.
pub data Unwritten : Type 0 where
  unregistered : Unwritten
  unserializable : Unwritten
  undeclared : Unwritten
  unwilling : Unwritten

-- A node as it is written, over the arrays below it that are written; or why it is not.
pub data Step : Type 0 where
  written : Head → Trees → Step
  unwritten : Unwritten → Step

-- A node as a plugin gives it: with the node's own type, length and statistics, and with the parts that the plugin
-- gives, as those of a node of which nothing else is known.
abbrev pub given_head : Head → Parts → Head
given_head h y = record { dtype = h.dtype; len = h.len; stats = h.stats; body = B.foreign (record { id = y.id; metadata = y.metadata; buffers = y.buffers }) }

-- A foreign node is written unchanged, where such nodes are allowed.
abbrev pub foreign_step : Bool → Head → Trees → Step
foreign_step true h ts = written h ts
foreign_step false h ts = unwritten unregistered

-- What a plugin gives is written where the plugin declares the identifier.
abbrev pub plugin_step : PluginMeaning → Head → Answer → Step
plugin_step p h none = unwritten unserializable
plugin_step p h refused = unwritten unwilling
plugin_step p h (given y) = if is_among y.id p.declared then written (given_head h y) y.children else unwritten undeclared

-- A node of an encoding by what writes it.
abbrev pub writer_step : Option Reader → Head → Trees → Step
writer_step None h ts = unwritten unregistered
writer_step (Some (shipped e)) h ts = written h ts
writer_step (Some revised) h ts = written h ts
writer_step (Some (plugin p)) h ts = plugin_step p h (p.serialize (node h ts))

-- A node by what it is: foreign, or of an encoding.
abbrev pub step_by : SessionMeaning → Body → Head → Trees → Step
step_by s (B.foreign x) h ts = foreign_step s.ext.unknown h ts
step_by s b h ts = writer_step (s.writer (id_of (encoding_of b))) h ts

-- An array's root.
abbrev pub step : SessionMeaning → Tree → Step
step s (node h ts) = step_by s h.body h ts

-- The node of a step; one that is not written stands unchanged, over nothing.
abbrev pub step_head : Step → Head → Head
step_head (written g ts) h = g
step_head (unwritten why) h = h

-- The trees that are written below the node of a step.
abbrev pub step_below : Step → Trees
step_below (written g ts) = ts
step_below (unwritten why) = end

-- A function applied to each of several trees.
abbrev pub each : {A B : Type 0} → (Rose A → Rose B) → Roses A → Roses B
each f end = end
each f (more t ts) = more (f t) (each f ts)

-- An array as it is written, down to n levels below its root. What is deeper is left out: of an array that is deeper
-- than a limit, one level too many stands here, whatever plugins give. What a plugin gives stands as a node of which
-- nothing else is known: it is written, and never read as an array.
abbrev pub taken : SessionMeaning → ℕ → Tree → Tree
taken s zero t = node (step_head (step s t) (label t)) end
taken s (suc n) t = node (step_head (step s t) (label t)) (each (taken s n) (step_below (step s t)))

-- A step writes its node.
abbrev pub IsWrittenStep : Step → Type 0
IsWrittenStep (written g ts) = Unit {0}
IsWrittenStep (unwritten why) = ⊥

-- A fact holds of each of several arrays.
abbrev pub Each : (Tree → Type 0) → Trees → Type 0
Each P end = Unit {0}
Each P (more t ts) = P t × Each P ts

-- It holds of some of them.
abbrev pub Any : (Tree → Type 0) → Trees → Type 0
Any P end = ⊥
Any P (more t ts) = P t ⊎ Any P ts

-- Each node is written, down to n levels below the root.
abbrev pub IsTaken : SessionMeaning → ℕ → Tree → Type 0
IsTaken s zero t = IsWrittenStep (step s t)
IsTaken s (suc n) t = IsWrittenStep (step s t) × Each (λ u. IsTaken s n u) (step_below (step s t))

-- Some node, down to n levels below the root, is not written, for this cause.
abbrev pub HasUntaken : SessionMeaning → ℕ → Unwritten → Tree → Type 0
HasUntaken s zero why t = step s t ≡ unwritten why
HasUntaken s (suc n) why t = (step s t ≡ unwritten why) ⊎ Any (λ u. HasUntaken s n why u) (step_below (step s t))
