-- What is written of an array's root, by what writes it, and its parts.
use Rattle.std.proofs.Common.{ℕ, ◌≡◌, List, Option, Some, None, refl, sym, ap, ◌∙◌, subst}
use Rattle.vx_trees.specs.Rose.{node, label, below}
use Rattle.vx_array_tree.specs.Body.{Body}
use Rattle.vx_array_tree.specs.Body as B
use Rattle.vx_array_tree.specs.Table.{own_id, IsNative}
use Rattle.vx_array_tree.specs.Tree.{Tree, Trees, Head}
use Rattle.vx_wire_tree.specs.Limits.{HasMessage}
use Rattle.vx_wire_tree.specs.Plugin.{PluginMeaning}
use Rattle.vx_wire_tree.specs.Session.{SessionMeaning, Reader, plugin}
use Rattle.vx_wire_tree.specs.Written.{writes_two}
use Rattle.vx_wire_tree.specs.Taken.{Step, written, unwritten, unserializable, given_head, plugin_step, writer_step, step_by, step}
use Rattle.vx_registry.specs.Plugin.{parts_in}
use Rattle.vx_registry.specs.Serialization.{HasPartsOf, RefusesPartsOf, IsSerializedAs, RefusesSerializing}
use Rattle.vx_registry.specs.declared.error.RegistryError.{RegistryError}
use Rattle.vx_registry.specs.declared.error.RegistryError.TheVariants as registry
use Rattle.vx_registry.specs.declared.serialization.ArraySerialization.{ArraySerialization}

native_by : (s : SessionMeaning) (b : Body) (h : Head) (ts : Trees) → IsNative b → step_by s b h ts ≡ writer_step (s.writer (own_id b)) h ts
native_by s (B.foreign x) h ts k = absurd k
native_by s _ h ts k = refl

-- What is written of a root whose encoding is known, by what its identifier finds among the writers.
pub native_root : (s : SessionMeaning) (t : Tree) (id : List ℕ) (o : Option Reader) → IsNative (label t).body → id ≡ own_id (label t).body → s.writer id ≡ o → step s t ≡ writer_step o (label t) (below t)
native_root s (node h ts) id o k i e = native_by s h.body h ts k ∙ ap (λ z. writer_step (s.writer z) h ts) (sym i) ∙ ap (λ z. writer_step z h ts) e

-- The same where a plugin writes it.
pub plugin_root : (s : SessionMeaning) (t : Tree) (id : List ℕ) (p : PluginMeaning) → IsNative (label t).body → id ≡ own_id (label t).body → s.writer id ≡ Some (plugin p) → step s t ≡ plugin_step p (label t) (p.serialize t)
plugin_root s (node h ts) id p k i e = native_root s (node h ts) id (Some (plugin p)) k i e

-- The parts of a root that is written unchanged.
pub own_parts : (s : SessionMeaning) (t : Tree) (x : Step) (p : ArraySerialization) → x ≡ written (label t) (below t) → HasPartsOf (writes_two s) t p → HasMessage (label t) (below t) → IsSerializedAs s x (Some p)
own_parts s (node h ts) x p e k m = subst (λ z. IsSerializedAs s z (Some p)) (sym e) (k, m)

-- The parts that a plugin gives.
pub given_parts : (s : SessionMeaning) (h : Head) (x : Step) (p : ArraySerialization) → x ≡ written (given_head h (parts_in p)) p.children → IsSerializedAs s x (Some p)
given_parts s h x p e =
    let own : HasPartsOf (writes_two s) (node (given_head h (parts_in p)) p.children) p = record { id_is = refl; metadata_is = refl; buffers_are = refl; children_are = refl } in
    subst (λ z. IsSerializedAs s z (Some p)) (sym e) (own, tt)

-- No parts, where a plugin has no form.
pub no_parts : (s : SessionMeaning) (x : Step) → x ≡ unwritten unserializable → IsSerializedAs s x None
no_parts s x e = subst (λ z. IsSerializedAs s z None) (sym e) tt

-- Why a root that is written unchanged has no parts.
pub without_parts : (t : Tree) (x : Step) (e : RegistryError) → x ≡ written (label t) (below t) → RefusesPartsOf e t → RefusesSerializing e x
without_parts t x registry.OutOfMemory e k = tt
without_parts t x registry.NotRegistered e k = absurd k
without_parts t x registry.UndeclaredId e k = absurd k
without_parts t x registry.PluginRefused e k = absurd k
without_parts t x registry.WireLimit e k = subst (λ z. RefusesSerializing registry.WireLimit z) (sym e) k
