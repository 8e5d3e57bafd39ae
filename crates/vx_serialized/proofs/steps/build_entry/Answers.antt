use Rattle.std.proofs.Common.{Some, refl}
use Rattle.vx_wire_tree.specs.Session.{shipped, revised}
use Rattle.vx_encodings.specs.Plain.{plain_encoding}
use Rattle.vx_serialized.proofs.EntrySteps.{no_plugin, told_parts, plugin_builds, plugin_unbuilt}
use Rattle.vx_serialized.proofs.steps.build_entry.Goals as goal

-- ---- a shipped encoding

pub build_of-requires : goal.build_of-requires
build_of-requires g c = (rw c.in-Shipped.is at c.requires.planned).0

pub returns-in-Shipped-clause-built : goal.returns-in-Shipped-clause-built
returns-in-Shipped-clause-built g c = rw c.in-Shipped.is c.build_of.ensures.built

pub returns-in-Shipped-clause-cause : goal.returns-in-Shipped-clause-cause
returns-in-Shipped-clause-cause g c = rw c.in-Shipped.is (c.build_of.ensures.cause (Some (shipped (plain_encoding c.in-Shipped.encoding))) refl)

-- ---- primitives under two identifiers

pub build_of-requires-in-Revised : goal.build_of-requires-in-Revised
build_of-requires-in-Revised g c = (rw c.in-Revised.is at c.requires.planned).0

pub returns-in-Revised-clause-built : goal.returns-in-Revised-clause-built
returns-in-Revised-clause-built g c = rw c.in-Revised.is c.build_of-in-Revised.ensures.built

pub returns-in-Revised-clause-cause : goal.returns-in-Revised-clause-cause
returns-in-Revised-clause-cause g c = rw c.in-Revised.is (c.build_of-in-Revised.ensures.cause (Some revised) refl)

-- ---- a plugin

pub returns-in-Ok-clause-built : goal.returns-in-Ok-clause-built
returns-in-Ok-clause-built g c =
    rw c.in-Boxed.is
    (plugin_builds (λ b. (goal.ArrayPlugin-dyn g (b.vtable, b.value)).means b.value) _ c.in-Some.plugin.now c.in-Some.ensures _ _ c.requires.borrowed c.args.head c.new-parts.result c.args.buffers c.args.children
    (told_parts c.new-parts.result c.args.head c.args.buffers c.args.children c.new-parts.ensures.id c.new-parts.ensures.dtype c.new-parts.ensures.len c.new-parts.ensures.metadata c.new-parts.ensures.buffers c.new-parts.ensures.children) c.new-parts.ensures.buffers c.new-parts.ensures.children c.in-Ok.array c.in-Ok.ensures)

pub returns-in-Err-clause-cause : goal.returns-in-Err-clause-cause
returns-in-Err-clause-cause g c =
    rw c.in-Boxed.is
    (rw c.plugin_error.ensures
    (plugin_unbuilt (λ b. (goal.ArrayPlugin-dyn g (b.vtable, b.value)).means b.value) _ c.in-Some.plugin.now c.in-Some.ensures _ _ c.requires.borrowed c.args.head c.new-parts.result c.args.buffers c.args.children
    (told_parts c.new-parts.result c.args.head c.args.buffers c.args.children c.new-parts.ensures.id c.new-parts.ensures.dtype c.new-parts.ensures.len c.new-parts.ensures.metadata c.new-parts.ensures.buffers c.new-parts.ensures.children) c.new-parts.ensures.buffers c.new-parts.ensures.children c.in-Err.e c.in-Err.ensures))

pub unreachable-requires : goal.unreachable-requires
unreachable-requires g c = no_plugin (λ b. (goal.ArrayPlugin-dyn g (b.vtable, b.value)).means b.value) _ c.in-None.ensures (rw c.in-Boxed.is at c.requires.within)
