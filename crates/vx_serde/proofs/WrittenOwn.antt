-- Where no plugin writes, what is serialized is written unchanged, and spells what is read back of it.
use Rattle.std.proofs.Common.{ℕ, ◌≡◌, List, ◌≤◌, subst, sym, arith}
use Rattle.vx_buffer.specs.Buffer.{Buffer}
use Rattle.vx_trees.specs.Rose.{label}
use Rattle.vx_trees.specs.Walks.{levels}
use Rattle.vx_array_tree.specs.Tree.{Tree}
use Rattle.vx_wire_tree.specs.Codec.{IsLawful}
use Rattle.vx_wire_tree.specs.Context.{Context}
use Rattle.vx_wire_tree.specs.Session.{SessionMeaning, IsShipped, IsPaired}
use Rattle.vx_wire_tree.specs.Written.{canon}
use Rattle.vx_wire_tree.proofs.Laws.{taken_own, taken_written}
use Rattle.vx_encodings.specs.Messages.{codec}
use Rattle.vx_serde.specs.declared.options.SerializeOptions.{SerializeOptions}
use Rattle.vx_serde.specs.Limits.{most_levels}
use Rattle.vx_serde.specs.Serializing.{IsWrittenBlob, IsSerialized, IsReadAgain, IsSpelledBack}
use Rattle.vx_serde.specs.Spells.{Spells}
use Rattle.vx_serde.specs.Taking.{as_written}
use Rattle.vx_serde.proofs.WiredNodes.{wired-levels}
use Rattle.vx_serde.proofs.WrittenAgain.{read_back}

-- An array that is serialized is written within the levels.
pub levels_within : (s : SessionMeaning) (t : Tree) (o : SerializeOptions) (before after : Context) (bs : List Buffer) → IsSerialized s t o before after bs → levels (as_written s o t) ≤ most_levels o
levels_within s t o before after bs x = omega (arith, x.blob.limits.writable.tree.nested, wired-levels s (as_written s o t))

-- It is written unchanged.
pub serialized_own : (s : SessionMeaning) (t : Tree) (o : SerializeOptions) (before after : Context) (bs : List Buffer) → IsShipped s → IsSerialized s t o before after bs → as_written s o t ≡ t
serialized_own s t o before after bs ok x = taken_own s ok (most_levels o) t x.taken (levels_within s t o before after bs x)

-- Its bytes spell what is read back of it.
pub serialized_back : (s : SessionMeaning) → IsShipped s → IsLawful codec s → IsPaired s → (t : Tree) (o : SerializeOptions) (before after : Context) (bs : List Buffer) → IsSerialized s t o before after bs → IsReadAgain s t
    → IsSpelledBack s t after bs
serialized_back s ok law paired t o before after bs x again =
    let B : Tree → Type 0 = λ z. IsWrittenBlob s z o before after bs in
    let blob : IsWrittenBlob s t o before after bs = subst B (serialized_own s t o before after bs ok x) x.blob in
    let written = taken_written s ok (most_levels o) t x.taken (levels_within s t o before after bs x) in
    let P : List ℕ → Type 0 = λ z. Spells z after.ids (label t).dtype (label t).len s (canon codec s t) in
    subst P (sym blob.written) (read_back s ok law paired t before after o again written blob.storable blob.grown_is blob.limits)
