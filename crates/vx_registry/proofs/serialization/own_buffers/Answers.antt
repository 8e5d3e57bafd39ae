use Rattle.std.proofs.Common.{ℕ, ◌≡◌, ◌+◌, List, [], ◌∷◌, ◌++◌, Some, take, ap, sym, ◌∙◌}
use Rattle.std.specs.Prelude.{slice_get}
use Rattle.std.proofs.lemmas.List.{take_more}
use Rattle.std.proofs.lemmas.Option.{get_or_from_slice_get, slice_get_within}
use Rattle.vx_buffer.specs.Buffer.{Buffer}
use Rattle.vx_trees.specs.Rose.{label}
use Rattle.vx_array_tree.specs.Table.{buffers_of}
use Rattle.vx_registry.proofs.serialization.own_buffers.Goals as goal

-- One more buffer.
next : (xs : List Buffer) (i : ℕ) (b : Buffer) → slice_get xs i ≡ Some b → take (i + 1) xs ≡ take i xs ++ b ∷ []
next xs i b e = take_more xs i b (slice_get_within xs i b e) ∙ ap (λ x. take i xs ++ x ∷ []) (get_or_from_slice_get xs i b b e)

pub loop-i-preserved : goal.loop-i-preserved
loop-i-preserved c =
    let b = c.in-Ok.buffer in
    let here = c.buffer.ensures ∙ ap (λ z. Some z) (sym c.in-Ok.ensures) in
    let more : List Buffer → List Buffer = λ z. z ++ b ∷ [] in
    c.in-Ok-push.ensures.ok ∙ ap more c.loop-i.invariant ∙ sym (next (buffers_of (label c.args.array.now).body) c.loop-i.i b here)
