-- What a wire tree decodes to, and that one which decodes to an array is not refused, for the proofs of other crates
-- too.
use Rattle.std.proofs.Common.{ℕ, ◌≡◌, refl}
use Rattle.std.specs.Prelude.{Result, Ok, Err, IfOk, IfErr}
use Rattle.vx_types.specs.Typ.{Typ}
use Rattle.vx_array_tree.specs.Tree.{Tree}
use Rattle.vx_wire_tree.specs.Causes as trees
use Rattle.vx_wire_tree.specs.Codec.{IsLawful}
use Rattle.vx_wire_tree.specs.Session.{SessionMeaning}
use Rattle.vx_wire_tree.specs.DecodesTo.{DecodesTo}
use Rattle.vx_wire_tree.specs.Wire.{Wire}
use Rattle.vx_wire_tree.proofs.Laws.{never_refused, one_tree}
use Rattle.vx_encodings.specs.Messages.{codec}
use Rattle.vx_serialized.specs.declared.error.WireError.{WireError}
use Rattle.vx_serialized.specs.declared.error.WireError.TheVariants.{OutOfMemory, OutOfBounds, UnknownIndex, UnknownEncoding, BadMetadata, BadShape, BadContent, ForeignControl, BadStats, PluginRefused}
use Rattle.vx_serialized.specs.Causes.{RefusesWire}

-- No node of a wire tree that decodes to an array is refused.
pub never_caused : (s : SessionMeaning) → IsLawful codec s → (x : WireError) (w : Wire) (d : Typ) (n : ℕ) (t : Tree) → DecodesTo codec s w d n t → RefusesWire s x w d n → x ≡ OutOfMemory
never_caused s law OutOfMemory w d n t told c = refl
never_caused s law OutOfBounds w d n t told c = absurd (never_refused codec s law trees.out_of_bounds w d n t told c)
never_caused s law UnknownIndex w d n t told c = absurd (never_refused codec s law trees.unknown_index w d n t told c)
never_caused s law UnknownEncoding w d n t told c = absurd (never_refused codec s law trees.unknown_encoding w d n t told c)
never_caused s law BadMetadata w d n t told c = absurd (never_refused codec s law trees.bad_metadata w d n t told c)
never_caused s law BadShape w d n t told c = absurd (never_refused codec s law trees.bad_shape w d n t told c)
never_caused s law BadContent w d n t told c = absurd (never_refused codec s law trees.bad_content w d n t told c)
never_caused s law ForeignControl w d n t told c = absurd (never_refused codec s law trees.foreign_control w d n t told c)
never_caused s law BadStats w d n t told c = absurd (never_refused codec s law trees.bad_stats w d n t told c)
never_caused s law PluginRefused w d n t told c = absurd (never_refused codec s law trees.plugin_refused w d n t told c)
never_caused s law _ w d n t told c = absurd c

-- What a wire tree decodes to is the only array that it decodes to, and where there is one, the only refusal is
-- `OutOfMemory`.
pub told_one : (s : SessionMeaning) → IsLawful codec s → (w : Wire) (d : Typ) (n : ℕ) (r : Result Tree WireError) → IfOk r (λ u. DecodesTo codec s w d n u) → IfErr r (λ e. RefusesWire s e w d n)
    → (t : Tree) → DecodesTo codec s w d n t → IfOk r (λ u. u ≡ t) × IfErr r (λ e. e ≡ OutOfMemory)
told_one s law w d n (Ok u) told cause t x = (one_tree codec s law w d n u t told x, tt)
told_one s law w d n (Err e) told cause t x = (tt, never_caused s law e w d n t x cause)
