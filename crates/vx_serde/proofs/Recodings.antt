-- What recoding a blob gives, what it leaves, and why it refuses.
use Rattle.std.proofs.Common.{ℕ, ◌≡◌, List, Option, None, Some, refl, sym, ap, ◌∙◌, subst, inl, inr}
use Rattle.std.specs.Prelude.{IsSome}
use Rattle.vx_array_tree.specs.Tree.{Tree, Trees}
use Rattle.vx_wire_tree.specs.Codec.{IsLawful}
use Rattle.vx_trees.specs.Rose.{node, end, more}
use Rattle.vx_trees.specs.Everywhere.{EverywhereBelow}
use Rattle.vx_array_tree.specs.Canon.{stats_written, each_stats_written}
use Rattle.vx_array_tree.specs.Place.{Place}
use Rattle.vx_array_tree.specs.Table.{metadata_of}
use Rattle.vx_array_tree.proofs.CanonLaws.{written_places}
use Rattle.vx_wire_tree.specs.Context.{Context, with_ids, grown}
use Rattle.vx_wire_tree.specs.Fields.{FitsMessage}
use Rattle.vx_wire_tree.specs.Limits.{HasMessage, HasMessages}
use Rattle.vx_wire_tree.specs.Session.{IsShipped, IsPaired}
use Rattle.vx_wire_tree.specs.Taken.{Unwritten, unregistered, unserializable, undeclared, unwilling, HasUntaken}
use Rattle.vx_wire_tree.specs.Wire.{Wire, ids_in}
use Rattle.vx_wire_tree.specs.Written.{wire, canon}
use Rattle.vx_wire_tree.proofs.Laws.{matched_written, canon_wire, canon_written, canon_grown, never_untaken, no_plugin_refuses, matched_normal}
use Rattle.vx_encodings.specs.Messages.{codec}
use Rattle.vx_serialized.specs.declared.error.WireError.{WireError}
use Rattle.vx_serialized.specs.declared.error.WireError.TheVariants.{OutOfMemory, TooShort, BadTable, TableLimit, BadAlignment, Compressed, OutOfBounds, UnknownIndex, UnknownEncoding, BadMetadata, BadShape, BadContent, ForeignControl, BadStats, NotPermitted, WireLimit, NotRegistered, NotSerializable, UndeclaredId, PluginRefused}
use Rattle.vx_serde.specs.Limits.{most_levels}
use Rattle.vx_serde.specs.KeptContext.{KeepsContext}
use Rattle.vx_serde.specs.Spells.{Spells, KeepsReaderLimits, ids_after}
use Rattle.vx_serde.specs.Written.{blob_bytes, IsWritable}
use Rattle.vx_buffer.specs.Joined.{joined}
use Rattle.vx_serialized.specs.Errors.{IsOfReading}
use Rattle.vx_serde.specs.Causes.{Refuses, RefusesReading, RefusesArray, RefusesSpelled, SpellsOne}
use Rattle.vx_serde.specs.Serializing.{IsWrittenBlob, IsSerialized}
use Rattle.vx_serde.specs.Request.{Request, IsSpelled}
use Rattle.vx_serde.specs.Recoding.{Product, IsRecoded, IsFaithful, IsTwiceAsOnce, LeavesContext}
use Rattle.vx_serde.specs.Taking.{as_written}
use Rattle.vx_serde.proofs.OneArray.{spelled_once}
use Rattle.vx_serde.proofs.Readable.{written_readable}
use Rattle.vx_serde.proofs.WrittenAgain.{spelled_again, serialized_again}
use Rattle.vx_serde.proofs.CanonicalSums.{told_sums}
use Rattle.vx_serde.proofs.WrittenOwn.{serialized_own}
use Rattle.vx_serde.proofs.Growing.{kept-same}
use Rattle.vx_serde.proofs.Taking.{refused_own}

-- ---- what is made

-- An array that was read is recoded where it is serialized.
pub recoded : (asked : Request) (made : Product) → IsLawful codec asked.session → IsPaired asked.session → IsSpelled asked made.array → KeepsReaderLimits asked.options asked.blob
    → IsSerialized asked.session made.array asked.options asked.context made.context made.buffers → IsRecoded asked made
recoded asked made law paired spelled limits serialized = record {
  spelled = spelled;
  reader_limits = limits;
  serialized = serialized;
  returned = λ r. serialized_again asked.session law paired made.array asked.context made.context asked.options made.buffers serialized r;
}

is_some : {A : Type 0} (o : Option A) (x : A) → o ≡ Some x → IsSome o
is_some None x e = absurd (cc)
is_some (Some y) x e = refl

-- The metadata of what is written of statistics fits its message as before.
mutual
  written_messages : (t : Tree) → HasMessages t → HasMessages (stats_written t)
  written_messages (node h ts) k =
      let P : List Place → Type 0 = λ ps. FitsMessage (metadata_of h.body ps) in
      (subst P (sym (written_places ts)) k.0, each_written_messages ts k.1)

  each_written_messages : (ts : Trees) → EverywhereBelow HasMessage ts → EverywhereBelow HasMessage (each_stats_written ts)
  each_written_messages end k = tt
  each_written_messages (more t ts) k = (written_messages t k.0, each_written_messages ts k.1)

-- What was recoded can be recoded again, and its bytes stay the same.
twice : (asked : Request) (made : Product) → IsShipped asked.session → IsLawful codec asked.session → IsSpelled asked made.array
    → IsWrittenBlob asked.session made.array asked.options asked.context made.context made.buffers
    → Spells (joined made.buffers) made.context.ids asked.dtype asked.len asked.session (canon codec asked.session made.array) → IsTwiceAsOnce asked made
twice asked made ok law spelled blob again =
    let s = asked.session in
    let o = asked.options in
    let t = made.array in
    let sound = spelled.told.sound in
    let normal = matched_normal codec s ok law spelled.wire t spelled.told.matched in
    let own : wire codec s (canon codec s t) ≡ wire codec s t = canon_wire codec s law.stats t sound normal in
    let by : Wire → List ℕ = λ w. blob_bytes (with_ids asked.context.ids (ids_in w)) o w in
    let P : Wire → Type 0 = λ w. IsWritable (with_ids asked.context.ids (ids_in w)) o w in
    let Q : List ℕ → Type 0 = λ z. KeepsReaderLimits o z in
    let same = canon_grown codec s law.stats asked.context t sound normal ∙ blob.grown_is in
    record {
      bytes = ap by own ∙ sym blob.written;
      context = same;
      can = record {
        array = canon codec s t;
        spelled = again;
        reader_limits = subst Q (sym blob.written) (written_readable (ids_after s t asked.context) o (wire codec s t) blob.limits.writable);
        writer_limits = record {
          messages = subst (λ (z : Tree). HasMessages z) (sym (canon_written codec s t sound normal)) (written_messages t blob.limits.messages);
          writable = subst P (sym own) blob.limits.writable;
        };
        grows = is_some (grown codec s asked.context (canon codec s t)) made.context same;
      };
    }

-- What is recoded by shipped encodings is faithful.
pub faithful : (asked : Request) (made : Product) → IsShipped asked.session → IsLawful codec asked.session → IsPaired asked.session → IsRecoded asked made → IsFaithful asked made
faithful asked made ok law paired recoded =
    let own = serialized_own asked.session made.array asked.options asked.context made.context made.buffers ok recoded.serialized in
    let B : Tree → Type 0 = λ z. IsWrittenBlob asked.session z asked.options asked.context made.context made.buffers in
    let blob : IsWrittenBlob asked.session made.array asked.options asked.context made.context made.buffers = subst B own recoded.serialized.blob in
    let P : List ℕ → Type 0 = λ z. Spells z made.context.ids asked.dtype asked.len asked.session (canon codec asked.session made.array) in
    let again = subst P (sym blob.written)
    (spelled_again asked.session ok law paired asked.blob asked.ids asked.dtype asked.len made.array asked.context made.context asked.options recoded.spelled blob.storable blob.grown_is blob.limits) in
    record {
      own = own;
      the_one = λ other x. spelled_once asked.blob asked.ids asked.dtype asked.len asked.session other made.array law x recoded.spelled;
      again = again;
      sums = told_sums asked.session ok law recoded.spelled.wire asked.dtype asked.len made.array recoded.spelled.told;
      twice = twice asked made ok law recoded.spelled blob again;
    }

-- ---- what is left

-- An unchanged context.
pub left-still : (asked : Request) → LeavesContext asked asked.context
left-still asked = record {
  some = inl refl;
  kept = λ shipped array spelled. kept-same (ids_in (wire codec asked.session array)) asked.context asked.context refl;
}

-- A context that has taken identifiers of the spelled array.
pub left-written : (asked : Request) → IsLawful codec asked.session → (t : Tree) (after : Context) → IsSpelled asked t → KeepsContext (ids_in (wire codec asked.session (as_written asked.session asked.options t))) asked.context after
    → (IsShipped asked.session → KeepsContext (ids_in (wire codec asked.session t)) asked.context after) → LeavesContext asked after
left-written asked law t after spelled keeps own = record {
  some = inr (record { array = t; spelled = spelled; kept = keeps });
  kept = λ ok array other.
      let P : Tree → Type 0 = λ z. KeepsContext (ids_in (wire codec asked.session z)) asked.context after in
      let same : array ≡ t = spelled_once asked.blob asked.ids asked.dtype asked.len asked.session array t law other spelled in
      subst P (sym same) (own ok);
}

-- ---- causes

-- A blob that is not read.
pub caused_by_reading : (asked : Request) (e : WireError) → RefusesReading asked e → Refuses asked e
caused_by_reading asked OutOfMemory u = u
caused_by_reading asked TooShort u = u
caused_by_reading asked BadTable u = u
caused_by_reading asked TableLimit u = u
caused_by_reading asked BadAlignment u = u
caused_by_reading asked Compressed u = u
caused_by_reading asked OutOfBounds u = u
caused_by_reading asked UnknownIndex u = u
caused_by_reading asked UnknownEncoding u = u
caused_by_reading asked BadMetadata u = u
caused_by_reading asked BadShape u = u
caused_by_reading asked BadContent u = u
caused_by_reading asked ForeignControl u = u
caused_by_reading asked BadStats u = u
caused_by_reading asked PluginRefused u = (λ ok. no_plugin_refuses codec asked.session ok u.wire asked.dtype asked.len u.cause, inl u)
caused_by_reading asked _ u = absurd u

-- What was read by encodings alone has writers.
has_writers : (asked : Request) → IsLawful codec asked.session → IsPaired asked.session → (t : Tree) → IsSpelled asked t → (why : Unwritten) → HasUntaken asked.session (most_levels asked.options) why t → IsShipped asked.session → ⊥
has_writers asked law paired t spelled why u ok =
    never_untaken asked.session ok (most_levels asked.options) why t (matched_written codec asked.session ok law paired spelled.wire t spelled.told.matched) u

-- With encodings alone it is written unchanged.
refused_spelled : (asked : Request) → IsLawful codec asked.session → IsPaired asked.session → (e : WireError) (t : Tree) → IsSpelled asked t → RefusesArray asked.session t asked.context asked.options e
    → SpellsOne asked (λ u. RefusesSpelled asked e u)
refused_spelled asked law paired e t spelled u = record {
  array = t;
  spelled = spelled;
  holds = record {
    written = u;
    own = λ ok. refused_own asked.session ok t asked.context asked.options e (matched_written codec asked.session ok law paired spelled.wire t spelled.told.matched) u;
  };
}

-- An array that is not written.
pub caused_by_writing : (asked : Request) → IsLawful codec asked.session → IsPaired asked.session → (e : WireError) (t : Tree) → IsSpelled asked t → RefusesArray asked.session t asked.context asked.options e → Refuses asked e
caused_by_writing asked law paired OutOfMemory t spelled u = tt
caused_by_writing asked law paired NotPermitted t spelled u = refused_spelled asked law paired NotPermitted t spelled u
caused_by_writing asked law paired WireLimit t spelled u = refused_spelled asked law paired WireLimit t spelled u
caused_by_writing asked law paired NotRegistered t spelled u = (has_writers asked law paired t spelled unregistered u, record { array = t; spelled = spelled; holds = u })
caused_by_writing asked law paired NotSerializable t spelled u = (has_writers asked law paired t spelled unserializable u, record { array = t; spelled = spelled; holds = u })
caused_by_writing asked law paired UndeclaredId t spelled u = (has_writers asked law paired t spelled undeclared u, record { array = t; spelled = spelled; holds = u })
caused_by_writing asked law paired PluginRefused t spelled u = (has_writers asked law paired t spelled unwilling u, inr (record { array = t; spelled = spelled; holds = u }))
caused_by_writing asked law paired _ t spelled u = absurd u

-- No refusal of reading alone leaves an array unwritten.
pub written_of_reading : (asked : Request) (e : WireError) (t : Tree) → RefusesArray asked.session t asked.context asked.options e → IsOfReading e → ⊥
written_of_reading asked TooShort t u r = absurd u
written_of_reading asked BadTable t u r = absurd u
written_of_reading asked TableLimit t u r = absurd u
written_of_reading asked BadAlignment t u r = absurd u
written_of_reading asked Compressed t u r = absurd u
written_of_reading asked OutOfBounds t u r = absurd u
written_of_reading asked UnknownIndex t u r = absurd u
written_of_reading asked UnknownEncoding t u r = absurd u
written_of_reading asked BadMetadata t u r = absurd u
written_of_reading asked BadShape t u r = absurd u
written_of_reading asked BadContent t u r = absurd u
written_of_reading asked ForeignControl t u r = absurd u
written_of_reading asked BadStats t u r = absurd u
written_of_reading asked _ t u r = absurd r
