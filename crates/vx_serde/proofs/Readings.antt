-- What is read of a blob.
use Rattle.std.proofs.Common.{ℕ, ◌≡◌, List, Result, Ok, Err, IfOk, IfErr}
use Rattle.std.specs.Prelude.{OnOk}
use Rattle.vx_flat.specs.declared.limits.Limits.{Limits}
use Rattle.vx_types.specs.Typ.{Typ}
use Rattle.vx_array_tree.specs.Tree.{Tree}
use Rattle.vx_wire_tree.specs.Codec.{IsLawful}
use Rattle.vx_wire_tree.specs.DecodesTo.{DecodesTo}
use Rattle.vx_wire_tree.specs.Session.{SessionMeaning}
use Rattle.vx_encodings.specs.Messages.{codec}
use Rattle.vx_serialized.specs.Carried.{IsWithinLimits, RefusesBlob}
use Rattle.vx_serialized.specs.Causes.{RefusesWire}
use Rattle.vx_serialized.specs.Serialized.{Serialized, wire_in}
use Rattle.vx_serialized.specs.Stored.{IsBlobOf}
use Rattle.vx_serialized.specs.declared.error.WireError.{WireError}
use Rattle.vx_serialized.specs.declared.error.WireError.TheVariants.{OutOfMemory}
use Rattle.vx_serialized.proofs.LawsOfBlobs.{opened}
use Rattle.vx_serialized.proofs.LawsOfRefusals.{undecoded}
use Rattle.vx_serde.specs.Spells.{Spells}
use Rattle.vx_serde.proofs.NeverCaused.{never_refused}
use Rattle.vx_serde.proofs.OneArray.{spelled_once}

pub all_within : {P : Type 0} (r : Result Tree WireError) → P → OnOk r P
all_within (Ok t) p = p
all_within (Err e) p = tt

module _ (most : Limits) (s : SessionMeaning) (blob : List ℕ) (ids : List (List ℕ)) (d : Typ) (n : ℕ) where
  module _ (a : Serialized) (is : IsBlobOf most blob a) where
    -- An opened blob spells the array that its wire tree decodes to.
    spells : (t : Tree) → DecodesTo codec s (wire_in ids a) d n t → Spells blob ids d n s t
    spells t told =
        let open_blob = opened most blob ids a is in
        record { wire = wire_in ids a; carried = open_blob.carried; clean = open_blob.clean; told = told }

    pub all_spelled : (r : Result Tree WireError) → IfOk r (DecodesTo codec s (wire_in ids a) d n) → IfOk r (Spells blob ids d n s)
    all_spelled (Ok t) told = spells t told
    all_spelled (Err e) told = tt

    pub all_undecoded : (r : Result Tree WireError) → IfErr r (λ e. RefusesWire s e (wire_in ids a) d n) → IfErr r (λ e. RefusesBlob most s e blob ids d n)
    all_undecoded (Ok t) cause = tt
    all_undecoded (Err e) cause = undecoded most s blob ids d n e (wire_in ids a) (opened most blob ids a is).carried cause

  module _ (law : IsLawful codec s) where
    -- The array that was read is the only one.
    pub the_one : (r : Result Tree WireError) → IfOk r (Spells blob ids d n s) → IfOk r (λ t. (other : Tree) → Spells blob ids d n s other → other ≡ t)
    the_one (Ok t) spelled = λ other x. spelled_once blob ids d n s other t law x spelled
    the_one (Err e) spelled = tt

    -- Where the blob spells an array within the limits, that is read, unless allocation fails.
    pub complete : (r : Result Tree WireError) → IfOk r (Spells blob ids d n s) → IfErr r (λ e. RefusesBlob most s e blob ids d n) → IsWithinLimits most blob → (t : Tree) → Spells blob ids d n s t
        → IfOk r (λ u. u ≡ t) × IfErr r (λ e. e ≡ OutOfMemory)
    complete (Ok u) spelled cause within t x = (spelled_once blob ids d n s u t law spelled x, tt)
    complete (Err e) spelled cause within t x = (tt, never_refused most s law blob ids d n t x within e cause)
