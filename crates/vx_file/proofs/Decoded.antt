-- What is read of a column's blob.
use Rattle.std.proofs.Common.{ℕ, ◌≡◌, List, Result, Ok, Err, IfOk, IfErr, MatchResult, sym, subst}
use Rattle.std.specs.Prelude.{OnOk, false}
use Rattle.vx_flat.specs.Limits.{limits_to}
use Rattle.vx_types.specs.Typ.{Typ}
use Rattle.vx_array_tree.specs.Tree.{Tree}
use Rattle.vx_wire_tree.specs.Session.{SessionMeaning}
use Rattle.vx_serialized.specs.Carried.{IsWithinLimits, RefusesBlob}
use Rattle.vx_serialized.specs.declared.error.WireError.{WireError}
use Rattle.vx_serialized.specs.declared.error.WireError.TheVariants.{OutOfMemory}
use Rattle.vx_serde.specs.Spells.{Spells}
use Rattle.vx_file.specs.Spells.{SpellsColumn}

-- A blob that is read within the limits spells a column, whatever its bytes are called.
pub column_read : (bytes blob : List ℕ) → bytes ≡ blob → (ids : List (List ℕ)) (d : Typ) (n : ℕ) (s : SessionMeaning) (t : Tree) → IsWithinLimits (limits_to false) bytes → Spells bytes ids d n s t → SpellsColumn blob ids d n s t
column_read bytes blob e ids d n s t within spelled =
    let P : List ℕ → Type 0 = λ z. SpellsColumn z ids d n s t in
    subst P e (record { within_limits = within; spelled = spelled })

-- A refusal has its cause, whatever the bytes are called.
pub blob_refused : (bytes blob : List ℕ) → bytes ≡ blob → (ids : List (List ℕ)) (d : Typ) (n : ℕ) (s : SessionMeaning) (e : WireError) → RefusesBlob (limits_to false) s e bytes ids d n → RefusesBlob (limits_to false) s e blob ids d n
blob_refused bytes blob same ids d n s e h =
    let P : List ℕ → Type 0 = λ z. RefusesBlob (limits_to false) s e z ids d n in
    subst P same h

-- What a column's blob spells, by its other name.
pub column_as : (bytes blob : List ℕ) → bytes ≡ blob → (ids : List (List ℕ)) (d : Typ) (n : ℕ) (s : SessionMeaning) (t : Tree) → SpellsColumn blob ids d n s t → SpellsColumn bytes ids d n s t
column_as bytes blob same ids d n s t h =
    let P : List ℕ → Type 0 = λ z. SpellsColumn z ids d n s t in
    subst P (sym same) h
