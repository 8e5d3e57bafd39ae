-- A blob spells at most one array.
use Rattle.std.proofs.Common.{ℕ, ◌≡◌, List, subst}
use Rattle.vx_types.specs.Typ.{Typ}
use Rattle.vx_array_tree.specs.Tree.{Tree}
use Rattle.vx_wire_tree.specs.Codec.{IsLawful}
use Rattle.vx_wire_tree.specs.Session.{SessionMeaning}
use Rattle.vx_wire_tree.specs.DecodesTo.{DecodesTo}
use Rattle.vx_wire_tree.specs.Wire.{Wire}
use Rattle.vx_wire_tree.proofs.Laws.{one_tree}
use Rattle.vx_encodings.specs.Messages.{codec}
use Rattle.vx_serde.specs.Spells.{Spells}
use Rattle.vx_serialized.proofs.LawsOfBlobs.{carried_once}

-- With one list of identifiers and under one session, a blob spells at most one array at a type and a length.
pub spelled_once : (blob : List ℕ) (ids : List (List ℕ)) (d : Typ) (n : ℕ) (s : SessionMeaning) (t u : Tree) → IsLawful codec s → Spells blob ids d n s t → Spells blob ids d n s u → t ≡ u
spelled_once blob ids d n s t u law x y =
    let w = (carried_once blob ids y.wire x.wire y.carried x.carried).tree in
    let P : Wire → Type 0 = λ z. DecodesTo codec s z d n u in
    one_tree codec s law x.wire d n t u x.told (subst P w y.told)
