-- What holds of the tables of types, for the proofs of other crates.
use Rattle.std.specs.Prelude.{ℕ, ◌≡◌, List}
use Rattle.vx_types.specs.Typ.{Typ}
use Rattle.vx_flat.proofs.LawsOfMessages.{shown-one}
use Rattle.vx_type_wire.specs.Schema.{type_schema}
use Rattle.vx_type_wire.specs.Shown.{ShowsType}
use Rattle.vx_type_wire.specs.TypeTable.{type_table}
use Rattle.vx_type_wire.proofs.OneType.{type_table-injective}
-- A type's message has its form and depth, and is the message of no other type; no type is both known and not.
pub use Rattle.vx_type_wire.proofs.MessageForm.{type_form, type_depth}
pub use Rattle.vx_type_wire.proofs.MessageFound.{message-injective}
pub use Rattle.vx_type_wire.proofs.OneType.{known_or}

-- A message shows one type at most.
pub one_type_shown : (m : List ℕ) (t u : Typ) → ShowsType m t → ShowsType m u → t ≡ u
one_type_shown m t u a b = type_table-injective t u a.is_type b.is_type (shown-one type_schema m (type_table t) (type_table u) a.shown b.shown)
