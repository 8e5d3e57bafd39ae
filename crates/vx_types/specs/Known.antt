-- The types that readers of extensions know.
use Rattle.std.specs.Prelude.{ℕ, List, Bool, false, Option, Some, None, IsTrue}
use Rattle.vx_trees.specs.Rose.{Roses, more}
use Rattle.vx_trees.specs.Everywhere.{Everywhere, EverywhereBelow}
use Rattle.vx_types.specs.Kind.{Kind, extension}
use Rattle.vx_types.specs.Typ.{Typ}

-- The meaning of a set of readers: which identifiers have one, which extensions it accepts by their metadata
-- and storage, and whether extensions without a reader are allowed.
pub record ExtMeaning : Type 0 where
  pub reader : List ℕ → Option (List ℕ → Typ → Bool)
  pub unknown : Bool

-- No readers, and extensions without one are not allowed.
abbrev pub no_readers : ExtMeaning
no_readers = record { reader = λ id. None; unknown = false }

-- The reader of its identifier accepts the extension, or there is none and such extensions are allowed.
abbrev pub IsAcceptedBy : Option (List ℕ → Typ → Bool) → Bool → List ℕ → Typ → Type 0
IsAcceptedBy (Some accepts) unknown metadata storage = IsTrue (accepts metadata storage)
IsAcceptedBy None unknown metadata storage = IsTrue unknown

-- The same, of the identifier, metadata and storage of an extension in a session.
abbrev pub IsAccepted : ExtMeaning → List ℕ → List ℕ → Typ → Type 0
IsAccepted s id metadata storage = IsAcceptedBy (s.reader id) s.unknown metadata storage

-- The fact holds of a node, if that is an extension, by its identifier, metadata and storage.
abbrev pub IfExtension : (List ℕ → List ℕ → Typ → Type 0) → Kind → Roses Kind → Type 0
IfExtension P (extension id metadata) (more t ts) = P id metadata t
IfExtension P _ _ = Unit {0}

-- The fact holds of each extension within the type.
abbrev pub EachExtension : (List ℕ → List ℕ → Typ → Type 0) → Typ → Type 0
EachExtension P = Everywhere (IfExtension P)

-- A type is known in a session where each extension within it is accepted.
abbrev pub IsKnown : ExtMeaning → Typ → Type 0
IsKnown s = EachExtension (IsAccepted s)

-- Each of the types is known.
abbrev pub AreKnown : ExtMeaning → Roses Kind → Type 0
AreKnown s = EverywhereBelow (IfExtension (IsAccepted s))
