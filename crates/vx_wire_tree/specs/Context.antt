-- The numbered identifiers of a write, and how they grow.
use Rattle.std.specs.Prelude.{ℕ, suc, List, [], ◌∷◌, ◌++◌, Option, Some, None, Bool, true, ◌&&◌, bytes_eq, nat_lt, if◌then◌else◌, take}
use Rattle.std.specs.List.{list_any}
use Rattle.vx_array_tree.specs.Tree.{Tree}
use Rattle.vx_wire_tree.specs.Codec.{Codec}
use Rattle.vx_wire_tree.specs.Session.{SessionMeaning}
use Rattle.vx_wire_tree.specs.Wire.{ids_in}
use Rattle.vx_wire_tree.specs.Written.{wire}

-- A context is a list of identifiers, each numbered by its place, and, where new ones are limited, a list of those that
-- are allowed.
pub record Context : Type 0 where
  pub ids : List (List ℕ)
  pub allowed : Option (List (List ℕ))

-- The first place of an identifier in a list; past the end where the list does not have it.
abbrev pub index_of : List ℕ → List (List ℕ) → ℕ
index_of id [] = 0
index_of id (other ∷ ids) = if bytes_eq id other then 0 else suc (index_of id ids)

-- Whether a list has an identifier.
abbrev pub is_among : List ℕ → List (List ℕ) → Bool
is_among id ids = list_any (bytes_eq id) ids

-- A list with an identifier at its end, where it does not have it yet.
abbrev pub with_id : List ℕ → List (List ℕ) → List (List ℕ)
with_id id ids = if is_among id ids then ids else ids ++ id ∷ []

-- A list with identifiers at its end, each once and only where it is new.
abbrev pub with_ids : List (List ℕ) → List (List ℕ) → List (List ℕ)
with_ids ids [] = ids
with_ids ids (id ∷ others) = with_ids (with_id id ids) others

-- An identifier is allowed where they are not limited, or where it is in the list of those that are.
abbrev pub is_allowed : Option (List (List ℕ)) → List ℕ → Bool
is_allowed None id = true
is_allowed (Some ids) id = is_among id ids

-- The context with an identifier, which goes last where it is new: none where the identifier is not allowed, or where
-- its place is not below 65,536.
abbrev pub interned : List ℕ → Context → Option Context
interned id ctx =
    if is_allowed ctx.allowed id && nat_lt (index_of id ctx.ids) 65536
    then Some (record { ids = with_id id ctx.ids; allowed = ctx.allowed })
    else None

-- The context with its first identifiers alone, this many of them.
abbrev pub truncated : ℕ → Context → Context
truncated n ctx = record { ids = take n ctx.ids; allowed = ctx.allowed }

-- The context that a step makes of another, where there is one.
abbrev pub stepped : Option Context → (Context → Option Context) → Option Context
stepped None step = None
stepped (Some ctx) step = step ctx

-- The context with identifiers, one after the other: none where one of them is refused.
abbrev pub grown_by : List (List ℕ) → Context → Option Context
grown_by [] ctx = Some ctx
grown_by (id ∷ ids) ctx = stepped (interned id ctx) (λ next. grown_by ids next)

-- The context with the identifiers of an array's wire tree, in preorder.
abbrev pub grown : Codec → SessionMeaning → Context → Tree → Option Context
grown c s ctx t = grown_by (ids_in (wire c s t)) ctx
