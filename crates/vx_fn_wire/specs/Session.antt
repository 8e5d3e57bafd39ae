-- The meaning of a session that holds boxed plugins, as a function of what a box gives.
use Rattle.std.specs.Prelude.{◌≡◌, ℕ, Bool, true, false, List, [], ◌∷◌, Option, Some, None, option_map, bytes_eq}
use Rattle.std.specs.HashMap.{get}
use Rattle.std.specs.declared.alloc.Global.{Global}
use Rattle.std.specs.declared.dyn_box.DynBox.{DynBox}
use Rattle.vx_proto.specs.Value.{Entry, Value}
use Rattle.vx_fn_wire.specs.declared.scalar_fn.ScalarFn.{ScalarFn}
use Rattle.vx_fn_wire.specs.declared.aggregate_fn.AggregateFn.{AggregateFn}
use Rattle.vx_fn_wire.specs.declared.error.FnWireError.{FnWireError}
use Rattle.vx_fn_wire.specs.declared.error.FnWireError.TheVariants.{UnknownId, IdMismatch, PluginRefused}
use Rattle.vx_fn_wire.specs.declared.session.ScalarFnSession.{ScalarFnSession}
use Rattle.vx_fn_wire.specs.declared.session.AggregateFnSession.{AggregateFnSession}
use Rattle.vx_fn_wire.specs.Foreign.{foreign_aggregate_fn}
use Rattle.vx_proto.specs.Value.{one_octets}
use Rattle.vx_fn_wire.specs.Messages.{metadata_of}

-- Which identifiers have a plugin, and which function each makes of metadata, if it does not refuse it.
abbrev pub Registry : Type 0 → Type 0
Registry F = List ℕ → Option (List ℕ → Option F)

-- Each identifier means what the box of its plugin gives.
abbrev pub scalars_meaning : {X : Type 0} {P : X → Type 0} → (DynBox X Global P → List ℕ → Option ScalarFn) → ScalarFnSession X P → Registry ScalarFn
scalars_meaning gives s = λ id. option_map (λ b. gives b) (get bytes_eq s.plugins id)

-- Each identifier means what the box of its plugin gives: a function for each metadata, which is a `Registry`, or for
-- each type the function that tells zones of its rows apart.
abbrev pub aggregates_meaning : {X : Type 0} {P : X → Type 0} {M : Type 0} → (DynBox X Global P → M) → AggregateFnSession X P → List ℕ → Option M
aggregates_meaning gives s = λ id. option_map (λ b. gives b) (get bytes_eq s.plugins id)

-- ---- what is given of metadata

-- A plugin gives its function; where there is no plugin and unknown functions are allowed, the foreign one is given.
abbrev pub IsGiven : {F : Type 0} → Option (List ℕ → Option F) → Bool → List ℕ → F → F → Type 0
IsGiven (Some gives) unknown metadata foreign f = gives metadata ≡ Some f
IsGiven None unknown metadata foreign f = (unknown ≡ true) × (f ≡ foreign)

-- Why no function is given: there is no plugin and unknown functions are not allowed, or the plugin refuses the
-- metadata.
abbrev pub RefusesGiving : {F : Type 0} → FnWireError → Option (List ℕ → Option F) → Bool → List ℕ → Type 0
RefusesGiving UnknownId reader unknown metadata = (reader ≡ None) × (unknown ≡ false)
RefusesGiving {F = F} PluginRefused reader unknown metadata = (gives : List ℕ → Option F) × (reader ≡ Some gives) × (gives metadata ≡ None)
RefusesGiving error reader unknown metadata = ⊥

-- ---- aggregate functions

-- The function of an identifier and metadata: the one that is given, if it has the identifier that was asked for.
abbrev pub IsAggregateOf : Option (List ℕ → Option AggregateFn) → Bool → List ℕ → List ℕ → AggregateFn → Type 0
IsAggregateOf reader unknown id metadata f = IsGiven reader unknown metadata (foreign_aggregate_fn id metadata) f × (f.id ≡ id)

-- Why there is none: no function is given, or one of another identifier.
abbrev pub RefusesAggregate : FnWireError → Option (List ℕ → Option AggregateFn) → Bool → List ℕ → List ℕ → Type 0
RefusesAggregate IdMismatch reader unknown id metadata = (f : AggregateFn) × IsGiven reader unknown metadata (foreign_aggregate_fn id metadata) f × (f.id ≡ id → ⊥)
RefusesAggregate error reader unknown id metadata = RefusesGiving error reader unknown metadata

-- Metadata in its slot, which is empty where the metadata is absent.
abbrev pub optional_octets : ℕ → Option (List ℕ) → List Entry
optional_octets i None = []
optional_octets i (Some s) = one_octets i s

-- The message of an aggregate function holds its identifier and metadata, which may be absent.
abbrev pub HoldsAggregate : Value → List ℕ → Option (List ℕ) → Type 0
HoldsAggregate v id metadata = v ≡ one_octets 1 id ∷ optional_octets 2 metadata ∷ []

-- A message is read as a function: the one of its identifier and metadata; absent metadata counts as empty.
pub record ReadsAggregate (registry : Registry AggregateFn) (unknown : Bool) (v : Value) (f : AggregateFn) : Type 0 where
  pub id : List ℕ
  pub metadata : Option (List ℕ)
  pub holds : HoldsAggregate v id metadata
  pub given : IsAggregateOf (registry id) unknown id (metadata_of metadata) f

-- Why a message is read as no function.
pub record RefusesReadingAggregate (error : FnWireError) (registry : Registry AggregateFn) (unknown : Bool) (v : Value) : Type 0 where
  pub id : List ℕ
  pub metadata : Option (List ℕ)
  pub holds : HoldsAggregate v id metadata
  pub cause : RefusesAggregate error (registry id) unknown id (metadata_of metadata)
