-- Which expression a message is, under a session that gives functions of rows, and why it is none.
use Rattle.std.specs.Prelude.{◌≡◌, ◌<◌, ℕ, zero, suc, Bool, List, [], ◌∷◌, Option, length}
use Rattle.std.specs.List.{IsAmong}
use Rattle.vx_trees.specs.Rose.{Roses, node, end, more, count}
use Rattle.vx_trees.specs.Everywhere.{Everywhere}
use Rattle.vx_proto.specs.Reads.{Reads, Cause}
use Rattle.vx_proto.specs.Repeated.{messages}
use Rattle.vx_proto.specs.Value.{Value}
use Rattle.vx_proto.specs.declared.error.ProtoError.TheVariants as proto
use Rattle.vx_fn_wire.specs.Arity.{Admits}
use Rattle.vx_fn_wire.specs.Expr.{Head, root, call, Expr, IsExpr}
use Rattle.vx_fn_wire.specs.Foreign.{foreign_fn}
use Rattle.vx_proto.specs.Value.{one_octets}
use Rattle.vx_fn_wire.specs.Messages.{metadata_of, root_id}
use Rattle.vx_fn_wire.specs.Schema.{expr_lists}
use Rattle.vx_fn_wire.specs.Session.{Registry, IsGiven, RefusesGiving, optional_octets}
use Rattle.vx_fn_wire.specs.declared.scalar_fn.ScalarFn.{ScalarFn}
use Rattle.vx_fn_wire.specs.declared.error.FnWireError.{FnWireError}
use Rattle.vx_fn_wire.specs.declared.error.FnWireError.TheVariants.{BadMessage, TooDeep, RootWithChildren, ArityMismatch}

-- The message of an expression holds an identifier, the messages of children in order, and metadata, which may be absent.
abbrev pub HoldsExpr : Value → List ℕ → List Value → Option (List ℕ) → Type 0
HoldsExpr v id children metadata = v ≡ one_octets 1 id ∷ messages (λ w. w) 2 children ∷ optional_octets 3 metadata ∷ []

module _ (registry : Registry ScalarFn) (unknown : Bool) where
  -- The function of an identifier and metadata, for a call on n children: the one that is given, where a foreign one is
  -- that of n children.
  abbrev pub IsFunctionOf : List ℕ → List ℕ → ℕ → ScalarFn → Type 0
  IsFunctionOf id metadata children f = IsGiven (registry id) unknown metadata (foreign_fn id metadata children) f

  -- What stands at a node, by the identifier and metadata of its message and the number of its children: the root at
  -- the root's identifier, whatever the metadata; at any other a call of the function of these.
  abbrev pub IsHeadOf : List ℕ → List ℕ → ℕ → Head → Type 0
  IsHeadOf id metadata children root = id ≡ root_id
  IsHeadOf id metadata children (call f) = (id ≡ root_id → ⊥) × IsFunctionOf id metadata children f

  -- An expression is such a node over these trees.
  abbrev pub IsNodeOf : List ℕ → List ℕ → Roses Head → Expr → Type 0
  IsNodeOf id metadata below (node h ts) = (ts ≡ below) × IsHeadOf id metadata (count below) h

  abbrev mutual
    -- The message of an expression: it holds the messages of the trees below the node, and an identifier and metadata
    -- of what stands there; absent metadata counts as empty.
    pub IsMessageOf : Expr → Value → Type 0
    IsMessageOf (node h ts) v =
        (id : List ℕ) × (children : List Value) × (metadata : Option (List ℕ)) × HoldsExpr v id children metadata × IsHeadOf id (metadata_of metadata) (count ts) h
        × AreMessagesOf ts children

    -- The messages of expressions, in order.
    pub AreMessagesOf : Roses Head → List Value → Type 0
    AreMessagesOf end vs = vs ≡ []
    AreMessagesOf (more t ts) vs = (w : Value) × (ws : List Value) × (vs ≡ w ∷ ws) × IsMessageOf t w × AreMessagesOf ts ws

  -- A message is read as an expression: it is the message of that.
  pub record ReadsExpr (v : Value) (e : Expr) : Type 0 where
    pub is_expr : IsExpr e
    pub message : IsMessageOf e v

  -- Bytes are read as an expression: they show its message.
  pub record ReadsExprBytes (bytes : List ℕ) (e : Expr) : Type 0 where
    pub value : Value
    pub shown : Reads expr_lists 0 bytes value
    pub read : ReadsExpr value e

  -- ---- why there is none

  -- Why nothing stands at a node, by the identifier and metadata of its message and the number of its children: the
  -- root has some; no function is given; or the function's arity does not admit that many.
  abbrev pub RefusesCall : FnWireError → List ℕ → List ℕ → ℕ → Type 0
  RefusesCall RootWithChildren id metadata children = (id ≡ root_id) × (0 < children)
  RefusesCall ArityMismatch id metadata children =
      (id ≡ root_id → ⊥) × (f : ScalarFn) × IsFunctionOf id metadata children f × (Admits f.arity children → ⊥)
  RefusesCall error id metadata children = (id ≡ root_id → ⊥) × RefusesGiving error (registry id) unknown metadata

  -- Nothing can stand at the node of a message.
  pub record RefusesNode (error : FnWireError) (v : Value) : Type 0 where
    pub id : List ℕ
    pub children : List Value
    pub metadata : Option (List ℕ)
    pub holds : HoldsExpr v id children metadata
    pub cause : RefusesCall error id (metadata_of metadata) (length children)

-- A message is a child of another: one of the messages that it holds.
abbrev pub IsChild : Value → Value → Type 0
IsChild v w = (id : List ℕ) × (children : List Value) × (metadata : Option (List ℕ)) × HoldsExpr v id children metadata × IsAmong children w

-- A message stands n levels below another: for n = 0 it is that one, for n + 1 it stands n levels below one of its
-- children.
abbrev pub StandsBelow : ℕ → Value → Value → Type 0
StandsBelow zero v w = v ≡ w
StandsBelow (suc n) v w = (u : Value) × IsChild v u × StandsBelow n u w

module _ (registry : Registry ScalarFn) (unknown : Bool) where
  -- Why a message is read as no expression: at some message in it, itself or below, nothing stands.
  pub record RefusesReadingExpr (error : FnWireError) (v : Value) : Type 0 where
    pub depth : ℕ
    pub at : Value
    pub stands : StandsBelow depth v at
    pub cause : RefusesNode registry unknown error at

  -- Why bytes are read as none: they are no fields of the schema, over 100 messages nest, or their message is read as none.
  abbrev pub RefusesReadingExprBytes : FnWireError → List ℕ → Type 0
  RefusesReadingExprBytes BadMessage bytes = Cause expr_lists 100 proto.BadMessage 0 bytes
  RefusesReadingExprBytes TooDeep bytes = Cause expr_lists 100 proto.TooDeep 0 bytes
  RefusesReadingExprBytes error bytes = (v : Value) × (Reads expr_lists 0 bytes v × RefusesReadingExpr error v)

  -- ---- what is read back

  -- The session gives the function of a call back, from the identifier and the metadata as which it is written. No
  -- function has the root's identifier.
  abbrev pub GivesBack : Head → Roses Head → Type 0
  GivesBack root ts = Unit {0}
  GivesBack (call f) ts = (f.id ≡ root_id → ⊥) × IsFunctionOf registry unknown f.id (metadata_of f.options) (count ts) f

  -- It gives back each function in an expression.
  abbrev pub GivesEachBack : Expr → Type 0
  GivesEachBack = Everywhere GivesBack
