-- The messages of functions.
use Rattle.std.specs.Prelude.{◌≡◌, ◌<◌, ℕ, List, [], ◌∷◌, Option, None, IsSome, codes, unwrap_or}
use Rattle.vx_trees.specs.Rose.{Roses, node, end, more}
use Rattle.vx_trees.specs.Everywhere.{Everywhere, EverywhereBelow}
use Rattle.vx_trees.specs.Walks.{levels}
use Rattle.vx_proto.specs.Repeated.{messages}
use Rattle.vx_proto.specs.Value.{Value, one_octets}
use Rattle.vx_fn_wire.specs.declared.aggregate_fn.AggregateFn.{AggregateFn}
use Rattle.vx_fn_wire.specs.declared.error.FnWireError.{FnWireError}
use Rattle.vx_fn_wire.specs.declared.error.FnWireError.TheVariants.{OutOfMemory, TooDeep, NotSerializable}
use Rattle.vx_fn_wire.specs.Expr.{Head, root, call, Expr}

-- The metadata by which options are written; options that cannot be written have none.
abbrev pub metadata_of : Option (List ℕ) → List ℕ
metadata_of options = unwrap_or options []

-- The message of an aggregate function: its identifier and its metadata, which is always written.
abbrev pub aggregate_message : AggregateFn → Value
aggregate_message f = one_octets 1 f.id ∷ one_octets 2 (metadata_of f.options) ∷ []

-- Why an aggregate function is not written: its options cannot be. Allocation failure has no cause.
abbrev pub RefusesWritingAggregate : FnWireError → AggregateFn → Type 0
RefusesWritingAggregate OutOfMemory f = Unit {0}
RefusesWritingAggregate NotSerializable f = f.options ≡ None
RefusesWritingAggregate _ f = ⊥

-- ---- expressions

-- The identifier of the root, which no function has.
abbrev pub root_id : List ℕ
root_id = codes "vortex.root"

-- The identifier of what stands at a node.
abbrev pub id_of : Head → List ℕ
id_of root = root_id
id_of (call f) = f.id

-- The metadata of what stands at a node: a function's, and none at the root.
abbrev pub metadata_at : Head → List ℕ
metadata_at root = []
metadata_at (call f) = metadata_of f.options

-- A node's message over the given messages of its children: the identifier, the children, and the metadata, which is
-- always written.
abbrev pub call_message : Head → List Value → Value
call_message h children = one_octets 1 (id_of h) ∷ messages (λ v. v) 2 children ∷ one_octets 3 (metadata_at h) ∷ []

abbrev mutual
  -- The message of an expression.
  pub expr_message : Expr → Value
  expr_message (node h ts) = call_message h (expr_messages ts)

  -- The messages of expressions, in order.
  pub expr_messages : Roses Head → List Value
  expr_messages end = []
  expr_messages (more t ts) = expr_message t ∷ expr_messages ts

-- The options of what stands at a node can be written: the root has none.
abbrev pub CanWrite : Head → Roses Head → Type 0
CanWrite root ts = Unit {0}
CanWrite (call f) ts = IsSome f.options

-- The options of each function in an expression can be written.
abbrev pub IsSerializable : Expr → Type 0
IsSerializable = Everywhere CanWrite

-- The same for each of these.
abbrev pub AreSerializable : Roses Head → Type 0
AreSerializable = EverywhereBelow CanWrite

-- Why an expression has no message: the options of some function in it cannot be written. Allocation failure has no cause.
abbrev pub RefusesWritingExpr : FnWireError → Expr → Type 0
RefusesWritingExpr OutOfMemory e = Unit {0}
RefusesWritingExpr NotSerializable e = IsSerializable e → ⊥
RefusesWritingExpr _ e = ⊥

-- Why it has no bytes: that, or it has over 100 levels, each of which is a message in the one above.
abbrev pub RefusesWritingExprBytes : FnWireError → Expr → Type 0
RefusesWritingExprBytes TooDeep e = 100 < levels e
RefusesWritingExprBytes error e = RefusesWritingExpr error e
