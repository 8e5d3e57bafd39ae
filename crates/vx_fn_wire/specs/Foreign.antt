-- Functions that no plugin knows.
use Rattle.std.specs.Prelude.{ℕ, false, List, [], Some}
use Rattle.vx_fn_wire.specs.declared.arity.Arity.TheVariants.{Exact}
use Rattle.vx_fn_wire.specs.declared.scalar_fn.ScalarFn.{ScalarFn}
use Rattle.vx_fn_wire.specs.declared.aggregate_fn.AggregateFn.{AggregateFn}
use Rattle.vx_fn_wire.specs.Texts.{foreign_text}

-- The foreign function of an identifier and metadata: the metadata is its options, its calls have exactly n children,
-- none of them named, and nothing more is known of it.
abbrev pub foreign_fn : List ℕ → List ℕ → ℕ → ScalarFn
foreign_fn id metadata arity = record {
  id = id;
  options = Some metadata;
  text = foreign_text arity metadata;
  arity = Exact arity;
  child_names = [];
  strict = false;
  infallible = false;
}

-- The foreign aggregate function of an identifier and metadata.
abbrev pub foreign_aggregate_fn : List ℕ → List ℕ → AggregateFn
foreign_aggregate_fn id metadata = record { id = id; options = Some metadata }
