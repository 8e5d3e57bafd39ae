use Rattle.std.proofs.Common.{Option, Some, None, sym, subst}
use Rattle.std.specs.Prelude.{◌≡◌, IfSome}
use Rattle.vx_flat.specs.declared.schema.FieldKind.TheVariants.{Table}
use Rattle.vx_flat.specs.declared.viewing.View.{View}
use Rattle.vx_flat.specs.Parts.{IsTable}
use Rattle.vx_flat.specs.Seen.{IsViewOf, IsBelow, kind_in, table_seen}
use Rattle.vx_flat.proofs.LawsOfViews.{kind-of, table-of}
use Rattle.vx_flat_tests.specs.Worked.{array_schema}
use Rattle.vx_flat_tests.proofs.viewing.node.Goals as goal

-- The table in the first field of an array, if there is one, is a node.
node_below : (v : View) (o : Option View) → IsViewOf array_schema 0 v → IfSome o (λ w. IsBelow v w)
    → IfSome o (λ w. kind_in v 0 ≡ Some (Table (table_seen w))) → IfSome o (λ w. IsViewOf array_schema 1 w)
node_below v None h b k = tt
node_below v (Some w) h b k = table-of array_schema v w 0 1 h.schema (kind-of array_schema 0 v h 0) b k

pub table-requires : goal.table-requires
table-requires c = subst IsTable (sym (kind-of array_schema 0 c.args.view.now c.requires 0)) tt

pub returns : goal.returns
returns c = node_below c.args.view.now c.table.result c.requires c.table.ensures.below c.table.ensures.kind
