use Rattle.std.proofs.Common.{◌≡◌, Some, sym, subst}
use Rattle.vx_flat.specs.declared.schema.FieldKind.TheVariants.{Tables}
use Rattle.vx_flat.specs.declared.viewing.View.{View}
use Rattle.vx_flat.specs.declared.viewing.VectorView.{VectorView}
use Rattle.vx_flat.specs.Parts.{IsVector, IsTables}
use Rattle.vx_flat.specs.Seen.{IsViewOf, IsVectorOf, IsVectorBelow, kind_in, kind_seen}
use Rattle.vx_flat.proofs.LawsOfViews.{kind-of, vector-of}
use Rattle.vx_flat_tests.specs.Worked.{array_schema}
use Rattle.vx_flat_tests.proofs.viewing.child.Goals as goal

-- The children are nodes.
are_nodes : (v : View) (w : VectorView) → IsViewOf array_schema 1 v → IsVectorBelow v w
    → kind_in v 2 ≡ Some (kind_seen w) → IsVectorOf array_schema (Tables 1) w
are_nodes v w h below kind = vector-of array_schema v w 2 (Tables 1) h.schema (kind-of array_schema 1 v h 2) below kind

pub vector-requires : goal.vector-requires
vector-requires c = subst IsVector (sym (kind-of array_schema 1 c.args.view.now c.requires 2)) tt

pub table-first-requires-clause-kind : goal.table-first-requires-clause-kind
table-first-requires-clause-kind c =
    let nodes = are_nodes c.args.view.now c.in-Some.children c.requires c.in-Some.ensures.below c.in-Some.ensures.kind in
    subst IsTables (sym nodes.kind) tt

pub table-requires-clause-kind : goal.table-requires-clause-kind
table-requires-clause-kind c =
    let nodes = are_nodes c.args.view.now c.in-Some.children c.requires c.in-Some.ensures.below c.in-Some.ensures.kind in
    subst IsTables (sym nodes.kind) tt
