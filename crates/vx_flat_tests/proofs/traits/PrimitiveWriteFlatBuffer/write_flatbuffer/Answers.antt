use Rattle.std.proofs.Common.{◌≡◌, ℕ, false, ◌∷◌, [], ap, ◌∙◌, subst}
use Rattle.std.proofs.lemmas.Result.{err_from_is_err_and}
use Rattle.vx_flat.specs.declared.builder.piece.LinkKind.TheVariants as kinds
use Rattle.vx_flat.specs.declared.builder.piece.BlockField.TheVariants as entry
use Rattle.vx_flat.specs.Pieces.{pieces, table_piece, default_entry}
use Rattle.vx_flat.specs.Building.{Built, waiting, with_piece, RefusesPiece, RefusesPieces}
use Rattle.vx_flat.specs.Value.{Fields, field, no_fields, member, number}
use Rattle.vx_flat.proofs.LawsOfBuilding.{stopped-first, stopped-later, keeps-stopped}
use Rattle.vx_flat_tests.specs.Worked.{primitive_schema}
use Rattle.vx_flat_tests.proofs.traits.PrimitiveWriteFlatBuffer.write_flatbuffer.Goals as goal

pub returns-in_err-dtype-clause-cause : goal.returns-in_err-dtype-clause-cause
returns-in_err-dtype-clause-cause c =
    let p = err_from_is_err_and c.from_residual.result c.from_residual.ensures.1 in
    rw (p.1, p.2) (
      c.table.new.self,
      stopped-first _ _ _ _ _ c.in_err-dtype.ensures.refused,
    )

-- The table of a primitive type.
abbrev table_of : ℕ → Fields
table_of code = field (member 3 (field (number code) (field (number 0) no_fields))) no_fields

-- Where the second table is refused, the writing of both stops.
second_stopped : (c : goal.After-from_residual-in_err-table) → RefusesPieces c.args.builder.now (pieces primitive_schema (table_of c.args.self.now.code))
    c.in_err-table.field-0.0 c.table-2.new.self
second_stopped c =
    let old = c.args.builder.now in
    let e = c.in_err-table.field-0.0 in
    let one = table_piece (entry.Number 1 3 ∷ entry.Link kinds.Table ∷ []) in
    let two = table_piece (default_entry 1 c.args.self.now.code ∷ entry.Absent ∷ []) in
    let works : c.table.new.self.failed ≡ false = ap (λ (b : Built). b.failed) c.in_ok-dtype.ensures.written in
    let mid : c.link.new.self ≡ waiting (with_piece old one) =
    c.link.ensures.waits works ∙ ap waiting c.in_ok-dtype.ensures.written in
    let r : RefusesPiece c.link.new.self two e c.table-2.new.self =
    subst (λ z. RefusesPiece c.link.new.self (table_piece (z ∷ entry.Absent ∷ [])) e c.table-2.new.self) c.byte_entry.ensures
    c.in_err-table.ensures.refused in
    stopped-later old c.link.new.self c.table-2.new.self one [] (two ∷ []) [] e mid
    (stopped-first c.link.new.self c.table-2.new.self two [] e r)

pub returns-in_err-table-clause-kept : goal.returns-in_err-table-clause-kept
returns-in_err-table-clause-kept c =
    let p = err_from_is_err_and c.from_residual-in_err-table.result c.from_residual-in_err-table.ensures.1 in
    rw p.1 (keeps-stopped _ _ _ _ (second_stopped c))

pub returns-in_err-table-clause-cause : goal.returns-in_err-table-clause-cause
returns-in_err-table-clause-cause c =
    let p = err_from_is_err_and c.from_residual-in_err-table.result c.from_residual-in_err-table.ensures.1 in
    rw (p.1, p.2) (c.table-2.new.self, second_stopped c)
